use Rattle.std.proofs.Common.{◌≡◌, length}
use Rattle.std.specs.List.{list_any}
use Rattle.cl_literals.specs.Strings.{body, characters, is_bad_escape}
use Rattle.cl_literals.proofs.strings.has_bad_escape.Given as goal

abbrev pub invariant-loop-rest : goal.invariant-loop-rest
invariant-loop-rest l = list_any (λ spelled. is_bad_escape l.unit spelled) (characters 0 (body l.text)) ≡ list_any (λ spelled. is_bad_escape l.unit spelled) (characters 0 l.rest)

abbrev pub decreases-loop-rest : goal.decreases-loop-rest
decreases-loop-rest l = length l.rest
