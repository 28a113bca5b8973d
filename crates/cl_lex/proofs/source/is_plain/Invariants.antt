use Rattle.std.proofs.Common.{◌≡◌, ◌<◌, ◌≤◌, ◌-◌, ℕ, length, true}
use Rattle.cl_lex.specs.Plain.{is_plain_at}
use Rattle.cl_lex.proofs.source.is_plain.Given as goal

abbrev pub invariant-loop-at : goal.invariant-loop-at
invariant-loop-at l = record { within : l.at ≤ length l.text; plain : (i : ℕ) → i < l.at → is_plain_at l.text i ≡ true }

abbrev pub decreases-loop-at : goal.decreases-loop-at
decreases-loop-at l = length l.text - l.at
