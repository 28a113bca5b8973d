use Rattle.std.proofs.Common.{◌≡◌, ◌++◌, length}
use Rattle.cl_macro.specs.Strings.{spelled_on}
use Rattle.cl_macro.proofs.spell.push_words.Given as goal

abbrev pub invariant-loop-word : goal.invariant-loop-word
invariant-loop-word l = l.fn.text.items ++ spelled_on l.fn.words ≡ l.text.items ++ spelled_on l.rest

abbrev pub decreases-loop-word : goal.decreases-loop-word
decreases-loop-word l = length l.rest
