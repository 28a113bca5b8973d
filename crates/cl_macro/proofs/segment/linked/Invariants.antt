use Rattle.std.proofs.Common.{◌≡◌, ◌++◌, length, map, reverse}
use Rattle.cl_macro.specs.Words.{taken}
use Rattle.cl_macro.specs.code.Segments.{Linked, slot_word}
use Rattle.cl_macro.proofs.segment.linked.Given as goal

abbrev pub invariant-loop-word : goal.invariant-loop-word
invariant-loop-word l = Linked (reverse l.slots) × (map taken l.fn.words ≡ map taken l.words ++ map slot_word (reverse l.slots))

abbrev pub decreases-loop-word : goal.decreases-loop-word
decreases-loop-word l = length l.words
