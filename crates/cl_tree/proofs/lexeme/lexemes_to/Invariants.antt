use Rattle.std.proofs.Common.{◌≡◌, ◌+◌, ◌++◌, drop, length}
use Rattle.std.specs.Prelude.{slice_range}
use Rattle.cl_tree.specs.Lexemes.{lexemes_from, sort_at}
use Rattle.cl_tree.specs.Sets.{has}
use Rattle.cl_tree.proofs.lexeme.lexemes_to.Given as goal

abbrev pub invariant-loop-token : goal.invariant-loop-token
invariant-loop-token l = record {
  at : l.at ≡ length l.fn.read.items + l.token-index;
  sort : l.sort ≡ sort_at l.tokens l.at;
  all : l.all.items ++ lexemes_from (has l.typedefs) l.pairs l.tokens l.at (drop l.token-index (slice_range l.tokens (length l.fn.read.items) l.to))
      ≡ l.fn.read.items ++ lexemes_from (has l.typedefs) l.pairs l.tokens (length l.fn.read.items) (slice_range l.tokens (length l.fn.read.items) l.to);
}
