use Rattle.cl_tree.specs.Sets.{has}
use Rattle.cl_parse.specs.code.Ahead.{AreTold}
use Rattle.cl_parse.proofs.ahead.retype_all.Given as goal

abbrev pub invariant-loop-place : goal.invariant-loop-place
invariant-loop-place l = AreTold (has l.names) l.to l.places l.place-index l.fn.tokens.items l.tokens.items
