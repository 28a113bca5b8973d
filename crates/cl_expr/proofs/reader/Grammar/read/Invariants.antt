use Rattle.std.proofs.Common.{◌-◌, ◌<◌, length}
use Rattle.std.specs.Prelude.{None}
use Rattle.cl_tree.specs.declared.nonterminal.Nonterminal.TheVariants as nt
use Rattle.cl_expr.specs.code.Parses.{Parses}
use Rattle.cl_expr.proofs.Reading.{Reading}
use Rattle.cl_expr.proofs.reader.Grammar.read.Given as goal

abbrev pub invariant-loop-edge : goal.invariant-loop-edge
invariant-loop-edge g l = record {
  reading : Reading l.self.tokens.now l.self.depth l.before l.fn.inner l.fn.start l.fn.first l.from l.fn.mid l.scope l.place l.parts l.to l.height;
  failed : l.failed < l.to → Parses l.self.tokens.now l.self.depth l.scope nt.BlockItem l.failed None;
}

abbrev pub decreases-loop-edge : goal.decreases-loop-edge
decreases-loop-edge g l = length l.self.tokens.now - l.to
