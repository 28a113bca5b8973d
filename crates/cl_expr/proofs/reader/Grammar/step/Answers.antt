use Rattle.std.proofs.Common.{List, arith, sym, ◌∙◌, subst}
use Rattle.cl_tree.specs.declared.tree.Tree.{Tree}
use Rattle.cl_tree.specs.Derives.{start, end}
use Rattle.cl_expr.specs.code.Parses.{Builds, Steps}
use Rattle.cl_expr.proofs.Climb.{ok_map, steps_high, half_step, step_unnamed, steps_by, takes_of}
use Rattle.cl_expr.proofs.reader.Grammar.step.Goals as goal

pub returns-then-left-self : goal.returns-then-left-self
returns-then-left-self g c = steps_high c.args.self.now.tokens.now c.args.self.now.depth c.args.before.now c.args.start c.args.left c.requires.left (omega arith)

pub read-requires-clause-half : goal.read-requires-clause-half
read-requires-clause-half g c =
    let is = sym c.corner.ensures ∙ c.in-Some.is in
    rw c.in_ok-parts.ensures
    (half_step c.args.self.now.tokens.now c.args.self.now.depth c.args.before.now c.args.start c.args.left c.requires.left c.in-Some.head is c.requires.start
    (takes_of c.args.self.now.tokens.now c.args.left.scope c.args.start c.args.left.place _ c.in-Some.head c.requires.goes_on is) (omega arith))

pub read-requires-clause-unnamed : goal.read-requires-clause-unnamed
read-requires-clause-unnamed g c =
    let is = sym c.corner.ensures ∙ c.in-Some.is in
    step_unnamed c.args.self.now.tokens.now c.args.self.now.depth c.args.before.now c.args.start c.args.left c.requires.left c.in-Some.head is c.requires.start
    (takes_of c.args.self.now.tokens.now c.args.left.scope c.args.start c.args.left.place _ c.in-Some.head c.requires.goes_on is)

pub returns : goal.returns
returns g c =
    let is = sym c.corner.ensures ∙ c.in-Some.is in
    ok_map (Builds c.args.self.now.tokens.now c.args.self.now.depth c.args.before.now c.args.left.scope c.in-Some.head.next c.in_ok-parts.parts (start c.args.left.tree) (end c.args.left.tree))
    (Steps c.args.self.now.tokens.now c.args.self.now.depth c.args.before.now c.args.start c.args.left) c.read.result
    (λ r b. steps_by c.args.self.now.tokens.now c.args.self.now.depth c.args.before.now c.args.start c.args.left c.requires.left c.in-Some.head is c.requires.start
    (takes_of c.args.self.now.tokens.now c.args.left.scope c.args.start c.args.left.place _ c.in-Some.head c.requires.goes_on is) r
    (subst (λ (v : List Tree). Builds c.args.self.now.tokens.now c.args.self.now.depth c.args.before.now c.args.left.scope c.in-Some.head.next v (start c.args.left.tree) (end c.args.left.tree) r) c.in_ok-parts.ensures b))
    c.read.ensures
