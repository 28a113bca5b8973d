use Rattle.std.proofs.Common.{List, [], arith, sym, ◌∙◌, subst}
use Rattle.cl_tree.specs.declared.scope.Scope.{Scope}
use Rattle.cl_expr.proofs.Within.{class_within}
use Rattle.cl_tree.specs.declared.tree.Tree.{Tree}
use Rattle.cl_expr.specs.code.Parses.{Builds, Opens}
use Rattle.cl_expr.proofs.Climb.{ok_map, opens_past, opens_none, opens_by, half_start, start_unnamed}
use Rattle.cl_expr.proofs.reader.Grammar.opener.Goals as goal

pub returns-in_default : goal.returns-in_default
returns-in_default g c = opens_past c.args.self.now.tokens.now c.args.self.now.depth c.args.scope.now c.args.goal c.args.at (sym c.class_at.ensures ∙ c.in_default.is)

pub returns-in_default-opening : goal.returns-in_default-opening
returns-in_default-opening g c =
    opens_none c.args.self.now.tokens.now c.args.self.now.depth c.args.scope.now c.args.goal c.args.at c.in-Some.class (sym c.class_at.ensures ∙ c.in-Some.is)
    (λ s has n. c.opening.ensures.none c.in_default-opening.is s has n)

pub read-requires-clause-half : goal.read-requires-clause-half
read-requires-clause-half g c =
    let w = class_within c.args.self.now.tokens.now c.args.scope.now c.args.at c.in-Some.class (sym c.class_at.ensures ∙ c.in-Some.is) in
    rw (c.new.ensures, c.in_ok-inner.ensures)
    (half_start c.args.self.now.tokens.now c.args.self.now.depth c.args.scope.now c.args.goal c.args.at c.in-Some-opening.start c.in-Some-opening.ensures.some.0 (omega arith))

pub read-requires-clause-unnamed : goal.read-requires-clause-unnamed
read-requires-clause-unnamed g c =
    start_unnamed c.args.self.now.tokens.now c.args.self.now.depth c.args.scope.now c.args.goal c.args.at c.in-Some-opening.start c.in-Some-opening.ensures.some.0

pub returns : goal.returns
returns g c =
    ok_map (Builds c.args.self.now.tokens.now c.args.self.now.depth c.args.scope.now c.in_ok-inner.inner c.in-Some-opening.start c.new.result c.args.at c.args.at)
    (Opens c.args.self.now.tokens.now c.args.self.now.depth c.args.scope.now c.args.goal c.args.at) c.read.result
    (λ r b. opens_by c.args.self.now.tokens.now c.args.self.now.depth c.args.scope.now c.args.goal c.args.at c.in-Some.class c.in-Some-opening.start (sym c.class_at.ensures ∙ c.in-Some.is)
    c.in-Some-opening.ensures.some.0 c.in-Some-opening.ensures.some.1 r
    (subst (λ (v : Scope). Builds c.args.self.now.tokens.now c.args.self.now.depth c.args.scope.now v c.in-Some-opening.start [] c.args.at c.args.at r) c.in_ok-inner.ensures
    (subst (λ (v : List Tree). Builds c.args.self.now.tokens.now c.args.self.now.depth c.args.scope.now c.in_ok-inner.inner c.in-Some-opening.start v c.args.at c.args.at r) c.new.ensures b)))
    c.read.ensures
