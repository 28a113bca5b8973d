use Rattle.std.proofs.Common.{ℕ, ◌-◌, List, arith, sym, subst}
use Rattle.std.specs.Prelude.{None, Some}
use Rattle.cl_tree.specs.Derives.{Has}
use Rattle.cl_expr.specs.code.Parses.{Parses}
use Rattle.cl_expr.proofs.Climb.{nothing_flat, parses_shunned, nothing_opens, parses_none, parses_other, parses_some, deeper}
use Rattle.cl_expr.proofs.reader.+tree_at.Goals as goal

pub returns-then-depth-eq0 : goal.returns-then-depth-eq0
returns-then-depth-eq0 t c = rw c.if-depth-eq0.true (nothing_flat c.args.tokens.now c.args.scope.now c.args.goal c.args.at)

pub returns-then-shunned : goal.returns-then-shunned
returns-then-shunned t c = parses_shunned c.args.tokens.now c.args.depth c.args.scope.now c.args.goal c.args.at (c.is_shunned-shunned.ensures.yes c.if-shunned.true)

pub returns-in_default : goal.returns-in_default
returns-in_default t c =
    deeper (λ d. Parses c.args.tokens.now d c.args.scope.now c.args.goal c.args.at None) c.args.depth (omega arith)
    (nothing_opens c.args.tokens.now (c.args.depth - 1) c.args.scope.now c.args.goal c.args.at (rw c.in_default.is at c.in_ok-first.ensures))

pub returns-in_default-2 : goal.returns-in_default-2
returns-in_default-2 t c =
    deeper (λ d. Parses c.args.tokens.now d c.args.scope.now c.args.goal c.args.at None) c.args.depth (omega arith)
    (parses_none c.args.tokens.now (c.args.depth - 1) c.args.scope.now c.args.goal c.args.at c.in-Some.first (rw c.in-Some.is at c.in_ok-first.ensures)
    (rw c.in_default-2.is at c.in_ok-last.ensures))

pub climb-requires-clause-first : goal.climb-requires-clause-first
climb-requires-clause-first t c = (let o = (rw c.in-Some.is at c.in_ok-first.ensures) in let f = o.found in f.0)

pub returns-then-fits : goal.returns-then-fits
returns-then-fits t c =
    deeper (λ d. Parses c.args.tokens.now d c.args.scope.now c.args.goal c.args.at (Some c.in-Some-2.last)) c.args.depth (omega arith)
    (parses_some c.args.tokens.now (c.args.depth - 1) c.args.scope.now c.args.goal c.args.at c.in-Some.first (rw c.in-Some.is at c.in_ok-first.ensures) c.in-Some-2.last
    (rw c.in-Some-2.is at c.in_ok-last.ensures)
    (subst (λ (v : List ℕ). Has v c.in-Some-2.last.place) c.kinds.ensures (c.has_place-fits.ensures.yes c.if-fits.true)) (c.is_shunned-shunned.ensures.no c.if-shunned.false))

pub returns-else-fits : goal.returns-else-fits
returns-else-fits t c =
    deeper (λ d. Parses c.args.tokens.now d c.args.scope.now c.args.goal c.args.at None) c.args.depth (omega arith)
    (parses_other c.args.tokens.now (c.args.depth - 1) c.args.scope.now c.args.goal c.args.at c.in-Some.first (rw c.in-Some.is at c.in_ok-first.ensures) c.in-Some-2.last
    (rw c.in-Some-2.is at c.in_ok-last.ensures)
    (λ h. c.has_place-fits.ensures.no c.if-fits.false (subst (λ (v : List ℕ). Has v c.in-Some-2.last.place) (sym c.kinds.ensures) h)))
