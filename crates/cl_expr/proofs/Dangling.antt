-- Where a node goes on at an `else`, a statement stands after it.
use Rattle.std.proofs.Common.{◌≡◌, ℕ, ◌+◌, List, [], ◌∷◌, sym, ◌∙◌, ap, subst}
use Rattle.std.specs.Prelude.{None}
use Rattle.cl_tree.specs.declared.class.Class.TheVariants as cl
use Rattle.cl_tree.specs.declared.nonterminal.Nonterminal.TheVariants as nt
use Rattle.cl_tree.specs.declared.grammar.Terminal.TheVariants as te
use Rattle.cl_tree.specs.declared.grammar.Act.TheVariants as ac
use Rattle.cl_tree.specs.declared.grammar.Symbol.TheVariants.{Token, Node}
use Rattle.cl_tree.specs.declared.tree.Tree.{Tree}
use Rattle.cl_tree.specs.declared.lexeme.Lexeme.{Lexeme}
use Rattle.cl_tree.specs.declared.scope.Scope.{Scope}
use Rattle.cl_tree.specs.Scopes.{pass}
use Rattle.cl_tree.specs.Derives.{Has, start, end}
use Rattle.cl_expr.specs.declared.table.Edge.{Edge}
use Rattle.cl_expr.specs.declared.table.Label.{Label}
use Rattle.cl_expr.specs.code.Table.{bars, edges, name_of, turn, after_else}
use Rattle.cl_expr.specs.code.Paths.{Ended, Lost, ReadsAfter, Path, At}
use Rattle.cl_expr.proofs.Checks.{none_not}
use Rattle.cl_expr.proofs.Conditions.{else_place}
use Rattle.cl_expr.proofs.Elses.{else_edge, statement_edge, else_first, statement_first, else_unnamed, else_turn}
use Rattle.cl_expr.proofs.Heights.{end_leaf}

-- a statement after an `else`
pub record Onward (cs : List Lexeme) (h : ℕ) (sm : Scope) (mid : ℕ) : Type 0 where
  pub tree : Tree
  pub kind : ℕ
  pub state : Scope
  pub is : At cs h nt.Statement kind (pass cs sm ac.Close mid) tree state
  pub from : start tree ≡ mid + 1

module _ (cs : List Lexeme) (h : ℕ) (sm : Scope) (mid : ℕ) where
  past : (q : ℕ) (sx : Scope) (at to : ℕ) (rest : List Tree) (z : ℕ) (sv : Scope) (n : Label) → q ≡ after_else → at ≡ mid + 1 → sx ≡ pass cs sm ac.Close mid
      → Path (At cs h) h cs q sx at to rest z sv → Ended (At cs h) cs sv z to n → Onward cs h sm mid
  past q sx at to [] z sv n is from state p e = absurd (none_not (sym else_unnamed ∙ ap name_of (sym is ∙ p.1) ∙ e.0))
  past q sx at to (t ∷ rest) z sv n is from state p e =
      let same : p.0 ≡ statement_edge = statement_first p.0 (subst (λ (v : ℕ). Has (edges v) p.0) is p.3) in
      let reads : ReadsAfter (At cs h) h cs None (Node nt.Statement) p.1 sx at t p.2 = subst (λ (d : Edge). ReadsAfter (At cs h) h cs d.before d.symbol p.1 sx at t p.2) same p.4 in
      record { tree = t; kind = p.1; state = p.2; is = subst (λ (v : Scope). At cs h nt.Statement p.1 v t p.2) state reads.0; from = reads.1 ∙ from }

  -- a node that goes on where an `else` is barred
  pub onward : (q to : ℕ) (t : Tree) (rest : List Tree) (z : ℕ) (sv : Scope) (n : Label) → Has (bars q) cl.Else → Path (At cs h) h cs q sm mid to (t ∷ rest) z sv → Ended (At cs h) cs sv z to n → Onward cs h sm mid
  onward q to t rest z sv n bar p e =
      let same : p.0 ≡ else_edge = else_first q p.0 (else_place q bar) p.3 in
      let reads : ReadsAfter (At cs h) h cs None (Token (te.Is cl.Else) ac.Close) p.1 sm mid t p.2 = subst (λ (d : Edge). ReadsAfter (At cs h) h cs d.before d.symbol p.1 sm mid t p.2) same p.4 in
      past (turn p.0.next p.1) p.2 (end t) to rest z sv n (ap (λ (d : Edge). turn d.next p.1) same ∙ else_turn p.1) (ap end reads.2 ∙ end_leaf mid) reads.4 p.5 e

  -- a lost `else` stops it
  pub lost_stops : (q to : ℕ) (t : Tree) (rest : List Tree) (z : ℕ) (sv : Scope) (n : Label) → Has (bars q) cl.Else → Lost (At cs h) cs cl.Else sm mid
      → Path (At cs h) h cs q sm mid to (t ∷ rest) z sv → Ended (At cs h) cs sv z to n → ⊥
  lost_stops q to t rest z sv n bar lost p e = (let o = onward q to t rest z sv n bar p e in lost.1 o.tree o.kind o.state o.is o.from)
