-- A node that goes on with an `else` and a statement, or ends before a lost one.
use Rattle.std.proofs.Common.{◌≡◌, ℕ, ◌+◌, ◌≤◌, ◌<◌, List, [], ◌∷◌, ◌++◌, arith, refl, sym, ◌∙◌, ap, subst, max}
use Rattle.std.specs.Prelude.{Option, Some, None, slice_get}
use Rattle.cl_tree.specs.declared.class.Class.{Class}
use Rattle.cl_tree.specs.declared.class.Class.TheVariants as cl
use Rattle.cl_tree.specs.declared.nonterminal.Nonterminal.TheVariants as nt
use Rattle.cl_tree.specs.declared.grammar.Terminal.TheVariants as te
use Rattle.cl_tree.specs.declared.grammar.Act.TheVariants as ac
use Rattle.cl_tree.specs.declared.tree.Tree.{Tree}
use Rattle.cl_tree.specs.declared.lexeme.Lexeme.{Lexeme}
use Rattle.cl_tree.specs.declared.scope.Scope.{Scope}
use Rattle.cl_tree.specs.Scopes.{class_at, pass}
use Rattle.cl_tree.specs.Derives.{Has, start, end, leaf, Opened}
use Rattle.cl_expr.specs.declared.table.Edge.{Edge}
use Rattle.cl_expr.specs.declared.reader.Found.{Found}
use Rattle.cl_expr.specs.code.Table.{edges, bars, turn, after_else, past_else}
use Rattle.cl_expr.specs.code.Paths.{Lost, At}
use Rattle.cl_expr.specs.code.Parses.{Parses, Half, Ends, Stuck}
use Rattle.cl_expr.proofs.Checks.{none_not, some_is}
use Rattle.cl_expr.proofs.Conditions.{else_place, statement_stops}
use Rattle.cl_expr.proofs.Elses.{else_edge, statement_edge, else_has, statement_has, else_turn, else_named, nothing_past, none_barred, none_barred_past}
use Rattle.cl_expr.proofs.Dangling.{onward}
use Rattle.cl_expr.proofs.Heights.{first_class, tall_some, end_leaf}
use Rattle.cl_expr.proofs.Reading.{Reading, reading_start, reading_on, reading_ends, nothing_stuck, part_leaf, part_node}

module _ (cs : List Lexeme) (h : ℕ) (sa sm : Scope) (q : ℕ) (ps : List Tree) (from mid height : ℕ) (token : class_at cs sm mid ≡ Some cl.Else) (bar : Has (bars q) cl.Else) where
  -- no statement derives after it
  module _ (p : Parses cs h (pass cs sm ac.Close mid) nt.Statement (mid + 1) None) where
    pub lost_stuck : Stuck cs h sm q mid
    lost_stuck = λ to t rest z sv n path ended. (let o = onward cs h sm mid q to t rest z sv n bar path ended in p.only o.tree o.kind o.state o.is o.from (λ k token' has. statement_stops k has))

    pub lost_free : (k : Class) → class_at cs sm mid ≡ Some k → Has (bars q) k → Lost (At cs h) cs k sm mid
    lost_free k token' bar' = (some_is (sym token' ∙ token), λ t z v a e. p.only t z v a e (λ k token' has. statement_stops k has))

  -- one does
  module _ (half : Half cs h sa sm q ps from mid height) (f : Found) (p : Parses cs h (pass cs sm ac.Close mid) nt.Statement (mid + 1) (Some f)) where
    is : At cs h nt.Statement f.place (pass cs sm ac.Close mid) f.tree f.scope
    is = (let o = p.found in (o.1, o.0.kind, subst (λ (i : ℕ). Opened cs nt.Statement (pass cs sm ac.Close mid) i) (sym o.2) o.3))

    some : 1 ≤ f.height
    some = tall_some f.height f.tree p.found.0.tall

    past_leaf : Reading cs h sa sm q ps from mid (pass cs sm ac.Close mid) after_else (ps ++ leaf mid ∷ []) (mid + 1) (max height 1)
    past_leaf =
        let high : f.height ≤ h = p.found.0.high in
        let least : 1 ≤ f.height = some in
        subst (λ (i : ℕ). Reading cs h sa sm q ps from mid (pass cs sm ac.Close mid) after_else (ps ++ leaf mid ∷ []) i (max height 1)) (end_leaf mid)
        (reading_on cs h sa sm q ps from mid sm q ps mid height (reading_start cs h sa sm q ps from mid height half) else_edge cl.Else (else_has q (else_place q bar)) token (0, refl)
        (λ b lost. lost.1 f.tree f.place f.scope is p.found.2) (record { tree = leaf mid; place = 0; scope = pass cs sm ac.Close mid; height = 1 })
        (part_leaf cs h sm (te.Is cl.Else) ac.Close cl.Else mid token (0, refl) (omega arith)) after_else (sym (else_turn 0)) (max height 1) refl)

    past_statement : (end' m : ℕ) → end' ≡ turn past_else f.place → m ≡ max height f.height → Reading cs h sa sm q ps from mid f.scope end' ((ps ++ leaf mid ∷ []) ++ f.tree ∷ []) (end f.tree) m
    past_statement end' m place larger =
        let first = first_class cs h nt.Statement f.place (pass cs sm ac.Close mid) f.tree f.scope is in
        let least : 1 ≤ f.height = some in
        reading_on cs h sa sm q ps from mid (pass cs sm ac.Close mid) after_else (ps ++ leaf mid ∷ []) (mid + 1) (max height 1) past_leaf statement_edge first.class statement_has
        (subst (λ (i : ℕ). class_at cs (pass cs sm ac.Close mid) i ≡ Some first.class) p.found.2 first.token) first.begins (λ b lost. none_barred first.class b)
        f (part_node cs h (pass cs sm ac.Close mid) nt.Statement (mid + 1) (Some f) p) end' place m (omega arith)

    module _ (end' m : ℕ) (place : end' ≡ turn past_else f.place) (larger : m ≡ max height f.height) where
      pub else_half : Half cs h sa f.scope end' ((ps ++ leaf mid ∷ []) ++ f.tree ∷ []) from (end f.tree) m
      else_half = (past_statement end' m place larger).half

      pub else_stuck : Stuck cs h f.scope end' (end f.tree)
      else_stuck = nothing_stuck cs h f.scope end' (end f.tree) (λ k token' enters.
          none_not (subst (λ (es : List Edge). slice_get es enters.1.0 ≡ Some enters.0) (ap edges place ∙ nothing_past f.place) enters.1.1))

      pub else_free : (k : Class) → class_at cs f.scope (end f.tree) ≡ Some k → Has (bars end') k → Lost (At cs h) cs k f.scope (end f.tree)
      else_free k token' bar' = absurd (none_barred_past f.place k (subst (λ (v : ℕ). Has (bars v) k) place bar'))

      pub else_ends : (o : Option Found) → Ends cs h sa f.scope end' ((ps ++ leaf mid ∷ []) ++ f.tree ∷ []) from (end f.tree) o → Ends cs h sa sm q ps from mid o
      else_ends o e = reading_ends cs h sa sm q ps from mid f.scope end' ((ps ++ leaf mid ∷ []) ++ f.tree ∷ []) (end f.tree) m (past_statement end' m place larger) (else_named q (else_place q bar)) o e

    pub past_mid : mid < end f.tree
    past_mid = (let g : start f.tree < end f.tree = p.found.0.grows in let s : start f.tree ≡ mid + 1 = p.found.2 in omega arith)
