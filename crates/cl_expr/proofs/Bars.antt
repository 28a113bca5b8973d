-- The tokens that may not follow a production, or begin a nonterminal, as the code has them.
use Rattle.std.proofs.Common.{◌≡◌, ℕ, List, [], refl, sym, ◌∙◌, ap, subst}
use Rattle.std.specs.Prelude.{Some, None}
use Rattle.cl_tree.specs.declared.class.Class.{Class}
use Rattle.cl_tree.specs.declared.grammar.Terminal.{Terminal}
use Rattle.cl_tree.specs.declared.nonterminal.Nonterminal.{Nonterminal}
use Rattle.cl_tree.specs.declared.lexeme.Lexeme.{Lexeme}
use Rattle.cl_tree.specs.declared.scope.Scope.{Scope}
use Rattle.cl_tree.specs.Scopes.{class_at}
use Rattle.cl_tree.specs.Grammar.{takes, shuns}
use Rattle.cl_tree.specs.Derives.{Has, barred, Opened}
use Rattle.cl_expr.specs.code.Table.{bars, bar_of}
use Rattle.cl_expr.proofs.Checks.{none_not, some_is}

pub bars_are : (q : ℕ) → bars q ≡ barred (bar_of q)
unfolding bars bar_of
bars_are q = refl

none_has : {X : Type 0} (x : X) → Has [] x → ⊥
none_has x h = none_not h.1

pub no_bar : (q : ℕ) (k : Class) → bar_of q ≡ None → Has (bars q) k → ⊥
no_bar q k e h = none_has k (subst (λ (v : List Class). Has v k) (bars_are q ∙ ap barred e) h)

pub has_bar : (q : ℕ) (t : Terminal) (k : Class) → bar_of q ≡ Some t → Has (takes t) k → Has (bars q) k
has_bar q t k e h = subst (λ (v : List Class). Has v k) (sym (bars_are q ∙ ap barred e)) h

pub bar_has : (q : ℕ) (t : Terminal) (k : Class) → bar_of q ≡ Some t → Has (bars q) k → Has (takes t) k
bar_has q t k e h = subst (λ (v : List Class). Has v k) (bars_are q ∙ ap barred e) h

-- a nonterminal that shuns nothing begins anywhere
pub all_open : (cs : List Lexeme) (g : Nonterminal) (sa : Scope) (at : ℕ) → shuns g ≡ None → Opened cs g sa at
all_open cs g sa at e = λ k token has. none_has k (subst (λ (v : List Class). Has v k) (ap barred e) has)

-- and any where nothing stands
pub past_open : (cs : List Lexeme) (g : Nonterminal) (sa : Scope) (at : ℕ) → class_at cs sa at ≡ None → Opened cs g sa at
past_open cs g sa at past = λ k token has. none_not (sym past ∙ token)

module _ (cs : List Lexeme) (g : Nonterminal) (sa : Scope) (at : ℕ) (t : Terminal) (k : Class) (shun : shuns g ≡ Some t) (there : class_at cs sa at ≡ Some k) where
  pub not_open : Has (takes t) k → Opened cs g sa at → ⊥
  not_open has begun = begun k there (subst (λ (v : List Class). Has v k) (sym (ap barred shun)) has)

  pub is_open : (Has (takes t) k → ⊥) → Opened cs g sa at
  is_open not = λ c token has. (
      let same : c ≡ k = some_is (sym token ∙ there) in
      not (subst (Has (takes t)) same (subst (λ (v : List Class). Has v c) (ap barred shun) has)))
