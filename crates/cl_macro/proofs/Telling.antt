-- A spelling is one token of one kind.
use Rattle.std.proofs.Common.{◌≡◌, ℕ, false, List, length, Option, Some, None, refl, ap}
use Rattle.std.specs.Prelude.{MatchOption}
use Rattle.cl_base.specs.declared.token.Kind.{Kind}
use Rattle.cl_lex.specs.declared.item.ItemKind.TheVariants as item
use Rattle.cl_lex.specs.Items.{IsOneToken}
use Rattle.cl_lex.proofs.Unique.{same_item}
use Rattle.cl_macro.specs.Rules.{TellsTokens}

one_kind : (text : List ℕ) (k j : Kind) → IsOneToken text k → IsOneToken text j → k ≡ j
one_kind text k j a b = let s = same_item text false (item.Token k) (item.Token j) 0 (length text) (length text) a.3 b.3 in
    let e = s.kinds in cc

pub tells_some : (o : List ℕ → Option Kind) (text : List ℕ) (k : Kind) → TellsTokens o → IsOneToken text k → o text ≡ Some k
tells_some o text k t h = by_kind (o text) (t text)
  where
    by_kind : (r : Option Kind) → MatchOption r ((j : Kind) → IsOneToken text j → ⊥) (λ j. IsOneToken text j) → r ≡ Some k
    by_kind None n = absurd (n k h)
    by_kind (Some j) i = ap Some (one_kind text j k i h)

pub tells_none : (o : List ℕ → Option Kind) (text : List ℕ) → TellsTokens o → ((k : Kind) → IsOneToken text k → ⊥) → o text ≡ None
tells_none o text t h = by_kind (o text) (t text)
  where
    by_kind : (r : Option Kind) → MatchOption r ((j : Kind) → IsOneToken text j → ⊥) (λ j. IsOneToken text j) → r ≡ None
    by_kind None n = refl
    by_kind (Some j) i = absurd (h j i)
