-- Which spellings are one token can be told: the first item that a spelling is cut into is the whole of it, or not.
use Rattle.std.proofs.Common.{◌≡◌, ◌⊎◌, ℕ, ◌<◌, false, List, [], ◌∷◌, arith, inl, inr, length, Option, Some, None, refl, subst}
use Rattle.std.specs.Prelude.{MatchOption}
use Rattle.cl_base.specs.declared.token.Kind.{Kind}
use Rattle.cl_lex.specs.declared.item.ItemKind.{ItemKind}
use Rattle.cl_lex.specs.declared.item.ItemKind.TheVariants as item
use Rattle.cl_lex.specs.Items.{IsItem, IsOneToken}
use Rattle.cl_lex.proofs.Exists.{Next, next}
use Rattle.cl_lex.proofs.Unique.{same_item}
use Rattle.cl_macro.specs.Rules.{TellsTokens}

-- of one spelling
abbrev Tells : List ℕ → Option Kind → Type 0
Tells text r = MatchOption r ((k : Kind) → IsOneToken text k → ⊥) (λ k. IsOneToken text k)

module _ (text : List ℕ) where
  -- the whole is an item of this kind
  by_kind : (what : ItemKind) → 0 < length text → IsItem text false what 0 (length text) → (r : Option Kind) × Tells text r
  by_kind (item.Token k) l is = (Some k, (refl, l, omega arith, is, refl))
  by_kind item.Comment l is = (None, λ k one. (let e = (same_item text false item.Comment (item.Token k) 0 (length text) (length text) is one.3).kinds in cc))
  by_kind item.OpenComment l is = (None, λ k one. (let e = (same_item text false item.OpenComment (item.Token k) 0 (length text) (length text) is one.3).kinds in cc))
  by_kind item.Space l is = (None, λ k one. (let e = (same_item text false item.Space (item.Token k) 0 (length text) (length text) is one.3).kinds in cc))
  by_kind item.NewLine l is = (None, λ k one. (let e = (same_item text false item.NewLine (item.Token k) 0 (length text) (length text) is one.3).kinds in cc))

  by_end : 0 < length text → (it : Next text false 0) → (it.to < length text) ⊎ (it.to ≡ length text) → (r : Option Kind) × Tells text r
  by_end l it (inr e) = by_kind it.what l (subst (λ (to : ℕ). IsItem text false it.what 0 to) e it.is)
  by_end l it (inl n) = (None, λ k one. (let e = (same_item text false it.what (item.Token k) 0 it.to (length text) it.is one.3).ends in omega arith))

  end : (it : Next text false 0) → (it.to < length text) ⊎ (it.to ≡ length text)
  end it = let within = it.within in grind arith

  by_first : 0 < length text → Next text false 0 → (r : Option Kind) × Tells text r
  by_first l it = by_end l it (end it)

one_teller : (text : List ℕ) → (r : Option Kind) × Tells text r
one_teller [] = (None, λ k one. omega (arith, one.1))
one_teller (c ∷ cs) = let l : 0 < length (c ∷ cs) = omega arith in by_first (c ∷ cs) l (next (c ∷ cs) false 0 l)

pub some_teller : (one_token : List ℕ → Option Kind) × TellsTokens one_token
some_teller = (λ text. (one_teller text).0, λ text. (one_teller text).1)
