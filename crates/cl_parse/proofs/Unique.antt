-- A file has one list of items.
use Rattle.std.proofs.Common.{◌≡◌, ℕ, List, [], ◌∷◌, refl, sym, ◌∙◌, ap, subst, arith, length}
use Rattle.cl_base.specs.declared.token.PpToken.{PpToken}
use Rattle.cl_tree.specs.Brackets.{bad_extent}
use Rattle.cl_tree.specs.Derives.{External, end}
use Rattle.cl_tree.specs.Lexemes.{lexemes_to}
use Rattle.cl_tree.specs.Scopes.{empty}
use Rattle.cl_tree.specs.declared.lexeme.Lexeme.{Lexeme}
use Rattle.cl_tree.specs.declared.scope.Scope.{Scope}
use Rattle.cl_tree.specs.declared.tree.Tree.{Tree}
use Rattle.cl_parse.specs.declared.item.Item.{Item}
use Rattle.cl_parse.specs.declared.item.Item.TheVariants.{Proper, Bad}
use Rattle.cl_parse.specs.Items.{IsProper, ItemTiles, Names, learned}
use Rattle.cl_parse.proofs.OneExtent.{one_extent}

-- an external declaration has one tree and one scope after it
abbrev pub OneExternal : Type 0
OneExternal = (ts : List Lexeme) (s : Scope) (at : ℕ) (t u : Tree) (w x : Scope) → External ts s at t w → External ts s at u x → (t ≡ u) × (w ≡ x)

module _ (one : OneExternal) (tokens : List PpToken) (pairs : List ℕ) where
  one_proper : (names : Names) (read : List Lexeme) (t u : Tree) (w x : Scope) → IsProper tokens pairs names read t w → IsProper tokens pairs names read u x → (t ≡ u) × (w ≡ x)
  one_proper names read t u w x a b =
      let e : end u ≡ end t = one_extent tokens pairs (length read) (end u) (end t) b.extent a.extent in
      one (lexemes_to names pairs tokens read (end t)) empty (length read) t u w x a.derives (subst (λ (n : ℕ). External (lexemes_to names pairs tokens read n) empty (length read) u x) e b.derives)

  pub one_list : (names : Names) (read : List Lexeme) (xs ys : List Item) → ItemTiles tokens pairs names read xs → ItemTiles tokens pairs names read ys → xs ≡ ys
  one_list names read [] [] h k = refl
  one_list names read [] (Proper u ∷ ys) h k = absurd (omega (arith, h, k.0))
  one_list names read [] (Bad a b ∷ ys) h k = absurd (omega (arith, h, k.0))
  one_list names read (Proper t ∷ xs) [] h k = absurd (omega (arith, k, h.0))
  one_list names read (Bad a b ∷ xs) [] h k = absurd (omega (arith, k, h.0))
  one_list names read (Proper t ∷ xs) (Proper u ∷ ys) h k =
      let e = one_proper names read t u h.1 k.1 h.2 k.2 in
      let rest : ItemTiles tokens pairs (learned names (lexemes_to names pairs tokens read (end t)) h.1) (lexemes_to names pairs tokens read (end t)) ys =
      subst (λ (v : Scope). ItemTiles tokens pairs (learned names (lexemes_to names pairs tokens read (end t)) v) (lexemes_to names pairs tokens read (end t)) ys) (sym e.1)
      (subst (λ (v : Tree). ItemTiles tokens pairs (learned names (lexemes_to names pairs tokens read (end v)) k.1) (lexemes_to names pairs tokens read (end v)) ys) (sym e.0) k.3) in
      let more : xs ≡ ys = one_list (learned names (lexemes_to names pairs tokens read (end t)) h.1) (lexemes_to names pairs tokens read (end t)) xs ys h.3 rest in
      ap (λ (v : Tree). Proper v ∷ xs) e.0 ∙ ap (λ (zs : List Item). Proper u ∷ zs) more
  one_list names read (Proper t ∷ xs) (Bad a b ∷ ys) h k = absurd (k.1.none t h.1 h.2)
  one_list names read (Bad a b ∷ xs) (Proper u ∷ ys) h k = absurd (h.1.none u k.1 k.2)
  one_list names read (Bad a b ∷ xs) (Bad c d ∷ ys) h k =
      let e : a ≡ c = h.1.starts ∙ sym k.1.starts in
      let f : b ≡ d = h.1.ends ∙ ap (λ (n : ℕ). bad_extent tokens pairs n (length tokens)) e ∙ sym k.1.ends in
      let more : xs ≡ ys = one_list names (lexemes_to names pairs tokens read b) xs ys h.2 (subst (λ (n : ℕ). ItemTiles tokens pairs names (lexemes_to names pairs tokens read n) ys) (sym f) k.2) in
      ap (λ (n : ℕ). Bad n b ∷ xs) e ∙ ap (λ (n : ℕ). Bad c n ∷ xs) f ∙ ap (λ (zs : List Item). Bad c d ∷ zs) more
