-- A text is cut into items in one way.
use Rattle.std.proofs.Common.{◌≡◌, ◌≢◌, ◌⊎◌, ℕ, zero, suc, ◌+◌, ◌-◌, ◌<◌, ◌≤◌, List, [], ◌∷◌, Bool, true, false, arith, inl, inr, refl, sym, ap, ◌∙◌, subst, slice_index}
use Rattle.std.proofs.lemmas.Bool.{false≢true}
use Rattle.std.proofs.lemmas.Bool.Decides.{nat_tests}
use Rattle.cl_base.specs.declared.token.Kind.TheVariants as kind
use Rattle.cl_lex.specs.declared.item.Item.{Item}
use Rattle.cl_lex.specs.declared.item.ItemKind.{ItemKind}
use Rattle.cl_lex.specs.declared.item.ItemKind.TheVariants as item
use Rattle.cl_base.specs.declared.token.Lexed.{Lexed}
use Rattle.cl_lex.specs.Source.{characters, values}
use Rattle.cl_lex.specs.Lexing.{Lexes, faults_of, tokens_of}
use Rattle.cl_lex.specs.Bytes.{is_name_byte}
use Rattle.cl_lex.specs.Spelling.{IsBlockComment, IsChar, IsHeader, IsIdent, IsLineComment, IsNumber, IsOpenComment, IsStr, char_prefix, str_prefix}
use Rattle.cl_lex.specs.Punctuators.{is_punctuator, is_punctuator_2, is_punctuator_3}
use Rattle.cl_lex.specs.Items.{IsAlone, IsItem, IsLoneQuote, IsLongest, IsStray, Spells, Tiles, takes_header}
use Rattle.cl_lex.proofs.Classes.{class, fits, may, punct_four, str_prefix_is}

order : (x y : ℕ) → (x < y) ⊎ ((y < x) ⊎ (x ≡ y))
order x y = grind arith

module _ (cs : List ℕ) (from to : ℕ) where
  -- ---- what begins alike is no item of two kinds

  no_name : (i c : ℕ) → IsIdent cs from to → from ≤ i → i < to → slice_index cs i ≡ c → is_name_byte c ≡ false → ⊥
  no_name i c s low high e f = false≢true (sym f ∙ subst (λ (x : ℕ). is_name_byte x ≡ true) e (s.2 i low high))

  ident_char : IsIdent cs from to → IsChar cs from to → ⊥
  ident_char s t = no_name (from + char_prefix cs from) 39 s (omega arith) (omega (arith, t.1)) t.0 refl

  ident_str : IsIdent cs from to → IsStr cs from to → ⊥
  ident_str s t = no_name (from + str_prefix cs from) 34 s (omega arith) (omega (arith, t.1)) t.0 refl

  char_str : IsChar cs from to → IsStr cs from to → ⊥
  char_str s t = let prefix = str_prefix_is cs from in grind (arith, s.0, t.0)

  -- a punctuator by its length
  punct_by : (n : ℕ) → is_punctuator cs from n ≡ true
      → (n ≡ 1) ⊎ (((n ≡ 2) × (is_punctuator_2 (slice_index cs from) (slice_index cs (from + 1)) ≡ true))
      ⊎ (((n ≡ 3) × (is_punctuator_3 (slice_index cs from) (slice_index cs (from + 1)) (slice_index cs (from + 2)) ≡ true))
      ⊎ ((n ≡ 4) × (slice_index cs from ≡ 37))))
  punct_by zero e = absurd (false≢true e)
  punct_by (suc zero) e = inl refl
  punct_by (suc (suc zero)) e = inr (inl (refl, e))
  punct_by (suc (suc (suc zero))) e = inr (inr (inl (refl, e)))
  punct_by (suc (suc (suc (suc zero)))) e =
      inr (inr (inr (refl, punct_four (slice_index cs from) (slice_index cs (from + 1)) (slice_index cs (from + 2)) (slice_index cs (from + 3)) e)))
  punct_by (suc (suc (suc (suc (suc n))))) e = absurd (false≢true e)

  abbrev Punct : Type 0
  Punct = is_punctuator cs from (to - from) ≡ true

  number_punct : IsNumber cs from to → Punct → ⊥
  number_punct s t = let by = punct_by (to - from) t in grind (arith, nat_tests, s.0, s.1)

  comment_open : IsBlockComment cs from to ⊎ IsLineComment cs from to → IsOpenComment cs from to → ⊥
  comment_open (inl s) t =
      let step : to - 2 + 1 ≡ to - 1 = omega (arith, s.0) in
      let last : slice_index cs (to - 2 + 1) ≡ 47 = rw step s.4 in t.4 (to - 2) (omega (arith, s.0)) (omega (arith, s.0)) s.3 last
  comment_open (inr s) t = omega (arith, s.2, t.3)

  slash_punct : from + 2 ≤ to → slice_index cs from ≡ 47 → slice_index cs (from + 1) ≢ 61 → Punct → ⊥
  slash_punct some first second t = let by = punct_by (to - from) t in grind (arith, nat_tests)

  comment_punct : IsBlockComment cs from to ⊎ IsLineComment cs from to → Punct → ⊥
  comment_punct (inl s) t = slash_punct (omega (arith, s.0)) s.1 (λ e. omega (arith, s.2, e)) t
  comment_punct (inr s) t = slash_punct (omega (arith, s.0)) s.1 (λ e. omega (arith, s.2, e)) t

  open_punct : IsOpenComment cs from to → Punct → ⊥
  open_punct s t = slash_punct (omega (arith, s.0)) s.2 (λ e. omega (arith, s.3, e)) t

  header_punct : IsHeader cs from to → Punct → ⊥
  header_punct (inl s) t =
      let by = punct_by (to - from) t in
      let last : (to - from ≡ 3) → slice_index cs (from + 2) ≡ 62 = λ e. (let at : from + 2 ≡ to - 1 = omega arith in rw at s.3) in
      grind (arith, nat_tests, s.0, s.2, last)
  header_punct (inr s) t =
      let by = punct_by (to - from) t in
      grind (arith, nat_tests, s.0, s.2)

module _ (cs : List ℕ) (header : Bool) (from to : ℕ) where
  -- no two kinds at one place
  same_kind : (k j : ItemKind) → Spells cs header k from to → Spells cs header j from to → k ≡ j
  same_kind (item.Token kind.Ident) (item.Token kind.Ident) s t = refl
  same_kind (item.Token kind.Ident) (item.Token kind.Char) s t = absurd (ident_char cs from to s t)
  same_kind (item.Token kind.Ident) (item.Token kind.Str) s t = absurd (ident_str cs from to s t.0)
  same_kind (item.Token kind.Number) (item.Token kind.Number) s t = refl
  same_kind (item.Token kind.Number) (item.Token kind.Punct) s t = absurd (number_punct cs from to s t)
  same_kind (item.Token kind.Char) (item.Token kind.Ident) s t = absurd (ident_char cs from to t s)
  same_kind (item.Token kind.Char) (item.Token kind.Char) s t = refl
  same_kind (item.Token kind.Char) (item.Token kind.Str) s t = absurd (char_str cs from to s t.0)
  same_kind (item.Token kind.Str) (item.Token kind.Ident) s t = absurd (ident_str cs from to t s.0)
  same_kind (item.Token kind.Str) (item.Token kind.Char) s t = absurd (char_str cs from to t s.0)
  same_kind (item.Token kind.Str) (item.Token kind.Str) s t = refl
  same_kind (item.Token kind.Str) (item.Token kind.Header) s t = absurd (s.1 t.0 t.1)
  same_kind (item.Token kind.Header) (item.Token kind.Str) s t = absurd (t.1 s.0 s.1)
  same_kind (item.Token kind.Header) (item.Token kind.Header) s t = refl
  same_kind (item.Token kind.Header) (item.Token kind.Punct) s t = absurd (header_punct cs from to s.1 t)
  same_kind (item.Token kind.Punct) (item.Token kind.Number) s t = absurd (number_punct cs from to t s)
  same_kind (item.Token kind.Punct) (item.Token kind.Header) s t = absurd (header_punct cs from to t.1 s)
  same_kind (item.Token kind.Punct) (item.Token kind.Punct) s t = refl
  same_kind (item.Token kind.Punct) item.Comment s t = absurd (comment_punct cs from to t s)
  same_kind (item.Token kind.Punct) item.OpenComment s t = absurd (open_punct cs from to t s)
  same_kind (item.Token kind.Other) j s t = absurd s
  same_kind item.Comment (item.Token kind.Punct) s t = absurd (comment_punct cs from to s t)
  same_kind item.Comment item.Comment s t = refl
  same_kind item.Comment item.OpenComment s t = absurd (comment_open cs from to s t)
  same_kind item.OpenComment (item.Token kind.Punct) s t = absurd (open_punct cs from to s t)
  same_kind item.OpenComment item.Comment s t = absurd (comment_open cs from to t s)
  same_kind item.OpenComment item.OpenComment s t = refl
  same_kind item.Space item.Space s t = refl
  same_kind item.NewLine item.NewLine s t = refl
  same_kind k j s t = absurd (unlike (class (slice_index cs from)) (fits cs header k from to s) (fits cs header j from to t))
    where
      unlike : (n : ℕ) → may k n ≡ true → may j n ≡ true → ⊥
      unlike n p q = grind (arith, nat_tests)

  -- an item is the longest one, or there is none and it is an Other token
  record Other (what : ItemKind) : Type 0 where
    is : what ≡ item.Token kind.Other
    stray : IsStray cs header from
    ends : IsLoneQuote cs from to ⊎ IsAlone cs from to

  either : (what : ItemKind) → IsItem cs header what from to → IsLongest cs header what from to ⊎ Other what
  either (item.Token kind.Other) p = inr (record { is = refl; stray = p.0; ends = p.1 })
  either (item.Token kind.Ident) p = inl p
  either (item.Token kind.Number) p = inl p
  either (item.Token kind.Char) p = inl p
  either (item.Token kind.Str) p = inl p
  either (item.Token kind.Header) p = inl p
  either (item.Token kind.Punct) p = inl p
  either item.Comment p = inl p
  either item.OpenComment p = inl p
  either item.Space p = inl p
  either item.NewLine p = inl p

lone_end : (cs : List ℕ) (from a b : ℕ) → IsLoneQuote cs from a → IsLoneQuote cs from b → a < b → ⊥
lone_end cs from a b p q l = q.one_line a (omega (arith, p.some)) l (p.ends (omega (arith, q.within)))

stray_end : (cs : List ℕ) (from a b : ℕ) → IsLoneQuote cs from a ⊎ IsAlone cs from a → IsLoneQuote cs from b ⊎ IsAlone cs from b → a ≡ b
stray_end cs from a b (inl p) (inl q) = go (order a b)
  where
    go : (a < b) ⊎ ((b < a) ⊎ (a ≡ b)) → a ≡ b
    go (inl l) = absurd (lone_end cs from a b p q l)
    go (inr (inl l)) = absurd (lone_end cs from b a q p l)
    go (inr (inr e)) = e
stray_end cs from a b (inl p) (inr q) = absurd (false≢true (sym q.0 ∙ p.quote))
stray_end cs from a b (inr p) (inl q) = absurd (false≢true (sym p.0 ∙ q.quote))
stray_end cs from a b (inr p) (inr q) = p.1 ∙ sym q.1

-- the item at a place is of one kind and ends at one place
pub record Same (k j : ItemKind) (a b : ℕ) : Type 0 where
  pub kinds : k ≡ j
  pub ends : a ≡ b

same_longest : (cs : List ℕ) (header : Bool) (k j : ItemKind) (from a b : ℕ) → IsLongest cs header k from a → IsLongest cs header j from b → Same k j a b
same_longest cs header k j from a b p q = record {
  kinds = same_kind cs header from a k j p.spells (subst (λ (m : ℕ). Spells cs header j from m) (sym end) q.spells);
  ends = end;
}
  where
    go : (a < b) ⊎ ((b < a) ⊎ (a ≡ b)) → a ≡ b
    go (inl l) = absurd (p.longest j b l q.within q.spells)
    go (inr (inl l)) = absurd (q.longest k a l p.within p.spells)
    go (inr (inr e)) = e

    end : a ≡ b
    end = go (order a b)

pub same_item : (cs : List ℕ) (header : Bool) (k j : ItemKind) (from a b : ℕ) → IsItem cs header k from a → IsItem cs header j from b → Same k j a b
same_item cs header k j from a b p q = go (either cs header from a k p) (either cs header from b j q)
  where
    go : IsLongest cs header k from a ⊎ Other cs header from a k → IsLongest cs header j from b ⊎ Other cs header from b j → Same k j a b
    go (inl s) (inl t) = same_longest cs header k j from a b s t
    go (inl s) (inr t) = absurd (t.stray k a s.within s.spells)
    go (inr s) (inl t) = absurd (s.stray j b t.within t.spells)
    go (inr s) (inr t) = record { kinds = s.is ∙ sym t.is; ends = stray_end cs from a b s.ends t.ends }

pub one_tiling : (cs : List ℕ) (before : List Item) (at : ℕ) (xs ys : List Item) → Tiles cs before at xs → Tiles cs before at ys → xs ≡ ys
one_tiling cs before at [] [] a b = refl
one_tiling cs before at [] (y ∷ ys) a b = absurd (omega (arith, a, b.1, b.2))
one_tiling cs before at (x ∷ xs) [] a b = absurd (omega (arith, a.1, a.2, b))
one_tiling cs before at (x ∷ xs) (y ∷ ys) a b =
    let same = same_item cs (takes_header cs before) x.kind y.kind at x.to y.to a.3 b.3 in
    let first : x ≡ y = λ i. record { kind = same.kinds i; from = (a.0 ∙ sym b.0) i; to = same.ends i } in
    let rest : xs ≡ ys = one_tiling cs (x ∷ before) x.to xs ys a.4 (subst (λ (it : Item). Tiles cs (it ∷ before) it.to ys) (sym first) b.4) in
    λ i. first i ∷ rest i

-- the tokens and the faults are those of the items, of which there is one list
pub one_lexed : (text : List ℕ) (x y : Lexed) → Lexes text x → Lexes text y → x ≡ y
one_lexed text x y a b =
    let items : a.items ≡ b.items = one_tiling (values (characters text)) [] 0 a.items b.items a.tiles b.tiles in
    λ i. record {
      tokens = (a.tokens ∙ ap (tokens_of (characters text) false true) items ∙ sym b.tokens) i;
      faults = (a.faults ∙ ap (faults_of (characters text)) items ∙ sym b.faults) i;
    }
