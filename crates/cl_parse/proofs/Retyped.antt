-- Tokens that were read with other typedef names.
use Rattle.std.proofs.Common.{◌≡◌, ◌⊎◌, ℕ, suc, zero, ◌+◌, ◌-◌, ◌<◌, ◌≤◌, List, [], ◌∷◌, ◌++◌, length, take, map, Option, Some, None, Bool, true, false, refl, sym, ap, ◌∙◌, subst, inl, inr, ⊎_elim, arith, length-append}
use Rattle.std.proofs.lemmas.Bool.{cases_lt}
use Rattle.std.proofs.lemmas.List.{length-map, take_all}
use Rattle.std.proofs.lemmas.Option.{slice_get-map, slice_get_within}
use Rattle.std.specs.Cmp.Lexicographic.{pointwise, texts_ties}
use Rattle.std.specs.Option.{option_map}
use Rattle.std.specs.Prelude.{cond, nat_eq, slice_get}
use Rattle.cl_base.specs.declared.token.PpToken.{PpToken}
use Rattle.cl_tree.specs.Lexemes.{sort_at, is_literal, lexeme_of, lexemes_from, typed_by}
use Rattle.cl_tree.specs.Brackets.{partner_by}
use Rattle.cl_tree.specs.Scopes.{known, text_at}
use Rattle.cl_tree.specs.Shapes.{atomic, comma, shape_of, star}
use Rattle.cl_tree.specs.Spellings.{sort_of}
use Rattle.cl_tree.specs.declared.lexeme.Lexeme.{Lexeme}
use Rattle.cl_tree.specs.declared.scope.Change.{Change}
use Rattle.cl_tree.specs.declared.shape.Ahead.{Ahead}
use Rattle.cl_tree.specs.declared.shape.Ahead.TheVariants as ahead
use Rattle.cl_tree.specs.declared.shape.Raw.{Raw}
use Rattle.cl_tree.specs.declared.shape.Raw.TheVariants as raw
use Rattle.cl_tree.specs.declared.shape.Shape.{Shape}
use Rattle.cl_tree.specs.declared.shape.Shape.TheVariants.{Fixed, Word, Paren}
use Rattle.cl_parse.specs.Items.{Names}
use Rattle.cl_parse.specs.code.Ahead.{AreAnew, AreLearned, AreNamed, AreSomeAnew, Covers, is_word, retyped, retyped_at, typed_for, word_at, word_of}
use Rattle.cl_parse.specs.declared.ahead.Places.{Places}
use Rattle.cl_parse.proofs.Anew.{take_same}
use Rattle.cl_parse.proofs.Place.{same_name}

-- ---- one token

typed_star : (a : Ahead) (b : Bool) → typed_for (star a) b ≡ false
typed_star ahead.Bracket b = refl
typed_star _ b = refl

typed_comma : (a : Ahead) (b : Bool) → typed_for (comma a) b ≡ false
typed_comma ahead.End b = refl
typed_comma ahead.Designator b = refl
typed_comma _ b = refl

typed_atomic : (a : Ahead) (b : Bool) → typed_for (atomic a) b ≡ false
typed_atomic ahead.Paren b = refl
typed_atomic _ b = refl

typed_same : (r : Raw) (a : Ahead) (l b : Bool) → typed_for (shape_of r a l) b ≡ typed_by r b
typed_same (raw.Plain k) a l b = refl
typed_same raw.Word a l b = refl
typed_same raw.Paren a l b = refl
typed_same raw.Star a l b = typed_star a b
typed_same raw.Comma a l b = typed_comma a b
typed_same raw.Atomic a l b = typed_atomic a b

module _ (pairs : List ℕ) (tokens : List PpToken) where
  pub retyped_lexeme : (old names : Names) (i : ℕ) (t : PpToken) → retyped names (lexeme_of old pairs tokens i t) ≡ lexeme_of names pairs tokens i t
  retyped_lexeme old names i t =
      ap (λ (b : Bool). record { shape = shape_of (sort_of t).raw (sort_at tokens (i + 1)).ahead (is_literal tokens pairs i); typed = b; partner = partner_by (slice_get pairs i); text = t.text })
      (typed_same (sort_of t).raw (sort_at tokens (i + 1)).ahead (is_literal tokens pairs i) (names t.text))

  pub retyped_from : (old names : Names) (i : ℕ) (ts : List PpToken) → map (retyped names) (lexemes_from old pairs tokens i ts) ≡ lexemes_from names pairs tokens i ts
  retyped_from old names i [] = refl
  retyped_from old names i (t ∷ ts) =
      let e = retyped_lexeme old names i t in
      let f = retyped_from old names (i + 1) ts in
      cc

-- ---- places in two lists, one behind the other

pub append_get : {A : Type 0} (xs ys : List A) (i : ℕ) → i < length xs → slice_get (xs ++ ys) i ≡ slice_get xs i
append_get [] ys i l = absurd (omega (arith, l))
append_get (x ∷ xs) ys zero l = refl
append_get (x ∷ xs) ys (suc i) l = append_get xs ys i (omega (arith, l))

append_past : {A : Type 0} (xs ys : List A) (j : ℕ) → slice_get (xs ++ ys) (length xs + j) ≡ slice_get ys j
append_past [] ys j = let e : 0 + j ≡ j = omega arith in ap (slice_get ys) e
append_past (x ∷ xs) ys j = let e : suc (length xs) + j ≡ suc (length xs + j) = omega arith in ap (slice_get (x ∷ (xs ++ ys))) e ∙ append_past xs ys j

append_at : {A : Type 0} (xs ys : List A) (i : ℕ) → length xs ≤ i → slice_get (xs ++ ys) i ≡ slice_get ys (i - length xs)
append_at xs ys i l = let e : i ≡ length xs + (i - length xs) = omega (arith, l) in ap (slice_get (xs ++ ys)) e ∙ append_past xs ys (i - length xs)

same_lists : {A : Type 0} (xs ys : List A) → length xs ≡ length ys → ((i : ℕ) → slice_get xs i ≡ slice_get ys i) → xs ≡ ys
same_lists xs ys e f = sym (take_all (length xs) xs (omega arith)) ∙ take_same (length xs) xs ys (λ i l. f i) ∙ take_all (length xs) ys (omega (arith, e))

-- ---- what was read behind some tokens

module _ (names : Names) (front behind : List Lexeme) where
  pub named_behind : behind ≡ map (retyped names) behind → AreNamed names (front ++ behind) (length front)
  named_behind e = λ i l. (
      let at : slice_get (front ++ behind) i ≡ slice_get behind (i - length front) = append_at front behind i l in
      at ∙ ap (λ (ts : List Lexeme). slice_get ts (i - length front)) e ∙ slice_get-map (retyped names) behind (i - length front) ∙ ap (option_map (retyped names)) (sym at))

  pub anew_behind : (new : List Lexeme) → AreAnew names (length front) (front ++ behind) new → new ≡ front ++ map (retyped names) behind
  anew_behind new a =
      let mapped = map (retyped names) behind in
      let n : length (front ++ behind) ≡ length front + length behind = length-append front behind in
      let m : length (front ++ mapped) ≡ length front + length mapped = length-append front mapped in
      let k : length mapped ≡ length behind = length-map behind (retyped names) in
      let c : length new ≡ length (front ++ behind) = a.count in
      let size : length new ≡ length (front ++ mapped) = omega (arith, n, m, k, c) in
      same_lists new (front ++ mapped) size (λ i. ⊎_elim (λ (l : i < length front). a.front i l ∙ append_get front behind i l ∙ sym (append_get front mapped i l)) (λ (l : length front ≤ i). (
      a.behind i l ∙ ap (option_map (retyped names)) (append_at front behind i l) ∙ sym (slice_get-map (retyped names) behind (i - length front)) ∙ sym (append_at front mapped i l))) (cases_lt i (length front)))

-- ---- where some names changed

abbrev Changes : List Lexeme → List Change → List ℕ → Type 0
Changes ts cs name = (k : ℕ) × (c : Change) × (slice_get cs k ≡ Some c) × (text_at ts c.at ≡ name)

-- a name is what it was, or spells what one of the changes does
later_change : (ts : List Lexeme) (c : Change) (cs : List Change) (name : List ℕ) → Changes ts cs name → Changes ts (c ∷ cs) name
later_change ts c cs name x = (suc x.0, x.1, x.2, x.3)

abbrev Kept : List Lexeme → List Change → List ℕ → Bool → Type 0
Kept ts cs name before = (known ts cs before name ≡ before) ⊎ Changes ts cs name

kept_by : (ts : List Lexeme) (c : Change) (cs : List Change) (name : List ℕ) (before : Bool) → ((b : Bool) → Kept ts cs name b) → (q : Bool) → pointwise nat_eq (text_at ts c.at) name ≡ q
    → (known ts cs (cond q c.typed before) name ≡ before) ⊎ Changes ts (c ∷ cs) name
kept_by ts c cs name before rest true e = inr (0, c, refl, same_name (text_at ts c.at) name (sym (texts_ties (text_at ts c.at) name) ∙ e))
kept_by ts c cs name before rest false e = ⊎_elim (λ (f : known ts cs before name ≡ before). inl f) (λ (x : Changes ts cs name). inr (later_change ts c cs name x)) (rest before)

known_kept : (ts : List Lexeme) (cs : List Change) (name : List ℕ) (before : Bool) → Kept ts cs name before
known_kept ts [] name before = inl refl
known_kept ts (c ∷ cs) name before = kept_by ts c cs name before (known_kept ts cs name) (pointwise nat_eq (text_at ts c.at) name) refl

-- what is no identifier is no typedef name
typed_none : (s : Shape) (a b : Bool) → is_word s ≡ false → typed_for s a ≡ typed_for s b
typed_none (Fixed k) a b e = refl
typed_none (Word colon) a b e = cc
typed_none (Paren literal types) a b e = refl

retyped_same : (old names : Names) (l : Lexeme) → typed_for l.shape (names l.text) ≡ typed_for l.shape (old l.text) → retyped names l ≡ retyped old l
retyped_same old names l e = ap (λ (b : Bool). record { shape = l.shape; typed = b; partner = l.partner; text = l.text }) e

pub word_kept : (names : Names) (o n : Option Lexeme) → (n ≡ o) ⊎ (n ≡ option_map (retyped names) o) → word_of n ≡ word_of o
word_kept names None n e = ⊎_elim (λ (f : n ≡ None). ap word_of f) (λ (f : n ≡ None). ap word_of f) e
word_kept names (Some l) n e = ⊎_elim (λ (f : n ≡ Some l). ap word_of f) (λ (f : n ≡ Some (retyped names l)). ap word_of f) e

pub covers_kept : (places : Places) (names : Names) (to : ℕ) (old new : List Lexeme) → AreSomeAnew names to old new → Covers places old to → Covers places new to
covers_kept places names to old new a c = record {
  short = subst (λ (n : ℕ). places.upto ≤ n) (sym a.count) c.short;
  finds = λ i name l m e. c.finds i name l m (sym (word_kept names (slice_get old i) (slice_get new i) (a.each i)) ∙ e);
}

module _ (old names : Names) (to : ℕ) (ts : List Lexeme) (changes : List Change) (new : List Lexeme) (named : AreNamed old ts to) (learns : (name : List ℕ) → names name ≡ known (take to ts) changes (old name) name) (a : AreLearned names to (take to ts) changes (length changes) ts new) where
  abbrev Anew : ℕ → Type 0
  Anew i = slice_get new i ≡ retyped_at names ts i

  -- the names say the same of a token
  unchanged : (i : ℕ) (l : Lexeme) → to ≤ i → slice_get ts i ≡ Some l → typed_for l.shape (names l.text) ≡ typed_for l.shape (old l.text) → Anew i
  unchanged i l m e f =
      let r : retyped_at names ts i ≡ slice_get ts i = ap (option_map (retyped names)) e ∙ ap Some (retyped_same old names l f) ∙ sym (ap (option_map (retyped old)) e) ∙ sym (named i m) in
      ⊎_elim (λ (g : slice_get new i ≡ slice_get ts i). g ∙ sym r) (λ (g : Anew i). g) (a.some.each i)

  word_anew : (i : ℕ) (l : Lexeme) → to ≤ i → slice_get ts i ≡ Some l → is_word l.shape ≡ true → Anew i
  word_anew i l m e w =
      ⊎_elim (λ (k : known (take to ts) changes (old l.text) l.text ≡ old l.text). unchanged i l m e (ap (typed_for l.shape) (learns l.text ∙ k))) (λ (x : Changes (take to ts) changes l.text). (
      let spells : word_at ts i ≡ Some (text_at (take to ts) x.1.at) = ap word_of e ∙ ap (λ (q : Bool). cond q (Some l.text) None) w ∙ ap Some (sym x.3) in
      a.learned x.0 x.1 i (slice_get_within changes x.0 x.1 x.2) x.2 m spells)) (known_kept (take to ts) changes l.text (old l.text))

  token_anew : (i : ℕ) (l : Lexeme) → to ≤ i → slice_get ts i ≡ Some l → (b : Bool) → is_word l.shape ≡ b → Anew i
  token_anew i l m e true w = word_anew i l m e w
  token_anew i l m e false w = unchanged i l m e (typed_none l.shape (names l.text) (old l.text) w)

  place_anew : (i : ℕ) → to ≤ i → (o : Option Lexeme) → slice_get ts i ≡ o → Anew i
  place_anew i m None e =
      let r : retyped_at names ts i ≡ None = ap (option_map (retyped names)) e in
      ⊎_elim (λ (g : slice_get new i ≡ slice_get ts i). g ∙ e ∙ sym r) (λ (g : Anew i). g) (a.some.each i)
  place_anew i m (Some l) e = token_anew i l m e (is_word l.shape) refl

  pub all_anew : AreAnew names to ts new
  all_anew = record { count = a.some.count; front = a.some.front; behind = λ i m. place_anew i m (slice_get ts i) refl }

-- nothing changed
pub still_anew : (names : Names) (to : ℕ) (ts : List Lexeme) → AreNamed names ts to → AreAnew names to ts ts
still_anew names to ts named = record { count = refl; front = λ i l. refl; behind = named }
