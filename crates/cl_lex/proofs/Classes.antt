-- What may begin with which character: each kind of item with a few classes of characters only.
use Rattle.std.proofs.Common.{◌≡◌, ◌≢◌, ◌⊎◌, ℕ, zero, suc, ◌+◌, ◌-◌, ◌<◌, ◌≤◌, ◌||◌, ◌==◌, List, Bool, true, false, arith, inl, inr, refl, sym, ◌∙◌, subst, length, slice_index}
use Rattle.std.specs.Prelude.{if◌then◌else◌}
use Rattle.std.proofs.lemmas.Bool.{false≢true}
use Rattle.std.proofs.lemmas.Bool.Decides.{nat_tests}
use Rattle.cl_base.specs.declared.token.Kind.TheVariants as kind
use Rattle.cl_lex.specs.declared.item.ItemKind.{ItemKind}
use Rattle.cl_lex.specs.declared.item.ItemKind.TheVariants as item
use Rattle.cl_lex.specs.Bytes.{is_blank, is_digit, is_name_start}
use Rattle.cl_lex.specs.Spelling.{IsBlockComment, IsChar, IsHeader, IsIdent, IsLineComment, IsNewLine, IsNumber, IsOpenComment, IsSpace, IsStr, char_prefix, str_prefix}
use Rattle.cl_lex.specs.Punctuators.{is_punctuator, is_punctuator_1, is_punctuator_2, is_punctuator_3, is_punctuator_4}
use Rattle.cl_lex.specs.Items.{Spells}

-- the class of a character: 1 a letter or `_`, 2 a digit, 3 a dot, 4 a slash, 5 `<`, 6 `"`, 7 `'`, 8 a blank, 9 a new-line,
-- 10 what else begins a punctuator, and 0 any other
pub class : ℕ → ℕ
class c =
    if is_name_start c then 1 else
    if is_digit c then 2 else
    if c == 46 then 3 else
    if c == 47 then 4 else
    if c == 60 then 5 else
    if c == 34 then 6 else
    if c == 39 then 7 else
    if is_blank c then 8 else
    if c == 10 then 9 else
    if is_punctuator_1 c then 10 else 0

-- ---- the class of a character

pub class_name : (c : ℕ) → is_name_start c ≡ true → class c ≡ 1
unfolding class
class_name c e = rw e refl

pub class_digit : (c : ℕ) → is_digit c ≡ true → class c ≡ 2
unfolding class
class_digit c e = grind (arith, nat_tests)

pub class_dot : (c : ℕ) → c ≡ 46 → class c ≡ 3
unfolding class
class_dot c e = rw e refl

pub class_slash : (c : ℕ) → c ≡ 47 → class c ≡ 4
unfolding class
class_slash c e = rw e refl

pub class_less : (c : ℕ) → c ≡ 60 → class c ≡ 5
unfolding class
class_less c e = rw e refl

pub class_double : (c : ℕ) → c ≡ 34 → class c ≡ 6
unfolding class
class_double c e = rw e refl

pub class_single : (c : ℕ) → c ≡ 39 → class c ≡ 7
unfolding class
class_single c e = rw e refl

pub class_blank : (c : ℕ) → is_blank c ≡ true → class c ≡ 8
unfolding class
class_blank c e = grind (arith, nat_tests)

pub class_new_line : (c : ℕ) → c ≡ 10 → class c ≡ 9
unfolding class
class_new_line c e = rw e refl

-- what begins none of these
pub mark_class : (c : ℕ) → is_name_start c ≡ false → is_blank c ≡ false → is_digit c ≡ false → c ≢ 10 → c ≢ 46 → c ≢ 47 → c ≢ 60 → c ≢ 34 → c ≢ 39 → is_punctuator_1 c ≡ false
    → class c ≡ 0
unfolding class
mark_class c a b d e f g h i j p = grind (arith, nat_tests)

-- ---- which kinds of items may begin with a class

abbrev pub may : ItemKind → ℕ → Bool
may (item.Token kind.Ident) n = n == 1
may (item.Token kind.Number) n = n == 2 || n == 3
may (item.Token kind.Char) n = n == 7 || n == 1
may (item.Token kind.Str) n = n == 6 || n == 1
may (item.Token kind.Header) n = n == 5 || n == 6
may (item.Token kind.Punct) n = n == 3 || n == 4 || n == 5 || n == 10
may (item.Token kind.Other) n = false
may item.Comment n = n == 4
may item.OpenComment n = n == 4
may item.Space n = n == 8
may item.NewLine n = n == 9

pub punct_three : (a b c : ℕ) → is_punctuator_3 a b c ≡ true → ((a ≡ 46) × (b ≡ 46)) ⊎ ((a ≡ 60) ⊎ (a ≡ 62))
punct_three a b c e = grind (arith, nat_tests)

pub punct_four : (a b c d : ℕ) → is_punctuator_4 a b c d ≡ true → a ≡ 37
punct_four a b c d e = grind (arith, nat_tests)

punct_two : (a b : ℕ) → is_punctuator_2 a b ≡ true → is_punctuator_1 a ≡ true
punct_two a b e = grind (arith, nat_tests)

punct_three_first : (a b c : ℕ) → is_punctuator_3 a b c ≡ true → is_punctuator_1 a ≡ true
punct_three_first a b c e = grind (arith, nat_tests)

punct_four_first : (a b c d : ℕ) → is_punctuator_4 a b c d ≡ true → is_punctuator_1 a ≡ true
punct_four_first a b c d e = grind (arith, nat_tests)

punct_class : (a : ℕ) → is_punctuator_1 a ≡ true → may (item.Token kind.Punct) (class a) ≡ true
unfolding class
punct_class a e = grind (arith, nat_tests)

pub char_prefix_is : (cs : List ℕ) (from : ℕ)
    → (char_prefix cs from ≡ 0) ⊎ ((char_prefix cs from ≡ 1) × (is_name_start (slice_index cs from) ≡ true))
char_prefix_is cs from = grind (arith, nat_tests)

pub str_prefix_is : (cs : List ℕ) (from : ℕ)
    → ((str_prefix cs from ≡ 0) × (char_prefix cs from ≡ 0))
    ⊎ ((((str_prefix cs from ≡ 1) ⊎ ((str_prefix cs from ≡ 2) × (slice_index cs (from + 1) ≡ 56))) × (char_prefix cs from ≡ 1))
    × (is_name_start (slice_index cs from) ≡ true))
str_prefix_is cs from = grind (arith, nat_tests)

fits_punct : (cs : List ℕ) (from n : ℕ) → is_punctuator cs from n ≡ true → may (item.Token kind.Punct) (class (slice_index cs from)) ≡ true
fits_punct cs from zero e = absurd (false≢true e)
fits_punct cs from (suc zero) e = punct_class _ e
fits_punct cs from (suc (suc zero)) e = punct_class _ (punct_two (slice_index cs from) (slice_index cs (from + 1)) e)
fits_punct cs from (suc (suc (suc zero))) e =
    punct_class _ (punct_three_first (slice_index cs from) (slice_index cs (from + 1)) (slice_index cs (from + 2)) e)
fits_punct cs from (suc (suc (suc (suc zero)))) e =
    punct_class _ (punct_four_first (slice_index cs from) (slice_index cs (from + 1)) (slice_index cs (from + 2)) (slice_index cs (from + 3)) e)
fits_punct cs from (suc (suc (suc (suc (suc n))))) e = absurd (false≢true e)

-- a punctuator that begins with none of the characters that begin something else too
pub class_mark : (cs : List ℕ) (from n : ℕ) → is_punctuator cs from n ≡ true → slice_index cs from ≢ 46 → slice_index cs from ≢ 47 → slice_index cs from ≢ 60
    → class (slice_index cs from) ≡ 10
unfolding class
class_mark cs from n e dot slash less =
    let fits = fits_punct cs from n e in grind (arith, nat_tests)

module _ (cs : List ℕ) (header : Bool) where
  fits_ident : (from m : ℕ) → IsIdent cs from m → may (item.Token kind.Ident) (class (slice_index cs from)) ≡ true
  fits_ident from m s = rw (class_name _ s.1) refl

  fits_number : (from m : ℕ) → IsNumber cs from m → may (item.Token kind.Number) (class (slice_index cs from)) ≡ true
  fits_number from m s =
      elim s.1 as (λ _. may (item.Token kind.Number) (class (slice_index cs from)) ≡ true) [
        | inl d ↦ rw (class_digit _ d) refl
        | inr d ↦ rw (class_dot _ d.1) refl
      ]

  fits_char : (from m : ℕ) → IsChar cs from m → may (item.Token kind.Char) (class (slice_index cs from)) ≡ true
  fits_char from m s =
      elim (char_prefix_is cs from) as (λ _. may (item.Token kind.Char) (class (slice_index cs from)) ≡ true) [
        | inl p ↦ let e : from + char_prefix cs from ≡ from = omega (arith, p) in let q : slice_index cs from ≡ 39 = rw e at s.0 in rw (class_single _ q) refl
        | inr p ↦ rw (class_name _ p.1) refl
      ]

  fits_str : (from m : ℕ) → IsStr cs from m → may (item.Token kind.Str) (class (slice_index cs from)) ≡ true
  fits_str from m s =
      elim (str_prefix_is cs from) as (λ _. may (item.Token kind.Str) (class (slice_index cs from)) ≡ true) [
        | inl p ↦ let e : from + str_prefix cs from ≡ from = omega (arith, p.0) in let q : slice_index cs from ≡ 34 = rw e at s.0 in rw (class_double _ q) refl
        | inr p ↦ rw (class_name _ p.1) refl
      ]

  fits_header : (from m : ℕ) → IsHeader cs from m → may (item.Token kind.Header) (class (slice_index cs from)) ≡ true
  fits_header from m s =
      elim s as (λ _. may (item.Token kind.Header) (class (slice_index cs from)) ≡ true) [
        | inl b ↦ rw (class_less _ b.2) refl
        | inr b ↦ rw (class_double _ b.2) refl
      ]

  fits_comment : (from m : ℕ) → IsBlockComment cs from m ⊎ IsLineComment cs from m → may item.Comment (class (slice_index cs from)) ≡ true
  fits_comment from m (inl b) = rw (class_slash _ b.1) refl
  fits_comment from m (inr b) = rw (class_slash _ b.1) refl

  fits_open : (from m : ℕ) → IsOpenComment cs from m → may item.OpenComment (class (slice_index cs from)) ≡ true
  fits_open from m s = rw (class_slash _ s.2) refl

  fits_space : (from m : ℕ) → IsSpace cs from m → may item.Space (class (slice_index cs from)) ≡ true
  fits_space from m s = let low : from ≤ from = omega arith in rw (class_blank _ (s.1 from low s.0)) refl

  fits_line : (from m : ℕ) → IsNewLine cs from m → may item.NewLine (class (slice_index cs from)) ≡ true
  fits_line from m s = rw (class_new_line _ s.1) refl

  -- an item begins with a character of one of its classes
  pub fits : (k : ItemKind) (from m : ℕ) → Spells cs header k from m → may k (class (slice_index cs from)) ≡ true
  fits (item.Token kind.Ident) from m s = fits_ident from m s
  fits (item.Token kind.Number) from m s = fits_number from m s
  fits (item.Token kind.Char) from m s = fits_char from m s
  fits (item.Token kind.Str) from m s = fits_str from m s.0
  fits (item.Token kind.Header) from m s = fits_header from m s.1
  fits (item.Token kind.Punct) from m s = fits_punct cs from (m - from) s
  fits (item.Token kind.Other) from m s = absurd s
  fits item.Comment from m s = fits_comment from m s
  fits item.OpenComment from m s = fits_open from m s
  fits item.Space from m s = fits_space from m s
  fits item.NewLine from m s = fits_line from m s

  wrong : (k : ItemKind) (from m n : ℕ) → Spells cs header k from m → class (slice_index cs from) ≡ n → may k n ≡ false → ⊥
  wrong k from m n s e f = false≢true (sym f ∙ subst (λ (x : ℕ). may k x ≡ true) e (fits k from m s))

  -- ---- no longer item begins with a class, where none does of those that can

  module _ (from to : ℕ) where
    abbrev NoLonger : (ℕ → Type 0) → Type 0
    NoLonger S = (m : ℕ) → to < m → m ≤ length cs → S m → ⊥

    abbrev NoneLonger : Type 0
    NoneLonger = (k : ItemKind) (m : ℕ) → to < m → m ≤ length cs → Spells cs header k from m → ⊥

    pub only_name : class (slice_index cs from) ≡ 1 → NoLonger (IsIdent cs from) → NoLonger (IsChar cs from) → NoLonger (IsStr cs from) → NoneLonger
    only_name e a b c (item.Token kind.Ident) m l w s = a m l w s
    only_name e a b c (item.Token kind.Char) m l w s = b m l w s
    only_name e a b c (item.Token kind.Str) m l w s = c m l w s.0
    only_name e a b c other m l w s = wrong other from m 1 s e refl

    pub only_digit : class (slice_index cs from) ≡ 2 → NoLonger (IsNumber cs from) → NoneLonger
    only_digit e a (item.Token kind.Number) m l w s = a m l w s
    only_digit e a other m l w s = wrong other from m 2 s e refl

    pub only_slash : class (slice_index cs from) ≡ 4 → NoLonger (IsBlockComment cs from) → NoLonger (IsLineComment cs from) → NoLonger (IsOpenComment cs from)
        → NoLonger (λ m. is_punctuator cs from (m - from) ≡ true) → NoneLonger
    only_slash e a b c d item.Comment m l w (inl s) = a m l w s
    only_slash e a b c d item.Comment m l w (inr s) = b m l w s
    only_slash e a b c d item.OpenComment m l w s = c m l w s
    only_slash e a b c d (item.Token kind.Punct) m l w s = d m l w s
    only_slash e a b c d other m l w s = wrong other from m 4 s e refl

    pub only_mark : class (slice_index cs from) ≡ 10 → NoLonger (λ m. is_punctuator cs from (m - from) ≡ true) → NoneLonger
    only_mark e a (item.Token kind.Punct) m l w s = a m l w s
    only_mark e a other m l w s = wrong other from m 10 s e refl

  pub only_none : (from : ℕ) → class (slice_index cs from) ≡ 0 → (k : ItemKind) (m : ℕ) → Spells cs header k from m → ⊥
  only_none from e k m s = nothing k (subst (λ (x : ℕ). may k x ≡ true) e (fits k from m s))
    where
      nothing : (k : ItemKind) → may k 0 ≡ true → ⊥
      nothing k p = grind (arith, nat_tests)
