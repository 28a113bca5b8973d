-- Why no longer item can be formed.
use Rattle.std.proofs.Common.{◌≡◌, ◌≢◌, ◌⊎◌, ℕ, zero, suc, ◌+◌, ◌-◌, ◌<◌, ◌≤◌, List, Bool, true, false, arith, inl, inr, refl, sym, ◌∙◌, length, slice_index}
use Rattle.std.proofs.lemmas.Bool.{false≢true}
use Rattle.std.proofs.lemmas.Bool.Decides.{nat_tests}
use Rattle.std.proofs.lemmas.Grind.{common_steps}
use Rattle.std.specs.Prelude.{if◌then◌else◌, ◌&&◌, max, nat_lt}
use Rattle.cl_base.specs.declared.token.Kind.TheVariants as kind
use Rattle.cl_base.specs.Characters.{char_len, is_tail}
use Rattle.cl_lex.specs.declared.item.ItemKind.TheVariants as item
use Rattle.cl_lex.specs.Bytes.{is_digit, is_hex, is_name_byte, is_name_start, is_quote}
use Rattle.cl_lex.specs.Source.{stands}
use Rattle.cl_lex.specs.Spelling.{AllPass, IsBlockComment, IsChar, IsStr, are_hex, goes_on_number, universal_len}
use Rattle.cl_lex.specs.Punctuators.{is_punctuator}
use Rattle.cl_lex.specs.Items.{IsLongest, IsStray, alone_len}
use Rattle.cl_lex.proofs.Characters.{both_true, stands_within}
use Rattle.cl_lex.proofs.Classes.{class, class_digit, class_name, class_slash, only_digit, only_mark, only_name, only_none, only_slash}

module _ (cs : List ℕ) where
  pub ident_longest : (at to : ℕ) → at < to → to ≤ length cs → is_name_start (slice_index cs at) ≡ true → AllPass cs is_name_byte (at + 1) to
      → (to < length cs → is_name_byte (slice_index cs to) ≡ false) → ((m : ℕ) → IsChar cs at m → ⊥) → ((m : ℕ) → IsStr cs at m → ⊥)
      → (header : Bool) → IsLongest cs header (item.Token kind.Ident) at to
  ident_longest at to some within first all stops no_char no_str header = record {
    within = within;
    spells = (some, first, λ i low high. each i (omega arith) high);
    longest = only_name cs header at to (class_name _ first)
        (λ m more end s. false≢true (sym (stops (omega arith)) ∙ s.2 to (omega arith) more))
        (λ m more end s. no_char m s)
        (λ m more end s. no_str m s);
  }
    where
      first_byte : is_name_byte (slice_index cs at) ≡ true
      first_byte = rw first refl

      order : (i : ℕ) → at ≤ i → (i ≡ at) ⊎ (at + 1 ≤ i)
      order i low = grind arith

      go : (i : ℕ) → (i ≡ at) ⊎ (at + 1 ≤ i) → i < to → is_name_byte (slice_index cs i) ≡ true
      go i (inl e) high = rw e first_byte
      go i (inr low) high = all i low high

      each : (i : ℕ) → at ≤ i → i < to → is_name_byte (slice_index cs i) ≡ true
      each i low high = go i (order i low) high

  pub number_longest : (at to : ℕ) → at < to → to ≤ length cs → is_digit (slice_index cs at) ≡ true
      → ((i : ℕ) → at + 1 ≤ i → i < to → goes_on_number cs i ≡ true) → (to < length cs → goes_on_number cs to ≡ false)
      → (header : Bool) → IsLongest cs header (item.Token kind.Number) at to
  number_longest at to some within first all stops header = record {
    within = within;
    spells = (some, inl first, λ i low high. all i (omega arith) high);
    longest = only_digit cs header at to (class_digit _ first)
        (λ m more end s. false≢true (sym (stops (omega arith)) ∙ s.2 to (omega arith) more));
  }

  punct_short : (from n : ℕ) → is_punctuator cs from n ≡ true → n ≤ 4
  punct_short from zero e = omega arith
  punct_short from (suc zero) e = omega arith
  punct_short from (suc (suc zero)) e = omega arith
  punct_short from (suc (suc (suc zero))) e = omega arith
  punct_short from (suc (suc (suc (suc zero)))) e = omega arith
  punct_short from (suc (suc (suc (suc (suc n))))) e = absurd (false≢true e)

  pub block_longest : (at to : ℕ) → to ≤ length cs → IsBlockComment cs at to → (header : Bool) → IsLongest cs header item.Comment at to
  block_longest at to within comment header = record {
    within = within;
    spells = inl comment;
    longest = only_slash cs header at to (class_slash _ comment.1)
        (λ m more end s. s.5 (to - 2) (omega (arith, comment.0)) (omega (arith, comment.0)) comment.3 last)
        (λ m more end s. absurd (omega (arith, s.2, comment.2)))
        (λ m more end s. s.4 (to - 2) (omega (arith, comment.0)) (omega (arith, comment.0)) comment.3 last)
        (λ m more end s. absurd (omega (arith, punct_short at (m - at) s, comment.0)));
  }
    where
      step : to - 2 + 1 ≡ to - 1
      step = omega (arith, comment.0)

      last : slice_index cs (to - 2 + 1) ≡ 47
      last = rw step comment.4

  pub punct_longest : (at len : ℕ) → 0 < len → at + len ≤ length cs → class (slice_index cs at) ≡ 10 → is_punctuator cs at len ≡ true
      → ((n : ℕ) → len < n → at + n ≤ length cs → is_punctuator cs at n ≡ true → ⊥)
      → (header : Bool) → IsLongest cs header (item.Token kind.Punct) at (at + len)
  punct_longest at len some within first is longest header = record {
    within = within;
    spells = (let same : at + len - at ≡ len = omega arith in rw same is);
    longest = only_mark cs header at (at + len) first (λ m more end s. longest (m - at) (omega arith) (omega arith) s);
  }

-- ---- a character ends within the text

present : (cs : List ℕ) (i : ℕ) → 0 < slice_index cs i → i < length cs
present cs i some = grind (arith, common_steps)

tail_present : (cs : List ℕ) (i : ℕ) → is_tail (slice_index cs i) ≡ true → i < length cs
tail_present cs i t = let some : 0 < slice_index cs i = grind (arith, nat_tests) in present cs i some

second : (x y : Bool) → x && y ≡ true → y ≡ true
second true y e = e
second false y e = absurd (false≢true e)

either : (t : Bool) (x y at len : ℕ) → (t ≡ true → at + x ≤ len) → at + y ≤ len → at + (if t then x else y) ≤ len
either true x y at len f g = f refl
either false x y at len f g = g

pub char_room : (cs : List ℕ) (at : ℕ) → at < length cs → at + char_len cs at ≤ length cs
unfolding char_len
char_room cs at within =
    either (nat_lt at (length cs)) _ 0 at (length cs)
    (λ _. either _ 1 _ at (length cs) (λ _. omega arith)
    (either _ 2 _ at (length cs) (λ t. let last = tail_present cs (at + 1) (second _ _ t) in omega arith)
    (either _ 3 _ at (length cs) (λ t. let last = tail_present cs (at + 2) (second _ _ t) in omega arith)
    (either _ 4 0 at (length cs) (λ t. let last = tail_present cs (at + 3) (second _ _ t) in omega arith) (omega arith)))))
    (omega arith)

-- ---- so does a universal character name, and what is by itself

hex_some : (c : ℕ) → is_hex c ≡ true → 0 < c
hex_some c e = grind (arith, nat_tests)

hex_room : (cs : List ℕ) (n from : ℕ) → are_hex cs from n ≡ true → from ≤ length cs → from + n ≤ length cs
hex_room cs zero from e low = omega arith
hex_room cs (suc n) from e low =
    let both = both_true (is_hex (slice_index cs from)) (are_hex cs (from + 1) n) e in
    let here : from < length cs = present cs from (hex_some (slice_index cs from) both.0) in
    let rest = hex_room cs n (from + 1) both.1 (omega arith) in omega (arith, rest)

name_room : (cs : List ℕ) (at letter n : ℕ) → (stands cs at 92 && stands cs (at + 1) letter && are_hex cs (at + 2) n) ≡ true → at + (n + 2) ≤ length cs
name_room cs at letter n e =
    let both = both_true (stands cs at 92 && stands cs (at + 1) letter) (are_hex cs (at + 2) n) e in
    let second_ = both_true (stands cs at 92) (stands cs (at + 1) letter) both.0 in
    let low : at + 1 < length cs = stands_within cs (at + 1) letter second_.1 in
    let rest = hex_room cs n (at + 2) both.1 (omega arith) in omega (arith, rest)

pub universal_room : (cs : List ℕ) (at : ℕ) → at < length cs → at + universal_len cs at ≤ length cs
universal_room cs at within =
    either _ 6 _ at (length cs) (λ t. name_room cs at 117 4 t)
    (either _ 10 0 at (length cs) (λ t. name_room cs at 85 8 t) (omega arith))

max_room : (at a b l : ℕ) → at + a ≤ l → at + b ≤ l → at + max a b ≤ l
max_room at a b l h k = grind arith

pub alone_room : (cs : List ℕ) (at : ℕ) → at < length cs → at + alone_len cs at ≤ length cs
alone_room cs at within =
    max_room at (max (char_len cs at) (universal_len cs at)) 1 (length cs)
    (max_room at (char_len cs at) (universal_len cs at) (length cs) (char_room cs at within) (universal_room cs at within)) (omega arith)

pub alone_some : (cs : List ℕ) (at : ℕ) → 0 < alone_len cs at
alone_some cs at = most (max (char_len cs at) (universal_len cs at)) 1 (omega arith)
  where
    most : (a b : ℕ) → 0 < b → 0 < max a b
    most a b h = grind arith

-- where nothing begins but what is by itself
pub stray_mark : (cs : List ℕ) (header : Bool) (at : ℕ) → at < length cs → class (slice_index cs at) ≡ 0 → IsStray cs header at
stray_mark cs header at within e k m end s = only_none cs header at e k m s

pub not_quote : (c : ℕ) → c ≢ 34 → c ≢ 39 → is_quote c ≡ false
not_quote c a b = grind (arith, nat_tests)
