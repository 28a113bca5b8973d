-- What follows of the characters from what is held of them.
use Rattle.std.proofs.Common.{◌≡◌, ◌∙◌, ℕ, ◌<◌, ◌≤◌, ◌+◌, ◌-◌, List, length, get_or, refl, sym, ap, arith, true, false, nat_lt}
use Rattle.std.proofs.lemmas.Bool.Decides.{nat_tests}
use Rattle.std.specs.Prelude.{Option, Some, None}
use Rattle.std.specs.List.{range_with_len}
use Rattle.std.proofs.lemmas.List.{get_or-map, length-map, get_or_read}
use Rattle.std.proofs.lemmas.List.FromFn.{get_or-range_with_len, length-range_with_len}
use Rattle.cl_lex.specs.declared.source.Starts.{Starts}
use Rattle.cl_lex.specs.Source.{Character, width_at, characters, values}
use Rattle.cl_lex.specs.Lexing.{nothing, begins, ends}
use Rattle.cl_lex.specs.Held.{IsHeld, held_starts, starts}
use Rattle.cl_lex.proofs.Characters.{lies, count, in_order}

start_of : (cs : List Character) (at : ℕ) → at < length cs → get_or (starts cs) at 0 ≡ begins cs at
start_of cs at h = get_or-map (λ (c : Character). c.from) cs at nothing 0 h

count_starts : (cs : List Character) → length (starts cs) ≡ length cs
count_starts cs = length-map cs (λ (c : Character). c.from)

count_values : (cs : List Character) → length (values cs) ≡ length cs
count_values cs = length-map cs (λ (c : Character). c.value)

-- where each byte is a character, there are as many
all_starts : (text whole chars : List ℕ) (held : Option Starts) → IsHeld text chars held → held ≡ None → text ≡ whole → length text ≡ length (characters whole)
all_starts text whole chars held h n w =
    sym (length-range_with_len 0 (length text)) ∙ ap (λ (o : Option Starts). length (held_starts text o)) (sym n) ∙ ap length h.starts
    ∙ ap (λ (t : List ℕ). length (starts (characters t))) w ∙ count_starts (characters whole)

held_begins : (text whole chars : List ℕ) (held : Option Starts) (at : ℕ) → IsHeld text chars held → text ≡ whole → at < length (characters whole)
    → get_or (held_starts text held) at 0 ≡ begins (characters whole) at
held_begins text whole chars held at h w l = ap (λ (xs : List ℕ). get_or xs at 0) h.starts ∙ ap (λ (t : List ℕ). get_or (starts (characters t)) at 0) w ∙ start_of (characters whole) at l

pub begins_plain : (text whole chars : List ℕ) (held : Option Starts) (at : ℕ) → IsHeld text chars held → held ≡ None → text ≡ whole → at < length (characters whole)
    → at ≡ begins (characters whole) at
begins_plain text whole chars held at h n w l =
    let short : at < length text = omega (arith, count whole, ap length w) in
    let one : get_or (range_with_len 0 (length text)) at 0 ≡ at = get_or-range_with_len 0 (length text) at 0 short ∙ (let z : 0 + at ≡ at = omega arith in z) in
    sym one ∙ ap (λ (o : Option Starts). get_or (held_starts text o) at 0) (sym n) ∙ held_begins text whole chars held at h w l

-- where each byte is a character, each ends where the next begins
pub ends_plain : (text whole chars : List ℕ) (held : Option Starts) (to : ℕ) → IsHeld text chars held → held ≡ None → text ≡ whole → 0 < to → to ≤ length (characters whole)
    → to ≡ ends (characters whole) to
ends_plain text whole chars held to h n w s l =
    let last = lies whole (to - 1) (omega arith) in
    let first : to - 1 ≡ begins (characters whole) (to - 1) = begins_plain text whole chars held (to - 1) h n w (omega arith) in
    let low : begins (characters whole) (to - 1) < ends (characters whole) to = last.some in
    between to (begins (characters whole) (to - 1)) (ends (characters whole) to) s first low (elim (nat_lt to (length (characters whole))) as (λ b. nat_lt to (length (characters whole)) ≡ b → ends (characters whole) to ≤ to) [
      | true ↦ λ e.
          let k : to < length (characters whole) = grind (arith, nat_tests) in
          let next : to ≡ begins (characters whole) to = begins_plain text whole chars held to h n w k in
          let o : ends (characters whole) to ≤ begins (characters whole) to = in_order whole (to - 1) to (omega arith) k in
          omega (arith, next, o)
      | false ↦ λ e.
          let k : length (characters whole) ≤ to = grind (arith, nat_tests) in
          let within : ends (characters whole) to ≤ length whole = last.within in
          let all : length text ≡ length (characters whole) = all_starts text whole chars held h n w in
          omega (arith, within, all, ap length w)
    ] refl)
  where
    between : (n a b : ℕ) → 0 < n → n - 1 ≡ a → a < b → b ≤ n → n ≡ b
    between n a b s e l m = omega arith

pub begins_joined : (text whole chars : List ℕ) (held : Option Starts) (starts_ : Starts) (at r : ℕ) → IsHeld text chars held → held ≡ Some starts_ → text ≡ whole → at < length (characters whole)
    → r ≡ get_or starts_.places.items at r → r ≡ begins (characters whole) at
begins_joined text whole chars held starts_ at r h n w l e =
    let same : starts_.places.items ≡ starts (characters whole) = ap (held_starts text) (sym n) ∙ h.starts ∙ ap (λ (t : List ℕ). starts (characters t)) w in
    let long : at < length starts_.places.items = omega (arith, ap length same, count_starts (characters whole)) in
    get_or_read starts_.places.items at r long e 0 ∙ ap (λ (o : Option Starts). get_or (held_starts text o) at 0) (sym n) ∙ held_begins text whole chars held at h w l

-- a character begins within the text
pub begins_within : (text : List ℕ) (at r : ℕ) → at < length (characters text) → r ≡ begins (characters text) at → r < length text
begins_within text at r l e =
    let in_text = lies text at l in
    let some : begins (characters text) at < (get_or (characters text) at nothing).to = in_text.some in
    let within : (get_or (characters text) at nothing).to ≤ length text = in_text.within in
    omega arith

pub ends_at : (text : List ℕ) (to last : ℕ) → 0 < to → to ≤ length (characters text) → last ≡ begins (characters text) (to - 1) → last + width_at text last ≡ ends (characters text) to
ends_at text to last s h e =
    let in_text = lies text (to - 1) (omega arith) in
    ap (λ (n : ℕ). n + width_at text n) e ∙ sym in_text.width

-- as many values are held as there are characters
pub all_held : (text whole chars : List ℕ) (held : Option Starts) → IsHeld text chars held → text ≡ whole → length chars ≡ length (characters whole)
all_held text whole chars held h w = ap length h.values ∙ ap (λ (t : List ℕ). length (values (characters t))) w ∙ count_values (characters whole)

pub ends_joined : (text whole chars : List ℕ) (held : Option Starts) (starts_ : Starts) (to last width : ℕ) → IsHeld text chars held → held ≡ Some starts_ → text ≡ whole
    → 0 < to → to ≤ length (characters whole) → last ≡ get_or starts_.places.items (to - 1) last → width ≡ width_at text last
    → last + width ≡ ends (characters whole) to
ends_joined text whole chars held starts_ to last width h n w s l e f =
    let begin : last ≡ begins (characters whole) (to - 1) = begins_joined text whole chars held starts_ (to - 1) last h n w (omega arith) e in
    ap (λ (k : ℕ). last + k) (f ∙ ap (λ (t : List ℕ). width_at t last) w) ∙ ends_at whole to last s l begin

pub ends_within : (text : List ℕ) (to r : ℕ) → 0 < to → to ≤ length (characters text) → r ≡ ends (characters text) to → r ≤ length text
ends_within text to r s l e =
    let in_text = lies text (to - 1) (omega arith) in
    let within : ends (characters text) to ≤ length text = in_text.within in
    omega arith
