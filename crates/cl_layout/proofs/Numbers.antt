-- Multiples of a unit, and bits within one.
use Rattle.std.proofs.Common.{◌≡◌, ◌≤◌, ◌<◌, ◌+◌, ◌-◌, ◌*◌, ◌^◌, ℕ, Bool, true, false, ◌&&◌, refl, sym, ap, ◌∙◌, arith, rules}
use Rattle.std.specs.Prelude.{◌/◌, ◌%◌, ◌==◌, if◌then◌else◌, nat_lt, nat_le}
use Rattle.std.proofs.Math.Nat.{lt-div-mul-add, mod-eq_of_lt}
use Rattle.std.proofs.lemmas.Grind.{common_steps}
use Rattle.std.proofs.lemmas.Nat.{div-add-mod', div-mul-add}
use Rattle.cl_layout.specs.Layouts.{field_start, round_up}

over_zero : (n : ℕ) → (n == 0) ≡ false → 0 < n
over_zero n h = grind (arith, common_steps)

is_zero : (n : ℕ) → (n == 0) ≡ true → n ≡ 0
is_zero n h = grind (arith, common_steps)

is_below : (n m : ℕ) → nat_le n m ≡ true → n ≤ m
is_below n m h = grind (arith, common_steps)

up_by : (b : Bool) (n unit : ℕ) → (unit == 0) ≡ b → n ≤ (if b then n else (n + (unit - 1)) / unit * unit)
up_by true n unit e = omega arith
up_by false n unit e =
    let some : 0 < unit = over_zero unit e in
    let near : n + (unit - 1) < (n + (unit - 1)) / unit * unit + unit = lt-div-mul-add some in
    omega arith

-- rounding up never goes back
pub round_up_behind : (n unit : ℕ) → n ≤ round_up n unit
round_up_behind n unit = up_by (unit == 0) n unit refl

multiple_by : (b : Bool) (n unit : ℕ) → (unit == 0) ≡ b → 0 < unit → (if b then n else (n + (unit - 1)) / unit * unit) ≡ (n + (unit - 1)) / unit * unit
multiple_by true n unit e some = let none : unit ≡ 0 = is_zero unit e in absurd (omega arith)
multiple_by false n unit e some = refl

-- and it comes to a multiple
pub round_up_multiple : (n unit : ℕ) → 0 < unit → round_up n unit ≡ (n + (unit - 1)) / unit * unit
round_up_multiple n unit some = multiple_by (unit == 0) n unit refl some

one_of : (b c : Bool) (x y : ℕ) → x ≤ y → x ≤ (if b then x else if c then x else y)
one_of true c x y h = omega arith
one_of false true x y h = omega arith
one_of false false x y h = h

pub field_behind : (bit unit width : ℕ) → bit ≤ field_start bit unit width
field_behind bit unit width = one_of (unit == 0) (nat_lt 0 width && nat_le (bit % unit + width) unit) bit (round_up bit unit) (round_up_behind bit unit)

-- so many further bits stay within the unit
within_unit : (n k unit : ℕ) → n % unit + k < unit → n / unit ≡ (n + k) / unit
within_unit n k unit h =
    let parts : n / unit * unit + n % unit ≡ n = div-add-mod' n unit in
    let whole : n / unit * unit + (n % unit + k) ≡ n + k = omega arith in
    sym (ap (λ (x : ℕ). x / unit) (sym whole) ∙ div-mul-add (n / unit) unit (n % unit + k) h)

from_multiple : (count k unit : ℕ) → k < unit → count * unit / unit ≡ (count * unit + k) / unit
from_multiple count k unit h =
    let some : 0 < unit = omega arith in
    let here : count * unit + 0 ≡ count * unit = omega arith in
    ap (λ (x : ℕ). x / unit) (sym here) ∙ div-mul-add count unit 0 some ∙ sym (div-mul-add count unit k h)

both_left : (b c : Bool) → (b && c) ≡ true → c ≡ true
both_left true c h = h
both_left false c h = search (rules, h)

chosen : (b c : Bool) (bit unit width : ℕ) → (unit == 0) ≡ b → (nat_lt 0 width && nat_le (bit % unit + width) unit) ≡ c → 0 < width → width ≤ unit
    → (if b then bit else if c then bit else round_up bit unit) / unit ≡ ((if b then bit else if c then bit else round_up bit unit) + (width - 1)) / unit
chosen true c bit unit width e g some most = let none : unit ≡ 0 = is_zero unit e in absurd (omega arith)
chosen false true bit unit width e g some most =
    let fits : bit % unit + width ≤ unit = is_below (bit % unit + width) unit (both_left (nat_lt 0 width) (nat_le (bit % unit + width) unit) g) in
    within_unit bit (width - 1) unit (omega arith)
chosen false false bit unit width e g some most =
    let up = round_up_multiple bit unit (omega arith) in
    ap (λ (x : ℕ). x / unit) up
    ∙ from_multiple ((bit + (unit - 1)) / unit) (width - 1) unit (omega arith)
    ∙ ap (λ (x : ℕ). (x + (width - 1)) / unit) (sym up)

pub field_in_unit : (bit unit width : ℕ) → 0 < width → width ≤ unit → field_start bit unit width / unit ≡ (field_start bit unit width + (width - 1)) / unit
field_in_unit bit unit width some most = chosen (unit == 0) (nat_lt 0 width && nat_le (bit % unit + width) unit) bit unit width refl refl some most

eighths : (bits total count align : ℕ) → total ≡ count * (8 * align) → bits ≤ total → bits ≤ 8 * (total / 8)
eighths bits total count align e h =
    let eight : count * (8 * align) ≡ count * align * 8 + 0 = grind arith in
    let quotient : total / 8 ≡ count * align = ap (λ (x : ℕ). x / 8) (e ∙ eight) ∙ div-mul-add (count * align) 8 0 (omega arith) in
    omega arith

-- a size that is rounded up has room for what it was rounded up from
pub rounded_size : (bits align : ℕ) → 0 < align → bits ≤ 8 * (round_up bits (8 * align) / 8)
rounded_size bits align some =
    let count = (bits + (8 * align - 1)) / (8 * align) in
    let up : round_up bits (8 * align) ≡ count * (8 * align) = round_up_multiple bits (8 * align) (omega arith) in
    let behind : bits ≤ round_up bits (8 * align) = round_up_behind bits (8 * align) in
    eighths bits (round_up bits (8 * align)) count align up behind

-- 64 bits are what they are modulo 2 ^ 64
pub whole_bits : (n : ℕ) → n < 2 ^ 64 → n % 2 ^ 64 ≡ n
whole_bits n h = mod-eq_of_lt h
