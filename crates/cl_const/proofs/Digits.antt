-- More digits count more.
use Rattle.std.proofs.Common.{◌≡◌, ℕ, ◌+◌, ◌*◌, ◌<◌, ◌≤◌, List, [], ◌∷◌, take, drop, length, get_or, sym, ap, ◌∙◌, arith}
use Rattle.std.specs.List.{fold}
use Rattle.std.proofs.lemmas.List.{take-append-drop}
use Rattle.std.proofs.lemmas.List.Sums.{fold_more, fold-append}
use Rattle.cl_const.specs.declared.integers.Base.{Base}
use Rattle.cl_const.specs.declared.integers.Base.TheVariants.{Octal, Decimal, Hexadecimal}
use Rattle.cl_const.specs.Integers.{digit, digits_value, radix}

abbrev with : Base → ℕ → ℕ → ℕ
with base value byte = value * radix base + digit byte

more : (base : Base) (value byte : ℕ) → value ≤ with base value byte
more Octal value byte = omega arith
more Decimal value byte = omega arith
more Hexadecimal value byte = omega arith

grows : (base : Base) (value : ℕ) (bytes : List ℕ) → value ≤ fold (with base) value bytes
grows base value [] = omega arith
grows base value (byte ∷ bytes) =
    let one = more base value byte in
    let rest = grows base (with base value byte) bytes in
    omega arith

pub digits_grow : (base : Base) (digits : List ℕ) (i d most : ℕ) → i < length digits → most ≤ digits_value base (take i digits) * radix base + digit (get_or digits i d) → most ≤ digits_value base digits
digits_grow base digits i d most l h =
    let step : digits_value base (take (i + 1) digits) ≡ with base (digits_value base (take i digits)) (get_or digits i d) = fold_more (with base) 0 digits i d l in
    let whole : digits_value base digits ≡ fold (with base) (digits_value base (take (i + 1) digits)) (drop (i + 1) digits) =
    ap (digits_value base) (sym (take-append-drop (i + 1) digits)) ∙ fold-append (with base) 0 (take (i + 1) digits) (drop (i + 1) digits) in
    let rest = grows base (digits_value base (take (i + 1) digits)) (drop (i + 1) digits) in
    omega arith
