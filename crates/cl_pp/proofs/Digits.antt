-- The digits of a line's number.
use Rattle.std.proofs.Common.{◌≡◌, ℕ, ◌+◌, ◌*◌, ◌-◌, ◌<◌, ◌≤◌, Bool, true, false, List, [], ◌∷◌, refl, arith}
use Rattle.std.specs.Prelude.{◌&&◌, nat_le}
use Rattle.std.specs.List.{list_all}
use Rattle.cl_pp.specs.LineNumbers.{is_digit, number_from}
use Rattle.cl_pp.specs.code.Numbers.{is_number_of}

grows : (n : ℕ) (ds : List ℕ) → n ≤ number_from n ds
grows n [] = omega arith
grows n (d ∷ ds) = let h = grows (10 * n + (d - 48)) ds in omega (arith, h)

never : (a b c : Bool) → c ≡ false → (a && (b && c)) ≡ false
never true true c e = e
never true false c e = refl
never false b c e = refl

pub too_large : (v d : ℕ) (ds : List ℕ) → 2147483647 < 10 * v + (d - 48) → is_number_of v (d ∷ ds) ≡ false
too_large v d ds h =
    let g = grows (10 * v + (d - 48)) ds in
    let l : nat_le (number_from v (d ∷ ds)) 2147483647 ≡ false = grind (arith, g, h) in
    never (list_all is_digit (d ∷ ds)) (nat_le 1 (number_from v (d ∷ ds))) (nat_le (number_from v (d ∷ ds)) 2147483647) l
