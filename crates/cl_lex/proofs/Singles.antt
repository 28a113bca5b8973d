-- The punctuators that begin no longer one.
use Rattle.std.proofs.Common.{◌≡◌, ◌⊎◌, ℕ, zero, suc, ◌+◌, ◌<◌, List, true, arith, slice_index}
use Rattle.std.proofs.lemmas.Bool.{false≢true}
use Rattle.std.proofs.lemmas.Bool.Decides.{nat_tests}
use Rattle.cl_lex.specs.Punctuators.{is_punctuator, is_punctuator_1, is_punctuator_2}
use Rattle.cl_lex.specs.code.Scans.{is_single}
use Rattle.cl_lex.proofs.Classes.{punct_four, punct_three}

pub single_is : (c : ℕ) → is_single c ≡ true → is_punctuator_1 c ≡ true
single_is c e = grind (arith, nat_tests)

not_two : (a b : ℕ) → is_single a ≡ true → is_punctuator_2 a b ≡ true → ⊥
not_two a b e f = grind (arith, nat_tests)

not_three : (a b : ℕ) → is_single a ≡ true → ((a ≡ 46) × (b ≡ 46)) ⊎ ((a ≡ 60) ⊎ (a ≡ 62)) → ⊥
not_three a b e f = grind (arith, nat_tests)

not_four : (a : ℕ) → is_single a ≡ true → a ≡ 37 → ⊥
not_four a e f = grind (arith, nat_tests)

pub single_longest : (cs : List ℕ) (at n : ℕ) → is_single (slice_index cs at) ≡ true → 1 < n → is_punctuator cs at n ≡ true → ⊥
single_longest cs at zero e l p = omega arith
single_longest cs at (suc zero) e l p = omega arith
single_longest cs at (suc (suc zero)) e l p = not_two (slice_index cs at) (slice_index cs (at + 1)) e p
single_longest cs at (suc (suc (suc zero))) e l p =
    not_three (slice_index cs at) (slice_index cs (at + 1)) e (punct_three (slice_index cs at) (slice_index cs (at + 1)) (slice_index cs (at + 2)) p)
single_longest cs at (suc (suc (suc (suc zero)))) e l p =
    not_four (slice_index cs at) e (punct_four (slice_index cs at) (slice_index cs (at + 1)) (slice_index cs (at + 2)) (slice_index cs (at + 3)) p)
single_longest cs at (suc (suc (suc (suc (suc n))))) e l p = absurd (false≢true p)
