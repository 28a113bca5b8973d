-- The numbers of files.
use Rattle.std.proofs.Common.{◌≡◌, ℕ, suc, ◌+◌, ◌≤◌, Bool, true, false, List, [], ◌∷◌, ap, ◌∙◌, arith}
use Rattle.std.specs.Prelude.{if◌then◌else◌, nat_eq}
use Rattle.std.specs.Cmp.Lexicographic.{pointwise}
use Rattle.cl_pp.specs.Standing.{number_in}

pub number_here : (files rest behind : List (List ℕ)) (file path : List ℕ) (n : ℕ) → rest ≡ file ∷ behind → pointwise nat_eq file path ≡ true → number_in files path + 1 ≡ number_in rest path + n → n ≡ number_in files path
number_here files rest behind file path n r e h =
    let one : number_in rest path ≡ 1 = ap (λ (fs : List (List ℕ)). number_in fs path) r ∙ ap (λ (b : Bool). if b then 1 else suc (number_in behind path)) e in
    omega arith

pub number_on : (files rest behind : List (List ℕ)) (file path : List ℕ) (n : ℕ) → rest ≡ file ∷ behind → pointwise nat_eq file path ≡ false → number_in files path + 1 ≡ number_in rest path + n
    → number_in files path + 1 ≡ number_in behind path + (n + 1)
number_on files rest behind file path n r e h =
    let one : number_in rest path ≡ suc (number_in behind path) = ap (λ (fs : List (List ℕ)). number_in fs path) r ∙ ap (λ (b : Bool). if b then 1 else suc (number_in behind path)) e in
    omega arith

if_number : (b : Bool) (n : ℕ) → 1 ≤ n → 1 ≤ (if b then 1 else suc n)
if_number true n h = omega arith
if_number false n h = omega arith

pub some_number : (files : List (List ℕ)) (path : List ℕ) → 1 ≤ number_in files path
some_number [] path = omega arith
some_number (f ∷ fs) path = if_number (pointwise nat_eq f path) (number_in fs path) (some_number fs path)
