-- The characters of a literal, one after the other.
use Rattle.std.proofs.Common.{◌≡◌, ◌≢◌, ℕ, zero, suc, ◌-◌, ◌<◌, ◌≤◌, List, [], ◌∷◌, refl, sym, ap, ◌∙◌, arith, length, take, drop, ⊎_elim}
use Rattle.std.specs.Prelude.{min}
use Rattle.std.proofs.lemmas.Bool.{cases_lt}
use Rattle.std.proofs.lemmas.List.{drop_all, take_min}
use Rattle.cl_const.specs.Characters.{c_char_len}
use Rattle.cl_literals.specs.Strings.{characters}

-- those that belong to what is before are passed
passed : (n : ℕ) (bs : List ℕ) → characters n bs ≡ characters 0 (drop n bs)
passed zero [] = refl
passed zero (b ∷ bs) = refl
passed (suc n) [] = refl
passed (suc n) (b ∷ bs) = passed n bs

drop_most : (n : ℕ) (bs : List ℕ) → drop n bs ≡ drop (min n (length bs)) bs
drop_most n bs =
    ⊎_elim
    (λ (h : n < length bs). let e : n ≡ min n (length bs) = omega arith in ap (λ (k : ℕ). drop k bs) e)
    (λ (h : length bs ≤ n). drop_all n bs h ∙ sym (drop_all (min n (length bs)) bs (omega arith)))
    (cases_lt n (length bs))

drop_one : (n : ℕ) (b : ℕ) (bs : List ℕ) → 0 < n → drop (n - 1) bs ≡ drop n (b ∷ bs)
drop_one zero b bs h = absurd (omega arith)
drop_one (suc n) b bs h = ap (λ (k : ℕ). drop k bs) (omega arith)

-- one character, and those after it
pub one_more : (bs front left : List ℕ) (n k : ℕ) → 0 < length bs → 0 < n → n ≡ c_char_len bs → k ≡ min n (length bs) → front ≡ take k bs → left ≡ drop k bs
    → characters 0 bs ≡ front ∷ characters 0 left
one_more [] front left n m h k e i f g = absurd (omega arith)
one_more (b ∷ bs) front left n m h k e i f g =
    let some : 0 < c_char_len (b ∷ bs) = omega arith in
    let here : take (c_char_len (b ∷ bs)) (b ∷ bs) ≡ front = ap (λ (m : ℕ). take m (b ∷ bs)) (sym e) ∙ sym (take_min n (b ∷ bs)) ∙ ap (λ (j : ℕ). take j (b ∷ bs)) (sym i) ∙ sym f in
    let rest : drop (c_char_len (b ∷ bs) - 1) bs ≡ left = drop_one (c_char_len (b ∷ bs)) b bs some ∙ ap (λ (m : ℕ). drop m (b ∷ bs)) (sym e) ∙ drop_most n (b ∷ bs) ∙ ap (λ (j : ℕ). drop j (b ∷ bs)) (sym i) ∙ sym g in
    ap (λ (c : List ℕ). c ∷ characters (c_char_len (b ∷ bs) - 1) bs) here
    ∙ ap (λ (x : List (List ℕ)). front ∷ x) (passed (c_char_len (b ∷ bs) - 1) bs ∙ ap (characters 0) rest)

pub some_length : (bs : List ℕ) → bs ≢ [] → 0 < length bs
some_length [] h = absurd (h refl)
some_length (b ∷ bs) h = omega arith
