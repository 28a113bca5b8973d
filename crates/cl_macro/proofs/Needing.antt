-- The arguments that are needed.
use Rattle.std.proofs.Common.{◌≡◌, ℕ, zero, suc, ◌+◌, Bool, true, false, List, [], ◌∷◌, ◌++◌, length, take, reverse, Some, refl, sym, ap, ◌∙◌, arith, append_assoc}
use Rattle.std.specs.List.{slice_get}
use Rattle.std.proofs.lemmas.Grind.{common_steps}
use Rattle.cl_base.specs.declared.macros.Macro.{Macro}
use Rattle.cl_macro.specs.declared.word.Word.{Word}
use Rattle.cl_macro.specs.Params.{needed_from, needed_one}

needed_by : (m : Macro) (raw : Bool) (k : ℕ) (args : List (List Word)) (arg : List Word)
    → needed_from m raw k (args ++ arg ∷ []) ≡ needed_from m raw k args ++ needed_one m raw (k + length args) arg ∷ []
needed_by m raw k [] arg = ap (λ j. needed_one m raw j arg ∷ []) (let z : k ≡ k + 0 = omega arith in z)
needed_by m raw k (a ∷ args) arg = ap (λ ys. needed_one m raw k a ∷ ys) (needed_by m raw (k + 1) args arg)
    ∙ ap (λ j. (needed_one m raw k a ∷ needed_from m raw (k + 1) args) ++ needed_one m raw j arg ∷ []) (let h : k + 1 + length args ≡ k + suc (length args) = omega arith in h)

-- the last argument is taken off
pub asked_on : (m : Macro) (total all2 : List (List Word)) (args args2 all : List (List Word)) (arg one : List Word) (n : ℕ)
    → total ≡ needed_from m false 0 args ++ reverse all → args ≡ args2 ++ arg ∷ [] → n ≡ length args2 → one ≡ needed_one m false n arg → all2 ≡ all ++ one ∷ []
    → total ≡ needed_from m false 0 args2 ++ reverse all2
asked_on m total all2 args args2 all arg one n e a h o l =
    let r : reverse (all ++ one ∷ []) ≡ one ∷ reverse all = grind (arith, common_steps) in
    e ∙ ap (λ xs. needed_from m false 0 xs ++ reverse all) a ∙ ap (λ ys. ys ++ reverse all) (needed_by m false 0 args2 arg)
    ∙ append_assoc (needed_from m false 0 args2) (needed_one m false (0 + length args2) arg ∷ []) (reverse all)
    ∙ ap (λ x. needed_from m false 0 args2 ++ x ∷ reverse all) (ap (λ j. needed_one m false j arg) (let z : 0 + length args2 ≡ n = omega arith in z) ∙ sym o)
    ∙ ap (λ ys. needed_from m false 0 args2 ++ ys) (sym r ∙ ap reverse (sym l))

take_more : (i : ℕ) (args : List (List Word)) (arg : List Word) → slice_get args i ≡ Some arg → take (i + 1) args ≡ take i args ++ arg ∷ []
take_more i [] arg e = cc
take_more zero (x ∷ args) arg e = let h : x ≡ arg = cc in ap (λ y. y ∷ []) h
take_more (suc i) (x ∷ args) arg e = (let h : suc i + 1 ≡ suc (i + 1) = omega arith in ap (λ n. take n (x ∷ args)) h) ∙ ap (λ ys. x ∷ ys) (take_more i args arg e)

needed_length : (m : Macro) (raw : Bool) (k : ℕ) (args : List (List Word)) → length (needed_from m raw k args) ≡ length args
needed_length m raw k [] = refl
needed_length m raw k (a ∷ args) = ap suc (needed_length m raw (k + 1) args)

-- the next argument is copied
pub raws_on : (m : Macro) (all all2 args : List (List Word)) (arg one : List Word) (i n : ℕ)
    → all ≡ needed_from m true 0 (take i args) → slice_get args i ≡ Some arg → n ≡ length all → one ≡ needed_one m true n arg → all2 ≡ all ++ one ∷ []
    → all2 ≡ needed_from m true 0 (take (i + 1) args)
raws_on m all all2 args arg one i n e g h o l =
    let k : n ≡ 0 + length (take i args) = let a = needed_length m true 0 (take i args) in let b = ap length e in omega arith in
    l ∙ (λ j. e j ++ (o ∙ ap (λ x. needed_one m true x arg) k) j ∷ []) ∙ sym (needed_by m true 0 (take i args) arg)
    ∙ ap (needed_from m true 0) (sym (take_more i args arg g))
