-- The tokens that replace an invocation, laid one by one.
use Rattle.std.proofs.Common.{◌≡◌, ◌∙◌, ap, refl, sym, subst, arith, ℕ, Bool, true, false, List, [], ◌∷◌, ◌++◌, map, reverse}
use Rattle.std.proofs.lemmas.Grind.{common_steps}
use Rattle.cl_macro.specs.declared.word.Word.{Word}
use Rattle.cl_macro.specs.Words.{painted}
use Rattle.cl_macro.specs.Pasting.{spaced, with_space}

pub never : (b : Bool) → b ≡ true → b ≡ false → ⊥
never b e f = cc

pub spaced_first : (space : Bool) (ws : List Word) (w : Word) → ws ≡ [] → spaced space (ws ++ w ∷ []) ≡ spaced space ws ++ with_space space w ∷ []
spaced_first space ws w e = subst (λ (vs : List Word). spaced space (vs ++ w ∷ []) ≡ spaced space vs ++ with_space space w ∷ []) (sym e) refl

pub spaced_last : (space : Bool) (ws : List Word) (w : Word) → (ws ≡ [] → ⊥) → spaced space (ws ++ w ∷ []) ≡ spaced space ws ++ w ∷ []
spaced_last space [] w n = absurd (n refl)
spaced_last space (x ∷ ws) w n = refl

map_last : (set : List (List ℕ)) (xs : List Word) (x : Word) (ys : List Word)
    → map (painted set) xs ++ painted set x ∷ ys ≡ map (painted set) (xs ++ x ∷ []) ++ ys
map_last set [] x ys = refl
map_last set (w ∷ xs) x ys = ap (λ zs. painted set w ∷ zs) (map_last set xs x ys)

pub laid : (set : List (List ℕ)) (space : Bool) (words words2 : List Word) (w x y : Word) (work work2 total : List Word)
    → map (painted set) (spaced space words) ++ reverse work ≡ total → words ≡ words2 ++ w ∷ []
    → spaced space (words2 ++ w ∷ []) ≡ spaced space words2 ++ x ∷ [] → y ≡ painted set x → work2 ≡ work ++ y ∷ []
    → map (painted set) (spaced space words2) ++ reverse work2 ≡ total
laid set space words words2 w x y work work2 total inv eq es ey ew =
    let r : reverse (work ++ y ∷ []) ≡ y ∷ reverse work = grind (arith, common_steps) in
    ap (λ xs. map (painted set) (spaced space words2) ++ reverse xs) ew
    ∙ ap (λ xs. map (painted set) (spaced space words2) ++ xs) r
    ∙ ap (λ z. map (painted set) (spaced space words2) ++ z ∷ reverse work) ey
    ∙ map_last set (spaced space words2) x (reverse work)
    ∙ ap (λ xs. map (painted set) xs ++ reverse work) (sym es)
    ∙ ap (λ xs. map (painted set) (spaced space xs) ++ reverse work) (sym eq)
    ∙ inv
