-- The parts that stand are those of a normal form.
use Rattle.std.proofs.Common.{◌≡◌, ℕ, Bool, true, false, List, [], ◌∷◌, ◌++◌, ◌⊎◌, inl, inr, ⊎_elim, refl, sym, subst}
use Rattle.std.specs.Prelude.{reverse}
use Rattle.std.specs.List.{fold}
use Rattle.std.specs.Str.{bytes_eq}
use Rattle.std.proofs.lemmas.Bool.{cond-true, cond-false}
use Rattle.std.proofs.lemmas.List.{append-nil}
use Rattle.std.proofs.lemmas.Slice.Eq.{bytes_eq-Decides}
use Rattle.cl_paths.specs.Parts.{up, parts, is_rooted, gone_up, gone_on, standing, normal_parts}
use Rattle.cl_paths.specs.Places.{IsName, AreNames, IsNormal}
use Rattle.cl_paths.proofs.Ways.{Part, gone_up_cons, kinds, moved, name_stays, not_up}

abbrev AllUp : List Part → Type 0
AllUp [] = Unit {0}
AllUp (p ∷ ps) = (p ≡ up) × AllUp ps

-- a normal form with the last part first
abbrev Stacked : Bool → List Part → Type 0
Stacked rooted [] = Unit {0}
Stacked rooted (p ∷ ps) = (IsName p × Stacked rooted ps) ⊎ ((p ≡ up) × (rooted ≡ false) × AllUp ps)

up_stacked : (rooted : Bool) (past : List Part) → Stacked rooted past → Stacked rooted (gone_up rooted past)
up_stacked true [] h = tt
up_stacked false [] h = inr (refl, refl, tt)
up_stacked rooted (last ∷ past) h =
    subst (Stacked rooted) (sym (gone_up_cons rooted last past))
    (⊎_elim (λ n. subst (Stacked rooted) (sym (cond-false (bytes_eq last up) (up ∷ last ∷ past) past (not_up last n.0))) n.1)
    (λ u. subst (Stacked rooted) (sym (cond-true (bytes_eq last up) (up ∷ last ∷ past) past ((bytes_eq-Decides last up).1 u.0))) (inr (refl, u.1, (u.0, u.2))))
    h)

one_stacked : (rooted : Bool) (past : List Part) (part : Part) → Stacked rooted past → Stacked rooted (gone_on rooted past part)
one_stacked rooted past part h =
    let goal : Part → Type 0 = λ q. Stacked rooted (gone_on rooted past q) in
    ⊎_elim (λ e. subst goal (sym e) h)
    (⊎_elim (λ e. subst goal (sym e) h)
    (⊎_elim (λ e. subst goal (sym e) (up_stacked rooted past h)) (λ n. subst (Stacked rooted) (sym (name_stays rooted past part n)) (inl (n, h)))))
    (kinds part)

all_stacked : (rooted : Bool) (past ps : List Part) → Stacked rooted past → Stacked rooted (fold (gone_on rooted) past ps)
all_stacked rooted past [] h = h
all_stacked rooted past (p ∷ ps) h = all_stacked rooted (gone_on rooted past p) ps (one_stacked rooted past p h)

names_normal : (rooted : Bool) (ps : List Part) → AreNames ps → IsNormal rooted ps
names_normal true ps h = h
names_normal false [] h = tt
names_normal false (p ∷ ps) h = inr h

ups_normal : (past ps : List Part) → AllUp past → IsNormal false ps → IsNormal false (reverse past ++ ps)
ups_normal [] ps u h = h
ups_normal (p ∷ past) ps u h = subst (IsNormal false) (sym (moved p past ps)) (ups_normal past (p ∷ ps) u.1 (inl (u.0, h)))

normal_on : (rooted : Bool) (past ps : List Part) → Stacked rooted past → AreNames ps → IsNormal rooted (reverse past ++ ps)
normal_on rooted [] ps h k = names_normal rooted ps k
normal_on rooted (p ∷ past) ps h k =
    subst (IsNormal rooted) (sym (moved p past ps))
    (⊎_elim (λ n. normal_on rooted past (p ∷ ps) n.1 (n.0, k))
    (λ u. subst (λ r. IsNormal r (reverse past ++ p ∷ ps)) (sym u.1) (ups_normal past (p ∷ ps) u.2 (inl (u.0, names_normal false ps k))))
    h)

pub normal_shape : (path : List ℕ) → IsNormal (is_rooted path) (normal_parts path)
unfolding standing
normal_shape path =
    let rooted = is_rooted path in
    let past : List Part = fold (gone_on rooted) [] (parts path) in
    subst (IsNormal rooted) (append-nil (reverse past)) (normal_on rooted past [] (all_stacked rooted [] (parts path) tt) tt)
