-- What a list of parts comes to leads where the list does, and lists that lead to one place come to one list.
use Rattle.std.proofs.Common.{◌≡◌, Bool, true, false, if◌then◌else◌, ℕ, List, [], ◌∷◌, ◌++◌, ◌⊎◌, inl, inr, ⊎_elim, refl, sym, ap, ◌∙◌, subst, append_assoc}
use Rattle.std.specs.Prelude.{reverse}
use Rattle.std.specs.List.{fold}
use Rattle.std.specs.Str.{bytes_eq}
use Rattle.std.proofs.lemmas.Bool.{cond-false, cond_both, cases_Bool, false_from_ne_true, or_from}
use Rattle.std.proofs.lemmas.List.{append-nil, reverse-append}
use Rattle.std.proofs.lemmas.List.Sums.{fold-append}
use Rattle.std.proofs.lemmas.Slice.Eq.{bytes_eq-Decides}
use Rattle.cl_paths.specs.Parts.{here, up, is_idle, gone_up, gone_on, standing}
use Rattle.cl_paths.specs.Places.{IsName, SameWay}
use Rattle.cl_paths.specs.Places.SameWay.{same, turned, chained, empty, dot, back, top}

abbrev pub Part : Type 0
Part = List ℕ

both : (b : Bool) → b ≡ true → b ≡ false → ⊥
both b t f = cc

-- ---- one part more

pub not_up : (part : Part) → IsName part → bytes_eq part up ≡ false
not_up part h = false_from_ne_true _ (λ e. h.down ((bytes_eq-Decides part up).0 e))

not_idle : (part : Part) → IsName part → is_idle part ≡ false
not_idle part h =
    or_from _ _ (false_from_ne_true _ (λ e. h.full ((bytes_eq-Decides part []).0 e))) (false_from_ne_true _ (λ e. h.other ((bytes_eq-Decides part here).0 e)))

pub name_stays : (rooted : Bool) (past : List Part) (part : Part) → IsName part → gone_on rooted past part ≡ part ∷ past
name_stays rooted past part h = cond-false _ _ _ (not_idle part h) ∙ cond-false _ _ _ (not_up part h)

pub gone_up_cons : (rooted : Bool) (last : Part) (past : List Part) → gone_up rooted (last ∷ past) ≡ (if bytes_eq last up then up ∷ last ∷ past else past)
gone_up_cons true last past = refl
gone_up_cons false last past = refl

-- ---- lists that lead to one place

on : (rooted : Bool) (ps xs ys : List Part) → fold (gone_on rooted) (fold (gone_on rooted) [] ps) xs ≡ fold (gone_on rooted) (fold (gone_on rooted) [] ps) ys
    → fold (gone_on rooted) [] (ps ++ xs) ≡ fold (gone_on rooted) [] (ps ++ ys)
on rooted ps xs ys e = fold-append (gone_on rooted) [] ps xs ∙ e ∙ sym (fold-append (gone_on rooted) [] ps ys)

there_and_back : (rooted : Bool) (past : List Part) (part : Part) → IsName part → gone_on rooted (gone_on rooted past part) up ≡ past
there_and_back rooted past part h =
    ap (λ t. gone_on rooted t up) (name_stays rooted past part h) ∙ gone_up_cons rooted part past ∙ cond-false _ _ _ (not_up part h)

pub kept_by : (rooted : Bool) {ps qs : List Part} → SameWay rooted ps qs → fold (gone_on rooted) [] ps ≡ fold (gone_on rooted) [] qs
kept_by rooted (same ps) = refl
kept_by rooted (turned ps qs w) = sym (kept_by rooted w)
kept_by rooted (chained ps qs rs v w) = kept_by rooted v ∙ kept_by rooted w
kept_by rooted (empty ps qs) = on rooted ps ([] ∷ qs) qs refl
kept_by rooted (dot ps qs) = on rooted ps (here ∷ qs) qs refl
kept_by rooted (back ps qs part h) =
    on rooted ps (part ∷ up ∷ qs) qs (ap (λ t. fold (gone_on rooted) t qs) (there_and_back rooted (fold (gone_on rooted) [] ps) part h))
kept_by rooted (top qs e) = ap (λ t. fold (gone_on rooted) t qs) (ap (λ r. gone_up r []) e)

-- ---- the parts that stand

-- of these each has what the parts have, and is a name or a `..`
abbrev pub Stands : (Part → Type 0) → Part → Type 0
Stands P part = P part × (IsName part ⊎ (part ≡ up))

abbrev pub Each : (Part → Type 0) → List Part → Type 0
Each P [] = Unit {0}
Each P (p ∷ ps) = P p × Each P ps

pub moved : (x : Part) (xs ys : List Part) → reverse (x ∷ xs) ++ ys ≡ reverse xs ++ x ∷ ys
moved x xs ys = ap (λ zs. zs ++ ys) (reverse-append (x ∷ []) xs) ∙ append_assoc (reverse xs) (x ∷ []) ys

pub each_reversed : (P : Part → Type 0) (xs ys : List Part) → Each P xs → Each P ys → Each P (reverse xs ++ ys)
each_reversed P [] ys h k = k
each_reversed P (x ∷ xs) ys h k = subst (Each P) (sym (moved x xs ys)) (each_reversed P xs (x ∷ ys) h.1 (h.0, k))

abbrev Leads : (Part → Type 0) → Bool → List Part → List Part → List Part → Type 0
Leads P rooted ps past ns = SameWay rooted ps (reverse past ++ ns) × Each (Stands P) past

up_leads : (P : Part → Type 0) → P up → (rooted : Bool) (past ps : List Part) → Each (Stands P) past → Leads P rooted (reverse past ++ up ∷ ps) (gone_up rooted past) ps
up_leads P u true [] ps h = (top ps refl, tt)
up_leads P u false [] ps h = (same (up ∷ ps), ((u, inr refl), tt))
up_leads P u rooted (last ∷ past) ps h =
    let way : Each (Stands P) (last ∷ past) → Leads P rooted (reverse (last ∷ past) ++ up ∷ ps) (if bytes_eq last up then up ∷ last ∷ past else past) ps = λ all.
    cond_both (bytes_eq last up) (up ∷ last ∷ past) past (λ t. Leads P rooted (reverse (last ∷ past) ++ up ∷ ps) t ps)
    (λ e. (subst (λ z. SameWay rooted (reverse (last ∷ past) ++ up ∷ ps) z) (sym (moved up (last ∷ past) ps)) (same _), ((u, inr refl), all)))
    (λ e. (up_after rooted last past ps (name_of last all.0.1 e), all.1)) in
    subst (λ t. Leads P rooted (reverse (last ∷ past) ++ up ∷ ps) t ps) (sym (gone_up_cons rooted last past)) (way h)
  where
    up_after : (rooted : Bool) (last : Part) (past ps : List Part) → IsName last → SameWay rooted (reverse (last ∷ past) ++ up ∷ ps) (reverse past ++ ps)
    up_after rooted last past ps n = subst (λ z. SameWay rooted z (reverse past ++ ps)) (sym (moved last past (up ∷ ps))) (back (reverse past) ps last n)

    name_of : (last : Part) → IsName last ⊎ (last ≡ up) → bytes_eq last up ≡ false → IsName last
    name_of last (inl n) e = n
    name_of last (inr s) e = absurd (both (bytes_eq last up) ((bytes_eq-Decides last up).1 s) e)

name_leads : (P : Part → Type 0) (rooted : Bool) (past ps : List Part) (part : Part) → P part → IsName part → Each (Stands P) past → Leads P rooted (reverse past ++ part ∷ ps) (gone_on rooted past part) ps
name_leads P rooted past ps part p n h =
    subst (λ t. Leads P rooted (reverse past ++ part ∷ ps) t ps) (sym (name_stays rooted past part n))
    (subst (λ z. SameWay rooted (reverse past ++ part ∷ ps) z) (sym (moved part past ps)) (same _), ((p, inl n), h))

-- a part is empty, `.`, `..` or a name
pub kinds : (part : Part) → (part ≡ []) ⊎ ((part ≡ here) ⊎ ((part ≡ up) ⊎ IsName part))
kinds part =
    ⊎_elim (λ e. inl ((bytes_eq-Decides part []).0 e))
    (λ a. ⊎_elim (λ e. inr (inl ((bytes_eq-Decides part here).0 e)))
    (λ b. ⊎_elim (λ e. inr (inr (inl ((bytes_eq-Decides part up).0 e))))
    (λ c. inr (inr (inr (record { full = not_the part [] a; other = not_the part here b; down = not_the part up c }))))
    (cases_Bool (bytes_eq part up)))
    (cases_Bool (bytes_eq part here)))
    (cases_Bool (bytes_eq part []))
  where
    not_the : (x y : Part) → bytes_eq x y ≡ false → x ≡ y → ⊥
    not_the x y f e = both (bytes_eq x y) ((bytes_eq-Decides x y).1 e) f

one_leads : (P : Part → Type 0) → P up → (rooted : Bool) (past ps : List Part) (part : Part) → P part → Each (Stands P) past → Leads P rooted (reverse past ++ part ∷ ps) (gone_on rooted past part) ps
one_leads P u rooted past ps part p h =
    let goal : Part → Type 0 = λ q. Leads P rooted (reverse past ++ q ∷ ps) (gone_on rooted past q) ps in
    ⊎_elim (λ e. subst goal (sym e) (empty (reverse past) ps, h))
    (⊎_elim (λ e. subst goal (sym e) (dot (reverse past) ps, h))
    (⊎_elim (λ e. subst goal (sym e) (up_leads P u rooted past ps h)) (λ n. name_leads P rooted past ps part p n h)))
    (kinds part)

all_lead : (P : Part → Type 0) → P up → (rooted : Bool) (past ps : List Part) → Each P ps → Each (Stands P) past → Leads P rooted (reverse past ++ ps) (fold (gone_on rooted) past ps) []
all_lead P u rooted past [] k h = (same _, h)
all_lead P u rooted past (p ∷ ps) k h =
    let first : Leads P rooted (reverse past ++ p ∷ ps) (gone_on rooted past p) ps = one_leads P u rooted past ps p k.0 h in
    let rest : Leads P rooted (reverse (gone_on rooted past p) ++ ps) (fold (gone_on rooted) (gone_on rooted past p) ps) [] = all_lead P u rooted (gone_on rooted past p) ps k.1 first.1 in
    (chained _ _ _ first.0 rest.0, rest.1)

-- the parts that stand lead where all do, and each is a name or a `..`
pub standing_leads : (P : Part → Type 0) → P up → (rooted : Bool) (ps : List Part) → Each P ps → SameWay rooted ps (standing rooted ps) × Each (Stands P) (standing rooted ps)
unfolding standing
standing_leads P u rooted ps k =
    let all : Leads P rooted ps (fold (gone_on rooted) [] ps) [] = all_lead P u rooted [] ps k tt in
    let end = append-nil (reverse (fold (gone_on rooted) [] ps)) in
    (subst (SameWay rooted ps) end all.0, subst (Each (Stands P)) end (each_reversed (Stands P) (fold (gone_on rooted) [] ps) [] all.1 tt))
