-- Names that stand in a list once.
use Rattle.std.proofs.Common.{◌≡◌, ℕ, List, [], ◌∷◌, ◌++◌, Bool, true, false, ◌||◌, refl, sym, ap, subst, ◌∙◌, append_assoc}
use Rattle.std.proofs.lemmas.Bool.{and_from, and_left, and_right}
use Rattle.std.proofs.lemmas.Map.Text.{is_eq-slice_cmp}
use Rattle.std.proofs.Math.Bool.{cond}
use Rattle.std.specs.Prelude.{not}
use Rattle.std.specs.BTreeSet.{BTreeSet, contains, Updates}
use Rattle.std.specs.Cmp.Lexicographic.{slice_cmp}
use Rattle.std.specs.Ordering.{nat_cmp}
use Rattle.cl_base.specs.Tokens.{spells}
use Rattle.cl_define.specs.Words.{has}
use Rattle.cl_define.specs.Constraints.{are_distinct}
use Rattle.cl_define.specs.code.Sets.{Gathered, Holds}

chosen : (b x : Bool) → cond b true x ≡ (b || x)
chosen true x = refl
chosen false x = refl

-- a set with one name more
pub holds_more : (old new : BTreeSet (List ℕ)) (name : List ℕ) (names : List (List ℕ)) → Updates (slice_cmp nat_cmp) old new name true → Holds old names → Holds new (name ∷ names)
holds_more old new name names u h = λ q.
    u.0 q ∙ (λ i. cond (is_eq-slice_cmp name q i) true (h q i)) ∙ chosen (spells name q) (has names q)

pub added_told : (old new : BTreeSet (List ℕ)) (name copy : List ℕ) (names : List (List ℕ)) (added : Bool) → copy ≡ name
    → added ≡ not (contains (slice_cmp nat_cmp) old copy) → Updates (slice_cmp nat_cmp) old new copy true → Holds old names
    → (added ≡ not (has names name)) × Holds new (name ∷ names)
added_told old new name copy names added e a u h = (
  a ∙ ap (λ (k : List ℕ). not (contains (slice_cmp nat_cmp) old k)) e ∙ ap not (h name),
  holds_more old new name names (subst (λ (k : List ℕ). Updates (slice_cmp nat_cmp) old new k true) e u) h,
)

pub gathered_none : (names : List (List ℕ)) (set : BTreeSet (List ℕ)) → Holds set [] → Gathered names names set
gathered_none names set h = record { behind = []; whole = sym (append_none names); distinct = refl; holds = h }
  where
    append_none : (xs : List (List ℕ)) → xs ++ [] ≡ xs
    append_none [] = refl
    append_none (x ∷ xs) = ap (λ (ys : List (List ℕ)). x ∷ ys) (append_none xs)

grown : (names rest before : List (List ℕ)) (name : List ℕ) (set : BTreeSet (List ℕ)) → (g : Gathered names rest set) → rest ≡ before ++ name ∷ [] → names ≡ before ++ name ∷ g.behind
grown names rest before name set g e = g.whole ∙ ap (λ (r : List (List ℕ)). r ++ g.behind) e ∙ append_assoc before (name ∷ []) g.behind

pub gathered_more : (names rest before : List (List ℕ)) (name : List ℕ) (old new : BTreeSet (List ℕ)) → (g : Gathered names rest old) → rest ≡ before ++ name ∷ []
    → not (has g.behind name) ≡ true → Holds new (name ∷ g.behind) → Gathered names before new
gathered_more names rest before name old new g e n h = record {
  behind = name ∷ g.behind;
  whole = grown names rest before name old g e;
  distinct = and_from (not (has g.behind name)) (are_distinct g.behind) n g.distinct;
  holds = h;
}

behind_repeats : (before names : List (List ℕ)) → are_distinct names ≡ false → are_distinct (before ++ names) ≡ false
behind_repeats [] names e = e
behind_repeats (n ∷ before) names e = and_right (not (has (before ++ names) n)) (are_distinct (before ++ names)) (behind_repeats before names e)

pub gathered_twice : (names rest before : List (List ℕ)) (name : List ℕ) (set : BTreeSet (List ℕ)) → (g : Gathered names rest set) → rest ≡ before ++ name ∷ []
    → not (has g.behind name) ≡ false → are_distinct names ≡ false
gathered_twice names rest before name set g e n =
    ap are_distinct (grown names rest before name set g e)
    ∙ behind_repeats before (name ∷ g.behind) (and_left (not (has g.behind name)) (are_distinct g.behind) n)

pub gathered_all : (names : List (List ℕ)) (set : BTreeSet (List ℕ)) → Gathered names [] set → (are_distinct names ≡ true) × Holds set names
gathered_all names set g = (ap are_distinct g.whole ∙ g.distinct, λ q. g.holds q ∙ ap (λ (xs : List (List ℕ)). has xs q) (sym g.whole))
