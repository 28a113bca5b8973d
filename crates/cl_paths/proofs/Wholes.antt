-- The text of a normal form has its parts again.
use Rattle.std.proofs.Common.{◌≡◌, Bool, true, false, ◌==◌, ℕ, List, [], ◌∷◌, ◌++◌, ⊎_elim, refl, sym, ap, ◌∙◌, subst, All}
use Rattle.std.specs.Prelude.{reverse}
use Rattle.std.specs.List.{flat_map, onto_first}
use Rattle.std.proofs.lemmas.Bool.{cond_both}
use Rattle.std.proofs.lemmas.List.{append-nil}
use Rattle.std.proofs.lemmas.List.Elements.{All-nil, All-cons, All-head}
use Rattle.std.proofs.lemmas.List.Splits.{slice_split_none, slice_split_at}
use Rattle.cl_paths.specs.Parts.{slash, parts, is_rooted, up, standing, normal_parts, after_slash, spelled, normal_form}
use Rattle.cl_paths.specs.Places.{SameWay, SamePlace}
use Rattle.cl_paths.specs.Places.SameWay.{same, turned, chained, empty, dot}
use Rattle.cl_paths.proofs.Ways.{Part, Each, Stands, kept_by, standing_leads}

-- no slash stands in it
abbrev IsNoSlash : ℕ → Type 0
IsNoSlash b = (b == slash) ≡ false

abbrev Whole : Part → Type 0
Whole part = All IsNoSlash part

onto_whole : (b : ℕ) (ps : List Part) → (b == slash) ≡ false → Each Whole ps → Each Whole (onto_first b ps)
onto_whole b [] e h = (All-cons IsNoSlash b [] e (All-nil IsNoSlash), tt)
onto_whole b (p ∷ ps) e h = (All-cons IsNoSlash b p e h.0, h.1)

whole_parts : (path : List ℕ) → Each Whole (parts path)
whole_parts [] = (All-nil IsNoSlash, tt)
whole_parts (b ∷ path) =
    cond_both (b == slash) ([] ∷ parts path) (onto_first b (parts path)) (Each Whole) (λ e. (All-nil IsNoSlash, whole_parts path)) (λ e. onto_whole b (parts path) e (whole_parts path))

whole_up : Whole up
whole_up = All-cons IsNoSlash 46 (46 ∷ []) refl (All-cons IsNoSlash 46 [] refl (All-nil IsNoSlash))

wholes : (ps : List Part) → Each (Stands Whole) ps → Each Whole ps
wholes [] h = tt
wholes (p ∷ ps) h = (h.0.0, wholes ps h.1)

parts_again : (p : Part) (ps : List Part) → Whole p → Each Whole ps → parts (p ++ flat_map after_slash ps) ≡ p ∷ ps
parts_again p [] h k = ap parts (append-nil p) ∙ slice_split_none (λ b. b == slash) p h
parts_again p (q ∷ ps) h k = slice_split_at (λ b. b == slash) p slash (q ++ flat_map after_slash ps) h refl ∙ ap (λ qs. p ∷ qs) (parts_again q ps k.0 k.1)

spelled_way : (rooted : Bool) (ps : List Part) → Each Whole ps → SameWay rooted (parts (spelled rooted ps)) ps
spelled_way true [] h = chained _ _ _ (empty [] ([] ∷ [])) (empty [] [])
spelled_way true (p ∷ ps) h = subst (λ z. SameWay true ([] ∷ z) (p ∷ ps)) (sym (parts_again p ps h.0 h.1)) (empty [] (p ∷ ps))
spelled_way false [] h = dot [] []
spelled_way false (p ∷ ps) h = subst (λ z. SameWay false z (p ∷ ps)) (sym (parts_again p ps h.0 h.1)) (same (p ∷ ps))

begins : (p ps : List ℕ) → Stands Whole p → is_rooted (p ++ ps) ≡ false
begins [] ps h = ⊎_elim (λ n. absurd (n.full refl)) (λ e. absurd (never e)) h.1
  where
    never : ◌≡◌ {A = List ℕ} [] up → ⊥
    never e = cc
begins (b ∷ p) ps h = All-head IsNoSlash b p h.0

rooted_again : (rooted : Bool) (ps : List Part) → Each (Stands Whole) ps → is_rooted (spelled rooted ps) ≡ rooted
rooted_again true [] h = refl
rooted_again true (p ∷ ps) h = refl
rooted_again false [] h = refl
rooted_again false (p ∷ ps) h = begins p (flat_map after_slash ps) h.0

pub leads_there : (path : List ℕ) → SamePlace path (normal_form path)
unfolding normal_form
leads_there path =
    let stand = standing_leads Whole whole_up (is_rooted path) (parts path) (whole_parts path) in
    record {
      rooted = sym (rooted_again (is_rooted path) (normal_parts path) stand.1);
      way = chained _ _ _ stand.0 (turned _ _ (spelled_way (is_rooted path) (normal_parts path) (wholes (normal_parts path) stand.1)));
    }

one_standing : (rooted : Bool) (ps qs : List Part) → SameWay rooted ps qs → standing rooted ps ≡ standing rooted qs
unfolding standing
one_standing rooted ps qs w = ap reverse (kept_by rooted w)

pub one_form : (p q : List ℕ) → SamePlace p q → normal_form p ≡ normal_form q
unfolding normal_form
one_form p q h = ap (spelled (is_rooted p)) (one_standing (is_rooted p) (parts p) (parts q) h.way) ∙ ap (λ r. spelled r (standing r (parts q))) h.rooted

pub normal_again : (path : List ℕ) → normal_form (normal_form path) ≡ normal_form path
normal_again path = sym (one_form path (normal_form path) (leads_there path))
