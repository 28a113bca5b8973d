-- Adjacent string literals, and what stands behind them.
use Rattle.std.proofs.Common.{◌≡◌, ◌≢◌, ℕ, zero, suc, ◌++◌, Bool, true, List, [], ◌∷◌, refl, sym, ap, ◌∙◌, take, drop, get_or, append_assoc, arith, rules, if◌then◌else◌}
use Rattle.cl_base.specs.declared.token.Diag.{Diag}
use Rattle.cl_base.specs.declared.token.PpToken.{PpToken}
use Rattle.cl_literals.specs.Faults.{faults_from, is_string, literal_faults, strings_len, token_faults}

-- tokens that belong to what is before are passed
passed : (n : ℕ) (ts : List PpToken) → faults_from n ts ≡ faults_from 0 (drop n ts)
passed zero [] = refl
passed zero (t ∷ ts) = refl
passed (suc n) [] = refl
passed (suc n) (t ∷ ts) = passed n ts

-- string literals stand first
pub literal_first : (tokens front back : List PpToken) (t : PpToken) (n : ℕ) → tokens ≢ [] → is_string (get_or tokens 0 t).kind ≡ true
    → n ≡ strings_len tokens → front ≡ take n tokens → back ≡ drop n tokens → faults_from 0 tokens ≡ literal_faults front ++ faults_from 0 back
literal_first [] front back t n some is e f g = absurd (some refl)
literal_first (u ∷ us) front back t n some is e f g =
    let here : is_string u.kind ≡ true = is in
    let one : strings_len (u ∷ us) ≡ suc (strings_len us) = first_of (simp here, grind (arith, here), search (rules, here)) in
    let rest : back ≡ drop (strings_len us) us = g ∙ ap (λ (k : ℕ). drop k (u ∷ us)) (e ∙ one) in
    let run : front ≡ take (strings_len (u ∷ us)) (u ∷ us) = f ∙ ap (λ (k : ℕ). take k (u ∷ us)) e in
    ap (λ (b : Bool). if b then literal_faults (take (strings_len (u ∷ us)) (u ∷ us)) ++ faults_from (strings_len us) us else token_faults u u.kind ++ faults_from 0 us) here
    ∙ ap (λ (x : List PpToken). literal_faults x ++ faults_from (strings_len us) us) (sym run)
    ∙ ap (λ (x : List Diag). literal_faults front ++ x) (passed (strings_len us) us ∙ ap (faults_from 0) (sym rest))

pub joined : (new old first rest whole : List Diag) → new ≡ old ++ first → whole ≡ first ++ rest → new ++ rest ≡ old ++ whole
joined new old first rest whole e f =
    let between : (old ++ first) ++ rest ≡ old ++ (first ++ rest) = simp append_assoc in
    ap (λ (x : List Diag). x ++ rest) e ∙ between ∙ ap (λ (x : List Diag). old ++ x) (sym f)
