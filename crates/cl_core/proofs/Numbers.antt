-- The request of a message, among those that wait.
use Rattle.std.proofs.Common.{◌≡◌, ◌⊎◌, inl, inr, ℕ, List, [], ◌∷◌, map, filter, Bool, true, false, if◌then◌else◌, cond, refl, sym, ap, ◌∙◌, subst, nat_eq, eq-eqb, eqb-true}
use Rattle.std.specs.Prelude.{Contains}
use Rattle.std.proofs.lemmas.Bool.{false≢true}
use Rattle.std.proofs.lemmas.List.Elements.{Contains-append_cases, Contains-append_left, Contains-append_right, Contains-push}
use Rattle.std.specs.List.{AllByRecursion}
use Rattle.cl_headers.specs.Headers.{Headers}
use Rattle.cl_pending.specs.Keys.{Key}
use Rattle.cl_pending.specs.Meant.{with_in_place}
use Rattle.cl_core.specs.declared.waiting.Waiting.{Waiting}
use Rattle.cl_core.specs.Waiting.{key_of}
use Rattle.cl_core.specs.Steps.{again, begun_again}
use Rattle.cl_core.proofs.Waits.{one_of}

abbrev pub on_number : ℕ → Waiting → Bool
on_number m w = nat_eq w.job.message m

split_if : (b : Bool) (P : Waiting → Type 0) (w : Waiting) (ws : List Waiting) → AllByRecursion P (cond b (w ∷ ws) ws) → (b ≡ true → P w) × AllByRecursion P ws
split_if true P w ws all = (λ e. all.0, all.1)
split_if false P w ws all = (λ e. absurd (false≢true e), all)

-- what holds of each that passes
pub all_passing : (test : Waiting → Bool) (P : Waiting → Type 0) (ws : List Waiting) → AllByRecursion P (filter test ws) → AllByRecursion (λ w. test w ≡ true → P w) ws
all_passing test P [] all = tt
all_passing test P (w ∷ ws) all =
    let split = split_if (test w) P w (filter test ws) all in
    (split.0, all_passing test P ws split.1)

pub the_one : (P : Waiting → Type 0) (m : ℕ) (w v : Waiting) (ws : List Waiting) → w ∷ [] ≡ filter (on_number m) ws → P w → Contains ws v → v.job.message ≡ m → P v
the_one P m w v ws one here among number =
    one_of (λ (u : Waiting). nat_eq u.job.message m ≡ true → P u) ws v (all_passing (on_number m) P ws (subst (AllByRecursion P) one (here, tt))) among (eq-eqb v.job.message m number)

pub none_of : (m : ℕ) (v : Waiting) (ws : List Waiting) → [] ≡ filter (on_number m) ws → Contains ws v → v.job.message ≡ m → ⊥
none_of m v ws none among number =
    one_of (λ (u : Waiting). nat_eq u.job.message m ≡ true → ⊥) ws v (all_passing (on_number m) (λ u. ⊥) ws (subst (AllByRecursion (λ (u : Waiting). ⊥)) none tt)) among (eq-eqb v.job.message m number)

contained_by : (b : Bool) (p : Waiting → Bool) (w : Waiting) (v : Waiting) (ws : List Waiting) → (Contains (filter p ws) w → Contains ws w) → Contains (cond b (v ∷ filter p ws) (filter p ws)) w → Contains (v ∷ ws) w
contained_by true p w v ws more h = contained_first (Contains-append_cases (v ∷ []) (filter p ws) w h)
  where
    contained_first : Contains (v ∷ []) w ⊎ Contains (filter p ws) w → Contains (v ∷ ws) w
    contained_first (inl here) = Contains-append_left (v ∷ []) ws w here
    contained_first (inr later) = Contains-append_right (v ∷ []) ws w (more later)
contained_by false p w v ws more h = Contains-append_right (v ∷ []) ws w (more h)

contained : (p : Waiting → Bool) (w : Waiting) (ws : List Waiting) → Contains (filter p ws) w → Contains ws w
contained p w [] h = h
contained p w (v ∷ ws) h = contained_by (p v) p w v ws (contained p w ws) h

pub contains_one : (m : ℕ) (w : Waiting) (ws : List Waiting) → w ∷ [] ≡ filter (on_number m) ws → Contains ws w
contains_one m w ws one = contained (on_number m) w ws (subst (λ (us : List Waiting). Contains us w) one (Contains-push [] w))

pub number_one : (m : ℕ) (w : Waiting) (ws : List Waiting) → w ∷ [] ≡ filter (on_number m) ws → w.job.message ≡ m
number_one m w [] e = absurd (cc)
number_one m w (v ∷ ws) e = number_by (on_number m v) m w v ws refl e (number_one m w ws)
  where
    head_of_list : (x y : Waiting) (xs ys : List Waiting) → x ∷ xs ≡ y ∷ ys → x ≡ y
    head_of_list x y xs ys e = ap (λ (us : List Waiting). elim us [ [] ↦ x | u ∷ more ↦ u ]) e

    number_by : (b : Bool) (m : ℕ) (w v : Waiting) (ws : List Waiting) → on_number m v ≡ b → w ∷ [] ≡ cond b (v ∷ filter (on_number m) ws) (filter (on_number m) ws)
        → (w ∷ [] ≡ filter (on_number m) ws → w.job.message ≡ m) → w.job.message ≡ m
    number_by true m w v ws is e more = ap (λ (u : Waiting). u.job.message) (head_of_list w v [] (filter (on_number m) ws) e) ∙ eqb-true v.job.message m is
    number_by false m w v ws is e more = more e

-- ---- its job begun again

module _ (m : ℕ) (number mark : ℕ) (headers : Headers) where
  abbrev after : Waiting → Waiting
  after w = record w { job = again number mark headers w.job }

  -- where none of the message waits, nothing changes
  none_by : (b : Bool) (w : Waiting) (ws : List Waiting) → cond b (w ∷ ws) ws ≡ [] → (w ≡ (if b then after w else w)) × (ws ≡ [])
  none_by true w ws e = absurd (cc)
  none_by false w ws e = (refl, e)

  pub none_again : (ws : List Waiting) → filter (on_number m) ws ≡ [] → ws ≡ begun_again m number mark headers ws
  none_again [] e = refl
  none_again (w ∷ ws) e =
      let parts = none_by (on_number m w) w (filter (on_number m) ws) e in
      rw (← parts.0) (ap (λ (vs : List Waiting). w ∷ vs) (none_again ws parts.1))

  -- where one does, it is put in its place
  here_by : (b : Bool) (u v : Waiting) → (b ≡ true → after v ≡ u) → (if b then u else v) ≡ (if b then after v else v)
  here_by true u v e = sym (e refl)
  here_by false u v e = refl

  each_again : (u : Waiting) (ws : List Waiting) → AllByRecursion (λ (v : Waiting). nat_eq v.job.message m ≡ true → after v ≡ u) ws
      → map (λ (v : Waiting). if nat_eq v.job.message m then u else v) ws ≡ begun_again m number mark headers ws
  each_again u [] all = refl
  each_again u (v ∷ ws) all =
      ap (λ (x : Waiting). x ∷ map (λ (v : Waiting). if nat_eq v.job.message m then u else v) ws) (here_by (nat_eq v.job.message m) u v all.0)
      ∙ ap (λ (us : List Waiting). (if nat_eq v.job.message m then after v else v) ∷ us) (each_again u ws all.1)

  pub put_again : (w : Waiting) (ws : List Waiting) → w ∷ [] ≡ filter (on_number m) ws → with_in_place key_of (after w) ws ≡ begun_again m number mark headers ws
  put_again w ws one =
      ap (λ (n : ℕ). map (λ (v : Waiting). if nat_eq v.job.message n then after w else v) ws) (number_one m w ws one)
      ∙ each_again (after w) ws (all_passing (on_number m) (λ v. after v ≡ after w) ws (subst (AllByRecursion (λ (v : Waiting). after v ≡ after w)) one (refl, tt)))

-- what is put in place of it has its key
pub same_keys : (m : ℕ) (w : Waiting) (k : Key) (ws : List Waiting) → w ∷ [] ≡ filter (on_number m) ws → key_of w ≡ k
    → AllByRecursion (λ (v : Waiting). nat_eq v.job.message m ≡ true → key_of v ≡ k) ws
same_keys m w k ws one e = all_passing (on_number m) (λ v. key_of v ≡ k) ws (subst (AllByRecursion (λ (v : Waiting). key_of v ≡ k)) one (e, tt))

-- a request with its job begun again, put in place of itself
pub keys_for : (m number mark : ℕ) (headers : Headers) (w v : Waiting) (ws : List Waiting) → w ∷ [] ≡ filter (on_number m) ws → v ≡ after m number mark headers w
    → AllByRecursion (λ (u : Waiting). nat_eq u.job.message v.job.message ≡ true → key_of u ≡ key_of v) ws
keys_for m number mark headers w v ws one is =
    subst (λ (x : Waiting). AllByRecursion (λ (u : Waiting). nat_eq u.job.message x.job.message ≡ true → key_of u ≡ key_of x) ws) (sym is)
    (subst (λ (n : ℕ). AllByRecursion (λ (u : Waiting). nat_eq u.job.message n ≡ true → key_of u ≡ key_of w) ws) (sym (number_one m w ws one)) (same_keys m w (key_of w) ws one refl))

pub begun_so : (m number mark : ℕ) (headers : Headers) (w v : Waiting) (ws : List Waiting) → w ∷ [] ≡ filter (on_number m) ws → v ≡ after m number mark headers w
    → with_in_place key_of v ws ≡ begun_again m number mark headers ws
begun_so m number mark headers w v ws one is =
    subst (λ (x : Waiting). with_in_place key_of x ws ≡ begun_again m number mark headers ws) (sym is) (put_again m number mark headers w ws one)
