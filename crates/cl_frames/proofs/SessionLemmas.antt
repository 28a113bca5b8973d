-- A session's bytes are frames in one way, and a front of them grows frame by frame.
use Rattle.std.proofs.Common.{◌≡◌, ◌<◌, ◌≤◌, ◌⊎◌, inl, inr, length, zero, suc, arith, ℕ, ◌+◌, ◌-◌, ◌^◌, List, [], ◌∷◌, ◌++◌, take, drop, Bool, true, false, refl, sym, ◌∙◌, ap, subst, append-nil, append_assoc, length-append, length-take, length-drop}
use Rattle.std.specs.Bool.{MatchBool}
use Rattle.std.proofs.Math.Seq.{take-append-add}
use Rattle.std.proofs.lemmas.Bool.{cases_lt}
use Rattle.std.proofs.lemmas.List.{take-take, take_all, take-append-drop, length-take-le, drop_at, drop_all}
use Rattle.cl_frames.specs.Frames.{First, whole, cut, wrong, after, first, window}
use Rattle.cl_frames.specs.Sessions.{Ending, edge, bad, long, after_last, EndsShort, EndsAs, SplitsInto, IsFront}
use Rattle.cl_frames.proofs.Stable.{whole_stays, cut_front, whole_counts}
use Rattle.cl_frames.proofs.Local.{first_local}

-- ---- the fronts of bytes, and what stands in the window

nothing_is_cut : first [] ≡ cut
unfolding first after
nothing_is_cut = refl

front_whole : (k : ℕ) (bytes body : List ℕ) (n : ℕ) → first (take k bytes) ≡ whole body n → first bytes ≡ whole body n
front_whole k bytes body n e = ap first (sym (take-append-drop k bytes)) ∙ whole_stays (take k bytes) (drop k bytes) body n e

front_cut : (k : ℕ) (bytes : List ℕ) → first bytes ≡ cut → first (take k bytes) ≡ cut
front_cut k bytes e = cut_front (take k bytes) (drop k bytes) (ap first (take-append-drop k bytes) ∙ e)

take_swap : (j k : ℕ) (bytes : List ℕ) → take j (take k bytes) ≡ take k (take j bytes)
take_swap j k bytes = elim (cases_lt j k) [
  | inl l ↦
      let few : length (take j bytes) ≤ k = omega (arith, length-take j bytes) in
      take-take j k bytes (omega arith) ∙ sym (take_all k (take j bytes) few)
  | inr l ↦
      let few : length (take k bytes) ≤ j = omega (arith, length-take k bytes) in
      take_all j (take k bytes) few ∙ sym (take-take k j bytes l)
]

window_all : (at : ℕ) (bytes : List ℕ) → at + length bytes < 2 ^ 40 → window at bytes ≡ bytes
window_all at bytes h = take_all (2 ^ 40 - 1 - at) bytes (omega arith)

-- a frame in the window lies within the bytes, and ends before the last byte of a session
record Fits (at : ℕ) (bytes : List ℕ) (n : ℕ) : Type 0 where
  within : n ≤ length bytes
  room : at + n < 2 ^ 40
  size : length (take n bytes) ≡ n
  some : 20 ≤ n
  shown : n ≤ 2 ^ 40 - 1 - at

frame_fits : (at : ℕ) (bytes body : List ℕ) (n : ℕ) → at < 2 ^ 40 → first (window at bytes) ≡ whole body n → Fits at bytes n
frame_fits at bytes body n l e =
    let c = whole_counts (window at bytes) body n e in
    let shown : n ≤ length (window at bytes) = c.0 in
    let more : length body + 20 ≤ n = c.1 in
    let size : length (window at bytes) ≡ _ = length-take (2 ^ 40 - 1 - at) bytes in
    let within : n ≤ length bytes = omega arith in
    record { within = within; room = omega arith; size = length-take-le n bytes within; some = omega arith; shown = omega arith }

-- a frame stands in the window by its own bytes, whatever stands behind them
frame_here : (at : ℕ) (bytes body rest : List ℕ) (n : ℕ) → Fits at bytes n → first (window at bytes) ≡ whole body n
    → first (window at (take n bytes ++ rest)) ≡ whole body n
frame_here at bytes body rest n f e =
    let left : ℕ = 2 ^ 40 - 1 - at - n in
    let own : first (take n bytes) ≡ whole body n = ap first (sym (take-take n (2 ^ 40 - 1 - at) bytes f.shown)) ∙ first_local (window at bytes) body n e in
    let same : 2 ^ 40 - 1 - at ≡ length (take n bytes) + left = omega (arith, f.shown, f.size) in
    ap (λ (k : ℕ). first (take k (take n bytes ++ rest))) same ∙ ap first (take-append-add (take n bytes) rest left) ∙ whole_stays (take n bytes) (take left rest) body n own

-- ---- how bytes end

-- where no frame begins, the window shows none
no_frame : (at : ℕ) (bytes body : List ℕ) (n : ℕ) (e : Ending) → EndsAs at bytes e → first (window at bytes) ≡ whole body n → ⊥
no_frame at bytes body n edge h w =
    let c : first (window at bytes) ≡ cut = front_cut (2 ^ 40 - 1 - at) bytes (ap first h ∙ nothing_is_cut) in cc
no_frame at bytes body n (bad offset) h w = elim h.1 [
  | inl v ↦ let clash : ⊥ = cc in clash
  | inr s ↦ let c : first (window at bytes) ≡ cut = front_cut (2 ^ 40 - 1 - at) bytes s.part in let clash : ⊥ = cc in clash
]
no_frame at bytes body n long h w = let c = h.0 in cc
no_frame at bytes body n (after_last rest) h w = h

edge_is_not_bad : (at : ℕ) (bytes : List ℕ) → bytes ≡ [] → (first (window at bytes) ≡ wrong) ⊎ EndsShort at bytes → ⊥
edge_is_not_bad at bytes h (inl v) =
    let c : first (window at bytes) ≡ cut = front_cut (2 ^ 40 - 1 - at) bytes (ap first h ∙ nothing_is_cut) in cc
edge_is_not_bad at bytes h (inr s) = s.some h

edge_is_not_long : (at : ℕ) (bytes : List ℕ) → at < 2 ^ 40 → bytes ≡ [] → 2 ^ 40 ≤ at + length bytes → ⊥
edge_is_not_long at bytes l h m = let none : length bytes ≡ 0 = ap length h in omega arith

bad_is_not_long : (at : ℕ) (bytes : List ℕ) → (first (window at bytes) ≡ wrong) ⊎ EndsShort at bytes → first (window at bytes) ≡ cut → 2 ^ 40 ≤ at + length bytes → ⊥
bad_is_not_long at bytes (inl v) c m = cc
bad_is_not_long at bytes (inr s) c m = let room : at + length bytes < 2 ^ 40 = s.room in omega arith

-- bytes end in one way
one_ending : (at : ℕ) (bytes : List ℕ) → at < 2 ^ 40 → (d e : Ending) → EndsAs at bytes d → EndsAs at bytes e → d ≡ e
one_ending at bytes l edge edge p q = refl
one_ending at bytes l edge (bad offset) p q = absurd (edge_is_not_bad at bytes p q.1)
one_ending at bytes l edge long p q = absurd (edge_is_not_long at bytes l p q.1)
one_ending at bytes l edge (after_last rest) p q = absurd q
one_ending at bytes l (bad offset) edge p q = absurd (edge_is_not_bad at bytes q p.1)
one_ending at bytes l (bad offset) (bad place) p q = ap bad (p.0 ∙ sym q.0)
one_ending at bytes l (bad offset) long p q = absurd (bad_is_not_long at bytes p.1 q.0 q.1)
one_ending at bytes l (bad offset) (after_last rest) p q = absurd q
one_ending at bytes l long edge p q = absurd (edge_is_not_long at bytes l q p.1)
one_ending at bytes l long (bad offset) p q = absurd (bad_is_not_long at bytes q.1 p.0 p.1)
one_ending at bytes l long long p q = refl
one_ending at bytes l long (after_last rest) p q = absurd q
one_ending at bytes l (after_last rest) e p q = absurd p

-- where the window shows no frame, the bytes end in some way
cut_ending : (at : ℕ) (bytes : List ℕ) → at < 2 ^ 40 → first (window at bytes) ≡ cut → (e : Ending) × EndsAs at bytes e
cut_ending at [] l c = (edge, refl)
cut_ending at (x ∷ bytes) l c = elim (cases_lt (at + length (x ∷ bytes)) (2 ^ 40)) [
  | inl m ↦ (bad at, (refl, inr (record { some = λ nil. let clash : ⊥ = cc in clash; part = ap first (sym (window_all at (x ∷ bytes) m)) ∙ c; room = m })))
  | inr m ↦ (long, (c, m))
]

some_ending : (at : ℕ) (bytes : List ℕ) → at < 2 ^ 40 → ((body : List ℕ) (n : ℕ) → first (window at bytes) ≡ whole body n → ⊥)
    → (v : First) → first (window at bytes) ≡ v → (e : Ending) × EndsAs at bytes e
some_ending at bytes l none (whole body n) h = absurd (none body n h)
some_ending at bytes l none cut h = cut_ending at bytes l h
some_ending at bytes l none wrong h = (bad at, (refl, inl h))

-- ---- how the bytes that were taken end, when a session ends without a further frame

pub ends_wrong : (at k : ℕ) (bytes : List ℕ) → at < 2 ^ 40 → first (window at bytes) ≡ wrong → (e : Ending) × EndsAs at (take k bytes) e
ends_wrong at k bytes l h =
    some_ending at (take k bytes) l
    (λ body n w. let v : first (window at bytes) ≡ whole body n = front_whole k (window at bytes) body n (ap first (take_swap k (2 ^ 40 - 1 - at) bytes) ∙ w) in let clash : ⊥ = cc in clash)
    (first (window at (take k bytes))) refl

pub ends_cut : (at k : ℕ) (bytes : List ℕ) → at < 2 ^ 40 → k ≤ length bytes → first (take k bytes) ≡ cut → (e : Ending) × EndsAs at (take k bytes) e
ends_cut at k bytes l m h = cut_ending at (take k bytes) l (front_cut (2 ^ 40 - 1 - at) (take k bytes) h)

pub ends_long : (at k : ℕ) (bytes : List ℕ) → at < 2 ^ 40 → k ≤ length bytes → at + k ≡ 2 ^ 40 → first (window at bytes) ≡ cut → EndsAs at (take k bytes) long
ends_long at k bytes l m n h =
    (ap first (take-take (2 ^ 40 - 1 - at) k bytes (omega arith)) ∙ h, omega (arith, length-take-le k bytes m))

-- ---- a session is frames in one way

cons_same : (t : Bool) (x : List ℕ) (rest : List ℕ) (xs ys : List (List ℕ)) (d e : Ending) (A B : Type 0)
    → (A → B → (xs ≡ ys) × (d ≡ e)) → MatchBool t ((xs ≡ []) × (d ≡ after_last rest)) A → MatchBool t ((ys ≡ []) × (e ≡ after_last rest)) B
    → (x ∷ xs ≡ x ∷ ys) × (d ≡ e)
cons_same true x rest xs ys d e A B r p q = (ap (λ (w : List (List ℕ)). x ∷ w) (p.0 ∙ sym q.0), p.1 ∙ sym q.1)
cons_same false x rest xs ys d e A B r p q = let s = r p q in (ap (λ (w : List (List ℕ)). x ∷ w) s.0, s.1)

-- what stands behind a frame of n bytes
abbrev Behind : (List ℕ → Bool) → ℕ → List ℕ → List ℕ → ℕ → List (List ℕ) → Ending → Type 0
Behind is_last at bytes body n bodies e = MatchBool (is_last body) ((bodies ≡ []) × (e ≡ after_last (drop n bytes))) (SplitsInto is_last (at + n) (drop n bytes) bodies e)

behind_last : (is_last : List ℕ → Bool) (at : ℕ) (bytes body : List ℕ) (n : ℕ) → is_last body ≡ true → Behind is_last at bytes body n [] (after_last (drop n bytes))
behind_last is_last at bytes body n t =
    rw t (refl, refl)

behind_more : (is_last : List ℕ → Bool) (at : ℕ) (bytes body : List ℕ) (n : ℕ) (bodies : List (List ℕ)) (e : Ending) → is_last body ≡ false
    → SplitsInto is_last (at + n) (drop n bytes) bodies e → Behind is_last at bytes body n bodies e
behind_more is_last at bytes body n bodies e t h = rw t h

behind_same : (is_last : List ℕ → Bool) (at : ℕ) (bytes x y : List ℕ) (n m : ℕ) (bodies : List (List ℕ)) (e : Ending) → x ≡ y → n ≡ m
    → Behind is_last at bytes y m bodies e → Behind is_last at bytes x n bodies e
behind_same is_last at bytes x y n m bodies e p q h =
    subst (λ (b : List ℕ). Behind is_last at bytes b n bodies e) (sym p) (subst (λ (k : ℕ). Behind is_last at bytes y k bodies e) (sym q) h)

pub one_split : (is_last : List ℕ → Bool) (at : ℕ) (bytes : List ℕ) → at < 2 ^ 40 → (xs ys : List (List ℕ)) (d e : Ending)
    → SplitsInto is_last at bytes xs d → SplitsInto is_last at bytes ys e → (xs ≡ ys) × (d ≡ e)
one_split is_last at bytes l [] [] d e p q = (refl, one_ending at bytes l d e p q)
one_split is_last at bytes l [] (y ∷ ys) d e p q = absurd (no_frame at bytes y q.0 d p q.1)
one_split is_last at bytes l (x ∷ xs) [] d e p q = absurd (no_frame at bytes x p.0 e q p.1)
one_split is_last at bytes l (x ∷ xs) (y ∷ ys) d e p q =
    let here : first (window at bytes) ≡ whole x p.0 = p.1 in
    let there : first (window at bytes) ≡ whole y q.0 = q.1 in
    let body : x ≡ y = cc in
    let size : p.0 ≡ q.0 = cc in
    let room : at + p.0 < 2 ^ 40 = (frame_fits at bytes x p.0 l here).room in
    let r = cons_same (is_last x) x (drop p.0 bytes) xs ys d e (SplitsInto is_last (at + p.0) (drop p.0 bytes) xs d) (SplitsInto is_last (at + p.0) (drop p.0 bytes) ys e)
    (one_split is_last (at + p.0) (drop p.0 bytes) room xs ys d e) p.2 (behind_same is_last at bytes x y p.0 q.0 ys e body size q.2) in
    (r.0 ∙ ap (λ (w : List ℕ). w ∷ ys) body, r.1)

-- ---- and in some way

Splits : (List ℕ → Bool) → ℕ → List ℕ → Type 0
Splits is_last at bytes = (bodies : List (List ℕ)) × (e : Ending) × SplitsInto is_last at bytes bodies e

frame_splits : (is_last : List ℕ → Bool) (at : ℕ) (bytes body : List ℕ) (n : ℕ) → first (window at bytes) ≡ whole body n
    → Splits is_last (at + n) (drop n bytes) → (t : Bool) → is_last body ≡ t → Splits is_last at bytes
unfolding Splits
frame_splits is_last at bytes body n h r true t =
    (body ∷ [], after_last (drop n bytes), (n, h, behind_last is_last at bytes body n t))
frame_splits is_last at bytes body n h r false t =
    (body ∷ r.0, r.1, (n, h, behind_more is_last at bytes body n r.0 r.1 t r.2))

splits_at : (is_last : List ℕ → Bool) (at : ℕ) (bytes : List ℕ) → at < 2 ^ 40
    → ((body : List ℕ) (n : ℕ) → first (window at bytes) ≡ whole body n → Splits is_last (at + n) (drop n bytes))
    → (v : First) → first (window at bytes) ≡ v → Splits is_last at bytes
unfolding Splits
splits_at is_last at bytes l r (whole body n) h = frame_splits is_last at bytes body n h (r body n h) (is_last body) refl
splits_at is_last at bytes l r cut h = let s = cut_ending at bytes l h in ([], s.0, s.1)
splits_at is_last at bytes l r wrong h = ([], bad at, (refl, inl h))

splits_by : (fuel : ℕ) (is_last : List ℕ → Bool) (at : ℕ) (bytes : List ℕ) → at < 2 ^ 40 → length bytes < fuel
    → Splits is_last at bytes
unfolding Splits
splits_by zero is_last at bytes l m = let clash : ⊥ = omega arith in absurd clash
splits_by (suc fuel) is_last at bytes l m = splits_at is_last at bytes l
    (λ body n h. let f = frame_fits at bytes body n l h in
    splits_by fuel is_last (at + n) (drop n bytes) f.room (omega (arith, length-drop n bytes, f.some, f.within)))
    (first (window at bytes)) refl

pub some_split : (is_last : List ℕ → Bool) (at : ℕ) (bytes : List ℕ) → at < 2 ^ 40
    → (bodies : List (List ℕ)) × (e : Ending) × SplitsInto is_last at bytes bodies e
unfolding Splits
some_split is_last at bytes l = splits_by (suc (length bytes)) is_last at bytes l (omega arith)

-- ---- a front grows

pub front_nil : (is_last : List ℕ → Bool) → IsFront is_last [] []
front_nil is_last = record { joins = λ rest more e s. s }

pub front_more : (is_last : List ℕ → Bool) (front bytes body : List ℕ) (given : List (List ℕ)) (n : ℕ) → IsFront is_last front given → length front < 2 ^ 40
    → first (window (length front) bytes) ≡ whole body n → is_last body ≡ false → IsFront is_last (front ++ take n bytes) (given ++ body ∷ [])
front_more is_last front bytes body given n f l h last =
    let at : ℕ = length front in
    let taken : List ℕ = take n bytes in
    let fits = frame_fits at bytes body n l h in
    let count : length (front ++ taken) ≡ at + n = length-append front taken ∙ ap (λ (k : ℕ). at + k) fits.size in
    record {
      joins = λ rest more e s.
          let left : rest ≡ drop n (taken ++ rest) = sym (drop_at taken rest n fits.size) in
          let moved : SplitsInto is_last (at + n) rest more e = subst (λ (k : ℕ). SplitsInto is_last k rest more e) count s in
          let behind : SplitsInto is_last (at + n) (drop n (taken ++ rest)) more e = subst (λ (w : List ℕ). SplitsInto is_last (at + n) w more e) left moved in
          let splits : SplitsInto is_last at (taken ++ rest) (body ∷ more) e =
          (n, frame_here at bytes body rest n fits h, behind_more is_last at (taken ++ rest) body n more e last behind) in
          let joined : SplitsInto is_last 0 (front ++ (taken ++ rest)) (given ++ (body ∷ more)) e = f.joins (taken ++ rest) (body ∷ more) e splits in
          subst (λ (w : List ℕ). SplitsInto is_last 0 w ((given ++ body ∷ []) ++ more) e) (sym (append_assoc front taken rest))
          (subst (λ (w : List (List ℕ)). SplitsInto is_last 0 (front ++ (taken ++ rest)) w e) (sym (append_assoc given (body ∷ []) more)) joined);
    }

-- the last body ends a session
last_splits : (is_last : List ℕ → Bool) (front bytes body : List ℕ) (given : List (List ℕ)) (n : ℕ) → IsFront is_last front given
    → first (window (length front) bytes) ≡ whole body n → is_last body ≡ true → SplitsInto is_last 0 (front ++ bytes) (given ++ body ∷ []) (after_last (drop n bytes))
last_splits is_last front bytes body given n f h last =
    f.joins bytes (body ∷ []) (after_last (drop n bytes))
    (n, h, behind_last is_last (length front) bytes body n last)

pub front_last : (is_last : List ℕ → Bool) (front bytes body : List ℕ) (given : List (List ℕ)) (n : ℕ) → IsFront is_last front given → length front < 2 ^ 40
    → first (window (length front) bytes) ≡ whole body n → is_last body ≡ true
    → SplitsInto is_last 0 (front ++ bytes) (given ++ body ∷ []) (after_last (drop n bytes))
    × SplitsInto is_last 0 (front ++ take n bytes) (given ++ body ∷ []) (after_last [])
front_last is_last front bytes body given n f l h last =
    let at : ℕ = length front in
    let taken : List ℕ = take n bytes in
    let fits = frame_fits at bytes body n l h in
    let here : first (window at taken) ≡ whole body n = ap (λ (w : List ℕ). first (window at w)) (sym (append-nil taken)) ∙ frame_here at bytes body [] n fits h in
    let none : drop n taken ≡ [] = drop_all n taken (omega (arith, fits.size)) in (
      last_splits is_last front bytes body given n f h last,
      subst (λ (w : List ℕ). SplitsInto is_last 0 (front ++ taken) (given ++ body ∷ []) (after_last w)) none (last_splits is_last front taken body given n f here last),
    )

pub front_end : (is_last : List ℕ → Bool) (front bytes : List ℕ) (given : List (List ℕ)) (e : Ending) → IsFront is_last front given
    → EndsAs (length front) bytes e → SplitsInto is_last 0 (front ++ bytes) given e
front_end is_last front bytes given e f h =
    subst (λ (w : List (List ℕ)). SplitsInto is_last 0 (front ++ bytes) w e) (append-nil given) (f.joins bytes [] e h)
