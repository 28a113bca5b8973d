-- Extents laid end to end.
use Rattle.std.specs.Prelude.{Bool, nat_lt}
use Rattle.std.proofs.Common.{◌≡◌, ℕ, ◌<◌, ◌≤◌, true, false, List, ⊎_elim, refl, sym, subst, arith, length}
use Rattle.std.proofs.lemmas.Bool.{cases_lt, false≢true, ltb-true}
use Rattle.cl_base.specs.declared.token.PpToken.{PpToken}
use Rattle.cl_parse.specs.Extents.{Extent, Stops, past_stop}
use Rattle.cl_parse.specs.Whole.{LastEnds}
use Rattle.cl_parse.specs.Whole.LastEnds.{last, next}
use Rattle.cl_parse.proofs.Bounds.{extent_bounds}
use Rattle.cl_parse.proofs.OneExtent.{one_extent, one_last}

-- what a walk from extent to extent knows at a token
pub record Walked (tokens : List PpToken) (pairs : List ℕ) (at : ℕ) (ended : Bool) : Type 0 where
  pub within : at ≤ length tokens
  pub back : at < length tokens → LastEnds tokens pairs 0 → LastEnds tokens pairs at
  pub forth : at < length tokens → LastEnds tokens pairs at → LastEnds tokens pairs 0
  pub yes : length tokens ≤ at → ended ≡ true → LastEnds tokens pairs 0
  pub no : length tokens ≤ at → ended ≡ false → LastEnds tokens pairs 0 → ⊥

module _ (tokens : List PpToken) (pairs : List ℕ) where
  pub at_start : 0 < length tokens → Walked tokens pairs 0 false
  at_start l = record { within = omega arith; back = λ m w. w; forth = λ m w. w; yes = λ m. absurd (omega arith); no = λ m. absurd (omega arith) }

  pub further : (at stop : ℕ) → at < length tokens → stop ≤ length tokens → (stop < length tokens → Stops tokens pairs at stop) → ((i : ℕ) → i < stop → Stops tokens pairs at i → ⊥)
      → at < past_stop tokens pairs stop
  further at stop l m stops first =
      let to = past_stop tokens pairs stop in
      let e : Extent tokens pairs at to = record { last = stop; within = m; stops = stops; first = first; end = refl } in
      (extent_bounds tokens pairs at to l e).more

  behind : (at to : ℕ) → Extent tokens pairs at to → to < length tokens → LastEnds tokens pairs at → LastEnds tokens pairs to
  behind at to e l (last k f g) = let same : length tokens ≡ to = one_extent tokens pairs at (length tokens) to f e in absurd (omega arith)
  behind at to e l (next {to = x} k f g w) = subst (LastEnds tokens pairs) (one_extent tokens pairs at x to f e) w

  not_ended : (at : ℕ) (e : Extent tokens pairs at (length tokens)) → length tokens ≤ e.last → LastEnds tokens pairs at → ⊥
  not_ended at e l (last k f g) = let same : f.last ≡ e.last = one_last tokens pairs at (length tokens) (length tokens) f e in omega arith
  not_ended at e l (next {to = x} k f g w) = let same : x ≡ length tokens = one_extent tokens pairs at x (length tokens) f e in omega arith

  pub one_more : (at stop : ℕ) (ended : Bool) → Walked tokens pairs at ended → at < length tokens → stop ≤ length tokens → (stop < length tokens → Stops tokens pairs at stop)
      → ((i : ℕ) → i < stop → Stops tokens pairs at i → ⊥) → Walked tokens pairs (past_stop tokens pairs stop) (nat_lt stop (length tokens))
  one_more at stop ended walked l m stops first =
      let to = past_stop tokens pairs stop in
      let e : Extent tokens pairs at to = record { last = stop; within = m; stops = stops; first = first; end = refl } in
      let bounds = extent_bounds tokens pairs at to l e in
      let most : to ≤ length tokens = bounds.within in
      record {
        within = most;
        back = λ k w. behind at to e k (walked.back l w);
        forth = λ k w. walked.forth l (next l e k w);
        yes = λ k b. ended_by (ltb-true stop (length tokens) b) (omega arith);
        no = λ k b w. stays_by (nat_lt stop (length tokens)) refl b (omega arith) (walked.back l w);
      }
    where
      ended_by : stop < length tokens → past_stop tokens pairs stop ≡ length tokens → LastEnds tokens pairs 0
      ended_by k same = walked.forth l (last l (record { last = stop; within = m; stops = stops; first = first; end = sym same }) k)

      stays_by : (b : Bool) → nat_lt stop (length tokens) ≡ b → b ≡ false → past_stop tokens pairs stop ≡ length tokens → LastEnds tokens pairs at → ⊥
      stays_by true e f same w = false≢true (sym f)
      stays_by false e f same w =
          ⊎_elim
          (λ (k : stop < length tokens). grind arith)
          (λ (k : length tokens ≤ stop). not_ended at (record { last = stop; within = m; stops = stops; first = first; end = sym same }) k w)
          (cases_lt stop (length tokens))
