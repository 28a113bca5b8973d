-- What holds where a request is accepted.
use Rattle.std.proofs.Common.{◌≡◌, ℕ, ℤ, sym, List, [], ◌∷◌, ◌++◌, refl, Bool, true, false, Some, None, Option}
use Rattle.std.specs.Prelude.{◌&&◌, ◌||◌, not, if◌then◌else◌, is_some}
use Rattle.std.proofs.lemmas.Bool.{not-false, true≢false}
use Rattle.cl_base.specs.declared.query.Query.{Query}
use Rattle.cl_rpc.specs.declared.id.Id.{Id}
use Rattle.cl_rpc.specs.Classes.{Class, initialises, shuts_down, queries, unknown, bad_params}
use Rattle.cl_history.specs.Refusals.{first_that, refusal_of, is_initialize, is_unknown, has_bad_params, not_initialized, invalid_request, method_not_found, invalid_params}

no_first : (b : Bool) (code : ℤ) (o : Option ℤ) → (if b then Some code else o) ≡ None → (b ≡ false) × (o ≡ None)
no_first true code o e = absurd (cc)
no_first false code o e = (refl, e)

no_last : (front : List (Bool × ℤ)) (b : Bool) (code : ℤ) → first_that (front ++ (b, code) ∷ []) ≡ None → b ≡ false
no_last [] b code e = (no_first b code None e).0
no_last (r ∷ rs) b code e = no_last rs b code (no_first r.0 r.1 (first_that (rs ++ (b, code) ∷ [])) e).1

pub open_if_accepted : (initialised shut_down pending stands : Bool) (k : Class) → refusal_of initialised shut_down pending stands k ≡ None → stands ≡ true
open_if_accepted initialised shut_down pending stands k e =
    let front : List (Bool × ℤ) = (not initialised && not (is_initialize k), not_initialized)
    ∷ ((initialised && is_initialize k) || shut_down, invalid_request)
    ∷ (pending, invalid_request)
    ∷ (is_unknown k, method_not_found)
    ∷ (has_bad_params k, invalid_params)
    ∷ [] in
    not-false stands (no_last front (not stands) invalid_params e)

pub initialised_if_accepted : (initialised shut_down pending stands : Bool) (i : Id) (query : Query) (path : List ℕ)
    → refusal_of initialised shut_down pending stands (queries i query path) ≡ None → initialised ≡ true
initialised_if_accepted true shut_down pending stands i query path e = refl
initialised_if_accepted false shut_down pending stands i query path e = absurd (cc)

-- a request of an unknown method, and one with bad params, is refused
pub never_unknown : (initialised shut_down pending : Bool) (i : Id) → refusal_of initialised shut_down pending true (unknown i) ≡ None → ⊥
never_unknown false shut_down pending i e = cc
never_unknown true true pending i e = cc
never_unknown true false true i e = cc
never_unknown true false false i e = cc

pub never_bad : (initialised shut_down pending : Bool) (i : Id) (b : Bool) → refusal_of initialised shut_down pending true (bad_params i b) ≡ None → ⊥
never_bad false true pending i true e = cc
never_bad false false true i true e = cc
never_bad false false false i true e = cc
never_bad false shut_down pending i false e = cc
never_bad true shut_down pending i true e = cc
never_bad true true pending i false e = cc
never_bad true false true i false e = cc
never_bad true false false i false e = cc

-- an `initialize` is refused only in a session that is initialised
pub initialised_after : (initialised shut_down pending : Bool) (i : Id) → (shut_down ≡ true → initialised ≡ true) → (pending ≡ true → initialised ≡ true)
    → (not (is_some (refusal_of initialised shut_down pending true (initialises i))) || initialised) ≡ true
initialised_after true true true i ended waits = refl
initialised_after true true false i ended waits = refl
initialised_after true false true i ended waits = refl
initialised_after true false false i ended waits = refl
initialised_after false true pending i ended waits = absurd (true≢false (sym (ended refl)))
initialised_after false false true i ended waits = absurd (true≢false (sym (waits refl)))
initialised_after false false false i ended waits = refl

-- a `shutdown` is accepted in a session that is initialised, where its id is free
pub shut_down_after : (initialised shut_down pending : Bool) (i : Id)
    → (not (is_some (refusal_of initialised shut_down pending true (shuts_down i))) || shut_down) ≡ ((initialised && not pending) || shut_down)
shut_down_after true true true i = refl
shut_down_after true true false i = refl
shut_down_after true false true i = refl
shut_down_after true false false i = refl
shut_down_after false true true i = refl
shut_down_after false true false i = refl
shut_down_after false false true i = refl
shut_down_after false false false i = refl
