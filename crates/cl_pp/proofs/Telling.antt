-- What is known of the headers that a search asked for.
use Rattle.std.proofs.Common.{◌≡◌, ℕ, Bool, true, false, List, [], ◌∷◌, ◌++◌, Option, Some, None, refl, sym, ap, subst, ◌∙◌, map, append_assoc}
use Rattle.std.specs.Prelude.{if◌then◌else◌}
use Rattle.cl_base.specs.declared.headers.Known.{Known}
use Rattle.cl_base.specs.declared.headers.Known.TheVariants as state
use Rattle.cl_headers.specs.declared.dep.Dep.{Dep}
use Rattle.cl_headers.specs.declared.resolving.Resolved.{Resolved}
use Rattle.cl_headers.specs.declared.resolving.Resolved.TheVariants as resolved
use Rattle.cl_headers.specs.Noting.{dep_of}
use Rattle.cl_headers.specs.Resolving.{ComesTo, Resolves, decided, missing}
use Rattle.cl_pp.specs.declared.aim.Target.{Target}
use Rattle.cl_pp.specs.declared.done.PpDone.{PpDone}
use Rattle.cl_pp.specs.declared.made.Reached.{Reached}
use Rattle.cl_pp.specs.declared.made.Reached.TheVariants as reached
use Rattle.cl_pp.specs.Preprocessing.{Arrival, arrived}
use Rattle.cl_pp.specs.Standing.{first_unknown, is_stopped, is_unknown, last_of, stopped_by, wanted, wanted_by}
use Rattle.cl_pp.specs.code.Reaching.{Arrives, Settles, TellsNeed}
use Rattle.cl_pp.proofs.Needing.{absent_known, arrived_deps, behind_known, deps_of, last_more, map_more, none_wanted}

-- a search that needs no header
abbrev pub IsSettled : Resolved → Type 0
IsSettled (resolved.File path text) = Unit {0}
IsSettled (resolved.Failed path) = Unit {0}
IsSettled (resolved.Need path) = ⊥
IsSettled resolved.Missing = Unit {0}

abbrev path_or : List ℕ → Resolved → List ℕ
path_or other (resolved.File path text) = other
path_or other (resolved.Failed path) = other
path_or other (resolved.Need path) = path
path_or other resolved.Missing = other

-- ---- what is known of the last one

known_last : (path : List ℕ) (k : Known) (found : Resolved) → IsSettled found → ComesTo path k found → is_unknown k ≡ false
known_last path (state.Found text) found s c = refl
known_last path state.Failed found s c = refl
known_last path state.Absent found s c = refl
known_last path state.Unknown found s c = absurd (subst IsSettled c s)

unknown_last : (path needed : List ℕ) (k : Known) → ComesTo path k (resolved.Need needed) → (if is_unknown k then Some path else None) ≡ Some needed
unknown_last path needed (state.Found text) c = absurd (subst IsSettled (sym c) tt)
unknown_last path needed state.Failed c = absurd (subst IsSettled (sym c) tt)
unknown_last path needed state.Absent c = absurd c
unknown_last path needed state.Unknown c = ap Some (sym (ap (path_or path) c))

if_none : (b : Bool) (path : List ℕ) → b ≡ false → (if b then Some path else None) ≡ None
if_none b path e = ap (λ (x : Bool). if x then Some path else None) e

-- ---- what is known of all

asked_known : (known : List ℕ → Known) (paths asked : List (List ℕ)) (found : Resolved) → IsSettled found → Resolves known paths asked found → first_unknown (map (dep_of known) asked) ≡ None
asked_known known paths asked found s (decided front path rest split absent comes is) =
    ap (λ (ps : List (List ℕ)). first_unknown (map (dep_of known) ps)) is ∙ ap first_unknown (map_more known front path)
    ∙ behind_known (map (dep_of known) front) (dep_of known path ∷ []) (absent_known known front absent) ∙ if_none (is_unknown (known path)) path (known_last path (known path) found s comes)
asked_known known paths asked found s (missing absent is found_is) = ap (λ (ps : List (List ℕ)). first_unknown (map (dep_of known) ps)) is ∙ absent_known known paths absent

asked_wanted : (known : List ℕ → Known) (paths asked : List (List ℕ)) (needed : List ℕ) (deps : List Dep) → Resolves known paths asked (resolved.Need needed) → wanted (deps ++ map (dep_of known) asked) ≡ Some needed
asked_wanted known paths asked needed deps (decided front path rest split absent comes is) =
    ap (λ (ps : List (List ℕ)). wanted (deps ++ map (dep_of known) ps)) is ∙ ap (λ (ds : List Dep). wanted (deps ++ ds)) (map_more known front path)
    ∙ ap wanted (sym (append_assoc deps (map (dep_of known) front) (dep_of known path ∷ []))) ∙ ap wanted_by (last_more (deps ++ map (dep_of known) front) (dep_of known path)) ∙ unknown_last path needed (known path) comes
asked_wanted known paths asked needed deps (missing absent is found_is) = absurd (subst IsSettled (sym found_is) tt)

-- ---- what is kept

settled_tells : (arrival : Arrival) (old new : PpDone) (deps : List Dep) (it : Reached) → deps_of arrival ≡ deps → first_unknown deps ≡ None → Settles arrival new it → TellsNeed old.deps new.deps it
settled_tells arrival old new deps reached.Nothing d e h = ap first_unknown (sym (ap deps_of h) ∙ d) ∙ e
settled_tells arrival old new deps (reached.Enters f) d e h = ap first_unknown (sym (ap deps_of h) ∙ d) ∙ e
settled_tells arrival old new deps (reached.Needs path asked) d e h = absurd h

module _ (known : List ℕ → Known) (paths asked : List (List ℕ)) (target : Target) (deps : List Dep) (old new : PpDone) (it : Reached) (are : deps ≡ [] ++ map (dep_of known) asked) (none : first_unknown old.deps ≡ None) where
  all_known : (found : Resolved) → IsSettled found → Resolves known paths asked found → first_unknown (old.deps ++ deps) ≡ None
  all_known found s r = behind_known old.deps deps none ∙ ap first_unknown are ∙ asked_known known paths asked found s r

  by_settled : (found : Resolved) → IsSettled found → Resolves known paths asked found → Settles (arrived target found (record old { deps = old.deps ++ deps })) new it → TellsNeed old.deps new.deps it
  by_settled found s r h = settled_tells (arrived target found (record old { deps = old.deps ++ deps })) old new (old.deps ++ deps) it (arrived_deps target found (record old { deps = old.deps ++ deps })) (all_known found s r) h

  pub search_tells : (found : Resolved) → Resolves known paths asked found → Arrives target found deps old new it → TellsNeed old.deps new.deps it
  search_tells (resolved.File path text) r h = by_settled (resolved.File path text) tt r h
  search_tells (resolved.Failed path) r h = by_settled (resolved.Failed path) tt r h
  search_tells resolved.Missing r h = by_settled resolved.Missing tt r h
  search_tells (resolved.Need path) r h =
      subst (λ (x : Reached). TellsNeed old.deps new.deps x) (sym h.0) (ap (λ (ds : List Dep). wanted (old.deps ++ ds)) are ∙ asked_wanted known paths asked path old.deps r)

-- ---- nothing stops

abbrev pick : Option (List ℕ) → Type 0
pick None = Unit {0}
pick (Some path) = ⊥

by_unknown : (b : Bool) (path : List ℕ) → (if b then Some path else None) ≡ None → b ≡ false
by_unknown true path e = absurd (subst pick (sym e) tt)
by_unknown false path e = refl

pub not_stopped_by : (o : Option Dep) → wanted_by o ≡ None → stopped_by o ≡ false
not_stopped_by None e = refl
not_stopped_by (Some d) e = by_unknown (is_unknown d.known) d.path e

pub none_stopped : (done : PpDone) → first_unknown done.deps ≡ None → is_stopped done ≡ false
none_stopped done e = not_stopped_by (last_of done.deps) (none_wanted done.deps e)
