-- The header that is asked for last, if nothing is known of it, is the first such header.
use Rattle.std.proofs.Common.{◌≡◌, ℕ, suc, ◌-◌, Bool, true, false, List, [], ◌∷◌, ◌++◌, Option, Some, None, refl, sym, ap, subst, ◌∙◌, arith, length, map, append_assoc}
use Rattle.std.specs.Prelude.{if◌then◌else◌, ◌==◌, slice_get}
use Rattle.cl_base.specs.declared.headers.Known.{Known}
use Rattle.cl_base.specs.declared.token.Token.{Token}
use Rattle.cl_cond.specs.declared.mark.Mark.{Mark}
use Rattle.cl_headers.specs.declared.dep.Dep.{Dep}
use Rattle.cl_headers.specs.declared.resolving.Resolved.{Resolved}
use Rattle.cl_headers.specs.declared.resolving.Resolved.TheVariants as resolved
use Rattle.cl_headers.specs.Noting.{dep_of}
use Rattle.cl_headers.specs.Resolving.{AllAbsent, Resolves, decided, missing}
use Rattle.cl_pp.specs.declared.aim.Aim.{Aim}
use Rattle.cl_pp.specs.declared.aim.Target.{Target}
use Rattle.cl_pp.specs.declared.done.PpDone.{PpDone}
use Rattle.cl_pp.specs.Preprocessing.{Arrival, Does, Enters, Goes, Reads, State, Stays, World, arrived, arrived_in, marked}
use Rattle.cl_pp.specs.Preprocessing.{deep, end, enters, line, nothing, once, read, stays, stop}
use Rattle.cl_pp.specs.Standing.{first_unknown, is_once, is_unknown, last_of, number_in, stopped_by, wanted, wanted_by, with_asked_paths, with_file, with_once}
use Rattle.cl_pp.proofs.Adding.{line_adds}

abbrev pick : Option (List ℕ) → Type 0
pick None = Unit {0}
pick (Some path) = ⊥

apart : (path : List ℕ) → Some path ≡ None → ⊥
apart path e = subst pick (sym e) tt

-- ---- the last one

last_cons : (d e : Dep) (es : List Dep) → last_of (d ∷ (e ∷ es)) ≡ last_of (e ∷ es)
last_cons d e es = let k : length (d ∷ (e ∷ es)) - 1 ≡ suc (length (e ∷ es) - 1) = omega arith in ap (λ (n : ℕ). slice_get (d ∷ (e ∷ es)) n) k

pub last_more : (deps : List Dep) (dep : Dep) → last_of (deps ++ dep ∷ []) ≡ Some dep
last_more [] dep = refl
last_more (d ∷ []) dep = last_cons d dep []
last_more (d ∷ (e ∷ es)) dep = last_cons d e (es ++ dep ∷ []) ∙ last_more (e ∷ es) dep

one_none : (b : Bool) (path : List ℕ) (o : Option (List ℕ)) → (if b then Some path else o) ≡ None → o ≡ None
one_none true path o e = absurd (apart path e)
one_none false path o e = e

last_none : (d : Dep) → (if is_unknown d.known then Some d.path else None) ≡ None → wanted_by (Some d) ≡ None
last_none d e = e

pub none_wanted : (deps : List Dep) → first_unknown deps ≡ None → wanted deps ≡ None
none_wanted [] e = refl
none_wanted (d ∷ []) e = e
none_wanted (d ∷ (f ∷ fs)) e = ap wanted_by (last_cons d f fs) ∙ none_wanted (f ∷ fs) (one_none (is_unknown d.known) d.path (first_unknown (f ∷ fs)) e)

if_wanted : (b : Bool) (path : List ℕ) → b ≡ false → (if b then Some path else None) ≡ None
if_wanted b path e = ap (λ (x : Bool). if x then Some path else None) e

pub not_stopped : (o : Option Dep) → stopped_by o ≡ false → wanted_by o ≡ None
not_stopped None e = refl
not_stopped (Some d) e = if_wanted (is_unknown d.known) d.path e

-- ---- nothing is unknown but the last one

abbrev pub Told : List Dep → Type 0
Told deps = first_unknown deps ≡ wanted deps

known_by : (b : Bool) (x : Dep) (xs ys : List Dep) → is_unknown x.known ≡ b → first_unknown (x ∷ xs) ≡ None → (first_unknown xs ≡ None → first_unknown (xs ++ ys) ≡ first_unknown ys)
    → (if b then Some x.path else first_unknown (xs ++ ys)) ≡ first_unknown ys
known_by true x xs ys k e h = absurd (apart x.path (ap (λ (b : Bool). if b then Some x.path else first_unknown xs) (sym k) ∙ e))
known_by false x xs ys k e h = h (one_none (is_unknown x.known) x.path (first_unknown xs) e)

pub behind_known : (xs ys : List Dep) → first_unknown xs ≡ None → first_unknown (xs ++ ys) ≡ first_unknown ys
behind_known [] ys e = refl
behind_known (x ∷ xs) ys e = known_by (is_unknown x.known) x xs ys refl e (λ n. behind_known xs ys n)

pub absent_known : (known : List ℕ → Known) (paths : List (List ℕ)) → AllAbsent known paths → first_unknown (map (dep_of known) paths) ≡ None
absent_known known [] h = refl
absent_known known (p ∷ ps) h = ap (λ (k : Known). if is_unknown k then Some p else first_unknown (map (dep_of known) ps)) h.0 ∙ absent_known known ps h.1

pub map_more : (known : List ℕ → Known) (paths : List (List ℕ)) (path : List ℕ) → map (dep_of known) (paths ++ path ∷ []) ≡ map (dep_of known) paths ++ dep_of known path ∷ []
map_more known [] path = refl
map_more known (p ∷ ps) path = ap (λ (ds : List Dep). dep_of known p ∷ ds) (map_more known ps path)

told_last : (deps : List Dep) (dep : Dep) → first_unknown deps ≡ None → Told (deps ++ dep ∷ [])
told_last deps dep e = behind_known deps (dep ∷ []) e ∙ sym (ap wanted_by (last_more deps dep))

none_told : (deps : List Dep) → first_unknown deps ≡ None → Told deps
none_told deps e = e ∙ sym (none_wanted deps e)

asked_told : (known : List ℕ → Known) (deps : List Dep) (paths asked : List (List ℕ)) (found : Resolved) → first_unknown deps ≡ None → Resolves known paths asked found → Told (deps ++ map (dep_of known) asked)
asked_told known deps paths asked found e (decided front path rest split absent comes is) =
    subst Told (sym (ap (λ (ps : List (List ℕ)). deps ++ map (dep_of known) ps) is ∙ ap (λ (ds : List Dep). deps ++ ds) (map_more known front path) ∙ sym (append_assoc deps (map (dep_of known) front) (dep_of known path ∷ []))))
    (told_last (deps ++ map (dep_of known) front) (dep_of known path) (behind_known deps (map (dep_of known) front) e ∙ absent_known known front absent))
asked_told known deps paths asked found e (missing absent is found_is) =
    subst (λ (ps : List (List ℕ)). Told (deps ++ map (dep_of known) ps)) (sym is) (none_told (deps ++ map (dep_of known) paths) (behind_known deps (map (dep_of known) paths) e ∙ absent_known known paths absent))

-- ---- what is aimed at

abbrev pub deps_of : Arrival → List Dep
deps_of (Stays done) = done.deps
deps_of (Enters number path text done) = done.deps

if_arrives : (b : Bool) (number : ℕ) (path text : List ℕ) (done : PpDone) → deps_of (if b then Stays done else Enters number path text (with_file path done)) ≡ done.deps
if_arrives true number path text done = refl
if_arrives false number path text done = refl

pub arrived_deps : (target : Target) (found : Resolved) (done : PpDone) → deps_of (arrived target found done) ≡ done.deps
arrived_deps target (resolved.File path text) done = if_arrives (is_once done path) (number_in done.files path) path text done
arrived_deps target (resolved.Failed path) done = refl
arrived_deps target (resolved.Need path) done = refl
arrived_deps target resolved.Missing done = refl

-- the headers that were asked for when a search ends
pub arrival_deps : (w : World) (target : Target) (asked : List (List ℕ)) (found : Resolved) (old : PpDone) (a : Arrival) → arrived_in w target asked found old ≡ a → deps_of a ≡ old.deps ++ map (dep_of w.known) asked
arrival_deps w target asked found old a e = ap deps_of (sym e) ∙ arrived_deps target found (with_asked_paths w.known asked old)

if_marked : (b : Bool) (n : ℕ) (done : PpDone) → (if b then done else with_once n done).deps ≡ done.deps
if_marked true n done = refl
if_marked false n done = refl

pub marked_deps : (w : World) (done : PpDone) → (marked w done).deps ≡ done.deps
marked_deps w done = if_marked (w.depth == 0) w.file done

mutual
  pub goes_told : {w : World} {tokens : List Token} {marks : List Mark} {s t : State} → Goes w tokens marks s t → Told s.done.deps → Told t.done.deps
  goes_told (end w tokens s) h = h
  goes_told (stop w tokens mark marks s e) h = h
  goes_told (line w tokens mark marks s held aim mid done t e c d g) h =
      let a = line_adds w tokens s mark held aim mid c in
      let none : first_unknown s.done.deps ≡ None = h ∙ not_stopped (last_of s.done.deps) e in
      goes_told g (does_told d (subst Told (sym a.deps) h) (ap first_unknown a.deps ∙ none))

  pub does_told : {w : World} {aim : Aim} {old new : PpDone} → Does w aim old new → Told old.deps → first_unknown old.deps ≡ None → Told new.deps
  does_told (nothing w done) h n = h
  does_told (once w done) h n = subst Told (sym (marked_deps w done)) h
  does_told (deep w target done d) h n = h
  does_told (stays w target old done asked found d f e) h n = subst Told (sym (arrival_deps w target asked found old (Stays done) e)) (asked_told w.known old.deps _ asked found n f)
  does_told (enters w target old mid done asked found number path text d f e r) h n =
      reads_told r (subst Told (sym (arrival_deps w target asked found old (Enters number path text mid) e)) (asked_told w.known old.deps _ asked found n f))

  pub reads_told : {w : World} {old new : PpDone} → Reads w old new → Told old.deps → Told new.deps
  reads_told (read w old lexed groups t l g d) h = goes_told d h

pub first_needed : (w : World) (old new : PpDone) → old.deps ≡ [] → Reads w old new → first_unknown new.deps ≡ wanted new.deps
first_needed w old new e r = reads_told r (subst Told (sym e) refl)
