-- The headers that are kept.
use Rattle.std.proofs.Common.{◌≡◌, ℕ, List, ◌++◌, Option, Some, Bool, true, false, cond, if◌then◌else◌, subst, sym}
use Rattle.std.specs.Prelude.{IfSome}
use Rattle.std.specs.BTreeMap.{is_at}
use Rattle.std.specs.Cmp.{Equal-is}
use Rattle.std.specs.Cmp.Lexicographic.{slice_cmp}
use Rattle.std.specs.Ordering.{nat_cmp}
use Rattle.std.proofs.lemmas.Map.Lookups.{exact_bytes}
use Rattle.cl_base.specs.declared.headers.Known.{Known}
use Rattle.cl_base.specs.declared.headers.Known.TheVariants as state
use Rattle.cl_headers.specs.declared.dep.Dep.{Dep}
use Rattle.cl_headers.specs.declared.resolving.Resolved.{Resolved}
use Rattle.cl_headers.specs.declared.resolving.Resolved.TheVariants as resolved
use Rattle.cl_headers.specs.Resolving.{ComesTo, Resolves, decided, missing}
use Rattle.cl_pp.specs.declared.aim.Target.{Target}
use Rattle.cl_pp.specs.declared.done.PpDone.{PpDone}
use Rattle.cl_pp.specs.declared.made.Reached.{Reached}
use Rattle.cl_pp.specs.declared.made.Reached.TheVariants as reached
use Rattle.cl_pp.specs.declared.made.Opened.{Opened}
use Rattle.cl_pp.specs.Preprocessing.{Arrival, Enters, Stays, arrived}
use Rattle.cl_pp.specs.Standing.{is_once, number_in, with_file}
use Rattle.cl_pp.specs.code.Reaching.{Arrives, IsKnown, IsLaid, Settles}
use Rattle.cl_pp.specs.code.Shelving.{IsOfHeader}

-- ---- a file that is entered is known to have its text

abbrev pub AreKnown : (List ℕ → Known) → Arrival → Type 0
AreKnown known (Stays done) = Unit {0}
AreKnown known (Enters number path text done) = known path ≡ state.Found text

if_known : (known : List ℕ → Known) (b : Bool) (number : ℕ) (path text : List ℕ) (done : PpDone) → known path ≡ state.Found text → AreKnown known (if b then Stays done else Enters number path text (with_file path done))
if_known known true number path text done h = tt
if_known known false number path text done h = h

arrived_known : (known : List ℕ → Known) (path : List ℕ) (k : Known) (found : Resolved) (target : Target) (done : PpDone) → known path ≡ k → ComesTo path k found → AreKnown known (arrived target found done)
arrived_known known path (state.Found text) found target done e h = subst (λ (r : Resolved). AreKnown known (arrived target r done)) (sym h) (if_known known (is_once done path) (number_in done.files path) path text done e)
arrived_known known path state.Failed found target done e h = subst (λ (r : Resolved). AreKnown known (arrived target r done)) (sym h) tt
arrived_known known path state.Unknown found target done e h = subst (λ (r : Resolved). AreKnown known (arrived target r done)) (sym h) tt
arrived_known known path state.Absent found target done e h = absurd h

pub resolved_known : (known : List ℕ → Known) (paths asked : List (List ℕ)) (found : Resolved) (target : Target) (done : PpDone) → Resolves known paths asked found → AreKnown known (arrived target found done)
resolved_known known paths asked found target done (decided front path rest split absent comes is) = arrived_known known path (known path) found target done (λ i. known path) comes
resolved_known known paths asked found target done (missing absent is found_is) = subst (λ (r : Resolved). AreKnown known (arrived target r done)) (sym found_is) tt

settled_known : (known : List ℕ → Known) (arrival : Arrival) (new : PpDone) (it : Reached) → AreKnown known arrival → Settles arrival new it → IsKnown known it
settled_known known arrival new reached.Nothing k h = tt
settled_known known arrival new (reached.Enters f) k h = subst (AreKnown known) h k
settled_known known arrival new (reached.Needs path deps) k h = absurd h

need_known : (known : List ℕ → Known) (path : List ℕ) (deps : List Dep) (it : Reached) → it ≡ reached.Needs path deps → IsKnown known it
need_known known path deps it h = subst (IsKnown known) (sym h) tt

pub found_known : (known : List ℕ → Known) (paths asked : List (List ℕ)) (found : Resolved) (target : Target) (deps : List Dep) (old new : PpDone) (it : Reached) → Resolves known paths asked found → Arrives target found deps old new it → IsKnown known it
found_known known paths asked (resolved.File path text) target deps old new it r h = settled_known known _ new it (resolved_known known paths asked (resolved.File path text) target (record old { deps = old.deps ++ deps }) r) h
found_known known paths asked (resolved.Failed path) target deps old new it r h = settled_known known _ new it (resolved_known known paths asked (resolved.Failed path) target (record old { deps = old.deps ++ deps }) r) h
found_known known paths asked resolved.Missing target deps old new it r h = settled_known known _ new it (resolved_known known paths asked resolved.Missing target (record old { deps = old.deps ++ deps }) r) h
found_known known paths asked (resolved.Need path) target deps old new it r h = need_known known path deps it h.0

-- ---- what is kept

module _ {X : Type 0} (value : X → Opened) (known : List ℕ → Known) where
  abbrev Held : List ℕ → Option X → Type 0
  Held path found = IfSome found (λ x. IsOfHeader (known path) (value x))

  pub is_held : (path text : List ℕ) (x : X) (found : Option X) → found ≡ Some x → known path ≡ state.Found text → Held path found → IsLaid text (value x)
  is_held path text x found e k h = subst (λ (s : Known). IsOfHeader s (value x)) k (subst (Held path) e h)

  one_held : (path q : List ℕ) (x : X) (b : Bool) (before : Option X) → is_at (slice_cmp nat_cmp path) q ≡ b → IsOfHeader (known path) (value x) → Held q before → Held q (cond b (Some x) before)
  one_held path q x true before e h k = subst (λ (p : List ℕ). IsOfHeader (known p) (value x)) (exact_bytes path q ((Equal-is (slice_cmp nat_cmp path q)).0 e)) h
  one_held path q x false before e h k = k

  pub put_held : (path text : List ℕ) (x : X) (before after : List ℕ → Option X) → ((q : List ℕ) → after q ≡ cond (is_at (slice_cmp nat_cmp path) q) (Some x) (before q)) → known path ≡ state.Found text → IsLaid text (value x)
      → ((q : List ℕ) → Held q (before q)) → (q : List ℕ) → Held q (after q)
  put_held path text x before after u k h s q =
      subst (Held q) (sym (u q)) (one_held path q x (is_at (slice_cmp nat_cmp path) q) (before q) (λ i. is_at (slice_cmp nat_cmp path) q) (subst (λ (t : Known). IsOfHeader t (value x)) (sym k) h) (s q))
