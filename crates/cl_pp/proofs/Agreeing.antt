-- What is known of a header matters only where it was asked for.
use Rattle.std.proofs.Common.{◌≡◌, ℕ, List, [], ◌∷◌, ◌++◌, refl, sym, ap, subst, ◌∙◌, map, append_assoc}
use Rattle.std.proofs.lemmas.List.{append-nil}
use Rattle.std.specs.List.{AllByRecursion}
use Rattle.cl_base.specs.declared.headers.Known.{Known}
use Rattle.cl_base.specs.declared.token.Token.{Token}
use Rattle.cl_cond.specs.declared.mark.Mark.{Mark}
use Rattle.cl_headers.specs.declared.dep.Dep.{Dep}
use Rattle.cl_headers.specs.declared.resolving.Resolved.{Resolved}
use Rattle.cl_headers.specs.Noting.{dep_of}
use Rattle.cl_headers.specs.Resolving.{AllAbsent, ComesTo, Resolves, decided, missing}
use Rattle.cl_pp.specs.declared.aim.Aim.{Aim}
use Rattle.cl_pp.specs.declared.aim.Target.{Target}
use Rattle.cl_pp.specs.declared.done.PpDone.{PpDone}
use Rattle.cl_pp.specs.declared.done.PpAnswer.{PpAnswer}
use Rattle.cl_pp.specs.Preprocessing.{Arrival, Before, Does, Enters, Goes, PreprocessesFrom, Reads, State, Stays, World, arrived, arrived_in}
use Rattle.cl_pp.specs.Preprocessing.{deep, end, enters, line, nothing, once, read, stays, stop}
use Rattle.cl_pp.specs.Resuming.{Agree as Agrees}
use Rattle.cl_pp.proofs.Adding.{line_adds}
use Rattle.cl_pp.proofs.Needing.{arrival_deps, marked_deps}

-- ---- the headers that were asked for become more

pub record Longer (xs ys : List Dep) : Type 0 where
  pub more : List Dep
  pub is : ys ≡ xs ++ more

same_long : (xs ys : List Dep) → ys ≡ xs → Longer xs ys
same_long xs ys e = record { more = []; is = e ∙ sym (append-nil xs) }

then_long : (xs ys zs : List Dep) → Longer xs ys → Longer ys zs → Longer xs zs
then_long xs ys zs a b = record { more = a.more ++ b.more; is = b.is ∙ ap (λ (ds : List Dep). ds ++ b.more) a.is ∙ append_assoc xs a.more b.more }

mutual
  pub goes_long : {w : World} {tokens : List Token} {marks : List Mark} {s t : State} → Goes w tokens marks s t → Longer s.done.deps t.done.deps
  goes_long (end w tokens s) = same_long s.done.deps s.done.deps refl
  goes_long (stop w tokens mark marks s e) = same_long s.done.deps s.done.deps refl
  goes_long (line w tokens mark marks s held aim mid done t e c d g) =
      then_long s.done.deps mid.deps t.done.deps (same_long s.done.deps mid.deps (line_adds w tokens s mark held aim mid c).deps) (then_long mid.deps done.deps t.done.deps (does_long d) (goes_long g))

  pub does_long : {w : World} {aim : Aim} {old new : PpDone} → Does w aim old new → Longer old.deps new.deps
  does_long (nothing w done) = same_long done.deps done.deps refl
  does_long (once w done) = same_long done.deps _ (marked_deps w done)
  does_long (deep w target done d) = same_long done.deps done.deps refl
  does_long (stays w target old done asked found d f e) = record { more = map (dep_of w.known) asked; is = arrival_deps w target asked found old (Stays done) e }
  does_long (enters w target old mid done asked found number path text d f e r) =
      then_long old.deps mid.deps done.deps (record { more = map (dep_of w.known) asked; is = arrival_deps w target asked found old (Enters number path text mid) e }) (reads_long r)

  pub reads_long : {w : World} {old new : PpDone} → Reads w old new → Longer old.deps new.deps
  reads_long (read w old lexed groups t l g d) = goes_long d

-- ---- what was asked for is known so elsewhere

module _ (other : List ℕ → Known) where
  abbrev pub Agree : List Dep → Type 0
  Agree deps = Agrees other deps

  pub front_agrees : (xs ys : List Dep) → Agree (xs ++ ys) → Agree xs
  front_agrees [] ys h = tt
  front_agrees (x ∷ xs) ys h = (h.0, front_agrees xs ys h.1)

  back_agrees : (xs ys : List Dep) → Agree (xs ++ ys) → Agree ys
  back_agrees [] ys h = h
  back_agrees (x ∷ xs) ys h = back_agrees xs ys h.1

  pub before_agrees : (xs ys : List Dep) → Longer xs ys → Agree ys → Agree xs
  before_agrees xs ys l h = front_agrees xs l.more (subst Agree l.is h)

  -- the same is known of these paths
  abbrev Same : (List ℕ → Known) → List (List ℕ) → Type 0
  Same known paths = AllByRecursion (λ (path : List ℕ). other path ≡ known path) paths

  as_same : (known : List ℕ → Known) (paths : List (List ℕ)) → Agree (map (dep_of known) paths) → Same known paths
  as_same known [] h = tt
  as_same known (p ∷ ps) h = (h.0, as_same known ps h.1)

  same_deps : (known : List ℕ → Known) (paths : List (List ℕ)) → Same known paths → map (dep_of known) paths ≡ map (dep_of other) paths
  same_deps known [] h = refl
  same_deps known (p ∷ ps) h = λ i. record { path = p; known = sym h.0 i } ∷ same_deps known ps h.1 i

  front_same : (known : List ℕ → Known) (xs ys : List (List ℕ)) → Same known (xs ++ ys) → Same known xs
  front_same known [] ys h = tt
  front_same known (x ∷ xs) ys h = (h.0, front_same known xs ys h.1)

  last_same : (known : List ℕ → Known) (xs : List (List ℕ)) (x : List ℕ) → Same known (xs ++ x ∷ []) → other x ≡ known x
  last_same known [] x h = h.0
  last_same known (y ∷ ys) x h = last_same known ys x h.1

  absent_same : (known : List ℕ → Known) (paths : List (List ℕ)) → Same known paths → AllAbsent known paths → AllAbsent other paths
  absent_same known [] s h = tt
  absent_same known (p ∷ ps) s h = (s.0 ∙ h.0, absent_same known ps s.1 h.1)

  pub resolves_same : (known : List ℕ → Known) (paths asked : List (List ℕ)) (found : Resolved) → Same known asked → Resolves known paths asked found → Resolves other paths asked found
  resolves_same known paths asked found s (decided front path rest split absent comes is) =
      let t : Same known (front ++ path ∷ []) = subst (Same known) is s in
      decided front path rest split (absent_same known front (front_same known front (path ∷ []) t) absent) (subst (λ (k : Known). ComesTo path k found) (sym (last_same known front path t)) comes) is
  resolves_same known paths asked found s (missing absent is found_is) = missing (absent_same known paths (subst (Same known) is s) absent) is found_is

  abbrev pub elsewhere : World → World
  elsewhere w = record w { known = other }

  pub asked_same : (w : World) (old : PpDone) (asked : List (List ℕ)) (new : List Dep) → new ≡ old.deps ++ map (dep_of w.known) asked → Agree new → Same w.known asked
  asked_same w old asked new e h = as_same w.known asked (back_agrees old.deps (map (dep_of w.known) asked) (subst Agree e h))

  pub arrives_same : (w : World) (target : Target) (asked : List (List ℕ)) (found : Resolved) (old : PpDone) (a : Arrival) → Same w.known asked → arrived_in w target asked found old ≡ a
      → arrived_in (elsewhere w) target asked found old ≡ a
  arrives_same w target asked found old a s e = sym (ap (λ (ds : List Dep). arrived target found (record old { deps = old.deps ++ ds })) (same_deps w.known asked s)) ∙ e

  mutual
    pub goes_same : {w : World} {tokens : List Token} {marks : List Mark} {s t : State} → Goes w tokens marks s t → Agree t.done.deps → Goes (elsewhere w) tokens marks s t
    goes_same (end w tokens s) h = end (elsewhere w) tokens s
    goes_same (stop w tokens mark marks s e) h = stop (elsewhere w) tokens mark marks s e
    goes_same (line w tokens mark marks s held aim mid done t e c d g) h =
        line (elsewhere w) tokens mark marks s held aim mid done t e c (does_same d (before_agrees done.deps t.done.deps (goes_long g) h)) (goes_same g h)

    pub does_same : {w : World} {aim : Aim} {old new : PpDone} → Does w aim old new → Agree new.deps → Does (elsewhere w) aim old new
    does_same (nothing w done) h = nothing (elsewhere w) done
    does_same (once w done) h = once (elsewhere w) done
    does_same (deep w target done d) h = deep (elsewhere w) target done d
    does_same (stays w target old done asked found d f e) h =
        let s = asked_same w old asked done.deps (arrival_deps w target asked found old (Stays done) e) h in
        stays (elsewhere w) target old done asked found d (resolves_same w.known _ asked found s f) (arrives_same w target asked found old (Stays done) s e)
    does_same (enters w target old mid done asked found number path text d f e r) h =
        let s = asked_same w old asked mid.deps (arrival_deps w target asked found old (Enters number path text mid) e) (before_agrees mid.deps done.deps (reads_long r) h) in
        enters (elsewhere w) target old mid done asked found number path text d (resolves_same w.known _ asked found s f) (arrives_same w target asked found old (Enters number path text mid) s e) (reads_same r h)

    pub reads_same : {w : World} {old new : PpDone} → Reads w old new → Agree new.deps → Reads (elsewhere w) old new
    reads_same (read w old lexed groups t l g d) h = read (elsewhere w) old lexed groups t l g (goes_same d h)

  -- a text comes to the same wherever the same is known of what was asked for
  pub from_same : (before : Before) (known : List ℕ → Known) (folders : List (List ℕ)) (path text : List ℕ) (answer : PpAnswer) → (p : PreprocessesFrom before known folders path text answer) → Agree p.done.deps
      → PreprocessesFrom before other folders path text answer
  from_same before known folders path text answer p h = record { one_token = p.one_token; tells = p.tells; done = p.done; reads = reads_same p.reads h; is = p.is }
