-- What is done where a line aims at a header.
use Rattle.std.proofs.Common.{◌≡◌, ℕ, ◌<◌, List, [], ◌++◌, refl, sym, ap, subst, ◌∙◌, map}
use Rattle.cl_base.specs.declared.config.Settings.{Settings}
use Rattle.cl_base.specs.declared.headers.Known.{Known}
use Rattle.cl_headers.specs.declared.dep.Dep.{Dep}
use Rattle.cl_headers.specs.declared.resolving.Resolved.{Resolved}
use Rattle.cl_headers.specs.declared.resolving.Resolved.TheVariants as resolved
use Rattle.cl_headers.specs.Noting.{Searches, dep_of}
use Rattle.cl_headers.specs.Resolving.{Resolves, candidates}
use Rattle.cl_paths.specs.Parts.{folder}
use Rattle.cl_pp.specs.declared.aim.Aim.TheVariants.{Once, Header}
use Rattle.cl_pp.specs.declared.aim.Target.{Target}
use Rattle.cl_pp.specs.declared.done.PpDone.{PpDone}
use Rattle.cl_pp.specs.declared.made.Reached.{Reached}
use Rattle.cl_pp.specs.declared.made.Reached.TheVariants as reached
use Rattle.cl_pp.specs.declared.made.Source.{Source}
use Rattle.cl_pp.specs.Preprocessing.{Does, Finds, World, arrived, marked, once, stays}
use Rattle.cl_pp.specs.Standing.{with_asked_paths}
use Rattle.cl_pp.specs.code.Reaching.{Arrives, IsIn, Looks, Reaches, Settles}

abbrev is_need : Reached → Type 0
is_need reached.Nothing = ⊥
is_need (reached.Enters f) = ⊥
is_need (reached.Needs path deps) = Unit {0}

abbrev deps_or : List Dep → Reached → List Dep
deps_or other reached.Nothing = other
deps_or other (reached.Enters f) = other
deps_or other (reached.Needs path deps) = deps

-- the headers that were asked for are those of the search
pub asked_are : (known other : List ℕ → Known) (asked : List Dep) (paths : List (List ℕ)) → asked ≡ [] ++ map (dep_of known) paths → known ≡ other → asked ≡ map (dep_of other) paths
asked_are known other asked paths e k = e ∙ ap (λ (v : List ℕ → Known). map (dep_of v) paths) k

pub looks_is : (w : World) (source : Source) (config : Settings) (known : List ℕ → Known) (target : Target) (above name : List ℕ) (old new : PpDone) (none asked : List Dep) (before after : List (List ℕ)) (resolved : Resolved) (it : Reached)
    → IsIn source config known w → above ≡ folder source.path → name ≡ target.name → none ≡ []
    → Searches known (candidates above name target.angled config.includes) none asked before after resolved
    → Arrives target resolved asked old new it → Looks w target old new it
looks_is w source config known target above name old new none asked before after resolved it i a n z s h =
    let from : above ≡ folder w.path = a ∙ ap folder i.path in
    record {
      asked = s.asked;
      resolved = resolved;
      finds = subst (λ (v : List ℕ → Known). Resolves v (candidates (folder w.path) target.name target.angled w.folders) s.asked resolved) i.known_is
          (subst (λ (fs : List (List ℕ)). Resolves known (candidates (folder w.path) target.name target.angled fs) s.asked resolved) i.folders
          (subst (λ (m : List ℕ). Resolves known (candidates (folder w.path) m target.angled config.includes) s.asked resolved) n
          (subst (λ (f : List ℕ). Resolves known (candidates f name target.angled config.includes) s.asked resolved) from s.resolves)));
      arrives = subst (λ (ds : List Dep). Arrives target resolved ds old new it) (asked_are known w.known asked s.asked (s.are ∙ ap (λ (ds : List Dep). ds ++ map (dep_of known) s.asked) z) i.known_is) h;
    }

-- where a header is needed, the search would only have asked
stays_at : (w : World) (target : Target) (old new : PpDone) (paths : List (List ℕ)) (path needed : List ℕ) (asked deps : List Dep) → w.depth < 200 → Finds w target paths (resolved.Need path) → asked ≡ map (dep_of w.known) paths
    → reached.Needs needed deps ≡ reached.Needs path asked → new ≡ old → Reaches w target old new (reached.Needs needed deps)
stays_at w target old new paths path needed asked deps d f e r n =
    let same : deps ≡ asked = ap (deps_or asked) r in
    (n, subst (λ (ds : List Dep). Does w (Header target) old (record old { deps = old.deps ++ ds })) (sym (same ∙ e)) (stays w target old _ paths (resolved.Need path) d f refl))

settled : (w : World) (target : Target) (old new : PpDone) (paths : List (List ℕ)) (found : Resolved) (it : Reached) → w.depth < 200 → Finds w target paths found
    → Settles (arrived target found (with_asked_paths w.known paths old)) new it → Looks w target old new it → Reaches w target old new it
settled w target old new paths found reached.Nothing d f h l = stays w target old new paths found d f h
settled w target old new paths found (reached.Enters g) d f h l = (d, l)
settled w target old new paths found (reached.Needs path deps) d f h l = absurd h

by_found : (w : World) (target : Target) (old new : PpDone) (paths : List (List ℕ)) (found : Resolved) (it : Reached) → w.depth < 200 → Finds w target paths found
    → Arrives target found (map (dep_of w.known) paths) old new it → Looks w target old new it → Reaches w target old new it
by_found w target old new paths (resolved.File path text) it d f h l = settled w target old new paths (resolved.File path text) it d f h l
by_found w target old new paths (resolved.Failed path) it d f h l = settled w target old new paths (resolved.Failed path) it d f h l
by_found w target old new paths resolved.Missing it d f h l = settled w target old new paths resolved.Missing it d f h l
by_found w target old new paths (resolved.Need path) reached.Nothing d f h l = absurd (subst is_need (sym h.0) tt)
by_found w target old new paths (resolved.Need path) (reached.Enters g) d f h l = absurd (subst is_need (sym h.0) tt)
by_found w target old new paths (resolved.Need path) (reached.Needs needed deps) d f h l = stays_at w target old new paths path needed (map (dep_of w.known) paths) deps d f refl h.0 h.1

pub reaches_by : (w : World) (target : Target) (old new : PpDone) (it : Reached) → w.depth < 200 → Looks w target old new it → Reaches w target old new it
reaches_by w target old new it d l = by_found w target old new l.asked l.resolved it d l.finds l.arrives l

pub marks_it : (w : World) (old new : PpDone) → new ≡ marked w old → Does w Once old new
marks_it w old new e = subst (λ (d : PpDone). Does w Once old d) (sym e) (once w old)
