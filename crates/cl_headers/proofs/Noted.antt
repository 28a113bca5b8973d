-- A search, path by path, with what is kept of it.
use Rattle.std.proofs.Common.{◌≡◌, ℕ, List, [], ◌∷◌, ◌++◌, refl, sym, ap, subst, ◌∙◌, append_assoc, map}
use Rattle.std.proofs.lemmas.List.{append-nil}
use Rattle.cl_base.specs.declared.headers.Known.{Known}
use Rattle.cl_base.specs.declared.headers.Known.TheVariants as state
use Rattle.cl_headers.specs.declared.dep.Dep.{Dep}
use Rattle.cl_headers.specs.declared.resolving.Resolved.{Resolved}
use Rattle.cl_headers.specs.declared.resolving.Resolved.TheVariants.{Missing}
use Rattle.cl_headers.specs.Noting.{Searches, dep_of}
use Rattle.cl_headers.specs.Resolving.{ComesTo, decided, missing}
use Rattle.cl_headers.proofs.Search.{later_resolves}

abbrev View : Type 0
View = List ℕ → Known

pub found_searches : (old view : View) (path : List ℕ) (rest : List (List ℕ)) (olds news : List Dep) (before after : List (List ℕ)) (resolved : Resolved) → view ≡ old
    → ComesTo path (view path) resolved → after ≡ before ++ path ∷ [] → news ≡ olds ++ dep_of view path ∷ [] → Searches old (path ∷ rest) olds news before after resolved
found_searches old view path rest olds news before after resolved fixed comes e n = record {
  asked = path ∷ [];
  since = e;
  are = n ∙ ap (λ (v : View). olds ++ dep_of v path ∷ []) fixed;
  resolves = decided [] path rest refl tt (subst (λ (v : View). ComesTo path (v path) resolved) fixed comes) refl;
}

pub next_searches : (old view : View) (path : List ℕ) (rest : List (List ℕ)) (olds mids news : List Dep) (before mid after : List (List ℕ)) (resolved : Resolved) → view ≡ old
    → view path ≡ state.Absent → mid ≡ before ++ path ∷ [] → mids ≡ olds ++ dep_of view path ∷ [] → Searches old rest mids news mid after resolved → Searches old (path ∷ rest) olds news before after resolved
next_searches old view path rest olds mids news before mid after resolved fixed none e n s = record {
  asked = path ∷ s.asked;
  since = s.since ∙ ap (λ (ps : List (List ℕ)). ps ++ s.asked) e ∙ append_assoc before (path ∷ []) s.asked;
  are = s.are ∙ ap (λ (ds : List Dep). ds ++ map (dep_of old) s.asked) (n ∙ ap (λ (v : View). olds ++ dep_of v path ∷ []) fixed) ∙ append_assoc olds (dep_of old path ∷ []) (map (dep_of old) s.asked);
  resolves = later_resolves old path rest s.asked resolved (subst (λ (v : View). v path ≡ state.Absent) fixed none) s.resolves;
}

pub none_searches : (old : View) (olds : List Dep) (before : List (List ℕ)) → Searches old [] olds olds before before Missing
none_searches old olds before = record { asked = []; since = sym (append-nil before); are = sym (append-nil olds); resolves = missing tt refl refl }
