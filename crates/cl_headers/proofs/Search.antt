-- The search for a header, candidate by candidate.
use Rattle.std.proofs.Common.{◌≡◌, ℕ, List, [], ◌∷◌, ◌++◌, refl, sym, ap, ◌∙◌, subst, append_assoc}
use Rattle.std.proofs.lemmas.List.{append-nil}
use Rattle.cl_base.specs.declared.headers.Known.{Known}
use Rattle.cl_base.specs.declared.headers.Known.TheVariants as state
use Rattle.cl_paths.specs.Parts.{joined}
use Rattle.cl_headers.specs.Resolving.{AllAbsent, Answers, ComesTo, decided, missing, named, Resolves, Stops}
use Rattle.cl_headers.specs.declared.resolving.Resolved.{Resolved}
use Rattle.cl_headers.specs.declared.resolving.Resolved.TheVariants.{File, Failed, Need, Missing}

abbrev Paths : Type 0
Paths = List (List ℕ)

abbrev View : Type 0
View = List ℕ → Known

later : (before asked : Paths) (path : List ℕ) (mid after : Paths) → mid ≡ before ++ path ∷ [] → after ≡ mid ++ asked → after ≡ before ++ path ∷ asked
later before asked path mid after e f = f ∙ ap (λ (ps : Paths). ps ++ asked) e ∙ append_assoc before (path ∷ []) asked

pub later_resolves : (view : View) (path : List ℕ) (paths asked : Paths) (resolved : Resolved) → view path ≡ state.Absent → Resolves view paths asked resolved
    → Resolves view (path ∷ paths) (path ∷ asked) resolved
later_resolves view path paths asked resolved none (decided front p rest split absent comes e) =
    decided (path ∷ front) p rest (ap (λ (ps : Paths). path ∷ ps) split) (none, absent) comes (ap (λ (ps : Paths). path ∷ ps) e)
later_resolves view path paths asked resolved none (missing absent e is) = missing (none, absent) (ap (λ (ps : Paths). path ∷ ps) e) is

-- ---- what a search answers

pub here_answers : (view : View) (path : List ℕ) (rest before after : Paths) (resolved : Resolved) → ComesTo path (view path) resolved → after ≡ before ++ path ∷ []
    → Answers view (path ∷ rest) before after resolved
here_answers view path rest before after resolved comes e = record { asked = path ∷ []; grown = e; resolves = decided [] path rest refl tt comes refl }

pub later_answers : (view : View) (path : List ℕ) (rest before mid after : Paths) (resolved : Resolved) → view path ≡ state.Absent → mid ≡ before ++ path ∷ []
    → Answers view rest mid after resolved → Answers view (path ∷ rest) before after resolved
later_answers view path rest before mid after resolved none e answers =
    record {
      asked = path ∷ answers.asked;
      grown = later before answers.asked path mid after e answers.grown;
      resolves = later_resolves view path rest answers.asked resolved none answers.resolves;
    }

pub none_answers : (view : View) (before : Paths) → Answers view [] before before Missing
none_answers view before = record { asked = []; grown = sym (append-nil before); resolves = missing tt refl refl }

-- ---- the same of folders, where what is known stays as it was

pub found_answers : (old view : View) (folder name : List ℕ) (rest : Paths) (path : List ℕ) (before after : Paths) (resolved : Resolved) → view ≡ old → path ≡ joined folder name
    → ComesTo path (view path) resolved → after ≡ before ++ path ∷ [] → Answers old (named (folder ∷ rest) name) before after resolved
found_answers old view folder name rest path before after resolved fixed is comes e =
    subst (λ (p : List ℕ). Answers old (p ∷ named rest name) before after resolved) is
    (here_answers old path (named rest name) before after resolved (subst (λ (v : View). ComesTo path (v path) resolved) fixed comes) e)

pub next_answers : (old view : View) (folder name : List ℕ) (rest : Paths) (path : List ℕ) (before mid after : Paths) (resolved : Resolved) → view ≡ old → path ≡ joined folder name
    → view path ≡ state.Absent → mid ≡ before ++ path ∷ [] → Answers old (named rest name) mid after resolved → Answers old (named (folder ∷ rest) name) before after resolved
next_answers old view folder name rest path before mid after resolved fixed is none e answers =
    subst (λ (p : List ℕ). Answers old (p ∷ named rest name) before after resolved) is
    (later_answers old path (named rest name) before mid after resolved (subst (λ (v : View). v path ≡ state.Absent) fixed none) e answers)

-- ---- where it is given up

pub stops_here : (view : View) (paths before after : Paths) → after ≡ before → Stops view paths before after
stops_here view paths before after e = record { front = []; rest = paths; split = refl; absent = tt; grown = e ∙ sym (append-nil before) }

pub later_stops : (view : View) (path : List ℕ) (rest before mid after : Paths) → view path ≡ state.Absent → mid ≡ before ++ path ∷ [] → Stops view rest mid after
    → Stops view (path ∷ rest) before after
later_stops view path rest before mid after none e stops =
    record {
      front = path ∷ stops.front;
      rest = stops.rest;
      split = ap (λ (ps : Paths). path ∷ ps) stops.split;
      absent = (none, stops.absent);
      grown = later before stops.front path mid after e stops.grown;
    }

pub next_stops : (old view : View) (folder name : List ℕ) (rest : Paths) (path : List ℕ) (before mid after : Paths) → view ≡ old → path ≡ joined folder name
    → view path ≡ state.Absent → mid ≡ before ++ path ∷ [] → Stops old (named rest name) mid after → Stops old (named (folder ∷ rest) name) before after
next_stops old view folder name rest path before mid after fixed is none e stops =
    subst (λ (p : List ℕ). Stops old (p ∷ named rest name) before after) is
    (later_stops old path (named rest name) before mid after (subst (λ (v : View). v path ≡ state.Absent) fixed none) e stops)

-- ---- there is one answer, and there is one

by_known : Known → List ℕ → Paths × Resolved → Paths × Resolved
by_known (state.Found text) path rest = (path ∷ [], File path text)
by_known state.Failed path rest = (path ∷ [], Failed path)
by_known state.Unknown path rest = (path ∷ [], Need path)
by_known state.Absent path rest = (path ∷ rest.0, rest.1)

search_of : View → Paths → Paths × Resolved
search_of view [] = ([], Missing)
search_of view (path ∷ paths) = by_known (view path) path (search_of view paths)

come : (told : Known) (path : List ℕ) (rest : Paths × Resolved) (resolved : Resolved) → ComesTo path told resolved → by_known told path rest ≡ (path ∷ [], resolved)
unfolding by_known
come (state.Found text) path rest resolved comes = λ i. (path ∷ [], sym comes i)
come state.Failed path rest resolved comes = λ i. (path ∷ [], sym comes i)
come state.Unknown path rest resolved comes = λ i. (path ∷ [], sym comes i)
come state.Absent path rest resolved comes = absurd comes

past : (view : View) (front rest : Paths) (end : Paths × Resolved) → AllAbsent view front → search_of view rest ≡ end → search_of view (front ++ rest) ≡ (front ++ end.0, end.1)
unfolding by_known search_of
past view [] rest end absent e = e
past view (path ∷ front) rest end absent e = rw absent.0 (ap (λ (p : Paths × Resolved). (path ∷ p.0, p.1)) (past view front rest end absent.1 e))

found : (view : View) (paths asked : Paths) (resolved : Resolved) → Resolves view paths asked resolved → search_of view paths ≡ (asked, resolved)
unfolding search_of
found view paths asked resolved (decided front path rest split absent comes e) =
    ap (search_of view) split ∙ past view front (path ∷ rest) (path ∷ [], resolved) absent (come (view path) path (search_of view rest) resolved comes)
    ∙ (λ i. (sym e i, resolved))
found view paths asked resolved (missing absent e is) =
    ap (search_of view) (sym (append-nil paths)) ∙ past view paths [] ([], Missing) absent refl ∙ (λ i. ((append-nil paths ∙ sym e) i, sym is i))

pub one_answer : (view : View) (paths a b : Paths) (r s : Resolved) → Resolves view paths a r → Resolves view paths b s → (a ≡ b) × (r ≡ s)
one_answer view paths a b r s x y =
    let e : (a, r) ≡ (b, s) = sym (found view paths a r x) ∙ found view paths b s y in
    (ap (λ (p : Paths × Resolved). p.0) e, ap (λ (p : Paths × Resolved). p.1) e)

pub record Ends (view : View) (paths : Paths) : Type 0 where
  pub asked : Paths
  pub resolved : Resolved
  pub resolves : Resolves view paths asked resolved

first : (told : Known) (view : View) (path : List ℕ) (paths : Paths) → view path ≡ told → Ends view paths → Ends view (path ∷ paths)
first (state.Found text) view path paths e rest = record { asked = path ∷ []; resolved = File path text; resolves = decided [] path paths refl tt (subst (λ (k : Known). ComesTo path k (File path text)) (sym e) refl) refl }
first state.Failed view path paths e rest = record { asked = path ∷ []; resolved = Failed path; resolves = decided [] path paths refl tt (subst (λ (k : Known). ComesTo path k (Failed path)) (sym e) refl) refl }
first state.Unknown view path paths e rest = record { asked = path ∷ []; resolved = Need path; resolves = decided [] path paths refl tt (subst (λ (k : Known). ComesTo path k (Need path)) (sym e) refl) refl }
first state.Absent view path paths e rest = record { asked = path ∷ rest.asked; resolved = rest.resolved; resolves = later_resolves view path paths rest.asked rest.resolved e rest.resolves }

pub some_answer : (view : View) (paths : Paths) → Ends view paths
some_answer view [] = record { asked = []; resolved = Missing; resolves = missing tt refl refl }
some_answer view (path ∷ paths) = first (view path) view path paths refl (some_answer view paths)
