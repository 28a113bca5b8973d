-- What was found is the query's answer, or the header that it needs.
use Rattle.std.proofs.Common.{◌≡◌, ◌≢◌, ℕ, zero, suc, ◌-◌, Bool, true, false, List, [], ◌∷◌, Option, Some, None, refl, sym, ap, subst, ◌∙◌, length, map, ◌<◌, ◌⊎◌, inl, inr, arith}
use Rattle.std.specs.Prelude.{if◌then◌else◌, slice_get, unwrap_or, MatchOption}
use Rattle.std.specs.List.{AllByRecursion}
use Rattle.std.specs.Map.{lookup}
use Rattle.std.specs.Ordering.{nat_cmp}
use Rattle.std.specs.Cmp.Lexicographic.{slice_cmp}
use Rattle.std.specs.BTreeMap.{is_at}
use Rattle.cl_base.specs.declared.answer.Answer.{Answer}
use Rattle.cl_base.specs.declared.answer.Answer.TheVariants.{Symbols as Listed}
use Rattle.cl_base.specs.declared.config.Settings.{Settings}
use Rattle.cl_base.specs.declared.headers.Known.{Known}
use Rattle.cl_base.specs.declared.headers.Known.TheVariants as state
use Rattle.cl_base.specs.declared.query.Query.{Query}
use Rattle.cl_base.specs.declared.query.Query.TheVariants.{Symbols}
use Rattle.cl_headers.specs.Headers.{Headers, known_at}
use Rattle.cl_headers.specs.Maps.{IsHeaderMap}
use Rattle.cl_headers.specs.Resolving.{known_of}
use Rattle.cl_pp.specs.declared.done.PpAnswer.{PpAnswer}
use Rattle.cl_pp.specs.declared.done.PpAnswer.TheVariants as pp
use Rattle.cl_pp.specs.declared.done.PpDone.{PpDone}
use Rattle.cl_pp.specs.declared.start.PpState.{PpState}
use Rattle.cl_pp.specs.Before.{IsFirst, before_of}
use Rattle.cl_pp.specs.Preprocessing.{Preprocesses, answer_by}
use Rattle.cl_pp.specs.Standing.{is_unknown, wanted, wanted_by}
use Rattle.cl_pp.specs.Resuming.{Agree, Went}
use Rattle.cl_pp.proofs.Agreeing.{from_same}
use Rattle.cl_pp.proofs.Found.{from_first}
use Rattle.cl_pp.proofs.Resuming.{noted_agree}
use Rattle.cl_query.specs.declared.answers.Found.{Found}
use Rattle.cl_query.specs.declared.answers.Found.TheVariants.{Answer as Answered, Need}
use Rattle.cl_headers.specs.declared.dep.Dep.{Dep}
use Rattle.cl_query.specs.AnswerOf.{AnswerOf, NeedsOf, answer_of_symbols, needs_of_symbols}
use Rattle.cl_base.specs.declared.token.PpToken.{PpToken}
use Rattle.cl_parse.specs.declared.item.Item.{Item}
use Rattle.cl_parse.specs.Items.{ItemsOf, no_names}
use Rattle.cl_query.specs.Symbols.{symbols_in}
use Rattle.cl_query.specs.Finding.{FindsOver, IsAnsweredBy}
use Rattle.cl_query.specs.Unknowns.{IsUnknown}

pub only_symbols : (kind : Query) → kind ≡ Symbols
only_symbols Symbols = refl

-- ---- what isn't known

abbrev pick : Option (List ℕ) → Type 0
pick None = ⊥
pick (Some path) = Unit {0}

abbrev path_or : List ℕ → Option (List ℕ) → List ℕ
path_or other None = other
path_or other (Some path) = path

no_path : (path : List ℕ) (A : Type 0) → None ≡ Some path → A
no_path path A e = absurd (subst pick (sym e) tt)

by_known : (known : List ℕ → Known) (p path : List ℕ) (k : Known) → known p ≡ k → (if is_unknown k then Some p else None) ≡ Some path → known path ≡ state.Unknown
by_known known p path state.Unknown e h = let same : p ≡ path = ap (path_or p) h in subst (λ (q : List ℕ). known q ≡ state.Unknown) same e
by_known known p path state.Absent e h = no_path path _ h
by_known known p path state.Failed e h = no_path path _ h
by_known known p path (state.Found text) e h = no_path path _ h

wanted_at : (known : List ℕ → Known) (deps : List Dep) (n : ℕ) (path : List ℕ) → Agree known deps → wanted_by (slice_get deps n) ≡ Some path → known path ≡ state.Unknown
wanted_at known [] zero path a h = no_path path _ h
wanted_at known [] (suc n) path a h = no_path path _ h
wanted_at known (d ∷ ds) zero path a h = by_known known d.path path d.known a.0 h
wanted_at known (d ∷ ds) (suc n) path a h = wanted_at known ds n path a.1 h

abbrev needs : PpAnswer → Type 0
needs (pp.Done done) = ⊥
needs (pp.Need path) = Unit {0}

abbrev needed_or : List ℕ → PpAnswer → List ℕ
needed_or other (pp.Done done) = other
needed_or other (pp.Need path) = path

needed_is : (path : List ℕ) (o : Option (List ℕ)) (done : PpDone) → pp.Need path ≡ answer_by o done → o ≡ Some path
needed_is path None done e = absurd (subst needs e tt)
needed_is path (Some p) done e = ap Some (sym (ap (needed_or path) e))

if_told : (b : Bool) (k : Known) (o : Option Known) → k ≢ state.Unknown → MatchOption o (Unit {0}) (λ known. known ≢ state.Unknown) → MatchOption (if b then Some k else o) (Unit {0}) (λ known. known ≢ state.Unknown)
if_told true k o h t = h
if_told false k o h t = t

lookup_told : (at : List ℕ → Bool) (headers : Headers) → AllByRecursion (λ (entry : List ℕ × Known). entry.1 ≢ state.Unknown) headers → MatchOption (lookup at headers) (Unit {0}) (λ known. known ≢ state.Unknown)
lookup_told at [] h = tt
lookup_told at (entry ∷ headers) h = if_told (at entry.0) entry.1 (lookup at headers) h.0 (lookup_told at headers h.1)

none_told : (o : Option Known) → MatchOption o (Unit {0}) (λ known. known ≢ state.Unknown) → unwrap_or o state.Unknown ≡ state.Unknown → o ≡ None
none_told None h e = refl
none_told (Some k) h e = absurd (h e)

pub unknown_at : (headers : Headers) (path : List ℕ) → IsHeaderMap headers → known_of headers path ≡ state.Unknown → IsUnknown headers path
unknown_at headers path m e = none_told (known_at headers path) (lookup_told (is_at (slice_cmp nat_cmp path)) headers m.told) e

-- ---- what work on a job finds

module _ (config : Settings) (headers : Headers) (path text : List ℕ) (first : PpState) (earlier later : List (List ℕ)) (deps : List Dep) (f : IsFirst config.defines first) (own : Agree (known_of headers) deps) where
  abbrev Came : PpDone → PpAnswer → Type 0
  Came done answer = Went (before_of first) (known_of headers) config.includes path text deps earlier later done answer

  agrees : (done : PpDone) (answer : PpAnswer) → Came done answer → Agree (known_of headers) done.deps
  agrees done answer w = noted_agree (known_of headers) deps done.deps earlier later own w.noted

  elsewhere : (done : PpDone) (answer : PpAnswer) → Came done answer → (others : Headers) → Agree (known_of others) done.deps → Preprocesses config (known_of others) path text answer
  elsewhere done answer w others a =
      from_first config first (known_of others) path text answer f
      (from_same (known_of others) (before_of first) (known_of headers) config.includes path text answer (record { one_token = w.read.one_token; tells = w.read.tells; done = done; reads = w.read.reads; is = w.is }) a)

  pub answered : (done : PpDone) (it : Found) → Came done (pp.Done done) → IsAnsweredBy text done it → FindsOver Symbols config headers path text it
  answered done (Answered (Listed symbols) seen) w h = (
    λ others a. answer_of_symbols config others path text done h.0.items symbols (elsewhere done (pp.Done done) w others (subst (Agree (known_of others)) h.1 a)) h.0.parses h.0.listed,
    subst (Agree (known_of headers)) (sym h.1) (agrees done (pp.Done done) w),
  )
  answered done (Need needed seen) w h = absurd h

  pub needed : (done : PpDone) (path_of : List ℕ) (seen : List Dep) → IsHeaderMap headers → Came done (pp.Need path_of) → seen ≡ done.deps → FindsOver Symbols config headers path text (Need path_of seen)
  needed done path_of seen m w s =
      let last : wanted done.deps ≡ Some path_of = needed_is path_of (wanted done.deps) done w.is in (
        λ others a. needs_of_symbols config others path text path_of (elsewhere done (pp.Need path_of) w others (subst (Agree (known_of others)) s a)),
        subst (Agree (known_of headers)) (sym s) (agrees done (pp.Need path_of) w),
        unknown_at headers path_of m (wanted_at (known_of headers) done.deps (length done.deps - 1) path_of (agrees done (pp.Need path_of) w) last),
      )

-- ---- every query comes to something

pub some_by : ((tokens : List PpToken) → (items : List Item) × ItemsOf no_names tokens items) → (config : Settings) (headers : Headers) (path text : List ℕ) (answer : PpAnswer) → Preprocesses config (known_of headers) path text answer
    → ((x : Answer) × AnswerOf Symbols config headers path text x) ⊎ ((needed : List ℕ) × NeedsOf Symbols config headers path text needed)
some_by some config headers path text (pp.Done done) p =
    let s = some done.tokens in
    inl (Listed (symbols_in text done.tokens s.0), answer_of_symbols config headers path text done s.0 (symbols_in text done.tokens s.0) p s.1 refl)
some_by some config headers path text (pp.Need needed) p = inr (needed, needs_of_symbols config headers path text needed p)
