-- What work on a query saw of headers, and what rests on it.
use Rattle.std.specs.Prelude.{◌≡◌, ℕ, List, unwrap_or}
use Rattle.std.specs.Coded.{Coded-set, Π_prop}
use Rattle.std.specs.List.{AllByRecursion, AllByRecursion-prop}
use Rattle.cl_base.specs.declared.answer.Answer.{Answer}
use Rattle.cl_base.specs.declared.config.Settings.{Settings}
use Rattle.cl_base.specs.declared.headers.Known.{Known}
use Rattle.cl_base.specs.declared.headers.Known.TheVariants.{Unknown}
use Rattle.cl_base.specs.contracts.headers.Known.{the_row}
use Rattle.cl_base.specs.declared.query.Query.{Query}
use Rattle.cl_headers.specs.Headers.{Headers, known_at}
use Rattle.cl_headers.specs.declared.dep.Dep.{Dep}
use Rattle.cl_query.specs.AnswerOf.{AnswerOf, AnswerOf-prop, NeedsOf, NeedsOf-prop}

-- what a snapshot says of a path: what is known of it, or that nothing is
abbrev pub says : Headers → List ℕ → Known
says headers path = unwrap_or (known_at headers path) Unknown

-- it says of each path that was looked at what was seen there
abbrev pub Agrees : Headers → List Dep → Type 0
Agrees headers seen = AllByRecursion (λ (dep : Dep). says headers dep.path ≡ dep.known) seen

-- it holds in one way at most
pub Agrees-prop : (headers : Headers) (seen : List Dep) → IsProp (Agrees headers seen)
Agrees-prop headers seen = AllByRecursion-prop (λ (dep : Dep). says headers dep.path ≡ dep.known) (λ dep. Coded-set the_row.coded (says headers dep.path) dep.known) seen

-- the answer is the query's over every snapshot that agrees with what was seen
abbrev pub Rests : Query → Settings → List Dep → List ℕ → List ℕ → Answer → Type 0
Rests kind config seen path text answer = (headers : Headers) → Agrees headers seen → AnswerOf kind config headers path text answer

pub Rests-prop : (kind : Query) (config : Settings) (seen : List Dep) (path text : List ℕ) (answer : Answer) → IsProp (Rests kind config seen path text answer)
Rests-prop kind config seen path text answer = Π_prop (λ headers. Π_prop (λ agrees. AnswerOf-prop kind config headers path text answer))

-- a header is needed over every snapshot that agrees with what was seen
abbrev pub NeedRests : Query → Settings → List Dep → List ℕ → List ℕ → List ℕ → Type 0
NeedRests kind config seen path text needed = (headers : Headers) → Agrees headers seen → NeedsOf kind config headers path text needed

pub NeedRests-prop : (kind : Query) (config : Settings) (seen : List Dep) (path text needed : List ℕ) → IsProp (NeedRests kind config seen path text needed)
NeedRests-prop kind config seen path text needed = Π_prop (λ headers. Π_prop (λ agrees. NeedsOf-prop kind config headers path text needed))
