-- What work on a job finds.
use Rattle.std.specs.Prelude.{◌≡◌, ℕ, List}
use Rattle.cl_base.specs.declared.answer.Answer.TheVariants.{Symbols as Listed}
use Rattle.cl_base.specs.declared.answer.Symbol.{Symbol}
use Rattle.cl_base.specs.declared.token.PpToken.{PpToken}
use Rattle.cl_base.specs.declared.config.Settings.{Settings}
use Rattle.cl_base.specs.declared.query.Query.{Query}
use Rattle.cl_headers.specs.Headers.{Headers}
use Rattle.cl_parse.specs.declared.item.Item.{Item}
use Rattle.cl_parse.specs.Items.{ItemsOf, no_names}
use Rattle.cl_pp.specs.declared.done.PpDone.{PpDone}
use Rattle.cl_query.specs.declared.answers.Found.{Found}
use Rattle.cl_query.specs.declared.answers.Found.TheVariants.{Answer as Answered, Need}
use Rattle.cl_query.specs.declared.job.Job.{Job}
use Rattle.cl_query.specs.Seen.{Agrees, NeedRests, Rests}
use Rattle.cl_query.specs.Symbols.{symbols_in}
use Rattle.cl_query.specs.Unknowns.{IsUnknown}

pub record IsListed (text : List ℕ) (tokens : List PpToken) (symbols : List Symbol) : Type 0 where
  pub items : List Item
  pub parses : ItemsOf no_names tokens items
  pub listed : symbols ≡ symbols_in text tokens items

-- the answer is that of the tokens, and what was seen of headers is what was asked for
abbrev pub IsAnsweredBy : List ℕ → PpDone → Found → Type 0
IsAnsweredBy text done (Answered (Listed symbols) deps) = IsListed text done.tokens symbols × (deps ≡ done.deps)
IsAnsweredBy text done (Need needed deps) = ⊥

-- the answer, or the header that is needed, over every snapshot that says what was seen, as these headers do
abbrev pub FindsOver : Query → Settings → Headers → List ℕ → List ℕ → Found → Type 0
FindsOver kind config headers path text (Answered answer seen) = Rests kind config seen path text answer × Agrees headers seen
FindsOver kind config headers path text (Need needed seen) = NeedRests kind config seen path text needed × Agrees headers seen × IsUnknown headers needed

abbrev pub Finds : Job → Found → Type 0
Finds job found = FindsOver job.kind job.config job.headers job.path job.text found
