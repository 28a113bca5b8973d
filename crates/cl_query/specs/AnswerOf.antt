-- What a query is answered with. The definition is opaque: what stands above this crate can't look into it.
use Rattle.std.specs.Prelude.{◌≡◌, ℕ, List}
use Rattle.std.specs.Coded.{Coded-set, coded_list}
use mathlib.Core.Path.{sym, ap, subst, ◌∙◌}
use mathlib.Core.Logic.{∥∥₁_elim, ∥∥₁_prop}
use Rattle.cl_base.specs.declared.answer.Symbol.{Symbol}
use Rattle.cl_base.specs.contracts.answer.Symbol.{the_row}
use Rattle.cl_base.specs.declared.answer.Answer.{Answer}
use Rattle.cl_base.specs.declared.answer.Answer.TheVariants.{Symbols as Listed}
use Rattle.cl_pp.specs.declared.done.PpDone.{PpDone}
use Rattle.cl_base.specs.declared.token.PpToken.{PpToken}
use Rattle.cl_pp.specs.declared.done.PpAnswer.{PpAnswer}
use Rattle.cl_pp.specs.declared.done.PpAnswer.TheVariants as answer
use Rattle.cl_pp.specs.Preprocessing.{Preprocesses}
use Rattle.cl_base.specs.declared.headers.Known.{Known}
use Rattle.cl_parse.specs.declared.item.Item.{Item}
use Rattle.cl_parse.specs.Items.{ItemsOf, no_names}
use Rattle.cl_base.specs.declared.query.Query.{Query}
use Rattle.cl_base.specs.declared.query.Query.TheVariants.{Symbols}
use Rattle.cl_base.specs.declared.config.Settings.{Settings}
use Rattle.cl_headers.specs.Headers.{Headers}
use Rattle.cl_headers.specs.Resolving.{known_of}
use Rattle.cl_query.specs.Symbols.{symbols_in}

-- the symbols of a text are those of its items, which are those of its tokens after preprocessing under these settings and
-- with these headers
pub record AreSymbolsOf (config : Settings) (headers : Headers) (path text : List ℕ) (symbols : List Symbol) : Type 0 where
  pub done : PpDone
  pub items : List Item
  pub preprocessed : Preprocesses config (known_of headers) path text (answer.Done done)
  pub parses : ItemsOf no_names done.tokens items
  pub listed : symbols ≡ symbols_in text done.tokens items

-- the answer of a query about the text at a path, under these settings and with these headers
pub AnswerOf : Query → Settings → Headers → List ℕ → List ℕ → Answer → Type 0
AnswerOf Symbols config headers path text (Listed symbols) = ∥ AreSymbolsOf config headers path text symbols ∥₁

-- it holds in one way at most
pub AnswerOf-prop : (kind : Query) (config : Settings) (headers : Headers) (path text : List ℕ) (answer : Answer) → IsProp (AnswerOf kind config headers path text answer)
unfolding AnswerOf
AnswerOf-prop Symbols config headers path text (Listed symbols) = ∥∥₁_prop

-- the first header that the answer depends on and of which nothing is known: the one that preprocessing the text asks for
pub NeedsOf : Query → Settings → Headers → List ℕ → List ℕ → List ℕ → Type 0
NeedsOf Symbols config headers path text needed = ∥ Preprocesses config (known_of headers) path text (answer.Need needed) ∥₁

-- it holds in one way at most
pub NeedsOf-prop : (kind : Query) (config : Settings) (headers : Headers) (path text needed : List ℕ) → IsProp (NeedsOf kind config headers path text needed)
unfolding NeedsOf
NeedsOf-prop Symbols config headers path text needed = ∥∥₁_prop

pub answer_of_symbols : (config : Settings) (headers : Headers) (path text : List ℕ) (done : PpDone) (items : List Item) (symbols : List Symbol)
    → Preprocesses config (known_of headers) path text (answer.Done done) → ItemsOf no_names done.tokens items → symbols ≡ symbols_in text done.tokens items → AnswerOf Symbols config headers path text (Listed symbols)
unfolding AnswerOf
answer_of_symbols config headers path text done items symbols preprocessed parses listed =
    ∣ record { done = done; items = items; preprocessed = preprocessed; parses = parses; listed = listed } ∣₁

pub needs_of_symbols : (config : Settings) (headers : Headers) (path text needed : List ℕ) → Preprocesses config (known_of headers) path text (answer.Need needed) → NeedsOf Symbols config headers path text needed
unfolding NeedsOf
needs_of_symbols config headers path text needed preprocessed = ∣ preprocessed ∣₁

-- what was made, where no header is needed
abbrev made_or : PpDone → PpAnswer → PpDone
made_or other (answer.Done done) = done
made_or other (answer.Need path) = other

-- where a text comes to one answer of preprocessing, and its tokens have one list of items, it has one list of symbols
module _ (one_done : (config : Settings) (known : List ℕ → Known) (path text : List ℕ) (x y : PpAnswer) → Preprocesses config known path text x → Preprocesses config known path text y → x ≡ y)
    (one_parse : (tokens : List PpToken) (xs ys : List Item) → ItemsOf no_names tokens xs → ItemsOf no_names tokens ys → xs ≡ ys) where
  one_list : (config : Settings) (headers : Headers) (path text : List ℕ) (xs ys : List Symbol) → AreSymbolsOf config headers path text xs → AreSymbolsOf config headers path text ys → xs ≡ ys
  one_list config headers path text xs ys a b =
      let done : a.done ≡ b.done = ap (made_or a.done) (one_done config (known_of headers) path text (answer.Done a.done) (answer.Done b.done) a.preprocessed b.preprocessed) in
      let items : a.items ≡ b.items = one_parse b.done.tokens a.items b.items (subst (λ (d : PpDone). ItemsOf no_names d.tokens a.items) done a.parses) b.parses in
      a.listed ∙ ap (λ (d : PpDone). symbols_in text d.tokens a.items) done ∙ ap (symbols_in text b.done.tokens) items ∙ sym b.listed

  pub one_answer_by : (kind : Query) (config : Settings) (headers : Headers) (path text : List ℕ) (x y : Answer) → AnswerOf kind config headers path text x → AnswerOf kind config headers path text y → x ≡ y
  unfolding AnswerOf
  one_answer_by Symbols config headers path text (Listed xs) (Listed ys) a b =
      ap Listed (∥∥₁_elim a (Coded-set (coded_list the_row.coded) xs ys) (λ p. ∥∥₁_elim b (Coded-set (coded_list the_row.coded) xs ys) (λ q. one_list config headers path text xs ys p q)))

  abbrev is_need : PpAnswer → Type 0
  is_need (answer.Done done) = ⊥
  is_need (answer.Need path) = Unit {0}

  no_fact : IsProp ⊥
  no_fact = λ x y. absurd x

  pub answer_or_need_by : (kind : Query) (config : Settings) (headers : Headers) (path text needed : List ℕ) (x : Answer) → AnswerOf kind config headers path text x → NeedsOf kind config headers path text needed → ⊥
  unfolding AnswerOf NeedsOf
  answer_or_need_by Symbols config headers path text needed (Listed xs) a b =
      ∥∥₁_elim a no_fact (λ p. ∥∥₁_elim b no_fact (λ q. subst is_need (sym (one_done config (known_of headers) path text (answer.Done p.done) (answer.Need needed) p.preprocessed q)) tt))
