-- What a journal writes.
use Rattle.std.specs.Prelude.{◌≡◌, ℕ, ℤ, List, [], ◌∷◌, ◌++◌, Some}
use Rattle.cl_base.specs.declared.answer.Answer.{Answer}
use Rattle.cl_headers.specs.Headers.{Headers}
use Rattle.cl_rpc.specs.declared.out.How.{How}
use Rattle.cl_rpc.specs.declared.out.How.TheVariants as how
use Rattle.cl_rpc.specs.declared.out.Out.{Out}
use Rattle.cl_rpc.specs.declared.out.Out.TheVariants as out
use Rattle.cl_rpc.specs.declared.out.Reply.{Reply}
use Rattle.cl_rpc.specs.Replies.{reply_frame}
use Rattle.cl_rpc.specs.Classes.{Class, initialises, shuts_down, queries}
use Rattle.cl_history.specs.declared.entry.Entry.{Entry}
use Rattle.cl_history.specs.declared.entry.Entry.TheVariants as entry
use Rattle.cl_history.specs.Given.{Given, Answers, said}
use Rattle.cl_history.specs.Refusals.{id_of, request_cancelled, content_modified, out_of_memory}
use Rattle.cl_history.specs.History.{text_at, refusal}
use Rattle.cl_history.specs.Headers.{AreHeadersAt, past_at}
use Rattle.cl_history.specs.Legal.{before}

-- what answers a message that was received at `past`, over what was known at `marked`: a query is answered over its
-- document's text at its receipt, and over the headers at the mark
abbrev pub IsAnswer : Answers → Given → (past marked : List Entry) → Class → Out → Type 0
IsAnswer answers given past marked (initialises i) o = o ≡ out.Capabilities
IsAnswer answers given past marked (shuts_down i) o = o ≡ out.Null
IsAnswer answers given past marked (queries i query path) o =
    (text : List ℕ) × (headers : Headers) × (answer : Answer)
    × (text_at given past path ≡ Some text) × AreHeadersAt given marked headers × answers query given.config headers path text answer × (o ≡ out.Answer answer)
IsAnswer answers given past marked _ o = ⊥

-- what a message that was received at `past` is replied
abbrev pub IsOut : Answers → Given → (past marked : List Entry) → Class → How → Out → Type 0
IsOut answers given past marked k how.Answered o = IsAnswer answers given past marked k o
IsOut answers given past marked k how.Refused o = (code : ℤ) × (refusal given past k ≡ Some code) × (o ≡ out.Error code)
IsOut answers given past marked k how.Cancelled o = o ≡ out.Error request_cancelled
IsOut answers given past marked k how.Modified o = o ≡ out.Error content_modified
IsOut answers given past marked k how.Memory o = o ≡ out.Error out_of_memory

-- the reply of an entry after this past
pub record Tells (answers : Answers) (given : Given) (past : List Entry) (m mark : ℕ) (h : How) (reply : Reply) : Type 0 where
  pub message : reply.message ≡ m
  pub marked : reply.mark ≡ mark
  pub how_so : reply.how ≡ h
  pub id_is : reply.id ≡ id_of (said given m)
  pub out_is : IsOut answers given (before past m) (past_at past mark) (said given m) h reply.out

-- what an entry writes after this past
abbrev pub EntryWrites : Answers → Given → List Entry → Entry → List ℕ → Type 0
EntryWrites answers given past (entry.Reply m mark h) bytes = (reply : Reply) × Tells answers given past m mark h reply × (bytes ≡ reply_frame reply)
EntryWrites answers given past _ bytes = bytes ≡ []

-- the frames of the entries, in order
abbrev pub Writes : Answers → Given → List Entry → List ℕ → Type 0
Writes answers given [] bytes = bytes ≡ []
Writes answers given (e ∷ past) bytes =
    (front : List ℕ) × (more : List ℕ) × Writes answers given past front × EntryWrites answers given past e more × (bytes ≡ front ++ more)
