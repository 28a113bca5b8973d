-- Which journals are legal.
use Rattle.std.specs.Prelude.{◌≡◌, ℕ, ℤ, ◌<◌, ◌≤◌, nat_eq, List, [], ◌∷◌, length, map, if◌then◌else◌, Option, Some, None, slice_get, Contains}
use Rattle.cl_base.specs.declared.query.Query.{Query}
use Rattle.cl_base.specs.declared.headers.Read.{Read}
use Rattle.cl_headers.specs.Headers.{Headers}
use Rattle.cl_rpc.specs.declared.id.Id.{Id}
use Rattle.cl_rpc.specs.declared.out.How.{How}
use Rattle.cl_rpc.specs.declared.out.How.TheVariants as how
use Rattle.cl_rpc.specs.Classes.{Class, initialises, shuts_down, queries, cancels}
use Rattle.cl_history.specs.declared.entry.Entry.{Entry}
use Rattle.cl_history.specs.declared.entry.Entry.TheVariants.{In, Load, Reply, Notify}
use Rattle.cl_history.specs.Given.{Given, Needs, said, by_messages, received, loaded}
use Rattle.cl_history.specs.History.{is_initialised, text_at, pending, pending_meant, ends, refusal}
use Rattle.cl_history.specs.Headers.{headers_at, AreHeadersAt, past_at}

-- a reply that is due: the message, and how it is replied to
abbrev pub Due : Type 0
Due = ℕ × How

abbrev pub all_as : How → List ℕ → List Due
all_as h ns = map (λ n. (n, h)) ns

-- ---- what is due directly after a message

abbrev pub how_ended : Class → How
how_ended (cancels i) = how.Cancelled
how_ended _ = how.Modified

-- after one that isn't refused: the reply to an `initialize` or a `shutdown`, and those to the pending requests that it
-- ends, in the order of their receipt
abbrev pub due_to_accepted : Given → List Entry → ℕ → Class → List Due
due_to_accepted given past n (initialises i) = (n, how.Answered) ∷ []
due_to_accepted given past n (shuts_down i) = (n, how.Answered) ∷ []
due_to_accepted given past n k = all_as (how_ended k) (pending_meant given past (ends (is_initialised given past) (text_at given past) k))

-- a message that is refused gets just that reply
abbrev pub due_by : Given → List Entry → ℕ → Option ℤ → Class → List Due
due_by given past n (Some code) k = (n, how.Refused) ∷ []
due_by given past n None k = due_to_accepted given past n k

abbrev pub due_to : Given → List Entry → ℕ → Class → List Due
due_to given past n k = due_by given past n (refusal given past k) k

abbrev pub rest_of : List Due → List Due
rest_of [] = []
rest_of (due ∷ more) = more

-- the replies that have to come next, in this order
abbrev pub owed : Given → List Entry → List Due
owed given [] = []
owed given (In n ∷ past) = due_to given past n (said given n)
owed given (Load n ∷ past) = []
owed given (Reply message mark how ∷ past) = rest_of (owed given past)
owed given (Notify message mark ∷ past) = []

-- ---- legal journals

-- the past of a message's receipt, and how many entries it has
abbrev pub before : List Entry → ℕ → List Entry
before past m = by_messages (λ here n so_far. if nat_eq n m then here else so_far) [] past

abbrev pub place : List Entry → ℕ → ℕ
place past m = by_messages (λ here n so_far. if nat_eq n m then length here else so_far) 0 past

-- a mark of work on a message: it lies after the message's receipt, and not after the place
pub record IsMark (past : List Entry) (m mark : ℕ) : Type 0 where
  pub later : place past m < mark
  pub by_now : mark ≤ length past

-- a reply to a query that is pending: an answer over a state that is newer than the request, or want of memory
abbrev pub MayAnswer : Given → List Entry → ℕ → ℕ → How → Type 0
MayAnswer given past m mark how.Answered = Contains (pending given past) m × IsMark past m mark
MayAnswer given past m mark how.Memory = Contains (pending given past) m × (mark ≡ length past)
MayAnswer given past m mark _ = ⊥

-- a reply that is due comes next; where none is, a query may be replied to
abbrev pub MayReply : Given → List Entry → List Due → ℕ → ℕ → How → Type 0
MayReply given past [] m mark h = MayAnswer given past m mark h
MayReply given past (due ∷ more) m mark h = (m ≡ due.0) × (h ≡ due.1) × (mark ≡ length past)

-- some work that is pending needs a path, over headers that are no older than it and no newer than the place
pub record IsNeeded (needs : Needs) (given : Given) (past : List Entry) (needed : List ℕ) : Type 0 where
  pub m : ℕ
  pub mark : ℕ
  pub works : Contains (pending given past) m
  pub marked : IsMark past m mark
  pub id : Id
  pub query : Query
  pub path : List ℕ
  pub said_so : said given m ≡ queries id query path
  pub text : List ℕ
  pub over : text_at given (before past m) path ≡ Some text
  pub headers : Headers
  pub known : AreHeadersAt given (past_at past mark) headers
  pub needs_it : needs query given.config headers path text needed

-- the next header may be read: its path is unknown, and some work needs it
pub record MayLoad (needs : Needs) (given : Given) (past : List Entry) (n : ℕ) : Type 0 where
  pub next : n ≡ loaded past
  pub none_due : owed given past ≡ []
  pub path : List ℕ
  pub answer : Read
  pub is_read : slice_get given.reads n ≡ Some (path, answer)
  pub is_unknown : headers_at given past path ≡ None
  pub is_needed : IsNeeded needs given past path

abbrev pub MayFollow : Needs → Given → List Entry → Entry → Type 0
MayFollow needs given past (In n) = (n ≡ received past) × (owed given past ≡ [])
MayFollow needs given past (Load n) = MayLoad needs given past n
MayFollow needs given past (Reply m mark h) = MayReply given past (owed given past) m mark h
MayFollow needs given past (Notify m mark) = ⊥

-- each entry may follow those before it
abbrev pub AllFollow : Needs → Given → List Entry → Type 0
AllFollow needs given [] = Unit {0}
AllFollow needs given (e ∷ past) = MayFollow needs given past e × AllFollow needs given past

-- and no reply is due at the end
pub record IsLegal (needs : Needs) (given : Given) (past : List Entry) : Type 0 where
  pub follow : AllFollow needs given past
  pub none_due : owed given past ≡ []

-- no request is pending where a message is received
abbrev pub IsSettled : Given → List Entry → Type 0
IsSettled given [] = Unit {0}
IsSettled given (In n ∷ past) = (pending given past ≡ []) × IsSettled given past
IsSettled given (Load n ∷ past) = IsSettled given past
IsSettled given (Reply message mark how ∷ past) = IsSettled given past
IsSettled given (Notify message mark ∷ past) = IsSettled given past
