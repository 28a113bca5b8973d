-- What holds at a place of a session.
use Rattle.std.specs.Prelude.{ℕ, ℤ, ◌&&◌, ◌||◌, nat_eq, List, [], ◌∷◌, ◌++◌, filter, Bool, true, false, not, if◌then◌else◌, Option, Some, None, is_some}
use Rattle.std.specs.List.{list_any}
use Rattle.std.specs.Str.{bytes_eq}
use Rattle.cl_rpc.specs.declared.id.Id.{Id}
use Rattle.cl_rpc.specs.Classes.{Class, initialises, shuts_down, queries, unknown, bad_params, invalid, opens, changes, closes, cancels, same_id}
use Rattle.cl_history.specs.declared.entry.Entry.{Entry}
use Rattle.cl_history.specs.declared.entry.Entry.TheVariants.{In, Load, Reply, Notify}
use Rattle.cl_history.specs.Given.{Given, said, by_messages}
use Rattle.cl_history.specs.Refusals.{refusal_of, document_of, is_open}

-- ---- the session is initialised

abbrev pub is_initialising : Class → Bool
is_initialising (initialises i) = true
is_initialising _ = false

-- an `initialize` was received; the first one is always accepted
abbrev pub is_initialised : Given → List Entry → Bool
is_initialised given past = by_messages (λ before n so_far. is_initialising (said given n) || so_far) false past

-- ---- the documents

-- the text of a document after a message, where it was this before
abbrev pub text_after : Bool → Class → List ℕ → Option (List ℕ) → Option (List ℕ)
text_after initialised (opens path version text) document before =
    if initialised && bytes_eq path document then Some text else before
text_after initialised (changes path version text) document before =
    if initialised && (bytes_eq path document && is_some before) then Some text else before
text_after initialised (closes path) document before =
    if initialised && bytes_eq path document then None else before
text_after initialised _ document before = before

-- the text of the document that was accepted last, if the document is open
abbrev pub text_at : Given → List Entry → List ℕ → Option (List ℕ)
text_at given past document = by_messages (λ before n so_far. text_after (is_initialised given before) (said given n) document so_far) None past

-- the version of that text
abbrev pub version_after : Bool → Class → List ℕ → Option ℤ → Option ℤ
version_after initialised (opens path version text) document before =
    if initialised && bytes_eq path document then Some version else before
version_after initialised (changes path version text) document before =
    if initialised && (bytes_eq path document && is_some before) then Some version else before
version_after initialised (closes path) document before =
    if initialised && bytes_eq path document then None else before
version_after initialised _ document before = before

abbrev pub version_at : Given → List Entry → List ℕ → Option ℤ
version_at given past document = by_messages (λ before n so_far. version_after (is_initialised given before) (said given n) document so_far) None past

-- ---- the requests that are pending

-- a request that is answered by work on a document
abbrev pub is_query : Class → Bool
is_query (queries i query path) = true
is_query _ = false

-- the list without a number
abbrev pub without : ℕ → List ℕ → List ℕ
without n ns = filter (λ m. not (nat_eq m n)) ns

-- the query requests that were received and have no reply yet, in the order of their receipt; one that is refused has
-- its reply directly after it
abbrev pub pending : Given → List Entry → List ℕ
pending given [] = []
pending given (In n ∷ past) = pending given past ++ (if is_query (said given n) then n ∷ [] else [])
pending given (Load n ∷ past) = pending given past
pending given (Reply message mark how ∷ past) = without message (pending given past)
pending given (Notify message mark ∷ past) = pending given past

abbrev pub asks_by : Id → Class → Bool
asks_by i (queries j query path) = same_id i j
asks_by i _ = false

abbrev pub asks_on : List ℕ → Class → Bool
asks_on document (queries i query path) = bytes_eq path document
asks_on document _ = false

abbrev pub is_pending : Given → List Entry → Id → Bool
is_pending given past i = list_any (λ n. asks_by i (said given n)) (pending given past)

-- which pending requests a message ends: a cancel that of its id, and a newer text of a document those on it
pub data End : Type 0 where
  by_id : Id → End
  on_document : List ℕ → End

abbrev pub ends : (initialised : Bool) → (List ℕ → Option (List ℕ)) → Class → Option End
ends initialised texts (cancels i) = if initialised then Some (by_id i) else None
ends initialised texts (opens path version text) = if initialised then Some (on_document path) else None
ends initialised texts (changes path version text) = if initialised && is_some (texts path) then Some (on_document path) else None
ends initialised texts _ = None

abbrev pub is_meant : End → Class → Bool
is_meant (by_id i) k = asks_by i k
is_meant (on_document path) k = asks_on path k

abbrev pub pending_meant : Given → List Entry → Option End → List ℕ
pending_meant given past None = []
pending_meant given past (Some e) = filter (λ n. is_meant e (said given n)) (pending given past)

-- ---- the session is shut down

-- a `shutdown` whose id is free
abbrev pub is_shutting_down : Given → List Entry → Class → Bool
is_shutting_down given past (shuts_down i) = not (is_pending given past i)
is_shutting_down given past _ = false

-- a `shutdown` was accepted: it came while the session was initialised, under an id that wasn't pending
abbrev pub is_shut_down : Given → List Entry → Bool
is_shut_down given past = by_messages (λ before n so_far. (is_initialised given before && is_shutting_down given before (said given n)) || so_far) false past

-- ---- refusals

abbrev pub refusal_by_id : Given → List Entry → Id → Class → Option ℤ
refusal_by_id given past i k =
    refusal_of (is_initialised given past) (is_shut_down given past) (is_pending given past i) (is_open (text_at given past) (document_of k)) k

-- the code with which a message is refused that is received here
abbrev pub refusal : Given → List Entry → Class → Option ℤ
refusal given past (initialises i) = refusal_by_id given past i (initialises i)
refusal given past (shuts_down i) = refusal_by_id given past i (shuts_down i)
refusal given past (queries i query path) = refusal_by_id given past i (queries i query path)
refusal given past (unknown i) = refusal_by_id given past i (unknown i)
refusal given past (bad_params i b) = refusal_by_id given past i (bad_params i b)
refusal given past (invalid i code) = Some code
refusal given past _ = None
