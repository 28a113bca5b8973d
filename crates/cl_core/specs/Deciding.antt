-- What a core decides of a message, by its own facts.
use Rattle.std.specs.Prelude.{ℕ, ℤ, ◌+◌, ◌&&◌, List, [], ◌∷◌, length, filter, Bool, not, if◌then◌else◌, Option, Some, None, option_map}
use Rattle.std.specs.List.{list_any}
use Rattle.std.specs.Str.{bytes_eq}
use Rattle.cl_base.specs.declared.headers.Known.{Known}
use Rattle.cl_base.specs.declared.headers.Known.TheVariants as known
use Rattle.cl_base.specs.declared.query.Query.{Query}
use Rattle.cl_store.specs.declared.docs.Doc.{Doc}
use Rattle.cl_store.specs.declared.docs.Docs.{Docs}
use Rattle.cl_store.specs.Docs.{doc_at}
use Rattle.cl_rpc.specs.declared.id.Id.{Id}
use Rattle.cl_rpc.specs.declared.out.How.{How}
use Rattle.cl_rpc.specs.declared.out.How.TheVariants as how
use Rattle.cl_rpc.specs.declared.out.Out.{Out}
use Rattle.cl_rpc.specs.declared.out.Out.TheVariants as out
use Rattle.cl_rpc.specs.declared.out.Reply.{Reply}
use Rattle.cl_rpc.specs.Classes.{Class, initialises, shuts_down, queries, unknown, bad_params, invalid, opens, changes, closes, watched}
use Rattle.cl_history.specs.declared.entry.Entry.{Entry}
use Rattle.cl_history.specs.declared.entry.Entry.TheVariants as entry
use Rattle.cl_history.specs.Refusals.{id_of, refusal_of, document_of, is_open, request_cancelled, content_modified, out_of_memory}
use Rattle.cl_history.specs.History.{End, ends, is_meant}
use Rattle.cl_history.specs.Legal.{how_ended}
use Rattle.cl_core.specs.declared.core_state.Core.{Core}
use Rattle.cl_core.specs.declared.waiting.Waiting.{Waiting}
use Rattle.cl_core.specs.Waiting.{has_id, class_of_waiting}

-- the texts of the open documents
abbrev pub texts_of : Docs → List ℕ → Option (List ℕ)
texts_of docs path = option_map (λ (doc : Doc). doc.text) (doc_at docs path)

abbrev pub versions_of : Docs → List ℕ → Option ℤ
versions_of docs path = option_map (λ (doc : Doc). doc.version) (doc_at docs path)

-- ---- refusals

abbrev pub core_refusal_by_id : Core → Id → Class → Option ℤ
core_refusal_by_id core i k = refusal_of core.initialised core.shut_down (list_any (has_id i) core.pending) (is_open (texts_of core.docs) (document_of k)) k

abbrev pub core_refusal : Core → Class → Option ℤ
core_refusal core (initialises i) = core_refusal_by_id core i (initialises i)
core_refusal core (shuts_down i) = core_refusal_by_id core i (shuts_down i)
core_refusal core (queries i query path) = core_refusal_by_id core i (queries i query path)
core_refusal core (unknown i) = core_refusal_by_id core i (unknown i)
core_refusal core (bad_params i b) = core_refusal_by_id core i (bad_params i b)
core_refusal core (invalid i code) = Some code
core_refusal core _ = None

-- ---- replies

abbrev pub reply_by : ℕ → ℕ → How → Option Id → Out → Reply
reply_by message mark h i o = record { message = message; mark = mark; how = h; id = i; out = o }

abbrev pub code_of : How → ℤ
code_of how.Cancelled = request_cancelled
code_of how.Modified = content_modified
code_of _ = out_of_memory

-- the replies that end these requests, from this mark on
abbrev pub ended : ℕ → How → List Waiting → List Reply
ended mark h [] = []
ended mark h (w ∷ ws) = reply_by w.job.message mark h (Some w.id) (out.Error (code_of h)) ∷ ended (mark + 1) h ws

abbrev pub entry_of : Reply → Entry
entry_of r = entry.Reply r.message r.mark r.how

-- the requests that a message ends, and those that go on waiting
abbrev pub meant_by : Option End → List Waiting → List Waiting
meant_by None ws = []
meant_by (Some e) ws = filter (λ w. is_meant e (class_of_waiting w)) ws

abbrev pub others_than : Option End → List Waiting → List Waiting
others_than None ws = ws
others_than (Some e) ws = filter (λ w. not (is_meant e (class_of_waiting w))) ws

abbrev pub ends_by : Core → Class → Option End
ends_by core k = ends core.initialised (texts_of core.docs) k

abbrev pub left_by : Core → Class → List Waiting
left_by core k = others_than (ends_by core k) core.pending

-- the replies that come directly after a message that isn't refused
abbrev pub replies_if_accepted : Core → ℕ → Class → List Reply
replies_if_accepted core mark (initialises i) = reply_by core.messages mark how.Answered (Some i) out.Capabilities ∷ []
replies_if_accepted core mark (shuts_down i) = reply_by core.messages mark how.Answered (Some i) out.Null ∷ []
replies_if_accepted core mark k = ended mark (how_ended k) (meant_by (ends_by core k) core.pending)

abbrev pub replies_by : Core → ℕ → Option ℤ → Class → List Reply
replies_by core mark (Some code) k = reply_by core.messages mark how.Refused (id_of k) (out.Error code) ∷ []
replies_by core mark None k = replies_if_accepted core mark k

-- the replies that come directly after a message
abbrev pub replies_of : Core → Class → List Reply
replies_of core k = replies_by core (length core.journal + 1) (core_refusal core k) k

-- ---- the request that starts to wait, over the document that is open

abbrev pub waiting_for : Core → Id → Query → List ℕ → Option Doc → List Waiting
waiting_for core i query path None = []
waiting_for core i query path (Some doc) = record {
  id = i;
  job = record {
    number = core.jobs;
    message = core.messages;
    mark = length core.journal + 1;
    path = path;
    version = doc.version;
    text = doc.text;
    config = core.config;
    headers = core.headers;
    kind = query;
  };
} ∷ []

abbrev pub started_if : Core → Option ℤ → Class → List Waiting
started_if core None (queries i query path) = waiting_for core i query path (doc_at core.docs path)
started_if core _ k = []

abbrev pub started_by : Core → Class → List Waiting
started_by core k = started_if core (core_refusal core k) k

-- ---- what is known of headers after a message, where this was known before

abbrev pub known_after : (initialised stands : Bool) → Class → List ℕ → Option Known → Option Known
known_after initialised stands (opens p version text) path before = if initialised && bytes_eq p path then Some (known.Found text) else before
known_after initialised stands (changes p version text) path before = if initialised && (bytes_eq p path && stands) then Some (known.Found text) else before
known_after initialised stands (closes p) path before = if initialised && (bytes_eq p path && stands) then None else before
known_after initialised stands (watched ps) path before = if initialised && (list_any (λ p. bytes_eq p path) ps && not stands) then None else before
known_after initialised stands _ path before = before
