-- What a body is: JSON-RPC 2.0, sections 4 and 5, with the methods of LSP 3.17 that are known.
use Rattle.std.specs.Prelude.{ℕ, ℤ, negsuc, ◌&&◌, nat_lt, List, [], ◌∷◌, Bool, true, false, if◌then◌else◌, Option, Some, None, codes, option_map, option_and_then, is_some}
use Rattle.std.specs.Str.{is_utf8, bytes_eq}
use Rattle.serde_json.specs.Data.{Data, null, boolean, number, string, array, object, Items, no_items, item}
use Rattle.serde_json.specs.Find.{get, as_str, as_number, as_i64, as_u64, as_array, as_object}
use Rattle.serde_json.specs.Read.{read}
use Rattle.cl_paths.specs.Uris.{path_in}
use Rattle.cl_rpc.specs.declared.id.Id.{Id}
use Rattle.cl_rpc.specs.declared.id.Id.TheVariants as id
use Rattle.cl_rpc.specs.declared.call.Call.{Call}
use Rattle.cl_rpc.specs.declared.call.Call.TheVariants as call
use Rattle.cl_rpc.specs.declared.call.Parsed.{Parsed}
use Rattle.cl_rpc.specs.declared.call.Parsed.TheVariants as parsed
use Rattle.cl_rpc.specs.declared.message_method.Method.{Method}
use Rattle.cl_rpc.specs.declared.message_method.Method.TheVariants as method

-- ---- members

-- a member that is a string
abbrev pub text_in : List ℕ → Data → Option (List ℕ)
text_in key d = option_and_then as_str (get key d)

-- a member that is a whole number of 64 bits with sign; 1.0 and -0 are none, since the reader takes both as floats
abbrev pub whole_in : List ℕ → Data → Option ℤ
whole_in key d = option_and_then as_i64 (option_and_then as_number (get key d))

-- an id is a string, or a whole number of 64 bits with sign
abbrev pub as_id : Data → Option Id
as_id null = None
as_id (boolean b) = None
as_id (number n) = option_map id.Number (as_i64 n)
as_id (string s) = Some (id.Text s)
as_id (array ds) = None
as_id (object ms) = None

abbrev pub id_in : Data → Option Id
id_in d = option_and_then as_id (get (codes "id") d)

abbrev pub params_in : Data → Option Data
params_in d = get (codes "params") d

-- ---- the document of the params

abbrev pub document_in : Data → Option Data
document_in d = option_and_then (get (codes "textDocument")) (params_in d)

-- the path that a member names as a `file` URI
abbrev pub path_at : List ℕ → Data → Option (List ℕ)
path_at key d = option_and_then path_in (text_in key d)

-- a document is named by the path of its URI, so two URIs of one path are one document
abbrev pub document_path : Data → Option (List ℕ)
document_path d = option_and_then (path_at (codes "uri")) (document_in d)

abbrev pub version_in : Data → Option ℤ
version_in d = option_and_then (whole_in (codes "version")) (document_in d)

abbrev pub opened_text_in : Data → Option (List ℕ)
opened_text_in d = option_and_then (text_in (codes "text")) (document_in d)

-- ---- the list of changes

abbrev pub changes_in : Data → Option Items
changes_in d = option_and_then as_array (option_and_then (get (codes "contentChanges")) (params_in d))

abbrev pub each_has_text : Items → Bool
each_has_text no_items = true
each_has_text (item d ds) = is_some (text_in (codes "text") d) && each_has_text ds

abbrev pub last_of : Data → Items → Data
last_of d no_items = d
last_of d (item e ds) = last_of e ds

abbrev pub last_text : Items → Option (List ℕ)
last_text no_items = None
last_text (item d ds) = text_in (codes "text") (last_of d ds)

-- the text that a list of changes leaves, and Some None where it is empty; no text at all where a change has none
abbrev pub changed_text : Items → Option (Option (List ℕ))
changed_text ds = if each_has_text ds then Some (last_text ds) else None

-- ---- the calls, each from the members that it takes

abbrev pub opened : Option (List ℕ) → Option ℤ → Option (List ℕ) → Call
opened (Some path) (Some version) (Some text) = call.DidOpen path version text
opened _ _ _ = call.BadParams false

abbrev pub changed : Option (List ℕ) → Option ℤ → Option (Option (List ℕ)) → Call
changed (Some path) (Some version) (Some text) = call.DidChange path version text
changed _ _ _ = call.BadParams false

abbrev pub closed : Option (List ℕ) → Call
closed (Some path) = call.DidClose path
closed None = call.BadParams false

abbrev pub symbols : Option (List ℕ) → Call
symbols (Some path) = call.Symbols path
symbols None = call.BadParams false

abbrev pub cancelled_in : Data → Option Id
cancelled_in d = option_and_then id_in (params_in d)

-- the number of a kind of change: created, changed or deleted (LSP 3.17, FileChangeType)
abbrev pub is_kind_of_change : Option ℕ → Bool
is_kind_of_change None = false
is_kind_of_change (Some n) = nat_lt 0 n && nat_lt n 4

abbrev pub kind_in : Data → Option ℕ
kind_in d = option_and_then as_u64 (option_and_then as_number (get (codes "type") d))

-- the file that a watched change names
abbrev pub file_in : Data → Option (List ℕ)
file_in d = if is_kind_of_change (kind_in d) then path_at (codes "uri") d else None

abbrev pub watched_in : Data → Option Items
watched_in d = option_and_then as_array (option_and_then (get (codes "changes")) (params_in d))

-- the files that watched changes name, in order, where each names one
abbrev pub watched_paths : Items → Option (List (List ℕ))
watched_paths no_items = Some []
watched_paths (item d ds) = option_and_then (λ path. option_map (λ paths. path ∷ paths) (watched_paths ds)) (file_in d)

abbrev pub watched : Option (List (List ℕ)) → Call
watched (Some paths) = call.Watched paths
watched None = call.BadParams false

abbrev pub cancel : Option Id → Call
cancel (Some i) = call.Cancel i
cancel None = call.BadParams false

abbrev pub has_params_object : Data → Bool
has_params_object d = is_some (option_and_then as_object (params_in d))

abbrev pub initialize : Bool → Call
initialize true = call.Initialize
initialize false = call.BadParams true

-- ---- the methods

abbrev pub method_named : List ℕ → Method
method_named name =
    if bytes_eq name (codes "initialize") then method.Initialize
    else (if bytes_eq name (codes "shutdown") then method.Shutdown
    else (if bytes_eq name (codes "exit") then method.Exit
    else (if bytes_eq name (codes "textDocument/didOpen") then method.DidOpen
    else (if bytes_eq name (codes "textDocument/didChange") then method.DidChange
    else (if bytes_eq name (codes "textDocument/didClose") then method.DidClose
    else (if bytes_eq name (codes "$/cancelRequest") then method.Cancel
    else (if bytes_eq name (codes "workspace/didChangeWatchedFiles") then method.Watched
    else (if bytes_eq name (codes "textDocument/documentSymbol") then method.Symbols
    else method.Other))))))))

-- a request of a method, by the whole message
abbrev pub request_call : Method → Data → Call
request_call method.Initialize d = initialize (has_params_object d)
request_call method.Shutdown d = call.Shutdown
request_call method.Symbols d = symbols (document_path d)
request_call method.Exit d = call.Unknown
request_call method.DidOpen d = call.Unknown
request_call method.DidChange d = call.Unknown
request_call method.DidClose d = call.Unknown
request_call method.Cancel d = call.Unknown
request_call method.Watched d = call.Unknown
request_call method.Other d = call.Unknown

-- a notification of a method, where it is a notification's
abbrev pub notified_call : Method → Data → Option Call
notified_call method.Exit d = Some call.Exit
notified_call method.DidOpen d = Some (opened (document_path d) (version_in d) (opened_text_in d))
notified_call method.DidChange d = Some (changed (document_path d) (version_in d) (option_and_then changed_text (changes_in d)))
notified_call method.DidClose d = Some (closed (document_path d))
notified_call method.Cancel d = Some (cancel (cancelled_in d))
notified_call method.Watched d = Some (watched (option_and_then watched_paths (watched_in d)))
notified_call method.Initialize d = None
notified_call method.Shutdown d = None
notified_call method.Symbols d = None
notified_call method.Other d = None

abbrev pub notified : Option Call → Parsed
notified (Some c) = parsed.Notification c
notified None = parsed.Ignored

-- ---- a message, by its id and its method

-- a member that isn't there, one that is what it should be, and one that isn't
pub data Member (A : Type 0) : Type 0 where
  absent : Member A
  good : A → Member A
  bad : Member A

abbrev pub good_or_bad : {A : Type 0} → Option A → Member A
good_or_bad None = bad
good_or_bad (Some a) = good a

abbrev pub member_as : {A : Type 0} → (Data → Option A) → Option Data → Member A
member_as f None = absent
member_as f (Some d) = good_or_bad (f d)

-- the code -32600
abbrev pub invalid_request : ℤ
invalid_request = negsuc 32599

-- the code -32700
abbrev pub parse_error : ℤ
parse_error = negsuc 32699

-- a request has both, a notification has a method alone, and a response has an id alone
abbrev pub shaped : Data → Member Id → Member (List ℕ) → Parsed
shaped d absent absent = parsed.Refused None invalid_request
shaped d absent (good name) = notified (notified_call (method_named name) d)
shaped d absent bad = parsed.Refused None invalid_request
shaped d (good i) absent = parsed.Ignored
shaped d (good i) (good name) = parsed.Request i (request_call (method_named name) d)
shaped d (good i) bad = parsed.Refused (Some i) invalid_request
shaped d bad absent = parsed.Refused None invalid_request
shaped d bad (good name) = parsed.Refused None invalid_request
shaped d bad bad = parsed.Refused None invalid_request

-- whether the member `jsonrpc` is the string "2.0"
abbrev pub is_2 : Option (List ℕ) → Bool
is_2 None = false
is_2 (Some version) = bytes_eq version (codes "2.0")

abbrev pub is_version_2 : Data → Bool
is_version_2 d = is_2 (text_in (codes "jsonrpc") d)

abbrev pub message_at : Data → Parsed
message_at d = if is_version_2 d
    then shaped d (member_as as_id (get (codes "id") d)) (member_as as_str (get (codes "method") d))
    else parsed.Refused (id_in d) invalid_request

-- the JSON value that a body is, if it is one
unfoldable pub value_in : List ℕ → Option Data
value_in body = if is_utf8 body then read body else None

abbrev pub message_or_not : Option Data → Parsed
message_or_not None = parsed.Refused None parse_error
message_or_not (Some d) = message_at d

unfoldable pub message_in : List ℕ → Parsed
message_in body = message_or_not (value_in body)
