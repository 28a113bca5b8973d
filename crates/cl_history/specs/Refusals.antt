-- When a message is refused, by what holds where it is received.
use Rattle.std.specs.Prelude.{ℕ, ℤ, negsuc, ◌&&◌, ◌||◌, List, [], ◌∷◌, Bool, true, false, not, if◌then◌else◌, Option, Some, None, is_some}
use Rattle.cl_rpc.specs.declared.id.Id.{Id}
use Rattle.cl_rpc.specs.Classes.{Class, initialises, shuts_down, queries, unknown, bad_params, invalid, exits}

-- ---- the codes (JSON-RPC 2.0, section 5.1; LSP 3.17, ErrorCodes)

abbrev pub invalid_request : ℤ
invalid_request = negsuc 32599

abbrev pub method_not_found : ℤ
method_not_found = negsuc 32600

abbrev pub invalid_params : ℤ
invalid_params = negsuc 32601

abbrev pub not_initialized : ℤ
not_initialized = negsuc 32001

abbrev pub request_cancelled : ℤ
request_cancelled = negsuc 32799

abbrev pub content_modified : ℤ
content_modified = negsuc 32800

abbrev pub out_of_memory : ℤ
out_of_memory = negsuc 32802

-- ---- what a message is

-- the id under which a message is replied to; none where none can be read
abbrev pub id_of : Class → Option Id
id_of (initialises i) = Some i
id_of (shuts_down i) = Some i
id_of (queries i query path) = Some i
id_of (unknown i) = Some i
id_of (bad_params i is_initialize) = Some i
id_of (invalid i code) = i
id_of _ = None

-- its method is `initialize`
abbrev pub is_initialize : Class → Bool
is_initialize (initialises i) = true
is_initialize (bad_params i b) = b
is_initialize _ = false

abbrev pub is_unknown : Class → Bool
is_unknown (unknown i) = true
is_unknown _ = false

abbrev pub has_bad_params : Class → Bool
has_bad_params (bad_params i b) = true
has_bad_params _ = false

-- it is `exit` (LSP 3.17, Exit Notification)
abbrev pub is_exit : Class → Bool
is_exit exits = true
is_exit _ = false

-- the document of a request that has to be open
abbrev pub document_of : Class → Option (List ℕ)
document_of (queries i query path) = Some path
document_of _ = None

-- the document that a message needs is open, by the texts of the open documents
abbrev pub is_open : (List ℕ → Option (List ℕ)) → Option (List ℕ) → Bool
is_open texts None = true
is_open texts (Some path) = is_some (texts path)

-- ---- refusals

-- the code of the first reason that holds
abbrev pub first_that : List (Bool × ℤ) → Option ℤ
first_that [] = None
first_that (reason ∷ more) = if reason.0 then Some reason.1 else first_that more

-- a request is refused for the first of these reasons: the session isn't initialised; it is, and is to be again, or it
-- is shut down; the request's id is pending; its method isn't a request's; its params are bad; its document isn't open
abbrev pub refusal_of : (initialised shut_down pending stands : Bool) → Class → Option ℤ
refusal_of initialised shut_down pending stands k = first_that
    ((not initialised && not (is_initialize k), not_initialized)
    ∷ ((initialised && is_initialize k) || shut_down, invalid_request)
    ∷ (pending, invalid_request)
    ∷ (is_unknown k, method_not_found)
    ∷ (has_bad_params k, invalid_params)
    ∷ (not stands, invalid_params)
    ∷ [])
