-- What a message is to a session: its class (LSP 3.17, the methods of section 3 and those of text documents). What
-- stands above this crate speaks of classes alone, so it knows no single query.
use Rattle.std.specs.Prelude.{ℕ, ℤ, List, Bool, false, Option, Some, None}
use Rattle.std.specs.Option.{option_copied}
use Rattle.std.specs.Str.{bytes_eq}
use Rattle.std.specs.Ordering.{int_eq}
use Rattle.cl_base.specs.declared.query.Query.{Query}
use Rattle.cl_base.specs.declared.query.Query.TheVariants as query
use Rattle.cl_rpc.specs.declared.id.Id.{Id}
use Rattle.cl_rpc.specs.declared.id.Id.TheVariants as id
use Rattle.cl_rpc.specs.declared.call.Call.{Call}
use Rattle.cl_rpc.specs.declared.call.Call.TheVariants as call
use Rattle.cl_rpc.specs.declared.call.Parsed.{Parsed}
use Rattle.cl_rpc.specs.declared.call.Parsed.TheVariants as parsed
use Rattle.cl_rpc.specs.declared.class.Class.{Class as Borrowed}
use Rattle.cl_rpc.specs.declared.class.Class.TheVariants as borrowed

-- ---- ids

-- the ids are the same (JSON-RPC 2.0, section 4: a number or a string)
abbrev pub same_id : Id → Id → Bool
same_id (id.Number n) (id.Number m) = int_eq n m
same_id (id.Number n) (id.Text s) = false
same_id (id.Text s) (id.Number m) = false
same_id (id.Text s) (id.Text t) = bytes_eq s t

-- ---- what a call asks

-- the query, and the document that it is about; one equation for each query
abbrev pub asks : Call → Option (Query × List ℕ)
asks (call.Symbols path) = Some (query.Symbols, path)
asks _ = None

-- ---- classes

-- what a message is: a request that initialises, shuts down or asks, or one of a method that isn't known or with bad
-- params (true where its method is `initialize`); a body that is no message, with its id, where one can be read, and its
-- code; a notification that opens, changes or closes a document, cancels a request, names files that changed or exits;
-- or one that is dropped
pub data Class : Type 0 where
  initialises : Id → Class
  shuts_down : Id → Class
  queries : Id → Query → List ℕ → Class
  unknown : Id → Class
  bad_params : Id → Bool → Class
  invalid : Option Id → ℤ → Class
  opens : List ℕ → ℤ → List ℕ → Class
  changes : List ℕ → ℤ → List ℕ → Class
  closes : List ℕ → Class
  cancels : Id → Class
  watched : List (List ℕ) → Class
  exits : Class
  dropped : Class

abbrev pub asked : Id → Option (Query × List ℕ) → Class
asked i (Some question) = queries i question.0 question.1
asked i None = unknown i

abbrev pub class_of_request : Id → Call → Class
class_of_request i call.Initialize = initialises i
class_of_request i call.Shutdown = shuts_down i
class_of_request i (call.BadParams is_initialize) = bad_params i is_initialize
class_of_request i c = asked i (asks c)

-- a change with an empty list of changes changes nothing
abbrev pub class_of_notification : Call → Class
class_of_notification (call.DidOpen path version text) = opens path version text
class_of_notification (call.DidChange path version (Some text)) = changes path version text
class_of_notification (call.DidClose path) = closes path
class_of_notification (call.Cancel i) = cancels i
class_of_notification (call.Watched paths) = watched paths
class_of_notification call.Exit = exits
class_of_notification _ = dropped

abbrev pub class_of : Parsed → Class
class_of (parsed.Request i c) = class_of_request i c
class_of (parsed.Notification c) = class_of_notification c
class_of (parsed.Refused i code) = invalid i code
class_of parsed.Ignored = dropped

-- ---- the code's classes, which borrow from the message

abbrev pub class_behind : Borrowed → Class
class_behind (borrowed.Initialises i) = initialises i.now
class_behind (borrowed.ShutsDown i) = shuts_down i.now
class_behind (borrowed.Queries i query path) = queries i.now query path.now
class_behind (borrowed.Unknown i) = unknown i.now
class_behind (borrowed.BadParams i is_initialize) = bad_params i.now is_initialize
class_behind (borrowed.Invalid i code) = invalid (option_copied i) code
class_behind (borrowed.Opens path version text) = opens path.now version text.now
class_behind (borrowed.Changes path version text) = changes path.now version text.now
class_behind (borrowed.Closes path) = closes path.now
class_behind (borrowed.Cancels i) = cancels i.now
class_behind (borrowed.Watched paths) = watched paths.now
class_behind borrowed.Exits = exits
class_behind borrowed.Dropped = dropped
