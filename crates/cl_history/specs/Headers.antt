-- What is known of headers at a place of a session.
use Rattle.std.specs.Prelude.{◌≡◌, ℕ, ◌&&◌, nat_eq, List, [], ◌∷◌, length, Bool, false, if◌then◌else◌, Option, Some, None, is_some, slice_get}
use Rattle.std.specs.List.{list_any}
use Rattle.std.specs.Str.{bytes_eq}
use Rattle.cl_base.specs.declared.headers.Known.{Known}
use Rattle.cl_base.specs.declared.headers.Known.TheVariants as known
use Rattle.cl_base.specs.declared.headers.Read.{Read}
use Rattle.cl_base.specs.declared.headers.Read.TheVariants as read
use Rattle.cl_headers.specs.Headers.{Headers, known_at}
use Rattle.cl_rpc.specs.Classes.{Class, opens, closes, watched}
use Rattle.cl_history.specs.declared.entry.Entry.{Entry}
use Rattle.cl_history.specs.declared.entry.Entry.TheVariants.{In, Load, Reply, Notify}
use Rattle.cl_history.specs.Given.{Given, said}
use Rattle.cl_history.specs.History.{is_initialised, text_at}

-- what a read tells
abbrev pub told : Read → Known
told (read.Found text) = known.Found text
told read.Absent = known.Absent
told read.Failed = known.Failed

-- a header change of a path: it was opened, it was open and was closed, or it is named among watched files that changed
abbrev pub changes_header : (initialised stands : Bool) → Class → List ℕ → Bool
changes_header initialised stands (opens p version text) path = initialised && bytes_eq p path
changes_header initialised stands (closes p) path = initialised && (bytes_eq p path && stands)
changes_header initialised stands (watched ps) path = initialised && list_any (λ p. bytes_eq p path) ps
changes_header initialised stands _ path = false

abbrev pub or_before : Option (List ℕ × Read) → List ℕ → Option Known → Option Known
or_before None path before = before
or_before (Some r) path before = if bytes_eq r.0 path then Some (told r.1) else before

-- the answer of the last read of a path, with no header change of it in between
abbrev pub last_read : Given → List Entry → List ℕ → Option Known
last_read given [] path = None
last_read given (In n ∷ past) path =
    if changes_header (is_initialised given past) (is_some (text_at given past path)) (said given n) path then None else last_read given past path
last_read given (Load n ∷ past) path = or_before (slice_get given.reads n) path (last_read given past path)
last_read given (Reply message mark how ∷ past) path = last_read given past path
last_read given (Notify message mark ∷ past) path = last_read given past path

abbrev pub text_or : Option (List ℕ) → Option Known → Option Known
text_or (Some text) read_before = Some (known.Found text)
text_or None read_before = read_before

-- what is known of a path: its text, where it is open, and else the answer of its last read; None where it is unknown
abbrev pub headers_at : Given → List Entry → List ℕ → Option Known
headers_at given past path = text_or (text_at given past path) (last_read given past path)

-- a map of just what is known at a place
abbrev pub AreHeadersAt : Given → List Entry → Headers → Type 0
AreHeadersAt given past headers = (path : List ℕ) → known_at headers path ≡ headers_at given past path

-- the past at a mark: the first entries of the journal, as many as the mark says
abbrev pub past_at : List Entry → ℕ → List Entry
past_at [] mark = []
past_at (e ∷ past) mark = if nat_eq (length (e ∷ past)) mark then e ∷ past else past_at past mark
