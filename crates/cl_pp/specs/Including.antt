-- The operand of an include line (N1570 6.10.2).
use Rattle.std.specs.Prelude.{ℕ, ◌-◌, ◌==◌, ◌||◌, List, [], ◌∷◌, ◌++◌, Bool, true, false, if◌then◌else◌, Option, Some, None, length, slice_get, slice_range, codes}
use Rattle.std.specs.Str.{is_utf8}
use Rattle.cl_base.specs.declared.token.Kind.{Kind}
use Rattle.cl_base.specs.declared.token.Kind.TheVariants as kind
use Rattle.cl_base.specs.declared.token.Span.{Span}
use Rattle.cl_base.specs.declared.token.Token.{Token}
use Rattle.cl_base.specs.declared.token.PpToken.{PpToken}
use Rattle.cl_base.specs.declared.token.Diag.{Diag}
use Rattle.cl_base.specs.Tokens.{spells}
use Rattle.cl_pp.specs.declared.aim.Aim.{Aim}
use Rattle.cl_pp.specs.declared.aim.Named.{Named}
use Rattle.cl_pp.specs.declared.aim.Aim.TheVariants.{Nothing, Header}
use Rattle.cl_pp.specs.LineNumbers.{is_plain_string}
use Rattle.cl_pp.specs.Lines.{fault_in, span_or}

abbrev pub is_header : Kind → Bool
is_header kind.Header = true
is_header _ = false

-- the operand begins with a header name as it is written
abbrev pub is_written : List Token → Bool
is_written [] = false
is_written (token ∷ rest) = is_header token.kind

-- what stands between the first of these bytes and the last
abbrev pub inner : List ℕ → List ℕ
inner text = slice_range text 1 (length text - 1)

abbrev pub begins_angled : List ℕ → Bool
begins_angled [] = false
begins_angled (byte ∷ bytes) = byte == 60

-- where the first of these tokens stands, if there is one
abbrev pub first_at : List PpToken → Option Span
first_at [] = None
first_at (token ∷ rest) = Some token.at

abbrev pub space_for : Bool → List ℕ
space_for space = if space then codes " " else []

-- the spellings of the tokens up to the first `>`, behind these bytes; a space for white space before a token
abbrev pub closed : List ℕ → List PpToken → Option Named
closed name [] = None
closed name (token ∷ rest) =
    if spells token.text (codes ">") then Some (record { angled = true; name = name; extra = first_at rest }) else closed (name ++ (space_for token.space ++ token.text)) rest

-- a header name or a string without a prefix is one token; `<` goes up to the first `>` (6.10.2p4)
abbrev pub named_in : List PpToken → Option Named
named_in [] = None
named_in (token ∷ rest) =
    if is_header token.kind || is_plain_string token then Some (record { angled = begins_angled token.text; name = inner token.text; extra = first_at rest })
    else if spells token.text (codes "<") then closed [] rest else None

-- a token behind the name
abbrev pub extra_made : Option Span → List Diag
extra_made None = []
extra_made (Some at) = record { number = 7; at = at; name = None } ∷ []

-- the header that is to be entered; the name is text in UTF-8
abbrev pub aim_of : ℕ → Option Named → List PpToken → List Token → Aim
aim_of file None made line = Nothing
aim_of file (Some named) made line =
    if is_utf8 named.name then Header (record { angled = named.angled; name = named.name; at = span_or file (slice_get made 0) line }) else Nothing

-- an operand that names no header is a fault, at its first token, or at the line's last one
abbrev pub included : ℕ → Option Named → List PpToken → List Token → List Diag
included file None made line = fault_in file 8 made 0 line
included file (Some named) made line = if is_utf8 named.name then extra_made named.extra else fault_in file 8 made 0 line
