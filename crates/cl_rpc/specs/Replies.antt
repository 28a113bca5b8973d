-- What is written for a reply (JSON-RPC 2.0, section 5; LSP 3.17, base protocol and DocumentSymbol).
use Rattle.std.specs.Prelude.{◌≡◌, ℕ, ℤ, negsuc, ◌++◌, List, [], ◌∷◌, length, map, true, if◌then◌else◌, Option, Some, None, codes, decimal}
use Rattle.std.specs.Ordering.{int_eq}
use Rattle.serde_json.specs.Data.{Data, null, boolean, number, unsigned, string, array, object, Members, no_members, member}
use Rattle.serde_json.specs.View.{items_of}
use Rattle.serde_json.specs.Find.{of_integer}
use Rattle.serde_json.specs.Written.{compact_text}
use Rattle.cl_base.specs.declared.place.Position.{Position}
use Rattle.cl_base.specs.declared.place.Range.{Range}
use Rattle.cl_base.specs.declared.answer.Symbol.{Symbol, fold-Symbol}
use Rattle.cl_base.specs.declared.answer.Symbol.TheOpen.{Symbol-F}
use Rattle.cl_base.specs.declared.answer.Answer.{Answer}
use Rattle.cl_base.specs.declared.answer.Answer.TheVariants as answer
use Rattle.cl_rpc.specs.declared.id.Id.{Id}
use Rattle.cl_rpc.specs.declared.id.Id.TheVariants as id
use Rattle.cl_rpc.specs.declared.out.Out.{Out}
use Rattle.cl_rpc.specs.declared.out.Out.TheVariants as out
use Rattle.cl_rpc.specs.declared.out.Reply.{Reply}
use Rattle.cl_lossy.specs.Lossy.{shown}

abbrev pub count_data : ℕ → Data
count_data n = number (unsigned n)

abbrev pub text_data : List ℕ → Data
text_data s = string (shown s)

abbrev pub id_data : Option Id → Data
id_data None = null
id_data (Some (id.Number n)) = number (of_integer n)
id_data (Some (id.Text s)) = text_data s

-- ---- symbols

abbrev pub position_data : Position → Data
position_data p = object (member (codes "character") (count_data p.character) (member (codes "line") (count_data p.line) no_members))

abbrev pub range_data : Range → Data
range_data r = object (member (codes "end") (position_data r.end) (member (codes "start") (position_data r.start) no_members))

-- `children` stands only where there are some
abbrev pub children_then : List Data → Members → Members
children_then [] ms = ms
children_then (d ∷ ds) ms = member (codes "children") (array (items_of (d ∷ ds))) ms

-- the members that each symbol has
abbrev pub own_members : ℕ → Data → Data → Data → Members
own_members kind name range selection =
    member (codes "kind") (count_data kind) (member (codes "name") name (member (codes "range") range (member (codes "selectionRange") selection no_members)))

abbrev pub symbol_object_data : ℕ → Data → Data → Data → List Data → Data
symbol_object_data kind name range selection children = object (children_then children (own_members kind name range selection))

-- one symbol, with each child already seen as its data
abbrev pub symbol_step : Symbol-F Data → Data
symbol_step s = symbol_object_data s.kind (text_data s.name) (range_data s.range) (range_data s.selection) s.children

abbrev pub symbol_data : Symbol → Data
symbol_data = fold-Symbol Data symbol_step

abbrev pub symbols_data : List Symbol → Data
symbols_data ss = array (items_of (map symbol_data ss))

abbrev pub answer_data : Answer → Data
answer_data (answer.Symbols ss) = symbols_data ss

-- ---- replies

abbrev pub capabilities_data : Data
capabilities_data = object (member (codes "capabilities")
    (object (member (codes "documentSymbolProvider") (boolean true) (member (codes "textDocumentSync") (count_data 1) no_members)))
    (member (codes "serverInfo") (object (member (codes "name") (string (codes "clsd")) no_members)) no_members))

abbrev pub result_data : Data → Data → Data
result_data i d = object (member (codes "id") i (member (codes "jsonrpc") (string (codes "2.0")) (member (codes "result") d no_members)))

-- the codes -32700 to -32600 are JSON-RPC's, the others LSP's; another code has the empty message
abbrev pub error_message : ℤ → List ℕ
error_message code =
    if int_eq code (negsuc 32699) then codes "parse error"
    else (if int_eq code (negsuc 32599) then codes "invalid request"
    else (if int_eq code (negsuc 32600) then codes "method not found"
    else (if int_eq code (negsuc 32601) then codes "invalid params"
    else (if int_eq code (negsuc 32001) then codes "not initialized"
    else (if int_eq code (negsuc 32799) then codes "cancelled"
    else (if int_eq code (negsuc 32800) then codes "content modified"
    else (if int_eq code (negsuc 32802) then codes "out of memory"
    else [])))))))

abbrev pub error_object_data : ℤ → Data
error_object_data code = object (member (codes "code") (number (of_integer code)) (member (codes "message") (string (error_message code)) no_members))

abbrev pub error_data : Data → ℤ → Data
error_data i code = object (member (codes "error") (error_object_data code)
    (member (codes "id") i (member (codes "jsonrpc") (string (codes "2.0")) no_members)))

abbrev pub body_data : Data → Out → Data
body_data i out.Capabilities = result_data i capabilities_data
body_data i out.Null = result_data i null
body_data i (out.Answer a) = result_data i (answer_data a)
body_data i (out.Error code) = error_data i code

abbrev pub reply_data : Reply → Data
reply_data r = body_data (id_data r.id) r.out

-- a frame with this body
abbrev pub framed : List ℕ → List ℕ
framed body = codes "Content-Length: " ++ (decimal (length body) ++ (codes "\r\n\r\n" ++ body))

unfoldable pub reply_frame : Reply → List ℕ
reply_frame r = framed (compact_text (reply_data r))

-- ---- pieces

-- the text so far, followed by this piece
pub record Adds (old new piece : List ℕ) : Type 0 where
  pub is : new ≡ old ++ piece
