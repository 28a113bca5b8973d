-- The texts of a reply's parts, piece by piece.
use Rattle.std.proofs.Common.{◌≡◌, ◌≢◌, ◌+◌, ◌<◌, ◌≤◌, suc, Bool, length, drop, get_or, subst, add-one, drop-cons, ℕ, ℤ, pos, negsuc, map, List, [], ◌∷◌, ◌++◌, false, true, refl, sym, ap, ◌∙◌, codes, decimal, append_assoc}
use Rattle.std.proofs.lemmas.List.{drop_all}
use Rattle.std.specs.Fmt.{signed_decimal}
use Rattle.serde_json.specs.Data.{Data, string, array}
use Rattle.serde_json.specs.View.{items_of}
use Rattle.serde_json.specs.Find.{of_integer}
use Rattle.serde_json.specs.Written.{compact_text, number_text, members_text, items_text, comma_if}
use Rattle.serde_json.proofs.OnLiterals.{serde_json_on_literals}
use Rattle.cl_base.specs.declared.answer.Symbol.{Symbol}
use Rattle.cl_base.specs.declared.answer.Symbol.TheViews.{out-Symbol}
use Rattle.cl_base.specs.declared.answer.Symbol.TheFolds.{fold_out-Symbol}
use Rattle.cl_base.specs.declared.place.Position.{Position}
use Rattle.cl_base.specs.declared.place.Range.{Range}
use Rattle.cl_rpc.specs.declared.out.Reply.{Reply}
use Rattle.cl_rpc.specs.Replies.{Adds, text_data, position_data, range_data, own_members, symbol_object_data, symbol_step, symbol_data, symbols_data, capabilities_data, result_data, error_message, error_data, reply_data, framed, reply_frame}

pub position_text : (p : Position) → compact_text (position_data p) ≡ codes "{\"character\":" ++ (decimal p.character ++ (codes ",\"line\":" ++ (decimal p.line ++ codes "}")))
unfolding serde_json_on_literals
position_text p = refl

pub range_text : (r : Range) → compact_text (range_data r) ≡ codes "{\"end\":" ++ (compact_text (position_data r.end) ++ (codes ",\"start\":" ++ (compact_text (position_data r.start) ++ codes "}")))
unfolding serde_json_on_literals
range_text r = refl

pub own_text : (kind : ℕ) (name range selection : Data) → members_text false (own_members kind name range selection)
    ≡ codes "\"kind\":" ++ (decimal kind ++ (codes ",\"name\":" ++ (compact_text name ++ (codes ",\"range\":" ++ (compact_text range ++ (codes ",\"selectionRange\":" ++ (compact_text selection ++ codes "}")))))))
unfolding serde_json_on_literals
own_text kind name range selection = refl

-- a symbol without children, and one with some
leaf_text : (kind : ℕ) (name range selection : Data) → compact_text (symbol_object_data kind name range selection [])
    ≡ codes "{" ++ members_text false (own_members kind name range selection)
leaf_text kind name range selection = refl

parent_text : (kind : ℕ) (name range selection d : Data) (ds : List Data) → compact_text (symbol_object_data kind name range selection (d ∷ ds))
    ≡ codes "{" ++ (codes "\"children\":" ++ (compact_text (array (items_of (d ∷ ds))) ++ (codes "," ++ members_text false (own_members kind name range selection))))
unfolding serde_json_on_literals
parent_text kind name range selection d ds = refl

pub result_text : (i d : Data) → compact_text (result_data i d)
    ≡ (codes "{\"id\":" ++ (compact_text i ++ codes ",\"jsonrpc\":\"2.0\",\"result\":")) ++ (compact_text d ++ codes "}")
unfolding serde_json_on_literals
result_text i d =
    ap (λ w. codes "{\"id\":" ++ w) (sym (append_assoc (compact_text i) (codes ",\"jsonrpc\":\"2.0\",\"result\":") (compact_text d ++ codes "}")))

pub capabilities_text : compact_text capabilities_data
    ≡ codes "{\"capabilities\":{\"documentSymbolProvider\":true,\"textDocumentSync\":" ++ (decimal 1 ++ codes "},\"serverInfo\":{\"name\":\"clsd\"}}")
unfolding serde_json_on_literals
capabilities_text =
    ap (λ w. codes "{\"capabilities\":{\"documentSymbolProvider\":true,\"textDocumentSync\":" ++ w) (append_assoc (decimal 1) (codes "}") (codes ",\"serverInfo\":{\"name\":\"clsd\"}}"))

pub integer_text : (n : ℤ) → number_text (of_integer n) ≡ signed_decimal n
integer_text (pos n) = refl
integer_text (negsuc n) = refl

pub error_text : (i : Data) (code : ℤ) → compact_text (error_data i code)
    ≡ codes "{\"error\":{\"code\":" ++ (number_text (of_integer code) ++ (codes ",\"message\":" ++ (compact_text (string (error_message code)) ++ (codes "},\"id\":" ++ (compact_text i ++ codes ",\"jsonrpc\":\"2.0\"}")))))
unfolding serde_json_on_literals
error_text i code =
    let number = number_text (of_integer code) in
    let message = compact_text (string (error_message code)) in
    let rest = codes ",\"id\":" ++ (compact_text i ++ codes ",\"jsonrpc\":\"2.0\"}") in
    ap (λ w. codes "{\"error\":{\"code\":" ++ w)
    (append_assoc number (codes ",\"message\":" ++ (message ++ codes "}")) rest
    ∙ ap (λ w. number ++ (codes ",\"message\":" ++ w)) (append_assoc message (codes "}") rest))

-- the equation of a symbol's data
symbol_data_out : (s : Symbol) → symbol_data s ≡ symbol_object_data (out-Symbol s).kind (text_data (out-Symbol s).name) (range_data (out-Symbol s).range) (range_data (out-Symbol s).selection) (map symbol_data (out-Symbol s).children)
symbol_data_out = fold_out-Symbol Data symbol_step

some_children : (kind : ℕ) (name range selection : Data) (cs : List Symbol) → cs ≢ [] → compact_text (symbol_object_data kind name range selection (map symbol_data cs))
    ≡ codes "{" ++ (codes "\"children\":" ++ (compact_text (symbols_data cs) ++ (codes "," ++ members_text false (own_members kind name range selection))))
some_children kind name range selection [] some = absurd (some refl)
some_children kind name range selection (c ∷ cs) some = parent_text kind name range selection (symbol_data c) (map symbol_data cs)

-- a symbol with children
pub with_children : (s : Symbol) → (out-Symbol s).children ≢ [] → compact_text (symbol_data s)
    ≡ codes "{" ++ (codes "\"children\":" ++ (compact_text (symbols_data (out-Symbol s).children) ++ (codes "," ++ members_text false (own_members (out-Symbol s).kind (text_data (out-Symbol s).name) (range_data (out-Symbol s).range) (range_data (out-Symbol s).selection)))))
with_children s some = ap compact_text (symbol_data_out s) ∙ some_children (out-Symbol s).kind (text_data (out-Symbol s).name) (range_data (out-Symbol s).range) (range_data (out-Symbol s).selection) (out-Symbol s).children some

-- a symbol without
pub without_children : (s : Symbol) → (out-Symbol s).children ≡ [] → compact_text (symbol_data s)
    ≡ codes "{" ++ members_text false (own_members (out-Symbol s).kind (text_data (out-Symbol s).name) (range_data (out-Symbol s).range) (range_data (out-Symbol s).selection))
without_children s none =
    let layer = out-Symbol s in
    ap compact_text (symbol_data_out s) ∙ ap (λ (cs : List Symbol). compact_text (symbol_object_data layer.kind (text_data layer.name) (range_data layer.range) (range_data layer.selection) (map symbol_data cs))) none
    ∙ leaf_text layer.kind (text_data layer.name) (range_data layer.range) (range_data layer.selection)

-- ---- pieces one after another

pub on : {o a b p q : List ℕ} → Adds o a p → Adds a b q → Adds o b (p ++ q)
on {o = o} {p = p} {q = q} h k = record { is = k.is ∙ ap (λ (w : List ℕ). w ++ q) h.is ∙ append_assoc o p q }

pub as_text : {o a p : List ℕ} (w : List ℕ) → w ≡ p → Adds o a p → Adds o a w
as_text {o = o} w e h = record { is = h.is ∙ ap (λ (v : List ℕ). o ++ v) (sym e) }

-- ---- a list of symbols: what was printed, and what is left, is all

abbrev pub left_text : Bool → ℕ → List Symbol → List ℕ
left_text later i ss = items_text later (items_of (map symbol_data (drop i ss)))

pub one_more : (o a b all : List ℕ) (later : Bool) (ss : List Symbol) (i : ℕ) (s : Symbol) → i < length ss → s ≡ get_or ss i s
    → Adds o a (comma_if later) → Adds a b (compact_text (symbol_data s)) → o ++ left_text later i ss ≡ all → b ++ left_text true (i + 1) ss ≡ all
one_more o a b all later ss i s h e p q w =
    let next : List ℕ = compact_text (symbol_data s) in
    let rest : List ℕ = left_text true (i + 1) ss in
    let cut : drop i ss ≡ s ∷ drop (i + 1) ss = rw add-one (drop-cons ss i s h ∙ ap (λ (x : Symbol). x ∷ drop (suc i) ss) (sym e)) in
    let whole : o ++ (comma_if later ++ (next ++ rest)) ≡ all = subst (λ (v : List Symbol). o ++ items_text later (items_of (map symbol_data v)) ≡ all) cut w in
    let both : Adds o b (comma_if later ++ next) = on p q in
    ap (λ (v : List ℕ). v ++ rest) both.is ∙ append_assoc o (comma_if later ++ next) rest ∙ ap (λ (v : List ℕ). o ++ v) (append_assoc (comma_if later) next rest) ∙ whole

pub list_text : (o p q b : List ℕ) (later : Bool) (ss : List Symbol) (i : ℕ) → length ss ≤ i
    → Adds o p (codes "[") → q ++ left_text later i ss ≡ p ++ left_text false 0 ss → Adds q b (codes "]") → Adds o b (compact_text (symbols_data ss))
list_text o p q b later ss i h first w last =
    let none : drop i ss ≡ [] = drop_all i ss h in
    record {
      is = last.is ∙ subst (λ (v : List Symbol). q ++ items_text later (items_of (map symbol_data v)) ≡ p ++ left_text false 0 ss) none w
          ∙ ap (λ (v : List ℕ). v ++ left_text false 0 ss) first.is ∙ append_assoc o (codes "[") (left_text false 0 ss);
    }

pub frame_is : (r : Reply) (start body frame text : List ℕ) → start ≡ [] → Adds start body (compact_text (reply_data r)) → frame ≡ framed body → text ≡ frame → text ≡ reply_frame r
unfolding reply_frame
frame_is r start body frame text none h e t =
    t ∙ e ∙ ap framed (h.is ∙ ap (λ (w : List ℕ). w ++ compact_text (reply_data r)) none)
