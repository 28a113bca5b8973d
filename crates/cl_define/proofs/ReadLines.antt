-- A line is read as its form says.
use Rattle.std.proofs.Common.{◌≡◌, ℕ, ◌+◌, ◌≤◌, List, [], ◌∷◌, ◌++◌, Bool, true, false, Option, Some, None, refl, sym, ap, subst, ◌∙◌, arith, length, length-append, take, drop}
use Rattle.std.proofs.lemmas.Bool.{cond-true, cond-false}
use Rattle.std.proofs.lemmas.List.{take_at, drop_at}
use Rattle.std.specs.List.{position_from}
use Rattle.cl_base.specs.declared.token.Span.{Span}
use Rattle.cl_base.specs.declared.token.Token.{Token}
use Rattle.cl_base.specs.declared.macros.Macro.{Macro}
use Rattle.cl_base.specs.Tokens.{is_ident}
use Rattle.cl_define.specs.declared.params.Params.{Params}
use Rattle.cl_define.specs.Words.{is_close, is_lparen}
use Rattle.cl_define.specs.Definitions.{Parameters, Written, object, function, function_like, object_like, stands_apart}
use Rattle.cl_define.specs.code.Reading.{behind, closed, params_of, with_params, written}
use Rattle.cl_define.proofs.Marks.{no_lparen}
use Rattle.cl_define.proofs.ReadParams.{Unclosed, params_derive, params_read, params_unclosed}

-- ---- the first `)`

close_found : (ts list : List Token) (close : Token) (i : ℕ) → Unclosed ts → is_close close ≡ true → position_from is_close i (ts ++ close ∷ list) ≡ Some (i + length ts)
close_found [] list close i h e = let k : i ≡ i + 0 = omega arith in cond-true (is_close close) (Some i) _ e ∙ ap Some k
close_found (t ∷ ts) list close i h e =
    let k : i + 1 + length ts ≡ i + length (t ∷ ts) = omega arith in
    cond-false (is_close t) (Some i) _ h.0 ∙ close_found ts list close (i + 1) h.1 e ∙ ap Some k

pub record Closes (ts : List Token) (i n : ℕ) : Type 0 where
  pub between : List Token
  pub close : Token
  pub list : List Token
  pub is : is_close close ≡ true
  pub whole : ts ≡ between ++ close ∷ list
  pub at : n ≡ i + length between

closes_by : (t : Token) (ts : List Token) (i n : ℕ) (b : Bool) → is_close t ≡ b → (position_from is_close (i + 1) ts ≡ Some n → Closes ts (i + 1) n)
    → position_from is_close i (t ∷ ts) ≡ Some n → Closes (t ∷ ts) i n
closes_by t ts i n true e ih h =
    let k : Some i ≡ Some n = sym (cond-true (is_close t) (Some i) _ e) ∙ h in
    let same : i ≡ n = cc in
    record { between = []; close = t; list = ts; is = e; whole = refl; at = omega arith }
closes_by t ts i n false e ih h =
    let r : Closes ts (i + 1) n = ih (sym (cond-false (is_close t) (Some i) _ e) ∙ h) in
    let at : n ≡ i + 1 + length r.between = r.at in
    record { between = t ∷ r.between; close = r.close; list = r.list; is = r.is; whole = ap (λ (xs : List Token). t ∷ xs) r.whole; at = omega arith }

closes : (ts : List Token) (i n : ℕ) → position_from is_close i ts ≡ Some n → Closes ts i n
closes [] i n h = absurd (cc)
closes (t ∷ ts) i n h = closes_by t ts i n (is_close t) refl (closes ts (i + 1) n) h

pub close_within : (ts : List Token) (n : ℕ) → position_from is_close 0 ts ≡ Some n → n + 1 ≤ length ts
close_within ts n h =
    let s : Closes ts 0 n = closes ts 0 n h in
    let at : n ≡ 0 + length s.between = s.at in
    let whole : length ts ≡ length (s.between ++ s.close ∷ s.list) = ap length s.whole in
    omega (arith, whole, length-append s.between (s.close ∷ s.list))

-- what is read where the first `)` stands there
closed_at : (place : Option Span) (name : Token) (between : List Token) (close : Token) (list : List Token) (n : ℕ) → n ≡ length between
    → closed place name (between ++ close ∷ list) (Some n) ≡ with_params place name list (params_of between)
closed_at place name between close list n e =
    let before : take n (between ++ close ∷ list) ≡ between = take_at between (close ∷ list) n (sym e) in
    let after : drop n (between ++ close ∷ list) ≡ close ∷ list = drop_at between (close ∷ list) n (sym e) in
    λ i. with_params place name (drop 1 (after i)) (params_of (before i))

-- ---- a line of a form is read

object_read : (place : Option Span) (name : Token) (list : List Token) → stands_apart list ≡ true → behind place name list ≡ Some (object_like place name.text list)
object_read place name [] a = refl
object_read place name (t ∷ ts) a = cond-false (is_lparen t) _ _ (no_lparen t a) ∙ cond-true t.space _ _ a

function_read : (place : Option Span) (name lparen : Token) (between : List Token) (close : Token) (list : List Token) (params : List (List ℕ)) (variadic : Bool)
    → is_lparen lparen ≡ true → Parameters between params variadic → is_close close ≡ true
    → behind place name (lparen ∷ (between ++ close ∷ list)) ≡ Some (function_like place name.text params variadic list)
function_read place name lparen between close list params variadic l p c =
    let k : length between ≡ 0 + length between = omega arith in
    cond-true (is_lparen lparen) _ _ l
    ∙ ap (closed place name (between ++ close ∷ list)) (close_found between list close 0 (params_unclosed p) c ∙ ap Some (sym k))
    ∙ closed_at place name between close list (length between) refl
    ∙ ap (with_params place name list) (params_read p)

pub line_read : {place : Option Span} {line : List Token} {mac : Macro} → Written place line mac → written place line ≡ Some mac
line_read (object place name list e a) = cond-true (is_ident name.kind) _ _ e ∙ object_read place name list a
line_read (function place name lparen between close list params variadic e l p c) =
    cond-true (is_ident name.kind) _ _ e ∙ function_read place name lparen between close list params variadic l p c

-- ---- what is read has a form

params_form : (place : Option Span) (name lparen : Token) (between : List Token) (close : Token) (list : List Token) (r : Option Params) → params_of between ≡ r
    → is_ident name.kind ≡ true → is_lparen lparen ≡ true → is_close close ≡ true → (mac : Macro) → with_params place name list r ≡ Some mac
    → Written place (name ∷ (lparen ∷ (between ++ close ∷ list))) mac
params_form place name lparen between close list None r e l c mac h = absurd (cc)
params_form place name lparen between close list (Some p) r e l c mac h =
    let k : Some (function_like place name.text p.names p.variadic list) ≡ Some mac = h in
    let same : function_like place name.text p.names p.variadic list ≡ mac = cc in
    subst (λ (m : Macro). Written place (name ∷ (lparen ∷ (between ++ close ∷ list))) m) same
    (function place name lparen between close list p.names p.variadic e l (params_derive between p r) c)

closed_form : (place : Option Span) (name lparen : Token) (ts : List Token) (r : Option ℕ) → position_from is_close 0 ts ≡ r
    → is_ident name.kind ≡ true → is_lparen lparen ≡ true → (mac : Macro) → closed place name ts r ≡ Some mac → Written place (name ∷ (lparen ∷ ts)) mac
closed_form place name lparen ts None r e l mac h = absurd (cc)
closed_form place name lparen ts (Some n) r e l mac h =
    let s : Closes ts 0 n = closes ts 0 n r in
    let at : n ≡ 0 + length s.between = s.at in
    let k : n ≡ length s.between = omega arith in
    let read : with_params place name s.list (params_of s.between) ≡ Some mac =
    sym (closed_at place name s.between s.close s.list n k) ∙ sym (ap (λ (xs : List Token). closed place name xs (Some n)) s.whole) ∙ h in
    subst (λ (xs : List Token). Written place (name ∷ (lparen ∷ xs)) mac) (sym s.whole)
    (params_form place name lparen s.between s.close s.list (params_of s.between) refl e l s.is mac read)

object_form : (place : Option Span) (name : Token) (list : List Token) → is_ident name.kind ≡ true → stands_apart list ≡ true → (mac : Macro)
    → Some (object_like place name.text list) ≡ Some mac → Written place (name ∷ list) mac
object_form place name list e a mac k =
    let same : object_like place name.text list ≡ mac = cc in
    subst (λ (m : Macro). Written place (name ∷ list) m) same (object place name list e a)

behind_form : (place : Option Span) (name t : Token) (ts : List Token) (b c : Bool) → is_lparen t ≡ b → t.space ≡ c → is_ident name.kind ≡ true
    → (mac : Macro) → behind place name (t ∷ ts) ≡ Some mac → Written place (name ∷ (t ∷ ts)) mac
behind_form place name t ts true c l s e mac h =
    closed_form place name t ts (position_from is_close 0 ts) refl e l mac (sym (cond-true (is_lparen t) _ _ l) ∙ h)
behind_form place name t ts false true l s e mac h =
    object_form place name (t ∷ ts) e s mac (sym (cond-true t.space _ _ s) ∙ sym (cond-false (is_lparen t) _ _ l) ∙ h)
behind_form place name t ts false false l s e mac h =
    let k : behind place name (t ∷ ts) ≡ None = cond-false (is_lparen t) _ _ l ∙ cond-false t.space _ _ s in
    absurd (cc)

named_form : (place : Option Span) (name : Token) (ts : List Token) → is_ident name.kind ≡ true → (mac : Macro) → behind place name ts ≡ Some mac → Written place (name ∷ ts) mac
named_form place name [] e mac h = object_form place name [] e refl mac h
named_form place name (t ∷ ts) e mac h = behind_form place name t ts (is_lparen t) t.space refl refl e mac h

line_form_by : (place : Option Span) (name : Token) (ts : List Token) (b : Bool) → is_ident name.kind ≡ b → (mac : Macro) → written place (name ∷ ts) ≡ Some mac → Written place (name ∷ ts) mac
line_form_by place name ts true e mac h = named_form place name ts e mac (sym (cond-true (is_ident name.kind) _ _ e) ∙ h)
line_form_by place name ts false e mac h =
    let k : written place (name ∷ ts) ≡ None = cond-false (is_ident name.kind) _ _ e in
    absurd (cc)

pub line_form : (place : Option Span) (line : List Token) (mac : Macro) → written place line ≡ Some mac → Written place line mac
line_form place [] mac h = absurd (cc)
line_form place (name ∷ ts) mac h = line_form_by place name ts (is_ident name.kind) refl mac h
