-- What a line adds: tokens, and no file and no header, which only what it aims at adds.
use Rattle.std.proofs.Common.{◌≡◌, ℕ, Bool, true, false, List, [], ◌∷◌, ◌++◌, Option, Some, None, refl, sym, ap, subst, ◌∙◌, inl, inr}
use Rattle.std.proofs.lemmas.List.{append-nil}
use Rattle.std.specs.Prelude.{◌⊎◌, if◌then◌else◌, is_some, codes}
use Rattle.cl_base.specs.declared.macros.Macro.{Macro}
use Rattle.cl_base.specs.declared.macros.MacroNo.{MacroNo}
use Rattle.cl_base.specs.declared.token.Fault.{Fault}
use Rattle.cl_base.specs.declared.token.PpToken.{PpToken}
use Rattle.cl_base.specs.declared.token.Span.{Span}
use Rattle.cl_base.specs.declared.token.Token.{Token}
use Rattle.cl_base.specs.Tokens.{is_ident, is_word}
use Rattle.cl_cond.specs.declared.mark.Condition.{Condition}
use Rattle.cl_cond.specs.declared.mark.Condition.TheVariants.{If, IfDef, IfNDef, Elif, Else}
use Rattle.cl_cond.specs.declared.mark.Mark.{Mark}
use Rattle.cl_cond.specs.declared.mark.Part.{Part}
use Rattle.cl_cond.specs.declared.mark.Part.TheVariants.{Line, Branch, End}
use Rattle.cl_define.specs.Predefined.{is_reserved}
use Rattle.cl_macro.specs.declared.define.Defined.{Defined}
use Rattle.cl_macro.specs.declared.define.Defined.TheVariants as defined
use Rattle.cl_macro.specs.declared.expanded.Expanded.{Expanded}
use Rattle.cl_macro.specs.Expansions.{IsExpansion}
use Rattle.cl_macro.specs.Rules.{Rules}
use Rattle.cl_pp.specs.declared.aim.Aim.{Aim}
use Rattle.cl_pp.specs.declared.done.PpDone.{PpDone}
use Rattle.cl_pp.specs.Activity.{Question, Active, Outer, says}
use Rattle.cl_pp.specs.Acts.{Act, Gives, Runs, Asks, Checks, Defines, Names, Includes, Marks, act, checking, defining, directive, including, is_looked_at, is_once, looking, marking, may_take, named, passed_by, plain, taken, tested, undefined, undefining}
use Rattle.cl_pp.specs.Including.{included, is_written, named_in}
use Rattle.cl_pp.specs.LineNumbers.{misfit}
use Rattle.cl_pp.specs.Lines.{bad_if, bad_line, extra, fault_at, invalid, is_directive, line_of, place_of, rest_of, spread_line}
use Rattle.cl_pp.specs.Preprocessing.{ComesTo, State, World, act_at, rules_in}
use Rattle.cl_pp.specs.Standing.{macro_at, number_at, with_asked, with_event, with_faults}
use Rattle.cl_pp.specs.Taking.{Becomes, Comes, defined_by}

-- ---- only a run adds tokens, and no line but by what it aims at adds files and headers

-- the same tokens, files and headers
abbrev pub Kept : PpDone → PpDone → Type 0
Kept old new = (new.tokens ≡ old.tokens) × (new.files ≡ old.files) × (new.once ≡ old.once) × (new.deps ≡ old.deps)

abbrev kept : (d : PpDone) → Kept d d
kept d = (refl, refl, refl, refl)

then_kept : (a b c : PpDone) → Kept a b → Kept b c → Kept a c
then_kept a b c x y = (y.0 ∙ x.0, y.1 ∙ x.1, y.2 ∙ x.2, y.3 ∙ x.3)

-- an act keeps what stood, and a run is the line's
abbrev pub Tells : ℕ → List Token → PpDone → Act → Type 0
Tells file line old (Gives held done) = Kept old done
Tells file line old (Runs run done) = Kept old done × (run ≡ spread_line file line)
Tells file line old (Asks ts done) = Kept old done
Tells file line old (Checks ts done) = Kept old done
Tells file line old (Defines ts done) = Kept old done
Tells file line old (Names ts done) = Kept old done
Tells file line old (Includes ts done) = Kept old done
Tells file line old (Marks done) = Kept old done

if_tells : (file : ℕ) (line : List Token) (old : PpDone) (b : Bool) (x y : Act) → Tells file line old x → Tells file line old y → Tells file line old (if b then x else y)
if_tells file line old true x y h k = h
if_tells file line old false x y h k = k

if_kept : (old : PpDone) (b : Bool) (x y : PpDone) → Kept old x → Kept old y → Kept old (if b then x else y)
if_kept old true x y h k = h
if_kept old false x y h k = k

undefining_kept : (file : ℕ) (name : Token) (rest : List Token) (done : PpDone) → Kept done (undefining file name rest done)
undefining_kept file name [] done = kept done
undefining_kept file name (t ∷ ts) done =
    if_kept done (is_ident t.kind) (with_faults (extra file ts) (undefined file t done)) (with_faults (fault_at file 6 name) done)
    (if_kept done (is_reserved t.text) (with_faults (fault_at file 18 t) done) (with_event t.text None done) (kept done) (kept done)) (kept done)

defining_tells : (file : ℕ) (line : List Token) (name : Token) (rest : List Token) (done : PpDone) → Tells file line done (defining file name rest done)
defining_tells file line name [] done = kept done
defining_tells file line name (t ∷ ts) done = if_tells file line done (is_ident t.kind) _ _ (kept done) (kept done)

plain_tells : (file : ℕ) (line : List Token) (name : Token) (rest : List Token) (done : PpDone) → Tells file line done (plain file name rest done)
plain_tells file line name rest done =
    let unknown : Act = Gives false (with_faults (fault_at file 5 name) done) in
    let error : Act = if is_word name (codes "error") then Gives false (with_faults (fault_at file 22 name) done) else unknown in
    let line_act : Act = if is_word name (codes "line") then checking file rest done else error in
    let undef : Act = if is_word name (codes "undef") then Gives false (undefining file name rest done) else line_act in
    if_tells file line done (is_word name (codes "define")) (defining file name rest done) undef (defining_tells file line name rest done)
    (if_tells file line done (is_word name (codes "undef")) (Gives false (undefining file name rest done)) line_act (undefining_kept file name rest done)
    (if_tells file line done (is_word name (codes "line")) (checking file rest done) error
    (if_tells file line done (is_some (misfit (spread_line file rest))) (Checks (spread_line file rest) done) (Gives false done) (kept done) (kept done))
    (if_tells file line done (is_word name (codes "error")) (Gives false (with_faults (fault_at file 22 name) done)) unknown (kept done) (kept done))))

named_tells : (file : ℕ) (line : List Token) (name : Token) (rest : List Token) (done : PpDone) → Tells file line done (named file name rest done)
named_tells file line name rest done =
    let pragma : Act = if is_word name (codes "pragma") then marking rest done else plain file name rest done in
    if_tells file line done (is_word name (codes "include")) (including file rest done) pragma
    (if_tells file line done (is_written rest) (Names (spread_line file rest) done) (Includes (spread_line file rest) done) (kept done) (kept done))
    (if_tells file line done (is_word name (codes "pragma")) (marking rest done) (plain file name rest done)
    (if_tells file line done (is_once rest) (Marks done) (Gives false done) (kept done) (kept done)) (plain_tells file line name rest done))

directive_tells : (file : ℕ) (line all : List Token) (done : PpDone) → Tells file line done (directive file all done)
directive_tells file line [] done = kept done
directive_tells file line (hash ∷ []) done = kept done
directive_tells file line (hash ∷ (name ∷ rest)) done = named_tells file line name rest done

tested_tells : (file : ℕ) (macros : List ℕ → Option Macro) (wanted : Bool) (line rest : List Token) (done : PpDone) → Tells file line done (tested file macros wanted line rest done)
tested_tells file macros wanted line [] done = kept done
tested_tells file macros wanted line (t ∷ ts) done = if_tells file line done (is_ident t.kind) _ _ (kept done) (kept done)

taken_tells : (file : ℕ) (macros : List ℕ → Option Macro) (c : Condition) (line : List Token) (done : PpDone) → Tells file line done (taken file macros c line done)
taken_tells file macros If line done = kept done
taken_tells file macros Elif line done = kept done
taken_tells file macros IfDef line done = tested_tells file macros true line (rest_of line) done
taken_tells file macros IfNDef line done = tested_tells file macros false line (rest_of line) done
taken_tells file macros Else line done = kept done

passed_tells : (file : ℕ) (c : Condition) (line : List Token) (done : PpDone) → Tells file line done (passed_by file c line done)
passed_tells file If line done = kept done
passed_tells file Elif line done = kept done
passed_tells file IfDef line done = kept done
passed_tells file IfNDef line done = kept done
passed_tells file Else line done = kept done

pub act_tells : (file : ℕ) (begins : ℕ → Option Fault) (macros : List ℕ → Option Macro) (part : Part) (answer : Question → Bool) (line : List Token) (done : PpDone)
    → Tells file line done (act file begins macros part answer line done)
act_tells file begins macros Line answer line done =
    if_tells file line done (answer Active) _ _ (if_tells file line done (is_directive line) _ _ (directive_tells file line line (looking file begins line done)) (kept done, refl)) (kept done)
act_tells file begins macros End answer line done = if_tells file line done (answer Outer) _ _ (kept done) (kept done)
act_tells file begins macros (Branch c) answer line done =
    if_tells file line done (is_looked_at c answer) _ _
    (if_tells file line done (may_take c answer) _ _ (taken_tells file macros c line (looking file begins line done)) (passed_tells file c line (looking file begins line done))) (kept done)

-- ---- what a line comes to

-- the tokens are more, and nothing else is
pub record Adds (file : ℕ) (line : List Token) (rules_at : Span → Rules) (numbers : List ℕ → Option MacroNo) (old new : PpDone) : Type 0 where
  pub more : List PpToken
  pub tokens : new.tokens ≡ old.tokens ++ more
  pub files : new.files ≡ old.files
  pub once : new.once ≡ old.once
  pub deps : new.deps ≡ old.deps
  pub made : (more ≡ []) ⊎ ((all : Expanded) × IsExpansion rules_at numbers (spread_line file line) all × (more ≡ all.tokens))

nothing_more : (file : ℕ) (line : List Token) (rules_at : Span → Rules) (numbers : List ℕ → Option MacroNo) (old new : PpDone) → Kept old new → Adds file line rules_at numbers old new
nothing_more file line rules_at numbers old new k = record { more = []; tokens = k.0 ∙ sym (append-nil old.tokens); files = k.1; once = k.2; deps = k.3; made = inl refl }

-- one is the other
same_kept : (old mid new : PpDone) → new ≡ mid → Kept old mid → Kept old new
same_kept old mid new e k = subst (λ (d : PpDone). Kept old d) (sym e) k

defined_kept : (file : ℕ) (answer : Defined) (mac : Macro) (ts : List Token) (done : PpDone) → Kept done (defined_by file answer mac ts done)
defined_kept file defined.New mac ts done = kept done
defined_kept file defined.Same mac ts done = kept done
defined_kept file (defined.Replaced place) mac ts done = kept done

becomes_kept : (file : ℕ) (macros : List ℕ → Option Macro) (ts : List Token) (found : Option Macro) (old new : PpDone) → Becomes file macros ts found old new → Kept old new
becomes_kept file macros ts None old new h = same_kept old (with_faults (invalid file ts) old) new h (kept old)
becomes_kept file macros ts (Some mac) old new h = same_kept old (defined_by file h.answer mac ts old) new h.is (defined_kept file h.answer mac ts old)

module _ (file : ℕ) (line : List Token) (rules_at : Span → Rules) (numbers : List ℕ → Option MacroNo) where
  by_kept : (old done new : PpDone) → Kept old done → Kept done new → Adds file line rules_at numbers old new
  by_kept old done new k h = nothing_more file line rules_at numbers old new (then_kept old done new k h)

  adds : (old : PpDone) (a : Act) (held : Bool) (aim : Aim) (new : PpDone) → Tells file line old a → Comes file rules_at numbers line a held aim new → Adds file line rules_at numbers old new
  adds old (Gives holds done) held aim new t h = by_kept old done new t (same_kept done done new h.1.1 (kept done))
  adds old (Runs run done) held aim new t h = record {
    more = h.1.1.all.tokens;
    tokens = ap (λ (d : PpDone). d.tokens) h.1.1.is ∙ ap (λ (ts : List PpToken). ts ++ h.1.1.all.tokens) t.0.0;
    files = ap (λ (d : PpDone). d.files) h.1.1.is ∙ t.0.1;
    once = ap (λ (d : PpDone). d.once) h.1.1.is ∙ t.0.2;
    deps = ap (λ (d : PpDone). d.deps) h.1.1.is ∙ t.0.3;
    made = inr (h.1.1.all, subst (λ (ts : List PpToken). IsExpansion rules_at numbers ts h.1.1.all) t.1 h.1.1.expands, refl);
  }
  adds old (Asks ts done) held aim new t h = by_kept old done new t (same_kept done (with_faults (bad_if file h.1.value h.1.all.tokens line) (with_asked h.1.all done)) new h.1.is (kept done))
  adds old (Checks ts done) held aim new t h = by_kept old done new t (same_kept done (with_faults (bad_line file (misfit h.1.1.all.tokens) h.1.1.all.tokens line) (with_asked h.1.1.all done)) new h.1.1.is (kept done))
  adds old (Defines ts done) held aim new t h = by_kept old done new t (becomes_kept file (rules_at (place_of file ts)).macros ts h.1.1.found done new h.1.1.becomes)
  adds old (Names ts done) held aim new t h = by_kept old done new t (same_kept done (with_faults (included file (named_in ts) ts line) done) new h.2 (kept done))
  adds old (Includes ts done) held aim new t h =
      by_kept old done new t (same_kept done (with_faults (included file (named_in h.1.all.tokens) h.1.all.tokens line) (with_asked h.1.all done)) new h.1.is (kept done))
  adds old (Marks done) held aim new t h = by_kept old done new t (same_kept done done new h.2 (kept done))

pub line_adds : (w : World) (tokens : List Token) (s : State) (mark : Mark) (held : Bool) (aim : Aim) (new : PpDone) → ComesTo w tokens s mark held aim new
    → Adds w.file (line_of tokens mark) (rules_in w (macro_at w.start s.done)) (number_at w.start s.done) s.done new
line_adds w tokens s mark held aim new h =
    adds w.file (line_of tokens mark) (rules_in w (macro_at w.start s.done)) (number_at w.start s.done) s.done (act_at w tokens (macro_at w.start s.done) s mark) held aim new
    (act_tells w.file w.begins (macro_at w.start s.done) mark.part (λ q. says q 0 s.past) (line_of tokens mark) s.done) h

-- no line but by what it aims at asks for a header
pub comes_deps : (file : ℕ) (rules_at : Span → Rules) (numbers : List ℕ → Option MacroNo) (line : List Token) (old : PpDone) (begins : ℕ → Option Fault) (macros : List ℕ → Option Macro) (part : Part) (answer : Question → Bool)
    (held : Bool) (aim : Aim) (new : PpDone) → Comes file rules_at numbers line (act file begins macros part answer line old) held aim new → new.deps ≡ old.deps
comes_deps file rules_at numbers line old begins macros part answer held aim new h =
    (adds file line rules_at numbers old (act file begins macros part answer line old) held aim new (act_tells file begins macros part answer line old) h).deps
