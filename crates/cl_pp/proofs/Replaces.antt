-- What replacement adds.
use Rattle.std.specs.Prelude.{if◌then◌else◌, codes, OnOk, Result}
use Rattle.std.proofs.Common.{◌≡◌, ℕ, ◌+◌, Bool, true, false, List, ◌∷◌, ◌++◌, Option, refl, sym, ap, subst, ◌∙◌, length, map}
use Rattle.cl_base.specs.declared.macros.Macro.{Macro}
use Rattle.cl_base.specs.declared.macros.MacroNo.{MacroNo}
use Rattle.cl_base.specs.declared.memory.Memory.{Memory}
use Rattle.cl_base.specs.declared.token.PpToken.{PpToken}
use Rattle.cl_base.specs.declared.token.Span.{Span}
use Rattle.cl_base.specs.declared.token.Token.{Token}
use Rattle.cl_base.specs.Tokens.{is_ident, is_word}
use Rattle.cl_cond.specs.declared.eval.IfValue.{IfValue}
use Rattle.cl_cond.specs.Conditions.{EvaluatesTo}
use Rattle.cl_cond.specs.Words.{words_from}
use Rattle.cl_macro.specs.declared.expanded.Expanded.{Expanded}
use Rattle.cl_macro.specs.declared.expanded.MacroUse.{MacroUse}
use Rattle.cl_macro.specs.Expansions.{IsExpansion}
use Rattle.cl_macro.specs.Levels.{rules_of}
use Rattle.cl_macro.specs.Rules.{Rules}
use Rattle.cl_macro.specs.Strings.{escaped, quoted}
use Rattle.cl_pp.specs.declared.done.PpDone.{PpDone}
use Rattle.cl_pp.specs.declared.made.Reach.TheVariants as reach
use Rattle.cl_pp.specs.Lines.{bad_if, bad_line, fault_at, is_true}
use Rattle.cl_pp.specs.Preprocessing.{World, rules_in}
use Rattle.cl_pp.specs.Standing.{use_at, with_asked, with_faults, with_looked, with_replaced}
use Rattle.cl_pp.specs.Acts.{Act, Defines, Gives, defining, plain}
use Rattle.cl_pp.specs.LineNumbers.{misfit}
use Rattle.cl_pp.specs.Taking.{IsChecked, IsCondition, IsDefinition, IsRun, Takes}
use Rattle.cl_pp.specs.code.Keeping.{Replaces, before_of}
use Rattle.cl_pp.specs.code.Operands.{IsOperand}

pub replaced_is : (before : ℕ → ℕ) (all : Expanded) (old look new : PpDone) (names : List (List ℕ)) (us : List MacroUse)
    → look ≡ with_looked names old → names ≡ all.looked → us ≡ all.uses → new.tokens ≡ look.tokens → new.events ≡ look.events → new.looked ≡ look.looked → new.files ≡ look.files → new.once ≡ look.once → new.deps ≡ look.deps
    → new.uses ≡ look.uses ++ map (use_at before) us → new.faults ≡ look.faults ++ all.faults → new ≡ with_replaced before all old
replaced_is before all old look new names us l n u t e k fi on de v f =
    let h : look ≡ with_looked all.looked old = l ∙ ap (λ (ns : List (List ℕ)). with_looked ns old) n in
    λ i. record {
      tokens = (t ∙ ap (λ (d : PpDone). d.tokens) h) i;
      events = (e ∙ ap (λ (d : PpDone). d.events) h) i;
      files = (fi ∙ ap (λ (d : PpDone). d.files) h) i;
      once = (on ∙ ap (λ (d : PpDone). d.once) h) i;
      deps = (de ∙ ap (λ (d : PpDone). d.deps) h) i;
      uses = (v ∙ (λ j. (h j).uses ++ map (use_at before) (u j))) i;
      looked = (k ∙ ap (λ (d : PpDone). d.looked) h) i;
      faults = (f ∙ ap (λ (d : PpDone). d.faults ++ all.faults) h) i;
    }

-- by the path of the file
pub by_path : (w : World) (macros : List ℕ → Option Macro) (numbers : List ℕ → Option MacroNo) (path : List ℕ) (run : List PpToken) (all : Expanded) → path ≡ w.path
    → IsExpansion (rules_of macros w.one_token (quoted (escaped path)) w.text) numbers run all → IsExpansion (rules_in w macros) numbers run all
by_path w macros numbers path run all e h = subst (λ (p : List ℕ). IsExpansion (rules_of macros w.one_token (quoted (escaped p)) w.text) numbers run all) e h

-- a run of text
pub run_is : (rules_at : Span → Rules) (numbers : List ℕ → Option MacroNo) (base : ℕ) (run line tokens : List PpToken) (old mid new : PpDone)
    → Replaces rules_at numbers (before_of (reach.Run base)) run tokens old mid → run ≡ line → base ≡ length old.tokens
    → new.tokens ≡ mid.tokens ++ tokens → new.events ≡ mid.events → new.files ≡ mid.files → new.once ≡ mid.once → new.deps ≡ mid.deps → new.uses ≡ mid.uses → new.looked ≡ mid.looked → new.faults ≡ mid.faults → IsRun rules_at numbers line old new
run_is rules_at numbers base run line tokens old mid new r e b t v fi on de u l f =
    let h : mid ≡ with_replaced (λ (n : ℕ). length old.tokens + n) r.all old = r.is ∙ ap (λ (k : ℕ). with_replaced (λ (n : ℕ). k + n) r.all old) b in
    record {
      all = r.all;
      expands = subst (λ (ts : List PpToken). IsExpansion rules_at numbers ts r.all) e r.expands;
      is = λ i. record {
        tokens = (t ∙ (λ j. (h j).tokens ++ r.made j)) i;
        events = (v ∙ ap (λ (d : PpDone). d.events) h) i;
        files = (fi ∙ ap (λ (d : PpDone). d.files) h) i;
        once = (on ∙ ap (λ (d : PpDone). d.once) h) i;
        deps = (de ∙ ap (λ (d : PpDone). d.deps) h) i;
        uses = (u ∙ ap (λ (d : PpDone). d.uses) h) i;
        looked = (l ∙ ap (λ (d : PpDone). d.looked) h) i;
        faults = (f ∙ ap (λ (d : PpDone). d.faults) h) i;
      };
    }

-- the tokens of a directive
pub asked_is : (rules_at : Span → Rules) (numbers : List ℕ → Option MacroNo) (base : ℕ) (run tokens : List PpToken) (old new : PpDone)
    → (r : Replaces rules_at numbers (before_of (reach.Directive base)) run tokens old new) → base ≡ length old.tokens → new ≡ with_asked r.all old
asked_is rules_at numbers base run tokens old new r b = r.is ∙ ap (λ (k : ℕ). with_replaced (λ (n : ℕ). k) r.all old) b

-- a condition
pub condition_is : (file : ℕ) (rules_at : Span → Rules) (numbers : List ℕ → Option MacroNo) (line : List Token) (base : ℕ) (run wanted tokens valued blamed : List PpToken) (names asked : List (List ℕ)) (old look mid new : PpDone) (value : IfValue) (held : Bool)
    → look ≡ with_looked names old → names ≡ asked → Replaces rules_at numbers (before_of (reach.Directive base)) run tokens look mid → base ≡ length look.tokens → run ≡ wanted
    → EvaluatesTo (words_from 0 valued) value → valued ≡ tokens → blamed ≡ tokens → held ≡ is_true value
    → new.tokens ≡ mid.tokens → new.events ≡ mid.events → new.files ≡ mid.files → new.once ≡ mid.once → new.deps ≡ mid.deps → new.uses ≡ mid.uses → new.looked ≡ mid.looked → new.faults ≡ mid.faults ++ bad_if file value blamed line
    → IsCondition file rules_at numbers line wanted (with_looked asked old) held new
condition_is file rules_at numbers line base run wanted tokens valued blamed names asked old look mid new value held l n r b e ev sv sb h nt ne fi on de nu nl nf =
    let s : look ≡ with_looked asked old = l ∙ ap (λ (ns : List (List ℕ)). with_looked ns old) n in
    let m : mid ≡ with_asked r.all (with_looked asked old) = asked_is rules_at numbers base run tokens look mid r b ∙ ap (λ (d : PpDone). with_asked r.all d) s in
    record {
      all = r.all;
      value = value;
      expands = subst (λ (ts : List PpToken). IsExpansion rules_at numbers ts r.all) e r.expands;
      comes = subst (λ (ts : List PpToken). EvaluatesTo (words_from 0 ts) value) (sv ∙ r.made) ev;
      holds = h;
      is = λ i. record {
        tokens = (nt ∙ ap (λ (d : PpDone). d.tokens) m) i;
        events = (ne ∙ ap (λ (d : PpDone). d.events) m) i;
        files = (fi ∙ ap (λ (d : PpDone). d.files) m) i;
        once = (on ∙ ap (λ (d : PpDone). d.once) m) i;
        deps = (de ∙ ap (λ (d : PpDone). d.deps) m) i;
        uses = (nu ∙ ap (λ (d : PpDone). d.uses) m) i;
        looked = (nl ∙ ap (λ (d : PpDone). d.looked) m) i;
        faults = (nf ∙ (λ j. (m j).faults ++ bad_if file value ((sb ∙ r.made) j) line)) i;
      };
    }

-- an operand of `#line`
pub checked_is : (file : ℕ) (rules_at : Span → Rules) (numbers : List ℕ → Option MacroNo) (line : List Token) (base : ℕ) (run tokens seen blamed : List PpToken) (old mid new : PpDone) (place : Option ℕ)
    → Replaces rules_at numbers (before_of (reach.Directive base)) run tokens old mid → base ≡ length old.tokens
    → place ≡ misfit seen → seen ≡ tokens → blamed ≡ tokens
    → new.tokens ≡ mid.tokens → new.events ≡ mid.events → new.files ≡ mid.files → new.once ≡ mid.once → new.deps ≡ mid.deps → new.uses ≡ mid.uses → new.looked ≡ mid.looked → new.faults ≡ mid.faults ++ bad_line file place blamed line
    → IsChecked file rules_at numbers line run old new
checked_is file rules_at numbers line base run tokens seen blamed old mid new place r b p s t nt ne fi on de nu nl nf =
    let m : mid ≡ with_asked r.all old = asked_is rules_at numbers base run tokens old mid r b in
    record {
      all = r.all;
      expands = r.expands;
      is = λ i. record {
        tokens = (nt ∙ ap (λ (d : PpDone). d.tokens) m) i;
        events = (ne ∙ ap (λ (d : PpDone). d.events) m) i;
        files = (fi ∙ ap (λ (d : PpDone). d.files) m) i;
        once = (on ∙ ap (λ (d : PpDone). d.once) m) i;
        deps = (de ∙ ap (λ (d : PpDone). d.deps) m) i;
        uses = (nu ∙ ap (λ (d : PpDone). d.uses) m) i;
        looked = (nl ∙ ap (λ (d : PpDone). d.looked) m) i;
        faults = (nf ∙ (λ j. (m j).faults ++ bad_line file ((p ∙ ap misfit (s ∙ r.made)) j) ((t ∙ r.made) j) line)) i;
      };
    }

-- a definition
pub defines_by : (file : ℕ) (rules_at : Span → Rules) (numbers : List ℕ → Option MacroNo) (line : List Token) (name token : Token) (rest more : List Token) (old new : PpDone)
    → rest ≡ token ∷ more → is_ident token.kind ≡ true → IsDefinition file rules_at rest old new → Takes file rules_at numbers line (defining file name rest old) false new
defines_by file rules_at numbers line name token rest more old new e b h =
    subst (λ (ts : List Token). Takes file rules_at numbers line (defining file name ts old) false new) (sym e)
    (subst (λ (x : Bool). Takes file rules_at numbers line (if x then Defines (token ∷ more) old else Gives false (with_faults (fault_at file 6 name) old)) false new) (sym b)
    (refl, subst (λ (ts : List Token). IsDefinition file rules_at ts old new) e h))

if_is : (b : Bool) (x y : Act) → b ≡ true → (if b then x else y) ≡ x
if_is b x y e = ap (λ (c : Bool). if c then x else y) e

pub plain_define : (file : ℕ) (rules_at : Span → Rules) (numbers : List ℕ → Option MacroNo) (line : List Token) (name : Token) (rest : List Token) (old new : PpDone) (r : Result (Unit {0}) Memory)
    → is_word name (codes "define") ≡ true → OnOk r (Takes file rules_at numbers line (defining file name rest old) false new) → OnOk r (Takes file rules_at numbers line (plain file name rest old) false new)
plain_define file rules_at numbers line name rest old new r e h =
    let same : plain file name rest old ≡ defining file name rest old = if_is (is_word name (codes "define")) (defining file name rest old) _ e in
    subst (λ (a : Act). OnOk r (Takes file rules_at numbers line a false new)) (sym same) h

-- the operand of an include line
pub operand_is : (b : Bool) (rules_at : Span → Rules) (numbers : List ℕ → Option MacroNo) (base : ℕ) (run wanted tokens : List PpToken) (old new : PpDone) → b ≡ false
    → Replaces rules_at numbers (before_of (reach.Directive base)) run tokens old new → base ≡ length old.tokens → run ≡ wanted → IsOperand b rules_at numbers wanted tokens old new
operand_is b rules_at numbers base run wanted tokens old new e r l w =
    subst (λ (x : Bool). IsOperand x rules_at numbers wanted tokens old new) (sym e) (record {
      all = r.all;
      expands = subst (λ (ts : List PpToken). IsExpansion rules_at numbers ts r.all) w r.expands;
      made = r.made;
      is = asked_is rules_at numbers base run tokens old new r l;
    })
