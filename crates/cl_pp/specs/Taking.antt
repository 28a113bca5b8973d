-- What a line comes to, by the macros at its place (N1570 6.10).
use Rattle.std.specs.Prelude.{◌≡◌, ℕ, Bool, false, List, [], ◌∷◌, Option, Some, None, MatchOption}
use Rattle.cl_base.specs.declared.token.Span.{Span}
use Rattle.cl_base.specs.declared.token.Token.{Token}
use Rattle.cl_base.specs.declared.token.PpToken.{PpToken}
use Rattle.cl_pp.specs.declared.done.PpDone.{PpDone}
use Rattle.cl_base.specs.declared.macros.Macro.{Macro}
use Rattle.cl_base.specs.declared.macros.MacroNo.{MacroNo}
use Rattle.cl_define.specs.Definitions.{Defines as Reads}
use Rattle.cl_cond.specs.declared.eval.IfValue.{IfValue}
use Rattle.cl_cond.specs.Words.{words_from}
use Rattle.cl_cond.specs.Conditions.{EvaluatesTo}
use Rattle.cl_macro.specs.declared.expanded.Expanded.{Expanded}
use Rattle.cl_macro.specs.declared.define.Defined.{Defined}
use Rattle.cl_macro.specs.declared.define.Defined.TheVariants as defined
use Rattle.cl_macro.specs.Defining.{IsDefined}
use Rattle.cl_macro.specs.Rules.{Rules}
use Rattle.cl_macro.specs.Expansions.{IsExpansion}
use Rattle.cl_pp.specs.declared.aim.Aim.{Aim}
use Rattle.cl_pp.specs.declared.aim.Aim.TheVariants.{Nothing, Once}
use Rattle.cl_pp.specs.Acts.{Act, Gives, Runs, Asks, Checks, Defines, Names, Includes, Marks}
use Rattle.cl_pp.specs.Including.{aim_of, included, named_in}
use Rattle.cl_pp.specs.LineNumbers.{misfit}
use Rattle.cl_pp.specs.Lines.{bad_if, bad_line, invalid, is_true, place_of, redefined}
use Rattle.cl_pp.specs.Standing.{with_asked, with_event, with_faults, with_looked, with_run}

-- what the tokens behind `define` define, if they define something (6.10.3)
abbrev pub IsRead : ℕ → List Token → Option Macro → Type 0
IsRead file tokens found = MatchOption found ((mac : Macro) → Reads (place_of file tokens) tokens mac → ⊥) (Reads (place_of file tokens) tokens)

-- a definition that is the same as the one that stands is no event
abbrev pub defined_by : ℕ → Defined → Macro → List Token → PpDone → PpDone
defined_by file defined.New mac tokens done = with_event mac.name (Some mac) done
defined_by file defined.Same mac tokens done = with_looked (mac.name ∷ []) done
defined_by file (defined.Replaced place) mac tokens done = with_faults (redefined file mac.name tokens) (with_event mac.name (Some mac) done)

-- the macro, where its name means this
pub record IsGiven (file : ℕ) (macros : List ℕ → Option Macro) (tokens : List Token) (mac : Macro) (old new : PpDone) : Type 0 where
  pub answer : Defined
  pub defined : IsDefined (macros mac.name) mac answer
  pub is : new ≡ defined_by file answer mac tokens old

abbrev pub Becomes : ℕ → (List ℕ → Option Macro) → List Token → Option Macro → PpDone → PpDone → Type 0
Becomes file macros tokens None old new = new ≡ with_faults (invalid file tokens) old
Becomes file macros tokens (Some mac) old new = IsGiven file macros tokens mac old new

-- the tokens behind `define` give their name a macro (6.10.3p9, 10), by what it means there (6.10.3p2), or are at fault
pub record IsDefinition (file : ℕ) (rules_at : Span → Rules) (tokens : List Token) (old new : PpDone) : Type 0 where
  pub found : Option Macro
  pub reads : IsRead file tokens found
  pub becomes : Becomes file (rules_at (place_of file tokens)).macros tokens found old new

module _ (rules_at : Span → Rules) (numbers : List ℕ → Option MacroNo) where
  -- a run of text is replaced
  pub record IsRun (run : List PpToken) (old new : PpDone) : Type 0 where
    pub all : Expanded
    pub expands : IsExpansion rules_at numbers run all
    pub is : new ≡ with_run all old

module _ (file : ℕ) (rules_at : Span → Rules) (numbers : List ℕ → Option MacroNo) (line : List Token) where
  -- the tokens of a condition are replaced, and the names that are left count 0 (6.10.1p4)
  pub record IsCondition (tokens : List PpToken) (old : PpDone) (held : Bool) (new : PpDone) : Type 0 where
    pub all : Expanded
    pub value : IfValue
    pub expands : IsExpansion rules_at numbers tokens all
    pub comes : EvaluatesTo (words_from 0 all.tokens) value
    pub holds : held ≡ is_true value
    pub is : new ≡ with_faults (bad_if file value all.tokens line) (with_asked all old)

  -- the operand of a `#line` is replaced (6.10.4p5). It moves no place
  pub record IsChecked (tokens : List PpToken) (old new : PpDone) : Type 0 where
    pub all : Expanded
    pub expands : IsExpansion rules_at numbers tokens all
    pub is : new ≡ with_faults (bad_line file (misfit all.tokens) all.tokens line) (with_asked all old)

  -- the operand of an `#include` is replaced, and then read as a header name (6.10.2p4)
  pub record IsIncluded (tokens : List PpToken) (old : PpDone) (aim : Aim) (new : PpDone) : Type 0 where
    pub all : Expanded
    pub expands : IsExpansion rules_at numbers tokens all
    pub aims : aim ≡ aim_of file (named_in all.tokens) all.tokens line
    pub is : new ≡ with_faults (included file (named_in all.tokens) all.tokens line) (with_asked all old)

  -- what is done that asks for nothing more
  abbrev pub Takes : Act → Bool → PpDone → Type 0
  Takes (Gives holds done) held new = (held ≡ holds) × (new ≡ done)
  Takes (Runs run done) held new = (held ≡ false) × IsRun rules_at numbers run done new
  Takes (Asks tokens done) held new = IsCondition tokens done held new
  Takes (Checks tokens done) held new = (held ≡ false) × IsChecked tokens done new
  Takes (Defines tokens done) held new = (held ≡ false) × IsDefinition file rules_at tokens done new
  Takes (Names tokens done) held new = ⊥
  Takes (Includes tokens done) held new = ⊥
  Takes (Marks done) held new = ⊥

  -- and what is asked for: a file that is to be entered, or that this one is entered once only
  abbrev pub Comes : Act → Bool → Aim → PpDone → Type 0
  Comes (Names tokens done) held aim new = (held ≡ false) × (aim ≡ aim_of file (named_in tokens) tokens line) × (new ≡ with_faults (included file (named_in tokens) tokens line) done)
  Comes (Includes tokens done) held aim new = (held ≡ false) × IsIncluded tokens done aim new
  Comes (Marks done) held aim new = (held ≡ false) × (aim ≡ Once) × (new ≡ done)
  Comes act held aim new = (aim ≡ Nothing) × Takes act held new
