-- What the code keeps beside what is made.
use Rattle.std.specs.Prelude.{◌≡◌, ℕ, ◌+◌, List, Option, true, is_some, length}
use Rattle.std.specs.Cmp.Lexicographic.{slice_cmp}
use Rattle.std.specs.Ordering.{nat_cmp}
use Rattle.std.specs.BTreeMap.{get}
use Rattle.cl_base.specs.declared.macros.Macro.{Macro}
use Rattle.cl_base.specs.declared.macros.MacroNo.{MacroNo}
use Rattle.cl_pp.specs.declared.done.PpDone.{PpDone}
use Rattle.cl_base.specs.declared.token.PpToken.{PpToken}
use Rattle.cl_base.specs.declared.token.Span.{Span}
use Rattle.cl_base.specs.Lines.{IsTableOf}
use Rattle.cl_macro.specs.declared.expanded.Expanded.{Expanded}
use Rattle.cl_macro.specs.declared.table.MacroTable.{MacroTable}
use Rattle.cl_macro.specs.Expansions.{IsExpansion}
use Rattle.cl_macro.specs.Rules.{Rules, TellsTokens}
use Rattle.cl_macro.specs.Table.{event_of, macro_of}
use Rattle.cl_pp.specs.Names.{contains}
use Rattle.cl_pp.specs.Preprocessing.{World}
use Rattle.cl_pp.specs.Standing.{Start, macro_at, number_at, with_replaced}
use Rattle.cl_pp.specs.code.Seeing.{IsAtHand}
use Rattle.cl_pp.specs.declared.made.File.{File}
use Rattle.cl_pp.specs.declared.made.Made.{Made}
use Rattle.cl_pp.specs.declared.made.Reach.{Reach}
use Rattle.cl_pp.specs.declared.made.Reach.TheVariants as reach

-- the macro of a name, over a base that gives names these macros
abbrev pub lookup : (List ℕ → Option Macro) → MacroTable → List ℕ → Option Macro
lookup macros table = macro_of table macros

-- the number of its last event, over a base where names have these
abbrev pub number_of : (List ℕ → Option MacroNo) → MacroTable → List ℕ → Option MacroNo
number_of numbers table = event_of table numbers

-- the names that are kept are those that were looked up
abbrev pub SeesNames : Made → Type 0
SeesNames made = (name : List ℕ) → is_some (get (slice_cmp nat_cmp) made.seen.names name) ≡ contains made.done.looked name

-- and each that is at hand was looked up
abbrev pub Sees : Made → Type 0
Sees made = SeesNames made × ((name : List ℕ) → IsAtHand made.seen.recent.items name → contains made.done.looked name ≡ true)

-- over a base with these macros and events: the macros are those of the events
pub record Keeps (macros : List ℕ → Option Macro) (numbers : List ℕ → Option MacroNo) (start : Start) (table : MacroTable) (done : PpDone) : Type 0 where
  pub macros_are : (name : List ℕ) → lookup macros table name ≡ macro_at start done name
  pub numbers_are : (name : List ℕ) → number_of numbers table name ≡ number_at start done name
  pub count : table.events ≡ start.events + length done.events

-- the file is this one
pub record Suits (file : File) (w : World) : Type 0 where
  pub number : file.number ≡ w.file
  pub path : file.path.now ≡ w.path
  pub lines : IsTableOf file.lines.now w.text
  pub begins : (at : ℕ) → get nat_cmp file.told.now at ≡ w.begins at
  pub tells : TellsTokens w.one_token

-- how many tokens stand before an outermost invocation that has so many of its run before it
abbrev pub before_of : Reach → ℕ → ℕ
before_of (reach.Run n) count = n + count
before_of (reach.Directive n) count = n

-- tokens are replaced by these, and what is told of it is added
pub record Replaces (rules_at : Span → Rules) (numbers : List ℕ → Option MacroNo) (before : ℕ → ℕ) (run : List PpToken) (tokens : List PpToken) (old new : PpDone) : Type 0 where
  pub all : Expanded
  pub expands : IsExpansion rules_at numbers run all
  pub made : tokens ≡ all.tokens
  pub is : new ≡ with_replaced before all old
