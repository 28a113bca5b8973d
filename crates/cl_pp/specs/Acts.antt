-- What is to be done with a line (N1570 6.10).
use Rattle.std.specs.Prelude.{ℕ, not, List, [], ◌∷◌, Bool, true, false, if◌then◌else◌, Option, None, is_some, codes}
use Rattle.cl_base.specs.declared.token.Token.{Token}
use Rattle.cl_base.specs.declared.token.PpToken.{PpToken}
use Rattle.cl_pp.specs.declared.done.PpDone.{PpDone}
use Rattle.cl_base.specs.declared.token.Diag.{Diag}
use Rattle.cl_base.specs.declared.token.Fault.{Fault}
use Rattle.cl_base.specs.declared.macros.Macro.{Macro}
use Rattle.cl_cond.specs.declared.mark.Condition.{Condition}
use Rattle.cl_cond.specs.declared.mark.Condition.TheVariants.{If, IfDef, IfNDef, Elif, Else}
use Rattle.cl_cond.specs.declared.mark.Part.{Part}
use Rattle.cl_cond.specs.declared.mark.Part.TheVariants.{Line, Branch, End}
use Rattle.cl_cond.specs.Sections.{opens}
use Rattle.cl_base.specs.Tokens.{is_ident, is_word}
use Rattle.cl_define.specs.Predefined.{is_reserved}
use Rattle.cl_pp.specs.Activity.{Question, Active, Free, Outer}
use Rattle.cl_pp.specs.Defined.{asked, decided}
use Rattle.cl_pp.specs.LineNumbers.{misfit}
use Rattle.cl_pp.specs.Including.{is_written}
use Rattle.cl_pp.specs.Lines.{extra, fault_at, is_directive, line_strays, rest_of, spread_line}
use Rattle.cl_pp.specs.Standing.{with_event, with_faults, with_looked}

pub data Act : Type 0 where
  -- this stands then. A line that begins a branch says whether its condition is fulfilled
  Gives : Bool → PpDone → Act
  -- these tokens are a run of text
  Runs : List PpToken → PpDone → Act
  -- these tokens are a condition
  Asks : List PpToken → PpDone → Act
  -- these tokens are the operand of a `#line` that isn't of its form as it is written
  Checks : List PpToken → PpDone → Act
  -- these tokens are a definition, which begins with an identifier
  Defines : List Token → PpDone → Act
  -- these tokens are the operand of an `#include`, which begins with a header name
  Names : List PpToken → PpDone → Act
  -- these tokens are the operand of an `#include` that doesn't begin with one
  Includes : List PpToken → PpDone → Act
  -- the file is to be entered once only
  Marks : PpDone → Act

-- ---- directives that begin a branch

-- whether the branch that begins there may be taken: it begins a section in active lines, or no branch of its section is
-- taken so far
abbrev pub may_take : Condition → (Question → Bool) → Bool
may_take c answer = answer (if opens c then Active else Free)

-- whether the line is looked at: its section is in active lines
abbrev pub is_looked_at : Condition → (Question → Bool) → Bool
is_looked_at c answer = answer (if opens c then Active else Outer)

-- a directive that takes an identifier has none, at its name
abbrev pub nameless : ℕ → List Token → List Diag
nameless file (hash ∷ name ∷ rest) = fault_at file 6 name
nameless file line = []

-- `#ifdef` and `#ifndef` look for a macro of the name
abbrev pub by_name : Bool → Bool → Bool
by_name wanted defined = if wanted then defined else not defined

module _ (file : ℕ) (macros : List ℕ → Option Macro) where
  abbrev pub tested : Bool → List Token → List Token → PpDone → Act
  tested wanted line [] done = Gives false (with_faults (nameless file line) done)
  tested wanted line (name ∷ rest) done =
      if is_ident name.kind then Gives (by_name wanted (is_some (macros name.text))) (with_faults (extra file rest) (with_looked (name.text ∷ []) done))
      else Gives false (with_faults (nameless file line) done)

  abbrev pub asking : List Token → PpDone → Act
  asking line done = Asks (decided file macros (rest_of line)) (with_looked (asked (rest_of line)) done)

  -- a branch that may be taken
  abbrev pub taken : Condition → List Token → PpDone → Act
  taken If line done = asking line done
  taken Elif line done = asking line done
  taken IfDef line done = tested true line (rest_of line) done
  taken IfNDef line done = tested false line (rest_of line) done
  taken Else line done = Gives true (with_faults (extra file (rest_of line)) done)

-- one that may not be taken. Its condition isn't looked at (6.10.1p6)
abbrev pub passed_by : ℕ → Condition → List Token → PpDone → Act
passed_by file Else line done = Gives true (with_faults (extra file (rest_of line)) done)
passed_by file _ line done = Gives false done

-- ---- other directives

-- a name that may not be undefined keeps its macro (6.10.8p4)
abbrev pub undefined : ℕ → Token → PpDone → PpDone
undefined file token done = if is_reserved token.text then with_faults (fault_at file 18 token) done else with_event token.text None done

abbrev pub undefining : ℕ → Token → List Token → PpDone → PpDone
undefining file name [] done = with_faults (fault_at file 6 name) done
undefining file name (token ∷ rest) done =
    if is_ident token.kind then with_faults (extra file rest) (undefined file token done) else with_faults (fault_at file 6 name) done

abbrev pub defining : ℕ → Token → List Token → PpDone → Act
defining file name [] done = Gives false (with_faults (fault_at file 6 name) done)
defining file name (token ∷ rest) done = if is_ident token.kind then Defines (token ∷ rest) done else Gives false (with_faults (fault_at file 6 name) done)

abbrev pub checking : ℕ → List Token → PpDone → Act
checking file rest done = if is_some (misfit (spread_line file rest)) then Checks (spread_line file rest) done else Gives false done

abbrev pub including : ℕ → List Token → PpDone → Act
including file rest done = if is_written rest then Names (spread_line file rest) done else Includes (spread_line file rest) done

-- a pragma that begins with `once`; the others have no effect
abbrev pub is_once : List Token → Bool
is_once [] = false
is_once (token ∷ rest) = is_word token (codes "once")

abbrev pub marking : List Token → PpDone → Act
marking rest done = if is_once rest then Marks done else Gives false done

-- a directive that is neither `#include` nor `#pragma`
abbrev pub plain : ℕ → Token → List Token → PpDone → Act
plain file name rest done =
    if is_word name (codes "define") then defining file name rest done else
    if is_word name (codes "undef") then Gives false (undefining file name rest done) else
    if is_word name (codes "line") then checking file rest done else
    if is_word name (codes "error") then Gives false (with_faults (fault_at file 22 name) done) else
    Gives false (with_faults (fault_at file 5 name) done)

-- a directive of this name
abbrev pub named : ℕ → Token → List Token → PpDone → Act
named file name rest done =
    if is_word name (codes "include") then including file rest done else
    if is_word name (codes "pragma") then marking rest done else
    plain file name rest done

-- a `#` by itself is none (6.10.7)
abbrev pub directive : ℕ → List Token → PpDone → Act
directive file (hash ∷ name ∷ rest) done = named file name rest done
directive file line done = Gives false done

-- ---- a line

module _ (file : ℕ) (begins : ℕ → Option Fault) where
  -- it is looked at, and lexing's faults count
  abbrev pub looking : List Token → PpDone → PpDone
  looking line done = with_faults (line_strays file begins line) done

  abbrev pub at_line : List Token → PpDone → Act
  at_line line done = if is_directive line then directive file line (looking line done) else Runs (spread_line file line) (looking line done)

  abbrev pub at_end : List Token → PpDone → Act
  at_end line done = Gives false (with_faults (extra file (rest_of line)) (looking line done))

module _ (file : ℕ) (begins : ℕ → Option Fault) (macros : List ℕ → Option Macro) where
  abbrev pub at_branch : Condition → Bool → List Token → PpDone → Act
  at_branch c may line done = if may then taken file macros c line (looking file begins line done) else passed_by file c line (looking file begins line done)

  -- a line in lines that give these answers. In a group that is skipped nothing is looked at but where its sections begin
  -- and end
  abbrev pub act : Part → (Question → Bool) → List Token → PpDone → Act
  act Line answer line done = if answer Active then at_line file begins line done else Gives false done
  act End answer line done = if answer Outer then at_end file begins line done else Gives false done
  act (Branch c) answer line done = if is_looked_at c answer then at_branch c (may_take c answer) line done else Gives false done
