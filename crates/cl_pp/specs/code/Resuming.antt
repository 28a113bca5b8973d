-- How the code goes on with work on a text.
use Rattle.std.specs.Prelude.{◌≡◌, ℕ, List, [], ◌∷◌, ◌++◌, Option, Some, None, drop, reverse}
use Rattle.cl_base.specs.declared.headers.Known.{Known}
use Rattle.cl_base.specs.declared.macros.Macro.{Macro}
use Rattle.cl_base.specs.declared.macros.MacroNo.{MacroNo}
use Rattle.cl_cond.specs.declared.mark.Mark.{Mark}
use Rattle.cl_headers.specs.declared.dep.Dep.{Dep}
use Rattle.cl_macro.specs.Rules.{TellsTokens}
use Rattle.cl_pp.specs.declared.aim.Aim.TheVariants as aim
use Rattle.cl_pp.specs.declared.aim.Target.{Target}
use Rattle.cl_pp.specs.declared.done.PpDone.{PpDone}
use Rattle.cl_pp.specs.declared.made.Opened.{Opened}
use Rattle.cl_pp.specs.declared.made.Place.{Place}
use Rattle.cl_pp.specs.declared.made.Source.{Source}
use Rattle.cl_pp.specs.declared.made.Wanted.{Wanted}
use Rattle.cl_pp.specs.declared.work.PpWork.{PpWork}
use Rattle.cl_pp.specs.Activity.{Passed}
use Rattle.cl_pp.specs.Lines.{told}
use Rattle.cl_pp.specs.Preprocessing.{Before, Does, Goes, State, World}
use Rattle.cl_pp.specs.Resuming.{IsRead, Waits}
use Rattle.cl_pp.specs.Standing.{wanted}
use Rattle.cl_pp.specs.code.Reaching.{IsOpened}
use Rattle.cl_pp.specs.code.Stacks.{Stand}

-- the lines of the file go by this
pub record IsAt (source : Source) (w : World) : Type 0 where
  pub file : source.number ≡ w.file
  pub depth : source.depth ≡ w.depth
  pub path : source.path ≡ w.path
  pub text : source.text ≡ w.text
  pub begins : told source.opened.value.lexed.faults ≡ w.begins
  pub tells : TellsTokens w.one_token

-- the header that a line names, if one does, is done
abbrev pub Names : World → Option Target → PpDone → PpDone → Type 0
Names w None old new = new ≡ old
Names w (Some target) old new = Does w (aim.Header target) old new

abbrev pub left : Opened → Place → List Mark
left opened place = drop place.next opened.marks

-- where no line names a header, none is left
abbrev pub IsLast : Opened → Place → Option Target → Type 0
IsLast opened place None = left opened place ≡ []
IsLast opened place (Some target) = Unit {0}

-- lines of a file are gone over, from one place to another, up to the first that names a header: whatever comes of that
-- header and of the others comes of all
pub record Passes (w : World) (opened : Opened) (past : List Passed) (from : Place) (old : PpDone) (to : Place) (new : PpDone) (target : Option Target) : Type 0 where
  pub passed : List Passed
  pub stands : Stand passed (reverse to.sections)
  pub last : IsLast opened to target
  pub goes : (mid : PpDone) (t : State) → Names w target new mid → Goes w opened.lexed.tokens (left opened to) (record { past = passed; done = mid }) t
      → Goes w opened.lexed.tokens (left opened from) (record { past = past; done = old }) t

-- a file is opened
pub record IsEntered (source : Source) (old new : PpWork) : Type 0 where
  pub opened : IsOpened source.number source.text old.made.done source.opened.value new.made.done
  pub frames : new.frames ≡ old.frames ++ record { source = source; place = record { next = 0; sections = [] } } ∷ []
  pub table : new.table ≡ old.table
  pub shelf : new.shelf ≡ old.shelf
  pub target : new.target ≡ old.target
  pub seen : new.made.seen ≡ old.made.seen

abbrev pub with_target : Option Target → PpWork → PpWork
with_target target work = record work { target = target }

-- the headers that were asked for, where work stops or not
abbrev pub deps_by : Option Wanted → PpWork → List Dep
deps_by None work = work.made.done.deps
deps_by (Some it) work = it.seen

module _ (macros : List ℕ → Option Macro) (numbers : List ℕ → Option MacroNo) (before : Before) (known : List ℕ → Known) (folders : List (List ℕ)) (path text : List ℕ) where
  -- a header is needed: the text comes to that, and the work waits
  pub record Stops (work : PpWork) (it : Wanted) : Type 0 where
    pub read : IsRead before known folders path text (record work.made.done { deps = it.seen })
    pub needs : wanted it.seen ≡ Some it.path
    pub waits : Waits macros numbers before folders path text work

  -- a header is followed, or is needed
  abbrev pub Followed : PpWork → Option Wanted → Type 0
  Followed work None = Waits macros numbers before folders path text work
  Followed work (Some it) = Stops work it

  -- the text's end is reached, or a header is needed
  abbrev pub RunsTo : PpWork → Option Wanted → Type 0
  RunsTo work None = IsRead before known folders path text work.made.done × (wanted work.made.done.deps ≡ None)
  RunsTo work (Some it) = Stops work it
