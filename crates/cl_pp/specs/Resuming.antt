-- Work on a text that stops at a header and goes on later. A caller needs nothing of how the work is kept: work that waits
-- for a text goes on to what the text comes to.
use Rattle.std.specs.Prelude.{◌≡◌, ℕ, List, [], ◌∷◌, Option, Some, None, drop, reverse}
use Rattle.std.specs.List.{AllByRecursion}
use Rattle.cl_base.specs.declared.headers.Known.{Known}
use Rattle.cl_base.specs.declared.macros.Macro.{Macro}
use Rattle.cl_base.specs.declared.macros.MacroNo.{MacroNo}
use Rattle.cl_base.specs.declared.token.Kind.{Kind}
use Rattle.cl_headers.specs.declared.dep.Dep.{Dep}
use Rattle.cl_headers.specs.Noting.{IsNoted}
use Rattle.cl_macro.specs.Rules.{TellsTokens}
use Rattle.cl_pp.specs.declared.aim.Aim.TheVariants as aim
use Rattle.cl_pp.specs.declared.aim.Target.{Target}
use Rattle.cl_pp.specs.declared.done.PpAnswer.{PpAnswer}
use Rattle.cl_pp.specs.declared.done.PpAnswer.TheVariants as answer
use Rattle.cl_pp.specs.declared.done.PpDone.{PpDone}
use Rattle.cl_pp.specs.declared.done.PpStep.{PpStep}
use Rattle.cl_pp.specs.declared.done.PpStep.TheVariants as step
use Rattle.cl_pp.specs.declared.done.PpNeed.{PpNeed}
use Rattle.cl_pp.specs.declared.made.Frame.{Frame}
use Rattle.cl_pp.specs.declared.made.Source.{Source}
use Rattle.cl_pp.specs.declared.work.PpWork.{PpWork}
use Rattle.cl_pp.specs.Activity.{Passed}
use Rattle.cl_pp.specs.Lines.{told}
use Rattle.cl_pp.specs.Preprocessing.{Before, Does, Goes, Reads, State, World, answer_of, before_lines, document}
use Rattle.cl_pp.specs.Standing.{first_unknown}
use Rattle.cl_pp.specs.code.Keeping.{Keeps, Sees}
use Rattle.cl_pp.specs.code.Reaching.{IsLaid}
use Rattle.cl_pp.specs.code.Shelving.{IsSound}
use Rattle.cl_pp.specs.code.Stacks.{Stand}

-- of each header that was asked for the same is known
abbrev pub Agree : (List ℕ → Known) → List Dep → Type 0
Agree known deps = AllByRecursion (λ (dep : Dep). known dep.path ≡ dep.known) deps

-- ---- files that are open, the innermost first

-- what the lines of an open file go by
abbrev pub world_of : World → Source → World
world_of w source = record w { file = source.number; depth = source.depth; path = source.path; text = source.text; begins = told source.opened.value.lexed.faults }

-- in each these lines were passed
abbrev pub AreOpen : List (List Passed) → List Frame → Type 0
AreOpen [] [] = Unit {0}
AreOpen [] (f ∷ fs) = ⊥
AreOpen (past ∷ pasts) [] = ⊥
AreOpen (past ∷ pasts) (f ∷ fs) = Stand past (reverse f.place.sections) × AreOpen pasts fs

-- the lines that are left of a file where so many were passed, and then those of the files around it, are gone over
abbrev pub Ends : World → List (List Passed) → List Frame → PpDone → PpDone → Type 0
Ends w pasts [] done final = final ≡ done
Ends w [] (f ∷ fs) done final = ⊥
Ends w (past ∷ pasts) (f ∷ fs) done final =
    (t : State) × Goes (world_of w f.source) f.source.opened.value.lexed.tokens (drop f.place.next f.source.opened.value.marks) (record { past = past; done = done }) t × Ends w pasts fs t.done final

-- the header that a line of the innermost file names, if one does, is looked for and gone over
abbrev pub Follows : World → List Frame → Option Target → PpDone → PpDone → Type 0
Follows w frames None old new = new ≡ old
Follows w [] (Some target) old new = new ≡ old
Follows w (f ∷ fs) (Some target) old new = Does (world_of w f.source) (aim.Header target) old new

-- whatever that comes to is what the whole file comes to
pub record Continues (w : World) (first now : PpDone) (frames : List Frame) (target : Option Target) : Type 0 where
  pub pasts : List (List Passed)
  pub are_open : AreOpen pasts frames
  pub goes : (mid final : PpDone) → Follows w frames target now mid → Ends w pasts frames mid final → Reads w first final

-- ---- work

-- what is kept fits together
pub record IsWork (work : PpWork) : Type 0 where
  pub sees : Sees work.made
  pub laid : AllByRecursion (λ (f : Frame). IsLaid f.source.text f.source.opened.value) work.frames
  pub sound : (known : List ℕ → Known) → Agree known work.made.done.deps → IsSound known work.shelf

-- the work is on this text, over a base with these macros and events: wherever the same is known of the headers that were
-- asked for, it goes on to what the text comes to
pub record Waits (macros : List ℕ → Option Macro) (numbers : List ℕ → Option MacroNo) (before : Before) (folders : List (List ℕ)) (path text : List ℕ) (work : PpWork) : Type 0 where
  pub keeps : Keeps macros numbers before.start work.table work.made.done
  pub going : first_unknown work.made.done.deps ≡ None
  pub on : (one_token : List ℕ → Option Kind) → TellsTokens one_token → (known : List ℕ → Known) → Agree known work.made.done.deps
      → Continues (document one_token before.start known folders path text) (before_lines before) work.made.done (reverse work.frames) work.target

-- the text comes to this
pub record IsRead (before : Before) (known : List ℕ → Known) (folders : List (List ℕ)) (path text : List ℕ) (done : PpDone) : Type 0 where
  pub one_token : List ℕ → Option Kind
  pub tells : TellsTokens one_token
  pub reads : Reads (document one_token before.start known folders path text) (before_lines before) done

-- the text comes to this answer, and after these headers its others were asked for, and no more
pub record Went (before : Before) (known : List ℕ → Known) (folders : List (List ℕ)) (path text : List ℕ) (deps : List Dep) (earlier later : List (List ℕ)) (done : PpDone) (answer : PpAnswer) : Type 0 where
  pub read : IsRead before known folders path text done
  pub is : answer ≡ answer_of done
  pub noted : IsNoted known deps done.deps earlier later

-- a header is needed, and the work waits for it
pub record WentTo (macros : List ℕ → Option Macro) (numbers : List ℕ → Option MacroNo) (before : Before) (known : List ℕ → Known) (folders : List (List ℕ)) (path text : List ℕ) (deps : List Dep) (earlier later : List (List ℕ)) (need : PpNeed) : Type 0 where
  pub done : PpDone
  pub went : Went before known folders path text deps earlier later done (answer.Need need.path)
  pub seen : need.seen ≡ done.deps
  pub waits : Waits macros numbers before folders path text need.work

-- what going on comes to
abbrev pub GoesOn : (List ℕ → Option Macro) → (List ℕ → Option MacroNo) → Before → (List ℕ → Known) → List (List ℕ) → List ℕ → List ℕ → List Dep → List (List ℕ) → List (List ℕ) → PpStep → Type 0
GoesOn macros numbers before known folders path text deps earlier later (step.Done done) = Went before known folders path text deps earlier later done (answer.Done done)
GoesOn macros numbers before known folders path text deps earlier later (step.Need need) = WentTo macros numbers before known folders path text deps earlier later need

-- the work that waits, if one does, fits together
abbrev pub IsWorkOf : PpStep → Type 0
IsWorkOf (step.Done done) = Unit {0}
IsWorkOf (step.Need need) = IsWork need.work
