-- How the code enters files.
use Rattle.std.specs.Prelude.{◌≡◌, ◌<◌, ℕ, List, ◌++◌, Some, None, length, map}
use Rattle.std.specs.Ordering.{nat_cmp}
use Rattle.std.specs.BTreeMap.{get}
use Rattle.cl_base.specs.Lines.{IsTableOf}
use Rattle.cl_base.specs.declared.config.Settings.{Settings}
use Rattle.cl_base.specs.declared.headers.Known.{Known}
use Rattle.cl_base.specs.declared.headers.Known.TheVariants as state
use Rattle.cl_cond.specs.declared.mark.Groups.{Groups}
use Rattle.cl_cond.specs.Sections.{GroupsOf}
use Rattle.cl_headers.specs.Noting.{dep_of}
use Rattle.cl_headers.specs.declared.dep.Dep.{Dep}
use Rattle.cl_headers.specs.declared.resolving.Resolved.{Resolved}
use Rattle.cl_headers.specs.declared.resolving.Resolved.TheVariants as resolved
use Rattle.cl_lex.specs.Lexing.{Lexes}
use Rattle.cl_lex.specs.Order.{AreInOrder}
use Rattle.cl_macro.specs.Rules.{TellsTokens}
use Rattle.cl_pp.specs.declared.aim.Aim.TheVariants as aim
use Rattle.cl_pp.specs.declared.aim.Target.{Target}
use Rattle.cl_pp.specs.declared.done.PpDone.{PpDone}
use Rattle.cl_pp.specs.declared.made.Source.{Source}
use Rattle.cl_pp.specs.declared.made.Reached.{Reached}
use Rattle.cl_pp.specs.declared.made.Reached.TheVariants as reached
use Rattle.cl_pp.specs.declared.made.Opened.{Opened}
use Rattle.cl_pp.specs.Lines.{told}
use Rattle.cl_pp.specs.Places.{MarksLie}
use Rattle.cl_pp.specs.Preprocessing.{Arrival, Does, Enters, Finds, Stays, World, arrived, begin}
use Rattle.cl_pp.specs.Runs.{runs}
use Rattle.cl_pp.specs.Standing.{first_unknown, wanted}

-- the file is the one that this speaks of
pub record IsIn (source : Source) (config : Settings) (known : List ℕ → Known) (w : World) : Type 0 where
  pub file : source.number ≡ w.file
  pub depth : source.depth ≡ w.depth
  pub path : source.path ≡ w.path
  pub text : source.text ≡ w.text
  pub known_is : known ≡ w.known
  pub folders : config.includes ≡ w.folders
  pub tells : TellsTokens w.one_token

-- what is told of a text before its first line
pub record IsLaid (text : List ℕ) (opened : Opened) : Type 0 where
  pub groups : Groups
  pub lexes : Lexes text opened.lexed
  pub order : AreInOrder 0 (length text) opened.lexed.tokens
  pub grouped : GroupsOf opened.lexed.tokens groups
  pub faults : opened.faults ≡ groups.faults
  pub marks : opened.marks ≡ runs opened.lexed.tokens groups.marks
  pub lie : MarksLie 0 (length opened.lexed.tokens) opened.marks
  pub lines : IsTableOf opened.lines text
  pub begins : (at : ℕ) → get nat_cmp opened.told at ≡ told opened.lexed.faults at

-- the file before its first line
pub record IsOpened (file : ℕ) (text : List ℕ) (old : PpDone) (opened : Opened) (new : PpDone) : Type 0 where
  pub groups : Groups
  pub lexes : Lexes text opened.lexed
  pub order : AreInOrder 0 (length text) opened.lexed.tokens
  pub grouped : GroupsOf opened.lexed.tokens groups
  pub marks : opened.marks ≡ runs opened.lexed.tokens groups.marks
  pub lie : MarksLie 0 (length opened.lexed.tokens) opened.marks
  pub lines : IsTableOf opened.lines text
  pub begins : (at : ℕ) → get nat_cmp opened.told at ≡ told opened.lexed.faults at
  pub is : new ≡ (begin file opened.lexed.faults groups.faults old).done

-- it is settled by this record, if no header is needed
abbrev pub Settles : Arrival → PpDone → Reached → Type 0
Settles arrival new reached.Nothing = arrival ≡ Stays new
Settles arrival new (reached.Enters f) = arrival ≡ Enters f.number f.path f.text new
Settles arrival new (reached.Needs path deps) = ⊥

-- the search, which asked for these, comes to that
abbrev pub Arrives : Target → Resolved → List Dep → PpDone → PpDone → Reached → Type 0
Arrives target (resolved.Need path) asked old new it = (it ≡ reached.Needs path asked) × (new ≡ old)
Arrives target (resolved.File path text) asked old new it = Settles (arrived target (resolved.File path text) (record old { deps = old.deps ++ asked })) new it
Arrives target (resolved.Failed path) asked old new it = Settles (arrived target (resolved.Failed path) (record old { deps = old.deps ++ asked })) new it
Arrives target resolved.Missing asked old new it = Settles (arrived target resolved.Missing (record old { deps = old.deps ++ asked })) new it

pub record Looks (w : World) (target : Target) (old new : PpDone) (it : Reached) : Type 0 where
  pub asked : List (List ℕ)
  pub resolved : Resolved
  pub finds : Finds w target asked resolved
  pub arrives : Arrives target resolved (map (dep_of w.known) asked) old new it

-- the file, if it is entered, is not too deep, and is known to have its text
abbrev pub IsDeeper : ℕ → Reached → Type 0
IsDeeper depth reached.Nothing = Unit {0}
IsDeeper depth (reached.Enters f) = depth < 200
IsDeeper depth (reached.Needs path deps) = Unit {0}

abbrev pub IsKnown : (List ℕ → Known) → Reached → Type 0
IsKnown known reached.Nothing = Unit {0}
IsKnown known (reached.Enters f) = known f.path ≡ state.Found f.text
IsKnown known (reached.Needs path deps) = Unit {0}

-- the headers that were asked for, where so many are kept
abbrev pub deps_after : List Dep → Reached → List Dep
deps_after kept reached.Nothing = kept
deps_after kept (reached.Enters f) = kept
deps_after kept (reached.Needs path asked) = kept ++ asked

-- where something was known of all, something is, but of the one that is needed
abbrev pub TellsNeed : List Dep → List Dep → Reached → Type 0
TellsNeed old new reached.Nothing = first_unknown new ≡ None
TellsNeed old new (reached.Enters f) = first_unknown new ≡ None
TellsNeed old new (reached.Needs path asked) = wanted (old ++ asked) ≡ Some path

-- the header that a line names is done; or it is done once this file is gone over; or it stays, and would be done with
-- these headers asked for
abbrev pub Reaches : World → Target → PpDone → PpDone → Reached → Type 0
Reaches w target old new reached.Nothing = Does w (aim.Header target) old new
Reaches w target old new (reached.Enters f) = (w.depth < 200) × Looks w target old new (reached.Enters f)
Reaches w target old new (reached.Needs path asked) = (new ≡ old) × Does w (aim.Header target) old (record old { deps = old.deps ++ asked })
