-- What stands after some lines of a file, and what lines add to it (N1570 6.10.3, 6.10.3.5). The lists have the oldest
-- first.
use Rattle.std.specs.Prelude.{ℕ, suc, ◌+◌, ◌-◌, ◌==◌, Bool, true, false, if◌then◌else◌, List, [], ◌∷◌, ◌++◌, Option, Some, None, length, slice_get, map, nat_eq}
use Rattle.std.specs.Cmp.Lexicographic.{pointwise}
use Rattle.std.specs.List.{list_any}
use Rattle.cl_base.specs.declared.macros.Macro.{Macro}
use Rattle.cl_base.specs.declared.macros.MacroEvent.{MacroEvent}
use Rattle.cl_base.specs.declared.macros.MacroNo.{MacroNo}
use Rattle.cl_base.specs.declared.token.Diag.{Diag}
use Rattle.cl_base.specs.declared.headers.Known.{Known}
use Rattle.cl_base.specs.declared.headers.Known.TheVariants.{Found, Absent, Failed, Unknown}
use Rattle.cl_headers.specs.declared.dep.Dep.{Dep}
use Rattle.cl_headers.specs.Noting.{dep_of}
use Rattle.cl_pp.specs.declared.done.PpDone.{PpDone}
use Rattle.cl_base.specs.declared.token.PpToken.{PpToken}
use Rattle.cl_macro.specs.declared.expanded.Expanded.{Expanded}
use Rattle.cl_macro.specs.declared.expanded.MacroUse.{MacroUse}
use Rattle.cl_macro.specs.Table.{is_name}
use Rattle.cl_pp.specs.Names.{with_names}

-- what is there before a text: the macro of each name and the number of its last event, if it has one, and how many events
-- there were
pub record Start : Type 0 where
  pub macros : List ℕ → Option Macro
  pub numbers : List ℕ → Option MacroNo
  pub events : ℕ

-- ---- what a name means

-- the last of these events of the name decides; where it has none, it means what it meant before
abbrev pub meant : List MacroEvent → List ℕ → Option Macro → Option Macro
meant [] name before = before
meant (event ∷ events) name before = meant events name (if is_name event.name name then event.set else before)

-- the macro of a name, by what the names mean before the text
abbrev pub macro_at : Start → PpDone → List ℕ → Option Macro
macro_at start done name = meant done.events name (start.macros name)

-- the number of the last of these events of the name, where the first has this number
abbrev pub numbered : ℕ → List MacroEvent → List ℕ → Option MacroNo → Option MacroNo
numbered n [] name before = before
numbered n (event ∷ events) name before = numbered (n + 1) events name (if is_name event.name name then Some (record { 0 = n }) else before)

-- the number of the event that gave the name its macro; none where it has it from before all events
abbrev pub number_at : Start → PpDone → List ℕ → Option MacroNo
number_at start done name = numbered start.events done.events name (start.numbers name)

-- ---- files

-- the number of a path's file: its place among the files, from 1; the next one, where it isn't among them
abbrev pub number_in : List (List ℕ) → List ℕ → ℕ
number_in [] path = 1
number_in (file ∷ files) path = if pointwise nat_eq file path then 1 else suc (number_in files path)

-- whether the path is among the files
abbrev pub is_file : List (List ℕ) → List ℕ → Bool
is_file files path = list_any (λ file. pointwise nat_eq file path) files

abbrev pub with_path : List (List ℕ) → List ℕ → List (List ℕ)
with_path files path = if is_file files path then files else files ++ path ∷ []

-- one of these numbers
abbrev pub is_among : List ℕ → ℕ → Bool
is_among numbers n = list_any (λ m. m == n) numbers

-- the file of this path is entered once only, and was entered
abbrev pub is_once : PpDone → List ℕ → Bool
is_once done path = is_among done.once (number_in done.files path)

-- ---- what was asked

abbrev pub is_unknown : Known → Bool
is_unknown Unknown = true
is_unknown Absent = false
is_unknown Failed = false
is_unknown (Found text) = false

abbrev pub last_of : List Dep → Option Dep
last_of deps = slice_get deps (length deps - 1)

-- the path of a header, if nothing is known of it
abbrev pub wanted_by : Option Dep → Option (List ℕ)
wanted_by None = None
wanted_by (Some dep) = if is_unknown dep.known then Some dep.path else None

abbrev pub stopped_by : Option Dep → Bool
stopped_by None = false
stopped_by (Some dep) = is_unknown dep.known

-- the path that was asked last, if nothing is known of it
abbrev pub wanted : List Dep → Option (List ℕ)
wanted deps = wanted_by (last_of deps)

-- nothing more is done once a path was asked of which nothing is known
abbrev pub is_stopped : PpDone → Bool
is_stopped done = stopped_by (last_of done.deps)

-- the first path that was asked and of which nothing is known
abbrev pub first_unknown : List Dep → Option (List ℕ)
first_unknown [] = None
first_unknown (dep ∷ deps) = if is_unknown dep.known then Some dep.path else first_unknown deps

-- ---- what is added

abbrev pub with_tokens : List PpToken → PpDone → PpDone
with_tokens tokens done = record done { tokens = done.tokens ++ tokens }

abbrev pub with_faults : List Diag → PpDone → PpDone
with_faults faults done = record done { faults = done.faults ++ faults }

abbrev pub with_looked : List (List ℕ) → PpDone → PpDone
with_looked names done = record done { looked = with_names done.looked names }

-- these paths were asked, in order
abbrev pub with_asked_paths : (List ℕ → Known) → List (List ℕ) → PpDone → PpDone
with_asked_paths known paths done = record done { deps = done.deps ++ map (dep_of known) paths }

-- the file of this path is entered. It is numbered when that happens first
abbrev pub with_file : List ℕ → PpDone → PpDone
with_file path done = record done { files = with_path done.files path }

-- the file of this number is entered once only
abbrev pub with_once : ℕ → PpDone → PpDone
with_once n done = record done { once = if is_among done.once n then done.once else done.once ++ n ∷ [] }

-- an event: from here on the name has this macro, or none
abbrev pub with_set : List ℕ → Option Macro → PpDone → PpDone
with_set name set done = record done { events = done.events ++ record { name = name; set = set } ∷ [] }

-- the name is looked at, and has this macro from here on, or none
abbrev pub with_event : List ℕ → Option Macro → PpDone → PpDone
with_event name set done = with_set name set (with_looked (name ∷ []) done)

-- a use that has so many tokens of the unit before its outermost invocation
abbrev pub use_at : (ℕ → ℕ) → MacroUse → MacroUse
use_at before u = record { at = u.at; no = u.no; before = before u.before }

-- what replacement tells beside its tokens
abbrev pub with_replaced : (ℕ → ℕ) → Expanded → PpDone → PpDone
with_replaced before all done = record done {
  uses = done.uses ++ map (use_at before) all.uses;
  looked = with_names done.looked all.looked;
  faults = done.faults ++ all.faults;
}

-- a run of text lines comes to this
abbrev pub with_run : Expanded → PpDone → PpDone
with_run all done = with_tokens all.tokens (with_replaced (λ (n : ℕ). length done.tokens + n) all done)

-- the tokens of a directive are none of the unit's
abbrev pub with_asked : Expanded → PpDone → PpDone
with_asked all done = with_replaced (λ (n : ℕ). length done.tokens) all done
