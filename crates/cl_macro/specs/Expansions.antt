-- What a run of tokens comes to.
use Rattle.std.specs.Prelude.{◌≡◌, ℕ, true, List, [], ◌∷◌, ◌++◌, map, Option, Some, None}
use Rattle.cl_base.specs.declared.macros.MacroNo.{MacroNo}
use Rattle.cl_base.specs.declared.token.Diag.{Diag}
use Rattle.cl_base.specs.declared.token.PpToken.{PpToken}
use Rattle.cl_base.specs.declared.token.Span.{Span}
use Rattle.cl_macro.specs.declared.expanded.Expanded.{Expanded}
use Rattle.cl_macro.specs.declared.expanded.MacroUse.{MacroUse}
use Rattle.cl_macro.specs.declared.word.Word.{Word}
use Rattle.cl_macro.specs.declared.note.Told.{Told}
use Rattle.cl_macro.specs.declared.note.Told.TheVariants as told
use Rattle.cl_macro.specs.Rules.{Rules}
use Rattle.cl_macro.specs.Words.{fresh, is_ident}
use Rattle.cl_macro.specs.Replacing.{Expands}

abbrev pub token_of : Word → PpToken
token_of w = w.token

abbrev pub fault_by : Told → List Diag
fault_by (told.Looked name) = []
fault_by (told.Used name spell before) = []
fault_by (told.Faulty number at) = record { number = number; at = at; name = None } ∷ []

abbrev pub look_by : Told → List (List ℕ)
look_by (told.Looked name) = name ∷ []
look_by (told.Used name spell before) = []
look_by (told.Faulty number at) = []

abbrev pub numbered : Span → ℕ → Option MacroNo → List MacroUse
numbered spell before None = []
numbered spell before (Some n) = record { at = spell; no = n; before = before } ∷ []

-- only a macro that has an event has uses
abbrev pub use_by : (List ℕ → Option MacroNo) → Told → List MacroUse
use_by events (told.Looked name) = []
use_by events (told.Used name spell before) = numbered spell before (events name)
use_by events (told.Faulty number at) = []

-- what is told, by what it is, each in the order of the work
abbrev pub faults_of : List Told → List Diag
faults_of [] = []
faults_of (t ∷ ts) = fault_by t ++ faults_of ts

abbrev pub looks_of : List Told → List (List ℕ)
looks_of [] = []
looks_of (t ∷ ts) = look_by t ++ looks_of ts

abbrev pub uses_of : (List ℕ → Option MacroNo) → List Told → List MacroUse
uses_of events [] = []
uses_of events (t ∷ ts) = use_by events t ++ uses_of events ts

-- this is what the run comes to, where names' last events have these numbers
pub record IsExpansion (rules_at : Span → Rules) (events : List ℕ → Option MacroNo) (run : List PpToken) (all : Expanded) : Type 0 where
  pub words : List Word
  pub told : List Told
  pub expands : Expands rules_at 0 (map fresh run) words told
  pub tokens : all.tokens ≡ map token_of words
  pub faults : all.faults ≡ faults_of told
  pub looked : all.looked ≡ looks_of told
  pub uses : all.uses ≡ uses_of events told

-- no macro's name
abbrev pub IsPlain : (Span → Rules) → PpToken → Type 0
IsPlain rules_at t = is_ident t.kind ≡ true → (rules_at t.at).macros t.text ≡ None
