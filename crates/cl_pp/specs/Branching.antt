-- The branches of a section among the lines that were passed (N1570 6.10.1p6), by the grammar of groups (6.10).
use Rattle.std.specs.Prelude.{◌≡◌, Bool, true, false, not, ◌&&◌, List, [], ◌∷◌, map}
use Rattle.cl_cond.specs.declared.mark.Condition.{Condition}
use Rattle.cl_cond.specs.declared.mark.Part.{Part}
use Rattle.cl_cond.specs.declared.mark.Part.TheVariants.{Branch}
use Rattle.cl_cond.specs.Grouping.{Derives, Group}
use Rattle.cl_cond.specs.Sections.{opens}
use Rattle.cl_pp.specs.Activity.{Passed}

abbrev pub parts : List Passed → List Part
parts lines = map (λ (line : Passed). line.part) lines

-- the lines are a group: no section goes on past them
abbrev pub IsWhole : List Passed → Type 0
IsWhole lines = Derives Group (parts lines)

-- these lines behind those that were passed
abbrev pub behind : List Passed → List Passed → List Passed
behind past [] = past
behind past (line ∷ lines) = behind (line ∷ past) lines

-- a branch: what its line is, whether its condition is fulfilled, and the lines in it up to a place
pub record Arm : Type 0 where
  pub condition : Condition
  pub held : Bool
  pub inside : List Passed

abbrev pub line_of_arm : Arm → Passed
line_of_arm arm = record { part = Branch arm.condition; held = arm.held }

-- the branches of a section up to a place, the last one first: the first one begins the section
abbrev pub IsSection : List Arm → Type 0
IsSection [] = ⊥
IsSection (arm ∷ []) = (opens arm.condition ≡ true) × IsWhole arm.inside
IsSection (arm ∷ (next ∷ arms)) = (opens arm.condition ≡ false) × IsWhole arm.inside × IsSection (next ∷ arms)

-- their lines behind those that were passed
abbrev pub laid : List Passed → List Arm → List Passed
laid past [] = past
laid past (arm ∷ arms) = behind (line_of_arm arm ∷ laid past arms) arm.inside

abbrev pub none_held : List Arm → Bool
none_held [] = true
none_held (arm ∷ arms) = not arm.held && none_held arms
