-- How the code follows the sections: a list of those that are open, the innermost first. For each it says whether it has
-- had its else.
use Rattle.std.specs.Prelude.{ℕ, ◌+◌, ◌-◌, ◌<◌, length, nat_lt, Bool, true, false, if◌then◌else◌, List, [], ◌∷◌, Option, Some, None}
use Rattle.cl_base.specs.declared.token.Token.{Token}
use Rattle.cl_cond.specs.declared.mark.Mark.{Mark}
use Rattle.cl_cond.specs.declared.mark.Part.{Part}
use Rattle.cl_cond.specs.declared.mark.Part.TheVariants.{Line, Branch, End}
use Rattle.cl_cond.specs.declared.trouble.Trouble.{Trouble}
use Rattle.cl_cond.specs.declared.trouble.Trouble.TheVariants.{Outside, AfterElse, Unended}
use Rattle.cl_cond.specs.Sections.{opens, is_else, has_end}

abbrev pub rest : List Bool → List Bool
rest [] = []
rest (b ∷ bs) = bs

abbrev pub with_else : List Bool → List Bool
with_else [] = []
with_else (b ∷ bs) = true ∷ bs

-- the open sections after a line
abbrev pub after_line : Part → List Bool → List Bool
after_line Line levels = levels
after_line End levels = rest levels
after_line (Branch c) levels = if opens c then false ∷ levels else if is_else c then with_else levels else levels

-- the open sections after these lines, the newest first
abbrev pub sections : List Part → List Bool
sections [] = []
sections (p ∷ before) = after_line p (sections before)

-- for each if-line whether its section has its end
abbrev pub ends_of : List Part → List Bool
ends_of [] = []
ends_of (Line ∷ after) = ends_of after
ends_of (End ∷ after) = ends_of after
ends_of (Branch c ∷ after) = if opens c then has_end 0 after ∷ ends_of after else ends_of after

-- what is left of that list after a line
abbrev pub ends_after : Part → List Bool → List Bool
ends_after Line ends = ends
ends_after End ends = ends
ends_after (Branch c) ends = if opens c then rest ends else ends

abbrev pub of_section : List Bool → Option Trouble
of_section [] = Some Outside
of_section (true ∷ levels) = Some AfterElse
of_section (false ∷ levels) = None

abbrev pub of_end : List Bool → Option Trouble
of_end [] = Some Outside
of_end (b ∷ levels) = None

abbrev pub of_if : List Bool → Option Trouble
of_if (true ∷ ends) = None
of_if _ = Some Unended

-- what is wrong with a line, by the open sections and the list of ends
abbrev pub trouble_by : Part → List Bool → List Bool → Option Trouble
trouble_by Line levels ends = None
trouble_by End levels ends = of_end levels
trouble_by (Branch c) levels ends = if opens c then of_if ends else of_section levels

-- how many ends are to spare before a line: they belong to no if-line from there on
abbrev pub spare_before : Part → ℕ → ℕ
spare_before Line n = n
spare_before End n = n + 1
spare_before (Branch c) n = if opens c then n - 1 else n

abbrev pub noted : Part → ℕ → List Bool → List Bool
noted Line n ends = ends
noted End n ends = ends
noted (Branch c) n ends = if opens c then nat_lt 0 n ∷ ends else ends

-- a line in which something is wrong has a second token
abbrev pub HasName : List Token → Mark → Option Trouble → Type 0
HasName tokens line None = Unit {0}
HasName tokens line (Some t) = line.from + 1 < length tokens
