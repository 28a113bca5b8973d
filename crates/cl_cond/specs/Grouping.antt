-- The grammar of conditional inclusion (N1570 6.10) over what the lines are.
use Rattle.std.specs.Prelude.{◌≡◌, ℕ, zero, suc, ◌==◌, true, List, [], ◌∷◌, ◌++◌, count_by}
use Rattle.cl_base.specs.declared.token.Fault.{Fault}
use Rattle.cl_cond.specs.declared.mark.Groups.{Groups}
use Rattle.cl_cond.specs.declared.mark.Condition.{Condition}
use Rattle.cl_cond.specs.declared.mark.Condition.TheVariants.{Elif, Else}
use Rattle.cl_cond.specs.declared.mark.Part.{Part}
use Rattle.cl_cond.specs.declared.mark.Part.TheVariants.{Line, Branch, End}
use Rattle.cl_cond.specs.Sections.{opens, parts}

-- a group, optional; what follows the group of an if-group or of an elif-group; and an endif-line
pub data Symbol : Type 0 where
  Group : Symbol
  Following : Symbol
  EndifLine : Symbol

pub data Derives : Symbol → List Part → Type 0 where
  -- group: any parts, a text line or another directive, or an if-section
  none : Derives Group []
  line : {more : List Part} → Derives Group more → Derives Group (Line ∷ more)
  section : (c : Condition) (body following more : List Part) → opens c ≡ true → Derives Group body → Derives Following following → Derives Group more
      → Derives Group (Branch c ∷ (body ++ (following ++ more)))
  -- elif-groups, else-group and endif-line
  elif_group : (body following : List Part) → Derives Group body → Derives Following following → Derives Following (Branch Elif ∷ (body ++ following))
  else_group : (body ending : List Part) → Derives Group body → Derives EndifLine ending → Derives Following (Branch Else ∷ (body ++ ending))
  no_else : {ending : List Part} → Derives EndifLine ending → Derives Following ending
  endif_line : Derives EndifLine (End ∷ [])

abbrev pub ends : ℕ → List Part
ends zero = []
ends (suc n) = End ∷ ends n

-- how many sections have no end
abbrev pub missing : List Fault → ℕ
missing faults = count_by (λ fault. fault.number == 14) faults

-- the marks are a group, once an end is added for each fault 14
abbrev pub IsGroup : Groups → Type 0
IsGroup groups = Derives Group (parts groups.marks ++ ends (missing groups.faults))
