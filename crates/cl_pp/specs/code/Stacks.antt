-- How the code follows the sections that are open: their answers, the innermost first.
use Rattle.std.specs.Prelude.{◌≡◌, ℕ, Bool, true, false, not, ◌&&◌, List, [], ◌∷◌, slice_index_or}
use Rattle.cl_cond.specs.declared.mark.Part.{Part}
use Rattle.cl_cond.specs.declared.mark.Part.TheVariants.{Line, Branch, End}
use Rattle.cl_cond.specs.Sections.{opens}
use Rattle.cl_pp.specs.Activity.{Passed, Question, Active, Free, Outer, says}
use Rattle.cl_pp.specs.declared.section.Section.{Section}

abbrev pub tell : Section → Question → Bool
tell s Active = s.active
tell s Free = s.free
tell s Outer = s.outer

abbrev pub all_active : Section
all_active = record { active = true; free = true; outer = true }

abbrev pub top_of : List Section → Section
top_of [] = all_active
top_of (s ∷ stack) = s

-- no branch begins or ends at the line, and it isn't active
abbrev pub is_skipped : Part → Section → Bool
is_skipped Line s = not s.active
is_skipped End s = false
is_skipped (Branch c) s = false

abbrev pub below : List Section → List Section
below [] = []
below (s ∷ stack) = stack

-- a branch whose condition is so, where it may be taken or not
abbrev pub branched : Bool → Bool → Bool → Section
branched held may outer = record { active = held && may; free = not held && may; outer = outer }

abbrev pub under : Bool → Bool → List Section → List Section
under true held stack = branched held (top_of stack).active (top_of stack).active ∷ stack
under false held stack = branched held (top_of stack).free (top_of stack).outer ∷ below stack

-- after a line
abbrev pub stacked : Part → Bool → List Section → List Section
stacked Line held stack = stack
stacked End held stack = below stack
stacked (Branch c) held stack = under (opens c) held stack

abbrev pub nth : List Section → ℕ → Section
nth stack n = slice_index_or stack n all_active

-- the answers are those of the sections
abbrev pub Tells : (Question → ℕ → Bool) → List Section → Type 0
Tells f stack = (q : Question) (n : ℕ) → f q n ≡ tell (nth stack n) q

abbrev pub Stand : List Passed → List Section → Type 0
Stand past stack = Tells (λ q n. says q n past) stack
