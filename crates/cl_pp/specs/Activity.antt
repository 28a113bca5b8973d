-- Which lines are active (N1570 6.10.1p6). A place is looked at from the lines that were passed before it, the newest
-- first.
use Rattle.std.specs.Prelude.{ℕ, zero, suc, Bool, true, not, ◌&&◌, if◌then◌else◌, List, [], ◌∷◌}
use Rattle.cl_cond.specs.declared.mark.Part.{Part}
use Rattle.cl_cond.specs.declared.mark.Part.TheVariants.{Line, Branch, End}
use Rattle.cl_cond.specs.Sections.{opens}

-- a line that was passed, and whether it begins a branch whose condition was fulfilled
pub record Passed : Type 0 where
  pub part : Part
  pub held : Bool

-- what may be asked of a place: whether its lines are active, so that the branch around it is taken, and each around that
-- one; whether the next branch of its section may be taken, so that none is so far, and the section is in active lines;
-- and whether its section is in active lines
pub data Question : Type 0 where
  Active : Question
  Free : Question
  Outer : Question

-- what a branch's line answers for what follows it: a branch is active where it may be taken and its condition holds,
-- and the next one is free where it might have been taken and doesn't hold
abbrev pub at_branch : Question → Bool → Bool → Bool → Bool
at_branch Active held may outer = held && may
at_branch Free held may outer = not held && may
at_branch Outer held may outer = outer

-- a line's answer, by those of the lines before it. An end that is met going back closes one section more, and the
-- line that opens that section is passed
abbrev pub by_part : Question → ℕ → Part → Bool → (Question → ℕ → Bool) → Bool
by_part q n Line held before = before q n
by_part q n End held before = before q (suc n)
by_part q (suc n) (Branch c) held before = before q (if opens c then n else suc n)
by_part q zero (Branch c) held before = at_branch q held (before (if opens c then Active else Free) 0) (before (if opens c then Active else Outer) 0)

-- the answer behind these lines, for the section that is open around `n` others; outside all sections it is yes
abbrev pub says : Question → ℕ → List Passed → Bool
says q n [] = true
says q n (line ∷ past) = by_part q n line.part line.held (λ (r : Question) (m : ℕ). says r m past)
