-- The if-sections of a list of lines, and what is wrong with a line (N1570 6.10). A place is looked at from both sides:
-- the lines before it, the newest first, and the lines after it.
use Rattle.std.specs.Prelude.{◌≡◌, ℕ, zero, suc, ◌+◌, Bool, true, false, not, ◌&&◌, ◌||◌, if◌then◌else◌, List, [], ◌∷◌, ◌++◌, map, Option, Some, None}
use Rattle.cl_base.specs.declared.token.Token.{Token}
use Rattle.cl_base.specs.declared.token.Fault.{Fault}
use Rattle.cl_cond.specs.declared.mark.Condition.{Condition}
use Rattle.cl_cond.specs.declared.mark.Condition.TheVariants.{If, IfDef, IfNDef, Elif, Else}
use Rattle.cl_cond.specs.declared.mark.Part.{Part}
use Rattle.cl_cond.specs.declared.mark.Part.TheVariants.{Line, Branch, End}
use Rattle.cl_cond.specs.declared.mark.Mark.{Mark}
use Rattle.cl_cond.specs.declared.mark.Groups.{Groups}
use Rattle.cl_cond.specs.declared.trouble.Trouble.{Trouble}
use Rattle.cl_cond.specs.declared.trouble.Trouble.TheVariants.{Outside, AfterElse, Unended}
use Rattle.cl_cond.specs.Lines.{Lines, token_at}

-- whether the line begins a section
abbrev pub opens : Condition → Bool
opens If = true
opens IfDef = true
opens IfNDef = true
opens Elif = false
opens Else = false

abbrev pub is_else : Condition → Bool
is_else Else = true
is_else _ = false

-- whether a section is open after these lines, the newest first, and after `n` ends more: going back, an if-line is met
-- that none of the ends since belongs to
abbrev pub is_open : ℕ → List Part → Bool
is_open n [] = false
is_open n (Line ∷ before) = is_open n before
is_open n (End ∷ before) = is_open (suc n) before
is_open zero (Branch c ∷ before) = opens c || is_open zero before
is_open (suc n) (Branch c ∷ before) = is_open (if opens c then n else suc n) before

-- whether the innermost section that is open there has had its else: going back, one is met before that if-line
abbrev pub has_else : ℕ → List Part → Bool
has_else n [] = false
has_else n (Line ∷ before) = has_else n before
has_else n (End ∷ before) = has_else (suc n) before
has_else zero (Branch c ∷ before) = not (opens c) && (is_else c || has_else zero before)
has_else (suc n) (Branch c ∷ before) = has_else (if opens c then n else suc n) before

-- whether the section that is open before these lines, with `n` others inside it, has its end among them
abbrev pub has_end : ℕ → List Part → Bool
has_end n [] = false
has_end n (Line ∷ after) = has_end n after
has_end zero (End ∷ after) = true
has_end (suc n) (End ∷ after) = has_end n after
has_end n (Branch c ∷ after) = has_end (if opens c then suc n else n) after

-- what is wrong with a line between these lines
abbrev pub trouble : List Part → Part → List Part → Option Trouble
trouble before Line after = None
trouble before End after = if is_open 0 before then None else Some Outside
trouble before (Branch c) after =
    if opens c then (if has_end 0 after then None else Some Unended)
    else if not (is_open 0 before) then Some Outside
    else if has_else 0 before then Some AfterElse
    else None

abbrev pub number : Trouble → ℕ
number Outside = 12
number AfterElse = 13
number Unended = 14

-- a line with one of the first two is as if it weren't there
abbrev pub kept_line : Mark → Option Trouble → List Mark
kept_line line None = line ∷ []
kept_line line (Some Outside) = []
kept_line line (Some AfterElse) = []
kept_line line (Some Unended) = line ∷ []

abbrev pub parts : List Mark → List Part
parts lines = map (λ line. line.part) lines

abbrev pub trouble_of : List Part → Mark → List Mark → Option Trouble
trouble_of before line after = trouble before line.part (parts after)

-- the lines that are kept, behind these lines
abbrev pub kept : List Part → List Mark → List Mark
kept before [] = []
kept before (line ∷ after) = kept_line line (trouble_of before line after) ++ kept (line.part ∷ before) after

-- the fault of a line, at its second token, the directive's name
abbrev pub fault_at : List Token → Mark → Trouble → Fault
fault_at tokens line t = let name = token_at tokens (line.from + 1) in record { number = number t; from = name.from; to = name.to }

abbrev pub fault_list : List Token → Mark → Option Trouble → List Fault
fault_list tokens line None = []
fault_list tokens line (Some t) = fault_at tokens line t ∷ []

-- the faults of the lines, behind these lines
abbrev pub faults_of : List Token → List Part → List Mark → List Fault
faults_of tokens before [] = []
faults_of tokens before (line ∷ after) = fault_list tokens line (trouble_of before line after) ++ faults_of tokens (line.part ∷ before) after

-- the structure of a file of these tokens
pub record GroupsOf (tokens : List Token) (groups : Groups) : Type 0 where
  pub lines : List Mark
  pub cut : Lines tokens 0 lines
  pub marks : groups.marks ≡ kept [] lines
  pub faults : groups.faults ≡ faults_of tokens [] lines
