-- Where lines lie.
use Rattle.std.proofs.Common.{ℕ, zero, suc, ◌<◌, ◌≤◌, List, [], ◌∷◌, ◌++◌, subst, sym, arith, length, get_or, Option, Some, None}
use Rattle.std.specs.Prelude.{Bool, true, false, if◌then◌else◌}
use Rattle.cl_base.specs.declared.token.Token.{Token}
use Rattle.cl_cond.specs.declared.mark.Mark.{Mark}
use Rattle.cl_cond.specs.declared.mark.Groups.{Groups}
use Rattle.cl_cond.specs.declared.mark.Part.{Part}
use Rattle.cl_cond.specs.declared.trouble.Trouble.{Trouble}
use Rattle.cl_cond.specs.declared.trouble.Trouble.TheVariants.{Outside, AfterElse, Unended}
use Rattle.cl_cond.specs.Lines.{Lines}
use Rattle.cl_cond.specs.Sections.{GroupsOf, kept, kept_line, trouble_of}
use Rattle.cl_pp.specs.Places.{MarksLie}
use Rattle.cl_pp.specs.Runs.{both_lines, goes_on, runs, runs_behind}

pub marks_reach : (at count : ℕ) (marks : List Mark) → MarksLie at count marks → at ≤ count
marks_reach at count [] h = h
marks_reach at count (mark ∷ marks) h = let r = marks_reach mark.to count marks h.2 in omega (arith, h.0, h.1, r)

marks_later : (a b count : ℕ) (marks : List Mark) → a ≤ b → MarksLie b count marks → MarksLie a count marks
marks_later a b count [] l h = omega arith
marks_later a b count (mark ∷ marks) l h = (omega (arith, h.0), h.1, h.2)

kept_lie : (at count : ℕ) (line : Mark) (trouble : Option Trouble) (rest : List Mark) → at ≤ line.from → line.from ≤ line.to → MarksLie line.to count rest → MarksLie at count (kept_line line trouble ++ rest)
kept_lie at count line None rest a b h = (a, b, h)
kept_lie at count line (Some Outside) rest a b h = marks_later at line.to count rest (omega arith) h
kept_lie at count line (Some AfterElse) rest a b h = marks_later at line.to count rest (omega arith) h
kept_lie at count line (Some Unended) rest a b h = (a, b, h)

lines_lie : (tokens : List Token) (at : ℕ) (before : List Part) (lines : List Mark) → Lines tokens at lines → MarksLie at (length tokens) (kept before lines)
lines_lie tokens at before [] h = omega arith
lines_lie tokens at before (line ∷ after) h =
    let e = h.1.from in
    let s = h.1.ends.some in
    kept_lie at (length tokens) line (trouble_of before line after) (kept (line.part ∷ before) after) (omega arith) (omega arith) (lines_lie tokens line.to (line.part ∷ before) after h.2)

pub marks_lie : (tokens : List Token) (groups : Groups) → GroupsOf tokens groups → MarksLie 0 (length tokens) groups.marks
marks_lie tokens groups h = subst (MarksLie 0 (length tokens)) (sym h.marks) (lines_lie tokens 0 [] h.lines h.cut)

-- the line at a number is one of the lines
pub line_lies : (at count : ℕ) (marks : List Mark) (i : ℕ) (d : Mark) → MarksLie at count marks → i < length marks → ((get_or marks i d).from ≤ (get_or marks i d).to) × ((get_or marks i d).to ≤ count)
line_lies at count [] i d h l = absurd (omega arith)
line_lies at count (mark ∷ marks) zero d h l = (h.1, marks_reach mark.to count marks h.2)
line_lies at count (mark ∷ marks) (suc i) d h l = line_lies mark.to count marks i d h.2 (omega arith)

-- ---- runs

one_run : (tokens : List Token) (b : Bool) (at count : ℕ) (run mark : Mark) (marks : List Mark) → at ≤ run.from → run.from ≤ run.to → MarksLie run.to count (mark ∷ marks)
    → ((at : ℕ) (run : Mark) → at ≤ run.from → run.from ≤ run.to → MarksLie run.to count marks → MarksLie at count (runs_behind tokens run marks))
    → MarksLie at count (if b then runs_behind tokens (both_lines run mark) marks else run ∷ runs_behind tokens mark marks)
one_run tokens true at count run mark marks a f h k = k at (both_lines run mark) a (omega (arith, h.0, h.1)) h.2
one_run tokens false at count run mark marks a f h k = (a, f, k run.to mark h.0 h.1 h.2)

behind_lie : (tokens : List Token) (count at : ℕ) (run : Mark) (marks : List Mark) → at ≤ run.from → run.from ≤ run.to → MarksLie run.to count marks → MarksLie at count (runs_behind tokens run marks)
behind_lie tokens count at run [] a f h = (a, f, h)
behind_lie tokens count at run (mark ∷ marks) a f h = one_run tokens (goes_on tokens run mark) at count run mark marks a f h (λ at run a f h. behind_lie tokens count at run marks a f h)

pub runs_lie : (tokens : List Token) (marks : List Mark) (count : ℕ) → MarksLie 0 count marks → MarksLie 0 count (runs tokens marks)
runs_lie tokens [] count h = h
runs_lie tokens (mark ∷ marks) count h = behind_lie tokens count 0 mark marks h.0 h.1 h.2
