-- A file before its first line.
use Rattle.std.proofs.Common.{◌≡◌, ℕ, List, Option, refl, sym, ap, subst, ◌∙◌, length}
use Rattle.cl_base.specs.declared.token.Fault.{Fault}
use Rattle.cl_base.specs.declared.token.Token.{Token}
use Rattle.cl_cond.specs.declared.mark.Groups.{Groups}
use Rattle.cl_cond.specs.declared.mark.Mark.{Mark}
use Rattle.cl_cond.specs.Sections.{GroupsOf}
use Rattle.cl_pp.specs.Lines.{told}
use Rattle.cl_pp.specs.Places.{MarksLie}
use Rattle.cl_pp.specs.Runs.{runs}
use Rattle.cl_pp.proofs.Lying.{marks_lie, runs_lie}

pub lie_found : (lexed tokens first : List Token) (groups : Groups) (marks : List Mark) → first ≡ lexed → tokens ≡ lexed → marks ≡ groups.marks → GroupsOf first groups
    → MarksLie 0 (length tokens) marks
lie_found lexed tokens first groups marks f t m h =
    subst (MarksLie 0 (length tokens)) (sym m) (marks_lie tokens groups (subst (λ (ts : List Token). GroupsOf ts groups) (f ∙ sym t) h))

-- the runs lie so too
pub runs_found : (lexed cut : List Token) (groups : Groups) (marks all : List Mark) → cut ≡ lexed → marks ≡ groups.marks → all ≡ runs cut marks → GroupsOf lexed groups → MarksLie 0 (length lexed) all
runs_found lexed cut groups marks all c m a h =
    subst (λ (ms : List Mark). MarksLie 0 (length lexed) ms) (sym a)
    (subst (λ (ts : List Token). MarksLie 0 (length ts) (runs cut marks)) c (runs_lie cut marks (length cut) (lie_found lexed cut lexed groups marks refl c m h)))

pub told_is : (fs faults : List Fault) → fs ≡ faults → (begins : ℕ → Option Fault) → ((at : ℕ) → begins at ≡ told fs at) → (at : ℕ) → begins at ≡ told faults at
told_is fs faults e begins h at = h at ∙ ap (λ (xs : List Fault). told xs at) e
