-- How the code works a condition from token to token. Of what waits the innermost stands first.
use Rattle.std.specs.Prelude.{ℕ, ◌<◌, nat_le, Bool, true, false, if◌then◌else◌, List, [], ◌∷◌, reverse, Option, Some, None}
use Rattle.cl_cond.specs.declared.machine.Frame.{Frame}
use Rattle.cl_cond.specs.declared.machine.Frame.TheVariants as frame
use Rattle.cl_cond.specs.declared.machine.Machine.{Machine}
use Rattle.cl_const.specs.declared.operators.Operator.{Operator}
use Rattle.cl_cond.specs.declared.outcome.Outcome.{Outcome}
use Rattle.cl_cond.specs.declared.word.Class.{Class}
use Rattle.cl_cond.specs.declared.word.Class.TheVariants as class
use Rattle.cl_cond.specs.declared.word.Word.{Word}
use Rattle.cl_const.specs.Operators.{infix_level, is_prefix}
use Rattle.cl_cond.specs.code.Outcomes.{constant_outcome, prefix_outcome, infix_outcome, choice_outcome}

abbrev pub rank : Frame → ℕ
rank frame.Open = 0
rank (frame.Prefix o place) = 12
rank (frame.Infix o place left) = infix_level o
rank (frame.Question condition) = 0
rank (frame.Colon condition first) = 1

abbrev pub closed : Frame → Outcome → Outcome
closed frame.Open x = x
closed (frame.Prefix o place) x = prefix_outcome o place x
closed (frame.Infix o place left) x = infix_outcome o place left x
closed (frame.Question condition) x = x
closed (frame.Colon condition first) x = choice_outcome condition first x

-- the innermost frame binds less tight
abbrev pub IsLoose : ℕ → List Frame → Type 0
IsLoose least [] = Unit {0}
IsLoose least (f ∷ stack) = rank f < least

abbrev pub is_tight : ℕ → List Frame → Bool
is_tight least [] = false
is_tight least (f ∷ stack) = nat_le least (rank f)

-- what is left to wait, and the operand with the frames that bind at least so tight
unfoldable pub reduce : ℕ → List Frame → Outcome → List Frame × Outcome
reduce least [] x = ([], x)
reduce least (f ∷ stack) x = if nat_le least (rank f) then reduce least stack (closed f x) else (f ∷ stack, x)

pub record State : Type 0 where
  pub stack : List Frame
  pub focus : Option Outcome

abbrev pub waiting : List Frame → Option State
waiting stack = Some (record { stack = stack; focus = None })

abbrev pub standing : List Frame → Outcome → Option State
standing stack x = Some (record { stack = stack; focus = Some x })

-- a token where an operand is to begin
abbrev pub begun : List Frame → ℕ → Class → Option State
begun stack place (class.Operand constant) = standing stack (constant_outcome place constant)
begun stack place (class.Operator o) = if is_prefix o then waiting (frame.Prefix o place ∷ stack) else None
begun stack place class.Open = waiting (frame.Open ∷ stack)
begun stack place _ = None

abbrev pub passed_operator : Operator → ℕ → List Frame × Outcome → Option State
passed_operator o place r = if nat_le 2 (infix_level o) then waiting (frame.Infix o place r.1 ∷ r.0) else None

abbrev pub passed_question : List Frame × Outcome → Option State
passed_question r = waiting (frame.Question r.1 ∷ r.0)

abbrev pub colon_after : List Frame → Outcome → Option State
colon_after (frame.Question condition ∷ stack) x = waiting (frame.Colon condition x ∷ stack)
colon_after _ x = None

abbrev pub close_after : List Frame → Outcome → Option State
close_after (frame.Open ∷ stack) x = standing stack x
close_after _ x = None

-- a token behind an operand
abbrev pub gone_on : List Frame → Outcome → ℕ → Class → Option State
gone_on stack x place (class.Operator o) = passed_operator o place (reduce (infix_level o) stack x)
gone_on stack x place class.Question = passed_question (reduce 2 stack x)
gone_on stack x place class.Colon = let r = reduce 1 stack x in colon_after r.0 r.1
gone_on stack x place class.Close = let r = reduce 1 stack x in close_after r.0 r.1
gone_on stack x place _ = None

abbrev pub step_by : List Frame → Option Outcome → Word → Option State
step_by stack None w = begun stack w.place w.class
step_by stack (Some x) w = gone_on stack x w.place w.class

abbrev pub step : State → Word → Option State
step s w = step_by s.stack s.focus w

abbrev pub left_alone : List Frame → Outcome → Option Outcome
left_alone [] x = Some x
left_alone (f ∷ stack) x = None

abbrev pub finished_by : List Frame → Option Outcome → Option Outcome
finished_by stack None = None
finished_by stack (Some x) = let r = reduce 1 stack x in left_alone r.0 r.1

abbrev pub finished : State → Option Outcome
finished s = finished_by s.stack s.focus

abbrev pub state_of : Machine → State
state_of m = record { stack = reverse m.stack; focus = m.focus }

-- the next state, if the token may stand there
abbrev pub said : Bool → State → Option State
said true s = Some s
said false s = None
