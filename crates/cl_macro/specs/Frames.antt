-- The invocations in work as the code keeps them.
use Rattle.std.specs.Prelude.{◌≡◌, ℕ, ◌-◌, ◌+◌, ◌≤◌, ◌++◌, List, [], ◌∷◌, reverse, length, drop, take, map, Option, Some, None}
use Rattle.std.specs.List.{sum_by}
use Rattle.cl_base.specs.declared.macros.Macro.{Macro}
use Rattle.cl_base.specs.Lent.{lent_value}
use Rattle.cl_macro.specs.Rules.{Rules}
use Rattle.cl_macro.specs.Turns.{Invokes, turn}
use Rattle.cl_macro.specs.declared.word.Word.{Word}
use Rattle.cl_macro.specs.declared.note.Note.{Note}
use Rattle.cl_macro.specs.declared.level.Level.{Level}
use Rattle.cl_macro.specs.declared.pending.Pending.{Pending}
use Rattle.cl_macro.specs.declared.walk.Invoked.{Invoked}
use Rattle.cl_macro.specs.Turns.{args_of, set_of}
use Rattle.cl_macro.specs.Made.{made}
use Rattle.cl_macro.specs.Params.{asked, raws}
use Rattle.cl_macro.specs.Replacing.{replacements}
use Rattle.cl_macro.specs.Levels.{ahead, Takes, rest_of}
use Rattle.cl_macro.specs.Walks.{Frame, Leads, working, between}

abbrev pub begun : Word → List Word → List Word → Macro → List Word → List Word → Frame
begun w work rest m behind before = record {
  mac = m;
  space = w.token.space;
  set = set_of w behind;
  args = raws m (args_of m behind);
  done = [];
  waiting = asked m (args_of m behind);
  work = drop (length behind) work;
  rest = drop (length behind - length work) rest;
  out = before;
}

abbrev pub begun_at : Invoked → Level → Frame
begun_at found level = begun found.word (reverse level.work) (rest_of level) (lent_value found.mac) (take found.count (ahead level)) level.out

abbrev pub frame_of : Pending → Frame
frame_of p = record {
  mac = lent_value p.mac;
  space = p.space;
  set = p.set;
  args = p.args;
  done = p.done;
  waiting = reverse p.waiting;
  work = reverse p.level.work;
  rest = rest_of p.level;
  out = p.level.out;
}

-- the innermost first
abbrev pub frames : List Pending → List Frame
frames calls = map frame_of (reverse calls)

-- how many arguments are left, and invocations
abbrev pub waits : List Pending → ℕ
waits calls = sum_by (λ p. length p.waiting + 1) calls

-- only the outermost invocation stands in the run
abbrev pub Closed : List Frame → List Word → Type 0
Closed [] rest = Unit {0}
Closed (f ∷ fs) rest = (rest ≡ []) × Closed fs f.rest

-- no more than so many tokens follow any of them
abbrev pub Short : ℕ → List Frame → Type 0
Short n [] = Unit {0}
Short n (f ∷ fs) = (length f.rest ≤ n) × Short n fs

module _ (rules : Rules) where
  abbrev pub at_level : List Frame → Level → List Word → List Word → List Note → Type 0
  at_level fs level = working rules fs (reverse level.work) (rest_of level) level.out

  -- the arguments or the replacement of an invocation begin
  pub record Proceeds (fs : List Frame) (f : Frame) (before : List Note) (next : List Frame) (level : Level) (notes : List Note) : Type 0 where
    pub more : List Note
    pub all : notes ≡ before ++ more
    pub none : replacements more ≡ 0
    pub leads : Leads (between rules fs f) (at_level next level) more
    pub closed : Closed fs f.rest → Closed next (rest_of level)

  -- it has gone on to another moment
  pub record Runs (fs : List Frame) (first : Level) (before : List Note) (next : List Frame) (level : Level) (notes : List Note) : Type 0 where
    pub more : List Note
    pub all : notes ≡ before ++ more
    pub none : replacements more ≡ 0
    pub leads : Leads (at_level fs first) (at_level next level) more
    pub closed : Closed fs (rest_of first) → Closed next (rest_of level)

  -- it has gone on to the next invocation
  pub record Finds (fs : List Frame) (first : Level) (before : List Note) (next : List Frame) (level : Level) (notes : List Note) (found : Invoked) : Type 0 where
    pub more : List Note
    pub all : notes ≡ before ++ more
    pub none : replacements more ≡ 0
    pub leads : Leads (at_level fs first) (working rules next (found.word ∷ reverse level.work) (rest_of level) level.out) more
    pub closed : Closed fs (rest_of first) → Closed next (rest_of level)
    pub turns : turn rules.macros found.word (ahead level) ≡ Invokes (lent_value found.mac) (take found.count (ahead level))
    pub within : found.count ≤ length (ahead level)
    pub fits : Takes (lent_value found.mac).params found.count

  -- it has gone on to the end
  pub record Ends (fs : List Frame) (first : Level) (before : List Note) (next : List Frame) (level : Level) (notes : List Note) : Type 0 where
    pub runs : Runs fs first before next level notes
    pub empty : level.work ≡ []
    pub last : next ≡ []

  abbrev pub Sought : List Frame → Level → List Note → List Frame → Level → List Note → Option Invoked → Type 0
  Sought fs first before next level notes None = Ends fs first before next level notes
  Sought fs first before next level notes (Some found) = Finds fs first before next level notes found

-- what replaces an invocation stands before what follows it
pub record Replaced (rules : Rules) (f : Frame) (level : Level) : Type 0 where
  pub work : reverse level.work ≡ made rules f.mac f.args f.done f.space f.set ++ f.work
  pub rest : rest_of level ≡ f.rest
  pub out : level.out ≡ f.out
