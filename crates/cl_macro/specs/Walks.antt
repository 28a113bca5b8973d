-- How the work goes on, from one moment to a later one.
use Rattle.std.specs.Prelude.{◌≡◌, ℕ, List, [], ◌∷◌, ◌++◌, Bool}
use Rattle.cl_base.specs.declared.macros.Macro.{Macro}
use Rattle.cl_macro.specs.Rules.{Rules}
use Rattle.cl_macro.specs.declared.word.Word.{Word}
use Rattle.cl_macro.specs.declared.note.Note.{Note}
use Rattle.cl_macro.specs.Made.{made, made_notes}
use Rattle.cl_macro.specs.Replacing.{Works, Each}

-- an invocation whose arguments are in work. `done` are those that are replaced, `waiting` those that aren't yet.
-- `work` before `rest` follow the invocation, and `out` is what came before it
pub record Frame : Type 0 where
  pub mac : Macro
  pub space : Bool
  pub set : List (List ℕ)
  pub args : List (List Word)
  pub done : List (List Word)
  pub waiting : List (List Word)
  pub work : List Word
  pub rest : List Word
  pub out : List Word

abbrev pub with_done : Frame → List Word → Frame
with_done f ws = record {
  mac = f.mac;
  space = f.space;
  set = f.set;
  args = f.args;
  done = f.done ++ ws ∷ [];
  waiting = f.waiting;
  work = f.work;
  rest = f.rest;
  out = f.out;
}

abbrev pub with_waiting : Frame → List (List Word) → Frame
with_waiting f waiting = record {
  mac = f.mac;
  space = f.space;
  set = f.set;
  args = f.args;
  done = f.done;
  waiting = waiting;
  work = f.work;
  rest = f.rest;
  out = f.out;
}

abbrev pub made_of : Rules → Frame → List (List Word) → List Word
made_of rules f full = made rules f.mac f.args full f.space f.set ++ f.work

abbrev pub notes_of : Rules → Frame → List (List Word) → List Note
notes_of rules f full = made_notes rules f.mac f.args full

module _ (rules : Rules) where
  -- what comes of some tokens once `front` and `notes` have come of them
  pub record Comes (front : List Word) (notes : List Note) (work rest out left : List Word) (ns : List Note) : Type 0 where
    pub later : List Word
    pub more : List Note
    pub works : Works rules work rest later left more
    pub words : out ≡ front ++ later
    pub all : ns ≡ notes ++ more

  -- from the tokens `work` before `rest` it goes on to `next` before `behind`, with `front` and `notes`
  pub record Walks (work rest front : List Word) (notes : List Note) (next behind : List Word) : Type 0 where
    pub on : (out left : List Word) (ns : List Note) → Works rules next behind out left ns
        → Works rules work rest (front ++ out) left (notes ++ ns)
    pub back : (out left : List Word) (ns : List Note) → Works rules work rest out left ns
        → Comes front notes next behind out left ns

  -- an invocation all of whose other arguments wait. `Goes work rest out notes`: how it goes on below
  pub record Called (Goes : List Word → List Word → List Word → List Note → Type 0) (f : Frame) (ns : List Note) : Type 0 where
    pub full : List (List Word)
    pub inner : List Note
    pub later : List Note
    pub each : Each rules f.waiting full inner
    pub goes : Goes (made_of rules f (f.done ++ full)) f.rest f.out later
    pub all : ns ≡ inner ++ (notes_of rules f (f.done ++ full) ++ later)

  -- an argument in work
  pub record Inside (Goes : List Word → List Word → List Word → List Note → Type 0) (f : Frame) (work rest before : List Word) (ns : List Note) : Type 0 where
    pub out : List Word
    pub first : List Note
    pub later : List Note
    pub works : Works rules work rest out [] first
    pub called : Called Goes (with_done f (before ++ out)) later
    pub all : ns ≡ first ++ later

  -- the run's own tokens in work
  pub record Outside (total left work rest before : List Word) (ns : List Note) : Type 0 where
    pub out : List Word
    pub works : Works rules work rest out left ns
    pub words : total ≡ before ++ out

  -- from here, where these invocations are in work, the innermost first, it all comes to the tokens `total`
  unfoldable pub Goes : List Word → List Word → List Frame → List Word → List Word → List Word → List Note → Type 0
  Goes total left [] work rest before ns = Outside total left work rest before ns
  Goes total left (f ∷ fs) work rest before ns = Inside (Goes total left fs) f work rest before ns

  -- the same between two arguments
  abbrev pub Between : List Word → List Word → List Frame → Frame → List Note → Type 0
  Between total left fs f ns = Called (Goes total left fs) f ns

-- what comes of a moment once these notes have come of it
pub record Later (B : List Word → List Word → List Note → Type 0) (notes : List Note) (total left : List Word) (ns : List Note) : Type 0 where
  pub more : List Note
  pub goes : B total left more
  pub all : ns ≡ notes ++ more

-- from one moment it goes on to the other, with these notes: whatever comes of the one comes of the other
pub record Leads (A B : List Word → List Word → List Note → Type 0) (notes : List Note) : Type 0 where
  pub on : (total left : List Word) (ns : List Note) → B total left ns → A total left (notes ++ ns)
  pub back : (total left : List Word) (ns : List Note) → A total left ns → Later B notes total left ns

-- the moments
abbrev pub working : Rules → List Frame → List Word → List Word → List Word → List Word → List Word → List Note → Type 0
working rules fs work rest before total left ns = Goes rules total left fs work rest before ns

abbrev pub between : Rules → List Frame → Frame → List Word → List Word → List Note → Type 0
between rules fs f total left ns = Between rules total left fs f ns
