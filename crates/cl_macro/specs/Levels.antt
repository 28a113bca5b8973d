-- Tokens in work as the code keeps them.
use Rattle.std.specs.Prelude.{◌≡◌, ℕ, ◌-◌, ◌+◌, List, [], ◌∷◌, ◌++◌, reverse, length, drop, take, map, Option, Some, None, Bool, ◌≤◌, ◌==◌, ◌||◌, ◌&&◌}
use Rattle.cl_base.specs.Lent.{lent_value}
use Rattle.cl_base.specs.declared.macros.Macro.{Macro}
use Rattle.cl_base.specs.declared.token.Kind.{Kind}
use Rattle.cl_base.specs.declared.token.Span.{Span}
use Rattle.cl_base.specs.Lines.{line_at}
use Rattle.cl_macro.specs.declared.place.Place.{Place}
use Rattle.cl_macro.specs.Rules.{Rules, TellsTokens}
use Rattle.cl_macro.specs.declared.turn.Doing.{Doing}
use Rattle.cl_macro.specs.declared.turn.Doing.TheVariants as doing
use Rattle.cl_macro.specs.declared.turn.Reach.{Reach}
use Rattle.cl_macro.specs.declared.turn.Reach.TheVariants as far
use Rattle.cl_macro.specs.Turns.{Turn, Stays, Invokes, Misfits, Open, turn}
use Rattle.cl_macro.specs.declared.note.Note.{Note}
use Rattle.cl_macro.specs.declared.walk.Invoked.{Invoked}
use Rattle.cl_macro.specs.Replacing.{replacements}
use Rattle.cl_macro.specs.Walks.{Walks}
use Rattle.cl_macro.specs.declared.level.Level.{Level}
use Rattle.cl_macro.specs.declared.seen.Seen.{Seen}
use Rattle.cl_macro.specs.declared.seen.Seen.TheVariants as seen
use Rattle.cl_macro.specs.Words.{fresh}
use Rattle.cl_macro.specs.declared.word.Word.{Word}
use Rattle.cl_macro.specs.code.Segments.{slot_word}

-- the run's tokens that nothing has taken yet
abbrev pub rest_of : Level → List Word
rest_of level = map fresh level.rest.now

abbrev pub seen_word : Seen → Word
seen_word (seen.Made word) = word.now
seen_word (seen.Kept slot) = slot_word slot.now
seen_word (seen.Run token) = fresh token.now

abbrev pub work_of : Level → List Word
work_of level = reverse level.work

abbrev pub ahead : Level → List Word
ahead level = reverse level.work ++ rest_of level

-- the rules go by the tokens of C, and by this place
pub record Suits (rules : Rules) (place : Place) : Type 0 where
  pub tells : TellsTokens rules.one_token
  pub file : rules.here.file ≡ place.file.now
  pub line : rules.here.line ≡ place.line

-- so many tokens are taken
pub record Passes (n : ℕ) (old new : Level) : Type 0 where
  pub work : reverse new.work ≡ drop n (reverse old.work)
  pub rest : rest_of new ≡ drop (n - length old.work) (rest_of old)

-- the rules of each place of a file with this text, whose path is this string literal
abbrev pub rules_of : (List ℕ → Option Macro) → (List ℕ → Option Kind) → List ℕ → List ℕ → Span → Rules
rules_of macros one_token file text at = record {
  macros = macros;
  one_token = one_token;
  here = record { file = file; line = line_at text at.from + 1 };
}

-- the tokens of a run stand in this text
abbrev pub Within : List ℕ → List Word → Type 0
Within text [] = Unit {0}
Within text (w ∷ ws) = (w.token.at.from ≤ length text) × Within text ws

abbrev pub turned : Doing → List Word → Turn
turned doing.Stays ws = Stays
turned (doing.Invokes m n) ws = Invokes (lent_value m) (take n ws)
turned (doing.Misfits n) ws = Misfits (take n ws)
turned doing.Open ws = Open

abbrev pub reach : Doing → ℕ
reach doing.Stays = 0
reach (doing.Invokes m n) = n
reach (doing.Misfits n) = n
reach doing.Open = 0

-- the same, of a name with this macro
abbrev pub reached : Macro → Reach → List Word → Turn
reached m far.Stays ws = Stays
reached m (far.Invokes n) ws = Invokes m (take n ws)
reached m (far.Misfits n) ws = Misfits (take n ws)
reached m far.Open ws = Open

abbrev pub taken : Reach → ℕ
taken far.Stays = 0
taken (far.Invokes n) = n
taken (far.Misfits n) = n
taken far.Open = 0

abbrev pub is_right : ℕ → ℕ → ℕ → Bool
is_right args params count = args == params || (params == 0 && count == 0)

-- how many tokens an invocation takes
abbrev pub Takes : Option (List (List ℕ)) → ℕ → Type 0
Takes None n = n ≡ 0
Takes (Some params) n = 2 ≤ n

abbrev pub Fits : Option (List (List ℕ)) → Reach → Type 0
Fits params (far.Invokes n) = Takes params n
Fits params _ = Unit {0}

abbrev pub Fitting : Doing → Type 0
Fitting (doing.Invokes m n) = Takes (lent_value m).params n
Fitting _ = Unit {0}

-- the tokens that an invocation takes are there
abbrev pub IsThere : Level → Option Invoked → Type 0
IsThere level None = Unit {0}
IsThere level (Some found) = (found.count ≤ length (ahead level)) × Takes (lent_value found.mac).params found.count

module _ (rules : Rules) where
  -- from one level and list of notes it has gone on to another, where these tokens stand before those that are in work
  pub record Stood (first : Level) (before : List Note) (head : List Word) (level : Level) (notes : List Note) : Type 0 where
    pub front : List Word
    pub more : List Note
    pub out : level.out ≡ first.out ++ front
    pub all : notes ≡ before ++ more
    pub none : replacements more ≡ 0
    pub kept : rest_of first ≡ [] → rest_of level ≡ []
    pub walks : Walks rules (work_of first) (rest_of first) front more (head ++ work_of level) (rest_of level)

  pub record Invoking (first : Level) (before : List Note) (level : Level) (notes : List Note) (found : Invoked) : Type 0 where
    pub stood : Stood first before (found.word ∷ []) level notes
    pub turns : turn rules.macros found.word (ahead level) ≡ Invokes (lent_value found.mac) (take found.count (ahead level))
    pub within : found.count ≤ length (ahead level)
    pub fits : Takes (lent_value found.mac).params found.count

  pub record Ended (first : Level) (before : List Note) (level : Level) (notes : List Note) : Type 0 where
    pub stood : Stood first before [] level notes
    pub empty : level.work ≡ []

  abbrev pub Walked : Level → List Note → Level → List Note → Option Invoked → Type 0
  Walked first before level notes None = Ended first before level notes
  Walked first before level notes (Some found) = Invoking first before level notes found
