-- What is to be done with a token in work, by itself and what follows it (N1570 6.10.3p10).
use Rattle.std.specs.Prelude.{ℕ, ◌+◌, ◌-◌, ◌==◌, Bool, true, false, not, ◌&&◌, ◌||◌, if◌then◌else◌, List, [], ◌∷◌, ◌++◌, length, map, take, drop, nat_le, nat_lt, Option, Some, None, slice_get, codes}
use Rattle.std.specs.Option.{option_map}
use Rattle.cl_base.specs.declared.macros.Macro.{Macro}
use Rattle.cl_base.specs.declared.token.Span.{Span}
use Rattle.cl_macro.specs.declared.word.Word.{Word}
use Rattle.cl_macro.specs.declared.note.Note.{Note}
use Rattle.cl_macro.specs.declared.note.Note.TheVariants as note
use Rattle.cl_macro.specs.Words.{is_ident, is_mark, contains, both, taken, looks, place_of, all_look}

abbrev pub is_open : Word → Bool
is_open w = is_mark w (codes "(")

abbrev pub is_close : Word → Bool
is_close w = is_mark w (codes ")")

abbrev pub is_comma : Word → Bool
is_comma w = is_mark w (codes ",")

-- how many parentheses are open behind this token
abbrev pub depth_after : Word → ℕ → ℕ
depth_after w depth = if is_close w then depth - 1 else if is_open w then depth + 1 else depth

-- the `)` of an invocation
abbrev pub ends : Word → ℕ → Bool
ends w depth = depth == 0 && is_close w

-- a comma between arguments, where so many may still part them
abbrev pub parts : Word → ℕ → ℕ → Bool
parts w depth commas = depth == 0 && (nat_lt 0 commas && is_comma w)

-- how many tokens stand before the `)` that has no `(`, where so many are open
abbrev pub close_at : ℕ → List Word → Option ℕ
close_at depth [] = None
close_at depth (w ∷ ws) = if ends w depth then Some 0 else option_map (λ n. n + 1) (close_at (depth_after w depth) ws)

abbrev pub before_first : Word → List (List Word) → List (List Word)
before_first w [] = (w ∷ []) ∷ []
before_first w (arg ∷ args) = (w ∷ arg) ∷ args

-- the tokens between the commas outside parentheses, where so many commas may still part them
abbrev pub parted : ℕ → ℕ → List Word → List (List Word)
parted depth commas [] = [] ∷ []
parted depth commas (w ∷ ws) =
    if parts w depth commas then [] ∷ parted depth (commas - 1) ws
    else before_first w (parted (depth_after w depth) commas ws)

-- what is behind the last named parameter of a variadic macro isn't parted
abbrev pub arguments : Bool → ℕ → List Word → List (List Word)
arguments variadic params ws = parted 0 (if variadic then params else length ws) ws

abbrev pub is_nothing : List (List Word) → Bool
is_nothing ([] ∷ []) = true
is_nothing _ = false

-- nothing between the parentheses is no argument, or an empty one (6.10.3p4)
abbrev pub fits : Bool → ℕ → List (List Word) → Bool
fits variadic params args =
    if variadic then nat_le params (length args) else (length args == params || (params == 0 && is_nothing args))

-- what happens next
pub data Turn : Type 0 where
  -- the token stays
  Stays : Turn
  -- it is an invocation of this macro, which takes these tokens behind it
  Invokes : Macro → List Word → Turn
  -- it and these tokens behind it are an invocation with the wrong number of arguments
  Misfits : List Word → Turn
  -- an invocation begins that no `)` ends
  Open : Turn

abbrev pub ended : Macro → ℕ → Word → List Word → Option ℕ → Turn
ended m params p ws None = Open
ended m params p ws (Some n) = if fits m.variadic params (arguments m.variadic params (take n ws)) then Invokes m (take (n + 2) (p ∷ ws)) else Misfits (take (n + 2) (p ∷ ws))

abbrev pub called : Macro → ℕ → List Word → Turn
called m params [] = Stays
called m params (p ∷ ws) = if is_open p then ended m params p ws (close_at 0 ws) else Stays

abbrev pub turn_by : Macro → Option (List (List ℕ)) → List Word → Turn
turn_by m None more = Invokes m []
turn_by m (Some params) more = called m (length params) more

abbrev pub turn_of : Option Macro → List Word → Turn
turn_of None more = Stays
turn_of (Some m) more = turn_by m m.params more

-- a name that is no macro, or one that it is no longer replaced for, stays
abbrev pub meaning : (List ℕ → Option Macro) → Word → Option Macro
meaning macros w = if is_ident w.token.kind && not (contains w.hide w.token.text) then macros w.token.text else None

-- what is done with this token before these
abbrev pub turn : (List ℕ → Option Macro) → Word → List Word → Turn
turn macros w more = turn_of (meaning macros w) more

-- ---- an invocation, by the tokens that it takes behind its name

abbrev pub args_by : Macro → Option (List (List ℕ)) → List Word → List (List Word)
args_by m None ws = []
args_by m (Some params) ws = arguments m.variadic (length params) (map taken (take (length ws - 2) (drop 1 ws)))

abbrev pub args_of : Macro → List Word → List (List Word)
args_of m ws = args_by m m.params ws

-- its `)`
abbrev pub close_of : List Word → Option Word
close_of ws = slice_get ws (length ws - 1)

abbrev pub shared : List (List ℕ) → Option Word → List (List ℕ)
shared hide None = hide
shared hide (Some close) = both hide close.hide

-- the names that what it makes is no longer replaced for
abbrev pub set_of : Word → List Word → List (List ℕ)
set_of w ws = w.token.text ∷ shared w.hide (close_of ws)

abbrev pub took_by : Option Span → List Note
took_by None = []
took_by (Some at) = note.Took at ∷ []

abbrev pub took : Option Word → List Note
took None = []
took (Some close) = took_by (place_of close)

abbrev pub invoking : Word → List Word → List Note
invoking w ws = note.Looked w.token.text ∷ (note.Replaced w.token.text w.token.spell ∷ took (close_of ws))

-- a fault at a name, and the tokens that stay for it
abbrev pub stay_notes : ℕ → Word → List Word → List Note
stay_notes number w ws = looks w ++ (note.Faulty number (place_of w) ∷ all_look ws)
