-- What an invocation is replaced by (N1570 6.10.3.1).
use Rattle.std.specs.Prelude.{ℕ, Bool, false, if◌then◌else◌, List, [], ◌∷◌, map, codes, decimal}
use Rattle.cl_base.specs.declared.token.Kind.TheVariants as kind
use Rattle.cl_base.specs.declared.macros.Macro.{Macro}
use Rattle.cl_macro.specs.declared.word.Word.{Word}
use Rattle.cl_macro.specs.declared.note.Note.{Note}
use Rattle.cl_macro.specs.Rules.{Here, Rules}
use Rattle.cl_macro.specs.Words.{painted, same}
use Rattle.cl_macro.specs.Strings.{made_word}
use Rattle.cl_macro.specs.Pasting.{Joined, joined_body, spaced}

abbrev pub is_file : Macro → Bool
is_file m = same m.name (codes "__FILE__")

abbrev pub is_line : Macro → Bool
is_line m = same m.name (codes "__LINE__")

abbrev pub only : Word → Joined
only w = record { words = w ∷ []; notes = [] }

abbrev pub file_word : Here → Word
file_word here = made_word kind.Str here.file false

abbrev pub line_word : Here → Word
line_word here = made_word kind.Number (decimal here.line) false

-- the body, with the tokens that `__FILE__` and `__LINE__` are here (6.10.8.1). `args` are the arguments as they stand,
-- `full` those that are replaced by themselves
abbrev pub whole_body : Rules → Macro → List (List Word) → List (List Word) → Joined
whole_body rules m args full =
    if is_file m then only (file_word rules.here)
    else if is_line m then only (line_word rules.here)
    else joined_body rules.one_token m args full

-- the first token takes the space of the name
unfoldable pub made : Rules → Macro → List (List Word) → List (List Word) → Bool → List (List ℕ) → List Word
made rules m args full space set = map (painted set) (spaced space (whole_body rules m args full).words)

-- the faults on the way
unfoldable pub made_notes : Rules → Macro → List (List Word) → List (List Word) → List Note
made_notes rules m args full = (whole_body rules m args full).notes
