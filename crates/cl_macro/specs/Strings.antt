-- The operator `#` (N1570 6.10.3.2).
use Rattle.std.specs.Prelude.{ℕ, ◌==◌, Bool, true, false, ◌||◌, if◌then◌else◌, List, [], ◌∷◌, ◌++◌, None}
use Rattle.cl_base.specs.declared.token.Kind.{Kind}
use Rattle.cl_base.specs.declared.token.Kind.TheVariants as kind
use Rattle.cl_base.specs.declared.token.Span.{Span}
use Rattle.cl_macro.specs.declared.word.Word.{Word}

-- where nothing is known yet
abbrev pub nowhere : Span
nowhere = record { file = 0; from = 0; to = 0 }

-- a token that replacement makes
abbrev pub made_word : Kind → List ℕ → Bool → Word
made_word k text space = record {
  token = record { kind = k; text = text; space = space; spell = None; at = nowhere };
  hide = [];
  given = false;
}

abbrev pub is_quoted : Kind → Bool
is_quoted kind.Str = true
is_quoted kind.Char = true
is_quoted _ = false

-- `\` stands before each `"` and each `\`
abbrev pub escaped : List ℕ → List ℕ
escaped [] = []
escaped (c ∷ cs) = if c == 34 || c == 92 then 92 ∷ (c ∷ escaped cs) else c ∷ escaped cs

abbrev pub spelled_word : Word → List ℕ
spelled_word w = if is_quoted w.token.kind then escaped w.token.text else w.token.text

-- one space where white space stands
abbrev pub spelled_on : List Word → List ℕ
spelled_on [] = []
spelled_on (w ∷ ws) = (if w.token.space then 32 ∷ [] else []) ++ (spelled_word w ++ spelled_on ws)

-- white space before the first token and behind the last one is gone
abbrev pub spelled : List Word → List ℕ
spelled [] = []
spelled (w ∷ ws) = spelled_word w ++ spelled_on ws

abbrev pub quoted : List ℕ → List ℕ
quoted text = 34 ∷ (text ++ 34 ∷ [])

abbrev pub string_of : Bool → List Word → Word
string_of space arg = made_word kind.Str (quoted (spelled arg)) space
