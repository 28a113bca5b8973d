-- The operator `##` (N1570 6.10.3.3).
use Rattle.std.specs.Prelude.{ℕ, Bool, true, false, ◌||◌, if◌then◌else◌, List, [], ◌∷◌, ◌++◌, Option, Some, None, slice_get}
use Rattle.cl_base.specs.declared.token.Kind.{Kind}
use Rattle.cl_base.specs.declared.macros.Macro.{Macro}
use Rattle.cl_base.specs.declared.macros.BodyToken.{BodyToken}
use Rattle.cl_macro.specs.declared.word.Word.{Word}
use Rattle.cl_macro.specs.declared.part.Part.{Part}
use Rattle.cl_macro.specs.declared.part.Part.TheVariants as part
use Rattle.cl_macro.specs.declared.note.Note.{Note}
use Rattle.cl_macro.specs.declared.note.Note.TheVariants as note
use Rattle.cl_macro.specs.Words.{both}
use Rattle.cl_macro.specs.Params.{is_paste, is_string, param_at, pastes_next}
use Rattle.cl_macro.specs.Strings.{made_word, nowhere, string_of}

abbrev pub with_space : Bool → Word → Word
with_space space w = record {
  token = record { kind = w.token.kind; text = w.token.text; space = space; spell = w.token.spell; at = w.token.at };
  hide = w.hide;
  given = w.given;
}

-- the first token takes this space
abbrev pub spaced : Bool → List Word → List Word
spaced space [] = []
spaced space (w ∷ ws) = with_space space w ∷ ws

abbrev pub words_at : Option (List Word) → List Word
words_at None = []
words_at (Some ws) = ws

-- ---- the parts of a body: `args` are the arguments as they stand, `full` those that are replaced by themselves

abbrev pub body_word : BodyToken → Word
body_word t = made_word t.kind t.text t.space

abbrev pub tokens : List Word → List Part
tokens [] = []
tokens (w ∷ ws) = part.Token w ∷ tokens ws

-- an argument beside `##`: where it is empty a placemarker (6.10.3.3p2)
abbrev pub raw_parts : Bool → List Word → List Part
raw_parts space [] = part.Marker space ∷ []
raw_parts space (w ∷ ws) = tokens (spaced space (w ∷ ws))

abbrev pub arg_by : List (List Word) → Option ℕ → List Word
arg_by args None = []
arg_by args (Some i) = words_at (slice_get args i)

-- what a token of the body stands for
abbrev pub parts_by : Bool → List (List Word) → List (List Word) → BodyToken → Option ℕ → List Part
parts_by beside args full t None = part.Token (body_word t) ∷ []
parts_by beside args full t (Some i) =
    if beside then raw_parts t.space (arg_by args (Some i)) else tokens (spaced t.space (arg_by full (Some i)))

-- `after`: `##` stands before the tokens. `hash`: the operator `#` that stands before them, by its white space
abbrev pub parts_of : Macro → List (List Word) → List (List Word) → Bool → Option Bool → List BodyToken → List Part
parts_of m args full after hash [] = []
parts_of m args full after (Some space) (t ∷ ts) =
    part.Token (string_of space (arg_by args (param_at m t))) ∷ parts_of m args full false None ts
parts_of m args full after None (t ∷ ts) =
    if is_paste t then part.Paste ∷ parts_of m args full true None ts
    else if is_string m t then parts_of m args full after (Some t.space) ts
    else parts_by (after || pastes_next ts) args full t (param_at m t) ++ parts_of m args full false None ts

-- ---- joining

pub record Joined : Type 0 where
  pub words : List Word
  pub notes : List Note

-- a placemarker goes in the end
abbrev pub kept : Part → List Word
kept (part.Token w) = w ∷ []
kept (part.Marker space) = []
kept part.Paste = []

-- the white space is the left one's, and what both are no longer replaced for stays so
abbrev pub joined_word : Kind → Word → Word → Word
joined_word k a b = record {
  token = record { kind = k; text = a.token.text ++ b.token.text; space = a.token.space; spell = None; at = nowhere };
  hide = both a.hide b.hide;
  given = false;
}

abbrev pub one_or : Option Kind → Word → Word → Option Part
one_or None a b = None
one_or (Some k) a b = Some (part.Token (joined_word k a b))

-- the one part that two are joined into, if there is one (6.10.3.3p3)
abbrev pub glue : (List ℕ → Option Kind) → Part → Part → Option Part
glue one_token (part.Token a) (part.Token b) = one_or (one_token (a.token.text ++ b.token.text)) a b
glue one_token (part.Token a) (part.Marker space) = Some (part.Token a)
glue one_token (part.Marker space) (part.Token b) = Some (part.Token (with_space space b))
glue one_token (part.Marker space) (part.Marker other) = Some (part.Marker space)
glue one_token a b = None

abbrev pub unspaced : Part → Part
unspaced (part.Token w) = part.Token (with_space false w)
unspaced (part.Marker space) = part.Marker false
unspaced part.Paste = part.Paste

abbrev pub put : List Word → List Note → Joined → Joined
put ws ns j = record { words = ws ++ j.words; notes = ns ++ j.notes }

-- the parts behind `left`, joined from the left; `due`: `##` stands between
abbrev pub joins : (List ℕ → Option Kind) → Bool → Part → List Part → Joined
joins one_token due left [] = record { words = kept left; notes = [] }
joins one_token due left (part.Paste ∷ ps) = joins one_token true left ps
joins one_token false left (p ∷ ps) = put (kept left) [] (joins one_token false p ps)
joins one_token true left (p ∷ ps) = elim (glue one_token left p) [
  | Some q ↦ joins one_token false q ps
  | None ↦ put (kept left) (note.Faulty 21 None ∷ []) (joins one_token false (unspaced p) ps)
]

abbrev pub joined_body : (List ℕ → Option Kind) → Macro → List (List Word) → List (List Word) → Joined
joined_body one_token m args full = joins one_token false (part.Marker false) (parts_of m args full false None m.body)
