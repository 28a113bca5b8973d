-- Which names are typedef names at a place of a text (N1570 6.2.1p7, 6.7.8), and the classes of tokens that follow from them.
use Rattle.std.specs.Prelude.{ℕ, ◌+◌, List, [], ◌∷◌, ◌++◌, Option, Some, None, slice_get, length, take, Bool, true, false, cond, ◌||◌, ◌&&◌, not, nat_eq, drop}
use Rattle.std.specs.Cmp.Lexicographic.{pointwise}
use Rattle.cl_tree.specs.declared.class.Class.{Class}
use Rattle.cl_tree.specs.declared.class.Class.TheVariants as cl
use Rattle.cl_tree.specs.declared.grammar.Act.{Act}
use Rattle.cl_tree.specs.declared.grammar.Act.TheVariants as ac
use Rattle.cl_tree.specs.declared.shape.Shape.{Shape}
use Rattle.cl_tree.specs.declared.shape.Shape.TheVariants.{Fixed, Word, Paren}
use Rattle.cl_tree.specs.declared.lexeme.Lexeme.{Lexeme}
use Rattle.cl_tree.specs.declared.scope.Change.{Change}
use Rattle.cl_tree.specs.declared.scope.Frame.{Frame}
use Rattle.cl_tree.specs.declared.scope.Scope.{Scope}
use Rattle.cl_tree.specs.Ends.{last, front}

-- nothing is declared yet
abbrev pub empty : Scope
empty = record { typing = false; pending = None; changes = []; frames = []; listed = false; aside = [] }

abbrev pub text_of : Option Lexeme → List ℕ
text_of None = []
text_of (Some l) = l.text

abbrev pub text_at : List Lexeme → ℕ → List ℕ
text_at ts i = text_of (slice_get ts i)

-- whether a name is a typedef name after some declarations: the last one of that name says so, else what was before them
abbrev pub known : List Lexeme → List Change → Bool → List ℕ → Bool
known ts [] before name = before
known ts (c ∷ cs) before name = known ts cs (cond (pointwise nat_eq (text_at ts c.at) name) c.typed before) name

abbrev pub typed_shape : List Lexeme → List Change → Lexeme → Shape → Bool
typed_shape ts cs l (Fixed k) = false
typed_shape ts cs l (Word colon) = known ts cs l.typed l.text
typed_shape ts cs l (Paren literal types) = false

-- whether a token is an identifier that is a typedef name
abbrev pub is_typed : List Lexeme → List Change → Lexeme → Bool
is_typed ts cs l = typed_shape ts cs l l.shape

abbrev pub typed_of : List Lexeme → List Change → Option Lexeme → Bool
typed_of ts cs None = false
typed_of ts cs (Some l) = is_typed ts cs l

abbrev pub typed_at : List Lexeme → List Change → ℕ → Bool
typed_at ts cs i = typed_of ts cs (slice_get ts i)

abbrev pub word_class : Bool → Bool → Class
word_class typed colon = cond typed (cond colon cl.TypedefColon cl.TypedefName) (cond colon cl.IdentColon cl.Ident)

-- `(` before what may begin a type is told from any other
abbrev pub paren_class : Bool → Bool → Class
paren_class types literal = cond types (cond literal cl.LiteralParen cl.TypeParen) cl.LeftParen

abbrev pub class_by : List Lexeme → List Change → ℕ → Lexeme → Shape → Class
class_by ts cs at l (Fixed k) = k
class_by ts cs at l (Word colon) = word_class (known ts cs l.typed l.text) colon
class_by ts cs at l (Paren literal types) = paren_class (types || typed_at ts cs (at + 1)) literal

abbrev pub class_of : List Lexeme → List Change → ℕ → Option Lexeme → Option Class
class_of ts cs at None = None
class_of ts cs at (Some l) = Some (class_by ts cs at l l.shape)

-- the class of the token at a number, with what is declared there
unfoldable pub class_at : List Lexeme → Scope → ℕ → Option Class
class_at ts s at = class_of ts s.changes at (slice_get ts at)

abbrev pub same : Bool → Bool → Bool
same a b = cond a b (not b)

-- one more declaration, where it changes what the name is
abbrev pub declared : List Lexeme → List Change → Option ℕ → Bool → List Change
declared ts cs None typed = cs
declared ts cs (Some i) typed = cond (same (typed_at ts cs i) typed) cs (cs ++ record { at = i; typed = typed } ∷ [])

abbrev pub opened : Scope → Scope
opened s = record { typing = false; pending = None; changes = s.changes; frames = s.frames ++ record { typing = s.typing; pending = s.pending; kept = length s.changes } ∷ []; listed = s.listed; aside = s.aside }

abbrev pub is_outermost : List Frame → Bool
is_outermost [] = true
is_outermost (f ∷ fs) = false

-- what was declared in the first list of parameters after a name that stands in no other list is kept aside: a body may follow (6.2.1p4, 6.9.1p9)
abbrev pub keeps : Scope → List Frame → Bool
keeps s fs = is_outermost fs && not s.listed

abbrev pub aside_by : Bool → Scope → ℕ → List Change
aside_by keep s kept = cond keep (drop kept s.changes) s.aside

abbrev pub closed_by : Scope → Option Frame → Scope
closed_by s None = s
closed_by s (Some f) = record { typing = f.typing; pending = f.pending; changes = take f.kept s.changes; frames = front s.frames; listed = keeps s (front s.frames) || s.listed; aside = aside_by (keeps s (front s.frames)) s f.kept }

abbrev pub closed : Scope → Scope
closed s = closed_by s (last s.frames)

abbrev pub shut_by : Scope → Option Frame → Scope
shut_by s None = s
shut_by s (Some f) = record { typing = f.typing; pending = f.pending; changes = s.changes; frames = front s.frames; listed = s.listed; aside = s.aside }

abbrev pub shut : Scope → Scope
shut s = shut_by s (last s.frames)

abbrev pub declaring : List Lexeme → Scope → Bool → Scope
declaring ts s typing = record { typing = typing; pending = None; changes = declared ts s.changes s.pending s.typing; frames = s.frames; listed = s.listed; aside = s.aside }

-- a name that stands in no list has had no list of parameters yet
abbrev pub named : Scope → ℕ → Scope
named s at = record {
  typing = s.typing;
  pending = Some at;
  changes = s.changes;
  frames = s.frames;
  listed = cond (is_outermost s.frames) false s.listed;
  aside = cond (is_outermost s.frames) [] s.aside;
}

abbrev pub begun_by : Scope → List Change → Scope
begun_by s cs = record { typing = false; pending = None; changes = cs ++ s.aside; frames = s.frames ++ record { typing = false; pending = None; kept = length cs } ∷ []; listed = true; aside = s.aside }

-- in the body of a function its name is declared, no typedef name, and what its list of parameters declared
abbrev pub begun : List Lexeme → Scope → Scope
begun ts s = begun_by s (declared ts s.changes s.pending false)

abbrev pub passed : List Lexeme → Scope → Act → ℕ → Scope
passed ts s ac.Stay at = s
passed ts s ac.Typedef at = record { typing = true; pending = s.pending; changes = s.changes; frames = s.frames; listed = s.listed; aside = s.aside }
passed ts s ac.Name at = named s at
passed ts s ac.Declare at = declaring ts s s.typing
passed ts s ac.Finish at = declaring ts s false
passed ts s ac.Forget at = record { typing = s.typing; pending = None; changes = s.changes; frames = s.frames; listed = s.listed; aside = s.aside }
passed ts s ac.Open at = opened s
passed ts s ac.Close at = closed (declaring ts s s.typing)
passed ts s ac.Shut at = shut (declaring ts s s.typing)
passed ts s ac.Begin at = begun ts s

-- what is declared after the token at a number, which does this to the names
unfoldable pub pass : List Lexeme → Scope → Act → ℕ → Scope
pass ts s a at = passed ts s a at

-- what is declared after a node, by what was so before it and is so at its end: the names of a block are gone after it (6.2.1p4)
abbrev pub leave : Bool → Scope → Scope → Scope
leave scoped before inside = cond scoped before inside
