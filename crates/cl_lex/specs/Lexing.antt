-- The tokens of a text, and its faults (N1570 5.1.1.2 phases 1 to 3).
use Rattle.std.specs.Prelude.{◌≡◌, ℕ, ◌+◌, ◌-◌, ◌==◌, List, [], ◌∷◌, ◌++◌, slice_index_or, slice_index, slice_range, Bool, true, false, if◌then◌else◌}
use Rattle.cl_base.specs.declared.token.Kind.{Kind}
use Rattle.cl_base.specs.declared.token.Kind.TheVariants as kind
use Rattle.cl_base.specs.declared.token.Token.{Token}
use Rattle.cl_base.specs.declared.token.Fault.{Fault}
use Rattle.cl_base.specs.declared.token.Lexed.{Lexed}
use Rattle.cl_base.specs.Characters.{char_len}
use Rattle.cl_lex.specs.declared.item.Item.{Item}
use Rattle.cl_lex.specs.declared.item.ItemKind.{ItemKind}
use Rattle.cl_lex.specs.declared.item.ItemKind.TheVariants as item
use Rattle.cl_lex.specs.Bytes.{is_quote}
use Rattle.cl_lex.specs.Source.{Character, characters, values}
use Rattle.cl_lex.specs.Items.{Tiles}

abbrev pub nothing : Character
nothing = record { value = 0; from = 0; to = 0 }

-- white space or a comment is the last thing after this item, and no token is on its line
abbrev pub space_after : ItemKind → Bool
space_after (item.Token k) = false
space_after other = true

abbrev pub first_after : ItemKind → Bool → Bool
first_after (item.Token k) first = false
first_after item.NewLine first = true
first_after other first = first

module _ (cs : List Character) where
  -- where the characters from one place up to another begin and end in the text as it is given
  abbrev pub begins : ℕ → ℕ
  begins from = (slice_index_or cs from nothing).from

  abbrev pub ends : ℕ → ℕ
  ends to = (slice_index_or cs (to - 1) nothing).to

  abbrev pub token_of : Kind → Item → Bool → Bool → Token
  token_of k it space first = record {
    kind = k;
    text = slice_range (values cs) it.from it.to;
    from = begins it.from;
    to = ends it.to;
    space = space;
    first = first;
  }

  -- the tokens among the items, where it is known whether white space and whether a line's start is right before
  abbrev pub tokens_by : ItemKind → Item → Bool → Bool → List Token
  tokens_by (item.Token k) it space first = token_of k it space first ∷ []
  tokens_by other it space first = []

  abbrev pub tokens_of : Bool → Bool → List Item → List Token
  tokens_of space first [] = []
  tokens_of space first (it ∷ items) =
      tokens_by it.kind it space first ++ tokens_of (space_after it.kind) (first_after it.kind first) items

  abbrev pub fault_of : ℕ → ℕ → ℕ → Fault
  fault_of number from to = record { number = number; from = begins from; to = ends to }

  -- an Other token is a lone quote, a byte of no character, a null character, or no fault yet
  abbrev pub stray_faults : ℕ → Item → List Fault
  stray_faults c it =
      if is_quote c then fault_of 2 it.from it.to ∷ [] else
      if char_len (values cs) it.from == 0 then fault_of 3 it.from it.to ∷ [] else
      if c == 0 then fault_of 4 it.from it.to ∷ [] else []

  -- the two characters that open a comment without an end
  abbrev pub faults_by : ItemKind → Item → List Fault
  faults_by (item.Token kind.Other) it = stray_faults (slice_index (values cs) it.from) it
  faults_by item.OpenComment it = fault_of 1 it.from (it.from + 2) ∷ []
  faults_by other it = []

  abbrev pub faults_of : List Item → List Fault
  faults_of [] = []
  faults_of (it ∷ items) = faults_by it.kind it ++ faults_of items

-- the tokens and the faults of a text are those of its items
pub record Lexes (text : List ℕ) (lexed : Lexed) : Type 0 where
  pub items : List Item
  pub tiles : Tiles (values (characters text)) [] 0 items
  pub tokens : lexed.tokens ≡ tokens_of (characters text) false true items
  pub faults : lexed.faults ≡ faults_of (characters text) items

-- a text has tokens and faults
pub record HasLexing (text : List ℕ) : Type 0 where
  pub lexed : Lexed
  pub lexes : Lexes text lexed
