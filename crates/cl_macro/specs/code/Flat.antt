-- Names whose work goes on alike wherever they stand and whatever follows them.
use Rattle.std.specs.Prelude.{◌≡◌, ◌<◌, ℕ, Bool, true, not, ◌&&◌, ◌||◌, List, [], ◌∷◌, ◌++◌, ◌⊎◌, Option, Some, None, is_some}
use Rattle.cl_base.specs.declared.macros.Macro.{Macro}
use Rattle.cl_base.specs.declared.token.Kind.{Kind}
use Rattle.cl_base.specs.declared.token.PpToken.{PpToken}
use Rattle.cl_base.specs.declared.token.Span.{Span}
use Rattle.cl_macro.specs.Rules.{Rules}
use Rattle.cl_macro.specs.declared.note.Note.{Note}
use Rattle.cl_macro.specs.declared.word.Word.{Word}
use Rattle.cl_macro.specs.Words.{contains, fresh, is_ident}
use Rattle.cl_macro.specs.Pasting.{joined_body}
use Rattle.cl_macro.specs.Made.{is_file, is_line}
use Rattle.cl_macro.specs.Replacing.{Works, replacements}

-- no names but these
abbrev pub is_tame : List (List ℕ) → Word → Bool
is_tame names w = not (is_ident w.token.kind) || contains names w.token.text

abbrev pub are_tame : List (List ℕ) → List Word → Bool
are_tame names [] = true
are_tame names (w ∷ ws) = is_tame names w && are_tame names ws

-- an object-like macro whose replacement is its body
abbrev pub is_object : Macro → Bool
is_object m = not (is_some m.params) && (not (is_file m) && not (is_line m))

-- its replacement, with each `##` done, has no names but these
abbrev pub is_flat : (List ℕ → Option Kind) → List (List ℕ) → Macro → Bool
is_flat one_token names m = is_object m && are_tame names (joined_body one_token m [] []).words

abbrev pub is_flat_name : (List ℕ → Option Kind) → List (List ℕ) → Option Macro → Bool
is_flat_name one_token names None = true
is_flat_name one_token names (Some m) = is_flat one_token names m

-- these names, among those
abbrev pub are_flat : (List ℕ → Option Kind) → (List ℕ → Option Macro) → List (List ℕ) → List (List ℕ) → Bool
are_flat one_token macros names [] = true
are_flat one_token macros names (n ∷ ns) = is_flat_name one_token names (macros n) && are_flat one_token macros names ns

-- each of these names comes to too much wherever it stands
abbrev pub AreLarge : (Span → Rules) → List (List ℕ) → Type 0
AreLarge rules_at large = (t : PpToken) → is_ident t.kind ≡ true → contains large t.text ≡ true
    → (rest out left : List Word) (ns : List Note) → Works (rules_at t.at) (fresh t ∷ []) rest out left ns → 65535 < replacements ns

-- what comes of the name hangs neither on its place nor on what follows it
pub record IsAlone (one_token : List ℕ → Option Kind) (macros : List ℕ → Option Macro) (name : List ℕ) : Type 0 where
  pub names : List (List ℕ)
  pub flat : are_flat one_token macros names names ≡ true
  pub has : contains names name ≡ true

-- the token's name has been added, or nothing
abbrev pub Remembers : (List ℕ → Option Kind) → (List ℕ → Option Macro) → PpToken → List (List ℕ) → List (List ℕ) → Type 0
Remembers one_token macros t old new = (new ≡ old) ⊎ ((new ≡ old ++ t.text ∷ []) × (is_ident t.kind ≡ true) × IsAlone one_token macros t.text)
