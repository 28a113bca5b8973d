-- What the code keeps of where items end.
use Rattle.std.specs.Prelude.{◌≡◌, ◌⊎◌, ℕ, ◌<◌, ◌≤◌, ◌-◌, List, length, Bool, true, false}
use Rattle.cl_base.specs.declared.token.PpToken.{PpToken}
use Rattle.cl_parse.specs.Extents.{AtDepth, begins_body, is_equal, is_semicolon, partner}
use Rattle.cl_parse.specs.declared.marks.Marks.{Marks}
use Rattle.cl_parse.specs.declared.marks.Sign.{Sign}
use Rattle.cl_parse.specs.declared.marks.Sign.TheVariants.{Semicolon, Equal, Body}

abbrev pub is_sign : List PpToken → List ℕ → Sign → ℕ → Bool
is_sign tokens pairs Semicolon i = is_semicolon tokens i
is_sign tokens pairs Equal i = is_equal tokens i
is_sign tokens pairs Body i = begins_body tokens pairs i

-- the first such token at the depth of a token, or the end
pub record IsFirst (tokens : List PpToken) (pairs : List ℕ) (sign : Sign) (from at : ℕ) : Type 0 where
  pub within : at ≤ length tokens
  pub stands : at < length tokens → AtDepth pairs from at × (is_sign tokens pairs sign at ≡ true)
  pub none : (i : ℕ) → i < at → AtDepth pairs from i → is_sign tokens pairs sign i ≡ false

pub record AreMarks (tokens : List PpToken) (pairs : List ℕ) (marks : Marks) : Type 0 where
  pub semicolon : IsFirst tokens pairs Semicolon marks.from marks.semicolon
  pub equal : IsFirst tokens pairs Equal marks.from marks.equal
  pub body : IsFirst tokens pairs Body marks.from marks.body

-- a place is the end, or at the depth of a token
abbrev pub Reaches : List ℕ → ℕ → ℕ → ℕ → Type 0
Reaches pairs end from to = (to ≡ end) ⊎ AtDepth pairs from to

-- so is the end of an item, if its last token is no open bracket
abbrev pub Ends : List ℕ → ℕ → ℕ → ℕ → Type 0
Ends pairs end from to = partner pairs (to - 1) < to → Reaches pairs end from to
