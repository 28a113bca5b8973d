-- What the code keeps of a line is what stands on it.
use Rattle.std.proofs.Common.{◌≡◌, ℕ, List, [], ◌∷◌, Bool, true, false, refl}
use Rattle.std.specs.Prelude.{◌&&◌, codes, if◌then◌else◌}
use Rattle.cl_base.specs.declared.token.Kind.{Kind}
use Rattle.cl_base.specs.Tokens.{is_ident, is_punct, spells, spells_hash}
use Rattle.cl_lex.specs.declared.item.ItemKind.{ItemKind}
use Rattle.cl_lex.specs.declared.item.ItemKind.TheVariants as item
use Rattle.cl_lex.specs.declared.item.Line.TheVariants as line
use Rattle.cl_lex.specs.Items.{Spelt, is_include, on_line_by}
use Rattle.cl_lex.specs.code.Machine.{is_include_line, line_by, line_of}

-- after one token
after_one : (b : Bool) (k : Kind) (text : List ℕ)
    → line_by (if b then line.Hash else line.Rest) (item.Token k) text
    ≡ (if b && (is_ident k && spells text (codes "include")) then line.Include else line.Rest)
after_one true k text = refl
after_one false k text = refl

after_two : (b : Bool) (k : Kind) (text : List ℕ) → line_by (if b then line.Include else line.Rest) (item.Token k) text ≡ line.Rest
after_two true k text = refl
after_two false k text = refl

token_on : (cs : List ℕ) (line_ : List Spelt) (k : Kind) (text : List ℕ) → line_by (line_of line_) (item.Token k) text ≡ line_of ((k, text) ∷ line_)
token_on cs [] k text = refl
token_on cs (hash ∷ []) k text = after_one (is_punct hash.0 && spells_hash hash.1) k text
token_on cs (name ∷ hash ∷ []) k text = after_two (is_include (name ∷ hash ∷ [])) k text
token_on cs (a ∷ b ∷ c ∷ rest) k text = refl

pub kept_on : (cs : List ℕ) (line_ : List Spelt) (k : ItemKind) (text : List ℕ) → line_by (line_of line_) k text ≡ line_of (on_line_by cs k text line_)
kept_on cs line_ (item.Token k) text = token_on cs line_ k text
kept_on cs line_ item.NewLine text = refl
kept_on cs line_ item.Comment text = refl
kept_on cs line_ item.OpenComment text = refl
kept_on cs line_ item.Space text = refl

if_include : (b : Bool) → is_include_line (if b then line.Include else line.Rest) ≡ b
if_include true = refl
if_include false = refl

if_hash : (b : Bool) → is_include_line (if b then line.Hash else line.Rest) ≡ false
if_hash true = refl
if_hash false = refl

pub include_kept : (line_ : List Spelt) → is_include_line (line_of line_) ≡ is_include line_
include_kept [] = refl
include_kept (hash ∷ []) = if_hash (is_punct hash.0 && spells_hash hash.1)
include_kept (name ∷ hash ∷ []) = if_include (is_include (name ∷ hash ∷ []))
include_kept (a ∷ b ∷ c ∷ rest) = refl
