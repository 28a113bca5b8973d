-- How the code keeps what stands on a line. No public clause rests on this.
use Rattle.std.specs.Prelude.{ℕ, ◌&&◌, List, [], ◌∷◌, codes, Bool, true, false, if◌then◌else◌}
use Rattle.cl_base.specs.Tokens.{is_ident, is_punct, spells, spells_hash}
use Rattle.cl_lex.specs.declared.item.ItemKind.{ItemKind}
use Rattle.cl_lex.specs.declared.item.ItemKind.TheVariants as item
use Rattle.cl_lex.specs.declared.item.Line.{Line}
use Rattle.cl_lex.specs.declared.item.Line.TheVariants as line
use Rattle.cl_lex.specs.Items.{Spelt, is_include}

-- what is kept of these tokens of a line, the later one first
abbrev pub line_of : List Spelt → Line
line_of [] = line.Start
line_of (hash ∷ []) = if is_punct hash.0 && spells_hash hash.1 then line.Hash else line.Rest
line_of (name ∷ hash ∷ []) = if is_include (name ∷ hash ∷ []) then line.Include else line.Rest
line_of _ = line.Rest

-- what is kept after one more item, of this spelling
abbrev pub line_by : Line → ItemKind → List ℕ → Line
line_by before item.NewLine text = line.Start
line_by line.Start (item.Token k) text = if is_punct k && spells_hash text then line.Hash else line.Rest
line_by line.Hash (item.Token k) text = if is_ident k && spells text (codes "include") then line.Include else line.Rest
line_by before (item.Token k) text = line.Rest
line_by before _ text = before

abbrev pub is_include_line : Line → Bool
is_include_line line.Include = true
is_include_line _ = false
