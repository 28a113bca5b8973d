-- The keywords and punctuators of the grammar, and what they stand for.
use Rattle.std.specs.Prelude.{ℕ, List, [], ◌∷◌, cond, nat_eq, codes}
use Rattle.std.specs.Cmp.Lexicographic.{pointwise}
use Rattle.cl_base.specs.declared.token.Kind.{Kind}
use Rattle.cl_base.specs.declared.token.Kind.TheVariants as kind
use Rattle.cl_base.specs.declared.token.PpToken.{PpToken}
use Rattle.cl_tree.specs.declared.class.Class.TheVariants as cl
use Rattle.cl_tree.specs.declared.shape.Raw.{Raw}
use Rattle.cl_tree.specs.declared.shape.Raw.TheVariants as raw
use Rattle.cl_tree.specs.declared.shape.Ahead.{Ahead}
use Rattle.cl_tree.specs.declared.shape.Ahead.TheVariants as ahead
use Rattle.cl_tree.specs.declared.shape.Sort.{Sort}
use Rattle.cl_tree.specs.declared.spelling.Spelling.{Spelling as Row}

-- a spelling, and what it stands for
pub record Spelling : Type 0 where
  pub text : List ℕ
  pub sort : Sort

abbrev pub plain : Row → Spelling
plain r = record { text = r.text.now; sort = r.sort }

abbrev pub spelled : List ℕ → Raw → Ahead → Spelling
spelled s r a = record { text = s; sort = record { raw = r; ahead = a } }

abbrev pub sort : Raw → Sort
sort r = record { raw = r; ahead = ahead.Other }

-- the keywords (6.4.1)
unfoldable pub keywords : List Spelling
keywords =
    spelled (codes "_Alignas") (raw.Plain cl.Alignas) ahead.Type ∷
    spelled (codes "_Alignof") (raw.Plain cl.Alignof) ahead.Other ∷
    spelled (codes "_Atomic") raw.Atomic ahead.Type ∷
    spelled (codes "_Bool") (raw.Plain cl.Bool) ahead.Type ∷
    spelled (codes "_Complex") (raw.Plain cl.Other) ahead.Other ∷
    spelled (codes "_Generic") (raw.Plain cl.Generic) ahead.Other ∷
    spelled (codes "_Imaginary") (raw.Plain cl.Other) ahead.Other ∷
    spelled (codes "_Noreturn") (raw.Plain cl.Noreturn) ahead.Type ∷
    spelled (codes "_Static_assert") (raw.Plain cl.StaticAssert) ahead.Other ∷
    spelled (codes "_Thread_local") (raw.Plain cl.ThreadLocal) ahead.Type ∷
    spelled (codes "auto") (raw.Plain cl.Auto) ahead.Type ∷
    spelled (codes "break") (raw.Plain cl.Break) ahead.Other ∷
    spelled (codes "case") (raw.Plain cl.Case) ahead.Other ∷
    spelled (codes "char") (raw.Plain cl.Char) ahead.Type ∷
    spelled (codes "const") (raw.Plain cl.Const) ahead.Type ∷
    spelled (codes "continue") (raw.Plain cl.Continue) ahead.Other ∷
    spelled (codes "default") (raw.Plain cl.Default) ahead.Other ∷
    spelled (codes "do") (raw.Plain cl.Do) ahead.Other ∷
    spelled (codes "double") (raw.Plain cl.Double) ahead.Type ∷
    spelled (codes "else") (raw.Plain cl.Else) ahead.Other ∷
    spelled (codes "enum") (raw.Plain cl.Enum) ahead.Type ∷
    spelled (codes "extern") (raw.Plain cl.Extern) ahead.Type ∷
    spelled (codes "float") (raw.Plain cl.Float) ahead.Type ∷
    spelled (codes "for") (raw.Plain cl.For) ahead.Other ∷
    spelled (codes "goto") (raw.Plain cl.Goto) ahead.Other ∷
    spelled (codes "if") (raw.Plain cl.If) ahead.Other ∷
    spelled (codes "inline") (raw.Plain cl.Inline) ahead.Type ∷
    spelled (codes "int") (raw.Plain cl.Int) ahead.Type ∷
    spelled (codes "long") (raw.Plain cl.Long) ahead.Type ∷
    spelled (codes "register") (raw.Plain cl.Register) ahead.Type ∷
    spelled (codes "restrict") (raw.Plain cl.Restrict) ahead.Type ∷
    spelled (codes "return") (raw.Plain cl.Return) ahead.Other ∷
    spelled (codes "short") (raw.Plain cl.Short) ahead.Type ∷
    spelled (codes "signed") (raw.Plain cl.Signed) ahead.Type ∷
    spelled (codes "sizeof") (raw.Plain cl.Sizeof) ahead.Other ∷
    spelled (codes "static") (raw.Plain cl.Static) ahead.Type ∷
    spelled (codes "struct") (raw.Plain cl.Struct) ahead.Type ∷
    spelled (codes "switch") (raw.Plain cl.Switch) ahead.Other ∷
    spelled (codes "typedef") (raw.Plain cl.Typedef) ahead.Type ∷
    spelled (codes "union") (raw.Plain cl.Union) ahead.Type ∷
    spelled (codes "unsigned") (raw.Plain cl.Unsigned) ahead.Type ∷
    spelled (codes "void") (raw.Plain cl.Void) ahead.Type ∷
    spelled (codes "volatile") (raw.Plain cl.Volatile) ahead.Type ∷
    spelled (codes "while") (raw.Plain cl.While) ahead.Other ∷
    []

-- the punctuators of the grammar (6.4.6)
unfoldable pub punctuators : List Spelling
punctuators =
    spelled (codes "(") raw.Paren ahead.Paren ∷
    spelled (codes ")") (raw.Plain cl.RightParen) ahead.Other ∷
    spelled (codes ",") raw.Comma ahead.Other ∷
    spelled (codes ";") (raw.Plain cl.Semicolon) ahead.Other ∷
    spelled (codes "=") (raw.Plain cl.Equal) ahead.Other ∷
    spelled (codes "*") raw.Star ahead.Other ∷
    spelled (codes "->") (raw.Plain cl.Arrow) ahead.Other ∷
    spelled (codes "{") (raw.Plain cl.LeftBrace) ahead.Other ∷
    spelled (codes "}") (raw.Plain cl.RightBrace) ahead.End ∷
    spelled (codes ".") (raw.Plain cl.Dot) ahead.Designator ∷
    spelled (codes "[") (raw.Plain cl.LeftBracket) ahead.Designator ∷
    spelled (codes "]") (raw.Plain cl.RightBracket) ahead.Bracket ∷
    spelled (codes "&") (raw.Plain cl.Ampersand) ahead.Other ∷
    spelled (codes "+") (raw.Plain cl.Plus) ahead.Other ∷
    spelled (codes "-") (raw.Plain cl.Minus) ahead.Other ∷
    spelled (codes ":") (raw.Plain cl.Colon) ahead.Colon ∷
    spelled (codes "++") (raw.Plain cl.PlusPlus) ahead.Other ∷
    spelled (codes "--") (raw.Plain cl.MinusMinus) ahead.Other ∷
    spelled (codes "~") (raw.Plain cl.Tilde) ahead.Other ∷
    spelled (codes "!") (raw.Plain cl.Bang) ahead.Other ∷
    spelled (codes "/") (raw.Plain cl.Slash) ahead.Other ∷
    spelled (codes "%") (raw.Plain cl.Percent) ahead.Other ∷
    spelled (codes "<<") (raw.Plain cl.ShiftLeft) ahead.Other ∷
    spelled (codes ">>") (raw.Plain cl.ShiftRight) ahead.Other ∷
    spelled (codes "<") (raw.Plain cl.Less) ahead.Other ∷
    spelled (codes ">") (raw.Plain cl.Greater) ahead.Other ∷
    spelled (codes "<=") (raw.Plain cl.LessEqual) ahead.Other ∷
    spelled (codes ">=") (raw.Plain cl.GreaterEqual) ahead.Other ∷
    spelled (codes "==") (raw.Plain cl.EqualEqual) ahead.Other ∷
    spelled (codes "!=") (raw.Plain cl.BangEqual) ahead.Other ∷
    spelled (codes "^") (raw.Plain cl.Caret) ahead.Other ∷
    spelled (codes "|") (raw.Plain cl.Bar) ahead.Other ∷
    spelled (codes "&&") (raw.Plain cl.AndAnd) ahead.Other ∷
    spelled (codes "||") (raw.Plain cl.OrOr) ahead.Other ∷
    spelled (codes "?") (raw.Plain cl.Question) ahead.Other ∷
    spelled (codes "...") (raw.Plain cl.Ellipsis) ahead.End ∷
    spelled (codes "*=") (raw.Plain cl.StarEqual) ahead.Other ∷
    spelled (codes "/=") (raw.Plain cl.SlashEqual) ahead.Other ∷
    spelled (codes "%=") (raw.Plain cl.PercentEqual) ahead.Other ∷
    spelled (codes "+=") (raw.Plain cl.PlusEqual) ahead.Other ∷
    spelled (codes "-=") (raw.Plain cl.MinusEqual) ahead.Other ∷
    spelled (codes "<<=") (raw.Plain cl.ShiftLeftEqual) ahead.Other ∷
    spelled (codes ">>=") (raw.Plain cl.ShiftRightEqual) ahead.Other ∷
    spelled (codes "&=") (raw.Plain cl.AmpersandEqual) ahead.Other ∷
    spelled (codes "^=") (raw.Plain cl.CaretEqual) ahead.Other ∷
    spelled (codes "|=") (raw.Plain cl.BarEqual) ahead.Other ∷
    spelled (codes "<:") (raw.Plain cl.LeftBracket) ahead.Designator ∷
    spelled (codes ":>") (raw.Plain cl.RightBracket) ahead.Bracket ∷
    spelled (codes "<%") (raw.Plain cl.LeftBrace) ahead.Other ∷
    spelled (codes "%>") (raw.Plain cl.RightBrace) ahead.End ∷
    []

-- what a spelling stands for in a table, or else this
abbrev pub find : List Spelling → List ℕ → Sort → Sort
find [] text other = other
find (r ∷ rs) text other = cond (pointwise nat_eq r.text text) r.sort (find rs text other)

-- what a token is: a keyword is never an identifier, and a number or a character constant is a constant
abbrev pub sort_by : Kind → List ℕ → Sort
sort_by kind.Ident text = find keywords text (sort raw.Word)
sort_by kind.Number text = sort (raw.Plain cl.Constant)
sort_by kind.Char text = sort (raw.Plain cl.Constant)
sort_by kind.Str text = sort (raw.Plain cl.String)
sort_by kind.Header text = sort (raw.Plain cl.Other)
sort_by kind.Punct text = find punctuators text (sort (raw.Plain cl.Other))
sort_by kind.Other text = sort (raw.Plain cl.Other)

unfoldable pub sort_of : PpToken → Sort
sort_of token = sort_by token.kind token.text
