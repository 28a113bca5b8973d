-- What the tokens of a condition are in its grammar (N1570 6.6, 6.10.1).
use Rattle.std.specs.Prelude.{ℕ, pos, ◌+◌, ◌==◌, ◌&&◌, if◌then◌else◌, List, [], ◌∷◌, Option, Some, None}
use Rattle.cl_base.specs.declared.token.PpToken.{PpToken}
use Rattle.cl_base.specs.declared.token.Kind.{Kind}
use Rattle.cl_base.specs.declared.token.Kind.TheVariants as kind
use Rattle.cl_const.specs.declared.characters.Constant.{Constant}
use Rattle.cl_const.specs.declared.characters.Constant.TheVariants.{Known}
use Rattle.cl_const.specs.declared.number.Number.{Number}
use Rattle.cl_const.specs.declared.number.Number.TheVariants.{Signed}
use Rattle.cl_const.specs.declared.operators.Operator.TheVariants as op
use Rattle.cl_cond.specs.declared.word.Class.{Class}
use Rattle.cl_cond.specs.declared.word.Class.TheVariants.{Operand, Operator, Open, Close, Question, Colon, Other}
use Rattle.cl_cond.specs.declared.word.Word.{Word}
use Rattle.cl_const.specs.Integers.{integer}
use Rattle.cl_const.specs.Characters.{character}

abbrev pub class_of_number : Option Number → Class
class_of_number None = Other
class_of_number (Some n) = Operand (Known n)

abbrev pub class_of_constant : Option Constant → Class
class_of_constant None = Other
class_of_constant (Some constant) = Operand constant

abbrev pub class_of_byte : ℕ → Class
class_of_byte b =
    if b == 40 then Open
    else if b == 41 then Close
    else if b == 63 then Question
    else if b == 58 then Colon
    else if b == 124 then Operator op.BitOr
    else if b == 94 then Operator op.BitXor
    else if b == 38 then Operator op.BitAnd
    else if b == 60 then Operator op.Less
    else if b == 62 then Operator op.Greater
    else if b == 43 then Operator op.Plus
    else if b == 45 then Operator op.Minus
    else if b == 42 then Operator op.Times
    else if b == 47 then Operator op.Divide
    else if b == 37 then Operator op.Remainder
    else if b == 126 then Operator op.Complement
    else if b == 33 then Operator op.Not
    else Other

abbrev pub class_of_pair : ℕ → ℕ → Class
class_of_pair a b =
    if a == 124 && b == 124 then Operator op.Or
    else if a == 38 && b == 38 then Operator op.And
    else if a == 61 && b == 61 then Operator op.Equal
    else if a == 33 && b == 61 then Operator op.NotEqual
    else if a == 60 && b == 61 then Operator op.LessEqual
    else if a == 62 && b == 61 then Operator op.GreaterEqual
    else if a == 60 && b == 60 then Operator op.ShiftLeft
    else if a == 62 && b == 62 then Operator op.ShiftRight
    else Other

-- the punctuators (6.4.6) that a condition has
abbrev pub class_of_text : List ℕ → Class
class_of_text (a ∷ []) = class_of_byte a
class_of_text (a ∷ b ∷ []) = class_of_pair a b
class_of_text _ = Other

abbrev pub class_by : Kind → List ℕ → Class
class_by kind.Ident text = Operand (Known (Signed (pos 0)))
class_by kind.Number text = class_of_number (integer text)
class_by kind.Char text = class_of_constant (character text)
class_by kind.Punct text = class_of_text text
class_by _ text = Other

abbrev pub class_of : PpToken → Class
class_of token = class_by token.kind token.text

-- the tokens with their numbers, from this one on
abbrev pub words_from : ℕ → List PpToken → List Word
words_from n [] = []
words_from n (token ∷ tokens) = record { place = n; class = class_of token } ∷ words_from (n + 1) tokens
