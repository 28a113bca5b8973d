-- The grammar of expressions, declarations, statements and function definitions: N1570 A.2, in the standard's order and with its section numbers.
-- Written by tools/grammar/emit_tree.py from tools/grammar/annex.py.
use Rattle.std.specs.Prelude.{ℕ, List, [], ◌∷◌, ◌++◌, Option, Some, None, Bool, true, false, slice_range}
use Rattle.cl_tree.specs.declared.class.Class.{Class}
use Rattle.cl_tree.specs.declared.class.Class.TheVariants as cl
use Rattle.cl_tree.specs.declared.rule.Rule.{Rule}
use Rattle.cl_tree.specs.declared.rule.Rule.TheVariants as ru
use Rattle.cl_tree.specs.declared.nonterminal.Nonterminal.{Nonterminal}
use Rattle.cl_tree.specs.declared.nonterminal.Nonterminal.TheVariants as nt
use Rattle.cl_tree.specs.declared.grammar.Terminal.{Terminal}
use Rattle.cl_tree.specs.declared.grammar.Terminal.TheVariants as te
use Rattle.cl_tree.specs.declared.grammar.Act.{Act}
use Rattle.cl_tree.specs.declared.grammar.Act.TheVariants as ac
use Rattle.cl_tree.specs.declared.grammar.Symbol.{Symbol}
use Rattle.cl_tree.specs.declared.grammar.Symbol.TheVariants.{Token, Node, Entry}
use Rattle.cl_tree.specs.declared.grammar.Part.{Part}
use Rattle.cl_tree.specs.declared.grammar.Part.TheVariants.{One, Optional, Many}
use Rattle.cl_tree.specs.declared.grammar.Again.{Again}
use Rattle.cl_tree.specs.declared.grammar.Unit.{Unit as UnitRow}
use Rattle.cl_tree.specs.declared.grammar.Production.{Production as ProductionRow}

-- a production: its nonterminal, the rule and number of its node, its right side, how a list goes on, which tokens may not follow, and whether what
-- is declared in the node is gone after it
pub record Production : Type 0 where
  pub of : Nonterminal
  pub rule : Rule
  pub choice : ℕ
  pub parts : List Part
  pub again : List Again
  pub bar : Option Terminal
  pub scoped : Bool

-- the classes of tokens that a terminal stands for
abbrev pub takes : Terminal → List Class
takes (te.Is k) = k ∷ []
takes te.Name = cl.Ident ∷ cl.IdentColon ∷ cl.TypedefName ∷ cl.TypedefColon ∷ []
takes te.Open = cl.LeftParen ∷ cl.TypeParen ∷ cl.LiteralParen ∷ []
takes te.TypeOpen = cl.TypeParen ∷ cl.LiteralParen ∷ []
takes te.Typed = cl.TypedefName ∷ cl.TypedefColon ∷ []
takes te.Label = cl.IdentColon ∷ cl.TypedefColon ∷ []
takes te.Marked = cl.IdentColon ∷ cl.TypedefName ∷ cl.TypedefColon ∷ []

abbrev pub is : Class → Terminal
is k = te.Is k

-- a token, a token that does something to the names, a nonterminal
abbrev pub t : Terminal → Symbol
t k = Token k ac.Stay

abbrev pub act : Terminal → Act → Symbol
act k a = Token k a

abbrev pub n : Nonterminal → Symbol
n g = Node g

-- an item of a block, or what is none
abbrev pub entry : Symbol
entry = Entry

abbrev pub one : Symbol → Part
one x = One x

abbrev pub opt : Symbol → Part
opt x = Optional x

abbrev pub many : Symbol → Part
many x = Many x

abbrev pub production : Nonterminal → Rule → ℕ → List Part → Production
production g r c ps = record { of = g; rule = r; choice = c; parts = ps; again = []; bar = None; scoped = false }

-- a list whose members are separated
abbrev pub separated : Class → Act → ℕ → Again
separated k a i = record { separator = record { class = k; act = a }; part = i }

abbrev pub listed : Nonterminal → Rule → List Part → List Again → Production
listed g r ps more = record { of = g; rule = r; choice = 0; parts = ps; again = more; bar = None; scoped = false }

-- a production after which no typedef name may stand
abbrev pub untyped : Nonterminal → Rule → ℕ → List Part → Production
untyped g r c ps = record { of = g; rule = r; choice = c; parts = ps; again = []; bar = Some te.Typed; scoped = false }

-- a statement that is a block (6.8.4p3, 6.8.5p5)
abbrev pub scoped : Nonterminal → Rule → ℕ → List Part → Production
scoped g r c ps = record { of = g; rule = r; choice = c; parts = ps; again = []; bar = None; scoped = true }

-- a statement that is a block, after which an `else` may stand only where no statement derives after that: an `else` goes with the nearest `if` that
-- the syntax allows (6.8.4.1p3)
abbrev pub without_else : Nonterminal → Rule → ℕ → List Part → Production
without_else g r c ps = record { of = g; rule = r; choice = c; parts = ps; again = []; bar = Some (te.Is cl.Else); scoped = true }

abbrev pub unit : Nonterminal → Nonterminal → UnitRow
unit g u = record { of = g; by = u }

-- the productions that make a node; a statement that ends with an `if` without `else` is open, any other closed
unfoldable pub productions : List Production
productions =
    -- primary-expression (6.5.1)
    production nt.PrimaryExpression ru.PrimaryExpression 0 (one (t te.Name) ∷ []) ∷
    production nt.PrimaryExpression ru.PrimaryExpression 1 (one (t (is cl.Constant)) ∷ []) ∷
    production nt.PrimaryExpression ru.PrimaryExpression 2 (one (t (is cl.String)) ∷ many (t (is cl.String)) ∷ []) ∷
    production nt.PrimaryExpression ru.PrimaryExpression 3 (one (t (is cl.LeftParen)) ∷ one (n nt.Expression) ∷ one (t (is cl.RightParen)) ∷ []) ∷
    -- generic-selection (6.5.1.1)
    production nt.GenericSelection ru.GenericSelection 0 (one (t (is cl.Generic)) ∷ one (t te.Open) ∷ one (n nt.AssignmentExpression) ∷ one (t (is cl.Comma)) ∷ one (n nt.GenericAssocList) ∷ one (t (is cl.RightParen)) ∷ []) ∷
    -- generic-assoc-list (6.5.1.1)
    listed nt.GenericAssocList ru.GenericAssocList (one (n nt.GenericAssociation) ∷ []) (separated cl.Comma ac.Stay 0 ∷ []) ∷
    -- generic-association (6.5.1.1)
    production nt.GenericAssociation ru.GenericAssociation 0 (one (n nt.TypeName) ∷ one (t (is cl.Colon)) ∷ one (n nt.AssignmentExpression) ∷ []) ∷
    production nt.GenericAssociation ru.GenericAssociation 1 (one (t (is cl.Default)) ∷ one (t (is cl.Colon)) ∷ one (n nt.AssignmentExpression) ∷ []) ∷
    -- postfix-expression (6.5.2)
    production nt.PostfixExpression ru.PostfixExpression 1 (one (n nt.PostfixExpression) ∷ one (t (is cl.LeftBracket)) ∷ one (n nt.Expression) ∷ one (t (is cl.RightBracket)) ∷ []) ∷
    production nt.PostfixExpression ru.PostfixExpression 2 (one (n nt.PostfixExpression) ∷ one (t te.Open) ∷ opt (n nt.ArgumentExpressionList) ∷ one (t (is cl.RightParen)) ∷ []) ∷
    production nt.PostfixExpression ru.PostfixExpression 3 (one (n nt.PostfixExpression) ∷ one (t (is cl.Dot)) ∷ one (t te.Name) ∷ []) ∷
    production nt.PostfixExpression ru.PostfixExpression 4 (one (n nt.PostfixExpression) ∷ one (t (is cl.Arrow)) ∷ one (t te.Name) ∷ []) ∷
    production nt.PostfixExpression ru.PostfixExpression 5 (one (n nt.PostfixExpression) ∷ one (t (is cl.PlusPlus)) ∷ []) ∷
    production nt.PostfixExpression ru.PostfixExpression 6 (one (n nt.PostfixExpression) ∷ one (t (is cl.MinusMinus)) ∷ []) ∷
    production nt.PostfixExpression ru.PostfixExpression 7 (one (t (is cl.LiteralParen)) ∷ one (n nt.TypeName) ∷ one (t (is cl.RightParen)) ∷ one (t (is cl.LeftBrace)) ∷ one (n nt.InitializerList) ∷ one (t (is cl.RightBrace)) ∷ []) ∷
    production nt.PostfixExpression ru.PostfixExpression 8 (one (t (is cl.LiteralParen)) ∷ one (n nt.TypeName) ∷ one (t (is cl.RightParen)) ∷ one (t (is cl.LeftBrace)) ∷ one (n nt.InitializerList) ∷ one (t (is cl.LastComma)) ∷ one (t (is cl.RightBrace)) ∷ []) ∷
    -- argument-expression-list (6.5.2)
    listed nt.ArgumentExpressionList ru.ArgumentExpressionList (one (n nt.AssignmentExpression) ∷ []) (separated cl.Comma ac.Stay 0 ∷ []) ∷
    -- unary-expression (6.5.3)
    production nt.UnaryExpression ru.UnaryExpression 1 (one (t (is cl.PlusPlus)) ∷ one (n nt.UnaryExpression) ∷ []) ∷
    production nt.UnaryExpression ru.UnaryExpression 2 (one (t (is cl.MinusMinus)) ∷ one (n nt.UnaryExpression) ∷ []) ∷
    production nt.UnaryExpression ru.UnaryExpression 3 (one (n nt.UnaryOperator) ∷ one (n nt.CastExpression) ∷ []) ∷
    production nt.UnaryExpression ru.UnaryExpression 4 (one (t (is cl.Sizeof)) ∷ one (n nt.UnaryExpression) ∷ []) ∷
    production nt.UnaryExpression ru.UnaryExpression 5 (one (t (is cl.Sizeof)) ∷ one (t (is cl.TypeParen)) ∷ one (n nt.TypeName) ∷ one (t (is cl.RightParen)) ∷ []) ∷
    production nt.UnaryExpression ru.UnaryExpression 6 (one (t (is cl.Alignof)) ∷ one (t te.TypeOpen) ∷ one (n nt.TypeName) ∷ one (t (is cl.RightParen)) ∷ []) ∷
    -- unary-operator (6.5.3)
    production nt.UnaryOperator ru.UnaryOperator 0 (one (t (is cl.Ampersand)) ∷ []) ∷
    production nt.UnaryOperator ru.UnaryOperator 1 (one (t (is cl.Star)) ∷ []) ∷
    production nt.UnaryOperator ru.UnaryOperator 2 (one (t (is cl.Plus)) ∷ []) ∷
    production nt.UnaryOperator ru.UnaryOperator 3 (one (t (is cl.Minus)) ∷ []) ∷
    production nt.UnaryOperator ru.UnaryOperator 4 (one (t (is cl.Tilde)) ∷ []) ∷
    production nt.UnaryOperator ru.UnaryOperator 5 (one (t (is cl.Bang)) ∷ []) ∷
    -- cast-expression (6.5.4)
    production nt.CastExpression ru.CastExpression 1 (one (t (is cl.TypeParen)) ∷ one (n nt.TypeName) ∷ one (t (is cl.RightParen)) ∷ one (n nt.CastExpression) ∷ []) ∷
    -- multiplicative-expression (6.5.5)
    production nt.MultiplicativeExpression ru.MultiplicativeExpression 1 (one (n nt.MultiplicativeExpression) ∷ one (t (is cl.Star)) ∷ one (n nt.CastExpression) ∷ []) ∷
    production nt.MultiplicativeExpression ru.MultiplicativeExpression 2 (one (n nt.MultiplicativeExpression) ∷ one (t (is cl.Slash)) ∷ one (n nt.CastExpression) ∷ []) ∷
    production nt.MultiplicativeExpression ru.MultiplicativeExpression 3 (one (n nt.MultiplicativeExpression) ∷ one (t (is cl.Percent)) ∷ one (n nt.CastExpression) ∷ []) ∷
    -- additive-expression (6.5.6)
    production nt.AdditiveExpression ru.AdditiveExpression 1 (one (n nt.AdditiveExpression) ∷ one (t (is cl.Plus)) ∷ one (n nt.MultiplicativeExpression) ∷ []) ∷
    production nt.AdditiveExpression ru.AdditiveExpression 2 (one (n nt.AdditiveExpression) ∷ one (t (is cl.Minus)) ∷ one (n nt.MultiplicativeExpression) ∷ []) ∷
    -- shift-expression (6.5.7)
    production nt.ShiftExpression ru.ShiftExpression 1 (one (n nt.ShiftExpression) ∷ one (t (is cl.ShiftLeft)) ∷ one (n nt.AdditiveExpression) ∷ []) ∷
    production nt.ShiftExpression ru.ShiftExpression 2 (one (n nt.ShiftExpression) ∷ one (t (is cl.ShiftRight)) ∷ one (n nt.AdditiveExpression) ∷ []) ∷
    -- relational-expression (6.5.8)
    production nt.RelationalExpression ru.RelationalExpression 1 (one (n nt.RelationalExpression) ∷ one (t (is cl.Less)) ∷ one (n nt.ShiftExpression) ∷ []) ∷
    production nt.RelationalExpression ru.RelationalExpression 2 (one (n nt.RelationalExpression) ∷ one (t (is cl.Greater)) ∷ one (n nt.ShiftExpression) ∷ []) ∷
    production nt.RelationalExpression ru.RelationalExpression 3 (one (n nt.RelationalExpression) ∷ one (t (is cl.LessEqual)) ∷ one (n nt.ShiftExpression) ∷ []) ∷
    production nt.RelationalExpression ru.RelationalExpression 4 (one (n nt.RelationalExpression) ∷ one (t (is cl.GreaterEqual)) ∷ one (n nt.ShiftExpression) ∷ []) ∷
    -- equality-expression (6.5.9)
    production nt.EqualityExpression ru.EqualityExpression 1 (one (n nt.EqualityExpression) ∷ one (t (is cl.EqualEqual)) ∷ one (n nt.RelationalExpression) ∷ []) ∷
    production nt.EqualityExpression ru.EqualityExpression 2 (one (n nt.EqualityExpression) ∷ one (t (is cl.BangEqual)) ∷ one (n nt.RelationalExpression) ∷ []) ∷
    -- AND-expression (6.5.10)
    production nt.AndExpression ru.AndExpression 1 (one (n nt.AndExpression) ∷ one (t (is cl.Ampersand)) ∷ one (n nt.EqualityExpression) ∷ []) ∷
    -- exclusive-OR-expression (6.5.11)
    production nt.ExclusiveOrExpression ru.ExclusiveOrExpression 1 (one (n nt.ExclusiveOrExpression) ∷ one (t (is cl.Caret)) ∷ one (n nt.AndExpression) ∷ []) ∷
    -- inclusive-OR-expression (6.5.12)
    production nt.InclusiveOrExpression ru.InclusiveOrExpression 1 (one (n nt.InclusiveOrExpression) ∷ one (t (is cl.Bar)) ∷ one (n nt.ExclusiveOrExpression) ∷ []) ∷
    -- logical-AND-expression (6.5.13)
    production nt.LogicalAndExpression ru.LogicalAndExpression 1 (one (n nt.LogicalAndExpression) ∷ one (t (is cl.AndAnd)) ∷ one (n nt.InclusiveOrExpression) ∷ []) ∷
    -- logical-OR-expression (6.5.14)
    production nt.LogicalOrExpression ru.LogicalOrExpression 1 (one (n nt.LogicalOrExpression) ∷ one (t (is cl.OrOr)) ∷ one (n nt.LogicalAndExpression) ∷ []) ∷
    -- conditional-expression (6.5.15)
    production nt.ConditionalExpression ru.ConditionalExpression 1 (one (n nt.LogicalOrExpression) ∷ one (t (is cl.Question)) ∷ one (n nt.Expression) ∷ one (t (is cl.Colon)) ∷ one (n nt.ConditionalExpression) ∷ []) ∷
    -- assignment-expression (6.5.16)
    production nt.AssignmentExpression ru.AssignmentExpression 1 (one (n nt.UnaryExpression) ∷ one (n nt.AssignmentOperator) ∷ one (n nt.AssignmentExpression) ∷ []) ∷
    -- assignment-operator (6.5.16)
    production nt.AssignmentOperator ru.AssignmentOperator 0 (one (t (is cl.Equal)) ∷ []) ∷
    production nt.AssignmentOperator ru.AssignmentOperator 1 (one (t (is cl.StarEqual)) ∷ []) ∷
    production nt.AssignmentOperator ru.AssignmentOperator 2 (one (t (is cl.SlashEqual)) ∷ []) ∷
    production nt.AssignmentOperator ru.AssignmentOperator 3 (one (t (is cl.PercentEqual)) ∷ []) ∷
    production nt.AssignmentOperator ru.AssignmentOperator 4 (one (t (is cl.PlusEqual)) ∷ []) ∷
    production nt.AssignmentOperator ru.AssignmentOperator 5 (one (t (is cl.MinusEqual)) ∷ []) ∷
    production nt.AssignmentOperator ru.AssignmentOperator 6 (one (t (is cl.ShiftLeftEqual)) ∷ []) ∷
    production nt.AssignmentOperator ru.AssignmentOperator 7 (one (t (is cl.ShiftRightEqual)) ∷ []) ∷
    production nt.AssignmentOperator ru.AssignmentOperator 8 (one (t (is cl.AmpersandEqual)) ∷ []) ∷
    production nt.AssignmentOperator ru.AssignmentOperator 9 (one (t (is cl.CaretEqual)) ∷ []) ∷
    production nt.AssignmentOperator ru.AssignmentOperator 10 (one (t (is cl.BarEqual)) ∷ []) ∷
    -- expression (6.5.17)
    production nt.Expression ru.Expression 1 (one (n nt.Expression) ∷ one (t (is cl.Comma)) ∷ one (n nt.AssignmentExpression) ∷ []) ∷
    -- declaration (6.7)
    production nt.Declaration ru.Declaration 0 (one (n nt.DeclarationSpecifiers) ∷ opt (n nt.InitDeclaratorList) ∷ one (act (is cl.Semicolon) ac.Finish) ∷ []) ∷
    -- declaration-specifiers (6.7)
    untyped nt.DeclarationSpecifiers ru.DeclarationSpecifiers 0 (one (n nt.OtherSpecifier) ∷ many (n nt.OtherSpecifier) ∷ []) ∷
    production nt.DeclarationSpecifiers ru.DeclarationSpecifiers 0 (many (n nt.OtherSpecifier) ∷ one (n nt.TypeSpecifier) ∷ many (n nt.LaterSpecifier) ∷ []) ∷
    -- init-declarator-list (6.7)
    listed nt.InitDeclaratorList ru.InitDeclaratorList (one (n nt.InitDeclarator) ∷ []) (separated cl.Comma ac.Declare 0 ∷ []) ∷
    -- init-declarator (6.7)
    production nt.InitDeclarator ru.InitDeclarator 1 (one (n nt.Declarator) ∷ one (act (is cl.Equal) ac.Declare) ∷ one (n nt.Initializer) ∷ []) ∷
    -- storage-class-specifier (6.7.1)
    production nt.StorageClassSpecifier ru.StorageClassSpecifier 0 (one (act (is cl.Typedef) ac.Typedef) ∷ []) ∷
    production nt.StorageClassSpecifier ru.StorageClassSpecifier 1 (one (t (is cl.Extern)) ∷ []) ∷
    production nt.StorageClassSpecifier ru.StorageClassSpecifier 2 (one (t (is cl.Static)) ∷ []) ∷
    production nt.StorageClassSpecifier ru.StorageClassSpecifier 3 (one (t (is cl.ThreadLocal)) ∷ []) ∷
    production nt.StorageClassSpecifier ru.StorageClassSpecifier 4 (one (t (is cl.Auto)) ∷ []) ∷
    production nt.StorageClassSpecifier ru.StorageClassSpecifier 5 (one (t (is cl.Register)) ∷ []) ∷
    -- A type specifier that is no typedef name: any after another one (6.7.2)
    production nt.LaterTypeSpecifier ru.TypeSpecifier 0 (one (t (is cl.Void)) ∷ []) ∷
    production nt.LaterTypeSpecifier ru.TypeSpecifier 1 (one (t (is cl.Char)) ∷ []) ∷
    production nt.LaterTypeSpecifier ru.TypeSpecifier 2 (one (t (is cl.Short)) ∷ []) ∷
    production nt.LaterTypeSpecifier ru.TypeSpecifier 3 (one (t (is cl.Int)) ∷ []) ∷
    production nt.LaterTypeSpecifier ru.TypeSpecifier 4 (one (t (is cl.Long)) ∷ []) ∷
    production nt.LaterTypeSpecifier ru.TypeSpecifier 5 (one (t (is cl.Float)) ∷ []) ∷
    production nt.LaterTypeSpecifier ru.TypeSpecifier 6 (one (t (is cl.Double)) ∷ []) ∷
    production nt.LaterTypeSpecifier ru.TypeSpecifier 7 (one (t (is cl.Signed)) ∷ []) ∷
    production nt.LaterTypeSpecifier ru.TypeSpecifier 8 (one (t (is cl.Unsigned)) ∷ []) ∷
    production nt.LaterTypeSpecifier ru.TypeSpecifier 9 (one (t (is cl.Bool)) ∷ []) ∷
    -- struct-or-union-specifier (6.7.2.1)
    production nt.StructOrUnionSpecifier ru.StructOrUnionSpecifier 0 (one (n nt.StructOrUnion) ∷ opt (t te.Name) ∷ one (act (is cl.LeftBrace) ac.Open) ∷ one (n nt.StructDeclarationList) ∷ one (act (is cl.RightBrace) ac.Shut) ∷ []) ∷
    production nt.StructOrUnionSpecifier ru.StructOrUnionSpecifier 1 (one (n nt.StructOrUnion) ∷ one (t te.Name) ∷ []) ∷
    -- struct-or-union (6.7.2.1)
    production nt.StructOrUnion ru.StructOrUnion 0 (one (t (is cl.Struct)) ∷ []) ∷
    production nt.StructOrUnion ru.StructOrUnion 1 (one (t (is cl.Union)) ∷ []) ∷
    -- struct-declaration-list (6.7.2.1)
    production nt.StructDeclarationList ru.StructDeclarationList 0 (one (n nt.StructDeclaration) ∷ many (n nt.StructDeclaration) ∷ []) ∷
    -- struct-declaration (6.7.2.1)
    production nt.StructDeclaration ru.StructDeclaration 0 (one (n nt.SpecifierQualifierList) ∷ opt (n nt.StructDeclaratorList) ∷ one (act (is cl.Semicolon) ac.Forget) ∷ []) ∷
    -- specifier-qualifier-list (6.7.2.1)
    untyped nt.SpecifierQualifierList ru.SpecifierQualifierList 0 (one (n nt.TypeQualifier) ∷ many (n nt.TypeQualifier) ∷ []) ∷
    production nt.SpecifierQualifierList ru.SpecifierQualifierList 0 (many (n nt.TypeQualifier) ∷ one (n nt.TypeSpecifier) ∷ many (n nt.LaterQualifier) ∷ []) ∷
    -- struct-declarator-list (6.7.2.1)
    listed nt.StructDeclaratorList ru.StructDeclaratorList (one (n nt.StructDeclarator) ∷ []) (separated cl.Comma ac.Forget 0 ∷ []) ∷
    -- struct-declarator (6.7.2.1)
    production nt.StructDeclarator ru.StructDeclarator 1 (one (n nt.Declarator) ∷ one (act (is cl.Colon) ac.Forget) ∷ one (n nt.ConstantExpression) ∷ []) ∷
    production nt.StructDeclarator ru.StructDeclarator 1 (one (t (is cl.Colon)) ∷ one (n nt.ConstantExpression) ∷ []) ∷
    -- enum-specifier (6.7.2.2)
    production nt.EnumSpecifier ru.EnumSpecifier 0 (one (t (is cl.Enum)) ∷ opt (t te.Name) ∷ one (act (is cl.LeftBrace) ac.Open) ∷ one (n nt.EnumeratorList) ∷ one (act (is cl.RightBrace) ac.Shut) ∷ []) ∷
    production nt.EnumSpecifier ru.EnumSpecifier 1 (one (t (is cl.Enum)) ∷ opt (t te.Name) ∷ one (act (is cl.LeftBrace) ac.Open) ∷ one (n nt.EnumeratorList) ∷ one (t (is cl.LastComma)) ∷ one (act (is cl.RightBrace) ac.Shut) ∷ []) ∷
    production nt.EnumSpecifier ru.EnumSpecifier 2 (one (t (is cl.Enum)) ∷ one (t te.Name) ∷ []) ∷
    -- enumerator-list (6.7.2.2)
    listed nt.EnumeratorList ru.EnumeratorList (one (n nt.Enumerator) ∷ []) (separated cl.Comma ac.Declare 0 ∷ []) ∷
    -- enumerator (6.7.2.2)
    production nt.Enumerator ru.Enumerator 0 (one (act te.Name ac.Name) ∷ []) ∷
    production nt.Enumerator ru.Enumerator 1 (one (act te.Name ac.Name) ∷ one (t (is cl.Equal)) ∷ one (n nt.ConstantExpression) ∷ []) ∷
    -- atomic-type-specifier (6.7.2.4)
    production nt.AtomicTypeSpecifier ru.AtomicTypeSpecifier 0 (one (t (is cl.AtomicParen)) ∷ one (t te.TypeOpen) ∷ one (n nt.TypeName) ∷ one (t (is cl.RightParen)) ∷ []) ∷
    -- type-qualifier (6.7.3)
    production nt.TypeQualifier ru.TypeQualifier 0 (one (t (is cl.Const)) ∷ []) ∷
    production nt.TypeQualifier ru.TypeQualifier 1 (one (t (is cl.Restrict)) ∷ []) ∷
    production nt.TypeQualifier ru.TypeQualifier 2 (one (t (is cl.Volatile)) ∷ []) ∷
    production nt.TypeQualifier ru.TypeQualifier 3 (one (t (is cl.Atomic)) ∷ []) ∷
    -- function-specifier (6.7.4)
    production nt.FunctionSpecifier ru.FunctionSpecifier 0 (one (t (is cl.Inline)) ∷ []) ∷
    production nt.FunctionSpecifier ru.FunctionSpecifier 1 (one (t (is cl.Noreturn)) ∷ []) ∷
    -- alignment-specifier (6.7.5)
    production nt.AlignmentSpecifier ru.AlignmentSpecifier 0 (one (t (is cl.Alignas)) ∷ one (t te.TypeOpen) ∷ one (n nt.TypeName) ∷ one (t (is cl.RightParen)) ∷ []) ∷
    production nt.AlignmentSpecifier ru.AlignmentSpecifier 1 (one (t (is cl.Alignas)) ∷ one (t (is cl.LeftParen)) ∷ one (n nt.ConstantExpression) ∷ one (t (is cl.RightParen)) ∷ []) ∷
    -- declarator (6.7.6)
    production nt.Declarator ru.Declarator 0 (one (n nt.Pointer) ∷ one (n nt.DirectDeclarator) ∷ []) ∷
    -- direct-declarator (6.7.6)
    production nt.DirectDeclarator ru.DirectDeclarator 0 (one (act te.Name ac.Name) ∷ []) ∷
    production nt.DirectDeclarator ru.DirectDeclarator 1 (one (t te.Open) ∷ one (n nt.Declarator) ∷ one (t (is cl.RightParen)) ∷ []) ∷
    production nt.DirectDeclarator ru.DirectDeclarator 2 (one (n nt.DirectDeclarator) ∷ one (t (is cl.LeftBracket)) ∷ opt (n nt.TypeQualifierList) ∷ opt (n nt.AssignmentExpression) ∷ one (t (is cl.RightBracket)) ∷ []) ∷
    production nt.DirectDeclarator ru.DirectDeclarator 3 (one (n nt.DirectDeclarator) ∷ one (t (is cl.LeftBracket)) ∷ one (t (is cl.Static)) ∷ opt (n nt.TypeQualifierList) ∷ one (n nt.AssignmentExpression) ∷ one (t (is cl.RightBracket)) ∷ []) ∷
    production nt.DirectDeclarator ru.DirectDeclarator 4 (one (n nt.DirectDeclarator) ∷ one (t (is cl.LeftBracket)) ∷ one (n nt.TypeQualifierList) ∷ one (t (is cl.Static)) ∷ one (n nt.AssignmentExpression) ∷ one (t (is cl.RightBracket)) ∷ []) ∷
    production nt.DirectDeclarator ru.DirectDeclarator 5 (one (n nt.DirectDeclarator) ∷ one (t (is cl.LeftBracket)) ∷ opt (n nt.TypeQualifierList) ∷ one (t (is cl.StarBracket)) ∷ one (t (is cl.RightBracket)) ∷ []) ∷
    production nt.DirectDeclarator ru.DirectDeclarator 6 (one (n nt.DirectDeclarator) ∷ one (act te.TypeOpen ac.Open) ∷ one (n nt.ParameterTypeList) ∷ one (act (is cl.RightParen) ac.Close) ∷ []) ∷
    production nt.DirectDeclarator ru.DirectDeclarator 7 (one (n nt.DirectDeclarator) ∷ one (act (is cl.LeftParen) ac.Open) ∷ opt (n nt.IdentifierList) ∷ one (act (is cl.RightParen) ac.Close) ∷ []) ∷
    -- A declarator of a parameter: after its `(` a type begins parameters (6.7.6)
    production nt.ParameterDeclarator ru.Declarator 0 (one (n nt.Pointer) ∷ one (n nt.DirectParameterDeclarator) ∷ []) ∷
    -- A direct-declarator of a parameter (6.7.6)
    production nt.DirectParameterDeclarator ru.DirectDeclarator 0 (one (act te.Name ac.Name) ∷ []) ∷
    production nt.DirectParameterDeclarator ru.DirectDeclarator 1 (one (t (is cl.LeftParen)) ∷ one (n nt.ParameterDeclarator) ∷ one (t (is cl.RightParen)) ∷ []) ∷
    production nt.DirectParameterDeclarator ru.DirectDeclarator 2 (one (n nt.DirectParameterDeclarator) ∷ one (t (is cl.LeftBracket)) ∷ opt (n nt.TypeQualifierList) ∷ opt (n nt.AssignmentExpression) ∷ one (t (is cl.RightBracket)) ∷ []) ∷
    production nt.DirectParameterDeclarator ru.DirectDeclarator 3 (one (n nt.DirectParameterDeclarator) ∷ one (t (is cl.LeftBracket)) ∷ one (t (is cl.Static)) ∷ opt (n nt.TypeQualifierList) ∷ one (n nt.AssignmentExpression) ∷ one (t (is cl.RightBracket)) ∷ []) ∷
    production nt.DirectParameterDeclarator ru.DirectDeclarator 4 (one (n nt.DirectParameterDeclarator) ∷ one (t (is cl.LeftBracket)) ∷ one (n nt.TypeQualifierList) ∷ one (t (is cl.Static)) ∷ one (n nt.AssignmentExpression) ∷ one (t (is cl.RightBracket)) ∷ []) ∷
    production nt.DirectParameterDeclarator ru.DirectDeclarator 5 (one (n nt.DirectParameterDeclarator) ∷ one (t (is cl.LeftBracket)) ∷ opt (n nt.TypeQualifierList) ∷ one (t (is cl.StarBracket)) ∷ one (t (is cl.RightBracket)) ∷ []) ∷
    production nt.DirectParameterDeclarator ru.DirectDeclarator 6 (one (n nt.DirectParameterDeclarator) ∷ one (act te.TypeOpen ac.Open) ∷ one (n nt.ParameterTypeList) ∷ one (act (is cl.RightParen) ac.Close) ∷ []) ∷
    production nt.DirectParameterDeclarator ru.DirectDeclarator 7 (one (n nt.DirectParameterDeclarator) ∷ one (act (is cl.LeftParen) ac.Open) ∷ opt (n nt.IdentifierList) ∷ one (act (is cl.RightParen) ac.Close) ∷ []) ∷
    -- pointer (6.7.6)
    production nt.Pointer ru.Pointer 0 (one (t (is cl.Star)) ∷ opt (n nt.TypeQualifierList) ∷ []) ∷
    production nt.Pointer ru.Pointer 1 (one (t (is cl.Star)) ∷ opt (n nt.TypeQualifierList) ∷ one (n nt.Pointer) ∷ []) ∷
    -- type-qualifier-list (6.7.6)
    production nt.TypeQualifierList ru.TypeQualifierList 0 (one (n nt.TypeQualifier) ∷ many (n nt.TypeQualifier) ∷ []) ∷
    -- parameter-type-list (6.7.6)
    production nt.ParameterTypeList ru.ParameterTypeList 1 (one (n nt.ParameterList) ∷ one (t (is cl.LastComma)) ∷ one (t (is cl.Ellipsis)) ∷ []) ∷
    -- parameter-list (6.7.6)
    listed nt.ParameterList ru.ParameterList (one (n nt.ParameterDeclaration) ∷ []) (separated cl.Comma ac.Finish 0 ∷ []) ∷
    -- parameter-declaration (6.7.6)
    production nt.ParameterDeclaration ru.ParameterDeclaration 0 (one (n nt.DeclarationSpecifiers) ∷ one (n nt.ParameterDeclarator) ∷ []) ∷
    production nt.ParameterDeclaration ru.ParameterDeclaration 1 (one (n nt.DeclarationSpecifiers) ∷ one (n nt.AbstractDeclarator) ∷ []) ∷
    -- identifier-list (6.7.6)
    listed nt.IdentifierList ru.IdentifierList (one (t te.Name) ∷ []) (separated cl.Comma ac.Stay 0 ∷ []) ∷
    -- type-name (6.7.7)
    production nt.TypeName ru.TypeName 0 (one (n nt.SpecifierQualifierList) ∷ one (n nt.AbstractDeclarator) ∷ []) ∷
    -- abstract-declarator (6.7.7)
    production nt.AbstractDeclarator ru.AbstractDeclarator 1 (one (n nt.Pointer) ∷ one (n nt.DirectAbstractDeclarator) ∷ []) ∷
    -- direct-abstract-declarator (6.7.7)
    production nt.DirectAbstractDeclarator ru.DirectAbstractDeclarator 0 (one (t (is cl.LeftParen)) ∷ one (n nt.AbstractDeclarator) ∷ one (t (is cl.RightParen)) ∷ []) ∷
    production nt.DirectAbstractDeclarator ru.DirectAbstractDeclarator 1 (one (t (is cl.LeftBracket)) ∷ opt (n nt.TypeQualifierList) ∷ opt (n nt.AssignmentExpression) ∷ one (t (is cl.RightBracket)) ∷ []) ∷
    production nt.DirectAbstractDeclarator ru.DirectAbstractDeclarator 2 (one (t (is cl.LeftBracket)) ∷ one (t (is cl.Static)) ∷ opt (n nt.TypeQualifierList) ∷ one (n nt.AssignmentExpression) ∷ one (t (is cl.RightBracket)) ∷ []) ∷
    production nt.DirectAbstractDeclarator ru.DirectAbstractDeclarator 3 (one (t (is cl.LeftBracket)) ∷ one (n nt.TypeQualifierList) ∷ one (t (is cl.Static)) ∷ one (n nt.AssignmentExpression) ∷ one (t (is cl.RightBracket)) ∷ []) ∷
    production nt.DirectAbstractDeclarator ru.DirectAbstractDeclarator 4 (one (t (is cl.LeftBracket)) ∷ one (t (is cl.StarBracket)) ∷ one (t (is cl.RightBracket)) ∷ []) ∷
    production nt.DirectAbstractDeclarator ru.DirectAbstractDeclarator 1 (one (n nt.DirectAbstractDeclarator) ∷ one (t (is cl.LeftBracket)) ∷ opt (n nt.TypeQualifierList) ∷ opt (n nt.AssignmentExpression) ∷ one (t (is cl.RightBracket)) ∷ []) ∷
    production nt.DirectAbstractDeclarator ru.DirectAbstractDeclarator 2 (one (n nt.DirectAbstractDeclarator) ∷ one (t (is cl.LeftBracket)) ∷ one (t (is cl.Static)) ∷ opt (n nt.TypeQualifierList) ∷ one (n nt.AssignmentExpression) ∷ one (t (is cl.RightBracket)) ∷ []) ∷
    production nt.DirectAbstractDeclarator ru.DirectAbstractDeclarator 3 (one (n nt.DirectAbstractDeclarator) ∷ one (t (is cl.LeftBracket)) ∷ one (n nt.TypeQualifierList) ∷ one (t (is cl.Static)) ∷ one (n nt.AssignmentExpression) ∷ one (t (is cl.RightBracket)) ∷ []) ∷
    production nt.DirectAbstractDeclarator ru.DirectAbstractDeclarator 4 (one (n nt.DirectAbstractDeclarator) ∷ one (t (is cl.LeftBracket)) ∷ one (t (is cl.StarBracket)) ∷ one (t (is cl.RightBracket)) ∷ []) ∷
    production nt.DirectAbstractDeclarator ru.DirectAbstractDeclarator 5 (one (t (is cl.LeftParen)) ∷ one (t (is cl.RightParen)) ∷ []) ∷
    production nt.DirectAbstractDeclarator ru.DirectAbstractDeclarator 5 (one (act te.TypeOpen ac.Open) ∷ one (n nt.ParameterTypeList) ∷ one (act (is cl.RightParen) ac.Close) ∷ []) ∷
    production nt.DirectAbstractDeclarator ru.DirectAbstractDeclarator 5 (one (n nt.DirectAbstractDeclarator) ∷ one (t (is cl.LeftParen)) ∷ one (t (is cl.RightParen)) ∷ []) ∷
    production nt.DirectAbstractDeclarator ru.DirectAbstractDeclarator 5 (one (n nt.DirectAbstractDeclarator) ∷ one (act te.TypeOpen ac.Open) ∷ one (n nt.ParameterTypeList) ∷ one (act (is cl.RightParen) ac.Close) ∷ []) ∷
    -- typedef-name (6.7.8)
    production nt.TypedefName ru.TypedefName 0 (one (t te.Typed) ∷ []) ∷
    -- initializer (6.7.9)
    production nt.Initializer ru.Initializer 1 (one (t (is cl.LeftBrace)) ∷ one (n nt.InitializerList) ∷ one (t (is cl.RightBrace)) ∷ []) ∷
    production nt.Initializer ru.Initializer 2 (one (t (is cl.LeftBrace)) ∷ one (n nt.InitializerList) ∷ one (t (is cl.LastComma)) ∷ one (t (is cl.RightBrace)) ∷ []) ∷
    -- initializer-list (6.7.9)
    listed nt.InitializerList ru.InitializerList (opt (n nt.Designation) ∷ one (n nt.Initializer) ∷ []) (separated cl.DesignationComma ac.Stay 0 ∷ separated cl.Comma ac.Stay 1 ∷ []) ∷
    -- designation (6.7.9)
    production nt.Designation ru.Designation 0 (one (n nt.DesignatorList) ∷ one (t (is cl.Equal)) ∷ []) ∷
    -- designator-list (6.7.9)
    production nt.DesignatorList ru.DesignatorList 0 (one (n nt.Designator) ∷ many (n nt.Designator) ∷ []) ∷
    -- designator (6.7.9)
    production nt.Designator ru.Designator 0 (one (t (is cl.LeftBracket)) ∷ one (n nt.ConstantExpression) ∷ one (t (is cl.RightBracket)) ∷ []) ∷
    production nt.Designator ru.Designator 1 (one (t (is cl.Dot)) ∷ one (t te.Name) ∷ []) ∷
    -- static_assert-declaration (6.7.10)
    production nt.StaticAssertDeclaration ru.StaticAssertDeclaration 0 (one (t (is cl.StaticAssert)) ∷ one (t te.Open) ∷ one (n nt.ConstantExpression) ∷ one (t (is cl.Comma)) ∷ one (t (is cl.String)) ∷ many (t (is cl.String)) ∷ one (t (is cl.RightParen)) ∷ one (t (is cl.Semicolon)) ∷ []) ∷
    -- labeled-statement (6.8.1)
    production nt.ClosedLabeledStatement ru.LabeledStatement 0 (one (t te.Label) ∷ one (t (is cl.Colon)) ∷ one (n nt.ClosedStatement) ∷ []) ∷
    production nt.ClosedLabeledStatement ru.LabeledStatement 1 (one (t (is cl.Case)) ∷ one (n nt.ConstantExpression) ∷ one (t (is cl.Colon)) ∷ one (n nt.ClosedStatement) ∷ []) ∷
    production nt.ClosedLabeledStatement ru.LabeledStatement 2 (one (t (is cl.Default)) ∷ one (t (is cl.Colon)) ∷ one (n nt.ClosedStatement) ∷ []) ∷
    production nt.OpenLabeledStatement ru.LabeledStatement 0 (one (t te.Label) ∷ one (t (is cl.Colon)) ∷ one (n nt.OpenStatement) ∷ []) ∷
    production nt.OpenLabeledStatement ru.LabeledStatement 1 (one (t (is cl.Case)) ∷ one (n nt.ConstantExpression) ∷ one (t (is cl.Colon)) ∷ one (n nt.OpenStatement) ∷ []) ∷
    production nt.OpenLabeledStatement ru.LabeledStatement 2 (one (t (is cl.Default)) ∷ one (t (is cl.Colon)) ∷ one (n nt.OpenStatement) ∷ []) ∷
    -- compound-statement (6.8.2)
    production nt.CompoundStatement ru.CompoundStatement 0 (one (act (is cl.LeftBrace) ac.Open) ∷ opt (n nt.BlockItemList) ∷ one (act (is cl.RightBrace) ac.Close) ∷ []) ∷
    -- block-item-list (6.8.2)
    production nt.BlockItemList ru.BlockItemList 0 (one entry ∷ many entry ∷ []) ∷
    -- expression-statement (6.8.3)
    production nt.ExpressionStatement ru.ExpressionStatement 0 (opt (n nt.UnlabelledExpression) ∷ one (t (is cl.Semicolon)) ∷ []) ∷
    -- selection-statement (6.8.4)
    without_else nt.OpenSelectionStatement ru.SelectionStatement 0 (one (t (is cl.If)) ∷ one (t te.Open) ∷ one (n nt.Expression) ∷ one (act (is cl.RightParen) ac.Open) ∷ one (n nt.ClosedStatement) ∷ []) ∷
    scoped nt.OpenSelectionStatement ru.SelectionStatement 0 (one (t (is cl.If)) ∷ one (t te.Open) ∷ one (n nt.Expression) ∷ one (act (is cl.RightParen) ac.Open) ∷ one (n nt.OpenStatement) ∷ []) ∷
    scoped nt.ClosedSelectionStatement ru.SelectionStatement 1 (one (t (is cl.If)) ∷ one (t te.Open) ∷ one (n nt.Expression) ∷ one (act (is cl.RightParen) ac.Open) ∷ one (n nt.ClosedStatement) ∷ one (act (is cl.Else) ac.Close) ∷ one (n nt.ClosedStatement) ∷ []) ∷
    scoped nt.OpenSelectionStatement ru.SelectionStatement 1 (one (t (is cl.If)) ∷ one (t te.Open) ∷ one (n nt.Expression) ∷ one (act (is cl.RightParen) ac.Open) ∷ one (n nt.ClosedStatement) ∷ one (act (is cl.Else) ac.Close) ∷ one (n nt.OpenStatement) ∷ []) ∷
    scoped nt.ClosedSelectionStatement ru.SelectionStatement 2 (one (t (is cl.Switch)) ∷ one (t te.Open) ∷ one (n nt.Expression) ∷ one (t (is cl.RightParen)) ∷ one (n nt.ClosedStatement) ∷ []) ∷
    scoped nt.OpenSelectionStatement ru.SelectionStatement 2 (one (t (is cl.Switch)) ∷ one (t te.Open) ∷ one (n nt.Expression) ∷ one (t (is cl.RightParen)) ∷ one (n nt.OpenStatement) ∷ []) ∷
    -- iteration-statement (6.8.5)
    scoped nt.ClosedIterationStatement ru.IterationStatement 1 (one (act (is cl.Do) ac.Open) ∷ one (n nt.Statement) ∷ one (act (is cl.While) ac.Close) ∷ one (t te.Open) ∷ one (n nt.Expression) ∷ one (t (is cl.RightParen)) ∷ one (t (is cl.Semicolon)) ∷ []) ∷
    scoped nt.ClosedIterationStatement ru.IterationStatement 0 (one (t (is cl.While)) ∷ one (t te.Open) ∷ one (n nt.Expression) ∷ one (t (is cl.RightParen)) ∷ one (n nt.ClosedStatement) ∷ []) ∷
    scoped nt.ClosedIterationStatement ru.IterationStatement 2 (one (t (is cl.For)) ∷ one (t te.Open) ∷ opt (n nt.PlainExpression) ∷ one (t (is cl.Semicolon)) ∷ opt (n nt.Expression) ∷ one (t (is cl.Semicolon)) ∷ opt (n nt.Expression) ∷ one (t (is cl.RightParen)) ∷ one (n nt.ClosedStatement) ∷ []) ∷
    scoped nt.ClosedIterationStatement ru.IterationStatement 3 (one (t (is cl.For)) ∷ one (t te.Open) ∷ one (n nt.Declaration) ∷ opt (n nt.Expression) ∷ one (t (is cl.Semicolon)) ∷ opt (n nt.Expression) ∷ one (t (is cl.RightParen)) ∷ one (n nt.ClosedStatement) ∷ []) ∷
    scoped nt.OpenIterationStatement ru.IterationStatement 0 (one (t (is cl.While)) ∷ one (t te.Open) ∷ one (n nt.Expression) ∷ one (t (is cl.RightParen)) ∷ one (n nt.OpenStatement) ∷ []) ∷
    scoped nt.OpenIterationStatement ru.IterationStatement 2 (one (t (is cl.For)) ∷ one (t te.Open) ∷ opt (n nt.PlainExpression) ∷ one (t (is cl.Semicolon)) ∷ opt (n nt.Expression) ∷ one (t (is cl.Semicolon)) ∷ opt (n nt.Expression) ∷ one (t (is cl.RightParen)) ∷ one (n nt.OpenStatement) ∷ []) ∷
    scoped nt.OpenIterationStatement ru.IterationStatement 3 (one (t (is cl.For)) ∷ one (t te.Open) ∷ one (n nt.Declaration) ∷ opt (n nt.Expression) ∷ one (t (is cl.Semicolon)) ∷ opt (n nt.Expression) ∷ one (t (is cl.RightParen)) ∷ one (n nt.OpenStatement) ∷ []) ∷
    -- jump-statement (6.8.6)
    production nt.JumpStatement ru.JumpStatement 0 (one (t (is cl.Goto)) ∷ one (t te.Name) ∷ one (t (is cl.Semicolon)) ∷ []) ∷
    production nt.JumpStatement ru.JumpStatement 1 (one (t (is cl.Continue)) ∷ one (t (is cl.Semicolon)) ∷ []) ∷
    production nt.JumpStatement ru.JumpStatement 2 (one (t (is cl.Break)) ∷ one (t (is cl.Semicolon)) ∷ []) ∷
    production nt.JumpStatement ru.JumpStatement 3 (one (t (is cl.Return)) ∷ opt (n nt.Expression) ∷ one (t (is cl.Semicolon)) ∷ []) ∷
    -- An expression-statement of a block (6.8.2)
    production nt.BlockExpressionStatement ru.ExpressionStatement 0 (opt (n nt.PlainExpression) ∷ one (t (is cl.Semicolon)) ∷ []) ∷
    -- A declaration of a block: it begins with no label (6.8.2)
    production nt.BlockDeclaration ru.Declaration 0 (one (n nt.BlockSpecifiers) ∷ opt (n nt.InitDeclaratorList) ∷ one (act (is cl.Semicolon) ac.Finish) ∷ []) ∷
    -- function-definition (6.9.1)
    production nt.FunctionDefinition ru.FunctionDefinition 0 (one (n nt.DeclarationSpecifiers) ∷ one (n nt.Declarator) ∷ one (n nt.FunctionBody) ∷ []) ∷
    -- The compound-statement of a function-definition: its parameters are declared in it (6.9.1)
    production nt.FunctionBody ru.CompoundStatement 0 (one (act (is cl.LeftBrace) ac.Begin) ∷ opt (n nt.BlockItemList) ∷ one (act (is cl.RightBrace) ac.Close) ∷ []) ∷
    []

-- the productions whose right side is one nonterminal: they make no node
unfoldable pub units : List UnitRow
units =
    unit nt.PrimaryExpression nt.GenericSelection ∷
    unit nt.PostfixExpression nt.PrimaryExpression ∷
    unit nt.UnaryExpression nt.PostfixExpression ∷
    unit nt.CastExpression nt.UnaryExpression ∷
    unit nt.MultiplicativeExpression nt.CastExpression ∷
    unit nt.AdditiveExpression nt.MultiplicativeExpression ∷
    unit nt.ShiftExpression nt.AdditiveExpression ∷
    unit nt.RelationalExpression nt.ShiftExpression ∷
    unit nt.EqualityExpression nt.RelationalExpression ∷
    unit nt.AndExpression nt.EqualityExpression ∷
    unit nt.ExclusiveOrExpression nt.AndExpression ∷
    unit nt.InclusiveOrExpression nt.ExclusiveOrExpression ∷
    unit nt.LogicalAndExpression nt.InclusiveOrExpression ∷
    unit nt.LogicalOrExpression nt.LogicalAndExpression ∷
    unit nt.ConditionalExpression nt.LogicalOrExpression ∷
    unit nt.AssignmentExpression nt.ConditionalExpression ∷
    unit nt.Expression nt.AssignmentExpression ∷
    unit nt.ConstantExpression nt.ConditionalExpression ∷
    unit nt.Declaration nt.StaticAssertDeclaration ∷
    unit nt.InitDeclarator nt.Declarator ∷
    unit nt.TypeSpecifier nt.LaterTypeSpecifier ∷
    unit nt.TypeSpecifier nt.TypedefName ∷
    unit nt.StructDeclaration nt.StaticAssertDeclaration ∷
    unit nt.StructDeclarator nt.Declarator ∷
    unit nt.Declarator nt.DirectDeclarator ∷
    unit nt.ParameterTypeList nt.ParameterList ∷
    unit nt.ParameterDeclaration nt.DeclarationSpecifiers ∷
    unit nt.TypeName nt.SpecifierQualifierList ∷
    unit nt.AbstractDeclarator nt.Pointer ∷
    unit nt.AbstractDeclarator nt.DirectAbstractDeclarator ∷
    unit nt.Initializer nt.AssignmentExpression ∷
    unit nt.Statement nt.ClosedStatement ∷
    unit nt.Statement nt.OpenStatement ∷
    unit nt.LabeledStatement nt.ClosedLabeledStatement ∷
    unit nt.LabeledStatement nt.OpenLabeledStatement ∷
    unit nt.BlockItem nt.BlockDeclaration ∷
    unit nt.BlockItem nt.BlockStatement ∷
    unit nt.SelectionStatement nt.ClosedSelectionStatement ∷
    unit nt.SelectionStatement nt.OpenSelectionStatement ∷
    unit nt.IterationStatement nt.ClosedIterationStatement ∷
    unit nt.IterationStatement nt.OpenIterationStatement ∷
    unit nt.OtherSpecifier nt.StorageClassSpecifier ∷
    unit nt.OtherSpecifier nt.TypeQualifier ∷
    unit nt.OtherSpecifier nt.FunctionSpecifier ∷
    unit nt.OtherSpecifier nt.AlignmentSpecifier ∷
    unit nt.LaterTypeSpecifier nt.AtomicTypeSpecifier ∷
    unit nt.LaterTypeSpecifier nt.StructOrUnionSpecifier ∷
    unit nt.LaterTypeSpecifier nt.EnumSpecifier ∷
    unit nt.LaterSpecifier nt.OtherSpecifier ∷
    unit nt.LaterSpecifier nt.LaterTypeSpecifier ∷
    unit nt.LaterQualifier nt.TypeQualifier ∷
    unit nt.LaterQualifier nt.LaterTypeSpecifier ∷
    unit nt.ParameterDeclarator nt.DirectParameterDeclarator ∷
    unit nt.AnyDeclarator nt.ParameterDeclarator ∷
    unit nt.AnyDeclarator nt.AbstractDeclarator ∷
    unit nt.DirectAnyDeclarator nt.DirectParameterDeclarator ∷
    unit nt.DirectAnyDeclarator nt.DirectAbstractDeclarator ∷
    unit nt.ClosedStatement nt.ClosedLabeledStatement ∷
    unit nt.ClosedStatement nt.CompoundStatement ∷
    unit nt.ClosedStatement nt.ExpressionStatement ∷
    unit nt.ClosedStatement nt.ClosedSelectionStatement ∷
    unit nt.ClosedStatement nt.ClosedIterationStatement ∷
    unit nt.ClosedStatement nt.JumpStatement ∷
    unit nt.OpenStatement nt.OpenLabeledStatement ∷
    unit nt.OpenStatement nt.OpenSelectionStatement ∷
    unit nt.OpenStatement nt.OpenIterationStatement ∷
    unit nt.UnlabelledExpression nt.Expression ∷
    unit nt.PlainExpression nt.Expression ∷
    unit nt.BlockStatement nt.LabeledStatement ∷
    unit nt.BlockStatement nt.CompoundStatement ∷
    unit nt.BlockStatement nt.BlockExpressionStatement ∷
    unit nt.BlockStatement nt.SelectionStatement ∷
    unit nt.BlockStatement nt.IterationStatement ∷
    unit nt.BlockStatement nt.JumpStatement ∷
    unit nt.BlockDeclaration nt.StaticAssertDeclaration ∷
    unit nt.BlockSpecifiers nt.DeclarationSpecifiers ∷
    []

-- the tokens with which no tree of a nonterminal begins: where a label or a declaration may stand, an identifier is that (6.8.1, 6.8.2)
unfoldable pub shuns : Nonterminal → Option Terminal
shuns nt.UnlabelledExpression = Some te.Label
shuns nt.PlainExpression = Some te.Marked
shuns nt.BlockSpecifiers = Some te.Label
shuns _ = None

abbrev pub parts_of : List Production → List Part
parts_of [] = []
parts_of (p ∷ ps) = p.parts ++ parts_of ps

abbrev pub agains_of : List Production → List Again
agains_of [] = []
agains_of (p ∷ ps) = p.again ++ agains_of ps

-- the right sides, one after the other, as the code has them
unfoldable pub all_parts : List Part
all_parts = parts_of productions

unfoldable pub all_agains : List Again
all_agains = agains_of productions

abbrev pub plain : ProductionRow → Production
plain p = record { of = p.of; rule = p.rule; choice = p.choice; parts = slice_range all_parts p.parts.from p.parts.to; again = slice_range all_agains p.again.from p.again.to; bar = p.bar; scoped = p.scoped }
