-- Every class, and numbers that tell apart.
use Rattle.std.proofs.Common.{◌≡◌, ℕ, List, [], ◌∷◌, refl, ap, sym, ◌∙◌}
use Rattle.std.specs.Prelude.{Some, slice_get}
use Rattle.cl_tree.specs.declared.class.Class.{Class}
use Rattle.cl_tree.specs.declared.class.Class.TheVariants as cl
use Rattle.cl_tree.specs.declared.nonterminal.Nonterminal.{Nonterminal}
use Rattle.cl_tree.specs.declared.nonterminal.Nonterminal.TheVariants as nt
use Rattle.cl_tree.specs.declared.grammar.Act.{Act}
use Rattle.cl_tree.specs.declared.grammar.Act.TheVariants as ac
use Rattle.cl_tree.specs.declared.rule.Rule.{Rule}
use Rattle.cl_tree.specs.declared.rule.Rule.TheVariants as ru
use Rattle.cl_expr.specs.code.Looks.{class_number}
use Rattle.cl_expr.specs.code.Table.{number}

abbrev pub all_classes : List Class
all_classes = cl.Ident ∷ cl.IdentColon ∷ cl.TypedefName ∷ cl.TypedefColon ∷ cl.Constant ∷ cl.String ∷ cl.LeftParen ∷ cl.TypeParen ∷ cl.LiteralParen ∷ cl.RightParen ∷ cl.LeftBracket ∷ cl.RightBracket ∷ cl.LeftBrace ∷ cl.RightBrace ∷ cl.Dot ∷ cl.Arrow ∷ cl.PlusPlus ∷ cl.MinusMinus ∷ cl.Ampersand ∷ cl.Star ∷ cl.StarBracket ∷ cl.Plus ∷ cl.Minus ∷ cl.Tilde ∷ cl.Bang ∷ cl.Slash ∷ cl.Percent ∷ cl.ShiftLeft ∷ cl.ShiftRight ∷ cl.Less ∷ cl.Greater ∷ cl.LessEqual ∷ cl.GreaterEqual ∷ cl.EqualEqual ∷ cl.BangEqual ∷ cl.Caret ∷ cl.Bar ∷ cl.AndAnd ∷ cl.OrOr ∷ cl.Question ∷ cl.Colon ∷ cl.Semicolon ∷ cl.Ellipsis ∷ cl.Comma ∷ cl.LastComma ∷ cl.DesignationComma ∷ cl.Equal ∷ cl.StarEqual ∷ cl.SlashEqual ∷ cl.PercentEqual ∷ cl.PlusEqual ∷ cl.MinusEqual ∷ cl.ShiftLeftEqual ∷ cl.ShiftRightEqual ∷ cl.AmpersandEqual ∷ cl.CaretEqual ∷ cl.BarEqual ∷ cl.Sizeof ∷ cl.Alignof ∷ cl.Generic ∷ cl.Default ∷ cl.Case ∷ cl.If ∷ cl.Else ∷ cl.Switch ∷ cl.While ∷ cl.Do ∷ cl.For ∷ cl.Goto ∷ cl.Continue ∷ cl.Break ∷ cl.Return ∷ cl.StaticAssert ∷ cl.Typedef ∷ cl.Extern ∷ cl.Static ∷ cl.ThreadLocal ∷ cl.Auto ∷ cl.Register ∷ cl.Void ∷ cl.Char ∷ cl.Short ∷ cl.Int ∷ cl.Long ∷ cl.Float ∷ cl.Double ∷ cl.Signed ∷ cl.Unsigned ∷ cl.Bool ∷ cl.Struct ∷ cl.Union ∷ cl.Enum ∷ cl.Const ∷ cl.Restrict ∷ cl.Volatile ∷ cl.Atomic ∷ cl.AtomicParen ∷ cl.Inline ∷ cl.Noreturn ∷ cl.Alignas ∷ cl.Other ∷ []

pub numbered_class : (x : Class) → slice_get all_classes (class_number x) ≡ Some x
numbered_class cl.Ident = refl
numbered_class cl.IdentColon = refl
numbered_class cl.TypedefName = refl
numbered_class cl.TypedefColon = refl
numbered_class cl.Constant = refl
numbered_class cl.String = refl
numbered_class cl.LeftParen = refl
numbered_class cl.TypeParen = refl
numbered_class cl.LiteralParen = refl
numbered_class cl.RightParen = refl
numbered_class cl.LeftBracket = refl
numbered_class cl.RightBracket = refl
numbered_class cl.LeftBrace = refl
numbered_class cl.RightBrace = refl
numbered_class cl.Dot = refl
numbered_class cl.Arrow = refl
numbered_class cl.PlusPlus = refl
numbered_class cl.MinusMinus = refl
numbered_class cl.Ampersand = refl
numbered_class cl.Star = refl
numbered_class cl.StarBracket = refl
numbered_class cl.Plus = refl
numbered_class cl.Minus = refl
numbered_class cl.Tilde = refl
numbered_class cl.Bang = refl
numbered_class cl.Slash = refl
numbered_class cl.Percent = refl
numbered_class cl.ShiftLeft = refl
numbered_class cl.ShiftRight = refl
numbered_class cl.Less = refl
numbered_class cl.Greater = refl
numbered_class cl.LessEqual = refl
numbered_class cl.GreaterEqual = refl
numbered_class cl.EqualEqual = refl
numbered_class cl.BangEqual = refl
numbered_class cl.Caret = refl
numbered_class cl.Bar = refl
numbered_class cl.AndAnd = refl
numbered_class cl.OrOr = refl
numbered_class cl.Question = refl
numbered_class cl.Colon = refl
numbered_class cl.Semicolon = refl
numbered_class cl.Ellipsis = refl
numbered_class cl.Comma = refl
numbered_class cl.LastComma = refl
numbered_class cl.DesignationComma = refl
numbered_class cl.Equal = refl
numbered_class cl.StarEqual = refl
numbered_class cl.SlashEqual = refl
numbered_class cl.PercentEqual = refl
numbered_class cl.PlusEqual = refl
numbered_class cl.MinusEqual = refl
numbered_class cl.ShiftLeftEqual = refl
numbered_class cl.ShiftRightEqual = refl
numbered_class cl.AmpersandEqual = refl
numbered_class cl.CaretEqual = refl
numbered_class cl.BarEqual = refl
numbered_class cl.Sizeof = refl
numbered_class cl.Alignof = refl
numbered_class cl.Generic = refl
numbered_class cl.Default = refl
numbered_class cl.Case = refl
numbered_class cl.If = refl
numbered_class cl.Else = refl
numbered_class cl.Switch = refl
numbered_class cl.While = refl
numbered_class cl.Do = refl
numbered_class cl.For = refl
numbered_class cl.Goto = refl
numbered_class cl.Continue = refl
numbered_class cl.Break = refl
numbered_class cl.Return = refl
numbered_class cl.StaticAssert = refl
numbered_class cl.Typedef = refl
numbered_class cl.Extern = refl
numbered_class cl.Static = refl
numbered_class cl.ThreadLocal = refl
numbered_class cl.Auto = refl
numbered_class cl.Register = refl
numbered_class cl.Void = refl
numbered_class cl.Char = refl
numbered_class cl.Short = refl
numbered_class cl.Int = refl
numbered_class cl.Long = refl
numbered_class cl.Float = refl
numbered_class cl.Double = refl
numbered_class cl.Signed = refl
numbered_class cl.Unsigned = refl
numbered_class cl.Bool = refl
numbered_class cl.Struct = refl
numbered_class cl.Union = refl
numbered_class cl.Enum = refl
numbered_class cl.Const = refl
numbered_class cl.Restrict = refl
numbered_class cl.Volatile = refl
numbered_class cl.Atomic = refl
numbered_class cl.AtomicParen = refl
numbered_class cl.Inline = refl
numbered_class cl.Noreturn = refl
numbered_class cl.Alignas = refl
numbered_class cl.Other = refl

some_class : {x y : Class} → Some x ≡ Some y → x ≡ y
some_class e = cc

pub same_class_is : (x y : Class) → class_number x ≡ class_number y → x ≡ y
same_class_is x y e = some_class (sym (numbered_class x) ∙ ap (λ (n : ℕ). slice_get all_classes n) e ∙ numbered_class y)

abbrev pub all_goals : List Nonterminal
all_goals = nt.PrimaryExpression ∷ nt.GenericSelection ∷ nt.GenericAssocList ∷ nt.GenericAssociation ∷ nt.PostfixExpression ∷ nt.ArgumentExpressionList ∷ nt.UnaryExpression ∷ nt.UnaryOperator ∷ nt.CastExpression ∷ nt.MultiplicativeExpression ∷ nt.AdditiveExpression ∷ nt.ShiftExpression ∷ nt.RelationalExpression ∷ nt.EqualityExpression ∷ nt.AndExpression ∷ nt.ExclusiveOrExpression ∷ nt.InclusiveOrExpression ∷ nt.LogicalAndExpression ∷ nt.LogicalOrExpression ∷ nt.ConditionalExpression ∷ nt.AssignmentExpression ∷ nt.AssignmentOperator ∷ nt.Expression ∷ nt.ConstantExpression ∷ nt.Declaration ∷ nt.DeclarationSpecifiers ∷ nt.InitDeclaratorList ∷ nt.InitDeclarator ∷ nt.StorageClassSpecifier ∷ nt.TypeSpecifier ∷ nt.StructOrUnionSpecifier ∷ nt.StructOrUnion ∷ nt.StructDeclarationList ∷ nt.StructDeclaration ∷ nt.SpecifierQualifierList ∷ nt.StructDeclaratorList ∷ nt.StructDeclarator ∷ nt.EnumSpecifier ∷ nt.EnumeratorList ∷ nt.Enumerator ∷ nt.AtomicTypeSpecifier ∷ nt.TypeQualifier ∷ nt.FunctionSpecifier ∷ nt.AlignmentSpecifier ∷ nt.Declarator ∷ nt.DirectDeclarator ∷ nt.Pointer ∷ nt.TypeQualifierList ∷ nt.ParameterTypeList ∷ nt.ParameterList ∷ nt.ParameterDeclaration ∷ nt.IdentifierList ∷ nt.TypeName ∷ nt.AbstractDeclarator ∷ nt.DirectAbstractDeclarator ∷ nt.TypedefName ∷ nt.Initializer ∷ nt.InitializerList ∷ nt.Designation ∷ nt.DesignatorList ∷ nt.Designator ∷ nt.StaticAssertDeclaration ∷ nt.Statement ∷ nt.LabeledStatement ∷ nt.CompoundStatement ∷ nt.BlockItemList ∷ nt.BlockItem ∷ nt.ExpressionStatement ∷ nt.SelectionStatement ∷ nt.IterationStatement ∷ nt.JumpStatement ∷ nt.FunctionDefinition ∷ nt.OtherSpecifier ∷ nt.LaterTypeSpecifier ∷ nt.LaterSpecifier ∷ nt.LaterQualifier ∷ nt.ParameterDeclarator ∷ nt.DirectParameterDeclarator ∷ nt.AnyDeclarator ∷ nt.DirectAnyDeclarator ∷ nt.ClosedStatement ∷ nt.OpenStatement ∷ nt.ClosedLabeledStatement ∷ nt.OpenLabeledStatement ∷ nt.ClosedSelectionStatement ∷ nt.OpenSelectionStatement ∷ nt.ClosedIterationStatement ∷ nt.OpenIterationStatement ∷ nt.UnlabelledExpression ∷ nt.PlainExpression ∷ nt.BlockStatement ∷ nt.BlockExpressionStatement ∷ nt.BlockDeclaration ∷ nt.BlockSpecifiers ∷ nt.FunctionBody ∷ []

pub numbered_goal : (x : Nonterminal) → slice_get all_goals (number x) ≡ Some x
numbered_goal nt.PrimaryExpression = refl
numbered_goal nt.GenericSelection = refl
numbered_goal nt.GenericAssocList = refl
numbered_goal nt.GenericAssociation = refl
numbered_goal nt.PostfixExpression = refl
numbered_goal nt.ArgumentExpressionList = refl
numbered_goal nt.UnaryExpression = refl
numbered_goal nt.UnaryOperator = refl
numbered_goal nt.CastExpression = refl
numbered_goal nt.MultiplicativeExpression = refl
numbered_goal nt.AdditiveExpression = refl
numbered_goal nt.ShiftExpression = refl
numbered_goal nt.RelationalExpression = refl
numbered_goal nt.EqualityExpression = refl
numbered_goal nt.AndExpression = refl
numbered_goal nt.ExclusiveOrExpression = refl
numbered_goal nt.InclusiveOrExpression = refl
numbered_goal nt.LogicalAndExpression = refl
numbered_goal nt.LogicalOrExpression = refl
numbered_goal nt.ConditionalExpression = refl
numbered_goal nt.AssignmentExpression = refl
numbered_goal nt.AssignmentOperator = refl
numbered_goal nt.Expression = refl
numbered_goal nt.ConstantExpression = refl
numbered_goal nt.Declaration = refl
numbered_goal nt.DeclarationSpecifiers = refl
numbered_goal nt.InitDeclaratorList = refl
numbered_goal nt.InitDeclarator = refl
numbered_goal nt.StorageClassSpecifier = refl
numbered_goal nt.TypeSpecifier = refl
numbered_goal nt.StructOrUnionSpecifier = refl
numbered_goal nt.StructOrUnion = refl
numbered_goal nt.StructDeclarationList = refl
numbered_goal nt.StructDeclaration = refl
numbered_goal nt.SpecifierQualifierList = refl
numbered_goal nt.StructDeclaratorList = refl
numbered_goal nt.StructDeclarator = refl
numbered_goal nt.EnumSpecifier = refl
numbered_goal nt.EnumeratorList = refl
numbered_goal nt.Enumerator = refl
numbered_goal nt.AtomicTypeSpecifier = refl
numbered_goal nt.TypeQualifier = refl
numbered_goal nt.FunctionSpecifier = refl
numbered_goal nt.AlignmentSpecifier = refl
numbered_goal nt.Declarator = refl
numbered_goal nt.DirectDeclarator = refl
numbered_goal nt.Pointer = refl
numbered_goal nt.TypeQualifierList = refl
numbered_goal nt.ParameterTypeList = refl
numbered_goal nt.ParameterList = refl
numbered_goal nt.ParameterDeclaration = refl
numbered_goal nt.IdentifierList = refl
numbered_goal nt.TypeName = refl
numbered_goal nt.AbstractDeclarator = refl
numbered_goal nt.DirectAbstractDeclarator = refl
numbered_goal nt.TypedefName = refl
numbered_goal nt.Initializer = refl
numbered_goal nt.InitializerList = refl
numbered_goal nt.Designation = refl
numbered_goal nt.DesignatorList = refl
numbered_goal nt.Designator = refl
numbered_goal nt.StaticAssertDeclaration = refl
numbered_goal nt.Statement = refl
numbered_goal nt.LabeledStatement = refl
numbered_goal nt.CompoundStatement = refl
numbered_goal nt.BlockItemList = refl
numbered_goal nt.BlockItem = refl
numbered_goal nt.ExpressionStatement = refl
numbered_goal nt.SelectionStatement = refl
numbered_goal nt.IterationStatement = refl
numbered_goal nt.JumpStatement = refl
numbered_goal nt.FunctionDefinition = refl
numbered_goal nt.OtherSpecifier = refl
numbered_goal nt.LaterTypeSpecifier = refl
numbered_goal nt.LaterSpecifier = refl
numbered_goal nt.LaterQualifier = refl
numbered_goal nt.ParameterDeclarator = refl
numbered_goal nt.DirectParameterDeclarator = refl
numbered_goal nt.AnyDeclarator = refl
numbered_goal nt.DirectAnyDeclarator = refl
numbered_goal nt.ClosedStatement = refl
numbered_goal nt.OpenStatement = refl
numbered_goal nt.ClosedLabeledStatement = refl
numbered_goal nt.OpenLabeledStatement = refl
numbered_goal nt.ClosedSelectionStatement = refl
numbered_goal nt.OpenSelectionStatement = refl
numbered_goal nt.ClosedIterationStatement = refl
numbered_goal nt.OpenIterationStatement = refl
numbered_goal nt.UnlabelledExpression = refl
numbered_goal nt.PlainExpression = refl
numbered_goal nt.BlockStatement = refl
numbered_goal nt.BlockExpressionStatement = refl
numbered_goal nt.BlockDeclaration = refl
numbered_goal nt.BlockSpecifiers = refl
numbered_goal nt.FunctionBody = refl

some_goal : {x y : Nonterminal} → Some x ≡ Some y → x ≡ y
some_goal e = cc

pub same_goal_is : (x y : Nonterminal) → number x ≡ number y → x ≡ y
same_goal_is x y e = some_goal (sym (numbered_goal x) ∙ ap (λ (n : ℕ). slice_get all_goals n) e ∙ numbered_goal y)

abbrev pub all_acts : List Act
all_acts = ac.Stay ∷ ac.Typedef ∷ ac.Name ∷ ac.Declare ∷ ac.Finish ∷ ac.Forget ∷ ac.Open ∷ ac.Close ∷ ac.Shut ∷ ac.Begin ∷ []

abbrev pub act_number : Act → ℕ
act_number ac.Stay = 0
act_number ac.Typedef = 1
act_number ac.Name = 2
act_number ac.Declare = 3
act_number ac.Finish = 4
act_number ac.Forget = 5
act_number ac.Open = 6
act_number ac.Close = 7
act_number ac.Shut = 8
act_number ac.Begin = 9

pub numbered_act : (x : Act) → slice_get all_acts (act_number x) ≡ Some x
numbered_act ac.Stay = refl
numbered_act ac.Typedef = refl
numbered_act ac.Name = refl
numbered_act ac.Declare = refl
numbered_act ac.Finish = refl
numbered_act ac.Forget = refl
numbered_act ac.Open = refl
numbered_act ac.Close = refl
numbered_act ac.Shut = refl
numbered_act ac.Begin = refl

some_act : {x y : Act} → Some x ≡ Some y → x ≡ y
some_act e = cc

pub same_act_is : (x y : Act) → act_number x ≡ act_number y → x ≡ y
same_act_is x y e = some_act (sym (numbered_act x) ∙ ap (λ (n : ℕ). slice_get all_acts n) e ∙ numbered_act y)

abbrev pub all_rules : List Rule
all_rules = ru.Token ∷ ru.Bad ∷ ru.PrimaryExpression ∷ ru.GenericSelection ∷ ru.GenericAssocList ∷ ru.GenericAssociation ∷ ru.PostfixExpression ∷ ru.ArgumentExpressionList ∷ ru.UnaryExpression ∷ ru.UnaryOperator ∷ ru.CastExpression ∷ ru.MultiplicativeExpression ∷ ru.AdditiveExpression ∷ ru.ShiftExpression ∷ ru.RelationalExpression ∷ ru.EqualityExpression ∷ ru.AndExpression ∷ ru.ExclusiveOrExpression ∷ ru.InclusiveOrExpression ∷ ru.LogicalAndExpression ∷ ru.LogicalOrExpression ∷ ru.ConditionalExpression ∷ ru.AssignmentExpression ∷ ru.AssignmentOperator ∷ ru.Expression ∷ ru.ConstantExpression ∷ ru.Declaration ∷ ru.DeclarationSpecifiers ∷ ru.InitDeclaratorList ∷ ru.InitDeclarator ∷ ru.StorageClassSpecifier ∷ ru.TypeSpecifier ∷ ru.StructOrUnionSpecifier ∷ ru.StructOrUnion ∷ ru.StructDeclarationList ∷ ru.StructDeclaration ∷ ru.SpecifierQualifierList ∷ ru.StructDeclaratorList ∷ ru.StructDeclarator ∷ ru.EnumSpecifier ∷ ru.EnumeratorList ∷ ru.Enumerator ∷ ru.AtomicTypeSpecifier ∷ ru.TypeQualifier ∷ ru.FunctionSpecifier ∷ ru.AlignmentSpecifier ∷ ru.Declarator ∷ ru.DirectDeclarator ∷ ru.Pointer ∷ ru.TypeQualifierList ∷ ru.ParameterTypeList ∷ ru.ParameterList ∷ ru.ParameterDeclaration ∷ ru.IdentifierList ∷ ru.TypeName ∷ ru.AbstractDeclarator ∷ ru.DirectAbstractDeclarator ∷ ru.TypedefName ∷ ru.Initializer ∷ ru.InitializerList ∷ ru.Designation ∷ ru.DesignatorList ∷ ru.Designator ∷ ru.StaticAssertDeclaration ∷ ru.Statement ∷ ru.LabeledStatement ∷ ru.CompoundStatement ∷ ru.BlockItemList ∷ ru.BlockItem ∷ ru.ExpressionStatement ∷ ru.SelectionStatement ∷ ru.IterationStatement ∷ ru.JumpStatement ∷ ru.TranslationUnit ∷ ru.ExternalDeclaration ∷ ru.FunctionDefinition ∷ []

abbrev pub rule_number : Rule → ℕ
rule_number ru.Token = 0
rule_number ru.Bad = 1
rule_number ru.PrimaryExpression = 2
rule_number ru.GenericSelection = 3
rule_number ru.GenericAssocList = 4
rule_number ru.GenericAssociation = 5
rule_number ru.PostfixExpression = 6
rule_number ru.ArgumentExpressionList = 7
rule_number ru.UnaryExpression = 8
rule_number ru.UnaryOperator = 9
rule_number ru.CastExpression = 10
rule_number ru.MultiplicativeExpression = 11
rule_number ru.AdditiveExpression = 12
rule_number ru.ShiftExpression = 13
rule_number ru.RelationalExpression = 14
rule_number ru.EqualityExpression = 15
rule_number ru.AndExpression = 16
rule_number ru.ExclusiveOrExpression = 17
rule_number ru.InclusiveOrExpression = 18
rule_number ru.LogicalAndExpression = 19
rule_number ru.LogicalOrExpression = 20
rule_number ru.ConditionalExpression = 21
rule_number ru.AssignmentExpression = 22
rule_number ru.AssignmentOperator = 23
rule_number ru.Expression = 24
rule_number ru.ConstantExpression = 25
rule_number ru.Declaration = 26
rule_number ru.DeclarationSpecifiers = 27
rule_number ru.InitDeclaratorList = 28
rule_number ru.InitDeclarator = 29
rule_number ru.StorageClassSpecifier = 30
rule_number ru.TypeSpecifier = 31
rule_number ru.StructOrUnionSpecifier = 32
rule_number ru.StructOrUnion = 33
rule_number ru.StructDeclarationList = 34
rule_number ru.StructDeclaration = 35
rule_number ru.SpecifierQualifierList = 36
rule_number ru.StructDeclaratorList = 37
rule_number ru.StructDeclarator = 38
rule_number ru.EnumSpecifier = 39
rule_number ru.EnumeratorList = 40
rule_number ru.Enumerator = 41
rule_number ru.AtomicTypeSpecifier = 42
rule_number ru.TypeQualifier = 43
rule_number ru.FunctionSpecifier = 44
rule_number ru.AlignmentSpecifier = 45
rule_number ru.Declarator = 46
rule_number ru.DirectDeclarator = 47
rule_number ru.Pointer = 48
rule_number ru.TypeQualifierList = 49
rule_number ru.ParameterTypeList = 50
rule_number ru.ParameterList = 51
rule_number ru.ParameterDeclaration = 52
rule_number ru.IdentifierList = 53
rule_number ru.TypeName = 54
rule_number ru.AbstractDeclarator = 55
rule_number ru.DirectAbstractDeclarator = 56
rule_number ru.TypedefName = 57
rule_number ru.Initializer = 58
rule_number ru.InitializerList = 59
rule_number ru.Designation = 60
rule_number ru.DesignatorList = 61
rule_number ru.Designator = 62
rule_number ru.StaticAssertDeclaration = 63
rule_number ru.Statement = 64
rule_number ru.LabeledStatement = 65
rule_number ru.CompoundStatement = 66
rule_number ru.BlockItemList = 67
rule_number ru.BlockItem = 68
rule_number ru.ExpressionStatement = 69
rule_number ru.SelectionStatement = 70
rule_number ru.IterationStatement = 71
rule_number ru.JumpStatement = 72
rule_number ru.TranslationUnit = 73
rule_number ru.ExternalDeclaration = 74
rule_number ru.FunctionDefinition = 75

pub numbered_rule : (x : Rule) → slice_get all_rules (rule_number x) ≡ Some x
numbered_rule ru.Token = refl
numbered_rule ru.Bad = refl
numbered_rule ru.PrimaryExpression = refl
numbered_rule ru.GenericSelection = refl
numbered_rule ru.GenericAssocList = refl
numbered_rule ru.GenericAssociation = refl
numbered_rule ru.PostfixExpression = refl
numbered_rule ru.ArgumentExpressionList = refl
numbered_rule ru.UnaryExpression = refl
numbered_rule ru.UnaryOperator = refl
numbered_rule ru.CastExpression = refl
numbered_rule ru.MultiplicativeExpression = refl
numbered_rule ru.AdditiveExpression = refl
numbered_rule ru.ShiftExpression = refl
numbered_rule ru.RelationalExpression = refl
numbered_rule ru.EqualityExpression = refl
numbered_rule ru.AndExpression = refl
numbered_rule ru.ExclusiveOrExpression = refl
numbered_rule ru.InclusiveOrExpression = refl
numbered_rule ru.LogicalAndExpression = refl
numbered_rule ru.LogicalOrExpression = refl
numbered_rule ru.ConditionalExpression = refl
numbered_rule ru.AssignmentExpression = refl
numbered_rule ru.AssignmentOperator = refl
numbered_rule ru.Expression = refl
numbered_rule ru.ConstantExpression = refl
numbered_rule ru.Declaration = refl
numbered_rule ru.DeclarationSpecifiers = refl
numbered_rule ru.InitDeclaratorList = refl
numbered_rule ru.InitDeclarator = refl
numbered_rule ru.StorageClassSpecifier = refl
numbered_rule ru.TypeSpecifier = refl
numbered_rule ru.StructOrUnionSpecifier = refl
numbered_rule ru.StructOrUnion = refl
numbered_rule ru.StructDeclarationList = refl
numbered_rule ru.StructDeclaration = refl
numbered_rule ru.SpecifierQualifierList = refl
numbered_rule ru.StructDeclaratorList = refl
numbered_rule ru.StructDeclarator = refl
numbered_rule ru.EnumSpecifier = refl
numbered_rule ru.EnumeratorList = refl
numbered_rule ru.Enumerator = refl
numbered_rule ru.AtomicTypeSpecifier = refl
numbered_rule ru.TypeQualifier = refl
numbered_rule ru.FunctionSpecifier = refl
numbered_rule ru.AlignmentSpecifier = refl
numbered_rule ru.Declarator = refl
numbered_rule ru.DirectDeclarator = refl
numbered_rule ru.Pointer = refl
numbered_rule ru.TypeQualifierList = refl
numbered_rule ru.ParameterTypeList = refl
numbered_rule ru.ParameterList = refl
numbered_rule ru.ParameterDeclaration = refl
numbered_rule ru.IdentifierList = refl
numbered_rule ru.TypeName = refl
numbered_rule ru.AbstractDeclarator = refl
numbered_rule ru.DirectAbstractDeclarator = refl
numbered_rule ru.TypedefName = refl
numbered_rule ru.Initializer = refl
numbered_rule ru.InitializerList = refl
numbered_rule ru.Designation = refl
numbered_rule ru.DesignatorList = refl
numbered_rule ru.Designator = refl
numbered_rule ru.StaticAssertDeclaration = refl
numbered_rule ru.Statement = refl
numbered_rule ru.LabeledStatement = refl
numbered_rule ru.CompoundStatement = refl
numbered_rule ru.BlockItemList = refl
numbered_rule ru.BlockItem = refl
numbered_rule ru.ExpressionStatement = refl
numbered_rule ru.SelectionStatement = refl
numbered_rule ru.IterationStatement = refl
numbered_rule ru.JumpStatement = refl
numbered_rule ru.TranslationUnit = refl
numbered_rule ru.ExternalDeclaration = refl
numbered_rule ru.FunctionDefinition = refl

some_rule : {x y : Rule} → Some x ≡ Some y → x ≡ y
some_rule e = cc

pub same_rule_is : (x y : Rule) → rule_number x ≡ rule_number y → x ≡ y
same_rule_is x y e = some_rule (sym (numbered_rule x) ∙ ap (λ (n : ℕ). slice_get all_rules n) e ∙ numbered_rule y)
