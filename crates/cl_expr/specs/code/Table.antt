-- The places in the productions. Written by tools/grammar/emit_expr.py; proofs/Conditions and proofs/Bridge check it against the productions.
use Rattle.std.specs.Prelude.{ℕ, List, [], ◌∷◌, ◌++◌, Option, Some, None, Bool, true, false, cond, slice_get, length, ◌+◌}
use Rattle.cl_tree.specs.declared.class.Class.{Class}
use Rattle.cl_tree.specs.declared.class.Class.TheVariants as cl
use Rattle.cl_tree.specs.declared.rule.Rule.{Rule}
use Rattle.cl_tree.specs.declared.rule.Rule.TheVariants as ru
use Rattle.cl_tree.specs.declared.nonterminal.Nonterminal.{Nonterminal}
use Rattle.cl_tree.specs.declared.nonterminal.Nonterminal.TheVariants as nt
use Rattle.cl_tree.specs.declared.grammar.Terminal.{Terminal}
use Rattle.cl_tree.specs.declared.grammar.Terminal.TheVariants as te
use Rattle.cl_tree.specs.declared.grammar.Act.TheVariants as ac
use Rattle.cl_tree.specs.declared.grammar.Symbol.{Symbol}
use Rattle.cl_tree.specs.declared.grammar.Symbol.TheVariants.{Token, Node, Entry}
use Rattle.cl_tree.specs.declared.grammar.Separator.{Separator}
use Rattle.cl_tree.specs.Derives.{barred}
use Rattle.cl_expr.specs.declared.table.Edge.{Edge}
use Rattle.cl_expr.specs.declared.table.Label.{Label}
use Rattle.cl_expr.specs.declared.table.Head.{Head}
use Rattle.cl_expr.specs.declared.table.Ways.{Ways}
use Rattle.cl_expr.specs.declared.table.Row.{Row}
use Rattle.cl_expr.specs.declared.table.GoalRow.{GoalRow}
use Rattle.cl_tree.specs.declared.grammar.Span.{Span}

-- a production, by its number, and how many parts of its right side are behind
pub record Item : Type 0 where
  pub production : ℕ
  pub behind : ℕ

-- a place: what may stand there, the node that may end there, what may not follow it and whether it is a block, the nonterminal with which its
-- production begins if that is read before, the places after a part that turns on its kind, whether the node is a declarator that names something or
-- a statement that ends with an `if` without `else`, the place where the production begins, whether it holds no block, the tokens that go on from
-- where the node may end, and the productions that are there
pub record Place : Type 0 where
  pub edges : List Edge
  pub label : Option Label
  pub bar : Option Terminal
  pub scoped : Bool
  pub corner : Option Head
  pub turning : Option Ways
  pub named : Bool
  pub home : ℕ
  pub flat : Bool
  pub ends : List Class
  pub items : List Item

-- a nonterminal: the places where its trees end, those at its left end, those that go on from there, the tokens that begin it, that go on from it
-- and that may not begin it, and whether it holds no block
pub record Goal : Type 0 where
  pub kinds : List ℕ
  pub openers : List ℕ
  pub suffixes : List ℕ
  pub firsts : List Class
  pub goes : List Class
  pub shuns : Option Terminal
  pub flat : Bool

abbrev e : Symbol → ℕ → Edge
e s n = record { before = None; symbol = s; next = n }

abbrev after : Separator → Symbol → ℕ → Edge
after b s n = record { before = Some b; symbol = s; next = n }

abbrev i : ℕ → ℕ → Item
i n d = record { production = n; behind = d }

abbrev label : Rule → ℕ → Option Label
label r c = Some (record { rule = r; choice = c })

abbrev head : Nonterminal → ℕ → Option Head
head g n = Some (record { goal = g; next = n })

abbrev ways : ℕ → ℕ → Option Ways
ways a b = Some (record { named = a; other = b })

abbrev pub nowhere : Place
nowhere = record { edges = []; label = None; bar = None; scoped = false; corner = None; turning = None; named = false; home = 0; flat = true; ends = []; items = [] }

abbrev pub nothing : Goal
nothing = record { kinds = []; openers = []; suffixes = []; firsts = []; goes = []; shuns = None; flat = true }

abbrev row : List Edge → Option Label → Option Terminal → Bool → Option Head → Option Ways → Bool → ℕ → Bool → List Class → List Item → Place
row es l b s c t n h f ends is = record { edges = es; label = l; bar = b; scoped = s; corner = c; turning = t; named = n; home = h; flat = f; ends = ends; items = is }

unfoldable pub places : List Place
places =
    -- 0: a token
    row [] None None false None None false 0 true [] [] ∷
    -- 1: PrimaryExpression -> . Name; PrimaryExpression -> . Constant ..
    row (e (Token te.Name ac.Stay) 2 ∷ e (Token (te.Is cl.Constant) ac.Stay) 3 ∷ e (Token (te.Is cl.String) ac.Stay) 4 ∷ e (Token (te.Is cl.LeftParen) ac.Stay) 5 ∷ []) None None false None None false 1 true (cl.String ∷ []) (i 0 0 ∷ i 1 0 ∷ i 2 0 ∷ i 3 0 ∷ []) ∷
    -- 2: PrimaryExpression -> Name .
    row [] (label ru.PrimaryExpression 0) None false None None false 1 true [] (i 0 1 ∷ []) ∷
    -- 3: PrimaryExpression -> Constant .
    row [] (label ru.PrimaryExpression 1) None false None None false 1 true [] (i 1 1 ∷ []) ∷
    -- 4: PrimaryExpression -> String . String*
    row (e (Token (te.Is cl.String) ac.Stay) 4 ∷ []) (label ru.PrimaryExpression 2) None false None None false 1 true (cl.String ∷ []) (i 2 1 ∷ []) ∷
    -- 5: PrimaryExpression -> LeftParen . Expression RightParen
    row (e (Node nt.Expression) 6 ∷ []) None None false None None false 1 true [] (i 3 1 ∷ []) ∷
    -- 6: PrimaryExpression -> LeftParen Expression . RightParen
    row (e (Token (te.Is cl.RightParen) ac.Stay) 7 ∷ []) None None false None None false 1 true [] (i 3 2 ∷ []) ∷
    -- 7: PrimaryExpression -> LeftParen Expression RightParen .
    row [] (label ru.PrimaryExpression 3) None false None None false 1 true [] (i 3 3 ∷ []) ∷
    -- 8: GenericSelection -> . Generic Open AssignmentExpression Comma GenericAssocList RightParen
    row (e (Token (te.Is cl.Generic) ac.Stay) 9 ∷ []) None None false None None false 8 true [] (i 4 0 ∷ []) ∷
    -- 9: GenericSelection -> Generic . Open AssignmentExpression Comma GenericAssocList RightParen
    row (e (Token te.Open ac.Stay) 10 ∷ []) None None false None None false 8 true [] (i 4 1 ∷ []) ∷
    -- 10: GenericSelection -> Generic Open . AssignmentExpression Comma GenericAssocList RightParen
    row (e (Node nt.AssignmentExpression) 11 ∷ []) None None false None None false 8 true [] (i 4 2 ∷ []) ∷
    -- 11: GenericSelection -> Generic Open AssignmentExpression . Comma GenericAssocList RightParen
    row (e (Token (te.Is cl.Comma) ac.Stay) 12 ∷ []) None None false None None false 8 true [] (i 4 3 ∷ []) ∷
    -- 12: GenericSelection -> Generic Open AssignmentExpression Comma . GenericAssocList RightParen
    row (e (Node nt.GenericAssocList) 13 ∷ []) None None false None None false 8 true [] (i 4 4 ∷ []) ∷
    -- 13: GenericSelection -> Generic Open AssignmentExpression Comma GenericAssocList . RightParen
    row (e (Token (te.Is cl.RightParen) ac.Stay) 14 ∷ []) None None false None None false 8 true [] (i 4 5 ∷ []) ∷
    -- 14: GenericSelection -> Generic Open AssignmentExpression Comma GenericAssocList RightParen .
    row [] (label ru.GenericSelection 0) None false None None false 8 true [] (i 4 6 ∷ []) ∷
    -- 15: GenericAssocList -> . GenericAssociation
    row (e (Node nt.GenericAssociation) 16 ∷ []) None None false None None false 15 true (cl.String ∷ cl.LeftParen ∷ cl.TypeParen ∷ cl.LiteralParen ∷ cl.LeftBracket ∷ cl.Dot ∷ cl.Arrow ∷ cl.PlusPlus ∷ cl.MinusMinus ∷ cl.Ampersand ∷ cl.Star ∷ cl.Plus ∷ cl.Minus ∷ cl.Slash ∷ cl.Percent ∷ cl.ShiftLeft ∷ cl.ShiftRight ∷ cl.Less ∷ cl.Greater ∷ cl.LessEqual ∷ cl.GreaterEqual ∷ cl.EqualEqual ∷ cl.BangEqual ∷ cl.Caret ∷ cl.Bar ∷ cl.AndAnd ∷ cl.OrOr ∷ cl.Question ∷ cl.Comma ∷ cl.Equal ∷ cl.StarEqual ∷ cl.SlashEqual ∷ cl.PercentEqual ∷ cl.PlusEqual ∷ cl.MinusEqual ∷ cl.ShiftLeftEqual ∷ cl.ShiftRightEqual ∷ cl.AmpersandEqual ∷ cl.CaretEqual ∷ cl.BarEqual ∷ []) (i 5 0 ∷ []) ∷
    -- 16: GenericAssocList -> GenericAssociation .
    row (after (record { class = cl.Comma; act = ac.Stay }) (Node nt.GenericAssociation) 16 ∷ []) (label ru.GenericAssocList 0) None false None None false 15 true (cl.String ∷ cl.LeftParen ∷ cl.TypeParen ∷ cl.LiteralParen ∷ cl.LeftBracket ∷ cl.Dot ∷ cl.Arrow ∷ cl.PlusPlus ∷ cl.MinusMinus ∷ cl.Ampersand ∷ cl.Star ∷ cl.Plus ∷ cl.Minus ∷ cl.Slash ∷ cl.Percent ∷ cl.ShiftLeft ∷ cl.ShiftRight ∷ cl.Less ∷ cl.Greater ∷ cl.LessEqual ∷ cl.GreaterEqual ∷ cl.EqualEqual ∷ cl.BangEqual ∷ cl.Caret ∷ cl.Bar ∷ cl.AndAnd ∷ cl.OrOr ∷ cl.Question ∷ cl.Comma ∷ cl.Equal ∷ cl.StarEqual ∷ cl.SlashEqual ∷ cl.PercentEqual ∷ cl.PlusEqual ∷ cl.MinusEqual ∷ cl.ShiftLeftEqual ∷ cl.ShiftRightEqual ∷ cl.AmpersandEqual ∷ cl.CaretEqual ∷ cl.BarEqual ∷ []) (i 5 1 ∷ []) ∷
    -- 17: GenericAssociation -> . TypeName Colon AssignmentExpression; GenericAssociation -> . Default Colon AssignmentExpression
    row (e (Node nt.TypeName) 18 ∷ e (Token (te.Is cl.Default) ac.Stay) 21 ∷ []) None None false None None false 17 true (cl.String ∷ cl.LeftParen ∷ cl.TypeParen ∷ cl.LiteralParen ∷ cl.LeftBracket ∷ cl.Dot ∷ cl.Arrow ∷ cl.PlusPlus ∷ cl.MinusMinus ∷ cl.Ampersand ∷ cl.Star ∷ cl.Plus ∷ cl.Minus ∷ cl.Slash ∷ cl.Percent ∷ cl.ShiftLeft ∷ cl.ShiftRight ∷ cl.Less ∷ cl.Greater ∷ cl.LessEqual ∷ cl.GreaterEqual ∷ cl.EqualEqual ∷ cl.BangEqual ∷ cl.Caret ∷ cl.Bar ∷ cl.AndAnd ∷ cl.OrOr ∷ cl.Question ∷ cl.Equal ∷ cl.StarEqual ∷ cl.SlashEqual ∷ cl.PercentEqual ∷ cl.PlusEqual ∷ cl.MinusEqual ∷ cl.ShiftLeftEqual ∷ cl.ShiftRightEqual ∷ cl.AmpersandEqual ∷ cl.CaretEqual ∷ cl.BarEqual ∷ []) (i 6 0 ∷ i 7 0 ∷ []) ∷
    -- 18: GenericAssociation -> TypeName . Colon AssignmentExpression
    row (e (Token (te.Is cl.Colon) ac.Stay) 19 ∷ []) None None false None None false 17 true (cl.String ∷ cl.LeftParen ∷ cl.TypeParen ∷ cl.LiteralParen ∷ cl.LeftBracket ∷ cl.Dot ∷ cl.Arrow ∷ cl.PlusPlus ∷ cl.MinusMinus ∷ cl.Ampersand ∷ cl.Star ∷ cl.Plus ∷ cl.Minus ∷ cl.Slash ∷ cl.Percent ∷ cl.ShiftLeft ∷ cl.ShiftRight ∷ cl.Less ∷ cl.Greater ∷ cl.LessEqual ∷ cl.GreaterEqual ∷ cl.EqualEqual ∷ cl.BangEqual ∷ cl.Caret ∷ cl.Bar ∷ cl.AndAnd ∷ cl.OrOr ∷ cl.Question ∷ cl.Equal ∷ cl.StarEqual ∷ cl.SlashEqual ∷ cl.PercentEqual ∷ cl.PlusEqual ∷ cl.MinusEqual ∷ cl.ShiftLeftEqual ∷ cl.ShiftRightEqual ∷ cl.AmpersandEqual ∷ cl.CaretEqual ∷ cl.BarEqual ∷ []) (i 6 1 ∷ []) ∷
    -- 19: GenericAssociation -> TypeName Colon . AssignmentExpression
    row (e (Node nt.AssignmentExpression) 20 ∷ []) None None false None None false 17 true (cl.String ∷ cl.LeftParen ∷ cl.TypeParen ∷ cl.LiteralParen ∷ cl.LeftBracket ∷ cl.Dot ∷ cl.Arrow ∷ cl.PlusPlus ∷ cl.MinusMinus ∷ cl.Ampersand ∷ cl.Star ∷ cl.Plus ∷ cl.Minus ∷ cl.Slash ∷ cl.Percent ∷ cl.ShiftLeft ∷ cl.ShiftRight ∷ cl.Less ∷ cl.Greater ∷ cl.LessEqual ∷ cl.GreaterEqual ∷ cl.EqualEqual ∷ cl.BangEqual ∷ cl.Caret ∷ cl.Bar ∷ cl.AndAnd ∷ cl.OrOr ∷ cl.Question ∷ cl.Equal ∷ cl.StarEqual ∷ cl.SlashEqual ∷ cl.PercentEqual ∷ cl.PlusEqual ∷ cl.MinusEqual ∷ cl.ShiftLeftEqual ∷ cl.ShiftRightEqual ∷ cl.AmpersandEqual ∷ cl.CaretEqual ∷ cl.BarEqual ∷ []) (i 6 2 ∷ []) ∷
    -- 20: GenericAssociation -> TypeName Colon AssignmentExpression .
    row [] (label ru.GenericAssociation 0) None false None None false 17 true [] (i 6 3 ∷ []) ∷
    -- 21: GenericAssociation -> Default . Colon AssignmentExpression
    row (e (Token (te.Is cl.Colon) ac.Stay) 22 ∷ []) None None false None None false 17 true (cl.String ∷ cl.LeftParen ∷ cl.TypeParen ∷ cl.LiteralParen ∷ cl.LeftBracket ∷ cl.Dot ∷ cl.Arrow ∷ cl.PlusPlus ∷ cl.MinusMinus ∷ cl.Ampersand ∷ cl.Star ∷ cl.Plus ∷ cl.Minus ∷ cl.Slash ∷ cl.Percent ∷ cl.ShiftLeft ∷ cl.ShiftRight ∷ cl.Less ∷ cl.Greater ∷ cl.LessEqual ∷ cl.GreaterEqual ∷ cl.EqualEqual ∷ cl.BangEqual ∷ cl.Caret ∷ cl.Bar ∷ cl.AndAnd ∷ cl.OrOr ∷ cl.Question ∷ cl.Equal ∷ cl.StarEqual ∷ cl.SlashEqual ∷ cl.PercentEqual ∷ cl.PlusEqual ∷ cl.MinusEqual ∷ cl.ShiftLeftEqual ∷ cl.ShiftRightEqual ∷ cl.AmpersandEqual ∷ cl.CaretEqual ∷ cl.BarEqual ∷ []) (i 7 1 ∷ []) ∷
    -- 22: GenericAssociation -> Default Colon . AssignmentExpression
    row (e (Node nt.AssignmentExpression) 23 ∷ []) None None false None None false 17 true (cl.String ∷ cl.LeftParen ∷ cl.TypeParen ∷ cl.LiteralParen ∷ cl.LeftBracket ∷ cl.Dot ∷ cl.Arrow ∷ cl.PlusPlus ∷ cl.MinusMinus ∷ cl.Ampersand ∷ cl.Star ∷ cl.Plus ∷ cl.Minus ∷ cl.Slash ∷ cl.Percent ∷ cl.ShiftLeft ∷ cl.ShiftRight ∷ cl.Less ∷ cl.Greater ∷ cl.LessEqual ∷ cl.GreaterEqual ∷ cl.EqualEqual ∷ cl.BangEqual ∷ cl.Caret ∷ cl.Bar ∷ cl.AndAnd ∷ cl.OrOr ∷ cl.Question ∷ cl.Equal ∷ cl.StarEqual ∷ cl.SlashEqual ∷ cl.PercentEqual ∷ cl.PlusEqual ∷ cl.MinusEqual ∷ cl.ShiftLeftEqual ∷ cl.ShiftRightEqual ∷ cl.AmpersandEqual ∷ cl.CaretEqual ∷ cl.BarEqual ∷ []) (i 7 2 ∷ []) ∷
    -- 23: GenericAssociation -> Default Colon AssignmentExpression .
    row [] (label ru.GenericAssociation 1) None false None None false 17 true [] (i 7 3 ∷ []) ∷
    -- 24: PostfixExpression -> . PostfixExpression LeftBracket Expression RightBracket; PostfixExpression -> . PostfixExpression Open ArgumentExpressionList? RightParen ..
    row (e (Node nt.PostfixExpression) 25 ∷ []) None None false (head nt.PostfixExpression 25) None false 24 true [] (i 8 0 ∷ i 9 0 ∷ i 10 0 ∷ i 11 0 ∷ i 12 0 ∷ i 13 0 ∷ []) ∷
    -- 25: PostfixExpression -> PostfixExpression . LeftBracket Expression RightBracket; PostfixExpression -> PostfixExpression . Open ArgumentExpressionList? RightParen ..
    row (e (Token (te.Is cl.LeftBracket) ac.Stay) 26 ∷ e (Token te.Open ac.Stay) 29 ∷ e (Token (te.Is cl.Dot) ac.Stay) 32 ∷ e (Token (te.Is cl.Arrow) ac.Stay) 34 ∷ e (Token (te.Is cl.PlusPlus) ac.Stay) 36 ∷ e (Token (te.Is cl.MinusMinus) ac.Stay) 37 ∷ []) None None false None None false 24 true [] (i 8 1 ∷ i 9 1 ∷ i 10 1 ∷ i 11 1 ∷ i 12 1 ∷ i 13 1 ∷ []) ∷
    -- 26: PostfixExpression -> PostfixExpression LeftBracket . Expression RightBracket
    row (e (Node nt.Expression) 27 ∷ []) None None false None None false 24 true [] (i 8 2 ∷ []) ∷
    -- 27: PostfixExpression -> PostfixExpression LeftBracket Expression . RightBracket
    row (e (Token (te.Is cl.RightBracket) ac.Stay) 28 ∷ []) None None false None None false 24 true [] (i 8 3 ∷ []) ∷
    -- 28: PostfixExpression -> PostfixExpression LeftBracket Expression RightBracket .
    row [] (label ru.PostfixExpression 1) None false None None false 24 true [] (i 8 4 ∷ []) ∷
    -- 29: PostfixExpression -> PostfixExpression Open . ArgumentExpressionList? RightParen
    row (e (Node nt.ArgumentExpressionList) 30 ∷ e (Token (te.Is cl.RightParen) ac.Stay) 31 ∷ []) None None false None None false 24 true [] (i 9 2 ∷ []) ∷
    -- 30: PostfixExpression -> PostfixExpression Open ArgumentExpressionList? . RightParen
    row (e (Token (te.Is cl.RightParen) ac.Stay) 31 ∷ []) None None false None None false 24 true [] (i 9 3 ∷ []) ∷
    -- 31: PostfixExpression -> PostfixExpression Open ArgumentExpressionList? RightParen .
    row [] (label ru.PostfixExpression 2) None false None None false 24 true [] (i 9 4 ∷ []) ∷
    -- 32: PostfixExpression -> PostfixExpression Dot . Name
    row (e (Token te.Name ac.Stay) 33 ∷ []) None None false None None false 24 true [] (i 10 2 ∷ []) ∷
    -- 33: PostfixExpression -> PostfixExpression Dot Name .
    row [] (label ru.PostfixExpression 3) None false None None false 24 true [] (i 10 3 ∷ []) ∷
    -- 34: PostfixExpression -> PostfixExpression Arrow . Name
    row (e (Token te.Name ac.Stay) 35 ∷ []) None None false None None false 24 true [] (i 11 2 ∷ []) ∷
    -- 35: PostfixExpression -> PostfixExpression Arrow Name .
    row [] (label ru.PostfixExpression 4) None false None None false 24 true [] (i 11 3 ∷ []) ∷
    -- 36: PostfixExpression -> PostfixExpression PlusPlus .
    row [] (label ru.PostfixExpression 5) None false None None false 24 true [] (i 12 2 ∷ []) ∷
    -- 37: PostfixExpression -> PostfixExpression MinusMinus .
    row [] (label ru.PostfixExpression 6) None false None None false 24 true [] (i 13 2 ∷ []) ∷
    -- 38: PostfixExpression -> . LiteralParen TypeName RightParen LeftBrace InitializerList RightBrace; PostfixExpression -> . LiteralParen TypeName RightParen LeftBrace InitializerList LastComma RightBrace
    row (e (Token (te.Is cl.LiteralParen) ac.Stay) 39 ∷ []) None None false None None false 38 true [] (i 14 0 ∷ i 15 0 ∷ []) ∷
    -- 39: PostfixExpression -> LiteralParen . TypeName RightParen LeftBrace InitializerList RightBrace; PostfixExpression -> LiteralParen . TypeName RightParen LeftBrace InitializerList LastComma RightBrace
    row (e (Node nt.TypeName) 40 ∷ []) None None false None None false 38 true [] (i 14 1 ∷ i 15 1 ∷ []) ∷
    -- 40: PostfixExpression -> LiteralParen TypeName . RightParen LeftBrace InitializerList RightBrace; PostfixExpression -> LiteralParen TypeName . RightParen LeftBrace InitializerList LastComma RightBrace
    row (e (Token (te.Is cl.RightParen) ac.Stay) 41 ∷ []) None None false None None false 38 true [] (i 14 2 ∷ i 15 2 ∷ []) ∷
    -- 41: PostfixExpression -> LiteralParen TypeName RightParen . LeftBrace InitializerList RightBrace; PostfixExpression -> LiteralParen TypeName RightParen . LeftBrace InitializerList LastComma RightBrace
    row (e (Token (te.Is cl.LeftBrace) ac.Stay) 42 ∷ []) None None false None None false 38 true [] (i 14 3 ∷ i 15 3 ∷ []) ∷
    -- 42: PostfixExpression -> LiteralParen TypeName RightParen LeftBrace . InitializerList RightBrace; PostfixExpression -> LiteralParen TypeName RightParen LeftBrace . InitializerList LastComma RightBrace
    row (e (Node nt.InitializerList) 43 ∷ []) None None false None None false 38 true [] (i 14 4 ∷ i 15 4 ∷ []) ∷
    -- 43: PostfixExpression -> LiteralParen TypeName RightParen LeftBrace InitializerList . RightBrace; PostfixExpression -> LiteralParen TypeName RightParen LeftBrace InitializerList . LastComma RightBrace
    row (e (Token (te.Is cl.RightBrace) ac.Stay) 44 ∷ e (Token (te.Is cl.LastComma) ac.Stay) 45 ∷ []) None None false None None false 38 true [] (i 14 5 ∷ i 15 5 ∷ []) ∷
    -- 44: PostfixExpression -> LiteralParen TypeName RightParen LeftBrace InitializerList RightBrace .
    row [] (label ru.PostfixExpression 7) None false None None false 38 true [] (i 14 6 ∷ []) ∷
    -- 45: PostfixExpression -> LiteralParen TypeName RightParen LeftBrace InitializerList LastComma . RightBrace
    row (e (Token (te.Is cl.RightBrace) ac.Stay) 46 ∷ []) None None false None None false 38 true [] (i 15 6 ∷ []) ∷
    -- 46: PostfixExpression -> LiteralParen TypeName RightParen LeftBrace InitializerList LastComma RightBrace .
    row [] (label ru.PostfixExpression 8) None false None None false 38 true [] (i 15 7 ∷ []) ∷
    -- 47: ArgumentExpressionList -> . AssignmentExpression
    row (e (Node nt.AssignmentExpression) 48 ∷ []) None None false None None false 47 true (cl.String ∷ cl.LeftParen ∷ cl.TypeParen ∷ cl.LiteralParen ∷ cl.LeftBracket ∷ cl.Dot ∷ cl.Arrow ∷ cl.PlusPlus ∷ cl.MinusMinus ∷ cl.Ampersand ∷ cl.Star ∷ cl.Plus ∷ cl.Minus ∷ cl.Slash ∷ cl.Percent ∷ cl.ShiftLeft ∷ cl.ShiftRight ∷ cl.Less ∷ cl.Greater ∷ cl.LessEqual ∷ cl.GreaterEqual ∷ cl.EqualEqual ∷ cl.BangEqual ∷ cl.Caret ∷ cl.Bar ∷ cl.AndAnd ∷ cl.OrOr ∷ cl.Question ∷ cl.Comma ∷ cl.Equal ∷ cl.StarEqual ∷ cl.SlashEqual ∷ cl.PercentEqual ∷ cl.PlusEqual ∷ cl.MinusEqual ∷ cl.ShiftLeftEqual ∷ cl.ShiftRightEqual ∷ cl.AmpersandEqual ∷ cl.CaretEqual ∷ cl.BarEqual ∷ []) (i 16 0 ∷ []) ∷
    -- 48: ArgumentExpressionList -> AssignmentExpression .
    row (after (record { class = cl.Comma; act = ac.Stay }) (Node nt.AssignmentExpression) 48 ∷ []) (label ru.ArgumentExpressionList 0) None false None None false 47 true (cl.String ∷ cl.LeftParen ∷ cl.TypeParen ∷ cl.LiteralParen ∷ cl.LeftBracket ∷ cl.Dot ∷ cl.Arrow ∷ cl.PlusPlus ∷ cl.MinusMinus ∷ cl.Ampersand ∷ cl.Star ∷ cl.Plus ∷ cl.Minus ∷ cl.Slash ∷ cl.Percent ∷ cl.ShiftLeft ∷ cl.ShiftRight ∷ cl.Less ∷ cl.Greater ∷ cl.LessEqual ∷ cl.GreaterEqual ∷ cl.EqualEqual ∷ cl.BangEqual ∷ cl.Caret ∷ cl.Bar ∷ cl.AndAnd ∷ cl.OrOr ∷ cl.Question ∷ cl.Comma ∷ cl.Equal ∷ cl.StarEqual ∷ cl.SlashEqual ∷ cl.PercentEqual ∷ cl.PlusEqual ∷ cl.MinusEqual ∷ cl.ShiftLeftEqual ∷ cl.ShiftRightEqual ∷ cl.AmpersandEqual ∷ cl.CaretEqual ∷ cl.BarEqual ∷ []) (i 16 1 ∷ []) ∷
    -- 49: UnaryExpression -> . PlusPlus UnaryExpression; UnaryExpression -> . MinusMinus UnaryExpression ..
    row (e (Token (te.Is cl.PlusPlus) ac.Stay) 50 ∷ e (Token (te.Is cl.MinusMinus) ac.Stay) 52 ∷ e (Node nt.UnaryOperator) 54 ∷ e (Token (te.Is cl.Sizeof) ac.Stay) 56 ∷ e (Token (te.Is cl.Alignof) ac.Stay) 61 ∷ []) None None false None None false 49 true (cl.String ∷ cl.LeftParen ∷ cl.TypeParen ∷ cl.LiteralParen ∷ cl.LeftBracket ∷ cl.Dot ∷ cl.Arrow ∷ cl.PlusPlus ∷ cl.MinusMinus ∷ []) (i 17 0 ∷ i 18 0 ∷ i 19 0 ∷ i 20 0 ∷ i 21 0 ∷ i 22 0 ∷ []) ∷
    -- 50: UnaryExpression -> PlusPlus . UnaryExpression
    row (e (Node nt.UnaryExpression) 51 ∷ []) None None false None None false 49 true (cl.String ∷ cl.LeftParen ∷ cl.TypeParen ∷ cl.LiteralParen ∷ cl.LeftBracket ∷ cl.Dot ∷ cl.Arrow ∷ cl.PlusPlus ∷ cl.MinusMinus ∷ []) (i 17 1 ∷ []) ∷
    -- 51: UnaryExpression -> PlusPlus UnaryExpression .
    row [] (label ru.UnaryExpression 1) None false None None false 49 true [] (i 17 2 ∷ []) ∷
    -- 52: UnaryExpression -> MinusMinus . UnaryExpression
    row (e (Node nt.UnaryExpression) 53 ∷ []) None None false None None false 49 true (cl.String ∷ cl.LeftParen ∷ cl.TypeParen ∷ cl.LiteralParen ∷ cl.LeftBracket ∷ cl.Dot ∷ cl.Arrow ∷ cl.PlusPlus ∷ cl.MinusMinus ∷ []) (i 18 1 ∷ []) ∷
    -- 53: UnaryExpression -> MinusMinus UnaryExpression .
    row [] (label ru.UnaryExpression 2) None false None None false 49 true [] (i 18 2 ∷ []) ∷
    -- 54: UnaryExpression -> UnaryOperator . CastExpression
    row (e (Node nt.CastExpression) 55 ∷ []) None None false None None false 49 true (cl.String ∷ cl.LeftParen ∷ cl.TypeParen ∷ cl.LiteralParen ∷ cl.LeftBracket ∷ cl.Dot ∷ cl.Arrow ∷ cl.PlusPlus ∷ cl.MinusMinus ∷ []) (i 19 1 ∷ []) ∷
    -- 55: UnaryExpression -> UnaryOperator CastExpression .
    row [] (label ru.UnaryExpression 3) None false None None false 49 true [] (i 19 2 ∷ []) ∷
    -- 56: UnaryExpression -> Sizeof . UnaryExpression; UnaryExpression -> Sizeof . TypeParen TypeName RightParen
    row (e (Node nt.UnaryExpression) 57 ∷ e (Token (te.Is cl.TypeParen) ac.Stay) 58 ∷ []) None None false None None false 49 true (cl.String ∷ cl.LeftParen ∷ cl.TypeParen ∷ cl.LiteralParen ∷ cl.LeftBracket ∷ cl.Dot ∷ cl.Arrow ∷ cl.PlusPlus ∷ cl.MinusMinus ∷ []) (i 20 1 ∷ i 21 1 ∷ []) ∷
    -- 57: UnaryExpression -> Sizeof UnaryExpression .
    row [] (label ru.UnaryExpression 4) None false None None false 49 true [] (i 20 2 ∷ []) ∷
    -- 58: UnaryExpression -> Sizeof TypeParen . TypeName RightParen
    row (e (Node nt.TypeName) 59 ∷ []) None None false None None false 49 true [] (i 21 2 ∷ []) ∷
    -- 59: UnaryExpression -> Sizeof TypeParen TypeName . RightParen
    row (e (Token (te.Is cl.RightParen) ac.Stay) 60 ∷ []) None None false None None false 49 true [] (i 21 3 ∷ []) ∷
    -- 60: UnaryExpression -> Sizeof TypeParen TypeName RightParen .
    row [] (label ru.UnaryExpression 5) None false None None false 49 true [] (i 21 4 ∷ []) ∷
    -- 61: UnaryExpression -> Alignof . TypeOpen TypeName RightParen
    row (e (Token te.TypeOpen ac.Stay) 62 ∷ []) None None false None None false 49 true [] (i 22 1 ∷ []) ∷
    -- 62: UnaryExpression -> Alignof TypeOpen . TypeName RightParen
    row (e (Node nt.TypeName) 63 ∷ []) None None false None None false 49 true [] (i 22 2 ∷ []) ∷
    -- 63: UnaryExpression -> Alignof TypeOpen TypeName . RightParen
    row (e (Token (te.Is cl.RightParen) ac.Stay) 64 ∷ []) None None false None None false 49 true [] (i 22 3 ∷ []) ∷
    -- 64: UnaryExpression -> Alignof TypeOpen TypeName RightParen .
    row [] (label ru.UnaryExpression 6) None false None None false 49 true [] (i 22 4 ∷ []) ∷
    -- 65: UnaryOperator -> . Ampersand; UnaryOperator -> . Star ..
    row (e (Token (te.Is cl.Ampersand) ac.Stay) 66 ∷ e (Token (te.Is cl.Star) ac.Stay) 67 ∷ e (Token (te.Is cl.Plus) ac.Stay) 68 ∷ e (Token (te.Is cl.Minus) ac.Stay) 69 ∷ e (Token (te.Is cl.Tilde) ac.Stay) 70 ∷ e (Token (te.Is cl.Bang) ac.Stay) 71 ∷ []) None None false None None false 65 true [] (i 23 0 ∷ i 24 0 ∷ i 25 0 ∷ i 26 0 ∷ i 27 0 ∷ i 28 0 ∷ []) ∷
    -- 66: UnaryOperator -> Ampersand .
    row [] (label ru.UnaryOperator 0) None false None None false 65 true [] (i 23 1 ∷ []) ∷
    -- 67: UnaryOperator -> Star .
    row [] (label ru.UnaryOperator 1) None false None None false 65 true [] (i 24 1 ∷ []) ∷
    -- 68: UnaryOperator -> Plus .
    row [] (label ru.UnaryOperator 2) None false None None false 65 true [] (i 25 1 ∷ []) ∷
    -- 69: UnaryOperator -> Minus .
    row [] (label ru.UnaryOperator 3) None false None None false 65 true [] (i 26 1 ∷ []) ∷
    -- 70: UnaryOperator -> Tilde .
    row [] (label ru.UnaryOperator 4) None false None None false 65 true [] (i 27 1 ∷ []) ∷
    -- 71: UnaryOperator -> Bang .
    row [] (label ru.UnaryOperator 5) None false None None false 65 true [] (i 28 1 ∷ []) ∷
    -- 72: CastExpression -> . TypeParen TypeName RightParen CastExpression
    row (e (Token (te.Is cl.TypeParen) ac.Stay) 73 ∷ []) None None false None None false 72 true (cl.String ∷ cl.LeftParen ∷ cl.TypeParen ∷ cl.LiteralParen ∷ cl.LeftBracket ∷ cl.Dot ∷ cl.Arrow ∷ cl.PlusPlus ∷ cl.MinusMinus ∷ []) (i 29 0 ∷ []) ∷
    -- 73: CastExpression -> TypeParen . TypeName RightParen CastExpression
    row (e (Node nt.TypeName) 74 ∷ []) None None false None None false 72 true (cl.String ∷ cl.LeftParen ∷ cl.TypeParen ∷ cl.LiteralParen ∷ cl.LeftBracket ∷ cl.Dot ∷ cl.Arrow ∷ cl.PlusPlus ∷ cl.MinusMinus ∷ []) (i 29 1 ∷ []) ∷
    -- 74: CastExpression -> TypeParen TypeName . RightParen CastExpression
    row (e (Token (te.Is cl.RightParen) ac.Stay) 75 ∷ []) None None false None None false 72 true (cl.String ∷ cl.LeftParen ∷ cl.TypeParen ∷ cl.LiteralParen ∷ cl.LeftBracket ∷ cl.Dot ∷ cl.Arrow ∷ cl.PlusPlus ∷ cl.MinusMinus ∷ []) (i 29 2 ∷ []) ∷
    -- 75: CastExpression -> TypeParen TypeName RightParen . CastExpression
    row (e (Node nt.CastExpression) 76 ∷ []) None None false None None false 72 true (cl.String ∷ cl.LeftParen ∷ cl.TypeParen ∷ cl.LiteralParen ∷ cl.LeftBracket ∷ cl.Dot ∷ cl.Arrow ∷ cl.PlusPlus ∷ cl.MinusMinus ∷ []) (i 29 3 ∷ []) ∷
    -- 76: CastExpression -> TypeParen TypeName RightParen CastExpression .
    row [] (label ru.CastExpression 1) None false None None false 72 true [] (i 29 4 ∷ []) ∷
    -- 77: MultiplicativeExpression -> . MultiplicativeExpression Star CastExpression; MultiplicativeExpression -> . MultiplicativeExpression Slash CastExpression ..
    row (e (Node nt.MultiplicativeExpression) 78 ∷ []) None None false (head nt.MultiplicativeExpression 78) None false 77 true (cl.String ∷ cl.LeftParen ∷ cl.TypeParen ∷ cl.LiteralParen ∷ cl.LeftBracket ∷ cl.Dot ∷ cl.Arrow ∷ cl.PlusPlus ∷ cl.MinusMinus ∷ []) (i 30 0 ∷ i 31 0 ∷ i 32 0 ∷ []) ∷
    -- 78: MultiplicativeExpression -> MultiplicativeExpression . Star CastExpression; MultiplicativeExpression -> MultiplicativeExpression . Slash CastExpression ..
    row (e (Token (te.Is cl.Star) ac.Stay) 79 ∷ e (Token (te.Is cl.Slash) ac.Stay) 81 ∷ e (Token (te.Is cl.Percent) ac.Stay) 83 ∷ []) None None false None None false 77 true (cl.String ∷ cl.LeftParen ∷ cl.TypeParen ∷ cl.LiteralParen ∷ cl.LeftBracket ∷ cl.Dot ∷ cl.Arrow ∷ cl.PlusPlus ∷ cl.MinusMinus ∷ []) (i 30 1 ∷ i 31 1 ∷ i 32 1 ∷ []) ∷
    -- 79: MultiplicativeExpression -> MultiplicativeExpression Star . CastExpression
    row (e (Node nt.CastExpression) 80 ∷ []) None None false None None false 77 true (cl.String ∷ cl.LeftParen ∷ cl.TypeParen ∷ cl.LiteralParen ∷ cl.LeftBracket ∷ cl.Dot ∷ cl.Arrow ∷ cl.PlusPlus ∷ cl.MinusMinus ∷ []) (i 30 2 ∷ []) ∷
    -- 80: MultiplicativeExpression -> MultiplicativeExpression Star CastExpression .
    row [] (label ru.MultiplicativeExpression 1) None false None None false 77 true [] (i 30 3 ∷ []) ∷
    -- 81: MultiplicativeExpression -> MultiplicativeExpression Slash . CastExpression
    row (e (Node nt.CastExpression) 82 ∷ []) None None false None None false 77 true (cl.String ∷ cl.LeftParen ∷ cl.TypeParen ∷ cl.LiteralParen ∷ cl.LeftBracket ∷ cl.Dot ∷ cl.Arrow ∷ cl.PlusPlus ∷ cl.MinusMinus ∷ []) (i 31 2 ∷ []) ∷
    -- 82: MultiplicativeExpression -> MultiplicativeExpression Slash CastExpression .
    row [] (label ru.MultiplicativeExpression 2) None false None None false 77 true [] (i 31 3 ∷ []) ∷
    -- 83: MultiplicativeExpression -> MultiplicativeExpression Percent . CastExpression
    row (e (Node nt.CastExpression) 84 ∷ []) None None false None None false 77 true (cl.String ∷ cl.LeftParen ∷ cl.TypeParen ∷ cl.LiteralParen ∷ cl.LeftBracket ∷ cl.Dot ∷ cl.Arrow ∷ cl.PlusPlus ∷ cl.MinusMinus ∷ []) (i 32 2 ∷ []) ∷
    -- 84: MultiplicativeExpression -> MultiplicativeExpression Percent CastExpression .
    row [] (label ru.MultiplicativeExpression 3) None false None None false 77 true [] (i 32 3 ∷ []) ∷
    -- 85: AdditiveExpression -> . AdditiveExpression Plus MultiplicativeExpression; AdditiveExpression -> . AdditiveExpression Minus MultiplicativeExpression
    row (e (Node nt.AdditiveExpression) 86 ∷ []) None None false (head nt.AdditiveExpression 86) None false 85 true (cl.String ∷ cl.LeftParen ∷ cl.TypeParen ∷ cl.LiteralParen ∷ cl.LeftBracket ∷ cl.Dot ∷ cl.Arrow ∷ cl.PlusPlus ∷ cl.MinusMinus ∷ cl.Star ∷ cl.Slash ∷ cl.Percent ∷ []) (i 33 0 ∷ i 34 0 ∷ []) ∷
    -- 86: AdditiveExpression -> AdditiveExpression . Plus MultiplicativeExpression; AdditiveExpression -> AdditiveExpression . Minus MultiplicativeExpression
    row (e (Token (te.Is cl.Plus) ac.Stay) 87 ∷ e (Token (te.Is cl.Minus) ac.Stay) 89 ∷ []) None None false None None false 85 true (cl.String ∷ cl.LeftParen ∷ cl.TypeParen ∷ cl.LiteralParen ∷ cl.LeftBracket ∷ cl.Dot ∷ cl.Arrow ∷ cl.PlusPlus ∷ cl.MinusMinus ∷ cl.Star ∷ cl.Slash ∷ cl.Percent ∷ []) (i 33 1 ∷ i 34 1 ∷ []) ∷
    -- 87: AdditiveExpression -> AdditiveExpression Plus . MultiplicativeExpression
    row (e (Node nt.MultiplicativeExpression) 88 ∷ []) None None false None None false 85 true (cl.String ∷ cl.LeftParen ∷ cl.TypeParen ∷ cl.LiteralParen ∷ cl.LeftBracket ∷ cl.Dot ∷ cl.Arrow ∷ cl.PlusPlus ∷ cl.MinusMinus ∷ cl.Star ∷ cl.Slash ∷ cl.Percent ∷ []) (i 33 2 ∷ []) ∷
    -- 88: AdditiveExpression -> AdditiveExpression Plus MultiplicativeExpression .
    row [] (label ru.AdditiveExpression 1) None false None None false 85 true [] (i 33 3 ∷ []) ∷
    -- 89: AdditiveExpression -> AdditiveExpression Minus . MultiplicativeExpression
    row (e (Node nt.MultiplicativeExpression) 90 ∷ []) None None false None None false 85 true (cl.String ∷ cl.LeftParen ∷ cl.TypeParen ∷ cl.LiteralParen ∷ cl.LeftBracket ∷ cl.Dot ∷ cl.Arrow ∷ cl.PlusPlus ∷ cl.MinusMinus ∷ cl.Star ∷ cl.Slash ∷ cl.Percent ∷ []) (i 34 2 ∷ []) ∷
    -- 90: AdditiveExpression -> AdditiveExpression Minus MultiplicativeExpression .
    row [] (label ru.AdditiveExpression 2) None false None None false 85 true [] (i 34 3 ∷ []) ∷
    -- 91: ShiftExpression -> . ShiftExpression ShiftLeft AdditiveExpression; ShiftExpression -> . ShiftExpression ShiftRight AdditiveExpression
    row (e (Node nt.ShiftExpression) 92 ∷ []) None None false (head nt.ShiftExpression 92) None false 91 true (cl.String ∷ cl.LeftParen ∷ cl.TypeParen ∷ cl.LiteralParen ∷ cl.LeftBracket ∷ cl.Dot ∷ cl.Arrow ∷ cl.PlusPlus ∷ cl.MinusMinus ∷ cl.Star ∷ cl.Plus ∷ cl.Minus ∷ cl.Slash ∷ cl.Percent ∷ []) (i 35 0 ∷ i 36 0 ∷ []) ∷
    -- 92: ShiftExpression -> ShiftExpression . ShiftLeft AdditiveExpression; ShiftExpression -> ShiftExpression . ShiftRight AdditiveExpression
    row (e (Token (te.Is cl.ShiftLeft) ac.Stay) 93 ∷ e (Token (te.Is cl.ShiftRight) ac.Stay) 95 ∷ []) None None false None None false 91 true (cl.String ∷ cl.LeftParen ∷ cl.TypeParen ∷ cl.LiteralParen ∷ cl.LeftBracket ∷ cl.Dot ∷ cl.Arrow ∷ cl.PlusPlus ∷ cl.MinusMinus ∷ cl.Star ∷ cl.Plus ∷ cl.Minus ∷ cl.Slash ∷ cl.Percent ∷ []) (i 35 1 ∷ i 36 1 ∷ []) ∷
    -- 93: ShiftExpression -> ShiftExpression ShiftLeft . AdditiveExpression
    row (e (Node nt.AdditiveExpression) 94 ∷ []) None None false None None false 91 true (cl.String ∷ cl.LeftParen ∷ cl.TypeParen ∷ cl.LiteralParen ∷ cl.LeftBracket ∷ cl.Dot ∷ cl.Arrow ∷ cl.PlusPlus ∷ cl.MinusMinus ∷ cl.Star ∷ cl.Plus ∷ cl.Minus ∷ cl.Slash ∷ cl.Percent ∷ []) (i 35 2 ∷ []) ∷
    -- 94: ShiftExpression -> ShiftExpression ShiftLeft AdditiveExpression .
    row [] (label ru.ShiftExpression 1) None false None None false 91 true [] (i 35 3 ∷ []) ∷
    -- 95: ShiftExpression -> ShiftExpression ShiftRight . AdditiveExpression
    row (e (Node nt.AdditiveExpression) 96 ∷ []) None None false None None false 91 true (cl.String ∷ cl.LeftParen ∷ cl.TypeParen ∷ cl.LiteralParen ∷ cl.LeftBracket ∷ cl.Dot ∷ cl.Arrow ∷ cl.PlusPlus ∷ cl.MinusMinus ∷ cl.Star ∷ cl.Plus ∷ cl.Minus ∷ cl.Slash ∷ cl.Percent ∷ []) (i 36 2 ∷ []) ∷
    -- 96: ShiftExpression -> ShiftExpression ShiftRight AdditiveExpression .
    row [] (label ru.ShiftExpression 2) None false None None false 91 true [] (i 36 3 ∷ []) ∷
    -- 97: RelationalExpression -> . RelationalExpression Less ShiftExpression; RelationalExpression -> . RelationalExpression Greater ShiftExpression ..
    row (e (Node nt.RelationalExpression) 98 ∷ []) None None false (head nt.RelationalExpression 98) None false 97 true (cl.String ∷ cl.LeftParen ∷ cl.TypeParen ∷ cl.LiteralParen ∷ cl.LeftBracket ∷ cl.Dot ∷ cl.Arrow ∷ cl.PlusPlus ∷ cl.MinusMinus ∷ cl.Star ∷ cl.Plus ∷ cl.Minus ∷ cl.Slash ∷ cl.Percent ∷ cl.ShiftLeft ∷ cl.ShiftRight ∷ []) (i 37 0 ∷ i 38 0 ∷ i 39 0 ∷ i 40 0 ∷ []) ∷
    -- 98: RelationalExpression -> RelationalExpression . Less ShiftExpression; RelationalExpression -> RelationalExpression . Greater ShiftExpression ..
    row (e (Token (te.Is cl.Less) ac.Stay) 99 ∷ e (Token (te.Is cl.Greater) ac.Stay) 101 ∷ e (Token (te.Is cl.LessEqual) ac.Stay) 103 ∷ e (Token (te.Is cl.GreaterEqual) ac.Stay) 105 ∷ []) None None false None None false 97 true (cl.String ∷ cl.LeftParen ∷ cl.TypeParen ∷ cl.LiteralParen ∷ cl.LeftBracket ∷ cl.Dot ∷ cl.Arrow ∷ cl.PlusPlus ∷ cl.MinusMinus ∷ cl.Star ∷ cl.Plus ∷ cl.Minus ∷ cl.Slash ∷ cl.Percent ∷ cl.ShiftLeft ∷ cl.ShiftRight ∷ []) (i 37 1 ∷ i 38 1 ∷ i 39 1 ∷ i 40 1 ∷ []) ∷
    -- 99: RelationalExpression -> RelationalExpression Less . ShiftExpression
    row (e (Node nt.ShiftExpression) 100 ∷ []) None None false None None false 97 true (cl.String ∷ cl.LeftParen ∷ cl.TypeParen ∷ cl.LiteralParen ∷ cl.LeftBracket ∷ cl.Dot ∷ cl.Arrow ∷ cl.PlusPlus ∷ cl.MinusMinus ∷ cl.Star ∷ cl.Plus ∷ cl.Minus ∷ cl.Slash ∷ cl.Percent ∷ cl.ShiftLeft ∷ cl.ShiftRight ∷ []) (i 37 2 ∷ []) ∷
    -- 100: RelationalExpression -> RelationalExpression Less ShiftExpression .
    row [] (label ru.RelationalExpression 1) None false None None false 97 true [] (i 37 3 ∷ []) ∷
    -- 101: RelationalExpression -> RelationalExpression Greater . ShiftExpression
    row (e (Node nt.ShiftExpression) 102 ∷ []) None None false None None false 97 true (cl.String ∷ cl.LeftParen ∷ cl.TypeParen ∷ cl.LiteralParen ∷ cl.LeftBracket ∷ cl.Dot ∷ cl.Arrow ∷ cl.PlusPlus ∷ cl.MinusMinus ∷ cl.Star ∷ cl.Plus ∷ cl.Minus ∷ cl.Slash ∷ cl.Percent ∷ cl.ShiftLeft ∷ cl.ShiftRight ∷ []) (i 38 2 ∷ []) ∷
    -- 102: RelationalExpression -> RelationalExpression Greater ShiftExpression .
    row [] (label ru.RelationalExpression 2) None false None None false 97 true [] (i 38 3 ∷ []) ∷
    -- 103: RelationalExpression -> RelationalExpression LessEqual . ShiftExpression
    row (e (Node nt.ShiftExpression) 104 ∷ []) None None false None None false 97 true (cl.String ∷ cl.LeftParen ∷ cl.TypeParen ∷ cl.LiteralParen ∷ cl.LeftBracket ∷ cl.Dot ∷ cl.Arrow ∷ cl.PlusPlus ∷ cl.MinusMinus ∷ cl.Star ∷ cl.Plus ∷ cl.Minus ∷ cl.Slash ∷ cl.Percent ∷ cl.ShiftLeft ∷ cl.ShiftRight ∷ []) (i 39 2 ∷ []) ∷
    -- 104: RelationalExpression -> RelationalExpression LessEqual ShiftExpression .
    row [] (label ru.RelationalExpression 3) None false None None false 97 true [] (i 39 3 ∷ []) ∷
    -- 105: RelationalExpression -> RelationalExpression GreaterEqual . ShiftExpression
    row (e (Node nt.ShiftExpression) 106 ∷ []) None None false None None false 97 true (cl.String ∷ cl.LeftParen ∷ cl.TypeParen ∷ cl.LiteralParen ∷ cl.LeftBracket ∷ cl.Dot ∷ cl.Arrow ∷ cl.PlusPlus ∷ cl.MinusMinus ∷ cl.Star ∷ cl.Plus ∷ cl.Minus ∷ cl.Slash ∷ cl.Percent ∷ cl.ShiftLeft ∷ cl.ShiftRight ∷ []) (i 40 2 ∷ []) ∷
    -- 106: RelationalExpression -> RelationalExpression GreaterEqual ShiftExpression .
    row [] (label ru.RelationalExpression 4) None false None None false 97 true [] (i 40 3 ∷ []) ∷
    -- 107: EqualityExpression -> . EqualityExpression EqualEqual RelationalExpression; EqualityExpression -> . EqualityExpression BangEqual RelationalExpression
    row (e (Node nt.EqualityExpression) 108 ∷ []) None None false (head nt.EqualityExpression 108) None false 107 true (cl.String ∷ cl.LeftParen ∷ cl.TypeParen ∷ cl.LiteralParen ∷ cl.LeftBracket ∷ cl.Dot ∷ cl.Arrow ∷ cl.PlusPlus ∷ cl.MinusMinus ∷ cl.Star ∷ cl.Plus ∷ cl.Minus ∷ cl.Slash ∷ cl.Percent ∷ cl.ShiftLeft ∷ cl.ShiftRight ∷ cl.Less ∷ cl.Greater ∷ cl.LessEqual ∷ cl.GreaterEqual ∷ []) (i 41 0 ∷ i 42 0 ∷ []) ∷
    -- 108: EqualityExpression -> EqualityExpression . EqualEqual RelationalExpression; EqualityExpression -> EqualityExpression . BangEqual RelationalExpression
    row (e (Token (te.Is cl.EqualEqual) ac.Stay) 109 ∷ e (Token (te.Is cl.BangEqual) ac.Stay) 111 ∷ []) None None false None None false 107 true (cl.String ∷ cl.LeftParen ∷ cl.TypeParen ∷ cl.LiteralParen ∷ cl.LeftBracket ∷ cl.Dot ∷ cl.Arrow ∷ cl.PlusPlus ∷ cl.MinusMinus ∷ cl.Star ∷ cl.Plus ∷ cl.Minus ∷ cl.Slash ∷ cl.Percent ∷ cl.ShiftLeft ∷ cl.ShiftRight ∷ cl.Less ∷ cl.Greater ∷ cl.LessEqual ∷ cl.GreaterEqual ∷ []) (i 41 1 ∷ i 42 1 ∷ []) ∷
    -- 109: EqualityExpression -> EqualityExpression EqualEqual . RelationalExpression
    row (e (Node nt.RelationalExpression) 110 ∷ []) None None false None None false 107 true (cl.String ∷ cl.LeftParen ∷ cl.TypeParen ∷ cl.LiteralParen ∷ cl.LeftBracket ∷ cl.Dot ∷ cl.Arrow ∷ cl.PlusPlus ∷ cl.MinusMinus ∷ cl.Star ∷ cl.Plus ∷ cl.Minus ∷ cl.Slash ∷ cl.Percent ∷ cl.ShiftLeft ∷ cl.ShiftRight ∷ cl.Less ∷ cl.Greater ∷ cl.LessEqual ∷ cl.GreaterEqual ∷ []) (i 41 2 ∷ []) ∷
    -- 110: EqualityExpression -> EqualityExpression EqualEqual RelationalExpression .
    row [] (label ru.EqualityExpression 1) None false None None false 107 true [] (i 41 3 ∷ []) ∷
    -- 111: EqualityExpression -> EqualityExpression BangEqual . RelationalExpression
    row (e (Node nt.RelationalExpression) 112 ∷ []) None None false None None false 107 true (cl.String ∷ cl.LeftParen ∷ cl.TypeParen ∷ cl.LiteralParen ∷ cl.LeftBracket ∷ cl.Dot ∷ cl.Arrow ∷ cl.PlusPlus ∷ cl.MinusMinus ∷ cl.Star ∷ cl.Plus ∷ cl.Minus ∷ cl.Slash ∷ cl.Percent ∷ cl.ShiftLeft ∷ cl.ShiftRight ∷ cl.Less ∷ cl.Greater ∷ cl.LessEqual ∷ cl.GreaterEqual ∷ []) (i 42 2 ∷ []) ∷
    -- 112: EqualityExpression -> EqualityExpression BangEqual RelationalExpression .
    row [] (label ru.EqualityExpression 2) None false None None false 107 true [] (i 42 3 ∷ []) ∷
    -- 113: AndExpression -> . AndExpression Ampersand EqualityExpression
    row (e (Node nt.AndExpression) 114 ∷ []) None None false (head nt.AndExpression 114) None false 113 true (cl.String ∷ cl.LeftParen ∷ cl.TypeParen ∷ cl.LiteralParen ∷ cl.LeftBracket ∷ cl.Dot ∷ cl.Arrow ∷ cl.PlusPlus ∷ cl.MinusMinus ∷ cl.Star ∷ cl.Plus ∷ cl.Minus ∷ cl.Slash ∷ cl.Percent ∷ cl.ShiftLeft ∷ cl.ShiftRight ∷ cl.Less ∷ cl.Greater ∷ cl.LessEqual ∷ cl.GreaterEqual ∷ cl.EqualEqual ∷ cl.BangEqual ∷ []) (i 43 0 ∷ []) ∷
    -- 114: AndExpression -> AndExpression . Ampersand EqualityExpression
    row (e (Token (te.Is cl.Ampersand) ac.Stay) 115 ∷ []) None None false None None false 113 true (cl.String ∷ cl.LeftParen ∷ cl.TypeParen ∷ cl.LiteralParen ∷ cl.LeftBracket ∷ cl.Dot ∷ cl.Arrow ∷ cl.PlusPlus ∷ cl.MinusMinus ∷ cl.Star ∷ cl.Plus ∷ cl.Minus ∷ cl.Slash ∷ cl.Percent ∷ cl.ShiftLeft ∷ cl.ShiftRight ∷ cl.Less ∷ cl.Greater ∷ cl.LessEqual ∷ cl.GreaterEqual ∷ cl.EqualEqual ∷ cl.BangEqual ∷ []) (i 43 1 ∷ []) ∷
    -- 115: AndExpression -> AndExpression Ampersand . EqualityExpression
    row (e (Node nt.EqualityExpression) 116 ∷ []) None None false None None false 113 true (cl.String ∷ cl.LeftParen ∷ cl.TypeParen ∷ cl.LiteralParen ∷ cl.LeftBracket ∷ cl.Dot ∷ cl.Arrow ∷ cl.PlusPlus ∷ cl.MinusMinus ∷ cl.Star ∷ cl.Plus ∷ cl.Minus ∷ cl.Slash ∷ cl.Percent ∷ cl.ShiftLeft ∷ cl.ShiftRight ∷ cl.Less ∷ cl.Greater ∷ cl.LessEqual ∷ cl.GreaterEqual ∷ cl.EqualEqual ∷ cl.BangEqual ∷ []) (i 43 2 ∷ []) ∷
    -- 116: AndExpression -> AndExpression Ampersand EqualityExpression .
    row [] (label ru.AndExpression 1) None false None None false 113 true [] (i 43 3 ∷ []) ∷
    -- 117: ExclusiveOrExpression -> . ExclusiveOrExpression Caret AndExpression
    row (e (Node nt.ExclusiveOrExpression) 118 ∷ []) None None false (head nt.ExclusiveOrExpression 118) None false 117 true (cl.String ∷ cl.LeftParen ∷ cl.TypeParen ∷ cl.LiteralParen ∷ cl.LeftBracket ∷ cl.Dot ∷ cl.Arrow ∷ cl.PlusPlus ∷ cl.MinusMinus ∷ cl.Ampersand ∷ cl.Star ∷ cl.Plus ∷ cl.Minus ∷ cl.Slash ∷ cl.Percent ∷ cl.ShiftLeft ∷ cl.ShiftRight ∷ cl.Less ∷ cl.Greater ∷ cl.LessEqual ∷ cl.GreaterEqual ∷ cl.EqualEqual ∷ cl.BangEqual ∷ []) (i 44 0 ∷ []) ∷
    -- 118: ExclusiveOrExpression -> ExclusiveOrExpression . Caret AndExpression
    row (e (Token (te.Is cl.Caret) ac.Stay) 119 ∷ []) None None false None None false 117 true (cl.String ∷ cl.LeftParen ∷ cl.TypeParen ∷ cl.LiteralParen ∷ cl.LeftBracket ∷ cl.Dot ∷ cl.Arrow ∷ cl.PlusPlus ∷ cl.MinusMinus ∷ cl.Ampersand ∷ cl.Star ∷ cl.Plus ∷ cl.Minus ∷ cl.Slash ∷ cl.Percent ∷ cl.ShiftLeft ∷ cl.ShiftRight ∷ cl.Less ∷ cl.Greater ∷ cl.LessEqual ∷ cl.GreaterEqual ∷ cl.EqualEqual ∷ cl.BangEqual ∷ []) (i 44 1 ∷ []) ∷
    -- 119: ExclusiveOrExpression -> ExclusiveOrExpression Caret . AndExpression
    row (e (Node nt.AndExpression) 120 ∷ []) None None false None None false 117 true (cl.String ∷ cl.LeftParen ∷ cl.TypeParen ∷ cl.LiteralParen ∷ cl.LeftBracket ∷ cl.Dot ∷ cl.Arrow ∷ cl.PlusPlus ∷ cl.MinusMinus ∷ cl.Ampersand ∷ cl.Star ∷ cl.Plus ∷ cl.Minus ∷ cl.Slash ∷ cl.Percent ∷ cl.ShiftLeft ∷ cl.ShiftRight ∷ cl.Less ∷ cl.Greater ∷ cl.LessEqual ∷ cl.GreaterEqual ∷ cl.EqualEqual ∷ cl.BangEqual ∷ []) (i 44 2 ∷ []) ∷
    -- 120: ExclusiveOrExpression -> ExclusiveOrExpression Caret AndExpression .
    row [] (label ru.ExclusiveOrExpression 1) None false None None false 117 true [] (i 44 3 ∷ []) ∷
    -- 121: InclusiveOrExpression -> . InclusiveOrExpression Bar ExclusiveOrExpression
    row (e (Node nt.InclusiveOrExpression) 122 ∷ []) None None false (head nt.InclusiveOrExpression 122) None false 121 true (cl.String ∷ cl.LeftParen ∷ cl.TypeParen ∷ cl.LiteralParen ∷ cl.LeftBracket ∷ cl.Dot ∷ cl.Arrow ∷ cl.PlusPlus ∷ cl.MinusMinus ∷ cl.Ampersand ∷ cl.Star ∷ cl.Plus ∷ cl.Minus ∷ cl.Slash ∷ cl.Percent ∷ cl.ShiftLeft ∷ cl.ShiftRight ∷ cl.Less ∷ cl.Greater ∷ cl.LessEqual ∷ cl.GreaterEqual ∷ cl.EqualEqual ∷ cl.BangEqual ∷ cl.Caret ∷ []) (i 45 0 ∷ []) ∷
    -- 122: InclusiveOrExpression -> InclusiveOrExpression . Bar ExclusiveOrExpression
    row (e (Token (te.Is cl.Bar) ac.Stay) 123 ∷ []) None None false None None false 121 true (cl.String ∷ cl.LeftParen ∷ cl.TypeParen ∷ cl.LiteralParen ∷ cl.LeftBracket ∷ cl.Dot ∷ cl.Arrow ∷ cl.PlusPlus ∷ cl.MinusMinus ∷ cl.Ampersand ∷ cl.Star ∷ cl.Plus ∷ cl.Minus ∷ cl.Slash ∷ cl.Percent ∷ cl.ShiftLeft ∷ cl.ShiftRight ∷ cl.Less ∷ cl.Greater ∷ cl.LessEqual ∷ cl.GreaterEqual ∷ cl.EqualEqual ∷ cl.BangEqual ∷ cl.Caret ∷ []) (i 45 1 ∷ []) ∷
    -- 123: InclusiveOrExpression -> InclusiveOrExpression Bar . ExclusiveOrExpression
    row (e (Node nt.ExclusiveOrExpression) 124 ∷ []) None None false None None false 121 true (cl.String ∷ cl.LeftParen ∷ cl.TypeParen ∷ cl.LiteralParen ∷ cl.LeftBracket ∷ cl.Dot ∷ cl.Arrow ∷ cl.PlusPlus ∷ cl.MinusMinus ∷ cl.Ampersand ∷ cl.Star ∷ cl.Plus ∷ cl.Minus ∷ cl.Slash ∷ cl.Percent ∷ cl.ShiftLeft ∷ cl.ShiftRight ∷ cl.Less ∷ cl.Greater ∷ cl.LessEqual ∷ cl.GreaterEqual ∷ cl.EqualEqual ∷ cl.BangEqual ∷ cl.Caret ∷ []) (i 45 2 ∷ []) ∷
    -- 124: InclusiveOrExpression -> InclusiveOrExpression Bar ExclusiveOrExpression .
    row [] (label ru.InclusiveOrExpression 1) None false None None false 121 true [] (i 45 3 ∷ []) ∷
    -- 125: LogicalAndExpression -> . LogicalAndExpression AndAnd InclusiveOrExpression
    row (e (Node nt.LogicalAndExpression) 126 ∷ []) None None false (head nt.LogicalAndExpression 126) None false 125 true (cl.String ∷ cl.LeftParen ∷ cl.TypeParen ∷ cl.LiteralParen ∷ cl.LeftBracket ∷ cl.Dot ∷ cl.Arrow ∷ cl.PlusPlus ∷ cl.MinusMinus ∷ cl.Ampersand ∷ cl.Star ∷ cl.Plus ∷ cl.Minus ∷ cl.Slash ∷ cl.Percent ∷ cl.ShiftLeft ∷ cl.ShiftRight ∷ cl.Less ∷ cl.Greater ∷ cl.LessEqual ∷ cl.GreaterEqual ∷ cl.EqualEqual ∷ cl.BangEqual ∷ cl.Caret ∷ cl.Bar ∷ []) (i 46 0 ∷ []) ∷
    -- 126: LogicalAndExpression -> LogicalAndExpression . AndAnd InclusiveOrExpression
    row (e (Token (te.Is cl.AndAnd) ac.Stay) 127 ∷ []) None None false None None false 125 true (cl.String ∷ cl.LeftParen ∷ cl.TypeParen ∷ cl.LiteralParen ∷ cl.LeftBracket ∷ cl.Dot ∷ cl.Arrow ∷ cl.PlusPlus ∷ cl.MinusMinus ∷ cl.Ampersand ∷ cl.Star ∷ cl.Plus ∷ cl.Minus ∷ cl.Slash ∷ cl.Percent ∷ cl.ShiftLeft ∷ cl.ShiftRight ∷ cl.Less ∷ cl.Greater ∷ cl.LessEqual ∷ cl.GreaterEqual ∷ cl.EqualEqual ∷ cl.BangEqual ∷ cl.Caret ∷ cl.Bar ∷ []) (i 46 1 ∷ []) ∷
    -- 127: LogicalAndExpression -> LogicalAndExpression AndAnd . InclusiveOrExpression
    row (e (Node nt.InclusiveOrExpression) 128 ∷ []) None None false None None false 125 true (cl.String ∷ cl.LeftParen ∷ cl.TypeParen ∷ cl.LiteralParen ∷ cl.LeftBracket ∷ cl.Dot ∷ cl.Arrow ∷ cl.PlusPlus ∷ cl.MinusMinus ∷ cl.Ampersand ∷ cl.Star ∷ cl.Plus ∷ cl.Minus ∷ cl.Slash ∷ cl.Percent ∷ cl.ShiftLeft ∷ cl.ShiftRight ∷ cl.Less ∷ cl.Greater ∷ cl.LessEqual ∷ cl.GreaterEqual ∷ cl.EqualEqual ∷ cl.BangEqual ∷ cl.Caret ∷ cl.Bar ∷ []) (i 46 2 ∷ []) ∷
    -- 128: LogicalAndExpression -> LogicalAndExpression AndAnd InclusiveOrExpression .
    row [] (label ru.LogicalAndExpression 1) None false None None false 125 true [] (i 46 3 ∷ []) ∷
    -- 129: LogicalOrExpression -> . LogicalOrExpression OrOr LogicalAndExpression
    row (e (Node nt.LogicalOrExpression) 130 ∷ []) None None false (head nt.LogicalOrExpression 130) None false 129 true (cl.String ∷ cl.LeftParen ∷ cl.TypeParen ∷ cl.LiteralParen ∷ cl.LeftBracket ∷ cl.Dot ∷ cl.Arrow ∷ cl.PlusPlus ∷ cl.MinusMinus ∷ cl.Ampersand ∷ cl.Star ∷ cl.Plus ∷ cl.Minus ∷ cl.Slash ∷ cl.Percent ∷ cl.ShiftLeft ∷ cl.ShiftRight ∷ cl.Less ∷ cl.Greater ∷ cl.LessEqual ∷ cl.GreaterEqual ∷ cl.EqualEqual ∷ cl.BangEqual ∷ cl.Caret ∷ cl.Bar ∷ cl.AndAnd ∷ []) (i 47 0 ∷ []) ∷
    -- 130: LogicalOrExpression -> LogicalOrExpression . OrOr LogicalAndExpression
    row (e (Token (te.Is cl.OrOr) ac.Stay) 131 ∷ []) None None false None None false 129 true (cl.String ∷ cl.LeftParen ∷ cl.TypeParen ∷ cl.LiteralParen ∷ cl.LeftBracket ∷ cl.Dot ∷ cl.Arrow ∷ cl.PlusPlus ∷ cl.MinusMinus ∷ cl.Ampersand ∷ cl.Star ∷ cl.Plus ∷ cl.Minus ∷ cl.Slash ∷ cl.Percent ∷ cl.ShiftLeft ∷ cl.ShiftRight ∷ cl.Less ∷ cl.Greater ∷ cl.LessEqual ∷ cl.GreaterEqual ∷ cl.EqualEqual ∷ cl.BangEqual ∷ cl.Caret ∷ cl.Bar ∷ cl.AndAnd ∷ []) (i 47 1 ∷ []) ∷
    -- 131: LogicalOrExpression -> LogicalOrExpression OrOr . LogicalAndExpression
    row (e (Node nt.LogicalAndExpression) 132 ∷ []) None None false None None false 129 true (cl.String ∷ cl.LeftParen ∷ cl.TypeParen ∷ cl.LiteralParen ∷ cl.LeftBracket ∷ cl.Dot ∷ cl.Arrow ∷ cl.PlusPlus ∷ cl.MinusMinus ∷ cl.Ampersand ∷ cl.Star ∷ cl.Plus ∷ cl.Minus ∷ cl.Slash ∷ cl.Percent ∷ cl.ShiftLeft ∷ cl.ShiftRight ∷ cl.Less ∷ cl.Greater ∷ cl.LessEqual ∷ cl.GreaterEqual ∷ cl.EqualEqual ∷ cl.BangEqual ∷ cl.Caret ∷ cl.Bar ∷ cl.AndAnd ∷ []) (i 47 2 ∷ []) ∷
    -- 132: LogicalOrExpression -> LogicalOrExpression OrOr LogicalAndExpression .
    row [] (label ru.LogicalOrExpression 1) None false None None false 129 true [] (i 47 3 ∷ []) ∷
    -- 133: ConditionalExpression -> . LogicalOrExpression Question Expression Colon ConditionalExpression
    row (e (Node nt.LogicalOrExpression) 134 ∷ []) None None false (head nt.LogicalOrExpression 134) None false 133 true (cl.String ∷ cl.LeftParen ∷ cl.TypeParen ∷ cl.LiteralParen ∷ cl.LeftBracket ∷ cl.Dot ∷ cl.Arrow ∷ cl.PlusPlus ∷ cl.MinusMinus ∷ cl.Ampersand ∷ cl.Star ∷ cl.Plus ∷ cl.Minus ∷ cl.Slash ∷ cl.Percent ∷ cl.ShiftLeft ∷ cl.ShiftRight ∷ cl.Less ∷ cl.Greater ∷ cl.LessEqual ∷ cl.GreaterEqual ∷ cl.EqualEqual ∷ cl.BangEqual ∷ cl.Caret ∷ cl.Bar ∷ cl.AndAnd ∷ cl.OrOr ∷ cl.Question ∷ []) (i 48 0 ∷ []) ∷
    -- 134: ConditionalExpression -> LogicalOrExpression . Question Expression Colon ConditionalExpression
    row (e (Token (te.Is cl.Question) ac.Stay) 135 ∷ []) None None false None None false 133 true (cl.String ∷ cl.LeftParen ∷ cl.TypeParen ∷ cl.LiteralParen ∷ cl.LeftBracket ∷ cl.Dot ∷ cl.Arrow ∷ cl.PlusPlus ∷ cl.MinusMinus ∷ cl.Ampersand ∷ cl.Star ∷ cl.Plus ∷ cl.Minus ∷ cl.Slash ∷ cl.Percent ∷ cl.ShiftLeft ∷ cl.ShiftRight ∷ cl.Less ∷ cl.Greater ∷ cl.LessEqual ∷ cl.GreaterEqual ∷ cl.EqualEqual ∷ cl.BangEqual ∷ cl.Caret ∷ cl.Bar ∷ cl.AndAnd ∷ cl.OrOr ∷ cl.Question ∷ []) (i 48 1 ∷ []) ∷
    -- 135: ConditionalExpression -> LogicalOrExpression Question . Expression Colon ConditionalExpression
    row (e (Node nt.Expression) 136 ∷ []) None None false None None false 133 true (cl.String ∷ cl.LeftParen ∷ cl.TypeParen ∷ cl.LiteralParen ∷ cl.LeftBracket ∷ cl.Dot ∷ cl.Arrow ∷ cl.PlusPlus ∷ cl.MinusMinus ∷ cl.Ampersand ∷ cl.Star ∷ cl.Plus ∷ cl.Minus ∷ cl.Slash ∷ cl.Percent ∷ cl.ShiftLeft ∷ cl.ShiftRight ∷ cl.Less ∷ cl.Greater ∷ cl.LessEqual ∷ cl.GreaterEqual ∷ cl.EqualEqual ∷ cl.BangEqual ∷ cl.Caret ∷ cl.Bar ∷ cl.AndAnd ∷ cl.OrOr ∷ cl.Question ∷ []) (i 48 2 ∷ []) ∷
    -- 136: ConditionalExpression -> LogicalOrExpression Question Expression . Colon ConditionalExpression
    row (e (Token (te.Is cl.Colon) ac.Stay) 137 ∷ []) None None false None None false 133 true (cl.String ∷ cl.LeftParen ∷ cl.TypeParen ∷ cl.LiteralParen ∷ cl.LeftBracket ∷ cl.Dot ∷ cl.Arrow ∷ cl.PlusPlus ∷ cl.MinusMinus ∷ cl.Ampersand ∷ cl.Star ∷ cl.Plus ∷ cl.Minus ∷ cl.Slash ∷ cl.Percent ∷ cl.ShiftLeft ∷ cl.ShiftRight ∷ cl.Less ∷ cl.Greater ∷ cl.LessEqual ∷ cl.GreaterEqual ∷ cl.EqualEqual ∷ cl.BangEqual ∷ cl.Caret ∷ cl.Bar ∷ cl.AndAnd ∷ cl.OrOr ∷ cl.Question ∷ []) (i 48 3 ∷ []) ∷
    -- 137: ConditionalExpression -> LogicalOrExpression Question Expression Colon . ConditionalExpression
    row (e (Node nt.ConditionalExpression) 138 ∷ []) None None false None None false 133 true (cl.String ∷ cl.LeftParen ∷ cl.TypeParen ∷ cl.LiteralParen ∷ cl.LeftBracket ∷ cl.Dot ∷ cl.Arrow ∷ cl.PlusPlus ∷ cl.MinusMinus ∷ cl.Ampersand ∷ cl.Star ∷ cl.Plus ∷ cl.Minus ∷ cl.Slash ∷ cl.Percent ∷ cl.ShiftLeft ∷ cl.ShiftRight ∷ cl.Less ∷ cl.Greater ∷ cl.LessEqual ∷ cl.GreaterEqual ∷ cl.EqualEqual ∷ cl.BangEqual ∷ cl.Caret ∷ cl.Bar ∷ cl.AndAnd ∷ cl.OrOr ∷ cl.Question ∷ []) (i 48 4 ∷ []) ∷
    -- 138: ConditionalExpression -> LogicalOrExpression Question Expression Colon ConditionalExpression .
    row [] (label ru.ConditionalExpression 1) None false None None false 133 true [] (i 48 5 ∷ []) ∷
    -- 139: AssignmentExpression -> . UnaryExpression AssignmentOperator AssignmentExpression
    row (e (Node nt.UnaryExpression) 140 ∷ []) None None false (head nt.UnaryExpression 140) None false 139 true (cl.String ∷ cl.LeftParen ∷ cl.TypeParen ∷ cl.LiteralParen ∷ cl.LeftBracket ∷ cl.Dot ∷ cl.Arrow ∷ cl.PlusPlus ∷ cl.MinusMinus ∷ cl.Ampersand ∷ cl.Star ∷ cl.Plus ∷ cl.Minus ∷ cl.Slash ∷ cl.Percent ∷ cl.ShiftLeft ∷ cl.ShiftRight ∷ cl.Less ∷ cl.Greater ∷ cl.LessEqual ∷ cl.GreaterEqual ∷ cl.EqualEqual ∷ cl.BangEqual ∷ cl.Caret ∷ cl.Bar ∷ cl.AndAnd ∷ cl.OrOr ∷ cl.Question ∷ cl.Equal ∷ cl.StarEqual ∷ cl.SlashEqual ∷ cl.PercentEqual ∷ cl.PlusEqual ∷ cl.MinusEqual ∷ cl.ShiftLeftEqual ∷ cl.ShiftRightEqual ∷ cl.AmpersandEqual ∷ cl.CaretEqual ∷ cl.BarEqual ∷ []) (i 49 0 ∷ []) ∷
    -- 140: AssignmentExpression -> UnaryExpression . AssignmentOperator AssignmentExpression
    row (e (Node nt.AssignmentOperator) 141 ∷ []) None None false None None false 139 true (cl.String ∷ cl.LeftParen ∷ cl.TypeParen ∷ cl.LiteralParen ∷ cl.LeftBracket ∷ cl.Dot ∷ cl.Arrow ∷ cl.PlusPlus ∷ cl.MinusMinus ∷ cl.Ampersand ∷ cl.Star ∷ cl.Plus ∷ cl.Minus ∷ cl.Slash ∷ cl.Percent ∷ cl.ShiftLeft ∷ cl.ShiftRight ∷ cl.Less ∷ cl.Greater ∷ cl.LessEqual ∷ cl.GreaterEqual ∷ cl.EqualEqual ∷ cl.BangEqual ∷ cl.Caret ∷ cl.Bar ∷ cl.AndAnd ∷ cl.OrOr ∷ cl.Question ∷ cl.Equal ∷ cl.StarEqual ∷ cl.SlashEqual ∷ cl.PercentEqual ∷ cl.PlusEqual ∷ cl.MinusEqual ∷ cl.ShiftLeftEqual ∷ cl.ShiftRightEqual ∷ cl.AmpersandEqual ∷ cl.CaretEqual ∷ cl.BarEqual ∷ []) (i 49 1 ∷ []) ∷
    -- 141: AssignmentExpression -> UnaryExpression AssignmentOperator . AssignmentExpression
    row (e (Node nt.AssignmentExpression) 142 ∷ []) None None false None None false 139 true (cl.String ∷ cl.LeftParen ∷ cl.TypeParen ∷ cl.LiteralParen ∷ cl.LeftBracket ∷ cl.Dot ∷ cl.Arrow ∷ cl.PlusPlus ∷ cl.MinusMinus ∷ cl.Ampersand ∷ cl.Star ∷ cl.Plus ∷ cl.Minus ∷ cl.Slash ∷ cl.Percent ∷ cl.ShiftLeft ∷ cl.ShiftRight ∷ cl.Less ∷ cl.Greater ∷ cl.LessEqual ∷ cl.GreaterEqual ∷ cl.EqualEqual ∷ cl.BangEqual ∷ cl.Caret ∷ cl.Bar ∷ cl.AndAnd ∷ cl.OrOr ∷ cl.Question ∷ cl.Equal ∷ cl.StarEqual ∷ cl.SlashEqual ∷ cl.PercentEqual ∷ cl.PlusEqual ∷ cl.MinusEqual ∷ cl.ShiftLeftEqual ∷ cl.ShiftRightEqual ∷ cl.AmpersandEqual ∷ cl.CaretEqual ∷ cl.BarEqual ∷ []) (i 49 2 ∷ []) ∷
    -- 142: AssignmentExpression -> UnaryExpression AssignmentOperator AssignmentExpression .
    row [] (label ru.AssignmentExpression 1) None false None None false 139 true [] (i 49 3 ∷ []) ∷
    -- 143: AssignmentOperator -> . Equal; AssignmentOperator -> . StarEqual ..
    row (e (Token (te.Is cl.Equal) ac.Stay) 144 ∷ e (Token (te.Is cl.StarEqual) ac.Stay) 145 ∷ e (Token (te.Is cl.SlashEqual) ac.Stay) 146 ∷ e (Token (te.Is cl.PercentEqual) ac.Stay) 147 ∷ e (Token (te.Is cl.PlusEqual) ac.Stay) 148 ∷ e (Token (te.Is cl.MinusEqual) ac.Stay) 149 ∷ e (Token (te.Is cl.ShiftLeftEqual) ac.Stay) 150 ∷ e (Token (te.Is cl.ShiftRightEqual) ac.Stay) 151 ∷ e (Token (te.Is cl.AmpersandEqual) ac.Stay) 152 ∷ e (Token (te.Is cl.CaretEqual) ac.Stay) 153 ∷ e (Token (te.Is cl.BarEqual) ac.Stay) 154 ∷ []) None None false None None false 143 true [] (i 50 0 ∷ i 51 0 ∷ i 52 0 ∷ i 53 0 ∷ i 54 0 ∷ i 55 0 ∷ i 56 0 ∷ i 57 0 ∷ i 58 0 ∷ i 59 0 ∷ i 60 0 ∷ []) ∷
    -- 144: AssignmentOperator -> Equal .
    row [] (label ru.AssignmentOperator 0) None false None None false 143 true [] (i 50 1 ∷ []) ∷
    -- 145: AssignmentOperator -> StarEqual .
    row [] (label ru.AssignmentOperator 1) None false None None false 143 true [] (i 51 1 ∷ []) ∷
    -- 146: AssignmentOperator -> SlashEqual .
    row [] (label ru.AssignmentOperator 2) None false None None false 143 true [] (i 52 1 ∷ []) ∷
    -- 147: AssignmentOperator -> PercentEqual .
    row [] (label ru.AssignmentOperator 3) None false None None false 143 true [] (i 53 1 ∷ []) ∷
    -- 148: AssignmentOperator -> PlusEqual .
    row [] (label ru.AssignmentOperator 4) None false None None false 143 true [] (i 54 1 ∷ []) ∷
    -- 149: AssignmentOperator -> MinusEqual .
    row [] (label ru.AssignmentOperator 5) None false None None false 143 true [] (i 55 1 ∷ []) ∷
    -- 150: AssignmentOperator -> ShiftLeftEqual .
    row [] (label ru.AssignmentOperator 6) None false None None false 143 true [] (i 56 1 ∷ []) ∷
    -- 151: AssignmentOperator -> ShiftRightEqual .
    row [] (label ru.AssignmentOperator 7) None false None None false 143 true [] (i 57 1 ∷ []) ∷
    -- 152: AssignmentOperator -> AmpersandEqual .
    row [] (label ru.AssignmentOperator 8) None false None None false 143 true [] (i 58 1 ∷ []) ∷
    -- 153: AssignmentOperator -> CaretEqual .
    row [] (label ru.AssignmentOperator 9) None false None None false 143 true [] (i 59 1 ∷ []) ∷
    -- 154: AssignmentOperator -> BarEqual .
    row [] (label ru.AssignmentOperator 10) None false None None false 143 true [] (i 60 1 ∷ []) ∷
    -- 155: Expression -> . Expression Comma AssignmentExpression
    row (e (Node nt.Expression) 156 ∷ []) None None false (head nt.Expression 156) None false 155 true (cl.String ∷ cl.LeftParen ∷ cl.TypeParen ∷ cl.LiteralParen ∷ cl.LeftBracket ∷ cl.Dot ∷ cl.Arrow ∷ cl.PlusPlus ∷ cl.MinusMinus ∷ cl.Ampersand ∷ cl.Star ∷ cl.Plus ∷ cl.Minus ∷ cl.Slash ∷ cl.Percent ∷ cl.ShiftLeft ∷ cl.ShiftRight ∷ cl.Less ∷ cl.Greater ∷ cl.LessEqual ∷ cl.GreaterEqual ∷ cl.EqualEqual ∷ cl.BangEqual ∷ cl.Caret ∷ cl.Bar ∷ cl.AndAnd ∷ cl.OrOr ∷ cl.Question ∷ cl.Equal ∷ cl.StarEqual ∷ cl.SlashEqual ∷ cl.PercentEqual ∷ cl.PlusEqual ∷ cl.MinusEqual ∷ cl.ShiftLeftEqual ∷ cl.ShiftRightEqual ∷ cl.AmpersandEqual ∷ cl.CaretEqual ∷ cl.BarEqual ∷ []) (i 61 0 ∷ []) ∷
    -- 156: Expression -> Expression . Comma AssignmentExpression
    row (e (Token (te.Is cl.Comma) ac.Stay) 157 ∷ []) None None false None None false 155 true (cl.String ∷ cl.LeftParen ∷ cl.TypeParen ∷ cl.LiteralParen ∷ cl.LeftBracket ∷ cl.Dot ∷ cl.Arrow ∷ cl.PlusPlus ∷ cl.MinusMinus ∷ cl.Ampersand ∷ cl.Star ∷ cl.Plus ∷ cl.Minus ∷ cl.Slash ∷ cl.Percent ∷ cl.ShiftLeft ∷ cl.ShiftRight ∷ cl.Less ∷ cl.Greater ∷ cl.LessEqual ∷ cl.GreaterEqual ∷ cl.EqualEqual ∷ cl.BangEqual ∷ cl.Caret ∷ cl.Bar ∷ cl.AndAnd ∷ cl.OrOr ∷ cl.Question ∷ cl.Equal ∷ cl.StarEqual ∷ cl.SlashEqual ∷ cl.PercentEqual ∷ cl.PlusEqual ∷ cl.MinusEqual ∷ cl.ShiftLeftEqual ∷ cl.ShiftRightEqual ∷ cl.AmpersandEqual ∷ cl.CaretEqual ∷ cl.BarEqual ∷ []) (i 61 1 ∷ []) ∷
    -- 157: Expression -> Expression Comma . AssignmentExpression
    row (e (Node nt.AssignmentExpression) 158 ∷ []) None None false None None false 155 true (cl.String ∷ cl.LeftParen ∷ cl.TypeParen ∷ cl.LiteralParen ∷ cl.LeftBracket ∷ cl.Dot ∷ cl.Arrow ∷ cl.PlusPlus ∷ cl.MinusMinus ∷ cl.Ampersand ∷ cl.Star ∷ cl.Plus ∷ cl.Minus ∷ cl.Slash ∷ cl.Percent ∷ cl.ShiftLeft ∷ cl.ShiftRight ∷ cl.Less ∷ cl.Greater ∷ cl.LessEqual ∷ cl.GreaterEqual ∷ cl.EqualEqual ∷ cl.BangEqual ∷ cl.Caret ∷ cl.Bar ∷ cl.AndAnd ∷ cl.OrOr ∷ cl.Question ∷ cl.Equal ∷ cl.StarEqual ∷ cl.SlashEqual ∷ cl.PercentEqual ∷ cl.PlusEqual ∷ cl.MinusEqual ∷ cl.ShiftLeftEqual ∷ cl.ShiftRightEqual ∷ cl.AmpersandEqual ∷ cl.CaretEqual ∷ cl.BarEqual ∷ []) (i 61 2 ∷ []) ∷
    -- 158: Expression -> Expression Comma AssignmentExpression .
    row [] (label ru.Expression 1) None false None None false 155 true [] (i 61 3 ∷ []) ∷
    -- 159: Declaration -> . DeclarationSpecifiers InitDeclaratorList? Semicolon
    row (e (Node nt.DeclarationSpecifiers) 160 ∷ []) None None false None None false 159 true [] (i 62 0 ∷ []) ∷
    -- 160: Declaration -> DeclarationSpecifiers . InitDeclaratorList? Semicolon
    row (e (Node nt.InitDeclaratorList) 161 ∷ e (Token (te.Is cl.Semicolon) ac.Finish) 162 ∷ []) None None false None None false 159 true [] (i 62 1 ∷ []) ∷
    -- 161: Declaration -> DeclarationSpecifiers InitDeclaratorList? . Semicolon
    row (e (Token (te.Is cl.Semicolon) ac.Finish) 162 ∷ []) None None false None None false 159 true [] (i 62 2 ∷ []) ∷
    -- 162: Declaration -> DeclarationSpecifiers InitDeclaratorList? Semicolon .
    row [] (label ru.Declaration 0) None false None None false 159 true [] (i 62 3 ∷ []) ∷
    -- 163: DeclarationSpecifiers -> . OtherSpecifier OtherSpecifier*; DeclarationSpecifiers -> . OtherSpecifier* TypeSpecifier LaterSpecifier*
    row (e (Node nt.OtherSpecifier) 164 ∷ e (Node nt.TypeSpecifier) 165 ∷ []) None None false None None false 163 true (cl.LeftBrace ∷ cl.Typedef ∷ cl.Extern ∷ cl.Static ∷ cl.ThreadLocal ∷ cl.Auto ∷ cl.Register ∷ cl.Void ∷ cl.Char ∷ cl.Short ∷ cl.Int ∷ cl.Long ∷ cl.Float ∷ cl.Double ∷ cl.Signed ∷ cl.Unsigned ∷ cl.Bool ∷ cl.Struct ∷ cl.Union ∷ cl.Enum ∷ cl.Const ∷ cl.Restrict ∷ cl.Volatile ∷ cl.Atomic ∷ cl.AtomicParen ∷ cl.Inline ∷ cl.Noreturn ∷ cl.Alignas ∷ []) (i 63 0 ∷ i 64 0 ∷ []) ∷
    -- 164: DeclarationSpecifiers -> OtherSpecifier . OtherSpecifier*; DeclarationSpecifiers -> . OtherSpecifier* TypeSpecifier LaterSpecifier*
    row (e (Node nt.OtherSpecifier) 164 ∷ e (Node nt.TypeSpecifier) 165 ∷ []) (label ru.DeclarationSpecifiers 0) (Some te.Typed) false None None false 163 true (cl.LeftBrace ∷ cl.Typedef ∷ cl.Extern ∷ cl.Static ∷ cl.ThreadLocal ∷ cl.Auto ∷ cl.Register ∷ cl.Void ∷ cl.Char ∷ cl.Short ∷ cl.Int ∷ cl.Long ∷ cl.Float ∷ cl.Double ∷ cl.Signed ∷ cl.Unsigned ∷ cl.Bool ∷ cl.Struct ∷ cl.Union ∷ cl.Enum ∷ cl.Const ∷ cl.Restrict ∷ cl.Volatile ∷ cl.Atomic ∷ cl.AtomicParen ∷ cl.Inline ∷ cl.Noreturn ∷ cl.Alignas ∷ []) (i 63 1 ∷ i 64 0 ∷ []) ∷
    -- 165: DeclarationSpecifiers -> OtherSpecifier* TypeSpecifier . LaterSpecifier*
    row (e (Node nt.LaterSpecifier) 165 ∷ []) (label ru.DeclarationSpecifiers 0) None false None None false 163 true (cl.LeftBrace ∷ cl.Typedef ∷ cl.Extern ∷ cl.Static ∷ cl.ThreadLocal ∷ cl.Auto ∷ cl.Register ∷ cl.Void ∷ cl.Char ∷ cl.Short ∷ cl.Int ∷ cl.Long ∷ cl.Float ∷ cl.Double ∷ cl.Signed ∷ cl.Unsigned ∷ cl.Bool ∷ cl.Struct ∷ cl.Union ∷ cl.Enum ∷ cl.Const ∷ cl.Restrict ∷ cl.Volatile ∷ cl.Atomic ∷ cl.AtomicParen ∷ cl.Inline ∷ cl.Noreturn ∷ cl.Alignas ∷ []) (i 64 2 ∷ []) ∷
    -- 166: InitDeclaratorList -> . InitDeclarator
    row (e (Node nt.InitDeclarator) 167 ∷ []) None None false None None false 166 true (cl.String ∷ cl.LeftParen ∷ cl.TypeParen ∷ cl.LiteralParen ∷ cl.LeftBracket ∷ cl.Dot ∷ cl.Arrow ∷ cl.PlusPlus ∷ cl.MinusMinus ∷ cl.Ampersand ∷ cl.Star ∷ cl.Plus ∷ cl.Minus ∷ cl.Slash ∷ cl.Percent ∷ cl.ShiftLeft ∷ cl.ShiftRight ∷ cl.Less ∷ cl.Greater ∷ cl.LessEqual ∷ cl.GreaterEqual ∷ cl.EqualEqual ∷ cl.BangEqual ∷ cl.Caret ∷ cl.Bar ∷ cl.AndAnd ∷ cl.OrOr ∷ cl.Question ∷ cl.Comma ∷ cl.Equal ∷ cl.StarEqual ∷ cl.SlashEqual ∷ cl.PercentEqual ∷ cl.PlusEqual ∷ cl.MinusEqual ∷ cl.ShiftLeftEqual ∷ cl.ShiftRightEqual ∷ cl.AmpersandEqual ∷ cl.CaretEqual ∷ cl.BarEqual ∷ []) (i 65 0 ∷ []) ∷
    -- 167: InitDeclaratorList -> InitDeclarator .
    row (after (record { class = cl.Comma; act = ac.Declare }) (Node nt.InitDeclarator) 167 ∷ []) (label ru.InitDeclaratorList 0) None false None None false 166 true (cl.String ∷ cl.LeftParen ∷ cl.TypeParen ∷ cl.LiteralParen ∷ cl.LeftBracket ∷ cl.Dot ∷ cl.Arrow ∷ cl.PlusPlus ∷ cl.MinusMinus ∷ cl.Ampersand ∷ cl.Star ∷ cl.Plus ∷ cl.Minus ∷ cl.Slash ∷ cl.Percent ∷ cl.ShiftLeft ∷ cl.ShiftRight ∷ cl.Less ∷ cl.Greater ∷ cl.LessEqual ∷ cl.GreaterEqual ∷ cl.EqualEqual ∷ cl.BangEqual ∷ cl.Caret ∷ cl.Bar ∷ cl.AndAnd ∷ cl.OrOr ∷ cl.Question ∷ cl.Comma ∷ cl.Equal ∷ cl.StarEqual ∷ cl.SlashEqual ∷ cl.PercentEqual ∷ cl.PlusEqual ∷ cl.MinusEqual ∷ cl.ShiftLeftEqual ∷ cl.ShiftRightEqual ∷ cl.AmpersandEqual ∷ cl.CaretEqual ∷ cl.BarEqual ∷ []) (i 65 1 ∷ []) ∷
    -- 168: InitDeclarator -> . Declarator Equal Initializer
    row (e (Node nt.Declarator) 169 ∷ []) None None false (head nt.Declarator 169) None false 168 true (cl.String ∷ cl.LeftParen ∷ cl.TypeParen ∷ cl.LiteralParen ∷ cl.LeftBracket ∷ cl.Dot ∷ cl.Arrow ∷ cl.PlusPlus ∷ cl.MinusMinus ∷ cl.Ampersand ∷ cl.Star ∷ cl.Plus ∷ cl.Minus ∷ cl.Slash ∷ cl.Percent ∷ cl.ShiftLeft ∷ cl.ShiftRight ∷ cl.Less ∷ cl.Greater ∷ cl.LessEqual ∷ cl.GreaterEqual ∷ cl.EqualEqual ∷ cl.BangEqual ∷ cl.Caret ∷ cl.Bar ∷ cl.AndAnd ∷ cl.OrOr ∷ cl.Question ∷ cl.Equal ∷ cl.StarEqual ∷ cl.SlashEqual ∷ cl.PercentEqual ∷ cl.PlusEqual ∷ cl.MinusEqual ∷ cl.ShiftLeftEqual ∷ cl.ShiftRightEqual ∷ cl.AmpersandEqual ∷ cl.CaretEqual ∷ cl.BarEqual ∷ []) (i 66 0 ∷ []) ∷
    -- 169: InitDeclarator -> Declarator . Equal Initializer
    row (e (Token (te.Is cl.Equal) ac.Declare) 170 ∷ []) None None false None None false 168 true (cl.String ∷ cl.LeftParen ∷ cl.TypeParen ∷ cl.LiteralParen ∷ cl.LeftBracket ∷ cl.Dot ∷ cl.Arrow ∷ cl.PlusPlus ∷ cl.MinusMinus ∷ cl.Ampersand ∷ cl.Star ∷ cl.Plus ∷ cl.Minus ∷ cl.Slash ∷ cl.Percent ∷ cl.ShiftLeft ∷ cl.ShiftRight ∷ cl.Less ∷ cl.Greater ∷ cl.LessEqual ∷ cl.GreaterEqual ∷ cl.EqualEqual ∷ cl.BangEqual ∷ cl.Caret ∷ cl.Bar ∷ cl.AndAnd ∷ cl.OrOr ∷ cl.Question ∷ cl.Equal ∷ cl.StarEqual ∷ cl.SlashEqual ∷ cl.PercentEqual ∷ cl.PlusEqual ∷ cl.MinusEqual ∷ cl.ShiftLeftEqual ∷ cl.ShiftRightEqual ∷ cl.AmpersandEqual ∷ cl.CaretEqual ∷ cl.BarEqual ∷ []) (i 66 1 ∷ []) ∷
    -- 170: InitDeclarator -> Declarator Equal . Initializer
    row (e (Node nt.Initializer) 171 ∷ []) None None false None None false 168 true (cl.String ∷ cl.LeftParen ∷ cl.TypeParen ∷ cl.LiteralParen ∷ cl.LeftBracket ∷ cl.Dot ∷ cl.Arrow ∷ cl.PlusPlus ∷ cl.MinusMinus ∷ cl.Ampersand ∷ cl.Star ∷ cl.Plus ∷ cl.Minus ∷ cl.Slash ∷ cl.Percent ∷ cl.ShiftLeft ∷ cl.ShiftRight ∷ cl.Less ∷ cl.Greater ∷ cl.LessEqual ∷ cl.GreaterEqual ∷ cl.EqualEqual ∷ cl.BangEqual ∷ cl.Caret ∷ cl.Bar ∷ cl.AndAnd ∷ cl.OrOr ∷ cl.Question ∷ cl.Equal ∷ cl.StarEqual ∷ cl.SlashEqual ∷ cl.PercentEqual ∷ cl.PlusEqual ∷ cl.MinusEqual ∷ cl.ShiftLeftEqual ∷ cl.ShiftRightEqual ∷ cl.AmpersandEqual ∷ cl.CaretEqual ∷ cl.BarEqual ∷ []) (i 66 2 ∷ []) ∷
    -- 171: InitDeclarator -> Declarator Equal Initializer .
    row [] (label ru.InitDeclarator 1) None false None None false 168 true [] (i 66 3 ∷ []) ∷
    -- 172: StorageClassSpecifier -> . Typedef; StorageClassSpecifier -> . Extern ..
    row (e (Token (te.Is cl.Typedef) ac.Typedef) 173 ∷ e (Token (te.Is cl.Extern) ac.Stay) 174 ∷ e (Token (te.Is cl.Static) ac.Stay) 175 ∷ e (Token (te.Is cl.ThreadLocal) ac.Stay) 176 ∷ e (Token (te.Is cl.Auto) ac.Stay) 177 ∷ e (Token (te.Is cl.Register) ac.Stay) 178 ∷ []) None None false None None false 172 true [] (i 67 0 ∷ i 68 0 ∷ i 69 0 ∷ i 70 0 ∷ i 71 0 ∷ i 72 0 ∷ []) ∷
    -- 173: StorageClassSpecifier -> Typedef .
    row [] (label ru.StorageClassSpecifier 0) None false None None false 172 true [] (i 67 1 ∷ []) ∷
    -- 174: StorageClassSpecifier -> Extern .
    row [] (label ru.StorageClassSpecifier 1) None false None None false 172 true [] (i 68 1 ∷ []) ∷
    -- 175: StorageClassSpecifier -> Static .
    row [] (label ru.StorageClassSpecifier 2) None false None None false 172 true [] (i 69 1 ∷ []) ∷
    -- 176: StorageClassSpecifier -> ThreadLocal .
    row [] (label ru.StorageClassSpecifier 3) None false None None false 172 true [] (i 70 1 ∷ []) ∷
    -- 177: StorageClassSpecifier -> Auto .
    row [] (label ru.StorageClassSpecifier 4) None false None None false 172 true [] (i 71 1 ∷ []) ∷
    -- 178: StorageClassSpecifier -> Register .
    row [] (label ru.StorageClassSpecifier 5) None false None None false 172 true [] (i 72 1 ∷ []) ∷
    -- 179: LaterTypeSpecifier -> . Void; LaterTypeSpecifier -> . Char ..
    row (e (Token (te.Is cl.Void) ac.Stay) 180 ∷ e (Token (te.Is cl.Char) ac.Stay) 181 ∷ e (Token (te.Is cl.Short) ac.Stay) 182 ∷ e (Token (te.Is cl.Int) ac.Stay) 183 ∷ e (Token (te.Is cl.Long) ac.Stay) 184 ∷ e (Token (te.Is cl.Float) ac.Stay) 185 ∷ e (Token (te.Is cl.Double) ac.Stay) 186 ∷ e (Token (te.Is cl.Signed) ac.Stay) 187 ∷ e (Token (te.Is cl.Unsigned) ac.Stay) 188 ∷ e (Token (te.Is cl.Bool) ac.Stay) 189 ∷ []) None None false None None false 179 true [] (i 73 0 ∷ i 74 0 ∷ i 75 0 ∷ i 76 0 ∷ i 77 0 ∷ i 78 0 ∷ i 79 0 ∷ i 80 0 ∷ i 81 0 ∷ i 82 0 ∷ []) ∷
    -- 180: LaterTypeSpecifier -> Void .
    row [] (label ru.TypeSpecifier 0) None false None None false 179 true [] (i 73 1 ∷ []) ∷
    -- 181: LaterTypeSpecifier -> Char .
    row [] (label ru.TypeSpecifier 1) None false None None false 179 true [] (i 74 1 ∷ []) ∷
    -- 182: LaterTypeSpecifier -> Short .
    row [] (label ru.TypeSpecifier 2) None false None None false 179 true [] (i 75 1 ∷ []) ∷
    -- 183: LaterTypeSpecifier -> Int .
    row [] (label ru.TypeSpecifier 3) None false None None false 179 true [] (i 76 1 ∷ []) ∷
    -- 184: LaterTypeSpecifier -> Long .
    row [] (label ru.TypeSpecifier 4) None false None None false 179 true [] (i 77 1 ∷ []) ∷
    -- 185: LaterTypeSpecifier -> Float .
    row [] (label ru.TypeSpecifier 5) None false None None false 179 true [] (i 78 1 ∷ []) ∷
    -- 186: LaterTypeSpecifier -> Double .
    row [] (label ru.TypeSpecifier 6) None false None None false 179 true [] (i 79 1 ∷ []) ∷
    -- 187: LaterTypeSpecifier -> Signed .
    row [] (label ru.TypeSpecifier 7) None false None None false 179 true [] (i 80 1 ∷ []) ∷
    -- 188: LaterTypeSpecifier -> Unsigned .
    row [] (label ru.TypeSpecifier 8) None false None None false 179 true [] (i 81 1 ∷ []) ∷
    -- 189: LaterTypeSpecifier -> Bool .
    row [] (label ru.TypeSpecifier 9) None false None None false 179 true [] (i 82 1 ∷ []) ∷
    -- 190: StructOrUnionSpecifier -> . StructOrUnion Name? LeftBrace StructDeclarationList RightBrace; StructOrUnionSpecifier -> . StructOrUnion Name
    row (e (Node nt.StructOrUnion) 191 ∷ []) None None false None None false 190 true (cl.LeftBrace ∷ []) (i 83 0 ∷ i 84 0 ∷ []) ∷
    -- 191: StructOrUnionSpecifier -> StructOrUnion . Name? LeftBrace StructDeclarationList RightBrace; StructOrUnionSpecifier -> StructOrUnion . Name
    row (e (Token te.Name ac.Stay) 192 ∷ e (Token (te.Is cl.LeftBrace) ac.Open) 193 ∷ []) None None false None None false 190 true (cl.LeftBrace ∷ []) (i 83 1 ∷ i 84 1 ∷ []) ∷
    -- 192: StructOrUnionSpecifier -> StructOrUnion Name? . LeftBrace StructDeclarationList RightBrace; StructOrUnionSpecifier -> StructOrUnion Name .
    row (e (Token (te.Is cl.LeftBrace) ac.Open) 193 ∷ []) (label ru.StructOrUnionSpecifier 1) None false None None false 190 true (cl.LeftBrace ∷ []) (i 83 2 ∷ i 84 2 ∷ []) ∷
    -- 193: StructOrUnionSpecifier -> StructOrUnion Name? LeftBrace . StructDeclarationList RightBrace
    row (e (Node nt.StructDeclarationList) 194 ∷ []) None None false None None false 190 true [] (i 83 3 ∷ []) ∷
    -- 194: StructOrUnionSpecifier -> StructOrUnion Name? LeftBrace StructDeclarationList . RightBrace
    row (e (Token (te.Is cl.RightBrace) ac.Shut) 195 ∷ []) None None false None None false 190 true [] (i 83 4 ∷ []) ∷
    -- 195: StructOrUnionSpecifier -> StructOrUnion Name? LeftBrace StructDeclarationList RightBrace .
    row [] (label ru.StructOrUnionSpecifier 0) None false None None false 190 true [] (i 83 5 ∷ []) ∷
    -- 196: StructOrUnion -> . Struct; StructOrUnion -> . Union
    row (e (Token (te.Is cl.Struct) ac.Stay) 197 ∷ e (Token (te.Is cl.Union) ac.Stay) 198 ∷ []) None None false None None false 196 true [] (i 85 0 ∷ i 86 0 ∷ []) ∷
    -- 197: StructOrUnion -> Struct .
    row [] (label ru.StructOrUnion 0) None false None None false 196 true [] (i 85 1 ∷ []) ∷
    -- 198: StructOrUnion -> Union .
    row [] (label ru.StructOrUnion 1) None false None None false 196 true [] (i 86 1 ∷ []) ∷
    -- 199: StructDeclarationList -> . StructDeclaration StructDeclaration*
    row (e (Node nt.StructDeclaration) 200 ∷ []) None None false None None false 199 true (cl.TypedefName ∷ cl.TypedefColon ∷ cl.StaticAssert ∷ cl.Void ∷ cl.Char ∷ cl.Short ∷ cl.Int ∷ cl.Long ∷ cl.Float ∷ cl.Double ∷ cl.Signed ∷ cl.Unsigned ∷ cl.Bool ∷ cl.Struct ∷ cl.Union ∷ cl.Enum ∷ cl.Const ∷ cl.Restrict ∷ cl.Volatile ∷ cl.Atomic ∷ cl.AtomicParen ∷ []) (i 87 0 ∷ []) ∷
    -- 200: StructDeclarationList -> StructDeclaration . StructDeclaration*
    row (e (Node nt.StructDeclaration) 200 ∷ []) (label ru.StructDeclarationList 0) None false None None false 199 true (cl.TypedefName ∷ cl.TypedefColon ∷ cl.StaticAssert ∷ cl.Void ∷ cl.Char ∷ cl.Short ∷ cl.Int ∷ cl.Long ∷ cl.Float ∷ cl.Double ∷ cl.Signed ∷ cl.Unsigned ∷ cl.Bool ∷ cl.Struct ∷ cl.Union ∷ cl.Enum ∷ cl.Const ∷ cl.Restrict ∷ cl.Volatile ∷ cl.Atomic ∷ cl.AtomicParen ∷ []) (i 87 1 ∷ []) ∷
    -- 201: StructDeclaration -> . SpecifierQualifierList StructDeclaratorList? Semicolon
    row (e (Node nt.SpecifierQualifierList) 202 ∷ []) None None false None None false 201 true [] (i 88 0 ∷ []) ∷
    -- 202: StructDeclaration -> SpecifierQualifierList . StructDeclaratorList? Semicolon
    row (e (Node nt.StructDeclaratorList) 203 ∷ e (Token (te.Is cl.Semicolon) ac.Forget) 204 ∷ []) None None false None None false 201 true [] (i 88 1 ∷ []) ∷
    -- 203: StructDeclaration -> SpecifierQualifierList StructDeclaratorList? . Semicolon
    row (e (Token (te.Is cl.Semicolon) ac.Forget) 204 ∷ []) None None false None None false 201 true [] (i 88 2 ∷ []) ∷
    -- 204: StructDeclaration -> SpecifierQualifierList StructDeclaratorList? Semicolon .
    row [] (label ru.StructDeclaration 0) None false None None false 201 true [] (i 88 3 ∷ []) ∷
    -- 205: SpecifierQualifierList -> . TypeQualifier TypeQualifier*; SpecifierQualifierList -> . TypeQualifier* TypeSpecifier LaterQualifier*
    row (e (Node nt.TypeQualifier) 206 ∷ e (Node nt.TypeSpecifier) 207 ∷ []) None None false None None false 205 true (cl.LeftBrace ∷ cl.Void ∷ cl.Char ∷ cl.Short ∷ cl.Int ∷ cl.Long ∷ cl.Float ∷ cl.Double ∷ cl.Signed ∷ cl.Unsigned ∷ cl.Bool ∷ cl.Struct ∷ cl.Union ∷ cl.Enum ∷ cl.Const ∷ cl.Restrict ∷ cl.Volatile ∷ cl.Atomic ∷ cl.AtomicParen ∷ []) (i 89 0 ∷ i 90 0 ∷ []) ∷
    -- 206: SpecifierQualifierList -> TypeQualifier . TypeQualifier*; SpecifierQualifierList -> . TypeQualifier* TypeSpecifier LaterQualifier*
    row (e (Node nt.TypeQualifier) 206 ∷ e (Node nt.TypeSpecifier) 207 ∷ []) (label ru.SpecifierQualifierList 0) (Some te.Typed) false None None false 205 true (cl.LeftBrace ∷ cl.Void ∷ cl.Char ∷ cl.Short ∷ cl.Int ∷ cl.Long ∷ cl.Float ∷ cl.Double ∷ cl.Signed ∷ cl.Unsigned ∷ cl.Bool ∷ cl.Struct ∷ cl.Union ∷ cl.Enum ∷ cl.Const ∷ cl.Restrict ∷ cl.Volatile ∷ cl.Atomic ∷ cl.AtomicParen ∷ []) (i 89 1 ∷ i 90 0 ∷ []) ∷
    -- 207: SpecifierQualifierList -> TypeQualifier* TypeSpecifier . LaterQualifier*
    row (e (Node nt.LaterQualifier) 207 ∷ []) (label ru.SpecifierQualifierList 0) None false None None false 205 true (cl.LeftBrace ∷ cl.Void ∷ cl.Char ∷ cl.Short ∷ cl.Int ∷ cl.Long ∷ cl.Float ∷ cl.Double ∷ cl.Signed ∷ cl.Unsigned ∷ cl.Bool ∷ cl.Struct ∷ cl.Union ∷ cl.Enum ∷ cl.Const ∷ cl.Restrict ∷ cl.Volatile ∷ cl.Atomic ∷ cl.AtomicParen ∷ []) (i 90 2 ∷ []) ∷
    -- 208: StructDeclaratorList -> . StructDeclarator
    row (e (Node nt.StructDeclarator) 209 ∷ []) None None false None None false 208 true (cl.String ∷ cl.LeftParen ∷ cl.TypeParen ∷ cl.LiteralParen ∷ cl.LeftBracket ∷ cl.Dot ∷ cl.Arrow ∷ cl.PlusPlus ∷ cl.MinusMinus ∷ cl.Ampersand ∷ cl.Star ∷ cl.Plus ∷ cl.Minus ∷ cl.Slash ∷ cl.Percent ∷ cl.ShiftLeft ∷ cl.ShiftRight ∷ cl.Less ∷ cl.Greater ∷ cl.LessEqual ∷ cl.GreaterEqual ∷ cl.EqualEqual ∷ cl.BangEqual ∷ cl.Caret ∷ cl.Bar ∷ cl.AndAnd ∷ cl.OrOr ∷ cl.Question ∷ cl.Colon ∷ cl.Comma ∷ []) (i 91 0 ∷ []) ∷
    -- 209: StructDeclaratorList -> StructDeclarator .
    row (after (record { class = cl.Comma; act = ac.Forget }) (Node nt.StructDeclarator) 209 ∷ []) (label ru.StructDeclaratorList 0) None false None None false 208 true (cl.String ∷ cl.LeftParen ∷ cl.TypeParen ∷ cl.LiteralParen ∷ cl.LeftBracket ∷ cl.Dot ∷ cl.Arrow ∷ cl.PlusPlus ∷ cl.MinusMinus ∷ cl.Ampersand ∷ cl.Star ∷ cl.Plus ∷ cl.Minus ∷ cl.Slash ∷ cl.Percent ∷ cl.ShiftLeft ∷ cl.ShiftRight ∷ cl.Less ∷ cl.Greater ∷ cl.LessEqual ∷ cl.GreaterEqual ∷ cl.EqualEqual ∷ cl.BangEqual ∷ cl.Caret ∷ cl.Bar ∷ cl.AndAnd ∷ cl.OrOr ∷ cl.Question ∷ cl.Colon ∷ cl.Comma ∷ []) (i 91 1 ∷ []) ∷
    -- 210: StructDeclarator -> . Declarator Colon ConstantExpression
    row (e (Node nt.Declarator) 211 ∷ []) None None false (head nt.Declarator 211) None false 210 true (cl.String ∷ cl.LeftParen ∷ cl.TypeParen ∷ cl.LiteralParen ∷ cl.LeftBracket ∷ cl.Dot ∷ cl.Arrow ∷ cl.PlusPlus ∷ cl.MinusMinus ∷ cl.Ampersand ∷ cl.Star ∷ cl.Plus ∷ cl.Minus ∷ cl.Slash ∷ cl.Percent ∷ cl.ShiftLeft ∷ cl.ShiftRight ∷ cl.Less ∷ cl.Greater ∷ cl.LessEqual ∷ cl.GreaterEqual ∷ cl.EqualEqual ∷ cl.BangEqual ∷ cl.Caret ∷ cl.Bar ∷ cl.AndAnd ∷ cl.OrOr ∷ cl.Question ∷ []) (i 92 0 ∷ []) ∷
    -- 211: StructDeclarator -> Declarator . Colon ConstantExpression
    row (e (Token (te.Is cl.Colon) ac.Forget) 212 ∷ []) None None false None None false 210 true (cl.String ∷ cl.LeftParen ∷ cl.TypeParen ∷ cl.LiteralParen ∷ cl.LeftBracket ∷ cl.Dot ∷ cl.Arrow ∷ cl.PlusPlus ∷ cl.MinusMinus ∷ cl.Ampersand ∷ cl.Star ∷ cl.Plus ∷ cl.Minus ∷ cl.Slash ∷ cl.Percent ∷ cl.ShiftLeft ∷ cl.ShiftRight ∷ cl.Less ∷ cl.Greater ∷ cl.LessEqual ∷ cl.GreaterEqual ∷ cl.EqualEqual ∷ cl.BangEqual ∷ cl.Caret ∷ cl.Bar ∷ cl.AndAnd ∷ cl.OrOr ∷ cl.Question ∷ []) (i 92 1 ∷ []) ∷
    -- 212: StructDeclarator -> Declarator Colon . ConstantExpression
    row (e (Node nt.ConstantExpression) 213 ∷ []) None None false None None false 210 true (cl.String ∷ cl.LeftParen ∷ cl.TypeParen ∷ cl.LiteralParen ∷ cl.LeftBracket ∷ cl.Dot ∷ cl.Arrow ∷ cl.PlusPlus ∷ cl.MinusMinus ∷ cl.Ampersand ∷ cl.Star ∷ cl.Plus ∷ cl.Minus ∷ cl.Slash ∷ cl.Percent ∷ cl.ShiftLeft ∷ cl.ShiftRight ∷ cl.Less ∷ cl.Greater ∷ cl.LessEqual ∷ cl.GreaterEqual ∷ cl.EqualEqual ∷ cl.BangEqual ∷ cl.Caret ∷ cl.Bar ∷ cl.AndAnd ∷ cl.OrOr ∷ cl.Question ∷ []) (i 92 2 ∷ []) ∷
    -- 213: StructDeclarator -> Declarator Colon ConstantExpression .
    row [] (label ru.StructDeclarator 1) None false None None false 210 true [] (i 92 3 ∷ []) ∷
    -- 214: StructDeclarator -> . Colon ConstantExpression
    row (e (Token (te.Is cl.Colon) ac.Stay) 215 ∷ []) None None false None None false 214 true (cl.String ∷ cl.LeftParen ∷ cl.TypeParen ∷ cl.LiteralParen ∷ cl.LeftBracket ∷ cl.Dot ∷ cl.Arrow ∷ cl.PlusPlus ∷ cl.MinusMinus ∷ cl.Ampersand ∷ cl.Star ∷ cl.Plus ∷ cl.Minus ∷ cl.Slash ∷ cl.Percent ∷ cl.ShiftLeft ∷ cl.ShiftRight ∷ cl.Less ∷ cl.Greater ∷ cl.LessEqual ∷ cl.GreaterEqual ∷ cl.EqualEqual ∷ cl.BangEqual ∷ cl.Caret ∷ cl.Bar ∷ cl.AndAnd ∷ cl.OrOr ∷ cl.Question ∷ []) (i 93 0 ∷ []) ∷
    -- 215: StructDeclarator -> Colon . ConstantExpression
    row (e (Node nt.ConstantExpression) 216 ∷ []) None None false None None false 214 true (cl.String ∷ cl.LeftParen ∷ cl.TypeParen ∷ cl.LiteralParen ∷ cl.LeftBracket ∷ cl.Dot ∷ cl.Arrow ∷ cl.PlusPlus ∷ cl.MinusMinus ∷ cl.Ampersand ∷ cl.Star ∷ cl.Plus ∷ cl.Minus ∷ cl.Slash ∷ cl.Percent ∷ cl.ShiftLeft ∷ cl.ShiftRight ∷ cl.Less ∷ cl.Greater ∷ cl.LessEqual ∷ cl.GreaterEqual ∷ cl.EqualEqual ∷ cl.BangEqual ∷ cl.Caret ∷ cl.Bar ∷ cl.AndAnd ∷ cl.OrOr ∷ cl.Question ∷ []) (i 93 1 ∷ []) ∷
    -- 216: StructDeclarator -> Colon ConstantExpression .
    row [] (label ru.StructDeclarator 1) None false None None false 214 true [] (i 93 2 ∷ []) ∷
    -- 217: EnumSpecifier -> . Enum Name? LeftBrace EnumeratorList RightBrace; EnumSpecifier -> . Enum Name? LeftBrace EnumeratorList LastComma RightBrace ..
    row (e (Token (te.Is cl.Enum) ac.Stay) 218 ∷ []) None None false None None false 217 true (cl.LeftBrace ∷ []) (i 94 0 ∷ i 95 0 ∷ i 96 0 ∷ []) ∷
    -- 218: EnumSpecifier -> Enum . Name? LeftBrace EnumeratorList RightBrace; EnumSpecifier -> Enum . Name? LeftBrace EnumeratorList LastComma RightBrace ..
    row (e (Token te.Name ac.Stay) 219 ∷ e (Token (te.Is cl.LeftBrace) ac.Open) 220 ∷ []) None None false None None false 217 true (cl.LeftBrace ∷ []) (i 94 1 ∷ i 95 1 ∷ i 96 1 ∷ []) ∷
    -- 219: EnumSpecifier -> Enum Name? . LeftBrace EnumeratorList RightBrace; EnumSpecifier -> Enum Name? . LeftBrace EnumeratorList LastComma RightBrace ..
    row (e (Token (te.Is cl.LeftBrace) ac.Open) 220 ∷ []) (label ru.EnumSpecifier 2) None false None None false 217 true (cl.LeftBrace ∷ []) (i 94 2 ∷ i 95 2 ∷ i 96 2 ∷ []) ∷
    -- 220: EnumSpecifier -> Enum Name? LeftBrace . EnumeratorList RightBrace; EnumSpecifier -> Enum Name? LeftBrace . EnumeratorList LastComma RightBrace
    row (e (Node nt.EnumeratorList) 221 ∷ []) None None false None None false 217 true [] (i 94 3 ∷ i 95 3 ∷ []) ∷
    -- 221: EnumSpecifier -> Enum Name? LeftBrace EnumeratorList . RightBrace; EnumSpecifier -> Enum Name? LeftBrace EnumeratorList . LastComma RightBrace
    row (e (Token (te.Is cl.RightBrace) ac.Shut) 222 ∷ e (Token (te.Is cl.LastComma) ac.Stay) 223 ∷ []) None None false None None false 217 true [] (i 94 4 ∷ i 95 4 ∷ []) ∷
    -- 222: EnumSpecifier -> Enum Name? LeftBrace EnumeratorList RightBrace .
    row [] (label ru.EnumSpecifier 0) None false None None false 217 true [] (i 94 5 ∷ []) ∷
    -- 223: EnumSpecifier -> Enum Name? LeftBrace EnumeratorList LastComma . RightBrace
    row (e (Token (te.Is cl.RightBrace) ac.Shut) 224 ∷ []) None None false None None false 217 true [] (i 95 5 ∷ []) ∷
    -- 224: EnumSpecifier -> Enum Name? LeftBrace EnumeratorList LastComma RightBrace .
    row [] (label ru.EnumSpecifier 1) None false None None false 217 true [] (i 95 6 ∷ []) ∷
    -- 225: EnumeratorList -> . Enumerator
    row (e (Node nt.Enumerator) 226 ∷ []) None None false None None false 225 true (cl.String ∷ cl.LeftParen ∷ cl.TypeParen ∷ cl.LiteralParen ∷ cl.LeftBracket ∷ cl.Dot ∷ cl.Arrow ∷ cl.PlusPlus ∷ cl.MinusMinus ∷ cl.Ampersand ∷ cl.Star ∷ cl.Plus ∷ cl.Minus ∷ cl.Slash ∷ cl.Percent ∷ cl.ShiftLeft ∷ cl.ShiftRight ∷ cl.Less ∷ cl.Greater ∷ cl.LessEqual ∷ cl.GreaterEqual ∷ cl.EqualEqual ∷ cl.BangEqual ∷ cl.Caret ∷ cl.Bar ∷ cl.AndAnd ∷ cl.OrOr ∷ cl.Question ∷ cl.Comma ∷ cl.Equal ∷ []) (i 97 0 ∷ []) ∷
    -- 226: EnumeratorList -> Enumerator .
    row (after (record { class = cl.Comma; act = ac.Declare }) (Node nt.Enumerator) 226 ∷ []) (label ru.EnumeratorList 0) None false None None false 225 true (cl.String ∷ cl.LeftParen ∷ cl.TypeParen ∷ cl.LiteralParen ∷ cl.LeftBracket ∷ cl.Dot ∷ cl.Arrow ∷ cl.PlusPlus ∷ cl.MinusMinus ∷ cl.Ampersand ∷ cl.Star ∷ cl.Plus ∷ cl.Minus ∷ cl.Slash ∷ cl.Percent ∷ cl.ShiftLeft ∷ cl.ShiftRight ∷ cl.Less ∷ cl.Greater ∷ cl.LessEqual ∷ cl.GreaterEqual ∷ cl.EqualEqual ∷ cl.BangEqual ∷ cl.Caret ∷ cl.Bar ∷ cl.AndAnd ∷ cl.OrOr ∷ cl.Question ∷ cl.Comma ∷ cl.Equal ∷ []) (i 97 1 ∷ []) ∷
    -- 227: Enumerator -> . Name; Enumerator -> . Name Equal ConstantExpression
    row (e (Token te.Name ac.Name) 228 ∷ []) None None false None None false 227 true (cl.String ∷ cl.LeftParen ∷ cl.TypeParen ∷ cl.LiteralParen ∷ cl.LeftBracket ∷ cl.Dot ∷ cl.Arrow ∷ cl.PlusPlus ∷ cl.MinusMinus ∷ cl.Ampersand ∷ cl.Star ∷ cl.Plus ∷ cl.Minus ∷ cl.Slash ∷ cl.Percent ∷ cl.ShiftLeft ∷ cl.ShiftRight ∷ cl.Less ∷ cl.Greater ∷ cl.LessEqual ∷ cl.GreaterEqual ∷ cl.EqualEqual ∷ cl.BangEqual ∷ cl.Caret ∷ cl.Bar ∷ cl.AndAnd ∷ cl.OrOr ∷ cl.Question ∷ cl.Equal ∷ []) (i 98 0 ∷ i 99 0 ∷ []) ∷
    -- 228: Enumerator -> Name .; Enumerator -> Name . Equal ConstantExpression
    row (e (Token (te.Is cl.Equal) ac.Stay) 229 ∷ []) (label ru.Enumerator 0) None false None None false 227 true (cl.String ∷ cl.LeftParen ∷ cl.TypeParen ∷ cl.LiteralParen ∷ cl.LeftBracket ∷ cl.Dot ∷ cl.Arrow ∷ cl.PlusPlus ∷ cl.MinusMinus ∷ cl.Ampersand ∷ cl.Star ∷ cl.Plus ∷ cl.Minus ∷ cl.Slash ∷ cl.Percent ∷ cl.ShiftLeft ∷ cl.ShiftRight ∷ cl.Less ∷ cl.Greater ∷ cl.LessEqual ∷ cl.GreaterEqual ∷ cl.EqualEqual ∷ cl.BangEqual ∷ cl.Caret ∷ cl.Bar ∷ cl.AndAnd ∷ cl.OrOr ∷ cl.Question ∷ cl.Equal ∷ []) (i 98 1 ∷ i 99 1 ∷ []) ∷
    -- 229: Enumerator -> Name Equal . ConstantExpression
    row (e (Node nt.ConstantExpression) 230 ∷ []) None None false None None false 227 true (cl.String ∷ cl.LeftParen ∷ cl.TypeParen ∷ cl.LiteralParen ∷ cl.LeftBracket ∷ cl.Dot ∷ cl.Arrow ∷ cl.PlusPlus ∷ cl.MinusMinus ∷ cl.Ampersand ∷ cl.Star ∷ cl.Plus ∷ cl.Minus ∷ cl.Slash ∷ cl.Percent ∷ cl.ShiftLeft ∷ cl.ShiftRight ∷ cl.Less ∷ cl.Greater ∷ cl.LessEqual ∷ cl.GreaterEqual ∷ cl.EqualEqual ∷ cl.BangEqual ∷ cl.Caret ∷ cl.Bar ∷ cl.AndAnd ∷ cl.OrOr ∷ cl.Question ∷ []) (i 99 2 ∷ []) ∷
    -- 230: Enumerator -> Name Equal ConstantExpression .
    row [] (label ru.Enumerator 1) None false None None false 227 true [] (i 99 3 ∷ []) ∷
    -- 231: AtomicTypeSpecifier -> . AtomicParen TypeOpen TypeName RightParen
    row (e (Token (te.Is cl.AtomicParen) ac.Stay) 232 ∷ []) None None false None None false 231 true [] (i 100 0 ∷ []) ∷
    -- 232: AtomicTypeSpecifier -> AtomicParen . TypeOpen TypeName RightParen
    row (e (Token te.TypeOpen ac.Stay) 233 ∷ []) None None false None None false 231 true [] (i 100 1 ∷ []) ∷
    -- 233: AtomicTypeSpecifier -> AtomicParen TypeOpen . TypeName RightParen
    row (e (Node nt.TypeName) 234 ∷ []) None None false None None false 231 true [] (i 100 2 ∷ []) ∷
    -- 234: AtomicTypeSpecifier -> AtomicParen TypeOpen TypeName . RightParen
    row (e (Token (te.Is cl.RightParen) ac.Stay) 235 ∷ []) None None false None None false 231 true [] (i 100 3 ∷ []) ∷
    -- 235: AtomicTypeSpecifier -> AtomicParen TypeOpen TypeName RightParen .
    row [] (label ru.AtomicTypeSpecifier 0) None false None None false 231 true [] (i 100 4 ∷ []) ∷
    -- 236: TypeQualifier -> . Const; TypeQualifier -> . Restrict ..
    row (e (Token (te.Is cl.Const) ac.Stay) 237 ∷ e (Token (te.Is cl.Restrict) ac.Stay) 238 ∷ e (Token (te.Is cl.Volatile) ac.Stay) 239 ∷ e (Token (te.Is cl.Atomic) ac.Stay) 240 ∷ []) None None false None None false 236 true [] (i 101 0 ∷ i 102 0 ∷ i 103 0 ∷ i 104 0 ∷ []) ∷
    -- 237: TypeQualifier -> Const .
    row [] (label ru.TypeQualifier 0) None false None None false 236 true [] (i 101 1 ∷ []) ∷
    -- 238: TypeQualifier -> Restrict .
    row [] (label ru.TypeQualifier 1) None false None None false 236 true [] (i 102 1 ∷ []) ∷
    -- 239: TypeQualifier -> Volatile .
    row [] (label ru.TypeQualifier 2) None false None None false 236 true [] (i 103 1 ∷ []) ∷
    -- 240: TypeQualifier -> Atomic .
    row [] (label ru.TypeQualifier 3) None false None None false 236 true [] (i 104 1 ∷ []) ∷
    -- 241: FunctionSpecifier -> . Inline; FunctionSpecifier -> . Noreturn
    row (e (Token (te.Is cl.Inline) ac.Stay) 242 ∷ e (Token (te.Is cl.Noreturn) ac.Stay) 243 ∷ []) None None false None None false 241 true [] (i 105 0 ∷ i 106 0 ∷ []) ∷
    -- 242: FunctionSpecifier -> Inline .
    row [] (label ru.FunctionSpecifier 0) None false None None false 241 true [] (i 105 1 ∷ []) ∷
    -- 243: FunctionSpecifier -> Noreturn .
    row [] (label ru.FunctionSpecifier 1) None false None None false 241 true [] (i 106 1 ∷ []) ∷
    -- 244: AlignmentSpecifier -> . Alignas TypeOpen TypeName RightParen; AlignmentSpecifier -> . Alignas LeftParen ConstantExpression RightParen
    row (e (Token (te.Is cl.Alignas) ac.Stay) 245 ∷ []) None None false None None false 244 true [] (i 107 0 ∷ i 108 0 ∷ []) ∷
    -- 245: AlignmentSpecifier -> Alignas . TypeOpen TypeName RightParen; AlignmentSpecifier -> Alignas . LeftParen ConstantExpression RightParen
    row (e (Token te.TypeOpen ac.Stay) 246 ∷ e (Token (te.Is cl.LeftParen) ac.Stay) 249 ∷ []) None None false None None false 244 true [] (i 107 1 ∷ i 108 1 ∷ []) ∷
    -- 246: AlignmentSpecifier -> Alignas TypeOpen . TypeName RightParen
    row (e (Node nt.TypeName) 247 ∷ []) None None false None None false 244 true [] (i 107 2 ∷ []) ∷
    -- 247: AlignmentSpecifier -> Alignas TypeOpen TypeName . RightParen
    row (e (Token (te.Is cl.RightParen) ac.Stay) 248 ∷ []) None None false None None false 244 true [] (i 107 3 ∷ []) ∷
    -- 248: AlignmentSpecifier -> Alignas TypeOpen TypeName RightParen .
    row [] (label ru.AlignmentSpecifier 0) None false None None false 244 true [] (i 107 4 ∷ []) ∷
    -- 249: AlignmentSpecifier -> Alignas LeftParen . ConstantExpression RightParen
    row (e (Node nt.ConstantExpression) 250 ∷ []) None None false None None false 244 true [] (i 108 2 ∷ []) ∷
    -- 250: AlignmentSpecifier -> Alignas LeftParen ConstantExpression . RightParen
    row (e (Token (te.Is cl.RightParen) ac.Stay) 251 ∷ []) None None false None None false 244 true [] (i 108 3 ∷ []) ∷
    -- 251: AlignmentSpecifier -> Alignas LeftParen ConstantExpression RightParen .
    row [] (label ru.AlignmentSpecifier 1) None false None None false 244 true [] (i 108 4 ∷ []) ∷
    -- 252: Declarator -> . Pointer DirectDeclarator
    row (e (Node nt.Pointer) 253 ∷ []) None None false (head nt.Pointer 253) None false 252 true (cl.LeftParen ∷ cl.TypeParen ∷ cl.LiteralParen ∷ cl.LeftBracket ∷ []) (i 109 0 ∷ []) ∷
    -- 253: Declarator -> Pointer . DirectDeclarator
    row (e (Node nt.DirectDeclarator) 254 ∷ []) None None false None None false 252 true (cl.LeftParen ∷ cl.TypeParen ∷ cl.LiteralParen ∷ cl.LeftBracket ∷ []) (i 109 1 ∷ []) ∷
    -- 254: Declarator -> Pointer DirectDeclarator .
    row [] (label ru.Declarator 0) None false None None true 252 true [] (i 109 2 ∷ []) ∷
    -- 255: DirectDeclarator -> . Name; DirectDeclarator -> . Open Declarator RightParen
    row (e (Token te.Name ac.Name) 256 ∷ e (Token te.Open ac.Stay) 257 ∷ []) None None false None None false 255 true [] (i 110 0 ∷ i 111 0 ∷ []) ∷
    -- 256: DirectDeclarator -> Name .
    row [] (label ru.DirectDeclarator 0) None false None None true 255 true [] (i 110 1 ∷ []) ∷
    -- 257: DirectDeclarator -> Open . Declarator RightParen
    row (e (Node nt.Declarator) 258 ∷ []) None None false None None false 255 true [] (i 111 1 ∷ []) ∷
    -- 258: DirectDeclarator -> Open Declarator . RightParen
    row (e (Token (te.Is cl.RightParen) ac.Stay) 259 ∷ []) None None false None None false 255 true [] (i 111 2 ∷ []) ∷
    -- 259: DirectDeclarator -> Open Declarator RightParen .
    row [] (label ru.DirectDeclarator 1) None false None None true 255 true [] (i 111 3 ∷ []) ∷
    -- 260: DirectDeclarator -> . DirectDeclarator LeftBracket TypeQualifierList? AssignmentExpression? RightBracket; DirectDeclarator -> . DirectDeclarator LeftBracket Static TypeQualifierList? AssignmentExpression RightBracket ..
    row (e (Node nt.DirectDeclarator) 261 ∷ []) None None false (head nt.DirectDeclarator 261) None false 260 true [] (i 112 0 ∷ i 113 0 ∷ i 114 0 ∷ i 115 0 ∷ i 116 0 ∷ i 117 0 ∷ []) ∷
    -- 261: DirectDeclarator -> DirectDeclarator . LeftBracket TypeQualifierList? AssignmentExpression? RightBracket; DirectDeclarator -> DirectDeclarator . LeftBracket Static TypeQualifierList? AssignmentExpression RightBracket ..
    row (e (Token (te.Is cl.LeftBracket) ac.Stay) 262 ∷ e (Token te.TypeOpen ac.Open) 275 ∷ e (Token (te.Is cl.LeftParen) ac.Open) 278 ∷ []) None None false None None false 260 true [] (i 112 1 ∷ i 113 1 ∷ i 114 1 ∷ i 115 1 ∷ i 116 1 ∷ i 117 1 ∷ []) ∷
    -- 262: DirectDeclarator -> DirectDeclarator LeftBracket . TypeQualifierList? AssignmentExpression? RightBracket; DirectDeclarator -> DirectDeclarator LeftBracket . Static TypeQualifierList? AssignmentExpression RightBracket ..
    row (e (Node nt.TypeQualifierList) 263 ∷ e (Node nt.AssignmentExpression) 264 ∷ e (Token (te.Is cl.RightBracket) ac.Stay) 265 ∷ e (Token (te.Is cl.Static) ac.Stay) 271 ∷ e (Token (te.Is cl.StarBracket) ac.Stay) 269 ∷ []) None None false None None false 260 true [] (i 112 2 ∷ i 113 2 ∷ i 114 2 ∷ i 115 2 ∷ []) ∷
    -- 263: DirectDeclarator -> DirectDeclarator LeftBracket TypeQualifierList? . AssignmentExpression? RightBracket; DirectDeclarator -> DirectDeclarator LeftBracket TypeQualifierList . Static AssignmentExpression RightBracket ..
    row (e (Node nt.AssignmentExpression) 264 ∷ e (Token (te.Is cl.RightBracket) ac.Stay) 265 ∷ e (Token (te.Is cl.Static) ac.Stay) 266 ∷ e (Token (te.Is cl.StarBracket) ac.Stay) 269 ∷ []) None None false None None false 260 true [] (i 112 3 ∷ i 114 3 ∷ i 115 3 ∷ []) ∷
    -- 264: DirectDeclarator -> DirectDeclarator LeftBracket TypeQualifierList? AssignmentExpression? . RightBracket
    row (e (Token (te.Is cl.RightBracket) ac.Stay) 265 ∷ []) None None false None None false 260 true [] (i 112 4 ∷ []) ∷
    -- 265: DirectDeclarator -> DirectDeclarator LeftBracket TypeQualifierList? AssignmentExpression? RightBracket .
    row [] (label ru.DirectDeclarator 2) None false None None true 260 true [] (i 112 5 ∷ []) ∷
    -- 266: DirectDeclarator -> DirectDeclarator LeftBracket TypeQualifierList Static . AssignmentExpression RightBracket
    row (e (Node nt.AssignmentExpression) 267 ∷ []) None None false None None false 260 true [] (i 114 4 ∷ []) ∷
    -- 267: DirectDeclarator -> DirectDeclarator LeftBracket TypeQualifierList Static AssignmentExpression . RightBracket
    row (e (Token (te.Is cl.RightBracket) ac.Stay) 268 ∷ []) None None false None None false 260 true [] (i 114 5 ∷ []) ∷
    -- 268: DirectDeclarator -> DirectDeclarator LeftBracket TypeQualifierList Static AssignmentExpression RightBracket .
    row [] (label ru.DirectDeclarator 4) None false None None true 260 true [] (i 114 6 ∷ []) ∷
    -- 269: DirectDeclarator -> DirectDeclarator LeftBracket TypeQualifierList? StarBracket . RightBracket
    row (e (Token (te.Is cl.RightBracket) ac.Stay) 270 ∷ []) None None false None None false 260 true [] (i 115 4 ∷ []) ∷
    -- 270: DirectDeclarator -> DirectDeclarator LeftBracket TypeQualifierList? StarBracket RightBracket .
    row [] (label ru.DirectDeclarator 5) None false None None true 260 true [] (i 115 5 ∷ []) ∷
    -- 271: DirectDeclarator -> DirectDeclarator LeftBracket Static . TypeQualifierList? AssignmentExpression RightBracket
    row (e (Node nt.TypeQualifierList) 272 ∷ e (Node nt.AssignmentExpression) 273 ∷ []) None None false None None false 260 true [] (i 113 3 ∷ []) ∷
    -- 272: DirectDeclarator -> DirectDeclarator LeftBracket Static TypeQualifierList? . AssignmentExpression RightBracket
    row (e (Node nt.AssignmentExpression) 273 ∷ []) None None false None None false 260 true [] (i 113 4 ∷ []) ∷
    -- 273: DirectDeclarator -> DirectDeclarator LeftBracket Static TypeQualifierList? AssignmentExpression . RightBracket
    row (e (Token (te.Is cl.RightBracket) ac.Stay) 274 ∷ []) None None false None None false 260 true [] (i 113 5 ∷ []) ∷
    -- 274: DirectDeclarator -> DirectDeclarator LeftBracket Static TypeQualifierList? AssignmentExpression RightBracket .
    row [] (label ru.DirectDeclarator 3) None false None None true 260 true [] (i 113 6 ∷ []) ∷
    -- 275: DirectDeclarator -> DirectDeclarator TypeOpen . ParameterTypeList RightParen
    row (e (Node nt.ParameterTypeList) 276 ∷ []) None None false None None false 260 true [] (i 116 2 ∷ []) ∷
    -- 276: DirectDeclarator -> DirectDeclarator TypeOpen ParameterTypeList . RightParen
    row (e (Token (te.Is cl.RightParen) ac.Close) 277 ∷ []) None None false None None false 260 true [] (i 116 3 ∷ []) ∷
    -- 277: DirectDeclarator -> DirectDeclarator TypeOpen ParameterTypeList RightParen .
    row [] (label ru.DirectDeclarator 6) None false None None true 260 true [] (i 116 4 ∷ []) ∷
    -- 278: DirectDeclarator -> DirectDeclarator LeftParen . IdentifierList? RightParen
    row (e (Node nt.IdentifierList) 279 ∷ e (Token (te.Is cl.RightParen) ac.Close) 280 ∷ []) None None false None None false 260 true [] (i 117 2 ∷ []) ∷
    -- 279: DirectDeclarator -> DirectDeclarator LeftParen IdentifierList? . RightParen
    row (e (Token (te.Is cl.RightParen) ac.Close) 280 ∷ []) None None false None None false 260 true [] (i 117 3 ∷ []) ∷
    -- 280: DirectDeclarator -> DirectDeclarator LeftParen IdentifierList? RightParen .
    row [] (label ru.DirectDeclarator 7) None false None None true 260 true [] (i 117 4 ∷ []) ∷
    -- 281: ParameterDeclarator -> . Pointer DirectParameterDeclarator; AbstractDeclarator -> . Pointer DirectAbstractDeclarator
    row (e (Node nt.Pointer) 282 ∷ []) None None false (head nt.Pointer 282) None false 281 true (cl.LeftParen ∷ cl.TypeParen ∷ cl.LiteralParen ∷ cl.LeftBracket ∷ []) (i 118 0 ∷ i 136 0 ∷ []) ∷
    -- 282: ParameterDeclarator -> Pointer . DirectParameterDeclarator; AbstractDeclarator -> Pointer . DirectAbstractDeclarator
    row (e (Node nt.DirectAnyDeclarator) 283 ∷ []) None None false None None false 281 true (cl.LeftParen ∷ cl.TypeParen ∷ cl.LiteralParen ∷ cl.LeftBracket ∷ []) (i 118 1 ∷ i 136 1 ∷ []) ∷
    -- 283: a declarator was read
    row [] None None false None (ways 284 285) false 281 true [] [] ∷
    -- 284: ParameterDeclarator -> Pointer DirectParameterDeclarator .
    row [] (label ru.Declarator 0) None false None None true 281 true [] (i 118 2 ∷ []) ∷
    -- 285: AbstractDeclarator -> Pointer DirectAbstractDeclarator .
    row [] (label ru.AbstractDeclarator 1) None false None None false 281 true [] (i 136 2 ∷ []) ∷
    -- 286: DirectParameterDeclarator -> . Name; DirectParameterDeclarator -> . LeftParen ParameterDeclarator RightParen ..
    row (e (Token te.Name ac.Name) 287 ∷ e (Token (te.Is cl.LeftParen) ac.Stay) 288 ∷ e (Token (te.Is cl.LeftBracket) ac.Stay) 295 ∷ e (Token te.TypeOpen ac.Open) 308 ∷ []) None None false None None false 286 true [] (i 119 0 ∷ i 120 0 ∷ i 137 0 ∷ i 138 0 ∷ i 139 0 ∷ i 140 0 ∷ i 141 0 ∷ i 146 0 ∷ i 147 0 ∷ []) ∷
    -- 287: DirectParameterDeclarator -> Name .
    row [] (label ru.DirectDeclarator 0) None false None None true 286 true [] (i 119 1 ∷ []) ∷
    -- 288: DirectParameterDeclarator -> LeftParen . ParameterDeclarator RightParen; DirectAbstractDeclarator -> LeftParen . AbstractDeclarator RightParen ..
    row (e (Node nt.AnyDeclarator) 289 ∷ e (Token (te.Is cl.RightParen) ac.Stay) 294 ∷ []) None None false None None false 286 true [] (i 120 1 ∷ i 137 1 ∷ i 146 1 ∷ []) ∷
    -- 289: a declarator was read
    row [] None None false None (ways 290 292) false 286 true [] [] ∷
    -- 290: DirectParameterDeclarator -> LeftParen ParameterDeclarator . RightParen
    row (e (Token (te.Is cl.RightParen) ac.Stay) 291 ∷ []) None None false None None false 286 true [] (i 120 2 ∷ []) ∷
    -- 291: DirectParameterDeclarator -> LeftParen ParameterDeclarator RightParen .
    row [] (label ru.DirectDeclarator 1) None false None None true 286 true [] (i 120 3 ∷ []) ∷
    -- 292: DirectAbstractDeclarator -> LeftParen AbstractDeclarator . RightParen
    row (e (Token (te.Is cl.RightParen) ac.Stay) 293 ∷ []) None None false None None false 286 true [] (i 137 2 ∷ []) ∷
    -- 293: DirectAbstractDeclarator -> LeftParen AbstractDeclarator RightParen .
    row [] (label ru.DirectAbstractDeclarator 0) None false None None false 286 true [] (i 137 3 ∷ []) ∷
    -- 294: DirectAbstractDeclarator -> LeftParen RightParen .
    row [] (label ru.DirectAbstractDeclarator 5) None false None None false 286 true [] (i 146 2 ∷ []) ∷
    -- 295: DirectAbstractDeclarator -> LeftBracket . TypeQualifierList? AssignmentExpression? RightBracket; DirectAbstractDeclarator -> LeftBracket . Static TypeQualifierList? AssignmentExpression RightBracket ..
    row (e (Node nt.TypeQualifierList) 296 ∷ e (Node nt.AssignmentExpression) 297 ∷ e (Token (te.Is cl.RightBracket) ac.Stay) 298 ∷ e (Token (te.Is cl.Static) ac.Stay) 302 ∷ e (Token (te.Is cl.StarBracket) ac.Stay) 306 ∷ []) None None false None None false 286 true [] (i 138 1 ∷ i 139 1 ∷ i 140 1 ∷ i 141 1 ∷ []) ∷
    -- 296: DirectAbstractDeclarator -> LeftBracket TypeQualifierList? . AssignmentExpression? RightBracket; DirectAbstractDeclarator -> LeftBracket TypeQualifierList . Static AssignmentExpression RightBracket
    row (e (Node nt.AssignmentExpression) 297 ∷ e (Token (te.Is cl.RightBracket) ac.Stay) 298 ∷ e (Token (te.Is cl.Static) ac.Stay) 299 ∷ []) None None false None None false 286 true [] (i 138 2 ∷ i 140 2 ∷ []) ∷
    -- 297: DirectAbstractDeclarator -> LeftBracket TypeQualifierList? AssignmentExpression? . RightBracket
    row (e (Token (te.Is cl.RightBracket) ac.Stay) 298 ∷ []) None None false None None false 286 true [] (i 138 3 ∷ []) ∷
    -- 298: DirectAbstractDeclarator -> LeftBracket TypeQualifierList? AssignmentExpression? RightBracket .
    row [] (label ru.DirectAbstractDeclarator 1) None false None None false 286 true [] (i 138 4 ∷ []) ∷
    -- 299: DirectAbstractDeclarator -> LeftBracket TypeQualifierList Static . AssignmentExpression RightBracket
    row (e (Node nt.AssignmentExpression) 300 ∷ []) None None false None None false 286 true [] (i 140 3 ∷ []) ∷
    -- 300: DirectAbstractDeclarator -> LeftBracket TypeQualifierList Static AssignmentExpression . RightBracket
    row (e (Token (te.Is cl.RightBracket) ac.Stay) 301 ∷ []) None None false None None false 286 true [] (i 140 4 ∷ []) ∷
    -- 301: DirectAbstractDeclarator -> LeftBracket TypeQualifierList Static AssignmentExpression RightBracket .
    row [] (label ru.DirectAbstractDeclarator 3) None false None None false 286 true [] (i 140 5 ∷ []) ∷
    -- 302: DirectAbstractDeclarator -> LeftBracket Static . TypeQualifierList? AssignmentExpression RightBracket
    row (e (Node nt.TypeQualifierList) 303 ∷ e (Node nt.AssignmentExpression) 304 ∷ []) None None false None None false 286 true [] (i 139 2 ∷ []) ∷
    -- 303: DirectAbstractDeclarator -> LeftBracket Static TypeQualifierList? . AssignmentExpression RightBracket
    row (e (Node nt.AssignmentExpression) 304 ∷ []) None None false None None false 286 true [] (i 139 3 ∷ []) ∷
    -- 304: DirectAbstractDeclarator -> LeftBracket Static TypeQualifierList? AssignmentExpression . RightBracket
    row (e (Token (te.Is cl.RightBracket) ac.Stay) 305 ∷ []) None None false None None false 286 true [] (i 139 4 ∷ []) ∷
    -- 305: DirectAbstractDeclarator -> LeftBracket Static TypeQualifierList? AssignmentExpression RightBracket .
    row [] (label ru.DirectAbstractDeclarator 2) None false None None false 286 true [] (i 139 5 ∷ []) ∷
    -- 306: DirectAbstractDeclarator -> LeftBracket StarBracket . RightBracket
    row (e (Token (te.Is cl.RightBracket) ac.Stay) 307 ∷ []) None None false None None false 286 true [] (i 141 2 ∷ []) ∷
    -- 307: DirectAbstractDeclarator -> LeftBracket StarBracket RightBracket .
    row [] (label ru.DirectAbstractDeclarator 4) None false None None false 286 true [] (i 141 3 ∷ []) ∷
    -- 308: DirectAbstractDeclarator -> TypeOpen . ParameterTypeList RightParen
    row (e (Node nt.ParameterTypeList) 309 ∷ []) None None false None None false 286 true [] (i 147 1 ∷ []) ∷
    -- 309: DirectAbstractDeclarator -> TypeOpen ParameterTypeList . RightParen
    row (e (Token (te.Is cl.RightParen) ac.Close) 310 ∷ []) None None false None None false 286 true [] (i 147 2 ∷ []) ∷
    -- 310: DirectAbstractDeclarator -> TypeOpen ParameterTypeList RightParen .
    row [] (label ru.DirectAbstractDeclarator 5) None false None None false 286 true [] (i 147 3 ∷ []) ∷
    -- 311: DirectParameterDeclarator -> . DirectParameterDeclarator LeftBracket TypeQualifierList? AssignmentExpression? RightBracket; DirectParameterDeclarator -> . DirectParameterDeclarator LeftBracket Static TypeQualifierList? AssignmentExpression RightBracket ..
    row (e (Node nt.DirectParameterDeclarator) 312 ∷ []) None None false (head nt.DirectParameterDeclarator 312) None false 311 true [] (i 121 0 ∷ i 122 0 ∷ i 123 0 ∷ i 124 0 ∷ i 125 0 ∷ i 126 0 ∷ []) ∷
    -- 312: DirectParameterDeclarator -> DirectParameterDeclarator . LeftBracket TypeQualifierList? AssignmentExpression? RightBracket; DirectParameterDeclarator -> DirectParameterDeclarator . LeftBracket Static TypeQualifierList? AssignmentExpression RightBracket ..
    row (e (Token (te.Is cl.LeftBracket) ac.Stay) 313 ∷ e (Token te.TypeOpen ac.Open) 326 ∷ e (Token (te.Is cl.LeftParen) ac.Open) 329 ∷ []) None None false None None false 311 true [] (i 121 1 ∷ i 122 1 ∷ i 123 1 ∷ i 124 1 ∷ i 125 1 ∷ i 126 1 ∷ []) ∷
    -- 313: DirectParameterDeclarator -> DirectParameterDeclarator LeftBracket . TypeQualifierList? AssignmentExpression? RightBracket; DirectParameterDeclarator -> DirectParameterDeclarator LeftBracket . Static TypeQualifierList? AssignmentExpression RightBracket ..
    row (e (Node nt.TypeQualifierList) 314 ∷ e (Node nt.AssignmentExpression) 315 ∷ e (Token (te.Is cl.RightBracket) ac.Stay) 316 ∷ e (Token (te.Is cl.Static) ac.Stay) 322 ∷ e (Token (te.Is cl.StarBracket) ac.Stay) 320 ∷ []) None None false None None false 311 true [] (i 121 2 ∷ i 122 2 ∷ i 123 2 ∷ i 124 2 ∷ []) ∷
    -- 314: DirectParameterDeclarator -> DirectParameterDeclarator LeftBracket TypeQualifierList? . AssignmentExpression? RightBracket; DirectParameterDeclarator -> DirectParameterDeclarator LeftBracket TypeQualifierList . Static AssignmentExpression RightBracket ..
    row (e (Node nt.AssignmentExpression) 315 ∷ e (Token (te.Is cl.RightBracket) ac.Stay) 316 ∷ e (Token (te.Is cl.Static) ac.Stay) 317 ∷ e (Token (te.Is cl.StarBracket) ac.Stay) 320 ∷ []) None None false None None false 311 true [] (i 121 3 ∷ i 123 3 ∷ i 124 3 ∷ []) ∷
    -- 315: DirectParameterDeclarator -> DirectParameterDeclarator LeftBracket TypeQualifierList? AssignmentExpression? . RightBracket
    row (e (Token (te.Is cl.RightBracket) ac.Stay) 316 ∷ []) None None false None None false 311 true [] (i 121 4 ∷ []) ∷
    -- 316: DirectParameterDeclarator -> DirectParameterDeclarator LeftBracket TypeQualifierList? AssignmentExpression? RightBracket .
    row [] (label ru.DirectDeclarator 2) None false None None true 311 true [] (i 121 5 ∷ []) ∷
    -- 317: DirectParameterDeclarator -> DirectParameterDeclarator LeftBracket TypeQualifierList Static . AssignmentExpression RightBracket
    row (e (Node nt.AssignmentExpression) 318 ∷ []) None None false None None false 311 true [] (i 123 4 ∷ []) ∷
    -- 318: DirectParameterDeclarator -> DirectParameterDeclarator LeftBracket TypeQualifierList Static AssignmentExpression . RightBracket
    row (e (Token (te.Is cl.RightBracket) ac.Stay) 319 ∷ []) None None false None None false 311 true [] (i 123 5 ∷ []) ∷
    -- 319: DirectParameterDeclarator -> DirectParameterDeclarator LeftBracket TypeQualifierList Static AssignmentExpression RightBracket .
    row [] (label ru.DirectDeclarator 4) None false None None true 311 true [] (i 123 6 ∷ []) ∷
    -- 320: DirectParameterDeclarator -> DirectParameterDeclarator LeftBracket TypeQualifierList? StarBracket . RightBracket
    row (e (Token (te.Is cl.RightBracket) ac.Stay) 321 ∷ []) None None false None None false 311 true [] (i 124 4 ∷ []) ∷
    -- 321: DirectParameterDeclarator -> DirectParameterDeclarator LeftBracket TypeQualifierList? StarBracket RightBracket .
    row [] (label ru.DirectDeclarator 5) None false None None true 311 true [] (i 124 5 ∷ []) ∷
    -- 322: DirectParameterDeclarator -> DirectParameterDeclarator LeftBracket Static . TypeQualifierList? AssignmentExpression RightBracket
    row (e (Node nt.TypeQualifierList) 323 ∷ e (Node nt.AssignmentExpression) 324 ∷ []) None None false None None false 311 true [] (i 122 3 ∷ []) ∷
    -- 323: DirectParameterDeclarator -> DirectParameterDeclarator LeftBracket Static TypeQualifierList? . AssignmentExpression RightBracket
    row (e (Node nt.AssignmentExpression) 324 ∷ []) None None false None None false 311 true [] (i 122 4 ∷ []) ∷
    -- 324: DirectParameterDeclarator -> DirectParameterDeclarator LeftBracket Static TypeQualifierList? AssignmentExpression . RightBracket
    row (e (Token (te.Is cl.RightBracket) ac.Stay) 325 ∷ []) None None false None None false 311 true [] (i 122 5 ∷ []) ∷
    -- 325: DirectParameterDeclarator -> DirectParameterDeclarator LeftBracket Static TypeQualifierList? AssignmentExpression RightBracket .
    row [] (label ru.DirectDeclarator 3) None false None None true 311 true [] (i 122 6 ∷ []) ∷
    -- 326: DirectParameterDeclarator -> DirectParameterDeclarator TypeOpen . ParameterTypeList RightParen
    row (e (Node nt.ParameterTypeList) 327 ∷ []) None None false None None false 311 true [] (i 125 2 ∷ []) ∷
    -- 327: DirectParameterDeclarator -> DirectParameterDeclarator TypeOpen ParameterTypeList . RightParen
    row (e (Token (te.Is cl.RightParen) ac.Close) 328 ∷ []) None None false None None false 311 true [] (i 125 3 ∷ []) ∷
    -- 328: DirectParameterDeclarator -> DirectParameterDeclarator TypeOpen ParameterTypeList RightParen .
    row [] (label ru.DirectDeclarator 6) None false None None true 311 true [] (i 125 4 ∷ []) ∷
    -- 329: DirectParameterDeclarator -> DirectParameterDeclarator LeftParen . IdentifierList? RightParen
    row (e (Node nt.IdentifierList) 330 ∷ e (Token (te.Is cl.RightParen) ac.Close) 331 ∷ []) None None false None None false 311 true [] (i 126 2 ∷ []) ∷
    -- 330: DirectParameterDeclarator -> DirectParameterDeclarator LeftParen IdentifierList? . RightParen
    row (e (Token (te.Is cl.RightParen) ac.Close) 331 ∷ []) None None false None None false 311 true [] (i 126 3 ∷ []) ∷
    -- 331: DirectParameterDeclarator -> DirectParameterDeclarator LeftParen IdentifierList? RightParen .
    row [] (label ru.DirectDeclarator 7) None false None None true 311 true [] (i 126 4 ∷ []) ∷
    -- 332: Pointer -> . Star TypeQualifierList?; Pointer -> . Star TypeQualifierList? Pointer
    row (e (Token (te.Is cl.Star) ac.Stay) 333 ∷ []) None None false None None false 332 true (cl.Star ∷ cl.Const ∷ cl.Restrict ∷ cl.Volatile ∷ cl.Atomic ∷ []) (i 127 0 ∷ i 128 0 ∷ []) ∷
    -- 333: Pointer -> Star . TypeQualifierList?; Pointer -> Star . TypeQualifierList? Pointer
    row (e (Node nt.TypeQualifierList) 334 ∷ e (Node nt.Pointer) 335 ∷ []) (label ru.Pointer 0) None false None None false 332 true (cl.Star ∷ cl.Const ∷ cl.Restrict ∷ cl.Volatile ∷ cl.Atomic ∷ []) (i 127 1 ∷ i 128 1 ∷ []) ∷
    -- 334: Pointer -> Star TypeQualifierList? .; Pointer -> Star TypeQualifierList? . Pointer
    row (e (Node nt.Pointer) 335 ∷ []) (label ru.Pointer 0) None false None None false 332 true (cl.Star ∷ cl.Const ∷ cl.Restrict ∷ cl.Volatile ∷ cl.Atomic ∷ []) (i 127 2 ∷ i 128 2 ∷ []) ∷
    -- 335: Pointer -> Star TypeQualifierList? Pointer .
    row [] (label ru.Pointer 1) None false None None false 332 true [] (i 128 3 ∷ []) ∷
    -- 336: TypeQualifierList -> . TypeQualifier TypeQualifier*
    row (e (Node nt.TypeQualifier) 337 ∷ []) None None false None None false 336 true (cl.Const ∷ cl.Restrict ∷ cl.Volatile ∷ cl.Atomic ∷ []) (i 129 0 ∷ []) ∷
    -- 337: TypeQualifierList -> TypeQualifier . TypeQualifier*
    row (e (Node nt.TypeQualifier) 337 ∷ []) (label ru.TypeQualifierList 0) None false None None false 336 true (cl.Const ∷ cl.Restrict ∷ cl.Volatile ∷ cl.Atomic ∷ []) (i 129 1 ∷ []) ∷
    -- 338: ParameterTypeList -> . ParameterList LastComma Ellipsis
    row (e (Node nt.ParameterList) 339 ∷ []) None None false (head nt.ParameterList 339) None false 338 true [] (i 130 0 ∷ []) ∷
    -- 339: ParameterTypeList -> ParameterList . LastComma Ellipsis
    row (e (Token (te.Is cl.LastComma) ac.Stay) 340 ∷ []) None None false None None false 338 true [] (i 130 1 ∷ []) ∷
    -- 340: ParameterTypeList -> ParameterList LastComma . Ellipsis
    row (e (Token (te.Is cl.Ellipsis) ac.Stay) 341 ∷ []) None None false None None false 338 true [] (i 130 2 ∷ []) ∷
    -- 341: ParameterTypeList -> ParameterList LastComma Ellipsis .
    row [] (label ru.ParameterTypeList 1) None false None None false 338 true [] (i 130 3 ∷ []) ∷
    -- 342: ParameterList -> . ParameterDeclaration
    row (e (Node nt.ParameterDeclaration) 343 ∷ []) None None false None None false 342 true (cl.Ident ∷ cl.IdentColon ∷ cl.TypedefName ∷ cl.TypedefColon ∷ cl.LeftParen ∷ cl.TypeParen ∷ cl.LiteralParen ∷ cl.LeftBracket ∷ cl.LeftBrace ∷ cl.Star ∷ cl.Comma ∷ cl.Typedef ∷ cl.Extern ∷ cl.Static ∷ cl.ThreadLocal ∷ cl.Auto ∷ cl.Register ∷ cl.Void ∷ cl.Char ∷ cl.Short ∷ cl.Int ∷ cl.Long ∷ cl.Float ∷ cl.Double ∷ cl.Signed ∷ cl.Unsigned ∷ cl.Bool ∷ cl.Struct ∷ cl.Union ∷ cl.Enum ∷ cl.Const ∷ cl.Restrict ∷ cl.Volatile ∷ cl.Atomic ∷ cl.AtomicParen ∷ cl.Inline ∷ cl.Noreturn ∷ cl.Alignas ∷ []) (i 131 0 ∷ []) ∷
    -- 343: ParameterList -> ParameterDeclaration .
    row (after (record { class = cl.Comma; act = ac.Finish }) (Node nt.ParameterDeclaration) 343 ∷ []) (label ru.ParameterList 0) None false None None false 342 true (cl.Ident ∷ cl.IdentColon ∷ cl.TypedefName ∷ cl.TypedefColon ∷ cl.LeftParen ∷ cl.TypeParen ∷ cl.LiteralParen ∷ cl.LeftBracket ∷ cl.LeftBrace ∷ cl.Star ∷ cl.Comma ∷ cl.Typedef ∷ cl.Extern ∷ cl.Static ∷ cl.ThreadLocal ∷ cl.Auto ∷ cl.Register ∷ cl.Void ∷ cl.Char ∷ cl.Short ∷ cl.Int ∷ cl.Long ∷ cl.Float ∷ cl.Double ∷ cl.Signed ∷ cl.Unsigned ∷ cl.Bool ∷ cl.Struct ∷ cl.Union ∷ cl.Enum ∷ cl.Const ∷ cl.Restrict ∷ cl.Volatile ∷ cl.Atomic ∷ cl.AtomicParen ∷ cl.Inline ∷ cl.Noreturn ∷ cl.Alignas ∷ []) (i 131 1 ∷ []) ∷
    -- 344: ParameterDeclaration -> . DeclarationSpecifiers ParameterDeclarator; ParameterDeclaration -> . DeclarationSpecifiers AbstractDeclarator
    row (e (Node nt.DeclarationSpecifiers) 345 ∷ []) None None false (head nt.DeclarationSpecifiers 345) None false 344 true (cl.Ident ∷ cl.IdentColon ∷ cl.TypedefName ∷ cl.TypedefColon ∷ cl.LeftParen ∷ cl.TypeParen ∷ cl.LiteralParen ∷ cl.LeftBracket ∷ cl.Star ∷ cl.Const ∷ cl.Restrict ∷ cl.Volatile ∷ cl.Atomic ∷ []) (i 132 0 ∷ i 133 0 ∷ []) ∷
    -- 345: ParameterDeclaration -> DeclarationSpecifiers . ParameterDeclarator; ParameterDeclaration -> DeclarationSpecifiers . AbstractDeclarator
    row (e (Node nt.AnyDeclarator) 346 ∷ []) None None false None None false 344 true (cl.Ident ∷ cl.IdentColon ∷ cl.TypedefName ∷ cl.TypedefColon ∷ cl.LeftParen ∷ cl.TypeParen ∷ cl.LiteralParen ∷ cl.LeftBracket ∷ cl.Star ∷ cl.Const ∷ cl.Restrict ∷ cl.Volatile ∷ cl.Atomic ∷ []) (i 132 1 ∷ i 133 1 ∷ []) ∷
    -- 346: a declarator was read
    row [] None None false None (ways 347 348) false 344 true [] [] ∷
    -- 347: ParameterDeclaration -> DeclarationSpecifiers ParameterDeclarator .
    row [] (label ru.ParameterDeclaration 0) None false None None false 344 true [] (i 132 2 ∷ []) ∷
    -- 348: ParameterDeclaration -> DeclarationSpecifiers AbstractDeclarator .
    row [] (label ru.ParameterDeclaration 1) None false None None false 344 true [] (i 133 2 ∷ []) ∷
    -- 349: IdentifierList -> . Name
    row (e (Token te.Name ac.Stay) 350 ∷ []) None None false None None false 349 true (cl.Comma ∷ []) (i 134 0 ∷ []) ∷
    -- 350: IdentifierList -> Name .
    row (after (record { class = cl.Comma; act = ac.Stay }) (Token te.Name ac.Stay) 350 ∷ []) (label ru.IdentifierList 0) None false None None false 349 true (cl.Comma ∷ []) (i 134 1 ∷ []) ∷
    -- 351: TypeName -> . SpecifierQualifierList AbstractDeclarator
    row (e (Node nt.SpecifierQualifierList) 352 ∷ []) None None false (head nt.SpecifierQualifierList 352) None false 351 true (cl.Ident ∷ cl.IdentColon ∷ cl.TypedefName ∷ cl.TypedefColon ∷ cl.LeftParen ∷ cl.TypeParen ∷ cl.LiteralParen ∷ cl.LeftBracket ∷ cl.Star ∷ cl.Const ∷ cl.Restrict ∷ cl.Volatile ∷ cl.Atomic ∷ []) (i 135 0 ∷ []) ∷
    -- 352: TypeName -> SpecifierQualifierList . AbstractDeclarator
    row (e (Node nt.AbstractDeclarator) 353 ∷ []) None None false None None false 351 true (cl.Ident ∷ cl.IdentColon ∷ cl.TypedefName ∷ cl.TypedefColon ∷ cl.LeftParen ∷ cl.TypeParen ∷ cl.LiteralParen ∷ cl.LeftBracket ∷ cl.Star ∷ cl.Const ∷ cl.Restrict ∷ cl.Volatile ∷ cl.Atomic ∷ []) (i 135 1 ∷ []) ∷
    -- 353: TypeName -> SpecifierQualifierList AbstractDeclarator .
    row [] (label ru.TypeName 0) None false None None false 351 true [] (i 135 2 ∷ []) ∷
    -- 354: DirectAbstractDeclarator -> . DirectAbstractDeclarator LeftBracket TypeQualifierList? AssignmentExpression? RightBracket; DirectAbstractDeclarator -> . DirectAbstractDeclarator LeftBracket Static TypeQualifierList? AssignmentExpression RightBracket ..
    row (e (Node nt.DirectAbstractDeclarator) 355 ∷ []) None None false (head nt.DirectAbstractDeclarator 355) None false 354 true [] (i 142 0 ∷ i 143 0 ∷ i 144 0 ∷ i 145 0 ∷ i 148 0 ∷ i 149 0 ∷ []) ∷
    -- 355: DirectAbstractDeclarator -> DirectAbstractDeclarator . LeftBracket TypeQualifierList? AssignmentExpression? RightBracket; DirectAbstractDeclarator -> DirectAbstractDeclarator . LeftBracket Static TypeQualifierList? AssignmentExpression RightBracket ..
    row (e (Token (te.Is cl.LeftBracket) ac.Stay) 356 ∷ e (Token (te.Is cl.LeftParen) ac.Stay) 369 ∷ e (Token te.TypeOpen ac.Open) 371 ∷ []) None None false None None false 354 true [] (i 142 1 ∷ i 143 1 ∷ i 144 1 ∷ i 145 1 ∷ i 148 1 ∷ i 149 1 ∷ []) ∷
    -- 356: DirectAbstractDeclarator -> DirectAbstractDeclarator LeftBracket . TypeQualifierList? AssignmentExpression? RightBracket; DirectAbstractDeclarator -> DirectAbstractDeclarator LeftBracket . Static TypeQualifierList? AssignmentExpression RightBracket ..
    row (e (Node nt.TypeQualifierList) 357 ∷ e (Node nt.AssignmentExpression) 358 ∷ e (Token (te.Is cl.RightBracket) ac.Stay) 359 ∷ e (Token (te.Is cl.Static) ac.Stay) 363 ∷ e (Token (te.Is cl.StarBracket) ac.Stay) 367 ∷ []) None None false None None false 354 true [] (i 142 2 ∷ i 143 2 ∷ i 144 2 ∷ i 145 2 ∷ []) ∷
    -- 357: DirectAbstractDeclarator -> DirectAbstractDeclarator LeftBracket TypeQualifierList? . AssignmentExpression? RightBracket; DirectAbstractDeclarator -> DirectAbstractDeclarator LeftBracket TypeQualifierList . Static AssignmentExpression RightBracket
    row (e (Node nt.AssignmentExpression) 358 ∷ e (Token (te.Is cl.RightBracket) ac.Stay) 359 ∷ e (Token (te.Is cl.Static) ac.Stay) 360 ∷ []) None None false None None false 354 true [] (i 142 3 ∷ i 144 3 ∷ []) ∷
    -- 358: DirectAbstractDeclarator -> DirectAbstractDeclarator LeftBracket TypeQualifierList? AssignmentExpression? . RightBracket
    row (e (Token (te.Is cl.RightBracket) ac.Stay) 359 ∷ []) None None false None None false 354 true [] (i 142 4 ∷ []) ∷
    -- 359: DirectAbstractDeclarator -> DirectAbstractDeclarator LeftBracket TypeQualifierList? AssignmentExpression? RightBracket .
    row [] (label ru.DirectAbstractDeclarator 1) None false None None false 354 true [] (i 142 5 ∷ []) ∷
    -- 360: DirectAbstractDeclarator -> DirectAbstractDeclarator LeftBracket TypeQualifierList Static . AssignmentExpression RightBracket
    row (e (Node nt.AssignmentExpression) 361 ∷ []) None None false None None false 354 true [] (i 144 4 ∷ []) ∷
    -- 361: DirectAbstractDeclarator -> DirectAbstractDeclarator LeftBracket TypeQualifierList Static AssignmentExpression . RightBracket
    row (e (Token (te.Is cl.RightBracket) ac.Stay) 362 ∷ []) None None false None None false 354 true [] (i 144 5 ∷ []) ∷
    -- 362: DirectAbstractDeclarator -> DirectAbstractDeclarator LeftBracket TypeQualifierList Static AssignmentExpression RightBracket .
    row [] (label ru.DirectAbstractDeclarator 3) None false None None false 354 true [] (i 144 6 ∷ []) ∷
    -- 363: DirectAbstractDeclarator -> DirectAbstractDeclarator LeftBracket Static . TypeQualifierList? AssignmentExpression RightBracket
    row (e (Node nt.TypeQualifierList) 364 ∷ e (Node nt.AssignmentExpression) 365 ∷ []) None None false None None false 354 true [] (i 143 3 ∷ []) ∷
    -- 364: DirectAbstractDeclarator -> DirectAbstractDeclarator LeftBracket Static TypeQualifierList? . AssignmentExpression RightBracket
    row (e (Node nt.AssignmentExpression) 365 ∷ []) None None false None None false 354 true [] (i 143 4 ∷ []) ∷
    -- 365: DirectAbstractDeclarator -> DirectAbstractDeclarator LeftBracket Static TypeQualifierList? AssignmentExpression . RightBracket
    row (e (Token (te.Is cl.RightBracket) ac.Stay) 366 ∷ []) None None false None None false 354 true [] (i 143 5 ∷ []) ∷
    -- 366: DirectAbstractDeclarator -> DirectAbstractDeclarator LeftBracket Static TypeQualifierList? AssignmentExpression RightBracket .
    row [] (label ru.DirectAbstractDeclarator 2) None false None None false 354 true [] (i 143 6 ∷ []) ∷
    -- 367: DirectAbstractDeclarator -> DirectAbstractDeclarator LeftBracket StarBracket . RightBracket
    row (e (Token (te.Is cl.RightBracket) ac.Stay) 368 ∷ []) None None false None None false 354 true [] (i 145 3 ∷ []) ∷
    -- 368: DirectAbstractDeclarator -> DirectAbstractDeclarator LeftBracket StarBracket RightBracket .
    row [] (label ru.DirectAbstractDeclarator 4) None false None None false 354 true [] (i 145 4 ∷ []) ∷
    -- 369: DirectAbstractDeclarator -> DirectAbstractDeclarator LeftParen . RightParen
    row (e (Token (te.Is cl.RightParen) ac.Stay) 370 ∷ []) None None false None None false 354 true [] (i 148 2 ∷ []) ∷
    -- 370: DirectAbstractDeclarator -> DirectAbstractDeclarator LeftParen RightParen .
    row [] (label ru.DirectAbstractDeclarator 5) None false None None false 354 true [] (i 148 3 ∷ []) ∷
    -- 371: DirectAbstractDeclarator -> DirectAbstractDeclarator TypeOpen . ParameterTypeList RightParen
    row (e (Node nt.ParameterTypeList) 372 ∷ []) None None false None None false 354 true [] (i 149 2 ∷ []) ∷
    -- 372: DirectAbstractDeclarator -> DirectAbstractDeclarator TypeOpen ParameterTypeList . RightParen
    row (e (Token (te.Is cl.RightParen) ac.Close) 373 ∷ []) None None false None None false 354 true [] (i 149 3 ∷ []) ∷
    -- 373: DirectAbstractDeclarator -> DirectAbstractDeclarator TypeOpen ParameterTypeList RightParen .
    row [] (label ru.DirectAbstractDeclarator 5) None false None None false 354 true [] (i 149 4 ∷ []) ∷
    -- 374: TypedefName -> . Typed
    row (e (Token te.Typed ac.Stay) 375 ∷ []) None None false None None false 374 true [] (i 150 0 ∷ []) ∷
    -- 375: TypedefName -> Typed .
    row [] (label ru.TypedefName 0) None false None None false 374 true [] (i 150 1 ∷ []) ∷
    -- 376: Initializer -> . LeftBrace InitializerList RightBrace; Initializer -> . LeftBrace InitializerList LastComma RightBrace
    row (e (Token (te.Is cl.LeftBrace) ac.Stay) 377 ∷ []) None None false None None false 376 true [] (i 151 0 ∷ i 152 0 ∷ []) ∷
    -- 377: Initializer -> LeftBrace . InitializerList RightBrace; Initializer -> LeftBrace . InitializerList LastComma RightBrace
    row (e (Node nt.InitializerList) 378 ∷ []) None None false None None false 376 true [] (i 151 1 ∷ i 152 1 ∷ []) ∷
    -- 378: Initializer -> LeftBrace InitializerList . RightBrace; Initializer -> LeftBrace InitializerList . LastComma RightBrace
    row (e (Token (te.Is cl.RightBrace) ac.Stay) 379 ∷ e (Token (te.Is cl.LastComma) ac.Stay) 380 ∷ []) None None false None None false 376 true [] (i 151 2 ∷ i 152 2 ∷ []) ∷
    -- 379: Initializer -> LeftBrace InitializerList RightBrace .
    row [] (label ru.Initializer 1) None false None None false 376 true [] (i 151 3 ∷ []) ∷
    -- 380: Initializer -> LeftBrace InitializerList LastComma . RightBrace
    row (e (Token (te.Is cl.RightBrace) ac.Stay) 381 ∷ []) None None false None None false 376 true [] (i 152 3 ∷ []) ∷
    -- 381: Initializer -> LeftBrace InitializerList LastComma RightBrace .
    row [] (label ru.Initializer 2) None false None None false 376 true [] (i 152 4 ∷ []) ∷
    -- 382: InitializerList -> . Designation? Initializer
    row (e (Node nt.Designation) 383 ∷ e (Node nt.Initializer) 384 ∷ []) None None false None None false 382 true (cl.String ∷ cl.LeftParen ∷ cl.TypeParen ∷ cl.LiteralParen ∷ cl.LeftBracket ∷ cl.Dot ∷ cl.Arrow ∷ cl.PlusPlus ∷ cl.MinusMinus ∷ cl.Ampersand ∷ cl.Star ∷ cl.Plus ∷ cl.Minus ∷ cl.Slash ∷ cl.Percent ∷ cl.ShiftLeft ∷ cl.ShiftRight ∷ cl.Less ∷ cl.Greater ∷ cl.LessEqual ∷ cl.GreaterEqual ∷ cl.EqualEqual ∷ cl.BangEqual ∷ cl.Caret ∷ cl.Bar ∷ cl.AndAnd ∷ cl.OrOr ∷ cl.Question ∷ cl.Comma ∷ cl.DesignationComma ∷ cl.Equal ∷ cl.StarEqual ∷ cl.SlashEqual ∷ cl.PercentEqual ∷ cl.PlusEqual ∷ cl.MinusEqual ∷ cl.ShiftLeftEqual ∷ cl.ShiftRightEqual ∷ cl.AmpersandEqual ∷ cl.CaretEqual ∷ cl.BarEqual ∷ []) (i 153 0 ∷ []) ∷
    -- 383: InitializerList -> Designation? . Initializer
    row (e (Node nt.Initializer) 384 ∷ []) None None false None None false 382 true (cl.String ∷ cl.LeftParen ∷ cl.TypeParen ∷ cl.LiteralParen ∷ cl.LeftBracket ∷ cl.Dot ∷ cl.Arrow ∷ cl.PlusPlus ∷ cl.MinusMinus ∷ cl.Ampersand ∷ cl.Star ∷ cl.Plus ∷ cl.Minus ∷ cl.Slash ∷ cl.Percent ∷ cl.ShiftLeft ∷ cl.ShiftRight ∷ cl.Less ∷ cl.Greater ∷ cl.LessEqual ∷ cl.GreaterEqual ∷ cl.EqualEqual ∷ cl.BangEqual ∷ cl.Caret ∷ cl.Bar ∷ cl.AndAnd ∷ cl.OrOr ∷ cl.Question ∷ cl.Comma ∷ cl.DesignationComma ∷ cl.Equal ∷ cl.StarEqual ∷ cl.SlashEqual ∷ cl.PercentEqual ∷ cl.PlusEqual ∷ cl.MinusEqual ∷ cl.ShiftLeftEqual ∷ cl.ShiftRightEqual ∷ cl.AmpersandEqual ∷ cl.CaretEqual ∷ cl.BarEqual ∷ []) (i 153 1 ∷ []) ∷
    -- 384: InitializerList -> Designation? Initializer .
    row (after (record { class = cl.DesignationComma; act = ac.Stay }) (Node nt.Designation) 383 ∷ after (record { class = cl.Comma; act = ac.Stay }) (Node nt.Initializer) 384 ∷ []) (label ru.InitializerList 0) None false None None false 382 true (cl.String ∷ cl.LeftParen ∷ cl.TypeParen ∷ cl.LiteralParen ∷ cl.LeftBracket ∷ cl.Dot ∷ cl.Arrow ∷ cl.PlusPlus ∷ cl.MinusMinus ∷ cl.Ampersand ∷ cl.Star ∷ cl.Plus ∷ cl.Minus ∷ cl.Slash ∷ cl.Percent ∷ cl.ShiftLeft ∷ cl.ShiftRight ∷ cl.Less ∷ cl.Greater ∷ cl.LessEqual ∷ cl.GreaterEqual ∷ cl.EqualEqual ∷ cl.BangEqual ∷ cl.Caret ∷ cl.Bar ∷ cl.AndAnd ∷ cl.OrOr ∷ cl.Question ∷ cl.Comma ∷ cl.DesignationComma ∷ cl.Equal ∷ cl.StarEqual ∷ cl.SlashEqual ∷ cl.PercentEqual ∷ cl.PlusEqual ∷ cl.MinusEqual ∷ cl.ShiftLeftEqual ∷ cl.ShiftRightEqual ∷ cl.AmpersandEqual ∷ cl.CaretEqual ∷ cl.BarEqual ∷ []) (i 153 2 ∷ []) ∷
    -- 385: Designation -> . DesignatorList Equal
    row (e (Node nt.DesignatorList) 386 ∷ []) None None false None None false 385 true [] (i 154 0 ∷ []) ∷
    -- 386: Designation -> DesignatorList . Equal
    row (e (Token (te.Is cl.Equal) ac.Stay) 387 ∷ []) None None false None None false 385 true [] (i 154 1 ∷ []) ∷
    -- 387: Designation -> DesignatorList Equal .
    row [] (label ru.Designation 0) None false None None false 385 true [] (i 154 2 ∷ []) ∷
    -- 388: DesignatorList -> . Designator Designator*
    row (e (Node nt.Designator) 389 ∷ []) None None false None None false 388 true (cl.LeftBracket ∷ cl.Dot ∷ []) (i 155 0 ∷ []) ∷
    -- 389: DesignatorList -> Designator . Designator*
    row (e (Node nt.Designator) 389 ∷ []) (label ru.DesignatorList 0) None false None None false 388 true (cl.LeftBracket ∷ cl.Dot ∷ []) (i 155 1 ∷ []) ∷
    -- 390: Designator -> . LeftBracket ConstantExpression RightBracket; Designator -> . Dot Name
    row (e (Token (te.Is cl.LeftBracket) ac.Stay) 391 ∷ e (Token (te.Is cl.Dot) ac.Stay) 394 ∷ []) None None false None None false 390 true [] (i 156 0 ∷ i 157 0 ∷ []) ∷
    -- 391: Designator -> LeftBracket . ConstantExpression RightBracket
    row (e (Node nt.ConstantExpression) 392 ∷ []) None None false None None false 390 true [] (i 156 1 ∷ []) ∷
    -- 392: Designator -> LeftBracket ConstantExpression . RightBracket
    row (e (Token (te.Is cl.RightBracket) ac.Stay) 393 ∷ []) None None false None None false 390 true [] (i 156 2 ∷ []) ∷
    -- 393: Designator -> LeftBracket ConstantExpression RightBracket .
    row [] (label ru.Designator 0) None false None None false 390 true [] (i 156 3 ∷ []) ∷
    -- 394: Designator -> Dot . Name
    row (e (Token te.Name ac.Stay) 395 ∷ []) None None false None None false 390 true [] (i 157 1 ∷ []) ∷
    -- 395: Designator -> Dot Name .
    row [] (label ru.Designator 1) None false None None false 390 true [] (i 157 2 ∷ []) ∷
    -- 396: StaticAssertDeclaration -> . StaticAssert Open ConstantExpression Comma String String* RightParen Semicolon
    row (e (Token (te.Is cl.StaticAssert) ac.Stay) 397 ∷ []) None None false None None false 396 true [] (i 158 0 ∷ []) ∷
    -- 397: StaticAssertDeclaration -> StaticAssert . Open ConstantExpression Comma String String* RightParen Semicolon
    row (e (Token te.Open ac.Stay) 398 ∷ []) None None false None None false 396 true [] (i 158 1 ∷ []) ∷
    -- 398: StaticAssertDeclaration -> StaticAssert Open . ConstantExpression Comma String String* RightParen Semicolon
    row (e (Node nt.ConstantExpression) 399 ∷ []) None None false None None false 396 true [] (i 158 2 ∷ []) ∷
    -- 399: StaticAssertDeclaration -> StaticAssert Open ConstantExpression . Comma String String* RightParen Semicolon
    row (e (Token (te.Is cl.Comma) ac.Stay) 400 ∷ []) None None false None None false 396 true [] (i 158 3 ∷ []) ∷
    -- 400: StaticAssertDeclaration -> StaticAssert Open ConstantExpression Comma . String String* RightParen Semicolon
    row (e (Token (te.Is cl.String) ac.Stay) 401 ∷ []) None None false None None false 396 true [] (i 158 4 ∷ []) ∷
    -- 401: StaticAssertDeclaration -> StaticAssert Open ConstantExpression Comma String . String* RightParen Semicolon
    row (e (Token (te.Is cl.String) ac.Stay) 401 ∷ e (Token (te.Is cl.RightParen) ac.Stay) 402 ∷ []) None None false None None false 396 true [] (i 158 5 ∷ []) ∷
    -- 402: StaticAssertDeclaration -> StaticAssert Open ConstantExpression Comma String String* RightParen . Semicolon
    row (e (Token (te.Is cl.Semicolon) ac.Stay) 403 ∷ []) None None false None None false 396 true [] (i 158 7 ∷ []) ∷
    -- 403: StaticAssertDeclaration -> StaticAssert Open ConstantExpression Comma String String* RightParen Semicolon .
    row [] (label ru.StaticAssertDeclaration 0) None false None None false 396 true [] (i 158 8 ∷ []) ∷
    -- 404: ClosedLabeledStatement -> . Label Colon ClosedStatement; ClosedLabeledStatement -> . Case ConstantExpression Colon ClosedStatement ..
    row (e (Token te.Label ac.Stay) 405 ∷ e (Token (te.Is cl.Case) ac.Stay) 410 ∷ e (Token (te.Is cl.Default) ac.Stay) 416 ∷ []) None None false None None false 404 false [] (i 159 0 ∷ i 160 0 ∷ i 161 0 ∷ i 162 0 ∷ i 163 0 ∷ i 164 0 ∷ []) ∷
    -- 405: ClosedLabeledStatement -> Label . Colon ClosedStatement; OpenLabeledStatement -> Label . Colon OpenStatement
    row (e (Token (te.Is cl.Colon) ac.Stay) 406 ∷ []) None None false None None false 404 false [] (i 159 1 ∷ i 162 1 ∷ []) ∷
    -- 406: ClosedLabeledStatement -> Label Colon . ClosedStatement; OpenLabeledStatement -> Label Colon . OpenStatement
    row (e (Node nt.Statement) 407 ∷ []) None None false None None false 404 false [] (i 159 2 ∷ i 162 2 ∷ []) ∷
    -- 407: a statement was read
    row [] None None false None (ways 408 409) false 404 false [] [] ∷
    -- 408: OpenLabeledStatement -> Label Colon OpenStatement .
    row [] (label ru.LabeledStatement 0) None false None None true 404 false [] (i 162 3 ∷ []) ∷
    -- 409: ClosedLabeledStatement -> Label Colon ClosedStatement .
    row [] (label ru.LabeledStatement 0) None false None None false 404 false [] (i 159 3 ∷ []) ∷
    -- 410: ClosedLabeledStatement -> Case . ConstantExpression Colon ClosedStatement; OpenLabeledStatement -> Case . ConstantExpression Colon OpenStatement
    row (e (Node nt.ConstantExpression) 411 ∷ []) None None false None None false 404 false [] (i 160 1 ∷ i 163 1 ∷ []) ∷
    -- 411: ClosedLabeledStatement -> Case ConstantExpression . Colon ClosedStatement; OpenLabeledStatement -> Case ConstantExpression . Colon OpenStatement
    row (e (Token (te.Is cl.Colon) ac.Stay) 412 ∷ []) None None false None None false 404 false [] (i 160 2 ∷ i 163 2 ∷ []) ∷
    -- 412: ClosedLabeledStatement -> Case ConstantExpression Colon . ClosedStatement; OpenLabeledStatement -> Case ConstantExpression Colon . OpenStatement
    row (e (Node nt.Statement) 413 ∷ []) None None false None None false 404 false [] (i 160 3 ∷ i 163 3 ∷ []) ∷
    -- 413: a statement was read
    row [] None None false None (ways 414 415) false 404 false [] [] ∷
    -- 414: OpenLabeledStatement -> Case ConstantExpression Colon OpenStatement .
    row [] (label ru.LabeledStatement 1) None false None None true 404 false [] (i 163 4 ∷ []) ∷
    -- 415: ClosedLabeledStatement -> Case ConstantExpression Colon ClosedStatement .
    row [] (label ru.LabeledStatement 1) None false None None false 404 false [] (i 160 4 ∷ []) ∷
    -- 416: ClosedLabeledStatement -> Default . Colon ClosedStatement; OpenLabeledStatement -> Default . Colon OpenStatement
    row (e (Token (te.Is cl.Colon) ac.Stay) 417 ∷ []) None None false None None false 404 false [] (i 161 1 ∷ i 164 1 ∷ []) ∷
    -- 417: ClosedLabeledStatement -> Default Colon . ClosedStatement; OpenLabeledStatement -> Default Colon . OpenStatement
    row (e (Node nt.Statement) 418 ∷ []) None None false None None false 404 false [] (i 161 2 ∷ i 164 2 ∷ []) ∷
    -- 418: a statement was read
    row [] None None false None (ways 419 420) false 404 false [] [] ∷
    -- 419: OpenLabeledStatement -> Default Colon OpenStatement .
    row [] (label ru.LabeledStatement 2) None false None None true 404 false [] (i 164 3 ∷ []) ∷
    -- 420: ClosedLabeledStatement -> Default Colon ClosedStatement .
    row [] (label ru.LabeledStatement 2) None false None None false 404 false [] (i 161 3 ∷ []) ∷
    -- 421: CompoundStatement -> . LeftBrace BlockItemList? RightBrace
    row (e (Token (te.Is cl.LeftBrace) ac.Open) 422 ∷ []) None None false None None false 421 false [] (i 165 0 ∷ []) ∷
    -- 422: CompoundStatement -> LeftBrace . BlockItemList? RightBrace
    row (e (Node nt.BlockItemList) 423 ∷ e (Token (te.Is cl.RightBrace) ac.Close) 424 ∷ []) None None false None None false 421 false [] (i 165 1 ∷ []) ∷
    -- 423: CompoundStatement -> LeftBrace BlockItemList? . RightBrace
    row (e (Token (te.Is cl.RightBrace) ac.Close) 424 ∷ []) None None false None None false 421 false [] (i 165 2 ∷ []) ∷
    -- 424: CompoundStatement -> LeftBrace BlockItemList? RightBrace .
    row [] (label ru.CompoundStatement 0) None false None None false 421 false [] (i 165 3 ∷ []) ∷
    -- 425: BlockItemList -> . BlockItem BlockItem*
    row (e Entry 426 ∷ []) None None false None None false 425 false (cl.Ident ∷ cl.IdentColon ∷ cl.TypedefName ∷ cl.TypedefColon ∷ cl.Constant ∷ cl.String ∷ cl.LeftParen ∷ cl.TypeParen ∷ cl.LiteralParen ∷ cl.RightParen ∷ cl.LeftBracket ∷ cl.RightBracket ∷ cl.LeftBrace ∷ cl.Dot ∷ cl.Arrow ∷ cl.PlusPlus ∷ cl.MinusMinus ∷ cl.Ampersand ∷ cl.Star ∷ cl.StarBracket ∷ cl.Plus ∷ cl.Minus ∷ cl.Tilde ∷ cl.Bang ∷ cl.Slash ∷ cl.Percent ∷ cl.ShiftLeft ∷ cl.ShiftRight ∷ cl.Less ∷ cl.Greater ∷ cl.LessEqual ∷ cl.GreaterEqual ∷ cl.EqualEqual ∷ cl.BangEqual ∷ cl.Caret ∷ cl.Bar ∷ cl.AndAnd ∷ cl.OrOr ∷ cl.Question ∷ cl.Colon ∷ cl.Semicolon ∷ cl.Ellipsis ∷ cl.Comma ∷ cl.LastComma ∷ cl.DesignationComma ∷ cl.Equal ∷ cl.StarEqual ∷ cl.SlashEqual ∷ cl.PercentEqual ∷ cl.PlusEqual ∷ cl.MinusEqual ∷ cl.ShiftLeftEqual ∷ cl.ShiftRightEqual ∷ cl.AmpersandEqual ∷ cl.CaretEqual ∷ cl.BarEqual ∷ cl.Sizeof ∷ cl.Alignof ∷ cl.Generic ∷ cl.Default ∷ cl.Case ∷ cl.If ∷ cl.Else ∷ cl.Switch ∷ cl.While ∷ cl.Do ∷ cl.For ∷ cl.Goto ∷ cl.Continue ∷ cl.Break ∷ cl.Return ∷ cl.StaticAssert ∷ cl.Typedef ∷ cl.Extern ∷ cl.Static ∷ cl.ThreadLocal ∷ cl.Auto ∷ cl.Register ∷ cl.Void ∷ cl.Char ∷ cl.Short ∷ cl.Int ∷ cl.Long ∷ cl.Float ∷ cl.Double ∷ cl.Signed ∷ cl.Unsigned ∷ cl.Bool ∷ cl.Struct ∷ cl.Union ∷ cl.Enum ∷ cl.Const ∷ cl.Restrict ∷ cl.Volatile ∷ cl.Atomic ∷ cl.AtomicParen ∷ cl.Inline ∷ cl.Noreturn ∷ cl.Alignas ∷ cl.Other ∷ []) (i 166 0 ∷ []) ∷
    -- 426: BlockItemList -> BlockItem . BlockItem*
    row (e Entry 426 ∷ []) (label ru.BlockItemList 0) None false None None false 425 false (cl.Ident ∷ cl.IdentColon ∷ cl.TypedefName ∷ cl.TypedefColon ∷ cl.Constant ∷ cl.String ∷ cl.LeftParen ∷ cl.TypeParen ∷ cl.LiteralParen ∷ cl.RightParen ∷ cl.LeftBracket ∷ cl.RightBracket ∷ cl.LeftBrace ∷ cl.Dot ∷ cl.Arrow ∷ cl.PlusPlus ∷ cl.MinusMinus ∷ cl.Ampersand ∷ cl.Star ∷ cl.StarBracket ∷ cl.Plus ∷ cl.Minus ∷ cl.Tilde ∷ cl.Bang ∷ cl.Slash ∷ cl.Percent ∷ cl.ShiftLeft ∷ cl.ShiftRight ∷ cl.Less ∷ cl.Greater ∷ cl.LessEqual ∷ cl.GreaterEqual ∷ cl.EqualEqual ∷ cl.BangEqual ∷ cl.Caret ∷ cl.Bar ∷ cl.AndAnd ∷ cl.OrOr ∷ cl.Question ∷ cl.Colon ∷ cl.Semicolon ∷ cl.Ellipsis ∷ cl.Comma ∷ cl.LastComma ∷ cl.DesignationComma ∷ cl.Equal ∷ cl.StarEqual ∷ cl.SlashEqual ∷ cl.PercentEqual ∷ cl.PlusEqual ∷ cl.MinusEqual ∷ cl.ShiftLeftEqual ∷ cl.ShiftRightEqual ∷ cl.AmpersandEqual ∷ cl.CaretEqual ∷ cl.BarEqual ∷ cl.Sizeof ∷ cl.Alignof ∷ cl.Generic ∷ cl.Default ∷ cl.Case ∷ cl.If ∷ cl.Else ∷ cl.Switch ∷ cl.While ∷ cl.Do ∷ cl.For ∷ cl.Goto ∷ cl.Continue ∷ cl.Break ∷ cl.Return ∷ cl.StaticAssert ∷ cl.Typedef ∷ cl.Extern ∷ cl.Static ∷ cl.ThreadLocal ∷ cl.Auto ∷ cl.Register ∷ cl.Void ∷ cl.Char ∷ cl.Short ∷ cl.Int ∷ cl.Long ∷ cl.Float ∷ cl.Double ∷ cl.Signed ∷ cl.Unsigned ∷ cl.Bool ∷ cl.Struct ∷ cl.Union ∷ cl.Enum ∷ cl.Const ∷ cl.Restrict ∷ cl.Volatile ∷ cl.Atomic ∷ cl.AtomicParen ∷ cl.Inline ∷ cl.Noreturn ∷ cl.Alignas ∷ cl.Other ∷ []) (i 166 1 ∷ []) ∷
    -- 427: ExpressionStatement -> . UnlabelledExpression? Semicolon
    row (e (Node nt.UnlabelledExpression) 428 ∷ e (Token (te.Is cl.Semicolon) ac.Stay) 429 ∷ []) None None false None None false 427 true [] (i 167 0 ∷ []) ∷
    -- 428: ExpressionStatement -> UnlabelledExpression? . Semicolon
    row (e (Token (te.Is cl.Semicolon) ac.Stay) 429 ∷ []) None None false None None false 427 true [] (i 167 1 ∷ []) ∷
    -- 429: ExpressionStatement -> UnlabelledExpression? Semicolon .
    row [] (label ru.ExpressionStatement 0) None false None None false 427 true [] (i 167 2 ∷ []) ∷
    -- 430: OpenSelectionStatement -> . If Open Expression RightParen ClosedStatement; OpenSelectionStatement -> . If Open Expression RightParen OpenStatement ..
    row (e (Token (te.Is cl.If) ac.Stay) 431 ∷ e (Token (te.Is cl.Switch) ac.Stay) 442 ∷ []) None None false None None false 430 false [] (i 168 0 ∷ i 169 0 ∷ i 170 0 ∷ i 171 0 ∷ i 172 0 ∷ i 173 0 ∷ []) ∷
    -- 431: OpenSelectionStatement -> If . Open Expression RightParen ClosedStatement; OpenSelectionStatement -> If . Open Expression RightParen OpenStatement ..
    row (e (Token te.Open ac.Stay) 432 ∷ []) None None false None None false 430 false [] (i 168 1 ∷ i 169 1 ∷ i 170 1 ∷ i 171 1 ∷ []) ∷
    -- 432: OpenSelectionStatement -> If Open . Expression RightParen ClosedStatement; OpenSelectionStatement -> If Open . Expression RightParen OpenStatement ..
    row (e (Node nt.Expression) 433 ∷ []) None None false None None false 430 false [] (i 168 2 ∷ i 169 2 ∷ i 170 2 ∷ i 171 2 ∷ []) ∷
    -- 433: OpenSelectionStatement -> If Open Expression . RightParen ClosedStatement; OpenSelectionStatement -> If Open Expression . RightParen OpenStatement ..
    row (e (Token (te.Is cl.RightParen) ac.Open) 434 ∷ []) None None false None None false 430 false [] (i 168 3 ∷ i 169 3 ∷ i 170 3 ∷ i 171 3 ∷ []) ∷
    -- 434: OpenSelectionStatement -> If Open Expression RightParen . ClosedStatement; OpenSelectionStatement -> If Open Expression RightParen . OpenStatement ..
    row (e (Node nt.Statement) 435 ∷ []) None None false None None false 430 false [] (i 168 4 ∷ i 169 4 ∷ i 170 4 ∷ i 171 4 ∷ []) ∷
    -- 435: a statement was read
    row [] None None false None (ways 436 437) false 430 false [] [] ∷
    -- 436: OpenSelectionStatement -> If Open Expression RightParen OpenStatement .
    row [] (label ru.SelectionStatement 0) None true None None true 430 false [] (i 169 5 ∷ []) ∷
    -- 437: OpenSelectionStatement -> If Open Expression RightParen ClosedStatement .; ClosedSelectionStatement -> If Open Expression RightParen ClosedStatement . Else ClosedStatement ..
    row (e (Token (te.Is cl.Else) ac.Close) 438 ∷ []) (label ru.SelectionStatement 0) (Some (te.Is cl.Else)) true None None true 430 false [] (i 168 5 ∷ i 170 5 ∷ i 171 5 ∷ []) ∷
    -- 438: ClosedSelectionStatement -> If Open Expression RightParen ClosedStatement Else . ClosedStatement; OpenSelectionStatement -> If Open Expression RightParen ClosedStatement Else . OpenStatement
    row (e (Node nt.Statement) 439 ∷ []) None None false None None false 430 false [] (i 170 6 ∷ i 171 6 ∷ []) ∷
    -- 439: a statement was read
    row [] None None false None (ways 440 441) false 430 false [] [] ∷
    -- 440: OpenSelectionStatement -> If Open Expression RightParen ClosedStatement Else OpenStatement .
    row [] (label ru.SelectionStatement 1) None true None None true 430 false [] (i 171 7 ∷ []) ∷
    -- 441: ClosedSelectionStatement -> If Open Expression RightParen ClosedStatement Else ClosedStatement .
    row [] (label ru.SelectionStatement 1) None true None None false 430 false [] (i 170 7 ∷ []) ∷
    -- 442: ClosedSelectionStatement -> Switch . Open Expression RightParen ClosedStatement; OpenSelectionStatement -> Switch . Open Expression RightParen OpenStatement
    row (e (Token te.Open ac.Stay) 443 ∷ []) None None false None None false 430 false [] (i 172 1 ∷ i 173 1 ∷ []) ∷
    -- 443: ClosedSelectionStatement -> Switch Open . Expression RightParen ClosedStatement; OpenSelectionStatement -> Switch Open . Expression RightParen OpenStatement
    row (e (Node nt.Expression) 444 ∷ []) None None false None None false 430 false [] (i 172 2 ∷ i 173 2 ∷ []) ∷
    -- 444: ClosedSelectionStatement -> Switch Open Expression . RightParen ClosedStatement; OpenSelectionStatement -> Switch Open Expression . RightParen OpenStatement
    row (e (Token (te.Is cl.RightParen) ac.Stay) 445 ∷ []) None None false None None false 430 false [] (i 172 3 ∷ i 173 3 ∷ []) ∷
    -- 445: ClosedSelectionStatement -> Switch Open Expression RightParen . ClosedStatement; OpenSelectionStatement -> Switch Open Expression RightParen . OpenStatement
    row (e (Node nt.Statement) 446 ∷ []) None None false None None false 430 false [] (i 172 4 ∷ i 173 4 ∷ []) ∷
    -- 446: a statement was read
    row [] None None false None (ways 447 448) false 430 false [] [] ∷
    -- 447: OpenSelectionStatement -> Switch Open Expression RightParen OpenStatement .
    row [] (label ru.SelectionStatement 2) None true None None true 430 false [] (i 173 5 ∷ []) ∷
    -- 448: ClosedSelectionStatement -> Switch Open Expression RightParen ClosedStatement .
    row [] (label ru.SelectionStatement 2) None true None None false 430 false [] (i 172 5 ∷ []) ∷
    -- 449: ClosedIterationStatement -> . Do Statement While Open Expression RightParen Semicolon; ClosedIterationStatement -> . While Open Expression RightParen ClosedStatement ..
    row (e (Token (te.Is cl.Do) ac.Open) 450 ∷ e (Token (te.Is cl.While) ac.Stay) 457 ∷ e (Token (te.Is cl.For) ac.Stay) 464 ∷ []) None None false None None false 449 false [] (i 174 0 ∷ i 175 0 ∷ i 176 0 ∷ i 177 0 ∷ i 178 0 ∷ i 179 0 ∷ i 180 0 ∷ []) ∷
    -- 450: ClosedIterationStatement -> Do . Statement While Open Expression RightParen Semicolon
    row (e (Node nt.Statement) 451 ∷ []) None None false None None false 449 false [] (i 174 1 ∷ []) ∷
    -- 451: ClosedIterationStatement -> Do Statement . While Open Expression RightParen Semicolon
    row (e (Token (te.Is cl.While) ac.Close) 452 ∷ []) None None false None None false 449 false [] (i 174 2 ∷ []) ∷
    -- 452: ClosedIterationStatement -> Do Statement While . Open Expression RightParen Semicolon
    row (e (Token te.Open ac.Stay) 453 ∷ []) None None false None None false 449 false [] (i 174 3 ∷ []) ∷
    -- 453: ClosedIterationStatement -> Do Statement While Open . Expression RightParen Semicolon
    row (e (Node nt.Expression) 454 ∷ []) None None false None None false 449 false [] (i 174 4 ∷ []) ∷
    -- 454: ClosedIterationStatement -> Do Statement While Open Expression . RightParen Semicolon
    row (e (Token (te.Is cl.RightParen) ac.Stay) 455 ∷ []) None None false None None false 449 false [] (i 174 5 ∷ []) ∷
    -- 455: ClosedIterationStatement -> Do Statement While Open Expression RightParen . Semicolon
    row (e (Token (te.Is cl.Semicolon) ac.Stay) 456 ∷ []) None None false None None false 449 false [] (i 174 6 ∷ []) ∷
    -- 456: ClosedIterationStatement -> Do Statement While Open Expression RightParen Semicolon .
    row [] (label ru.IterationStatement 1) None true None None false 449 false [] (i 174 7 ∷ []) ∷
    -- 457: ClosedIterationStatement -> While . Open Expression RightParen ClosedStatement; OpenIterationStatement -> While . Open Expression RightParen OpenStatement
    row (e (Token te.Open ac.Stay) 458 ∷ []) None None false None None false 449 false [] (i 175 1 ∷ i 178 1 ∷ []) ∷
    -- 458: ClosedIterationStatement -> While Open . Expression RightParen ClosedStatement; OpenIterationStatement -> While Open . Expression RightParen OpenStatement
    row (e (Node nt.Expression) 459 ∷ []) None None false None None false 449 false [] (i 175 2 ∷ i 178 2 ∷ []) ∷
    -- 459: ClosedIterationStatement -> While Open Expression . RightParen ClosedStatement; OpenIterationStatement -> While Open Expression . RightParen OpenStatement
    row (e (Token (te.Is cl.RightParen) ac.Stay) 460 ∷ []) None None false None None false 449 false [] (i 175 3 ∷ i 178 3 ∷ []) ∷
    -- 460: ClosedIterationStatement -> While Open Expression RightParen . ClosedStatement; OpenIterationStatement -> While Open Expression RightParen . OpenStatement
    row (e (Node nt.Statement) 461 ∷ []) None None false None None false 449 false [] (i 175 4 ∷ i 178 4 ∷ []) ∷
    -- 461: a statement was read
    row [] None None false None (ways 462 463) false 449 false [] [] ∷
    -- 462: OpenIterationStatement -> While Open Expression RightParen OpenStatement .
    row [] (label ru.IterationStatement 0) None true None None true 449 false [] (i 178 5 ∷ []) ∷
    -- 463: ClosedIterationStatement -> While Open Expression RightParen ClosedStatement .
    row [] (label ru.IterationStatement 0) None true None None false 449 false [] (i 175 5 ∷ []) ∷
    -- 464: ClosedIterationStatement -> For . Open PlainExpression? Semicolon Expression? Semicolon Expression? RightParen ClosedStatement; ClosedIterationStatement -> For . Open Declaration Expression? Semicolon Expression? RightParen ClosedStatement ..
    row (e (Token te.Open ac.Stay) 465 ∷ []) None None false None None false 449 false [] (i 176 1 ∷ i 177 1 ∷ i 179 1 ∷ i 180 1 ∷ []) ∷
    -- 465: ClosedIterationStatement -> For Open . PlainExpression? Semicolon Expression? Semicolon Expression? RightParen ClosedStatement; ClosedIterationStatement -> For Open . Declaration Expression? Semicolon Expression? RightParen ClosedStatement ..
    row (e (Node nt.PlainExpression) 466 ∷ e (Token (te.Is cl.Semicolon) ac.Stay) 467 ∷ e (Node nt.Declaration) 475 ∷ []) None None false None None false 449 false [] (i 176 2 ∷ i 177 2 ∷ i 179 2 ∷ i 180 2 ∷ []) ∷
    -- 466: ClosedIterationStatement -> For Open PlainExpression? . Semicolon Expression? Semicolon Expression? RightParen ClosedStatement; OpenIterationStatement -> For Open PlainExpression? . Semicolon Expression? Semicolon Expression? RightParen OpenStatement
    row (e (Token (te.Is cl.Semicolon) ac.Stay) 467 ∷ []) None None false None None false 449 false [] (i 176 3 ∷ i 179 3 ∷ []) ∷
    -- 467: ClosedIterationStatement -> For Open PlainExpression? Semicolon . Expression? Semicolon Expression? RightParen ClosedStatement; OpenIterationStatement -> For Open PlainExpression? Semicolon . Expression? Semicolon Expression? RightParen OpenStatement
    row (e (Node nt.Expression) 468 ∷ e (Token (te.Is cl.Semicolon) ac.Stay) 469 ∷ []) None None false None None false 449 false [] (i 176 4 ∷ i 179 4 ∷ []) ∷
    -- 468: ClosedIterationStatement -> For Open PlainExpression? Semicolon Expression? . Semicolon Expression? RightParen ClosedStatement; OpenIterationStatement -> For Open PlainExpression? Semicolon Expression? . Semicolon Expression? RightParen OpenStatement
    row (e (Token (te.Is cl.Semicolon) ac.Stay) 469 ∷ []) None None false None None false 449 false [] (i 176 5 ∷ i 179 5 ∷ []) ∷
    -- 469: ClosedIterationStatement -> For Open PlainExpression? Semicolon Expression? Semicolon . Expression? RightParen ClosedStatement; OpenIterationStatement -> For Open PlainExpression? Semicolon Expression? Semicolon . Expression? RightParen OpenStatement
    row (e (Node nt.Expression) 470 ∷ e (Token (te.Is cl.RightParen) ac.Stay) 471 ∷ []) None None false None None false 449 false [] (i 176 6 ∷ i 179 6 ∷ []) ∷
    -- 470: ClosedIterationStatement -> For Open PlainExpression? Semicolon Expression? Semicolon Expression? . RightParen ClosedStatement; OpenIterationStatement -> For Open PlainExpression? Semicolon Expression? Semicolon Expression? . RightParen OpenStatement
    row (e (Token (te.Is cl.RightParen) ac.Stay) 471 ∷ []) None None false None None false 449 false [] (i 176 7 ∷ i 179 7 ∷ []) ∷
    -- 471: ClosedIterationStatement -> For Open PlainExpression? Semicolon Expression? Semicolon Expression? RightParen . ClosedStatement; OpenIterationStatement -> For Open PlainExpression? Semicolon Expression? Semicolon Expression? RightParen . OpenStatement
    row (e (Node nt.Statement) 472 ∷ []) None None false None None false 449 false [] (i 176 8 ∷ i 179 8 ∷ []) ∷
    -- 472: a statement was read
    row [] None None false None (ways 473 474) false 449 false [] [] ∷
    -- 473: OpenIterationStatement -> For Open PlainExpression? Semicolon Expression? Semicolon Expression? RightParen OpenStatement .
    row [] (label ru.IterationStatement 2) None true None None true 449 false [] (i 179 9 ∷ []) ∷
    -- 474: ClosedIterationStatement -> For Open PlainExpression? Semicolon Expression? Semicolon Expression? RightParen ClosedStatement .
    row [] (label ru.IterationStatement 2) None true None None false 449 false [] (i 176 9 ∷ []) ∷
    -- 475: ClosedIterationStatement -> For Open Declaration . Expression? Semicolon Expression? RightParen ClosedStatement; OpenIterationStatement -> For Open Declaration . Expression? Semicolon Expression? RightParen OpenStatement
    row (e (Node nt.Expression) 476 ∷ e (Token (te.Is cl.Semicolon) ac.Stay) 477 ∷ []) None None false None None false 449 false [] (i 177 3 ∷ i 180 3 ∷ []) ∷
    -- 476: ClosedIterationStatement -> For Open Declaration Expression? . Semicolon Expression? RightParen ClosedStatement; OpenIterationStatement -> For Open Declaration Expression? . Semicolon Expression? RightParen OpenStatement
    row (e (Token (te.Is cl.Semicolon) ac.Stay) 477 ∷ []) None None false None None false 449 false [] (i 177 4 ∷ i 180 4 ∷ []) ∷
    -- 477: ClosedIterationStatement -> For Open Declaration Expression? Semicolon . Expression? RightParen ClosedStatement; OpenIterationStatement -> For Open Declaration Expression? Semicolon . Expression? RightParen OpenStatement
    row (e (Node nt.Expression) 478 ∷ e (Token (te.Is cl.RightParen) ac.Stay) 479 ∷ []) None None false None None false 449 false [] (i 177 5 ∷ i 180 5 ∷ []) ∷
    -- 478: ClosedIterationStatement -> For Open Declaration Expression? Semicolon Expression? . RightParen ClosedStatement; OpenIterationStatement -> For Open Declaration Expression? Semicolon Expression? . RightParen OpenStatement
    row (e (Token (te.Is cl.RightParen) ac.Stay) 479 ∷ []) None None false None None false 449 false [] (i 177 6 ∷ i 180 6 ∷ []) ∷
    -- 479: ClosedIterationStatement -> For Open Declaration Expression? Semicolon Expression? RightParen . ClosedStatement; OpenIterationStatement -> For Open Declaration Expression? Semicolon Expression? RightParen . OpenStatement
    row (e (Node nt.Statement) 480 ∷ []) None None false None None false 449 false [] (i 177 7 ∷ i 180 7 ∷ []) ∷
    -- 480: a statement was read
    row [] None None false None (ways 481 482) false 449 false [] [] ∷
    -- 481: OpenIterationStatement -> For Open Declaration Expression? Semicolon Expression? RightParen OpenStatement .
    row [] (label ru.IterationStatement 3) None true None None true 449 false [] (i 180 8 ∷ []) ∷
    -- 482: ClosedIterationStatement -> For Open Declaration Expression? Semicolon Expression? RightParen ClosedStatement .
    row [] (label ru.IterationStatement 3) None true None None false 449 false [] (i 177 8 ∷ []) ∷
    -- 483: JumpStatement -> . Goto Name Semicolon; JumpStatement -> . Continue Semicolon ..
    row (e (Token (te.Is cl.Goto) ac.Stay) 484 ∷ e (Token (te.Is cl.Continue) ac.Stay) 487 ∷ e (Token (te.Is cl.Break) ac.Stay) 489 ∷ e (Token (te.Is cl.Return) ac.Stay) 491 ∷ []) None None false None None false 483 true [] (i 181 0 ∷ i 182 0 ∷ i 183 0 ∷ i 184 0 ∷ []) ∷
    -- 484: JumpStatement -> Goto . Name Semicolon
    row (e (Token te.Name ac.Stay) 485 ∷ []) None None false None None false 483 true [] (i 181 1 ∷ []) ∷
    -- 485: JumpStatement -> Goto Name . Semicolon
    row (e (Token (te.Is cl.Semicolon) ac.Stay) 486 ∷ []) None None false None None false 483 true [] (i 181 2 ∷ []) ∷
    -- 486: JumpStatement -> Goto Name Semicolon .
    row [] (label ru.JumpStatement 0) None false None None false 483 true [] (i 181 3 ∷ []) ∷
    -- 487: JumpStatement -> Continue . Semicolon
    row (e (Token (te.Is cl.Semicolon) ac.Stay) 488 ∷ []) None None false None None false 483 true [] (i 182 1 ∷ []) ∷
    -- 488: JumpStatement -> Continue Semicolon .
    row [] (label ru.JumpStatement 1) None false None None false 483 true [] (i 182 2 ∷ []) ∷
    -- 489: JumpStatement -> Break . Semicolon
    row (e (Token (te.Is cl.Semicolon) ac.Stay) 490 ∷ []) None None false None None false 483 true [] (i 183 1 ∷ []) ∷
    -- 490: JumpStatement -> Break Semicolon .
    row [] (label ru.JumpStatement 2) None false None None false 483 true [] (i 183 2 ∷ []) ∷
    -- 491: JumpStatement -> Return . Expression? Semicolon
    row (e (Node nt.Expression) 492 ∷ e (Token (te.Is cl.Semicolon) ac.Stay) 493 ∷ []) None None false None None false 483 true [] (i 184 1 ∷ []) ∷
    -- 492: JumpStatement -> Return Expression? . Semicolon
    row (e (Token (te.Is cl.Semicolon) ac.Stay) 493 ∷ []) None None false None None false 483 true [] (i 184 2 ∷ []) ∷
    -- 493: JumpStatement -> Return Expression? Semicolon .
    row [] (label ru.JumpStatement 3) None false None None false 483 true [] (i 184 3 ∷ []) ∷
    -- 494: BlockExpressionStatement -> . PlainExpression? Semicolon
    row (e (Node nt.PlainExpression) 495 ∷ e (Token (te.Is cl.Semicolon) ac.Stay) 496 ∷ []) None None false None None false 494 true [] (i 185 0 ∷ []) ∷
    -- 495: BlockExpressionStatement -> PlainExpression? . Semicolon
    row (e (Token (te.Is cl.Semicolon) ac.Stay) 496 ∷ []) None None false None None false 494 true [] (i 185 1 ∷ []) ∷
    -- 496: BlockExpressionStatement -> PlainExpression? Semicolon .
    row [] (label ru.ExpressionStatement 0) None false None None false 494 true [] (i 185 2 ∷ []) ∷
    -- 497: BlockDeclaration -> . BlockSpecifiers InitDeclaratorList? Semicolon
    row (e (Node nt.BlockSpecifiers) 498 ∷ []) None None false None None false 497 true [] (i 186 0 ∷ []) ∷
    -- 498: BlockDeclaration -> BlockSpecifiers . InitDeclaratorList? Semicolon
    row (e (Node nt.InitDeclaratorList) 499 ∷ e (Token (te.Is cl.Semicolon) ac.Finish) 500 ∷ []) None None false None None false 497 true [] (i 186 1 ∷ []) ∷
    -- 499: BlockDeclaration -> BlockSpecifiers InitDeclaratorList? . Semicolon
    row (e (Token (te.Is cl.Semicolon) ac.Finish) 500 ∷ []) None None false None None false 497 true [] (i 186 2 ∷ []) ∷
    -- 500: BlockDeclaration -> BlockSpecifiers InitDeclaratorList? Semicolon .
    row [] (label ru.Declaration 0) None false None None false 497 true [] (i 186 3 ∷ []) ∷
    -- 501: FunctionDefinition -> . DeclarationSpecifiers Declarator FunctionBody
    row (e (Node nt.DeclarationSpecifiers) 502 ∷ []) None None false None None false 501 false [] (i 187 0 ∷ []) ∷
    -- 502: FunctionDefinition -> DeclarationSpecifiers . Declarator FunctionBody
    row (e (Node nt.Declarator) 503 ∷ []) None None false None None false 501 false [] (i 187 1 ∷ []) ∷
    -- 503: FunctionDefinition -> DeclarationSpecifiers Declarator . FunctionBody
    row (e (Node nt.FunctionBody) 504 ∷ []) None None false None None false 501 false [] (i 187 2 ∷ []) ∷
    -- 504: FunctionDefinition -> DeclarationSpecifiers Declarator FunctionBody .
    row [] (label ru.FunctionDefinition 0) None false None None false 501 false [] (i 187 3 ∷ []) ∷
    -- 505: FunctionBody -> . LeftBrace BlockItemList? RightBrace
    row (e (Token (te.Is cl.LeftBrace) ac.Begin) 506 ∷ []) None None false None None false 505 false [] (i 188 0 ∷ []) ∷
    -- 506: FunctionBody -> LeftBrace . BlockItemList? RightBrace
    row (e (Node nt.BlockItemList) 507 ∷ e (Token (te.Is cl.RightBrace) ac.Close) 508 ∷ []) None None false None None false 505 false [] (i 188 1 ∷ []) ∷
    -- 507: FunctionBody -> LeftBrace BlockItemList? . RightBrace
    row (e (Token (te.Is cl.RightBrace) ac.Close) 508 ∷ []) None None false None None false 505 false [] (i 188 2 ∷ []) ∷
    -- 508: FunctionBody -> LeftBrace BlockItemList? RightBrace .
    row [] (label ru.CompoundStatement 0) None false None None false 505 false [] (i 188 3 ∷ []) ∷
    []

unfoldable pub goals : List Goal
goals =
    -- PrimaryExpression
    record { kinds = (14 ∷ 2 ∷ 3 ∷ 4 ∷ 7 ∷ []); openers = (8 ∷ 1 ∷ []); suffixes = []; firsts = (cl.Ident ∷ cl.IdentColon ∷ cl.TypedefName ∷ cl.TypedefColon ∷ cl.Constant ∷ cl.String ∷ cl.LeftParen ∷ cl.Generic ∷ []); goes = (cl.String ∷ []); shuns = None; flat = true } ∷
    -- GenericSelection
    record { kinds = (14 ∷ []); openers = (8 ∷ []); suffixes = []; firsts = (cl.Generic ∷ []); goes = []; shuns = None; flat = true } ∷
    -- GenericAssocList
    record { kinds = (16 ∷ []); openers = (15 ∷ []); suffixes = []; firsts = (cl.TypedefName ∷ cl.TypedefColon ∷ cl.Default ∷ cl.Void ∷ cl.Char ∷ cl.Short ∷ cl.Int ∷ cl.Long ∷ cl.Float ∷ cl.Double ∷ cl.Signed ∷ cl.Unsigned ∷ cl.Bool ∷ cl.Struct ∷ cl.Union ∷ cl.Enum ∷ cl.Const ∷ cl.Restrict ∷ cl.Volatile ∷ cl.Atomic ∷ cl.AtomicParen ∷ []); goes = (cl.String ∷ cl.LeftParen ∷ cl.TypeParen ∷ cl.LiteralParen ∷ cl.LeftBracket ∷ cl.Dot ∷ cl.Arrow ∷ cl.PlusPlus ∷ cl.MinusMinus ∷ cl.Ampersand ∷ cl.Star ∷ cl.Plus ∷ cl.Minus ∷ cl.Slash ∷ cl.Percent ∷ cl.ShiftLeft ∷ cl.ShiftRight ∷ cl.Less ∷ cl.Greater ∷ cl.LessEqual ∷ cl.GreaterEqual ∷ cl.EqualEqual ∷ cl.BangEqual ∷ cl.Caret ∷ cl.Bar ∷ cl.AndAnd ∷ cl.OrOr ∷ cl.Question ∷ cl.Comma ∷ cl.Equal ∷ cl.StarEqual ∷ cl.SlashEqual ∷ cl.PercentEqual ∷ cl.PlusEqual ∷ cl.MinusEqual ∷ cl.ShiftLeftEqual ∷ cl.ShiftRightEqual ∷ cl.AmpersandEqual ∷ cl.CaretEqual ∷ cl.BarEqual ∷ []); shuns = None; flat = true } ∷
    -- GenericAssociation
    record { kinds = (20 ∷ 23 ∷ []); openers = (17 ∷ []); suffixes = []; firsts = (cl.TypedefName ∷ cl.TypedefColon ∷ cl.Default ∷ cl.Void ∷ cl.Char ∷ cl.Short ∷ cl.Int ∷ cl.Long ∷ cl.Float ∷ cl.Double ∷ cl.Signed ∷ cl.Unsigned ∷ cl.Bool ∷ cl.Struct ∷ cl.Union ∷ cl.Enum ∷ cl.Const ∷ cl.Restrict ∷ cl.Volatile ∷ cl.Atomic ∷ cl.AtomicParen ∷ []); goes = (cl.String ∷ cl.LeftParen ∷ cl.TypeParen ∷ cl.LiteralParen ∷ cl.LeftBracket ∷ cl.Dot ∷ cl.Arrow ∷ cl.PlusPlus ∷ cl.MinusMinus ∷ cl.Ampersand ∷ cl.Star ∷ cl.Plus ∷ cl.Minus ∷ cl.Slash ∷ cl.Percent ∷ cl.ShiftLeft ∷ cl.ShiftRight ∷ cl.Less ∷ cl.Greater ∷ cl.LessEqual ∷ cl.GreaterEqual ∷ cl.EqualEqual ∷ cl.BangEqual ∷ cl.Caret ∷ cl.Bar ∷ cl.AndAnd ∷ cl.OrOr ∷ cl.Question ∷ cl.Equal ∷ cl.StarEqual ∷ cl.SlashEqual ∷ cl.PercentEqual ∷ cl.PlusEqual ∷ cl.MinusEqual ∷ cl.ShiftLeftEqual ∷ cl.ShiftRightEqual ∷ cl.AmpersandEqual ∷ cl.CaretEqual ∷ cl.BarEqual ∷ []); shuns = None; flat = true } ∷
    -- PostfixExpression
    record { kinds = (14 ∷ 2 ∷ 3 ∷ 4 ∷ 7 ∷ 28 ∷ 31 ∷ 33 ∷ 35 ∷ 36 ∷ 37 ∷ 44 ∷ 46 ∷ []); openers = (8 ∷ 1 ∷ 38 ∷ []); suffixes = (24 ∷ []); firsts = (cl.Ident ∷ cl.IdentColon ∷ cl.TypedefName ∷ cl.TypedefColon ∷ cl.Constant ∷ cl.String ∷ cl.LeftParen ∷ cl.LiteralParen ∷ cl.Generic ∷ []); goes = (cl.String ∷ cl.LeftParen ∷ cl.TypeParen ∷ cl.LiteralParen ∷ cl.LeftBracket ∷ cl.Dot ∷ cl.Arrow ∷ cl.PlusPlus ∷ cl.MinusMinus ∷ []); shuns = None; flat = true } ∷
    -- ArgumentExpressionList
    record { kinds = (48 ∷ []); openers = (47 ∷ []); suffixes = []; firsts = (cl.Ident ∷ cl.IdentColon ∷ cl.TypedefName ∷ cl.TypedefColon ∷ cl.Constant ∷ cl.String ∷ cl.LeftParen ∷ cl.TypeParen ∷ cl.LiteralParen ∷ cl.PlusPlus ∷ cl.MinusMinus ∷ cl.Ampersand ∷ cl.Star ∷ cl.Plus ∷ cl.Minus ∷ cl.Tilde ∷ cl.Bang ∷ cl.Sizeof ∷ cl.Alignof ∷ cl.Generic ∷ []); goes = (cl.String ∷ cl.LeftParen ∷ cl.TypeParen ∷ cl.LiteralParen ∷ cl.LeftBracket ∷ cl.Dot ∷ cl.Arrow ∷ cl.PlusPlus ∷ cl.MinusMinus ∷ cl.Ampersand ∷ cl.Star ∷ cl.Plus ∷ cl.Minus ∷ cl.Slash ∷ cl.Percent ∷ cl.ShiftLeft ∷ cl.ShiftRight ∷ cl.Less ∷ cl.Greater ∷ cl.LessEqual ∷ cl.GreaterEqual ∷ cl.EqualEqual ∷ cl.BangEqual ∷ cl.Caret ∷ cl.Bar ∷ cl.AndAnd ∷ cl.OrOr ∷ cl.Question ∷ cl.Comma ∷ cl.Equal ∷ cl.StarEqual ∷ cl.SlashEqual ∷ cl.PercentEqual ∷ cl.PlusEqual ∷ cl.MinusEqual ∷ cl.ShiftLeftEqual ∷ cl.ShiftRightEqual ∷ cl.AmpersandEqual ∷ cl.CaretEqual ∷ cl.BarEqual ∷ []); shuns = None; flat = true } ∷
    -- UnaryExpression
    record { kinds = (14 ∷ 2 ∷ 3 ∷ 4 ∷ 7 ∷ 28 ∷ 31 ∷ 33 ∷ 35 ∷ 36 ∷ 37 ∷ 44 ∷ 46 ∷ 51 ∷ 53 ∷ 55 ∷ 57 ∷ 60 ∷ 64 ∷ []); openers = (8 ∷ 1 ∷ 38 ∷ 49 ∷ []); suffixes = (24 ∷ []); firsts = (cl.Ident ∷ cl.IdentColon ∷ cl.TypedefName ∷ cl.TypedefColon ∷ cl.Constant ∷ cl.String ∷ cl.LeftParen ∷ cl.LiteralParen ∷ cl.PlusPlus ∷ cl.MinusMinus ∷ cl.Ampersand ∷ cl.Star ∷ cl.Plus ∷ cl.Minus ∷ cl.Tilde ∷ cl.Bang ∷ cl.Sizeof ∷ cl.Alignof ∷ cl.Generic ∷ []); goes = (cl.String ∷ cl.LeftParen ∷ cl.TypeParen ∷ cl.LiteralParen ∷ cl.LeftBracket ∷ cl.Dot ∷ cl.Arrow ∷ cl.PlusPlus ∷ cl.MinusMinus ∷ []); shuns = None; flat = true } ∷
    -- UnaryOperator
    record { kinds = (66 ∷ 67 ∷ 68 ∷ 69 ∷ 70 ∷ 71 ∷ []); openers = (65 ∷ []); suffixes = []; firsts = (cl.Ampersand ∷ cl.Star ∷ cl.Plus ∷ cl.Minus ∷ cl.Tilde ∷ cl.Bang ∷ []); goes = []; shuns = None; flat = true } ∷
    -- CastExpression
    record { kinds = (14 ∷ 2 ∷ 3 ∷ 4 ∷ 7 ∷ 28 ∷ 31 ∷ 33 ∷ 35 ∷ 36 ∷ 37 ∷ 44 ∷ 46 ∷ 51 ∷ 53 ∷ 55 ∷ 57 ∷ 60 ∷ 64 ∷ 76 ∷ []); openers = (8 ∷ 1 ∷ 38 ∷ 49 ∷ 72 ∷ []); suffixes = (24 ∷ []); firsts = (cl.Ident ∷ cl.IdentColon ∷ cl.TypedefName ∷ cl.TypedefColon ∷ cl.Constant ∷ cl.String ∷ cl.LeftParen ∷ cl.TypeParen ∷ cl.LiteralParen ∷ cl.PlusPlus ∷ cl.MinusMinus ∷ cl.Ampersand ∷ cl.Star ∷ cl.Plus ∷ cl.Minus ∷ cl.Tilde ∷ cl.Bang ∷ cl.Sizeof ∷ cl.Alignof ∷ cl.Generic ∷ []); goes = (cl.String ∷ cl.LeftParen ∷ cl.TypeParen ∷ cl.LiteralParen ∷ cl.LeftBracket ∷ cl.Dot ∷ cl.Arrow ∷ cl.PlusPlus ∷ cl.MinusMinus ∷ []); shuns = None; flat = true } ∷
    -- MultiplicativeExpression
    record { kinds = (14 ∷ 2 ∷ 3 ∷ 4 ∷ 7 ∷ 28 ∷ 31 ∷ 33 ∷ 35 ∷ 36 ∷ 37 ∷ 44 ∷ 46 ∷ 51 ∷ 53 ∷ 55 ∷ 57 ∷ 60 ∷ 64 ∷ 76 ∷ 80 ∷ 82 ∷ 84 ∷ []); openers = (8 ∷ 1 ∷ 38 ∷ 49 ∷ 72 ∷ []); suffixes = (24 ∷ 77 ∷ []); firsts = (cl.Ident ∷ cl.IdentColon ∷ cl.TypedefName ∷ cl.TypedefColon ∷ cl.Constant ∷ cl.String ∷ cl.LeftParen ∷ cl.TypeParen ∷ cl.LiteralParen ∷ cl.PlusPlus ∷ cl.MinusMinus ∷ cl.Ampersand ∷ cl.Star ∷ cl.Plus ∷ cl.Minus ∷ cl.Tilde ∷ cl.Bang ∷ cl.Sizeof ∷ cl.Alignof ∷ cl.Generic ∷ []); goes = (cl.String ∷ cl.LeftParen ∷ cl.TypeParen ∷ cl.LiteralParen ∷ cl.LeftBracket ∷ cl.Dot ∷ cl.Arrow ∷ cl.PlusPlus ∷ cl.MinusMinus ∷ cl.Star ∷ cl.Slash ∷ cl.Percent ∷ []); shuns = None; flat = true } ∷
    -- AdditiveExpression
    record { kinds = (14 ∷ 2 ∷ 3 ∷ 4 ∷ 7 ∷ 28 ∷ 31 ∷ 33 ∷ 35 ∷ 36 ∷ 37 ∷ 44 ∷ 46 ∷ 51 ∷ 53 ∷ 55 ∷ 57 ∷ 60 ∷ 64 ∷ 76 ∷ 80 ∷ 82 ∷ 84 ∷ 88 ∷ 90 ∷ []); openers = (8 ∷ 1 ∷ 38 ∷ 49 ∷ 72 ∷ []); suffixes = (24 ∷ 77 ∷ 85 ∷ []); firsts = (cl.Ident ∷ cl.IdentColon ∷ cl.TypedefName ∷ cl.TypedefColon ∷ cl.Constant ∷ cl.String ∷ cl.LeftParen ∷ cl.TypeParen ∷ cl.LiteralParen ∷ cl.PlusPlus ∷ cl.MinusMinus ∷ cl.Ampersand ∷ cl.Star ∷ cl.Plus ∷ cl.Minus ∷ cl.Tilde ∷ cl.Bang ∷ cl.Sizeof ∷ cl.Alignof ∷ cl.Generic ∷ []); goes = (cl.String ∷ cl.LeftParen ∷ cl.TypeParen ∷ cl.LiteralParen ∷ cl.LeftBracket ∷ cl.Dot ∷ cl.Arrow ∷ cl.PlusPlus ∷ cl.MinusMinus ∷ cl.Star ∷ cl.Plus ∷ cl.Minus ∷ cl.Slash ∷ cl.Percent ∷ []); shuns = None; flat = true } ∷
    -- ShiftExpression
    record { kinds = (14 ∷ 2 ∷ 3 ∷ 4 ∷ 7 ∷ 28 ∷ 31 ∷ 33 ∷ 35 ∷ 36 ∷ 37 ∷ 44 ∷ 46 ∷ 51 ∷ 53 ∷ 55 ∷ 57 ∷ 60 ∷ 64 ∷ 76 ∷ 80 ∷ 82 ∷ 84 ∷ 88 ∷ 90 ∷ 94 ∷ 96 ∷ []); openers = (8 ∷ 1 ∷ 38 ∷ 49 ∷ 72 ∷ []); suffixes = (24 ∷ 77 ∷ 85 ∷ 91 ∷ []); firsts = (cl.Ident ∷ cl.IdentColon ∷ cl.TypedefName ∷ cl.TypedefColon ∷ cl.Constant ∷ cl.String ∷ cl.LeftParen ∷ cl.TypeParen ∷ cl.LiteralParen ∷ cl.PlusPlus ∷ cl.MinusMinus ∷ cl.Ampersand ∷ cl.Star ∷ cl.Plus ∷ cl.Minus ∷ cl.Tilde ∷ cl.Bang ∷ cl.Sizeof ∷ cl.Alignof ∷ cl.Generic ∷ []); goes = (cl.String ∷ cl.LeftParen ∷ cl.TypeParen ∷ cl.LiteralParen ∷ cl.LeftBracket ∷ cl.Dot ∷ cl.Arrow ∷ cl.PlusPlus ∷ cl.MinusMinus ∷ cl.Star ∷ cl.Plus ∷ cl.Minus ∷ cl.Slash ∷ cl.Percent ∷ cl.ShiftLeft ∷ cl.ShiftRight ∷ []); shuns = None; flat = true } ∷
    -- RelationalExpression
    record { kinds = (14 ∷ 2 ∷ 3 ∷ 4 ∷ 7 ∷ 28 ∷ 31 ∷ 33 ∷ 35 ∷ 36 ∷ 37 ∷ 44 ∷ 46 ∷ 51 ∷ 53 ∷ 55 ∷ 57 ∷ 60 ∷ 64 ∷ 76 ∷ 80 ∷ 82 ∷ 84 ∷ 88 ∷ 90 ∷ 94 ∷ 96 ∷ 100 ∷ 102 ∷ 104 ∷ 106 ∷ []); openers = (8 ∷ 1 ∷ 38 ∷ 49 ∷ 72 ∷ []); suffixes = (24 ∷ 77 ∷ 85 ∷ 91 ∷ 97 ∷ []); firsts = (cl.Ident ∷ cl.IdentColon ∷ cl.TypedefName ∷ cl.TypedefColon ∷ cl.Constant ∷ cl.String ∷ cl.LeftParen ∷ cl.TypeParen ∷ cl.LiteralParen ∷ cl.PlusPlus ∷ cl.MinusMinus ∷ cl.Ampersand ∷ cl.Star ∷ cl.Plus ∷ cl.Minus ∷ cl.Tilde ∷ cl.Bang ∷ cl.Sizeof ∷ cl.Alignof ∷ cl.Generic ∷ []); goes = (cl.String ∷ cl.LeftParen ∷ cl.TypeParen ∷ cl.LiteralParen ∷ cl.LeftBracket ∷ cl.Dot ∷ cl.Arrow ∷ cl.PlusPlus ∷ cl.MinusMinus ∷ cl.Star ∷ cl.Plus ∷ cl.Minus ∷ cl.Slash ∷ cl.Percent ∷ cl.ShiftLeft ∷ cl.ShiftRight ∷ cl.Less ∷ cl.Greater ∷ cl.LessEqual ∷ cl.GreaterEqual ∷ []); shuns = None; flat = true } ∷
    -- EqualityExpression
    record { kinds = (14 ∷ 2 ∷ 3 ∷ 4 ∷ 7 ∷ 28 ∷ 31 ∷ 33 ∷ 35 ∷ 36 ∷ 37 ∷ 44 ∷ 46 ∷ 51 ∷ 53 ∷ 55 ∷ 57 ∷ 60 ∷ 64 ∷ 76 ∷ 80 ∷ 82 ∷ 84 ∷ 88 ∷ 90 ∷ 94 ∷ 96 ∷ 100 ∷ 102 ∷ 104 ∷ 106 ∷ 110 ∷ 112 ∷ []); openers = (8 ∷ 1 ∷ 38 ∷ 49 ∷ 72 ∷ []); suffixes = (24 ∷ 77 ∷ 85 ∷ 91 ∷ 97 ∷ 107 ∷ []); firsts = (cl.Ident ∷ cl.IdentColon ∷ cl.TypedefName ∷ cl.TypedefColon ∷ cl.Constant ∷ cl.String ∷ cl.LeftParen ∷ cl.TypeParen ∷ cl.LiteralParen ∷ cl.PlusPlus ∷ cl.MinusMinus ∷ cl.Ampersand ∷ cl.Star ∷ cl.Plus ∷ cl.Minus ∷ cl.Tilde ∷ cl.Bang ∷ cl.Sizeof ∷ cl.Alignof ∷ cl.Generic ∷ []); goes = (cl.String ∷ cl.LeftParen ∷ cl.TypeParen ∷ cl.LiteralParen ∷ cl.LeftBracket ∷ cl.Dot ∷ cl.Arrow ∷ cl.PlusPlus ∷ cl.MinusMinus ∷ cl.Star ∷ cl.Plus ∷ cl.Minus ∷ cl.Slash ∷ cl.Percent ∷ cl.ShiftLeft ∷ cl.ShiftRight ∷ cl.Less ∷ cl.Greater ∷ cl.LessEqual ∷ cl.GreaterEqual ∷ cl.EqualEqual ∷ cl.BangEqual ∷ []); shuns = None; flat = true } ∷
    -- AndExpression
    record { kinds = (14 ∷ 2 ∷ 3 ∷ 4 ∷ 7 ∷ 28 ∷ 31 ∷ 33 ∷ 35 ∷ 36 ∷ 37 ∷ 44 ∷ 46 ∷ 51 ∷ 53 ∷ 55 ∷ 57 ∷ 60 ∷ 64 ∷ 76 ∷ 80 ∷ 82 ∷ 84 ∷ 88 ∷ 90 ∷ 94 ∷ 96 ∷ 100 ∷ 102 ∷ 104 ∷ 106 ∷ 110 ∷ 112 ∷ 116 ∷ []); openers = (8 ∷ 1 ∷ 38 ∷ 49 ∷ 72 ∷ []); suffixes = (24 ∷ 77 ∷ 85 ∷ 91 ∷ 97 ∷ 107 ∷ 113 ∷ []); firsts = (cl.Ident ∷ cl.IdentColon ∷ cl.TypedefName ∷ cl.TypedefColon ∷ cl.Constant ∷ cl.String ∷ cl.LeftParen ∷ cl.TypeParen ∷ cl.LiteralParen ∷ cl.PlusPlus ∷ cl.MinusMinus ∷ cl.Ampersand ∷ cl.Star ∷ cl.Plus ∷ cl.Minus ∷ cl.Tilde ∷ cl.Bang ∷ cl.Sizeof ∷ cl.Alignof ∷ cl.Generic ∷ []); goes = (cl.String ∷ cl.LeftParen ∷ cl.TypeParen ∷ cl.LiteralParen ∷ cl.LeftBracket ∷ cl.Dot ∷ cl.Arrow ∷ cl.PlusPlus ∷ cl.MinusMinus ∷ cl.Ampersand ∷ cl.Star ∷ cl.Plus ∷ cl.Minus ∷ cl.Slash ∷ cl.Percent ∷ cl.ShiftLeft ∷ cl.ShiftRight ∷ cl.Less ∷ cl.Greater ∷ cl.LessEqual ∷ cl.GreaterEqual ∷ cl.EqualEqual ∷ cl.BangEqual ∷ []); shuns = None; flat = true } ∷
    -- ExclusiveOrExpression
    record { kinds = (14 ∷ 2 ∷ 3 ∷ 4 ∷ 7 ∷ 28 ∷ 31 ∷ 33 ∷ 35 ∷ 36 ∷ 37 ∷ 44 ∷ 46 ∷ 51 ∷ 53 ∷ 55 ∷ 57 ∷ 60 ∷ 64 ∷ 76 ∷ 80 ∷ 82 ∷ 84 ∷ 88 ∷ 90 ∷ 94 ∷ 96 ∷ 100 ∷ 102 ∷ 104 ∷ 106 ∷ 110 ∷ 112 ∷ 116 ∷ 120 ∷ []); openers = (8 ∷ 1 ∷ 38 ∷ 49 ∷ 72 ∷ []); suffixes = (24 ∷ 77 ∷ 85 ∷ 91 ∷ 97 ∷ 107 ∷ 113 ∷ 117 ∷ []); firsts = (cl.Ident ∷ cl.IdentColon ∷ cl.TypedefName ∷ cl.TypedefColon ∷ cl.Constant ∷ cl.String ∷ cl.LeftParen ∷ cl.TypeParen ∷ cl.LiteralParen ∷ cl.PlusPlus ∷ cl.MinusMinus ∷ cl.Ampersand ∷ cl.Star ∷ cl.Plus ∷ cl.Minus ∷ cl.Tilde ∷ cl.Bang ∷ cl.Sizeof ∷ cl.Alignof ∷ cl.Generic ∷ []); goes = (cl.String ∷ cl.LeftParen ∷ cl.TypeParen ∷ cl.LiteralParen ∷ cl.LeftBracket ∷ cl.Dot ∷ cl.Arrow ∷ cl.PlusPlus ∷ cl.MinusMinus ∷ cl.Ampersand ∷ cl.Star ∷ cl.Plus ∷ cl.Minus ∷ cl.Slash ∷ cl.Percent ∷ cl.ShiftLeft ∷ cl.ShiftRight ∷ cl.Less ∷ cl.Greater ∷ cl.LessEqual ∷ cl.GreaterEqual ∷ cl.EqualEqual ∷ cl.BangEqual ∷ cl.Caret ∷ []); shuns = None; flat = true } ∷
    -- InclusiveOrExpression
    record { kinds = (14 ∷ 2 ∷ 3 ∷ 4 ∷ 7 ∷ 28 ∷ 31 ∷ 33 ∷ 35 ∷ 36 ∷ 37 ∷ 44 ∷ 46 ∷ 51 ∷ 53 ∷ 55 ∷ 57 ∷ 60 ∷ 64 ∷ 76 ∷ 80 ∷ 82 ∷ 84 ∷ 88 ∷ 90 ∷ 94 ∷ 96 ∷ 100 ∷ 102 ∷ 104 ∷ 106 ∷ 110 ∷ 112 ∷ 116 ∷ 120 ∷ 124 ∷ []); openers = (8 ∷ 1 ∷ 38 ∷ 49 ∷ 72 ∷ []); suffixes = (24 ∷ 77 ∷ 85 ∷ 91 ∷ 97 ∷ 107 ∷ 113 ∷ 117 ∷ 121 ∷ []); firsts = (cl.Ident ∷ cl.IdentColon ∷ cl.TypedefName ∷ cl.TypedefColon ∷ cl.Constant ∷ cl.String ∷ cl.LeftParen ∷ cl.TypeParen ∷ cl.LiteralParen ∷ cl.PlusPlus ∷ cl.MinusMinus ∷ cl.Ampersand ∷ cl.Star ∷ cl.Plus ∷ cl.Minus ∷ cl.Tilde ∷ cl.Bang ∷ cl.Sizeof ∷ cl.Alignof ∷ cl.Generic ∷ []); goes = (cl.String ∷ cl.LeftParen ∷ cl.TypeParen ∷ cl.LiteralParen ∷ cl.LeftBracket ∷ cl.Dot ∷ cl.Arrow ∷ cl.PlusPlus ∷ cl.MinusMinus ∷ cl.Ampersand ∷ cl.Star ∷ cl.Plus ∷ cl.Minus ∷ cl.Slash ∷ cl.Percent ∷ cl.ShiftLeft ∷ cl.ShiftRight ∷ cl.Less ∷ cl.Greater ∷ cl.LessEqual ∷ cl.GreaterEqual ∷ cl.EqualEqual ∷ cl.BangEqual ∷ cl.Caret ∷ cl.Bar ∷ []); shuns = None; flat = true } ∷
    -- LogicalAndExpression
    record { kinds = (14 ∷ 2 ∷ 3 ∷ 4 ∷ 7 ∷ 28 ∷ 31 ∷ 33 ∷ 35 ∷ 36 ∷ 37 ∷ 44 ∷ 46 ∷ 51 ∷ 53 ∷ 55 ∷ 57 ∷ 60 ∷ 64 ∷ 76 ∷ 80 ∷ 82 ∷ 84 ∷ 88 ∷ 90 ∷ 94 ∷ 96 ∷ 100 ∷ 102 ∷ 104 ∷ 106 ∷ 110 ∷ 112 ∷ 116 ∷ 120 ∷ 124 ∷ 128 ∷ []); openers = (8 ∷ 1 ∷ 38 ∷ 49 ∷ 72 ∷ []); suffixes = (24 ∷ 77 ∷ 85 ∷ 91 ∷ 97 ∷ 107 ∷ 113 ∷ 117 ∷ 121 ∷ 125 ∷ []); firsts = (cl.Ident ∷ cl.IdentColon ∷ cl.TypedefName ∷ cl.TypedefColon ∷ cl.Constant ∷ cl.String ∷ cl.LeftParen ∷ cl.TypeParen ∷ cl.LiteralParen ∷ cl.PlusPlus ∷ cl.MinusMinus ∷ cl.Ampersand ∷ cl.Star ∷ cl.Plus ∷ cl.Minus ∷ cl.Tilde ∷ cl.Bang ∷ cl.Sizeof ∷ cl.Alignof ∷ cl.Generic ∷ []); goes = (cl.String ∷ cl.LeftParen ∷ cl.TypeParen ∷ cl.LiteralParen ∷ cl.LeftBracket ∷ cl.Dot ∷ cl.Arrow ∷ cl.PlusPlus ∷ cl.MinusMinus ∷ cl.Ampersand ∷ cl.Star ∷ cl.Plus ∷ cl.Minus ∷ cl.Slash ∷ cl.Percent ∷ cl.ShiftLeft ∷ cl.ShiftRight ∷ cl.Less ∷ cl.Greater ∷ cl.LessEqual ∷ cl.GreaterEqual ∷ cl.EqualEqual ∷ cl.BangEqual ∷ cl.Caret ∷ cl.Bar ∷ cl.AndAnd ∷ []); shuns = None; flat = true } ∷
    -- LogicalOrExpression
    record { kinds = (14 ∷ 2 ∷ 3 ∷ 4 ∷ 7 ∷ 28 ∷ 31 ∷ 33 ∷ 35 ∷ 36 ∷ 37 ∷ 44 ∷ 46 ∷ 51 ∷ 53 ∷ 55 ∷ 57 ∷ 60 ∷ 64 ∷ 76 ∷ 80 ∷ 82 ∷ 84 ∷ 88 ∷ 90 ∷ 94 ∷ 96 ∷ 100 ∷ 102 ∷ 104 ∷ 106 ∷ 110 ∷ 112 ∷ 116 ∷ 120 ∷ 124 ∷ 128 ∷ 132 ∷ []); openers = (8 ∷ 1 ∷ 38 ∷ 49 ∷ 72 ∷ []); suffixes = (24 ∷ 77 ∷ 85 ∷ 91 ∷ 97 ∷ 107 ∷ 113 ∷ 117 ∷ 121 ∷ 125 ∷ 129 ∷ []); firsts = (cl.Ident ∷ cl.IdentColon ∷ cl.TypedefName ∷ cl.TypedefColon ∷ cl.Constant ∷ cl.String ∷ cl.LeftParen ∷ cl.TypeParen ∷ cl.LiteralParen ∷ cl.PlusPlus ∷ cl.MinusMinus ∷ cl.Ampersand ∷ cl.Star ∷ cl.Plus ∷ cl.Minus ∷ cl.Tilde ∷ cl.Bang ∷ cl.Sizeof ∷ cl.Alignof ∷ cl.Generic ∷ []); goes = (cl.String ∷ cl.LeftParen ∷ cl.TypeParen ∷ cl.LiteralParen ∷ cl.LeftBracket ∷ cl.Dot ∷ cl.Arrow ∷ cl.PlusPlus ∷ cl.MinusMinus ∷ cl.Ampersand ∷ cl.Star ∷ cl.Plus ∷ cl.Minus ∷ cl.Slash ∷ cl.Percent ∷ cl.ShiftLeft ∷ cl.ShiftRight ∷ cl.Less ∷ cl.Greater ∷ cl.LessEqual ∷ cl.GreaterEqual ∷ cl.EqualEqual ∷ cl.BangEqual ∷ cl.Caret ∷ cl.Bar ∷ cl.AndAnd ∷ cl.OrOr ∷ []); shuns = None; flat = true } ∷
    -- ConditionalExpression
    record { kinds = (14 ∷ 2 ∷ 3 ∷ 4 ∷ 7 ∷ 28 ∷ 31 ∷ 33 ∷ 35 ∷ 36 ∷ 37 ∷ 44 ∷ 46 ∷ 51 ∷ 53 ∷ 55 ∷ 57 ∷ 60 ∷ 64 ∷ 76 ∷ 80 ∷ 82 ∷ 84 ∷ 88 ∷ 90 ∷ 94 ∷ 96 ∷ 100 ∷ 102 ∷ 104 ∷ 106 ∷ 110 ∷ 112 ∷ 116 ∷ 120 ∷ 124 ∷ 128 ∷ 132 ∷ 138 ∷ []); openers = (8 ∷ 1 ∷ 38 ∷ 49 ∷ 72 ∷ []); suffixes = (24 ∷ 77 ∷ 85 ∷ 91 ∷ 97 ∷ 107 ∷ 113 ∷ 117 ∷ 121 ∷ 125 ∷ 129 ∷ 133 ∷ []); firsts = (cl.Ident ∷ cl.IdentColon ∷ cl.TypedefName ∷ cl.TypedefColon ∷ cl.Constant ∷ cl.String ∷ cl.LeftParen ∷ cl.TypeParen ∷ cl.LiteralParen ∷ cl.PlusPlus ∷ cl.MinusMinus ∷ cl.Ampersand ∷ cl.Star ∷ cl.Plus ∷ cl.Minus ∷ cl.Tilde ∷ cl.Bang ∷ cl.Sizeof ∷ cl.Alignof ∷ cl.Generic ∷ []); goes = (cl.String ∷ cl.LeftParen ∷ cl.TypeParen ∷ cl.LiteralParen ∷ cl.LeftBracket ∷ cl.Dot ∷ cl.Arrow ∷ cl.PlusPlus ∷ cl.MinusMinus ∷ cl.Ampersand ∷ cl.Star ∷ cl.Plus ∷ cl.Minus ∷ cl.Slash ∷ cl.Percent ∷ cl.ShiftLeft ∷ cl.ShiftRight ∷ cl.Less ∷ cl.Greater ∷ cl.LessEqual ∷ cl.GreaterEqual ∷ cl.EqualEqual ∷ cl.BangEqual ∷ cl.Caret ∷ cl.Bar ∷ cl.AndAnd ∷ cl.OrOr ∷ cl.Question ∷ []); shuns = None; flat = true } ∷
    -- AssignmentExpression
    record { kinds = (14 ∷ 2 ∷ 3 ∷ 4 ∷ 7 ∷ 28 ∷ 31 ∷ 33 ∷ 35 ∷ 36 ∷ 37 ∷ 44 ∷ 46 ∷ 51 ∷ 53 ∷ 55 ∷ 57 ∷ 60 ∷ 64 ∷ 76 ∷ 80 ∷ 82 ∷ 84 ∷ 88 ∷ 90 ∷ 94 ∷ 96 ∷ 100 ∷ 102 ∷ 104 ∷ 106 ∷ 110 ∷ 112 ∷ 116 ∷ 120 ∷ 124 ∷ 128 ∷ 132 ∷ 138 ∷ 142 ∷ []); openers = (8 ∷ 1 ∷ 38 ∷ 49 ∷ 72 ∷ []); suffixes = (24 ∷ 77 ∷ 85 ∷ 91 ∷ 97 ∷ 107 ∷ 113 ∷ 117 ∷ 121 ∷ 125 ∷ 129 ∷ 133 ∷ 139 ∷ []); firsts = (cl.Ident ∷ cl.IdentColon ∷ cl.TypedefName ∷ cl.TypedefColon ∷ cl.Constant ∷ cl.String ∷ cl.LeftParen ∷ cl.TypeParen ∷ cl.LiteralParen ∷ cl.PlusPlus ∷ cl.MinusMinus ∷ cl.Ampersand ∷ cl.Star ∷ cl.Plus ∷ cl.Minus ∷ cl.Tilde ∷ cl.Bang ∷ cl.Sizeof ∷ cl.Alignof ∷ cl.Generic ∷ []); goes = (cl.String ∷ cl.LeftParen ∷ cl.TypeParen ∷ cl.LiteralParen ∷ cl.LeftBracket ∷ cl.Dot ∷ cl.Arrow ∷ cl.PlusPlus ∷ cl.MinusMinus ∷ cl.Ampersand ∷ cl.Star ∷ cl.Plus ∷ cl.Minus ∷ cl.Slash ∷ cl.Percent ∷ cl.ShiftLeft ∷ cl.ShiftRight ∷ cl.Less ∷ cl.Greater ∷ cl.LessEqual ∷ cl.GreaterEqual ∷ cl.EqualEqual ∷ cl.BangEqual ∷ cl.Caret ∷ cl.Bar ∷ cl.AndAnd ∷ cl.OrOr ∷ cl.Question ∷ cl.Equal ∷ cl.StarEqual ∷ cl.SlashEqual ∷ cl.PercentEqual ∷ cl.PlusEqual ∷ cl.MinusEqual ∷ cl.ShiftLeftEqual ∷ cl.ShiftRightEqual ∷ cl.AmpersandEqual ∷ cl.CaretEqual ∷ cl.BarEqual ∷ []); shuns = None; flat = true } ∷
    -- AssignmentOperator
    record { kinds = (144 ∷ 145 ∷ 146 ∷ 147 ∷ 148 ∷ 149 ∷ 150 ∷ 151 ∷ 152 ∷ 153 ∷ 154 ∷ []); openers = (143 ∷ []); suffixes = []; firsts = (cl.Equal ∷ cl.StarEqual ∷ cl.SlashEqual ∷ cl.PercentEqual ∷ cl.PlusEqual ∷ cl.MinusEqual ∷ cl.ShiftLeftEqual ∷ cl.ShiftRightEqual ∷ cl.AmpersandEqual ∷ cl.CaretEqual ∷ cl.BarEqual ∷ []); goes = []; shuns = None; flat = true } ∷
    -- Expression
    record { kinds = (14 ∷ 2 ∷ 3 ∷ 4 ∷ 7 ∷ 28 ∷ 31 ∷ 33 ∷ 35 ∷ 36 ∷ 37 ∷ 44 ∷ 46 ∷ 51 ∷ 53 ∷ 55 ∷ 57 ∷ 60 ∷ 64 ∷ 76 ∷ 80 ∷ 82 ∷ 84 ∷ 88 ∷ 90 ∷ 94 ∷ 96 ∷ 100 ∷ 102 ∷ 104 ∷ 106 ∷ 110 ∷ 112 ∷ 116 ∷ 120 ∷ 124 ∷ 128 ∷ 132 ∷ 138 ∷ 142 ∷ 158 ∷ []); openers = (8 ∷ 1 ∷ 38 ∷ 49 ∷ 72 ∷ []); suffixes = (24 ∷ 77 ∷ 85 ∷ 91 ∷ 97 ∷ 107 ∷ 113 ∷ 117 ∷ 121 ∷ 125 ∷ 129 ∷ 133 ∷ 139 ∷ 155 ∷ []); firsts = (cl.Ident ∷ cl.IdentColon ∷ cl.TypedefName ∷ cl.TypedefColon ∷ cl.Constant ∷ cl.String ∷ cl.LeftParen ∷ cl.TypeParen ∷ cl.LiteralParen ∷ cl.PlusPlus ∷ cl.MinusMinus ∷ cl.Ampersand ∷ cl.Star ∷ cl.Plus ∷ cl.Minus ∷ cl.Tilde ∷ cl.Bang ∷ cl.Sizeof ∷ cl.Alignof ∷ cl.Generic ∷ []); goes = (cl.String ∷ cl.LeftParen ∷ cl.TypeParen ∷ cl.LiteralParen ∷ cl.LeftBracket ∷ cl.Dot ∷ cl.Arrow ∷ cl.PlusPlus ∷ cl.MinusMinus ∷ cl.Ampersand ∷ cl.Star ∷ cl.Plus ∷ cl.Minus ∷ cl.Slash ∷ cl.Percent ∷ cl.ShiftLeft ∷ cl.ShiftRight ∷ cl.Less ∷ cl.Greater ∷ cl.LessEqual ∷ cl.GreaterEqual ∷ cl.EqualEqual ∷ cl.BangEqual ∷ cl.Caret ∷ cl.Bar ∷ cl.AndAnd ∷ cl.OrOr ∷ cl.Question ∷ cl.Comma ∷ cl.Equal ∷ cl.StarEqual ∷ cl.SlashEqual ∷ cl.PercentEqual ∷ cl.PlusEqual ∷ cl.MinusEqual ∷ cl.ShiftLeftEqual ∷ cl.ShiftRightEqual ∷ cl.AmpersandEqual ∷ cl.CaretEqual ∷ cl.BarEqual ∷ []); shuns = None; flat = true } ∷
    -- ConstantExpression
    record { kinds = (14 ∷ 2 ∷ 3 ∷ 4 ∷ 7 ∷ 28 ∷ 31 ∷ 33 ∷ 35 ∷ 36 ∷ 37 ∷ 44 ∷ 46 ∷ 51 ∷ 53 ∷ 55 ∷ 57 ∷ 60 ∷ 64 ∷ 76 ∷ 80 ∷ 82 ∷ 84 ∷ 88 ∷ 90 ∷ 94 ∷ 96 ∷ 100 ∷ 102 ∷ 104 ∷ 106 ∷ 110 ∷ 112 ∷ 116 ∷ 120 ∷ 124 ∷ 128 ∷ 132 ∷ 138 ∷ []); openers = (8 ∷ 1 ∷ 38 ∷ 49 ∷ 72 ∷ []); suffixes = (24 ∷ 77 ∷ 85 ∷ 91 ∷ 97 ∷ 107 ∷ 113 ∷ 117 ∷ 121 ∷ 125 ∷ 129 ∷ 133 ∷ []); firsts = (cl.Ident ∷ cl.IdentColon ∷ cl.TypedefName ∷ cl.TypedefColon ∷ cl.Constant ∷ cl.String ∷ cl.LeftParen ∷ cl.TypeParen ∷ cl.LiteralParen ∷ cl.PlusPlus ∷ cl.MinusMinus ∷ cl.Ampersand ∷ cl.Star ∷ cl.Plus ∷ cl.Minus ∷ cl.Tilde ∷ cl.Bang ∷ cl.Sizeof ∷ cl.Alignof ∷ cl.Generic ∷ []); goes = (cl.String ∷ cl.LeftParen ∷ cl.TypeParen ∷ cl.LiteralParen ∷ cl.LeftBracket ∷ cl.Dot ∷ cl.Arrow ∷ cl.PlusPlus ∷ cl.MinusMinus ∷ cl.Ampersand ∷ cl.Star ∷ cl.Plus ∷ cl.Minus ∷ cl.Slash ∷ cl.Percent ∷ cl.ShiftLeft ∷ cl.ShiftRight ∷ cl.Less ∷ cl.Greater ∷ cl.LessEqual ∷ cl.GreaterEqual ∷ cl.EqualEqual ∷ cl.BangEqual ∷ cl.Caret ∷ cl.Bar ∷ cl.AndAnd ∷ cl.OrOr ∷ cl.Question ∷ []); shuns = None; flat = true } ∷
    -- Declaration
    record { kinds = (403 ∷ 162 ∷ []); openers = (396 ∷ 159 ∷ []); suffixes = []; firsts = (cl.TypedefName ∷ cl.TypedefColon ∷ cl.StaticAssert ∷ cl.Typedef ∷ cl.Extern ∷ cl.Static ∷ cl.ThreadLocal ∷ cl.Auto ∷ cl.Register ∷ cl.Void ∷ cl.Char ∷ cl.Short ∷ cl.Int ∷ cl.Long ∷ cl.Float ∷ cl.Double ∷ cl.Signed ∷ cl.Unsigned ∷ cl.Bool ∷ cl.Struct ∷ cl.Union ∷ cl.Enum ∷ cl.Const ∷ cl.Restrict ∷ cl.Volatile ∷ cl.Atomic ∷ cl.AtomicParen ∷ cl.Inline ∷ cl.Noreturn ∷ cl.Alignas ∷ []); goes = []; shuns = None; flat = true } ∷
    -- DeclarationSpecifiers
    record { kinds = (164 ∷ 165 ∷ []); openers = (163 ∷ []); suffixes = []; firsts = (cl.TypedefName ∷ cl.TypedefColon ∷ cl.Typedef ∷ cl.Extern ∷ cl.Static ∷ cl.ThreadLocal ∷ cl.Auto ∷ cl.Register ∷ cl.Void ∷ cl.Char ∷ cl.Short ∷ cl.Int ∷ cl.Long ∷ cl.Float ∷ cl.Double ∷ cl.Signed ∷ cl.Unsigned ∷ cl.Bool ∷ cl.Struct ∷ cl.Union ∷ cl.Enum ∷ cl.Const ∷ cl.Restrict ∷ cl.Volatile ∷ cl.Atomic ∷ cl.AtomicParen ∷ cl.Inline ∷ cl.Noreturn ∷ cl.Alignas ∷ []); goes = (cl.LeftBrace ∷ cl.Typedef ∷ cl.Extern ∷ cl.Static ∷ cl.ThreadLocal ∷ cl.Auto ∷ cl.Register ∷ cl.Void ∷ cl.Char ∷ cl.Short ∷ cl.Int ∷ cl.Long ∷ cl.Float ∷ cl.Double ∷ cl.Signed ∷ cl.Unsigned ∷ cl.Bool ∷ cl.Struct ∷ cl.Union ∷ cl.Enum ∷ cl.Const ∷ cl.Restrict ∷ cl.Volatile ∷ cl.Atomic ∷ cl.AtomicParen ∷ cl.Inline ∷ cl.Noreturn ∷ cl.Alignas ∷ []); shuns = None; flat = true } ∷
    -- InitDeclaratorList
    record { kinds = (167 ∷ []); openers = (166 ∷ []); suffixes = []; firsts = (cl.Ident ∷ cl.IdentColon ∷ cl.TypedefName ∷ cl.TypedefColon ∷ cl.LeftParen ∷ cl.TypeParen ∷ cl.LiteralParen ∷ cl.Star ∷ []); goes = (cl.String ∷ cl.LeftParen ∷ cl.TypeParen ∷ cl.LiteralParen ∷ cl.LeftBracket ∷ cl.Dot ∷ cl.Arrow ∷ cl.PlusPlus ∷ cl.MinusMinus ∷ cl.Ampersand ∷ cl.Star ∷ cl.Plus ∷ cl.Minus ∷ cl.Slash ∷ cl.Percent ∷ cl.ShiftLeft ∷ cl.ShiftRight ∷ cl.Less ∷ cl.Greater ∷ cl.LessEqual ∷ cl.GreaterEqual ∷ cl.EqualEqual ∷ cl.BangEqual ∷ cl.Caret ∷ cl.Bar ∷ cl.AndAnd ∷ cl.OrOr ∷ cl.Question ∷ cl.Comma ∷ cl.Equal ∷ cl.StarEqual ∷ cl.SlashEqual ∷ cl.PercentEqual ∷ cl.PlusEqual ∷ cl.MinusEqual ∷ cl.ShiftLeftEqual ∷ cl.ShiftRightEqual ∷ cl.AmpersandEqual ∷ cl.CaretEqual ∷ cl.BarEqual ∷ []); shuns = None; flat = true } ∷
    -- InitDeclarator
    record { kinds = (256 ∷ 259 ∷ 265 ∷ 268 ∷ 270 ∷ 274 ∷ 277 ∷ 280 ∷ 254 ∷ 171 ∷ []); openers = (255 ∷ 332 ∷ []); suffixes = (260 ∷ 252 ∷ 168 ∷ []); firsts = (cl.Ident ∷ cl.IdentColon ∷ cl.TypedefName ∷ cl.TypedefColon ∷ cl.LeftParen ∷ cl.TypeParen ∷ cl.LiteralParen ∷ cl.Star ∷ []); goes = (cl.String ∷ cl.LeftParen ∷ cl.TypeParen ∷ cl.LiteralParen ∷ cl.LeftBracket ∷ cl.Dot ∷ cl.Arrow ∷ cl.PlusPlus ∷ cl.MinusMinus ∷ cl.Ampersand ∷ cl.Star ∷ cl.Plus ∷ cl.Minus ∷ cl.Slash ∷ cl.Percent ∷ cl.ShiftLeft ∷ cl.ShiftRight ∷ cl.Less ∷ cl.Greater ∷ cl.LessEqual ∷ cl.GreaterEqual ∷ cl.EqualEqual ∷ cl.BangEqual ∷ cl.Caret ∷ cl.Bar ∷ cl.AndAnd ∷ cl.OrOr ∷ cl.Question ∷ cl.Equal ∷ cl.StarEqual ∷ cl.SlashEqual ∷ cl.PercentEqual ∷ cl.PlusEqual ∷ cl.MinusEqual ∷ cl.ShiftLeftEqual ∷ cl.ShiftRightEqual ∷ cl.AmpersandEqual ∷ cl.CaretEqual ∷ cl.BarEqual ∷ []); shuns = None; flat = true } ∷
    -- StorageClassSpecifier
    record { kinds = (173 ∷ 174 ∷ 175 ∷ 176 ∷ 177 ∷ 178 ∷ []); openers = (172 ∷ []); suffixes = []; firsts = (cl.Typedef ∷ cl.Extern ∷ cl.Static ∷ cl.ThreadLocal ∷ cl.Auto ∷ cl.Register ∷ []); goes = []; shuns = None; flat = true } ∷
    -- TypeSpecifier
    record { kinds = (235 ∷ 192 ∷ 195 ∷ 219 ∷ 222 ∷ 224 ∷ 180 ∷ 181 ∷ 182 ∷ 183 ∷ 184 ∷ 185 ∷ 186 ∷ 187 ∷ 188 ∷ 189 ∷ 375 ∷ []); openers = (231 ∷ 190 ∷ 217 ∷ 179 ∷ 374 ∷ []); suffixes = []; firsts = (cl.TypedefName ∷ cl.TypedefColon ∷ cl.Void ∷ cl.Char ∷ cl.Short ∷ cl.Int ∷ cl.Long ∷ cl.Float ∷ cl.Double ∷ cl.Signed ∷ cl.Unsigned ∷ cl.Bool ∷ cl.Struct ∷ cl.Union ∷ cl.Enum ∷ cl.AtomicParen ∷ []); goes = (cl.LeftBrace ∷ []); shuns = None; flat = true } ∷
    -- StructOrUnionSpecifier
    record { kinds = (192 ∷ 195 ∷ []); openers = (190 ∷ []); suffixes = []; firsts = (cl.Struct ∷ cl.Union ∷ []); goes = (cl.LeftBrace ∷ []); shuns = None; flat = true } ∷
    -- StructOrUnion
    record { kinds = (197 ∷ 198 ∷ []); openers = (196 ∷ []); suffixes = []; firsts = (cl.Struct ∷ cl.Union ∷ []); goes = []; shuns = None; flat = true } ∷
    -- StructDeclarationList
    record { kinds = (200 ∷ []); openers = (199 ∷ []); suffixes = []; firsts = (cl.TypedefName ∷ cl.TypedefColon ∷ cl.StaticAssert ∷ cl.Void ∷ cl.Char ∷ cl.Short ∷ cl.Int ∷ cl.Long ∷ cl.Float ∷ cl.Double ∷ cl.Signed ∷ cl.Unsigned ∷ cl.Bool ∷ cl.Struct ∷ cl.Union ∷ cl.Enum ∷ cl.Const ∷ cl.Restrict ∷ cl.Volatile ∷ cl.Atomic ∷ cl.AtomicParen ∷ []); goes = (cl.TypedefName ∷ cl.TypedefColon ∷ cl.StaticAssert ∷ cl.Void ∷ cl.Char ∷ cl.Short ∷ cl.Int ∷ cl.Long ∷ cl.Float ∷ cl.Double ∷ cl.Signed ∷ cl.Unsigned ∷ cl.Bool ∷ cl.Struct ∷ cl.Union ∷ cl.Enum ∷ cl.Const ∷ cl.Restrict ∷ cl.Volatile ∷ cl.Atomic ∷ cl.AtomicParen ∷ []); shuns = None; flat = true } ∷
    -- StructDeclaration
    record { kinds = (403 ∷ 204 ∷ []); openers = (396 ∷ 201 ∷ []); suffixes = []; firsts = (cl.TypedefName ∷ cl.TypedefColon ∷ cl.StaticAssert ∷ cl.Void ∷ cl.Char ∷ cl.Short ∷ cl.Int ∷ cl.Long ∷ cl.Float ∷ cl.Double ∷ cl.Signed ∷ cl.Unsigned ∷ cl.Bool ∷ cl.Struct ∷ cl.Union ∷ cl.Enum ∷ cl.Const ∷ cl.Restrict ∷ cl.Volatile ∷ cl.Atomic ∷ cl.AtomicParen ∷ []); goes = []; shuns = None; flat = true } ∷
    -- SpecifierQualifierList
    record { kinds = (206 ∷ 207 ∷ []); openers = (205 ∷ []); suffixes = []; firsts = (cl.TypedefName ∷ cl.TypedefColon ∷ cl.Void ∷ cl.Char ∷ cl.Short ∷ cl.Int ∷ cl.Long ∷ cl.Float ∷ cl.Double ∷ cl.Signed ∷ cl.Unsigned ∷ cl.Bool ∷ cl.Struct ∷ cl.Union ∷ cl.Enum ∷ cl.Const ∷ cl.Restrict ∷ cl.Volatile ∷ cl.Atomic ∷ cl.AtomicParen ∷ []); goes = (cl.LeftBrace ∷ cl.Void ∷ cl.Char ∷ cl.Short ∷ cl.Int ∷ cl.Long ∷ cl.Float ∷ cl.Double ∷ cl.Signed ∷ cl.Unsigned ∷ cl.Bool ∷ cl.Struct ∷ cl.Union ∷ cl.Enum ∷ cl.Const ∷ cl.Restrict ∷ cl.Volatile ∷ cl.Atomic ∷ cl.AtomicParen ∷ []); shuns = None; flat = true } ∷
    -- StructDeclaratorList
    record { kinds = (209 ∷ []); openers = (208 ∷ []); suffixes = []; firsts = (cl.Ident ∷ cl.IdentColon ∷ cl.TypedefName ∷ cl.TypedefColon ∷ cl.LeftParen ∷ cl.TypeParen ∷ cl.LiteralParen ∷ cl.Star ∷ cl.Colon ∷ []); goes = (cl.String ∷ cl.LeftParen ∷ cl.TypeParen ∷ cl.LiteralParen ∷ cl.LeftBracket ∷ cl.Dot ∷ cl.Arrow ∷ cl.PlusPlus ∷ cl.MinusMinus ∷ cl.Ampersand ∷ cl.Star ∷ cl.Plus ∷ cl.Minus ∷ cl.Slash ∷ cl.Percent ∷ cl.ShiftLeft ∷ cl.ShiftRight ∷ cl.Less ∷ cl.Greater ∷ cl.LessEqual ∷ cl.GreaterEqual ∷ cl.EqualEqual ∷ cl.BangEqual ∷ cl.Caret ∷ cl.Bar ∷ cl.AndAnd ∷ cl.OrOr ∷ cl.Question ∷ cl.Colon ∷ cl.Comma ∷ []); shuns = None; flat = true } ∷
    -- StructDeclarator
    record { kinds = (256 ∷ 259 ∷ 265 ∷ 268 ∷ 270 ∷ 274 ∷ 277 ∷ 280 ∷ 254 ∷ 213 ∷ 216 ∷ []); openers = (255 ∷ 332 ∷ 214 ∷ []); suffixes = (260 ∷ 252 ∷ 210 ∷ []); firsts = (cl.Ident ∷ cl.IdentColon ∷ cl.TypedefName ∷ cl.TypedefColon ∷ cl.LeftParen ∷ cl.TypeParen ∷ cl.LiteralParen ∷ cl.Star ∷ cl.Colon ∷ []); goes = (cl.String ∷ cl.LeftParen ∷ cl.TypeParen ∷ cl.LiteralParen ∷ cl.LeftBracket ∷ cl.Dot ∷ cl.Arrow ∷ cl.PlusPlus ∷ cl.MinusMinus ∷ cl.Ampersand ∷ cl.Star ∷ cl.Plus ∷ cl.Minus ∷ cl.Slash ∷ cl.Percent ∷ cl.ShiftLeft ∷ cl.ShiftRight ∷ cl.Less ∷ cl.Greater ∷ cl.LessEqual ∷ cl.GreaterEqual ∷ cl.EqualEqual ∷ cl.BangEqual ∷ cl.Caret ∷ cl.Bar ∷ cl.AndAnd ∷ cl.OrOr ∷ cl.Question ∷ cl.Colon ∷ []); shuns = None; flat = true } ∷
    -- EnumSpecifier
    record { kinds = (219 ∷ 222 ∷ 224 ∷ []); openers = (217 ∷ []); suffixes = []; firsts = (cl.Enum ∷ []); goes = (cl.LeftBrace ∷ []); shuns = None; flat = true } ∷
    -- EnumeratorList
    record { kinds = (226 ∷ []); openers = (225 ∷ []); suffixes = []; firsts = (cl.Ident ∷ cl.IdentColon ∷ cl.TypedefName ∷ cl.TypedefColon ∷ []); goes = (cl.String ∷ cl.LeftParen ∷ cl.TypeParen ∷ cl.LiteralParen ∷ cl.LeftBracket ∷ cl.Dot ∷ cl.Arrow ∷ cl.PlusPlus ∷ cl.MinusMinus ∷ cl.Ampersand ∷ cl.Star ∷ cl.Plus ∷ cl.Minus ∷ cl.Slash ∷ cl.Percent ∷ cl.ShiftLeft ∷ cl.ShiftRight ∷ cl.Less ∷ cl.Greater ∷ cl.LessEqual ∷ cl.GreaterEqual ∷ cl.EqualEqual ∷ cl.BangEqual ∷ cl.Caret ∷ cl.Bar ∷ cl.AndAnd ∷ cl.OrOr ∷ cl.Question ∷ cl.Comma ∷ cl.Equal ∷ []); shuns = None; flat = true } ∷
    -- Enumerator
    record { kinds = (228 ∷ 230 ∷ []); openers = (227 ∷ []); suffixes = []; firsts = (cl.Ident ∷ cl.IdentColon ∷ cl.TypedefName ∷ cl.TypedefColon ∷ []); goes = (cl.String ∷ cl.LeftParen ∷ cl.TypeParen ∷ cl.LiteralParen ∷ cl.LeftBracket ∷ cl.Dot ∷ cl.Arrow ∷ cl.PlusPlus ∷ cl.MinusMinus ∷ cl.Ampersand ∷ cl.Star ∷ cl.Plus ∷ cl.Minus ∷ cl.Slash ∷ cl.Percent ∷ cl.ShiftLeft ∷ cl.ShiftRight ∷ cl.Less ∷ cl.Greater ∷ cl.LessEqual ∷ cl.GreaterEqual ∷ cl.EqualEqual ∷ cl.BangEqual ∷ cl.Caret ∷ cl.Bar ∷ cl.AndAnd ∷ cl.OrOr ∷ cl.Question ∷ cl.Equal ∷ []); shuns = None; flat = true } ∷
    -- AtomicTypeSpecifier
    record { kinds = (235 ∷ []); openers = (231 ∷ []); suffixes = []; firsts = (cl.AtomicParen ∷ []); goes = []; shuns = None; flat = true } ∷
    -- TypeQualifier
    record { kinds = (237 ∷ 238 ∷ 239 ∷ 240 ∷ []); openers = (236 ∷ []); suffixes = []; firsts = (cl.Const ∷ cl.Restrict ∷ cl.Volatile ∷ cl.Atomic ∷ []); goes = []; shuns = None; flat = true } ∷
    -- FunctionSpecifier
    record { kinds = (242 ∷ 243 ∷ []); openers = (241 ∷ []); suffixes = []; firsts = (cl.Inline ∷ cl.Noreturn ∷ []); goes = []; shuns = None; flat = true } ∷
    -- AlignmentSpecifier
    record { kinds = (248 ∷ 251 ∷ []); openers = (244 ∷ []); suffixes = []; firsts = (cl.Alignas ∷ []); goes = []; shuns = None; flat = true } ∷
    -- Declarator
    record { kinds = (256 ∷ 259 ∷ 265 ∷ 268 ∷ 270 ∷ 274 ∷ 277 ∷ 280 ∷ 254 ∷ []); openers = (255 ∷ 332 ∷ []); suffixes = (260 ∷ 252 ∷ []); firsts = (cl.Ident ∷ cl.IdentColon ∷ cl.TypedefName ∷ cl.TypedefColon ∷ cl.LeftParen ∷ cl.TypeParen ∷ cl.LiteralParen ∷ cl.Star ∷ []); goes = (cl.LeftParen ∷ cl.TypeParen ∷ cl.LiteralParen ∷ cl.LeftBracket ∷ []); shuns = None; flat = true } ∷
    -- DirectDeclarator
    record { kinds = (256 ∷ 259 ∷ 265 ∷ 268 ∷ 270 ∷ 274 ∷ 277 ∷ 280 ∷ []); openers = (255 ∷ []); suffixes = (260 ∷ []); firsts = (cl.Ident ∷ cl.IdentColon ∷ cl.TypedefName ∷ cl.TypedefColon ∷ cl.LeftParen ∷ cl.TypeParen ∷ cl.LiteralParen ∷ []); goes = (cl.LeftParen ∷ cl.TypeParen ∷ cl.LiteralParen ∷ cl.LeftBracket ∷ []); shuns = None; flat = true } ∷
    -- Pointer
    record { kinds = (333 ∷ 334 ∷ 335 ∷ []); openers = (332 ∷ []); suffixes = []; firsts = (cl.Star ∷ []); goes = (cl.Star ∷ cl.Const ∷ cl.Restrict ∷ cl.Volatile ∷ cl.Atomic ∷ []); shuns = None; flat = true } ∷
    -- TypeQualifierList
    record { kinds = (337 ∷ []); openers = (336 ∷ []); suffixes = []; firsts = (cl.Const ∷ cl.Restrict ∷ cl.Volatile ∷ cl.Atomic ∷ []); goes = (cl.Const ∷ cl.Restrict ∷ cl.Volatile ∷ cl.Atomic ∷ []); shuns = None; flat = true } ∷
    -- ParameterTypeList
    record { kinds = (343 ∷ 341 ∷ []); openers = (342 ∷ []); suffixes = (338 ∷ []); firsts = (cl.TypedefName ∷ cl.TypedefColon ∷ cl.Typedef ∷ cl.Extern ∷ cl.Static ∷ cl.ThreadLocal ∷ cl.Auto ∷ cl.Register ∷ cl.Void ∷ cl.Char ∷ cl.Short ∷ cl.Int ∷ cl.Long ∷ cl.Float ∷ cl.Double ∷ cl.Signed ∷ cl.Unsigned ∷ cl.Bool ∷ cl.Struct ∷ cl.Union ∷ cl.Enum ∷ cl.Const ∷ cl.Restrict ∷ cl.Volatile ∷ cl.Atomic ∷ cl.AtomicParen ∷ cl.Inline ∷ cl.Noreturn ∷ cl.Alignas ∷ []); goes = (cl.Ident ∷ cl.IdentColon ∷ cl.TypedefName ∷ cl.TypedefColon ∷ cl.LeftParen ∷ cl.TypeParen ∷ cl.LiteralParen ∷ cl.LeftBracket ∷ cl.LeftBrace ∷ cl.Star ∷ cl.Comma ∷ cl.LastComma ∷ cl.Typedef ∷ cl.Extern ∷ cl.Static ∷ cl.ThreadLocal ∷ cl.Auto ∷ cl.Register ∷ cl.Void ∷ cl.Char ∷ cl.Short ∷ cl.Int ∷ cl.Long ∷ cl.Float ∷ cl.Double ∷ cl.Signed ∷ cl.Unsigned ∷ cl.Bool ∷ cl.Struct ∷ cl.Union ∷ cl.Enum ∷ cl.Const ∷ cl.Restrict ∷ cl.Volatile ∷ cl.Atomic ∷ cl.AtomicParen ∷ cl.Inline ∷ cl.Noreturn ∷ cl.Alignas ∷ []); shuns = None; flat = true } ∷
    -- ParameterList
    record { kinds = (343 ∷ []); openers = (342 ∷ []); suffixes = []; firsts = (cl.TypedefName ∷ cl.TypedefColon ∷ cl.Typedef ∷ cl.Extern ∷ cl.Static ∷ cl.ThreadLocal ∷ cl.Auto ∷ cl.Register ∷ cl.Void ∷ cl.Char ∷ cl.Short ∷ cl.Int ∷ cl.Long ∷ cl.Float ∷ cl.Double ∷ cl.Signed ∷ cl.Unsigned ∷ cl.Bool ∷ cl.Struct ∷ cl.Union ∷ cl.Enum ∷ cl.Const ∷ cl.Restrict ∷ cl.Volatile ∷ cl.Atomic ∷ cl.AtomicParen ∷ cl.Inline ∷ cl.Noreturn ∷ cl.Alignas ∷ []); goes = (cl.Ident ∷ cl.IdentColon ∷ cl.TypedefName ∷ cl.TypedefColon ∷ cl.LeftParen ∷ cl.TypeParen ∷ cl.LiteralParen ∷ cl.LeftBracket ∷ cl.LeftBrace ∷ cl.Star ∷ cl.Comma ∷ cl.Typedef ∷ cl.Extern ∷ cl.Static ∷ cl.ThreadLocal ∷ cl.Auto ∷ cl.Register ∷ cl.Void ∷ cl.Char ∷ cl.Short ∷ cl.Int ∷ cl.Long ∷ cl.Float ∷ cl.Double ∷ cl.Signed ∷ cl.Unsigned ∷ cl.Bool ∷ cl.Struct ∷ cl.Union ∷ cl.Enum ∷ cl.Const ∷ cl.Restrict ∷ cl.Volatile ∷ cl.Atomic ∷ cl.AtomicParen ∷ cl.Inline ∷ cl.Noreturn ∷ cl.Alignas ∷ []); shuns = None; flat = true } ∷
    -- ParameterDeclaration
    record { kinds = (164 ∷ 165 ∷ 347 ∷ 348 ∷ []); openers = (163 ∷ []); suffixes = (344 ∷ []); firsts = (cl.TypedefName ∷ cl.TypedefColon ∷ cl.Typedef ∷ cl.Extern ∷ cl.Static ∷ cl.ThreadLocal ∷ cl.Auto ∷ cl.Register ∷ cl.Void ∷ cl.Char ∷ cl.Short ∷ cl.Int ∷ cl.Long ∷ cl.Float ∷ cl.Double ∷ cl.Signed ∷ cl.Unsigned ∷ cl.Bool ∷ cl.Struct ∷ cl.Union ∷ cl.Enum ∷ cl.Const ∷ cl.Restrict ∷ cl.Volatile ∷ cl.Atomic ∷ cl.AtomicParen ∷ cl.Inline ∷ cl.Noreturn ∷ cl.Alignas ∷ []); goes = (cl.Ident ∷ cl.IdentColon ∷ cl.TypedefName ∷ cl.TypedefColon ∷ cl.LeftParen ∷ cl.TypeParen ∷ cl.LiteralParen ∷ cl.LeftBracket ∷ cl.LeftBrace ∷ cl.Star ∷ cl.Typedef ∷ cl.Extern ∷ cl.Static ∷ cl.ThreadLocal ∷ cl.Auto ∷ cl.Register ∷ cl.Void ∷ cl.Char ∷ cl.Short ∷ cl.Int ∷ cl.Long ∷ cl.Float ∷ cl.Double ∷ cl.Signed ∷ cl.Unsigned ∷ cl.Bool ∷ cl.Struct ∷ cl.Union ∷ cl.Enum ∷ cl.Const ∷ cl.Restrict ∷ cl.Volatile ∷ cl.Atomic ∷ cl.AtomicParen ∷ cl.Inline ∷ cl.Noreturn ∷ cl.Alignas ∷ []); shuns = None; flat = true } ∷
    -- IdentifierList
    record { kinds = (350 ∷ []); openers = (349 ∷ []); suffixes = []; firsts = (cl.Ident ∷ cl.IdentColon ∷ cl.TypedefName ∷ cl.TypedefColon ∷ []); goes = (cl.Comma ∷ []); shuns = None; flat = true } ∷
    -- TypeName
    record { kinds = (206 ∷ 207 ∷ 353 ∷ []); openers = (205 ∷ []); suffixes = (351 ∷ []); firsts = (cl.TypedefName ∷ cl.TypedefColon ∷ cl.Void ∷ cl.Char ∷ cl.Short ∷ cl.Int ∷ cl.Long ∷ cl.Float ∷ cl.Double ∷ cl.Signed ∷ cl.Unsigned ∷ cl.Bool ∷ cl.Struct ∷ cl.Union ∷ cl.Enum ∷ cl.Const ∷ cl.Restrict ∷ cl.Volatile ∷ cl.Atomic ∷ cl.AtomicParen ∷ []); goes = (cl.Ident ∷ cl.IdentColon ∷ cl.TypedefName ∷ cl.TypedefColon ∷ cl.LeftParen ∷ cl.TypeParen ∷ cl.LiteralParen ∷ cl.LeftBracket ∷ cl.LeftBrace ∷ cl.Star ∷ cl.Void ∷ cl.Char ∷ cl.Short ∷ cl.Int ∷ cl.Long ∷ cl.Float ∷ cl.Double ∷ cl.Signed ∷ cl.Unsigned ∷ cl.Bool ∷ cl.Struct ∷ cl.Union ∷ cl.Enum ∷ cl.Const ∷ cl.Restrict ∷ cl.Volatile ∷ cl.Atomic ∷ cl.AtomicParen ∷ []); shuns = None; flat = true } ∷
    -- AbstractDeclarator
    record { kinds = (333 ∷ 334 ∷ 335 ∷ 293 ∷ 294 ∷ 298 ∷ 301 ∷ 305 ∷ 307 ∷ 310 ∷ 359 ∷ 362 ∷ 366 ∷ 368 ∷ 370 ∷ 373 ∷ 285 ∷ []); openers = (332 ∷ 286 ∷ []); suffixes = (354 ∷ 281 ∷ []); firsts = (cl.Ident ∷ cl.IdentColon ∷ cl.TypedefName ∷ cl.TypedefColon ∷ cl.LeftParen ∷ cl.TypeParen ∷ cl.LiteralParen ∷ cl.LeftBracket ∷ cl.Star ∷ []); goes = (cl.Ident ∷ cl.IdentColon ∷ cl.TypedefName ∷ cl.TypedefColon ∷ cl.LeftParen ∷ cl.TypeParen ∷ cl.LiteralParen ∷ cl.LeftBracket ∷ cl.Star ∷ cl.Const ∷ cl.Restrict ∷ cl.Volatile ∷ cl.Atomic ∷ []); shuns = None; flat = true } ∷
    -- DirectAbstractDeclarator
    record { kinds = (293 ∷ 294 ∷ 298 ∷ 301 ∷ 305 ∷ 307 ∷ 310 ∷ 359 ∷ 362 ∷ 366 ∷ 368 ∷ 370 ∷ 373 ∷ []); openers = (286 ∷ []); suffixes = (354 ∷ []); firsts = (cl.Ident ∷ cl.IdentColon ∷ cl.TypedefName ∷ cl.TypedefColon ∷ cl.LeftParen ∷ cl.TypeParen ∷ cl.LiteralParen ∷ cl.LeftBracket ∷ []); goes = (cl.LeftParen ∷ cl.TypeParen ∷ cl.LiteralParen ∷ cl.LeftBracket ∷ []); shuns = None; flat = true } ∷
    -- TypedefName
    record { kinds = (375 ∷ []); openers = (374 ∷ []); suffixes = []; firsts = (cl.TypedefName ∷ cl.TypedefColon ∷ []); goes = []; shuns = None; flat = true } ∷
    -- Initializer
    record { kinds = (14 ∷ 2 ∷ 3 ∷ 4 ∷ 7 ∷ 28 ∷ 31 ∷ 33 ∷ 35 ∷ 36 ∷ 37 ∷ 44 ∷ 46 ∷ 51 ∷ 53 ∷ 55 ∷ 57 ∷ 60 ∷ 64 ∷ 76 ∷ 80 ∷ 82 ∷ 84 ∷ 88 ∷ 90 ∷ 94 ∷ 96 ∷ 100 ∷ 102 ∷ 104 ∷ 106 ∷ 110 ∷ 112 ∷ 116 ∷ 120 ∷ 124 ∷ 128 ∷ 132 ∷ 138 ∷ 142 ∷ 379 ∷ 381 ∷ []); openers = (8 ∷ 1 ∷ 38 ∷ 49 ∷ 72 ∷ 376 ∷ []); suffixes = (24 ∷ 77 ∷ 85 ∷ 91 ∷ 97 ∷ 107 ∷ 113 ∷ 117 ∷ 121 ∷ 125 ∷ 129 ∷ 133 ∷ 139 ∷ []); firsts = (cl.Ident ∷ cl.IdentColon ∷ cl.TypedefName ∷ cl.TypedefColon ∷ cl.Constant ∷ cl.String ∷ cl.LeftParen ∷ cl.TypeParen ∷ cl.LiteralParen ∷ cl.LeftBrace ∷ cl.PlusPlus ∷ cl.MinusMinus ∷ cl.Ampersand ∷ cl.Star ∷ cl.Plus ∷ cl.Minus ∷ cl.Tilde ∷ cl.Bang ∷ cl.Sizeof ∷ cl.Alignof ∷ cl.Generic ∷ []); goes = (cl.String ∷ cl.LeftParen ∷ cl.TypeParen ∷ cl.LiteralParen ∷ cl.LeftBracket ∷ cl.Dot ∷ cl.Arrow ∷ cl.PlusPlus ∷ cl.MinusMinus ∷ cl.Ampersand ∷ cl.Star ∷ cl.Plus ∷ cl.Minus ∷ cl.Slash ∷ cl.Percent ∷ cl.ShiftLeft ∷ cl.ShiftRight ∷ cl.Less ∷ cl.Greater ∷ cl.LessEqual ∷ cl.GreaterEqual ∷ cl.EqualEqual ∷ cl.BangEqual ∷ cl.Caret ∷ cl.Bar ∷ cl.AndAnd ∷ cl.OrOr ∷ cl.Question ∷ cl.Equal ∷ cl.StarEqual ∷ cl.SlashEqual ∷ cl.PercentEqual ∷ cl.PlusEqual ∷ cl.MinusEqual ∷ cl.ShiftLeftEqual ∷ cl.ShiftRightEqual ∷ cl.AmpersandEqual ∷ cl.CaretEqual ∷ cl.BarEqual ∷ []); shuns = None; flat = true } ∷
    -- InitializerList
    record { kinds = (384 ∷ []); openers = (382 ∷ []); suffixes = []; firsts = (cl.Ident ∷ cl.IdentColon ∷ cl.TypedefName ∷ cl.TypedefColon ∷ cl.Constant ∷ cl.String ∷ cl.LeftParen ∷ cl.TypeParen ∷ cl.LiteralParen ∷ cl.LeftBracket ∷ cl.LeftBrace ∷ cl.Dot ∷ cl.PlusPlus ∷ cl.MinusMinus ∷ cl.Ampersand ∷ cl.Star ∷ cl.Plus ∷ cl.Minus ∷ cl.Tilde ∷ cl.Bang ∷ cl.Sizeof ∷ cl.Alignof ∷ cl.Generic ∷ []); goes = (cl.String ∷ cl.LeftParen ∷ cl.TypeParen ∷ cl.LiteralParen ∷ cl.LeftBracket ∷ cl.Dot ∷ cl.Arrow ∷ cl.PlusPlus ∷ cl.MinusMinus ∷ cl.Ampersand ∷ cl.Star ∷ cl.Plus ∷ cl.Minus ∷ cl.Slash ∷ cl.Percent ∷ cl.ShiftLeft ∷ cl.ShiftRight ∷ cl.Less ∷ cl.Greater ∷ cl.LessEqual ∷ cl.GreaterEqual ∷ cl.EqualEqual ∷ cl.BangEqual ∷ cl.Caret ∷ cl.Bar ∷ cl.AndAnd ∷ cl.OrOr ∷ cl.Question ∷ cl.Comma ∷ cl.DesignationComma ∷ cl.Equal ∷ cl.StarEqual ∷ cl.SlashEqual ∷ cl.PercentEqual ∷ cl.PlusEqual ∷ cl.MinusEqual ∷ cl.ShiftLeftEqual ∷ cl.ShiftRightEqual ∷ cl.AmpersandEqual ∷ cl.CaretEqual ∷ cl.BarEqual ∷ []); shuns = None; flat = true } ∷
    -- Designation
    record { kinds = (387 ∷ []); openers = (385 ∷ []); suffixes = []; firsts = (cl.LeftBracket ∷ cl.Dot ∷ []); goes = []; shuns = None; flat = true } ∷
    -- DesignatorList
    record { kinds = (389 ∷ []); openers = (388 ∷ []); suffixes = []; firsts = (cl.LeftBracket ∷ cl.Dot ∷ []); goes = (cl.LeftBracket ∷ cl.Dot ∷ []); shuns = None; flat = true } ∷
    -- Designator
    record { kinds = (393 ∷ 395 ∷ []); openers = (390 ∷ []); suffixes = []; firsts = (cl.LeftBracket ∷ cl.Dot ∷ []); goes = []; shuns = None; flat = true } ∷
    -- StaticAssertDeclaration
    record { kinds = (403 ∷ []); openers = (396 ∷ []); suffixes = []; firsts = (cl.StaticAssert ∷ []); goes = []; shuns = None; flat = true } ∷
    -- Statement
    record { kinds = (409 ∷ 415 ∷ 420 ∷ 424 ∷ 429 ∷ 441 ∷ 448 ∷ 456 ∷ 463 ∷ 474 ∷ 482 ∷ 486 ∷ 488 ∷ 490 ∷ 493 ∷ 408 ∷ 414 ∷ 419 ∷ 436 ∷ 437 ∷ 440 ∷ 447 ∷ 462 ∷ 473 ∷ 481 ∷ []); openers = (404 ∷ 421 ∷ 427 ∷ 430 ∷ 449 ∷ 483 ∷ []); suffixes = []; firsts = (cl.Ident ∷ cl.IdentColon ∷ cl.TypedefName ∷ cl.TypedefColon ∷ cl.Constant ∷ cl.String ∷ cl.LeftParen ∷ cl.TypeParen ∷ cl.LiteralParen ∷ cl.LeftBrace ∷ cl.PlusPlus ∷ cl.MinusMinus ∷ cl.Ampersand ∷ cl.Star ∷ cl.Plus ∷ cl.Minus ∷ cl.Tilde ∷ cl.Bang ∷ cl.Semicolon ∷ cl.Sizeof ∷ cl.Alignof ∷ cl.Generic ∷ cl.Default ∷ cl.Case ∷ cl.If ∷ cl.Switch ∷ cl.While ∷ cl.Do ∷ cl.For ∷ cl.Goto ∷ cl.Continue ∷ cl.Break ∷ cl.Return ∷ []); goes = []; shuns = None; flat = false } ∷
    -- LabeledStatement
    record { kinds = (409 ∷ 415 ∷ 420 ∷ 408 ∷ 414 ∷ 419 ∷ []); openers = (404 ∷ []); suffixes = []; firsts = (cl.IdentColon ∷ cl.TypedefColon ∷ cl.Default ∷ cl.Case ∷ []); goes = []; shuns = None; flat = false } ∷
    -- CompoundStatement
    record { kinds = (424 ∷ []); openers = (421 ∷ []); suffixes = []; firsts = (cl.LeftBrace ∷ []); goes = []; shuns = None; flat = false } ∷
    -- BlockItemList
    record { kinds = (426 ∷ []); openers = (425 ∷ []); suffixes = []; firsts = (cl.Ident ∷ cl.IdentColon ∷ cl.TypedefName ∷ cl.TypedefColon ∷ cl.Constant ∷ cl.String ∷ cl.LeftParen ∷ cl.TypeParen ∷ cl.LiteralParen ∷ cl.RightParen ∷ cl.LeftBracket ∷ cl.RightBracket ∷ cl.LeftBrace ∷ cl.Dot ∷ cl.Arrow ∷ cl.PlusPlus ∷ cl.MinusMinus ∷ cl.Ampersand ∷ cl.Star ∷ cl.StarBracket ∷ cl.Plus ∷ cl.Minus ∷ cl.Tilde ∷ cl.Bang ∷ cl.Slash ∷ cl.Percent ∷ cl.ShiftLeft ∷ cl.ShiftRight ∷ cl.Less ∷ cl.Greater ∷ cl.LessEqual ∷ cl.GreaterEqual ∷ cl.EqualEqual ∷ cl.BangEqual ∷ cl.Caret ∷ cl.Bar ∷ cl.AndAnd ∷ cl.OrOr ∷ cl.Question ∷ cl.Colon ∷ cl.Semicolon ∷ cl.Ellipsis ∷ cl.Comma ∷ cl.LastComma ∷ cl.DesignationComma ∷ cl.Equal ∷ cl.StarEqual ∷ cl.SlashEqual ∷ cl.PercentEqual ∷ cl.PlusEqual ∷ cl.MinusEqual ∷ cl.ShiftLeftEqual ∷ cl.ShiftRightEqual ∷ cl.AmpersandEqual ∷ cl.CaretEqual ∷ cl.BarEqual ∷ cl.Sizeof ∷ cl.Alignof ∷ cl.Generic ∷ cl.Default ∷ cl.Case ∷ cl.If ∷ cl.Else ∷ cl.Switch ∷ cl.While ∷ cl.Do ∷ cl.For ∷ cl.Goto ∷ cl.Continue ∷ cl.Break ∷ cl.Return ∷ cl.StaticAssert ∷ cl.Typedef ∷ cl.Extern ∷ cl.Static ∷ cl.ThreadLocal ∷ cl.Auto ∷ cl.Register ∷ cl.Void ∷ cl.Char ∷ cl.Short ∷ cl.Int ∷ cl.Long ∷ cl.Float ∷ cl.Double ∷ cl.Signed ∷ cl.Unsigned ∷ cl.Bool ∷ cl.Struct ∷ cl.Union ∷ cl.Enum ∷ cl.Const ∷ cl.Restrict ∷ cl.Volatile ∷ cl.Atomic ∷ cl.AtomicParen ∷ cl.Inline ∷ cl.Noreturn ∷ cl.Alignas ∷ cl.Other ∷ []); goes = (cl.Ident ∷ cl.IdentColon ∷ cl.TypedefName ∷ cl.TypedefColon ∷ cl.Constant ∷ cl.String ∷ cl.LeftParen ∷ cl.TypeParen ∷ cl.LiteralParen ∷ cl.RightParen ∷ cl.LeftBracket ∷ cl.RightBracket ∷ cl.LeftBrace ∷ cl.Dot ∷ cl.Arrow ∷ cl.PlusPlus ∷ cl.MinusMinus ∷ cl.Ampersand ∷ cl.Star ∷ cl.StarBracket ∷ cl.Plus ∷ cl.Minus ∷ cl.Tilde ∷ cl.Bang ∷ cl.Slash ∷ cl.Percent ∷ cl.ShiftLeft ∷ cl.ShiftRight ∷ cl.Less ∷ cl.Greater ∷ cl.LessEqual ∷ cl.GreaterEqual ∷ cl.EqualEqual ∷ cl.BangEqual ∷ cl.Caret ∷ cl.Bar ∷ cl.AndAnd ∷ cl.OrOr ∷ cl.Question ∷ cl.Colon ∷ cl.Semicolon ∷ cl.Ellipsis ∷ cl.Comma ∷ cl.LastComma ∷ cl.DesignationComma ∷ cl.Equal ∷ cl.StarEqual ∷ cl.SlashEqual ∷ cl.PercentEqual ∷ cl.PlusEqual ∷ cl.MinusEqual ∷ cl.ShiftLeftEqual ∷ cl.ShiftRightEqual ∷ cl.AmpersandEqual ∷ cl.CaretEqual ∷ cl.BarEqual ∷ cl.Sizeof ∷ cl.Alignof ∷ cl.Generic ∷ cl.Default ∷ cl.Case ∷ cl.If ∷ cl.Else ∷ cl.Switch ∷ cl.While ∷ cl.Do ∷ cl.For ∷ cl.Goto ∷ cl.Continue ∷ cl.Break ∷ cl.Return ∷ cl.StaticAssert ∷ cl.Typedef ∷ cl.Extern ∷ cl.Static ∷ cl.ThreadLocal ∷ cl.Auto ∷ cl.Register ∷ cl.Void ∷ cl.Char ∷ cl.Short ∷ cl.Int ∷ cl.Long ∷ cl.Float ∷ cl.Double ∷ cl.Signed ∷ cl.Unsigned ∷ cl.Bool ∷ cl.Struct ∷ cl.Union ∷ cl.Enum ∷ cl.Const ∷ cl.Restrict ∷ cl.Volatile ∷ cl.Atomic ∷ cl.AtomicParen ∷ cl.Inline ∷ cl.Noreturn ∷ cl.Alignas ∷ cl.Other ∷ []); shuns = None; flat = false } ∷
    -- BlockItem
    record { kinds = (403 ∷ 500 ∷ 409 ∷ 415 ∷ 420 ∷ 408 ∷ 414 ∷ 419 ∷ 424 ∷ 496 ∷ 441 ∷ 448 ∷ 436 ∷ 437 ∷ 440 ∷ 447 ∷ 456 ∷ 463 ∷ 474 ∷ 482 ∷ 462 ∷ 473 ∷ 481 ∷ 486 ∷ 488 ∷ 490 ∷ 493 ∷ []); openers = (396 ∷ 497 ∷ 404 ∷ 421 ∷ 494 ∷ 430 ∷ 449 ∷ 483 ∷ []); suffixes = []; firsts = (cl.Ident ∷ cl.IdentColon ∷ cl.TypedefName ∷ cl.TypedefColon ∷ cl.Constant ∷ cl.String ∷ cl.LeftParen ∷ cl.TypeParen ∷ cl.LiteralParen ∷ cl.LeftBrace ∷ cl.PlusPlus ∷ cl.MinusMinus ∷ cl.Ampersand ∷ cl.Star ∷ cl.Plus ∷ cl.Minus ∷ cl.Tilde ∷ cl.Bang ∷ cl.Semicolon ∷ cl.Sizeof ∷ cl.Alignof ∷ cl.Generic ∷ cl.Default ∷ cl.Case ∷ cl.If ∷ cl.Switch ∷ cl.While ∷ cl.Do ∷ cl.For ∷ cl.Goto ∷ cl.Continue ∷ cl.Break ∷ cl.Return ∷ cl.StaticAssert ∷ cl.Typedef ∷ cl.Extern ∷ cl.Static ∷ cl.ThreadLocal ∷ cl.Auto ∷ cl.Register ∷ cl.Void ∷ cl.Char ∷ cl.Short ∷ cl.Int ∷ cl.Long ∷ cl.Float ∷ cl.Double ∷ cl.Signed ∷ cl.Unsigned ∷ cl.Bool ∷ cl.Struct ∷ cl.Union ∷ cl.Enum ∷ cl.Const ∷ cl.Restrict ∷ cl.Volatile ∷ cl.Atomic ∷ cl.AtomicParen ∷ cl.Inline ∷ cl.Noreturn ∷ cl.Alignas ∷ []); goes = []; shuns = None; flat = false } ∷
    -- ExpressionStatement
    record { kinds = (429 ∷ []); openers = (427 ∷ []); suffixes = []; firsts = (cl.Ident ∷ cl.TypedefName ∷ cl.Constant ∷ cl.String ∷ cl.LeftParen ∷ cl.TypeParen ∷ cl.LiteralParen ∷ cl.PlusPlus ∷ cl.MinusMinus ∷ cl.Ampersand ∷ cl.Star ∷ cl.Plus ∷ cl.Minus ∷ cl.Tilde ∷ cl.Bang ∷ cl.Semicolon ∷ cl.Sizeof ∷ cl.Alignof ∷ cl.Generic ∷ []); goes = []; shuns = None; flat = true } ∷
    -- SelectionStatement
    record { kinds = (441 ∷ 448 ∷ 436 ∷ 437 ∷ 440 ∷ 447 ∷ []); openers = (430 ∷ []); suffixes = []; firsts = (cl.If ∷ cl.Switch ∷ []); goes = []; shuns = None; flat = false } ∷
    -- IterationStatement
    record { kinds = (456 ∷ 463 ∷ 474 ∷ 482 ∷ 462 ∷ 473 ∷ 481 ∷ []); openers = (449 ∷ []); suffixes = []; firsts = (cl.While ∷ cl.Do ∷ cl.For ∷ []); goes = []; shuns = None; flat = false } ∷
    -- JumpStatement
    record { kinds = (486 ∷ 488 ∷ 490 ∷ 493 ∷ []); openers = (483 ∷ []); suffixes = []; firsts = (cl.Goto ∷ cl.Continue ∷ cl.Break ∷ cl.Return ∷ []); goes = []; shuns = None; flat = true } ∷
    -- FunctionDefinition
    record { kinds = (504 ∷ []); openers = (501 ∷ []); suffixes = []; firsts = (cl.TypedefName ∷ cl.TypedefColon ∷ cl.Typedef ∷ cl.Extern ∷ cl.Static ∷ cl.ThreadLocal ∷ cl.Auto ∷ cl.Register ∷ cl.Void ∷ cl.Char ∷ cl.Short ∷ cl.Int ∷ cl.Long ∷ cl.Float ∷ cl.Double ∷ cl.Signed ∷ cl.Unsigned ∷ cl.Bool ∷ cl.Struct ∷ cl.Union ∷ cl.Enum ∷ cl.Const ∷ cl.Restrict ∷ cl.Volatile ∷ cl.Atomic ∷ cl.AtomicParen ∷ cl.Inline ∷ cl.Noreturn ∷ cl.Alignas ∷ []); goes = []; shuns = None; flat = false } ∷
    -- OtherSpecifier
    record { kinds = (173 ∷ 174 ∷ 175 ∷ 176 ∷ 177 ∷ 178 ∷ 237 ∷ 238 ∷ 239 ∷ 240 ∷ 242 ∷ 243 ∷ 248 ∷ 251 ∷ []); openers = (172 ∷ 236 ∷ 241 ∷ 244 ∷ []); suffixes = []; firsts = (cl.Typedef ∷ cl.Extern ∷ cl.Static ∷ cl.ThreadLocal ∷ cl.Auto ∷ cl.Register ∷ cl.Const ∷ cl.Restrict ∷ cl.Volatile ∷ cl.Atomic ∷ cl.Inline ∷ cl.Noreturn ∷ cl.Alignas ∷ []); goes = []; shuns = None; flat = true } ∷
    -- LaterTypeSpecifier
    record { kinds = (235 ∷ 192 ∷ 195 ∷ 219 ∷ 222 ∷ 224 ∷ 180 ∷ 181 ∷ 182 ∷ 183 ∷ 184 ∷ 185 ∷ 186 ∷ 187 ∷ 188 ∷ 189 ∷ []); openers = (231 ∷ 190 ∷ 217 ∷ 179 ∷ []); suffixes = []; firsts = (cl.Void ∷ cl.Char ∷ cl.Short ∷ cl.Int ∷ cl.Long ∷ cl.Float ∷ cl.Double ∷ cl.Signed ∷ cl.Unsigned ∷ cl.Bool ∷ cl.Struct ∷ cl.Union ∷ cl.Enum ∷ cl.AtomicParen ∷ []); goes = (cl.LeftBrace ∷ []); shuns = None; flat = true } ∷
    -- LaterSpecifier
    record { kinds = (173 ∷ 174 ∷ 175 ∷ 176 ∷ 177 ∷ 178 ∷ 237 ∷ 238 ∷ 239 ∷ 240 ∷ 242 ∷ 243 ∷ 248 ∷ 251 ∷ 235 ∷ 192 ∷ 195 ∷ 219 ∷ 222 ∷ 224 ∷ 180 ∷ 181 ∷ 182 ∷ 183 ∷ 184 ∷ 185 ∷ 186 ∷ 187 ∷ 188 ∷ 189 ∷ []); openers = (172 ∷ 236 ∷ 241 ∷ 244 ∷ 231 ∷ 190 ∷ 217 ∷ 179 ∷ []); suffixes = []; firsts = (cl.Typedef ∷ cl.Extern ∷ cl.Static ∷ cl.ThreadLocal ∷ cl.Auto ∷ cl.Register ∷ cl.Void ∷ cl.Char ∷ cl.Short ∷ cl.Int ∷ cl.Long ∷ cl.Float ∷ cl.Double ∷ cl.Signed ∷ cl.Unsigned ∷ cl.Bool ∷ cl.Struct ∷ cl.Union ∷ cl.Enum ∷ cl.Const ∷ cl.Restrict ∷ cl.Volatile ∷ cl.Atomic ∷ cl.AtomicParen ∷ cl.Inline ∷ cl.Noreturn ∷ cl.Alignas ∷ []); goes = (cl.LeftBrace ∷ []); shuns = None; flat = true } ∷
    -- LaterQualifier
    record { kinds = (237 ∷ 238 ∷ 239 ∷ 240 ∷ 235 ∷ 192 ∷ 195 ∷ 219 ∷ 222 ∷ 224 ∷ 180 ∷ 181 ∷ 182 ∷ 183 ∷ 184 ∷ 185 ∷ 186 ∷ 187 ∷ 188 ∷ 189 ∷ []); openers = (236 ∷ 231 ∷ 190 ∷ 217 ∷ 179 ∷ []); suffixes = []; firsts = (cl.Void ∷ cl.Char ∷ cl.Short ∷ cl.Int ∷ cl.Long ∷ cl.Float ∷ cl.Double ∷ cl.Signed ∷ cl.Unsigned ∷ cl.Bool ∷ cl.Struct ∷ cl.Union ∷ cl.Enum ∷ cl.Const ∷ cl.Restrict ∷ cl.Volatile ∷ cl.Atomic ∷ cl.AtomicParen ∷ []); goes = (cl.LeftBrace ∷ []); shuns = None; flat = true } ∷
    -- ParameterDeclarator
    record { kinds = (287 ∷ 291 ∷ 316 ∷ 319 ∷ 321 ∷ 325 ∷ 328 ∷ 331 ∷ 284 ∷ []); openers = (286 ∷ 332 ∷ []); suffixes = (311 ∷ 281 ∷ []); firsts = (cl.Ident ∷ cl.IdentColon ∷ cl.TypedefName ∷ cl.TypedefColon ∷ cl.LeftParen ∷ cl.TypeParen ∷ cl.LiteralParen ∷ cl.LeftBracket ∷ cl.Star ∷ []); goes = (cl.LeftParen ∷ cl.TypeParen ∷ cl.LiteralParen ∷ cl.LeftBracket ∷ []); shuns = None; flat = true } ∷
    -- DirectParameterDeclarator
    record { kinds = (287 ∷ 291 ∷ 316 ∷ 319 ∷ 321 ∷ 325 ∷ 328 ∷ 331 ∷ []); openers = (286 ∷ []); suffixes = (311 ∷ []); firsts = (cl.Ident ∷ cl.IdentColon ∷ cl.TypedefName ∷ cl.TypedefColon ∷ cl.LeftParen ∷ cl.TypeParen ∷ cl.LiteralParen ∷ cl.LeftBracket ∷ []); goes = (cl.LeftParen ∷ cl.TypeParen ∷ cl.LiteralParen ∷ cl.LeftBracket ∷ []); shuns = None; flat = true } ∷
    -- AnyDeclarator
    record { kinds = (287 ∷ 291 ∷ 316 ∷ 319 ∷ 321 ∷ 325 ∷ 328 ∷ 331 ∷ 284 ∷ 333 ∷ 334 ∷ 335 ∷ 293 ∷ 294 ∷ 298 ∷ 301 ∷ 305 ∷ 307 ∷ 310 ∷ 359 ∷ 362 ∷ 366 ∷ 368 ∷ 370 ∷ 373 ∷ 285 ∷ []); openers = (286 ∷ 332 ∷ []); suffixes = (311 ∷ 281 ∷ 354 ∷ []); firsts = (cl.Ident ∷ cl.IdentColon ∷ cl.TypedefName ∷ cl.TypedefColon ∷ cl.LeftParen ∷ cl.TypeParen ∷ cl.LiteralParen ∷ cl.LeftBracket ∷ cl.Star ∷ []); goes = (cl.Ident ∷ cl.IdentColon ∷ cl.TypedefName ∷ cl.TypedefColon ∷ cl.LeftParen ∷ cl.TypeParen ∷ cl.LiteralParen ∷ cl.LeftBracket ∷ cl.Star ∷ cl.Const ∷ cl.Restrict ∷ cl.Volatile ∷ cl.Atomic ∷ []); shuns = None; flat = true } ∷
    -- DirectAnyDeclarator
    record { kinds = (287 ∷ 291 ∷ 316 ∷ 319 ∷ 321 ∷ 325 ∷ 328 ∷ 331 ∷ 293 ∷ 294 ∷ 298 ∷ 301 ∷ 305 ∷ 307 ∷ 310 ∷ 359 ∷ 362 ∷ 366 ∷ 368 ∷ 370 ∷ 373 ∷ []); openers = (286 ∷ []); suffixes = (311 ∷ 354 ∷ []); firsts = (cl.Ident ∷ cl.IdentColon ∷ cl.TypedefName ∷ cl.TypedefColon ∷ cl.LeftParen ∷ cl.TypeParen ∷ cl.LiteralParen ∷ cl.LeftBracket ∷ []); goes = (cl.LeftParen ∷ cl.TypeParen ∷ cl.LiteralParen ∷ cl.LeftBracket ∷ []); shuns = None; flat = true } ∷
    -- ClosedStatement
    record { kinds = (409 ∷ 415 ∷ 420 ∷ 424 ∷ 429 ∷ 441 ∷ 448 ∷ 456 ∷ 463 ∷ 474 ∷ 482 ∷ 486 ∷ 488 ∷ 490 ∷ 493 ∷ []); openers = (404 ∷ 421 ∷ 427 ∷ 430 ∷ 449 ∷ 483 ∷ []); suffixes = []; firsts = (cl.Ident ∷ cl.IdentColon ∷ cl.TypedefName ∷ cl.TypedefColon ∷ cl.Constant ∷ cl.String ∷ cl.LeftParen ∷ cl.TypeParen ∷ cl.LiteralParen ∷ cl.LeftBrace ∷ cl.PlusPlus ∷ cl.MinusMinus ∷ cl.Ampersand ∷ cl.Star ∷ cl.Plus ∷ cl.Minus ∷ cl.Tilde ∷ cl.Bang ∷ cl.Semicolon ∷ cl.Sizeof ∷ cl.Alignof ∷ cl.Generic ∷ cl.Default ∷ cl.Case ∷ cl.If ∷ cl.Switch ∷ cl.While ∷ cl.Do ∷ cl.For ∷ cl.Goto ∷ cl.Continue ∷ cl.Break ∷ cl.Return ∷ []); goes = []; shuns = None; flat = false } ∷
    -- OpenStatement
    record { kinds = (408 ∷ 414 ∷ 419 ∷ 436 ∷ 437 ∷ 440 ∷ 447 ∷ 462 ∷ 473 ∷ 481 ∷ []); openers = (404 ∷ 430 ∷ 449 ∷ []); suffixes = []; firsts = (cl.IdentColon ∷ cl.TypedefColon ∷ cl.Default ∷ cl.Case ∷ cl.If ∷ cl.Switch ∷ cl.While ∷ cl.Do ∷ cl.For ∷ []); goes = []; shuns = None; flat = false } ∷
    -- ClosedLabeledStatement
    record { kinds = (409 ∷ 415 ∷ 420 ∷ []); openers = (404 ∷ []); suffixes = []; firsts = (cl.IdentColon ∷ cl.TypedefColon ∷ cl.Default ∷ cl.Case ∷ []); goes = []; shuns = None; flat = false } ∷
    -- OpenLabeledStatement
    record { kinds = (408 ∷ 414 ∷ 419 ∷ []); openers = (404 ∷ []); suffixes = []; firsts = (cl.IdentColon ∷ cl.TypedefColon ∷ cl.Default ∷ cl.Case ∷ []); goes = []; shuns = None; flat = false } ∷
    -- ClosedSelectionStatement
    record { kinds = (441 ∷ 448 ∷ []); openers = (430 ∷ []); suffixes = []; firsts = (cl.If ∷ cl.Switch ∷ []); goes = []; shuns = None; flat = false } ∷
    -- OpenSelectionStatement
    record { kinds = (436 ∷ 437 ∷ 440 ∷ 447 ∷ []); openers = (430 ∷ []); suffixes = []; firsts = (cl.If ∷ cl.Switch ∷ []); goes = []; shuns = None; flat = false } ∷
    -- ClosedIterationStatement
    record { kinds = (456 ∷ 463 ∷ 474 ∷ 482 ∷ []); openers = (449 ∷ []); suffixes = []; firsts = (cl.While ∷ cl.Do ∷ cl.For ∷ []); goes = []; shuns = None; flat = false } ∷
    -- OpenIterationStatement
    record { kinds = (462 ∷ 473 ∷ 481 ∷ []); openers = (449 ∷ []); suffixes = []; firsts = (cl.While ∷ cl.Do ∷ cl.For ∷ []); goes = []; shuns = None; flat = false } ∷
    -- UnlabelledExpression
    record { kinds = (14 ∷ 2 ∷ 3 ∷ 4 ∷ 7 ∷ 28 ∷ 31 ∷ 33 ∷ 35 ∷ 36 ∷ 37 ∷ 44 ∷ 46 ∷ 51 ∷ 53 ∷ 55 ∷ 57 ∷ 60 ∷ 64 ∷ 76 ∷ 80 ∷ 82 ∷ 84 ∷ 88 ∷ 90 ∷ 94 ∷ 96 ∷ 100 ∷ 102 ∷ 104 ∷ 106 ∷ 110 ∷ 112 ∷ 116 ∷ 120 ∷ 124 ∷ 128 ∷ 132 ∷ 138 ∷ 142 ∷ 158 ∷ []); openers = (8 ∷ 1 ∷ 38 ∷ 49 ∷ 72 ∷ []); suffixes = (24 ∷ 77 ∷ 85 ∷ 91 ∷ 97 ∷ 107 ∷ 113 ∷ 117 ∷ 121 ∷ 125 ∷ 129 ∷ 133 ∷ 139 ∷ 155 ∷ []); firsts = (cl.Ident ∷ cl.TypedefName ∷ cl.Constant ∷ cl.String ∷ cl.LeftParen ∷ cl.TypeParen ∷ cl.LiteralParen ∷ cl.PlusPlus ∷ cl.MinusMinus ∷ cl.Ampersand ∷ cl.Star ∷ cl.Plus ∷ cl.Minus ∷ cl.Tilde ∷ cl.Bang ∷ cl.Sizeof ∷ cl.Alignof ∷ cl.Generic ∷ []); goes = (cl.String ∷ cl.LeftParen ∷ cl.TypeParen ∷ cl.LiteralParen ∷ cl.LeftBracket ∷ cl.Dot ∷ cl.Arrow ∷ cl.PlusPlus ∷ cl.MinusMinus ∷ cl.Ampersand ∷ cl.Star ∷ cl.Plus ∷ cl.Minus ∷ cl.Slash ∷ cl.Percent ∷ cl.ShiftLeft ∷ cl.ShiftRight ∷ cl.Less ∷ cl.Greater ∷ cl.LessEqual ∷ cl.GreaterEqual ∷ cl.EqualEqual ∷ cl.BangEqual ∷ cl.Caret ∷ cl.Bar ∷ cl.AndAnd ∷ cl.OrOr ∷ cl.Question ∷ cl.Comma ∷ cl.Equal ∷ cl.StarEqual ∷ cl.SlashEqual ∷ cl.PercentEqual ∷ cl.PlusEqual ∷ cl.MinusEqual ∷ cl.ShiftLeftEqual ∷ cl.ShiftRightEqual ∷ cl.AmpersandEqual ∷ cl.CaretEqual ∷ cl.BarEqual ∷ []); shuns = Some te.Label; flat = true } ∷
    -- PlainExpression
    record { kinds = (14 ∷ 2 ∷ 3 ∷ 4 ∷ 7 ∷ 28 ∷ 31 ∷ 33 ∷ 35 ∷ 36 ∷ 37 ∷ 44 ∷ 46 ∷ 51 ∷ 53 ∷ 55 ∷ 57 ∷ 60 ∷ 64 ∷ 76 ∷ 80 ∷ 82 ∷ 84 ∷ 88 ∷ 90 ∷ 94 ∷ 96 ∷ 100 ∷ 102 ∷ 104 ∷ 106 ∷ 110 ∷ 112 ∷ 116 ∷ 120 ∷ 124 ∷ 128 ∷ 132 ∷ 138 ∷ 142 ∷ 158 ∷ []); openers = (8 ∷ 1 ∷ 38 ∷ 49 ∷ 72 ∷ []); suffixes = (24 ∷ 77 ∷ 85 ∷ 91 ∷ 97 ∷ 107 ∷ 113 ∷ 117 ∷ 121 ∷ 125 ∷ 129 ∷ 133 ∷ 139 ∷ 155 ∷ []); firsts = (cl.Ident ∷ cl.Constant ∷ cl.String ∷ cl.LeftParen ∷ cl.TypeParen ∷ cl.LiteralParen ∷ cl.PlusPlus ∷ cl.MinusMinus ∷ cl.Ampersand ∷ cl.Star ∷ cl.Plus ∷ cl.Minus ∷ cl.Tilde ∷ cl.Bang ∷ cl.Sizeof ∷ cl.Alignof ∷ cl.Generic ∷ []); goes = (cl.String ∷ cl.LeftParen ∷ cl.TypeParen ∷ cl.LiteralParen ∷ cl.LeftBracket ∷ cl.Dot ∷ cl.Arrow ∷ cl.PlusPlus ∷ cl.MinusMinus ∷ cl.Ampersand ∷ cl.Star ∷ cl.Plus ∷ cl.Minus ∷ cl.Slash ∷ cl.Percent ∷ cl.ShiftLeft ∷ cl.ShiftRight ∷ cl.Less ∷ cl.Greater ∷ cl.LessEqual ∷ cl.GreaterEqual ∷ cl.EqualEqual ∷ cl.BangEqual ∷ cl.Caret ∷ cl.Bar ∷ cl.AndAnd ∷ cl.OrOr ∷ cl.Question ∷ cl.Comma ∷ cl.Equal ∷ cl.StarEqual ∷ cl.SlashEqual ∷ cl.PercentEqual ∷ cl.PlusEqual ∷ cl.MinusEqual ∷ cl.ShiftLeftEqual ∷ cl.ShiftRightEqual ∷ cl.AmpersandEqual ∷ cl.CaretEqual ∷ cl.BarEqual ∷ []); shuns = Some te.Marked; flat = true } ∷
    -- BlockStatement
    record { kinds = (409 ∷ 415 ∷ 420 ∷ 408 ∷ 414 ∷ 419 ∷ 424 ∷ 496 ∷ 441 ∷ 448 ∷ 436 ∷ 437 ∷ 440 ∷ 447 ∷ 456 ∷ 463 ∷ 474 ∷ 482 ∷ 462 ∷ 473 ∷ 481 ∷ 486 ∷ 488 ∷ 490 ∷ 493 ∷ []); openers = (404 ∷ 421 ∷ 494 ∷ 430 ∷ 449 ∷ 483 ∷ []); suffixes = []; firsts = (cl.Ident ∷ cl.IdentColon ∷ cl.TypedefColon ∷ cl.Constant ∷ cl.String ∷ cl.LeftParen ∷ cl.TypeParen ∷ cl.LiteralParen ∷ cl.LeftBrace ∷ cl.PlusPlus ∷ cl.MinusMinus ∷ cl.Ampersand ∷ cl.Star ∷ cl.Plus ∷ cl.Minus ∷ cl.Tilde ∷ cl.Bang ∷ cl.Semicolon ∷ cl.Sizeof ∷ cl.Alignof ∷ cl.Generic ∷ cl.Default ∷ cl.Case ∷ cl.If ∷ cl.Switch ∷ cl.While ∷ cl.Do ∷ cl.For ∷ cl.Goto ∷ cl.Continue ∷ cl.Break ∷ cl.Return ∷ []); goes = []; shuns = None; flat = false } ∷
    -- BlockExpressionStatement
    record { kinds = (496 ∷ []); openers = (494 ∷ []); suffixes = []; firsts = (cl.Ident ∷ cl.Constant ∷ cl.String ∷ cl.LeftParen ∷ cl.TypeParen ∷ cl.LiteralParen ∷ cl.PlusPlus ∷ cl.MinusMinus ∷ cl.Ampersand ∷ cl.Star ∷ cl.Plus ∷ cl.Minus ∷ cl.Tilde ∷ cl.Bang ∷ cl.Semicolon ∷ cl.Sizeof ∷ cl.Alignof ∷ cl.Generic ∷ []); goes = []; shuns = None; flat = true } ∷
    -- BlockDeclaration
    record { kinds = (403 ∷ 500 ∷ []); openers = (396 ∷ 497 ∷ []); suffixes = []; firsts = (cl.TypedefName ∷ cl.StaticAssert ∷ cl.Typedef ∷ cl.Extern ∷ cl.Static ∷ cl.ThreadLocal ∷ cl.Auto ∷ cl.Register ∷ cl.Void ∷ cl.Char ∷ cl.Short ∷ cl.Int ∷ cl.Long ∷ cl.Float ∷ cl.Double ∷ cl.Signed ∷ cl.Unsigned ∷ cl.Bool ∷ cl.Struct ∷ cl.Union ∷ cl.Enum ∷ cl.Const ∷ cl.Restrict ∷ cl.Volatile ∷ cl.Atomic ∷ cl.AtomicParen ∷ cl.Inline ∷ cl.Noreturn ∷ cl.Alignas ∷ []); goes = []; shuns = None; flat = true } ∷
    -- BlockSpecifiers
    record { kinds = (164 ∷ 165 ∷ []); openers = (163 ∷ []); suffixes = []; firsts = (cl.TypedefName ∷ cl.Typedef ∷ cl.Extern ∷ cl.Static ∷ cl.ThreadLocal ∷ cl.Auto ∷ cl.Register ∷ cl.Void ∷ cl.Char ∷ cl.Short ∷ cl.Int ∷ cl.Long ∷ cl.Float ∷ cl.Double ∷ cl.Signed ∷ cl.Unsigned ∷ cl.Bool ∷ cl.Struct ∷ cl.Union ∷ cl.Enum ∷ cl.Const ∷ cl.Restrict ∷ cl.Volatile ∷ cl.Atomic ∷ cl.AtomicParen ∷ cl.Inline ∷ cl.Noreturn ∷ cl.Alignas ∷ []); goes = (cl.LeftBrace ∷ cl.Typedef ∷ cl.Extern ∷ cl.Static ∷ cl.ThreadLocal ∷ cl.Auto ∷ cl.Register ∷ cl.Void ∷ cl.Char ∷ cl.Short ∷ cl.Int ∷ cl.Long ∷ cl.Float ∷ cl.Double ∷ cl.Signed ∷ cl.Unsigned ∷ cl.Bool ∷ cl.Struct ∷ cl.Union ∷ cl.Enum ∷ cl.Const ∷ cl.Restrict ∷ cl.Volatile ∷ cl.Atomic ∷ cl.AtomicParen ∷ cl.Inline ∷ cl.Noreturn ∷ cl.Alignas ∷ []); shuns = Some te.Label; flat = true } ∷
    -- FunctionBody
    record { kinds = (508 ∷ []); openers = (505 ∷ []); suffixes = []; firsts = (cl.LeftBrace ∷ []); goes = []; shuns = None; flat = false } ∷
    []

-- the tokens that begin an item of a block or what is none: all but what ends the block
unfoldable pub entry_classes : List Class
entry_classes = cl.Ident ∷ cl.IdentColon ∷ cl.TypedefName ∷ cl.TypedefColon ∷ cl.Constant ∷ cl.String ∷ cl.LeftParen ∷ cl.TypeParen ∷ cl.LiteralParen ∷ cl.RightParen ∷ cl.LeftBracket ∷ cl.RightBracket ∷ cl.LeftBrace ∷ cl.Dot ∷ cl.Arrow ∷ cl.PlusPlus ∷ cl.MinusMinus ∷ cl.Ampersand ∷ cl.Star ∷ cl.StarBracket ∷ cl.Plus ∷ cl.Minus ∷ cl.Tilde ∷ cl.Bang ∷ cl.Slash ∷ cl.Percent ∷ cl.ShiftLeft ∷ cl.ShiftRight ∷ cl.Less ∷ cl.Greater ∷ cl.LessEqual ∷ cl.GreaterEqual ∷ cl.EqualEqual ∷ cl.BangEqual ∷ cl.Caret ∷ cl.Bar ∷ cl.AndAnd ∷ cl.OrOr ∷ cl.Question ∷ cl.Colon ∷ cl.Semicolon ∷ cl.Ellipsis ∷ cl.Comma ∷ cl.LastComma ∷ cl.DesignationComma ∷ cl.Equal ∷ cl.StarEqual ∷ cl.SlashEqual ∷ cl.PercentEqual ∷ cl.PlusEqual ∷ cl.MinusEqual ∷ cl.ShiftLeftEqual ∷ cl.ShiftRightEqual ∷ cl.AmpersandEqual ∷ cl.CaretEqual ∷ cl.BarEqual ∷ cl.Sizeof ∷ cl.Alignof ∷ cl.Generic ∷ cl.Default ∷ cl.Case ∷ cl.If ∷ cl.Else ∷ cl.Switch ∷ cl.While ∷ cl.Do ∷ cl.For ∷ cl.Goto ∷ cl.Continue ∷ cl.Break ∷ cl.Return ∷ cl.StaticAssert ∷ cl.Typedef ∷ cl.Extern ∷ cl.Static ∷ cl.ThreadLocal ∷ cl.Auto ∷ cl.Register ∷ cl.Void ∷ cl.Char ∷ cl.Short ∷ cl.Int ∷ cl.Long ∷ cl.Float ∷ cl.Double ∷ cl.Signed ∷ cl.Unsigned ∷ cl.Bool ∷ cl.Struct ∷ cl.Union ∷ cl.Enum ∷ cl.Const ∷ cl.Restrict ∷ cl.Volatile ∷ cl.Atomic ∷ cl.AtomicParen ∷ cl.Inline ∷ cl.Noreturn ∷ cl.Alignas ∷ cl.Other ∷ []

-- the places where the productions begin, by the numbers of these
unfoldable pub starts : List ℕ
starts = 1 ∷ 1 ∷ 1 ∷ 1 ∷ 8 ∷ 15 ∷ 17 ∷ 17 ∷ 24 ∷ 24 ∷ 24 ∷ 24 ∷ 24 ∷ 24 ∷ 38 ∷ 38 ∷ 47 ∷ 49 ∷ 49 ∷ 49 ∷ 49 ∷ 49 ∷ 49 ∷ 65 ∷ 65 ∷ 65 ∷ 65 ∷ 65 ∷ 65 ∷ 72 ∷ 77 ∷ 77 ∷ 77 ∷ 85 ∷ 85 ∷ 91 ∷ 91 ∷ 97 ∷ 97 ∷ 97 ∷ 97 ∷ 107 ∷ 107 ∷ 113 ∷ 117 ∷ 121 ∷ 125 ∷ 129 ∷ 133 ∷ 139 ∷ 143 ∷ 143 ∷ 143 ∷ 143 ∷ 143 ∷ 143 ∷ 143 ∷ 143 ∷ 143 ∷ 143 ∷ 143 ∷ 155 ∷ 159 ∷ 163 ∷ 163 ∷ 166 ∷ 168 ∷ 172 ∷ 172 ∷ 172 ∷ 172 ∷ 172 ∷ 172 ∷ 179 ∷ 179 ∷ 179 ∷ 179 ∷ 179 ∷ 179 ∷ 179 ∷ 179 ∷ 179 ∷ 179 ∷ 190 ∷ 190 ∷ 196 ∷ 196 ∷ 199 ∷ 201 ∷ 205 ∷ 205 ∷ 208 ∷ 210 ∷ 214 ∷ 217 ∷ 217 ∷ 217 ∷ 225 ∷ 227 ∷ 227 ∷ 231 ∷ 236 ∷ 236 ∷ 236 ∷ 236 ∷ 241 ∷ 241 ∷ 244 ∷ 244 ∷ 252 ∷ 255 ∷ 255 ∷ 260 ∷ 260 ∷ 260 ∷ 260 ∷ 260 ∷ 260 ∷ 281 ∷ 286 ∷ 286 ∷ 311 ∷ 311 ∷ 311 ∷ 311 ∷ 311 ∷ 311 ∷ 332 ∷ 332 ∷ 336 ∷ 338 ∷ 342 ∷ 344 ∷ 344 ∷ 349 ∷ 351 ∷ 281 ∷ 286 ∷ 286 ∷ 286 ∷ 286 ∷ 286 ∷ 354 ∷ 354 ∷ 354 ∷ 354 ∷ 286 ∷ 286 ∷ 354 ∷ 354 ∷ 374 ∷ 376 ∷ 376 ∷ 382 ∷ 385 ∷ 388 ∷ 390 ∷ 390 ∷ 396 ∷ 404 ∷ 404 ∷ 404 ∷ 404 ∷ 404 ∷ 404 ∷ 421 ∷ 425 ∷ 427 ∷ 430 ∷ 430 ∷ 430 ∷ 430 ∷ 430 ∷ 430 ∷ 449 ∷ 449 ∷ 449 ∷ 449 ∷ 449 ∷ 449 ∷ 449 ∷ 483 ∷ 483 ∷ 483 ∷ 483 ∷ 494 ∷ 497 ∷ 501 ∷ 505 ∷ []

-- the places before and after the `else` of an `if`, and after the statement that follows it
abbrev pub before_else : ℕ
before_else = 437

abbrev pub after_else : ℕ
after_else = 438

abbrev pub past_else : ℕ
past_else = 439

abbrev pub number : Nonterminal → ℕ
number nt.PrimaryExpression = 0
number nt.GenericSelection = 1
number nt.GenericAssocList = 2
number nt.GenericAssociation = 3
number nt.PostfixExpression = 4
number nt.ArgumentExpressionList = 5
number nt.UnaryExpression = 6
number nt.UnaryOperator = 7
number nt.CastExpression = 8
number nt.MultiplicativeExpression = 9
number nt.AdditiveExpression = 10
number nt.ShiftExpression = 11
number nt.RelationalExpression = 12
number nt.EqualityExpression = 13
number nt.AndExpression = 14
number nt.ExclusiveOrExpression = 15
number nt.InclusiveOrExpression = 16
number nt.LogicalAndExpression = 17
number nt.LogicalOrExpression = 18
number nt.ConditionalExpression = 19
number nt.AssignmentExpression = 20
number nt.AssignmentOperator = 21
number nt.Expression = 22
number nt.ConstantExpression = 23
number nt.Declaration = 24
number nt.DeclarationSpecifiers = 25
number nt.InitDeclaratorList = 26
number nt.InitDeclarator = 27
number nt.StorageClassSpecifier = 28
number nt.TypeSpecifier = 29
number nt.StructOrUnionSpecifier = 30
number nt.StructOrUnion = 31
number nt.StructDeclarationList = 32
number nt.StructDeclaration = 33
number nt.SpecifierQualifierList = 34
number nt.StructDeclaratorList = 35
number nt.StructDeclarator = 36
number nt.EnumSpecifier = 37
number nt.EnumeratorList = 38
number nt.Enumerator = 39
number nt.AtomicTypeSpecifier = 40
number nt.TypeQualifier = 41
number nt.FunctionSpecifier = 42
number nt.AlignmentSpecifier = 43
number nt.Declarator = 44
number nt.DirectDeclarator = 45
number nt.Pointer = 46
number nt.TypeQualifierList = 47
number nt.ParameterTypeList = 48
number nt.ParameterList = 49
number nt.ParameterDeclaration = 50
number nt.IdentifierList = 51
number nt.TypeName = 52
number nt.AbstractDeclarator = 53
number nt.DirectAbstractDeclarator = 54
number nt.TypedefName = 55
number nt.Initializer = 56
number nt.InitializerList = 57
number nt.Designation = 58
number nt.DesignatorList = 59
number nt.Designator = 60
number nt.StaticAssertDeclaration = 61
number nt.Statement = 62
number nt.LabeledStatement = 63
number nt.CompoundStatement = 64
number nt.BlockItemList = 65
number nt.BlockItem = 66
number nt.ExpressionStatement = 67
number nt.SelectionStatement = 68
number nt.IterationStatement = 69
number nt.JumpStatement = 70
number nt.FunctionDefinition = 71
number nt.OtherSpecifier = 72
number nt.LaterTypeSpecifier = 73
number nt.LaterSpecifier = 74
number nt.LaterQualifier = 75
number nt.ParameterDeclarator = 76
number nt.DirectParameterDeclarator = 77
number nt.AnyDeclarator = 78
number nt.DirectAnyDeclarator = 79
number nt.ClosedStatement = 80
number nt.OpenStatement = 81
number nt.ClosedLabeledStatement = 82
number nt.OpenLabeledStatement = 83
number nt.ClosedSelectionStatement = 84
number nt.OpenSelectionStatement = 85
number nt.ClosedIterationStatement = 86
number nt.OpenIterationStatement = 87
number nt.UnlabelledExpression = 88
number nt.PlainExpression = 89
number nt.BlockStatement = 90
number nt.BlockExpressionStatement = 91
number nt.BlockDeclaration = 92
number nt.BlockSpecifiers = 93
number nt.FunctionBody = 94

abbrev pub place_of : Option Place → Place
place_of None = nowhere
place_of (Some p) = p

abbrev pub goal_of : Option Goal → Goal
goal_of None = nothing
goal_of (Some g) = g

unfoldable pub place : ℕ → Place
place q = place_of (slice_get places q)

unfoldable pub goal : ℕ → Goal
goal g = goal_of (slice_get goals g)

unfoldable pub edges : ℕ → List Edge
edges q = (place q).edges

unfoldable pub name_of : ℕ → Option Label
name_of q = (place q).label

unfoldable pub bar_of : ℕ → Option Terminal
bar_of q = (place q).bar

-- whether the node that may end there is a block
unfoldable pub scoped : ℕ → Bool
scoped q = (place q).scoped

unfoldable pub bars : ℕ → List Class
bars q = barred (place q).bar

unfoldable pub corner : ℕ → Option Head
corner q = (place q).corner

unfoldable pub turning : ℕ → Option Ways
turning q = (place q).turning

unfoldable pub is_named : ℕ → Bool
is_named q = (place q).named

unfoldable pub home : ℕ → ℕ
home q = (place q).home

unfoldable pub ends : ℕ → List Class
ends q = (place q).ends

unfoldable pub items : ℕ → List Item
items q = (place q).items

unfoldable pub kinds : Nonterminal → List ℕ
kinds g = (goal (number g)).kinds

unfoldable pub openers : Nonterminal → List ℕ
openers g = (goal (number g)).openers

unfoldable pub suffixes : Nonterminal → List ℕ
suffixes g = (goal (number g)).suffixes

unfoldable pub firsts : Nonterminal → List Class
firsts g = (goal (number g)).firsts

unfoldable pub goes : Nonterminal → List Class
goes g = (goal (number g)).goes

unfoldable pub flat : ℕ → Bool
flat q = (place q).flat

unfoldable pub flat_goal : Nonterminal → Bool
flat_goal g = (goal (number g)).flat

unfoldable pub shunned : Nonterminal → Option Terminal
shunned g = (goal (number g)).shuns

-- the place after a part
abbrev pub turned : Option Ways → ℕ → Bool → ℕ
turned None q b = q
turned (Some w) q b = cond b w.named w.other

unfoldable pub turn : ℕ → ℕ → ℕ
turn q z = turned (turning q) q (is_named z)

-- the place after what stands first at a place
abbrev pub next_by : Option Edge → ℕ → ℕ
next_by None q = q
next_by (Some e) q = e.next

-- the lists as the code has them
abbrev edges_in : List Place → List Edge
edges_in [] = []
edges_in (p ∷ ps) = p.edges ++ edges_in ps

abbrev flat_map : {X : Type 0} → (Goal → List X) → List Goal → List X
flat_map f [] = []
flat_map f (g ∷ gs) = f g ++ flat_map f gs

unfoldable pub all_edges : List Edge
all_edges = edges_in places

unfoldable pub all_kinds : List ℕ
all_kinds = flat_map (λ g. g.kinds) goals

unfoldable pub all_openers : List ℕ
all_openers = flat_map (λ g. g.openers) goals

unfoldable pub all_suffixes : List ℕ
all_suffixes = flat_map (λ g. g.suffixes) goals

abbrev rows_from : ℕ → List Place → List Row
rows_from n [] = []
rows_from n (p ∷ ps) = record { first = n; last = n + length p.edges; label = p.label; bar = p.bar; scoped = p.scoped; corner = p.corner; turning = p.turning; named = p.named } ∷ rows_from (n + length p.edges) ps

abbrev span : ℕ → ℕ → Span
span n k = record { from = n; to = n + k }

abbrev goal_rows_from : ℕ → ℕ → ℕ → List Goal → List GoalRow
goal_rows_from a b c [] = []
goal_rows_from a b c (g ∷ gs) =
    record { kinds = span a (length g.kinds); openers = span b (length g.openers); suffixes = span c (length g.suffixes); shuns = g.shuns }
    ∷ goal_rows_from (a + length g.kinds) (b + length g.openers) (c + length g.suffixes) gs

unfoldable pub rows : List Row
rows = rows_from 0 places

unfoldable pub goal_rows : List GoalRow
goal_rows = goal_rows_from 0 0 0 goals
