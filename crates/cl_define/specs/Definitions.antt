-- What a `define` line defines, by its tokens behind `define` (N1570 6.10p1, 6.10.3).
use Rattle.std.specs.Prelude.{◌≡◌, ℕ, List, [], ◌∷◌, ◌++◌, Bool, true, false, Option, Some, None}
use Rattle.cl_base.specs.declared.token.Span.{Span}
use Rattle.cl_base.specs.declared.token.Token.{Token}
use Rattle.cl_base.specs.declared.macros.Macro.{Macro}
use Rattle.cl_base.specs.Tokens.{is_ident}
use Rattle.cl_define.specs.Words.{is_close, is_comma, is_dots, is_lparen}
use Rattle.cl_define.specs.Bodies.{replacement_list}
use Rattle.cl_define.specs.Constraints.{is_valid}

-- an object-like macro (6.10.3p9)
abbrev pub object_like : Option Span → List ℕ → List Token → Macro
object_like place name list = record { name = name; params = None; variadic = false; body = replacement_list list; place = place }

-- a function-like macro (6.10.3p10)
abbrev pub function_like : Option Span → List ℕ → List (List ℕ) → Bool → List Token → Macro
function_like place name params variadic list = record { name = name; params = Some params; variadic = variadic; body = replacement_list list; place = place }

-- identifier-list: identifiers, with a comma between each two
pub data IdentifierList : List Token → List (List ℕ) → Type 0 where
  one : (t : Token) → is_ident t.kind ≡ true → IdentifierList (t ∷ []) (t.text ∷ [])
  more : (t comma : Token) (ts : List Token) (names : List (List ℕ)) → is_ident t.kind ≡ true → is_comma comma ≡ true
      → IdentifierList ts names → IdentifierList (t ∷ (comma ∷ ts)) (t.text ∷ names)

-- what stands between the parentheses: an identifier-list or nothing; `...`; an identifier-list, a comma and `...`
pub data Parameters : List Token → List (List ℕ) → Bool → Type 0 where
  nothing : Parameters [] [] false
  identifiers : (ts : List Token) (names : List (List ℕ)) → IdentifierList ts names → Parameters ts names false
  ellipsis : (dots : Token) → is_dots dots ≡ true → Parameters (dots ∷ []) [] true
  both : (ts : List Token) (names : List (List ℕ)) (comma dots : Token) → IdentifierList ts names → is_comma comma ≡ true
      → is_dots dots ≡ true → Parameters (ts ++ comma ∷ (dots ∷ [])) names true

-- white space stands between an object-like macro's name and its replacement list (6.10.3p3)
abbrev pub stands_apart : List Token → Bool
stands_apart [] = true
stands_apart (t ∷ ts) = t.space

-- the line has one of the forms of 6.10p1, and this is what it defines
pub data Written : Option Span → List Token → Macro → Type 0 where
  object : (place : Option Span) (name : Token) (list : List Token) → is_ident name.kind ≡ true → stands_apart list ≡ true
      → Written place (name ∷ list) (object_like place name.text list)
  function : (place : Option Span) (name lparen : Token) (between : List Token) (close : Token) (list : List Token)
      (params : List (List ℕ)) (variadic : Bool) → is_ident name.kind ≡ true → is_lparen lparen ≡ true
      → Parameters between params variadic → is_close close ≡ true
      → Written place (name ∷ (lparen ∷ (between ++ close ∷ list))) (function_like place name.text params variadic list)

-- the line defines this macro, whose name is written there
pub record Defines (place : Span) (line : List Token) (mac : Macro) : Type 0 where
  pub written : Written (Some place) line mac
  pub valid : is_valid mac ≡ true

-- an object-like macro of this name and these tokens, which no text defines
pub record Stands (name : List ℕ) (list : List Token) (mac : Macro) : Type 0 where
  pub is : mac ≡ object_like None name list
  pub valid : is_valid mac ≡ true
