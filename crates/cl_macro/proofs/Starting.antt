-- The macros of the start: there is one list of them, and the last of a name may be looked for part by part.
use Rattle.std.proofs.Common.{◌≡◌, ℕ, Bool, true, false, List, [], ◌∷◌, ◌++◌, Option, Some, None, refl, ap, sym, ◌∙◌, subst}
use Rattle.std.proofs.lemmas.Bool.{both_ways}
use Rattle.std.specs.Prelude.{if◌then◌else◌, option_to_list}
use Rattle.std.specs.Option.{MatchOption}
use Rattle.cl_base.specs.declared.config.Define.{Define}
use Rattle.cl_base.specs.declared.macros.Macro.{Macro}
use Rattle.cl_base.specs.declared.token.Lexed.{Lexed}
use Rattle.cl_base.specs.declared.token.Token.{Token}
use Rattle.cl_lex.specs.Lexing.{Lexes}
use Rattle.cl_lex.proofs.Exists.{some_lexed}
use Rattle.cl_lex.proofs.Unique.{one_lexed}
use Rattle.cl_define.specs.Constraints.{is_valid}
use Rattle.cl_define.specs.Definitions.{Stands, object_like}
use Rattle.cl_macro.specs.Table.{is_name}
use Rattle.cl_macro.specs.Starting.{Comes, Given, none, more, last_of}

pub no_more : (ms : List Macro) → ms ++ [] ≡ ms
no_more [] = refl
no_more (m ∷ ms) = ap (λ ns. m ∷ ns) (no_more ms)

pub last_more : (xs ys : List Macro) (name : List ℕ) (found : Option Macro) → last_of (xs ++ ys) name found ≡ last_of ys name (last_of xs name found)
last_more [] ys name found = refl
last_more (m ∷ xs) ys name found = last_more xs ys name (if is_name m.name name then Some m else found)

-- what is told of the macro of a name and these tokens
abbrev Told : List ℕ → List Token → Option Macro → Type 0
Told name ts m = MatchOption m ((mac : Macro) → Stands name ts mac → ⊥) (Stands name ts)

one_told : (name : List ℕ) (ts : List Token) (m n : Option Macro) → Told name ts m → Told name ts n → m ≡ n
one_told name ts None None a b = refl
one_told name ts None (Some y) a b = absurd (a y b)
one_told name ts (Some x) None a b = absurd (b x a)
one_told name ts (Some x) (Some y) a b = ap Some (a.is ∙ sym b.is)

one_comes : (d : Define) (m n : Option Macro) → Comes d m → Comes d n → m ≡ n
one_comes d m n a b =
    let e : a.lexed ≡ b.lexed = one_lexed d.text a.lexed b.lexed a.lexes b.lexes in
    one_told d.name b.lexed.tokens m n (subst (λ (l : Lexed). Told d.name l.tokens m) e a.stands) b.stands

pub one_given : (ds : List Define) (xs ys : List Macro) → Given ds xs → Given ds ys → xs ≡ ys
one_given [] _ _ none none = refl
one_given (d ∷ ds) _ _ (more _ _ m ms a g) (more _ _ n ns b h) = λ i. option_to_list (one_comes d m n a b i) ++ one_given ds ms ns g h i

comes_by : (d : Define) (lexed : Lexed) → Lexes d.text lexed → (b : Bool) → is_valid (object_like None d.name lexed.tokens) ≡ b → (m : Option Macro) × Comes d m
comes_by d lexed lexes true e =
    (Some (object_like None d.name lexed.tokens), record { lexed = lexed; lexes = lexes; stands = record { is = refl; valid = e } })
comes_by d lexed lexes false e =
    (None, record { lexed = lexed; lexes = lexes; stands = λ mac s. both_ways (is_valid (object_like None d.name lexed.tokens)) e (sym (ap is_valid s.is) ∙ s.valid) })

some_comes : (d : Define) → (m : Option Macro) × Comes d m
some_comes d =
    let l = some_lexed d.text in
    comes_by d l.lexed l.lexes (is_valid (object_like None d.name l.lexed.tokens)) refl

pub some_given : (ds : List Define) → (ms : List Macro) × Given ds ms
some_given [] = ([], none)
some_given (d ∷ ds) =
    let one = some_comes d in
    let rest = some_given ds in
    (option_to_list one.0 ++ rest.0, more d ds one.0 rest.0 one.1 rest.1)
