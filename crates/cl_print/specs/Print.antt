-- Types as C writes them (N1570 6.7.6, 6.7.7): a declarator begins as the name, each layer puts its part round it, and the base
-- goes before it.
use Rattle.std.specs.Prelude.{ℕ, ◌==◌, if◌then◌else◌, Bool, true, false, List, [], ◌∷◌, ◌++◌, map, Option, Some, None, codes}
use Rattle.std.specs.Fmt.{decimal}
use Rattle.cl_types.specs.declared.types.Basic.{Basic}
use Rattle.cl_types.specs.declared.types.Basic.TheVariants as basic_type
use Rattle.cl_types.specs.declared.types.Length.{Length}
use Rattle.cl_types.specs.declared.types.Length.TheVariants.{Fixed, Unsized, Variable, Unknown}
use Rattle.cl_types.specs.declared.types.TagWord.{TagWord}
use Rattle.cl_types.specs.declared.types.TagWord.TheVariants.{Struct, Union, Enum}
use Rattle.cl_types.specs.declared.types.CType.{CType}
use Rattle.cl_types.specs.declared.types.CType.TheFolds.{fold-CType, fold-Params}
use Rattle.cl_types.specs.declared.types.CType.TheOpen.{CType-F}
use Rattle.cl_types.specs.declared.types.Params.{Params}
use Rattle.cl_types.specs.Form.{Form, Form as f, form, listed}

abbrev pub basic_word : Basic → List ℕ
basic_word basic_type.Bool = codes "_Bool"
basic_word basic_type.Char = codes "char"
basic_word basic_type.SChar = codes "signed char"
basic_word basic_type.UChar = codes "unsigned char"
basic_word basic_type.Short = codes "short"
basic_word basic_type.UShort = codes "unsigned short"
basic_word basic_type.Int = codes "int"
basic_word basic_type.UInt = codes "unsigned int"
basic_word basic_type.Long = codes "long"
basic_word basic_type.ULong = codes "unsigned long"
basic_word basic_type.LLong = codes "long long"
basic_word basic_type.ULLong = codes "unsigned long long"
basic_word basic_type.Float = codes "float"
basic_word basic_type.Double = codes "double"
basic_word basic_type.LDouble = codes "long double"

-- qualifiers, joined by a space
abbrev pub qualifier_words : ℕ → List ℕ
qualifier_words q =
    if q == 1 then codes "const" else if q == 2 then codes "volatile" else if q == 3 then codes "const volatile"
    else if q == 4 then codes "restrict" else if q == 5 then codes "const restrict" else if q == 6 then codes "volatile restrict"
    else if q == 7 then codes "const volatile restrict" else []

abbrev pub tag_word : TagWord → List ℕ
tag_word Struct = codes "struct "
tag_word Union = codes "union "
tag_word Enum = codes "enum "

abbrev pub tag_name : Option (List ℕ) → List ℕ
tag_name None = codes "(unnamed)"
tag_name (Some name) = name

abbrev pub length_text : Length → List ℕ
length_text (Fixed n) = codes "[" ++ (decimal n ++ codes "]")
length_text Unsized = codes "[]"
length_text Variable = codes "[*]"
length_text Unknown = codes "[?]"

abbrev pub gap : List ℕ → List ℕ
gap [] = []
gap (c ∷ cs) = codes " "

-- a space, where what stands on both sides isn't empty
abbrev pub between : List ℕ → List ℕ → List ℕ
between [] d = []
between (c ∷ cs) d = gap d

-- qualifiers, a base, and a declarator
abbrev pub based : ℕ → List ℕ → List ℕ → List ℕ
based q base d = qualifier_words q ++ (gap (qualifier_words q) ++ (base ++ (gap d ++ d)))

-- a pointer with its qualifiers; in parentheses where it points to an array or a function
abbrev pub star : ℕ → List ℕ → List ℕ
star q d = codes "*" ++ (qualifier_words q ++ (between (qualifier_words q) d ++ d))

abbrev pub pointer_declarator : Bool → ℕ → List ℕ → List ℕ
pointer_declarator wraps q d = if wraps then codes "(" ++ (star q d ++ codes ")") else star q d

abbrev pub separator : Bool → List ℕ
separator first = if first then [] else codes ", "

-- the parameters that are left, and the end of their list
abbrev pub ending : Bool → Bool → List ℕ
ending first variadic = if variadic then separator first ++ codes "..." else (if first then codes "void" else [])

abbrev pub parameters : Bool → List (List ℕ) → Bool → List ℕ
parameters first [] variadic = ending first variadic
parameters first (x ∷ xs) variadic = separator first ++ (x ++ parameters false xs variadic)

-- what a type within another gives: its text with these qualifiers round this declarator; does it put its part behind the
-- declarator
pub record Printed : Type 0 where
  pub text : ℕ → List ℕ → List ℕ
  pub wraps : Bool

abbrev pub parameters_text : Option (List Printed × Bool) → List ℕ
parameters_text None = []
parameters_text (Some p) = parameters true (map (λ t. t.text 0 []) p.0) p.1

abbrev pub text_by : CType-F Printed (Option (List Printed × Bool)) → Form Printed (Option (List Printed × Bool)) → ℕ → List ℕ → List ℕ
text_by (CType-F.Tag n w name) _ q d = based q (tag_word w ++ tag_name name) d
text_by _ (f.Pointer t) q d = t.text 0 (pointer_declarator t.wraps q d)
text_by _ (f.Array t n) q d = t.text q (d ++ length_text n)
text_by _ (f.Function t ps) q d = t.text 0 (d ++ (codes "(" ++ (parameters_text ps ++ codes ")")))
text_by _ (f.Qualified r t) q d = t.text r d
text_by _ (f.Atomic t) q d = based q (codes "_Atomic(" ++ (t.text 0 [] ++ codes ")")) d
text_by _ (f.Arithmetic k) q d = based q (basic_word k) d
text_by _ f.Void q d = based q (codes "void") d
text_by _ _ q d = based q (codes "(error)") d

abbrev pub wraps_by : Form Printed (Option (List Printed × Bool)) → Bool
wraps_by (f.Array t n) = true
wraps_by (f.Function t ps) = true
wraps_by _ = false

abbrev pub printed_by : CType-F Printed (Option (List Printed × Bool)) → Printed
printed_by l = record { text = text_by l (form l); wraps = wraps_by (form l) }

abbrev pub printed : CType → Printed
printed = fold-CType Printed (Option (List Printed × Bool)) printed_by listed

-- a type with a name, or with an empty one
abbrev pub text_of : CType → List ℕ → List ℕ
text_of t name = (printed t).text 0 name

abbrev pub printed_params : Params → Option (List Printed × Bool)
printed_params = fold-Params Printed (Option (List Printed × Bool)) printed_by listed

abbrev pub spelled_each : List CType → List (List ℕ)
spelled_each ts = map (λ (t : Printed). t.text 0 []) (map printed ts)
