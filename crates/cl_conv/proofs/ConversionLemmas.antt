-- Laws of conversions, of which each case computes.
use Rattle.std.proofs.Common.{◌≡◌, ◌∙◌, true, Option, Some, None, refl, ap, rules}
use Rattle.cl_types.specs.declared.types.Basic.{Basic}
use Rattle.cl_types.specs.declared.types.Basic.TheVariants.{Bool as BoolType, Char, SChar, UChar, Short, UShort, Int, UInt, Long, ULong, LLong, ULLong, Float, Double, LDouble}
use Rattle.cl_types.specs.declared.types.CType.{CType, the_lemmas}
use Rattle.cl_conv.specs.Operands.{is_arithmetic, is_arithmetic_kind}
use Rattle.cl_types.specs.Kinds.{arithmetic}
use Rattle.cl_conv.specs.Operators.{is_converted, is_converted_kind, of_basic, promote, promote_kind, usual, usual_kinds}
use Rattle.cl_types.specs.Usual.{promoted, usual_basic}

basic_either : (a b : Basic) → usual_basic a b ≡ usual_basic b a
basic_either BoolType Int = refl
basic_either BoolType _ = refl
basic_either Char Int = refl
basic_either Char _ = refl
basic_either SChar Int = refl
basic_either SChar _ = refl
basic_either UChar Int = refl
basic_either UChar _ = refl
basic_either Short Int = refl
basic_either Short _ = refl
basic_either UShort Int = refl
basic_either UShort _ = refl
basic_either Int Int = refl
basic_either Int _ = refl
basic_either UInt Int = refl
basic_either UInt _ = refl
basic_either Long Int = refl
basic_either Long _ = refl
basic_either ULong Int = refl
basic_either ULong _ = refl
basic_either LLong Int = refl
basic_either LLong _ = refl
basic_either ULLong Int = refl
basic_either ULLong _ = refl
basic_either Float Int = refl
basic_either Float _ = refl
basic_either Double Int = refl
basic_either Double _ = refl
basic_either LDouble Int = refl
basic_either LDouble _ = refl

kinds_either : (j k : Option Basic) → usual_kinds j k ≡ usual_kinds k j
kinds_either (Some j) (Some k) = ap of_basic (basic_either j k)
kinds_either (Some j) None = refl
kinds_either None (Some k) = refl
kinds_either None None = refl

pub usual_either : (a b : CType) → usual a b ≡ usual b a
usual_either a b = kinds_either (arithmetic a) (arithmetic b)

kind_of : (k : Basic) → arithmetic (of_basic k) ≡ Some k
kind_of Int = search (rules, the_lemmas)
kind_of _ = search (rules, the_lemmas)

basic_converted : (a b : Basic) → is_converted_kind (Some (usual_basic a b)) ≡ true
basic_converted BoolType Int = refl
basic_converted BoolType _ = refl
basic_converted Char Int = refl
basic_converted Char _ = refl
basic_converted SChar Int = refl
basic_converted SChar _ = refl
basic_converted UChar Int = refl
basic_converted UChar _ = refl
basic_converted Short Int = refl
basic_converted Short _ = refl
basic_converted UShort Int = refl
basic_converted UShort _ = refl
basic_converted Int Int = refl
basic_converted Int _ = refl
basic_converted UInt Int = refl
basic_converted UInt _ = refl
basic_converted Long Int = refl
basic_converted Long _ = refl
basic_converted ULong Int = refl
basic_converted ULong _ = refl
basic_converted LLong Int = refl
basic_converted LLong _ = refl
basic_converted ULLong Int = refl
basic_converted ULLong _ = refl
basic_converted Float Int = refl
basic_converted Float _ = refl
basic_converted Double Int = refl
basic_converted Double _ = refl
basic_converted LDouble Int = refl
basic_converted LDouble _ = refl

basic_listed : (a b : Basic) → is_converted (of_basic (usual_basic a b)) ≡ true
basic_listed a b = ap is_converted_kind (kind_of (usual_basic a b)) ∙ basic_converted a b

kinds_listed : (j k : Option Basic) → is_arithmetic_kind j ≡ true → is_arithmetic_kind k ≡ true → is_converted (usual_kinds j k) ≡ true
kinds_listed (Some j) (Some k) g h = basic_listed j k
kinds_listed (Some j) None g h = cc
kinds_listed None k g h = cc

pub usual_listed : (a b : CType) → is_arithmetic a ≡ true → is_arithmetic b ≡ true → is_converted (usual a b) ≡ true
usual_listed a b g h = kinds_listed (arithmetic a) (arithmetic b) g h

promoted_itself : (k : Basic) → promoted (promoted k) ≡ promoted k
promoted_itself Int = refl
promoted_itself _ = refl

basic_promoted : (k : Basic) → promote (of_basic (promoted k)) ≡ of_basic (promoted k)
basic_promoted k = ap (λ (j : Option Basic). promote_kind j (of_basic (promoted k))) (kind_of (promoted k)) ∙ ap of_basic (promoted_itself k)

kind_promoted : (k : Option Basic) (t : CType) → arithmetic t ≡ k → promote (promote_kind k t) ≡ promote_kind k t
kind_promoted None t e = ap (λ (j : Option Basic). promote_kind j t) e
kind_promoted (Some k) t e = basic_promoted k

pub promote_itself : (t : CType) → promote (promote t) ≡ promote t
promote_itself t = kind_promoted (arithmetic t) t refl
