use Rattle.std.proofs.Common.{◌≡◌, ◌∙◌, refl}
use Rattle.cl_types.specs.declared.types.Basic.{Basic}
use Rattle.cl_types.specs.declared.types.Basic.TheVariants.{Bool as BoolType, Char, SChar, UChar, Short, UShort, Int, UInt, Long, ULong, LLong, ULLong, Float, Double, LDouble}
use Rattle.cl_types.specs.Usual.{usual_basic}
use Rattle.cl_types.specs.code.Levels.{level, by_levels}
use Rattle.cl_types.proofs.kinds.usual_basic.Goals as goal

-- each of the 225 pairs computes
agree : (a b : Basic) → by_levels (level a) (level b) ≡ usual_basic a b
agree BoolType Int = refl
agree BoolType _ = refl
agree Char Int = refl
agree Char _ = refl
agree SChar Int = refl
agree SChar _ = refl
agree UChar Int = refl
agree UChar _ = refl
agree Short Int = refl
agree Short _ = refl
agree UShort Int = refl
agree UShort _ = refl
agree Int Int = refl
agree Int _ = refl
agree UInt Int = refl
agree UInt _ = refl
agree Long Int = refl
agree Long _ = refl
agree ULong Int = refl
agree ULong _ = refl
agree LLong Int = refl
agree LLong _ = refl
agree ULLong Int = refl
agree ULLong _ = refl
agree Float Int = refl
agree Float _ = refl
agree Double Int = refl
agree Double _ = refl
agree LDouble Int = refl
agree LDouble _ = refl

pub returns : goal.returns
returns c = c.by_levels.ensures ∙ (rw (c.level.ensures, c.level-2.ensures) (agree c.args.a c.args.b))
