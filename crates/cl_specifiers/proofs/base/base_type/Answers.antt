use Rattle.std.proofs.Common.{◌≡◌, ◌<◌, List, [], ◌∷◌, length, refl, ap, ◌∙◌, arith}
use Rattle.cl_types.specs.declared.types.CType.{CType}
use Rattle.cl_specifiers.specs.declared.base.TypeWord.{TypeWord}
use Rattle.cl_specifiers.specs.Base.{base_type, words_type}
use Rattle.cl_specifiers.proofs.base.base_type.Goals as goal

none_named : (ws : List TypeWord) (ts : List CType) → length ts < 1 → words_type ws ≡ base_type ws ts
none_named ws [] h = refl
none_named ws (t ∷ ts) h = absurd (omega arith)

pub returns-in-empty : goal.returns-in-empty
returns-in-empty c =
    c.words_type.ensures ∙ ap words_type c.as_slice.ensures.value ∙ none_named c.args.words.now c.args.named.now c.in-empty.len_below
