use Rattle.std.proofs.Common.{◌∙◌, sym, ap, subst, ℕ, List, Some}
use Rattle.cl_lex.specs.Items.{IsOneToken}
use Rattle.cl_macro.specs.declared.part.Part.TheVariants as part
use Rattle.cl_macro.specs.Pasting.{one_or}
use Rattle.cl_macro.proofs.Telling.{tells_some}
use Rattle.cl_macro.proofs.joint.glue_words.Goals as goal

pub returns : goal.returns
returns c = λ o t. ap (λ r. one_or r c.args.left c.args.right) (tells_some o _ c.in-Some.kind t
    (subst (λ (xs : List ℕ). IsOneToken xs c.in-Some.kind) (c.as_slice.ensures.value ∙ c.in_ok-text.ensures) c.in-Some.ensures.some))
    ∙ ap (λ w. Some (part.Token w)) (sym c.in_ok-word.ensures)
