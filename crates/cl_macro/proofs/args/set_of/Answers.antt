use Rattle.std.proofs.Common.{◌∙◌, ◌∷◌, List, Option, Some, ℕ, ap, sym}
use Rattle.cl_macro.specs.declared.word.Word.{Word}
use Rattle.cl_macro.specs.declared.seen.Seen.{Seen}
use Rattle.cl_macro.specs.Levels.{seen_word}
use Rattle.cl_macro.specs.Turns.{shared}
use Rattle.cl_macro.proofs.Lists.{both_nil}
use Rattle.cl_macro.proofs.args.set_of.Goals as goal

pub returns-in_ok-set-in-Some-Run : goal.returns-in_ok-set-in-Some-Run
returns-in_ok-set-in-Some-Run c = c.in_ok-set-in-Some-Run.ensures
    ∙ ap (λ (ns : List (List ℕ)). c.args.word.now.token.text ∷ ns) (c.none.ensures ∙ sym (both_nil c.args.word.now.hide))
    ∙ ap (λ (o : Option Word). c.args.word.now.token.text ∷ shared c.args.word.now.hide o) (ap (λ (seen : Seen). Some (seen_word seen)) (sym c.in-Some-Run.field-0-is) ∙ c.in-Some-Run.ensures)
