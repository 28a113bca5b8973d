use Rattle.std.proofs.Common.{ap, ◌∙◌, [], ◌∷◌}
use Rattle.cl_pp.specs.Standing.{with_looked}
use Rattle.cl_pp.specs.code.Defining.{defined_after}
use Rattle.cl_pp.proofs.Events.{kept_given, told_first}
use Rattle.cl_pp.proofs.define.give.Goals as goal

pub returns-clause-done : goal.returns-clause-done
returns-clause-done g c = record {
  answer = c.in_ok-answer.answer;
  defined = c.in_ok-answer.ensures.answer;
  is = c.in_ok-tell_defined.ensures.done
      ∙ (λ i. defined_after c.args.file c.in_ok-answer.answer (c.in_ok-name.ensures i) (c.in_ok-copy.ensures i) c.args.tokens.now ((c.in_ok-look.ensures.done ∙ ap (λ n. with_looked (n ∷ []) c.args.made.now.done) c.in_ok-name.ensures) i))
      ∙ told_first c.args.file c.in_ok-answer.answer c.args.mac c.args.tokens.now c.args.made.now.done;
}

pub returns-clause-keeps : goal.returns-clause-keeps
unfolding returns-clause-done
returns-clause-keeps g c = λ start k.
    kept_given c.args.file start c.args.table.now c.define.new.self c.args.made.now.done _ c.in_ok-answer.answer c.args.mac c.args.tokens.now k (returns-clause-done g c).is c.in_ok-answer.ensures.ok
