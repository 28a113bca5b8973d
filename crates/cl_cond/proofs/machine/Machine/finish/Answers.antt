use Rattle.std.proofs.Common.{sym, ◌∙◌}
use Rattle.std.proofs.lemmas.Bool.{false≢true}
use Rattle.cl_cond.specs.code.Machine.{state_of}
use Rattle.cl_cond.proofs.Reducing.{finish_none}
use Rattle.cl_cond.proofs.machine.Machine.finish.Goals as goal

pub returns-else-is_empty : goal.returns-else-is_empty
returns-else-is_empty c =
    finish_none (state_of c.args.self.now) c.in-Some.operand c.reduced-outcome.new.stack c.reduced-outcome.result c.in-Some.is c.reduced-outcome.ensures
    (λ e. false≢true (sym c.if-is_empty.false ∙ c.is_empty.ensures.1 e))
