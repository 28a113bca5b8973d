use Rattle.std.proofs.Common.{subst}
use Rattle.cl_rpc.specs.Classes.{Class, class_of}
use Rattle.cl_core.specs.Decisions.{Decides}
use Rattle.cl_core.proofs.Decided.{above_started, decided_takes}
use Rattle.cl_core.proofs.step.take.Goals as goal

pub apply-requires-clause-above : goal.apply-requires-clause-above
apply-requires-clause-above c =
    let is : Decides c.args.core.now (class_of c.args.parsed.now) c.in_ok-decision.decision = subst (λ (k : Class). Decides c.args.core.now k c.in_ok-decision.decision) c.class.ensures c.in_ok-decision.ensures in
    above_started c.args.core.now (class_of c.args.parsed.now) _ is.works.started c.requires.numbered

pub returns-clause-ok : goal.returns-clause-ok
returns-clause-ok c =
    let is : Decides c.args.core.now (class_of c.args.parsed.now) c.in_ok-decision.decision = subst (λ (k : Class). Decides c.args.core.now k c.in_ok-decision.decision) c.class.ensures c.in_ok-decision.ensures in
    decided_takes c.args.core.now c.apply.new.core (class_of c.args.parsed.now) c.in_ok-decision.decision c.in_ok-effects.effects c.requires.none_awaited is c.in_ok-effects.ensures.ok
