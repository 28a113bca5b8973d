use Rattle.cl_core.proofs.Kept.{step_stands, step_writes}
use Rattle.cl_core.proofs.Settling.{step_settles}
use Rattle.cl_core.proofs.Turning.{step_turns}
use Rattle.cl_core.proofs.Numbering.{step_numbered}
use Rattle.cl_core.proofs.core_state.Core.step.Goals as goal

pub returns-clause-stands : goal.returns-clause-stands
returns-clause-stands c = rw (← c.self.view_is) (λ given next stands.
    step_stands given c.self.inside.state c.advance.new.core c.args.event c.in_ok-effects.effects next stands c.in_ok-effects.ensures.ok)

pub returns-clause-writes : goal.returns-clause-writes
returns-clause-writes c = rw (← c.self.view_is) (λ given next stands.
    step_writes given c.self.inside.state c.advance.new.core c.args.event c.in_ok-effects.effects next stands c.in_ok-effects.ensures.ok)

pub returns-clause-turns : goal.returns-clause-turns
returns-clause-turns c = rw (← c.self.view_is) (step_turns c.self.inside.state c.advance.new.core c.args.event c.in_ok-effects.effects c.in_ok-effects.ensures.ok)

pub returns-clause-settles : goal.returns-clause-settles
returns-clause-settles c = rw (← c.self.view_is) (λ given stands ready settled.
    step_settles given c.self.inside.state c.advance.new.core c.args.event c.in_ok-effects.effects stands ready c.in_ok-effects.ensures.ok settled)

pub invariant_of-self-2 : goal.invariant_of-self-2
invariant_of-self-2 c = step_numbered c.self.inside.state c.advance.new.core c.args.event c.in_ok-effects.effects c.in_ok-effects.ensures.ok c.self.invariant
