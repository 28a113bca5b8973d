use Rattle.std.proofs.Common.{List}
use Rattle.cl_query.specs.AnswerOf.{NeedsOf}
use Rattle.cl_history.proofs.Once.{are_once}
use Rattle.cl_core.specs.declared.core_state.Core.{Core}
use Rattle.cl_core.specs.declared.event.Event.{Event}
use Rattle.cl_core.specs.declared.event.Effect.{Effect}
use Rattle.cl_core.specs.Steps.{Steps}
use Rattle.cl_core.specs.Numbered.{IsNumbered}
use Rattle.cl_core.specs.Standing.{Turns}
use Rattle.cl_core.proofs.Settling.{step_settles}
use Rattle.cl_core.proofs.Turning.{step_turns}
use Rattle.cl_core.proofs.Numbering.{step_numbered}
use Rattle.cl_core.proofs.laws.one_reply.Goals as goal

pub returns : goal.returns
returns c given past legal =
    let a : (old new : Core) (e : Event) (effects : List Effect) → Steps old e new effects → Turns old e new effects = step_turns in
    let b : (old new : Core) (e : Event) (effects : List Effect) → Steps old e new effects → IsNumbered old → IsNumbered new = step_numbered in
    let d = step_settles given in
    are_once NeedsOf given past legal
