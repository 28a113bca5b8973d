-- The messages of the requests that wait.
use Rattle.std.specs.Prelude.{◌<◌}
use Rattle.std.specs.List.{AllByRecursion}
use Rattle.cl_core.specs.declared.core_state.State.{State}
use Rattle.cl_core.specs.declared.waiting.Waiting.{Waiting}

-- each was received
abbrev pub IsNumbered : State → Type 0
IsNumbered state = AllByRecursion (λ (w : Waiting). w.job.message < state.messages) state.pending
