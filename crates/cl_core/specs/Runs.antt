-- Whole runs of a core: events one after the other. A run is told from its end: the newest event stands first.
use Rattle.std.specs.Prelude.{◌≡◌, Bool, List, [], ◌∷◌, ◌++◌}
use Rattle.std.specs.Bool.{MatchBool}
use Rattle.cl_query.specs.AnswerOf.{AnswerOf, NeedsOf}
use Rattle.cl_history.specs.declared.entry.Entry.{Entry}
use Rattle.cl_history.specs.Given.{Given}
use Rattle.cl_history.specs.Legal.{IsLegal}
use Rattle.cl_history.specs.Once.{AreOnce}
use Rattle.cl_history.specs.Written.{Writes}
use Rattle.cl_core.specs.declared.core_state.Core.{Core}
use Rattle.cl_core.specs.declared.event.Event.{Event}
use Rattle.cl_core.specs.declared.event.Effect.{Effect}
use Rattle.cl_core.specs.Standing.{IsNext, StandsFor, frames_of, journal_of, past_of}
use Rattle.cl_core.specs.Steps.{Steps, hears}

-- an event that was put to a core: whether there was memory for it, whether the core
-- heard it, its effects in order, and the journal after it
pub record Put : Type 0 where
  pub event : Event
  pub taken : Bool
  pub heard : Bool
  pub effects : List Effect
  pub journal : List Entry

-- an event that is taken and heard is the next one of what the session was given; where memory is wanting, nothing is
-- done, and any event may come next
pub record TakesPut (given : Given) (old : Core) (put : Put) (new : Core) : Type 0 where
  pub next : MatchBool put.taken (IsNext given old put.event) (Unit {0})
  pub steps : MatchBool put.taken (Steps old put.event new put.effects) ((new ≡ old) × (put.effects ≡ []))
  pub hears_it : put.heard ≡ hears old put.event
  pub told : put.journal ≡ journal_of new

-- events are taken one after the other
abbrev pub Runs : Given → Core → List Put → Core → Type 0
Runs given fresh [] core = core ≡ fresh
Runs given fresh (put ∷ past) core = (before : Core) × Runs given fresh past before × TakesPut given before put core

-- all their effects, in order
abbrev pub effects_of : List Put → List Effect
effects_of [] = []
effects_of (put ∷ past) = effects_of past ++ put.effects

-- the journal is legal, no message got two replies, the replies among the effects are those that the journal writes, and
-- the core stands for its journal
pub record HasRun (given : Given) (core : Core) (effects : List Effect) : Type 0 where
  pub stands : StandsFor given core
  pub legal : IsLegal NeedsOf given (past_of core)
  pub once : AreOnce given (past_of core)
  pub writes : Writes AnswerOf given (past_of core) (frames_of effects)
