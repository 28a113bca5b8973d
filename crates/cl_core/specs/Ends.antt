-- How a run ends.
use Rattle.std.specs.Prelude.{◌≡◌, ℕ, List, [], ◌∷◌, ◌++◌, reverse, Bool, if◌then◌else◌, Option, Some, None}
use Rattle.cl_rpc.specs.Classes.{Class, exits, class_of}
use Rattle.cl_history.specs.Given.{Given}
use Rattle.cl_history.specs.History.{is_shut_down, pending}
use Rattle.cl_core.specs.declared.event.Ending.TheVariants as ending
use Rattle.cl_core.specs.declared.event.Event.{Event}
use Rattle.cl_core.specs.declared.event.Event.TheVariants as event
use Rattle.cl_core.specs.declared.event.Effect.{Effect}
use Rattle.cl_core.specs.declared.event.Effect.TheVariants as effect
use Rattle.cl_core.specs.Standing.{finish_of}
use Rattle.cl_pending.specs.Meant.{is_nil}
use Rattle.cl_core.specs.Runs.{Put}

-- the status that an event gives: `exit` after an accepted `shutdown` and without one, and each end of the input
abbrev pub status_by_class : Bool → Class → Option ℕ
status_by_class shut_down exits = Some (if shut_down then 0 else 1)
status_by_class shut_down _ = None

abbrev pub status_by : Bool → Event → Option ℕ
status_by shut_down (event.Message p) = status_by_class shut_down (class_of p)
status_by shut_down (event.End ending.Edge) = Some 2
status_by shut_down (event.End ending.Bad) = Some 3
status_by shut_down (event.End ending.Failed) = Some 4
status_by shut_down (event.End ending.Memory) = Some 7
status_by shut_down (event.End ending.Long) = Some 8
status_by shut_down _ = None

-- an event counts that is taken, and comes while no read is awaited
abbrev pub status_of_put : Given → Put → Option ℕ
status_of_put given put = if put.taken then (if put.heard then status_by (is_shut_down given (reverse put.journal)) put.event else None) else None

abbrev pub earlier_or : Option ℕ → Option ℕ → Option ℕ
earlier_or None later = later
earlier_or (Some status) later = Some status

-- the status of the first event that gives one
abbrev pub first_status : Given → List Put → Option ℕ
first_status given [] = None
first_status given (put ∷ past) = earlier_or (first_status given past) (status_of_put given put)

-- the status with which the session is over: one was given, and no query is pending
abbrev pub over : Given → List Put → Option ℕ
over given [] = None
over given (put ∷ past) = if is_nil (pending given (reverse put.journal)) then first_status given (put ∷ past) else None

-- the effects of an event, by the status with which the session was over before it and is over after it: where it
-- was over, it stays so, with no effect; where it becomes over, the end with this status comes last, and once; else
-- there is no end
abbrev pub EndsAs : Option ℕ → Option ℕ → List Effect → Type 0
EndsAs (Some status) after effects = (after ≡ Some status) × (effects ≡ [])
EndsAs None (Some status) effects = (front : List Effect) × (finish_of front ≡ None) × (effects ≡ front ++ effect.Finish status ∷ [])
EndsAs None None effects = finish_of effects ≡ None

-- so it is with each event of a run
abbrev pub EndsOnce : Given → List Put → Type 0
EndsOnce given [] = Unit {0}
EndsOnce given (put ∷ past) = EndsAs (over given past) (over given (put ∷ past)) put.effects × EndsOnce given past
