-- The standard's words for what the history says shortly.
use Rattle.std.specs.Prelude.{◌≡◌, ℕ, ◌&&◌, ◌||◌, List, [], ◌∷◌, ◌++◌, Bool, true, false, not, if◌then◌else◌, is_some}
use Rattle.cl_rpc.specs.Classes.{Class, shuts_down}
use Rattle.cl_history.specs.declared.entry.Entry.{Entry}
use Rattle.cl_history.specs.declared.entry.Entry.TheVariants.{In, Load, Reply, Notify}
use Rattle.cl_history.specs.Given.{Given, said, by_messages}
use Rattle.cl_history.specs.History.{is_initialising, is_initialised, is_shut_down, is_query, without, pending, refusal}

-- the message is accepted where it is received: it isn't refused
abbrev pub is_accepted : Given → List Entry → Class → Bool
is_accepted given past k = not (is_some (refusal given past k))

-- an `initialize` was accepted (LSP 3.17, Initialize Request)
abbrev pub initialize_was_accepted : Given → List Entry → Bool
initialize_was_accepted given past = by_messages (λ before n so_far. (is_accepted given before (said given n) && is_initialising (said given n)) || so_far) false past

abbrev pub is_shutdown : Class → Bool
is_shutdown (shuts_down i) = true
is_shutdown _ = false

-- a `shutdown` was accepted (LSP 3.17, Shutdown Request)
abbrev pub shutdown_was_accepted : Given → List Entry → Bool
shutdown_was_accepted given past = by_messages (λ before n so_far. (is_accepted given before (said given n) && is_shutdown (said given n)) || so_far) false past

-- the query requests that were accepted and have no reply
abbrev pub accepted_without_reply : Given → List Entry → List ℕ
accepted_without_reply given [] = []
accepted_without_reply given (In n ∷ past) =
    accepted_without_reply given past ++ (if is_query (said given n) && is_accepted given past (said given n) then n ∷ [] else [])
accepted_without_reply given (Load n ∷ past) = accepted_without_reply given past
accepted_without_reply given (Reply message mark how ∷ past) = without message (accepted_without_reply given past)
accepted_without_reply given (Notify message mark ∷ past) = accepted_without_reply given past

-- the history's facts are these
pub record IsInStandardWords (given : Given) (past : List Entry) : Type 0 where
  pub initialised : is_initialised given past ≡ initialize_was_accepted given past
  pub shut_down : is_shut_down given past ≡ shutdown_was_accepted given past
  pub waits : pending given past ≡ accepted_without_reply given past
