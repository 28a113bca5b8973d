-- How many replies a message gets.
use Rattle.std.specs.Prelude.{◌≡◌, ℕ, ◌+◌, ◌<◌, ◌≤◌, nat_eq, List, [], ◌∷◌, Bool, true, false, if◌then◌else◌}
use Rattle.cl_rpc.specs.Classes.{Class, initialises, shuts_down, queries, unknown, bad_params, invalid}
use Rattle.cl_history.specs.declared.entry.Entry.{Entry}
use Rattle.cl_history.specs.declared.entry.Entry.TheVariants.{In, Load, Reply, Notify}
use Rattle.cl_history.specs.Given.{Given, said, received}
use Rattle.cl_history.specs.History.{pending}

-- how many replies of a message stand in a journal
abbrev pub count_replies : List Entry → ℕ → ℕ
count_replies [] n = 0
count_replies (In k ∷ past) n = count_replies past n
count_replies (Load k ∷ past) n = count_replies past n
count_replies (Reply message mark how ∷ past) n = if nat_eq message n then count_replies past n + 1 else count_replies past n
count_replies (Notify message mark ∷ past) n = count_replies past n

-- a message that is replied to: a request, or one that can't be read
abbrev pub wants_reply : Class → Bool
wants_reply (initialises i) = true
wants_reply (shuts_down i) = true
wants_reply (queries i query path) = true
wants_reply (unknown i) = true
wants_reply (bad_params i is_initialize) = true
wants_reply (invalid i code) = true
wants_reply _ = false

-- no message gets a reply before it is received, and none gets two; once no query is pending, each message that is
-- replied to has its reply, and no other has one
pub record AreOnce (given : Given) (past : List Entry) : Type 0 where
  pub none_before : (n : ℕ) → received past ≤ n → count_replies past n ≡ 0
  pub one_at_most : (n : ℕ) → count_replies past n ≤ 1
  pub one_each : pending given past ≡ [] → (n : ℕ) → n < received past → count_replies past n ≡ (if wants_reply (said given n) then 1 else 0)
