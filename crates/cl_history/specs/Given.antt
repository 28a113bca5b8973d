-- What a session is given, and what its work means. A place of a session is its past: the entries of the journal before
-- it, the newest first.
use Rattle.std.specs.Prelude.{ℕ, ◌+◌, List, [], ◌∷◌, slice_get, unwrap_or}
use Rattle.cl_base.specs.declared.answer.Answer.{Answer}
use Rattle.cl_base.specs.declared.config.Settings.{Settings}
use Rattle.cl_base.specs.declared.headers.Read.{Read}
use Rattle.cl_base.specs.declared.query.Query.{Query}
use Rattle.cl_headers.specs.Headers.{Headers}
use Rattle.cl_rpc.specs.declared.call.Parsed.{Parsed}
use Rattle.cl_rpc.specs.declared.call.Parsed.TheVariants as parsed
use Rattle.cl_rpc.specs.Classes.{Class, class_of}
use Rattle.cl_history.specs.declared.entry.Entry.{Entry}
use Rattle.cl_history.specs.declared.entry.Entry.TheVariants.{In, Load, Reply, Notify}

-- the config, the messages in order, each as what its body says, and the reads of headers in order, with their answers
pub record Given : Type 0 where
  pub config : Settings
  pub messages : List Parsed
  pub reads : List (List ℕ × Read)

-- the answers of queries, over a config, headers, and a path with its text; and the paths that a query needs read first
abbrev pub Answers : Type 1
Answers = Query → Settings → Headers → List ℕ → List ℕ → Answer → Type 0

abbrev pub Needs : Type 1
Needs = Query → Settings → Headers → List ℕ → List ℕ → List ℕ → Type 0

-- the class of the n-th message
abbrev pub said : Given → ℕ → Class
said given n = class_of (unwrap_or (slice_get given.messages n) parsed.Ignored)

-- what the messages that were received have made of a fact, by what each makes of it where it is received
abbrev pub by_messages : {X : Type 0} → (List Entry → ℕ → X → X) → X → List Entry → X
by_messages step x [] = x
by_messages step x (In n ∷ past) = step past n (by_messages step x past)
by_messages step x (Load n ∷ past) = by_messages step x past
by_messages step x (Reply message mark how ∷ past) = by_messages step x past
by_messages step x (Notify message mark ∷ past) = by_messages step x past

-- how many messages were received, and how many headers were read
abbrev pub received : List Entry → ℕ
received past = by_messages (λ before n count. count + 1) 0 past

abbrev pub loaded : List Entry → ℕ
loaded [] = 0
loaded (Load n ∷ past) = loaded past + 1
loaded (In n ∷ past) = loaded past
loaded (Reply message mark how ∷ past) = loaded past
loaded (Notify message mark ∷ past) = loaded past
