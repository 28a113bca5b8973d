-- The requests that wait for their replies.
use Rattle.std.specs.Prelude.{ℕ, nat_eq, Bool}
use Rattle.std.specs.Str.{bytes_eq}
use Rattle.cl_rpc.specs.declared.id.Id.{Id}
use Rattle.cl_rpc.specs.Classes.{Class, queries, same_id}
use Rattle.cl_pending.specs.Keys.{Key}
use Rattle.cl_core.specs.declared.waiting.Waiting.{Waiting}
use Rattle.cl_pending.specs.declared.waits.Which.{Which}
use Rattle.cl_pending.specs.declared.waits.Which.TheVariants as which

-- what a request is found by
abbrev pub key_of : Waiting → Key
key_of w = record { id = w.id; message = w.job.message; path = w.job.path }

abbrev pub has_id : Id → Waiting → Bool
has_id i w = same_id i w.id

-- the number of the message that made a request, and what the message says
abbrev pub number_of : Waiting → ℕ
number_of w = w.job.message

abbrev pub class_of_waiting : Waiting → Class
class_of_waiting w = queries w.id w.job.kind w.job.path

abbrev pub is_meant : Which → Waiting → Bool
is_meant (which.Id i) w = same_id i.now w.id
is_meant (which.Document p) w = bytes_eq w.job.path p.now
is_meant (which.Message m) w = nat_eq w.job.message m
