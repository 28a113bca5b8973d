-- Which of the requests that wait are meant, where each has this key.
use Rattle.std.specs.Prelude.{ℕ, nat_eq, Bool, true, false, List, [], ◌∷◌, map, if◌then◌else◌}
use Rattle.std.specs.Str.{bytes_eq}
use Rattle.cl_rpc.specs.declared.id.Id.{Id}
use Rattle.cl_rpc.specs.Classes.{same_id}
use Rattle.cl_pending.specs.declared.waits.Which.{Which}
use Rattle.cl_pending.specs.declared.waits.Which.TheVariants as which
use Rattle.cl_pending.specs.Keys.{Key}

abbrev pub is_nil : {X : Type 0} → List X → Bool
is_nil [] = true
is_nil (x ∷ xs) = false

abbrev pub number_by : {W : Type 0} → (W → Key) → W → ℕ
number_by key w = (key w).message

abbrev pub has_id_by : {W : Type 0} → (W → Key) → Id → W → Bool
has_id_by key i w = same_id i (key w).id

abbrev pub is_meant_by : {W : Type 0} → (W → Key) → Which → W → Bool
is_meant_by key (which.Id i) w = same_id i.now (key w).id
is_meant_by key (which.Document p) w = bytes_eq (key w).path p.now
is_meant_by key (which.Message m) w = nat_eq (key w).message m

-- a request in place of the one of its message
abbrev pub in_place : {W : Type 0} → (W → Key) → W → W → W
in_place key new w = if nat_eq (key w).message (key new).message then new else w

abbrev pub with_in_place : {W : Type 0} → (W → Key) → W → List W → List W
with_in_place key new ws = map (in_place key new) ws
