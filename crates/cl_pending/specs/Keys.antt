-- What a request that waits is found by.
use Rattle.std.specs.Prelude.{ℕ, nat_eq, List, filter, not}
use Rattle.cl_rpc.specs.declared.id.Id.{Id}

-- its id, the number of the message that made it, and the path of its document
pub record Key : Type 0 where
  pub id : Id
  pub message : ℕ
  pub path : List ℕ

-- the list without a number
abbrev pub without : ℕ → List ℕ → List ℕ
without n ns = filter (λ m. not (nat_eq m n)) ns
