-- A name that is added to a set or taken out of it, by its bytes.
use Rattle.std.proofs.Common.{◌≡◌, ℕ, List, sym, ◌∙◌, ap, Bool}
use Rattle.std.specs.Prelude.{Result, Ok, Err, IfOk, cond, nat_eq}
use Rattle.std.specs.Cmp.Lexicographic.{pointwise, slice_cmp, texts_ties}
use Rattle.std.specs.Ordering.{nat_cmp, is_eq}
use Rattle.cl_base.specs.declared.memory.Memory.{Memory}
use Rattle.cl_tree.specs.declared.set.NameSet.{NameSet}
use Rattle.cl_tree.specs.Sets.{has, is_name}

same_name : (name text other : List ℕ) → name ≡ text → is_name name other ≡ pointwise nat_eq text other
same_name name text other e = ap (λ (n : List ℕ). is_eq (slice_cmp nat_cmp n other)) e ∙ sym (texts_ties text other)

pub learned_one : (old new : NameSet) (name text : List ℕ) (typed b : Bool) → name ≡ text → typed ≡ b → ((other : List ℕ) → has new other ≡ cond (is_name name other) b (has old other))
    → (other : List ℕ) → has new other ≡ cond (pointwise nat_eq text other) typed (has old other)
learned_one old new name text typed b e t f other =
    f other ∙ ap (λ (q : Bool). cond q b (has old other)) (same_name name text other e) ∙ ap (λ (q : Bool). cond (pointwise nat_eq text other) q (has old other)) (sym t)

pub learned_ok : (r : Result NameSet Memory) (old : NameSet) (name text : List ℕ) (typed b : Bool) → name ≡ text → typed ≡ b
    → IfOk r (λ new. (other : List ℕ) → has new other ≡ cond (is_name name other) b (has old other)) → IfOk r (λ new. (other : List ℕ) → has new other ≡ cond (pointwise nat_eq text other) typed (has old other))
learned_ok (Ok new) old name text typed b e t f = learned_one old new name text typed b e t f
learned_ok (Err m) old name text typed b e t f = tt
