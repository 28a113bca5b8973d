-- How frames are closed.
use Rattle.std.proofs.Common.{◌≡◌, ℕ, ◌≤◌, true, false, List, [], ◌∷◌, Some, None, refl, sym, ap, ◌∙◌, arith}
use Rattle.std.specs.Prelude.{nat_le, reverse}
use Rattle.std.proofs.lemmas.Bool.Decides.{nat_tests}
use Rattle.std.proofs.lemmas.List.{reverse-reverse}
use Rattle.cl_cond.specs.declared.machine.Frame.{Frame}
use Rattle.cl_cond.specs.declared.outcome.Outcome.{Outcome}
use Rattle.cl_cond.specs.code.Machine.{IsLoose, State, closed, finished, finished_by, left_alone, rank, reduce}

pub reduce_none : (least : ℕ) (x : Outcome) → reduce least [] x ≡ ([], x)
unfolding reduce
reduce_none least x = refl

pub reduce_tight : (least : ℕ) (f : Frame) (stack : List Frame) (x : Outcome) → least ≤ rank f → reduce least (f ∷ stack) x ≡ reduce least stack (closed f x)
unfolding reduce
reduce_tight least f stack x l = let e : nat_le least (rank f) ≡ true = grind (arith, nat_tests) in rw e refl

pub reduce_loose : (least : ℕ) (stack : List Frame) (x : Outcome) → IsLoose least stack → reduce least stack x ≡ (stack, x)
unfolding reduce
reduce_loose least [] x l = refl
reduce_loose least (f ∷ stack) x l = let e : nat_le least (rank f) ≡ false = grind (arith, nat_tests) in rw e refl

pub not_alone : (stack : List Frame) (x : Outcome) → (stack ≡ [] → ⊥) → left_alone (reverse stack) x ≡ None
not_alone stack x h = elim (reverse stack) as (λ s. (reverse stack ≡ s) → left_alone s x ≡ None) [ [] ↦ λ e. absurd (h (sym (reverse-reverse stack) ∙ ap reverse e)) | f ∷ s ↦ λ e. refl ] refl

pub finish_none : (s : State) (x : Outcome) (new : List Frame) (y : Outcome) → s.focus ≡ Some x → reduce 1 s.stack x ≡ (reverse new, y) → (new ≡ [] → ⊥) → None ≡ finished s
finish_none s x new y e r h = sym (ap (finished_by s.stack) e ∙ ap (λ (p : List Frame × Outcome). left_alone p.0 p.1) r ∙ not_alone new y h)
