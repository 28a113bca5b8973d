-- The reads of headers that a session makes.
use Rattle.std.proofs.Common.{◌≡◌, ◌⊎◌, inl, inr, ℕ, ◌+◌, ◌≤◌, List, [], ◌∷◌, ◌++◌, length, refl, sym, ap, subst, ◌∙◌, append_assoc, append-nil, length-append, arith}
use Rattle.std.specs.Prelude.{Option, Some, None, slice_get}
use Rattle.cl_base.specs.Faults.{HasCause, Rose}
use Rattle.cl_base.specs.Reads.{Reads, add_read}
use Rattle.cl_base.specs.declared.headers.Read.{Read}
use Rattle.cl_base.specs.declared.headers.Read.TheVariants.{Failed}
use Rattle.cl_history.specs.Given.{Given}
use Rattle.clsd.specs.Sessions.{HasFailed, MakesReads, add_reads}
use Rattle.clsd.specs.Serving.{AreNext, Making}

add_none : (told : Option Reads) → add_reads told [] ≡ told
add_none None = refl
add_none (Some all) = ap Some (append-nil all)

add_twice : (told : Option Reads) (xs ys : Reads) → add_reads (add_reads told xs) ys ≡ add_reads told (xs ++ ys)
add_twice None xs ys = refl
add_twice (Some all) xs ys = ap Some (append_assoc all xs ys)

failed_in : (xs ys : Reads) → HasFailed (xs ++ ys) → HasFailed xs ⊎ HasFailed ys
failed_in [] ys failed = inr failed
failed_in (x ∷ xs) ys (inl here) = inl (inl here)
failed_in (x ∷ xs) ys (inr more) = failed_after (failed_in xs ys more) where
  failed_after : HasFailed xs ⊎ HasFailed ys → HasFailed (x ∷ xs) ⊎ HasFailed ys
  failed_after (inl there) = inl (inr there)
  failed_after (inr there) = inr there

-- ---- what was made

-- nothing was read
pub makes_none : (before now : Option Reads) (was is : ℕ) → now ≡ before → was ≤ is → MakesReads before now was is []
makes_none before now was is same later = record { told = same ∙ sym (add_none before); cause = record { later = later; rose = λ failed. absurd failed } }

one_failed : (was is : ℕ) (path : List ℕ) (answer : Read) → (answer ≡ Failed → Rose was is) → HasFailed ((path, answer) ∷ []) → Rose was is
one_failed was is path answer rose (inl failed) = rose failed
one_failed was is path answer rose (inr none) = absurd none

-- a header was read
pub makes_one : (before now : Option Reads) (was is : ℕ) (path : List ℕ) (answer : Read) → now ≡ add_read before path answer → was ≤ is → (answer ≡ Failed → Rose was is)
    → MakesReads before now was is ((path, answer) ∷ [])
makes_one before now was is path answer told later rose = record { told = told; cause = record { later = later; rose = one_failed was is path answer rose } }

rose_first : (was mid is : ℕ) → mid ≤ is → Rose was mid → Rose was is
rose_first was mid is later rose = omega (arith, later, rose)

rose_last : (was mid is : ℕ) → was ≤ mid → Rose mid is → Rose was is
rose_last was mid is later rose = omega (arith, later, rose)

either_rose : (was mid is : ℕ) (X Y : Type 0) → HasCause was mid X → HasCause mid is Y → X ⊎ Y → Rose was is
either_rose was mid is X Y first last (inl x) = rose_first was mid is last.later (first.rose x)
either_rose was mid is X Y first last (inr y) = rose_last was mid is first.later (last.rose y)

-- some reads, and then more
pub makes_more : (before mid now : Option Reads) (was half is : ℕ) (xs ys : Reads) → MakesReads before mid was half xs → MakesReads mid now half is ys → MakesReads before now was is (xs ++ ys)
makes_more before mid now was half is xs ys first last = record {
  told = last.told ∙ ap (λ (w : Option Reads). add_reads w ys) first.told ∙ add_twice before xs ys;
  cause = record {
    later = let a : was ≤ half = first.cause.later in let b : half ≤ is = last.cause.later in omega arith;
    rose = λ failed. either_rose was half is (HasFailed xs) (HasFailed ys) first.cause last.cause (failed_in xs ys failed);
  };
}

-- ---- which come next

pub next_first : (n : ℕ) (xs ys all : Reads) → AreNext n (xs ++ ys) all → AreNext n xs all
next_first n [] ys all next = tt
next_first n (x ∷ xs) ys all next = (next.0, next_first (n + 1) xs ys all next.1)

pub next_then : (n : ℕ) (xs ys all : Reads) → AreNext n (xs ++ ys) all → AreNext (n + length xs) ys all
next_then n [] ys all next = let same : n ≡ n + 0 = omega arith in subst (λ (k : ℕ). AreNext k ys all) same next
next_then n (x ∷ xs) ys all next =
    let same : n + 1 + length xs ≡ n + length (x ∷ xs) = omega arith in
    subst (λ (k : ℕ). AreNext k ys all) same (next_then (n + 1) xs ys all next.1)

read_there : (xs more : Reads) (read : List ℕ × Read) → slice_get (xs ++ read ∷ more) (length xs) ≡ Some read
read_there [] more read = refl
read_there (x ∷ xs) more read = read_there xs more read

-- the reads behind these come next after them
pub next_behind : (xs made later : Reads) → AreNext (length xs) made (xs ++ (made ++ later))
next_behind xs [] later = tt
next_behind xs (read ∷ made) later = (
  read_there xs (made ++ later) read,
  subst (λ (n : ℕ). AreNext n made (xs ++ read ∷ (made ++ later))) (length-append xs (read ∷ []))
      (subst (λ (all : Reads). AreNext (length (xs ++ read ∷ [])) made all) (append_assoc xs (read ∷ []) (made ++ later)) (next_behind (xs ++ read ∷ []) made later)),
)

-- ---- what holds of them

-- reads were made, and then more: what holds of both holds of them together
pub made_more : (before mid now : Option Reads) (was half is n m : ℕ) (P Q R : Given → Reads → Type 0) → Making before mid was half n P → Making mid now half is m Q
    → ((given : Given) (xs ys : Reads) → P given xs → (m ≡ n + length xs → Q given ys) → R given (xs ++ ys))
    → Making before now was is n R
made_more before mid now was half is n m P Q R first last both = (
  first.0 ++ last.0,
  makes_more before mid now was half is first.0 last.0 first.1 last.1,
  λ given next. both given first.0 last.0 (first.2 given (next_first n first.0 last.0 given.reads next))
      (λ from. last.2 given (subst (λ (k : ℕ). AreNext k last.0 given.reads) (sym from) (next_then n first.0 last.0 given.reads next))),
)

-- nothing was read
pub made_none : (before now : Option Reads) (was is n : ℕ) (P : Given → Reads → Type 0) → now ≡ before → was ≤ is → ((given : Given) → P given []) → Making before now was is n P
made_none before now was is n P same later all = ([], makes_none before now was is same later, λ given next. all given)

-- a header was read
pub made_one : (before now : Option Reads) (was is n : ℕ) (P : Given → Reads → Type 0) (path : List ℕ) (answer : Read) → now ≡ add_read before path answer → was ≤ is → (answer ≡ Failed → Rose was is)
    → ((given : Given) → slice_get given.reads n ≡ Some (path, answer) → P given ((path, answer) ∷ [])) → Making before now was is n P
made_one before now was is n P path answer told later rose all = ((path, answer) ∷ [], makes_one before now was is path answer told later rose, λ given next. all given next.0)

-- the same, of something weaker
pub made_as : (before now : Option Reads) (was is n : ℕ) (P Q : Given → Reads → Type 0) → Making before now was is n P → ((given : Given) (made : Reads) → P given made → Q given made) → Making before now was is n Q
made_as before now was is n P Q making weaker = (making.0, making.1, λ given next. weaker given making.0 (making.2 given next))

-- the same, counted from where it begins
pub made_later : (before now : Option Reads) (was is n m : ℕ) (Q R : Given → Reads → Type 0) → Making before now was is m Q → ((given : Given) (made : Reads) → (m ≡ n → Q given made) → R given made)
    → Making before now was is n R
made_later before now was is n m Q R making later =
    (making.0, making.1, λ given next. later given making.0 (λ same. making.2 given (subst (λ (k : ℕ). AreNext k making.0 given.reads) (sym same) next)))
