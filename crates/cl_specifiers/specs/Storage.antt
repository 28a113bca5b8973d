-- Storage classes, and what else declaration specifiers say (N1570 6.7.1, 6.7.4, 6.7.5).
use Rattle.std.specs.Prelude.{ℕ, ◌==◌, ◌&&◌, ◌||◌, not, if◌then◌else◌, Bool, true, false, List, [], ◌∷◌, Option, Some, None}
use Rattle.cl_specifiers.specs.declared.storage.Declared.{Declared}
use Rattle.cl_specifiers.specs.declared.storage.Declared.TheVariants as declares
use Rattle.cl_specifiers.specs.declared.storage.Flags.{Flags}
use Rattle.cl_specifiers.specs.declared.storage.StorageWord.{StorageWord}
use Rattle.cl_specifiers.specs.declared.storage.StorageWord.TheVariants as word
use Rattle.cl_specifiers.specs.declared.storage.Stored.{Stored}

-- the number of a storage class: 0 for none
abbrev pub number : StorageWord → ℕ
number word.Typedef = 1
number word.Extern = 2
number word.Static = 3
number word.Auto = 4
number word.Register = 5
number word.ThreadLocal = 0

abbrev pub stored_as : ℕ → Bool → Stored
stored_as storage thread = record { storage = storage; thread = thread }

-- `_Thread_local` stands with `static` and `extern` alone
abbrev pub is_shared : StorageWord → Bool
is_shared word.Extern = true
is_shared word.Static = true
is_shared _ = false

abbrev pub is_thread : StorageWord → Bool
is_thread word.ThreadLocal = true
is_thread _ = false

abbrev pub one : StorageWord → Stored
one w = stored_as (number w) (is_thread w)

abbrev pub two : StorageWord → StorageWord → Option Stored
two v w =
    if is_thread v && is_shared w then Some (stored_as (number w) true)
    else if is_thread w && is_shared v then Some (stored_as (number v) true)
    else None

-- the storage of a declaration: at most one class, or `_Thread_local` and one of two (6.7.1p2)
abbrev pub storage_of : List StorageWord → Option Stored
storage_of [] = Some (stored_as 0 false)
storage_of (w ∷ []) = Some (one w)
storage_of (v ∷ w ∷ []) = two v w
storage_of _ = None

abbrev pub is_function : Declared → Bool
is_function declares.Function = true
is_function _ = false

-- what takes no `_Alignas` (6.7.5p2)
abbrev pub is_unaligned : Declared → Bool
is_unaligned declares.Typedef = true
is_unaligned declares.BitField = true
is_unaligned declares.Function = true
is_unaligned declares.Parameter = true
is_unaligned _ = false

-- `_Thread_local` on an object, and at block scope with `static` or `extern` (6.7.1p3, p4)
abbrev pub thread_may_stand : Flags → Bool → Declared → Bool
thread_may_stand flags at_file what = not flags.thread || (not (is_function what) && (at_file || (flags.storage == 2 || flags.storage == 3)))

-- `inline` and `_Noreturn` on functions alone (6.7.4p2)
abbrev pub function_may_stand : Flags → Declared → Bool
function_may_stand flags what = not (flags.inline || flags.noreturn) || is_function what

abbrev pub alignment_may_stand : Flags → Declared → Bool
alignment_may_stand flags what = not flags.alignas || (not (is_unaligned what) && not (flags.storage == 5))

-- no `auto` or `register` at file scope (6.9p2)
abbrev pub storage_may_stand : Flags → Bool → Bool
storage_may_stand flags at_file = not at_file || (not (flags.storage == 4) && not (flags.storage == 5))

abbrev pub may_stand : Flags → Bool → Declared → Bool
may_stand flags at_file what =
    thread_may_stand flags at_file what && (function_may_stand flags what && (alignment_may_stand flags what && storage_may_stand flags at_file))
