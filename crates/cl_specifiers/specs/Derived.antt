-- Types made by a declarator's parts, and by qualifiers (N1570 6.7.2.4, 6.7.3, 6.7.6).
use Rattle.std.specs.Prelude.{ℕ, ◌&&◌, ◌||◌, not, if◌then◌else◌, nat_lt, Bool, true, false, Option, Some, None}
use Rattle.cl_types.specs.declared.types.CType.{CType, fold-CType, out-CType}
use Rattle.cl_types.specs.declared.types.CType.TheVariants as make
use Rattle.cl_types.specs.declared.types.Length.{Length}
use Rattle.cl_types.specs.declared.types.Length.TheVariants.{Unsized}
use Rattle.cl_types.specs.declared.types.Params.{Params}
use Rattle.cl_types.specs.Compatible.{is_enum, is_error}
use Rattle.cl_types.specs.Form.{Form, Form as f, form}
use Rattle.cl_types.specs.Normal.{is_small}
use Rattle.cl_types.specs.Qualify.{qualified}

-- a type of at most 1,024 types
abbrev pub small : CType → Option CType
small t = if is_small t then Some t else None

abbrev pub is_function_in : {A B : Type 0} → Form A B → Bool
is_function_in (f.Function t ps) = true
is_function_in _ = false

abbrev pub is_function : CType → Bool
is_function t = is_function_in (form (out-CType t))

abbrev pub is_array_in : {A B : Type 0} → Form A B → Bool
is_array_in (f.Array t n) = true
is_array_in _ = false

abbrev pub is_array : CType → Bool
is_array t = is_array_in (form (out-CType t))

abbrev pub is_unsized : Length → Bool
is_unsized Unsized = true
is_unsized _ = false

-- an incomplete type (6.2.5p19, p22), where it is told whether the structure or union that it is has its content
abbrev pub incomplete_by : Bool → Form Bool (Unit {0}) → Bool
incomplete_by complete f.Void = true
incomplete_by complete (f.Array t n) = is_unsized n
incomplete_by complete (f.Tag n w) = not complete && not (is_enum w)
incomplete_by complete (f.Qualified q t) = t
incomplete_by complete (f.Atomic t) = t
incomplete_by complete _ = false

abbrev pub incomplete : Bool → CType → Bool
incomplete complete = fold-CType Bool (Unit {0}) (λ l. incomplete_by complete (form l)) (λ ps. tt)

-- no array of functions or of incomplete elements (6.7.6.2p1)
abbrev pub array_of : CType → Length → Bool → Option CType
array_of t n complete = if is_function t || incomplete complete t then None else small (make.Array t n)

-- no function that returns an array or a function (6.7.6.3p1)
abbrev pub function_of : CType → Params → Option CType
function_of t ps = if is_function t || is_array t then None else small (make.Function t ps)

abbrev pub pointer_to : CType → Option CType
pointer_to t = small (make.Pointer t)

-- a parameter (6.7.6.3p7, p8): an array becomes a pointer with the qualifiers in its brackets, a function a pointer to it
abbrev pub adjust_by : Form CType Params → ℕ → CType → CType
adjust_by (f.Array t n) q a = qualified q (make.Pointer t)
adjust_by (f.Function t ps) q a = make.Pointer a
adjust_by _ q a = a

abbrev pub adjusted : ℕ → CType → Option CType
adjusted q t = small (adjust_by (form (out-CType t)) q t)

abbrev pub may_be_atomic : Form CType Params → Bool
may_be_atomic (f.Array t n) = false
may_be_atomic (f.Function t ps) = false
may_be_atomic (f.Atomic t) = false
may_be_atomic (f.Qualified q t) = false
may_be_atomic _ = true

-- `_Atomic(T)`: of no array, function, atomic or qualified type (6.7.2.4p3)
abbrev pub atomic_of : CType → Option CType
atomic_of t = if may_be_atomic (form (out-CType t)) then (if is_error t then Some t else small (make.Atomic t)) else None

-- what a type tells a `restrict` round it: may it be so qualified; is it a function (6.7.3p2)
pub record Restricting : Type 0 where
  pub takes : Bool
  pub function : Bool

abbrev pub restricting_by : Form Restricting (Unit {0}) → Restricting
restricting_by (f.Pointer t) = record { takes = not t.function; function = false }
restricting_by (f.Array t n) = record { takes = t.takes; function = false }
restricting_by (f.Function t ps) = record { takes = false; function = true }
restricting_by (f.Qualified q t) = t
restricting_by (f.Atomic t) = t
restricting_by f.Error = record { takes = true; function = false }
restricting_by _ = record { takes = false; function = false }

abbrev pub restricting : CType → Restricting
restricting = fold-CType Restricting (Unit {0}) (λ l. restricting_by (form l)) (λ ps. tt)

-- whether qualifiers have `restrict`
abbrev pub has_restrict : ℕ → Bool
has_restrict q = not (nat_lt q 4)

-- `_Atomic` as a qualifier stands within the others, and adds nothing to an atomic type
abbrev pub atomic_within : Form CType Params → CType → CType
atomic_within (f.Atomic t) a = a
atomic_within f.Error a = a
atomic_within _ a = make.Atomic a

abbrev pub atomic_by : Form CType Params → CType → CType
atomic_by (f.Qualified q t) a = make.Qualified q (atomic_within (form (out-CType t)) t)
atomic_by l a = atomic_within l a

abbrev pub made_atomic : Bool → CType → CType
made_atomic atomic t = if atomic then atomic_by (form (out-CType t)) t else t

-- a type with qualifiers: `restrict` on pointers to objects alone, `_Atomic` on no array and no function (6.7.3p2, p3)
abbrev pub may_take : ℕ → Bool → CType → Bool
may_take q atomic t = (not (has_restrict q) || (restricting t).takes) && (not atomic || not (is_array t || is_function t))

abbrev pub with_qualifiers : ℕ → Bool → CType → Option CType
with_qualifiers q atomic t = if may_take q atomic t then small (qualified q (made_atomic atomic t)) else None
