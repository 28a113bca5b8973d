-- Derivations keep the normal form of qualifiers.
use Rattle.std.proofs.Common.{◌≡◌, ◌<◌, ℕ, Bool, true, false, Option, Some, None, if◌then◌else◌, sym, ap, ◌∙◌, rules}
use Rattle.std.specs.Prelude.{◌||◌}
use Rattle.std.specs.Option.{IfSome}
use Rattle.cl_types.specs.declared.types.CType.{CType}
use Rattle.cl_types.specs.declared.types.CType.TheOpen.{CType-F}
use Rattle.cl_types.specs.declared.types.CType.TheVariants as make
use Rattle.cl_types.specs.declared.types.CType.TheViews.{out-CType, roll-CType, the_lemmas}
use Rattle.cl_types.specs.declared.types.Length.{Length}
use Rattle.cl_types.specs.declared.types.Params.{Params}
use Rattle.cl_types.specs.Compatible.{is_error}
use Rattle.cl_types.specs.Form.{form}
use Rattle.cl_types.specs.Normal.{are_normal, is_normal, is_small}
use Rattle.cl_types.specs.Qualify.{qualified}
use Rattle.cl_types.proofs.NormalLemmas.{array_kept, atomic_kept, atomic_within_kept, element_kept, function_kept, pointer_kept, qualified_kept}
use Rattle.cl_specifiers.specs.Derived.{adjust_by, adjusted, array_of, atomic_by, atomic_of, atomic_within, function_of, incomplete, is_array, is_function, made_atomic, may_be_atomic, may_take, pointer_to, small, with_qualifiers}

abbrev Kept : Option CType → Type 0
Kept o = IfSome o (λ made. is_normal made ≡ true)

small_by : (b : Bool) (t : CType) → is_normal t ≡ true → Kept (if b then Some t else None)
small_by true t p = p
small_by false t p = tt

small_kept : (t : CType) → is_normal t ≡ true → Kept (small t)
small_kept t p = small_by (is_small t) t p

refused_or : (b : Bool) (o : Option CType) → Kept o → Kept (if b then None else o)
refused_or true o p = tt
refused_or false o p = p

taken_or : (b : Bool) (o : Option CType) → Kept o → Kept (if b then o else None)
taken_or true o p = p
taken_or false o p = tt

pub array_made : (t : CType) (n : Length) (complete : Bool) → is_normal t ≡ true → Kept (array_of t n complete)
array_made t n complete p = refused_or (is_function t || incomplete complete t) (small (make.Array t n)) (small_kept (make.Array t n) (array_kept t n p))

pub function_made : (t : CType) (ps : Params) → is_normal t ≡ true → are_normal ps ≡ true → Kept (function_of t ps)
function_made t ps p q = refused_or (is_function t || is_array t) (small (make.Function t ps)) (small_kept (make.Function t ps) (function_kept t ps p q))

pub pointer_made : (t : CType) → is_normal t ≡ true → Kept (pointer_to t)
pointer_made t p = small_kept (make.Pointer t) (pointer_kept t p)

-- a type is what its layer rolls up to
roll_of_out : (t : CType) → roll-CType (out-CType t) ≡ t
roll_of_out t = search (rules, the_lemmas)

rolled_array : (t : CType) (n : Length) → roll-CType (CType-F.Array t n) ≡ make.Array t n
rolled_array t n = search (rules, the_lemmas)

rolled_qualified : (q : ℕ) (t : CType) → roll-CType (CType-F.Qualified q t) ≡ make.Qualified q t
rolled_qualified q t = search (rules, the_lemmas)

adjust_kept : (x : CType-F CType Params) (q : ℕ) → q < 8 → is_normal (roll-CType x) ≡ true → is_normal (adjust_by (form x) q (roll-CType x)) ≡ true
adjust_kept (CType-F.Array t n) q k p =
    qualified_kept q (make.Pointer t) k (pointer_kept t (element_kept t n (sym (ap is_normal (rolled_array t n)) ∙ p)))
adjust_kept (CType-F.Function t ps) q k p = pointer_kept _ p
adjust_kept CType-F.Void q k p = p
adjust_kept _ q k p = p

pub adjusted_made : (q : ℕ) (t : CType) → q < 8 → is_normal t ≡ true → Kept (adjusted q t)
adjusted_made q t k p =
    small_kept (adjust_by (form (out-CType t)) q t)
    (sym (ap (λ (a : CType). is_normal (adjust_by (form (out-CType t)) q a)) (roll_of_out t)) ∙ adjust_kept (out-CType t) q k (ap is_normal (roll_of_out t) ∙ p))

error_or : (b : Bool) (t : CType) → is_normal t ≡ true → Kept (if b then Some t else small (make.Atomic t))
error_or true t p = p
error_or false t p = small_kept (make.Atomic t) (atomic_kept t p)

pub atomic_made : (t : CType) → is_normal t ≡ true → Kept (atomic_of t)
atomic_made t p = taken_or (may_be_atomic (form (out-CType t))) (if is_error t then Some t else small (make.Atomic t)) (error_or (is_error t) t p)

bare_within : (x : CType-F CType Params) → is_normal (roll-CType x) ≡ true → is_normal (atomic_within (form x) (roll-CType x)) ≡ true
bare_within (CType-F.Atomic t) p = p
bare_within CType-F.Error p = p
bare_within CType-F.Void p = atomic_kept _ p
bare_within _ p = atomic_kept _ p

qualified_within : (x : CType-F CType Params) (q : ℕ) → is_normal (make.Qualified q (roll-CType x)) ≡ true → is_normal (make.Qualified q (atomic_within (form x) (roll-CType x))) ≡ true
qualified_within (CType-F.Atomic t) q p = p
qualified_within CType-F.Error q p = p
qualified_within CType-F.Void q p = atomic_within_kept q _ p
qualified_within _ q p = atomic_within_kept q _ p

qualified_whole : (q : ℕ) (t : CType) → is_normal (make.Qualified q t) ≡ true → is_normal (make.Qualified q (atomic_within (form (out-CType t)) t)) ≡ true
qualified_whole q t p =
    sym (ap (λ (a : CType). is_normal (make.Qualified q (atomic_within (form (out-CType t)) a))) (roll_of_out t))
    ∙ qualified_within (out-CType t) q (ap (λ (a : CType). is_normal (make.Qualified q a)) (roll_of_out t) ∙ p)

layer_atomic : (x : CType-F CType Params) → is_normal (roll-CType x) ≡ true → is_normal (atomic_by (form x) (roll-CType x)) ≡ true
layer_atomic (CType-F.Qualified q t) p = qualified_whole q t (sym (ap is_normal (rolled_qualified q t)) ∙ p)
layer_atomic (CType-F.Atomic t) p = p
layer_atomic CType-F.Error p = p
layer_atomic CType-F.Void p = atomic_kept _ p
layer_atomic _ p = atomic_kept _ p

made_kept : (atomic : Bool) (t : CType) → is_normal t ≡ true → is_normal (made_atomic atomic t) ≡ true
made_kept false t p = p
made_kept true t p =
    sym (ap (λ (a : CType). is_normal (atomic_by (form (out-CType t)) a)) (roll_of_out t)) ∙ layer_atomic (out-CType t) (ap is_normal (roll_of_out t) ∙ p)

pub qualified_made : (q : ℕ) (atomic : Bool) (t : CType) → q < 8 → is_normal t ≡ true → Kept (with_qualifiers q atomic t)
qualified_made q atomic t k p =
    taken_or (may_take q atomic t) (small (qualified q (made_atomic atomic t)))
    (small_kept (qualified q (made_atomic atomic t)) (qualified_kept q (made_atomic atomic t) k (made_kept atomic t p)))
