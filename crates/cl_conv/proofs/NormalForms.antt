-- What the operators give is in normal form where their operands are.
use Rattle.std.proofs.Common.{◌≡◌, ◌<◌, ◌&&◌, ◌||◌, ◌^◌, ℕ, Bool, true, false, if◌then◌else◌, List, [], ◌∷◌, Option, Some, None, refl, sym, ap, subst, ◌∙◌, arith, rules, nat_lt, bit_or}
use Rattle.std.specs.Prelude.{not}
use Rattle.std.specs.Option.{IfSome}
use Rattle.std.proofs.lemmas.Grind.{common_steps}
use Rattle.std.proofs.lemmas.Nat.{or_lt}
use Rattle.cl_types.specs.declared.expressions.BinaryOp.{BinaryOp}
use Rattle.cl_types.specs.declared.expressions.Operand.{Operand}
use Rattle.cl_types.specs.declared.expressions.UnaryOp.{UnaryOp}
use Rattle.cl_types.specs.declared.expressions.UnaryOp.TheVariants as op
use Rattle.cl_types.specs.declared.types.Basic.{Basic}
use Rattle.cl_types.specs.declared.types.Basic.TheVariants as basic
use Rattle.cl_types.specs.declared.types.CType.{CType}
use Rattle.cl_types.specs.declared.types.CType.TheFolds.{fold-Params, fold-roll-CType, map-CType}
use Rattle.cl_types.specs.declared.types.CType.TheOpen.{CType-F}
use Rattle.cl_types.specs.declared.types.CType.TheVariants as make
use Rattle.cl_types.specs.declared.types.CType.TheViews.{out-CType, roll-CType, the_lemmas}
use Rattle.cl_types.specs.declared.types.Params.{Params}
use Rattle.cl_types.specs.declared.unit.Member.{Member}
use Rattle.cl_types.specs.Compatible.{is_error}
use Rattle.cl_types.specs.Composite.{composite}
use Rattle.cl_types.specs.Form.{Form, Form as f, form, listed, unqualified}
use Rattle.cl_types.specs.Kinds.{arithmetic, stripped, without_atomic}
use Rattle.cl_types.specs.Normal.{Normal, is_normal, normal, normal_by}
use Rattle.cl_types.specs.Qualify.{qualified, qualifiers_in, qualifiers_of}
use Rattle.cl_types.specs.Usual.{promoted, usual_basic}
use Rattle.cl_types.proofs.NormalLemmas.{composite_kept, pointer_kept, qualified_kept, unqualified_kept}
use Rattle.cl_conv.specs.declared.members.Access.{Access}
use Rattle.cl_conv.specs.declared.members.Access.TheVariants.{Dot, Arrow}
use Rattle.cl_conv.specs.declared.operators.Outcome.{Outcome}
use Rattle.cl_conv.specs.declared.operators.Outcome.TheVariants as give
use Rattle.cl_conv.specs.MemberOf.{accessed, member_of, part, part_by, record_in}
use Rattle.cl_conv.specs.Operands.{decayed, is_arithmetic, is_pointer, is_record, is_scalar, is_void, object_and_void, same_pointers, same_record, target, target_in, value_type}
use Rattle.cl_conv.specs.Operators.{binary, designated, made, made_by, of_basic, promote, promote_kind, row_of, usual, usual_kinds, value}
use Rattle.cl_conv.specs.Unary.{call, cast, cast_row, choice, conditional, given, given_by, given_in, joined, joined_void, may_cast, pointer_choice, unary, unary_row, where_fits}

abbrev IsNormal : CType → Type 0
IsNormal t = is_normal t ≡ true

left_true : (a b : Bool) → (a && b) ≡ true → a ≡ true
left_true true b h = refl
left_true false b h = cc

right_true : (a b : Bool) → (a && b) ≡ true → b ≡ true
right_true true b h = h
right_true false b h = cc

-- ---- the parts of a type

abbrev normal_params : Params → Option (List Normal × Bool)
normal_params = fold-Params Normal (Option (List Normal × Bool)) (λ l. normal_by (form l)) listed

normal_roll : (x : CType-F CType Params) → normal (roll-CType x) ≡ normal_by (form (map-CType CType Params Normal (Option (List Normal × Bool)) normal normal_params x))
normal_roll x = fold-roll-CType Normal (Option (List Normal × Bool)) (λ l. normal_by (form l)) listed x

holds_roll : (x : CType-F CType Params) → is_normal (roll-CType x) ≡ true → (normal_by (form (map-CType CType Params Normal (Option (List Normal × Bool)) normal normal_params x))).holds ≡ true
holds_roll x h = sym (ap (λ (n : Normal). n.holds) (normal_roll x)) ∙ h

abbrev PartOf : CType-F CType Params → Type 0
PartOf (CType-F.Pointer t) = IsNormal t
PartOf (CType-F.Array t n) = IsNormal t
PartOf (CType-F.Function t ps) = IsNormal t
PartOf (CType-F.Qualified q t) = nat_lt q 8 ≡ true
PartOf (CType-F.Atomic t) = IsNormal t
PartOf _ = Unit {0}

part_normal : (x : CType-F CType Params) → is_normal (roll-CType x) ≡ true → PartOf x
part_normal (CType-F.Pointer t) h = holds_roll (CType-F.Pointer t) h
part_normal (CType-F.Array t n) h = holds_roll (CType-F.Array t n) h
part_normal (CType-F.Function t ps) h = left_true _ _ (holds_roll (CType-F.Function t ps) h)
part_normal (CType-F.Qualified q t) h = right_true _ _ (right_true _ _ (holds_roll (CType-F.Qualified q t) h))
part_normal (CType-F.Atomic t) h = holds_roll (CType-F.Atomic t) h
part_normal _ h = tt

roll_of_out : (t : CType) → roll-CType (out-CType t) ≡ t
roll_of_out t = search (rules, the_lemmas)

-- a fact of a type in normal form, layer by layer
by_layer : (P : CType → CType-F CType Params → Type 0) → ((x : CType-F CType Params) → is_normal (roll-CType x) ≡ true → P (roll-CType x) x) → (a : CType) → IsNormal a → P a (out-CType a)
by_layer P f a h = subst (λ (b : CType). P b (out-CType a)) (roll_of_out a) (f (out-CType a) (ap is_normal (roll_of_out a) ∙ h))

atomic_off : (x : CType-F CType Params) → is_normal (roll-CType x) ≡ true → IsNormal (without_atomic (form x) (roll-CType x))
atomic_off (CType-F.Atomic t) h = part_normal (CType-F.Atomic t) h
atomic_off CType-F.Void h = h
atomic_off _ h = h

stripped_kept : (t : CType) → IsNormal t → IsNormal (stripped t)
stripped_kept t h = by_layer (λ a x. IsNormal (without_atomic (form x) a)) atomic_off (unqualified t) (unqualified_kept t h)

decayed_kept : (x : CType-F CType Params) → is_normal (roll-CType x) ≡ true → IsNormal (decayed (form x) (roll-CType x))
decayed_kept (CType-F.Array t n) h = pointer_kept t (part_normal (CType-F.Array t n) h)
decayed_kept (CType-F.Function t ps) h = pointer_kept _ h
decayed_kept CType-F.Void h = h
decayed_kept _ h = h

value_kept : (t : CType) → IsNormal t → IsNormal (value_type t)
value_kept t h = by_layer (λ a x. IsNormal (decayed (form x) a)) decayed_kept (stripped t) (stripped_kept t h)

abbrev IsKept : Option CType → Type 0
IsKept o = IfSome o (λ t. is_normal t ≡ true)

target_in_kept : (x : CType-F CType Params) → is_normal (roll-CType x) ≡ true → IsKept (target_in (form x) (roll-CType x))
target_in_kept (CType-F.Pointer t) h = part_normal (CType-F.Pointer t) h
target_in_kept (CType-F.Array t n) h = part_normal (CType-F.Array t n) h
target_in_kept (CType-F.Function t ps) h = h
target_in_kept _ h = tt

target_kept : (t : CType) → IsNormal t → IsKept (target t)
target_kept t h = by_layer (λ a x. IsKept (target_in (form x) a)) target_in_kept (stripped t) (stripped_kept t h)

below_tests : (n m : ℕ) → nat_lt n m ≡ true → n < m
below_tests n m h = grind (arith, common_steps)

few_qualifiers : (x : CType-F CType Params) → is_normal (roll-CType x) ≡ true → qualifiers_in (form x) < 8
few_qualifiers (CType-F.Qualified q t) h = below_tests q 8 (part_normal (CType-F.Qualified q t) h)
few_qualifiers CType-F.Void h = omega arith
few_qualifiers _ h = omega arith

qualifiers_below : (t : CType) → IsNormal t → qualifiers_of t < 8
qualifiers_below t h = by_layer (λ a x. qualifiers_in (form x) < 8) few_qualifiers t h

leaf_kept : (x : CType-F CType Params) (a : CType) → roll-CType x ≡ a → (normal_by (form (map-CType CType Params Normal (Option (List Normal × Bool)) normal normal_params x))).holds ≡ true → IsNormal a
leaf_kept x a e h = sym (ap is_normal e) ∙ (ap (λ (n : Normal). n.holds) (normal_roll x) ∙ h)

basic_kept : (k : Basic) → IsNormal (of_basic k)
basic_kept basic.Bool = leaf_kept CType-F.Bool make.Bool (search (rules, the_lemmas)) refl
basic_kept basic.Char = leaf_kept CType-F.Char make.Char (search (rules, the_lemmas)) refl
basic_kept basic.SChar = leaf_kept CType-F.SChar make.SChar (search (rules, the_lemmas)) refl
basic_kept basic.UChar = leaf_kept CType-F.UChar make.UChar (search (rules, the_lemmas)) refl
basic_kept basic.Short = leaf_kept CType-F.Short make.Short (search (rules, the_lemmas)) refl
basic_kept basic.UShort = leaf_kept CType-F.UShort make.UShort (search (rules, the_lemmas)) refl
basic_kept basic.Int = leaf_kept CType-F.Int make.Int (search (rules, the_lemmas)) refl
basic_kept basic.UInt = leaf_kept CType-F.UInt make.UInt (search (rules, the_lemmas)) refl
basic_kept basic.Long = leaf_kept CType-F.Long make.Long (search (rules, the_lemmas)) refl
basic_kept basic.ULong = leaf_kept CType-F.ULong make.ULong (search (rules, the_lemmas)) refl
basic_kept basic.LLong = leaf_kept CType-F.LLong make.LLong (search (rules, the_lemmas)) refl
basic_kept basic.ULLong = leaf_kept CType-F.ULLong make.ULLong (search (rules, the_lemmas)) refl
basic_kept basic.Float = leaf_kept CType-F.Float make.Float (search (rules, the_lemmas)) refl
basic_kept basic.Double = leaf_kept CType-F.Double make.Double (search (rules, the_lemmas)) refl
basic_kept basic.LDouble = leaf_kept CType-F.LDouble make.LDouble (search (rules, the_lemmas)) refl

error_kept : IsNormal make.Error
error_kept = leaf_kept CType-F.Error make.Error (search (rules, the_lemmas)) refl

void_kept : IsNormal make.Void
void_kept = leaf_kept CType-F.Void make.Void (search (rules, the_lemmas)) refl

-- ---- conversions

promote_kind_kept : (k : Option Basic) (t : CType) → IsNormal t → IsNormal (promote_kind k t)
promote_kind_kept None t h = h
promote_kind_kept (Some k) t h = basic_kept (promoted k)

usual_kinds_kept : (j k : Option Basic) → IsNormal (usual_kinds j k)
usual_kinds_kept (Some j) (Some k) = basic_kept (usual_basic j k)
usual_kinds_kept (Some j) None = error_kept
usual_kinds_kept None k = error_kept

designated_kept : (o : Option CType) → IsKept o → IsNormal (designated o).ty
designated_kept None h = error_kept
designated_kept (Some t) h = h

-- ---- operators

abbrev Gives : Option Operand → Type 0
Gives o = IfSome o (λ made. is_normal made.ty ≡ true)

chosen : (b : Bool) (x y : Option Operand) → Gives x → Gives y → Gives (if b then x else y)
chosen true x y h k = h
chosen false x y h k = k

fitting : (b : Bool) (a : Operand) → IsNormal a.ty → Gives (where_fits b a)
fitting true a h = h
fitting false a h = tt

outcome_kept : (o : Outcome) (a b : CType) → IsNormal a → IsNormal b → IsNormal (made o a b).ty
outcome_kept give.ByUsual a b h k = usual_kinds_kept (arithmetic a) (arithmetic b)
outcome_kept give.PromotedLeft a b h k = promote_kind_kept (arithmetic (value_type a)) (value_type a) (value_kept a h)
outcome_kept give.LeftType a b h k = value_kept a h
outcome_kept give.RightType a b h k = value_kept b k
outcome_kept give.IsInt a b h k = basic_kept basic.Int
outcome_kept give.IsLong a b h k = basic_kept basic.Long
outcome_kept give.LeftTarget a b h k = designated_kept (target a) (target_kept a h)
outcome_kept give.RightTarget a b h k = designated_kept (target b) (target_kept b k)

made_kept : (o : Option Outcome) (a b : CType) → IsNormal a → IsNormal b → Gives (made_by o a b)
made_kept None a b h k = tt
made_kept (Some o) a b h k = outcome_kept o a b h k

pub binary_kept : (o : BinaryOp) (a b : Operand) → is_normal a.ty ≡ true → is_normal b.ty ≡ true → Gives (binary o a b)
binary_kept o a b h k =
    chosen (is_error a.ty || is_error b.ty) (Some (value make.Error)) (made_by (row_of o a b) a.ty b.ty) error_kept (made_kept (row_of o a b) a.ty b.ty h k)

row_kept : (o : UnaryOp) (a : Operand) → is_normal a.ty ≡ true → Gives (unary_row o a)
row_kept op.PostIncrement a h = fitting _ (value (value_type a.ty)) (value_kept a.ty h)
row_kept op.PostDecrement a h = fitting _ (value (value_type a.ty)) (value_kept a.ty h)
row_kept op.PreIncrement a h = fitting _ (value (value_type a.ty)) (value_kept a.ty h)
row_kept op.PreDecrement a h = fitting _ (value (value_type a.ty)) (value_kept a.ty h)
row_kept op.AddressOf a h = fitting _ (value (make.Pointer a.ty)) (pointer_kept a.ty h)
row_kept op.Dereference a h = fitting _ (designated (target a.ty)) (designated_kept (target a.ty) (target_kept a.ty h))
row_kept op.Plus a h = fitting _ (value (promote (value_type a.ty))) (promote_kind_kept (arithmetic (value_type a.ty)) (value_type a.ty) (value_kept a.ty h))
row_kept op.Minus a h = fitting _ (value (promote (value_type a.ty))) (promote_kind_kept (arithmetic (value_type a.ty)) (value_type a.ty) (value_kept a.ty h))
row_kept op.Complement a h = fitting _ (value (promote (value_type a.ty))) (promote_kind_kept (arithmetic (value_type a.ty)) (value_type a.ty) (value_kept a.ty h))
row_kept op.Not a h = fitting _ (value make.Int) (basic_kept basic.Int)

pub unary_kept : (o : UnaryOp) (a : Operand) → is_normal a.ty ≡ true → Gives (unary o a)
unary_kept o a h = chosen (is_error a.ty) (Some (value make.Error)) (unary_row o a) error_kept (row_kept o a h)

pub cast_kept : (to : CType) (a : Operand) → is_normal to ≡ true → Gives (cast to a)
cast_kept to a h =
    chosen (is_error (stripped to) || is_error a.ty) (Some (value make.Error)) (cast_row to a) error_kept (fitting (may_cast to a) (value (stripped to)) (stripped_kept to h))

recorded : (b : Bool) (t : CType) → IsNormal t → IsKept (if b then Some t else None)
recorded true t h = h
recorded false t h = tt

record_kept : (o : Option CType) → IsKept o → IsKept (record_in o)
record_kept None h = tt
record_kept (Some t) h = recorded (is_record t) t h

accessed_kept : (how : Access) (a : Operand) → IsNormal a.ty → IsKept (accessed how a)
accessed_kept Dot a h = record_kept (Some a.ty) h
accessed_kept Arrow a h = record_kept (target a.ty) (target_kept a.ty h)

parted : (how : Access) (a : Operand) (m : Member) (o : Option CType) → IsNormal m.ty → IsKept o → Gives (part_by how a m o)
parted how a m None h k = tt
parted how a m (Some t) h k = qualified_kept (qualifiers_of t) m.ty (qualifiers_below t k) h

pub member_kept : (how : Access) (a : Operand) (m : Member) → is_normal a.ty ≡ true → is_normal m.ty ≡ true → Gives (member_of how a m)
member_kept how a m h k =
    chosen (is_error a.ty) (Some (value make.Error)) (part_by how a m (accessed how a)) error_kept (parted how a m (accessed how a) k (accessed_kept how a h))

both_below : (q r : ℕ) → q < 8 → r < 8 → bit_or q r < 8
both_below q r h k = or_lt 3 q r h k

joined_kept : (a b : Option CType) → IsKept a → IsKept b → IsNormal (joined a b)
joined_kept (Some t) (Some u) h k =
    pointer_kept _
    (qualified_kept (bit_or (qualifiers_of t) (qualifiers_of u)) (composite (unqualified t) (unqualified u)) (both_below _ _ (qualifiers_below t h) (qualifiers_below u k))
    (composite_kept (unqualified t) (unqualified u) (unqualified_kept t h) (unqualified_kept u k)))
joined_kept (Some t) None h k = error_kept
joined_kept None b h k = error_kept

joined_void_kept : (a b : Option CType) → IsKept a → IsKept b → IsNormal (joined_void a b)
joined_void_kept (Some t) (Some u) h k =
    pointer_kept _ (qualified_kept (bit_or (qualifiers_of t) (qualifiers_of u)) make.Void (both_below _ _ (qualifiers_below t h) (qualifiers_below u k)) void_kept)
joined_void_kept (Some t) None h k = error_kept
joined_void_kept None b h k = error_kept

three_ways : (b c d : Bool) (x y z w : Option Operand) → Gives x → Gives y → Gives z → Gives w → Gives (if b then x else if c then y else if d then z else w)
three_ways true c d x y z w h k l m = h
three_ways false true d x y z w h k l m = k
three_ways false false true x y z w h k l m = l
three_ways false false false x y z w h k l m = m

pointers_kept : (a b : Operand) → IsNormal a.ty → IsNormal b.ty → Gives (pointer_choice a b)
pointers_kept a b h k =
    three_ways (is_pointer a.ty && b.null) (a.null && is_pointer b.ty) (same_pointers a.ty b.ty)
    (Some (value (value_type a.ty))) (Some (value (value_type b.ty))) (Some (value (joined (target a.ty) (target b.ty))))
    (if object_and_void a.ty b.ty then Some (value (joined_void (target a.ty) (target b.ty))) else None)
    (value_kept a.ty h) (value_kept b.ty k) (joined_kept (target a.ty) (target b.ty) (target_kept a.ty h) (target_kept b.ty k))
    (chosen (object_and_void a.ty b.ty) (Some (value (joined_void (target a.ty) (target b.ty)))) None
    (joined_void_kept (target a.ty) (target b.ty) (target_kept a.ty h) (target_kept b.ty k)) tt)

choice_kept : (a b : Operand) → IsNormal a.ty → IsNormal b.ty → Gives (choice a b)
choice_kept a b h k =
    three_ways (is_arithmetic a.ty && is_arithmetic b.ty) (same_record a.ty b.ty) (is_void a.ty && is_void b.ty)
    (Some (value (usual a.ty b.ty))) (Some (value (stripped a.ty))) (Some (value make.Void)) (pointer_choice a b)
    (usual_kinds_kept (arithmetic a.ty) (arithmetic b.ty)) (stripped_kept a.ty h) void_kept (pointers_kept a b h k)

pub conditional_kept : (c a b : Operand) → is_normal a.ty ≡ true → is_normal b.ty ≡ true → Gives (conditional c a b)
conditional_kept c a b h k =
    chosen (is_error c.ty || (is_error a.ty || is_error b.ty)) (Some (value make.Error)) (if is_scalar c.ty then choice a b else None) error_kept
    (chosen (is_scalar c.ty) (choice a b) None (choice_kept a b h k) tt)

given_kept : (x : CType-F CType Params) → is_normal (roll-CType x) ≡ true → Gives (given_in (form x))
given_kept (CType-F.Function t ps) h = stripped_kept t (part_normal (CType-F.Function t ps) h)
given_kept _ h = tt

given_by_kept : (o : Option CType) → IsKept o → Gives (given_by o)
given_by_kept None h = tt
given_by_kept (Some t) h = by_layer (λ a x. Gives (given_in (form x))) given_kept t h

pub call_kept : (a : Operand) → is_normal a.ty ≡ true → Gives (call a)
call_kept a h = chosen (is_error a.ty) (Some (value make.Error)) (given_by (target a.ty)) error_kept (given_by_kept (target a.ty) (target_kept a.ty h))
