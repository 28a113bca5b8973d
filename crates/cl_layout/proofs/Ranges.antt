-- The value of a constant expression is one of its type.
use Rattle.std.proofs.Common.{◌≡◌, ◌<◌, ◌^◌, ◌||◌, ◌==◌, ℕ, ℤ, pos, Bool, true, false, if◌then◌else◌, List, [], ◌∷◌, map, Option, Some, None, refl, sym, ap, subst, ◌∙◌, arith}
use Rattle.std.specs.Prelude.{◌%◌, slice_get}
use Rattle.std.specs.Int.{w8, w16, w32, w64}
use Rattle.std.proofs.Math.Facts.{Fits-of_lt}
use Rattle.std.proofs.Math.Facts.{sfits_to_z}
use Rattle.std.proofs.Math.Nat.{mod-lt}
use Rattle.std.proofs.lemmas.Int.{fits_signed_from_abs}
use Rattle.cl_const.specs.declared.number.Number.{Number}
use Rattle.cl_const.specs.declared.number.Number.TheVariants.{Unsigned}
use Rattle.cl_const.specs.declared.operators.Operator.{Operator}
use Rattle.cl_const.specs.declared.operators.Operator.TheVariants as op
use Rattle.cl_const.specs.Numbers.{as_unsigned, is_true, truth}
use Rattle.cl_const.specs.Operators.{apply, apply_prefix}
use Rattle.cl_types.specs.declared.expressions.Typed.{Typed}
use Rattle.cl_types.specs.declared.expressions.Typed.TheVariants as typed
use Rattle.cl_types.specs.declared.expressions.TypedExpr.{TypedExpr}
use Rattle.cl_types.specs.declared.expressions.TypedExpr.TheFolds.{fold_out-TypedExpr}
use Rattle.cl_types.specs.declared.expressions.TypedExpr.TheViews.{out-TypedExpr}
use Rattle.cl_types.specs.declared.types.Basic.{Basic}
use Rattle.cl_types.specs.declared.types.Basic.TheVariants as basic
use Rattle.cl_layout.specs.declared.constants.Value.TheVariants as value
use Rattle.cl_layout.specs.declared.layout.Layout.{Layout}
use Rattle.cl_layout.specs.declared.layout.Layout.TheVariants as layout_of
use Rattle.cl_layout.specs.declared.reading.Reading.{Reading}
use Rattle.cl_layout.specs.declared.worth.Worth.{Worth}
use Rattle.cl_layout.specs.declared.worth.Worth.TheVariants.{Fails, Unknown, Known}
use Rattle.cl_layout.specs.Constants.{binary_at, constant, integer_of, is_refused, leaf_worth, number_in, number_worth, over_one, over_parts, over_three, over_two, prefix_at, read, reading, reading_by, size_worth, align_worth, value_in, value_of, worth_at, worth_by, worth_in, asked_layout}
use Rattle.cl_layout.specs.Ranges.{InRange}
use Rattle.cl_layout.specs.Worths.{after_known, after_unknown, binary_worth, chosen, converted, infixed, infix_at, infix_operator, integer_kind, is_not, is_remainder, is_unsigned, logical_and, logical_or, narrowed, operand_kind, prefixed, prefix_operator, remaining, right_operand, select, spoils, truth_of, worked, worth_as}

below_power : (n m : ℕ) → 0 < m → n % m < m
below_power n m h = mod-lt n h

one_or_zero : (b : Bool) → InRange basic.Bool (integer_of (if b then Unsigned 1 else Unsigned 0))
one_or_zero true = omega arith
one_or_zero false = omega arith

-- what is converted to a type is a value of it
pub converted_in_range : (k : Basic) (n : Number) → InRange k (integer_of (converted k n))
converted_in_range basic.Bool n = one_or_zero (is_true n)
converted_in_range basic.Char n = sfits_to_z {w = w8} (Fits-of_lt {w = w8} (below_power (as_unsigned n) (2 ^ 8) (omega arith)))
converted_in_range basic.SChar n = sfits_to_z {w = w8} (Fits-of_lt {w = w8} (below_power (as_unsigned n) (2 ^ 8) (omega arith)))
converted_in_range basic.UChar n = below_power (as_unsigned n) (2 ^ 8) (omega arith)
converted_in_range basic.Short n = sfits_to_z {w = w16} (Fits-of_lt {w = w16} (below_power (as_unsigned n) (2 ^ 16) (omega arith)))
converted_in_range basic.UShort n = below_power (as_unsigned n) (2 ^ 16) (omega arith)
converted_in_range basic.Int n = sfits_to_z {w = w32} (Fits-of_lt {w = w32} (below_power (as_unsigned n) (2 ^ 32) (omega arith)))
converted_in_range basic.UInt n = below_power (as_unsigned n) (2 ^ 32) (omega arith)
converted_in_range basic.Long n = sfits_to_z {w = w64} (Fits-of_lt {w = w64} (below_power (as_unsigned n) (2 ^ 64) (omega arith)))
converted_in_range basic.LLong n = sfits_to_z {w = w64} (Fits-of_lt {w = w64} (below_power (as_unsigned n) (2 ^ 64) (omega arith)))
converted_in_range basic.ULong n = below_power (as_unsigned n) (2 ^ 64) (omega arith)
converted_in_range _ n = below_power (as_unsigned n) (2 ^ 64) (omega arith)

small_in_range : (k : Basic) (n : ℕ) → n < 2 → InRange k (pos n)
small_in_range basic.Bool n h = omega arith
small_in_range basic.Char n h = fits_signed_from_abs w8 (pos n) (omega arith)
small_in_range basic.SChar n h = fits_signed_from_abs w8 (pos n) (omega arith)
small_in_range basic.UChar n h = omega arith
small_in_range basic.Short n h = fits_signed_from_abs w16 (pos n) (omega arith)
small_in_range basic.UShort n h = omega arith
small_in_range basic.Int n h = fits_signed_from_abs w32 (pos n) (omega arith)
small_in_range basic.UInt n h = omega arith
small_in_range basic.Long n h = fits_signed_from_abs w64 (pos n) (omega arith)
small_in_range basic.LLong n h = fits_signed_from_abs w64 (pos n) (omega arith)
small_in_range basic.ULong n h = omega arith
small_in_range _ n h = omega arith

truth_in_range : (k : Basic) (b : Bool) → InRange k (integer_of (truth b))
truth_in_range k true = small_in_range k 1 (omega arith)
truth_in_range k false = small_in_range k 0 (omega arith)

-- what is known of a worth is a value of the type
abbrev IsIn : Basic → Worth → Type 0
IsIn k (Known n) = InRange k (integer_of n)
IsIn k _ = Unit {0}

as_fits : (k : Basic) (w : Worth) → IsIn k (worth_as k w)
as_fits k (Known n) = converted_in_range k n
as_fits k Unknown = tt
as_fits k Fails = tt

kept_fits : (b : Bool) (k : Basic) (n : Number) → IsIn k (if b then Known (converted k n) else Fails)
kept_fits true k n = converted_in_range k n
kept_fits false k n = tt

narrowed_fits : (k : Basic) (o : Option Number) → IsIn k (narrowed k o)
narrowed_fits k None = tt
narrowed_fits k (Some n) = kept_fits (is_unsigned k || as_unsigned (converted k n) == as_unsigned n) k n

either_fits : (b : Bool) (k : Basic) (x y : Worth) → IsIn k x → IsIn k y → IsIn k (if b then x else y)
either_fits true k x y f g = f
either_fits false k x y f g = g

prefixed_fits : (o : Operator) (k : Basic) (w : Worth) → IsIn k (prefixed o k w)
prefixed_fits o k (Known n) =
    either_fits (is_not o) k (narrowed k (apply_prefix o n)) (narrowed k (apply_prefix o (converted k n)))
    (narrowed_fits k (apply_prefix o n)) (narrowed_fits k (apply_prefix o (converted k n)))
prefixed_fits o k Unknown = tt
prefixed_fits o k Fails = tt

remaining_fits : (k : Basic) (q w : Worth) → IsIn k w → IsIn k (remaining q w)
remaining_fits k Fails w f = tt
remaining_fits k Unknown w f = f
remaining_fits k (Known n) w f = f

worked_fits : (o : Operator) (k own : Basic) (x y : Number) → IsIn own (worked o k own x y)
worked_fits o k own x y =
    either_fits (is_remainder o) own _ _
    (remaining_fits own (narrowed k (apply op.Divide (converted k x) (converted k y))) _ (narrowed_fits own (apply op.Remainder (converted k x) (converted k y))))
    (narrowed_fits own (apply o (converted k x) (right_operand o k y)))

after_known_fits : (o : Operator) (k own : Basic) (x : Number) (w : Worth) → IsIn own (after_known o k own x w)
after_known_fits o k own x (Known y) = either_fits (spoils o k y) own Fails (worked o k own x y) tt (worked_fits o k own x y)
after_known_fits o k own x Unknown = tt
after_known_fits o k own x Fails = tt

after_unknown_fits : (o : Operator) (k own : Basic) (w : Worth) → IsIn own (after_unknown o k w)
after_unknown_fits o k own (Known y) = either_fits (spoils o k y) own Fails Unknown tt tt
after_unknown_fits o k own Unknown = tt
after_unknown_fits o k own Fails = tt

infixed_fits : (o : Operator) (k own : Basic) (x y : Worth) → IsIn own (infixed o k own x y)
infixed_fits o k own Fails y = tt
infixed_fits o k own Unknown y = after_unknown_fits o k own y
infixed_fits o k own (Known n) y = after_known_fits o k own n y

infix_at_fits : (o : Operator) (k : Option Basic) (own : Basic) (x y : Worth) → IsIn own (infix_at o k own x y)
infix_at_fits o None own x y = tt
infix_at_fits o (Some k) own x y = infixed_fits o k own x y

truth_of_fits : (k : Basic) (w : Worth) → IsIn k (truth_of w)
truth_of_fits k (Known n) = truth_in_range k (is_true n)
truth_of_fits k Unknown = tt
truth_of_fits k Fails = tt

and_fits : (k : Basic) (x y : Worth) → IsIn k (logical_and x y)
and_fits k (Known n) y = either_fits (is_true n) k (truth_of y) (Known (truth false)) (truth_of_fits k y) (truth_in_range k false)
and_fits k Unknown y = tt
and_fits k Fails y = tt

or_fits : (k : Basic) (x y : Worth) → IsIn k (logical_or x y)
or_fits k (Known n) y = either_fits (is_true n) k (Known (truth true)) (truth_of y) (truth_in_range k true) (truth_of_fits k y)
or_fits k Unknown y = tt
or_fits k Fails y = tt

select_fits : (k : Basic) (c x y : Worth) → IsIn k (select k c x y)
select_fits k (Known n) x y = as_fits k (chosen (is_true n) x y)
select_fits k Unknown x y = tt
select_fits k Fails x y = tt

binary_fits : (o : Operator) (i j : Option Basic) (k : Basic) (x y : Worth) → IsIn k (binary_worth o i j k x y)
binary_fits op.And i j k x y = and_fits k x y
binary_fits op.Or i j k x y = or_fits k x y
binary_fits op.Plus i j k x y = infix_at_fits op.Plus (Some k) k x y
binary_fits o i j k x y = infix_at_fits o (operand_kind o i j k) k x y

-- ---- of an expression, by its parts

number_fits : (k : Basic) (o : Option Number) → IsIn k (number_worth k o)
number_fits k None = tt
number_fits k (Some n) = converted_in_range k n

leaf_fits : (k : Basic) (o : Option ℤ) → IsIn k (leaf_worth k o)
leaf_fits k None = tt
leaf_fits k (Some v) = number_fits k (number_in v)

size_fits : (k : Basic) (l : Layout) → IsIn k (size_worth k l)
size_fits k (layout_of.Known size align) = converted_in_range k (Unsigned size)
size_fits k layout_of.Unknown = tt
size_fits k layout_of.Incomplete = tt

align_fits : (k : Basic) (l : Layout) → IsIn k (align_worth k l)
align_fits k (layout_of.Known size align) = converted_in_range k (Unsigned align)
align_fits k layout_of.Unknown = tt
align_fits k layout_of.Incomplete = tt

prefix_at_fits : (o : Option Operator) (k : Basic) (w : Worth) → IsIn k (prefix_at o k w)
prefix_at_fits None k w = tt
prefix_at_fits (Some o) k w = prefixed_fits o k w

binary_at_fits : (o : Option Operator) (k : Basic) (a b : Reading) → IsIn k (binary_at o k a b)
binary_at_fits None k a b = tt
binary_at_fits (Some o) k a b = binary_fits o a.kind b.kind k a.worth b.worth

one_fits : (t : Typed) (k : Basic) (a : Reading) → IsIn k (over_one t k a)
one_fits (typed.Unary o) k a = prefix_at_fits (prefix_operator o) k a.worth
one_fits typed.Cast k a = either_fits a.floating k Unknown (worth_as k a.worth) tt (as_fits k a.worth)
one_fits _ k a = tt

two_fits : (t : Typed) (k : Basic) (a b : Reading) → IsIn k (over_two t k a b)
two_fits (typed.Binary o) k a b = binary_at_fits (infix_operator o) k a b
two_fits _ k a b = tt

three_fits : (t : Typed) (k : Basic) (a b c : Reading) → IsIn k (over_three t k a b c)
three_fits typed.Select k a b c = select_fits k a.worth b.worth c.worth
three_fits _ k a b c = tt

parts_fit : (t : Typed) (k : Basic) (parts : List Reading) → IsIn k (over_parts t k parts)
parts_fit t k [] = tt
parts_fit t k (a ∷ []) = one_fits t k a
parts_fit t k (a ∷ b ∷ []) = two_fits t k a b
parts_fit t k (a ∷ b ∷ c ∷ []) = three_fits t k a b c
parts_fit t k (a ∷ b ∷ c ∷ d ∷ more) = tt

worth_fits : (t : Typed) (k : Basic) (l : Layout) (parts : List Reading) → IsIn k (worth_by t k l parts)
worth_fits (typed.Int v) k l parts = converted_in_range k (Unsigned v)
worth_fits (typed.Chars v) k l parts = leaf_fits k v
worth_fits (typed.Named n v) k l parts = leaf_fits k v
worth_fits (typed.SizeOf t) k l parts = size_fits k l
worth_fits (typed.AlignOf t) k l parts = align_fits k l
worth_fits (typed.Generic n) k l parts = as_fits k (worth_at (slice_get parts n))
worth_fits typed.Cast k l parts = parts_fit typed.Cast k parts
worth_fits t k l parts = parts_fit t k parts

-- ---- the law

abbrev HasRange : Option Basic → ℤ → Type 0
HasRange o v = (kind : Basic) × ((o ≡ Some kind) × InRange kind v)

known_fits : (k : Basic) (w : Worth) (v : ℤ) → IsIn k w → value_in w ≡ value.Known v → InRange k v
known_fits k (Known n) v f e = let same : integer_of n ≡ v = cc in subst (InRange k) same f
known_fits k Unknown v f e = cc
known_fits k Fails v f e = cc

kind_fits : (o : Option Basic) (t : Typed) (l : Layout) (parts : List Reading) (v : ℤ) → value_in (worth_in o t l parts) ≡ value.Known v → HasRange o v
kind_fits None t l parts v e = cc
kind_fits (Some k) t l parts v e = (k, (refl, known_fits k (worth_by t k l parts) v (worth_fits t k l parts) e))

not_refused : (b : Bool) (w : Worth) (v : ℤ) → (if b then value.NotConst else value_in w) ≡ value.Known v → value_in w ≡ value.Known v
not_refused true w v e = cc
not_refused false w v e = e

pub known_in_range : (layouts : Bool → ℕ → Layout) (e : TypedExpr) (v : ℤ) → constant layouts e ≡ value.Known v → HasRange (integer_kind (out-TypedExpr e).operand.ty) v
known_in_range layouts e v h =
    let told : reading layouts e ≡ read (out-TypedExpr e).op (out-TypedExpr e).operand (asked_layout layouts (out-TypedExpr e).op) (map (reading layouts) (out-TypedExpr e).parts) =
    fold_out-TypedExpr Reading (reading_by layouts) e in
    let one : value_of (read (out-TypedExpr e).op (out-TypedExpr e).operand (asked_layout layouts (out-TypedExpr e).op) (map (reading layouts) (out-TypedExpr e).parts)) ≡ value.Known v =
    sym (ap value_of told) ∙ h in
    kind_fits (integer_kind (out-TypedExpr e).operand.ty) (out-TypedExpr e).op (asked_layout layouts (out-TypedExpr e).op) (map (reading layouts) (out-TypedExpr e).parts) v
    (not_refused (is_refused (out-TypedExpr e).op (out-TypedExpr e).operand (map (reading layouts) (out-TypedExpr e).parts)) _ v one)
