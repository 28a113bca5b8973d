-- What the code makes of a tree has its type and its value.
use Rattle.std.proofs.Common.{◌≡◌, ℕ, Bool, true, false, ◌||◌, Option, Some, None, refl, ap, ◌∙◌}
use Rattle.cl_const.specs.declared.characters.Constant.TheVariants.{Known, Unknown}
use Rattle.cl_const.specs.declared.number.Number.{Number}
use Rattle.cl_const.specs.declared.operators.Operator.{Operator}
use Rattle.cl_const.specs.declared.operators.Operator.TheVariants as op
use Rattle.cl_const.specs.Numbers.{converted, is_true, is_unsigned, truth}
use Rattle.cl_const.specs.Operators.{IsOfType, apply, apply_prefix, infix_unsigned, prefix_unsigned}
use Rattle.cl_const.proofs.Types.{infix_type, prefix_type}
use Rattle.cl_cond.specs.declared.outcome.Outcome.{Outcome}
use Rattle.cl_cond.specs.declared.outcome.Outcome.TheVariants.{Value, Fails}
use Rattle.cl_cond.specs.declared.word.Class.{Class}
use Rattle.cl_cond.specs.declared.word.Class.TheVariants as class
use Rattle.cl_cond.specs.Expressions.{Tree, leaf, parens, unary, binary, choice, operator_of}
use Rattle.cl_cond.specs.Values.{Worth, number, fails, applied_worth, choice_worth, class_worth, converted_worth, given_worth, infix_worth, prefix_worth, truth_worth, unsigned_class, unsigned_of, worth_of}
use Rattle.cl_cond.specs.Conditions as conditions
use Rattle.cl_cond.specs.code.Outcomes.{answer, applied, choice_outcome, given, in_type, infix_outcome, logical_outcome, operand_outcome, outcome_of, outcome_unsigned, prefix_outcome, truth_of}

abbrev worth_by : Outcome → Worth
worth_by (Value n) = number n
worth_by (Fails place unsigned) = fails place

-- an outcome of this type and of this value
record Agrees (x : Outcome) (unsigned : Bool) (worth : Worth) : Type 0 where
  type_is : outcome_unsigned x ≡ unsigned
  worth_is : worth_by x ≡ worth

constant_agrees : (place : ℕ) (c : Class) → Agrees (operand_outcome place c) (unsigned_class c) (class_worth place c)
constant_agrees place (class.Operand (Known n)) = record { type_is = refl; worth_is = refl }
constant_agrees place (class.Operand (Unknown u)) = record { type_is = refl; worth_is = refl }
constant_agrees place (class.Operator o) = record { type_is = refl; worth_is = refl }
constant_agrees place class.Open = record { type_is = refl; worth_is = refl }
constant_agrees place class.Close = record { type_is = refl; worth_is = refl }
constant_agrees place class.Question = record { type_is = refl; worth_is = refl }
constant_agrees place class.Colon = record { type_is = refl; worth_is = refl }
constant_agrees place class.Other = record { type_is = refl; worth_is = refl }

given_agrees : (m : Option Number) (place : ℕ) (u : Bool) → IsOfType u m → Agrees (given m place u) u (given_worth m place)
given_agrees None place u h = record { type_is = refl; worth_is = refl }
given_agrees (Some n) place u h = record { type_is = h; worth_is = refl }

prefix_agrees : (o : Operator) (place : ℕ) (x : Outcome) → Agrees (prefix_outcome o place x) (prefix_unsigned o (outcome_unsigned x)) (prefix_worth o place (worth_by x))
prefix_agrees o place (Value n) = given_agrees (apply_prefix o n) place (prefix_unsigned o (is_unsigned n)) (prefix_type o n)
prefix_agrees o place (Fails before u) = record { type_is = refl; worth_is = refl }

applied_agrees : (o : Operator) (place : ℕ) (x y : Outcome) → Agrees (applied o place x y) (infix_unsigned o (outcome_unsigned x) (outcome_unsigned y)) (applied_worth o place (worth_by x) (worth_by y))
applied_agrees o place (Fails before u) y = record { type_is = refl; worth_is = refl }
applied_agrees o place (Value m) (Fails before u) = record { type_is = refl; worth_is = refl }
applied_agrees o place (Value m) (Value n) = given_agrees (apply o m n) place (infix_unsigned o (is_unsigned m) (is_unsigned n)) (infix_type o m n)

truth_type : (b : Bool) → is_unsigned (truth b) ≡ false
truth_type true = refl
truth_type false = refl

truth_agrees : (x : Outcome) → Agrees (truth_of x) false (truth_worth (worth_by x))
truth_agrees (Value n) = record { type_is = truth_type (is_true n); worth_is = refl }
truth_agrees (Fails place u) = record { type_is = refl; worth_is = refl }

or_by : (n : Number) (y : Outcome) (b : Bool) → is_true n ≡ b → Agrees (logical_outcome true (Value n) y) false (infix_worth op.Or 0 (number n) (worth_by y))
or_by n y true e = rw e (record { type_is = refl; worth_is = refl })
or_by n y false e = rw e (truth_agrees y)

or_agrees : (x y : Outcome) → Agrees (logical_outcome true x y) false (infix_worth op.Or 0 (worth_by x) (worth_by y))
or_agrees (Value n) y = or_by n y (is_true n) refl
or_agrees (Fails place u) y = record { type_is = refl; worth_is = refl }

and_by : (n : Number) (y : Outcome) (b : Bool) → is_true n ≡ b → Agrees (logical_outcome false (Value n) y) false (infix_worth op.And 0 (number n) (worth_by y))
and_by n y true e = rw e (truth_agrees y)
and_by n y false e = rw e (record { type_is = refl; worth_is = refl })

and_agrees : (x y : Outcome) → Agrees (logical_outcome false x y) false (infix_worth op.And 0 (worth_by x) (worth_by y))
and_agrees (Value n) y = and_by n y (is_true n) refl
and_agrees (Fails place u) y = record { type_is = refl; worth_is = refl }

infix_agrees : (o : Operator) (place : ℕ) (x y : Outcome) → Agrees (infix_outcome o place x y) (infix_unsigned o (outcome_unsigned x) (outcome_unsigned y)) (infix_worth o place (worth_by x) (worth_by y))
infix_agrees op.Or place x y = or_agrees x y
infix_agrees op.And place x y = and_agrees x y
infix_agrees op.BitOr place x y = applied_agrees op.BitOr place x y
infix_agrees op.BitXor place x y = applied_agrees op.BitXor place x y
infix_agrees op.BitAnd place x y = applied_agrees op.BitAnd place x y
infix_agrees op.Equal place x y = applied_agrees op.Equal place x y
infix_agrees op.NotEqual place x y = applied_agrees op.NotEqual place x y
infix_agrees op.Less place x y = applied_agrees op.Less place x y
infix_agrees op.Greater place x y = applied_agrees op.Greater place x y
infix_agrees op.LessEqual place x y = applied_agrees op.LessEqual place x y
infix_agrees op.GreaterEqual place x y = applied_agrees op.GreaterEqual place x y
infix_agrees op.ShiftLeft place x y = applied_agrees op.ShiftLeft place x y
infix_agrees op.ShiftRight place x y = applied_agrees op.ShiftRight place x y
infix_agrees op.Plus place x y = applied_agrees op.Plus place x y
infix_agrees op.Minus place x y = applied_agrees op.Minus place x y
infix_agrees op.Times place x y = applied_agrees op.Times place x y
infix_agrees op.Divide place x y = applied_agrees op.Divide place x y
infix_agrees op.Remainder place x y = applied_agrees op.Remainder place x y
infix_agrees op.Complement place x y = applied_agrees op.Complement place x y
infix_agrees op.Not place x y = applied_agrees op.Not place x y

-- ---- `?:`

converted_type : (u : Bool) (n : Number) → (u ≡ false → is_unsigned n ≡ false) → is_unsigned (converted u n) ≡ u
converted_type true n h = refl
converted_type false n h = h refl

in_agrees : (u : Bool) (x : Outcome) → (u ≡ false → outcome_unsigned x ≡ false) → Agrees (in_type u x) u (converted_worth u (worth_by x))
in_agrees u (Value n) h = record { type_is = converted_type u n h; worth_is = refl }
in_agrees u (Fails place own) h = record { type_is = refl; worth_is = refl }

left_false : (a b : Bool) → (a || b) ≡ false → a ≡ false
left_false true b e = e
left_false false b e = refl

right_false : (a b : Bool) → (a || b) ≡ false → b ≡ false
right_false true true e = e
right_false true false e = refl
right_false false b e = e

choice_by : (n : Number) (x y : Outcome) (b : Bool) → is_true n ≡ b
    → Agrees (choice_outcome (Value n) x y) (outcome_unsigned x || outcome_unsigned y) (choice_worth (outcome_unsigned x || outcome_unsigned y) (number n) (worth_by x) (worth_by y))
choice_by n x y true e = rw e (in_agrees (outcome_unsigned x || outcome_unsigned y) x (left_false (outcome_unsigned x) (outcome_unsigned y)))
choice_by n x y false e = rw e (in_agrees (outcome_unsigned x || outcome_unsigned y) y (right_false (outcome_unsigned x) (outcome_unsigned y)))

choice_agrees : (c x y : Outcome) → Agrees (choice_outcome c x y) (outcome_unsigned x || outcome_unsigned y) (choice_worth (outcome_unsigned x || outcome_unsigned y) (worth_by c) (worth_by x) (worth_by y))
choice_agrees (Value n) x y = choice_by n x y (is_true n) refl
choice_agrees (Fails place u) x y = record { type_is = refl; worth_is = refl }

-- ---- a tree

agrees : (t : Tree) → Agrees (outcome_of t) (unsigned_of t) (worth_of t)
agrees (leaf w) = constant_agrees w.place w.class
agrees (parens a t b) = agrees t
agrees (unary w t) =
    let h = agrees t in
    let k = prefix_agrees (operator_of w.class) w.place (outcome_of t) in
    record { type_is = k.type_is ∙ ap (prefix_unsigned (operator_of w.class)) h.type_is; worth_is = k.worth_is ∙ ap (prefix_worth (operator_of w.class) w.place) h.worth_is }
agrees (binary l w r) =
    let g = agrees l in
    let h = agrees r in
    let k = infix_agrees (operator_of w.class) w.place (outcome_of l) (outcome_of r) in
    record {
      type_is = k.type_is ∙ (λ i. infix_unsigned (operator_of w.class) (g.type_is i) (h.type_is i));
      worth_is = k.worth_is ∙ (λ i. infix_worth (operator_of w.class) w.place (g.worth_is i) (h.worth_is i));
    }
agrees (choice c q f k s) =
    let g = agrees c in
    let h = agrees f in
    let j = agrees s in
    let m = choice_agrees (outcome_of c) (outcome_of f) (outcome_of s) in
    record {
      type_is = m.type_is ∙ (λ i. h.type_is i || j.type_is i);
      worth_is = m.worth_is ∙ (λ i. choice_worth (h.type_is i || j.type_is i) (g.worth_is i) (h.worth_is i) (j.worth_is i));
    }

answer_by : (x : Outcome) → answer x ≡ conditions.answer (outcome_unsigned x) (worth_by x)
answer_by (Value n) = refl
answer_by (Fails place u) = refl

-- what the code answers for a tree
pub answers : (t : Tree) → answer (outcome_of t) ≡ conditions.answer (unsigned_of t) (worth_of t)
answers t = let h = agrees t in answer_by (outcome_of t) ∙ (λ i. conditions.answer (h.type_is i) (h.worth_is i))
