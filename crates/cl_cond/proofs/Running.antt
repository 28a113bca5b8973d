-- What the machine makes of the tokens of a tree.
use Rattle.std.proofs.Common.{◌≡◌, ℕ, ◌+◌, ◌<◌, ◌≤◌, true, List, [], ◌∷◌, ◌++◌, Option, Some, None, refl, ap, ◌∙◌, subst, arith, append_assoc, append-nil}
use Rattle.std.specs.Prelude.{nat_le}
use Rattle.std.proofs.lemmas.Bool.Decides.{nat_tests}
use Rattle.cl_cond.specs.declared.machine.Frame.{Frame}
use Rattle.cl_cond.specs.declared.machine.Frame.TheVariants as frame
use Rattle.cl_const.specs.declared.operators.Operator.{Operator}
use Rattle.cl_const.specs.declared.operators.Operator.TheVariants as op
use Rattle.cl_cond.specs.declared.outcome.Outcome.{Outcome}
use Rattle.cl_cond.specs.declared.word.Class.{Class}
use Rattle.cl_cond.specs.declared.word.Class.TheVariants as class
use Rattle.cl_cond.specs.declared.word.Word.{Word}
use Rattle.cl_const.specs.Operators.{infix_level}
use Rattle.cl_cond.specs.Expressions.{Tree, leaf, parens, unary, binary, choice, words_of, operator_of, IsOperand, IsPrefix, level_of, IsAt, Reads}
use Rattle.cl_cond.specs.code.Outcomes.{operand_outcome, outcome_of}
use Rattle.cl_cond.specs.code.Machine.{IsLoose, State, begun, close_after, colon_after, finished, gone_on, left_alone, passed_operator, passed_question, reduce, standing, step, waiting}
use Rattle.cl_cond.proofs.Reducing.{reduce_loose, reduce_tight}

abbrev pub stepped : Option State → Word → Option State
stepped None w = None
stepped (Some s) w = step s w

-- the state behind some tokens, if each may stand there
abbrev pub go : Option State → List Word → Option State
go o [] = o
go o (w ∷ ws) = go (stepped o w) ws

pub go_none : (ws : List Word) → go None ws ≡ None
go_none [] = refl
go_none (w ∷ ws) = go_none ws

pub go_append : (o : Option State) (xs ys : List Word) → go o (xs ++ ys) ≡ go (go o xs) ys
go_append o [] ys = refl
go_append o (x ∷ xs) ys = go_append (stepped o x) xs ys

pub level_below : (o : Operator) → infix_level o < 12
level_below op.Or = omega arith
level_below op.And = omega arith
level_below op.BitOr = omega arith
level_below op.BitXor = omega arith
level_below op.BitAnd = omega arith
level_below op.Equal = omega arith
level_below op.NotEqual = omega arith
level_below op.Less = omega arith
level_below op.Greater = omega arith
level_below op.LessEqual = omega arith
level_below op.GreaterEqual = omega arith
level_below op.ShiftLeft = omega arith
level_below op.ShiftRight = omega arith
level_below op.Plus = omega arith
level_below op.Minus = omega arith
level_below op.Times = omega arith
level_below op.Divide = omega arith
level_below op.Remainder = omega arith
level_below op.Complement = omega arith
level_below op.Not = omega arith

pub class_below : (c : Class) → level_of c < 12
class_below (class.Operator o) = level_below o
class_below (class.Operand n) = omega arith
class_below class.Open = omega arith
class_below class.Close = omega arith
class_below class.Question = omega arith
class_below class.Colon = omega arith
class_below class.Other = omega arith

pub level_is : (c : Class) → 2 ≤ level_of c → infix_level (operator_of c) ≡ level_of c
level_is (class.Operator o) h = refl
level_is (class.Operand n) h = absurd (omega arith)
level_is class.Open h = absurd (omega arith)
level_is class.Close h = absurd (omega arith)
level_is class.Question h = absurd (omega arith)
level_is class.Colon h = absurd (omega arith)
level_is class.Other h = absurd (omega arith)

-- ---- one token

begin_operand : (st : List Frame) (place : ℕ) (c : Class) → IsOperand c → begun st place c ≡ standing st (operand_outcome place c)
begin_operand st place (class.Operand n) h = refl
begin_operand st place (class.Operator o) h = absurd h
begin_operand st place class.Open h = absurd h
begin_operand st place class.Close h = absurd h
begin_operand st place class.Question h = absurd h
begin_operand st place class.Colon h = absurd h
begin_operand st place class.Other h = absurd h

begin_prefix : (st : List Frame) (place : ℕ) (c : Class) → IsPrefix c → begun st place c ≡ waiting (frame.Prefix (operator_of c) place ∷ st)
begin_prefix st place (class.Operator o) h = rw h refl
begin_prefix st place (class.Operand n) h = absurd h
begin_prefix st place class.Open h = absurd h
begin_prefix st place class.Close h = absurd h
begin_prefix st place class.Question h = absurd h
begin_prefix st place class.Colon h = absurd h
begin_prefix st place class.Other h = absurd h

on_binary : (c : Class) (place : ℕ) (wide st : List Frame) (x y : Outcome) → 2 ≤ level_of c → reduce (level_of c) wide x ≡ (st, y)
    → gone_on wide x place c ≡ waiting (frame.Infix (operator_of c) place y ∷ st)
on_binary (class.Operator o) place wide st x y h e =
    let two : nat_le 2 (infix_level o) ≡ true = grind (arith, nat_tests) in
    ap (passed_operator o place) e ∙ rw two refl
on_binary (class.Operand n) place wide st x y h e = absurd (omega arith)
on_binary class.Open place wide st x y h e = absurd (omega arith)
on_binary class.Close place wide st x y h e = absurd (omega arith)
on_binary class.Question place wide st x y h e = absurd (omega arith)
on_binary class.Colon place wide st x y h e = absurd (omega arith)
on_binary class.Other place wide st x y h e = absurd (omega arith)

-- ---- a tree

-- what waits and what stands there behind a tree: its right edge waits
abbrev pub feed : Tree → List Frame → List Frame × Outcome
feed (leaf w) st = (st, operand_outcome w.place w.class)
feed (parens a t b) st = (st, outcome_of t)
feed (unary w t) st = feed t (frame.Prefix (operator_of w.class) w.place ∷ st)
feed (binary l w r) st = feed r (frame.Infix (operator_of w.class) w.place (outcome_of l) ∷ st)
feed (choice c q f k s) st = feed s (frame.Colon (outcome_of c) (outcome_of f) ∷ st)

pub reduce_feed : (t : Tree) (n : ℕ) (st : List Frame) (least : ℕ) → IsAt n t → least ≤ n → least ≤ 12 → reduce least (feed t st).0 (feed t st).1 ≡ reduce least st (outcome_of t)
reduce_feed (leaf w) n st least h l m = refl
reduce_feed (parens a t b) n st least h l m = refl
reduce_feed (unary w t) n st least h l m =
    reduce_feed t 12 (frame.Prefix (operator_of w.class) w.place ∷ st) least h.2 m m ∙ reduce_tight least (frame.Prefix (operator_of w.class) w.place) st (outcome_of t) m
reduce_feed (binary x w y) n st least h l m =
    let below : least ≤ level_of w.class = omega (arith, h.1) in
    let e : infix_level (operator_of w.class) ≡ level_of w.class = level_is w.class h.0 in
    reduce_feed y (level_of w.class + 1) (frame.Infix (operator_of w.class) w.place (outcome_of x) ∷ st) least h.3 (omega arith) m
    ∙ reduce_tight least (frame.Infix (operator_of w.class) w.place (outcome_of x)) st (outcome_of y) (omega arith)
reduce_feed (choice c q f k s) n st least h l m =
    let one : least ≤ 1 = omega (arith, h.0) in
    reduce_feed s 1 (frame.Colon (outcome_of c) (outcome_of f) ∷ st) least h.5 one m ∙ reduce_tight least (frame.Colon (outcome_of c) (outcome_of f)) st (outcome_of s) one

-- no operator of a tree of this level closes what waits before it
abbrev Apart : ℕ → List Frame → Type 0
Apart n st = (m : ℕ) → n ≤ m → 2 ≤ m → m < 12 → IsLoose m st

fed : (t : Tree) (n : ℕ) (st : List Frame) → IsAt n t → (least : ℕ) → least ≤ n → least ≤ 12 → IsLoose least st → reduce least (feed t st).0 (feed t st).1 ≡ (st, outcome_of t)
fed t n st h least l m loose = reduce_feed t n st least h l m ∙ reduce_loose least st (outcome_of t) loose

pub feeds : (t : Tree) (n : ℕ) (st : List Frame) (rest : List Word) → IsAt n t → Apart n st → go (waiting st) (words_of t ++ rest) ≡ go (standing (feed t st).0 (feed t st).1) rest
feeds (leaf w) n st rest h apart = ap (λ (o : Option State). go o rest) (begin_operand st w.place w.class h)
feeds (parens a t b) n st rest h apart =
    let inner : List Frame = frame.Open ∷ st in
    let opens : begun st a.place a.class ≡ waiting inner = ap (begun st a.place) h.0 in
    let closes : gone_on (feed t inner).0 (feed t inner).1 b.place b.class ≡ standing st (outcome_of t) =
    ap (gone_on (feed t inner).0 (feed t inner).1 b.place) h.2 ∙ ap (λ (r : List Frame × Outcome). close_after r.0 r.1) (fed t 1 inner h.1 1 (omega arith) (omega arith) (omega arith)) in
    ap (go (waiting st)) (append_assoc (a ∷ words_of t) (b ∷ []) rest)
    ∙ ap (λ (o : Option State). go o (words_of t ++ b ∷ rest)) opens
    ∙ feeds t 1 inner (b ∷ rest) h.1 (λ m p q r. omega arith)
    ∙ ap (λ (o : Option State). go o rest) closes
feeds (unary w t) n st rest h apart =
    ap (λ (o : Option State). go o (words_of t ++ rest)) (begin_prefix st w.place w.class h.1)
    ∙ feeds t 12 (frame.Prefix (operator_of w.class) w.place ∷ st) rest h.2 (λ m p q r. absurd (omega arith))
feeds (binary x w y) n st rest h apart =
    let level : ℕ = level_of w.class in
    let same : infix_level (operator_of w.class) ≡ level = level_is w.class h.0 in
    let high : level < 12 = class_below w.class in
    let next : List Frame = frame.Infix (operator_of w.class) w.place (outcome_of x) ∷ st in
    let two : 2 ≤ level = h.0 in
    let low : n ≤ level = h.1 in
    let pushes : gone_on (feed x st).0 (feed x st).1 w.place w.class ≡ waiting next =
    on_binary w.class w.place (feed x st).0 st (feed x st).1 (outcome_of x) two (fed x level st h.2 level (omega arith) (omega arith) (apart level low two high)) in
    ap (go (waiting st)) (append_assoc (words_of x) (w ∷ words_of y) rest)
    ∙ feeds x level st (w ∷ (words_of y ++ rest)) h.2 (λ m p q r. apart m (omega arith) q r)
    ∙ ap (λ (o : Option State). go o (words_of y ++ rest)) pushes
    ∙ feeds y (level + 1) next rest h.3 (λ m p q r. omega arith)
feeds (choice c q f k s) n st rest h apart =
    let asked : List Frame = frame.Question (outcome_of c) ∷ st in
    let next : List Frame = frame.Colon (outcome_of c) (outcome_of f) ∷ st in
    let low : n ≤ 1 = h.0 in
    let asks : gone_on (feed c st).0 (feed c st).1 q.place q.class ≡ waiting asked =
    ap (gone_on (feed c st).0 (feed c st).1 q.place) h.2 ∙ ap passed_question (fed c 2 st h.1 2 (omega arith) (omega arith) (apart 2 (omega arith) (omega arith) (omega arith))) in
    let turns : gone_on (feed f asked).0 (feed f asked).1 k.place k.class ≡ waiting next =
    ap (gone_on (feed f asked).0 (feed f asked).1 k.place) h.4 ∙ ap (λ (r : List Frame × Outcome). colon_after r.0 r.1) (fed f 1 asked h.3 1 (omega arith) (omega arith) (omega arith)) in
    ap (go (waiting st)) (append_assoc (words_of c) (q ∷ (words_of f ++ k ∷ words_of s)) rest ∙ ap (λ (ws : List Word). words_of c ++ q ∷ ws) (append_assoc (words_of f) (k ∷ words_of s) rest))
    ∙ feeds c 2 st (q ∷ (words_of f ++ k ∷ (words_of s ++ rest))) h.1 (λ m p r u. apart m (omega arith) r u)
    ∙ ap (λ (o : Option State). go o (words_of f ++ k ∷ (words_of s ++ rest))) asks
    ∙ feeds f 1 asked (k ∷ (words_of s ++ rest)) h.3 (λ m p r u. omega arith)
    ∙ ap (λ (o : Option State). go o (words_of s ++ rest)) turns
    ∙ feeds s 1 next rest h.5 (λ m p r u. omega arith)

-- the tokens of an expression are taken, and come to what its tree comes to
pub record Finishes (words : List Word) (x : Outcome) : Type 0 where
  pub state : State
  pub goes : go (waiting []) words ≡ Some state
  pub ends : finished state ≡ Some x

pub read_finishes : (words : List Word) (t : Tree) → Reads words t → Finishes words (outcome_of t)
read_finishes words t r = record {
  state = record { stack = (feed t []).0; focus = Some (feed t []).1 };
  goes = subst (λ (ws : List Word). go (waiting []) ws ≡ standing (feed t []).0 (feed t []).1) (append-nil (words_of t) ∙ r.yields) (feeds t 1 [] [] r.at (λ m p q u. tt));
  ends = ap (λ (r : List Frame × Outcome). left_alone r.0 r.1) (fed t 1 [] r.at 1 (omega arith) (omega arith) tt);
}
