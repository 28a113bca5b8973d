-- The machine's state behind some tokens has a tree for each of its operands.
use Rattle.std.proofs.Common.{◌≡◌, ℕ, ◌+◌, ◌<◌, ◌≤◌, Bool, true, false, if◌then◌else◌, pos, List, [], ◌∷◌, ◌++◌, Option, Some, None, refl, sym, ap, ◌∙◌, subst, arith, append_assoc, append-nil, ⊎_elim}
use Rattle.std.specs.Prelude.{nat_le}
use Rattle.std.proofs.lemmas.Bool.{cases_lt}
use Rattle.std.proofs.lemmas.Bool.Decides.{nat_tests}
use Rattle.cl_cond.specs.declared.machine.Frame.{Frame}
use Rattle.cl_cond.specs.declared.machine.Frame.TheVariants as frame
use Rattle.cl_const.specs.declared.number.Number.TheVariants.{Signed}
use Rattle.cl_const.specs.declared.characters.Constant.TheVariants.{Known}
use Rattle.cl_const.specs.declared.operators.Operator.{Operator}
use Rattle.cl_const.specs.declared.operators.Operator.TheVariants as op
use Rattle.cl_cond.specs.declared.outcome.Outcome.{Outcome}
use Rattle.cl_cond.specs.declared.outcome.Outcome.TheVariants.{Value}
use Rattle.cl_cond.specs.declared.word.Class.{Class}
use Rattle.cl_cond.specs.declared.word.Class.TheVariants as class
use Rattle.cl_cond.specs.declared.word.Word.{Word}
use Rattle.cl_const.specs.Operators.{infix_level, is_prefix}
use Rattle.cl_cond.specs.code.Outcomes.{outcome_of, prefix_outcome, infix_outcome, choice_outcome}
use Rattle.cl_cond.specs.Expressions.{Tree, leaf, parens, unary, binary, choice, words_of, operator_of, IsPrefix, level_of, IsAt, Reads, GoesOn}
use Rattle.cl_cond.specs.code.Machine.{IsLoose, State, begun, close_after, closed, colon_after, finished, gone_on, left_alone, passed_question, rank, reduce, step_by, finished_by, waiting}
use Rattle.cl_cond.proofs.Reducing.{reduce_loose, reduce_tight, reduce_none}
use Rattle.cl_cond.proofs.Running.{go, stepped, level_below, level_is}

-- these tokens lead to what waits
data Waits : List Word → List Frame → Type 0 where
  start : {ws : List Word} → ws ≡ [] → Waits ws []
  opened : {ws : List Word} {st : List Frame} (front : List Word) (a : Word) → ws ≡ front ++ a ∷ [] → a.class ≡ class.Open → Waits front st → Waits ws (frame.Open ∷ st)
  prefixed : {ws : List Word} {st : List Frame} (front : List Word) (w : Word) → ws ≡ front ++ w ∷ [] → IsPrefix w.class → Waits front st → Waits ws (frame.Prefix (operator_of w.class) w.place ∷ st)
  infixed : {ws : List Word} {st : List Frame} (front : List Word) (x : Tree) (w : Word) → ws ≡ front ++ (words_of x ++ w ∷ []) → 2 ≤ level_of w.class → IsAt (level_of w.class) x
      → IsLoose (level_of w.class) st → Waits front st → Waits ws (frame.Infix (operator_of w.class) w.place (outcome_of x) ∷ st)
  asked : {ws : List Word} {st : List Frame} (front : List Word) (c : Tree) (q : Word) → ws ≡ front ++ (words_of c ++ q ∷ []) → q.class ≡ class.Question → IsAt 2 c
      → IsLoose 2 st → Waits front st → Waits ws (frame.Question (outcome_of c) ∷ st)
  turned : {ws : List Word} {st : List Frame} (front : List Word) (c f : Tree) (q k : Word) → ws ≡ front ++ (words_of c ++ q ∷ (words_of f ++ k ∷ [])) → q.class ≡ class.Question → k.class ≡ class.Colon
      → IsAt 2 c → IsAt 1 f → IsLoose 2 st → Waits front st → Waits ws (frame.Colon (outcome_of c) (outcome_of f) ∷ st)

-- how tight an operand has to bind for what waits for it
abbrev need : List Frame → ℕ
need [] = 1
need (frame.Open ∷ st) = 1
need (frame.Prefix o place ∷ st) = 12
need (frame.Infix o place x ∷ st) = infix_level o + 1
need (frame.Question c ∷ st) = 1
need (frame.Colon c f ∷ st) = 1

-- these tokens lead to what waits and an operand
record Stands (n : ℕ) (ws : List Word) (st : List Frame) (x : Outcome) : Type 0 where
  tree : Tree
  at : IsAt n tree
  front : List Word
  parts : ws ≡ front ++ words_of tree
  is : x ≡ outcome_of tree
  waits : Waits front st
  needed : need st ≤ n

at_less : (t : Tree) (n m : ℕ) → m ≤ n → IsAt n t → IsAt m t
at_less (leaf w) n m l h = h
at_less (parens a t b) n m l h = h
at_less (unary w t) n m l h = (omega (arith, h.0), h.1, h.2)
at_less (binary x w y) n m l h = (h.0, omega (arith, h.1), h.2, h.3)
at_less (choice c q f k s) n m l h = (omega (arith, h.0), h.1, h.2, h.3, h.4, h.5)

need_loose : (m : ℕ) (st : List Frame) → 1 ≤ m → IsLoose m st → need st ≤ m
need_loose m [] l h = l
need_loose m (frame.Open ∷ st) l h = l
need_loose m (frame.Prefix o place ∷ st) l h = omega arith
need_loose m (frame.Infix o place x ∷ st) l h = omega arith
need_loose m (frame.Question c ∷ st) l h = l
need_loose m (frame.Colon c f ∷ st) l h = l

no_level : (o : Operator) → infix_level o < 2 → infix_level o + 1 ≤ 1
no_level op.Or h = omega arith
no_level op.And h = omega arith
no_level op.BitOr h = omega arith
no_level op.BitXor h = omega arith
no_level op.BitAnd h = omega arith
no_level op.Equal h = omega arith
no_level op.NotEqual h = omega arith
no_level op.Less h = omega arith
no_level op.Greater h = omega arith
no_level op.LessEqual h = omega arith
no_level op.GreaterEqual h = omega arith
no_level op.ShiftLeft h = omega arith
no_level op.ShiftRight h = omega arith
no_level op.Plus h = omega arith
no_level op.Minus h = omega arith
no_level op.Times h = omega arith
no_level op.Divide h = omega arith
no_level op.Remainder h = omega arith
no_level op.Complement h = omega arith
no_level op.Not h = omega arith

need_low : (st : List Frame) → IsLoose 2 st → need st ≤ 1
need_low [] h = omega arith
need_low (frame.Open ∷ st) h = omega arith
need_low (frame.Prefix o place ∷ st) h = absurd (omega arith)
need_low (frame.Infix o place x ∷ st) h = no_level o h
need_low (frame.Question c ∷ st) h = omega arith
need_low (frame.Colon c f ∷ st) h = omega arith

need_most : (st : List Frame) → need st ≤ 12
need_most [] = omega arith
need_most (frame.Open ∷ st) = omega arith
need_most (frame.Prefix o place ∷ st) = omega arith
need_most (frame.Infix o place x ∷ st) = omega (arith, level_below o)
need_most (frame.Question c ∷ st) = omega arith
need_most (frame.Colon c f ∷ st) = omega arith

-- ---- a frame with its operand

abbrev IsClosable : Frame → Type 0
IsClosable frame.Open = ⊥
IsClosable (frame.Question c) = ⊥
IsClosable _ = Unit {0}

close_by : (n : ℕ) {ws front : List Word} {f : Frame} {st : List Frame} {x : Outcome} (tree : Tree) → IsAt n tree → ws ≡ front ++ words_of tree → x ≡ outcome_of tree → need (f ∷ st) ≤ n
    → Waits front (f ∷ st) → IsClosable f → Stands (rank f) ws st (closed f x)
close_by n tree at parts is needed (opened front a e h more) c = absurd c
close_by n tree at parts is needed (asked front t q e h u l more) c = absurd c
close_by n {st = st} tree at parts is needed (prefixed front w e p more) c = record {
  tree = unary w tree;
  at = (omega arith, p, at_less tree n 12 needed at);
  front = front;
  parts = parts ∙ ap (λ (s : List Word). s ++ words_of tree) e ∙ append_assoc front (w ∷ []) (words_of tree);
  is = ap (prefix_outcome (operator_of w.class) w.place) is;
  waits = more;
  needed = need_most st;
}
close_by n {st = st} tree at parts is needed (infixed front x w e two h loose more) c =
    let same : infix_level (operator_of w.class) ≡ level_of w.class = level_is w.class two in
    let low : level_of w.class + 1 ≤ n = omega arith in
    let down : need st ≤ level_of w.class = need_loose (level_of w.class) st (omega arith) loose in
    record {
      tree = binary x w tree;
      at = (two, omega arith, h, at_less tree n (level_of w.class + 1) low at);
      front = front;
      parts = parts ∙ ap (λ (s : List Word). s ++ words_of tree) e ∙ append_assoc front (words_of x ++ w ∷ []) (words_of tree) ∙ ap (λ (s : List Word). front ++ s) (append_assoc (words_of x) (w ∷ []) (words_of tree));
      is = ap (infix_outcome (operator_of w.class) w.place (outcome_of x)) is;
      waits = more;
      needed = omega arith;
    }
close_by n {st = st} tree at parts is needed (turned front a b q k e hq hk ha hb loose more) c = record {
  tree = choice a q b k tree;
  at = (omega arith, ha, hq, hb, hk, at_less tree n 1 needed at);
  front = front;
  parts = parts ∙ ap (λ (s : List Word). s ++ words_of tree) e ∙ append_assoc front (words_of a ++ q ∷ (words_of b ++ k ∷ [])) (words_of tree)
      ∙ ap (λ (s : List Word). front ++ s) (append_assoc (words_of a) (q ∷ (words_of b ++ k ∷ [])) (words_of tree) ∙ ap (λ (s : List Word). words_of a ++ q ∷ s) (append_assoc (words_of b) (k ∷ []) (words_of tree)));
  is = ap (choice_outcome (outcome_of a) (outcome_of b)) is;
  waits = more;
  needed = need_low st loose;
}

close : (n : ℕ) (ws : List Word) (f : Frame) (st : List Frame) (x : Outcome) → Stands n ws (f ∷ st) x → IsClosable f → Stands (rank f) ws st (closed f x)
close n ws f st x s c = close_by n s.tree s.at s.parts s.is s.needed s.waits c

-- what is left once the frames that bind at least so tight are closed
record Reduced (least : ℕ) (ws : List Word) (r : List Frame × Outcome) : Type 0 where
  level : ℕ
  tight : least ≤ level
  stands : Stands level ws r.0 r.1
  loose : IsLoose least r.0

closable : (f : Frame) (least : ℕ) → 1 ≤ least → least ≤ rank f → IsClosable f
closable frame.Open least l m = absurd (omega arith)
closable (frame.Prefix o place) least l m = tt
closable (frame.Infix o place x) least l m = tt
closable (frame.Question c) least l m = absurd (omega arith)
closable (frame.Colon c f) least l m = tt

reducing : (st : List Frame) (n least : ℕ) (ws : List Word) (x : Outcome) → 1 ≤ least → least ≤ n → Stands n ws st x → Reduced least ws (reduce least st x)
reducing [] n least ws x l m s = subst (Reduced least ws) (sym (reduce_none least x)) (record { level = n; tight = m; stands = s; loose = tt })
reducing (f ∷ st) n least ws x l m s =
    ⊎_elim
    (λ (h : rank f < least). subst (Reduced least ws) (sym (reduce_loose least (f ∷ st) x h)) (record { level = n; tight = m; stands = s; loose = h }))
    (λ (h : least ≤ rank f). subst (Reduced least ws) (sym (reduce_tight least f st x h)) (reducing st (rank f) least ws (closed f x) l h (close n ws f st x s (closable f least l h))))
    (cases_lt (rank f) least)

-- ---- one token

abbrev Here : List Word → List Frame → Option Outcome → Type 0
Here ws st None = Waits ws st
Here ws st (Some x) = Stands 12 ws st x

abbrev Kept : List Word → Option State → Type 0
Kept ws None = Unit {0}
Kept ws (Some s) = Here ws s.stack s.focus

abbrev word : ℕ → Class → Word
word place c = record { place = place; class = c }

prefix_kept : (ws : List Word) (st : List Frame) (place : ℕ) (o : Operator) (b : Bool) → is_prefix o ≡ b → Waits ws st → Kept (ws ++ word place (class.Operator o) ∷ []) (if b then waiting (frame.Prefix o place ∷ st) else None)
prefix_kept ws st place o true e h = prefixed ws (word place (class.Operator o)) refl e h
prefix_kept ws st place o false e h = tt

begin_kept : (ws : List Word) (st : List Frame) (place : ℕ) (c : Class) → Waits ws st → Kept (ws ++ word place c ∷ []) (begun st place c)
begin_kept ws st place (class.Operand n) h = record { tree = leaf (word place (class.Operand n)); at = tt; front = ws; parts = refl; is = refl; waits = h; needed = need_most st }
begin_kept ws st place (class.Operator o) h = prefix_kept ws st place o (is_prefix o) refl h
begin_kept ws st place class.Open h = opened ws (word place class.Open) refl refl h
begin_kept ws st place class.Close h = tt
begin_kept ws st place class.Question h = tt
begin_kept ws st place class.Colon h = tt
begin_kept ws st place class.Other h = tt

joined : (ws front : List Word) (t : Tree) (w : Word) → ws ≡ front ++ words_of t → ws ++ w ∷ [] ≡ front ++ (words_of t ++ w ∷ [])
joined ws front t w e = ap (λ (s : List Word). s ++ w ∷ []) e ∙ append_assoc front (words_of t) (w ∷ [])

operator_kept : (ws : List Word) (place : ℕ) (o : Operator) (r : List Frame × Outcome) (b : Bool) → nat_le 2 (infix_level o) ≡ b → (2 ≤ infix_level o → Reduced (infix_level o) ws r)
    → Kept (ws ++ word place (class.Operator o) ∷ []) (if b then waiting (frame.Infix o place r.1 ∷ r.0) else None)
operator_kept ws place o r false e h = tt
operator_kept ws place o r true e h =
    let two : 2 ≤ infix_level o = grind (arith, nat_tests) in
    let d = h two in
    let s = d.stands in
    let w : Word = word place (class.Operator o) in
    subst (λ (y : Outcome). Waits (ws ++ w ∷ []) (frame.Infix o place y ∷ r.0)) (sym s.is)
    (infixed s.front s.tree w (joined ws s.front s.tree w s.parts) two (at_less s.tree d.level (infix_level o) d.tight s.at) d.loose s.waits)

question_kept : (ws : List Word) (place : ℕ) (r : List Frame × Outcome) → Reduced 2 ws r → Kept (ws ++ word place class.Question ∷ []) (passed_question r)
question_kept ws place r d =
    let s = d.stands in
    let w : Word = word place class.Question in
    subst (λ (y : Outcome). Waits (ws ++ w ∷ []) (frame.Question y ∷ r.0)) (sym s.is)
    (asked s.front s.tree w (joined ws s.front s.tree w s.parts) refl (at_less s.tree d.level 2 d.tight s.at) d.loose s.waits)

turn : {ws front : List Word} {st : List Frame} {c : Outcome} (k : Word) (f : Tree) → ws ≡ front ++ words_of f → k.class ≡ class.Colon → IsAt 1 f → Waits front (frame.Question c ∷ st) → Waits (ws ++ k ∷ []) (frame.Colon c (outcome_of f) ∷ st)
turn k f parts is at (asked front c q e hq hc loose more) =
    turned front c f q k
    (ap (λ (s : List Word). s ++ k ∷ []) (parts ∙ ap (λ (s : List Word). s ++ words_of f) e) ∙ append_assoc (front ++ (words_of c ++ q ∷ [])) (words_of f) (k ∷ [])
    ∙ append_assoc front (words_of c ++ q ∷ []) (words_of f ++ k ∷ []) ∙ ap (λ (s : List Word). front ++ s) (append_assoc (words_of c) (q ∷ []) (words_of f ++ k ∷ [])))
    hq is hc at loose more

colon_kept : (ws : List Word) (st : List Frame) (x : Outcome) (place n : ℕ) → Stands n ws st x → Kept (ws ++ word place class.Colon ∷ []) (colon_after st x)
colon_kept ws [] x place n s = tt
colon_kept ws (frame.Open ∷ st) x place n s = tt
colon_kept ws (frame.Prefix o p ∷ st) x place n s = tt
colon_kept ws (frame.Infix o p y ∷ st) x place n s = tt
colon_kept ws (frame.Colon c f ∷ st) x place n s = tt
colon_kept ws (frame.Question c ∷ st) x place n s =
    let k : Word = word place class.Colon in
    subst (λ (y : Outcome). Waits (ws ++ k ∷ []) (frame.Colon c y ∷ st)) (sym s.is) (turn k s.tree s.parts refl (at_less s.tree n 1 s.needed s.at) s.waits)

wrap : {ws front : List Word} {st : List Frame} {x : Outcome} (b : Word) (t : Tree) → ws ≡ front ++ words_of t → b.class ≡ class.Close → IsAt 1 t → x ≡ outcome_of t → Waits front (frame.Open ∷ st) → Stands 12 (ws ++ b ∷ []) st x
wrap {st = st} b t parts shut at is (opened front a e h more) = record {
  tree = parens a t b;
  at = (h, at, shut);
  front = front;
  parts = ap (λ (s : List Word). s ++ b ∷ []) (parts ∙ ap (λ (s : List Word). s ++ words_of t) e) ∙ append_assoc (front ++ a ∷ []) (words_of t) (b ∷ []) ∙ append_assoc front (a ∷ []) (words_of t ++ b ∷ []);
  is = is;
  waits = more;
  needed = need_most st;
}

close_kept : (ws : List Word) (st : List Frame) (x : Outcome) (place n : ℕ) → Stands n ws st x → Kept (ws ++ word place class.Close ∷ []) (close_after st x)
close_kept ws [] x place n s = tt
close_kept ws (frame.Prefix o p ∷ st) x place n s = tt
close_kept ws (frame.Infix o p y ∷ st) x place n s = tt
close_kept ws (frame.Colon c f ∷ st) x place n s = tt
close_kept ws (frame.Question c ∷ st) x place n s = tt
close_kept ws (frame.Open ∷ st) x place n s = wrap (word place class.Close) s.tree s.parts refl (at_less s.tree n 1 s.needed s.at) s.is s.waits

go_on_kept : (ws : List Word) (st : List Frame) (x : Outcome) (place : ℕ) (c : Class) → Stands 12 ws st x → Kept (ws ++ word place c ∷ []) (gone_on st x place c)
go_on_kept ws st x place (class.Operator o) s =
    operator_kept ws place o (reduce (infix_level o) st x) (nat_le 2 (infix_level o)) refl (λ two. let low = level_below o in reducing st 12 (infix_level o) ws x (omega arith) (omega arith) s)
go_on_kept ws st x place class.Question s = question_kept ws place (reduce 2 st x) (reducing st 12 2 ws x (omega arith) (omega arith) s)
go_on_kept ws st x place class.Colon s =
    let d = reducing st 12 1 ws x (omega arith) (omega arith) s in
    colon_kept ws (reduce 1 st x).0 (reduce 1 st x).1 place d.level d.stands
go_on_kept ws st x place class.Close s =
    let d = reducing st 12 1 ws x (omega arith) (omega arith) s in
    close_kept ws (reduce 1 st x).0 (reduce 1 st x).1 place d.level d.stands
go_on_kept ws st x place class.Open s = tt
go_on_kept ws st x place (class.Operand n) s = tt
go_on_kept ws st x place class.Other s = tt

by_focus : (ws : List Word) (st : List Frame) (x : Option Outcome) (w : Word) → Here ws st x → Kept (ws ++ w ∷ []) (step_by st x w)
by_focus ws st None w h = begin_kept ws st w.place w.class h
by_focus ws st (Some x) w h = go_on_kept ws st x w.place w.class h

step_kept : (ws : List Word) (o : Option State) (w : Word) → Kept ws o → Kept (ws ++ w ∷ []) (stepped o w)
step_kept ws None w h = tt
step_kept ws (Some s) w h = by_focus ws s.stack s.focus w h

go_kept : (before ws : List Word) (o : Option State) → Kept before o → Kept (before ++ ws) (go o ws)
go_kept before [] o h = subst (λ (s : List Word). Kept s o) (sym (append-nil before)) h
go_kept before (w ∷ ws) o h = subst (λ (s : List Word). Kept s (go (stepped o w) ws)) (append_assoc before (w ∷ []) ws) (go_kept (before ++ w ∷ []) ws (stepped o w) (step_kept before o w h))

-- ---- what has gone so far can go on

goes_less : (front : List Word) (w : Word) → GoesOn (front ++ w ∷ []) → GoesOn front
goes_less front w g = (w ∷ g.0, (g.1.0, record { at = g.1.1.at; yields = g.1.1.yields ∙ append_assoc front (w ∷ []) g.0 }))

whole_read : {ws front : List Word} (t : Tree) → ws ≡ front ++ words_of t → IsAt 1 t → Waits front [] → Reads ws t
whole_read t parts at (start e) = record { at = at; yields = sym (parts ∙ ap (λ (s : List Word). s ++ words_of t) e) }

abbrev zero_word : Word
zero_word = word 0 (class.Operand (Known (Signed (pos 0))))

completes : (st : List Frame) (n : ℕ) (ws : List Word) (x : Outcome) → Stands n ws st x → GoesOn ws
completes [] n ws x s = ([], (s.tree, subst (λ (l : List Word). Reads l s.tree) (sym (append-nil ws)) (whole_read s.tree s.parts (at_less s.tree n 1 s.needed s.at) s.waits)))
completes (frame.Open ∷ st) n ws x s = goes_less ws (word 0 class.Close) (completes st 12 (ws ++ word 0 class.Close ∷ []) x (close_kept ws (frame.Open ∷ st) x 0 n s))
completes (frame.Question c ∷ st) n ws x s =
    let k : Word = word 0 class.Colon in
    let one : List Word = ws ++ k ∷ [] in
    let two : List Word = one ++ zero_word ∷ [] in
    let waits : Waits one (frame.Colon c x ∷ st) = colon_kept ws (frame.Question c ∷ st) x 0 n s in
    let stands : Stands 12 two (frame.Colon c x ∷ st) (Value (Signed (pos 0))) = begin_kept one (frame.Colon c x ∷ st) 0 (class.Operand (Known (Signed (pos 0)))) waits in
    let less : Stands 1 two st (choice_outcome c x (Value (Signed (pos 0)))) = close 12 two (frame.Colon c x) st (Value (Signed (pos 0))) stands tt in
    goes_less ws k (goes_less one zero_word (completes st 1 two (choice_outcome c x (Value (Signed (pos 0)))) less))
completes (frame.Prefix o p ∷ st) n ws x s = completes st 12 ws (prefix_outcome o p x) (close n ws (frame.Prefix o p) st x s tt)
completes (frame.Infix o p y ∷ st) n ws x s = completes st (infix_level o) ws (infix_outcome o p y x) (close n ws (frame.Infix o p y) st x s tt)
completes (frame.Colon c f ∷ st) n ws x s = completes st 1 ws (choice_outcome c f x) (close n ws (frame.Colon c f) st x s tt)

waits_on : (ws : List Word) (st : List Frame) → Waits ws st → GoesOn ws
waits_on ws st h =
    goes_less ws zero_word (completes st 12 (ws ++ zero_word ∷ []) (Value (Signed (pos 0))) (begin_kept ws st 0 (class.Operand (Known (Signed (pos 0)))) h))

here_on : (ws : List Word) (st : List Frame) (x : Option Outcome) → Here ws st x → GoesOn ws
here_on ws st None h = waits_on ws st h
here_on ws st (Some x) h = completes st 12 ws x h

all_kept : (ws : List Word) → Kept ws (go (waiting []) ws)
all_kept ws = go_kept [] ws (waiting []) (start refl)

-- the tokens that were taken can go on
pub taken_on : (ws : List Word) (s : State) → go (waiting []) ws ≡ Some s → GoesOn ws
taken_on ws s e = here_on ws s.stack s.focus (subst (Kept ws) e (all_kept ws))

-- ---- what is finished is an expression

pub record ReadAs (ws : List Word) (x : Outcome) : Type 0 where
  pub tree : Tree
  pub reads : Reads ws tree
  pub is : x ≡ outcome_of tree

left_read : (ws : List Word) (st : List Frame) (y x : Outcome) (n : ℕ) → 1 ≤ n → Stands n ws st y → left_alone st y ≡ Some x → ReadAs ws x
left_read ws [] y x n l s e = let same : y ≡ x = cc in record { tree = s.tree; reads = whole_read s.tree s.parts (at_less s.tree n 1 l s.at) s.waits; is = sym same ∙ s.is }
left_read ws (f ∷ st) y x n l s e = cc

finish_read : (ws : List Word) (st : List Frame) (y : Option Outcome) (x : Outcome) → Here ws st y → finished_by st y ≡ Some x → ReadAs ws x
finish_read ws st None x h e = cc
finish_read ws st (Some y) x h e =
    let d = reducing st 12 1 ws y (omega arith) (omega arith) h in
    left_read ws (reduce 1 st y).0 (reduce 1 st y).1 x d.level d.tight d.stands e

pub finished_read : (ws : List Word) (s : State) (x : Outcome) → go (waiting []) ws ≡ Some s → finished s ≡ Some x → ReadAs ws x
finished_read ws s x e f = finish_read ws s.stack s.focus x (subst (Kept ws) e (all_kept ws)) f
