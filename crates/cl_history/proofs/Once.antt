-- In a legal journal each request gets one reply.
use Rattle.std.proofs.Common.{◌≡◌, ℕ, ℤ, ◌+◌, ◌<◌, ◌≤◌, min, List, [], ◌∷◌, map, filter, Bool, true, false, if◌then◌else◌, refl, sym, ap, ◌∙◌, subst, arith, nat_eq, eq-eqb, eqb-true}
use Rattle.std.proofs.lemmas.Bool.{eqb-false}
use Rattle.std.specs.Prelude.{Option, Some, None}
use Rattle.cl_rpc.specs.declared.out.How.{How}
use Rattle.cl_rpc.specs.declared.out.How.TheVariants as how
use Rattle.cl_rpc.specs.Classes.{Class, initialises, shuts_down, queries, unknown, bad_params, invalid, opens, changes, closes, cancels, watched, exits, dropped}
use Rattle.cl_history.specs.declared.entry.Entry.{Entry}
use Rattle.cl_history.specs.declared.entry.Entry.TheVariants.{In, Load, Reply, Notify}
use Rattle.cl_history.specs.Given.{Given, Needs, said, received}
use Rattle.cl_history.specs.History.{is_initialised, is_shut_down, is_pending, text_at, is_query, pending, End, ends, is_meant, pending_meant, without, refusal}
use Rattle.cl_history.specs.Legal.{Due, all_as, due_to_accepted, due_by, due_to, rest_of, owed, MayReply, AllFollow, IsLegal}
use Rattle.cl_history.specs.Once.{count_replies, wants_reply, AreOnce}
use Rattle.cl_history.proofs.Times.{bit, bit_le, times, times_append, times_filter, times_gone, times_kept, times_found}
use Rattle.cl_history.proofs.Accepting.{never_unknown, never_bad}

abbrev pub numbers_of : List Due → List ℕ
numbers_of dues = map (λ (due : Due). due.0) dues

-- how many replies of a message are called for
abbrev pub wanted : Given → List Entry → ℕ → ℕ
wanted given [] n = 0
wanted given (In k ∷ past) n = if nat_eq k n then bit (wants_reply (said given n)) else wanted given past n
wanted given (Load k ∷ past) n = wanted given past n
wanted given (Reply message mark h ∷ past) n = wanted given past n
wanted given (Notify message mark ∷ past) n = wanted given past n

-- those that a message got, and those that are still to come, are those that are called for
record AllTold (given : Given) (past : List Entry) (n : ℕ) : Type 0 where
  pub told : count_replies past n + min 1 (times n (pending given past) + times n (numbers_of (owed given past))) ≡ wanted given past n
  pub pending_once : times n (pending given past) ≤ 1
  pub owed_once : times n (numbers_of (owed given past)) ≤ 1

-- ---- which replies are called for

none_wanted_by : (b : Bool) (k n w : ℕ) (p : Class) → nat_eq k n ≡ b → k < n → w ≡ 0 → (if b then bit (wants_reply p) else w) ≡ 0
none_wanted_by true k n w p e lt none = let same : k ≡ n = eqb-true k n e in absurd (omega arith)
none_wanted_by false k n w p e lt none = none

none_wanted : (needs : Needs) (given : Given) (past : List Entry) (n : ℕ) → AllFollow needs given past → received past ≤ n → wanted given past n ≡ 0
none_wanted needs given [] n follow le = refl
none_wanted needs given (In k ∷ past) n follow le =
    let first : k ≡ received past = follow.0.0 in
    none_wanted_by (nat_eq k n) k n (wanted given past n) (said given n) refl (omega arith) (none_wanted needs given past n follow.1 (omega arith))
none_wanted needs given (Load k ∷ past) n follow le = none_wanted needs given past n follow.1 le
none_wanted needs given (Reply m mark h ∷ past) n follow le = none_wanted needs given past n follow.1 le
none_wanted needs given (Notify m mark ∷ past) n follow le = absurd follow.0

all_wanted_by : (b : Bool) (k n r w v : ℕ) → nat_eq k n ≡ b → k ≡ r → n < r + 1 → (n < r → w ≡ v) → (if b then v else w) ≡ v
all_wanted_by true k n r w v e first lt more = refl
all_wanted_by false k n r w v e first lt more = more (below (eqb-false k n e))
  where
    below : (k ≡ n → ⊥) → n < r
    below apart = omega arith

all_wanted : (needs : Needs) (given : Given) (past : List Entry) (n : ℕ) → AllFollow needs given past → n < received past → wanted given past n ≡ bit (wants_reply (said given n))
all_wanted needs given [] n follow lt = absurd (omega arith)
all_wanted needs given (In k ∷ past) n follow lt =
    all_wanted_by (nat_eq k n) k n (received past) (wanted given past n) (bit (wants_reply (said given n))) refl follow.0.0 lt (all_wanted needs given past n follow.1)
all_wanted needs given (Load k ∷ past) n follow lt = all_wanted needs given past n follow.1 lt
all_wanted needs given (Reply m mark h ∷ past) n follow lt = all_wanted needs given past n follow.1 lt
all_wanted needs given (Notify m mark ∷ past) n follow lt = absurd follow.0

-- ---- what is due after a message

numbers_of_all : (h : How) (ns : List ℕ) → numbers_of (all_as h ns) ≡ ns
numbers_of_all h [] = refl
numbers_of_all h (n ∷ ns) = ap (λ (ms : List ℕ). n ∷ ms) (numbers_of_all h ns)

some_due : (h : How) (p : ℕ → Bool) (n : ℕ) (ns : List ℕ) → times n (numbers_of (all_as h (filter p ns))) ≤ times n ns
some_due h p n ns = rw (numbers_of_all h (filter p ns)) (times_filter p n ns)

meant_due : (given : Given) (past : List Entry) (h : How) (o : Option End) (n : ℕ) → times n (numbers_of (all_as h (pending_meant given past o))) ≤ times n (pending given past)
meant_due given past h None n = omega arith
meant_due given past h (Some e) n = some_due h (λ m. is_meant e (said given m)) n (pending given past)

accepted_due : (given : Given) (past : List Entry) (k : ℕ) (c : Class) (n : ℕ) → times n (numbers_of (due_to_accepted given past k c)) ≤ times n (pending given past) + bit (nat_eq k n)
accepted_due given past k (initialises i) n = omega arith
accepted_due given past k (shuts_down i) n = omega arith
accepted_due given past k (cancels i) n = let le = meant_due given past how.Cancelled (ends (is_initialised given past) (text_at given past) (cancels i)) n in omega arith
accepted_due given past k (opens path version text) n = let le = meant_due given past how.Modified (ends (is_initialised given past) (text_at given past) (opens path version text)) n in omega arith
accepted_due given past k (changes path version text) n = let le = meant_due given past how.Modified (ends (is_initialised given past) (text_at given past) (changes path version text)) n in omega arith
accepted_due given past k _ n = omega arith

due_by_le : (given : Given) (past : List Entry) (k : ℕ) (o : Option ℤ) (c : Class) (n : ℕ) → times n (numbers_of (due_by given past k o c)) ≤ times n (pending given past) + bit (nat_eq k n)
due_by_le given past k (Some code) c n = omega arith
due_by_le given past k None c n = accepted_due given past k c n

message_due : (given : Given) (past : List Entry) (k : ℕ) (c : Class) (n : ℕ)
    → times n (numbers_of (due_to given past k c)) ≤ times n (pending given past) + bit (nat_eq k n)
message_due given past k c n = due_by_le given past k (refusal given past c) c n

-- a request that isn't refused is an `initialize`, a `shutdown` or a query
refused_or : (given : Given) (past : List Entry) (k : ℕ) (o : Option ℤ) (c : Class) → due_to_accepted given past k c ≡ (k, how.Answered) ∷ []
    → times k (numbers_of (due_by given past k o c)) ≡ 1
refused_or given past k (Some code) c e = rw (eq-eqb k k refl) refl
refused_or given past k None c e = rw (e, eq-eqb k k refl) refl

surely_refused : (given : Given) (past : List Entry) (k : ℕ) (o : Option ℤ) (c : Class) → (o ≡ None → ⊥) → times k (numbers_of (due_by given past k o c)) ≡ 1
surely_refused given past k (Some code) c never = rw (eq-eqb k k refl) refl
surely_refused given past k None c never = absurd (never refl)

query_due : (given : Given) (past : List Entry) (k : ℕ) (o : Option ℤ) (c : Class) → due_to_accepted given past k c ≡ []
    → min 1 (1 + times k (numbers_of (due_by given past k o c))) ≡ 1
query_due given past k (Some code) c e = omega arith
query_due given past k None c e = omega arith

notice_due : (given : Given) (past : List Entry) (k : ℕ) (dues : List Due) → times k (numbers_of dues) ≤ times k (pending given past) → times k (pending given past) ≡ 0
    → min 1 (0 + times k (numbers_of dues)) ≡ 0
notice_due given past k dues le none = omega arith

itself_due : (given : Given) (past : List Entry) (k : ℕ) (c : Class) → times k (pending given past) ≡ 0
    → min 1 (bit (is_query c) + times k (numbers_of (due_to given past k c))) ≡ bit (wants_reply c)
itself_due given past k (initialises i) none = let one = refused_or given past k (refusal given past (initialises i)) (initialises i) refl in rw one refl
itself_due given past k (shuts_down i) none = let one = refused_or given past k (refusal given past (shuts_down i)) (shuts_down i) refl in rw one refl
itself_due given past k (queries i query path) none = query_due given past k (refusal given past (queries i query path)) (queries i query path) refl
itself_due given past k (unknown i) none =
    let one = surely_refused given past k (refusal given past (unknown i)) (unknown i)
    (never_unknown (is_initialised given past) (is_shut_down given past) (is_pending given past i) i) in rw one refl
itself_due given past k (bad_params i b) none =
    let one = surely_refused given past k (refusal given past (bad_params i b)) (bad_params i b)
    (never_bad (is_initialised given past) (is_shut_down given past) (is_pending given past i) i b) in rw one refl
itself_due given past k (invalid i code) none = rw (eq-eqb k k refl) refl
itself_due given past k (cancels i) none =
    notice_due given past k (due_to_accepted given past k (cancels i)) (meant_due given past how.Cancelled (ends (is_initialised given past) (text_at given past) (cancels i)) k) none
itself_due given past k (opens path version text) none =
    notice_due given past k (due_to_accepted given past k (opens path version text)) (meant_due given past how.Modified (ends (is_initialised given past) (text_at given past) (opens path version text)) k) none
itself_due given past k (changes path version text) none =
    notice_due given past k (due_to_accepted given past k (changes path version text)) (meant_due given past how.Modified (ends (is_initialised given past) (text_at given past) (changes path version text)) k) none
itself_due given past k (closes path) none = refl
itself_due given past k (watched paths) none = refl
itself_due given past k exits none = refl
itself_due given past k dropped none = refl

-- ---- entry by entry

extra_times : (b : Bool) (n k : ℕ) → nat_eq k n ≡ false → times n (if b then k ∷ [] else []) ≡ 0
extra_times true n k e = rw e refl
extra_times false n k e = refl

extra_itself : (b : Bool) (k : ℕ) → times k (if b then k ∷ [] else []) ≡ bit b
extra_itself true k = rw (eq-eqb k k refl) refl
extra_itself false k = refl

-- at a message, for the message itself
told_itself : (needs : Needs) (given : Given) (past : List Entry) (k : ℕ) → k ≡ received past → owed given past ≡ [] → AllFollow needs given past
    → AllTold given past k → AllTold given (In k ∷ past) k
told_itself needs given past k first settled follow a =
    let p = said given k in
    let w : wanted given past k ≡ 0 = none_wanted needs given past k follow (omega arith) in
    let told = a.told in
    let none : times k (pending given past) ≡ 0 = omega arith in
    let uncounted : count_replies past k ≡ 0 = omega arith in
    let b = bit_le (is_query p) in
    let one = eq-eqb k k refl in
    let some : times k (pending given (In k ∷ past)) ≡ bit (is_query p) =
    times_append k (pending given past) (if is_query p then k ∷ [] else []) ∙ rw (none, extra_itself (is_query p) k) (omega arith) in
    let same : bit (nat_eq k k) ≡ 1 = ap bit one in
    let dues = message_due given past k p k in
    let due = itself_due given past k p none in
    record {
      told = rw (uncounted, some, one) (omega arith);
      pending_once = omega arith;
      owed_once = omega arith;
    }

-- and for another
told_other : (given : Given) (past : List Entry) (k n : ℕ) → nat_eq k n ≡ false → owed given past ≡ []
    → AllTold given past n → AllTold given (In k ∷ past) n
told_other given past k n apart settled a =
    let p = said given k in
    let none_owed : times n (numbers_of (owed given past)) ≡ 0 = ap (λ (dues : List Due). times n (numbers_of dues)) settled in
    let told = a.told in
    let few = a.pending_once in
    let same : times n (pending given (In k ∷ past)) ≡ times n (pending given past) =
    times_append n (pending given past) (if is_query p then k ∷ [] else []) ∙ rw (extra_times (is_query p) n k apart) (omega arith) in
    let other : bit (nat_eq k n) ≡ 0 = ap bit apart in
    let dues = message_due given past k p n in
    record {
      told = rw (same, apart) (omega arith);
      pending_once = omega arith;
      owed_once = omega arith;
    }

told_in : (b : Bool) (needs : Needs) (given : Given) (past : List Entry) (k n : ℕ) → nat_eq k n ≡ b → k ≡ received past → owed given past ≡ [] → AllFollow needs given past
    → AllTold given past n → AllTold given (In k ∷ past) n
told_in true needs given past k n e first settled follow a =
    let same : k ≡ n = eqb-true k n e in
    subst (λ (m : ℕ). AllTold given (In k ∷ past) m) same
    (told_itself needs given past k first settled follow (subst (AllTold given past) (sym same) a))
told_in false needs given past k n e first settled follow a = told_other given past k n e settled a

-- at a reply, for the message that it replies to: it was still to come
told_reply : (given : Given) (past : List Entry) (m mark : ℕ) (h : How)
    → 1 ≤ times m (pending given past) + times m (numbers_of (owed given past))
    → times m (numbers_of (rest_of (owed given past))) ≡ 0
    → AllTold given past m → AllTold given (Reply m mark h ∷ past) m
told_reply given past m mark h due rest a =
    let told = a.told in
    let gone : times m (without m (pending given past)) ≡ 0 = times_gone m (pending given past) in
    let one = eq-eqb m m refl in
    record {
      told = rw one (omega arith);
      pending_once = omega arith;
      owed_once = omega arith;
    }

-- and for another
kept_reply : (given : Given) (past : List Entry) (m mark n : ℕ) (h : How) → nat_eq m n ≡ false
    → times n (numbers_of (rest_of (owed given past))) ≡ times n (numbers_of (owed given past))
    → AllTold given past n → AllTold given (Reply m mark h ∷ past) n
kept_reply given past m mark n h apart rest a =
    let told = a.told in
    let few = a.pending_once in
    let once = a.owed_once in
    let kept : times n (without m (pending given past)) ≡ times n (pending given past) = times_kept m n (pending given past) apart in
    record {
      told = rw apart (omega arith);
      pending_once = omega arith;
      owed_once = omega arith;
    }

-- a reply that comes was still to come, and the replies that are due after it are those to others
is_due : (given : Given) (past : List Entry) (dues : List Due) (m mark : ℕ) (h : How) → MayReply given past dues m mark h
    → 1 ≤ times m (pending given past) + times m (numbers_of dues)
is_due given past [] m mark how.Answered may = let found = times_found m (pending given past) may.0 in omega arith
is_due given past [] m mark how.Memory may = let found = times_found m (pending given past) may.0 in omega arith
is_due given past [] m mark how.Refused may = absurd may
is_due given past [] m mark how.Cancelled may = absurd may
is_due given past [] m mark how.Modified may = absurd may
is_due given past (due ∷ more) m mark h may = let one : bit (nat_eq due.0 m) ≡ 1 = ap bit (eq-eqb due.0 m (sym may.0)) in omega arith

none_more : (given : Given) (past : List Entry) (dues : List Due) (m mark : ℕ) (h : How) → MayReply given past dues m mark h
    → times m (numbers_of dues) ≤ 1 → times m (numbers_of (rest_of dues)) ≡ 0
none_more given past [] m mark h may once = refl
none_more given past (due ∷ more) m mark h may once = let one : bit (nat_eq due.0 m) ≡ 1 = ap bit (eq-eqb due.0 m (sym may.0)) in omega arith

others_stay : (given : Given) (past : List Entry) (dues : List Due) (m mark n : ℕ) (h : How) → MayReply given past dues m mark h → nat_eq m n ≡ false
    → times n (numbers_of (rest_of dues)) ≡ times n (numbers_of dues)
others_stay given past [] m mark n h may apart = refl
others_stay given past (due ∷ more) m mark n h may apart =
    let other : bit (nat_eq due.0 n) ≡ 0 = ap (λ (k : ℕ). bit (nat_eq k n)) (sym may.0) ∙ ap bit apart in omega arith

told_out : (b : Bool) (given : Given) (past : List Entry) (m mark n : ℕ) (h : How) → nat_eq m n ≡ b → MayReply given past (owed given past) m mark h
    → AllTold given past n → AllTold given (Reply m mark h ∷ past) n
told_out true given past m mark n h e may a =
    let same : m ≡ n = eqb-true m n e in
    let here : AllTold given past m = subst (AllTold given past) (sym same) a in
    subst (λ (k : ℕ). AllTold given (Reply m mark h ∷ past) k) same
    (told_reply given past m mark h (is_due given past (owed given past) m mark h may) (none_more given past (owed given past) m mark h may here.owed_once) here)
told_out false given past m mark n h e may a = kept_reply given past m mark n h e (others_stay given past (owed given past) m mark n h may e) a

-- at a read nothing is due
told_load : (given : Given) (past : List Entry) (k n : ℕ) → owed given past ≡ [] → AllTold given past n → AllTold given (Load k ∷ past) n
told_load given past k n settled a =
    let none_owed : times n (numbers_of (owed given past)) ≡ 0 = ap (λ (dues : List Due). times n (numbers_of dues)) settled in
    let told = a.told in
    record {
      told = omega arith;
      pending_once = a.pending_once;
      owed_once = omega arith;
    }

all_told : (needs : Needs) (given : Given) (past : List Entry) (n : ℕ) → AllFollow needs given past → AllTold given past n
all_told needs given [] n follow = record { told = refl; pending_once = omega arith; owed_once = omega arith }
all_told needs given (In k ∷ past) n follow = told_in (nat_eq k n) needs given past k n refl follow.0.0 follow.0.1 follow.1 (all_told needs given past n follow.1)
all_told needs given (Load k ∷ past) n follow = told_load given past k n follow.0.none_due (all_told needs given past n follow.1)
all_told needs given (Reply m mark h ∷ past) n follow = told_out (nat_eq m n) given past m mark n h refl follow.0 (all_told needs given past n follow.1)
all_told needs given (Notify m mark ∷ past) n follow = absurd follow.0

-- ---- the law

either_le : (b : Bool) (v w : ℕ) → v ≤ 1 → w ≤ 1 → (if b then v else w) ≤ 1
either_le true v w p q = p
either_le false v w p q = q

wanted_le : (given : Given) (past : List Entry) (n : ℕ) → wanted given past n ≤ 1
wanted_le given [] n = omega arith
wanted_le given (In k ∷ past) n = either_le (nat_eq k n) (bit (wants_reply (said given n))) (wanted given past n) (bit_le (wants_reply (said given n))) (wanted_le given past n)
wanted_le given (Load k ∷ past) n = wanted_le given past n
wanted_le given (Reply m mark h ∷ past) n = wanted_le given past n
wanted_le given (Notify m mark ∷ past) n = wanted_le given past n

as_bit : (b : Bool) → bit b ≡ (if b then 1 else 0)
as_bit true = refl
as_bit false = refl

pub are_once : (needs : Needs) (given : Given) (past : List Entry) → IsLegal needs given past → AreOnce given past
are_once needs given past legal = record {
  none_before = λ n le.
      let told = (all_told needs given past n legal.follow).told in
      let none = none_wanted needs given past n legal.follow le in
      omega arith;
  one_at_most = λ n.
      let told = (all_told needs given past n legal.follow).told in
      let few = wanted_le given past n in
      omega arith;
  one_each = λ settled n lt.
      let told = (all_told needs given past n legal.follow).told in
      let none : times n (pending given past) ≡ 0 = ap (times n) settled in
      let free : times n (numbers_of (owed given past)) ≡ 0 = ap (λ (dues : List Due). times n (numbers_of dues)) legal.none_due in
      let all = all_wanted needs given past n legal.follow lt in
      let counted : count_replies past n ≡ bit (wants_reply (said given n)) = omega arith in
      counted ∙ as_bit (wants_reply (said given n));
}
