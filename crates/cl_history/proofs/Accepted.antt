-- The history says what the standard says.
use Rattle.std.proofs.Common.{◌≡◌, ◌⊎◌, inl, inr, ⊎_elim, ℕ, ℤ, ◌+◌, ◌<◌, ◌&&◌, ◌||◌, List, [], ◌∷◌, ◌++◌, Bool, true, false, not, if◌then◌else◌, refl, sym, ap, ◌∙◌, subst, arith, nat_eq, eq-eqb, append-nil, cond}
use Rattle.std.specs.Prelude.{Option, Some, None, is_some}
use Rattle.std.specs.List.{AllByRecursion, list_any}
use Rattle.std.proofs.lemmas.Bool.{ne_eqb, or_right, false≢true}
use Rattle.std.proofs.lemmas.List.Elements.{filter-append}
use Rattle.cl_rpc.specs.declared.id.Id.{Id}
use Rattle.cl_rpc.specs.declared.out.How.{How}
use Rattle.cl_rpc.specs.declared.out.How.TheVariants as how
use Rattle.cl_rpc.specs.Classes.{Class, initialises, shuts_down, queries}
use Rattle.cl_history.specs.declared.entry.Entry.{Entry}
use Rattle.cl_history.specs.declared.entry.Entry.TheVariants.{In, Load, Reply, Notify}
use Rattle.cl_history.specs.Given.{Given, Needs, said, received}
use Rattle.cl_history.specs.Refusals.{is_open}
use Rattle.cl_history.specs.History.{is_initialising, is_initialised, is_shutting_down, is_shut_down, is_pending, is_query, asks_by, text_at, pending, without, refusal}
use Rattle.cl_history.specs.Legal.{Due, due_by, owed, MayReply, AllFollow, IsLegal}
use Rattle.cl_history.specs.Accepted.{is_accepted, is_shutdown, initialize_was_accepted, shutdown_was_accepted, accepted_without_reply, IsInStandardWords}
use Rattle.cl_history.proofs.Accepting.{initialised_after, shut_down_after, initialised_if_accepted}

-- ---- Booleans

none_and : (a b : Bool) → ((a && false) || b) ≡ b
none_and true b = refl
none_and false b = refl

and_all : (a b : Bool) → ((a && true) || b) ≡ (a || b)
and_all true b = refl
and_all false b = refl

-- ---- a session that is shut down was initialised

shut_down_here : (b c d i : Bool) → ((b && c) || d) ≡ true → (d ≡ true → b ≡ true) → (i || b) ≡ true
shut_down_here true c d i e more = or_right i true refl
shut_down_here false c true i e more = absurd (false≢true (more refl))
shut_down_here false c false i e more = absurd (false≢true e)

pub initialised_before : (given : Given) (past : List Entry) → is_shut_down given past ≡ true → is_initialised given past ≡ true
initialised_before given [] e = e
initialised_before given (In n ∷ past) e =
    shut_down_here (is_initialised given past) (is_shutting_down given past (said given n)) (is_shut_down given past) (is_initialising (said given n)) e (initialised_before given past)
initialised_before given (Load n ∷ past) e = initialised_before given past e
initialised_before given (Reply m mark h ∷ past) e = initialised_before given past e
initialised_before given (Notify m mark ∷ past) e = initialised_before given past e

-- ---- lists of numbers

abbrev Below : ℕ → List ℕ → Type 0
Below n ms = AllByRecursion (λ m. m < n) ms

raised : (n : ℕ) (ms : List ℕ) → Below n ms → Below (n + 1) ms
raised n [] below = tt
raised n (m ∷ ms) below = let lt : m < n = below.0 in (omega arith, raised n ms below.1)

one_more : (b : Bool) (n : ℕ) (ms : List ℕ) → Below n ms → Below (n + 1) (ms ++ (if b then n ∷ [] else []))
one_more true n [] below = (omega arith, tt)
one_more false n [] below = tt
one_more b n (m ∷ ms) below = let lt : m < n = below.0 in (omega arith, one_more b n ms below.1)

kept_if : (b : Bool) (n m : ℕ) (ms : List ℕ) → m < n → Below n ms → Below n (cond b (m ∷ ms) ms)
kept_if true n m ms lt below = (lt, below)
kept_if false n m ms lt below = below

still_below : (k n : ℕ) (ms : List ℕ) → Below n ms → Below n (without k ms)
still_below k n [] below = tt
still_below k n (m ∷ ms) below = kept_if (not (nat_eq m k)) n m (without k ms) below.0 (still_below k n ms below.1)

not_there : (n : ℕ) (ms : List ℕ) → Below n ms → without n ms ≡ ms
not_there n [] below = refl
not_there n (m ∷ ms) below =
    let lt : m < n = below.0 in
    rw (ne_eqb m n (λ e. omega arith), not_there n ms below.1) refl

last_gone : (n : ℕ) (ms : List ℕ) → without n ms ≡ ms → without n (ms ++ n ∷ []) ≡ ms
last_gone n ms e = filter-append (λ m. not (nat_eq m n)) ms (n ∷ []) ∙ rw (eq-eqb n n refl, e) (append-nil ms)

-- ---- entry by entry

-- a query is refused, and its reply is due
record Refusing (given : Given) (past : List Entry) : Type 0 where
  pub n : ℕ
  pub due : owed given past ≡ (n, how.Refused) ∷ []
  pub last : pending given past ≡ accepted_without_reply given past ++ n ∷ []
  pub new : without n (accepted_without_reply given past) ≡ accepted_without_reply given past

record Agrees (given : Given) (past : List Entry) : Type 0 where
  pub initialised : is_initialised given past ≡ initialize_was_accepted given past
  pub shut_down : is_shut_down given past ≡ shutdown_was_accepted given past
  pub waits : (pending given past ≡ accepted_without_reply given past) ⊎ Refusing given past
  pub below : Below (received past) (accepted_without_reply given past)
  pub on : (accepted_without_reply given past ≡ []) ⊎ (is_initialised given past ≡ true)

settled : (given : Given) (past : List Entry) → owed given past ≡ [] → Agrees given past → pending given past ≡ accepted_without_reply given past
settled given past none a = ⊎_elim (λ e. e) (λ r. absurd (let bad : ◌≡◌ {A = List Due} [] ((r.n, how.Refused) ∷ []) = sym none ∙ r.due in cc)) a.waits

on_if_pending : (given : Given) (past : List Entry) (i : Id) → owed given past ≡ [] → Agrees given past → is_pending given past i ≡ true → is_initialised given past ≡ true
on_if_pending given past i none a e = ⊎_elim
    (λ nil. absurd (false≢true (sym (ap (list_any (λ n. asks_by i (said given n))) (settled given past none a ∙ nil)) ∙ e)))
    (λ on. on) a.on

initialised_in : (given : Given) (past : List Entry) (k : Class) → owed given past ≡ [] → Agrees given past
    → (is_initialising k || is_initialised given past) ≡ ((is_accepted given past k && is_initialising k) || initialize_was_accepted given past)
initialised_in given past (initialises i) none a =
    sym (and_all (is_accepted given past (initialises i)) (initialize_was_accepted given past)
    ∙ ap (λ (b : Bool). is_accepted given past (initialises i) || b) (sym a.initialised)
    ∙ initialised_after (is_initialised given past) (is_shut_down given past) (is_pending given past i) i (initialised_before given past) (on_if_pending given past i none a))
initialised_in given past k none a = a.initialised ∙ sym (none_and (is_accepted given past k) (initialize_was_accepted given past))

shut_down_in : (given : Given) (past : List Entry) (k : Class) → Agrees given past
    → ((is_initialised given past && is_shutting_down given past k) || is_shut_down given past) ≡ ((is_accepted given past k && is_shutdown k) || shutdown_was_accepted given past)
shut_down_in given past (shuts_down i) a =
    sym (and_all (is_accepted given past (shuts_down i)) (shutdown_was_accepted given past)
    ∙ ap (λ (b : Bool). is_accepted given past (shuts_down i) || b) (sym a.shut_down)
    ∙ shut_down_after (is_initialised given past) (is_shut_down given past) (is_pending given past i) i)
shut_down_in given past k a =
    none_and (is_initialised given past) (is_shut_down given past) ∙ a.shut_down ∙ sym (none_and (is_accepted given past k) (shutdown_was_accepted given past))

-- what waits after a query, by its refusal
abbrev Waits : Given → List Entry → ℕ → Option ℤ → List ℕ → Type 0
Waits given past n o acc =
    (acc ++ n ∷ [] ≡ acc ++ (if not (is_some o) then n ∷ [] else []))
    ⊎ ((due_by given past n o (said given n) ≡ (n, how.Refused) ∷ []) × (acc ++ n ∷ [] ≡ (acc ++ (if not (is_some o) then n ∷ [] else [])) ++ n ∷ []) × (acc ++ (if not (is_some o) then n ∷ [] else []) ≡ acc))

query_waits : (given : Given) (past : List Entry) (n : ℕ) (o : Option ℤ) (acc : List ℕ) → Waits given past n o acc
query_waits given past n None acc = inl refl
query_waits given past n (Some code) acc = inr (refl, ap (λ (ms : List ℕ). ms ++ n ∷ []) (sym (append-nil acc)), append-nil acc)

waits_by : (b : Bool) (given : Given) (past : List Entry) (n : ℕ) (k : Class) → is_query k ≡ b → said given n ≡ k → owed given past ≡ [] → Agrees given past → n ≡ received past
    → (pending given (In n ∷ past) ≡ accepted_without_reply given (In n ∷ past)) ⊎ Refusing given (In n ∷ past)
waits_by false given past n k is says none a count =
    inl (rw (says, is) (ap (λ (ms : List ℕ). ms ++ []) (settled given past none a)))
waits_by true given past n k is says none a count =
    let acc = accepted_without_reply given past in
    let o = refusal given past (said given n) in
    let query : is_query (said given n) ≡ true = ap is_query says ∙ is in
    let fresh : without n acc ≡ acc = not_there n acc (subst (λ (m : ℕ). Below m acc) (sym count) a.below) in
    let here : pending given (In n ∷ past) ≡ acc ++ n ∷ [] = rw query (ap (λ (ms : List ℕ). ms ++ n ∷ []) (settled given past none a)) in
    let there : accepted_without_reply given (In n ∷ past) ≡ acc ++ (if not (is_some o) then n ∷ [] else []) = rw query refl in
    ⊎_elim
    (λ e. inl (here ∙ e ∙ sym there))
    (λ r. inr (record {
      n = n;
      due = r.0;
      last = here ∙ r.1 ∙ sym (ap (λ (ms : List ℕ). ms ++ n ∷ []) there);
      new = ap (without n) (there ∙ r.2) ∙ fresh ∙ sym (there ∙ r.2);
    }))
    (query_waits given past n o acc)

on_if_query : (given : Given) (past : List Entry) (k : Class) → (is_query k && is_accepted given past k) ≡ true → is_initialised given past ≡ true
on_if_query given past (queries i query path) e =
    initialised_if_accepted (is_initialised given past) (is_shut_down given past) (is_pending given past i) (is_open (text_at given past) (Some path)) i query path (accepted (refusal given past (queries i query path)) e)
  where
    accepted : (o : Option ℤ) → not (is_some o) ≡ true → o ≡ None
    accepted None e = refl
    accepted (Some code) e = absurd (false≢true e)
on_if_query given past _ e = absurd (false≢true e)

on_in : (b : Bool) (given : Given) (past : List Entry) (n : ℕ) → (is_query (said given n) && is_accepted given past (said given n)) ≡ b → Agrees given past
    → (accepted_without_reply given (In n ∷ past) ≡ []) ⊎ (is_initialised given (In n ∷ past) ≡ true)
on_in true given past n is a = inr (or_right (is_initialising (said given n)) (is_initialised given past) (on_if_query given past (said given n) is))
on_in false given past n is a = ⊎_elim
    (λ nil. inl (ap (λ (b : Bool). accepted_without_reply given past ++ (if b then n ∷ [] else [])) is ∙ append-nil (accepted_without_reply given past) ∙ nil))
    (λ on. inr (or_right (is_initialising (said given n)) (is_initialised given past) on)) a.on

agrees_in : (given : Given) (past : List Entry) (n : ℕ) → n ≡ received past → owed given past ≡ [] → Agrees given past → Agrees given (In n ∷ past)
agrees_in given past n count none a = record {
  initialised = initialised_in given past (said given n) none a;
  shut_down = shut_down_in given past (said given n) a;
  waits = waits_by (is_query (said given n)) given past n (said given n) refl refl none a count;
  below = subst (λ (m : ℕ). Below (m + 1) (accepted_without_reply given past ++ (if is_query (said given n) && is_accepted given past (said given n) then n ∷ [] else []))) count
      (one_more (is_query (said given n) && is_accepted given past (said given n)) n (accepted_without_reply given past) (subst (λ (m : ℕ). Below m (accepted_without_reply given past)) (sym count) a.below));
  on = on_in (is_query (said given n) && is_accepted given past (said given n)) given past n refl a;
}

-- the reply that is due to a query that is refused
replied : (given : Given) (past : List Entry) (m mark : ℕ) (h : How) (r : Refusing given past) → MayReply given past (owed given past) m mark h → m ≡ r.n
replied given past m mark h r may = (subst (λ (dues : List Due). MayReply given past dues m mark h) r.due may).0

agrees_reply : (given : Given) (past : List Entry) (m mark : ℕ) (h : How) → MayReply given past (owed given past) m mark h → Agrees given past → Agrees given (Reply m mark h ∷ past)
agrees_reply given past m mark h may a = record {
  initialised = a.initialised;
  shut_down = a.shut_down;
  waits = inl (⊎_elim
      (λ e. ap (without m) e)
      (λ r.
      let same : m ≡ r.n = replied given past m mark h r may in
      ap (without m) r.last ∙ ap (λ (k : ℕ). without k (accepted_without_reply given past ++ r.n ∷ [])) same ∙ last_gone r.n (accepted_without_reply given past) r.new
      ∙ sym (ap (λ (k : ℕ). without k (accepted_without_reply given past)) same ∙ r.new))
      a.waits);
  below = still_below m (received past) (accepted_without_reply given past) a.below;
  on = ⊎_elim (λ nil. inl (ap (without m) nil)) (λ on. inr on) a.on;
}

agrees : (needs : Needs) (given : Given) (past : List Entry) → AllFollow needs given past → Agrees given past
agrees needs given [] follow = record { initialised = refl; shut_down = refl; waits = inl refl; below = tt; on = inl refl }
agrees needs given (In n ∷ past) follow = agrees_in given past n follow.0.0 follow.0.1 (agrees needs given past follow.1)
agrees needs given (Load n ∷ past) follow =
    let a = agrees needs given past follow.1 in
    record { initialised = a.initialised; shut_down = a.shut_down; waits = inl (settled given past follow.0.none_due a); below = a.below; on = a.on }
agrees needs given (Reply m mark h ∷ past) follow = agrees_reply given past m mark h follow.0 (agrees needs given past follow.1)
agrees needs given (Notify m mark ∷ past) follow = absurd follow.0

pub in_standard_words : (needs : Needs) (given : Given) (past : List Entry) → IsLegal needs given past → IsInStandardWords given past
in_standard_words needs given past legal =
    let a = agrees needs given past legal.follow in
    record { initialised = a.initialised; shut_down = a.shut_down; waits = settled given past legal.none_due a }
