-- The requests that are pending after the replies to a message.
use Rattle.std.proofs.Common.{◌≡◌, ℕ, ℤ, ◌+◌, ◌<◌, List, [], ◌∷◌, ◌++◌, map, filter, length, ap, sym, ◌∙◌, refl, arith, append-nil, Bool, true, false, Some, None, Option}
use Rattle.std.specs.Prelude.{◌&&◌, ◌||◌, not, is_some, nat_eq, if◌then◌else◌, option_map}
use Rattle.std.specs.List.{list_any, AllByRecursion}
use Rattle.std.proofs.lemmas.Bool.{eqb-true, eq-eqb, ne_eqb, or_right, or_left, false≢true, false_from_ne_true}
use Rattle.std.proofs.Math.Bool.{and-true, and-false}
use Rattle.std.proofs.lemmas.List.{map-append}
use Rattle.std.proofs.lemmas.List.Elements.{filter-append}
use Rattle.cl_base.specs.declared.query.Query.{Query}
use Rattle.cl_store.specs.declared.docs.Doc.{Doc}
use Rattle.cl_store.specs.Docs.{doc_at}
use Rattle.cl_rpc.specs.declared.id.Id.{Id}
use Rattle.cl_rpc.specs.declared.out.How.{How}
use Rattle.cl_rpc.specs.declared.out.Reply.{Reply}
use Rattle.cl_rpc.specs.Classes.{Class, initialises, shuts_down, queries, unknown, bad_params, invalid, opens, changes, closes, cancels, watched, exits, dropped}
use Rattle.cl_history.specs.declared.entry.Entry.{Entry}
use Rattle.cl_history.specs.declared.entry.Entry.TheVariants as entry
use Rattle.cl_history.specs.Given.{Given, said, received}
use Rattle.cl_history.specs.Refusals.{is_open}
use Rattle.cl_history.specs.History.{End, is_meant, is_query, pending, without}
use Rattle.cl_history.specs.Legal.{how_ended}
use Rattle.cl_history.proofs.Accepting.{open_if_accepted}
use Rattle.cl_core.specs.declared.core_state.Core.{Core}
use Rattle.cl_core.specs.declared.waiting.Waiting.{Waiting}
use Rattle.cl_core.specs.Waiting.{has_id, number_of, class_of_waiting}
use Rattle.cl_core.specs.Deciding.{texts_of, core_refusal, entry_of, ended, ends_by, meant_by, others_than, replies_by, replies_of, waiting_for, started_if}
use Rattle.cl_core.specs.Steps.{pending_after}
use Rattle.cl_core.specs.Standing.{Asks, StandsFor, past_of}
use Rattle.cl_core.proofs.Onto.{onto}
use Rattle.cl_core.proofs.Dues.{same_filter}

-- ---- a list of numbers without some

-- the list without each of these numbers
abbrev pub without_all : List ℕ → List ℕ → List ℕ
without_all [] ns = ns
without_all (m ∷ ms) ns = without_all ms (without m ns)

abbrev pub is_among : ℕ → List ℕ → Bool
is_among k ms = list_any (nat_eq k) ms

all_kept : (ns : List ℕ) → filter (λ (k : ℕ). true) ns ≡ ns
all_kept [] = refl
all_kept (x ∷ xs) = ap (λ (ns : List ℕ). x ∷ ns) (all_kept xs)

-- an element that passes a test and then another
twice : (a b : Bool) (q : ℕ → Bool) (x : ℕ) (xs ys : List ℕ) → q x ≡ not b → filter q xs ≡ ys
    → filter q (if not a then x ∷ xs else xs) ≡ (if not (a || b) then x ∷ ys else ys)
twice true b q x xs ys e more = more
twice false b q x xs ys e more = rw (e, more) refl

-- filtered by one test and then by another
filter_twice : (m : ℕ) (ms ns : List ℕ) → filter (λ k. not (is_among k ms)) (without m ns) ≡ filter (λ k. not (is_among k (m ∷ ms))) ns
filter_twice m ms [] = refl
filter_twice m ms (x ∷ xs) =
    twice (nat_eq x m) (is_among x ms) (λ k. not (is_among k ms)) x (without m xs) (filter (λ k. not (is_among k (m ∷ ms))) xs) refl (filter_twice m ms xs)

without_all_filter : (ms ns : List ℕ) → without_all ms ns ≡ filter (λ k. not (is_among k ms)) ns
without_all_filter [] ns = sym (all_kept ns)
without_all_filter (m ∷ ms) ns = without_all_filter ms (without m ns) ∙ filter_twice m ms ns

-- tests that agree at each element of a list keep the same
same_kept : (p q : ℕ → Bool) (ns : List ℕ) → ((k : ℕ) → is_among k ns ≡ true → p k ≡ q k) → filter p ns ≡ filter q ns
same_kept p q [] agree = refl
same_kept p q (x ∷ xs) agree =
    let here : p x ≡ q x = agree x (or_left (nat_eq x x) (is_among x xs) (eq-eqb x x refl)) in
    let more : filter p xs ≡ filter q xs = same_kept p q xs (λ k e. agree k (or_right (nat_eq k x) (is_among k xs) e)) in
    rw (here, more) refl

-- what is among the elements that pass
among_if : (b c : Bool) (k x : ℕ) (ns ms : List ℕ) → (nat_eq k x ≡ true → c ≡ b) → is_among k ns ≡ (c && is_among k ms)
    → is_among k (if b then x ∷ ns else ns) ≡ (c && (nat_eq k x || is_among k ms))
among_if true true k x ns ms same more = ap (λ (d : Bool). nat_eq k x || d) more
among_if true false k x ns ms same more = rw (more, false_from_ne_true (nat_eq k x) (λ e. false≢true (same e))) refl
among_if false true k x ns ms same more = more ∙ rw (false_from_ne_true (nat_eq k x) (λ e. false≢true (sym (same e)))) refl
among_if false false k x ns ms same more = more

among_passed : (q : ℕ → Bool) (k : ℕ) (ns : List ℕ) → is_among k (filter q ns) ≡ (q k && is_among k ns)
among_passed q k [] = sym (and-false (q k))
among_passed q k (x ∷ xs) = among_if (q x) (q k) k x (filter q xs) xs (λ e. ap q (eqb-true k x e)) (among_passed q k xs)

pub without_passed : (q : ℕ → Bool) (ns : List ℕ) → without_all (filter q ns) ns ≡ filter (λ k. not (q k)) ns
without_passed q ns =
    without_all_filter (filter q ns) ns
    ∙ same_kept (λ k. not (is_among k (filter q ns))) (λ k. not (q k)) ns (λ k e. ap not (among_passed q k ns ∙ rw e (and-true (q k))))

-- ---- the requests that are pending

abbrev pub message_of : Reply → ℕ
message_of r = r.message

pub pending_onto : (given : Given) (rs : List Reply) (past : List Entry) → pending given (onto (map entry_of rs) past) ≡ without_all (map message_of rs) (pending given past)
pending_onto given [] past = refl
pending_onto given (r ∷ rs) past = pending_onto given rs (entry_of r ∷ past)

-- the next message's number isn't among theirs
not_waiting : (given : Given) (past : List Entry) (n : ℕ) → n ≡ received past → (ws : List Waiting) → AllByRecursion (Asks given past) ws
    → without n (map number_of ws) ≡ map number_of ws
not_waiting given past n count [] all = refl
not_waiting given past n count (w ∷ ws) all =
    let below : w.job.message < received past = all.0.received_so in
    let other : nat_eq w.job.message n ≡ false = ne_eqb w.job.message n (λ e. omega arith) in
    rw (other, not_waiting given past n count ws all.1) refl

without_newest : (b : Bool) (n : ℕ) (ns : List ℕ) → without n ns ≡ ns → without n (ns ++ (if b then n ∷ [] else [])) ≡ ns
without_newest true n ns e = filter-append (λ m. not (nat_eq m n)) ns (n ∷ []) ∙ rw (eq-eqb n n refl, e) (append-nil ns)
without_newest false n ns e = ap (without n) (append-nil ns) ∙ e

none_started : (ws : List Waiting) (ns : List ℕ) → map number_of ws ≡ ns → map number_of (ws ++ []) ≡ ns ++ []
none_started ws ns e = ap (map number_of) (append-nil ws) ∙ e ∙ sym (append-nil ns)

replied_at_once : (b : Bool) (n : ℕ) (ws : List Waiting) (ns : List ℕ) → without n ns ≡ ns → map number_of ws ≡ ns
    → map number_of (ws ++ []) ≡ without n (ns ++ (if b then n ∷ [] else []))
replied_at_once b n ws ns new e = ap (map number_of) (append-nil ws) ∙ e ∙ sym (without_newest b n ns new)

started : (core : Core) (ws : List Waiting) (ns : List ℕ) (i : Id) (query : Query) (path : List ℕ) (o : Option Doc) → map number_of ws ≡ ns → is_some o ≡ true
    → map number_of (ws ++ waiting_for core i query path o) ≡ ns ++ core.messages ∷ []
started core ws ns i query path None e stands = absurd (false≢true stands)
started core ws ns i query path (Some doc) e stands =
    map-append number_of ws (waiting_for core i query path (Some doc)) ∙ ap (λ (ms : List ℕ). ms ++ core.messages ∷ []) e

-- after a request, by its refusal
abbrev After : Core → ℕ → Option ℤ → Class → Type 0
After core mark o k = map number_of (core.pending ++ started_if core o k) ≡ without_all (map message_of (replies_by core mark o k)) (map number_of core.pending ++ (if is_query k then core.messages ∷ [] else []))

abbrev IsNew : Core → Type 0
IsNew core = without core.messages (map number_of core.pending) ≡ map number_of core.pending

after_initialises : (core : Core) (mark : ℕ) (o : Option ℤ) (i : Id) → IsNew core → After core mark o (initialises i)
after_initialises core mark (Some code) i new = replied_at_once false core.messages core.pending (map number_of core.pending) new refl
after_initialises core mark None i new = replied_at_once false core.messages core.pending (map number_of core.pending) new refl

after_shuts_down : (core : Core) (mark : ℕ) (o : Option ℤ) (i : Id) → IsNew core → After core mark o (shuts_down i)
after_shuts_down core mark (Some code) i new = replied_at_once false core.messages core.pending (map number_of core.pending) new refl
after_shuts_down core mark None i new = replied_at_once false core.messages core.pending (map number_of core.pending) new refl

is_some-text : (o : Option Doc) → is_some (option_map (λ (d : Doc). d.text) o) ≡ is_some o
is_some-text None = refl
is_some-text (Some d) = refl

after_query : (core : Core) (mark : ℕ) (o : Option ℤ) (i : Id) (query : Query) (path : List ℕ) → IsNew core → (o ≡ None → is_open (texts_of core.docs) (Some path) ≡ true)
    → After core mark o (queries i query path)
after_query core mark (Some code) i query path new accepted = replied_at_once true core.messages core.pending (map number_of core.pending) new refl
after_query core mark None i query path new accepted =
    started core core.pending (map number_of core.pending) i query path (doc_at core.docs path) refl (sym (is_some-text (doc_at core.docs path)) ∙ accepted refl)

after_unknown : (core : Core) (mark : ℕ) (o : Option ℤ) (i : Id) → IsNew core → After core mark o (unknown i)
after_unknown core mark (Some code) i new = replied_at_once false core.messages core.pending (map number_of core.pending) new refl
after_unknown core mark None i new = none_started core.pending (map number_of core.pending) refl

after_bad : (core : Core) (mark : ℕ) (o : Option ℤ) (i : Id) (b : Bool) → IsNew core → After core mark o (bad_params i b)
after_bad core mark (Some code) i b new = replied_at_once false core.messages core.pending (map number_of core.pending) new refl
after_bad core mark None i b new = none_started core.pending (map number_of core.pending) refl

-- the requests that a message ends are those that no longer wait
messages_ended : (mark : ℕ) (h : How) (ws : List Waiting) → map message_of (ended mark h ws) ≡ map number_of ws
messages_ended mark h [] = refl
messages_ended mark h (w ∷ ws) = ap (λ (ns : List ℕ). w.job.message ∷ ns) (messages_ended (mark + 1) h ws)

after_meant : (given : Given) (core : Core) (mark : ℕ) (h : How) (o : Option End) → StandsFor given core
    → map number_of (others_than o core.pending) ≡ without_all (map message_of (ended mark h (meant_by o core.pending))) (map number_of core.pending)
after_meant given core mark h None stands = refl
after_meant given core mark h (Some e) stands =
    let ws = core.pending in
    same_filter given (past_of core) (λ w. not (is_meant e (class_of_waiting w))) (λ k. not (is_meant e k)) (λ w. refl) ws stands.asks
    ∙ sym (without_passed (λ n. is_meant e (said given n)) (map number_of ws))
    ∙ ap (λ (ms : List ℕ). without_all ms (map number_of ws))
    (sym (messages_ended mark h (meant_by (Some e) ws) ∙ same_filter given (past_of core) (λ w. is_meant e (class_of_waiting w)) (is_meant e) (λ w. refl) ws stands.asks))

after_notice : (given : Given) (core : Core) (mark : ℕ) (k : Class) → StandsFor given core
    → map number_of (others_than (ends_by core k) core.pending ++ []) ≡ without_all (map message_of (ended mark (how_ended k) (meant_by (ends_by core k) core.pending))) (map number_of core.pending ++ [])
after_notice given core mark k stands =
    ap (map number_of) (append-nil (others_than (ends_by core k) core.pending)) ∙ after_meant given core mark (how_ended k) (ends_by core k) stands
    ∙ ap (without_all (map message_of (ended mark (how_ended k) (meant_by (ends_by core k) core.pending)))) (sym (append-nil (map number_of core.pending)))

after_message : (given : Given) (core : Core) (k : Class) → StandsFor given core
    → map number_of (pending_after core k) ≡ without_all (map message_of (replies_of core k)) (map number_of core.pending ++ (if is_query k then core.messages ∷ [] else []))
after_message given core k stands =
    by_class k
  where
    new : IsNew core
    new = not_waiting given (past_of core) core.messages stands.count core.pending stands.asks

    by_class : (k : Class) → map number_of (pending_after core k) ≡ without_all (map message_of (replies_of core k)) (map number_of core.pending ++ (if is_query k then core.messages ∷ [] else []))
    by_class (initialises i) = after_initialises core (length core.journal + 1) (core_refusal core (initialises i)) i new
    by_class (shuts_down i) = after_shuts_down core (length core.journal + 1) (core_refusal core (shuts_down i)) i new
    by_class (queries i query path) = after_query core (length core.journal + 1) (core_refusal core (queries i query path)) i query path new
        (open_if_accepted core.initialised core.shut_down (list_any (has_id i) core.pending) (is_open (texts_of core.docs) (Some path)) (queries i query path))
    by_class (unknown i) = after_unknown core (length core.journal + 1) (core_refusal core (unknown i)) i new
    by_class (bad_params i b) = after_bad core (length core.journal + 1) (core_refusal core (bad_params i b)) i b new
    by_class (invalid i code) = replied_at_once false core.messages core.pending (map number_of core.pending) new refl
    by_class (opens path version text) = after_notice given core (length core.journal + 1) (opens path version text) stands
    by_class (changes path version text) = after_notice given core (length core.journal + 1) (changes path version text) stands
    by_class (closes path) = after_notice given core (length core.journal + 1) (closes path) stands
    by_class (cancels i) = after_notice given core (length core.journal + 1) (cancels i) stands
    by_class (watched paths) = after_notice given core (length core.journal + 1) (watched paths) stands
    by_class exits = after_notice given core (length core.journal + 1) exits stands
    by_class dropped = after_notice given core (length core.journal + 1) dropped stands

-- the requests that wait after a message are those that are pending after its replies
pub still_pending : (given : Given) (core : Core) (k : Class) → said given core.messages ≡ k → StandsFor given core
    → map number_of (pending_after core k) ≡ pending given (onto (map entry_of (replies_of core k)) (entry.In core.messages ∷ past_of core))
still_pending given core k says stands =
    let replied = without_all (map message_of (replies_of core k)) in
    after_message given core k stands
    ∙ ap (λ (ns : List ℕ). replied (ns ++ (if is_query k then core.messages ∷ [] else []))) stands.waiting
    ∙ ap (λ (q : Class). replied (pending given (past_of core) ++ (if is_query q then core.messages ∷ [] else []))) (sym says)
    ∙ sym (pending_onto given (replies_of core k) (entry.In core.messages ∷ past_of core))
