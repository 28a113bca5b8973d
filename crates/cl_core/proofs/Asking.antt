-- The requests that wait stand in the history after a message, too.
use Rattle.std.proofs.Common.{◌≡◌, ℕ, ℤ, ◌+◌, ◌<◌, ◌≤◌, List, [], ◌∷◌, ◌++◌, map, length, ap, sym, ◌∙◌, refl, arith, subst, true, false, Some, None, Option}
use Rattle.std.specs.Prelude.{not, nat_eq, option_map}
use Rattle.std.specs.List.{list_any, AllByRecursion}
use Rattle.std.proofs.lemmas.Bool.{eq-eqb, ne_eqb, or_right}
use Rattle.std.proofs.lemmas.List.{length-reverse}
use Rattle.std.proofs.lemmas.List.Elements.{All-filter, All-append, All-from_recursion, recursion_from_All}
use Rattle.cl_base.specs.declared.query.Query.{Query}
use Rattle.cl_store.specs.declared.docs.Doc.{Doc}
use Rattle.cl_store.specs.Docs.{doc_at}
use Rattle.cl_rpc.specs.declared.id.Id.{Id}
use Rattle.cl_rpc.specs.declared.out.Reply.{Reply}
use Rattle.cl_rpc.specs.Classes.{Class, queries}
use Rattle.cl_history.specs.declared.entry.Entry.{Entry}
use Rattle.cl_history.specs.declared.entry.Entry.TheVariants as entry
use Rattle.cl_history.specs.Given.{Given, said, received}
use Rattle.cl_history.specs.Refusals.{is_open}
use Rattle.cl_history.specs.History.{End, is_meant, is_initialised, is_initialising, text_at, version_at}
use Rattle.cl_history.specs.Headers.{AreHeadersAt, past_at}
use Rattle.cl_history.specs.Legal.{place, before}
use Rattle.cl_history.proofs.Accepting.{initialised_if_accepted}
use Rattle.cl_core.specs.declared.core_state.Core.{Core}
use Rattle.cl_core.specs.declared.waiting.Waiting.{Waiting}
use Rattle.cl_core.specs.Waiting.{has_id, class_of_waiting}
use Rattle.cl_core.specs.Deciding.{texts_of, core_refusal, ends_by, entry_of, left_by, others_than, waiting_for, started_if, started_by}
use Rattle.cl_core.specs.Steps.{pending_after}
use Rattle.cl_core.specs.Standing.{Asks, StandsFor, past_of}
use Rattle.cl_core.proofs.Onto.{onto, length_onto, unchanged, past_kept, past_whole}

-- ---- a request that waited before

pub still_asks : (given : Given) (past : List Entry) (n : ℕ) (rs : List Reply) → n ≡ received past → (w : Waiting) → Asks given past w
    → Asks given (onto (map entry_of rs) (entry.In n ∷ past)) w
still_asks given past n rs count w asks =
    let m = w.job.message in
    let next = entry.In n ∷ past in
    let new = onto (map entry_of rs) next in
    let below : m < received past = asks.received_so in
    let other : nat_eq n m ≡ false = ne_eqb n m (λ e. omega arith) in
    let count_now : received new ≡ received past + 1 = unchanged received (λ k mark h some. refl) rs next in
    let before_now : before new m ≡ before past m = unchanged (λ some. before some m) (λ k mark h some. refl) rs next ∙ rw other refl in
    let place_now : place new m ≡ place past m = unchanged (λ some. place some m) (λ k mark h some. refl) rs next ∙ rw other refl in
    let on : is_initialised given new ≡ true = unchanged (is_initialised given) (λ k mark h some. refl) rs next ∙ or_right (is_initialising (said given n)) (is_initialised given past) asks.initialised in
    let longer : length new ≡ length (map entry_of rs) + length next = length_onto (map entry_of rs) next in
    let old_mark : w.job.mark ≤ length past = asks.marked.by_now in
    let kept : past_at new w.job.mark ≡ past_at past w.job.mark =
    past_kept (map entry_of rs) next w.job.mark (omega arith) ∙ past_kept (entry.In n ∷ []) past w.job.mark old_mark in
    record {
      said_so = asks.said_so;
      received_so = omega arith;
      over = ap (λ (some : List Entry). text_at given some w.job.path) before_now ∙ asks.over;
      at_version = ap (λ (some : List Entry). version_at given some w.job.path) before_now ∙ asks.at_version;
      marked = record { later = rw place_now asks.marked.later; by_now = omega arith };
      headers = subst (λ (some : List Entry). AreHeadersAt given some w.job.headers) (sym kept) asks.headers;
      config = asks.config;
      initialised = on;
    }

all_still_ask : (given : Given) (past : List Entry) (n : ℕ) (rs : List Reply) → n ≡ received past → (ws : List Waiting) → AllByRecursion (Asks given past) ws
    → AllByRecursion (Asks given (onto (map entry_of rs) (entry.In n ∷ past))) ws
all_still_ask given past n rs count [] all = tt
all_still_ask given past n rs count (w ∷ ws) all = (still_asks given past n rs count w all.0, all_still_ask given past n rs count ws all.1)

-- ---- those that go on waiting

all_others : (P : Waiting → Type 0) (o : Option End) (ws : List Waiting) → AllByRecursion P ws → AllByRecursion P (others_than o ws)
all_others P None ws all = all
all_others P (Some e) ws all =
    recursion_from_All P (others_than (Some e) ws) (All-filter (λ w. not (is_meant e (class_of_waiting w))) P ws (All-from_recursion P ws all))

pub all_left : (P : Waiting → Type 0) (core : Core) (k : Class) → AllByRecursion P core.pending → AllByRecursion P (left_by core k)
all_left P core k all = all_others P (ends_by core k) core.pending all

-- ---- the one that starts to wait

newly_asks : (given : Given) (core : Core) (rs : List Reply) (i : Id) (query : Query) (path : List ℕ) (o : Option Doc)
    → said given core.messages ≡ queries i query path → StandsFor given core → core.initialised ≡ true → doc_at core.docs path ≡ o
    → AllByRecursion (Asks given (onto (map entry_of rs) (entry.In core.messages ∷ past_of core))) (waiting_for core i query path o)
newly_asks given core rs i query path None says stands on found = tt
newly_asks given core rs i query path (Some doc) says stands on found =
    let n = core.messages in
    let past = past_of core in
    let next = entry.In n ∷ past in
    let new = onto (map entry_of rs) next in
    let itself : nat_eq n n ≡ true = eq-eqb n n refl in
    let count : n ≡ received past = stands.count in
    let count_now : received new ≡ received past + 1 = unchanged received (λ k mark h some. refl) rs next in
    let before_now : before new n ≡ past = unchanged (λ some. before some n) (λ k mark h some. refl) rs next ∙ rw itself refl in
    let place_now : place new n ≡ length past = unchanged (λ some. place some n) (λ k mark h some. refl) rs next ∙ rw itself refl in
    let on_now : is_initialised given new ≡ true = unchanged (is_initialised given) (λ k mark h some. refl) rs next
    ∙ or_right (is_initialising (said given n)) (is_initialised given past) (sym stands.initialised ∙ on) in
    let longer : length new ≡ length (map entry_of rs) + length next = length_onto (map entry_of rs) next in
    let same_length : length past ≡ length core.journal = length-reverse core.journal in
    let long : length core.journal + 1 ≡ length next = omega arith in
    let there : past_at new (length core.journal + 1) ≡ next =
    ap (past_at new) long ∙ past_kept (map entry_of rs) next (length next) (omega arith) ∙ past_whole next in
    let known : AreHeadersAt given next core.headers = λ q. stands.headers q ∙ sym (rw says refl) in (
      record {
        said_so = says;
        received_so = omega arith;
        over = ap (λ (some : List Entry). text_at given some path) before_now ∙ sym (stands.texts path) ∙ ap (option_map (λ (d : Doc). d.text)) found;
        at_version = ap (λ (some : List Entry). version_at given some path) before_now ∙ sym (stands.versions path) ∙ ap (option_map (λ (d : Doc). d.version)) found;
        marked = record { later = omega arith; by_now = omega arith };
        headers = subst (λ (some : List Entry). AreHeadersAt given some core.headers) (sym there) known;
        config = stands.config;
        initialised = on_now;
      },
      tt,
    )

query_asks : (given : Given) (core : Core) (rs : List Reply) (i : Id) (query : Query) (path : List ℕ) (o : Option ℤ)
    → said given core.messages ≡ queries i query path → StandsFor given core → core_refusal core (queries i query path) ≡ o
    → AllByRecursion (Asks given (onto (map entry_of rs) (entry.In core.messages ∷ past_of core))) (started_if core o (queries i query path))
query_asks given core rs i query path (Some code) says stands e = tt
query_asks given core rs i query path None says stands e =
    newly_asks given core rs i query path (doc_at core.docs path) says stands
    (initialised_if_accepted core.initialised core.shut_down (list_any (has_id i) core.pending) (is_open (texts_of core.docs) (Some path)) i query path e) refl

none_by : (P : Waiting → Type 0) (core : Core) (o : Option ℤ) (k : Class) → started_if core None k ≡ [] → AllByRecursion P (started_if core o k)
none_by P core (Some code) k none = tt
none_by P core None k none = subst (AllByRecursion P) (sym none) tt

all_started : (given : Given) (core : Core) (rs : List Reply) (k : Class) → said given core.messages ≡ k → StandsFor given core
    → AllByRecursion (Asks given (onto (map entry_of rs) (entry.In core.messages ∷ past_of core))) (started_by core k)
all_started given core rs (queries i query path) says stands = query_asks given core rs i query path (core_refusal core (queries i query path)) says stands refl
all_started given core rs k says stands = none_by (Asks given (onto (map entry_of rs) (entry.In core.messages ∷ past_of core))) core (core_refusal core k) k refl

-- each request that waits after a message stands in the history
pub all_ask : (given : Given) (core : Core) (rs : List Reply) (k : Class) → said given core.messages ≡ k → StandsFor given core
    → AllByRecursion (Asks given (onto (map entry_of rs) (entry.In core.messages ∷ past_of core))) (pending_after core k)
all_ask given core rs k says stands =
    let P = Asks given (onto (map entry_of rs) (entry.In core.messages ∷ past_of core)) in
    let kept = all_left P core k (all_still_ask given (past_of core) core.messages rs stands.count core.pending stands.asks) in
    recursion_from_All P (left_by core k ++ started_by core k)
    (All-append P (left_by core k) (started_by core k) (All-from_recursion P (left_by core k) kept)
    (All-from_recursion P (started_by core k) (all_started given core rs k says stands)))
