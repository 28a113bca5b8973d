-- After a message a core stands for its journal still.
use Rattle.std.proofs.Common.{◌≡◌, ℕ, ◌+◌, List, [], ◌∷◌, map, length, reverse, ap, sym, ◌∙◌, refl, subst, arith, Bool, true, false, Some, None, Option}
use Rattle.std.specs.Prelude.{◌&&◌, ◌||◌, not, is_some, if◌then◌else◌}
use Rattle.std.specs.List.{list_any, AllByRecursion}
use Rattle.std.specs.Str.{bytes_eq}
use Rattle.std.proofs.lemmas.Bool.{or_right, false≢true}
use Rattle.std.proofs.lemmas.List.{length-reverse}
use Rattle.cl_base.specs.declared.headers.Known.{Known}
use Rattle.cl_base.specs.declared.headers.Known.TheVariants as known
use Rattle.cl_headers.specs.Headers.{known_at}
use Rattle.cl_rpc.specs.Classes.{Class, initialises, shuts_down, opens, changes, closes, watched}
use Rattle.cl_history.specs.declared.entry.Entry.{Entry}
use Rattle.cl_history.specs.declared.entry.Entry.TheVariants as entry
use Rattle.cl_history.specs.Given.{Given, said, received, loaded}
use Rattle.cl_history.specs.History.{is_initialised, is_initialising, is_shut_down, is_shutting_down, is_pending, text_at, text_after, version_at, version_after}
use Rattle.cl_history.specs.Headers.{changes_header, last_read, text_or, headers_at}
use Rattle.cl_history.specs.Legal.{owed}
use Rattle.cl_history.specs.Accepted.{is_shutdown}
use Rattle.cl_history.proofs.Accepting.{initialised_after, shut_down_after}
use Rattle.cl_core.specs.declared.core_state.Core.{Core}
use Rattle.cl_core.specs.declared.core_state.Awaited.{Awaited}
use Rattle.cl_core.specs.declared.event.Effect.{Effect}
use Rattle.cl_core.specs.declared.waiting.Waiting.{Waiting}
use Rattle.cl_core.specs.Waiting.{has_id, number_of}
use Rattle.cl_core.specs.Deciding.{texts_of, versions_of, entry_of, known_after, replies_of}
use Rattle.cl_core.specs.Steps.{Takes, is_accepted}
use Rattle.cl_core.specs.Standing.{Asks, StandsAt, StandsFor, past_of}
use Rattle.cl_core.proofs.Onto.{onto, onto_past, unchanged}
use Rattle.cl_core.proofs.Dues.{due_of, owed_first, waits_if_pending}
use Rattle.cl_core.proofs.Following.{marks_of, replies_follow, none_left_due}
use Rattle.cl_core.proofs.StillPending.{still_pending}
use Rattle.cl_core.proofs.Asking.{all_ask}

pub new_past : (old new : Core) (k : Class) (effects : List Effect) → Takes old k new effects
    → past_of new ≡ onto (map entry_of (replies_of old k)) (entry.In old.messages ∷ past_of old)
new_past old new k effects takes = ap reverse takes.journal ∙ onto_past old.journal (entry.In old.messages ∷ map entry_of (replies_of old k))

-- ---- a session that is shut down was initialised

shut_down_here : (b c d i : Bool) → ((b && c) || d) ≡ true → (d ≡ true → b ≡ true) → (i || b) ≡ true
shut_down_here true c d i e more = or_right i true refl
shut_down_here false c true i e more = absurd (false≢true (more refl))
shut_down_here false c false i e more = absurd (false≢true e)

pub initialised_before : (given : Given) (past : List Entry) → is_shut_down given past ≡ true → is_initialised given past ≡ true
initialised_before given [] e = e
initialised_before given (entry.In n ∷ past) e =
    shut_down_here (is_initialised given past) (is_shutting_down given past (said given n)) (is_shut_down given past) (is_initialising (said given n)) e (initialised_before given past)
initialised_before given (entry.Load n ∷ past) e = initialised_before given past e
initialised_before given (entry.Reply m mark h ∷ past) e = initialised_before given past e
initialised_before given (entry.Notify m mark ∷ past) e = initialised_before given past e

-- ---- the session is initialised

on_if_any : (given : Given) (past : List Entry) (f : Waiting → Bool) (ws : List Waiting) → AllByRecursion (Asks given past) ws → list_any f ws ≡ true
    → is_initialised given past ≡ true
on_if_any given past f [] all e = absurd (false≢true e)
on_if_any given past f (w ∷ ws) all e = all.0.initialised

none_and : (a b : Bool) → ((a && false) || b) ≡ b
none_and true b = refl
none_and false b = refl

and_all : (a b : Bool) → ((a && true) || b) ≡ (a || b)
and_all true b = refl
and_all false b = refl

same_initialised : (given : Given) (core : Core) (k : Class) → StandsFor given core
    → ((is_accepted core k && is_initialising k) || core.initialised) ≡ (is_initialising k || is_initialised given (past_of core))
same_initialised given core (initialises i) stands =
    and_all (is_accepted core (initialises i)) core.initialised
    ∙ initialised_after core.initialised core.shut_down (list_any (has_id i) core.pending) i stands.once_initialised
    (λ e. stands.initialised ∙ on_if_any given (past_of core) (has_id i) core.pending stands.asks e)
same_initialised given core k stands = none_and (is_accepted core k) core.initialised ∙ stands.initialised

-- ---- the session is shut down

same_shut_down : (given : Given) (core : Core) (k : Class) → StandsFor given core
    → ((is_accepted core k && is_shutdown k) || core.shut_down)
    ≡ ((is_initialised given (past_of core) && is_shutting_down given (past_of core) k) || is_shut_down given (past_of core))
same_shut_down given core (shuts_down i) stands =
    and_all (is_accepted core (shuts_down i)) core.shut_down
    ∙ shut_down_after core.initialised core.shut_down (list_any (has_id i) core.pending) i
    ∙ ap (λ (b : Bool). (b && not (list_any (has_id i) core.pending)) || core.shut_down) stands.initialised
    ∙ ap (λ (b : Bool). (is_initialised given (past_of core) && not b) || core.shut_down) (sym (waits_if_pending given core i stands))
    ∙ ap (λ (b : Bool). (is_initialised given (past_of core) && not (is_pending given (past_of core) i)) || b) stands.shut_down
same_shut_down given core k stands = none_and (is_accepted core k) core.shut_down ∙ stands.shut_down ∙ sym (none_and (is_initialised given (past_of core)) (is_shut_down given (past_of core)))

-- ---- what is known of headers

text_known : (b : Bool) (text : List ℕ) (t : Option (List ℕ)) (h : Option Known)
    → text_or (if b then Some text else t) (if b then None else h) ≡ (if b then Some (known.Found text) else text_or t h)
text_known true text t h = refl
text_known false text t h = refl

text_changed : (b : Bool) (text : List ℕ) (t : Option (List ℕ)) (h : Option Known)
    → text_or (if b then Some text else t) h ≡ (if b then Some (known.Found text) else text_or t h)
text_changed true text t h = refl
text_changed false text t h = refl

text_closed : (a b : Bool) (t : Option (List ℕ)) (h : Option Known)
    → text_or (if a && b then None else t) (if a && (b && is_some t) then None else h) ≡ (if a && (b && is_some t) then None else text_or t h)
text_closed true true (Some text) h = refl
text_closed true true None h = refl
text_closed true false t h = refl
text_closed false b t h = refl

text_watched : (a b : Bool) (t : Option (List ℕ)) (h : Option Known)
    → text_or t (if a && b then None else h) ≡ (if a && (b && not (is_some t)) then None else text_or t h)
text_watched true true (Some text) h = refl
text_watched true true None h = refl
text_watched true false t h = refl
text_watched false b t h = refl

pub known_step : (on : Bool) (k : Class) (path : List ℕ) (t : Option (List ℕ)) (h : Option Known)
    → text_or (text_after on k path t) (if changes_header on (is_some t) k path then None else h) ≡ known_after on (is_some t) k path (text_or t h)
known_step on (opens p version text) path t h = text_known (on && bytes_eq p path) text t h
known_step on (changes p version text) path t h = text_changed (on && (bytes_eq p path && is_some t)) text t h
known_step on (closes p) path t h = text_closed on (bytes_eq p path) t h
known_step on (watched ps) path t h = text_watched on (list_any (λ p. bytes_eq p path) ps) t h
known_step on _ path t h = refl

same_known : (given : Given) (core : Core) (k : Class) (path : List ℕ) → StandsFor given core
    → known_after core.initialised (is_some (texts_of core.docs path)) k path (known_at core.headers path)
    ≡ text_or (text_after (is_initialised given (past_of core)) k path (text_at given (past_of core) path))
    (if changes_header (is_initialised given (past_of core)) (is_some (text_at given (past_of core) path)) k path then None else last_read given (past_of core) path)
same_known given core k path stands =
    let past = past_of core in
    ap (λ (b : Bool). known_after b (is_some (texts_of core.docs path)) k path (known_at core.headers path)) stands.initialised
    ∙ ap (λ (o : Option (List ℕ)). known_after (is_initialised given past) (is_some o) k path (known_at core.headers path)) (stands.texts path)
    ∙ ap (known_after (is_initialised given past) (is_some (text_at given past path)) k path) (stands.headers path)
    ∙ sym (known_step (is_initialised given past) k path (text_at given past path) (last_read given past path))

-- ---- all together

pub message_stands : (given : Given) (old new : Core) (k : Class) (effects : List Effect)
    → said given old.messages ≡ k → StandsFor given old → Takes old k new effects → StandsFor given new
message_stands given old new k effects says stands takes =
    let rs = replies_of old k in
    let next = entry.In old.messages ∷ past_of old in
    let past = onto (map entry_of rs) next in
    let due : owed given next ≡ map due_of rs = owed_first given old k says stands in
    let long : length old.journal + 1 ≡ length next = ap (λ (n : ℕ). n + 1) (sym (length-reverse old.journal)) ∙ omega arith in
    let on : new.initialised ≡ is_initialised given past = takes.initialised ∙ same_initialised given old k stands
    ∙ ap (λ (q : Class). is_initialising q || is_initialised given (past_of old)) (sym says)
    ∙ sym (unchanged (is_initialised given) (λ k mark h some. refl) rs next) in
    let over : new.shut_down ≡ is_shut_down given past = takes.shut_down ∙ same_shut_down given old k stands
    ∙ ap (λ (q : Class). (is_initialised given (past_of old) && is_shutting_down given (past_of old) q) || is_shut_down given (past_of old)) (sym says)
    ∙ sym (unchanged (is_shut_down given) (λ k mark h some. refl) rs next) in
    subst (StandsAt given new) (sym (new_past old new k effects takes)) (record {
      config = takes.config ∙ stands.config;
      initialised = on;
      shut_down = over;
      once_initialised = λ e. on ∙ initialised_before given past (sym over ∙ e);
      texts = λ path. takes.texts path
          ∙ ap (λ (b : Bool). text_after b k path (texts_of old.docs path)) stands.initialised
          ∙ ap (text_after (is_initialised given (past_of old)) k path) (stands.texts path)
          ∙ ap (λ (q : Class). text_after (is_initialised given (past_of old)) q path (text_at given (past_of old) path)) (sym says)
          ∙ sym (unchanged (λ some. text_at given some path) (λ k mark h some. refl) rs next);
      versions = λ path. takes.versions path
          ∙ ap (λ (b : Bool). version_after b k path (versions_of old.docs path)) stands.initialised
          ∙ ap (version_after (is_initialised given (past_of old)) k path) (stands.versions path)
          ∙ ap (λ (q : Class). version_after (is_initialised given (past_of old)) q path (version_at given (past_of old) path)) (sym says)
          ∙ sym (unchanged (λ some. version_at given some path) (λ k mark h some. refl) rs next);
      headers = λ path. takes.headers path ∙ same_known given old k path stands
          ∙ ap (λ (q : Class). text_or (text_after (is_initialised given (past_of old)) q path (text_at given (past_of old) path))
          (if changes_header (is_initialised given (past_of old)) (is_some (text_at given (past_of old) path)) q path then None else last_read given (past_of old) path)) (sym says)
          ∙ sym (unchanged (λ some. headers_at given some path) (λ k mark h some. refl) rs next);
      count = takes.messages ∙ ap (λ (n : ℕ). n + 1) stands.count ∙ sym (unchanged received (λ k mark h some. refl) rs next);
      reads = takes.loads ∙ stands.reads ∙ sym (unchanged loaded (λ k mark h some. refl) rs next);
      waiting = ap (map number_of) takes.pending ∙ still_pending given old k says stands;
      asks = subst (λ (ws : List Waiting). AllByRecursion (Asks given past) ws) (sym takes.pending) (all_ask given old rs k says stands);
      awaits = λ a is. absurd (let none : ◌≡◌ {A = Option Awaited} None (Some a) = sym takes.awaited ∙ is in cc);
      follow = replies_follow given rs next (length old.journal + 1) due long (marks_of old k) ((stands.count, stands.none_due), stands.follow);
      none_due = none_left_due given rs next due;
    })
