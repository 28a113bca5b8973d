-- What is due after a message is what the core replies.
use Rattle.std.proofs.Common.{◌≡◌, ℕ, ℤ, ◌+◌, List, [], ◌∷◌, map, filter, length, ap, sym, ◌∙◌, refl, Bool, true, false, Some, None, Option}
use Rattle.std.specs.Prelude.{◌&&◌, is_some, slice_get, unwrap_or, if◌then◌else◌}
use Rattle.std.specs.List.{list_any, AllByRecursion}
use Rattle.cl_rpc.specs.declared.id.Id.{Id}
use Rattle.cl_rpc.specs.declared.call.Parsed.{Parsed}
use Rattle.cl_rpc.specs.declared.call.Parsed.TheVariants as parsed
use Rattle.cl_rpc.specs.declared.out.How.{How}
use Rattle.cl_rpc.specs.declared.out.Reply.{Reply}
use Rattle.cl_rpc.specs.Classes.{Class, class_of, initialises, shuts_down, queries, unknown, bad_params, invalid, opens, changes, cancels}
use Rattle.cl_history.specs.declared.entry.Entry.{Entry}
use Rattle.cl_history.specs.declared.entry.Entry.TheVariants as entry
use Rattle.cl_history.specs.Given.{Given, said}
use Rattle.cl_history.specs.Refusals.{refusal_of, is_open, document_of}
use Rattle.cl_history.specs.History.{refusal, refusal_by_id, asks_by, is_pending, is_initialised, is_shut_down, text_at, End, by_id, on_document, ends, is_meant, pending_meant}
use Rattle.cl_history.specs.Legal.{Due, all_as, due_to_accepted, due_by, due_to, how_ended, owed}
use Rattle.cl_core.specs.declared.core_state.Core.{Core}
use Rattle.cl_core.specs.declared.waiting.Waiting.{Waiting}
use Rattle.cl_core.specs.Waiting.{has_id, number_of, class_of_waiting}
use Rattle.cl_core.specs.Deciding.{texts_of, core_refusal, core_refusal_by_id, ended, ends_by, meant_by, replies_if_accepted, replies_by, replies_of}
use Rattle.cl_core.specs.Standing.{Asks, StandsFor, past_of}

pub said_is : (given : Given) (n : ℕ) (p : Parsed) → slice_get given.messages n ≡ Some p → said given n ≡ class_of p
said_is given n p e = ap (λ (o : Option Parsed). class_of (unwrap_or o parsed.Ignored)) e

-- ---- tests on the requests that wait are tests on their messages

pub same_any : (given : Given) (past : List Entry) (f : Waiting → Bool) (g : Class → Bool) → ((w : Waiting) → f w ≡ g (class_of_waiting w))
    → (ws : List Waiting) → AllByRecursion (Asks given past) ws → list_any f ws ≡ list_any (λ n. g (said given n)) (map number_of ws)
same_any given past f g same [] all = refl
same_any given past f g same (w ∷ ws) all = rw (all.0.said_so, same w, same_any given past f g same ws all.1) refl

kept_if : (b : Bool) (w : Waiting) (ws : List Waiting) (ns : List ℕ) → map number_of ws ≡ ns
    → map number_of (if b then w ∷ ws else ws) ≡ (if b then number_of w ∷ ns else ns)
kept_if true w ws ns e = ap (λ (ms : List ℕ). number_of w ∷ ms) e
kept_if false w ws ns e = e

kept : (f : Waiting → Bool) (q : ℕ → Bool) (w : Waiting) (ws : List Waiting) → f w ≡ q (number_of w) → map number_of (filter f ws) ≡ filter q (map number_of ws)
    → map number_of (filter f (w ∷ ws)) ≡ filter q (map number_of (w ∷ ws))
kept f q w ws e more = rw (← e) (kept_if (f w) w (filter f ws) (filter q (map number_of ws)) more)

pub same_filter : (given : Given) (past : List Entry) (f : Waiting → Bool) (g : Class → Bool) → ((w : Waiting) → f w ≡ g (class_of_waiting w))
    → (ws : List Waiting) → AllByRecursion (Asks given past) ws → map number_of (filter f ws) ≡ filter (λ n. g (said given n)) (map number_of ws)
same_filter given past f g same [] all = refl
same_filter given past f g same (w ∷ ws) all =
    let e : f w ≡ g (said given w.job.message) = same w ∙ sym (ap g all.0.said_so) in
    kept f (λ n. g (said given n)) w ws e (same_filter given past f g same ws all.1)

-- ---- refusals

same_open : (f g : List ℕ → Option (List ℕ)) → ((path : List ℕ) → f path ≡ g path) → (o : Option (List ℕ)) → is_open f o ≡ is_open g o
same_open f g same None = refl
same_open f g same (Some path) = ap is_some (same path)

pub waits_if_pending : (given : Given) (core : Core) (i : Id) → StandsFor given core → is_pending given (past_of core) i ≡ list_any (has_id i) core.pending
waits_if_pending given core i stands =
    ap (list_any (λ n. asks_by i (said given n))) (sym stands.waiting)
    ∙ sym (same_any given (past_of core) (has_id i) (asks_by i) (λ w. refl) core.pending stands.asks)

same_refusal_by_id : (given : Given) (core : Core) (i : Id) (k : Class) → StandsFor given core → refusal_by_id given (past_of core) i k ≡ core_refusal_by_id core i k
same_refusal_by_id given core i k stands =
    let past = past_of core in
    ap (λ (b : Bool). refusal_of b (is_shut_down given past) (is_pending given past i) (is_open (text_at given past) (document_of k)) k) (sym stands.initialised)
    ∙ ap (λ (b : Bool). refusal_of core.initialised b (is_pending given past i) (is_open (text_at given past) (document_of k)) k) (sym stands.shut_down)
    ∙ ap (λ (b : Bool). refusal_of core.initialised core.shut_down b (is_open (text_at given past) (document_of k)) k) (waits_if_pending given core i stands)
    ∙ ap (λ (b : Bool). refusal_of core.initialised core.shut_down (list_any (has_id i) core.pending) b k)
    (same_open (text_at given past) (texts_of core.docs) (λ path. sym (stands.texts path)) (document_of k))

pub same_refusal : (given : Given) (core : Core) (k : Class) → StandsFor given core → refusal given (past_of core) k ≡ core_refusal core k
same_refusal given core (initialises i) stands = same_refusal_by_id given core i (initialises i) stands
same_refusal given core (shuts_down i) stands = same_refusal_by_id given core i (shuts_down i) stands
same_refusal given core (queries i query path) stands = same_refusal_by_id given core i (queries i query path) stands
same_refusal given core (unknown i) stands = same_refusal_by_id given core i (unknown i) stands
same_refusal given core (bad_params i b) stands = same_refusal_by_id given core i (bad_params i b) stands
same_refusal given core _ stands = refl

-- ---- which requests a message ends

pub same_ends : (given : Given) (core : Core) (k : Class) → StandsFor given core → ends (is_initialised given (past_of core)) (text_at given (past_of core)) k ≡ ends_by core k
same_ends given core (cancels i) stands = ap (λ (b : Bool). if b then Some (by_id i) else None) (sym stands.initialised)
same_ends given core (opens path version text) stands = ap (λ (b : Bool). if b then Some (on_document path) else None) (sym stands.initialised)
same_ends given core (changes path version text) stands =
    ap (λ (b : Bool). if b && is_some (text_at given (past_of core) path) then Some (on_document path) else None) (sym stands.initialised)
    ∙ ap (λ (o : Option (List ℕ)). if core.initialised && is_some o then Some (on_document path) else None) (sym (stands.texts path))
same_ends given core _ stands = refl

-- ---- what is due after a message

abbrev pub due_of : Reply → Due
due_of r = (r.message, r.how)

dues_ended : (mark : ℕ) (h : How) (ws : List Waiting) → map due_of (ended mark h ws) ≡ all_as h (map number_of ws)
dues_ended mark h [] = refl
dues_ended mark h (w ∷ ws) = ap (λ (dues : List Due). (w.job.message, h) ∷ dues) (dues_ended (mark + 1) h ws)

dues_meant : (given : Given) (core : Core) (mark : ℕ) (h : How) (o : Option End) → StandsFor given core
    → all_as h (pending_meant given (past_of core) o) ≡ map due_of (ended mark h (meant_by o core.pending))
dues_meant given core mark h None stands = refl
dues_meant given core mark h (Some e) stands =
    ap (λ (ns : List ℕ). all_as h (filter (λ n. is_meant e (said given n)) ns)) (sym stands.waiting)
    ∙ ap (all_as h) (sym (same_filter given (past_of core) (λ w. is_meant e (class_of_waiting w)) (is_meant e) (λ w. refl) core.pending stands.asks))
    ∙ sym (dues_ended mark h (meant_by (Some e) core.pending))

dues_by_end : (given : Given) (core : Core) (mark : ℕ) (k : Class) → StandsFor given core
    → all_as (how_ended k) (pending_meant given (past_of core) (ends (is_initialised given (past_of core)) (text_at given (past_of core)) k))
    ≡ map due_of (ended mark (how_ended k) (meant_by (ends_by core k) core.pending))
dues_by_end given core mark k stands =
    ap (λ (o : Option End). all_as (how_ended k) (pending_meant given (past_of core) o)) (same_ends given core k stands) ∙ dues_meant given core mark (how_ended k) (ends_by core k) stands

dues_accepted : (given : Given) (core : Core) (mark : ℕ) (k : Class) → StandsFor given core
    → due_to_accepted given (past_of core) core.messages k ≡ map due_of (replies_if_accepted core mark k)
dues_accepted given core mark (initialises i) stands = refl
dues_accepted given core mark (shuts_down i) stands = refl
dues_accepted given core mark (queries i query path) stands = refl
dues_accepted given core mark (unknown i) stands = refl
dues_accepted given core mark (bad_params i b) stands = refl
dues_accepted given core mark (invalid i code) stands = refl
dues_accepted given core mark (cancels i) stands = dues_by_end given core mark (cancels i) stands
dues_accepted given core mark (opens path version text) stands = dues_by_end given core mark (opens path version text) stands
dues_accepted given core mark (changes path version text) stands = dues_by_end given core mark (changes path version text) stands
dues_accepted given core mark _ stands = refl

dues_by : (given : Given) (core : Core) (mark : ℕ) (o : Option ℤ) (k : Class) → StandsFor given core
    → due_by given (past_of core) core.messages o k ≡ map due_of (replies_by core mark o k)
dues_by given core mark (Some code) k stands = refl
dues_by given core mark None k stands = dues_accepted given core mark k stands

-- what is due directly after a message is the replies of the core
pub owed_first : (given : Given) (core : Core) (k : Class) → said given core.messages ≡ k → StandsFor given core
    → owed given (entry.In core.messages ∷ past_of core) ≡ map due_of (replies_of core k)
owed_first given core k says stands =
    ap (due_to given (past_of core) core.messages) says
    ∙ ap (λ (o : Option ℤ). due_by given (past_of core) core.messages o k) (same_refusal given core k stands)
    ∙ dues_by given core (length core.journal + 1) (core_refusal core k) k stands
