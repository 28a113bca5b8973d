-- A session whose input has an `exit` runs to it, where nothing fails.
use Rattle.std.proofs.Common.{◌≡◌, inl, inr, ℕ, List, ◌++◌, Bool, true, false, sym, ◌∙◌, ap, subst, append-nil, arith}
use Rattle.std.specs.Prelude.{Option, if◌then◌else◌}
use Rattle.cl_frames.specs.Sessions.{SplitsInto, edge, bad, long, after_last}
use Rattle.cl_frames.specs.Sessions as frames
use Rattle.cl_frames.proofs.SessionLemmas.{one_split}
use Rattle.cl_base.specs.Reads.{Reads}
use Rattle.cl_base.specs.declared.config.Settings.{Settings}
use Rattle.cl_history.specs.declared.entry.Entry.{Entry}
use Rattle.clsd.specs.Sessions.{Close, at_exit, at_edge, at_bad, at_long, at_source, at_sink, at_memory, Session, StatusIs, LeavesUnread, is_last, RanToTheEnd}

-- bytes that split up to an `exit` don't end otherwise
other_end : (bytes : List ℕ) (bodies more : List (List ℕ)) (rest : List ℕ) (e : frames.Ending)
    → SplitsInto is_last 0 bytes bodies (after_last rest) → SplitsInto is_last 0 bytes more e → e ≡ after_last rest
other_end bytes bodies more rest e splits ends = sym (one_split is_last 0 bytes (omega arith) bodies more (after_last rest) e splits ends).1

by_exit : (shut_down : Bool) (code : ℕ) → code ≡ (if shut_down then 0 else 1) → RanToTheEnd code
by_exit true code e = inl e
by_exit false code e = inr (inl e)

by_close : (close : Close) (bytes taken rest : List ℕ) (bodies : List (List ℕ)) (ends : frames.Ending) (shut_down : Bool) (code offset : ℕ) (all : List (List ℕ)) (behind : List ℕ)
    → bytes ≡ taken ++ rest → SplitsInto is_last 0 taken bodies ends → StatusIs close shut_down ends code offset → LeavesUnread close bytes taken rest bodies offset
    → SplitsInto is_last 0 bytes all (after_last behind) → (code ≡ 4 → ⊥) → (code ≡ 5 → ⊥) → RanToTheEnd code
by_close at_exit bytes taken rest bodies ends shut_down code offset all behind parts framed status unread splits source sink = by_exit shut_down code status.0
by_close at_edge bytes taken rest bodies ends shut_down code offset all behind parts framed status unread splits source sink =
    let whole : bytes ≡ taken = parts ∙ ap (λ (w : List ℕ). taken ++ w) unread ∙ append-nil taken in
    let here : SplitsInto is_last 0 bytes bodies edge
    = subst (λ (w : List ℕ). SplitsInto is_last 0 w bodies edge) (sym whole) (subst (λ (e : frames.Ending). SplitsInto is_last 0 taken bodies e) status.2 framed) in
    let same : edge ≡ after_last behind = other_end bytes all bodies behind edge splits here in let clash : ⊥ = cc in absurd clash
by_close at_bad bytes taken rest bodies ends shut_down code offset all behind parts framed status unread splits source sink =
    let same : bad offset ≡ after_last behind = other_end bytes all bodies behind (bad offset) splits unread in let clash : ⊥ = cc in absurd clash
by_close at_long bytes taken rest bodies ends shut_down code offset all behind parts framed status unread splits source sink =
    let same : long ≡ after_last behind = other_end bytes all bodies behind long splits unread.1 in let clash : ⊥ = cc in absurd clash
by_close at_source bytes taken rest bodies ends shut_down code offset all behind parts framed status unread splits source sink = absurd (source status.0)
by_close at_sink bytes taken rest bodies ends shut_down code offset all behind parts framed status unread splits source sink = absurd (sink status.0)
by_close at_memory bytes taken rest bodies ends shut_down code offset all behind parts framed status unread splits source sink = inr (inr status.0)

pub completes : (config : Settings) (bytes : List ℕ) (reads : Reads) (left held : Option (List ℕ)) (journal : List Entry) (code offset : ℕ) (all : List (List ℕ)) (behind : List ℕ)
    → Session config bytes reads left held journal code offset → SplitsInto is_last 0 bytes all (after_last behind) → (code ≡ 4 → ⊥) → (code ≡ 5 → ⊥) → RanToTheEnd code
completes config bytes reads left held journal code offset all behind s splits source sink =
    by_close s.close bytes s.taken s.rest s.bodies s.ends _ code offset all behind s.parts s.messages.framed s.status s.unread splits source sink
