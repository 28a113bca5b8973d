-- A core over whole runs of events.
use Rattle.std.proofs.Common.{◌≡◌, ℕ, List, [], ◌∷◌, ◌++◌, Bool, true, false, refl, sym, ap, subst, ◌∙◌, append-nil, append_assoc, MatchBool}
use Rattle.std.specs.Prelude.{reverse}
use Rattle.cl_rpc.specs.Replies.{reply_frame}
use Rattle.cl_query.specs.AnswerOf.{AnswerOf, NeedsOf}
use Rattle.cl_history.specs.declared.entry.Entry.{Entry}
use Rattle.cl_history.specs.Given.{Given}
use Rattle.cl_history.specs.Legal.{IsLegal}
use Rattle.cl_history.specs.Written.{Writes}
use Rattle.cl_history.proofs.Once.{are_once}
use Rattle.cl_core.specs.declared.core_state.Core.{Core}
use Rattle.cl_core.specs.declared.event.Effect.{Effect}
use Rattle.cl_core.specs.declared.event.Effect.TheVariants as effect
use Rattle.cl_core.specs.Standing.{IsNext, StandsFor, frames_of, journal_of, past_of}
use Rattle.cl_core.specs.Steps.{Steps}
use Rattle.cl_core.specs.Runs.{Put, TakesPut, Runs, HasRun, effects_of}
use Rattle.cl_core.proofs.Kept.{step_stands, step_writes}

frames_joined : (xs ys : List Effect) → frames_of (xs ++ ys) ≡ frames_of xs ++ frames_of ys
frames_joined [] ys = refl
frames_joined (effect.Reply r ∷ xs) ys =
    ap (λ (w : List ℕ). reply_frame r ++ w) (frames_joined xs ys) ∙ sym (append_assoc (reply_frame r) (frames_of xs) (frames_of ys))
frames_joined (effect.StartJob job ∷ xs) ys = frames_joined xs ys
frames_joined (effect.Load path ∷ xs) ys = frames_joined xs ys
frames_joined (effect.Finish status ∷ xs) ys = frames_joined xs ys

-- what stands after an event
abbrev pub Goes : Given → Core → List ℕ → Type 0
Goes given core bytes = StandsFor given core × Writes AnswerOf given (past_of core) bytes

goes_same : (given : Given) (old new : Core) (effects : List Effect) (bytes : List ℕ) → new ≡ old → effects ≡ [] → Goes given old bytes → Goes given new (bytes ++ frames_of effects)
goes_same given old new effects bytes same none goes =
    subst (λ (core : Core). Goes given core (bytes ++ frames_of effects)) (sym same)
    (subst (λ (es : List Effect). Goes given old (bytes ++ frames_of es)) (sym none) (subst (λ (w : List ℕ). Goes given old w) (sym (append-nil bytes)) goes))

by_taken : (b : Bool) (N S D C : Type 0) → MatchBool b N (Unit {0}) → MatchBool b S D → (N → S → C) → (D → C) → C
by_taken true N S D C next steps on off = on next steps
by_taken false N S D C next steps on off = off steps

goes_step : (given : Given) (old new : Core) (put : Put) (bytes : List ℕ)
    → Goes given old bytes → TakesPut given old put new → Goes given new (bytes ++ frames_of put.effects)
goes_step given old new put bytes goes takes =
    by_taken put.taken (IsNext given old put.event) (Steps old put.event new put.effects) ((new ≡ old) × (put.effects ≡ [])) (Goes given new (bytes ++ frames_of put.effects)) takes.next takes.steps
    (λ next steps. (step_stands given old new put.event put.effects next goes.0 steps, step_writes given old new put.event put.effects next goes.0 steps bytes goes.1))
    (λ q. goes_same given old new put.effects bytes q.0 q.1 goes)

pub goes_run : (given : Given) (puts : List Put) (fresh core : Core)
    → Goes given fresh [] → Runs given fresh puts core → Goes given core (frames_of (effects_of puts))
goes_run given [] fresh core goes run = subst (λ (c : Core). Goes given c []) (sym run) goes
goes_run given (put ∷ past) fresh core goes (before, runs, takes) =
    subst (λ (w : List ℕ). Goes given core w) (sym (frames_joined (effects_of past) put.effects))
    (goes_step given before core put (frames_of (effects_of past)) (goes_run given past fresh before goes runs) takes)

pub starts : (given : Given) (fresh : Core) → StandsFor given fresh → journal_of fresh ≡ [] → Goes given fresh []
starts given fresh stands none = (stands, subst (λ (j : List Entry). Writes AnswerOf given (reverse j) []) (sym none) refl)

pub has_run : (given : Given) (puts : List Put) (fresh core : Core)
    → StandsFor given fresh → journal_of fresh ≡ [] → Runs given fresh puts core → HasRun given core (effects_of puts)
has_run given puts fresh core stands none runs =
    let goes : Goes given core (frames_of (effects_of puts)) = goes_run given puts fresh core (starts given fresh stands none) runs in
    let legal : IsLegal NeedsOf given (past_of core) = record { follow = goes.0.follow; none_due = goes.0.none_due } in
    record { stands = goes.0; legal = legal; once = are_once NeedsOf given (past_of core) legal; writes = goes.1 }
