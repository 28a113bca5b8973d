-- Replies that end requests, one after another.
use Rattle.std.proofs.Common.{◌≡◌, ℕ, ◌+◌, List, [], ◌∷◌, ◌++◌, length, map, suc, refl, sym, ap, ◌∙◌, arith}
use Rattle.std.proofs.lemmas.List.{length-map, map-append}
use Rattle.cl_rpc.specs.declared.out.How.{How}
use Rattle.cl_rpc.specs.declared.out.Reply.{Reply}
use Rattle.cl_core.specs.declared.event.Effect.{Effect}
use Rattle.cl_core.specs.declared.event.Effect.TheVariants as effect
use Rattle.cl_core.specs.declared.waiting.Waiting.{Waiting}
use Rattle.cl_core.specs.Deciding.{ended}

pub ended-append : (mark : ℕ) (h : How) (xs ys : List Waiting) → ended mark h (xs ++ ys) ≡ ended mark h xs ++ ended (mark + length xs) h ys
ended-append mark h [] ys = ap (λ (k : ℕ). ended k h ys) (omega arith)
ended-append mark h (x ∷ xs) ys =
    let same : mark + 1 + length xs ≡ mark + suc (length xs) = omega arith in
    rw (ended-append (mark + 1) h xs ys, same) refl

pub length-ended : (mark : ℕ) (h : How) (xs : List Waiting) → length (ended mark h xs) ≡ length xs
length-ended mark h [] = refl
length-ended mark h (x ∷ xs) = ap suc (length-ended (mark + 1) h xs)

-- a loop that has replied to these goes on to the next
pub pushed : (mark : ℕ) (h : How) (front : List Waiting) (w : Waiting) (old new : List Effect) (reply : Reply)
    → old ≡ map effect.Reply (ended mark h front)
    → ended (mark + length old) h (w ∷ []) ≡ reply ∷ []
    → new ≡ old ++ effect.Reply reply ∷ []
    → new ≡ map effect.Reply (ended mark h (front ++ w ∷ []))
pushed mark h front w old new reply is one all =
    let count : length old ≡ length front = ap length is ∙ length-map (ended mark h front) effect.Reply ∙ length-ended mark h front in
    let more : ended mark h (front ++ w ∷ []) ≡ ended mark h front ++ reply ∷ []
    = ended-append mark h front (w ∷ []) ∙ ap (λ (k : ℕ). ended mark h front ++ ended (mark + k) h (w ∷ [])) (sym count)
    ∙ ap (λ (rs : List Reply). ended mark h front ++ rs) one in
    all ∙ ap (λ (es : List Effect). es ++ effect.Reply reply ∷ []) is ∙ sym (ap (map effect.Reply) more ∙ map-append effect.Reply (ended mark h front) (reply ∷ []))
