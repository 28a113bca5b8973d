use Rattle.std.proofs.Common.{◌≡◌, ◌++◌, ◌∙◌, ap, string_bytes, take, drop, List, ℕ}
use Rattle.std.specs.Str.{valid_up_to}
use Rattle.std.specs.Str.Lossy.{replacement_bytes}
use Rattle.cl_lossy.proofs.LossyLemmas.{shown_ends, shown_goes_on}
use Rattle.cl_lossy.proofs.lossy.shown.Goals as goal

pub returns-in-Ok : goal.returns-in-Ok
returns-in-Ok c =
    let whole = c.in-Ok.ensures.cases in
    shown_ends c.args.bytes.now c.loop-rest.left.now (string_bytes c.loop-rest.text) (string_bytes c.push_str.new.self) whole.1 c.loop-rest.invariant
    (c.in_ok-push_str-in-Ok.ensures.bytes ∙ ap (λ (w : List ℕ). string_bytes c.loop-rest.text ++ w) whole.0)

pub loop-rest-preserved : goal.loop-rest-preserved
loop-rest-preserved c =
    let part = c.in-Err.ensures.cases in
    let n : ℕ = valid_up_to c.in-Err.error in
    let left : List ℕ = c.loop-rest.left.now in
    let one : List ℕ = string_bytes c.push_utf8.new.text in
    let two : List ℕ = string_bytes c.push_str-in-Err.new.self in
    let next : List ℕ = c.split_at-in-Err.result.1.now in
    let at : c.valid_up_to.result ≡ n = c.valid_up_to.ensures in
    let pushed : one ≡ string_bytes c.loop-rest.text ++ take n left
    = c.in_ok-push_utf8-in-Err.ensures ∙ ap (λ (w : List ℕ). string_bytes c.loop-rest.text ++ w) (c.split_at.ensures.front ∙ ap (λ (k : ℕ). take k left) at) in
    let marked : two ≡ one ++ replacement_bytes = c.in_ok-push_str-in-Err.ensures.bytes in
    let dropped : next ≡ drop 1 (drop n left) = c.split_at-in-Err.ensures.back ∙ ap (λ (w : List ℕ). drop 1 w) (c.split_at.ensures.back ∙ ap (λ (k : ℕ). drop k left) at) in
    shown_goes_on c.args.bytes.now left (string_bytes c.loop-rest.text) one two next n part.1 c.loop-rest.invariant pushed marked dropped
