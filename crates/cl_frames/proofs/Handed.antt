-- What is handed on, call after call, where the inner object tells it.
use Rattle.std.proofs.Common.{◌≡◌, ◌≤◌, ℕ, ◌+◌, ◌-◌, List, [], ◌++◌, take, drop, Option, Some, None, refl, sym, ◌∙◌, ap, arith, append-nil, append_assoc, subst}
use Rattle.std.proofs.lemmas.List.{take-append-drop, drop-drop, drop-take}
use Rattle.std.specs.Prelude.{slice_range}
use Rattle.std.specs.Io.KnownBytes.{Keeps, Consumes, Appends, prepend_known}
use Rattle.cl_frames.proofs.Known.{prepend_known_nil}
use Rattle.cl_frames.specs.Edges.{HandsOn}
use Rattle.cl_frames.specs.declared.outside.Got.{Got}

pub keeps_same : (a : Option (List ℕ)) → Keeps a a
keeps_same None = tt
keeps_same (Some xs) = refl

pub keeps_on : (a b c : Option (List ℕ)) → Keeps a b → Keeps b c → Keeps a c
keeps_on None b c p q = tt
keeps_on (Some xs) None c p q = absurd p
keeps_on (Some xs) (Some ys) None p q = absurd q
keeps_on (Some xs) (Some ys) (Some zs) p q = q ∙ p

pub kept_then_consumed : (a b c : Option (List ℕ)) (bs : List ℕ) → Keeps a b → Consumes b c bs → Consumes a c bs
kept_then_consumed None b c bs p q = tt
kept_then_consumed (Some xs) None c bs p q = absurd p
kept_then_consumed (Some xs) (Some ys) None bs p q = absurd q
kept_then_consumed (Some xs) (Some ys) (Some zs) bs p q = sym p ∙ q

pub kept_then_grown : (a b c : Option (List ℕ)) (bs : List ℕ) → Keeps a b → Appends b c bs → Appends a c bs
kept_then_grown None b c bs p q = tt
kept_then_grown (Some xs) None c bs p q = absurd p
kept_then_grown (Some xs) (Some ys) None bs p q = absurd q
kept_then_grown (Some xs) (Some ys) (Some zs) bs p q = q ∙ ap (λ (w : List ℕ). w ++ bs) p

pub grown_then_kept : (a b c : Option (List ℕ)) (bs : List ℕ) → Appends a b bs → Keeps b c → Appends a c bs
grown_then_kept None b c bs p q = tt
grown_then_kept (Some xs) None c bs p q = absurd p
grown_then_kept (Some xs) (Some ys) None bs p q = absurd q
grown_then_kept (Some xs) (Some ys) (Some zs) bs p q = q ∙ p

pub kept_grows : (a b : Option (List ℕ)) → Keeps a b → Appends a b []
kept_grows None b p = tt
kept_grows (Some xs) None p = absurd p
kept_grows (Some xs) (Some ys) p = p ∙ sym (append-nil xs)

-- the reader's front is read ahead, where nothing was
pub read_ahead : (a b : Option (List ℕ)) (none front : List ℕ) → none ≡ [] → Consumes a b front → Keeps (prepend_known none a) (prepend_known front b)
read_ahead None b none front e p = tt
read_ahead (Some xs) None none front e p = absurd p
read_ahead (Some xs) (Some ys) none front e p = sym p ∙ sym (ap (λ (w : List ℕ). w ++ xs) e)

-- the front of what was read ahead is handed on
pub handed : (a : Option (List ℕ)) (ahead front rest : List ℕ) → ahead ≡ front ++ rest → Consumes (prepend_known ahead a) (prepend_known rest a) front
handed None ahead front rest e = tt
handed (Some xs) ahead front rest e = ap (λ (w : List ℕ). w ++ xs) e ∙ append_assoc front rest xs

range_empty : (xs : List ℕ) (at end : ℕ) → end ≤ at → slice_range xs at end ≡ []
range_empty xs at end h = let none : end - at ≡ 0 = omega arith in ap (λ (k : ℕ). take k (drop at xs)) none

pub range_front : (xs : List ℕ) (at end n : ℕ) → at + n ≤ end → slice_range xs at end ≡ take n (slice_range xs at end) ++ slice_range xs (at + n) end
range_front xs at end n h =
    let whole : end - at ≡ n + (end - (at + n)) = omega arith in
    let back : drop n (slice_range xs at end) ≡ slice_range xs (at + n) end
    = ap (λ (k : ℕ). drop n (take k (drop at xs))) whole ∙ drop-take n (end - (at + n)) (drop at xs) ∙ ap (take (end - (at + n))) (drop-drop n at xs) in
    sym (take-append-drop n (slice_range xs at end)) ∙ ap (λ (w : List ℕ). take n (slice_range xs at end) ++ w) back

-- a read by the reader itself, where nothing was read ahead
pub straight : (a b : Option (List ℕ)) (xs buf : List ℕ) (at end : ℕ) (answer : Got) → end ≤ at → HandsOn a b buf answer
    → HandsOn (prepend_known (slice_range xs at end) a) (prepend_known (slice_range xs at end) b) buf answer
straight a b xs buf at end answer e h =
    let none : slice_range xs at end ≡ [] = range_empty xs at end e in
    let left : prepend_known (slice_range xs at end) a ≡ a = ap (λ (w : List ℕ). prepend_known w a) none ∙ prepend_known_nil a in
    let right : prepend_known (slice_range xs at end) b ≡ b = ap (λ (w : List ℕ). prepend_known w b) none ∙ prepend_known_nil b in
    subst (λ (x : Option (List ℕ)). HandsOn x (prepend_known (slice_range xs at end) b) buf answer) (sym left) (subst (λ (y : Option (List ℕ)). HandsOn a y buf answer) (sym right) h)
