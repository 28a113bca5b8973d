-- What bytes begin with, as a reader finds it: one byte more of a header, and what may stand after it.
use Rattle.std.proofs.Common.{◌≡◌, ◌≢◌, ◌<◌, ◌≤◌, get_or, length, arith, ℕ, ◌+◌, ◌-◌, ◌*◌, List, [], ◌∷◌, ◌++◌, take, drop, false, refl, sym, ◌∙◌, ap, add-one, codes, append-nil, append_assoc, length-append, length-take, subst, ◌^◌, Option, Some, None, inl, inr}
use Rattle.std.proofs.Math.Seq.{drop-cons, drop-length, drop-append_seam, take-append_seam, take-append-add}
use Rattle.std.proofs.lemmas.Bool.{eq-eqb, ne_eqb, le-leb, lt-leb, lt-ltb, le-ltb}
use Rattle.std.specs.Io.KnownBytes.{IsAtEnd, prepend_known}
use Rattle.cl_frames.proofs.Known.{prepend_known_append, prepend_known_nil}
use Rattle.cl_frames.specs.Reading.{IsStage, stage_size, from_stage, StepsTo, TakesHeader, TakesBody, TellsBody}
use Rattle.cl_frames.specs.declared.header.Stage.{Stage}
use Rattle.cl_frames.specs.declared.header.Stage.TheVariants as stage
use Rattle.cl_frames.specs.declared.header.Step.{Step}
use Rattle.cl_frames.specs.declared.header.Step.TheVariants as step
use Rattle.cl_frames.specs.declared.header.Header.TheVariants as header
use Rattle.cl_frames.specs.declared.frame.Frame.{Frame}
use Rattle.cl_frames.specs.declared.frame.Frame.TheVariants.{Body, End, Bad, Failed, Long, Memory}
use Rattle.cl_frames.specs.Frames.{First, whole, cut, wrong, after, length_from, body_from, first, is_digit, window, Tells, ReadsFrame, last_of}

-- ---- one byte more of what must stand there

after_like : (a b : ℕ) (front : List ℕ) (next : List ℕ → First) (rest : List ℕ) → b ≡ a → after (a ∷ front) next (b ∷ rest) ≡ after front next rest
unfolding after
after_like a b front next rest e = rw (eq-eqb b a e) refl

after_unlike : (a b : ℕ) (front : List ℕ) (next : List ℕ → First) (rest : List ℕ) → b ≢ a → after (a ∷ front) next (b ∷ rest) ≡ wrong
unfolding after
after_unlike a b front next rest n = rw (ne_eqb b a n) refl

pub after_same : (front : List ℕ) (at b : ℕ) (next : List ℕ → First) (rest : List ℕ) → at < length front → b ≡ get_or front at 0
    → after (drop at front) next (b ∷ rest) ≡ after (drop (at + 1) front) next rest
after_same front at b next rest h e =
    ap (λ (w : List ℕ). after w next (b ∷ rest)) (drop-cons front at 0 h) ∙ after_like _ b _ next rest e
    ∙ ap (λ (n : ℕ). after (drop n front) next rest) (sym (add-one at))

pub after_other : (front : List ℕ) (at b : ℕ) (next : List ℕ → First) (rest : List ℕ) → at < length front → b ≢ get_or front at 0
    → after (drop at front) next (b ∷ rest) ≡ wrong
after_other front at b next rest h n = ap (λ (w : List ℕ). after w next (b ∷ rest)) (drop-cons front at 0 h) ∙ after_unlike _ b _ next rest n

-- the last byte of what must stand there
pub after_last : (front : List ℕ) (at b : ℕ) (next : List ℕ → First) (rest : List ℕ) → at + 1 ≡ length front → b ≡ get_or front at 0
    → after (drop at front) next (b ∷ rest) ≡ next rest
unfolding after
after_last front at b next rest h e =
    let within : at < length front = omega arith in
    after_same front at b next rest within e ∙ ap (λ (n : ℕ). after (drop n front) next rest) h ∙ ap (λ (w : List ℕ). after w next rest) (drop-length front)

-- bytes that end before all of it stands there
pub after_end : (front : List ℕ) (at : ℕ) (next : List ℕ → First) → at < length front → after (drop at front) next [] ≡ cut
unfolding after
after_end front at next h = ap (λ (w : List ℕ). after w next []) (drop-cons front at 0 h)

-- ---- one byte more of a length

pub digit_more : (digits value b : ℕ) (rest : List ℕ) → 48 ≤ b → b ≤ 57 → digits < 8 → value * 10 + (b - 48) ≤ 67108864
    → length_from digits value (b ∷ rest) ≡ length_from (digits + 1) (value * 10 + (b - 48)) rest
unfolding length_from
digit_more digits value b rest lo hi d v = rw (le-leb 48 b lo, le-leb b 57 hi, lt-ltb digits 8 d, le-leb _ 67108864 v) refl

pub digit_ninth : (digits value b : ℕ) (rest : List ℕ) → 48 ≤ b → b ≤ 57 → 8 ≤ digits → length_from digits value (b ∷ rest) ≡ wrong
unfolding length_from
digit_ninth digits value b rest lo hi d = rw (le-leb 48 b lo, le-leb b 57 hi, le-ltb digits 8 d) refl

pub digit_beyond : (digits value b : ℕ) (rest : List ℕ) → 48 ≤ b → b ≤ 57 → digits < 8 → 67108864 < value * 10 + (b - 48)
    → length_from digits value (b ∷ rest) ≡ wrong
unfolding length_from
digit_beyond digits value b rest lo hi d v = rw (le-leb 48 b lo, le-leb b 57 hi, lt-ltb digits 8 d, lt-leb _ 67108864 v) refl

pub no_digit : (digits value b : ℕ) (rest : List ℕ) → is_digit b ≡ false → digits ≡ 0 → length_from digits value (b ∷ rest) ≡ wrong
unfolding length_from
no_digit digits value b rest n z = rw (n, eq-eqb digits 0 z) refl

pub digits_end : (digits value b : ℕ) (rest : List ℕ) → is_digit b ≡ false → digits ≢ 0
    → length_from digits value (b ∷ rest) ≡ after (drop 0 (codes "\r\n\r\n")) (body_from digits value) (b ∷ rest)
unfolding length_from
digits_end digits value b rest n z = rw (n, ne_eqb digits 0 z) refl

-- the ending begins where the digits end
pub length_ends : (digits value b : ℕ) (result : Step) → is_digit b ≡ false → digits ≢ 0 → StepsTo (stage.Ending 0 digits value) b result
    → StepsTo (stage.Length digits value) b result
length_ends digits value b (step.More new) n z p = (p.0, omega (arith, p.1), λ rest. digits_end digits value b rest n z ∙ p.2 rest)
length_ends digits value b (step.Whole d size) n z p = (p.0, omega (arith, p.1), λ rest. digits_end digits value b rest n z ∙ p.2 rest)
length_ends digits value b step.Wrong n z p = λ rest. digits_end digits value b rest n z ∙ p rest

-- a stage is a part of what may become a frame
stage_cut : (s : Stage) → IsStage s → from_stage s [] ≡ cut
unfolding length_from
stage_cut (stage.Name at) h = after_end (codes "Content-Length: ") at (length_from 0 0) h
stage_cut (stage.Length digits value) h = refl
stage_cut (stage.Ending at digits value) h = after_end (codes "\r\n\r\n") at (body_from digits value) h.0

no_length : (front : List ℕ) → length front ≡ 0 → front ≡ []
no_length [] e = refl
no_length (x ∷ front) e = let bad : ⊥ = omega arith in absurd bad

-- ---- a header that is being read

-- `now - at` bytes of a header were taken, and they stand for a stage
pub record Stands (at now : ℕ) (old new : Option (List ℕ)) (s : Stage) : Type 0 where
  pub front : List ℕ
  pub read : old ≡ prepend_known front new
  pub now_is : now ≡ at + length front
  pub below : now < 2 ^ 40
  pub is_stage : IsStage s
  pub size : stage_size s ≡ length front
  pub goes : (rest : List ℕ) → first (front ++ rest) ≡ from_stage s rest

pub stands_first : (at : ℕ) (a : Option (List ℕ)) → at < 2 ^ 40 → Stands at at a a (stage.Name 0)
unfolding first
stands_first at a h =
    record { front = []; read = sym (prepend_known_nil a); now_is = omega arith; below = h; is_stage = omega arith; size = refl; goes = λ rest. refl }

stands_cut : (at now : ℕ) (a b : Option (List ℕ)) (s : Stage) (p : Stands at now a b s) → first p.front ≡ cut
stands_cut at now a b s p = ap first (sym (append-nil p.front)) ∙ p.goes [] ∙ stage_cut s p.is_stage

-- one byte more
pushed : (at now x : ℕ) (a b c : Option (List ℕ)) (s : Stage) (p : Stands at now a b s) → b ≡ prepend_known (x ∷ []) c → a ≡ prepend_known (p.front ++ x ∷ []) c
pushed at now x a b c s p q = p.read ∙ ap (prepend_known p.front) q ∙ prepend_known_append c p.front (x ∷ [])

longer : (front : List ℕ) (x : ℕ) → length (front ++ x ∷ []) ≡ length front + 1
longer front x = length-append front (x ∷ [])

pushed_first : (at now x : ℕ) (a b : Option (List ℕ)) (s : Stage) (p : Stands at now a b s) (rest : List ℕ) → first ((p.front ++ x ∷ []) ++ rest) ≡ from_stage s (x ∷ rest)
pushed_first at now x a b s p rest = ap first (append_assoc p.front (x ∷ []) rest) ∙ p.goes (x ∷ rest)

pub header_more : (at now x : ℕ) (a b c : Option (List ℕ)) (s t : Stage) → Stands at now a b s → b ≡ prepend_known (x ∷ []) c → now + 1 ≢ 2 ^ 40
    → StepsTo s x (step.More t) → Stands at (now + 1) a c t
header_more at now x a b c s t p q n to = record {
  front = p.front ++ x ∷ [];
  read = pushed at now x a b c s p q;
  now_is = omega (arith, longer p.front x, p.now_is);
  below = omega (arith, p.below);
  is_stage = to.0;
  size = omega (arith, longer p.front x, p.size, to.1);
  goes = λ rest. pushed_first at now x a b s p rest ∙ to.2 rest;
}

pub header_whole : (at now x : ℕ) (a b c : Option (List ℕ)) (s : Stage) (digits size : ℕ) → Stands at now a b s → b ≡ prepend_known (x ∷ []) c → now + 1 ≢ 2 ^ 40
    → StepsTo s x (step.Whole digits size) → TakesHeader at (now + 1) a c (header.Whole digits size)
header_whole at now x a b c s digits size p q n to = record {
  front = p.front ++ x ∷ [];
  read = pushed at now x a b c s p q;
  now_is = omega (arith, longer p.front x, p.now_is);
  tells = (omega (arith, p.below), to.0, omega (arith, longer p.front x, p.size, to.1), λ rest. pushed_first at now x a b s p rest ∙ to.2 rest);
}

pub header_wrong : (at now x : ℕ) (a b c : Option (List ℕ)) (s : Stage) → Stands at now a b s → b ≡ prepend_known (x ∷ []) c → now + 1 ≢ 2 ^ 40
    → StepsTo s x step.Wrong → TakesHeader at (now + 1) a c header.Wrong
header_wrong at now x a b c s p q n to = record {
  front = p.front ++ x ∷ [];
  read = pushed at now x a b c s p q;
  now_is = omega (arith, longer p.front x, p.now_is);
  tells = (omega (arith, p.below), λ rest. pushed_first at now x a b s p rest ∙ to rest);
}

pub header_long : (at now x : ℕ) (a b c : Option (List ℕ)) (s : Stage) → Stands at now a b s → b ≡ prepend_known (x ∷ []) c → now + 1 ≡ 2 ^ 40
    → TakesHeader at (now + 1) a c header.Long
header_long at now x a b c s p q e = record {
  front = p.front ++ x ∷ [];
  read = pushed at now x a b c s p q;
  now_is = omega (arith, longer p.front x, p.now_is);
  tells = (e, (p.front, x, refl, stands_cut at now a b s p));
}

pub header_end : (at now : ℕ) (a b c : Option (List ℕ)) (s : Stage) → Stands at now a b s → c ≡ b → IsAtEnd b → now ≡ at → TakesHeader at now a c header.End
header_end at now a b c s p q e n = record {
  front = p.front;
  read = p.read ∙ ap (prepend_known p.front) (sym q);
  now_is = p.now_is;
  tells = (p.below, no_length p.front (omega (arith, p.now_is)), subst IsAtEnd (sym q) e);
}

pub header_short : (at now : ℕ) (a b c : Option (List ℕ)) (s : Stage) → Stands at now a b s → c ≡ b → IsAtEnd b → now ≢ at → TakesHeader at now a c header.Short
header_short at now a b c s p q e n = record {
  front = p.front;
  read = p.read ∙ ap (prepend_known p.front) (sym q);
  now_is = p.now_is;
  tells = (p.below, λ nil. n (omega (arith, p.now_is, ap length nil)), subst IsAtEnd (sym q) e, stands_cut at now a b s p);
}

pub header_failed : (at now : ℕ) (a b c : Option (List ℕ)) (s : Stage) → Stands at now a b s → c ≡ b → TakesHeader at now a c header.Failed
header_failed at now a b c s p q = record {
  front = p.front;
  read = p.read ∙ ap (prepend_known p.front) (sym q);
  now_is = p.now_is;
  tells = (p.below, stands_cut at now a b s p);
}

-- ---- a whole read, of bytes that the source tells

-- what a read took and left, from the bytes that were taken
reads_by : (at now : ℕ) (taken bytes : List ℕ) (left : Option (List ℕ)) (answer : Frame) → Some bytes ≡ prepend_known taken left → now ≡ at + length taken
    → ((rest : List ℕ) → left ≡ Some rest → bytes ≡ taken ++ rest → Tells at bytes (length taken) answer) → ReadsFrame at now bytes left answer
reads_by at now taken bytes None answer e n tells = let bad : ⊥ = cc in absurd bad
reads_by at now taken bytes (Some rest) answer e n tells =
    let all : bytes ≡ taken ++ rest = cc in
    record {
      count = length taken;
      within = omega (arith, ap length all, length-append taken rest);
      left_is = ap Some (sym (ap (drop (length taken)) all ∙ drop-append_seam taken rest));
      now_is = n;
      tells = tells rest refl all;
    }

at_end : (left : Option (List ℕ)) (rest : List ℕ) → IsAtEnd left → left ≡ Some rest → rest ≡ []
at_end left rest h e = subst IsAtEnd e h

all_of : (bytes taken rest : List ℕ) → bytes ≡ taken ++ rest → rest ≡ [] → bytes ≡ taken
all_of bytes taken rest e n = e ∙ ap (λ (w : List ℕ). taken ++ w) n ∙ append-nil taken

-- what was taken stands in the window whole
in_window : (at now : ℕ) (taken rest : List ℕ) → now ≡ at + length taken → now < 2 ^ 40 → window at (taken ++ rest) ≡ taken ++ take (2 ^ 40 - 1 - now) rest
in_window at now taken rest n h =
    let same : 2 ^ 40 - 1 - at ≡ length taken + (2 ^ 40 - 1 - now) = omega arith in
    ap (λ (k : ℕ). take k (taken ++ rest)) same ∙ take-append-add taken rest (2 ^ 40 - 1 - now)

pub reads_end : (at now : ℕ) (a b : Option (List ℕ)) (bytes : List ℕ) → TakesHeader at now a b header.End → a ≡ Some bytes → ReadsFrame at now bytes b End
reads_end at now a b bytes p e =
    reads_by at now p.front bytes b End (sym e ∙ p.read) p.now_is
    (λ rest l all. all_of bytes p.front rest all (at_end b rest p.tells.2 l) ∙ p.tells.1)

pub reads_short : (at now : ℕ) (a b : Option (List ℕ)) (bytes : List ℕ) → TakesHeader at now a b header.Short → a ≡ Some bytes → ReadsFrame at now bytes b (Bad at)
reads_short at now a b bytes p e =
    reads_by at now p.front bytes b (Bad at) (sym e ∙ p.read) p.now_is
    (λ rest l all. let same : bytes ≡ p.front = all_of bytes p.front rest all (at_end b rest p.tells.2 l) in (
      refl,
      inr (record {
        some = λ nil. p.tells.1 (sym same ∙ nil);
        part = ap first same ∙ p.tells.3;
        all = sym (ap length same);
        room = omega (arith, ap length same, p.now_is, p.tells.0);
      }),
    ))

pub reads_wrong : (at now : ℕ) (a b : Option (List ℕ)) (bytes : List ℕ) → TakesHeader at now a b header.Wrong → a ≡ Some bytes → ReadsFrame at now bytes b (Bad at)
reads_wrong at now a b bytes p e =
    reads_by at now p.front bytes b (Bad at) (sym e ∙ p.read) p.now_is
    (λ rest l all. (refl, inl (ap (λ (w : List ℕ). first (window at w)) all ∙ ap first (in_window at now p.front rest p.now_is p.tells.0) ∙ p.tells.1 (take (2 ^ 40 - 1 - now) rest))))

pub reads_failed : (at now : ℕ) (a b : Option (List ℕ)) (bytes : List ℕ) → TakesHeader at now a b header.Failed → a ≡ Some bytes → ReadsFrame at now bytes b Failed
reads_failed at now a b bytes p e =
    reads_by at now p.front bytes b Failed (sym e ∙ p.read) p.now_is
    (λ rest l all. ap (λ (w : List ℕ). first (take (length p.front) w)) all ∙ ap first (take-append_seam p.front rest) ∙ p.tells.1)

-- the window ends before the last byte that was taken
long_window : (at : ℕ) (before rest : List ℕ) (x : ℕ) → at + (length before + 1) ≡ 2 ^ 40 → window at ((before ++ x ∷ []) ++ rest) ≡ before
long_window at before rest x n =
    let same : 2 ^ 40 - 1 - at ≡ length before = omega arith in
    ap (λ (k : ℕ). take k ((before ++ x ∷ []) ++ rest)) same ∙ ap (take (length before)) (append_assoc before (x ∷ []) rest) ∙ take-append_seam before (x ∷ rest)

pub reads_long : (at now : ℕ) (a b : Option (List ℕ)) (bytes : List ℕ) → TakesHeader at now a b header.Long → a ≡ Some bytes → ReadsFrame at now bytes b Long
reads_long at now a b bytes p e =
    reads_by at now p.front bytes b Long (sym e ∙ p.read) p.now_is
    (λ rest l all. let last = p.tells.1 in (
      ap (λ (w : List ℕ). first (window at w)) (all ∙ ap (λ (w : List ℕ). w ++ rest) last.2)
          ∙ ap first (long_window at last.0 rest last.1 (omega (arith, p.now_is, p.tells.0, ap length last.2, longer last.0 last.1)))
          ∙ last.3,
      omega (arith, p.now_is, p.tells.0),
    ))

-- ---- and its body

pub body_whole : (digits size : ℕ) (part more : List ℕ) → length part ≡ size → body_from digits size (part ++ more) ≡ whole part (20 + digits + size)
body_whole digits size part more n =
    let room : size ≤ length (part ++ more) = omega (arith, length-append part more) in
    let front : take size (part ++ more) ≡ part = ap (λ (k : ℕ). take k (part ++ more)) (sym n) ∙ take-append_seam part more in
    rw (le-leb size (length (part ++ more)) room) (ap (λ (w : List ℕ). whole w (20 + digits + size)) front)

body_cut : (digits size : ℕ) (part : List ℕ) → length part < size → body_from digits size part ≡ cut
body_cut digits size part n = rw (lt-leb size (length part) n) refl

body_tells : (offset at mid now size digits : ℕ) (front part rest bytes : List ℕ) (c : Option (List ℕ)) (answer : Frame) → offset ≡ at
    → mid ≡ at + length front → now ≡ mid + length part → now ≡ at + length (front ++ part)
    → (mid < 2 ^ 40) × (size ≤ 67108864) × (20 + digits ≡ length front) × ((more : List ℕ) → first (front ++ more) ≡ body_from digits size more)
    → TellsBody offset size part now c answer → c ≡ Some rest → bytes ≡ (front ++ part) ++ rest → Tells at bytes (length (front ++ part)) answer
body_tells offset at mid now size digits front part rest bytes c (Body text) o m n k p q l all =
    let more = take (2 ^ 40 - 1 - now) rest in
    let size_is : 20 + digits + size ≡ length (front ++ part) = omega (arith, p.2, q.2, length-append front part) in
    ap (λ (w : List ℕ). first (window at w)) all ∙ ap first (in_window at now (front ++ part) rest k q.0 ∙ append_assoc front part more)
    ∙ p.3 (part ++ more) ∙ body_whole digits size part more q.2 ∙ ap (λ (w : List ℕ). whole w (20 + digits + size)) q.1 ∙ ap (whole text) size_is
body_tells offset at mid now size digits front part rest bytes c End o m n k p q l all = absurd q
body_tells offset at mid now size digits front part rest bytes c (Bad place) o m n k p q l all =
    let same : bytes ≡ front ++ part = all_of bytes (front ++ part) rest all (at_end c rest q.3 l) in (
      q.1 ∙ o,
      inr (record {
        some = λ nil. let bad : ⊥ = omega (arith, p.2, length-append front part, ap length (sym same ∙ nil)) in absurd bad;
        part = ap first same ∙ p.3 part ∙ body_cut digits size part q.2;
        all = sym (ap length same);
        room = omega (arith, ap length same, k, q.0);
      }),
    )
body_tells offset at mid now size digits front part rest bytes c Failed o m n k p q l all =
    ap (λ (w : List ℕ). first (take (length (front ++ part)) w)) all ∙ ap first (take-append_seam (front ++ part) rest) ∙ p.3 part ∙ body_cut digits size part q.1
body_tells offset at mid now size digits front part rest bytes c Long o m n k p q l all =
    let more = take (2 ^ 40 - 1 - mid) (part ++ rest) in
    let few : length more < size = omega (arith, length-take (2 ^ 40 - 1 - mid) (part ++ rest), n, p.0, q.0, q.1) in (
      ap (λ (w : List ℕ). first (window at w)) (all ∙ append_assoc front part rest) ∙ ap first (in_window at mid front (part ++ rest) m p.0)
          ∙ p.3 more ∙ body_cut digits size more few,
      omega (arith, k, q.0),
    )
body_tells offset at mid now size digits front part rest bytes c Memory o m n k p q l all = tt

-- how many bytes were taken once an answer is there
pub body_room : (offset size at now : ℕ) (a b : Option (List ℕ)) (answer : Frame) → TakesBody offset size at now a b answer → now ≤ 2 ^ 40
body_room offset size at now a b (Body text) p = omega (arith, p.tells.0)
body_room offset size at now a b End p = absurd p.tells
body_room offset size at now a b (Bad place) p = omega (arith, p.tells.0)
body_room offset size at now a b Failed p = omega (arith, p.tells.0)
body_room offset size at now a b Long p = omega (arith, p.tells.0)
body_room offset size at now a b Memory p = p.tells

pub body_goes_on : (offset size at now : ℕ) (a b : Option (List ℕ)) (answer : Frame) → TakesBody offset size at now a b answer → last_of answer ≡ None → now < 2 ^ 40
body_goes_on offset size at now a b (Body text) p e = p.tells.0
body_goes_on offset size at now a b End p e = absurd p.tells
body_goes_on offset size at now a b (Bad place) p e = let bad : ⊥ = cc in absurd bad
body_goes_on offset size at now a b Failed p e = let bad : ⊥ = cc in absurd bad
body_goes_on offset size at now a b Long p e = let bad : ⊥ = cc in absurd bad
body_goes_on offset size at now a b Memory p e = let bad : ⊥ = cc in absurd bad

pub reads_body : (offset at mid now size digits : ℕ) (a b c : Option (List ℕ)) (bytes : List ℕ) (answer : Frame) → offset ≡ at
    → TakesHeader at mid a b (header.Whole digits size) → TakesBody offset size mid now b c answer → a ≡ Some bytes → ReadsFrame at now bytes c answer
reads_body offset at mid now size digits a b c bytes answer o p q e =
    let taken : List ℕ = p.front ++ q.part in
    let count : now ≡ at + length taken = omega (arith, p.now_is, q.now_is, length-append p.front q.part) in
    reads_by at now taken bytes c answer (sym e ∙ p.read ∙ ap (prepend_known p.front) q.read ∙ prepend_known_append c p.front q.part) count
    (λ rest l all. body_tells offset at mid now size digits p.front q.part rest bytes c answer o p.now_is q.now_is count p.tells q.tells l all)
