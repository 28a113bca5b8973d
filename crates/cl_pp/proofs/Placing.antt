-- Where the tokens lie that a run comes to.
use Rattle.std.proofs.Common.{◌≡◌, ℕ, zero, suc, ◌+◌, ◌-◌, ◌<◌, ◌≤◌, Bool, true, false, List, [], ◌∷◌, ◌++◌, Option, Some, None, refl, sym, ap, subst, ◌∙◌, arith, length, map, take, drop, append_assoc, append-nil}
use Rattle.std.proofs.Math.Seq.{drop-nil}
use Rattle.std.specs.Prelude.{if◌then◌else◌, slice_get}
use Rattle.cl_base.specs.declared.macros.Macro.{Macro}
use Rattle.cl_base.specs.declared.token.Kind.{Kind}
use Rattle.cl_base.specs.declared.token.Span.{Span}
use Rattle.cl_macro.specs.declared.word.Word.{Word}
use Rattle.cl_macro.specs.declared.note.Note.{Note}
use Rattle.cl_macro.specs.declared.note.Note.TheVariants as note
use Rattle.cl_macro.specs.declared.part.Part.{Part}
use Rattle.cl_macro.specs.declared.part.Part.TheVariants as part
use Rattle.cl_macro.specs.Rules.{Rules}
use Rattle.cl_macro.specs.Words.{all_look, is_ident, looks, painted, place_of, taken}
use Rattle.cl_macro.specs.Turns.{Turn, Stays, Invokes, Misfits, Open, args_by, args_of, arguments, before_first, called, close_at, close_of, ended, fits, invoking, is_open, meaning, parted, parts, depth_after, set_of, stay_notes, took, took_by, turn, turn_by, turn_of}
use Rattle.cl_macro.specs.Params.{asked, is_needed, needed_from, raws}
use Rattle.cl_macro.specs.Pasting.{Joined, glue, joins, parts_of, spaced, unspaced}
use Rattle.cl_macro.specs.Made.{is_file, is_line, made, made_notes, whole_body}
use Rattle.cl_macro.specs.Replacing.{Works, Each, done, stays, invokes, misfits, open_ended, none, next, end_from}
use Rattle.cl_macro.proofs.Joining.{glued_by, joins_due}
use Rattle.cl_macro.proofs.Shapes.{Nothing, shape}

abbrev pick : Bool → Type 0
pick false = Unit {0}
pick true = ⊥

apart : (b : Bool) → b ≡ false → b ≡ true → ⊥
apart b f t = subst (λ (x : Bool). pick x) (sym f ∙ t) tt

-- ---- tokens that replacement made

abbrev pub AllMade : List Word → Type 0
AllMade [] = Unit {0}
AllMade (w ∷ ws) = (w.given ≡ false) × AllMade ws

abbrev pub EachMade : List (List Word) → Type 0
EachMade [] = Unit {0}
EachMade (arg ∷ args) = AllMade arg × EachMade args

pub append_made : (xs ys : List Word) → AllMade xs → AllMade ys → AllMade (xs ++ ys)
append_made [] ys h k = k
append_made (x ∷ xs) ys h k = (h.0, append_made xs ys h.1 k)

pub drop_made : (n : ℕ) (xs : List Word) → AllMade xs → AllMade (drop n xs)
drop_made zero xs h = h
drop_made (suc n) [] h = h
drop_made (suc n) (x ∷ xs) h = drop_made n xs h.1

take_made : (n : ℕ) (xs : List Word) → AllMade xs → AllMade (take n xs)
take_made zero xs h = tt
take_made (suc n) [] h = tt
take_made (suc n) (x ∷ xs) h = (h.0, take_made n xs h.1)

painted_made : (set : List (List ℕ)) (ws : List Word) → AllMade (map (painted set) ws)
painted_made set [] = tt
painted_made set (w ∷ ws) = (refl, painted_made set ws)

taken_made : (ws : List Word) → AllMade (map taken ws)
taken_made [] = tt
taken_made (w ∷ ws) = (refl, taken_made ws)

pub made_made : (rules : Rules) (m : Macro) (args full : List (List Word)) (space : Bool) (set : List (List ℕ)) → AllMade (made rules m args full space set)
unfolding made
made_made rules m args full space set = painted_made set (spaced space (whole_body rules m args full).words)

if_each : (b : Bool) (xs ys : List (List Word)) → EachMade xs → EachMade ys → EachMade (if b then xs else ys)
if_each true xs ys h k = h
if_each false xs ys h k = k

first_made : (w : Word) (args : List (List Word)) → w.given ≡ false → EachMade args → EachMade (before_first w args)
first_made w [] g h = ((g, tt), tt)
first_made w (arg ∷ args) g h = ((g, h.0), h.1)

parted_made : (depth commas : ℕ) (ws : List Word) → AllMade ws → EachMade (parted depth commas ws)
parted_made depth commas [] h = (tt, tt)
parted_made depth commas (w ∷ ws) h =
    if_each (parts w depth commas) _ _ (tt, parted_made depth (commas - 1) ws h.1) (first_made w _ h.0 (parted_made (depth_after w depth) commas ws h.1))

by_params : (m : Macro) (params : Option (List (List ℕ))) (ws : List Word) → EachMade (args_by m params ws)
by_params m None ws = tt
by_params m (Some params) ws = parted_made 0 (if m.variadic then length params else length (map taken (take (length ws - 2) (drop 1 ws)))) _ (taken_made (take (length ws - 2) (drop 1 ws)))

pub args_made : (m : Macro) (ws : List Word) → EachMade (args_of m ws)
args_made m ws = by_params m m.params ws

one_needed : (b : Bool) (arg : List Word) → AllMade arg → AllMade (if b then arg else [])
one_needed true arg h = h
one_needed false arg h = tt

needed_made : (m : Macro) (raw : Bool) (i : ℕ) (args : List (List Word)) → EachMade args → EachMade (needed_from m raw i args)
needed_made m raw i [] h = tt
needed_made m raw i (arg ∷ args) h = (one_needed (is_needed m raw i) arg h.0, needed_made m raw (i + 1) args h.1)

pub asked_made : (m : Macro) (args : List (List Word)) → EachMade args → EachMade (asked m args)
unfolding asked
asked_made m args h = needed_made m false 0 args h

-- ---- tokens of the run

-- those of the run end between two bytes
abbrev Between : ℕ → ℕ → List Word → Type 0
Between low high [] = Unit {0}
Between low high (w ∷ ws) = (w.given ≡ true → (low ≤ w.token.at.to) × (w.token.at.to ≤ high)) × Between low high ws

module _ (file : ℕ) where
  -- between two bytes of this file one follows the other
  abbrev pub Lie : ℕ → ℕ → List Word → Type 0
  Lie p end [] = p ≤ end
  Lie p end (w ∷ ws) = ((w.given ≡ true) × (w.token.at.file ≡ file)) × (p ≤ w.token.at.from) × (w.token.at.from < w.token.at.to) × Lie w.token.at.to end ws

  pub lie_reach : (p end : ℕ) (ws : List Word) → Lie p end ws → p ≤ end
  lie_reach p end [] h = h
  lie_reach p end (w ∷ ws) h = let r = lie_reach w.token.at.to end ws h.3 in omega (arith, h.1, h.2, r)

  record Cut (p end : ℕ) (ws : List Word) (n : ℕ) : Type 0 where
    seam : ℕ
    start : p ≤ seam
    front : (low : ℕ) → low ≤ p → Between low seam (take n ws)
    back : Lie seam end (drop n ws)

  cut : (p end : ℕ) (ws : List Word) (n : ℕ) → Lie p end ws → Cut p end ws n
  cut p end ws zero h = record { seam = p; start = omega arith; front = λ low l. tt; back = h }
  cut p end [] (suc n) h = record { seam = p; start = omega arith; front = λ low l. tt; back = h }
  cut p end (w ∷ ws) (suc n) h =
      let c = cut w.token.at.to end ws n h.3 in
      let s = c.start in
      record {
        seam = c.seam;
        start = omega (arith, h.1, h.2, s);
        front = λ low l. ((λ g. (omega (arith, h.1, h.2, l), s)), c.front low (omega (arith, h.1, h.2, l)));
        back = c.back;
      }

-- taken from both: none of those that were made counts
both_between : (k n : ℕ) (work rest : List Word) (low high : ℕ) → n ≡ k - length work → AllMade work → Between low high (take n rest) → Between low high (take k (work ++ rest))
both_between k n [] rest low high e m b = let s : n ≡ k = omega arith in subst (λ (i : ℕ). Between low high (take i rest)) s b
both_between zero n (w ∷ work) rest low high e m b = tt
both_between (suc k) n (w ∷ work) rest low high e m b = ((λ g. absurd (apart w.given m.0 g)), both_between k n work rest low high (omega arith) m.1 b)

abbrev no_words : List Word
no_words = []

take_nil : (k : ℕ) → take k no_words ≡ no_words
take_nil zero = refl
take_nil (suc k) = refl

take_both : (k n : ℕ) (work rest : List Word) → n ≡ k - length work → take k (work ++ rest) ≡ take k work ++ take n rest
take_both k n [] rest e = let s : k ≡ n = omega arith in ap (λ (i : ℕ). take i rest) s ∙ ap (λ (ws : List Word). ws ++ take n rest) (sym (take_nil k))
take_both zero n (w ∷ work) rest e = let s : n ≡ 0 = omega arith in ap (λ (i : ℕ). take i rest) (sym s)
take_both (suc k) n (w ∷ work) rest e = ap (λ (ws : List Word). w ∷ ws) (take_both k n work rest (omega arith))

pub take_drop : (n : ℕ) (xs : List Word) → take n xs ++ drop n xs ≡ xs
take_drop zero xs = refl
take_drop (suc n) [] = refl
take_drop (suc n) (x ∷ xs) = ap (λ (ws : List Word). x ∷ ws) (take_drop n xs)

none_left : (k n : ℕ) (work rest : List Word) (x : Word) (xs : List Word) → (x ∷ xs) ≡ drop k work → n ≡ k - length work → n ≡ 0
none_left k n [] rest x xs d e = let s : (x ∷ xs) ≡ [] = d ∙ drop-nil k in let l : suc (length xs) ≡ 0 = ap length s in absurd (omega arith)
none_left zero n (w ∷ work) rest x xs d e = omega arith
none_left (suc k) n (w ∷ work) rest x xs d e = none_left k n work rest x xs d (omega arith)

-- ---- notes that take nothing

abbrev pub Still : List Note → Type 0
Still ns = (to : ℕ) → end_from to ns ≡ to

end_append : (to : ℕ) (xs ys : List Note) → end_from to (xs ++ ys) ≡ end_from (end_from to xs) ys
end_append to [] ys = refl
end_append to (note.Took at ∷ xs) ys = end_append at.to xs ys
end_append to (note.Looked name ∷ xs) ys = end_append to xs ys
end_append to (note.Replaced name spell ∷ xs) ys = end_append to xs ys
end_append to (note.Faulty number at ∷ xs) ys = end_append to xs ys

still_first : (to : ℕ) (xs ys : List Note) → Still xs → end_from to (xs ++ ys) ≡ end_from to ys
still_first to xs ys s = end_append to xs ys ∙ ap (λ (t : ℕ). end_from t ys) (s to)

still_append : (xs ys : List Note) → Still xs → Still ys → Still (xs ++ ys)
still_append xs ys s t to = still_first to xs ys s ∙ t to

if_look : (b : Bool) (name : List ℕ) → Still (if b then note.Looked name ∷ [] else [])
if_look true name to = refl
if_look false name to = refl

looks_still : (w : Word) → Still (looks w)
looks_still w = if_look (is_ident w.token.kind) w.token.text

all_still : (ws : List Word) → Still (all_look ws)
all_still [] to = refl
all_still (w ∷ ws) to = still_append (looks w) (all_look ws) (looks_still w) (all_still ws) to

stay_still : (number : ℕ) (w : Word) (ws : List Word) → Still (stay_notes number w ws)
stay_still number w ws = still_append (looks w) (note.Faulty number (place_of w) ∷ all_look ws) (looks_still w) (all_still ws)

abbrev Quiet : Joined → Type 0
Quiet j = Still j.notes

glued_quiet : (o : List ℕ → Option Kind) (left p : Part) (ps : List Part) (q : Option Part) → ((r : Part) → Quiet (joins o false r ps)) → Quiet (glued_by o left p ps q)
glued_quiet o left p ps (Some q) h = h q
glued_quiet o left p ps None h = λ to. h (unspaced p) to

joins_quiet : (o : List ℕ → Option Kind) (due : Bool) (left : Part) (ps : List Part) → Quiet (joins o due left ps)
joins_quiet o due left [] = λ to. refl
joins_quiet o due left (part.Paste ∷ ps) = joins_quiet o true left ps
joins_quiet o false left (part.Token w ∷ ps) = joins_quiet o false (part.Token w) ps
joins_quiet o false left (part.Marker space ∷ ps) = joins_quiet o false (part.Marker space) ps
joins_quiet o true left (part.Token w ∷ ps) = subst (λ (j : Joined). Quiet j) (sym (joins_due o left (part.Token w) ps tt))
    (glued_quiet o left (part.Token w) ps (glue o left (part.Token w)) (λ r. joins_quiet o false r ps))
joins_quiet o true left (part.Marker space ∷ ps) = subst (λ (j : Joined). Quiet j) (sym (joins_due o left (part.Marker space) ps tt))
    (glued_quiet o left (part.Marker space) ps (glue o left (part.Marker space)) (λ r. joins_quiet o false r ps))

if_quiet : (b : Bool) (j k : Joined) → Quiet j → Quiet k → Quiet (if b then j else k)
if_quiet true j k x y = x
if_quiet false j k x y = y

whole_quiet : (rules : Rules) (m : Macro) (args full : List (List Word)) → Quiet (whole_body rules m args full)
whole_quiet rules m args full = if_quiet (is_file m) _ _ (λ to. refl) (if_quiet (is_line m) _ _ (λ to. refl) (joins_quiet rules.one_token false (part.Marker false) (parts_of m args full false None m.body)))

made_still : (rules : Rules) (m : Macro) (args full : List (List Word)) → Still (made_notes rules m args full)
unfolding made_notes
made_still rules m args full = whole_quiet rules m args full

-- ---- the `)` of an invocation

abbrev Closes : ℕ → ℕ → Option Word → Type 0
Closes low high None = Unit {0}
Closes low high (Some w) = w.given ≡ true → (low ≤ w.token.at.to) × (w.token.at.to ≤ high)

at_closes : (ws : List Word) (i low high : ℕ) → Between low high ws → Closes low high (slice_get ws i)
at_closes [] zero low high b = tt
at_closes [] (suc i) low high b = tt
at_closes (w ∷ ws) zero low high b = b.0
at_closes (w ∷ ws) (suc i) low high b = at_closes ws i low high b.1

took_at : (b : Bool) (at : Span) (to low high : ℕ) → (b ≡ true → (low ≤ at.to) × (at.to ≤ high)) → low ≤ to → to ≤ high
    → (low ≤ end_from to (took_by (if b then Some at else None))) × (end_from to (took_by (if b then Some at else None)) ≤ high)
took_at true at to low high c l h = c refl
took_at false at to low high c l h = (l, h)

took_within : (o : Option Word) (to low high : ℕ) → Closes low high o → low ≤ to → to ≤ high → (low ≤ end_from to (took o)) × (end_from to (took o) ≤ high)
took_within None to low high c l h = (l, h)
took_within (Some w) to low high c l h = took_at w.given w.token.at to low high c l h

-- ---- what an invocation takes stands first

abbrev pub Takes : List Word → Turn → Type 0
Takes more Stays = Unit {0}
Takes more (Invokes m behind) = behind ≡ take (length behind) more
Takes more (Misfits behind) = behind ≡ take (length behind) more
Takes more Open = Unit {0}

take_self : (k : ℕ) (xs : List Word) → take k xs ≡ take (length (take k xs)) xs
take_self zero xs = refl
take_self (suc k) [] = refl
take_self (suc k) (x ∷ xs) = ap (λ (ws : List Word). x ∷ ws) (take_self k xs)

if_takes : (b : Bool) (more : List Word) (x y : Turn) → Takes more x → Takes more y → Takes more (if b then x else y)
if_takes true more x y h k = h
if_takes false more x y h k = k

ended_takes : (m : Macro) (params : ℕ) (p : Word) (ws : List Word) (o : Option ℕ) → Takes (p ∷ ws) (ended m params p ws o)
ended_takes m params p ws None = tt
ended_takes m params p ws (Some n) = if_takes (fits m.variadic params (arguments m.variadic params (take n ws))) (p ∷ ws) _ _ (take_self (n + 2) (p ∷ ws)) (take_self (n + 2) (p ∷ ws))

called_takes : (m : Macro) (params : ℕ) (more : List Word) → Takes more (called m params more)
called_takes m params [] = tt
called_takes m params (p ∷ ws) = if_takes (is_open p) (p ∷ ws) _ _ (ended_takes m params p ws (close_at 0 ws)) tt

by_takes : (m : Macro) (params : Option (List (List ℕ))) (more : List Word) → Takes more (turn_by m params more)
by_takes m None more = refl
by_takes m (Some params) more = called_takes m (length params) more

of_takes : (m : Option Macro) (more : List Word) → Takes more (turn_of m more)
of_takes None more = tt
of_takes (Some m) more = by_takes m m.params more

pub turn_takes : (macros : List ℕ → Option Macro) (w : Word) (more : List Word) (t : Turn) → turn macros w more ≡ t → Takes more t
turn_takes macros w more t e = subst (Takes more) e (of_takes (meaning macros w) more)

-- ---- what the tokens in work come to

module _ (file : ℕ) where
  -- from `to` up to where the last of the run's tokens ends that was taken; what was made stands first, and what is left of
  -- the run lies behind
  pub record Laid (to end : ℕ) (out left : List Word) (ns : List Note) : Type 0 where
    pub front : List Word
    pub back : List Word
    pub all : out ≡ front ++ back
    pub made : AllMade front
    pub seam : ℕ
    pub low : to ≤ end_from to ns
    pub high : end_from to ns ≤ seam
    pub lies : Lie file seam end (back ++ left)

  le_trans : (a b c : ℕ) → a ≤ b → b ≤ c → a ≤ c
  le_trans a b c h k = omega (arith, h, k)

  same_end : (to end : ℕ) (out left : List Word) (ns ms : List Note) (from : ℕ) → end_from to ms ≡ end_from from ns → to ≤ from → (r : Laid from end out left ns) → Laid to end out left ms
  same_end to end out left ns ms from e l r = record {
    front = r.front;
    back = r.back;
    all = r.all;
    made = r.made;
    seam = r.seam;
    low = subst (λ (x : ℕ). to ≤ x) (sym e) (le_trans to from _ l r.low);
    high = subst (λ (x : ℕ). x ≤ r.seam) (sym e) r.high;
    lies = r.lies;
  }

  put_first : (to end : ℕ) (ws out left : List Word) (ns : List Note) → AllMade ws → Laid to end out left ns → Laid to end (ws ++ out) left ns
  put_first to end ws out left ns m r = record {
    front = ws ++ r.front;
    back = r.back;
    all = ap (λ (xs : List Word). ws ++ xs) r.all ∙ sym (append_assoc ws r.front r.back);
    made = append_made ws r.front m r.made;
    seam = r.seam;
    low = r.low;
    high = r.high;
    lies = r.lies;
  }

  -- nothing of a run was taken where there was none
  alone : (to : ℕ) (out : List Word) (ns : List Note) → Laid to to out [] ns → end_from to ns ≡ to
  alone to out ns r = let x = lie_reach file r.seam to (r.back ++ []) r.lies in let lo = r.low in let hi = r.high in omega (arith, x, lo, hi)

  module _ (rules : Rules) where
    -- an invocation with the wrong number of arguments stays, and takes tokens of the run only where nothing is in work
    -- behind it
    misfit_by : (ws : List Word) (w : Word) (work rest behind out left : List Word) (ns : List Note) (to p end k n : ℕ) → ws ≡ drop k work → n ≡ k - length work
        → behind ≡ take k (work ++ rest) → AllMade (w ∷ work) → Lie file p end rest → to ≤ p
        → (Lie file p end (drop n rest) → Laid to end out left ns) → Works rules ws (drop n rest) out left ns → Laid to end (w ∷ (behind ++ out)) left ns
    misfit_by [] w work rest behind out left ns to p end k n d e b m h l r x =
        let s : Nothing rules (drop n rest) out left ns = shape rules x in
        let t : end_from to ns ≡ to = ap (end_from to) s.notes in
        let word : behind ≡ take k work ++ take n rest = b ∙ take_both k n work rest e in
        record {
          front = w ∷ take k work;
          back = take n rest;
          all = ap (λ (xs : List Word). w ∷ (xs ++ out)) word ∙ ap (λ (xs : List Word). w ∷ ((take k work ++ take n rest) ++ xs)) s.words ∙ ap (λ (xs : List Word). w ∷ xs) (append-nil (take k work ++ take n rest));
          made = (m.0, take_made k work m.1);
          seam = p;
          low = subst (λ (x : ℕ). to ≤ x) (sym t) (omega arith);
          high = subst (λ (x : ℕ). x ≤ p) (sym t) l;
          lies = subst (Lie file p end) (sym (ap (λ (xs : List Word). take n rest ++ xs) s.all ∙ take_drop n rest)) h;
        }
    misfit_by (y ∷ ys) w work rest behind out left ns to p end k n d e b m h l r x =
        let z : n ≡ 0 = none_left k n work rest y ys d e in
        let word : behind ≡ take k work = b ∙ take_both k n work rest e ∙ ap (λ (i : ℕ). take k work ++ take i rest) z ∙ append-nil (take k work) in
        put_first to end (w ∷ behind) out left ns (m.0, subst AllMade (sym word) (take_made k work m.1)) (r (subst (λ (i : ℕ). Lie file p end (drop i rest)) (sym z) h))

    -- an invocation, by what its arguments and what it makes come to
    pub invoked_laid : (w : Word) (work rest : List Word) (mac : Macro) (behind : List Word) (full : List (List Word)) (inner : List Note) (out left : List Word) (ns : List Note)
        → turn rules.macros w (work ++ rest) ≡ Invokes mac behind → Still inner → AllMade work → (to p end : ℕ) → Lie file p end rest → to ≤ p
        → ((from q : ℕ) → Lie file q end (drop (length behind - length work) rest) → from ≤ q → Laid from end out left ns)
        → Laid to end out left (invoking w behind ++ (inner ++ (made_notes rules mac (raws mac (args_of mac behind)) full ++ ns)))
    invoked_laid w work rest mac behind full inner out left ns t i m to p end h l r =
        let n : ℕ = length behind - length work in
        let c = cut file p end rest n h in
        let b : Between to c.seam behind = subst (Between to c.seam) (sym (turn_takes rules.macros w (work ++ rest) (Invokes mac behind) t)) (both_between (length behind) n work rest to c.seam refl m (c.front to l)) in
        let x = took_within (close_of behind) to to c.seam (at_closes behind (length behind - 1) to c.seam b) (omega arith) (le_trans to p c.seam l c.start) in
        let from : ℕ = end_from to (took (close_of behind)) in
        let notes : List Note = made_notes rules mac (raws mac (args_of mac behind)) full in
        let ends : end_from to (took (close_of behind) ++ (inner ++ (notes ++ ns))) ≡ end_from from ns =
        end_append to (took (close_of behind)) (inner ++ (notes ++ ns)) ∙ still_first from inner (notes ++ ns) i ∙ still_first from notes ns (made_still rules mac (raws mac (args_of mac behind)) full) in
        same_end to end out left ns _ from ends x.0 (r from c.seam c.back x.1)

    mutual
      pub laid : {work rest out left : List Word} {ns : List Note} → Works rules work rest out left ns → AllMade work → (to p end : ℕ) → Lie file p end rest → to ≤ p → Laid to end out left ns
      laid (done rest) m to p end h l = record { front = []; back = []; all = refl; made = tt; seam = p; low = omega arith; high = l; lies = h }
      laid (stays w work rest out left ns t d) m to p end h l =
          same_end to end _ left ns _ to (still_first to (looks w) ns (looks_still w)) (omega arith) (put_first to end (w ∷ []) out left ns (m.0, tt) (laid d m.1 to p end h l))
      laid (invokes w work rest mac behind full inner out left ns t a d) m to p end h l =
          invoked_laid w work rest mac behind full inner out left ns t (each_still a (asked_made mac (args_of mac behind) (args_made mac behind))) m.1 to p end h l
          (λ from q lie e. laid d (append_made _ (drop (length behind) work) (made_made rules mac (raws mac (args_of mac behind)) full w.token.space (set_of w behind)) (drop_made (length behind) work m.1)) from q end lie e)
      laid (misfits w work rest behind out left ns t d) m to p end h l =
          let k : ℕ = length behind in
          let n : ℕ = length behind - length work in
          same_end to end _ left ns _ to (still_first to (stay_notes 19 w behind) ns (stay_still 19 w behind)) (omega arith)
          (misfit_by (drop k work) w work rest behind out left ns to p end k n refl refl (turn_takes rules.macros w (work ++ rest) (Misfits behind) t) m h l
          (λ b. laid d (drop_made k work m.1) to p end b l) d)
      laid (open_ended w work rest t) m to p end h l =
          let s : end_from to (stay_notes 20 w (work ++ rest)) ≡ to = stay_still 20 w (work ++ rest) to in
          record {
            front = w ∷ work;
            back = rest;
            all = refl;
            made = m;
            seam = p;
            low = subst (λ (x : ℕ). to ≤ x) (sym s) (omega arith);
            high = subst (λ (x : ℕ). x ≤ p) (sym s) l;
            lies = subst (Lie file p end) (sym (append-nil rest)) h;
          }

      pub each_still : {args full : List (List Word)} {ns : List Note} → Each rules args full ns → EachMade args → Still ns
      each_still none m = λ to. refl
      each_still (next arg out args outs ns ms d e) m = still_append ns ms (λ to. alone to out ns (laid d m.0 to to to (omega arith) (omega arith))) (each_still e m.1)
