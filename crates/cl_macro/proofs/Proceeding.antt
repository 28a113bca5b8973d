-- The steps over the invocations in work, as the code keeps them.
use Rattle.std.proofs.Common.{length-drop, ◌≡◌, ℕ, ◌+◌, ◌≤◌, ◌<◌, List, [], ◌∷◌, ◌++◌, length, drop, take, map, reverse, ◌≢◌, Option, Some, None, refl, sym, ap, subst, ◌∙◌, arith, append_assoc}
use Rattle.std.proofs.lemmas.Grind.{common_steps}
use Rattle.cl_base.specs.declared.token.Span.{Span}
use Rattle.cl_base.specs.Lent.{lent_value}
use Rattle.cl_macro.specs.Rules.{Rules}
use Rattle.cl_macro.specs.declared.word.Word.{Word}
use Rattle.cl_macro.specs.declared.note.Note.{Note}
use Rattle.cl_macro.specs.declared.level.Level.{Level}
use Rattle.cl_macro.specs.declared.pending.Pending.{Pending}
use Rattle.cl_macro.specs.declared.machine.Whole.{Whole}
use Rattle.cl_macro.specs.declared.walk.Invoked.{Invoked}
use Rattle.cl_macro.specs.Turns.{invoking, close_of, took, took_by}
use Rattle.cl_macro.specs.Words.{place_of, fresh}
use Rattle.cl_macro.specs.Replacing.{Works, replacements, done}
use Rattle.cl_macro.specs.Levels.{ahead, Invoking, Ended, rest_of}
use Rattle.cl_macro.specs.Walks.{Frame, Leads, working, between, with_done, with_waiting, made_of, notes_of, Outside, Goes}
use Rattle.cl_macro.specs.Frames.{Closed, Short, Proceeds, Runs, Finds, Ends, Replaced, at_level, begun_at, frame_of, frames}
use Rattle.cl_macro.specs.Outermost.{Wholly, Reached}
use Rattle.cl_macro.proofs.Walking.{append_nil}
use Rattle.cl_macro.proofs.Leading.{leads_none, leads_then, leads_walks, leads_invokes, leads_ends, leads_next, leads_closes}
use Rattle.cl_macro.proofs.Standing.{replacements_more, drop_none}

pub reverse_push : (calls : List Pending) (p : Pending) → frames (calls ++ p ∷ []) ≡ frame_of p ∷ frames calls
reverse_push calls p = ap (map frame_of) (let e : reverse (calls ++ p ∷ []) ≡ p ∷ reverse calls = grind (arith, common_steps) in e)

pub pushed_frames : (calls calls2 : List Pending) (p : Pending) → calls2 ≡ calls ++ p ∷ [] → frames calls2 ≡ frame_of p ∷ frames calls
pushed_frames calls calls2 p e = ap frames e ∙ reverse_push calls p

abbrev pub with_all : Frame → List (List Word) → Frame
with_all f full = record {
  mac = f.mac;
  space = f.space;
  set = f.set;
  args = f.args;
  done = full;
  waiting = f.waiting;
  work = f.work;
  rest = f.rest;
  out = f.out;
}

pub reverse_last : {A : Type 0} (all xs : List A) (x : A) → all ≡ xs ++ x ∷ [] → reverse all ≡ x ∷ reverse xs
reverse_last all xs x e = ap reverse e ∙ (let h : reverse (xs ++ x ∷ []) ≡ x ∷ reverse xs = grind (arith, common_steps) in h)

pub reverse_twice : (all xs : List Word) → all ≡ reverse xs → reverse all ≡ xs
reverse_twice all xs e = ap reverse e ∙ (let h : reverse (reverse xs) ≡ xs = grind (arith, common_steps) in h)

took_none : (o : Option Span) → replacements (took_by o) ≡ 0
took_none None = refl
took_none (Some at) = refl

took_zero : (o : Option Word) → replacements (took o) ≡ 0
took_zero None = refl
took_zero (Some close) = took_none (place_of close)

pub invoking_one : (w : Word) (ws : List Word) → replacements (invoking w ws) ≡ 1
invoking_one w ws = let t = took_zero (close_of ws) in let e : replacements (invoking w ws) ≡ 0 + (1 + replacements (took (close_of ws))) = refl in omega arith

pub le_trans : (a b c : ℕ) → a ≤ b → b ≤ c → a ≤ c
le_trans a b c h k = omega arith

pub drop_short : (k : ℕ) (ws : List Word) (n : ℕ) → length ws ≤ n → length (drop k ws) ≤ n
drop_short k ws n h = let e = length-drop k ws in omega arith

pub popped_short : (n : ℕ) (calls calls2 : List Pending) (p : Pending) → calls ≡ calls2 ++ p ∷ [] → Short n (frames calls) → (length (rest_of p.level) ≤ n) × Short n (frames calls2)
popped_short n calls calls2 p e s = subst (λ (fs : List Frame). Short n fs) (pushed_frames calls2 calls p e) s

module _ (rules : Rules) where
  -- a moment by the equal parts
  at_equal : (A : List Word → List Word → List Note → Type 0) (fs : List Frame) (work work2 rest rest2 out out2 : List Word) (n : List Note)
      → work ≡ work2 → rest ≡ rest2 → out ≡ out2 → Leads A (working rules fs work rest out) n → Leads A (working rules fs work2 rest2 out2) n
  at_equal A fs work work2 rest rest2 out out2 n ew er eo l =
      subst (λ (w : List Word). Leads A (working rules fs w rest2 out2) n) ew
      (subst (λ (r : List Word). Leads A (working rules fs work r out2) n) er (subst (λ (o : List Word). Leads A (working rules fs work rest o) n) eo l))

  -- whatever is noted while what replaces it is made, as long as no replacement is
  pub proceeds_closes : (fs : List Frame) (f : Frame) (level : Level) (notes notes2 : List Note) → f.waiting ≡ [] → Replaced rules f level
      → notes2 ≡ notes ++ notes_of rules f f.done → replacements (notes_of rules f f.done) ≡ 0
      → Proceeds rules fs f notes fs level notes2
  proceeds_closes fs f level notes notes2 e r en z = record {
    more = notes_of rules f f.done;
    all = en;
    none = z;
    leads = at_equal (between rules fs f) fs _ _ _ _ _ _ (notes_of rules f f.done) (sym r.work) (sym r.rest) (sym r.out)
        (subst (λ (ws : List (List Word)). Leads (between rules fs (with_waiting f ws)) (working rules fs (made_of rules f f.done) f.rest f.out) (notes_of rules f f.done)) (sym e) (leads_closes rules fs f));
    closed = λ k. subst (λ (ws : List Word). Closed fs ws) (sym r.rest) k;
  }

  pub proceeds_next : (fs next : List Frame) (f : Frame) (arg : List Word) (waiting : List (List Word)) (level : Level) (notes : List Note)
      → f.waiting ≡ arg ∷ waiting → next ≡ with_waiting f waiting ∷ fs → reverse level.work ≡ arg → rest_of level ≡ [] → level.out ≡ []
      → Proceeds rules fs f notes next level notes
  proceeds_next fs next f arg waiting level notes e en ew er eo = record {
    more = [];
    all = sym (append_nil notes);
    none = refl;
    leads = subst (λ (n : List Frame). Leads (between rules fs f) (at_level rules n level) []) (sym en)
        (at_equal (between rules fs f) (with_waiting f waiting ∷ fs) _ _ _ _ _ _ [] (sym ew) (sym er) (sym eo)
        (subst (λ (ws : List (List Word)). Leads (between rules fs (with_waiting f ws)) (working rules (with_waiting f waiting ∷ fs) arg [] []) []) (sym e) (leads_next rules fs f arg waiting)));
    closed = λ k. subst (λ (n : List Frame). Closed n (rest_of level)) (sym en) (er, k);
  }

  both_none : (a b : List Note) → replacements a ≡ 0 → replacements b ≡ 0 → replacements (a ++ b) ≡ 0
  both_none a b e f = let h = replacements_more a b in omega arith

  closed_kept : (fs : List Frame) (a b : List Word) → (a ≡ [] → b ≡ []) → Closed fs a → Closed fs b
  closed_kept [] a b k c = c
  closed_kept (f ∷ fs) a b k c = (k c.0, c.1)

  pub runs_none : (fs : List Frame) (level : Level) (notes : List Note) → Runs rules fs level notes fs level notes
  runs_none fs level notes = record { more = []; all = sym (append_nil notes); none = refl; leads = leads_none _; closed = λ k. k }

  -- the tokens that stay
  pub runs_finds : (fs next : List Frame) (first level level2 : Level) (before notes notes2 : List Note) (found : Invoked)
      → Runs rules fs first before next level notes → Invoking rules level notes level2 notes2 found → Finds rules fs first before next level2 notes2 found
  runs_finds fs next first level level2 before notes notes2 found r i = let s = i.stood in record {
    more = r.more ++ s.more;
    all = s.all ∙ ap (λ xs. xs ++ s.more) r.all ∙ append_assoc before r.more s.more;
    none = both_none r.more s.more r.none s.none;
    leads = leads_then _ _ _ r.more s.more r.leads
        (at_equal _ next _ _ _ _ _ _ s.more refl refl (sym s.out) (leads_walks rules next _ _ s.front s.more _ _ level.out s.walks));
    closed = λ k. closed_kept next _ _ s.kept (r.closed k);
    turns = i.turns;
    within = i.within;
    fits = i.fits;
  }

  pub runs_ended : (fs next : List Frame) (first level level2 : Level) (before notes notes2 : List Note)
      → Runs rules fs first before next level notes → Ended rules level notes level2 notes2 → Runs rules fs first before next level2 notes2
  runs_ended fs next first level level2 before notes notes2 r i = let s = i.stood in record {
    more = r.more ++ s.more;
    all = s.all ∙ ap (λ xs. xs ++ s.more) r.all ∙ append_assoc before r.more s.more;
    none = both_none r.more s.more r.none s.none;
    leads = leads_then _ _ _ r.more s.more r.leads
        (at_equal _ next _ _ _ _ _ _ s.more refl refl (sym s.out) (leads_walks rules next _ _ s.front s.more _ _ level.out s.walks));
    closed = λ k. closed_kept next _ _ s.kept (r.closed k);
  }

  -- an argument has ended, and its invocation goes on
  pub runs_proceeds : (fs next2 mid : List Frame) (f : Frame) (first level level3 : Level) (before notes notes3 : List Note)
      → Runs rules fs first before (f ∷ mid) level notes → level.work ≡ [] → Closed fs (rest_of first)
      → Proceeds rules mid (with_done f level.out) notes next2 level3 notes3
      → Runs rules fs first before next2 level3 notes3
  runs_proceeds fs next2 mid f first level level3 before notes notes3 r e k p =
      let c = r.closed k in record {
        more = r.more ++ p.more;
        all = p.all ∙ ap (λ xs. xs ++ p.more) r.all ∙ append_assoc before r.more p.more;
        none = both_none r.more p.more r.none p.none;
        leads = leads_then _ _ _ r.more p.more
            (at_equal _ (f ∷ mid) _ _ _ _ _ _ r.more (ap reverse e) c.0 refl r.leads)
            (leads_then _ _ _ [] p.more (leads_ends rules mid f level.out) p.leads);
        closed = λ k. p.closed c.1;
      }

  pub reached_none : (w : Word) (level : Level) → level.work ≡ w ∷ [] → level.out ≡ [] → Reached rules w (rest_of level) [] level [] 0
  reached_none w level e o = record {
    leads = at_equal _ [] _ _ _ _ _ _ [] (sym (ap reverse e)) refl (sym o) (leads_none _);
    counts = refl;
    most = omega arith;
    closed = tt;
  }

  works_of : (w : Word) (rest : List Word) (total left out : List Word) (ns : List Note) → total ≡ [] ++ out → Works rules (w ∷ []) rest out left ns → Works rules (w ∷ []) rest total left ns
  works_of w rest total left out ns e d = subst (λ (o : List Word). Works rules (w ∷ []) rest o left ns) (sym e) d

  ended_works : (w : Word) (rest out left : List Word) (notes : List Note) → Leads (working rules [] (w ∷ []) rest []) (working rules [] [] left out) notes
      → Works rules (w ∷ []) rest out left notes
  unfolding Goes
  ended_works w rest out left notes l =
      let g : Outside rules out left (w ∷ []) rest [] (notes ++ []) = l.on out left [] (record { out = []; works = done left; words = sym (append_nil out) }) in
      subst (λ (n : List Note). Works rules (w ∷ []) rest out left n) (append_nil notes) (works_of w rest out left g.out (notes ++ []) g.words g.works)

  pub reached_ends : (w : Word) (rest : List Word) (fs next : List Frame) (level level2 : Level) (notes notes2 : List Note) (count : ℕ) (whole : Whole)
      → Reached rules w rest fs level notes count → Ends rules fs level notes next level2 notes2
      → whole.out ≡ level2.out → map fresh whole.left.now ≡ rest_of level2 → whole.notes ≡ notes2 → Wholly rules w rest whole
  reached_ends w rest fs next level level2 notes notes2 count whole r e eo el en =
      let l = leads_then _ _ _ notes e.runs.more r.leads e.runs.leads in
      let m : Leads (working rules [] (w ∷ []) rest []) (working rules [] (reverse level2.work) (rest_of level2) level2.out) (notes ++ e.runs.more) =
      subst (λ (n : List Frame). Leads (working rules [] (w ∷ []) rest []) (at_level rules n level2) (notes ++ e.runs.more)) e.last l in
      let k : Leads (working rules [] (w ∷ []) rest []) (working rules [] [] (rest_of level2) level2.out) (notes ++ e.runs.more) =
      at_equal _ [] _ _ _ _ _ _ _ (ap reverse e.empty) refl refl m in
      let d = ended_works w rest level2.out (rest_of level2) (notes ++ e.runs.more) k in
      let same : whole.notes ≡ notes ++ e.runs.more = en ∙ e.runs.all in
      record {
        works = subst (λ (o : List Word). Works rules (w ∷ []) rest o (map fresh whole.left.now) whole.notes) (sym eo)
            (subst (λ (l : List Word). Works rules (w ∷ []) rest level2.out l whole.notes) (sym el) (subst (λ (n : List Note). Works rules (w ∷ []) rest level2.out (rest_of level2) n) (sym same) d));
        small = let a = replacements_more notes e.runs.more in let b = r.counts in let z = e.runs.none in let m = r.most in let q = ap replacements same in omega arith;
      }

  starts : (w : Word) (rest out left : List Word) (ns : List Note) → Works rules (w ∷ []) rest out left ns → Goes rules out left [] (w ∷ []) rest [] ns
  unfolding Goes
  starts w rest out left ns d = record { out = out; works = d; words = refl }

  pub reached_large : (w : Word) (rest : List Word) (fs next : List Frame) (level level2 : Level) (notes notes2 : List Note) (count : ℕ) (found : Invoked)
      → Reached rules w rest fs level notes count → count ≡ 65535 → Finds rules fs level notes next level2 notes2 found
      → (out left : List Word) (ns : List Note) → Works rules (w ∷ []) rest out left ns → 65535 < replacements ns
  reached_large w rest fs next level level2 notes notes2 count found r e f out left ns d =
      let l = leads_then _ _ _ notes f.more r.leads f.leads in
      let p = l.back out left ns (starts w rest out left ns d) in
      let i = leads_invokes rules next found.word (reverse level2.work) (rest_of level2) level2.out (take found.count (ahead level2)) (lent_value found.mac) f.turns in
      let q = i.back out left p.more p.goes in
      let a = replacements_more (notes ++ f.more) p.more in
      let b = replacements_more notes f.more in
      let x = replacements_more (invoking found.word (take found.count (ahead level2))) q.more in
      let y = invoking_one found.word (take found.count (ahead level2)) in
      let u = ap replacements p.all in let v = ap replacements q.all in let z = f.none in let n = r.counts in omega arith

  pub reached_on : (w : Word) (rest : List Word) (fs next next3 : List Frame) (level level2 level3 : Level) (notes notes2 notes3 notes4 : List Note) (count : ℕ) (found : Invoked) (f : Frame)
      → Reached rules w rest fs level notes count → count ≢ 65535 → Finds rules fs level notes next level2 notes2 found
      → f ≡ begun_at found level2 → notes3 ≡ notes2 ++ invoking found.word (take found.count (ahead level2))
      → Proceeds rules next f notes3 next3 level3 notes4 → Reached rules w rest next3 level3 notes4 (count + 1)
  reached_on w rest fs next next3 level level2 level3 notes notes2 notes3 notes4 count found f r ne g ef en p =
      let i = leads_invokes rules next found.word (reverse level2.work) (rest_of level2) level2.out (take found.count (ahead level2)) (lent_value found.mac) g.turns in
      let i2 : Leads (working rules next (found.word ∷ reverse level2.work) (rest_of level2) level2.out) (between rules next f) (invoking found.word (take found.count (ahead level2))) =
      subst (λ (h : Frame). Leads (working rules next (found.word ∷ reverse level2.work) (rest_of level2) level2.out) (between rules next h) (invoking found.word (take found.count (ahead level2)))) (sym ef) i in
      let l = leads_then _ _ _ _ p.more (leads_then _ _ _ _ (invoking found.word (take found.count (ahead level2))) (leads_then _ _ _ notes g.more r.leads g.leads) i2) p.leads in
      let all : notes4 ≡ ((notes ++ g.more) ++ invoking found.word (take found.count (ahead level2))) ++ p.more =
      p.all ∙ ap (λ xs. xs ++ p.more) (en ∙ ap (λ xs. xs ++ invoking found.word (take found.count (ahead level2))) g.all) in
      record {
        leads = subst (λ (n : List Note). Leads (working rules [] (w ∷ []) rest []) (at_level rules next3 level3) n) (sym all) l;
        counts = let a = replacements_more ((notes ++ g.more) ++ invoking found.word (take found.count (ahead level2))) p.more in
            let b = replacements_more (notes ++ g.more) (invoking found.word (take found.count (ahead level2))) in
            let d = replacements_more notes g.more in
            let y = invoking_one found.word (take found.count (ahead level2)) in
            let u = ap replacements all in let z = g.none in let x = p.none in let n = r.counts in omega arith;
        most = let m = r.most in omega arith;
        closed = p.closed (subst (λ (h : Frame). Closed next h.rest) (sym ef) (closed_kept next _ _ (λ e. ap (drop _) e ∙ drop_none _) (g.closed r.closed)));
      }
