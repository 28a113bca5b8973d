-- Work that waits, and what each step makes of it.
use Rattle.std.proofs.Common.{◌≡◌, ℕ, ◌<◌, List, [], ◌∷◌, ◌++◌, Option, Some, None, refl, sym, ap, subst, ◌∙◌, reverse, Bool, true, false, arith}
use Rattle.std.specs.Prelude.{if◌then◌else◌, is_some, length}
use Rattle.std.specs.BTreeMap.{get}
use Rattle.std.specs.Cmp.Lexicographic.{slice_cmp}
use Rattle.std.specs.Ordering.{nat_cmp}
use Rattle.std.specs.List.{AllByRecursion}
use Rattle.std.proofs.lemmas.List.{reverse-append}
use Rattle.cl_base.specs.declared.config.Settings.{Settings}
use Rattle.cl_base.specs.declared.headers.Known.{Known}
use Rattle.cl_base.specs.declared.macros.Macro.{Macro}
use Rattle.cl_base.specs.declared.macros.MacroNo.{MacroNo}
use Rattle.cl_base.specs.declared.token.Kind.{Kind}
use Rattle.cl_headers.specs.declared.dep.Dep.{Dep}
use Rattle.cl_macro.specs.declared.table.MacroTable.{MacroTable}
use Rattle.cl_macro.specs.Rules.{TellsTokens}
use Rattle.cl_macro.proofs.Teller.{some_teller}
use Rattle.cl_pp.specs.declared.aim.Aim.TheVariants as aim
use Rattle.cl_pp.specs.declared.aim.Target.{Target}
use Rattle.cl_pp.specs.declared.done.PpDone.{PpDone}
use Rattle.cl_pp.specs.declared.made.Found.{Found}
use Rattle.cl_pp.specs.declared.made.Frame.{Frame}
use Rattle.cl_pp.specs.declared.made.Made.{Made}
use Rattle.cl_pp.specs.declared.made.Place.{Place}
use Rattle.cl_pp.specs.declared.made.Reached.TheVariants as reached
use Rattle.cl_pp.specs.declared.made.Source.{Source}
use Rattle.cl_pp.specs.declared.made.Wanted.{Wanted}
use Rattle.cl_pp.specs.declared.work.PpWork.{PpWork}
use Rattle.cl_pp.specs.Activity.{Passed}
use Rattle.cl_pp.specs.Preprocessing.{Before, Does, Reads, World, before_lines, document}
use Rattle.cl_pp.specs.Resuming.{Agree, Continues, IsRead, Waits, world_of}
use Rattle.cl_pp.specs.Standing.{Start, first_unknown, is_stopped, is_unknown, last_of, stopped_by, wanted, wanted_by}
use Rattle.cl_pp.specs.Names.{contains}
use Rattle.cl_pp.specs.code.Keeping.{Keeps, Sees}
use Rattle.cl_pp.specs.code.Seeing.{IsAtHand}
use Rattle.cl_pp.specs.declared.seen.Seen.{Seen}
use Rattle.cl_pp.specs.code.Reaching.{IsIn, IsLaid, IsOpened, Looks}
use Rattle.cl_pp.specs.code.Resuming.{IsAt, Passes, Stops}
use Rattle.cl_pp.specs.code.Stacks.{Stand}
use Rattle.cl_pp.proofs.Agreeing.{before_agrees, does_long, does_same}
use Rattle.cl_pp.proofs.Reading.{keeps_events}
use Rattle.cl_pp.proofs.Resuming.{IsOf, ended, enters_on, follows_on, found_before, found_by, found_same, no_file, passes_end, passes_on, start_of, stopped}
use Rattle.cl_pp.proofs.Telling.{none_stopped}

-- ---- open files

pub all_front : {A : Type 0} (P : A → Type 0) (xs : List A) (x : A) → AllByRecursion P (xs ++ x ∷ []) → AllByRecursion P xs
all_front P [] x h = tt
all_front P (y ∷ ys) x h = (h.0, all_front P ys x h.1)

pub all_last : {A : Type 0} (P : A → Type 0) (xs : List A) (x : A) → AllByRecursion P (xs ++ x ∷ []) → P x
all_last P [] x h = h.0
all_last P (y ∷ ys) x h = all_last P ys x h.1

pub all_more : {A : Type 0} (P : A → Type 0) (xs : List A) (x : A) → AllByRecursion P xs → P x → AllByRecursion P (xs ++ x ∷ [])
all_more P [] x h p = (p, tt)
all_more P (y ∷ ys) x h p = (h.0, all_more P ys x h.1 p)

abbrev pub Laid : Frame → Type 0
Laid f = IsLaid f.source.text f.source.opened.value

abbrev when : Bool → Type 0
when true = ⊥
when false = Unit {0}

pub none_open : {A : Type 0} (xs : List A) → (0 < length xs → false ≡ true) → xs ≡ []
none_open [] h = refl
none_open (x ∷ xs) h = absurd (subst when (h (omega arith)) tt)

innermost : (frames fs : List Frame) (f : Frame) → frames ≡ fs ++ f ∷ [] → reverse frames ≡ f ∷ reverse fs
innermost frames fs f e = ap reverse e ∙ reverse-append fs (f ∷ [])

-- ---- what is known of the last header

abbrev pick : Option (List ℕ) → Type 0
pick None = ⊥
pick (Some path) = Unit {0}

by_unknown : (b : Bool) (path needed : List ℕ) → (if b then Some path else None) ≡ Some needed → b ≡ true
by_unknown true path needed e = refl
by_unknown false path needed e = absurd (subst pick (sym e) tt)

wanted_stops : (o : Option Dep) (path : List ℕ) → wanted_by o ≡ Some path → stopped_by o ≡ true
wanted_stops None path e = absurd (subst pick (sym e) tt)
wanted_stops (Some d) path e = by_unknown (is_unknown d.known) d.path path e

-- ---- the world of an open file

at_it : (one_token : List ℕ → Option Kind) (start : Start) (known : List ℕ → Known) (folders : List (List ℕ)) (path text : List ℕ) (source : Source) → TellsTokens one_token → IsAt source (world_of (document one_token start known folders path text) source)
at_it one_token start known folders path text source t = record { file = refl; depth = refl; path = refl; text = refl; begins = refl; tells = t }

in_it : (one_token : List ℕ → Option Kind) (start : Start) (config : Settings) (known : List ℕ → Known) (path text : List ℕ) (source : Source) → TellsTokens one_token
    → IsIn source config known (world_of (document one_token start known config.includes path text) source)
in_it one_token start config known path text source t = record { file = refl; depth = refl; path = refl; text = refl; known_is = refl; folders = refl; tells = t }

module _ (macros : List ℕ → Option Macro) (numbers : List ℕ → Option MacroNo) (before : Before) (folders : List (List ℕ)) (path text : List ℕ) where
  abbrev Waiting : PpWork → Type 0
  Waiting work = Waits macros numbers before folders path text work

  abbrev whole : (List ℕ → Option Kind) → (List ℕ → Known) → World
  whole one_token known = document one_token before.start known folders path text

  -- what goes on from these open files
  abbrev Onward : (List ℕ → Option Kind) → (List ℕ → Known) → PpDone → List Frame → Option Target → Type 0
  Onward one_token known done frames target = Continues (whole one_token known) (before_lines before) done frames target

  pub waits_same : (old new : PpWork) → new.table ≡ old.table → new.made.done ≡ old.made.done → new.frames ≡ old.frames → new.target ≡ old.target → Waiting old → Waiting new
  waits_same old new t d f g h = record {
    keeps = subst (λ (x : MacroTable). Keeps macros numbers before.start x new.made.done) (sym t) (subst (λ (x : PpDone). Keeps macros numbers before.start old.table x) (sym d) h.keeps);
    going = ap (λ (x : PpDone). first_unknown x.deps) d ∙ h.going;
    on = λ one_token tells known agree.
        subst (λ (x : Option Target). Onward one_token known new.made.done (reverse new.frames) x) (sym g)
        (subst (λ (fs : List Frame). Onward one_token known new.made.done (reverse fs) old.target) (sym f)
        (subst (λ (x : PpDone). Onward one_token known x (reverse old.frames) old.target) (sym d) (h.on one_token tells known (subst (λ (x : PpDone). Agree known x.deps) d agree))));
  }

  -- lines are gone over up to one that names a header
  pub waits_on : (old new : PpWork) (fs : List Frame) (f : Frame) (to : Place) (target : Target) → old.frames ≡ fs ++ f ∷ [] → new.frames ≡ fs ++ record { source = f.source; place = to } ∷ [] → old.target ≡ None → new.target ≡ Some target
      → new.made.done.deps ≡ old.made.done.deps → ((start : Start) → Keeps macros numbers start old.table old.made.done → Keeps macros numbers start new.table new.made.done)
      → ((w : World) (past : List Passed) → IsAt f.source w → is_stopped old.made.done ≡ false → Stand past (reverse f.place.sections) → Keeps macros numbers w.start old.table old.made.done → Passes w f.source.opened.value past f.place old.made.done to new.made.done (Some target))
      → Waiting old → Waiting new
  waits_on old new fs f to target o n a b d k p h = record {
    keeps = k before.start h.keeps;
    going = ap first_unknown d ∙ h.going;
    on = λ one_token tells known agree.
        let was : Onward one_token known old.made.done (f ∷ reverse fs) None =
        subst (λ (x : Option Target). Onward one_token known old.made.done (f ∷ reverse fs) x) a
        (subst (λ (x : List Frame). Onward one_token known old.made.done x old.target) (innermost old.frames fs f o) (h.on one_token tells known (subst (Agree known) d agree))) in
        subst (λ (x : Option Target). Onward one_token known new.made.done (reverse new.frames) x) (sym b)
        (subst (λ (x : List Frame). Onward one_token known new.made.done x (Some target)) (sym (innermost new.frames fs (record { source = f.source; place = to }) n))
        (passes_on (whole one_token known) (before_lines before) old.made.done new.made.done f to (reverse fs) target
        (λ past s. p (world_of (whole one_token known) f.source) past (at_it one_token before.start known folders path text f.source tells) (none_stopped old.made.done h.going) s h.keeps) was));
  }

  -- lines are gone over up to the last
  pub waits_end : (old new : PpWork) (fs : List Frame) (f : Frame) (to : Place) → old.frames ≡ fs ++ f ∷ [] → new.frames ≡ fs → old.target ≡ None → new.target ≡ None
      → new.made.done.deps ≡ old.made.done.deps → ((start : Start) → Keeps macros numbers start old.table old.made.done → Keeps macros numbers start new.table new.made.done)
      → ((w : World) (past : List Passed) → IsAt f.source w → is_stopped old.made.done ≡ false → Stand past (reverse f.place.sections) → Keeps macros numbers w.start old.table old.made.done → Passes w f.source.opened.value past f.place old.made.done to new.made.done None)
      → Waiting old → Waiting new
  waits_end old new fs f to o n a b d k p h = record {
    keeps = k before.start h.keeps;
    going = ap first_unknown d ∙ h.going;
    on = λ one_token tells known agree.
        let was : Onward one_token known old.made.done (f ∷ reverse fs) None =
        subst (λ (x : Option Target). Onward one_token known old.made.done (f ∷ reverse fs) x) a
        (subst (λ (x : List Frame). Onward one_token known old.made.done x old.target) (innermost old.frames fs f o) (h.on one_token tells known (subst (Agree known) d agree))) in
        subst (λ (x : Option Target). Onward one_token known new.made.done (reverse new.frames) x) (sym b)
        (subst (λ (x : List Frame). Onward one_token known new.made.done (reverse x) None) (sym n)
        (passes_end (whole one_token known) (before_lines before) old.made.done new.made.done f to (reverse fs)
        (λ past s. p (world_of (whole one_token known) f.source) past (at_it one_token before.start known folders path text f.source tells) (none_stopped old.made.done h.going) s h.keeps) was));
  }

  -- all is gone over
  pub all_read : (known : List ℕ → Known) (work : PpWork) → work.frames ≡ [] → work.target ≡ None → Agree known work.made.done.deps → Waiting work → IsRead before known folders path text work.made.done
  all_read known work f g agree h =
      let teller = some_teller in
      record {
        one_token = teller.0;
        tells = teller.1;
        reads = ended (whole teller.0 known) (before_lines before) work.made.done
            (subst (λ (x : Option Target). Onward teller.0 known work.made.done [] x) g
            (subst (λ (x : List Frame). Onward teller.0 known work.made.done (reverse x) work.target) f (h.on teller.0 teller.1 known agree)));
      }

  -- a header is named, and no file is open
  pub waits_dropped : (old new : PpWork) (target : Target) → old.frames ≡ [] → new.frames ≡ [] → old.target ≡ Some target → new.target ≡ None → new.table ≡ old.table → new.made.done ≡ old.made.done → Waiting old → Waiting new
  waits_dropped old new target o n a b t d h = record {
    keeps = subst (λ (x : MacroTable). Keeps macros numbers before.start x new.made.done) (sym t) (subst (λ (x : PpDone). Keeps macros numbers before.start old.table x) (sym d) h.keeps);
    going = ap (λ (x : PpDone). first_unknown x.deps) d ∙ h.going;
    on = λ one_token tells known agree.
        subst (λ (x : Option Target). Onward one_token known new.made.done (reverse new.frames) x) (sym b)
        (subst (λ (fs : List Frame). Onward one_token known new.made.done (reverse fs) None) (sym n)
        (subst (λ (x : PpDone). Onward one_token known x [] None) (sym d)
        (no_file (whole one_token known) (before_lines before) old.made.done target
        (subst (λ (x : Option Target). Onward one_token known old.made.done [] x) a
        (subst (λ (fs : List Frame). Onward one_token known old.made.done (reverse fs) old.target) o (h.on one_token tells known (subst (λ (x : PpDone). Agree known x.deps) d agree)))))));
  }

-- ---- a header that a line names

-- there is a world for each file
pub some_world : (source : Source) (config : Settings) (known : List ℕ → Known) → (w : World) × IsIn source config known w
some_world source config known =
    let teller = some_teller in
    let start : Start = record { macros = λ name. None; numbers = λ name. None; events = 0 } in
    (world_of (document teller.0 start known config.includes source.path source.text) source, in_it teller.0 start config known source.path source.text source teller.1)

pub sees_same : (old new : Made) → new.seen ≡ old.seen → new.done.looked ≡ old.done.looked → Sees old → Sees new
sees_same old new s l h = (
  λ name. (
      let seen : is_some (get (slice_cmp nat_cmp) new.seen.names name) ≡ is_some (get (slice_cmp nat_cmp) old.seen.names name) = λ i. is_some (get (slice_cmp nat_cmp) (s i).names name) in
      seen ∙ h.0 name ∙ ap (λ (names : List (List ℕ)). contains names name) (sym l)),
  λ name here. ap (λ (names : List (List ℕ)). contains names name) l ∙ h.1 name (subst (λ (x : Seen). IsAtHand x.recent.items name) s here),
)

module _ (macros : List ℕ → Option Macro) (numbers : List ℕ → Option MacroNo) (before : Before) (config : Settings) (known : List ℕ → Known) (path text : List ℕ) (old new : PpWork) (fs : List Frame) (f : Frame) (target : Target)
    (o : old.frames ≡ fs ++ f ∷ []) (a : old.target ≡ Some target) (h : Waits macros numbers before config.includes path text old) where
  abbrev all_of : (List ℕ → Option Kind) → (List ℕ → Known) → World
  all_of one_token other = document one_token before.start other config.includes path text

  was : (one_token : List ℕ → Option Kind) → TellsTokens one_token → (other : List ℕ → Known) → Agree other old.made.done.deps → Continues (all_of one_token other) (before_lines before) old.made.done (f ∷ reverse fs) (Some target)
  was one_token tells other agree =
      subst (λ (x : Option Target). Continues (all_of one_token other) (before_lines before) old.made.done (f ∷ reverse fs) x) a
      (subst (λ (x : List Frame). Continues (all_of one_token other) (before_lines before) old.made.done x old.target) (innermost old.frames fs f o) (h.on one_token tells other agree))

  -- it is done
  pub waits_done : new.frames ≡ fs ++ f ∷ [] → new.target ≡ None → new.table ≡ old.table → new.made.done.events ≡ old.made.done.events → first_unknown new.made.done.deps ≡ None
      → ((w : World) → IsIn f.source config known w → Does w (aim.Header target) old.made.done new.made.done) → Waits macros numbers before config.includes path text new
  waits_done n b t e u d = record {
    keeps = subst (λ (x : MacroTable). Keeps macros numbers before.start x new.made.done) (sym t) (keeps_events before.start old.table old.made.done new.made.done h.keeps e);
    going = u;
    on = λ one_token tells other agree.
        let does = d (world_of (all_of one_token known) f.source) (in_it one_token before.start config known path text f.source tells) in
        subst (λ (x : Option Target). Continues (all_of one_token other) (before_lines before) new.made.done (reverse new.frames) x) (sym b)
        (subst (λ (x : List Frame). Continues (all_of one_token other) (before_lines before) new.made.done x None) (sym (innermost new.frames fs f n))
        (follows_on (all_of one_token other) (before_lines before) old.made.done new.made.done f (reverse fs) target (does_same other does agree)
        (was one_token tells other (before_agrees other old.made.done.deps new.made.done.deps (does_long does) agree))));
  }

  -- its file is entered
  pub waits_entered : (mid : PpDone) (source : Source) (g : Found) → new.frames ≡ (fs ++ f ∷ []) ++ start_of source ∷ [] → new.target ≡ None → new.table ≡ old.table → mid.events ≡ old.made.done.events → first_unknown mid.deps ≡ None
      → IsOf source f.source.depth g → IsOpened source.number source.text mid source.opened.value new.made.done
      → ((w : World) → IsIn f.source config known w → (w.depth < 200) × Looks w target old.made.done mid (reached.Enters g)) → Waits macros numbers before config.includes path text new
  waits_entered mid source g n b t e u s i d =
      let events : new.made.done.events ≡ mid.events = ap (λ (x : PpDone). x.events) i.is in
      let deps : new.made.done.deps ≡ mid.deps = ap (λ (x : PpDone). x.deps) i.is in
      record {
        keeps = subst (λ (x : MacroTable). Keeps macros numbers before.start x new.made.done) (sym t) (keeps_events before.start old.table old.made.done new.made.done h.keeps (events ∙ e));
        going = ap first_unknown deps ∙ u;
        on = λ one_token tells other agree.
            let looks = d (world_of (all_of one_token known) f.source) (in_it one_token before.start config known path text f.source tells) in
            let found = found_by (world_of (all_of one_token known) f.source) target old.made.done mid g looks.1 in
            let agreed : Agree other mid.deps = subst (Agree other) deps agree in
            let there = found_same other (world_of (all_of one_token known) f.source) target old.made.done mid g found agreed in
            let frames : reverse new.frames ≡ start_of source ∷ (f ∷ reverse fs) = innermost new.frames (fs ++ f ∷ []) (start_of source) n ∙ ap (λ (x : List Frame). start_of source ∷ x) (reverse-append fs (f ∷ [])) in
            subst (λ (x : Option Target). Continues (all_of one_token other) (before_lines before) new.made.done (reverse new.frames) x) (sym b)
            (subst (λ (x : List Frame). Continues (all_of one_token other) (before_lines before) new.made.done x None) (sym frames)
            (enters_on (all_of one_token other) (before_lines before) old.made.done mid new.made.done f (reverse fs) target source g there.asked there.resolved looks.0 there.finds there.arrives s i
            (was one_token tells other (found_before other (world_of (all_of one_token known) f.source) target old.made.done mid g found agreed))));
      }

  -- nothing is known of it
  pub stops_at : (it : Wanted) (asked : List Dep) → new.frames ≡ fs ++ f ∷ [] → new.target ≡ Some target → new.table ≡ old.table → new.made.done ≡ old.made.done → it.seen ≡ old.made.done.deps ++ asked → wanted it.seen ≡ Some it.path
      → Agree known old.made.done.deps → ((w : World) → IsIn f.source config known w → Does w (aim.Header target) old.made.done (record old.made.done { deps = old.made.done.deps ++ asked }))
      → Stops macros numbers before known config.includes path text new it
  stops_at it asked n b t m s u agree d =
      let teller = some_teller in
      let end : PpDone = record old.made.done { deps = old.made.done.deps ++ asked } in
      let same : end ≡ record new.made.done { deps = it.seen } = λ i. record (sym m i) { deps = sym s i } in
      let stops : is_stopped end ≡ true = wanted_stops (last_of end.deps) it.path (ap wanted (sym s) ∙ u) in
      record {
        read = record {
          one_token = teller.0;
          tells = teller.1;
          reads = subst (λ (x : PpDone). Reads (all_of teller.0 known) (before_lines before) x) same
              (stopped (all_of teller.0 known) (before_lines before) old.made.done end f (reverse fs) target stops
              (d (world_of (all_of teller.0 known) f.source) (in_it teller.0 before.start config known path text f.source teller.1)) (was teller.0 teller.1 known agree));
        };
        needs = u;
        waits = waits_same macros numbers before config.includes path text old new t m (n ∙ sym o) (b ∙ sym a) h;
      }
