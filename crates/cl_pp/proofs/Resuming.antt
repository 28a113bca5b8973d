-- Work on a text that stops at a header and goes on later.
use Rattle.std.proofs.Common.{◌≡◌, ℕ, ◌+◌, ◌<◌, List, [], ◌∷◌, ◌++◌, Some, None, refl, sym, ap, subst, ◌∙◌, map, drop, reverse, true}
use Rattle.cl_base.specs.declared.headers.Known.{Known}
use Rattle.cl_base.specs.declared.headers.Known.TheVariants as state
use Rattle.cl_cond.specs.declared.mark.Mark.{Mark}
use Rattle.cl_headers.specs.declared.dep.Dep.{Dep}
use Rattle.cl_headers.specs.declared.resolving.Resolved.{Resolved}
use Rattle.cl_headers.specs.declared.resolving.Resolved.TheVariants as resolved
use Rattle.cl_headers.specs.Noting.{IsNoted, dep_of}
use Rattle.cl_lex.specs.Lexing.{Lexes}
use Rattle.cl_pp.specs.declared.aim.Aim.TheVariants as aim
use Rattle.cl_pp.specs.declared.aim.Target.{Target}
use Rattle.cl_pp.specs.declared.done.PpDone.{PpDone}
use Rattle.cl_pp.specs.declared.made.Found.{Found}
use Rattle.cl_pp.specs.declared.made.Frame.{Frame}
use Rattle.cl_pp.specs.declared.made.Place.{Place}
use Rattle.cl_pp.specs.declared.made.Reached.{Reached}
use Rattle.cl_pp.specs.declared.made.Reached.TheVariants as reached
use Rattle.cl_pp.specs.declared.made.Source.{Source}
use Rattle.cl_pp.specs.Activity.{Passed}
use Rattle.cl_pp.specs.Preprocessing.{Does, Enters, Finds, Goes, Reads, State, World, arrived_in, begin, below, end, enters, lexed_by, read}
use Rattle.cl_pp.specs.Resuming.{Agree, AreOpen, Continues, Ends, world_of}
use Rattle.cl_pp.specs.Runs.{runs}
use Rattle.cl_pp.specs.Standing.{is_stopped, with_asked_paths}
use Rattle.cl_pp.specs.code.Reaching.{Arrives, IsOpened, Looks}
use Rattle.cl_pp.specs.code.Resuming.{Passes}
use Rattle.cl_pp.specs.code.Stacks.{Stand}
use Rattle.cl_pp.proofs.Agreeing.{arrives_same, asked_same, elsewhere, front_agrees, resolves_same}
use Rattle.cl_pp.proofs.Needing.{arrival_deps}
use Rattle.cl_pp.proofs.Shapes.{stop_at}
use Rattle.cl_pp.proofs.Shelving.{AreKnown, resolved_known}
use Rattle.cl_pp.proofs.Standing.{stand_start}

-- ---- the lines of the innermost file

on_by : (w : World) (first now new : PpDone) (f : Frame) (to : Place) (fs : List Frame) (target : Target)
    → ((past : List Passed) → Stand past (reverse f.place.sections) → Passes (world_of w f.source) f.source.opened.value past f.place now to new (Some target))
    → (pasts : List (List Passed)) → AreOpen pasts (f ∷ fs) → ((mid final : PpDone) → mid ≡ now → Ends w pasts (f ∷ fs) mid final → Reads w first final)
    → Continues w first new (record { source = f.source; place = to } ∷ fs) (Some target)
on_by w first now new f to fs target h [] o goes = absurd o
on_by w first now new f to fs target h (past ∷ pasts) o goes =
    let p = h past o.0 in
    record {
      pasts = p.passed ∷ pasts;
      are_open = (p.stands, o.1);
      goes = λ mid final d e. goes now final refl (e.0, p.goes mid e.0 d e.1, e.2);
    }

-- they are gone over up to one that names a header
pub passes_on : (w : World) (first now new : PpDone) (f : Frame) (to : Place) (fs : List Frame) (target : Target)
    → ((past : List Passed) → Stand past (reverse f.place.sections) → Passes (world_of w f.source) f.source.opened.value past f.place now to new (Some target))
    → Continues w first now (f ∷ fs) None → Continues w first new (record { source = f.source; place = to } ∷ fs) (Some target)
passes_on w first now new f to fs target h c = on_by w first now new f to fs target h c.pasts c.are_open c.goes

end_by : (w : World) (first now new : PpDone) (f : Frame) (to : Place) (fs : List Frame)
    → ((past : List Passed) → Stand past (reverse f.place.sections) → Passes (world_of w f.source) f.source.opened.value past f.place now to new None)
    → (pasts : List (List Passed)) → AreOpen pasts (f ∷ fs) → ((mid final : PpDone) → mid ≡ now → Ends w pasts (f ∷ fs) mid final → Reads w first final)
    → Continues w first new fs None
end_by w first now new f to fs h [] o goes = absurd o
end_by w first now new f to fs h (past ∷ pasts) o goes =
    let p = h past o.0 in
    let at = world_of w f.source in
    let tokens = f.source.opened.value.lexed.tokens in
    record {
      pasts = pasts;
      are_open = o.1;
      goes = λ mid final d e.
          let t : State = record { past = p.passed; done = mid } in
          goes now final refl (t, p.goes mid t d (subst (λ (ms : List Mark). Goes at tokens ms t t) (sym p.last) (end at tokens t)), e);
    }

-- they are gone over up to the last
pub passes_end : (w : World) (first now new : PpDone) (f : Frame) (to : Place) (fs : List Frame)
    → ((past : List Passed) → Stand past (reverse f.place.sections) → Passes (world_of w f.source) f.source.opened.value past f.place now to new None)
    → Continues w first now (f ∷ fs) None → Continues w first new fs None
passes_end w first now new f to fs h c = end_by w first now new f to fs h c.pasts c.are_open c.goes

-- ---- a header that a line names

-- it is done
pub follows_on : (w : World) (first old new : PpDone) (f : Frame) (fs : List Frame) (target : Target) → Does (world_of w f.source) (aim.Header target) old new
    → Continues w first old (f ∷ fs) (Some target) → Continues w first new (f ∷ fs) None
follows_on w first old new f fs target d c = record {
  pasts = c.pasts;
  are_open = c.are_open;
  goes = λ mid final e h. c.goes mid final (subst (λ (x : PpDone). Does (world_of w f.source) (aim.Header target) old x) (sym e) d) h;
}

-- a file whose lines are gone over from the first on
reads_from : (w at : World) (source : Source) (old begun mid : PpDone) (t : State) → world_of w source ≡ lexed_by at source.opened.value.lexed.faults → IsOpened source.number source.text old source.opened.value begun → mid ≡ begun
    → source.number ≡ at.file → source.text ≡ at.text → Goes (world_of w source) source.opened.value.lexed.tokens (drop 0 source.opened.value.marks) (record { past = []; done = mid }) t → Reads at old t.done
reads_from w at source old begun mid t e o m n x g =
    let opened = source.opened.value in
    let lexed = opened.lexed in
    let first : mid ≡ (begin at.file lexed.faults o.groups.faults old).done = m ∙ o.is ∙ ap (λ (k : ℕ). (begin k lexed.faults o.groups.faults old).done) n in
    let goes : Goes (lexed_by at lexed.faults) lexed.tokens (runs lexed.tokens o.groups.marks) (begin at.file lexed.faults o.groups.faults old) t =
    subst (λ (d : PpDone). Goes (lexed_by at lexed.faults) lexed.tokens (runs lexed.tokens o.groups.marks) (record { past = []; done = d }) t) first
    (subst (λ (ms : List Mark). Goes (lexed_by at lexed.faults) lexed.tokens ms (record { past = []; done = mid }) t) o.marks
    (subst (λ (v : World). Goes v lexed.tokens opened.marks (record { past = []; done = mid }) t) e g)) in
    read at old lexed o.groups t (subst (λ (text : List ℕ). Lexes text lexed) x o.lexes) o.grouped goes

-- the file of a header
pub record IsOf (source : Source) (depth : ℕ) (f : Found) : Type 0 where
  pub number : source.number ≡ f.number
  pub depth_is : source.depth ≡ depth + 1
  pub path : source.path ≡ f.path
  pub text : source.text ≡ f.text

same_world : (w : World) (around source : Source) (f : Found) → IsOf source around.depth f → world_of w source ≡ lexed_by (below (world_of w around) f.number f.path f.text) source.opened.value.lexed.faults
same_world w around source f s = λ i. record (world_of w source) { file = s.number i; depth = s.depth_is i; path = s.path i; text = s.text i }

abbrev pub start_of : Source → Frame
start_of source = record { source = source; place = record { next = 0; sections = [] } }

-- it is entered
pub enters_on : (w : World) (first old mid begun : PpDone) (f : Frame) (fs : List Frame) (target : Target) (source : Source) (g : Found) (asked : List (List ℕ)) (found : Resolved)
    → f.source.depth < 200 → Finds (world_of w f.source) target asked found → arrived_in (world_of w f.source) target asked found old ≡ Enters g.number g.path g.text mid
    → IsOf source f.source.depth g → IsOpened source.number source.text mid source.opened.value begun
    → Continues w first old (f ∷ fs) (Some target) → Continues w first begun (start_of source ∷ (f ∷ fs)) None
enters_on w first old mid begun f fs target source g asked found d finds arrives s o c = record {
  pasts = [] ∷ c.pasts;
  are_open = (stand_start [] refl, c.are_open);
  goes = λ now final e h.
      let at = world_of w f.source in
      let reads = reads_from w (below at g.number g.path g.text) source mid begun now h.0 (same_world w f.source source g s) o e s.number s.text h.1 in
      c.goes h.0.done final (enters at target old mid h.0.done asked found g.number g.path g.text d finds arrives reads) h.2;
}

-- ---- the document

pub starts : (w : World) (source : Source) (old begun : PpDone) → world_of w source ≡ lexed_by w source.opened.value.lexed.faults → IsOpened source.number source.text old source.opened.value begun → source.number ≡ w.file → source.text ≡ w.text
    → Continues w old begun (start_of source ∷ []) None
starts w source old begun e o n x = record {
  pasts = [] ∷ [];
  are_open = (stand_start [] refl, tt);
  goes = λ mid final m h. subst (Reads w old) (sym h.2) (reads_from w w source old begun mid h.0 e o m n x h.1);
}

-- nothing is left
ended_by : (w : World) (first now : PpDone) (pasts : List (List Passed)) → AreOpen pasts [] → ((mid final : PpDone) → mid ≡ now → Ends w pasts [] mid final → Reads w first final) → Reads w first now
ended_by w first now [] o goes = goes now now refl refl
ended_by w first now (past ∷ pasts) o goes = absurd o

pub ended : (w : World) (first now : PpDone) → Continues w first now [] None → Reads w first now
ended w first now c = ended_by w first now c.pasts c.are_open c.goes

-- nothing more is done in any file
stops_all : (w : World) (pasts : List (List Passed)) (frames : List Frame) (done : PpDone) → is_stopped done ≡ true → AreOpen pasts frames → Ends w pasts frames done done
stops_all w [] [] done s o = refl
stops_all w [] (f ∷ fs) done s o = absurd o
stops_all w (past ∷ pasts) [] done s o = absurd o
stops_all w (past ∷ pasts) (f ∷ fs) done s o =
    let t : State = record { past = past; done = done } in
    (t, stop_at (world_of w f.source) f.source.opened.value.lexed.tokens (drop f.place.next f.source.opened.value.marks) t s, stops_all w pasts fs done s o.1)

pub stopped : (w : World) (first old new : PpDone) (f : Frame) (fs : List Frame) (target : Target) → is_stopped new ≡ true → Does (world_of w f.source) (aim.Header target) old new → Continues w first old (f ∷ fs) (Some target) → Reads w first new
stopped w first old new f fs target s d c = c.goes new new d (stops_all w c.pasts (f ∷ fs) new s c.are_open)

-- ---- elsewhere, where the same is known of what was asked for

-- a search that a file is entered by
pub record Found-by (w : World) (target : Target) (old new : PpDone) (f : Found) : Type 0 where
  pub asked : List (List ℕ)
  pub resolved : Resolved
  pub finds : Finds w target asked resolved
  pub arrives : arrived_in w target asked resolved old ≡ Enters f.number f.path f.text new

abbrev is_need : Reached → Type 0
is_need reached.Nothing = ⊥
is_need (reached.Enters f) = ⊥
is_need (reached.Needs path deps) = Unit {0}

by_resolved : (w : World) (target : Target) (old new : PpDone) (f : Found) (asked : List (List ℕ)) (found : Resolved) → Finds w target asked found → Arrives target found (map (dep_of w.known) asked) old new (reached.Enters f) → Found-by w target old new f
by_resolved w target old new f asked (resolved.File path text) finds h = record { asked = asked; resolved = resolved.File path text; finds = finds; arrives = h }
by_resolved w target old new f asked (resolved.Failed path) finds h = record { asked = asked; resolved = resolved.Failed path; finds = finds; arrives = h }
by_resolved w target old new f asked resolved.Missing finds h = record { asked = asked; resolved = resolved.Missing; finds = finds; arrives = h }
by_resolved w target old new f asked (resolved.Need path) finds h = absurd (subst is_need (sym h.0) tt)

pub found_by : (w : World) (target : Target) (old new : PpDone) (f : Found) → Looks w target old new (reached.Enters f) → Found-by w target old new f
found_by w target old new f l = by_resolved w target old new f l.asked l.resolved l.finds l.arrives

pub found_deps : (w : World) (target : Target) (old new : PpDone) (f : Found) → (l : Found-by w target old new f) → new.deps ≡ old.deps ++ map (dep_of w.known) l.asked
found_deps w target old new f l = arrival_deps w target l.asked l.resolved old (Enters f.number f.path f.text new) l.arrives

pub found_same : (other : List ℕ → Known) (w : World) (target : Target) (old new : PpDone) (f : Found) → Found-by w target old new f → Agree other new.deps → Found-by (elsewhere other w) target old new f
found_same other w target old new f l h =
    let s = asked_same other w old l.asked new.deps (found_deps w target old new f l) h in
    record {
      asked = l.asked;
      resolved = l.resolved;
      finds = resolves_same other w.known _ l.asked l.resolved s l.finds;
      arrives = arrives_same other w target l.asked l.resolved old (Enters f.number f.path f.text new) s l.arrives;
    }

pub found_before : (other : List ℕ → Known) (w : World) (target : Target) (old new : PpDone) (f : Found) → Found-by w target old new f → Agree other new.deps → Agree other old.deps
found_before other w target old new f l h = front_agrees other old.deps (map (dep_of w.known) l.asked) (subst (Agree other) (found_deps w target old new f l) h)

-- what was asked for since agrees
all_agree : (known : List ℕ → Known) (deps : List Dep) (asked : List (List ℕ)) → Agree known deps → Agree known (deps ++ map (dep_of known) asked)
all_agree known [] [] h = tt
all_agree known [] (p ∷ ps) h = (refl, all_agree known [] ps tt)
all_agree known (d ∷ ds) asked h = (h.0, all_agree known ds asked h.1)

pub noted_agree : (known : List ℕ → Known) (old new : List Dep) (before after : List (List ℕ)) → Agree known old → IsNoted known old new before after → Agree known new
noted_agree known old new before after h n = subst (Agree known) (sym n.are) (all_agree known old n.asked h)

pub noted_before : (other known : List ℕ → Known) (old new : List Dep) (before after : List (List ℕ)) → IsNoted known old new before after → Agree other new → Agree other old
noted_before other known old new before after n h = front_agrees other old (map (dep_of known) n.asked) (subst (Agree other) n.are h)

-- no file is open that could name a header
pub no_file : (w : World) (first now : PpDone) (target : Target) → Continues w first now [] (Some target) → Continues w first now [] None
no_file w first now target c = record { pasts = c.pasts; are_open = c.are_open; goes = c.goes }

-- a file that is entered is known to have its text
pub found_there : (other : List ℕ → Known) (w : World) (target : Target) (old new : PpDone) (f : Found) → Found-by w target old new f → Agree other new.deps → other f.path ≡ state.Found f.text
found_there other w target old new f l h =
    let there = found_same other w target old new f l h in
    subst (AreKnown other) there.arrives (resolved_known other _ there.asked there.resolved target (with_asked_paths other there.asked old) there.finds)
