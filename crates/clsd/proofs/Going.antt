-- A session that goes on from frame to frame, and its ends.
use Rattle.std.proofs.Common.{◌≡◌, ◌⊎◌, ℕ, ◌+◌, ◌<◌, ◌≤◌, ◌^◌, List, [], ◌∷◌, ◌++◌, length, take, drop, Bool, true, false, refl, zero, suc, sym, ap, subst, ◌∙◌, append_assoc, append-nil, length-append, arith, inl, inr}
use Rattle.std.specs.Prelude.{Option, Some, Result, Ok, Err, reverse, slice_get, IsTrue}
use Rattle.std.proofs.lemmas.List.{take-append-drop, length-take-le}
use Rattle.cl_frames.specs.Frames.{EndsWithin, ReadsFrame, whole, wrong, cut, first, window}
use Rattle.cl_frames.specs.Sessions.{IsFront, SplitsInto, EndsAs, edge, bad, long, after_last}
use Rattle.cl_frames.specs.Sessions as frames
use Rattle.cl_frames.proofs.SessionLemmas.{front_nil, front_more, front_last, front_end, some_split, ends_wrong, ends_cut, ends_long}
use Rattle.cl_base.specs.Reads.{Reads}
use Rattle.cl_base.specs.declared.config.Settings.{Settings}
use Rattle.cl_base.specs.declared.memory.Memory.{Memory as NoMemory}
use Rattle.cl_frames.specs.declared.frame.Frame.TheVariants.{Body, End, Bad, Failed, Long, Memory}
use Rattle.cl_rpc.specs.Messages.{message_in}
use Rattle.cl_core.specs.declared.core_state.Core.{Core}
use Rattle.cl_history.specs.declared.entry.Entry.{Entry}
use Rattle.cl_core.specs.declared.event.Ending.{Ending}
use Rattle.cl_core.specs.declared.event.Ending.TheVariants as ending
use Rattle.cl_query.specs.AnswerOf.{AnswerOf}
use Rattle.cl_history.specs.Given.{Given, received, loaded}
use Rattle.cl_history.specs.History.{is_shut_down, pending}
use Rattle.cl_history.specs.Legal.{IsSettled}
use Rattle.cl_history.specs.Written.{Writes}
use Rattle.cl_core.specs.Steps.{status_of}
use Rattle.cl_core.specs.Standing.{IsIdle, StandsFor, journal_of, past_of, reads_taken}
use Rattle.clsd.proofs.InTime.{all_in_time}
use Rattle.clsd.proofs.Reading.{makes_more, makes_none, next_behind}
use Rattle.clsd.specs.Serving.{AreNext, ended_with, EndsInput, Holds, IsCutOff, Keeps, LeavesIdle, Making, Turns}
use Rattle.clsd.specs.declared.turn.Turn.{Turn}
use Rattle.clsd.specs.declared.turn.Turn.TheVariants.{Ends, SinkFailed, GoesOn}
use Rattle.clsd.specs.Sessions.{Close, at_exit, at_edge, at_bad, at_long, at_source, at_sink, at_memory, MakesReads, NoneLast, SerialSession, StatusIs, LeavesUnread, given_of, is_last, is_whole}

-- a serial session that made these reads, or some
abbrev pub Served : Settings → (bytes : List ℕ) → (before told : Option Reads) → (faults now : ℕ) → (left held : Option (List ℕ)) → List Entry → (code offset : ℕ) → Type 0
Served config bytes before told faults now left held journal code offset =
    (reads : Reads) × MakesReads before told faults now reads × SerialSession config bytes reads left held journal code offset

-- what holds before each frame: the bytes that were taken are the frames of the bodies that were bodies, and the core
-- and the sink stand for these and for the reads that were made, whatever comes
pub record Goes (config : Settings) (bytes : List ℕ) (before told : Option Reads) (faults faults_now : ℕ) (taken : ℕ) (left held : Option (List ℕ)) (core : Core) : Type 0 where
  pub front : List ℕ
  pub behind : List ℕ
  pub bodies : List (List ℕ)
  pub parts : bytes ≡ front ++ behind
  pub left_is : left ≡ Some behind
  pub taken_is : taken ≡ length front
  pub is_front : IsFront is_last front bodies
  pub count : core.messages ≡ length bodies
  pub now : List ℕ
  pub held_is : held ≡ Some now
  pub reads : Reads
  pub made : MakesReads before told faults faults_now reads
  pub loads : core.loads ≡ length reads
  pub keeps : (more : List (List ℕ)) (later : Reads) → Keeps (given_of config (bodies ++ more) (reads ++ later)) core now

-- ---- small facts

false_is : IsTrue false → ⊥
false_is e = absurd (cc)

pub holds_at : (held : Option (List ℕ)) (P : List ℕ → Type 0) (a : List ℕ) → held ≡ Some a → Holds held P → P a
holds_at held P a told h = let same : h.0 ≡ a = cc in subst P same h.2

pub found : (config : Settings) (reads : Reads) (bodies more : List (List ℕ)) (body : List ℕ) (n : ℕ) → n ≡ length bodies → slice_get (given_of config (bodies ++ body ∷ more) reads).messages n ≡ Some (message_in body)
found config reads [] more body n e = rw e refl
found config reads (x ∷ bodies) more body n e = rw e (found config reads bodies more body (length bodies) refl)

with_one : (bodies more : List (List ℕ)) (body : List ℕ) → (bodies ++ body ∷ []) ++ more ≡ bodies ++ body ∷ more
with_one bodies more body = append_assoc bodies (body ∷ []) more

length-one : (bodies : List (List ℕ)) (body : List ℕ) → length (bodies ++ body ∷ []) ≡ length bodies + 1
length-one bodies body = length-append bodies (body ∷ [])

-- ---- a session that ended

pub sealed : (config : Settings) (bytes taken rest : List ℕ) (left held : Option (List ℕ)) (bodies : List (List ℕ)) (reads : Reads) (ends : frames.Ending) (close : Close) (core : Core) (now unwritten : List ℕ) (code offset : ℕ)
    → bytes ≡ taken ++ rest → left ≡ Some rest → SplitsInto is_last 0 taken bodies ends
    → StandsFor (given_of config bodies reads) core → core.messages ≤ length bodies → (IsTrue (is_whole close) → core.messages ≡ length bodies)
    → core.loads ≤ length reads → (IsTrue (is_whole close) → core.loads ≡ length reads)
    → held ≡ Some now → Writes AnswerOf (given_of config bodies reads) (past_of core) (now ++ unwritten) → (IsTrue (is_whole close) → unwritten ≡ [])
    → IsSettled (given_of config bodies reads) (past_of core) → (IsTrue (is_whole close) → pending (given_of config bodies reads) (past_of core) ≡ [])
    → StatusIs close (is_shut_down (given_of config bodies reads) (past_of core)) ends code offset → LeavesUnread close bytes taken rest bodies offset
    → SerialSession config bytes reads left held (journal_of core) code offset
sealed config bytes taken rest left held bodies reads ends close core now unwritten code offset parts left_is framed stands few all few_reads all_reads held_is writes filled settled none status unread = record {
  session = record {
    taken = taken;
    rest = rest;
    parts = parts;
    left_is = left_is;
    bodies = bodies;
    ends = ends;
    close = close;
    messages = record {
      framed = framed;
      first = subst (λ (n : ℕ). n ≤ length bodies) stands.count few;
      all = λ e. sym stands.count ∙ all e;
    };
    loads = record {
      first = subst (λ (n : ℕ). n ≤ length reads) stands.reads few_reads;
      all = λ e. sym stands.reads ∙ all_reads e;
    };
    legal = record { follow = stands.follow; none_due = stands.none_due };
    written = record { now = now; unwritten = unwritten; held_is = held_is; writes = writes; all = filled };
    status = status;
    whole = none;
    unread = unread;
  };
  settled = settled;
  in_time = all_in_time (given_of config bodies reads) (past_of core) stands.follow settled;
}

-- it ended where the input did, or for want of memory
pub ended_input : (config : Settings) (bytes taken rest : List ℕ) (left held : Option (List ℕ)) (bodies : List (List ℕ)) (reads : Reads) (ends : frames.Ending) (close : Close) (old new : Core) (how : Ending) (now : List ℕ) (offset : ℕ) (res : Result ℕ NoMemory)
    → bytes ≡ taken ++ rest → left ≡ Some rest → SplitsInto is_last 0 taken bodies ends
    → held ≡ Some now → old.messages ≤ length bodies → (IsTrue (is_whole close) → old.messages ≡ length bodies) → old.loads ≡ length reads
    → ((b : Bool) → StatusIs close b ends (status_of how) offset) → LeavesUnread close bytes taken rest bodies offset
    → EndsInput (given_of config bodies reads) old how new now res
    → SerialSession config bytes reads left held (journal_of new) (ended_with res offset).status (ended_with res offset).at
ended_input config bytes taken rest left held bodies reads ends close old new how now offset (Ok status) parts left_is framed held_is few all loads stat unread over =
    let same : new.loads ≡ length reads = over.3 ∙ loads in
    sealed config bytes taken rest left held bodies reads ends close new now [] status offset parts left_is framed over.1.stands
    (subst (λ (n : ℕ). n ≤ length bodies) (sym over.2) few) (λ e. over.2 ∙ all e) (omega arith) (λ e. same) held_is (rw (append-nil now) over.1.writes) (λ e. refl) over.1.settled (λ e. over.1.none_pending)
    (subst (λ (s : ℕ). StatusIs close (is_shut_down (given_of config bodies reads) (past_of new)) ends s offset) (sym over.0) (stat (is_shut_down (given_of config bodies reads) (past_of new)))) unread
ended_input config bytes taken rest left held bodies reads ends close old new how now offset (Err memory) parts left_is framed held_is few all loads stat unread off =
    let same : new.loads ≡ length reads = off.2 ∙ loads in
    sealed config bytes taken rest left held bodies reads ends at_memory new now off.0.unwritten 7 0 parts left_is framed off.0.stands
    (subst (λ (n : ℕ). n ≤ length bodies) (sym off.1) few) (λ e. absurd (false_is e)) (omega arith) (λ e. absurd (false_is e)) held_is off.0.writes (λ e. absurd (false_is e)) off.0.settled (λ e. absurd (false_is e))
    (refl, refl) tt

-- ---- the next frame

taken_parts : (bytes front behind : List ℕ) (n : ℕ) → bytes ≡ front ++ behind → bytes ≡ (front ++ take n behind) ++ drop n behind
taken_parts bytes front behind n parts =
    parts ∙ ap (λ (w : List ℕ). front ++ w) (sym (take-append-drop n behind)) ∙ sym (append_assoc front (take n behind) (drop n behind))

-- a frame's body joins those that were bodies, and the reads that were made in its turn those that were made before
module _ (config : Settings) (bytes : List ℕ) (before told0 told : Option Reads) (faults faults0 faults1 at now : ℕ) (left0 held0 left held : Option (List ℕ)) (old new : Core) (text : List ℕ)
    (g : Goes config bytes before told0 faults faults0 at left0 held0 old) (room : at < 2 ^ 40) (read : ReadsFrame at now g.behind left (Body text)) where
  abbrev pub more_taken : List ℕ
  more_taken = g.front ++ take read.count g.behind

  abbrev pub more_given : List (List ℕ)
  more_given = g.bodies ++ text ∷ []

  -- what the turn of the body does, which ends so
  abbrev pub Turning : Result Turn NoMemory → Type 0
  Turning res = Making told0 told faults0 faults1 (reads_taken old)
      (λ given made. (was : List ℕ) → slice_get given.messages old.messages ≡ Some (message_in text) → Keeps given old was → held0 ≡ Some was → Turns given old (message_in text) new made held res)

  length_room : length g.front < 2 ^ 40
  length_room = subst (λ (n : ℕ). n < 2 ^ 40) g.taken_is room

  begins : first (window (length g.front) g.behind) ≡ whole text read.count
  begins = subst (λ (n : ℕ). first (window n g.behind) ≡ whole text read.count) g.taken_is read.tells

  -- the turn, whatever comes later
  turned : (res : Result Turn NoMemory) (turning : Turning res) (more : List (List ℕ)) (later : Reads)
      → Turns (given_of config (more_given ++ more) ((g.reads ++ turning.0) ++ later)) old (message_in text) new turning.0 held res
  turned res turning more later =
      rw (append_assoc g.reads turning.0 later)
      (turning.2 (given_of config (more_given ++ more) (g.reads ++ (turning.0 ++ later)))
      (subst (λ (n : ℕ). AreNext n turning.0 (g.reads ++ (turning.0 ++ later))) (sym g.loads) (next_behind g.reads turning.0 later)) g.now
      (rw (with_one g.bodies more text) (found config (g.reads ++ (turning.0 ++ later)) g.bodies more text old.messages g.count))
      (rw (with_one g.bodies more text) (g.keeps (text ∷ more) (turning.0 ++ later))) g.held_is)

  -- nothing comes later
  turned_last : (res : Result Turn NoMemory) (turning : Turning res) → Turns (given_of config more_given (g.reads ++ turning.0)) old (message_in text) new turning.0 held res
  turned_last res turning =
      subst (λ (bodies : List (List ℕ)). Turns (given_of config bodies (g.reads ++ turning.0)) old (message_in text) new turning.0 held res) (append-nil more_given)
      (subst (λ (reads : Reads). Turns (given_of config (more_given ++ []) reads) old (message_in text) new turning.0 held res) (append-nil (g.reads ++ turning.0)) (turned res turning [] []))

  makes : (res : Result Turn NoMemory) (turning : Turning res) → MakesReads before told faults faults1 (g.reads ++ turning.0)
  makes res turning = makes_more before told0 told faults faults0 faults1 g.reads turning.0 g.made turning.1

  next_parts : bytes ≡ more_taken ++ drop read.count g.behind
  next_parts = taken_parts bytes g.front g.behind read.count g.parts

  next_count : old.messages + 1 ≡ length more_given
  next_count = ap (λ (n : ℕ). n + 1) g.count ∙ sym (length-one g.bodies text)

  next_loads : (made : Reads) → old.loads + length made ≡ length (g.reads ++ made)
  next_loads made = ap (λ (n : ℕ). n + length made) g.loads ∙ sym (length-append g.reads made)

  framed_if : (b : Bool) → is_last text ≡ b → (e : frames.Ending) × SplitsInto is_last 0 more_taken more_given e
  framed_if true e = (after_last [], (front_last is_last g.front g.behind text g.bodies read.count g.is_front length_room begins e).1)
  framed_if false e = (
    edge,
    subst (λ (w : List ℕ). SplitsInto is_last 0 w more_given edge) (append-nil more_taken)
        (front_end is_last more_taken [] more_given edge (front_more is_last g.front g.behind text g.bodies read.count g.is_front length_room begins e) refl),
  )

  next_framed : (e : frames.Ending) × SplitsInto is_last 0 more_taken more_given e
  next_framed = framed_if (is_last text) refl

  -- the session ends after the body of an `exit`
  at_the_exit : (reads made : Reads) (status : ℕ) → reads ≡ g.reads ++ made
      → Turns (given_of config more_given reads) old (message_in text) new made held (Ok (Ends status))
      → SerialSession config bytes reads left held (journal_of new) status 0
  at_the_exit reads made status are (over, count, loads, exits, is) =
      let both = front_last is_last g.front g.behind text g.bodies read.count g.is_front length_room begins exits in
      let all_reads : new.loads ≡ length reads = loads ∙ next_loads made ∙ ap length (sym are) in
      sealed config bytes more_taken (drop read.count g.behind) left held more_given reads (after_last []) at_exit new over.0 [] status 0 next_parts read.left_is both.1 over.2.stands
      (let same : new.messages ≡ length more_given = count ∙ next_count in omega arith) (λ e. count ∙ next_count) (omega arith) (λ e. all_reads)
      over.1 (rw (append-nil over.0) over.2.writes) (λ e. refl) over.2.settled (λ e. over.2.none_pending)
      (is, refl, refl) (subst (λ (w : List ℕ). SplitsInto is_last 0 w more_given (after_last (drop read.count g.behind))) (sym g.parts) both.0)

  -- the session is cut off at a message
  at_a_cut : (reads made : Reads) (close : Close) (status : ℕ) → reads ≡ g.reads ++ made → is_whole close ≡ false
      → Holds held (IsCutOff (given_of config more_given reads) new) → new.messages ≤ old.messages + 1 → new.loads ≤ old.loads + length made
      → ((b : Bool) (e : frames.Ending) → StatusIs close b e status 0) → LeavesUnread close bytes more_taken (drop read.count g.behind) more_given 0
      → SerialSession config bytes reads left held (journal_of new) status 0
  at_a_cut reads made close status are short off few few_reads stat unread =
      let all_reads : old.loads + length made ≡ length reads = next_loads made ∙ ap length (sym are) in
      sealed config bytes more_taken (drop read.count g.behind) left held more_given reads next_framed.0 close new off.0 off.2.unwritten status 0 next_parts read.left_is next_framed.1 off.2.stands
      (let same : old.messages + 1 ≡ length more_given = next_count in omega arith) (λ e. absurd (false_is (rw (← short) e))) (omega arith) (λ e. absurd (false_is (rw (← short) e)))
      off.1 off.2.writes (λ e. absurd (false_is (rw (← short) e))) off.2.settled (λ e. absurd (false_is (rw (← short) e)))
      (stat _ _) unread

  -- the same by how a turn ended
  pub exit_turn : (turn : Turn) (status : ℕ) → turn ≡ Ends status → Turning (Ok turn) → Served config bytes before told faults faults1 left held (journal_of new) status 0
  exit_turn turn status is turning =
      let ends : Turning (Ok (Ends status)) = subst (λ (t : Turn). Turning (Ok t)) is turning in
      (g.reads ++ ends.0, makes (Ok (Ends status)) ends, at_the_exit (g.reads ++ ends.0) ends.0 status refl (turned_last (Ok (Ends status)) ends))

  pub sink_turn : (turn : Turn) → turn ≡ SinkFailed → Turning (Ok turn) → Served config bytes before told faults faults1 left held (journal_of new) 5 0
  sink_turn turn is turning =
      let ends : Turning (Ok SinkFailed) = subst (λ (t : Turn). Turning (Ok t)) is turning in
      let off = turned_last (Ok SinkFailed) ends in
      (g.reads ++ ends.0, makes (Ok SinkFailed) ends, at_a_cut (g.reads ++ ends.0) ends.0 at_sink 5 refl refl off.0 off.1 off.2 (λ b e. (refl, refl)) tt)

  pub memory_turn : (memory : NoMemory) → Turning (Err memory) → Served config bytes before told faults faults1 left held (journal_of new) 7 0
  memory_turn memory turning =
      let off = turned_last (Err memory) turning in
      (g.reads ++ turning.0, makes (Err memory) turning, at_a_cut (g.reads ++ turning.0) turning.0 at_memory 7 refl refl off.0 off.1 off.2 (λ b e. (refl, refl)) tt)

  -- it goes on
  pub goes_turn : (turn : Turn) → turn ≡ GoesOn → Turning (Ok turn) → Goes config bytes before told faults faults1 now left held new
  goes_turn turn is turning =
      let on : Turning (Ok GoesOn) = subst (λ (t : Turn). Turning (Ok t)) is turning in
      let here = turned (Ok GoesOn) on [] [] in
      record {
        front = more_taken;
        behind = drop read.count g.behind;
        bodies = more_given;
        parts = next_parts;
        left_is = read.left_is;
        taken_is = read.now_is ∙ ap (λ (n : ℕ). n + read.count) g.taken_is ∙ sym (length-append g.front (take read.count g.behind) ∙ ap (λ (n : ℕ). length g.front + n) (length-take-le read.count g.behind read.within));
        is_front = front_more is_last g.front g.behind text g.bodies read.count g.is_front length_room begins here.3;
        count = here.1 ∙ next_count;
        now = here.0.0;
        held_is = here.0.1;
        reads = g.reads ++ on.0;
        made = makes (Ok GoesOn) on;
        loads = here.2 ∙ next_loads on.0;
        keeps = λ more later. holds_at held (Keeps (given_of config (more_given ++ more) ((g.reads ++ on.0) ++ later)) new) here.0.0 here.0.1 (turned (Ok GoesOn) on more later).0;
      }

-- ---- no further frame

none_last : (at : ℕ) (bytes : List ℕ) (e : frames.Ending) → EndsAs at bytes e → NoneLast e
none_last at bytes edge h = tt
none_last at bytes (bad offset) h = tt
none_last at bytes long h = tt
none_last at bytes (after_last rest) h = absurd h

take_none : (n : ℕ) → take {A = ℕ} n [] ≡ []
take_none zero = refl
take_none (suc n) = refl

drop_none : (n : ℕ) → drop {A = ℕ} n [] ≡ []
drop_none zero = refl
drop_none (suc n) = refl

take_whole : (xs : List ℕ) → take (length xs) xs ≡ xs
take_whole [] = refl
take_whole (x ∷ xs) = ap (λ (w : List ℕ). x ∷ w) (take_whole xs)

take_nothing : (n : ℕ) (xs : List ℕ) → xs ≡ [] → take n xs ≡ []
take_nothing n xs e = rw e (take_none n)

drop_nothing : (n : ℕ) (xs : List ℕ) → xs ≡ [] → drop n xs ≡ []
drop_nothing n xs e = rw e (drop_none n)

-- what is kept where no read comes later
pub keeps_now : {config : Settings} {bytes : List ℕ} {before told : Option Reads} {faults faults_now at : ℕ} {left held : Option (List ℕ)} {old : Core} (g : Goes config bytes before told faults faults_now at left held old)
    (more : List (List ℕ)) → Keeps (given_of config (g.bodies ++ more) g.reads) old g.now
keeps_now {config = config} {old = old} g more = subst (λ (reads : Reads). Keeps (given_of config (g.bodies ++ more) reads) old g.now) (append-nil g.reads) (g.keeps more [])

pub given_keeps : {config : Settings} {bytes : List ℕ} {before told : Option Reads} {faults faults_now at : ℕ} {left held : Option (List ℕ)} {old : Core} (g : Goes config bytes before told faults faults_now at left held old)
    → Keeps (given_of config g.bodies g.reads) old g.now
given_keeps {config = config} {old = old} g = subst (λ (bodies : List (List ℕ)). Keeps (given_of config bodies g.reads) old g.now) (append-nil g.bodies) (keeps_now g [])

module _ (config : Settings) (bytes : List ℕ) (before told : Option Reads) (faults faults_now at now : ℕ) (left0 held left : Option (List ℕ)) (old : Core) (g : Goes config bytes before told faults faults_now at left0 held old) (room : at < 2 ^ 40) where
  pub front_room : length g.front < 2 ^ 40
  front_room = subst (λ (n : ℕ). n < 2 ^ 40) g.taken_is room

  few_given : old.messages ≤ length g.bodies
  few_given = let same : old.messages ≡ length g.bodies = g.count in omega arith

  -- the session ended with `count` bytes more, which are no frame
  ends_here : (count : ℕ) (ends : frames.Ending) (close : Close) (how : Ending) (offset : ℕ) (new : Core) (res : Result ℕ NoMemory)
      → left ≡ Some (drop count g.behind) → EndsAs (length g.front) (take count g.behind) ends
      → ((b : Bool) → StatusIs close b ends (status_of how) offset) → LeavesUnread close bytes (g.front ++ take count g.behind) (drop count g.behind) g.bodies offset
      → EndsInput (given_of config g.bodies g.reads) old how new g.now res
      → Served config bytes before told faults faults_now left held (journal_of new) (ended_with res offset).status (ended_with res offset).at
  ends_here count ends close how offset new res left_is here stat unread input = (
    g.reads,
    g.made,
    ended_input config bytes (g.front ++ take count g.behind) (drop count g.behind) left held g.bodies g.reads ends close old new how g.now offset res
        (taken_parts bytes g.front g.behind count g.parts) left_is (front_end is_last g.front (take count g.behind) g.bodies ends g.is_front here) g.held_is few_given (λ e. g.count) g.loads stat unread input,
  )

  pub at_the_edge : (new : Core) (res : Result ℕ NoMemory) → ReadsFrame at now g.behind left End → EndsInput (given_of config g.bodies g.reads) old ending.Edge new g.now res
      → Served config bytes before told faults faults_now left held (journal_of new) (ended_with res 0).status (ended_with res 0).at
  at_the_edge new res read input =
      ends_here read.count edge at_edge ending.Edge 0 new res read.left_is (take_nothing read.count g.behind read.tells) (λ b. (refl, refl, refl)) (drop_nothing read.count g.behind read.tells) input

  bad_as : (count offset : ℕ) → offset ≡ length g.front → (first (window (length g.front) g.behind) ≡ wrong) ⊎ EndsWithin (length g.front) g.behind count
      → (e : frames.Ending) × EndsAs (length g.front) (take count g.behind) e × EndsAs (length g.front) g.behind (bad offset)
  bad_as count offset is (inl w) =
      let e = ends_wrong (length g.front) count g.behind front_room w in
      (e.0, e.1, (is, inl w))
  bad_as count offset is (inr w) =
      let short : EndsAs (length g.front) g.behind (bad offset) = (is, inr (record { some = w.some; part = w.part; room = w.room })) in
      (bad offset, subst (λ (xs : List ℕ). EndsAs (length g.front) xs (bad offset)) (sym (ap (λ (n : ℕ). take n g.behind) w.all ∙ take_whole g.behind)) short, short)

  pub at_a_bad : (new : Core) (res : Result ℕ NoMemory) (offset : ℕ) → ReadsFrame at now g.behind left (Bad offset) → EndsInput (given_of config g.bodies g.reads) old ending.Bad new g.now res
      → Served config bytes before told faults faults_now left held (journal_of new) (ended_with res offset).status (ended_with res offset).at
  at_a_bad new res offset read input =
      let tells : (offset ≡ length g.front) × ((first (window (length g.front) g.behind) ≡ wrong) ⊎ EndsWithin (length g.front) g.behind read.count)
      = subst (λ (n : ℕ). (offset ≡ n) × ((first (window n g.behind) ≡ wrong) ⊎ EndsWithin n g.behind read.count)) g.taken_is read.tells in
      let three = bad_as read.count offset tells.0 tells.1 in
      ends_here read.count three.0 at_bad ending.Bad offset new res read.left_is three.1 (λ b. (refl, none_last (length g.front) (take read.count g.behind) three.0 three.1))
      (subst (λ (w : List ℕ). SplitsInto is_last 0 w g.bodies (bad offset)) (sym g.parts) (front_end is_last g.front g.behind g.bodies (bad offset) g.is_front three.2)) input

  pub at_a_fault : (new : Core) (res : Result ℕ NoMemory) → ReadsFrame at now g.behind left Failed → EndsInput (given_of config g.bodies g.reads) old ending.Failed new g.now res
      → Served config bytes before told faults faults_now left held (journal_of new) (ended_with res 0).status (ended_with res 0).at
  at_a_fault new res read input =
      let e = ends_cut (length g.front) read.count g.behind front_room read.within read.tells in
      ends_here read.count e.0 at_source ending.Failed 0 new res read.left_is e.1 (λ b. (refl, refl, none_last (length g.front) (take read.count g.behind) e.0 e.1)) tt input

  pub at_the_limit : (new : Core) (res : Result ℕ NoMemory) → ReadsFrame at now g.behind left Long → EndsInput (given_of config g.bodies g.reads) old ending.Long new g.now res
      → Served config bytes before told faults faults_now left held (journal_of new) (ended_with res 0).status (ended_with res 0).at
  at_the_limit new res read input =
      let tells : (first (window (length g.front) g.behind) ≡ cut) × (length g.front + read.count ≡ 2 ^ 40)
      = subst (λ (n : ℕ). (first (window n g.behind) ≡ cut) × (n + read.count ≡ 2 ^ 40)) g.taken_is read.tells in
      ends_here read.count long at_long ending.Long 0 new res read.left_is (ends_long (length g.front) read.count g.behind front_room read.within tells.1 tells.0) (λ b. (refl, refl, refl)) (
        length-append g.front (take read.count g.behind) ∙ ap (λ (n : ℕ). length g.front + n) (length-take-le read.count g.behind read.within) ∙ tells.1,
        subst (λ (w : List ℕ). SplitsInto is_last 0 w g.bodies long) (sym g.parts)
            (front_end is_last g.front g.behind g.bodies long g.is_front (tells.0, let room : length g.front + read.count ≡ 2 ^ 40 = tells.1 in let within : read.count ≤ length g.behind = read.within in omega arith)),
      ) input

  -- memory was wanting for a frame: some frames may have been taken whose bodies are no messages of the journal
  abbrev pub unseen : ReadsFrame at now g.behind left Memory → List (List ℕ)
  unseen read = (some_split is_last (length g.front) (take read.count g.behind) front_room).0

  pub for_memory : (new : Core) (res : Result ℕ NoMemory) (read : ReadsFrame at now g.behind left Memory) → EndsInput (given_of config (g.bodies ++ unseen read) g.reads) old ending.Memory new g.now res
      → Served config bytes before told faults faults_now left held (journal_of new) (ended_with res 0).status (ended_with res 0).at
  for_memory new res read input =
      let split = some_split is_last (length g.front) (take read.count g.behind) front_room in (
        g.reads,
        g.made,
        ended_input config bytes (g.front ++ take read.count g.behind) (drop read.count g.behind) left held (g.bodies ++ split.0) g.reads split.1 at_memory old new ending.Memory g.now 0 res
            (taken_parts bytes g.front g.behind read.count g.parts) read.left_is (g.is_front.joins (take read.count g.behind) split.0 split.1 split.2) g.held_is
            (let same : old.messages ≡ length g.bodies = g.count in omega (arith, length-append g.bodies split.0)) (λ e. absurd (false_is e)) g.loads (λ b. (refl, refl)) tt input,
      )

-- ---- the first frame

pub starts : (config : Settings) (bytes : List ℕ) (told : Option Reads) (faults : ℕ) (left held : Option (List ℕ)) (core : Core) (taken : ℕ) → taken ≡ 0 → left ≡ Some bytes → held ≡ Some []
    → ((given : Given) → given.config ≡ config → StandsFor given core) → journal_of core ≡ [] → IsIdle core → Goes config bytes told told faults faults taken left held core
starts config bytes told faults left held core taken none_taken left_is held_is stands none idle = record {
  front = [];
  behind = bytes;
  bodies = [];
  parts = refl;
  left_is = left_is;
  taken_is = none_taken;
  is_front = front_nil is_last;
  count = (stands (given_of config [] []) refl).count ∙ ap (λ (j : List Entry). received (reverse j)) none;
  now = [];
  held_is = held_is;
  reads = [];
  made = makes_none told told faults faults refl (let same : faults ≡ faults = refl in omega arith);
  loads = (stands (given_of config [] []) refl).reads ∙ ap (λ (j : List Entry). loaded (reverse j)) none;
  keeps = λ more later. record {
    stands = stands (given_of config more later) refl;
    writes = subst (λ (j : List Entry). Writes AnswerOf (given_of config more later) (reverse j) []) (sym none) refl;
    settled = subst (λ (j : List Entry). IsSettled (given_of config more later) (reverse j)) (sym none) tt;
    idle = idle;
  };
}

pub idle_turn : (new : Core) (turn : Turn) → turn ≡ GoesOn → LeavesIdle new (Ok turn) → IsIdle new
idle_turn new turn is idle = subst (λ (t : Turn). LeavesIdle new (Ok t)) is idle

-- a session for which memory was wanting at its start
never : (config : Settings) (bytes : List ℕ) (left held : Option (List ℕ)) → left ≡ Some bytes → held ≡ Some [] → SerialSession config bytes [] left held [] 7 0
never config bytes left held left_is held_is = record {
  session = record {
    taken = [];
    rest = bytes;
    parts = refl;
    left_is = left_is;
    bodies = [];
    ends = edge;
    close = at_memory;
    messages = record {
      framed = front_end is_last [] [] [] edge (front_nil is_last) refl;
      first = omega arith;
      all = λ e. refl;
    };
    loads = record { first = omega arith; all = λ e. refl };
    legal = record { follow = tt; none_due = refl };
    written = record { now = []; unwritten = []; held_is = held_is; writes = refl; all = λ e. refl };
    status = (refl, refl);
    whole = λ e. refl;
    unread = tt;
  };
  settled = tt;
  in_time = tt;
}

pub never_began : (config : Settings) (bytes : List ℕ) (told : Option Reads) (faults : ℕ) (left held : Option (List ℕ)) → left ≡ Some bytes → held ≡ Some [] → Served config bytes told told faults faults left held [] 7 0
never_began config bytes told faults left held left_is held_is =
    ([], makes_none told told faults faults refl (let same : faults ≡ faults = refl in omega arith), never config bytes left held left_is held_is)
