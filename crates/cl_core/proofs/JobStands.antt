-- The end of a job, its need, a read, and the end of the input keep what a core stands for.
use Rattle.std.proofs.Common.{◌≡◌, ◌⊎◌, ⊎_elim, ℕ, ◌+◌, ◌<◌, ◌≤◌, List, [], ◌∷◌, ◌++◌, length, map, reverse, not, refl, sym, ap, ◌∙◌, subst, arith, nat_eq, Bool, true, false}
use Rattle.std.specs.Prelude.{Contains, Option, Some, None, is_some, if◌then◌else◌, slice_get}
use Rattle.std.specs.Bool.{MatchBool}
use Rattle.std.specs.List.{AllByRecursion}
use Rattle.std.specs.Str.{bytes_eq}
use Rattle.std.specs.Cmp.Lexicographic.{same_text}
use Rattle.std.proofs.lemmas.List.{reverse-append, length-reverse}
use Rattle.cl_base.specs.declared.headers.Known.{Known}
use Rattle.cl_base.specs.declared.headers.Read.{Read}
use Rattle.cl_headers.specs.Headers.{Headers, known_at}
use Rattle.cl_rpc.specs.declared.out.How.{How}
use Rattle.cl_rpc.specs.declared.out.How.TheVariants as how
use Rattle.cl_rpc.specs.declared.out.Out.{Out}
use Rattle.cl_query.specs.declared.job.Job.{Job}
use Rattle.cl_headers.specs.declared.dep.Dep.{Dep}
use Rattle.cl_query.specs.AnswerOf.{NeedsOf}
use Rattle.cl_query.specs.Over.{IsOver}
use Rattle.cl_history.specs.declared.entry.Entry.{Entry}
use Rattle.cl_history.specs.declared.entry.Entry.TheVariants as entry
use Rattle.cl_history.specs.Given.{Given}
use Rattle.cl_history.specs.History.{text_at, without}
use Rattle.cl_history.specs.Headers.{AreHeadersAt, headers_at, last_read, or_before, past_at, text_or, told}
use Rattle.cl_history.specs.Legal.{Due, owed, rest_of, place, IsMark, MayAnswer, MayLoad, MayReply}
use Rattle.cl_core.specs.declared.core_state.Core.{Core}
use Rattle.cl_core.specs.declared.core_state.Awaited.{Awaited}
use Rattle.cl_core.specs.declared.event.Ending.{Ending}
use Rattle.cl_core.specs.declared.event.Effect.{Effect}
use Rattle.cl_core.specs.declared.waiting.Waiting.{Waiting}
use Rattle.cl_core.specs.Waiting.{number_of}
use Rattle.cl_core.specs.Steps.{Replies, Completes, Stops, StartsAgain, Awaits, Lacks, Loads, IsLost, again, begun_again, replied}
use Rattle.cl_core.specs.Standing.{past_of, Asks, AwaitsSo, StandsAt, StandsFor}
use Rattle.cl_core.proofs.Onto.{past_kept_one, past_whole}
use Rattle.cl_core.proofs.Waits.{messages_left, contains_as, one_of, all_left}

-- the state that a job's reply rests on: that of its start, or that of its end
abbrev pub IsGiven : Core → Job → ℕ → How → Type 0
IsGiven old job mark how.Answered = mark ≡ job.mark
IsGiven old job mark how.Memory = mark ≡ length old.journal
IsGiven old job mark how.Refused = ⊥
IsGiven old job mark how.Cancelled = ⊥
IsGiven old job mark how.Modified = ⊥

pub past_with : (old : List Entry) (e : Entry) → reverse (old ++ e ∷ []) ≡ e ∷ reverse old
past_with old e = reverse-append old (e ∷ [])

-- ---- the reply to a job that ended

-- a request that waits asks on after a reply, and after a read
asks_after_reply : (given : Given) (past : List Entry) (m mark : ℕ) (h : How) (w : Waiting) → Asks given past w → Asks given (entry.Reply m mark h ∷ past) w
asks_after_reply given past m mark h w a =
    let now : w.job.mark ≤ length past = a.marked.by_now in
    record {
      said_so = a.said_so;
      received_so = a.received_so;
      over = a.over;
      at_version = a.at_version;
      marked = record { later = a.marked.later; by_now = omega arith };
      headers = subst (λ (some : List Entry). AreHeadersAt given some w.job.headers) (sym (past_kept_one (entry.Reply m mark h) past w.job.mark now)) a.headers;
      config = a.config;
      initialised = a.initialised;
    }

asks_after_load : (given : Given) (past : List Entry) (n : ℕ) (w : Waiting) → Asks given past w → Asks given (entry.Load n ∷ past) w
asks_after_load given past n w a =
    let now : w.job.mark ≤ length past = a.marked.by_now in
    record {
      said_so = a.said_so;
      received_so = a.received_so;
      over = a.over;
      at_version = a.at_version;
      marked = record { later = a.marked.later; by_now = omega arith };
      headers = subst (λ (some : List Entry). AreHeadersAt given some w.job.headers) (sym (past_kept_one (entry.Load n) past w.job.mark now)) a.headers;
      config = a.config;
      initialised = a.initialised;
    }

-- the request of the job waits, so it may be answered
may_answer : (given : Given) (core : Core) (w : Waiting) (mark : ℕ) (h : How)
    → StandsFor given core → Contains core.pending w → IsGiven core w.job mark h → MayAnswer given (past_of core) w.job.message mark h
may_answer given core w mark how.Answered s waits is =
    let a = one_of (Asks given (past_of core)) core.pending w s.asks waits in (
      subst (λ (ns : List ℕ). Contains ns w.job.message) s.waiting (contains_as number_of core.pending w waits),
      subst (IsMark (past_of core) w.job.message) (sym is) a.marked,
    )
may_answer given core w mark how.Memory s waits is = (
  subst (λ (ns : List ℕ). Contains ns w.job.message) s.waiting (contains_as number_of core.pending w waits),
  is ∙ sym (length-reverse core.journal),
)
may_answer given core w mark how.Refused s waits is = absurd is
may_answer given core w mark how.Cancelled s waits is = absurd is
may_answer given core w mark how.Modified s waits is = absurd is

reply_stands : (given : Given) (old new : Core) (worked : Job) (seen : List Dep) (mark : ℕ) (h : How) (o : Out) (effects : List Effect)
    → StandsFor given old → old.awaited ≡ None → ((job : Job) → IsOver worked seen job → IsGiven old job mark h) → Replies old worked seen mark h o new effects → StandsFor given new
reply_stands given old new worked seen mark h o effects s none is r =
    let job = r.waiting.job in
    let may : MayAnswer given (past_of old) job.message mark h = may_answer given old r.waiting mark h s r.waits (is job r.over) in
    let follows : MayReply given (past_of old) (owed given (past_of old)) job.message mark h =
    subst (λ (due : List Due). MayReply given (past_of old) due job.message mark h) (sym s.none_due) may in
    subst (StandsFor given) (sym r.new_is) (subst (StandsAt given (replied old job mark h)) (sym (past_with old.journal (entry.Reply job.message mark h))) (record {
      config = s.config;
      initialised = s.initialised;
      shut_down = s.shut_down;
      once_initialised = s.once_initialised;
      texts = s.texts;
      versions = s.versions;
      headers = s.headers;
      count = s.count;
      reads = s.reads;
      waiting = messages_left job.message old.pending ∙ ap (without job.message) s.waiting;
      asks = all_left (Asks given (past_of old)) (Asks given (entry.Reply job.message mark h ∷ past_of old)) (λ (w : Waiting). not (nat_eq w.job.message job.message)) old.pending
          (asks_after_reply given (past_of old) job.message mark h) s.asks;
      awaits = λ a some. absurd (let bad : ◌≡◌ {A = Option Awaited} None (Some a) = sym none ∙ some in cc);
      follow = (follows, s.follow);
      none_due = ap rest_of s.none_due;
    }))

pub same_stands : (given : Given) (old new : Core) → new ≡ old → StandsFor given old → StandsFor given new
same_stands given old new e s = subst (StandsFor given) (sym e) s

pub job_stands : (given : Given) (old new : Core) (worked : Job) (seen : List Dep) (mark : ℕ) (h : How) (o : Out) (effects : List Effect)
    → StandsFor given old → old.awaited ≡ None → ((job : Job) → IsOver worked seen job → IsGiven old job mark h) → Completes old worked seen mark h o new effects → StandsFor given new
job_stands given old new worked seen mark h o effects s none is c =
    ⊎_elim (λ r. reply_stands given old new worked seen mark h o effects s none is r) (λ q. same_stands given old new q.same s) c

-- ---- a job that begins again

number_again : (b : Bool) (w : Waiting) (number mark : ℕ) (headers : Headers) → number_of (if b then record w { job = again number mark headers w.job } else w) ≡ number_of w
number_again true w number mark headers = refl
number_again false w number mark headers = refl

pub numbers_again : (m number mark : ℕ) (headers : Headers) (ws : List Waiting) → map number_of (begun_again m number mark headers ws) ≡ map number_of ws
numbers_again m number mark headers [] = refl
numbers_again m number mark headers (w ∷ ws) = rw (number_again (nat_eq w.job.message m) w number mark headers, numbers_again m number mark headers ws) refl

asks_again : (b : Bool) (given : Given) (past : List Entry) (w : Waiting) (number mark : ℕ) (headers : Headers) → mark ≡ length past → AreHeadersAt given past headers → place past w.job.message < mark → Asks given past w
    → Asks given past (if b then record w { job = again number mark headers w.job } else w)
asks_again true given past w number mark headers whole known later a = record {
  said_so = a.said_so;
  received_so = a.received_so;
  over = a.over;
  at_version = a.at_version;
  marked = record { later = later; by_now = omega (arith, whole) };
  headers = subst (λ (some : List Entry). AreHeadersAt given some headers) (sym (ap (past_at past) whole ∙ past_whole past)) known;
  config = a.config;
  initialised = a.initialised;
}
asks_again false given past w number mark headers whole known later a = a

pub all_again : (given : Given) (past : List Entry) (m number mark : ℕ) (headers : Headers) (ws : List Waiting) → mark ≡ length past → AreHeadersAt given past headers
    → AllByRecursion (Asks given past) ws → AllByRecursion (Asks given past) (begun_again m number mark headers ws)
all_again given past m number mark headers [] whole known all = tt
all_again given past m number mark headers (w ∷ ws) whole known all =
    let a = all.0.marked in
    let l1 : place past w.job.message < w.job.mark = a.later in
    let l2 : w.job.mark ≤ length past = a.by_now in
    let later : place past w.job.message < mark = omega (arith, whole) in
    (asks_again (nat_eq w.job.message m) given past w number mark headers whole known later all.0, all_again given past m number mark headers ws whole known all.1)

starts_again_stands : (given : Given) (old new : Core) (job : Job) (effects : List Effect) → StandsFor given old → old.awaited ≡ None → StartsAgain old job new effects → StandsFor given new
starts_again_stands given old new job effects s none r = subst (StandsFor given) (sym r.new_is) (record {
  config = s.config;
  initialised = s.initialised;
  shut_down = s.shut_down;
  once_initialised = s.once_initialised;
  texts = s.texts;
  versions = s.versions;
  headers = s.headers;
  count = s.count;
  reads = s.reads;
  waiting = numbers_again job.message old.jobs (length old.journal) old.headers old.pending ∙ s.waiting;
  asks = all_again given (past_of old) job.message old.jobs (length old.journal) old.headers old.pending (sym (length-reverse old.journal)) s.headers s.asks;
  awaits = λ a some. absurd (let bad : ◌≡◌ {A = Option Awaited} None (Some a) = sym none ∙ some in cc);
  follow = s.follow;
  none_due = s.none_due;
})

-- ---- a read is awaited

some_awaited : (x a : Awaited) → ◌≡◌ {A = Option Awaited} (Some x) (Some a) → x ≡ a
some_awaited x a e = ap (λ (o : Option Awaited). elim o [ None ↦ x | Some y ↦ y ]) e

unknown_by : (o : Option Known) → is_some o ≡ false → o ≡ None
unknown_by None e = refl
unknown_by (Some k) e = absurd (cc)

awaits_stands : (given : Given) (old new : Core) (path : List ℕ) (effects : List Effect) (w : Waiting) → StandsFor given old → Contains old.pending w
    → NeedsOf w.job.kind w.job.config w.job.headers w.job.path w.job.text path → known_at old.headers path ≡ None → Awaits old w.job path new effects → StandsFor given new
awaits_stands given old new path effects w s waits needs_it is_unknown r =
    let x : Awaited = record { message = w.job.message; path = path } in
    let here : AwaitsSo (record old { awaited = Some x }) x = record {
      waiting = w;
      waits = waits;
      works_for = refl;
      needs_it = needs_it;
      is_unknown = is_unknown;
    } in
    subst (StandsFor given) (sym r.new_is) (record {
      config = s.config;
      initialised = s.initialised;
      shut_down = s.shut_down;
      once_initialised = s.once_initialised;
      texts = s.texts;
      versions = s.versions;
      headers = s.headers;
      count = s.count;
      reads = s.reads;
      waiting = s.waiting;
      asks = s.asks;
      awaits = λ a some. subst (AwaitsSo (record old { awaited = Some x })) (some_awaited x a some) here;
      follow = s.follow;
      none_due = s.none_due;
    })

pub by_known : (b : Bool) (A B C : Type 0) → MatchBool b A B → (A → C) → (b ≡ false → B → C) → C
by_known true A B C m f g = f m
by_known false A B C m f g = g refl m

pub need_stands : (given : Given) (old new : Core) (worked : Job) (seen : List Dep) (path : List ℕ) (effects : List Effect)
    → StandsFor given old → old.awaited ≡ None → ((job : Job) → IsOver worked seen job → NeedsOf job.kind job.config job.headers job.path job.text path)
    → Lacks old worked seen path new effects → StandsFor given new
need_stands given old new worked seen path effects s none needs_it c = ⊎_elim
    (λ r. by_known (is_some (known_at old.headers path)) (StartsAgain old r.waiting.job new effects) (Awaits old r.waiting.job path new effects) (StandsFor given new) r.so
    (λ restarts. starts_again_stands given old new r.waiting.job effects s none restarts)
    (λ e awaits. awaits_stands given old new path effects r.waiting s r.waits (needs_it r.waiting.job r.over) (unknown_by (known_at old.headers path) e) awaits))
    (λ q. same_stands given old new q.same s)
    c

-- ---- a read

none_text : (t : Option (List ℕ)) (h : Option Known) → text_or t h ≡ None → t ≡ None
none_text None h e = refl
none_text (Some text) h e = absurd (cc)

read_known : (b : Bool) (t : Option (List ℕ)) (h : Option Known) (k : Known) → (b ≡ true → t ≡ None) → (if b then Some k else text_or t h) ≡ text_or t (if b then Some k else h)
read_known true t h k none = rw (none refl) refl
read_known false t h k none = refl

pub load_stands : (given : Given) (old new : Core) (message : ℕ) (path : List ℕ) (read : Read) (effects : List Effect) (a : Awaited)
    → slice_get given.reads old.loads ≡ Some (path, read) → StandsFor given old → old.awaited ≡ Some a → a.message ≡ message → bytes_eq a.path path ≡ true
    → Loads old message path read new effects ⊎ IsLost old message new effects → StandsFor given new
load_stands given old new message path read effects a is s awaits number same c = ⊎_elim
    (λ r.
    let so : AwaitsSo old a = s.awaits a awaits in
    let past = past_of old in
    let asks : Asks given past so.waiting = one_of (Asks given past) old.pending so.waiting s.asks so.waits in
    let needed : a.path ≡ path = same_text a.path path (sym same) in
    let is_unknown : headers_at given past path ≡ None = ap (headers_at given past) (sym needed) ∙ sym (s.headers a.path) ∙ so.is_unknown in
    let closed : text_at given past path ≡ None = none_text (text_at given past path) (last_read given past path) is_unknown in
    let n = old.loads in
    let next = entry.Load n ∷ past in
    let known : AreHeadersAt given next new.headers = λ q.
    r.known q
    ∙ ap (λ (o : Option Known). if bytes_eq path q then Some (told read) else o) (s.headers q)
    ∙ read_known (bytes_eq path q) (text_at given past q) (last_read given past q) (told read) (λ e. ap (text_at given past) (sym (same_text path q (sym e))) ∙ closed)
    ∙ ap (λ (o : Option (List ℕ × Read)). text_or (text_at given past q) (or_before o q (last_read given past q))) (sym is) in
    let may : MayLoad NeedsOf given past n = record {
      next = s.reads;
      none_due = s.none_due;
      path = path;
      answer = read;
      is_read = is;
      is_unknown = is_unknown;
      is_needed = record {
        m = so.waiting.job.message;
        mark = so.waiting.job.mark;
        works = subst (λ (ns : List ℕ). Contains ns so.waiting.job.message) s.waiting (contains_as number_of old.pending so.waiting so.waits);
        marked = asks.marked;
        id = so.waiting.id;
        query = so.waiting.job.kind;
        path = so.waiting.job.path;
        said_so = asks.said_so;
        text = so.waiting.job.text;
        over = asks.over;
        headers = so.waiting.job.headers;
        known = asks.headers;
        needs_it = subst (λ (p : List ℕ). NeedsOf so.waiting.job.kind given.config so.waiting.job.headers so.waiting.job.path so.waiting.job.text p) needed
            (subst (λ c. NeedsOf so.waiting.job.kind c so.waiting.job.headers so.waiting.job.path so.waiting.job.text a.path) asks.config so.needs_it);
      };
    } in
    let long : length old.journal + 1 ≡ length next = ap (λ (k : ℕ). k + 1) (sym (length-reverse old.journal)) ∙ omega arith in
    let still : AllByRecursion (Asks given next) old.pending = each_after (past_of old) n old.pending s.asks in
    subst (StandsFor given) (sym r.new_is) (subst (StandsAt given _) (sym (past_with old.journal (entry.Load n))) (record {
      config = s.config;
      initialised = s.initialised;
      shut_down = s.shut_down;
      once_initialised = s.once_initialised;
      texts = s.texts;
      versions = s.versions;
      headers = known;
      count = s.count;
      reads = ap (λ (k : ℕ). k + 1) s.reads;
      waiting = numbers_again message old.jobs (length old.journal + 1) new.headers old.pending ∙ s.waiting;
      asks = all_again given next message old.jobs (length old.journal + 1) new.headers old.pending long known still;
      awaits = λ b some. absurd (cc);
      follow = (may, s.follow);
      none_due = refl;
    })))
    (λ q. same_stands given old new q.same s)
    c
  where
    each_after : (past : List Entry) (n : ℕ) (ws : List Waiting) → AllByRecursion (Asks given past) ws → AllByRecursion (Asks given (entry.Load n ∷ past)) ws
    each_after past n [] all = tt
    each_after past n (w ∷ ws) all = (asks_after_load given past n w all.0, each_after past n ws all.1)

-- ---- the end of the input

pub stop_stands : (given : Given) (old new : Core) (e : Ending) (effects : List Effect)
    → StandsFor given old → Stops old e new effects → StandsFor given new
stop_stands given old new e effects s stops = subst (StandsFor given) (sym stops.same) (record {
  config = s.config;
  initialised = s.initialised;
  shut_down = s.shut_down;
  once_initialised = s.once_initialised;
  texts = s.texts;
  versions = s.versions;
  headers = s.headers;
  count = s.count;
  reads = s.reads;
  waiting = s.waiting;
  asks = s.asks;
  awaits = λ a some. record {
    waiting = (s.awaits a some).waiting;
    waits = (s.awaits a some).waits;
    works_for = (s.awaits a some).works_for;
    needs_it = (s.awaits a some).needs_it;
    is_unknown = (s.awaits a some).is_unknown;
  };
  follow = s.follow;
  none_due = s.none_due;
})
