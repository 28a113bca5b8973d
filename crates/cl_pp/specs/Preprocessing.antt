-- What a text is after preprocessing (N1570 5.1.1.2 phase 4, 6.10): the lines of its file are gone over in order, and an
-- include line is gone over by the lines of the file that it enters.
use Rattle.std.specs.Prelude.{◌≡◌, ℕ, ◌+◌, ◌==◌, ◌<◌, ◌≤◌, Bool, true, false, if◌then◌else◌, List, [], ◌∷◌, ◌++◌, map, filter, Option, Some, None}
use Rattle.cl_base.specs.declared.token.Kind.{Kind}
use Rattle.cl_base.specs.declared.token.Span.{Span}
use Rattle.cl_base.specs.declared.token.Token.{Token}
use Rattle.cl_base.specs.declared.token.Diag.{Diag}
use Rattle.cl_base.specs.declared.token.Fault.{Fault}
use Rattle.cl_base.specs.declared.token.Lexed.{Lexed}
use Rattle.cl_base.specs.declared.headers.Known.{Known}
use Rattle.cl_base.specs.declared.config.Settings.{Settings}
use Rattle.cl_base.specs.declared.macros.Macro.{Macro}
use Rattle.cl_base.specs.Lines.{line_at}
use Rattle.cl_lex.specs.Lexing.{Lexes}
use Rattle.cl_cond.specs.declared.mark.Mark.{Mark}
use Rattle.cl_cond.specs.declared.mark.Groups.{Groups}
use Rattle.cl_cond.specs.Sections.{GroupsOf}
use Rattle.cl_headers.specs.Resolving.{Resolves, candidates}
use Rattle.cl_headers.specs.declared.resolving.Resolved.{Resolved}
use Rattle.cl_headers.specs.declared.resolving.Resolved.TheVariants as resolved
use Rattle.cl_macro.specs.Rules.{Rules, TellsTokens}
use Rattle.cl_macro.specs.Starting.{Given, start_of}
use Rattle.cl_macro.specs.Strings.{escaped, quoted}
use Rattle.cl_paths.specs.Parts.{folder}
use Rattle.cl_pp.specs.declared.aim.Aim.{Aim}
use Rattle.cl_pp.specs.declared.aim.Aim.TheVariants as aim
use Rattle.cl_pp.specs.declared.aim.Target.{Target}
use Rattle.cl_pp.specs.declared.done.PpDone.{PpDone}
use Rattle.cl_pp.specs.declared.done.PpAnswer.{PpAnswer}
use Rattle.cl_pp.specs.declared.done.PpAnswer.TheVariants as answer
use Rattle.cl_pp.specs.Activity.{Passed, says}
use Rattle.cl_pp.specs.Acts.{Act, act}
use Rattle.cl_pp.specs.Lines.{line_of, spread_fault, told}
use Rattle.cl_pp.specs.Runs.{runs}
use Rattle.cl_pp.specs.Standing.{Start, is_once, is_stopped, macro_at, number_at, number_in, wanted, with_asked_paths, with_faults, with_file, with_once}
use Rattle.cl_pp.specs.Taking.{Comes}

-- what the lines of a file go by: its number, path and text, how many include lines lead to it, and the faults of lexing by
-- the bytes at which they begin; and in every file which spellings are one token, what was there before the text, what is
-- known of each header, and the folders for headers
pub record World : Type 0 where
  pub file : ℕ
  pub depth : ℕ
  pub path : List ℕ
  pub text : List ℕ
  pub begins : ℕ → Option Fault
  pub one_token : List ℕ → Option Kind
  pub start : Start
  pub known : List ℕ → Known
  pub folders : List (List ℕ)

-- within the file: the lines that were passed, the newest first, and what stands
pub record State : Type 0 where
  pub past : List Passed
  pub done : PpDone

-- behind a line
abbrev pub behind : Mark → Bool → PpDone → State → State
behind mark held done s = record { past = record { part = mark.part; held = held } ∷ s.past; done = done }

-- how macros are replaced, where the names mean so (6.10.3, 6.10.8.1)
abbrev pub rules_in : World → (List ℕ → Option Macro) → Span → Rules
rules_in w macros at = record {
  macros = macros;
  one_token = w.one_token;
  here = record { file = quoted (escaped w.path); line = line_at w.text at.from + 1 };
}

module _ (w : World) (tokens : List Token) where
  -- what is done with a line where the names mean so
  abbrev pub act_at : (List ℕ → Option Macro) → State → Mark → Act
  act_at macros s mark = act w.file w.begins macros mark.part (λ q. says q 0 s.past) (line_of tokens mark) s.done

  -- what a line comes to: whether its condition is fulfilled, if it begins a branch, what it aims at, and what stands then
  abbrev pub ComesTo : State → Mark → Bool → Aim → PpDone → Type 0
  ComesTo s mark held aim done = Comes w.file (rules_in w (macro_at w.start s.done)) (number_at w.start s.done) (line_of tokens mark) (act_at (macro_at w.start s.done) s mark) held aim done

-- ---- headers

-- where the search for a header comes to: this stands then, or the file of this number, path and text is entered
pub data Arrival : Type 0 where
  Stays : PpDone → Arrival
  Enters : ℕ → List ℕ → List ℕ → PpDone → Arrival

-- a fault of a line that names a header
abbrev pub header_fault : ℕ → Target → List Diag
header_fault number target = record { number = number; at = target.at; name = None } ∷ []

abbrev pub arrived : Target → Resolved → PpDone → Arrival
arrived target (resolved.File path text) done = if is_once done path then Stays done else Enters (number_in done.files path) path text (with_file path done)
arrived target (resolved.Failed path) done = Stays (with_faults (header_fault 9 target) done)
arrived target (resolved.Need path) done = Stays done
arrived target resolved.Missing done = Stays (with_faults (header_fault 11 target) done)

-- the search for a header, from the folder of the file that names it
abbrev pub Finds : World → Target → List (List ℕ) → Resolved → Type 0
Finds w target asked found = Resolves w.known (candidates (folder w.path) target.name target.angled w.folders) asked found

-- where it comes to, with the paths that were asked
abbrev pub arrived_in : World → Target → List (List ℕ) → Resolved → PpDone → Arrival
arrived_in w target asked found done = arrived target found (with_asked_paths w.known asked done)

-- the file of this number, path and text, entered from here
abbrev pub below : World → ℕ → List ℕ → List ℕ → World
below w number path text = record w { file = number; depth = w.depth + 1; path = path; text = text; begins = told [] }

-- the document itself is entered by no include line
abbrev pub marked : World → PpDone → PpDone
marked w done = if w.depth == 0 then done else with_once w.file done

-- ---- files

-- a comment without an end is a fault wherever it stands
abbrev pub open_comments : ℕ → List Fault → List Diag
open_comments file faults = map (spread_fault file) (filter (λ fault. fault.number == 1) faults)

-- before the first line of a file, whose lexing and whose lines have these faults
abbrev pub begin : ℕ → List Fault → List Fault → PpDone → State
begin file lexed groups old = record { past = []; done = with_faults (open_comments file lexed ++ map (spread_fault file) groups) old }

abbrev pub lexed_by : World → List Fault → World
lexed_by w faults = record w { begins = told faults }

mutual
  -- The text of the file is gone over, from what stood before to what stands then.
  pub data Reads : World → PpDone → PpDone → Type 0 where
    read : (w : World) (old : PpDone) (lexed : Lexed) (groups : Groups) (t : State) → Lexes w.text lexed → GroupsOf lexed.tokens groups
        → Goes (lexed_by w lexed.faults) lexed.tokens (runs lexed.tokens groups.marks) (begin w.file lexed.faults groups.faults old) t → Reads w old t.done

  -- These lines of the file are gone over in order.
  pub data Goes : World → List Token → List Mark → State → State → Type 0 where
    end : (w : World) (tokens : List Token) (s : State) → Goes w tokens [] s s
    stop : (w : World) (tokens : List Token) (mark : Mark) (marks : List Mark) (s : State) → is_stopped s.done ≡ true → Goes w tokens (mark ∷ marks) s s
    line : (w : World) (tokens : List Token) (mark : Mark) (marks : List Mark) (s : State) (held : Bool) (aim : Aim) (mid done : PpDone) (t : State)
        → is_stopped s.done ≡ false → ComesTo w tokens s mark held aim mid → Does w aim mid done → Goes w tokens marks (behind mark held done s) t → Goes w tokens (mark ∷ marks) s t

  -- What a line aims at is done.
  pub data Does : World → Aim → PpDone → PpDone → Type 0 where
    nothing : (w : World) (done : PpDone) → Does w aim.Nothing done done
    once : (w : World) (done : PpDone) → Does w aim.Once done (marked w done)
    -- this file would be the 201st level. Nothing is asked
    deep : (w : World) (target : Target) (done : PpDone) → 200 ≤ w.depth → Does w (aim.Header target) done (with_faults (header_fault 10 target) done)
    stays : (w : World) (target : Target) (old done : PpDone) (asked : List (List ℕ)) (found : Resolved) → w.depth < 200 → Finds w target asked found
        → arrived_in w target asked found old ≡ Stays done → Does w (aim.Header target) old done
    enters : (w : World) (target : Target) (old mid done : PpDone) (asked : List (List ℕ)) (found : Resolved) (number : ℕ) (path text : List ℕ) → w.depth < 200 → Finds w target asked found
        → arrived_in w target asked found old ≡ Enters number path text mid → Reads (below w number path text) mid done → Does w (aim.Header target) old done

-- the first lines are gone over, and from what stands then the others
pub record Through (w : World) (tokens : List Token) (lines more : List Mark) (s t : State) : Type 0 where
  pub mid : State
  pub first : Goes w tokens lines s mid
  pub later : Goes w tokens more mid t

-- ---- a text

-- where nothing is known of the path that was asked last, it is needed
abbrev pub answer_by : Option (List ℕ) → PpDone → PpAnswer
answer_by None done = answer.Done done
answer_by (Some path) done = answer.Need path

abbrev pub answer_of : PpDone → PpAnswer
answer_of done = answer_by (wanted done.deps) done

-- what was there before a text, with the files that were entered, and those of them that are entered once only
pub record Before : Type 0 where
  pub start : Start
  pub files : List (List ℕ)
  pub once : List ℕ

abbrev pub before_lines : Before → PpDone
before_lines before = record { tokens = []; events = []; files = before.files; once = before.once; deps = []; uses = []; looked = []; faults = [] }

-- the document, which is the file 0
abbrev pub document : (List ℕ → Option Kind) → Start → (List ℕ → Known) → List (List ℕ) → List ℕ → List ℕ → World
document one_token start known folders path text =
    record { file = 0; depth = 0; path = path; text = text; begins = told []; one_token = one_token; start = start; known = known; folders = folders }

-- the lines of the text, gone over
pub record PreprocessesFrom (before : Before) (known : List ℕ → Known) (folders : List (List ℕ)) (path text : List ℕ) (answer : PpAnswer) : Type 0 where
  pub one_token : List ℕ → Option Kind
  pub tells : TellsTokens one_token
  pub done : PpDone
  pub reads : Reads (document one_token before.start known folders path text) (before_lines before) done
  pub is : answer ≡ answer_of done

-- where nothing was there but the macros that are predefined and those of the settings (6.10.8)
abbrev pub first_before : List Macro → Before
first_before macros = record { start = record { macros = start_of macros; numbers = λ name. None; events = 0 }; files = []; once = [] }

-- the text at a path, under these settings and where so much is known of headers
pub record Preprocesses (config : Settings) (known : List ℕ → Known) (path text : List ℕ) (answer : PpAnswer) : Type 0 where
  pub macros : List Macro
  pub given : Given config.defines macros
  pub preprocessed : PreprocessesFrom (first_before macros) known config.includes path text answer
