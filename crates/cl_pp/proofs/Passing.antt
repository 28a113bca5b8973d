-- The lines of a file are gone over, up to one that names a header.
use Rattle.std.proofs.Common.{◌≡◌, ℕ, ◌+◌, ◌<◌, ◌≤◌, List, ◌∷◌, Bool, true, false, Option, Some, None, sym, ap, subst, ◌∙◌, length, drop, get_or}
use Rattle.std.specs.Prelude.{reverse}
use Rattle.std.specs.Ordering.{nat_cmp}
use Rattle.std.specs.BTreeMap.{get}
use Rattle.std.proofs.lemmas.List.{drop_all}
use Rattle.cl_base.specs.Lines.{IsTableOf}
use Rattle.cl_base.specs.declared.macros.Macro.{Macro}
use Rattle.cl_base.specs.declared.macros.MacroNo.{MacroNo}
use Rattle.cl_base.specs.declared.token.Token.{Token}
use Rattle.cl_cond.specs.declared.mark.Mark.{Mark}
use Rattle.cl_cond.specs.declared.mark.Part.{Part}
use Rattle.cl_headers.specs.declared.dep.Dep.{Dep}
use Rattle.cl_macro.specs.declared.table.MacroTable.{MacroTable}
use Rattle.cl_pp.specs.declared.aim.Aim.{Aim}
use Rattle.cl_pp.specs.declared.aim.Aim.TheVariants.{Header}
use Rattle.cl_pp.specs.declared.aim.Target.{Target}
use Rattle.cl_pp.specs.declared.done.PpDone.{PpDone}
use Rattle.cl_pp.specs.declared.made.File.{File}
use Rattle.cl_pp.specs.declared.made.Opened.{Opened}
use Rattle.cl_pp.specs.declared.made.Place.{Place}
use Rattle.cl_pp.specs.declared.made.Source.{Source}
use Rattle.cl_pp.specs.declared.section.Section.{Section}
use Rattle.cl_pp.specs.Activity.{Passed, Question}
use Rattle.cl_pp.specs.Lines.{line_of, told}
use Rattle.cl_pp.specs.Places.{Within}
use Rattle.cl_pp.specs.Preprocessing.{Does, Goes, State, World}
use Rattle.cl_pp.specs.Standing.{is_stopped, last_of, stopped_by}
use Rattle.cl_pp.specs.code.Going.{ComesBy}
use Rattle.cl_pp.specs.code.Keeping.{Keeps, Suits}
use Rattle.cl_pp.specs.code.Reaching.{IsLaid}
use Rattle.cl_pp.specs.code.Resuming.{IsAt, Passes}
use Rattle.cl_pp.specs.code.Stacks.{Stand, is_skipped, stacked, tell, top_of}
use Rattle.cl_pp.proofs.Going.{Gone, gone_to}
use Rattle.cl_pp.proofs.Reading.{line_deps, within_tokens}
use Rattle.cl_pp.proofs.Standing.{stand_on}

pub suits_laid : (file : File) (source : Source) (opened : Opened) (w : World) → IsLaid source.text opened → IsAt source w → source.opened.value ≡ opened
    → file.number ≡ source.number → file.path.now ≡ source.path → file.lines.now ≡ opened.lines → file.told.now ≡ opened.told → Suits file w
suits_laid file source opened w laid at e n p l t = record {
  number = n ∙ at.file;
  path = p ∙ at.path;
  lines = subst (λ (x : List ℕ). IsTableOf file.lines.now x) at.text (rw l laid.lines);
  begins = λ i. ap (λ m. get nat_cmp m i) t ∙ laid.begins i ∙ ap (λ (o : Opened). told o.lexed.faults i) (sym e) ∙ ap (λ f. f i) at.begins;
  tells = at.tells;
}

-- a line leaves the headers that were asked for as they were
pub line_stays : (ms : List ℕ → Option Macro) (ns : List ℕ → Option MacroNo) (file : File) (text : List ℕ) (opened : Opened) (macros : MacroTable) (answer : Question → Bool) (tokens : List Token) (mark : Mark) (old new : PpDone) (held : Bool) (aim : Aim)
    → IsLaid text opened → tokens ≡ opened.lexed.tokens → file.lines.now ≡ opened.lines
    → ((w : World) → Suits file w → Within (length w.text) tokens → ComesBy ms ns file w macros answer mark (line_of tokens mark) old held aim new) → new.deps ≡ old.deps
line_stays ms ns file text opened macros answer tokens mark old new held aim laid e l h =
    line_deps ms ns file text macros answer mark (line_of tokens mark) old new held aim (rw l laid.lines)
    (λ w s t. h w s (within_tokens text w.text opened.lexed.tokens tokens e (sym t) laid.order))

pub skipped_by : (part : Part) (top view : List Section) (b : Bool) → view ≡ top → b ≡ is_skipped part (top_of (reverse view)) → b ≡ true → is_skipped part (top_of (reverse top)) ≡ true
skipped_by part top view b e f t = ap (λ (ss : List Section). is_skipped part (top_of (reverse ss))) (sym e) ∙ sym f ∙ t

-- whether work is stopped hangs on the headers that were asked for alone
pub goes_still : (old new : PpDone) → new.deps ≡ old.deps → is_stopped old ≡ false → is_stopped new ≡ false
goes_still old new e f = ap (λ (ds : List Dep). stopped_by (last_of ds)) e ∙ f

carried : (w : World) (a b : List Token) (x y : List Mark) (s t : State) → a ≡ b → x ≡ y → Goes w a x s t → Goes w b y s t
carried w a b x y s t e f g = subst (λ (ts : List Token). Goes w ts y s t) e (subst (λ (ms : List Mark). Goes w a ms s t) f g)

-- no line is left
pub passes_all : (w : World) (opened : Opened) (tokens : List Token) (marks : List Mark) (past : List Passed) (from to : Place) (first now : PpDone) → tokens ≡ opened.lexed.tokens → marks ≡ opened.marks
    → length marks ≤ to.next → Gone w tokens marks past first now (reverse to.sections) from.next to.next → Passes w opened past from first to now None
passes_all w opened tokens marks past from to first now e f l g = record {
  passed = g.past;
  stands = g.stands;
  last = ap (drop to.next) (sym f) ∙ drop_all to.next marks l;
  goes = λ mid t n later.
      let here = subst (λ (d : PpDone). Goes w opened.lexed.tokens (drop to.next opened.marks) (record { past = g.past; done = d }) t) n later in
      carried w tokens opened.lexed.tokens (drop from.next marks) (drop from.next opened.marks) (record { past = past; done = first }) t e (ap (drop from.next) f)
      (g.goes t (carried w opened.lexed.tokens tokens (drop to.next opened.marks) (drop to.next marks) (record { past = g.past; done = now }) t (sym e) (ap (drop to.next) (sym f)) here));
}

-- the next line names a header
pub passes_to : {ms : List ℕ → Option Macro} {ns : List ℕ → Option MacroNo} (file : File) (w : World) (opened : Opened) (macros : MacroTable) (tokens : List Token) (marks : List Mark) (past : List Passed) (from to : Place) (i : ℕ) (d mark : Mark) (first old now : PpDone) (before : List Section)
    (held : Bool) (aim : Aim) (target : Target) → tokens ≡ opened.lexed.tokens → marks ≡ opened.marks → to.next ≡ i + 1 → i < length marks → mark ≡ get_or marks i d → is_stopped old ≡ false
    → Suits file w → Keeps ms ns w.start macros old → ComesBy ms ns file w macros (tell (top_of before)) mark (line_of tokens mark) old held aim now → aim ≡ Header target → reverse to.sections ≡ stacked mark.part held before
    → Gone w tokens marks past first old before from.next i → Passes w opened past from first to now (Some target)
passes_to file w opened macros tokens marks past from to i d mark first old now before held aim target e f n l m q s k c a st g =
    let passed : Passed = record { part = mark.part; held = held } in
    record {
      passed = passed ∷ g.past;
      stands = subst (Stand (passed ∷ g.past)) (sym st) (stand_on g.past before passed g.stands);
      last = tt;
      goes = λ mid t does later.
          let here : Goes w tokens (drop (i + 1) marks) (record { past = passed ∷ g.past; done = mid }) t =
          carried w opened.lexed.tokens tokens (drop to.next opened.marks) (drop (i + 1) marks) (record { past = passed ∷ g.past; done = mid }) t (sym e) (λ j. drop (n j) (sym f j)) later in
          carried w tokens opened.lexed.tokens (drop from.next marks) (drop from.next opened.marks) (record { past = past; done = first }) t e (ap (drop from.next) f)
          (gone_to file w macros tokens marks from.next i d mark past first old now mid before held aim t l m q s k c (subst (λ (x : Aim). Does w x now mid) (sym a) does) g here);
    }
