-- The lines of a file, one after the other.
use Rattle.std.proofs.Common.{◌≡◌, ℕ, ◌+◌, ◌<◌, List, ◌∷◌, Option, refl, sym, subst, length, drop, get_or, Bool, true, false}
use Rattle.std.specs.Prelude.{not, if◌then◌else◌}
use Rattle.std.specs.Ordering.{nat_cmp}
use Rattle.std.specs.BTreeMap.{get}
use Rattle.cl_base.specs.declared.macros.Macro.{Macro}
use Rattle.cl_base.specs.declared.macros.MacroNo.{MacroNo}
use Rattle.cl_base.specs.declared.token.Token.{Token}
use Rattle.cl_base.specs.declared.token.Fault.{Fault}
use Rattle.cl_pp.specs.declared.aim.Aim.{Aim}
use Rattle.cl_pp.specs.declared.aim.Aim.TheVariants.{Nothing}
use Rattle.cl_pp.specs.declared.done.PpDone.{PpDone}
use Rattle.cl_cond.specs.declared.mark.Mark.{Mark}
use Rattle.cl_cond.specs.declared.mark.Part.{Part}
use Rattle.cl_cond.specs.declared.mark.Part.TheVariants.{Line, Branch, End}
use Rattle.cl_pp.specs.declared.section.Section.{Section}
use Rattle.cl_pp.specs.declared.made.File.{File}
use Rattle.cl_macro.specs.declared.table.MacroTable.{MacroTable}
use Rattle.cl_pp.specs.Activity.{Passed, Question, says}
use Rattle.cl_pp.specs.Acts.{Gives, act, at_line}
use Rattle.cl_pp.specs.Lines.{line_of}
use Rattle.cl_pp.specs.Preprocessing.{ComesTo, Does, Goes, State, World, line, nothing, rules_in}
use Rattle.cl_pp.specs.Standing.{is_stopped, macro_at, number_at}
use Rattle.cl_pp.specs.Taking.{Comes}
use Rattle.cl_pp.specs.code.Going.{ComesBy}
use Rattle.cl_pp.specs.code.Keeping.{Keeps, Suits, lookup, number_of}
use Rattle.cl_pp.specs.code.Stacks.{Stand, is_skipped, stacked, tell, top_of}
use Rattle.cl_pp.proofs.Standing.{stand_on, top_answers}
use Rattle.cl_pp.proofs.Straying.{next_of}

abbrev pick : Bool → Type 0
pick false = ⊥
pick true = Unit {0}

apart : false ≡ true → ⊥
apart e = subst (λ (x : Bool). pick x) (sym e) tt

not_active : (b : Bool) → not b ≡ true → b ≡ false
not_active true h = absurd (apart h)
not_active false h = refl

-- so many more lines are passed: whatever comes of the others comes of all
pub record Gone (w : World) (tokens : List Token) (marks : List Mark) (begun : List Passed) (first now : PpDone) (sections : List Section) (from i : ℕ) : Type 0 where
  pub past : List Passed
  pub stands : Stand past sections
  pub goes : (t : State) → Goes w tokens (drop i marks) (record { past = past; done = now }) t → Goes w tokens (drop from marks) (record { past = begun; done = first }) t

pub gone_first : (w : World) (tokens : List Token) (marks : List Mark) (begun : List Passed) (first : PpDone) (sections : List Section) (from : ℕ) → Stand begun sections → Gone w tokens marks begun first first sections from from
gone_first w tokens marks begun first sections from h = record { past = begun; stands = h; goes = λ t g. g }

-- what is kept tells what stands
pub as_line : {ms : List ℕ → Option Macro} {ns : List ℕ → Option MacroNo} (file : File) (w : World) (macros : MacroTable) (tokens : List Token) (mark : Mark) (past : List Passed) (before : List Section) (old new : PpDone) (held : Bool) (aim : Aim)
    → Suits file w → Keeps ms ns w.start macros old → Stand past before → ComesBy ms ns file w macros (tell (top_of before)) mark (line_of tokens mark) old held aim new
    → ComesTo w tokens (record { past = past; done = old }) mark held aim new
as_line {ms} {ns} file w macros tokens mark past before old new held aim s k stand h =
    let b : get nat_cmp file.told.now ≡ w.begins = λ i. λ (at : ℕ). s.begins at i in
    let m : lookup ms macros ≡ macro_at w.start old = λ i. λ (name : List ℕ). k.macros_are name i in
    let n : number_of ns macros ≡ number_at w.start old = λ i. λ (name : List ℕ). k.numbers_are name i in
    let a : tell (top_of before) ≡ (λ q. says q 0 past) = top_answers past before stand in
    subst (λ (j : ℕ). Comes j (rules_in w (macro_at w.start old)) (number_at w.start old) (line_of tokens mark) (act j w.begins (macro_at w.start old) mark.part (λ q. says q 0 past) (line_of tokens mark) old) held aim new) s.number
    (subst (λ (g : ℕ → Option Fault). Comes file.number (rules_in w (macro_at w.start old)) (number_at w.start old) (line_of tokens mark) (act file.number g (macro_at w.start old) mark.part (λ q. says q 0 past) (line_of tokens mark) old) held aim new) b
    (subst (λ (f : List ℕ → Option Macro). Comes file.number (rules_in w f) (number_at w.start old) (line_of tokens mark) (act file.number (get nat_cmp file.told.now) f mark.part (λ q. says q 0 past) (line_of tokens mark) old) held aim new) m
    (subst (λ (f : List ℕ → Option MacroNo). Comes file.number (rules_in w (lookup ms macros)) f (line_of tokens mark) (act file.number (get nat_cmp file.told.now) (lookup ms macros) mark.part (λ q. says q 0 past) (line_of tokens mark) old) held aim new) n
    (subst (λ (f : Question → Bool). Comes file.number (rules_in w (lookup ms macros)) (number_of ns macros) (line_of tokens mark) (act file.number (get nat_cmp file.told.now) (lookup ms macros) mark.part f (line_of tokens mark) old) held aim new) a h))))

pub gone_on : {ms : List ℕ → Option Macro} {ns : List ℕ → Option MacroNo} (file : File) (w : World) (macros : MacroTable) (tokens : List Token) (marks : List Mark) (from i : ℕ) (d mark : Mark) (begun : List Passed) (first old mid new : PpDone) (before after : List Section) (held : Bool) (aim : Aim)
    → i < length marks → mark ≡ get_or marks i d → is_stopped old ≡ false
    → Suits file w → Keeps ms ns w.start macros old → ComesBy ms ns file w macros (tell (top_of before)) mark (line_of tokens mark) old held aim mid → Does w aim mid new
    → after ≡ stacked mark.part held before
    → Gone w tokens marks begun first old before from i → Gone w tokens marks begun first new after from (i + 1)
gone_on file w macros tokens marks from i d mark begun first old mid new before after held aim l e f s k h x n g =
    let next : drop i marks ≡ mark ∷ drop (i + 1) marks = next_of marks i d mark l e in
    let goes = subst (λ (ms : List Mark). (t : State) → Goes w tokens ms (record { past = g.past; done = old }) t → Goes w tokens (drop from marks) (record { past = begun; done = first }) t) next g.goes in
    let passed : Passed = record { part = mark.part; held = held } in
    record {
      past = passed ∷ g.past;
      stands = subst (Stand (passed ∷ g.past)) (sym n) (stand_on g.past before passed g.stands);
      goes = λ t later. goes t (line w tokens mark (drop (i + 1) marks) (record { past = g.past; done = old }) held aim mid new t f (as_line file w macros tokens mark g.past before old mid held aim s k g.stands h) x later);
    }

-- nothing is done with a line that is skipped
inactive : (ms : List ℕ → Option Macro) (ns : List ℕ → Option MacroNo) (file : File) (w : World) (macros : MacroTable) (whole : List Token) (done : PpDone) (b : Bool) → b ≡ false
    → Comes file.number (rules_in w (lookup ms macros)) (number_of ns macros) whole (if b then at_line file.number (get nat_cmp file.told.now) whole done else Gives false done) false Nothing done
inactive ms ns file w macros whole done true e = absurd (apart (sym e))
inactive ms ns file w macros whole done false e = (refl, (refl, refl))

skipped_comes : (ms : List ℕ → Option Macro) (ns : List ℕ → Option MacroNo) (file : File) (w : World) (macros : MacroTable) (part : Part) (whole : List Token) (top : Section) (done : PpDone) → is_skipped part top ≡ true
    → Comes file.number (rules_in w (lookup ms macros)) (number_of ns macros) whole (act file.number (get nat_cmp file.told.now) (lookup ms macros) part (tell top) whole done) false Nothing done
skipped_comes ms ns file w macros Line whole top done h = inactive ms ns file w macros whole done top.active (not_active top.active h)
skipped_comes ms ns file w macros End whole top done h = absurd (apart h)
skipped_comes ms ns file w macros (Branch c) whole top done h = absurd (apart h)

skipped_stack : (part : Part) (top : Section) (stack : List Section) → is_skipped part top ≡ true → stacked part false stack ≡ stack
skipped_stack Line top stack h = refl
skipped_stack End top stack h = absurd (apart h)
skipped_stack (Branch c) top stack h = absurd (apart h)

pub gone_past : {ms : List ℕ → Option Macro} {ns : List ℕ → Option MacroNo} (file : File) (w : World) (macros : MacroTable) (tokens : List Token) (marks : List Mark) (from i : ℕ) (d mark : Mark) (begun : List Passed) (first old : PpDone) (sections : List Section)
    → i < length marks → mark ≡ get_or marks i d → is_stopped old ≡ false → Suits file w → Keeps ms ns w.start macros old → is_skipped mark.part (top_of sections) ≡ true
    → Gone w tokens marks begun first old sections from i → Gone w tokens marks begun first old sections from (i + 1)
gone_past {ms} {ns} file w macros tokens marks from i d mark begun first old sections l e f s k h g =
    gone_on file w macros tokens marks from i d mark begun first old old old sections sections false Nothing l e f s k
    (skipped_comes ms ns file w macros mark.part (line_of tokens mark) (top_of sections) old h) (nothing w old) (sym (skipped_stack mark.part (top_of sections) sections h)) g

-- the next line names a header
pub gone_to : {ms : List ℕ → Option Macro} {ns : List ℕ → Option MacroNo} (file : File) (w : World) (macros : MacroTable) (tokens : List Token) (marks : List Mark) (from i : ℕ) (d mark : Mark) (begun : List Passed) (first old mid new : PpDone) (before : List Section) (held : Bool) (aim : Aim) (t : State)
    → i < length marks → mark ≡ get_or marks i d → is_stopped old ≡ false
    → Suits file w → Keeps ms ns w.start macros old → ComesBy ms ns file w macros (tell (top_of before)) mark (line_of tokens mark) old held aim mid → Does w aim mid new
    → (g : Gone w tokens marks begun first old before from i) → Goes w tokens (drop (i + 1) marks) (record { past = record { part = mark.part; held = held } ∷ g.past; done = new }) t
    → Goes w tokens (drop from marks) (record { past = begun; done = first }) t
gone_to file w macros tokens marks from i d mark begun first old mid new before held aim t l e f s k h x g later =
    let next : drop i marks ≡ mark ∷ drop (i + 1) marks = next_of marks i d mark l e in
    let goes = subst (λ (ms : List Mark). (t : State) → Goes w tokens ms (record { past = g.past; done = old }) t → Goes w tokens (drop from marks) (record { past = begun; done = first }) t) next g.goes in
    goes t (line w tokens mark (drop (i + 1) marks) (record { past = g.past; done = old }) held aim mid new t f (as_line file w macros tokens mark g.past before old mid held aim s k g.stands h) x later)
