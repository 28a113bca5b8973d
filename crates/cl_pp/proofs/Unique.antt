-- A text comes to one thing.
use Rattle.std.proofs.Common.{◌≡◌, ℕ, Bool, true, false, List, ◌∷◌, Option, Some, None, refl, sym, ap, subst, ◌∙◌, ◌<◌, ◌≤◌, arith, inl, inr}
use Rattle.std.specs.Prelude.{MatchOption}
use Rattle.cl_base.specs.declared.config.Settings.{Settings}
use Rattle.cl_base.specs.declared.macros.Macro.{Macro}
use Rattle.cl_base.specs.declared.macros.MacroNo.{MacroNo}
use Rattle.cl_base.specs.declared.token.Kind.{Kind}
use Rattle.cl_base.specs.declared.token.Lexed.{Lexed}
use Rattle.cl_base.specs.declared.token.PpToken.{PpToken}
use Rattle.cl_base.specs.declared.token.Span.{Span}
use Rattle.cl_base.specs.declared.token.Token.{Token}
use Rattle.cl_lex.specs.Items.{IsOneToken}
use Rattle.cl_lex.proofs.Unique.{one_lexed}
use Rattle.cl_cond.specs.declared.mark.Mark.{Mark}
use Rattle.cl_cond.specs.declared.mark.Groups.{Groups}
use Rattle.cl_cond.specs.Conditions.{EvaluatesTo}
use Rattle.cl_cond.specs.Sections.{GroupsOf}
use Rattle.cl_cond.specs.Words.{words_from}
use Rattle.cl_cond.proofs.Deciding.{one_value}
use Rattle.cl_cond.proofs.Unique.{one_grouping}
use Rattle.cl_macro.specs.declared.expanded.Expanded.{Expanded}
use Rattle.cl_define.proofs.Told.{one_defined}
use Rattle.cl_macro.specs.declared.define.Defined.{Defined}
use Rattle.cl_macro.specs.declared.define.Defined.TheVariants as defined
use Rattle.cl_macro.specs.Defining.{IsDefined, IsOver}
use Rattle.cl_macro.specs.Rules.{Rules, TellsTokens}
use Rattle.cl_macro.proofs.Plain.{one_expanded}
use Rattle.cl_macro.proofs.Telling.{tells_none, tells_some}
use Rattle.cl_macro.proofs.Starting.{one_given}
use Rattle.cl_pp.specs.declared.done.PpDone.{PpDone}
use Rattle.cl_pp.specs.Acts.{Act, Gives, Runs, Asks, Checks, Defines, Names, Includes, Marks}
use Rattle.cl_pp.specs.LineNumbers.{misfit}
use Rattle.cl_pp.specs.Lines.{bad_if, bad_line, is_true, place_of}
use Rattle.cl_base.specs.declared.headers.Known.{Known}
use Rattle.cl_headers.specs.declared.resolving.Resolved.{Resolved}
use Rattle.cl_headers.specs.Resolving.{candidates}
use Rattle.cl_headers.proofs.Search.{one_answer}
use Rattle.cl_paths.specs.Parts.{folder}
use Rattle.cl_pp.specs.declared.aim.Aim.{Aim}
use Rattle.cl_pp.specs.declared.aim.Aim.TheVariants.{Nothing}
use Rattle.cl_pp.specs.declared.aim.Target.{Target}
use Rattle.cl_pp.specs.declared.done.PpAnswer.{PpAnswer}
use Rattle.cl_pp.specs.Including.{aim_of, included, named_in}
use Rattle.cl_pp.specs.Preprocessing.{Arrival, Before, Does, Enters, Finds, Goes, Preprocesses, PreprocessesFrom, Reads, State, Stays, World, act_at, answer_of, arrived_in, before_lines, begin, behind, document, first_before, lexed_by, rules_in}
use Rattle.cl_pp.specs.Preprocessing.{deep, end, enters, line, nothing, once, read, stays, stop}
use Rattle.cl_pp.specs.Runs.{runs}
use Rattle.cl_pp.specs.Standing.{is_stopped, macro_at, number_at, with_asked, with_faults, with_run}
use Rattle.cl_pp.specs.Taking.{Becomes, Comes, IsChecked, IsCondition, IsDefinition, IsRead, IsRun, Takes, defined_by}
use Rattle.cl_pp.proofs.Shapes.{Arrived, Shape, Stepped, aimed, opened, shape}

one_read : (file : ℕ) (ts : List Token) (x y : Option Macro) → IsRead file ts x → IsRead file ts y → x ≡ y
one_read file ts None None h k = refl
one_read file ts None (Some m) h k = absurd (h m k)
one_read file ts (Some m) None h k = absurd (k m h)
one_read file ts (Some m) (Some n) h k = ap Some (one_defined (place_of file ts) ts m n h k)

over_once : (old new : Macro) (x y : Defined) → IsOver old new x → IsOver old new y → x ≡ y
over_once old new defined.New y h k = absurd h
over_once old new defined.Same defined.New h k = absurd k
over_once old new defined.Same defined.Same h k = refl
over_once old new defined.Same (defined.Replaced q) h k = absurd (k.0 h)
over_once old new (defined.Replaced p) defined.New h k = absurd k
over_once old new (defined.Replaced p) defined.Same h k = absurd (h.0 k)
over_once old new (defined.Replaced p) (defined.Replaced q) h k = ap defined.Replaced (h.1 ∙ sym k.1)

answer_once : (o : Option Macro) (new : Macro) (x y : Defined) → IsDefined o new x → IsDefined o new y → x ≡ y
answer_once None new x y h k = h ∙ sym k
answer_once (Some old) new x y h k = over_once old new x y h k

one_becomes : (file : ℕ) (macros : List ℕ → Option Macro) (ts : List Token) (found : Option Macro) (old x y : PpDone) → Becomes file macros ts found old x → Becomes file macros ts found old y → x ≡ y
one_becomes file macros ts None old x y a b = a ∙ sym b
one_becomes file macros ts (Some mac) old x y a b = a.is ∙ ap (λ (d : Defined). defined_by file d mac ts old) (answer_once (macros mac.name) mac a.answer b.answer a.defined b.defined) ∙ sym b.is

module _ (file : ℕ) (rules_at : Span → Rules) (numbers : List ℕ → Option MacroNo) (line : List Token) where
  one_run : (run : List PpToken) (old x y : PpDone) → IsRun rules_at numbers run old x → IsRun rules_at numbers run old y → x ≡ y
  one_run run old x y a b = a.is ∙ ap (λ (e : Expanded). with_run e old) (one_expanded rules_at numbers run a.all b.all a.expands b.expands) ∙ sym b.is

  one_checked : (ts : List PpToken) (old x y : PpDone) → IsChecked file rules_at numbers line ts old x → IsChecked file rules_at numbers line ts old y → x ≡ y
  one_checked ts old x y a b =
      a.is ∙ ap (λ (e : Expanded). with_faults (bad_line file (misfit e.tokens) e.tokens line) (with_asked e old)) (one_expanded rules_at numbers ts a.all b.all a.expands b.expands) ∙ sym b.is

  one_condition : (ts : List PpToken) (old : PpDone) (h k : Bool) (x y : PpDone) → IsCondition file rules_at numbers line ts old h x → IsCondition file rules_at numbers line ts old k y → (h ≡ k) × (x ≡ y)
  one_condition ts old h k x y a b =
      let e : a.all ≡ b.all = one_expanded rules_at numbers ts a.all b.all a.expands b.expands in
      let v : a.value ≡ b.value = one_value (words_from 0 b.all.tokens) a.value b.value (subst (λ (z : Expanded). EvaluatesTo (words_from 0 z.tokens) a.value) e a.comes) b.comes in (
        a.holds ∙ ap is_true v ∙ sym b.holds,
        a.is ∙ (λ i. with_faults (bad_if file (v i) (e i).tokens line) (with_asked (e i) old)) ∙ sym b.is,
      )

  one_definition : (ts : List Token) (old x y : PpDone) → IsDefinition file rules_at ts old x → IsDefinition file rules_at ts old y → x ≡ y
  one_definition ts old x y a b =
      let e : b.found ≡ a.found = one_read file ts b.found a.found b.reads a.reads in
      one_becomes file (rules_at (place_of file ts)).macros ts a.found old x y a.becomes (subst (λ (f : Option Macro). Becomes file (rules_at (place_of file ts)).macros ts f old y) e b.becomes)

  one_taken : (act : Act) (h k : Bool) (x y : PpDone) → Takes file rules_at numbers line act h x → Takes file rules_at numbers line act k y → (h ≡ k) × (x ≡ y)
  one_taken (Gives holds done) h k x y a b = (a.0 ∙ sym b.0, a.1 ∙ sym b.1)
  one_taken (Runs run done) h k x y a b = (a.0 ∙ sym b.0, one_run run done x y a.1 b.1)
  one_taken (Asks ts done) h k x y a b = one_condition ts done h k x y a b
  one_taken (Checks ts done) h k x y a b = (a.0 ∙ sym b.0, one_checked ts done x y a.1 b.1)
  one_taken (Defines ts done) h k x y a b = (a.0 ∙ sym b.0, one_definition ts done x y a.1 b.1)
  one_taken (Names ts done) h k x y a b = absurd a
  one_taken (Includes ts done) h k x y a b = absurd a
  one_taken (Marks done) h k x y a b = absurd a

  -- with what is aimed at
  pub record Same (h k : Bool) (p q : Aim) (x y : PpDone) : Type 0 where
    held : h ≡ k
    aim : p ≡ q
    done : x ≡ y

  plain_same : (act : Act) (h k : Bool) (p q : Aim) (x y : PpDone) → (p ≡ Nothing) × Takes file rules_at numbers line act h x → (q ≡ Nothing) × Takes file rules_at numbers line act k y → Same h k p q x y
  plain_same act h k p q x y a b = let e = one_taken act h k x y a.1 b.1 in record { held = e.0; aim = a.0 ∙ sym b.0; done = e.1 }

  one_coming : (act : Act) (h k : Bool) (p q : Aim) (x y : PpDone) → Comes file rules_at numbers line act h p x → Comes file rules_at numbers line act k q y → Same h k p q x y
  one_coming (Gives holds done) h k p q x y a b = plain_same (Gives holds done) h k p q x y a b
  one_coming (Runs run done) h k p q x y a b = plain_same (Runs run done) h k p q x y a b
  one_coming (Asks ts done) h k p q x y a b = plain_same (Asks ts done) h k p q x y a b
  one_coming (Checks ts done) h k p q x y a b = plain_same (Checks ts done) h k p q x y a b
  one_coming (Defines ts done) h k p q x y a b = plain_same (Defines ts done) h k p q x y a b
  one_coming (Names ts done) h k p q x y a b = record { held = a.0 ∙ sym b.0; aim = a.1 ∙ sym b.1; done = a.2 ∙ sym b.2 }
  one_coming (Includes ts done) h k p q x y a b =
      let e : a.1.all ≡ b.1.all = one_expanded rules_at numbers ts a.1.all b.1.all a.1.expands b.1.expands in
      record {
        held = a.0 ∙ sym b.0;
        aim = a.1.aims ∙ ap (λ (z : Expanded). aim_of file (named_in z.tokens) z.tokens line) e ∙ sym b.1.aims;
        done = a.1.is ∙ ap (λ (z : Expanded). with_faults (included file (named_in z.tokens) z.tokens line) (with_asked z done)) e ∙ sym b.1.is;
      }
  one_coming (Marks done) h k p q x y a b = record { held = a.0 ∙ sym b.0; aim = a.1 ∙ sym b.1; done = a.2 ∙ sym b.2 }

if_stopped : (b : Bool) (w : World) (tokens : List Token) (mark : Mark) (marks : List Mark) (s t : State) → is_stopped s.done ≡ b → Shape w tokens (mark ∷ marks) s t → Stepped b w tokens mark marks s t
if_stopped b w tokens mark marks s t e h = subst (λ (x : Bool). Stepped x w tokens mark marks s t) e h

not_both : (n : ℕ) (A : Type 0) → 200 ≤ n → n < 200 → A
not_both n A h k = absurd (omega (arith, h, k))

-- both searches come to one thing
arrived_at : (w : World) (target : Target) (old other : PpDone) (asked more : List (List ℕ)) (found next : Resolved) (a : Arrival) → Finds w target asked found → Finds w target more next
    → arrived_in w target asked found old ≡ a → Arrived w (arrived_in w target more next old) other → Arrived w a other
arrived_at w target old other asked more found next a f g e h =
    let o = one_answer w.known (candidates (folder w.path) target.name target.angled w.folders) more asked next found g f in
    subst (λ (x : Arrival). Arrived w x other) ((λ i. arrived_in w target (o.0 i) (o.1 i) old) ∙ e) h

mutual
  pub one_goes : {w : World} {tokens : List Token} {marks : List Mark} {s t : State} → Goes w tokens marks s t → (u : State) → Goes w tokens marks s u → t ≡ u
  one_goes (end w tokens s) u h = shape h
  one_goes (stop w tokens mark marks s e) u h = if_stopped true w tokens mark marks s u e (shape h)
  one_goes (line w tokens mark marks s held aim mid done t e c d g) u h =
      let b = if_stopped false w tokens mark marks s u e (shape h) in
      let o = one_coming w.file (rules_in w (macro_at w.start s.done)) (number_at w.start s.done) _ (act_at w tokens (macro_at w.start s.done) s mark) held b.held aim b.aim mid b.mid c b.comes in
      let x : done ≡ b.done = one_does d b.done (subst (λ (m : PpDone). Does w aim m b.done) (sym o.done) (subst (λ (a : Aim). Does w a b.mid b.done) (sym o.aim) b.does)) in
      one_goes g u (subst (λ (z : State). Goes w tokens marks z u) (λ i. behind mark (sym o.held i) (sym x i) s) b.goes)

  pub one_does : {w : World} {aim : Aim} {old new : PpDone} → Does w aim old new → (other : PpDone) → Does w aim old other → new ≡ other
  one_does (nothing w done) other h = sym (aimed h)
  one_does (once w done) other h = sym (aimed h)
  one_does (deep w target done d) other h = elim (aimed h) [
    | inl x ↦ sym x.1
    | inr y ↦ not_both w.depth _ d y.0
  ]
  one_does (stays w target old done asked found d f e) other h = elim (aimed h) [
    | inl x ↦ not_both w.depth _ x.0 d
    | inr y ↦ sym (arrived_at w target old other asked y.1.asked found y.1.found (Stays done) f y.1.finds e y.1.arrives)
  ]
  one_does (enters w target old mid done asked found number path text d f e r) other h = elim (aimed h) [
    | inl x ↦ not_both w.depth _ x.0 d
    | inr y ↦ one_reads r other (arrived_at w target old other asked y.1.asked found y.1.found (Enters number path text mid) f y.1.finds e y.1.arrives)
  ]

  pub one_reads : {w : World} {old new : PpDone} → Reads w old new → (other : PpDone) → Reads w old other → new ≡ other
  one_reads (read w old lexed groups t l g d) other h =
      let b = opened h in
      let same : b.lexed ≡ lexed = one_lexed w.text b.lexed lexed b.lexes l in
      let both : b.groups ≡ groups = one_grouping lexed.tokens b.groups groups (subst (λ (z : Lexed). GroupsOf z.tokens b.groups) same b.grouped) g in
      let first : Goes (lexed_by w lexed.faults) lexed.tokens (runs lexed.tokens b.groups.marks) (begin w.file lexed.faults b.groups.faults old) b.last =
      subst (λ (z : Lexed). Goes (lexed_by w z.faults) z.tokens (runs z.tokens b.groups.marks) (begin w.file z.faults b.groups.faults old) b.last) same b.goes in
      let second : Goes (lexed_by w lexed.faults) lexed.tokens (runs lexed.tokens groups.marks) (begin w.file lexed.faults groups.faults old) b.last =
      subst (λ (z : Groups). Goes (lexed_by w lexed.faults) lexed.tokens (runs lexed.tokens z.marks) (begin w.file lexed.faults z.faults old) b.last) both first in
      ap (λ (z : State). z.done) (one_goes d b.last second) ∙ sym b.is

one_teller : (f g : List ℕ → Option Kind) → TellsTokens f → TellsTokens g → (text : List ℕ) → f text ≡ g text
one_teller f g tf tg text = by_result (g text) (tg text)
  where
    by_result : (r : Option Kind) → MatchOption r ((j : Kind) → IsOneToken text j → ⊥) (λ j. IsOneToken text j) → f text ≡ r
    by_result None n = tells_none f text tf n
    by_result (Some k) h = tells_some f text k tf h

pub one_from : (before : Before) (known : List ℕ → Known) (folders : List (List ℕ)) (path text : List ℕ) (x y : PpAnswer) → PreprocessesFrom before known folders path text x → PreprocessesFrom before known folders path text y → x ≡ y
one_from before known folders path text x y a b =
    let o : b.one_token ≡ a.one_token = λ i. λ (s : List ℕ). one_teller b.one_token a.one_token b.tells a.tells s i in
    let r : Reads (document a.one_token before.start known folders path text) (before_lines before) b.done =
    subst (λ (f : List ℕ → Option Kind). Reads (document f before.start known folders path text) (before_lines before) b.done) o b.reads in
    a.is ∙ ap answer_of (one_reads a.reads b.done r) ∙ sym b.is

pub one_preprocessed : (config : Settings) (known : List ℕ → Known) (path text : List ℕ) (x y : PpAnswer) → Preprocesses config known path text x → Preprocesses config known path text y → x ≡ y
one_preprocessed config known path text x y a b =
    let same : a.macros ≡ b.macros = one_given config.defines a.macros b.macros a.given b.given in
    one_from (first_before b.macros) known config.includes path text x y (subst (λ (ms : List Macro). PreprocessesFrom (first_before ms) known config.includes path text x) same a.preprocessed) b.preprocessed
