-- Every text comes to something.
use Rattle.std.proofs.Common.{◌≡◌, ℕ, zero, suc, ◌+◌, ◌<◌, ◌≤◌, Bool, true, false, List, [], ◌∷◌, Option, Some, None, refl, subst, inl, inr, arith, ⊎_elim}
use Rattle.std.proofs.lemmas.Bool.{cases_lt}
use Rattle.std.specs.Bool.{Decides}
use Rattle.cl_base.specs.declared.config.Settings.{Settings}
use Rattle.cl_base.specs.declared.macros.Macro.{Macro}
use Rattle.cl_base.specs.declared.macros.MacroNo.{MacroNo}
use Rattle.cl_base.specs.declared.token.Span.{Span}
use Rattle.cl_base.specs.declared.token.Token.{Token}
use Rattle.cl_lex.proofs.Exists.{some_lexed}
use Rattle.cl_cond.specs.declared.mark.Mark.{Mark}
use Rattle.cl_cond.proofs.Existing.{some_grouping}
use Rattle.cl_cond.proofs.Total.{some_value}
use Rattle.cl_define.specs.Sameness.{IsSame}
use Rattle.cl_define.specs.code.Tokens.{same_macro}
use Rattle.cl_define.proofs.Alike.{macro_Decides}
use Rattle.cl_define.proofs.Told.{some_defined}
use Rattle.cl_macro.specs.declared.define.Defined.{Defined}
use Rattle.cl_macro.specs.declared.define.Defined.TheVariants as defined
use Rattle.cl_macro.specs.Defining.{IsDefined, IsOver}
use Rattle.cl_macro.specs.Rules.{Rules}
use Rattle.cl_macro.proofs.Plain.{some_expanded}
use Rattle.cl_macro.proofs.Teller.{some_teller}
use Rattle.cl_macro.proofs.Starting.{some_given}
use Rattle.cl_pp.specs.declared.done.PpDone.{PpDone}
use Rattle.cl_base.specs.declared.headers.Known.{Known}
use Rattle.cl_headers.specs.declared.resolving.Resolved.{Resolved}
use Rattle.cl_headers.specs.Resolving.{candidates}
use Rattle.cl_headers.proofs.Search.{some_answer}
use Rattle.cl_paths.specs.Parts.{folder}
use Rattle.cl_pp.specs.declared.aim.Aim.{Aim}
use Rattle.cl_pp.specs.declared.aim.Aim.TheVariants.{Nothing, Once, Header}
use Rattle.cl_pp.specs.declared.aim.Target.{Target}
use Rattle.cl_pp.specs.declared.done.PpAnswer.{PpAnswer}
use Rattle.cl_pp.specs.Including.{aim_of, included, named_in}
use Rattle.cl_pp.specs.Acts.{Act, Gives, Runs, Asks, Checks, Defines, Names, Includes, Marks}
use Rattle.cl_pp.specs.LineNumbers.{misfit}
use Rattle.cl_pp.specs.Lines.{bad_if, bad_line, invalid, is_true, place_of}
use Rattle.cl_pp.specs.Preprocessing.{Arrival, Before, Does, Enters, Finds, Goes, Preprocesses, PreprocessesFrom, Reads, State, Stays, World, act_at, answer_of, arrived_in, before_lines, begin, behind, below, document, first_before, header_fault, lexed_by, marked, rules_in}
use Rattle.cl_pp.specs.Preprocessing.{deep, end, enters, line, nothing, once, read, stays, stop}
use Rattle.cl_pp.specs.Runs.{runs}
use Rattle.cl_pp.specs.Standing.{is_stopped, macro_at, number_at, with_asked, with_faults, with_run}
use Rattle.cl_pp.specs.Taking.{Becomes, Comes, IsRead, defined_by}

abbrev pick : Bool → Type 0
pick false = Unit {0}
pick true = ⊥

some_read : (file : ℕ) (ts : List Token) → (found : Option Macro) × IsRead file ts found
some_read file ts = elim (some_defined (place_of file ts) ts) [
  | inl h ↦ (Some h.0, h.1)
  | inr n ↦ (None, n)
]

over_by : (b : Bool) (old new : Macro) → Decides b (IsSame old new) → (answer : Defined) × IsOver old new answer
over_by true old new d = (defined.Same, d.0 refl)
over_by false old new d = (defined.Replaced old.place, ((λ s. apart (d.1 s)), refl))
  where
    apart : false ≡ true → ⊥
    apart e = subst (λ (x : Bool). pick x) e tt

some_defining : (o : Option Macro) (new : Macro) → (answer : Defined) × IsDefined o new answer
some_defining None new = (defined.New, refl)
some_defining (Some old) new = over_by (same_macro old new) old new (macro_Decides old new)

some_becomes : (file : ℕ) (macros : List ℕ → Option Macro) (ts : List Token) (found : Option Macro) (old : PpDone) → (new : PpDone) × Becomes file macros ts found old new
some_becomes file macros ts None old = (with_faults (invalid file ts) old, refl)
some_becomes file macros ts (Some mac) old =
    let a = some_defining (macros mac.name) mac in
    (defined_by file a.0 mac ts old, record { answer = a.0; defined = a.1; is = refl })

record SomeComing (file : ℕ) (rules_at : Span → Rules) (numbers : List ℕ → Option MacroNo) (whole : List Token) (act : Act) : Type 0 where
  held : Bool
  aim : Aim
  done : PpDone
  comes : Comes file rules_at numbers whole act held aim done

some_coming : (file : ℕ) (rules_at : Span → Rules) (numbers : List ℕ → Option MacroNo) (whole : List Token) (act : Act) → SomeComing file rules_at numbers whole act
some_coming file rules_at numbers whole (Gives holds done) = record { held = holds; aim = Nothing; done = done; comes = (refl, (refl, refl)) }
some_coming file rules_at numbers whole (Runs run done) =
    let e = some_expanded rules_at numbers run in
    record { held = false; aim = Nothing; done = with_run e.0 done; comes = (refl, (refl, record { all = e.0; expands = e.1; is = refl })) }
some_coming file rules_at numbers whole (Asks ts done) =
    let e = some_expanded rules_at numbers ts in
    let v = some_value e.0.tokens in
    record {
      held = is_true v.0;
      aim = Nothing;
      done = with_faults (bad_if file v.0 e.0.tokens whole) (with_asked e.0 done);
      comes = (refl, record { all = e.0; value = v.0; expands = e.1; comes = v.1; holds = refl; is = refl });
    }
some_coming file rules_at numbers whole (Checks ts done) =
    let e = some_expanded rules_at numbers ts in
    record { held = false; aim = Nothing; done = with_faults (bad_line file (misfit e.0.tokens) e.0.tokens whole) (with_asked e.0 done); comes = (refl, (refl, record { all = e.0; expands = e.1; is = refl })) }
some_coming file rules_at numbers whole (Defines ts done) =
    let r = some_read file ts in
    let d = some_becomes file (rules_at (place_of file ts)).macros ts r.0 done in
    record { held = false; aim = Nothing; done = d.0; comes = (refl, (refl, record { found = r.0; reads = r.1; becomes = d.1 })) }
some_coming file rules_at numbers whole (Names ts done) =
    record { held = false; aim = aim_of file (named_in ts) ts whole; done = with_faults (included file (named_in ts) ts whole) done; comes = (refl, refl, refl) }
some_coming file rules_at numbers whole (Includes ts done) =
    let e = some_expanded rules_at numbers ts in
    record {
      held = false;
      aim = aim_of file (named_in e.0.tokens) e.0.tokens whole;
      done = with_faults (included file (named_in e.0.tokens) e.0.tokens whole) (with_asked e.0 done);
      comes = (refl, record { all = e.0; expands = e.1; aims = refl; is = refl });
    }
some_coming file rules_at numbers whole (Marks done) = record { held = false; aim = Once; done = done; comes = (refl, refl, refl) }

-- ---- what is done

record SomeReads (w : World) (old : PpDone) : Type 0 where
  done : PpDone
  reads : Reads w old done

record SomeDoes (w : World) (aim : Aim) (old : PpDone) : Type 0 where
  done : PpDone
  does : Does w aim old done

record SomeGoes (w : World) (tokens : List Token) (marks : List Mark) (s : State) : Type 0 where
  last : State
  goes : Goes w tokens marks s last

-- every file one level deeper is read
abbrev Deeper : World → Type 0
Deeper w = w.depth < 200 → (number : ℕ) (path text : List ℕ) (old : PpDone) → SomeReads (below w number path text) old

some_arrival : (w : World) (target : Target) (old : PpDone) (asked : List (List ℕ)) (found : Resolved) (a : Arrival) → w.depth < 200 → Finds w target asked found
    → arrived_in w target asked found old ≡ a → Deeper w → SomeDoes w (Header target) old
some_arrival w target old asked found (Stays done) d f e k = record { done = done; does = stays w target old done asked found d f e }
some_arrival w target old asked found (Enters number path text mid) d f e k =
    let r = k d number path text mid in
    record { done = r.done; does = enters w target old mid r.done asked found number path text d f e r.reads }

some_does : (w : World) (aim : Aim) (old : PpDone) → Deeper w → SomeDoes w aim old
some_does w Nothing old k = record { done = old; does = nothing w old }
some_does w Once old k = record { done = marked w old; does = once w old }
some_does w (Header target) old k = ⊎_elim
    (λ (d : w.depth < 200).
    let f = some_answer w.known (candidates (folder w.path) target.name target.angled w.folders) in
    some_arrival w target old f.asked f.resolved (arrived_in w target f.asked f.resolved old) d f.resolves refl k)
    (λ (d : 200 ≤ w.depth). record { done = with_faults (header_fault 10 target) old; does = deep w target old d })
    (cases_lt w.depth 200)

goes_by : (b : Bool) (w : World) (tokens : List Token) (mark : Mark) (marks : List Mark) (s : State) → is_stopped s.done ≡ b → Deeper w → ((u : State) → SomeGoes w tokens marks u) → SomeGoes w tokens (mark ∷ marks) s
goes_by true w tokens mark marks s e k h = record { last = s; goes = stop w tokens mark marks s e }
goes_by false w tokens mark marks s e k h =
    let one = some_coming w.file (rules_in w (macro_at w.start s.done)) (number_at w.start s.done) _ (act_at w tokens (macro_at w.start s.done) s mark) in
    let d = some_does w one.aim one.done k in
    let more = h (behind mark one.held d.done s) in
    record { last = more.last; goes = line w tokens mark marks s one.held one.aim one.done d.done more.last e one.comes d.does more.goes }

some_goes : (w : World) (tokens : List Token) (marks : List Mark) (s : State) → Deeper w → SomeGoes w tokens marks s
some_goes w tokens [] s k = record { last = s; goes = end w tokens s }
some_goes w tokens (mark ∷ marks) s k = goes_by (is_stopped s.done) w tokens mark marks s refl k (λ u. some_goes w tokens marks u k)

reads_by : (w : World) (old : PpDone) → Deeper w → SomeReads w old
reads_by w old k =
    let lexed = some_lexed w.text in
    let groups = some_grouping lexed.lexed.tokens in
    let gone = some_goes (lexed_by w lexed.lexed.faults) lexed.lexed.tokens (runs lexed.lexed.tokens groups.0.marks) (begin w.file lexed.lexed.faults groups.0.faults old) k in
    record { done = gone.last.done; reads = read w old lexed.lexed groups.0 gone.last lexed.lexes groups.1 gone.goes }

-- `n` more levels may lie below
some_reads : (n : ℕ) (w : World) (old : PpDone) → 200 ≤ w.depth + n → SomeReads w old
some_reads zero w old h = reads_by w old (λ l number path text mid. absurd (omega (arith, h, l)))
some_reads (suc n) w old h = reads_by w old (λ l number path text mid. some_reads n (below w number path text) mid (omega (arith, h)))

pub some_from : (before : Before) (known : List ℕ → Known) (folders : List (List ℕ)) (path text : List ℕ) → (answer : PpAnswer) × PreprocessesFrom before known folders path text answer
some_from before known folders path text =
    let teller = some_teller in
    let r = some_reads 200 (document teller.0 before.start known folders path text) (before_lines before) (omega arith) in
    (answer_of r.done, record { one_token = teller.0; tells = teller.1; done = r.done; reads = r.reads; is = refl })

pub some_preprocessed : (config : Settings) (known : List ℕ → Known) (path text : List ℕ) → (answer : PpAnswer) × Preprocesses config known path text answer
some_preprocessed config known path text =
    let macros = some_given config.defines in
    let from = some_from (first_before macros.0) known config.includes path text in
    (from.0, record { macros = macros.0; given = macros.1; preprocessed = from.1 })
