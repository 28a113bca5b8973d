-- What was found is what becomes of the text.
use Rattle.std.proofs.Common.{◌≡◌, ℕ, List, [], Option, Some, None, sym, ap, subst, ◌∙◌, length, arith}
use Rattle.cl_base.specs.declared.config.Settings.{Settings}
use Rattle.cl_base.specs.declared.headers.Known.{Known}
use Rattle.cl_base.specs.declared.macros.Macro.{Macro}
use Rattle.cl_base.specs.declared.macros.MacroEvent.{MacroEvent}
use Rattle.cl_base.specs.declared.macros.MacroNo.{MacroNo}
use Rattle.cl_headers.specs.Noting.{IsNoted}
use Rattle.cl_headers.specs.declared.dep.Dep.{Dep}
use Rattle.cl_macro.specs.declared.table.MacroTable.{MacroTable}
use Rattle.cl_pp.specs.declared.done.PpAnswer.{PpAnswer}
use Rattle.cl_pp.specs.declared.done.PpDone.{PpDone}
use Rattle.cl_pp.specs.declared.start.PpState.{PpState}
use Rattle.cl_pp.specs.Before.{IsFirst, Preprocessed, before_of}
use Rattle.cl_pp.specs.Places.{IfDone}
use Rattle.cl_pp.specs.Preprocessing.{Before, Preprocesses, PreprocessesFrom, answer_by, answer_of, first_before}
use Rattle.cl_pp.specs.Resuming.{Went}
use Rattle.cl_pp.specs.Standing.{Start, meant, numbered, wanted}
use Rattle.cl_pp.specs.code.Keeping.{Keeps, lookup, number_of}

-- no event has been yet
pub keeps_first : {ms : List ℕ → Option Macro} {ns : List ℕ → Option MacroNo} (start : Start) (table : MacroTable) (old : PpDone) → old.events ≡ [] → ((name : List ℕ) → lookup ms table name ≡ start.macros name) → ((name : List ℕ) → number_of ns table name ≡ start.numbers name)
    → table.events ≡ start.events → Keeps ms ns start table old
keeps_first start table old e m n c = record {
  macros_are = λ name. m name ∙ ap (λ (es : List MacroEvent). meant es name (start.macros name)) (sym e);
  numbers_are = λ name. n name ∙ ap (λ (es : List MacroEvent). numbered start.events es name (start.numbers name)) (sym e);
  count = let l : length old.events ≡ 0 = ap length e in omega (arith, c, l);
}

done_by : (P : PpDone → Type 0) (o : Option (List ℕ)) (done : PpDone) → P done → IfDone P (answer_by o done)
done_by P None done h = h
done_by P (Some path) done h = tt

pub if_done : (P : PpDone → Type 0) (answer : PpAnswer) (done : PpDone) → answer ≡ answer_of done → P done → IfDone P answer
if_done P answer done e h = subst (IfDone P) (sym e) (done_by P (wanted done.deps) done h)

-- a state that has no more than the settings' macros
pub from_first : (config : Settings) (state : PpState) (known : List ℕ → Known) (path text : List ℕ) (answer : PpAnswer) → IsFirst config.defines state
    → PreprocessesFrom (before_of state) known config.includes path text answer → Preprocesses config known path text answer
from_first config state known path text answer f p =
    let same : before_of state ≡ first_before f.table.macros = λ i. record {
      start = record { macros = λ name. f.table.macros_are (λ other. None) name i; numbers = λ name. f.table.unnumbered name i; events = f.events i };
      files = f.files i;
      once = f.once i;
    } in
    record { macros = f.table.macros; given = f.table.given; preprocessed = subst (λ (b : Before). PreprocessesFrom b known config.includes path text answer) same p }

-- going on from the start
pub went_all : (before : Before) (known : List ℕ → Known) (folders : List (List ℕ)) (path text main : List ℕ) (deps : List Dep) (earlier later : List (List ℕ)) (done : PpDone) (answer : PpAnswer) → deps ≡ [] → main ≡ text
    → Went before known folders path main deps earlier later done answer → Preprocessed before known folders path text earlier later answer
went_all before known folders path text main deps earlier later done answer d t h =
    subst (λ (x : List ℕ). Preprocessed before known folders path x earlier later answer) t (record {
      from = record { one_token = h.read.one_token; tells = h.read.tells; done = done; reads = h.read.reads; is = h.is };
      noted = subst (λ (ds : List Dep). IsNoted known ds done.deps earlier later) d h.noted;
    })
