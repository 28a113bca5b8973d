-- One event more.
use Rattle.std.proofs.Common.{◌≡◌, ℕ, suc, ◌+◌, List, [], ◌∷◌, ◌++◌, Option, Some, refl, sym, ap, ◌∙◌, length, arith}
use Rattle.std.specs.Prelude.{if◌then◌else◌}
use Rattle.cl_base.specs.declared.macros.Macro.{Macro}
use Rattle.cl_base.specs.declared.macros.MacroEvent.{MacroEvent}
use Rattle.cl_base.specs.declared.macros.MacroNo.{MacroNo}
use Rattle.cl_macro.specs.declared.table.MacroTable.{MacroTable}
use Rattle.cl_base.specs.declared.token.Token.{Token}
use Rattle.cl_macro.specs.declared.define.Defined.{Defined}
use Rattle.cl_macro.specs.declared.define.Defined.TheVariants as defined
use Rattle.cl_macro.specs.declared.table.Entry.{Entry}
use Rattle.cl_macro.specs.Defining.{Defines}
use Rattle.cl_macro.specs.Table.{IsAsBefore, IsPut, event_by, is_name, macro_by}
use Rattle.cl_pp.specs.declared.done.PpDone.{PpDone}
use Rattle.cl_pp.specs.Standing.{Start, meant, numbered, with_looked}
use Rattle.cl_pp.specs.Taking.{defined_by}
use Rattle.cl_pp.specs.code.Defining.{defined_after}
use Rattle.cl_pp.specs.code.Keeping.{Keeps}

meant_more : (events : List MacroEvent) (e : MacroEvent) (name : List ℕ) (before : Option Macro) → meant (events ++ e ∷ []) name before ≡ (if is_name e.name name then e.set else meant events name before)
meant_more [] e name before = refl
meant_more (x ∷ xs) e name before = meant_more xs e name (if is_name x.name name then x.set else before)

abbrev no : ℕ → MacroNo
no n = record { 0 = n }

numbered_more : (n : ℕ) (events : List MacroEvent) (e : MacroEvent) (name : List ℕ) (before : Option MacroNo)
    → numbered n (events ++ e ∷ []) name before ≡ (if is_name e.name name then Some (no (n + length events)) else numbered n events name before)
numbered_more n [] e name before = let s : n ≡ n + 0 = omega arith in ap (λ (k : ℕ). if is_name e.name name then Some (no k) else before) s
numbered_more n (x ∷ xs) e name before =
    let s : n + 1 + length xs ≡ n + suc (length xs) = omega arith in
    numbered_more (n + 1) xs e name (if is_name x.name name then Some (no n) else before)
    ∙ ap (λ (k : ℕ). if is_name e.name name then Some (no k) else numbered (n + 1) xs name (if is_name x.name name then Some (no n) else before)) s

pub kept_event : {ms : List ℕ → Option Macro} {ns : List ℕ → Option MacroNo} (start : Start) (table new : MacroTable) (old done : PpDone) (name : List ℕ) (set : Option Macro) → Keeps ms ns start table old
    → done.events ≡ old.events ++ record { name = name; set = set } ∷ [] → IsPut name set table new → Keeps ms ns start new done
kept_event {ms} {ns} start table new old done name set k e p =
    let m = p.macros ms in
    let n = p.events ns in
    let c = p.count in
    let event : MacroEvent = record { name = name; set = set } in
    record {
      macros_are = λ other. m other ∙ ap (λ (o : Option Macro). if is_name name other then set else o) (k.macros_are other)
          ∙ sym (meant_more old.events event other (start.macros other)) ∙ ap (λ (es : List MacroEvent). meant es other (start.macros other)) (sym e);
      numbers_are = λ other. n other ∙ (λ i. if is_name name other then Some (no (k.count i)) else k.numbers_are other i)
          ∙ sym (numbered_more start.events old.events event other (start.numbers other)) ∙ ap (λ (es : List MacroEvent). numbered start.events es other (start.numbers other)) (sym e);
      count = c ∙ (let s : length done.events ≡ length old.events + 1 = ap length e ∙ more old.events event in let t = k.count in omega arith);
    }
  where
    more : (es : List MacroEvent) (x : MacroEvent) → length (es ++ x ∷ []) ≡ length es + 1
    more [] x = refl
    more (y ∷ ys) x = let r = more ys x in omega (arith, r)

-- nothing happened
pub kept_same : {ms : List ℕ → Option Macro} {ns : List ℕ → Option MacroNo} (start : Start) (table new : MacroTable) (old done : PpDone) → Keeps ms ns start table old → done.events ≡ old.events → IsAsBefore table new → Keeps ms ns start new done
kept_same {ms} {ns} start table new old done k e p = record {
  macros_are = λ other. ap (λ (x : Option Entry). macro_by x (ms other)) (p.entries other) ∙ k.macros_are other ∙ ap (λ (es : List MacroEvent). meant es other (start.macros other)) (sym e);
  numbers_are = λ other. ap (λ (x : Option Entry). event_by x (ns other)) (p.entries other) ∙ k.numbers_are other ∙ ap (λ (es : List MacroEvent). numbered start.events es other (start.numbers other)) (sym e);
  count = p.count ∙ k.count ∙ ap (λ (es : List MacroEvent). start.events + length es) (sym e);
}

-- a definition
pub kept_given : {ms : List ℕ → Option Macro} {ns : List ℕ → Option MacroNo} (file : ℕ) (start : Start) (table new : MacroTable) (old done : PpDone) (answer : Defined) (mac : Macro) (tokens : List Token) → Keeps ms ns start table old
    → done ≡ defined_by file answer mac tokens old → Defines mac answer table new → Keeps ms ns start new done
kept_given file start table new old done defined.New mac tokens k e d = kept_event start table new old done mac.name (Some mac) k (ap (λ (x : PpDone). x.events) e) d
kept_given file start table new old done defined.Same mac tokens k e d = kept_same start table new old done k (ap (λ (x : PpDone). x.events) e) d
kept_given file start table new old done (defined.Replaced place) mac tokens k e d = kept_event start table new old done mac.name (Some mac) k (ap (λ (x : PpDone). x.events) e) d

-- the name is looked at first
pub told_first : (file : ℕ) (answer : Defined) (mac : Macro) (tokens : List Token) (old : PpDone) → defined_after file answer mac.name mac tokens (with_looked (mac.name ∷ []) old) ≡ defined_by file answer mac tokens old
told_first file defined.New mac tokens old = refl
told_first file defined.Same mac tokens old = refl
told_first file (defined.Replaced place) mac tokens old = refl
