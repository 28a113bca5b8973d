-- A file that is gone over, line by line.
use Rattle.std.proofs.Common.{◌≡◌, ℕ, ◌+◌, List, [], ◌∷◌, ◌++◌, Option, None, refl, sym, ap, subst, ◌∙◌, length, map, append_assoc, append-nil}
use Rattle.std.specs.Ordering.{nat_cmp}
use Rattle.std.specs.BTreeMap.{get}
use Rattle.cl_base.specs.Lines.{IsTableOf}
use Rattle.cl_base.specs.declared.headers.Known.{Known}
use Rattle.cl_base.specs.declared.headers.Known.TheVariants.{Unknown}
use Rattle.cl_base.specs.declared.macros.MacroEvent.{MacroEvent}
use Rattle.cl_base.specs.declared.token.Token.{Token}
use Rattle.cl_cond.specs.declared.mark.Mark.{Mark}
use Rattle.cl_headers.specs.declared.dep.Dep.{Dep}
use Rattle.cl_headers.specs.Noting.{IsNoted, dep_of}
use Rattle.cl_lex.specs.Order.{AreInOrder}
use Rattle.cl_macro.specs.declared.table.MacroTable.{MacroTable}
use Rattle.cl_base.specs.declared.macros.MacroNo.{MacroNo}
use Rattle.cl_base.specs.declared.macros.Macro.{Macro}
use Rattle.cl_macro.proofs.Teller.{some_teller}
use Rattle.cl_pp.specs.declared.aim.Aim.{Aim}
use Rattle.cl_pp.specs.declared.done.PpDone.{PpDone}
use Rattle.cl_pp.specs.declared.made.File.{File}
use Rattle.cl_pp.specs.Activity.{Question}
use Rattle.cl_pp.specs.Places.{Within}
use Rattle.cl_pp.specs.Preprocessing.{World, rules_in}
use Rattle.cl_pp.specs.Standing.{Start, meant, numbered}
use Rattle.cl_pp.specs.code.Going.{ComesBy}
use Rattle.cl_pp.specs.code.Keeping.{Keeps, Suits, lookup, number_of}
use Rattle.cl_pp.proofs.Adding.{comes_deps}
use Rattle.cl_pp.proofs.Withins.{within_order}
use Rattle.std.specs.Prelude.{Bool}

pub keeps_events : {ms : List ℕ → Option Macro} {ns : List ℕ → Option MacroNo} (start : Start) (table : MacroTable) (old new : PpDone) → Keeps ms ns start table old → new.events ≡ old.events → Keeps ms ns start table new
keeps_events start table old new k e = record {
  macros_are = λ name. k.macros_are name ∙ ap (λ (es : List MacroEvent). meant es name (start.macros name)) (sym e);
  numbers_are = λ name. k.numbers_are name ∙ ap (λ (es : List MacroEvent). numbered start.events es name (start.numbers name)) (sym e);
  count = k.count ∙ ap (λ (es : List MacroEvent). start.events + length es) (sym e);
}

map_both : (known : List ℕ → Known) (xs ys : List (List ℕ)) → map (dep_of known) (xs ++ ys) ≡ map (dep_of known) xs ++ map (dep_of known) ys
map_both known [] ys = refl
map_both known (x ∷ xs) ys = ap (λ (ds : List Dep). dep_of known x ∷ ds) (map_both known xs ys)

pub noted_first : (known : List ℕ → Known) (a : List Dep) (x : List (List ℕ)) → IsNoted known a a x x
noted_first known a x = record { asked = []; since = sym (append-nil x); are = sym (append-nil a) }

pub noted_then : (known other : List ℕ → Known) (a b c d : List Dep) (x y z : List (List ℕ)) → other ≡ known → c ≡ b → IsNoted known a b x y → IsNoted other c d y z → IsNoted known a d x z
noted_then known other a b c d x y z k e m n = record {
  asked = m.asked ++ n.asked;
  since = n.since ∙ ap (λ (ps : List (List ℕ)). ps ++ n.asked) m.since ∙ append_assoc x m.asked n.asked;
  are = n.are ∙ (λ i. (e ∙ m.are) i ++ map (dep_of (k i)) n.asked) ∙ append_assoc a (map (dep_of known) m.asked) (map (dep_of known) n.asked) ∙ ap (λ (ds : List Dep). a ++ ds) (sym (map_both known m.asked n.asked));
}

pub within_tokens : (text other : List ℕ) (lexed tokens : List Token) → tokens ≡ lexed → text ≡ other → AreInOrder 0 (length text) lexed → Within (length other) tokens
within_tokens text other lexed tokens e t o = subst (λ (x : List ℕ). Within (length x) tokens) t (subst (λ (ts : List Token). Within (length text) ts) (sym e) (within_order 0 (length text) lexed o))

-- a line leaves the headers that were asked for as they were
pub line_deps : (ms : List ℕ → Option Macro) (ns : List ℕ → Option MacroNo) (file : File) (text : List ℕ) (macros : MacroTable) (answer : Question → Bool) (mark : Mark) (whole : List Token) (old new : PpDone) (held : Bool) (aim : Aim)
    → IsTableOf file.lines.now text → ((w : World) → Suits file w → w.text ≡ text → ComesBy ms ns file w macros answer mark whole old held aim new) → new.deps ≡ old.deps
line_deps ms ns file text macros answer mark whole old new held aim l h =
    let teller = some_teller in
    let w : World = record {
      file = file.number;
      depth = 0;
      path = file.path.now;
      text = text;
      begins = get nat_cmp file.told.now;
      one_token = teller.0;
      start = record { macros = λ name. None; numbers = λ name. None; events = 0 };
      known = λ path. Unknown;
      folders = [];
    } in
    comes_deps file.number (rules_in w (lookup ms macros)) (number_of ns macros) whole old (get nat_cmp file.told.now) (lookup ms macros) mark.part answer held aim new
    (h w (record { number = refl; path = refl; lines = l; begins = λ at. refl; tells = teller.1 }) refl)
