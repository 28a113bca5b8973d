use Rattle.std.proofs.Common.{◌≡◌, ◌∙◌, [], ◌∷◌, List, sym, ap, arith, reverse, refl}
use Rattle.std.proofs.lemmas.Grind.{common_steps}
use Rattle.cl_base.specs.declared.macros.Macro.{Macro}
use Rattle.cl_macro.specs.Table.{macro_of}
use Rattle.cl_macro.specs.Starting.{last_of}
use Rattle.cl_macro.proofs.table.MacroTable.begin.Goals as goal

pub loop-mac-init : goal.loop-mac-init
loop-mac-init c = record {
  macros = λ base name. ap (λ (ms : List Macro). last_of ms name (macro_of c.args.self.now base name))
      (let e : c.args.macros ≡ reverse c.in_ok-rest.rest = grind (arith, common_steps) in e);
  unnumbered = λ name e. e;
  count = refl;
}

pub loop-mac-preserved : goal.loop-mac-preserved
loop-mac-preserved c =
    let e : reverse c.loop-mac.rest ≡ c.in-Some.mac ∷ reverse c.pop.new.self = grind (arith, common_steps) in
    record {
      macros = λ base name. c.loop-mac.invariant.macros base name
          ∙ ap (λ (ms : List Macro). last_of ms name (macro_of c.loop-mac.self base name)) e
          ∙ ap (λ found. last_of (reverse c.pop.new.self) name found) (sym (c.in_ok-give.ensures.macros_are base name));
      unnumbered = λ name e. c.in_ok-give.ensures.unnumbered name (c.loop-mac.invariant.unnumbered name e);
      count = c.in_ok-give.ensures.count ∙ c.loop-mac.invariant.count;
    }

pub returns : goal.returns
returns c =
    let e : reverse c.loop-mac.rest ≡ [] = grind (arith, common_steps) in
    record {
      macros_are = λ base name. sym (c.loop-mac.invariant.macros base name ∙ ap (λ (ms : List Macro). last_of ms name (macro_of c.loop-mac.self base name)) e);
      unnumbered = c.loop-mac.invariant.unnumbered;
      count = c.loop-mac.invariant.count;
    }
