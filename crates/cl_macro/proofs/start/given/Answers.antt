use Rattle.std.proofs.Common.{◌≡◌, ◌∙◌, [], ◌∷◌, ◌++◌, List, sym, ap, subst, arith, append_assoc}
use Rattle.std.specs.Prelude.{option_to_list}
use Rattle.std.proofs.lemmas.Grind.{common_steps}
use Rattle.cl_base.specs.declared.config.Define.{Define}
use Rattle.cl_base.specs.declared.macros.Macro.{Macro}
use Rattle.cl_macro.specs.Starting.{Given, none, more}
use Rattle.cl_macro.proofs.Starting.{no_more}
use Rattle.cl_macro.proofs.start.given.Goals as goal

pub loop-define-init : goal.loop-define-init
loop-define-init c = λ later g. subst (λ (ms : List Macro). Given c.args.defines.now (ms ++ later)) (sym c.new-macros.ensures) g

pub loop-define-preserved : goal.loop-define-preserved
loop-define-preserved c = λ later g.
    let e : c.loop-define.rest.now ≡ c.in-Some.define.now ∷ c.in-Some.behind.now = grind (arith, common_steps) in
    let o = option_to_list c.in_ok-found.found in
    let h = c.loop-define.invariant (o ++ later) (subst (λ (ds : List Define). Given ds (o ++ later)) (sym e) (more _ _ _ later c.in_ok-found.ensures g)) in
    subst (λ (ms : List Macro). Given c.args.defines.now ms) (sym (ap (λ (ms : List Macro). ms ++ later) c.in_ok-push_some.ensures ∙ append_assoc c.loop-define.macros o later)) h

pub returns : goal.returns
returns c =
    let e : c.loop-define.rest.now ≡ [] = grind (arith, common_steps) in
    subst (λ (ms : List Macro). Given c.args.defines.now ms) (no_more c.loop-define.macros) (c.loop-define.invariant [] (subst (λ (ds : List Define). Given ds []) (sym e) none))
