use Rattle.std.proofs.Common.{◌++◌, IsUtf8, List, ap, sym, subst, ◌∙◌}
use Rattle.cl_base.specs.declared.token.Diag.{Diag}
use Rattle.cl_pp.specs.declared.aim.Aim.TheVariants.{Header}
use Rattle.cl_pp.proofs.Naming.{named_aim, named_faults, other_aim, other_faults}
use Rattle.cl_pp.proofs.include.aimed.Goals as goal

pub returns-in-Ok-clause-aim : goal.returns-in-Ok-clause-aim
returns-in-Ok-clause-aim c =
    let u = subst IsUtf8 c.bytes.ensures c.in-Ok.ensures.cases.1 in
    let n = c.in_ok-name-in-Ok.ensures ∙ c.in-Ok.ensures.cases.0 ∙ c.bytes.ensures in
    rw c.in-Some.is ((λ i. Header (record { angled = c.in-Some.named.angled; name = n i; at = c.span_or.ensures i })) ∙ sym (named_aim c.args.file c.in-Some.named c.args.tokens.now c.args.line.now u))

pub returns-in-Ok-clause-faults : goal.returns-in-Ok-clause-faults
returns-in-Ok-clause-faults c =
    let u = subst IsUtf8 c.bytes.ensures c.in-Ok.ensures.cases.1 in
    rw c.in-Some.is (c.in_ok-extra_made-in-Ok.ensures ∙ ap (λ (fs : List Diag). c.args.faults.now ++ fs) (sym (named_faults c.args.file c.in-Some.named c.args.tokens.now c.args.line.now u)))

pub returns-clause-aim : goal.returns-clause-aim
returns-clause-aim c =
    rw c.in-Some.is (sym (other_aim c.args.file c.in-Some.named c.args.tokens.now c.args.line.now (λ u. c.in-Err.ensures.cases.0 (subst IsUtf8 (sym c.bytes.ensures) u))))

pub returns-clause-faults : goal.returns-clause-faults
returns-clause-faults c =
    rw c.in-Some.is (c.in_ok-fault_in-in-Err.ensures ∙ ap (λ (fs : List Diag). c.args.faults.now ++ fs) (sym (other_faults c.args.file c.in-Some.named c.args.tokens.now c.args.line.now (λ u. c.in-Err.ensures.cases.0 (subst IsUtf8 (sym c.bytes.ensures) u)))))
