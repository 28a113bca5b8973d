use Rattle.std.proofs.Common.{List, refl, inr, rules, subst}
use Rattle.std.specs.Prelude.{Contains}
use Rattle.cl_headers.specs.declared.dep.Dep.{Dep}
use Rattle.cl_query.specs.Over.{IsOver}
use Rattle.cl_core.specs.declared.waiting.Waiting.{Waiting}
use Rattle.cl_core.proofs.need.need.Goals as goal

pub returns-then-is_none-clause-ok : goal.returns-then-is_none-clause-ok
returns-then-is_none-clause-ok c = inr (record {
  not_out = subst (λ (seen : List Dep). (waiting : Waiting) → Contains c.args.core.now.pending waiting → IsOver c.args.need.job seen waiting.job → ⊥) c.as_slice.ensures.value (c.waiting_for.ensures.out (search rules));
  same = refl;
  none = c.new.ensures;
})
