use Rattle.std.proofs.Common.{List, refl, subst, ◌∙◌}
use Rattle.std.specs.Ordering.{nat_cmp}
use Rattle.std.specs.BTreeMap.{get}
use Rattle.cl_base.specs.declared.token.Token.{Token}
use Rattle.cl_cond.specs.Sections.{GroupsOf}
use Rattle.cl_pp.specs.Runs.{runs}
use Rattle.cl_pp.proofs.Opening.{lie_found, runs_found, told_is}
use Rattle.cl_pp.proofs.open.open.Goals as goal

pub runs-requires : goal.runs-requires
runs-requires c =
    lie_found c.in_ok-lexed.lexed.tokens c.as_slice-3.result.now c.as_slice.result.now c.in_ok-groups.groups c.as_slice-4.result.now
    c.as_slice.ensures.value c.as_slice-3.ensures.value c.as_slice-4.ensures.value c.in_ok-groups.ensures

pub returns : goal.returns
returns c =
    let grouped = subst (λ (ts : List Token). GroupsOf ts c.in_ok-groups.groups) c.as_slice.ensures.value c.in_ok-groups.ensures in
    record {
      groups = c.in_ok-groups.groups;
      lexes = c.in_ok-lexed.ensures.lexes;
      order = c.in_ok-lexed.ensures.order;
      grouped = grouped;
      faults = refl;
      marks = c.in_ok-marks.ensures ∙ (λ i. runs (c.as_slice-3.ensures.value i) (c.as_slice-4.ensures.value i));
      lie = runs_found c.in_ok-lexed.lexed.tokens c.as_slice-3.result.now c.in_ok-groups.groups c.as_slice-4.result.now c.in_ok-marks.marks c.as_slice-3.ensures.value c.as_slice-4.ensures.value c.in_ok-marks.ensures grouped;
      lines = c.in_ok-lines.ensures;
      begins = λ at. told_is c.as_slice-2.result.now c.in_ok-lexed.lexed.faults c.as_slice-2.ensures.value (get nat_cmp c.in_ok-told.told) c.in_ok-told.ensures at;
    }
