use Rattle.std.proofs.Common.{ap, ◌∙◌, ◌++◌, map}
use Rattle.cl_pp.specs.Lines.{spread_fault}
use Rattle.cl_pp.specs.Preprocessing.{open_comments}
use Rattle.cl_pp.specs.declared.made.Opened.{Opened}
use Rattle.cl_pp.proofs.open.begin.Goals as goal

pub returns-clause-done : goal.returns-clause-done
returns-clause-done c =
    let file = c.args.source.now.number in
    let old = c.args.made.now.done in
    let laid = c.requires in
    record {
      groups = laid.groups;
      lexes = laid.lexes;
      order = laid.order;
      grouped = laid.grouped;
      marks = laid.marks;
      lie = laid.lie;
      lines = laid.lines;
      begins = laid.begins;
      is = λ i. record old { faults = (c.in_ok-first_faults.ensures ∙ (λ j. old.faults ++ (open_comments file ((c.as_slice.ensures.value ∙ ap (λ (o : Opened). o.lexed.faults) c.deref.ensures) j) ++ map (spread_fault file) ((c.as_slice-2.ensures.value ∙ ap (λ (o : Opened). o.faults) c.deref-2.ensures ∙ laid.faults) j)))) i };
    }
