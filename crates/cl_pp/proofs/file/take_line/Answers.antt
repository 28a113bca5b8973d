use Rattle.std.proofs.Common.{subst, ap, ◌∙◌, List, length}
use Rattle.std.specs.Prelude.{reverse}
use Rattle.cl_pp.specs.declared.section.Section.{Section}
use Rattle.cl_pp.specs.Lines.{line_of}
use Rattle.cl_pp.specs.code.Going.{ComesBy}
use Rattle.cl_pp.specs.code.Stacks.{tell, top_of}
use Rattle.cl_pp.proofs.Withins.{within_line}
use Rattle.cl_pp.proofs.file.take_line.Goals as goal

pub returns-clause-done : goal.returns-clause-done
returns-clause-done g c = λ w s v.
    subst (λ (x : Section). ComesBy (g.B.MacroBase.macros c.args.base.now) (g.B.MacroBase.events c.args.base.now) c.args.file.now w c.args.table.now (tell x) c.args.mark (line_of c.args.tokens.now c.args.mark) c.args.made.now.done c.in_ok-came.came.held c.in_ok-came.came.aim c.act.new.made.done)
    (c.top-here.ensures ∙ ap (λ (ss : List Section). top_of (reverse ss)) c.as_slice.ensures.value)
    (c.in_ok-came.ensures.done w s (within_line (length w.text) c.args.mark.from c.args.mark.to c.args.tokens.now v))
