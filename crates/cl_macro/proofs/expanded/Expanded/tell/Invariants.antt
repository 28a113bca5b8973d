use Rattle.std.proofs.Common.{length}
use Rattle.cl_macro.specs.declared.expanded.Expanded.{Expanded}
use Rattle.cl_macro.specs.Replacing.{all_told}
use Rattle.cl_macro.specs.Table.{event_of}
use Rattle.cl_macro.specs.code.Gaining.{Tells}
use Rattle.cl_macro.proofs.expanded.Expanded.tell.Given as goal

abbrev pub invariant-loop-note : goal.invariant-loop-note
invariant-loop-note g l = (new : Expanded) → Tells (event_of l.table (g.B.MacroBase.events l.base)) (all_told l.before l.at l.rest) l.self new
    → Tells (event_of l.table (g.B.MacroBase.events l.base)) (all_told l.before l.at l.fn.notes) l.fn.self new

abbrev pub decreases-loop-note : goal.decreases-loop-note
decreases-loop-note g l = length l.rest
