use Rattle.std.proofs.Common.{◌≡◌, ◌-◌, length, List, reverse}
use Rattle.std.specs.Prelude.{false}
use Rattle.cl_pp.specs.Activity.{Passed}
use Rattle.cl_pp.specs.Preprocessing.{World}
use Rattle.cl_pp.specs.Standing.{Start, is_stopped}
use Rattle.cl_pp.specs.code.Keeping.{Keeps, Sees, Suits}
use Rattle.cl_pp.specs.code.Resuming.{IsAt}
use Rattle.cl_pp.specs.code.Stacks.{Stand}
use Rattle.cl_pp.proofs.Going.{Gone}
use Rattle.cl_pp.proofs.file.lines.Given as goal

abbrev pub decreases-loop-line : goal.decreases-loop-line
decreases-loop-line g l = length l.marks - l.place.next

abbrev pub invariant-loop-line : goal.invariant-loop-line
invariant-loop-line g l =
    let macros = g.B.MacroBase.macros l.base in
    let numbers = g.B.MacroBase.events l.base in
    record {
      sees : Sees l.made;
      deps : l.made.done.deps ≡ l.initial.made.done.deps;
      keeps : (start : Start) → Keeps macros numbers start l.initial.table l.initial.made.done → Keeps macros numbers start l.table l.made.done;
      gone : (w : World) (past : List Passed) → Suits l.file w → IsAt l.source w → is_stopped l.initial.made.done ≡ false → Stand past (reverse l.initial.place.sections) → Keeps macros numbers w.start l.initial.table l.initial.made.done
          → Gone w l.tokens l.marks past l.initial.made.done l.made.done (reverse l.place.sections) l.initial.place.next l.place.next;
    }
