use Rattle.std.proofs.Common.{◌≡◌, ℕ, List}
use Rattle.cl_headers.specs.Noting.{IsNoted}
use Rattle.cl_pp.specs.Preprocessing.{Before}
use Rattle.cl_pp.specs.Resuming.{IsWork, Waits}
use Rattle.cl_pp.proofs.work.run.Given as goal

abbrev pub invariant-loop-count : goal.invariant-loop-count
invariant-loop-count g l =
    let known = g.V.HeaderView.known in
    let asked = g.V.HeaderView.asked in
    let macros = g.B.MacroBase.macros l.base in
    let numbers = g.B.MacroBase.events l.base in
    record {
      sound : IsWork l.work;
      fixed : known l.view ≡ known l.fn.view;
      noted : IsNoted (known l.fn.view) l.initial.work.made.done.deps l.work.made.done.deps (asked l.initial.view) (asked l.view);
      waits : (before : Before) (path text : List ℕ) → Waits macros numbers before l.config.includes path text l.initial.work → Waits macros numbers before l.config.includes path text l.work;
    }
