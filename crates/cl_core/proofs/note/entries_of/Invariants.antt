use Rattle.std.proofs.Common.{◌≡◌, ◌∷◌, ◌++◌, drop}
use Rattle.cl_history.specs.declared.entry.Entry.TheVariants.{In}
use Rattle.cl_core.specs.Steps.{entries_of}
use Rattle.cl_core.proofs.note.entries_of.Given as goal

abbrev pub invariant-loop-effect : goal.invariant-loop-effect
invariant-loop-effect l = l.entries.items ++ entries_of (drop l.effect-index l.effects) ≡ In l.message ∷ entries_of l.effects
