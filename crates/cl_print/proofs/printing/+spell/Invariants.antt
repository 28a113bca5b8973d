use Rattle.std.proofs.Common.{◌≡◌, ◌++◌, drop, true}
use Rattle.cl_print.specs.Print.{parameters, spelled_each}
use Rattle.cl_print.proofs.printing.+spell.Given as goal

abbrev pub invariant-spell_types-loop-t : goal.invariant-spell_types-loop-t
invariant-spell_types-loop-t l = l.text ++ parameters l.first (spelled_each (drop l.t-index l.types)) l.variadic ≡ parameters true (spelled_each l.types) l.variadic
