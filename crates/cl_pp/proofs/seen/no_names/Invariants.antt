use Rattle.cl_pp.specs.code.Seeing as s
use Rattle.cl_pp.proofs.seen.no_names.Given as goal

abbrev pub invariant-loop : goal.invariant-loop
invariant-loop l = s.AreEmpty l.places.items
