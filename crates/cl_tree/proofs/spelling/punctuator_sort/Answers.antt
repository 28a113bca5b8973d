use Rattle.std.proofs.Common.{arith}
use Rattle.cl_tree.specs.Spellings.{sort}
use Rattle.cl_tree.specs.declared.class.Class.TheVariants as cl
use Rattle.cl_tree.specs.declared.shape.Raw.TheVariants as raw
use Rattle.cl_tree.proofs.Slots.{punctuator_found}
use Rattle.cl_tree.proofs.spelling.punctuator_sort.Goals as goal

pub returns : goal.returns
returns c = grind (arith, c.in_row.ensures, c.punctuators.ensures, c.punctuator_row.ensures, c.plain-other.ensures, punctuator_found c.args.text.now (sort (raw.Plain cl.Other)))
