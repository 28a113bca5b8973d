use Rattle.cl_paths.proofs.Shapes.{normal_shape}
use Rattle.cl_paths.proofs.Wholes.{leads_there, one_form, normal_again}
use Rattle.cl_paths.proofs.laws.one_normal_form.Goals as goal

pub returns : goal.returns
returns c = record { shape = normal_shape; there = leads_there; one = one_form; again = normal_again }
