use Rattle.cl_paths.proofs.Naming.{read_back}
use Rattle.cl_paths.proofs.laws.path_read_back.Goals as goal

pub returns : goal.returns
returns c = read_back
