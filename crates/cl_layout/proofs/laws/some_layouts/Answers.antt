use Rattle.cl_layout.proofs.Existence.{some_layouts}
use Rattle.cl_layout.proofs.laws.some_layouts.Goals as goal

pub returns : goal.returns
returns c = some_layouts
