use Rattle.cl_const.proofs.Utf8.{by_utf8}
use Rattle.cl_const.proofs.laws.characters_by_utf8.Goals as goal

pub returns : goal.returns
returns c = by_utf8
