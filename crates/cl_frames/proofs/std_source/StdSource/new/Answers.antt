use Rattle.cl_frames.proofs.Known.{prepend_known_nil}
use Rattle.cl_frames.proofs.std_source.StdSource.new.Goals as goal

pub returns-clause-left : goal.returns-clause-left
returns-clause-left g c = prepend_known_nil (g.R.Read.remaining c.args.inner)
