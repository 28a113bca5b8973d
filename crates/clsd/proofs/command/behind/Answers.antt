use Rattle.clsd.proofs.Worded.{strips}
use Rattle.clsd.proofs.command.behind.Goals as goal

pub returns : goal.returns
returns c = strips c.args.mark.now c.args.word.now c.strip_prefix.result c.strip_prefix.ensures.cases
