use Rattle.cl_core.proofs.Running.{has_run}
use Rattle.cl_core.proofs.Started.{all_started, all_numbered}
use Rattle.cl_core.proofs.Finishing.{ends_once}
use Rattle.cl_core.proofs.JobsOut.{each_has_one_out}
use Rattle.cl_core.proofs.laws.any_run.Goals as goal

pub returns-clause-legal : goal.returns-clause-legal
returns-clause-legal c given puts fresh core stands none runs = has_run given puts fresh core stands none runs

pub returns-clause-started : goal.returns-clause-started
returns-clause-started c given puts fresh core stands none runs = all_started given puts fresh core stands none runs

pub returns-clause-numbers : goal.returns-clause-numbers
returns-clause-numbers c given puts fresh core none runs = all_numbered given puts fresh core none runs

pub returns-clause-ends : goal.returns-clause-ends
returns-clause-ends c given puts fresh core stands none idle runs = ends_once given puts fresh core stands none idle runs

pub returns-clause-out : goal.returns-clause-out
returns-clause-out c given puts fresh core stands none idle runs = each_has_one_out given puts fresh core stands none idle runs
