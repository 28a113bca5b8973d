-- What became of a job.
use Rattle.std.specs.Prelude.{◌≡◌}
use Rattle.cl_query.specs.declared.job.Job.{Job}
use Rattle.cl_query.specs.declared.done.JobAnswer.{JobAnswer}
use Rattle.cl_query.specs.declared.done.JobAnswer.TheVariants.{Done, Need, Memory}

-- it comes back as it is, with its answer, with a header that it needs, or without either
abbrev pub IsAnswerTo : Job → JobAnswer → Type 0
IsAnswerTo job (Done done) = done.job ≡ job
IsAnswerTo job (Need need) = need.job ≡ job
IsAnswerTo job (Memory same) = same ≡ job
