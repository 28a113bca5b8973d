-- Which job the work on a job may stand for.
use Rattle.std.specs.Prelude.{◌≡◌, List, []}
use Rattle.cl_query.specs.declared.job.Job.{Job}
use Rattle.cl_headers.specs.declared.dep.Dep.{Dep}
use Rattle.cl_query.specs.Seen.{Agrees}

-- a job but for what is known of headers
abbrev pub work_of : Job → Job
work_of job = record job { headers = [] }

-- work on a job, which saw this of headers, is work on another: that is the same but for its headers, and these say what
-- was seen
pub record IsOver (worked : Job) (seen : List Dep) (job : Job) : Type 0 where
  pub same : work_of worked ≡ work_of job
  pub agrees : Agrees job.headers seen
