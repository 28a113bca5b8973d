-- Work that is kept where a job needs a header.
use Rattle.std.specs.Prelude.{ℕ, List, Option, Some, None}
use Rattle.cl_base.specs.declared.config.Settings.{Settings}
use Rattle.cl_base.specs.declared.query.Query.{Query}
use Rattle.cl_pp.specs.declared.start.PpState.{PpState}
use Rattle.cl_pp.specs.declared.work.PpWork.{PpWork}
use Rattle.cl_pp.specs.Before.{IsFirst, before_of}
use Rattle.cl_pp.specs.Resuming.{IsWork, Waits}
use Rattle.cl_query.specs.declared.job.Job.{Job}
use Rattle.cl_query.specs.declared.kept.Kept.{Kept}
use Rattle.cl_query.specs.declared.kept.Paused.{Paused}

-- what a job asks, whatever its numbers are and whatever is known of headers
pub record Question : Type 0 where
  pub kind : Query
  pub path : List ℕ
  pub text : List ℕ
  pub config : Settings

abbrev pub question_of : Job → Question
question_of job = record { kind = job.kind; path = job.path; text = job.text; config = job.config }

-- the work is on the job's text, under its settings
pub record IsBegun (job : Job) (work : PpWork) : Type 0 where
  pub start : PpState
  pub first : IsFirst job.config.defines start
  pub waits : Waits (λ name. None) (λ name. None) (before_of start) job.config.includes job.path job.text work

abbrev pub IsPaused : Option Paused → Type 0
IsPaused None = Unit {0}
IsPaused (Some paused) = IsWork paused.work × IsBegun paused.job paused.work

-- what is kept is work on its job
abbrev pub IsKept : Kept → Type 0
IsKept kept = IsPaused kept.paused
