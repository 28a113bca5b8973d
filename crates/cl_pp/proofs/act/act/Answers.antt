use Rattle.cl_pp.proofs.act.act.Goals as goal

pub returns-in_ok-aim-in-Line-clause-done : goal.returns-in_ok-aim-in-Line-clause-done
returns-in_ok-aim-in-Line-clause-done g c = λ w s v. rw c.in-Line.is (c.in_ok-aim-in-Line.ensures.done w s v)
