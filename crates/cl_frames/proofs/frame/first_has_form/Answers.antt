use Rattle.cl_frames.proofs.Form.{whole_form, form_whole}
use Rattle.cl_frames.proofs.frame.first_has_form.Goals as goal

pub returns-clause-told : goal.returns-clause-told
returns-clause-told c = whole_form

pub returns-clause-taken : goal.returns-clause-taken
returns-clause-taken c = form_whole
