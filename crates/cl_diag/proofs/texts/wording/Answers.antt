use Rattle.cl_diag.specs.Texts.{texts, wording}
use Rattle.cl_diag.proofs.texts.wording.Goals as goal

pub returns : goal.returns
unfolding texts wording
returns c = c.word_at.ensures
