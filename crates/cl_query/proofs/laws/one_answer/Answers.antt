use Rattle.cl_pp.proofs.Unique.{one_preprocessed}
use Rattle.cl_parse.specs.Items.{no_names}
use Rattle.cl_query.specs.AnswerOf.{one_answer_by}
use Rattle.cl_query.proofs.laws.one_answer.Goals as goal

pub returns : goal.returns
returns c = one_answer_by one_preprocessed (c.one_item_list.ensures no_names)
