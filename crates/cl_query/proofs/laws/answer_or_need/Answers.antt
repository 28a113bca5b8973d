use Rattle.cl_pp.proofs.Unique.{one_preprocessed}
use Rattle.cl_parse.specs.Items.{no_names}
use Rattle.cl_query.specs.AnswerOf.{answer_or_need_by}
use Rattle.cl_query.proofs.laws.answer_or_need.Goals as goal

pub returns : goal.returns
returns c = answer_or_need_by one_preprocessed (c.one_item_list.ensures no_names)
