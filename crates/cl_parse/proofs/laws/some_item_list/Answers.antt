use Rattle.cl_parse.proofs.Existing.{some_items}
use Rattle.cl_parse.proofs.laws.some_item_list.Goals as goal

pub returns : goal.returns
returns c = some_items c.tree_or_none.ensures.external
