use Rattle.std.proofs.Common.{[]}
use Rattle.cl_tree.specs.Brackets.{brackets}
use Rattle.cl_parse.proofs.Unique.{one_list}
use Rattle.cl_parse.proofs.laws.one_item_list.Goals as goal

pub returns : goal.returns
returns c = λ names tokens xs ys. one_list c.one_tree.ensures.external tokens (brackets tokens) names [] xs ys
