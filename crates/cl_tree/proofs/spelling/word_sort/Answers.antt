use Rattle.std.proofs.Common.{arith}
use Rattle.cl_tree.specs.Spellings.{sort}
use Rattle.cl_tree.specs.declared.shape.Raw.TheVariants as raw
use Rattle.cl_tree.proofs.Slots.{keyword_found}
use Rattle.cl_tree.proofs.spelling.word_sort.Goals as goal

pub returns : goal.returns
returns c = grind (arith, c.in_row.ensures, c.keywords.ensures, c.keyword_row.ensures, c.plain.ensures, keyword_found c.args.text.now (sort raw.Word))
