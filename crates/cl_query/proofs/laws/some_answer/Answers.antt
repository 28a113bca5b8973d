use Rattle.cl_base.specs.declared.query.Query.TheVariants.{Symbols}
use Rattle.cl_headers.specs.Resolving.{known_of}
use Rattle.cl_parse.specs.Items.{no_names}
use Rattle.cl_query.proofs.Found.{some_by}
use Rattle.cl_query.proofs.laws.some_answer.Goals as goal

pub returns : goal.returns
returns c Symbols config headers path text = let p = c.some_preprocessing.ensures config (known_of headers) path text in some_by (c.some_item_list.ensures no_names) config headers path text p.0 p.1
