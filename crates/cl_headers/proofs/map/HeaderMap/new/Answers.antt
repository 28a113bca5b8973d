use Rattle.cl_headers.proofs.Put.{empty_map}
use Rattle.cl_headers.proofs.map.HeaderMap.new.Goals as goal

pub invariant_of-result : goal.invariant_of-result
invariant_of-result c = empty_map c.new.result c.new.ensures
