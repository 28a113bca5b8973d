use Rattle.std.proofs.Common.{subst, true}
use Rattle.std.specs.BTreeSet.{Updates}
use Rattle.cl_diag.specs.declared.rank.Rank.{Rank}
use Rattle.cl_diag.specs.code.Ranks.{rank_cmp, rank_of}
use Rattle.cl_diag.proofs.Taking.{taken_more}
use Rattle.cl_diag.proofs.order.ranks_of.Goals as goal

pub loop-diag-preserved : goal.loop-diag-preserved
loop-diag-preserved c =
    let updates : Updates rank_cmp c.loop-diag.ranks c.insert.new.self (rank_of c.in-Some.diag) true = subst (λ (r : Rank). Updates rank_cmp c.loop-diag.ranks c.insert.new.self r true) c.rank_of.ensures c.in_ok-insert.ensures.updates in
    taken_more c.args.diags c.loop-diag.left c.pop.new.self c.in-Some.diag c.loop-diag.ranks c.insert.new.self c.loop-diag.invariant c.in-Some.ensures.items updates c.in_ok-insert.ensures.ordered
