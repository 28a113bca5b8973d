use Rattle.cl_pp.specs.code.Keeping.{lookup}
use Rattle.cl_pp.proofs.Deciding.{decided_all, decided_on, fewer}
use Rattle.cl_pp.proofs.defined.decided.Goals as goal

pub loop-token-preserved : goal.loop-token-preserved
loop-token-preserved g c =
    decided_on c.args.file (lookup (g.B.MacroBase.macros c.args.base.now) c.args.table.now) c.args.tokens.now c.loop-token.all c.push.new.self c.loop-token.rest.now c.in-Some.after.now c.split_at.result.1.now c.in-Some.token.now c.taken-count.result c.in_ok-token.token
    c.loop-token.invariant c.in-Some.ensures.cases.0 c.taken-count.ensures.value c.taken-count.ensures.within c.in_ok-token.ensures c.in_ok-push.ensures.ok c.split_at.ensures.back

pub loop-token-smaller : goal.loop-token-smaller
loop-token-smaller g c = fewer c.loop-token.rest.now c.in-Some.after.now c.split_at.result.1.now c.in-Some.token.now c.taken-count.result c.in-Some.ensures.cases.0 c.split_at.ensures.back_len

pub returns : goal.returns
returns g c = decided_all c.args.file (lookup (g.B.MacroBase.macros c.args.base.now) c.args.table.now) c.args.tokens.now c.loop-token.all c.loop-token.rest.now c.loop-token.invariant c.in_default.ensures.cases
