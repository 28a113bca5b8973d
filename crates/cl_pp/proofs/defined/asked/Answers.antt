use Rattle.cl_pp.proofs.Deciding.{asked_all, asked_on, fewer}
use Rattle.cl_pp.proofs.defined.asked.Goals as goal

pub loop-token-preserved : goal.loop-token-preserved
loop-token-preserved c =
    asked_on c.args.tokens.now c.loop-token.names c.ask_for.new.names c.loop-token.rest.now c.in-Some.after.now c.split_at.result.1.now c.in-Some.token.now c.taken-count.result
    c.loop-token.invariant c.in-Some.ensures.cases.0 c.taken-count.ensures.value c.taken-count.ensures.within c.in_ok-ask_for.ensures c.split_at.ensures.back

pub loop-token-smaller : goal.loop-token-smaller
loop-token-smaller c = fewer c.loop-token.rest.now c.in-Some.after.now c.split_at.result.1.now c.in-Some.token.now c.taken-count.result c.in-Some.ensures.cases.0 c.split_at.ensures.back_len

pub returns : goal.returns
returns c = asked_all c.args.tokens.now c.loop-token.names c.loop-token.rest.now c.loop-token.invariant c.in_default.ensures.cases
