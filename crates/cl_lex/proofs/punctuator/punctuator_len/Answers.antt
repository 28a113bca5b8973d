use Rattle.std.proofs.Common.{sym, ◌∙◌, slice_index}
use Rattle.cl_lex.proofs.Singles.{single_is, single_longest}
use Rattle.cl_lex.proofs.punctuator.punctuator_len.Goals as goal

pub returns-then-is_single-clause-some : goal.returns-then-is_single-clause-some
returns-then-is_single-clause-some c = λ some. single_is (slice_index c.args.chars.now c.args.at) (sym c.is_single.ensures ∙ c.if-is_single.true)

pub returns-then-is_single-clause-longest : goal.returns-then-is_single-clause-longest
returns-then-is_single-clause-longest c = λ n more within is. single_longest c.args.chars.now c.args.at n (sym c.is_single.ensures ∙ c.if-is_single.true) more is
