use Rattle.std.proofs.Common.{ℕ, ◌==◌, length, sym, arith, rules}
use Rattle.std.proofs.lemmas.List.Sums.{position_or_len_is}
use Rattle.cl_paths.proofs.uri.len_to_slash.Goals as goal

pub returns-in-Some-clause-value : goal.returns-in-Some-clause-value
returns-in-Some-clause-value c = sym (position_or_len_is (λ (b : ℕ). b == 47) c.args.rest.now c.in-Some.len 0 (search rules) (search rules) (search rules))

pub returns-in-None-clause-value : goal.returns-in-None-clause-value
returns-in-None-clause-value c = sym (position_or_len_is (λ (b : ℕ). b == 47) c.args.rest.now (length c.args.rest.now) 0 (omega arith) (search rules) (search rules))
