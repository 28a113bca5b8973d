use Rattle.std.proofs.Common.{◌≡◌, true, get_or, sym, ◌∙◌}
use Rattle.cl_literals.specs.Faults.{is_string}
use Rattle.cl_literals.proofs.Runs.{joined, literal_first}
use Rattle.cl_literals.proofs.finding.add_first.Goals as goal

pub returns-in_ok-add_literal_faults-clause-faults : goal.returns-in_ok-add_literal_faults-clause-faults
returns-in_ok-add_literal_faults-clause-faults c =
    let strings : is_string (get_or c.args.tokens.now 0 c.index-tokens-0.result).kind ≡ true = sym c.is_string.ensures ∙ c.if-is_string.true in
    let whole = literal_first c.args.tokens.now c.split_at.result.0.now c.split_at.result.1.now c.index-tokens-0.result c.strings_len.result
    c.requires strings c.strings_len.ensures.value c.split_at.ensures.front c.split_at.ensures.back in
    joined _ _ _ _ _ c.in_ok-add_literal_faults.ensures whole
