use Rattle.std.proofs.Common.{◌≡◌, false, sym, ◌∙◌, rules}
use Rattle.cl_types.specs.code.Pairs.{is_qualified}
use Rattle.cl_types.proofs.OwnLemmas.{bare_left}
use Rattle.cl_types.proofs.composing.+compose.Goals as goal

pub composite_bare-returns-in_ok-t-in_default : goal.composite_bare-returns-in_ok-t-in_default
composite_bare-returns-in_ok-t-in_default t c =
    let e : is_qualified c.args.a.now ≡ false = search rules in
    c.in_ok-t-in_default.ensures ∙ search rules ∙ sym (bare_left c.args.a.now c.args.b.now e)
