use Rattle.std.proofs.Common.{◌≡◌, ℕ, true, arith, sym, ◌∙◌}
use Rattle.cl_lex.specs.Spelling.{goes_on_number}
use Rattle.cl_lex.proofs.Pass.{one_more}
use Rattle.cl_lex.proofs.scan.number_end.Goals as goal

pub loop-at-preserved : goal.loop-at-preserved
loop-at-preserved c = record {
  low = omega arith;
  high = omega arith;
  all = one_more (λ (i : ℕ). goes_on_number c.args.chars.now i ≡ true) _ _ c.loop-at.invariant.all (sym c.goes_on_number.ensures ∙ c.if-goes_on_number.true);
}
