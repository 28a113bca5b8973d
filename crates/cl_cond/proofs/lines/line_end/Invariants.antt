use Rattle.std.proofs.Common.{◌≡◌, ◌<◌, ◌≤◌, ◌-◌, ℕ, false, length}
use Rattle.cl_cond.specs.Lines.{token_at}
use Rattle.cl_cond.proofs.lines.line_end.Given as goal

abbrev pub invariant-loop-end : goal.invariant-loop-end
invariant-loop-end l = record {
  order : l.from < l.end;
  within : l.end ≤ length l.tokens;
  goes : (i : ℕ) → l.from < i → i < l.end → (token_at l.tokens i).first ≡ false;
}

abbrev pub decreases-loop-end : goal.decreases-loop-end
decreases-loop-end l = length l.tokens - l.end
