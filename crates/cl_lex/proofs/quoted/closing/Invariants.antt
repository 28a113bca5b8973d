use Rattle.std.proofs.Common.{◌≡◌, ℕ, ◌<◌, ◌≤◌, ◌-◌, true, length, slice_index}
use Rattle.cl_lex.specs.Spelling.{HasNone, is_escaped}
use Rattle.cl_lex.proofs.quoted.closing.Given as goal

abbrev pub invariant-loop-at : goal.invariant-loop-at
invariant-loop-at l = record {
  low : l.from ≤ l.at;
  escaped : l.escaped ≡ is_escaped l.chars l.from (l.at - l.from);
  one_line : HasNone l.chars 10 l.from l.at;
  first : (i : ℕ) → l.from ≤ i → i < l.at → slice_index l.chars i ≡ l.quote → is_escaped l.chars l.from (i - l.from) ≡ true;
}

abbrev pub decreases-loop-at : goal.decreases-loop-at
decreases-loop-at l = length l.chars - l.at
