use Rattle.std.proofs.Common.{◌≤◌, ◌-◌, length}
use Rattle.cl_lex.specs.Bytes.{is_name_byte}
use Rattle.cl_lex.specs.Spelling.{AllPass}
use Rattle.cl_lex.proofs.scan.name_end.Given as goal

abbrev pub invariant-loop-at : goal.invariant-loop-at
invariant-loop-at l = record { low : l.from ≤ l.at; high : l.at ≤ length l.chars; all : AllPass l.chars is_name_byte l.from l.at }

abbrev pub decreases-loop-at : goal.decreases-loop-at
decreases-loop-at l = length l.chars - l.at
