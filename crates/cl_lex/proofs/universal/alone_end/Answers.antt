use Rattle.std.proofs.Common.{◌+◌, ◌≤◌, arith, length, rules}
use Rattle.cl_lex.specs.Items.{alone_len}
use Rattle.cl_lex.proofs.Longest.{alone_room}
use Rattle.cl_lex.proofs.universal.alone_end.Goals as goal

pub returns-clause-value : goal.returns-clause-value
returns-clause-value c = search rules

pub returns-clause-high : goal.returns-clause-high
returns-clause-high c = let room : c.args.at + alone_len c.args.chars.now c.args.at ≤ length c.args.chars.now = alone_room c.args.chars.now c.args.at c.requires in omega (arith, room, returns-clause-value c)

pub overflow_add-result : goal.overflow_add-result
overflow_add-result c = omega (arith, returns-clause-high c)
