use Rattle.std.proofs.Common.{◌≡◌, arith, ap, length}
use Rattle.cl_lex.specs.Source.{characters}
use Rattle.cl_lex.proofs.Characters.{count}
use Rattle.cl_lex.proofs.HeldFacts.{all_held}
use Rattle.cl_lex.proofs.source.Source.chars.Goals as goal

pub returns-clause-count : goal.returns-clause-count
returns-clause-count c =
    let all : length c.self.inside.chars ≡ length (characters c.args.self.now) = all_held _ _ _ _ c.self.invariant c.self.view_is in
    omega (arith, all, count c.args.self.now, ap length c.bytes.ensures.value)
