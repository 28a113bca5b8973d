use Rattle.std.proofs.Common.{◌≡◌, drop}
use Rattle.cl_tree.specs.Brackets.{pairing, seen, brackets}
use Rattle.cl_tree.proofs.bracket.brackets.Given as goal

abbrev pub invariant-loop-token : goal.invariant-loop-token
invariant-loop-token l = (pairing (seen l.pairs) (drop l.token-index l.tokens)).partners ≡ brackets l.tokens
