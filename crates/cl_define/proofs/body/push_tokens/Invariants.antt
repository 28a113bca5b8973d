use Rattle.std.proofs.Common.{◌≡◌, ◌++◌, take, map}
use Rattle.cl_base.specs.declared.token.Token.{Token}
use Rattle.cl_define.specs.Bodies.{body_token}
use Rattle.cl_define.proofs.body.push_tokens.Given as goal

abbrev pub invariant-loop-token : goal.invariant-loop-token
invariant-loop-token l = l.list ≡ l.fn.list ++ map (λ (t : Token). body_token t.space t) (take l.token-index l.tokens)
