use Rattle.std.proofs.Common.{◌≡◌, [], length, List, Option, ℕ}
use Rattle.cl_base.specs.declared.token.Kind.{Kind}
use Rattle.cl_macro.specs.Pasting.{joined_body, parts_of, put}
use Rattle.cl_macro.specs.Resuming.{resume}
use Rattle.cl_macro.specs.Rules.{TellsTokens}
use Rattle.cl_macro.proofs.body.joined_body.Given as goal

abbrev pub invariant-loop-token : goal.invariant-loop-token
invariant-loop-token l = (one_token : List ℕ → Option Kind) → TellsTokens one_token
    → put [] l.fn.notes (joined_body one_token l.fn.args.mac.now l.fn.args.raw.now l.fn.args.full.now)
    ≡ resume one_token l.joint l.notes (parts_of l.args.mac.now l.args.raw.now l.args.full.now l.after l.hash l.rest)

abbrev pub decreases-loop-token : goal.decreases-loop-token
decreases-loop-token l = length l.rest
