use Rattle.std.proofs.Common.{◌≡◌, ◌++◌, length, List, Option, ℕ}
use Rattle.cl_base.specs.declared.token.Kind.{Kind}
use Rattle.cl_macro.specs.declared.part.Part.{Part}
use Rattle.cl_macro.specs.Pasting.{tokens}
use Rattle.cl_macro.specs.Resuming.{resume}
use Rattle.cl_macro.specs.Rules.{TellsTokens}
use Rattle.cl_macro.proofs.body.push_tokens.Given as goal

abbrev pub invariant-loop-word : goal.invariant-loop-word
invariant-loop-word l = (one_token : List ℕ → Option Kind) → TellsTokens one_token → (ps : List Part)
    → resume one_token l.fn.joint l.fn.notes (tokens l.fn.words ++ ps) ≡ resume one_token l.joint l.notes (tokens l.rest ++ ps)

abbrev pub decreases-loop-word : goal.decreases-loop-word
decreases-loop-word l = length l.rest
