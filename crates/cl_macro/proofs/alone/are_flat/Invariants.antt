use Rattle.std.proofs.Common.{◌≡◌, ℕ, List, Option, length}
use Rattle.cl_base.specs.declared.token.Kind.{Kind}
use Rattle.cl_macro.specs.Rules.{TellsTokens}
use Rattle.cl_macro.specs.Table.{macro_of}
use Rattle.cl_macro.specs.code.Flat.{are_flat}
use Rattle.cl_macro.proofs.alone.are_flat.Given as goal

abbrev pub invariant-loop-name : goal.invariant-loop-name
invariant-loop-name g l = (one_token : List ℕ → Option Kind) → TellsTokens one_token
    → are_flat one_token (macro_of l.table (g.B.MacroBase.macros l.base)) l.names l.names ≡ are_flat one_token (macro_of l.table (g.B.MacroBase.macros l.base)) l.names l.rest

abbrev pub decreases-loop-name : goal.decreases-loop-name
decreases-loop-name g l = length l.rest
