use Rattle.std.proofs.Common.{length, map, List, Option, ℕ}
use Rattle.cl_base.specs.declared.token.Kind.{Kind}
use Rattle.cl_base.specs.Lines.{IsTableOf}
use Rattle.cl_macro.specs.Rules.{TellsTokens}
use Rattle.cl_macro.specs.Table.{event_of, macro_of}
use Rattle.cl_macro.specs.Levels.{Within, rules_of}
use Rattle.cl_macro.specs.Words.{fresh}
use Rattle.cl_macro.specs.code.Flat.{AreLarge}
use Rattle.cl_macro.proofs.Gaining.{Got}
use Rattle.cl_macro.proofs.run.expand_run.Given as goal

abbrev pub invariant-loop-first : goal.invariant-loop-first
invariant-loop-first g l = (one_token : List ℕ → Option Kind) (text : List ℕ) → TellsTokens one_token → IsTableOf l.lines text
    → Within text (map fresh l.fn.run) → Got (rules_of (macro_of l.table (g.B.MacroBase.macros l.base)) one_token l.file text) (event_of l.table (g.B.MacroBase.events l.base)) l.fn.run l.all l.rest
    × Within text (map fresh l.rest) × AreLarge (rules_of (macro_of l.table (g.B.MacroBase.macros l.base)) one_token l.file text) l.large

abbrev pub decreases-loop-first : goal.decreases-loop-first
decreases-loop-first g l = length (map fresh l.rest)
