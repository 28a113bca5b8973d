use Rattle.std.proofs.Common.{◌≡◌, ◌++◌, ℕ, List, [], take, drop}
use Rattle.cl_tree.specs.Sets.{has}
use Rattle.cl_outline.specs.Mentions.{declared, is_known}
use Rattle.cl_outline.proofs.declared.declaring.Given as goal

abbrev pub invariant-loop-mention : goal.invariant-loop-mention
invariant-loop-mention l = record {
  tags : (name : List ℕ) → has l.tags name ≡ is_known l.tokens (take l.mention-index l.mentions) name;
  all : l.all ++ declared l.tokens (take l.mention-index l.mentions) (drop l.mention-index l.mentions) ≡ declared l.tokens [] l.mentions;
}
