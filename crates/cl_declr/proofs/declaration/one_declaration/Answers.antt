use Rattle.cl_tree.specs.declared.nonterminal.Nonterminal.TheVariants as nt
use Rattle.cl_declr.proofs.declaration.one_declaration.Goals as goal

pub returns : goal.returns
returns c = λ names tokens t u. c.one_tree.ensures.one nt.Declaration names tokens t u
