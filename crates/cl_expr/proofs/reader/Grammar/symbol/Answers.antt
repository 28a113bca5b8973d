use Rattle.std.specs.Prelude.{None}
use Rattle.cl_expr.specs.code.Parses.{Part, Parses}
use Rattle.cl_tree.specs.declared.grammar.Symbol.TheVariants.{Node}
use Rattle.cl_expr.proofs.Reading.{part_node}
use Rattle.cl_expr.proofs.Climb.{ok_map}
use Rattle.cl_expr.proofs.reader.Grammar.symbol.Goals as goal

pub returns-in-Token : goal.returns-in-Token
returns-in-Token g c = rw c.in-Token.is c.token.ensures

pub returns-in-Node : goal.returns-in-Node
returns-in-Node g c =
    rw c.in-Node.is
    (ok_map (Parses c.args.self.now.tokens.now c.args.self.now.depth c.args.scope c.in-Node.goal c.args.at) (Part c.args.self.now.tokens.now c.args.self.now.depth c.args.scope None (Node c.in-Node.goal) c.args.at) c.nonterminal.result
    (λ o p. part_node c.args.self.now.tokens.now c.args.self.now.depth c.args.scope c.in-Node.goal c.args.at o p) c.nonterminal.ensures)

pub returns-in-Entry : goal.returns-in-Entry
returns-in-Entry g c = rw c.in-Entry.is c.entry.ensures
