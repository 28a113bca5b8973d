use Rattle.std.proofs.Common.{◌≡◌, ◌<◌, length, rules}
use Rattle.std.specs.declared.cmp.Ordering.TheVariants.{Less, Equal, Greater}
use Rattle.cl_headers.proofs.Row.{order, left_gone, here_gone, right_gone}
use Rattle.cl_headers.proofs.Forks.{at_fork, left_side, right_side, left_shorter, right_shorter}
use Rattle.cl_headers.proofs.tree.Tree.+without.Goals as goal

pub without-requires : goal.without-requires
without-requires t c =
    let is = at_fork c.self.inside.root c.in-Some.fork c.args.self.now c.self.view_is c.in-Some.is in
    let ordered = left_side c.in-Some.fork.value c.args.self.now is c.requires in
    let shorter : length c.deref-in-Less.result.now.left < length c.args.self.now = rw c.deref-in-Less.ensures (left_shorter c.in-Some.fork.value c.args.self.now is) in
    (search rules, rw c.deref-in-Less.ensures ordered)

pub without-requires-in-Greater : goal.without-requires-in-Greater
without-requires-in-Greater t c =
    let is = at_fork c.self.inside.root c.in-Some.fork c.args.self.now c.self.view_is c.in-Some.is in
    let ordered = right_side c.in-Some.fork.value c.args.self.now is c.requires in
    let shorter : length c.deref-in-Greater.result.now.right < length c.args.self.now = rw c.deref-in-Greater.ensures (right_shorter c.in-Some.fork.value c.args.self.now is) in
    (search rules, rw c.deref-in-Greater.ensures ordered)

pub returns-in_ok-tree-in-Less : goal.returns-in_ok-tree-in-Less
returns-in_ok-tree-in-Less t c =
    let fork = c.in-Some.fork.value in
    let is = at_fork c.self.inside.root c.in-Some.fork c.args.self.now c.self.view_is c.in-Some.is in
    let less : order c.args.path.now fork.entry.value.0 ≡ Less = search rules in
    let change = left_gone c.args.path.now c.args.self.now fork.left fork.entry.value fork.right is c.requires less in
    search rules

pub returns-in_ok-tree-in-Equal : goal.returns-in_ok-tree-in-Equal
returns-in_ok-tree-in-Equal t c =
    let fork = c.in-Some.fork.value in
    let is = at_fork c.self.inside.root c.in-Some.fork c.args.self.now c.self.view_is c.in-Some.is in
    let same : order c.args.path.now fork.entry.value.0 ≡ Equal = search rules in
    let change = here_gone c.args.path.now c.args.self.now fork.left fork.entry.value fork.right is c.requires same in
    search rules

pub returns-in_ok-tree-in-Greater : goal.returns-in_ok-tree-in-Greater
returns-in_ok-tree-in-Greater t c =
    let fork = c.in-Some.fork.value in
    let is = at_fork c.self.inside.root c.in-Some.fork c.args.self.now c.self.view_is c.in-Some.is in
    let more : order c.args.path.now fork.entry.value.0 ≡ Greater = search rules in
    let change = right_gone c.args.path.now c.args.self.now fork.left fork.entry.value fork.right is c.requires more in
    search rules
