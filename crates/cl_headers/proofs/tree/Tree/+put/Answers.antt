use Rattle.std.proofs.Common.{◌≡◌, ◌<◌, length, rules}
use Rattle.std.specs.declared.cmp.Ordering.TheVariants.{Less, Equal, Greater}
use Rattle.cl_headers.proofs.Row.{order, left_put, here_put, right_put}
use Rattle.cl_headers.proofs.Forks.{at_fork, left_side, right_side, left_shorter, right_shorter}
use Rattle.cl_headers.proofs.tree.Tree.+put.Goals as goal

pub put-requires : goal.put-requires
put-requires t c =
    let is = at_fork c.self.inside.root c.in-Some.fork c.args.self.now c.self.view_is c.in-Some.is in
    let ordered = left_side c.in-Some.fork.value c.args.self.now is c.requires in
    let shorter : length c.deref-in-Less.result.now.left < length c.args.self.now = rw c.deref-in-Less.ensures (left_shorter c.in-Some.fork.value c.args.self.now is) in
    (search rules, rw c.deref-in-Less.ensures ordered)

pub put-requires-in-Greater : goal.put-requires-in-Greater
put-requires-in-Greater t c =
    let is = at_fork c.self.inside.root c.in-Some.fork c.args.self.now c.self.view_is c.in-Some.is in
    let ordered = right_side c.in-Some.fork.value c.args.self.now is c.requires in
    let shorter : length c.deref-in-Greater.result.now.right < length c.args.self.now = rw c.deref-in-Greater.ensures (right_shorter c.in-Some.fork.value c.args.self.now is) in
    (search rules, rw c.deref-in-Greater.ensures ordered)

pub returns-in_ok-tree-in-Less : goal.returns-in_ok-tree-in-Less
returns-in_ok-tree-in-Less t c =
    let fork = c.in-Some.fork.value in
    let is = at_fork c.self.inside.root c.in-Some.fork c.args.self.now c.self.view_is c.in-Some.is in
    let less : order c.args.entry.value.0 fork.entry.value.0 ≡ Less = search rules in
    let change = left_put c.args.entry.value.0 c.args.self.now fork.left fork.entry.value fork.right is c.requires c.args.entry.value.1 less in
    search rules

pub returns-in_ok-tree-in-Equal : goal.returns-in_ok-tree-in-Equal
returns-in_ok-tree-in-Equal t c =
    let fork = c.in-Some.fork.value in
    let is = at_fork c.self.inside.root c.in-Some.fork c.args.self.now c.self.view_is c.in-Some.is in
    let same : order c.args.entry.value.0 fork.entry.value.0 ≡ Equal = search rules in
    let change = here_put c.args.entry.value.0 c.args.self.now fork.left fork.entry.value fork.right is c.requires c.args.entry.value.1 same in
    search rules

pub returns-in_ok-tree-in-Greater : goal.returns-in_ok-tree-in-Greater
returns-in_ok-tree-in-Greater t c =
    let fork = c.in-Some.fork.value in
    let is = at_fork c.self.inside.root c.in-Some.fork c.args.self.now c.self.view_is c.in-Some.is in
    let more : order c.args.entry.value.0 fork.entry.value.0 ≡ Greater = search rules in
    let change = right_put c.args.entry.value.0 c.args.self.now fork.left fork.entry.value fork.right is c.requires c.args.entry.value.1 more in
    search rules
