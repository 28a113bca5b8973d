use Rattle.std.proofs.Common.{◌≡◌, ◌<◌, length, rules, ◌∙◌}
use Rattle.std.specs.declared.cmp.Ordering.TheVariants.{Less, Equal, Greater}
use Rattle.cl_headers.proofs.Row.{order, left_known, here_known, right_known}
use Rattle.cl_headers.proofs.Forks.{at_fork, left_side, right_side, left_shorter, right_shorter}
use Rattle.cl_headers.proofs.tree.Tree.+get.Goals as goal

pub get-requires : goal.get-requires
get-requires t c =
    let is = at_fork c.self.inside.root c.in-Some.fork c.args.self.now c.self.view_is c.in-Some.is in
    let ordered = left_side c.in-Some.fork.value c.args.self.now is c.requires in
    let shorter : length c.deref-in-Less.result.now.left < length c.args.self.now = rw c.deref-in-Less.ensures (left_shorter c.in-Some.fork.value c.args.self.now is) in
    (search rules, rw c.deref-in-Less.ensures ordered)

pub get-requires-in-Greater : goal.get-requires-in-Greater
get-requires-in-Greater t c =
    let is = at_fork c.self.inside.root c.in-Some.fork c.args.self.now c.self.view_is c.in-Some.is in
    let ordered = right_side c.in-Some.fork.value c.args.self.now is c.requires in
    let shorter : length c.deref-in-Greater.result.now.right < length c.args.self.now = rw c.deref-in-Greater.ensures (right_shorter c.in-Some.fork.value c.args.self.now is) in
    (search rules, rw c.deref-in-Greater.ensures ordered)

pub returns-in-Less : goal.returns-in-Less
returns-in-Less t c =
    let e = c.in-Some.fork.value.entry.value in
    let is = at_fork c.self.inside.root c.in-Some.fork c.args.self.now c.self.view_is c.in-Some.is in
    let less : order c.args.path.now e.0 ≡ Less = search rules in
    c.get.ensures ∙ rw c.deref-in-Less.ensures (left_known c.args.path.now c.args.self.now c.in-Some.fork.value.left e c.in-Some.fork.value.right is c.requires less)

pub returns-in-Equal : goal.returns-in-Equal
returns-in-Equal t c =
    let e = c.in-Some.fork.value.entry.value in
    let is = at_fork c.self.inside.root c.in-Some.fork c.args.self.now c.self.view_is c.in-Some.is in
    let same : order c.args.path.now e.0 ≡ Equal = search rules in
    rw (c.deref-in-Equal-2.ensures, c.deref-in-Equal.ensures) (here_known c.args.path.now c.args.self.now c.in-Some.fork.value.left e c.in-Some.fork.value.right is c.requires same)

pub returns-in-Greater : goal.returns-in-Greater
returns-in-Greater t c =
    let e = c.in-Some.fork.value.entry.value in
    let is = at_fork c.self.inside.root c.in-Some.fork c.args.self.now c.self.view_is c.in-Some.is in
    let more : order c.args.path.now e.0 ≡ Greater = search rules in
    c.get-in-Greater.ensures ∙ rw c.deref-in-Greater.ensures (right_known c.args.path.now c.args.self.now c.in-Some.fork.value.left e c.in-Some.fork.value.right is c.requires more)
