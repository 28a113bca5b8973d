use Rattle.std.proofs.Common.{◌≡◌, true, false, Some, rules}
use Rattle.cl_headers.specs.Headers.{known_at}
use Rattle.cl_headers.specs.code.Within.{IsWithin}
use Rattle.cl_headers.proofs.Within.{stays_out, left_within, here_within, right_within, all_within}
use Rattle.cl_headers.proofs.Forks.{at_fork}
use Rattle.cl_headers.proofs.tree.Tree.+is_within.Goals as goal

pub returns-then-not-is_within : goal.returns-then-not-is_within
returns-then-not-is_within t c =
    let fork = c.in-Some.fork.value in
    let is = at_fork c.self.inside.root c.in-Some.fork c.args.self.now c.self.view_is c.in-Some.is in
    let answer = rw c.deref.ensures at c.is_within.ensures in
    let no : c.is_within.result ≡ false = search rules in
    stays_out (IsWithin fork.left c.args.other.now) (IsWithin c.args.self.now c.args.other.now) (left_within c.args.self.now fork.left fork.entry.value fork.right c.args.other.now is) c.is_within.result answer.1 no

pub returns-then-not-is_known : goal.returns-then-not-is_known
returns-then-not-is_known t c =
    let fork = c.in-Some.fork.value in
    let is = at_fork c.self.inside.root c.in-Some.fork c.args.self.now c.self.view_is c.in-Some.is in
    let answer = rw (c.deref-3.ensures, c.deref-2.ensures) at c.is_known.ensures in
    let no : c.is_known.result ≡ false = search rules in
    stays_out (known_at c.args.other.now fork.entry.value.0 ≡ Some fork.entry.value.1) (IsWithin c.args.self.now c.args.other.now) (here_within c.args.self.now fork.left fork.entry.value fork.right c.args.other.now is)
    c.is_known.result answer.1 no

pub returns : goal.returns
returns t c =
    let fork = c.in-Some.fork.value in
    let is = at_fork c.self.inside.root c.in-Some.fork c.args.self.now c.self.view_is c.in-Some.is in
    let left_yes : c.is_within.result ≡ true = search rules in
    let here_yes : c.is_known.result ≡ true = search rules in
    let left = (rw c.deref.ensures at c.is_within.ensures).0 left_yes in
    let here = (rw (c.deref-3.ensures, c.deref-2.ensures) at c.is_known.ensures).0 here_yes in
    let right = rw c.deref-4.ensures at c.is_within-2.ensures in (
      λ yes. all_within c.args.self.now fork.left fork.entry.value fork.right c.args.other.now is left here (right.0 yes),
      λ w. right.1 (right_within c.args.self.now fork.left fork.entry.value fork.right c.args.other.now is w),
    )
