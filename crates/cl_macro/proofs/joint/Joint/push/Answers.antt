use Rattle.std.proofs.Common.{◌≡◌, Some, None}
use Rattle.cl_macro.specs.Pasting.{glue}
use Rattle.cl_macro.proofs.Joining.{push_one, push_two}
use Rattle.cl_macro.proofs.joint.Joint.push.Goals as goal

pub returns-in-One : goal.returns-in-One
returns-in-One c = λ o t ps. let g : glue o c.replace-left.result c.args.part ≡ Some c.in-One.whole = rw c.in-One.is at (c.in_ok-whole.ensures o t) in
    push_one o c.args.self.now c.args.notes.now c.args.part c.in-One.whole c.replace-left.result ps c.requires c.if-not-self.false c.replace-left.ensures.value g

pub returns-in_ok-keep-in-Two : goal.returns-in_ok-keep-in-Two
returns-in_ok-keep-in-Two c = λ o t ps.
    let g : (glue o c.replace-left.result c.args.part ≡ None) × (c.in-Two.left ≡ c.replace-left.result) × (c.in-Two.right ≡ c.args.part) = rw c.in-Two.is at (c.in_ok-whole.ensures o t) in
    push_two o c.args.self.now c.args.notes.now _ c.args.part c.replace-left.result c.in-Two.left c.in-Two.right _ _ ps c.requires c.if-not-self.false c.replace-left.ensures.value g
    c.unspaced.ensures c.in_ok-keep-in-Two.ensures c.in_ok-push-in-Two.ensures.ok
