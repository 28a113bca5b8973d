use Rattle.std.proofs.Common.{◌≡◌, ◌∷◌, ap, ◌∙◌, rules}
use Rattle.cl_layout.specs.Layouts.{layout_at, member_over}
use Rattle.cl_layout.proofs.Steps.{offsets_more}
use Rattle.cl_layout.proofs.work.offsets_in.Goals as goal

pub loop-member-preserved : goal.loop-member-preserved
loop-member-preserved g c = record {
  sound = c.in_ok-inner.ensures.kept c.loop-member.invariant.sound;
  made = λ layouts are.
      let split : c.loop-member.rest.now ≡ c.in-Some.member.now ∷ c.in-Some.more.now = search rules in
      offsets_more layouts c.args.union c.loop-member.room c.filled-room.result c.loop-member.made c.push.new.self _ c.loop-member.rest.now c.in-Some.more.now c.in-Some.member.now
      c.in_ok-inner.inner c.member_over-layout.result c.begins.result
      split (c.in_ok-inner.ensures.value layouts are c.loop-member.invariant.sound ∙ ap (layout_at layouts) c.needed.ensures)
      (c.member_over-layout.ensures ∙ ap (λ b. member_over c.in_ok-inner.inner b c.in-Some.member.now.ty) c.is_last.ensures)
      c.begins.ensures c.filled-room.ensures c.in_ok-push.ensures.ok (c.loop-member.invariant.made layouts are);
}
