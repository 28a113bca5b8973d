use Rattle.std.proofs.Common.{sym, ap, ◌∙◌}
use Rattle.cl_scope.specs.Trail.{ended}
use Rattle.cl_scope.proofs.Scoping.{popped, popped_begin, named_slot, has_head, trail_more}
use Rattle.cl_scope.specs.code.Open.{trail_of}
use Rattle.cl_scope.proofs.open.Open.leave.Goals as goal

pub invariant_of-self : goal.invariant_of-self
invariant_of-self c = popped_begin c.loop-slot.self-inside.slots.items c.pop.new.self.items c.in-Some.slot c.loop-slot.self-inside.begin c.loop-slot.self-inside.heads c.loop-slot.invariant.indexed c.in-Some.ensures.items c.in-Begin.is

pub restore-requires : goal.restore-requires
restore-requires c = has_head c.loop-slot.self-inside.slots.items c.loop-slot.self-inside.begin c.loop-slot.self-inside.heads c.pop.new.self.items c.in-Named.space c.in-Named.name c.in-Named.field-2 c.in-Some.slot.hidden
    c.loop-slot.invariant.indexed (named_slot _ _ c.in-Some.slot c.in-Named.space c.in-Named.name c.in-Named.field-2 c.in-Some.ensures.items c.in-Named.is)

pub loop-slot-preserved : goal.loop-slot-preserved
loop-slot-preserved c =
    let items = named_slot _ _ c.in-Some.slot c.in-Named.space c.in-Named.name c.in-Named.field-2 c.in-Some.ensures.items c.in-Named.is in
    record {
      indexed = popped c.loop-slot.self-inside.slots.items c.pop.new.self.items c.loop-slot.self-inside.begin c.loop-slot.self-inside.heads c.restore.new.heads c.in-Named.space c.in-Named.name c.in-Named.field-2 c.in-Some.slot.hidden
          c.loop-slot.invariant.indexed items c.restore.ensures;
      leaves = sym (ap ended (ap trail_of items ∙ trail_more c.pop.new.self.items _)) ∙ c.loop-slot.invariant.leaves;
    }
