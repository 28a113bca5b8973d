use Rattle.cl_macro.proofs.Segments.{close_few, close_is}
use Rattle.cl_macro.proofs.segment.Segment.close.Goals as goal

pub returns-clause-value : goal.returns-clause-value
returns-clause-value c = close_is c.slots.result.now c.args.self.now c.args.i c.in_ok-slot.slot.now _ c.slots.ensures.words c.slots.ensures.linked c.in_ok-slot.ensures.lookup.0 c.in_ok-slot.ensures.lookup.1

pub returns-clause-room : goal.returns-clause-room
returns-clause-room c =
    close_few c.slots.result.now c.args.self.now c.args.i c.in_ok-slot.slot.now.close c.slots.ensures.words c.slots.ensures.room
    (close_is c.slots.result.now c.args.self.now c.args.i c.in_ok-slot.slot.now _ c.slots.ensures.words c.slots.ensures.linked c.in_ok-slot.ensures.lookup.0 c.in_ok-slot.ensures.lookup.1)
