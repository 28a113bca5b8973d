use Rattle.std.proofs.Common.{Some, refl, sym, ◌∙◌}
use Rattle.cl_layout.specs.Layouts.{beginning}
use Rattle.cl_layout.proofs.Steps.{entered_none, entered_some}
use Rattle.cl_layout.proofs.work.Work.enter.Goals as goal

pub returns-in-None : goal.returns-in-None
returns-in-None g c = λ sound.
    entered_none c.put.result (g.M.Members.content c.args.members.now) c.args.self.now c.put.new.self c.args.need
    (sym c.in_ok-members.ensures ∙ c.in-None.is) c.put.ensures.found c.put.ensures.frames sound

pub returns-in-Some : goal.returns-in-Some
returns-in-Some g c = λ sound.
    entered_some c.push.result (g.M.Members.content c.args.members.now) c.args.self.now c.push.new.self
    (record { union = c.args.need.union; tag = c.args.need.tag; members = c.in-Some.members; next = 0; room = Some beginning })
    (sym c.in_ok-members.ensures ∙ c.in-Some.is) refl refl c.push.ensures.ok sound
