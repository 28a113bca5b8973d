use Rattle.std.proofs.Common.{sym, ap, ◌∙◌}
use Rattle.cl_layout.specs.declared.layout.Layout.TheVariants.{Unknown}
use Rattle.cl_layout.specs.Layouts.{layout_at}
use Rattle.cl_layout.proofs.Steps.{known_found, placed, pushed}
use Rattle.cl_layout.proofs.work.Work.place_next.Goals as goal

pub returns-in_default : goal.returns-in_default
returns-in_default g c = λ stands sound.
    placed c.advance.result (g.M.Members.content c.args.members.now) c.args.self.now c.advance.new.self c.args.frame Unknown _
    (λ layouts are. ap (layout_at layouts) (sym c.in_default.is ∙ c.need_of.ensures)) c.advance.ensures.stands c.advance.ensures.tables stands sound

pub returns-in-Some-found : goal.returns-in-Some-found
returns-in-Some-found g c = λ stands sound.
    placed c.advance-in-Some-found.result (g.M.Members.content c.args.members.now) c.args.self.now c.advance-in-Some-found.new.self c.args.frame c.in-Some-found.inner _
    (known_found (g.M.Members.content c.args.members.now) c.args.self.now c.in-Some.need c.in-Some-found.inner _ (sym c.found.ensures.value ∙ c.in-Some-found.is) (sym c.need_of.ensures ∙ c.in-Some.is) sound)
    c.advance-in-Some-found.ensures.stands c.advance-in-Some-found.ensures.tables stands sound

pub returns-in_ok-push-in-None : goal.returns-in_ok-push-in-None
returns-in_ok-push-in-None g c = λ stands sound.
    c.enter.ensures (pushed (g.M.Members.content c.args.members.now) c.args.self.now c.push.new.self c.args.frame c.in_ok-push-in-None.ensures.ok stands sound)
