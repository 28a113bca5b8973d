use Rattle.std.proofs.Common.{refl}
use Rattle.std.specs.Prelude.{None}
use Rattle.cl_rpc.specs.declared.id.Id.TheVariants as id
use Rattle.cl_pending.proofs.Putting.{text_put}
use Rattle.cl_pending.proofs.index.Ids.remove.Goals as goal

pub returns-in-Text : goal.returns-in-Text
returns-in-Text c (id.Number n) = rw c.in-Text.is refl
returns-in-Text c (id.Text t) =
    rw (c.in-Text.is, ← c.bytes.ensures.value) (text_put (λ k. k.items) c.args.self.now.texts c.remove-in-Text.new.self c.bytes.result.now None t c.remove-in-Text.ensures.updates)
