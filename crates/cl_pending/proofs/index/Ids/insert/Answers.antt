use Rattle.std.proofs.Common.{refl}
use Rattle.std.specs.Prelude.{Some}
use Rattle.cl_rpc.specs.declared.id.Id.TheVariants as id
use Rattle.cl_pending.proofs.Putting.{text_put}
use Rattle.cl_pending.proofs.index.Ids.insert.Goals as goal

pub returns-in_ok-insert-in-Text-clause-ok : goal.returns-in_ok-insert-in-Text-clause-ok
returns-in_ok-insert-in-Text-clause-ok c (id.Number n) = rw c.in-Text.is refl
returns-in_ok-insert-in-Text-clause-ok c (id.Text t) =
    rw (c.in-Text.is, ← c.bytes.ensures.value, ← c.in_ok-key-in-Text.ensures.items)
    (text_put (λ k. k.items) c.args.self.now.texts c.insert-in-Text.new.self c.in_ok-key-in-Text.key.items (Some c.args.message) t c.in_ok-insert-in-Text.ensures.updates)
