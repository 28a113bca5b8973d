use Rattle.std.proofs.Common.{◌≡◌, sym, ap, ◌∙◌, length}
use Rattle.std.proofs.lemmas.List.{length-map}
use Rattle.cl_pending.specs.Meant.{is_meant_by}
use Rattle.cl_pending.proofs.Indexed.{all_meant}
use Rattle.cl_pending.proofs.pending.Pending.all_meant.Goals as goal

pub returns : goal.returns
returns g c =
    let waiting : c.len.result ≡ length c.args.self.now = c.len.ensures.len ∙ sym (length-map c.self.inside.waiting.entries (λ e. e.1)) ∙ ap length c.self.view_is in
    rw (waiting, c.count.ensures) (all_meant g.W.Waits.key (is_meant_by g.W.Waits.key c.args.which.now) c.args.self.now)
