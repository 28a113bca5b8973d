use Rattle.std.proofs.Common.{◌≡◌, ◌==◌, false, Some, ap, sym, ◌∙◌, rules}
use Rattle.std.specs.List.{list_any}
use Rattle.cl_paths.proofs.Naming.{text_means}
use Rattle.cl_paths.proofs.uri.path_of_text.Goals as goal

pub returns : goal.returns
returns c =
    let free : list_any (λ b. b == 0) c.args.text.now ≡ false = search rules in
    ap Some c.in_ok-path.ensures ∙ sym (text_means c.args.text.now c.utf8.text free)
