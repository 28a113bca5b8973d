use Rattle.std.proofs.Common.{◌≡◌, ◌≤◌, ◌++◌, List, length, take, sym, ap, ◌∙◌}
use Rattle.std.proofs.lemmas.List.{take_all}
use Rattle.std.specs.List.{flat_map}
use Rattle.cl_tree.specs.Derives.{parts}
use Rattle.cl_tree.specs.declared.tree.Tree.{Tree}
use Rattle.cl_outline.specs.declared.collect.Place.{Place}
use Rattle.cl_outline.specs.Mentions.{mentions}
use Rattle.cl_outline.proofs.Mentioning.{mentions_all}
use Rattle.cl_outline.proofs.collect.+collect.Goals as goal

pub returns : goal.returns
returns t c =
    let tokens = c.args.tokens.now in
    let items = c.as_slice-part-items.result.now in
    let end : length items ≤ c.loop-part.part-index = c.loop-part-test.false in
    let all : take c.loop-part.part-index items ≡ parts c.args.tree.now = take_all c.loop-part.part-index items end ∙ c.as_slice-part-items.ensures.value in
    mentions_all tokens c.args.tree.now c.args.place c.role_of-role.result c.args.out.now c.push_own.new.out c.loop-part.out c.role_of-role.ensures (sym c.is_scoped.ensures ∙ c.if-is_scoped.false) c.in_ok-push_own.ensures
    (c.loop-part.invariant ∙ ap (λ (ts : List Tree). c.push_own.new.out ++ flat_map (λ (x : Tree). mentions tokens x c.inner-inner.result) ts) all
    ∙ ap (λ (q : Place). c.push_own.new.out ++ flat_map (λ (x : Tree). mentions tokens x q) (parts c.args.tree.now)) c.inner-inner.ensures)
