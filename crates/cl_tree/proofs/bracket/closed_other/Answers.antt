use Rattle.std.proofs.Common.{◌≡◌, ◌++◌, ap, sym, ◌∙◌}
use Rattle.std.specs.Prelude.{Option, option_to_list}
use Rattle.cl_tree.specs.declared.bracket.Opened.{Opened}
use Rattle.cl_tree.specs.declared.bracket.Pairs.{Pairs}
use Rattle.cl_tree.specs.Ends.{last}
use Rattle.cl_tree.specs.Brackets.{seen, alone, close_other}
use Rattle.cl_tree.proofs.Frames.{fits_is, other_is, other_not, ok_after}
use Rattle.cl_tree.proofs.bracket.closed_other.Goals as goal

pub returns-then-found : goal.returns-then-found
returns-then-found c =
    let e = c.pop.ensures.items ∙ ap (λ (o : Option Opened). c.pop.new.self ++ option_to_list o) c.in-Some.is in
    let t = fits_is (seen c.args.pairs) c.as_slice.result.now c.as_slice.ensures.value c.opened_before-before.result c.len-count.result c.opened_before-before.ensures c.len-count.ensures.value
    c.args.side c.in-Some.top.side c.fits-found.result c.fits-found.ensures in
    other_is (seen c.args.pairs) c.args.side c.pop.new.self c.in-Some.top c.in_ok-partners.partners.items e c.in_ok-partners.ensures (t ∙ c.if-found.true)

pub returns : goal.returns
returns c =
    let e = c.pop.ensures.items ∙ ap (λ (o : Option Opened). c.pop.new.self ++ option_to_list o) c.in-Some.is in
    let t = fits_is (seen c.args.pairs) c.as_slice.result.now c.as_slice.ensures.value c.opened_before-before.result c.len-count.result c.opened_before-before.ensures c.len-count.ensures.value
    c.args.side c.in-Some.top.side c.fits-found.result c.fits-found.ensures in
    let back : c.push.new.self ≡ c.args.pairs.others = c.in_ok-push.ensures.ok ∙ sym e in
    let same : alone (record { braces = c.args.pairs.braces; others = c.push.new.self; partners = c.args.pairs.partners.items }) ≡ close_other (seen c.args.pairs) c.args.side (last c.args.pairs.others)
    = (λ i. alone (record { braces = c.args.pairs.braces; others = back i; partners = c.args.pairs.partners.items })) ∙ other_not (seen c.args.pairs) c.args.side c.pop.new.self c.in-Some.top e (t ∙ c.if-found.false) in
    ok_after (λ (after : Pairs). seen after ≡ alone (record { braces = c.args.pairs.braces; others = c.push.new.self; partners = c.args.pairs.partners.items }))
    (λ (after : Pairs). seen after ≡ close_other (seen c.args.pairs) c.args.side (last c.args.pairs.others)) c.alone-2.result (λ x p. p ∙ same) c.alone-2.ensures
