use Rattle.std.proofs.Common.{◌≡◌, ◌≤◌, ◌++◌, [], List, subst, sym, arith, length, reverse}
use Rattle.std.proofs.lemmas.Grind.{common_steps}
use Rattle.cl_macro.specs.declared.word.Word.{Word}
use Rattle.cl_macro.specs.code.Segments.{Takes}
use Rattle.cl_macro.proofs.Works.{window_takes}
use Rattle.cl_macro.proofs.work.Work.window.Goals as goal

pub returns : goal.returns
returns c =
    let n : c.self.inside.made ≡ [] = grind (arith, common_steps) in
    let h : c.args.count ≤ length c.self.inside.kept = omega (arith, c.if-kept-count.false, c.len-kept.ensures.value) in
    subst (λ (ws : List Word). Takes c.args.count ws (reverse c.skip.new.self ++ c.self.inside.made) c.in_ok-part.part) c.self.view_is
    (subst (λ (ws : List Word). Takes c.args.count (reverse c.self.inside.kept ++ ws) (reverse c.skip.new.self ++ ws) c.in_ok-part.part) (sym n)
    (window_takes c.args.count c.self.inside.kept c.skip.new.self c.in_ok-part.part h c.len-kept.ensures.taken c.in_ok-part.ensures c.skip.ensures))
