use Rattle.std.proofs.Common.{rules, arith, codes, ◌≡◌, ◌+◌}
use Rattle.cl_frames.proofs.FrameLemmas.{after_same, after_other, after_last}
use Rattle.cl_frames.proofs.header.add_to_name.Goals as goal

pub returns-then-byte-at : goal.returns-then-byte-at
returns-then-byte-at c = λ rest. after_other _ _ _ _ _ c.requires c.if-byte-at.true

pub returns-then-at-lt16 : goal.returns-then-at-lt16
returns-then-at-lt16 c = (c.if-at-lt16.true, search rules, λ rest. after_same _ _ _ _ _ c.requires c.if-byte-at.false)

pub returns-else-at-lt16 : goal.returns-else-at-lt16
returns-else-at-lt16 c =
    let last : c.args.at + 1 ≡ 16 = omega arith in
    (search rules, omega arith, λ rest. after_last (codes "Content-Length: ") c.args.at _ _ _ last c.if-byte-at.false)
