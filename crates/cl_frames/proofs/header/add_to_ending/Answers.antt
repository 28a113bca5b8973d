use Rattle.std.proofs.Common.{arith, codes, ◌≡◌, ◌+◌}
use Rattle.cl_frames.proofs.FrameLemmas.{after_same, after_other, after_last}
use Rattle.cl_frames.proofs.header.add_to_ending.Goals as goal

pub returns-then-byte-at : goal.returns-then-byte-at
returns-then-byte-at c = λ rest. after_other _ _ _ _ _ c.requires.at c.if-byte-at.true

pub returns-then-at-lt4 : goal.returns-then-at-lt4
returns-then-at-lt4 c =
    ((c.if-at-lt4.true, c.requires.digits, c.requires.value), omega arith, λ rest. after_same _ _ _ _ _ c.requires.at c.if-byte-at.false)

pub returns : goal.returns
returns c =
    let last : c.args.at + 1 ≡ 4 = omega arith in
    (c.requires.value, omega arith, λ rest. after_last (codes "\r\n\r\n") c.args.at _ _ _ last c.if-byte-at.false)
