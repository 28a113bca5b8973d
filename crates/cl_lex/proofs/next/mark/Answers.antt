use Rattle.std.proofs.Common.{◌≡◌, ◌<◌, ◌≤◌, ◌+◌, arith, inr, true, false, length, slice_index}
use Rattle.std.proofs.lemmas.Bool.Decides.{nat_tests}
use Rattle.cl_lex.specs.Punctuators.{is_punctuator_1}
use Rattle.cl_lex.proofs.Classes.{class_mark, mark_class}
use Rattle.cl_lex.proofs.Longest.{not_quote, punct_longest, stray_mark}
use Rattle.cl_lex.proofs.next.mark.Goals as goal

pub returns-in_default-clause-item : goal.returns-in_default-clause-item
returns-in_default-clause-item c =
    let len = c.punctuator_len.ensures in
    let some : 0 < c.punctuator_len.result = omega arith in
    let is = len.some some in
    let wants = c.requires in
    punct_longest _ _ _ some len.within (class_mark c.args.chars.now c.args.at c.punctuator_len.result is wants.dot wants.slash wants.less) is len.longest

pub returns-in-0-clause-item : goal.returns-in-0-clause-item
returns-in-0-clause-item c = λ header.
    let wants = c.requires in
    let room : c.args.at + 1 ≤ length c.args.chars.now = omega (arith, wants.within) in
    let none : c.punctuator_len.result < 1 = omega (arith, c.in-0.is) in
    let no_mark : is_punctuator_1 (slice_index c.args.chars.now c.args.at) ≡ true → ⊥ = λ e. c.punctuator_len.ensures.longest 1 none room e in
    let other : is_punctuator_1 (slice_index c.args.chars.now c.args.at) ≡ false = grind (arith, nat_tests) in (
      stray_mark c.args.chars.now header c.args.at wants.within (mark_class _ wants.name wants.blank wants.digit wants.new_line wants.dot wants.slash wants.less wants.double wants.single other),
      inr (not_quote _ wants.double wants.single, c.alone_end.ensures.value),
    )
