use Rattle.std.proofs.Common.{arith, ◌<◌, sym}
use Rattle.cl_frames.proofs.FrameLemmas.{digit_more, digit_ninth, digit_beyond, no_digit, length_ends}
use Rattle.cl_frames.proofs.header.add_to_length.Goals as goal
use Rattle.cl_frames.proofs.header.add_to_length.Goals.{then-digits-eq-MOST_DIGITS-via-then-digits-eq-MOST_DIGITS, then-digits-eq-MOST_DIGITS-via-else-digits-eq-MOST_DIGITS+then-value-gt-LONGEST_BODY}

pub returns-then-digits-eq-MOST_DIGITS : goal.returns-then-digits-eq-MOST_DIGITS
returns-then-digits-eq-MOST_DIGITS c =
    let range = c.if-is_ascii_digit.ensures.cases in
    elim c.then-digits-eq-MOST_DIGITS.branch [
      | then-digits-eq-MOST_DIGITS-via-then-digits-eq-MOST_DIGITS w ↦ λ rest. digit_ninth _ c.args.value _ rest range.0 range.1 (omega arith)
      | then-digits-eq-MOST_DIGITS-via-else-digits-eq-MOST_DIGITS+then-value-gt-LONGEST_BODY w ↦
          λ rest. digit_beyond c.args.digits c.args.value c.args.byte rest range.0 range.1 (omega arith) (omega arith)
    ]

pub returns-then-is_ascii_digit : goal.returns-then-is_ascii_digit
returns-then-is_ascii_digit c =
    let range = c.if-is_ascii_digit.ensures.cases in
    let few : c.args.digits < 8 = omega arith in (
      (omega arith, c.if-value-gt-LONGEST_BODY.false),
      omega arith,
      λ rest. digit_more c.args.digits c.args.value c.args.byte rest range.0 range.1 few c.if-value-gt-LONGEST_BODY.false,
    )

pub returns-then-digits-eq0 : goal.returns-then-digits-eq0
returns-then-digits-eq0 c = λ rest. no_digit _ _ _ rest (sym c.if-is_ascii_digit.ensures.value) c.if-digits-eq0.true

pub returns : goal.returns
returns c = length_ends _ _ _ _ (sym c.if-is_ascii_digit.ensures.value) c.if-digits-eq0.false c.add_to_ending.ensures
