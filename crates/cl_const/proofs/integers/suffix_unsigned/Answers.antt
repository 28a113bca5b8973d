use Rattle.std.proofs.Common.{◌≡◌, true, false, refl, sym, ◌∙◌}
use Rattle.cl_const.specs.Integers.{suffix_unsigned, signed_suffixes, unsigned_suffixes, is_among}
use Rattle.cl_const.proofs.integers.suffix_unsigned.Goals as goal

pub returns-then-is_among : goal.returns-then-is_among
unfolding suffix_unsigned signed_suffixes unsigned_suffixes
returns-then-is_among c = let e : is_among signed_suffixes c.args.suffix.now ≡ true = sym c.is_among.ensures ∙ c.if-is_among.true in rw e refl

pub returns-then-is_among-2 : goal.returns-then-is_among-2
unfolding suffix_unsigned signed_suffixes unsigned_suffixes
returns-then-is_among-2 c =
    let e : is_among signed_suffixes c.args.suffix.now ≡ false = sym c.is_among.ensures ∙ c.if-is_among.false in
    let f : is_among unsigned_suffixes c.args.suffix.now ≡ true = sym c.is_among-else-is_among.ensures ∙ c.if-is_among-2.true in
    rw (e, f) refl

pub returns-else-is_among-2 : goal.returns-else-is_among-2
unfolding suffix_unsigned signed_suffixes unsigned_suffixes
returns-else-is_among-2 c =
    let e : is_among signed_suffixes c.args.suffix.now ≡ false = sym c.is_among.ensures ∙ c.if-is_among.false in
    let f : is_among unsigned_suffixes c.args.suffix.now ≡ false = sym c.is_among-else-is_among.ensures ∙ c.if-is_among-2.false in
    rw (e, f) refl
