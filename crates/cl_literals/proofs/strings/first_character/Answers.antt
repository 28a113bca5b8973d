use Rattle.std.proofs.Common.{◌≡◌, ◌<◌, arith, length, rules}
use Rattle.std.proofs.lemmas.Bool.Decides.{nat_tests}
use Rattle.std.specs.Prelude.{min}
use Rattle.cl_literals.proofs.Sequences.{one_more, some_length}
use Rattle.cl_literals.proofs.strings.first_character.Goals as goal

pub returns-clause-value : goal.returns-clause-value
returns-clause-value c =
    let some : 0 < length c.args.text.now = some_length c.args.text.now c.requires in
    let most : c.min.result ≡ min c.c_char_len.result (length c.args.text.now) = first_of (omega arith, search rules, grind (arith, nat_tests)) in
    one_more c.args.text.now c.split_at.result.0.now c.split_at.result.1.now c.c_char_len.result c.min.result
    some c.c_char_len.ensures.some c.c_char_len.ensures.value most c.split_at.ensures.front c.split_at.ensures.back
