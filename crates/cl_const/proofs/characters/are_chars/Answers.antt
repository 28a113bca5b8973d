use Rattle.std.proofs.Common.{◌≡◌, ◌<◌, ◌&&◌, Bool, true, false, length, arith, sym, ap, ◌∙◌, rules}
use Rattle.std.proofs.lemmas.Bool.Decides.{nat_tests}
use Rattle.std.specs.Prelude.{min}
use Rattle.cl_const.specs.Characters.{are_chars, code_of, stands}
use Rattle.cl_const.proofs.Sequences.{one_more}
use Rattle.cl_const.proofs.characters.are_chars.Goals as goal

pub returns-then-not-stands : goal.returns-then-not-stands
returns-then-not-stands c =
    let some : 0 < length c.loop-rest.rest.now = first_of (omega arith, grind (arith, nat_tests), search rules) in
    let most : c.min.result ≡ min c.c_char_len.result (length c.loop-rest.rest.now) = first_of (omega arith, search rules, grind (arith, nat_tests)) in
    let step = one_more c.args.char_type c.loop-rest.rest.now c.split_at.result.0.now c.split_at.result.1.now c.c_char_len.result c.min.result
    some c.c_char_len.ensures.some c.c_char_len.ensures.value most c.split_at.ensures.front c.split_at.ensures.back in
    let fails : stands c.args.char_type (code_of c.split_at.result.0.now) ≡ false = ap (stands c.args.char_type) (sym c.code_of.ensures) ∙ sym c.stands.ensures ∙ c.if-not-stands.true in
    sym (c.loop-rest.invariant ∙ step ∙ ap (λ (x : Bool). x && are_chars c.args.char_type 0 c.split_at.result.1.now) fails)

pub loop-rest-preserved : goal.loop-rest-preserved
loop-rest-preserved c =
    let some : 0 < length c.loop-rest.rest.now = first_of (omega arith, grind (arith, nat_tests), search rules) in
    let most : c.min.result ≡ min c.c_char_len.result (length c.loop-rest.rest.now) = first_of (omega arith, search rules, grind (arith, nat_tests)) in
    let step = one_more c.args.char_type c.loop-rest.rest.now c.split_at.result.0.now c.split_at.result.1.now c.c_char_len.result c.min.result
    some c.c_char_len.ensures.some c.c_char_len.ensures.value most c.split_at.ensures.front c.split_at.ensures.back in
    let fine : stands c.args.char_type (code_of c.split_at.result.0.now) ≡ true = ap (stands c.args.char_type) (sym c.code_of.ensures) ∙ sym c.stands.ensures ∙ c.if-not-stands.false in
    c.loop-rest.invariant ∙ step ∙ ap (λ (x : Bool). x && are_chars c.args.char_type 0 c.split_at.result.1.now) fine
