use Rattle.std.proofs.Common.{◌≡◌, ◌∙◌, refl, sym, ap, Some, length, arith, subst}
use Rattle.std.specs.Prelude.{slice_get}
use Rattle.std.proofs.lemmas.Option.{slice_get_read}
use Rattle.cl_parse.specs.code.Ahead.{Finds, IsOneMore}
use Rattle.cl_parse.specs.declared.ahead.Places.{Places}
use Rattle.cl_parse.proofs.Anew.{finds_more, finds_past}
use Rattle.cl_parse.proofs.ahead.Places.over.Goals as goal
use Rattle.cl_parse.proofs.ahead.Places.over.Goals.{then-is_word+in_ok-places, else-is_word}

pub loop-at-preserved : goal.loop-at-preserved
loop-at-preserved c =
    let ts = c.args.tokens.now in
    let at = c.loop-at.at in
    let l = c.index-tokens-at.result in
    let is : slice_get ts at ≡ Some l = slice_get_read ts (length ts) at l refl (omega arith) c.index-tokens-at.is in
    elim c.if-is_word.branch [
      | then-is_word+in_ok-places w ↦ (
          let more : IsOneMore c.loop-at.places c.if-is_word.places l.text at = subst (λ (p : Places). IsOneMore c.loop-at.places p l.text at) (sym w.places-is) w.in_ok-places.ensures in
          record {
            upto = more.upto ∙ c.loop-at.invariant.upto;
            finds = finds_more c.loop-at.places c.if-is_word.places ts c.args.from at l is c.loop-at.invariant.finds (sym c.is_word.ensures ∙ w.if-is_word.true) more;
          })
      | else-is_word w ↦ record {
        upto = ap (λ (p : Places). p.upto) w.places-is ∙ c.loop-at.invariant.upto;
        finds = finds_past c.if-is_word.places c.if-is_word.places ts c.args.from at l is (subst (λ (p : Places). Finds p ts c.args.from at) (sym w.places-is) c.loop-at.invariant.finds) (sym c.is_word.ensures ∙ w.if-is_word.false);
      }
    ]
