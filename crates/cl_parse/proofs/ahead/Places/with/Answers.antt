use Rattle.std.proofs.Common.{◌≡◌, ◌∙◌, ap, sym, List, ℕ, Some, ◌∷◌, ◌++◌, [], subst}
use Rattle.std.specs.Cmp.Lexicographic.{slice_cmp}
use Rattle.std.specs.Ordering.{nat_cmp}
use Rattle.std.specs.BTreeMap.{Updates}
use Rattle.cl_parse.specs.code.Ahead.{numbers_of, places_of}
use Rattle.cl_parse.proofs.Place.{one_more}
use Rattle.cl_parse.proofs.ahead.Places.with.Goals as goal
use Rattle.cl_parse.proofs.ahead.Places.with.Goals.{in-Some, in-None}

pub returns : goal.returns
returns c =
    let were : places_of c.args.self c.args.name.now ≡ c.match-remove.places =
    elim c.match-remove.branch [ in-Some w ↦ ap numbers_of (sym c.remove.ensures.value ∙ w.in-Some.is) ∙ sym w.places-is | in-None w ↦ ap numbers_of (sym c.remove.ensures.value ∙ w.in-None.is) ∙ sym w.new-places.ensures ∙ sym w.places-is ] in
    one_more c.args.self c.remove.new.self c.insert.new.self c.args.name.now c.match-remove.places c.args.at were c.remove.ensures.updates
    (subst (λ (n : List ℕ). Updates (slice_cmp nat_cmp) c.remove.new.self c.insert.new.self n (Some (c.match-remove.places ++ c.args.at ∷ []))) c.in_ok-duplicate.ensures
    (subst (λ (ys : List ℕ). Updates (slice_cmp nat_cmp) c.remove.new.self c.insert.new.self c.in_ok-duplicate.field-0 (Some ys)) c.in_ok-push.ensures.ok c.in_ok-insert.ensures.updates))
