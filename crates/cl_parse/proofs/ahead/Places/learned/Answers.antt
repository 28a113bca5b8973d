use Rattle.std.proofs.Common.{◌≡◌, ◌∙◌, ap, subst, List, ℕ, length, take, arith, get_or, false}
use Rattle.std.proofs.lemmas.Option.{slice_get-get_or}
use Rattle.cl_tree.specs.Scopes.{text_at}
use Rattle.cl_tree.specs.Sets.{has}
use Rattle.cl_tree.specs.declared.lexeme.Lexeme.{Lexeme}
use Rattle.cl_tree.specs.declared.scope.Change.{Change}
use Rattle.cl_parse.specs.code.Ahead.{AreTold}
use Rattle.cl_parse.proofs.Anew.{learned_more}
use Rattle.cl_parse.proofs.ahead.Places.learned.Goals as goal

pub loop-change-preserved : goal.loop-change-preserved
loop-change-preserved c =
    let now = c.loop-change.after.items in
    let none : Change = record { at = 0; typed = false } in
    let change : Change = get_or c.args.changes.now c.loop-change.change-index none in
    let named : c.in_ok-name.name ≡ text_at (take c.args.to now) change.at = c.in_ok-name.ensures ∙ c.text_at.ensures ∙ ap (λ (ts : List Lexeme). text_at (take c.args.to ts) change.at) c.as_slice.ensures.value in
    let told = c.retype_all.ensures in
    learned_more (has c.args.names.now) c.args.self.now c.args.to c.args.changes.now c.loop-change.change-index change c.in_ok-name.name c.args.tokens.items now c.retype_all.new.tokens.items c.requires.upto c.requires.covers
    c.loop-change.invariant (slice_get-get_or c.args.changes.now c.loop-change.change-index none (omega arith)) named
    (subst (λ (places : List ℕ). AreTold (has c.args.names.now) c.args.to places (length places) now c.retype_all.new.tokens.items) c.of-places.ensures told)
