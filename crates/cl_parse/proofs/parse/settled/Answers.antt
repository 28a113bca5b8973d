use Rattle.std.proofs.Common.{◌≡◌, ◌∙◌, refl, ap, subst, take, List, ℕ}
use Rattle.cl_tree.specs.Scopes.{known}
use Rattle.cl_tree.specs.Sets.{has}
use Rattle.cl_tree.specs.declared.lexeme.Lexeme.{Lexeme}
use Rattle.cl_parse.specs.code.Ahead.{Covers}
use Rattle.cl_parse.proofs.Retyped.{all_anew, covers_kept}
use Rattle.cl_parse.proofs.parse.settled.Goals as goal

pub returns : goal.returns
returns c =
    let old = c.args.reading in
    let ts = old.ahead.items in
    let names : (name : List ℕ) → has c.in_ok-names.names name ≡ known (take c.args.to ts) c.args.changes.now (has old.names name) name =
    λ name. c.in_ok-names.ensures name ∙ ap (λ (xs : List Lexeme). known (take c.args.to xs) c.args.changes.now (has old.names name) name) c.as_slice.ensures.value in
    record {
      names_are = names;
      ahead_is = all_anew (has old.names) (has c.in_ok-names.names) c.args.to ts c.args.changes.now c.in_ok-ahead.ahead.items c.requires.named names c.in_ok-ahead.ensures;
      covers = covers_kept c.in_ok-places.places (has c.in_ok-names.names) c.args.to ts c.in_ok-ahead.ahead.items c.in_ok-ahead.ensures.some
          (subst (λ (xs : List Lexeme). Covers c.in_ok-places.places xs c.args.to) c.as_slice-2.ensures.value c.in_ok-places.ensures.covers);
      at = refl;
      marks_are = refl;
    }
