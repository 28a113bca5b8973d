use Rattle.std.proofs.Common.{◌≡◌, ◌∙◌, ◌∷◌, [], ℕ, ◌<◌, true, List, map, sym, ap, subst, refl, inl, inr}
use Rattle.std.specs.Prelude.{◌&&◌}
use Rattle.cl_macro.specs.Rules.{Rules}
use Rattle.cl_macro.specs.declared.note.Note.{Note}
use Rattle.cl_macro.specs.declared.word.Word.{Word}
use Rattle.cl_macro.specs.Levels.{rules_of}
use Rattle.cl_macro.specs.Outermost.{Wholly}
use Rattle.cl_macro.specs.Replacing.{Works, replacements}
use Rattle.cl_macro.specs.Table.{macro_of}
use Rattle.cl_macro.specs.Words.{contains, fresh, is_ident}
use Rattle.cl_macro.specs.code.Flat.{AreLarge}
use Rattle.cl_macro.proofs.Flat.{and_left, and_right}
use Rattle.cl_macro.proofs.Repeating.{large_more}
use Rattle.cl_macro.proofs.run.tried.Goals as goal

pub returns-then-known-clause-value : goal.returns-then-known-clause-value
returns-then-known-clause-value g c = λ o file text suits large out left ns d.
    let e : (is_ident c.args.first.now.kind && contains c.as_slice.result.now c.args.first.now.text) ≡ true = sym c.is_one_of-known.ensures ∙ c.if-known.true in
    large c.args.first.now (and_left (is_ident c.args.first.now.kind) _ e)
    (subst (λ (names : List (List ℕ)). contains names c.args.first.now.text ≡ true) c.as_slice.ensures.value (and_right (is_ident c.args.first.now.kind) _ e)) (map fresh c.args.behind.now) out left ns d

pub returns-in-Some-clause-value : goal.returns-in-Some-clause-value
returns-in-Some-clause-value g c = λ o file text suits large.
    let rules : Rules = rules_of (macro_of c.args.table.now (g.B.MacroBase.macros c.args.base.now)) o file text c.args.first.now.at in
    let w : Wholly rules c.fresh-word.result (map fresh c.args.behind.now) c.in-Some.whole = rw c.in-Some.is at (c.in_ok-whole.ensures.value rules suits refl) in
    subst (λ (x : Word). Wholly rules x (map fresh c.args.behind.now) c.in-Some.whole) (c.fresh-word.ensures ∙ ap fresh c.in_ok-copy.ensures) w

pub returns-clause-value : goal.returns-clause-value
returns-clause-value g c = λ o file text suits large.
    let rules : Rules = rules_of (macro_of c.args.table.now (g.B.MacroBase.macros c.args.base.now)) o file text c.args.first.now.at in
    let big : (out left : List Word) (ns : List Note) → Works rules (c.fresh-word.result ∷ []) (map fresh c.args.behind.now) out left ns → 65535 < replacements ns =
    rw c.in_default.is at (c.in_ok-whole.ensures.value rules suits refl) in
    subst (λ (x : Word). (out left : List Word) (ns : List Note) → Works rules (x ∷ []) (map fresh c.args.behind.now) out left ns → 65535 < replacements ns) (c.fresh-word.ensures ∙ ap fresh c.in_ok-copy.ensures) big

pub returns-clause-large : goal.returns-clause-large
returns-clause-large g c = λ o file text suits large.
    let macros = macro_of c.args.table.now (g.B.MacroBase.macros c.args.base.now) in
    elim (c.in_ok-remember.ensures o suits.tells) [
      | inl e ↦ subst (λ (names : List (List ℕ)). AreLarge (rules_of macros o file text) names) (sym e) large
      | inr r ↦
          large_more macros o file text c.args.large.now c.remember.new.large c.args.first.now (map fresh c.args.behind.now) large r.0 r.1 r.2 (returns-clause-value g c o file text suits large)
    ]
