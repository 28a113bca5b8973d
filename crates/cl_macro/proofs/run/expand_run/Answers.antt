use Rattle.std.proofs.Common.{◌≡◌, ◌∙◌, refl, sym, ap, subst, [], ◌∷◌, ◌++◌, ◌<◌, ◌≤◌, List, length, arith, reverse, map, take}
use Rattle.std.proofs.lemmas.Grind.{common_steps}
use Rattle.cl_base.specs.declared.token.PpToken.{PpToken}
use Rattle.cl_macro.specs.declared.word.Word.{Word}
use Rattle.cl_macro.specs.declared.level.Level.{Level}
use Rattle.cl_macro.specs.declared.note.Note.{Note}
use Rattle.cl_macro.specs.Rules.{Rules}
use Rattle.cl_macro.specs.declared.expanded.Expanded.{Expanded}
use Rattle.cl_macro.specs.Replacing.{Works, replacements, all_told, span_of}
use Rattle.cl_macro.specs.Turns.{turn, Invokes, stay_notes}
use Rattle.cl_macro.specs.Levels.{Suits, Within, ahead, rules_of}
use Rattle.cl_macro.specs.Table.{event_of, macro_of}
use Rattle.cl_macro.specs.Words.{fresh}
use Rattle.cl_macro.specs.Outermost.{Wholly}
use Rattle.cl_macro.specs.code.Gaining.{Tells}
use Rattle.cl_macro.proofs.Expanding.{not_large, left_within, within_drop}
use Rattle.cl_macro.proofs.Gaining.{Got, got_none, got_kept, got_whole, got_stay, got_all}
use Rattle.cl_macro.proofs.Repeating.{large_none}
use Rattle.cl_macro.proofs.run.expand_run.Goals as goal

pub loop-first-init : goal.loop-first-init
loop-first-init g c = λ o text t b w. (
  got_none (rules_of (macro_of c.args.table.now (g.B.MacroBase.macros c.args.base.now)) o c.args.file.now text)
      (event_of c.args.table.now (g.B.MacroBase.events c.args.base.now)) c.args.run.now _ c.new-all.ensures,
  w,
  large_none (rules_of (macro_of c.args.table.now (g.B.MacroBase.macros c.args.base.now)) o c.args.file.now text) _ c.new-large.ensures,
)

pub loop-first-preserved-then-plain : goal.loop-first-preserved-then-plain
loop-first-preserved-then-plain g c = λ o text t b within.
    let k = c.loop-first.invariant o text t b within in
    let e : c.loop-first.rest.now ≡ c.in-Some.first.now ∷ c.in-Some.behind.now = grind (arith, common_steps) in
    let v : Within text (map fresh (c.in-Some.first.now ∷ c.in-Some.behind.now)) = subst (λ (ts : List PpToken). Within text (map fresh ts)) e k.1 in (
      got_kept (rules_of (macro_of c.args.table.now (g.B.MacroBase.macros c.args.base.now)) o c.args.file.now text)
          (event_of c.args.table.now (g.B.MacroBase.events c.args.base.now)) c.args.run.now _ _ _ _ c.in-Some.first.now k.0 e (c.in_ok-plain.ensures c.if-plain.true) c.in_ok-keep.ensures,
      v.1,
      k.2,
    )

pub loop-first-smaller-in-Some-2 : goal.loop-first-smaller-in-Some-2
loop-first-smaller-in-Some-2 g c =
    let e : c.loop-first.rest.now ≡ c.in-Some.first.now ∷ c.in-Some.behind.now = grind (arith, common_steps) in
    let s : length (map fresh c.in-Some-2.whole.left.now) ≤ length (map fresh c.in-Some.behind.now) = rw c.in-Some-2.is at c.in_ok-whole.ensures.short in
    let n : length (map fresh c.loop-first.rest.now) ≡ length (map fresh (c.in-Some.first.now ∷ c.in-Some.behind.now)) = ap (λ (ts : List PpToken). length (map fresh ts)) e in
    omega arith

pub loop-first-preserved-in-Some-2 : goal.loop-first-preserved-in-Some-2
loop-first-preserved-in-Some-2 g c = λ o text t b within.
    let k = c.loop-first.invariant o text t b within in
    let e : c.loop-first.rest.now ≡ c.in-Some.first.now ∷ c.in-Some.behind.now = grind (arith, common_steps) in
    let v : Within text (map fresh (c.in-Some.first.now ∷ c.in-Some.behind.now)) = subst (λ (ts : List PpToken). Within text (map fresh ts)) e k.1 in
    let rules : Rules = rules_of (macro_of c.args.table.now (g.B.MacroBase.macros c.args.base.now)) o c.args.file.now text c.in-Some.first.now.at in
    let suits : Suits rules c.place_of-place.result = record { tells = t; file = sym c.place_of-place.ensures.file; line = sym (c.place_of-place.ensures.line text b v.0) } in
    let w : Wholly rules (fresh c.in-Some.first.now) (map fresh c.in-Some.behind.now) c.in-Some-2.whole = rw c.in-Some-2.is at (c.in_ok-whole.ensures.value o c.args.file.now text suits k.2) in
    let d : Works rules (fresh c.in-Some.first.now ∷ []) (map fresh c.in-Some.behind.now) c.in-Some-2.whole.out (map fresh c.in-Some-2.whole.left.now) c.in-Some-2.whole.notes = w.works in
    let mid : Expanded = record { tokens = c.settle.new.all; faults = c.loop-first.all.faults; looked = c.loop-first.all.looked; uses = c.loop-first.all.uses } in (
      got_whole (rules_of (macro_of c.args.table.now (g.B.MacroBase.macros c.args.base.now)) o c.args.file.now text)
          (event_of c.args.table.now (g.B.MacroBase.events c.args.base.now)) c.args.run.now _ c.in-Some.behind.now c.in-Some-2.whole.left.now c.loop-first.all mid _ c.in-Some.first.now c.in-Some-2.whole.out c.in-Some-2.whole.notes
          c.span_of-at.result c.len-before.result
          k.0 e d w.small (c.span_of-at.ensures ∙ ap (span_of (fresh c.in-Some.first.now)) c.as_slice.ensures.value) c.len-before.ensures.value c.in_ok-settle.ensures refl refl refl
          (subst (λ (ns : List Note). Tells (event_of c.args.table.now (g.B.MacroBase.events c.args.base.now)) (all_told c.len-before.result c.span_of-at.result ns) mid c.tell.new.self) c.as_slice-in-Some-2.ensures.value c.in_ok-tell.ensures),
      left_within rules text d v.1,
      c.in_ok-whole.ensures.large o c.args.file.now text suits k.2,
    )

pub loop-first-preserved-in_ok-tell-2 : goal.loop-first-preserved-in_ok-tell-2
loop-first-preserved-in_ok-tell-2 g c = λ o text t b within.
    let k = c.loop-first.invariant o text t b within in
    let e : c.loop-first.rest.now ≡ c.in-Some.first.now ∷ c.in-Some.behind.now = grind (arith, common_steps) in
    let v : Within text (map fresh (c.in-Some.first.now ∷ c.in-Some.behind.now)) = subst (λ (ts : List PpToken). Within text (map fresh ts)) e k.1 in
    let rules : Rules = rules_of (macro_of c.args.table.now (g.B.MacroBase.macros c.args.base.now)) o c.args.file.now text c.in-Some.first.now.at in
    let suits : Suits rules c.place_of-place.result = record { tells = t; file = sym c.place_of-place.ensures.file; line = sym (c.place_of-place.ensures.line text b v.0) } in
    let large2 : (out left : List Word) (ns : List Note) → Works rules (fresh c.in-Some.first.now ∷ []) (map fresh c.in-Some.behind.now) out left ns → 65535 < replacements ns =
    rw c.in_default-2.is at (c.in_ok-whole.ensures.value o c.args.file.now text suits k.2) in
    let i = not_large rules (fresh c.in-Some.first.now) (map fresh c.in-Some.behind.now) large2 _ refl in
    let ew : c.fresh-word.result ≡ fresh c.in-Some.first.now = c.fresh-word.ensures ∙ ap fresh c.in_ok-copy.ensures in
    let level : Level = record { work = c.new.result; rest = c.in-Some.behind; out = c.new-in-Some.result } in
    let a : ahead level ≡ map fresh c.in-Some.behind.now = ap (λ (xs : List Word). reverse xs ++ map fresh c.in-Some.behind.now) c.new.ensures in
    let there : turn (macro_of c.args.table.now (g.B.MacroBase.macros c.args.base.now)) c.fresh-word.result (ahead level) ≡ Invokes i.0 i.1 =
    (λ j. turn (macro_of c.args.table.now (g.B.MacroBase.macros c.args.base.now)) (ew j) (a j)) ∙ i.2 in
    let mid : Expanded = record { tokens = c.append.new.all; faults = c.loop-first.all.faults; looked = c.loop-first.all.looked; uses = c.loop-first.all.uses } in
    let p = c.in_ok-stay.ensures.passes in (
      got_stay (rules_of (macro_of c.args.table.now (g.B.MacroBase.macros c.args.base.now)) o c.args.file.now text)
          (event_of c.args.table.now (g.B.MacroBase.events c.args.base.now)) c.args.run.now _ c.in-Some.behind.now c.loop-first.all mid _ c.in-Some.first.now c.fresh-word.result i.0 i.1 c.in_ok-count.count
          level c.stay.new.level c.stay.new.notes c.len-before.result
          k.0 e ew c.new.ensures refl c.new-in-Some.ensures i.2 (c.in_ok-count.ensures.value i.0 i.1 there) c.in_ok-count.ensures.within large2
          p c.in_ok-stay.ensures.out
          (c.in_ok-stay.ensures.notes ∙ ap (λ (ns : List Note). ns ++ stay_notes 17 c.fresh-word.result (take c.in_ok-count.count (ahead level))) c.new-notes.ensures)
          c.len-before.ensures.value c.in_ok-append.ensures refl refl refl
          (subst (λ (ns : List Note). Tells (event_of c.args.table.now (g.B.MacroBase.events c.args.base.now)) (all_told c.len-before.result c.in-Some.first.now.at ns) mid c.tell-in-Some.new.self) c.as_slice-in-Some.ensures.value c.in_ok-tell-2.ensures),
      subst (λ (ws : List Word). Within text ws) (sym p.rest) (within_drop rules text _ (map fresh c.in-Some.behind.now) v.1),
      c.in_ok-whole.ensures.large o c.args.file.now text suits k.2,
    )

pub loop-first-preserved : goal.loop-first-preserved
loop-first-preserved g c = λ o text t b within.
    let k = c.loop-first.invariant o text t b within in
    let e : c.loop-first.rest.now ≡ c.in-Some.first.now ∷ c.in-Some.behind.now = grind (arith, common_steps) in
    let v : Within text (map fresh (c.in-Some.first.now ∷ c.in-Some.behind.now)) = subst (λ (ts : List PpToken). Within text (map fresh ts)) e k.1 in
    let rules : Rules = rules_of (macro_of c.args.table.now (g.B.MacroBase.macros c.args.base.now)) o c.args.file.now text c.in-Some.first.now.at in
    let suits : Suits rules c.place_of-place.result = record { tells = t; file = sym c.place_of-place.ensures.file; line = sym (c.place_of-place.ensures.line text b v.0) } in
    let large2 : (out left : List Word) (ns : List Note) → Works rules (fresh c.in-Some.first.now ∷ []) (map fresh c.in-Some.behind.now) out left ns → 65535 < replacements ns =
    rw c.in_default-2.is at (c.in_ok-whole.ensures.value o c.args.file.now text suits k.2) in
    let i = not_large rules (fresh c.in-Some.first.now) (map fresh c.in-Some.behind.now) large2 _ refl in
    let ew : c.fresh-word.result ≡ fresh c.in-Some.first.now = c.fresh-word.ensures ∙ ap fresh c.in_ok-copy.ensures in
    let level : Level = record { work = c.new.result; rest = c.in-Some.behind; out = c.new-in-Some.result } in
    let a : ahead level ≡ map fresh c.in-Some.behind.now = ap (λ (xs : List Word). reverse xs ++ map fresh c.in-Some.behind.now) c.new.ensures in
    let there : turn (macro_of c.args.table.now (g.B.MacroBase.macros c.args.base.now)) c.fresh-word.result (ahead level) ≡ Invokes i.0 i.1 =
    (λ j. turn (macro_of c.args.table.now (g.B.MacroBase.macros c.args.base.now)) (ew j) (a j)) ∙ i.2 in
    let mid : Expanded = record { tokens = c.append.new.all; faults = c.loop-first.all.faults; looked = c.loop-first.all.looked; uses = c.loop-first.all.uses } in
    let p = c.in_ok-stay.ensures.passes in (
      got_stay (rules_of (macro_of c.args.table.now (g.B.MacroBase.macros c.args.base.now)) o c.args.file.now text)
          (event_of c.args.table.now (g.B.MacroBase.events c.args.base.now)) c.args.run.now _ c.in-Some.behind.now c.loop-first.all mid _ c.in-Some.first.now c.fresh-word.result i.0 i.1 c.in_ok-count.count
          level c.stay.new.level c.stay.new.notes c.len-before.result
          k.0 e ew c.new.ensures refl c.new-in-Some.ensures i.2 (c.in_ok-count.ensures.value i.0 i.1 there) c.in_ok-count.ensures.within large2
          p c.in_ok-stay.ensures.out
          (c.in_ok-stay.ensures.notes ∙ ap (λ (ns : List Note). ns ++ stay_notes 17 c.fresh-word.result (take c.in_ok-count.count (ahead level))) c.new-notes.ensures)
          c.len-before.ensures.value c.in_ok-append.ensures refl refl refl
          (subst (λ (ns : List Note). Tells (event_of c.args.table.now (g.B.MacroBase.events c.args.base.now)) (all_told c.len-before.result c.in-Some.first.now.at ns) mid c.tell-in-Some.new.self) c.as_slice-in-Some.ensures.value c.in_ok-tell-2.ensures),
      subst (λ (ws : List Word). Within text ws) (sym p.rest) (within_drop rules text _ (map fresh c.in-Some.behind.now) v.1),
      c.in_ok-whole.ensures.large o c.args.file.now text suits k.2,
    )

pub returns : goal.returns
returns g c = λ o text t b within.
    let e : c.loop-first.rest.now ≡ [] = grind (arith, common_steps) in
    got_all (rules_of (macro_of c.args.table.now (g.B.MacroBase.macros c.args.base.now)) o c.args.file.now text) (event_of c.args.table.now (g.B.MacroBase.events c.args.base.now)) c.args.run.now _
    (subst (λ (ts : List PpToken). Got (rules_of (macro_of c.args.table.now (g.B.MacroBase.macros c.args.base.now)) o c.args.file.now text) (event_of c.args.table.now (g.B.MacroBase.events c.args.base.now)) c.args.run.now c.loop-first.all ts) e
    (c.loop-first.invariant o text t b within).0)
