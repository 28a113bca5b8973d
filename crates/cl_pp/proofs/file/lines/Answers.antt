use Rattle.std.proofs.Common.{◌≡◌, ◌≤◌, ◌+◌, Some, refl, sym, ap, subst, ◌∙◌, length}
use Rattle.std.specs.Prelude.{reverse}
use Rattle.cl_cond.specs.declared.mark.Mark.{Mark}
use Rattle.cl_cond.specs.declared.mark.Part.TheVariants.{Line}
use Rattle.cl_pp.specs.declared.aim.Aim.{Aim}
use Rattle.cl_pp.specs.declared.aim.Target.{Target}
use Rattle.cl_pp.specs.declared.made.Opened.{Opened}
use Rattle.cl_pp.specs.Preprocessing.{Does, nothing}
use Rattle.cl_pp.specs.code.Resuming.{Passes}
use Rattle.cl_pp.specs.code.Stacks.{tell, top_of}
use Rattle.cl_pp.specs.Places.{MarksLie}
use Rattle.cl_pp.proofs.Arriving.{marks_it}
use Rattle.cl_pp.proofs.Going.{gone_first, gone_on, gone_past}
use Rattle.cl_pp.proofs.Lying.{line_lies}
use Rattle.cl_pp.proofs.Passing.{goes_still, line_stays, passes_all, passes_to, skipped_by, suits_laid}
use Rattle.cl_pp.proofs.Reading.{keeps_events, within_tokens}
use Rattle.cl_pp.proofs.file.lines.Goals as goal

pub loop-line-init : goal.loop-line-init
loop-line-init g c = record {
  sees = c.requires.sees;
  deps = refl;
  keeps = λ start k. k;
  gone = λ w past s at f stand k. gone_first w c.as_slice-tokens.result.now c.as_slice-marks.result.now past c.args.made.now.done (reverse c.args.place.now.sections) c.args.place.now.next stand;
}

pub loop-line-preserved-then-is_skipped : goal.loop-line-preserved-then-is_skipped
loop-line-preserved-then-is_skipped g c =
    let v = c.loop-line.invariant in
    let marks = c.as_slice-marks.result.now in
    let none : Mark = record { part = Line; from = 0; to = 0 } in
    let line : Mark = c.in-Some.line.now in
    let top = c.loop-line.place.sections in
    let skips = skipped_by line.part top c.as_slice.result.now c.is_skipped.result c.as_slice.ensures.value c.is_skipped.ensures c.if-is_skipped.true in
    record {
      sees = v.sees;
      deps = v.deps;
      keeps = v.keeps;
      gone = λ w past s at f stand k.
          gone_past _ w c.loop-line.table c.as_slice-tokens.result.now marks c.args.place.now.next c.loop-line.place.next none line past c.args.made.now.done c.loop-line.made.done (reverse top)
          c.in-Some.ensures.lookup.3.0 (c.in-Some.ensures.lookup.3.1 none) (goes_still c.args.made.now.done c.loop-line.made.done v.deps f) s (v.keeps w.start k) skips (v.gone w past s at f stand k);
    }

pub take_line-requires-clause-lie : goal.take_line-requires-clause-lie
take_line-requires-clause-lie g c =
    let laid = c.requires.laid in
    let opened : Opened = c.args.source.now.opened.value in
    let tokens = c.as_slice-tokens.result.now in
    let marks = c.as_slice-marks.result.now in
    let tk : tokens ≡ opened.lexed.tokens = c.as_slice-tokens.ensures.value ∙ ap (λ (o : Opened). o.lexed.tokens) c.deref-3.ensures in
    let mk : marks ≡ opened.marks = c.as_slice-marks.ensures.value ∙ ap (λ (o : Opened). o.marks) c.deref-4.ensures in
    let none : Mark = record { part = Line; from = 0; to = 0 } in
    let lie : MarksLie 0 (length tokens) marks = rw (tk, mk) laid.lie in
    subst (λ (m : Mark). (m.from ≤ m.to) × (m.to ≤ length tokens)) (sym (c.in-Some.ensures.lookup.3.1 none))
    (line_lies 0 (length tokens) marks c.loop-line.place.next none lie c.in-Some.ensures.lookup.3.0)

pub loop-line-preserved-in-Nothing : goal.loop-line-preserved-in-Nothing
loop-line-preserved-in-Nothing g c =
    let v = c.loop-line.invariant in
    let laid = c.requires.laid in
    let opened : Opened = c.args.source.now.opened.value in
    let tokens = c.as_slice-tokens.result.now in
    let marks = c.as_slice-marks.result.now in
    let line = c.in-Some.line.now in
    let tk : tokens ≡ opened.lexed.tokens = c.as_slice-tokens.ensures.value ∙ ap (λ (o : Opened). o.lexed.tokens) c.deref-3.ensures in
    let came = c.in_ok-came.came in
    let deps : c.take_line.new.made.done.deps ≡ c.args.made.now.done.deps = line_stays (g.B.MacroBase.macros c.args.base.now) (g.B.MacroBase.events c.args.base.now) _ c.args.source.now.text opened c.loop-line.table (tell (top_of (reverse c.loop-line.place.sections))) tokens line c.loop-line.made.done c.take_line.new.made.done came.held came.aim laid tk
    (ap (λ (o : Opened). o.lines) c.deref.ensures) c.in_ok-came.ensures.done ∙ v.deps in
    let none : Mark = record { part = Line; from = 0; to = 0 } in
    record {
      sees = c.in_ok-came.ensures.sees;
      deps = deps;
      keeps = λ start k. c.in_ok-came.ensures.keeps start (v.keeps start k);
      gone = λ w past s at f stand k.
          gone_on _ w c.loop-line.table tokens marks c.args.place.now.next c.loop-line.place.next none line past c.args.made.now.done c.loop-line.made.done c.take_line.new.made.done c.take_line.new.made.done
          (reverse c.loop-line.place.sections) (reverse c.take_line.new.sections) came.held came.aim c.in-Some.ensures.lookup.3.0 (c.in-Some.ensures.lookup.3.1 none)
          (goes_still c.args.made.now.done c.loop-line.made.done v.deps f) s (v.keeps w.start k)
          (c.in_ok-came.ensures.done w s (within_tokens c.args.source.now.text w.text opened.lexed.tokens tokens tk at.text laid.order))
          (subst (λ (a : Aim). Does w a c.take_line.new.made.done c.take_line.new.made.done) (sym c.in-Nothing.is) (nothing w c.take_line.new.made.done))
          c.in_ok-came.ensures.sections (v.gone w past s at f stand k);
    }

pub loop-line-preserved : goal.loop-line-preserved
loop-line-preserved g c =
    let v = c.loop-line.invariant in
    let laid = c.requires.laid in
    let opened : Opened = c.args.source.now.opened.value in
    let tokens = c.as_slice-tokens.result.now in
    let marks = c.as_slice-marks.result.now in
    let line = c.in-Some.line.now in
    let tk : tokens ≡ opened.lexed.tokens = c.as_slice-tokens.ensures.value ∙ ap (λ (o : Opened). o.lexed.tokens) c.deref-3.ensures in
    let came = c.in_ok-came.came in
    let deps : c.take_line.new.made.done.deps ≡ c.args.made.now.done.deps = line_stays (g.B.MacroBase.macros c.args.base.now) (g.B.MacroBase.events c.args.base.now) _ c.args.source.now.text opened c.loop-line.table (tell (top_of (reverse c.loop-line.place.sections))) tokens line c.loop-line.made.done c.take_line.new.made.done came.held came.aim laid tk
    (ap (λ (o : Opened). o.lines) c.deref.ensures) c.in_ok-came.ensures.done ∙ v.deps in
    let none : Mark = record { part = Line; from = 0; to = 0 } in
    let m = c.in_ok-mark-in-Once.ensures in
    record {
      sees = m.sees;
      deps = m.deps ∙ deps;
      keeps = λ start k. keeps_events start c.take_line.new.table c.take_line.new.made.done c.mark.new.made.done (c.in_ok-came.ensures.keeps start (v.keeps start k)) m.events;
      gone = λ w past s at f stand k.
          gone_on _ w c.loop-line.table tokens marks c.args.place.now.next c.loop-line.place.next none line past c.args.made.now.done c.loop-line.made.done c.take_line.new.made.done c.mark.new.made.done
          (reverse c.loop-line.place.sections) (reverse c.take_line.new.sections) came.held came.aim c.in-Some.ensures.lookup.3.0 (c.in-Some.ensures.lookup.3.1 none)
          (goes_still c.args.made.now.done c.loop-line.made.done v.deps f) s (v.keeps w.start k)
          (c.in_ok-came.ensures.done w s (within_tokens c.args.source.now.text w.text opened.lexed.tokens tokens tk at.text laid.order))
          (subst (λ (a : Aim). Does w a c.take_line.new.made.done c.mark.new.made.done) (sym c.in-Once.is) (marks_it w c.take_line.new.made.done c.mark.new.made.done (m.done w (sym at.depth) (sym at.file))))
          c.in_ok-came.ensures.sections (v.gone w past s at f stand k);
    }

pub returns-in-Header-clause-done : goal.returns-in-Header-clause-done
returns-in-Header-clause-done g c = λ w past at f stand k.
    let v = c.loop-line.invariant in
    let laid = c.requires.laid in
    let opened : Opened = c.args.source.now.opened.value in
    let tokens = c.as_slice-tokens.result.now in
    let marks = c.as_slice-marks.result.now in
    let line = c.in-Some.line.now in
    let tk : tokens ≡ opened.lexed.tokens = c.as_slice-tokens.ensures.value ∙ ap (λ (o : Opened). o.lexed.tokens) c.deref-3.ensures in
    let mk : marks ≡ opened.marks = c.as_slice-marks.ensures.value ∙ ap (λ (o : Opened). o.marks) c.deref-4.ensures in
    let came = c.in_ok-came.came in
    let none : Mark = record { part = Line; from = 0; to = 0 } in
    let s = suits_laid _ c.args.source.now opened w laid at refl refl refl (ap (λ (o : Opened). o.lines) c.deref.ensures) (ap (λ (o : Opened). o.told) c.deref-2.ensures) in
    subst (λ (t : Target). Passes w opened past c.args.place.now c.args.made.now.done (record { next = c.loop-line.place.next + 1; sections = c.take_line.new.sections }) c.take_line.new.made.done (Some t)) (sym c.in-Header.target-is)
    (passes_to _ w opened c.loop-line.table tokens marks past c.args.place.now (record { next = c.loop-line.place.next + 1; sections = c.take_line.new.sections }) c.loop-line.place.next none line
    c.args.made.now.done c.loop-line.made.done c.take_line.new.made.done (reverse c.loop-line.place.sections) came.held came.aim c.in-Header.target tk mk refl c.in-Some.ensures.lookup.3.0 (c.in-Some.ensures.lookup.3.1 none)
    (goes_still c.args.made.now.done c.loop-line.made.done v.deps f) s (v.keeps w.start k)
    (c.in_ok-came.ensures.done w s (within_tokens c.args.source.now.text w.text opened.lexed.tokens tokens tk at.text laid.order))
    c.in-Header.is c.in_ok-came.ensures.sections (v.gone w past s at f stand k))

pub returns-in-Header-clause-keeps : goal.returns-in-Header-clause-keeps
returns-in-Header-clause-keeps g c = λ start k. c.in_ok-came.ensures.keeps start (c.loop-line.invariant.keeps start k)

pub returns-in-Header-clause-deps : goal.returns-in-Header-clause-deps
returns-in-Header-clause-deps g c =
    let v = c.loop-line.invariant in
    let laid = c.requires.laid in
    let opened : Opened = c.args.source.now.opened.value in
    let tokens = c.as_slice-tokens.result.now in
    let line = c.in-Some.line.now in
    let tk : tokens ≡ opened.lexed.tokens = c.as_slice-tokens.ensures.value ∙ ap (λ (o : Opened). o.lexed.tokens) c.deref-3.ensures in
    let came = c.in_ok-came.came in
    line_stays (g.B.MacroBase.macros c.args.base.now) (g.B.MacroBase.events c.args.base.now) _ c.args.source.now.text opened c.loop-line.table (tell (top_of (reverse c.loop-line.place.sections))) tokens line c.loop-line.made.done c.take_line.new.made.done came.held came.aim laid tk
    (ap (λ (o : Opened). o.lines) c.deref.ensures) c.in_ok-came.ensures.done ∙ v.deps

pub returns-clause-done : goal.returns-clause-done
returns-clause-done g c = λ w past at f stand k.
    let v = c.loop-line.invariant in
    let laid = c.requires.laid in
    let opened : Opened = c.args.source.now.opened.value in
    let tokens = c.as_slice-tokens.result.now in
    let marks = c.as_slice-marks.result.now in
    let tk : tokens ≡ opened.lexed.tokens = c.as_slice-tokens.ensures.value ∙ ap (λ (o : Opened). o.lexed.tokens) c.deref-3.ensures in
    let mk : marks ≡ opened.marks = c.as_slice-marks.ensures.value ∙ ap (λ (o : Opened). o.marks) c.deref-4.ensures in
    let s = suits_laid _ c.args.source.now opened w laid at refl refl refl (ap (λ (o : Opened). o.lines) c.deref.ensures) (ap (λ (o : Opened). o.told) c.deref-2.ensures) in
    passes_all w opened tokens marks past c.args.place.now c.loop-line.place c.args.made.now.done c.loop-line.made.done tk mk c.in_default.ensures.lookup.3 (v.gone w past s at f stand k)
