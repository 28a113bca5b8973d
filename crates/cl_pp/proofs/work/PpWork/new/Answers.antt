use Rattle.std.proofs.Common.{rules, ◌≡◌, List, [], ◌∷◌, ◌++◌, Option, None, refl, sym, ap, subst, ◌∙◌, reverse}
use Rattle.cl_macro.specs.declared.table.MacroTable.{MacroTable}
use Rattle.cl_pp.specs.declared.aim.Target.{Target}
use Rattle.cl_pp.specs.declared.done.PpDone.{PpDone}
use Rattle.cl_pp.specs.declared.made.Frame.{Frame}
use Rattle.cl_pp.specs.declared.made.Made.{Made}
use Rattle.cl_pp.specs.declared.made.Source.{Source}
use Rattle.cl_pp.specs.Before.{before_over}
use Rattle.cl_pp.specs.Preprocessing.{World, before_lines, document, lexed_by}
use Rattle.cl_pp.specs.Resuming.{Continues, world_of}
use Rattle.cl_pp.specs.Standing.{first_unknown}
use Rattle.cl_pp.specs.code.Keeping.{Keeps}
use Rattle.cl_pp.specs.code.Reaching.{IsOpened}
use Rattle.cl_pp.proofs.Found.{keeps_first}
use Rattle.cl_pp.proofs.Reading.{keeps_events}
use Rattle.cl_pp.proofs.Resuming.{start_of, starts}
use Rattle.cl_pp.proofs.Seeing.{none_seen}
use Rattle.cl_pp.proofs.Waiting.{sees_same}
use Rattle.cl_pp.proofs.work.PpWork.new.Goals as goal

pub returns-clause-waits : goal.returns-clause-waits
returns-clause-waits c = λ macros numbers folders.
    let before = before_over macros numbers c.args.start in
    let path = c.args.path.now in
    let text = c.args.main.now in
    let first : PpDone = record {
      tokens = c.new.result;
      events = c.new-2.result;
      files = c.args.start.files;
      once = c.args.start.once;
      deps = c.new-3.result;
      uses = c.new-4.result;
      looked = c.new-5.result;
      faults = c.new-6.result;
    } in
    let same : first ≡ before_lines before = λ i. record {
      tokens = c.new.ensures i;
      events = c.new-2.ensures i;
      files = c.args.start.files;
      once = c.args.start.once;
      deps = c.new-3.ensures i;
      uses = c.new-4.ensures i;
      looked = c.new-5.ensures i;
      faults = c.new-6.ensures i;
    } in
    let source : Source = record { number = 0; depth = 0; path = c.in_ok-duplicate.field-0; text = c.in_ok-duplicate-2.field-0; opened = c.in_ok-new.field-0 } in
    let new = c.open_file.new.work in
    let e = c.in_ok-open_file.ensures in
    let opened : IsOpened 0 source.text (before_lines before) source.opened.value new.made.done = subst (λ (d : PpDone). IsOpened 0 source.text d source.opened.value new.made.done) same e.opened in
    let frames : new.frames ≡ start_of source ∷ [] = e.frames ∙ ap (λ (fs : List Frame). fs ++ start_of source ∷ []) c.new-10.ensures in
    record {
      keeps = subst (λ (x : MacroTable). Keeps macros numbers before.start x new.made.done) (sym e.table)
          (keeps_events before.start c.args.start.macros first new.made.done (keeps_first before.start c.args.start.macros first c.new-2.ensures (λ name. refl) (λ name. refl) (sym c.requires)) (ap (λ (d : PpDone). d.events) e.opened.is));
      going = ap (λ (d : PpDone). first_unknown d.deps) opened.is;
      on = λ one_token tells known agree.
          let w : World = document one_token before.start known folders path text in
          let world : world_of w source ≡ lexed_by w source.opened.value.lexed.faults = λ i. record (world_of w source) { path = c.in_ok-duplicate.ensures i; text = c.in_ok-duplicate-2.ensures i } in
          subst (λ (x : Option Target). Continues w (before_lines before) new.made.done (reverse new.frames) x) (sym e.target)
          (subst (λ (fs : List Frame). Continues w (before_lines before) new.made.done (reverse fs) None) (sym frames)
          (starts w source (before_lines before) new.made.done world opened refl c.in_ok-duplicate-2.ensures));
    }

pub returns-clause-sound : goal.returns-clause-sound
returns-clause-sound c =
    let first : PpDone = record {
      tokens = c.new.result;
      events = c.new-2.result;
      files = c.args.start.files;
      once = c.args.start.once;
      deps = c.new-3.result;
      uses = c.new-4.result;
      looked = c.new-5.result;
      faults = c.new-6.result;
    } in
    let made : Made = record { done = first; seen = c.in_ok-new-2.field-0 } in
    let new = c.open_file.new.work in
    let e = c.in_ok-open_file.ensures in
    record {
      sees = sees_same made new.made e.seen (ap (λ (d : PpDone). d.looked) e.opened.is) (none_seen made c.in_ok-new-2.ensures.names c.in_ok-new-2.ensures.recent c.new-5.ensures);
      laid = search rules;
      sound = search rules;
    }
