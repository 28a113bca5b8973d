use Rattle.std.proofs.Common.{◌≡◌, [], ◌∷◌, List, sym, subst, arith}
use Rattle.std.proofs.lemmas.Grind.{common_steps}
use Rattle.cl_macro.specs.declared.note.Note.{Note}
use Rattle.cl_macro.specs.Replacing.{all_told, told_by}
use Rattle.cl_macro.specs.Table.{event_of}
use Rattle.cl_macro.specs.code.Gaining.{Tells}
use Rattle.cl_macro.proofs.Gaining.{tells_none, tells_then}
use Rattle.cl_macro.proofs.expanded.Expanded.tell.Goals as goal

pub loop-note-init : goal.loop-note-init
loop-note-init g c = λ new t. t

pub loop-note-preserved : goal.loop-note-preserved
loop-note-preserved g c = λ new t.
    let events = event_of c.args.table.now (g.B.MacroBase.events c.args.base.now) in
    let e : c.loop-note.rest.now ≡ c.in-Some.note.now ∷ c.in-Some.behind.now = grind (arith, common_steps) in
    c.loop-note.invariant new (subst (λ (ns : List Note). Tells events (all_told c.args.before c.args.at ns) c.loop-note.self new) (sym e)
    (tells_then events (told_by c.args.before c.args.at c.in-Some.note.now) (all_told c.args.before c.args.at c.in-Some.behind.now) _ _ _ c.in_ok-tell_one.ensures t))

pub returns : goal.returns
returns g c =
    let events = event_of c.args.table.now (g.B.MacroBase.events c.args.base.now) in
    let e : c.loop-note.rest.now ≡ [] = grind (arith, common_steps) in
    c.loop-note.invariant c.loop-note.self (subst (λ (ns : List Note). Tells events (all_told c.args.before c.args.at ns) c.loop-note.self c.loop-note.self) (sym e) (tells_none events c.loop-note.self))
