use Rattle.std.proofs.Common.{◌≡◌, ◌∷◌, ◌++◌, [], sym, ◌∙◌, rules}
use Rattle.std.specs.Prelude.{not}
use Rattle.cl_define.specs.Words.{has}
use Rattle.cl_define.specs.code.Sets.{Gathered, Holds}
use Rattle.cl_define.proofs.Distinct.{gathered_more, gathered_twice}
use Rattle.cl_define.proofs.valid.set_of.Goals as goal

pub returns-then-not-branch : goal.returns-then-not-branch
returns-then-not-branch c =
    let g : Gathered c.args.names.now c.loop-name.rest.now c.loop-name.set = c.loop-name.invariant in
    let split : c.loop-name.rest.now ≡ c.in-Some.before.now ++ c.in-Some.name.now ∷ [] = search rules in
    let told : (c.in_ok-add.field-0 ≡ not (has g.behind c.in-Some.name.now)) × Holds c.add.new.set (c.in-Some.name.now ∷ g.behind) = c.in_ok-add.ensures g.behind g.holds in
    gathered_twice c.args.names.now c.loop-name.rest.now c.in-Some.before.now c.in-Some.name.now c.loop-name.set g split (sym told.0 ∙ c.if-not-branch.true)

pub loop-name-preserved : goal.loop-name-preserved
loop-name-preserved c =
    let g : Gathered c.args.names.now c.loop-name.rest.now c.loop-name.set = c.loop-name.invariant in
    let split : c.loop-name.rest.now ≡ c.in-Some.before.now ++ c.in-Some.name.now ∷ [] = search rules in
    let told : (c.in_ok-add.field-0 ≡ not (has g.behind c.in-Some.name.now)) × Holds c.add.new.set (c.in-Some.name.now ∷ g.behind) = c.in_ok-add.ensures g.behind g.holds in
    gathered_more c.args.names.now c.loop-name.rest.now c.in-Some.before.now c.in-Some.name.now c.loop-name.set c.add.new.set g split (sym told.0 ∙ c.if-not-branch.false) told.1
