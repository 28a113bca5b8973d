use Rattle.std.proofs.Common.{rules, arith, ◌≡◌, ◌+◌, subst, sym}
use Rattle.std.proofs.lemmas.Grind.{common_steps}
use Rattle.cl_pp.specs.Standing.{number_in}
use Rattle.cl_pp.proofs.Files.{number_here, number_on}
use Rattle.cl_pp.proofs.reach.number_in.Goals as goal

pub returns-then-eq : goal.returns-then-eq
returns-then-eq c =
    number_here c.args.files.now c.loop-file.rest.now c.in-Some.behind.now c.in-Some.file.now c.args.path.now c.loop-file.number c.in-Some.ensures.cases.0 (search rules) c.loop-file.invariant.0

pub loop-file-preserved : goal.loop-file-preserved
loop-file-preserved c =
    let h = number_on c.args.files.now c.loop-file.rest.now c.in-Some.behind.now c.in-Some.file.now c.args.path.now c.loop-file.number c.in-Some.ensures.cases.0 (search rules) c.loop-file.invariant.0 in
    let n : c.in-Some-checked_add.next ≡ c.loop-file.number + 1 = grind (arith, common_steps) in
    (subst (λ k. number_in c.args.files.now c.args.path.now + 1 ≡ number_in c.in-Some.behind.now c.args.path.now + k) (sym n) h, grind (arith, common_steps))
