use Rattle.std.proofs.Common.{List, ◌++◌, ap, subst, ◌∙◌}
use Rattle.cl_headers.specs.declared.dep.Dep.{Dep}
use Rattle.cl_headers.specs.declared.resolving.Resolved.TheVariants.{File}
use Rattle.cl_pp.specs.Preprocessing.{arrived}
use Rattle.cl_pp.specs.code.Reaching.{Settles}
use Rattle.cl_pp.proofs.reach.arrive.Goals as goal

pub returns-in_ok-reached-in-File-clause-done : goal.returns-in_ok-reached-in-File-clause-done
returns-in_ok-reached-in-File-clause-done c =
    let target = c.args.target.now in
    let old = c.args.made.now.done in
    rw c.in-File.is
    (subst (λ (deps : List Dep). Settles (arrived target (File c.in-File.path c.in-File.text) (record old { deps = deps })) c.enter.new.made.done c.in_ok-reached-in-File.reached)
    (c.in_ok-add_deps-in-File.ensures ∙ ap (λ (deps : List Dep). old.deps ++ deps) c.as_slice.ensures.value) (c.in_ok-reached-in-File.ensures.done target))
