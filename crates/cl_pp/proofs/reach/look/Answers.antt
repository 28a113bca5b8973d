use Rattle.std.proofs.Common.{List, ◌++◌, ap, ◌∙◌, map}
use Rattle.cl_headers.specs.Noting.{dep_of}
use Rattle.cl_headers.specs.declared.dep.Dep.{Dep}
use Rattle.cl_pp.proofs.Arriving.{looks_is}
use Rattle.cl_pp.proofs.Shelving.{found_known}
use Rattle.cl_pp.proofs.Telling.{search_tells}
use Rattle.cl_pp.proofs.reach.look.Goals as goal

pub returns-clause-done : goal.returns-clause-done
returns-clause-done g c =
    let known = g.V.HeaderView.known in
    let asked = g.V.HeaderView.asked in
    λ w s. looks_is w c.args.source.now c.args.config.now (known c.args.view.now) c.args.target.now c.in_ok-folder.folder c.text.result.now c.args.made.now.done c.arrive.new.made.done c.new-asked.result c.find_header.new.deps
    (asked c.args.view.now) (asked c.find_header.new.view) c.in_ok-resolved.resolved c.in_ok-reached.reached s c.in_ok-folder.ensures c.text.ensures c.new-asked.ensures c.in_ok-resolved.ensures.ok c.in_ok-reached.ensures.done

pub returns-clause-known : goal.returns-clause-known
returns-clause-known g c =
    let searched = c.in_ok-resolved.ensures.ok in
    found_known (g.V.HeaderView.known c.args.view.now) _ searched.asked c.in_ok-resolved.resolved c.args.target.now c.find_header.new.deps c.args.made.now.done c.arrive.new.made.done c.in_ok-reached.reached searched.resolves c.in_ok-reached.ensures.done

pub returns-clause-told : goal.returns-clause-told
returns-clause-told g c = λ none.
    let searched = c.in_ok-resolved.ensures.ok in
    search_tells (g.V.HeaderView.known c.args.view.now) _ searched.asked c.args.target.now c.find_header.new.deps c.args.made.now.done c.arrive.new.made.done c.in_ok-reached.reached
    (searched.are ∙ ap (λ (deps : List Dep). deps ++ map (dep_of (g.V.HeaderView.known c.args.view.now)) searched.asked) c.new-asked.ensures) none c.in_ok-resolved.resolved searched.resolves c.in_ok-reached.ensures.done
