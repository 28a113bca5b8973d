use Rattle.std.proofs.Common.{◌≡◌, sym, ap, if◌then◌else◌, ◌&&◌, ◌∙◌, rules, List, ℕ}
use Rattle.std.specs.Prelude.{Option, Some}
use Rattle.std.specs.Ordering.{nat_cmp}
use Rattle.std.specs.Cmp.Lexicographic.{slice_cmp}
use Rattle.std.specs.BTreeMap.{get}
use Rattle.cl_scope.proofs.Naming.{name_put, read_put}
use Rattle.cl_types.specs.declared.types.DeclNo.{DeclNo}
use Rattle.cl_scope.specs.Names.{same_linkage, has_name}
use Rattle.cl_scope.specs.code.Tables.{link_in, link_of}
use Rattle.cl_scope.proofs.changed.put_link.Goals as goal

pub returns : goal.returns
returns c = λ other called.
    read_put link_in (get (slice_cmp nat_cmp) c.args.table.now) other c.with-links.result (Some c.args.no) (same_linkage c.args.decl.now.linkage other) c.in-Some.name called (get (slice_cmp nat_cmp) c.insert.new.self called)
    (name_put c.args.table.now c.insert.new.self c.in-Some.name (Some c.with-links.result) called (rw (← c.in_ok-name.ensures) c.in_ok-insert.ensures.updates))
    (c.with-links.ensures other ∙ ap (λ (x : Option DeclNo). if same_linkage c.args.decl.now.linkage other then Some c.args.no else x) (c.links_of.ensures other))
    ∙ ap (λ (o : Option (List ℕ)). if same_linkage c.args.decl.now.linkage other && has_name o called then Some c.args.no else link_of c.args.table.now called other) (sym c.in-Some.is)
