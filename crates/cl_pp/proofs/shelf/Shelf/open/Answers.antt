use Rattle.std.proofs.Common.{rules, ◌≡◌, subst, sym}
use Rattle.std.specs.Cmp.Lexicographic.{slice_cmp}
use Rattle.std.specs.Ordering.{nat_cmp}
use Rattle.std.specs.BTreeMap.{get}
use Rattle.cl_base.specs.declared.headers.Known.TheVariants as state
use Rattle.cl_pp.specs.code.Reaching.{IsLaid}
use Rattle.cl_pp.proofs.Shelving.{is_held, put_held}
use Rattle.cl_pp.proofs.shelf.Shelf.open.Goals as goal

pub returns-in-Some-clause-laid : goal.returns-in-Some-clause-laid
returns-in-Some-clause-laid c = λ known s k.
    let held = is_held (λ a. a.value) known c.args.found.now.path c.args.found.now.text c.in-Some.opened.now _ (sym c.in-Some.ensures.value) k (s c.args.found.now.path) in
    search (rules, held)

pub returns-clause-sound : goal.returns-clause-sound
returns-clause-sound c = λ known s k.
    let laid : IsLaid c.args.found.now.text c.in_ok-clone-2.field-0.value = search rules in
    let kept = subst (λ p. known p ≡ state.Found c.args.found.now.text) (sym c.in_ok-path.ensures) k in
    put_held (λ a. a.value) known c.in_ok-path.path c.args.found.now.text c.in_ok-clone-2.field-0
    (λ q. get (slice_cmp nat_cmp) c.args.self.now.headers q) (λ q. get (slice_cmp nat_cmp) c.insert.new.self q)
    (λ q. c.in_ok-insert.ensures.updates.0 q) kept laid s
