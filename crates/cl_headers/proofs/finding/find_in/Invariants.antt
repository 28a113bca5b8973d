use Rattle.std.proofs.Common.{◌≡◌, ℕ, List, length}
use Rattle.cl_headers.specs.declared.dep.Dep.{Dep}
use Rattle.cl_headers.specs.Noting.{Searches}
use Rattle.cl_headers.specs.declared.resolving.Resolved.{Resolved}
use Rattle.cl_headers.proofs.finding.find_in.Given as goal

-- what the search in the paths that are left comes to is what that in all comes to
abbrev pub invariant-loop-path : goal.invariant-loop-path
invariant-loop-path g l =
    let known = g.V.HeaderView.known in
    let asked = g.V.HeaderView.asked in
    record {
      fixed : known l.view ≡ known l.fn.view;
      searches : (after : List (List ℕ)) (news : List Dep) (resolved : Resolved) → Searches (known l.fn.view) l.rest l.deps news (asked l.view) after resolved
          → Searches (known l.fn.view) l.fn.paths l.fn.deps news (asked l.fn.view) after resolved;
    }

abbrev pub decreases-loop-path : goal.decreases-loop-path
decreases-loop-path g l = length l.rest
