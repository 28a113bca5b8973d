use Rattle.std.proofs.Common.{◌≡◌, ℕ, List, drop}
use Rattle.cl_headers.specs.Resolving.{Answers, Stops, named}
use Rattle.cl_headers.specs.declared.resolving.Resolved.{Resolved}
use Rattle.cl_headers.proofs.resolving.look_in.Given as goal

-- what the search in the folders that are left comes to is what that in all comes to
abbrev pub invariant-loop-folder : goal.invariant-loop-folder
invariant-loop-folder g l =
    let known = g.V.HeaderView.known in
    let asked = g.V.HeaderView.asked in
    record {
      fixed : known l.view ≡ known l.fn.view;
      answers : (after : List (List ℕ)) (resolved : Resolved) → Answers (known l.fn.view) (named (drop l.folder-index l.folders) l.name) (asked l.view) after resolved
          → Answers (known l.fn.view) (named l.folders l.name) (asked l.fn.view) after resolved;
      stops : (after : List (List ℕ)) → Stops (known l.fn.view) (named (drop l.folder-index l.folders) l.name) (asked l.view) after
          → Stops (known l.fn.view) (named l.folders l.name) (asked l.fn.view) after;
    }
