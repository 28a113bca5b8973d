use Rattle.std.proofs.Common.{◌≡◌, List, ℕ, take, ◌&&◌, not, None, if◌then◌else◌}
use Rattle.std.specs.Prelude.{is_some}
use Rattle.std.specs.List.{list_any}
use Rattle.std.specs.Str.{bytes_eq}
use Rattle.cl_headers.specs.Headers.{known_at}
use Rattle.cl_core.specs.Deciding.{texts_of}
use Rattle.cl_core.proofs.headers.without_closed.Given as goal

abbrev pub invariant-loop-path : goal.invariant-loop-path
invariant-loop-path l = (q : List ℕ) → known_at l.headers q
    ≡ (if list_any (λ path. bytes_eq path q) (take l.path-index l.path-items) && not (is_some (texts_of l.docs q)) then None else known_at l.fn.headers q)
