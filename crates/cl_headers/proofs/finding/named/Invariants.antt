use Rattle.std.proofs.Common.{◌≡◌, ◌++◌, take}
use Rattle.cl_headers.specs.Resolving.{named}
use Rattle.cl_headers.proofs.finding.named.Given as goal

abbrev pub invariant-loop-folder : goal.invariant-loop-folder
invariant-loop-folder l = l.paths ≡ l.fn.paths ++ named (take l.folder-index l.folders) l.name
