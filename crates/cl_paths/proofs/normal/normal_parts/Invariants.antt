use Rattle.std.proofs.Common.{◌≡◌, [], take}
use Rattle.std.specs.Prelude.{reverse}
use Rattle.std.specs.List.{fold}
use Rattle.cl_paths.specs.Parts.{gone_on, texts}
use Rattle.cl_paths.proofs.normal.normal_parts.Given as goal

-- what is kept so far
abbrev pub invariant-loop-part : goal.invariant-loop-part
invariant-loop-part l = reverse (texts l.kept.items) ≡ fold (gone_on l.rooted) [] (texts (take l.part-index l.part-items))
