use Rattle.std.proofs.Common.{◌≡◌, ℕ, Bool, map, take}
use Rattle.cl_layout.specs.declared.layout.Layout.{Layout}
use Rattle.cl_layout.specs.Constants.{reading}
use Rattle.cl_layout.specs.Layouts.{AreLayouts}
use Rattle.cl_layout.proofs.constants.+reading_of.Given as goal

abbrev pub invariant-loop-part : goal.invariant-loop-part
invariant-loop-part g l = (layouts : Bool → ℕ → Layout) → AreLayouts (g.M.Members.content l.members) layouts → l.parts ≡ map (reading layouts) (take l.part-index l.part-items)
