use Rattle.std.proofs.Common.{◌≡◌, ◌++◌, ℕ, Bool, Some, length}
use Rattle.cl_layout.specs.declared.layout.Layout.{Layout}
use Rattle.cl_layout.specs.Layouts.{AreLayouts, beginning, offsets}
use Rattle.cl_layout.specs.Tables.{IsSound}
use Rattle.cl_layout.proofs.work.offsets_in.Given as goal

abbrev pub invariant-loop-member : goal.invariant-loop-member
invariant-loop-member g l = record {
  sound : IsSound (g.M.Members.content l.members) l.work;
  made : (layouts : Bool → ℕ → Layout) → AreLayouts (g.M.Members.content l.members) layouts
      → l.made ++ offsets layouts l.union l.room l.rest ≡ offsets layouts l.union (Some beginning) l.list;
}

abbrev pub decreases-loop-member : goal.decreases-loop-member
decreases-loop-member g l = length l.rest
