use Rattle.std.proofs.Common.{◌≡◌, ◌++◌, [], drop}
use Rattle.std.specs.Prelude.{reverse}
use Rattle.cl_cond.specs.Sections.{faults_of, kept, parts}
use Rattle.cl_cond.specs.code.Nesting.{ends_of, sections}
use Rattle.cl_cond.proofs.Following.{past}
use Rattle.cl_cond.proofs.group.group_lines.Given as goal

abbrev pub invariant-loop-line : goal.invariant-loop-line
invariant-loop-line l = record {
  levels : reverse l.nesting.levels ≡ sections (past l.lines l.line-index);
  ends : reverse l.nesting.ends ≡ ends_of (parts (drop l.line-index l.lines));
  marks : l.marks ++ kept (past l.lines l.line-index) (drop l.line-index l.lines) ≡ kept [] l.lines;
  faults : l.faults ++ faults_of l.tokens (past l.lines l.line-index) (drop l.line-index l.lines) ≡ faults_of l.tokens [] l.lines;
}
