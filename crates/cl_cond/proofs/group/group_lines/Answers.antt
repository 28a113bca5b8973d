use Rattle.std.proofs.Common.{◌<◌, arith, length}
use Rattle.cl_cond.proofs.Stepping.{trouble_there, levels_there, ends_there, marks_there, faults_there, has_name}
use Rattle.cl_cond.proofs.group.group_lines.Goals as goal

pub note-requires : goal.note-requires
note-requires c =
    let l : c.loop-line.line-index < length c.args.lines.now = omega arith in
    has_name c.args.tokens.now c.args.lines.now c.loop-line.line-index _ c.in_ok-trouble.trouble _ _ c.requires.lines l c.in_ok-trouble.ensures.trouble

pub loop-line-preserved : goal.loop-line-preserved
loop-line-preserved c =
    let l : c.loop-line.line-index < length c.args.lines.now = omega arith in
    let t = trouble_there c.args.lines.now c.loop-line.line-index _ c.in_ok-trouble.trouble _ _ l c.loop-line.invariant.levels c.loop-line.invariant.ends c.in_ok-trouble.ensures.trouble in
    record {
      levels = levels_there c.args.lines.now c.loop-line.line-index _ _ _ l c.loop-line.invariant.levels c.in_ok-trouble.ensures.levels;
      ends = ends_there c.args.lines.now c.loop-line.line-index _ _ _ l c.loop-line.invariant.ends c.in_ok-trouble.ensures.ends;
      marks = marks_there c.args.lines.now c.loop-line.line-index _ c.in_ok-trouble.trouble _ _ _ l c.loop-line.invariant.marks t c.in_ok-keep.ensures;
      faults = faults_there c.args.tokens.now c.args.lines.now c.loop-line.line-index _ c.in_ok-trouble.trouble _ _ _ l c.loop-line.invariant.faults t c.in_ok-note.ensures;
    }
