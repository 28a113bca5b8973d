-- The runs of text lines (N1570 6.10.3p10, 11: an invocation goes on over line ends, and no directive stands in it).
use Rattle.std.specs.Prelude.{◌==◌, ◌&&◌, not, Bool, true, false, if◌then◌else◌, List, [], ◌∷◌}
use Rattle.cl_base.specs.declared.token.Token.{Token}
use Rattle.cl_cond.specs.declared.mark.Mark.{Mark}
use Rattle.cl_cond.specs.declared.mark.Part.{Part}
use Rattle.cl_cond.specs.declared.mark.Part.TheVariants.{Line, Branch, End}
use Rattle.cl_pp.specs.Lines.{is_directive, line_of}

abbrev pub is_line : Part → Bool
is_line Line = true
is_line End = false
is_line (Branch c) = false

abbrev pub both_lines : Mark → Mark → Mark
both_lines run mark = record { part = Line; from = run.from; to = mark.to }

module _ (tokens : List Token) where
  abbrev pub is_text : Mark → Bool
  is_text mark = is_line mark.part && not (is_directive (line_of tokens mark))

  -- the line goes on the run, so that nothing stands between them, not even a line that counts as absent
  abbrev pub goes_on : Mark → Mark → Bool
  goes_on run mark = is_text run && (is_text mark && run.to == mark.from)

  -- a run with the lines behind it
  abbrev pub runs_behind : Mark → List Mark → List Mark
  runs_behind run [] = run ∷ []
  runs_behind run (mark ∷ marks) = if goes_on run mark then runs_behind (both_lines run mark) marks else run ∷ runs_behind mark marks

  -- the lines of a file, where text lines that follow one another are one
  abbrev pub runs : List Mark → List Mark
  runs [] = []
  runs (mark ∷ marks) = runs_behind mark marks
