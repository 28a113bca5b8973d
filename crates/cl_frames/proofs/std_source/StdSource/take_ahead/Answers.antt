use Rattle.std.proofs.Common.{◌≡◌, ◌+◌, ◌≤◌, ◌++◌, ◌∙◌, ℕ, List, sym, ap, take, arith}
use Rattle.std.specs.Prelude.{slice_range}
use Rattle.std.proofs.lemmas.Grind.{common_steps}
use Rattle.cl_frames.proofs.Handed.{handed, range_front}
use Rattle.cl_frames.proofs.std_source.StdSource.take_ahead.Goals as goal

pub returns-clause-front : goal.returns-clause-front
returns-clause-front g c =
    let s = c.args.self.now in
    let n : ℕ = c.min-count.result in
    let all : List ℕ = s.buffer.items in
    let bytes : slice_range c.as_slice.result.now s.at s.end ≡ slice_range all s.at s.end = ap (λ (w : List ℕ). slice_range w s.at s.end) c.as_slice.ensures.value in
    let room : s.at + n ≤ s.end = grind (arith, common_steps) in
    handed (g.R.Read.remaining s.inner) (slice_range all s.at s.end) (take n c.copy_front.new.buf) (slice_range all (s.at + n) s.end)
    (range_front all s.at s.end n room ∙ ap (λ (w : List ℕ). w ++ slice_range all (s.at + n) s.end) (sym (c.copy_front.ensures ∙ ap (take n) bytes)))
