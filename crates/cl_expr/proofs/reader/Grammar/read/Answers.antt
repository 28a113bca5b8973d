use Rattle.std.proofs.Common.{ℕ, sym, subst, arith}
use Rattle.std.specs.Prelude.{None}
use Rattle.cl_tree.specs.declared.nonterminal.Nonterminal.TheVariants as nt
use Rattle.cl_expr.specs.code.Parses.{Builds, Ends, Parses}
use Rattle.cl_expr.proofs.Reading.{reading_start, reading_stuck, reading_on, reading_builds, reading_some}
use Rattle.cl_expr.proofs.Climb.{ok_map}
use Rattle.cl_expr.proofs.Failed.{part_bad}
use Rattle.cl_expr.proofs.reader.Grammar.read.Goals as goal

pub loop-edge-init : goal.loop-edge-init
loop-edge-init g c = record {
  reading = reading_start c.args.self.now.tokens.now c.args.self.now.depth c.args.before.now c.args.inner c.args.start c.args.first c.args.from c.args.mid c.args.least c.requires.half;
  failed = λ less. absurd (omega (arith, less));
}

pub returns-in_default-2 : goal.returns-in_default-2
returns-in_default-2 g c =
    let s = c.in-Some.ensures.some in
    reading_stuck c.args.self.now.tokens.now c.args.self.now.depth c.args.before.now c.args.inner c.args.start c.args.first c.args.from c.args.mid c.loop-edge.scope c.loop-edge.place c.loop-edge.parts c.loop-edge.to c.loop-edge.height c.loop-edge.invariant.reading
    c.in-Some.edge s.1.0 s.0 s.1.1 s.1.2 (λ b lost. s.1.3 b lost.0) (rw c.in_default-2.is at c.in_ok-part.ensures)

pub loop-edge-smaller : goal.loop-edge-smaller
loop-edge-smaller g c = let p = (rw c.in-Some-2.is at c.in_ok-part.ensures) in let f = p.found in omega (arith, f.grows, f.within)

pub loop-edge-preserved : goal.loop-edge-preserved
loop-edge-preserved g c =
    let s = c.in-Some.ensures.some in
    let p = (rw c.in-Some-2.is at c.in_ok-part.ensures) in
    record {
      reading = rw c.in_ok-push.ensures.ok
          (reading_on c.args.self.now.tokens.now c.args.self.now.depth c.args.before.now c.args.inner c.args.start c.args.first c.args.from c.args.mid c.loop-edge.scope c.loop-edge.place c.loop-edge.parts c.loop-edge.to c.loop-edge.height c.loop-edge.invariant.reading
          c.in-Some.edge s.1.0 s.0 s.1.1 s.1.2 (λ b lost. s.1.3 b lost.0) c.in-Some-2.part p c.turn-place.result c.turn-place.ensures c.larger-height.result c.larger-height.ensures);
      failed = λ less. (
          let b = c.failed_at-failed.ensures less in
          let f = p.found in
          subst (λ (n : ℕ). Parses c.args.self.now.tokens.now c.args.self.now.depth c.in-Some-2.part.scope nt.BlockItem n None) (sym b.1)
          (part_bad c.args.self.now.tokens.now c.args.self.now.depth c.in-Some.edge.before c.in-Some.edge.symbol c.in-Some-2.part.place c.loop-edge.scope c.loop-edge.to c.in-Some-2.part.tree c.in-Some-2.part.scope f.reads b.0));
    }

pub ending-requires-clause-half : goal.ending-requires-clause-half
ending-requires-clause-half g c = c.loop-edge.invariant.reading.half

pub ending-requires-clause-some : goal.ending-requires-clause-some
ending-requires-clause-some g c = λ l named. reading_some c.args.self.now.tokens.now c.args.self.now.depth c.args.before.now c.args.inner c.args.start c.args.first c.args.from c.args.mid c.loop-edge.scope c.loop-edge.place c.loop-edge.parts c.loop-edge.to c.loop-edge.height c.loop-edge.invariant.reading c.requires.unnamed l named

pub ending-requires-clause-over : goal.ending-requires-clause-over
ending-requires-clause-over g c = λ k token enters. c.edge.ensures.none c.in_default.is k token enters

pub returns : goal.returns
returns g c =
    ok_map (Ends c.args.self.now.tokens.now c.args.self.now.depth c.args.before.now c.loop-edge.scope c.loop-edge.place c.loop-edge.parts c.args.from c.loop-edge.to)
    (Builds c.args.self.now.tokens.now c.args.self.now.depth c.args.before.now c.args.inner c.args.start c.args.first c.args.from c.args.mid) c.ending.result
    (λ r e. reading_builds c.args.self.now.tokens.now c.args.self.now.depth c.args.before.now c.args.inner c.args.start c.args.first c.args.from c.args.mid c.loop-edge.scope c.loop-edge.place c.loop-edge.parts c.loop-edge.to c.loop-edge.height c.loop-edge.invariant.reading c.requires.unnamed r e) c.ending.ensures
