use Rattle.std.proofs.Common.{◌≡◌, ◌≤◌, ◌++◌, ◌∷◌, [], ℕ, List, refl, length, sym, subst, ap, ◌∙◌, append-nil, append_assoc, arith}
use Rattle.cl_tree.specs.Sets.{has}
use Rattle.cl_parse.specs.Items.{ItemTiles}
use Rattle.cl_parse.specs.code.Marks.{AreMarks}
use Rattle.cl_parse.specs.code.Reading.{before}
use Rattle.cl_parse.specs.declared.item.Item.{Item}
use Rattle.cl_parse.proofs.Read.{before_length, starts_reads}
use Rattle.cl_parse.proofs.parse.tiles.Goals as goal

pub loop-reading-init : goal.loop-reading-init
loop-reading-init c =
    let marks = subst (λ (ps : List ℕ). AreMarks c.args.tokens.now ps c.new-2.result) c.as_slice.ensures.value c.new-2.ensures.marks in
    record {
      reads = starts_reads c.args.tokens.now c.args.pairs.now (record { names = c.args.typedefs; ahead = c.new.result; at = 0; marks = c.new-2.result; places = c.new-3.result }) c.new.ensures.items refl c.new-3.ensures c.new-2.ensures.from marks;
      dead = λ less. absurd (omega (arith, less));
      tiles = λ rest t. rw c.new-items.ensures t;
    }

pub loop-reading-preserved : goal.loop-reading-preserved
loop-reading-preserved c =
    let item = c.in_ok-next.next.item in
    let made = c.in_ok-push.ensures.ok in
    record {
      reads = c.in_ok-next.ensures.reads;
      dead = c.in_ok-next.ensures.dead;
      tiles = λ rest t.
          subst (ItemTiles c.args.tokens.now c.args.pairs.now (has c.args.typedefs) []) (sym (ap (λ (xs : List Item). xs ++ rest) made ∙ append_assoc c.loop-reading.items (item ∷ []) rest))
          (c.loop-reading.invariant.tiles (item ∷ rest) (c.in_ok-next.ensures.tiles rest t));
    }

pub returns : goal.returns
returns c =
    let reads = c.loop-reading.invariant.reads in
    let size : length (before c.loop-reading.reading) ≡ c.loop-reading.reading.at = before_length c.args.tokens.now c.args.pairs.now c.loop-reading.reading reads in
    let within : c.loop-reading.reading.at ≤ length c.loop-reading.reading.ahead.items = reads.within in
    let short : length c.loop-reading.reading.ahead.items ≤ length c.args.tokens.now = reads.short in
    let end : length c.args.tokens.now ≤ c.loop-reading.reading.at = c.loop-reading-test.false in
    subst (ItemTiles c.args.tokens.now c.args.pairs.now (has c.args.typedefs) []) (append-nil c.loop-reading.items) (c.loop-reading.invariant.tiles [] (omega arith))
