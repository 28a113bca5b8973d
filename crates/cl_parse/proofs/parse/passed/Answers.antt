use Rattle.std.proofs.Common.{◌<◌, ◌≤◌, ℕ, List, sym, subst, length, take}
use Rattle.cl_tree.specs.Brackets.{bad_extent}
use Rattle.cl_tree.specs.Derives.{External}
use Rattle.cl_tree.specs.Scopes.{empty}
use Rattle.cl_tree.specs.Sets.{has}
use Rattle.cl_tree.specs.declared.lexeme.Lexeme.{Lexeme}
use Rattle.cl_tree.specs.declared.set.NameSet.{NameSet}
use Rattle.cl_parse.specs.Extents.{Extent}
use Rattle.cl_parse.specs.Items.{IsProper}
use Rattle.cl_parse.specs.code.Reading.{IsNext, before}
use Rattle.cl_parse.proofs.BadEnds.{bad_bounds, bad_end}
use Rattle.cl_parse.proofs.Read.{next_of, proper_of}
use Rattle.cl_parse.proofs.parse.passed.Goals as goal

pub extended-requires-clause-within : goal.extended-requires-clause-within
extended-requires-clause-within c =
    let tokens = c.args.tokens.now in
    let pairs = c.args.pairs.now in
    let from = c.args.reading.at in
    subst (λ (n : ℕ). n ≤ length tokens) (sym c.bad_extent-past.ensures)
    (bad_bounds tokens pairs from (length tokens) (bad_extent tokens pairs from (length tokens)) c.requires.some (bad_end tokens pairs from (length tokens))).within

pub bad-requires-clause-dead : goal.bad-requires-clause-dead
bad-requires-clause-dead c = λ less. (
    let tokens = c.args.tokens.now in
    let pairs = c.as_slice-partners.result.now in
    let read = c.in_ok-read.read in
    let to = c.args.to in
    let at = sym c.in_ok-read.ensures.at in
    let e = c.in_ok-dead.ensures less in
    let extent : Extent tokens pairs read.at to
    = subst (λ (ps : List ℕ). Extent tokens ps read.at to) (sym c.as_slice-partners.ensures.value) (subst (λ (n : ℕ). Extent tokens c.args.pairs.now n to) at c.requires.extent) in (
      e.1,
      λ t w x. (
          let u = e.2 t w x in
          let y : External (take to read.ahead.items) empty read.at u.0 w = subst (λ (n : ℕ). External (take n read.ahead.items) empty read.at u.0 w) e.0 u.1 in
          let p = proper_of tokens pairs read to u.0 w c.in_ok-read.ensures.reads (subst (λ (n : ℕ). n < to) at c.requires.more) (subst (λ (n : ℕ). n ≤ length read.ahead.items) e.0 e.1) extent y in
          let q : IsProper tokens c.args.pairs.now (has read.names) (before read) u.0 w = subst (λ (ps : List ℕ). IsProper tokens ps (has read.names) (before read) u.0 w) c.as_slice-partners.ensures.value p in
          c.requires.none u.0 w (subst (λ (r : List Lexeme). IsProper tokens c.args.pairs.now (has c.args.reading.names) r u.0 w) c.in_ok-read.ensures.before
          (subst (λ (s : NameSet). IsProper tokens c.args.pairs.now (has s) (before read) u.0 w) c.in_ok-read.ensures.names q))),
    ))

pub returns : goal.returns
returns c =
    subst (λ (ps : List ℕ). IsNext c.args.tokens.now ps c.args.reading c.bad.result) c.as_slice-partners.ensures.value
    (next_of c.args.tokens.now c.as_slice-partners.result.now c.args.reading c.in_ok-read.read c.bad_extent-past.result c.bad.result c.in_ok-read.ensures c.bad.ensures)
