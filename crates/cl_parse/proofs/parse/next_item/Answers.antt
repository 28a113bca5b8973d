use Rattle.std.proofs.Common.{◌≡◌, ◌<◌, ◌≤◌, length, take, ℕ, List, Option, Some, None, sym, subst, ap, ◌∙◌}
use Rattle.std.proofs.lemmas.Bool.{false≢true}
use Rattle.std.specs.Prelude.{IfSome, is_some}
use Rattle.cl_expr.specs.declared.expression.Parsed.{Parsed}
use Rattle.cl_tree.specs.Derives.{External}
use Rattle.cl_tree.specs.Scopes.{empty}
use Rattle.cl_tree.specs.Sets.{has}
use Rattle.cl_parse.specs.Extents.{Extent}
use Rattle.cl_parse.specs.Items.{IsProper}
use Rattle.cl_parse.specs.code.Reading.{IsExtended, IsNext, Reads, before}
use Rattle.cl_parse.proofs.Read.{external_of, next_of, proper_of}
use Rattle.cl_parse.proofs.parse.next_item.Goals as goal

is_none : (x : Parsed) → Some x ≡ None → ⊥
is_none x e = false≢true (ap is_some (sym e))

some_found : (P : Parsed → Type 0) (o : Option Parsed) (x : Parsed) → o ≡ Some x → IfSome o P → P x
some_found P o x e h = subst (λ (v : Option Parsed). IfSome v P) e h

pub proper-requires-clause-is : goal.proper-requires-clause-is
proper-requires-clause-is c =
    let tokens = c.args.tokens.now in
    let pairs = c.as_slice-partners.result.now in
    let read = c.in_ok-read.read in
    let to = c.extent_end-to.result in
    let at = c.requires.reads.from ∙ sym c.in_ok-read.ensures.at in
    proper_of tokens pairs read to c.in-Some.parsed.tree c.in-Some.parsed.scope c.in_ok-read.ensures.reads (subst (λ (n : ℕ). n < to) at c.extent_end-to.ensures.more) c.in_ok-read.ensures.far
    (subst (λ (n : ℕ). Extent tokens pairs n to) at c.extent_end-to.ensures.extent)
    (some_found _ c.in_ok-found.found c.in-Some.parsed c.in-Some.is c.in_ok-found.ensures.found)

pub passed-requires-clause-none : goal.passed-requires-clause-none
passed-requires-clause-none c = λ t w p. (
    let tokens = c.args.tokens.now in
    let pairs = c.as_slice-partners.result.now in
    let reading = c.args.reading in
    let to = c.extent_end-to.result in
    let at = c.requires.reads.from in
    let reads : Reads tokens pairs reading = subst (λ (ps : List ℕ). Reads tokens ps reading) (sym c.as_slice-partners.ensures.value) c.requires.reads in
    let more : reading.at < to = subst (λ (n : ℕ). n < to) at c.extent_end-to.ensures.more in
    let same : to ≡ c.args.dead = c.if-to-dead.true in
    let d = c.requires.dead (subst (λ (n : ℕ). reading.at < n) same more) in
    let q : IsProper tokens pairs (has reading.names) (before reading) t w =
    subst (λ (ps : List ℕ). IsProper tokens ps (has reading.names) (before reading) t w) (sym c.as_slice-partners.ensures.value) p in
    let x = external_of tokens pairs reading to t w reads more (subst (λ (n : ℕ). n ≤ length reading.ahead.items) (sym same) d.0)
    (subst (λ (n : ℕ). Extent tokens pairs n to) at c.extent_end-to.ensures.extent) q in
    d.1 t w (subst (λ (n : ℕ). External (take n reading.ahead.items) empty reading.at t w) same x))

pub passed-requires-in-None-clause-none : goal.passed-requires-in-None-clause-none
passed-requires-in-None-clause-none c = λ t w p. (
    let tokens = c.args.tokens.now in
    let pairs = c.as_slice-partners.result.now in
    let read = c.in_ok-read.read in
    let to = c.extent_end-to.result in
    let at = c.requires.reads.from ∙ sym c.in_ok-read.ensures.at in
    let q : IsProper tokens pairs (has read.names) (before read) t w =
    subst (λ (ps : List ℕ). IsProper tokens ps (has read.names) (before read) t w) (sym c.as_slice-partners.ensures.value) p in
    let x = external_of tokens pairs read to t w c.in_ok-read.ensures.reads (subst (λ (n : ℕ). n < to) at c.extent_end-to.ensures.more) c.in_ok-read.ensures.far
    (subst (λ (n : ℕ). Extent tokens pairs n to) at c.extent_end-to.ensures.extent) q in
    is_none (record { tree = t; scope = w }) (sym (c.in_ok-found.ensures.only t w x) ∙ c.in-None.is))

pub returns-in_ok-next-in-Some : goal.returns-in_ok-next-in-Some
returns-in_ok-next-in-Some c =
    let pairs = c.as_slice-partners.result.now in
    subst (λ (ps : List ℕ). IsNext c.args.tokens.now ps c.args.reading c.in_ok-next-in-Some.next) c.as_slice-partners.ensures.value
    (next_of c.args.tokens.now pairs c.args.reading c.in_ok-read.read c.extent_end-to.result c.in_ok-next-in-Some.next c.in_ok-read.ensures c.in_ok-next-in-Some.ensures)

pub returns-in_ok-next-in-None : goal.returns-in_ok-next-in-None
returns-in_ok-next-in-None c =
    next_of c.args.tokens.now c.args.pairs.now c.args.reading c.in_ok-read.read c.extent_end-to.result c.in_ok-next-in-None.next
    (subst (λ (ps : List ℕ). IsExtended c.args.tokens.now ps c.args.reading c.extent_end-to.result c.in_ok-read.read) c.as_slice-partners.ensures.value c.in_ok-read.ensures) c.in_ok-next-in-None.ensures
