-- The tokens of a text lie one after the other.
use Rattle.std.proofs.Common.{◌≡◌, ℕ, ◌<◌, ◌≤◌, ◌+◌, ◌-◌, List, [], ◌∷◌, length, ⊎_elim, subst, sym, ap, arith, Bool, true, false, suc, refl}
use Rattle.std.specs.Prelude.{slice_index_or, ◌++◌}
use Rattle.std.proofs.lemmas.Bool.{cases_lt}
use Rattle.cl_lex.specs.declared.item.Item.{Item}
use Rattle.cl_lex.specs.declared.item.ItemKind.{ItemKind}
use Rattle.cl_lex.specs.declared.item.ItemKind.TheVariants as item
use Rattle.cl_base.specs.declared.token.Lexed.{Lexed}
use Rattle.cl_lex.specs.Source.{Character, characters, values}
use Rattle.cl_lex.specs.Items.{Tiles}
use Rattle.cl_lex.specs.Lexing.{begins, ends, nothing, tokens_of, tokens_by, space_after, first_after, Lexes}
use Rattle.cl_lex.specs.Order.{AreInOrder}
use Rattle.cl_lex.proofs.Characters.{lies, in_order}

values_length : (cs : List Character) → length (values cs) ≡ length cs
values_length [] = refl
values_length (c ∷ cs) = ap suc (values_length cs)

-- nothing before a place goes past the character there
record Fits (text : List ℕ) (p at : ℕ) : Type 0 where
  within : p ≤ length text
  before : at < length (characters text) → p ≤ begins (characters text) at

-- a stretch of characters begins before it ends
some : (text : List ℕ) (at to : ℕ) → at < to → to ≤ length (characters text) → begins (characters text) at < ends (characters text) to
some text at to l m = ⊎_elim
    (λ (k : at + 1 < to).
    let a = lies text at (omega arith) in
    let b = lies text (to - 1) (omega arith) in
    let o = in_order text at (to - 1) (omega arith) (omega arith) in
    omega (arith, a.some, b.some, o))
    (λ (k : to ≤ at + 1).
    let e : to - 1 ≡ at = omega arith in
    let a = lies text at (omega arith) in
    subst (λ (n : ℕ). begins (characters text) at < (slice_index_or (characters text) n nothing).to) (sym e) a.some)
    (cases_lt (at + 1) to)

fits_end : (text : List ℕ) (at to : ℕ) → at < to → to ≤ length (characters text) → Fits text (ends (characters text) to) to
fits_end text at to l m = record {
  within = let b = lies text (to - 1) (omega arith) in b.within;
  before = λ k. in_order text (to - 1) to (omega arith) k;
}

fits_on : (text : List ℕ) (p at to : ℕ) → at < to → to ≤ length (characters text) → Fits text p at → Fits text p to
fits_on text p at to l m h = record {
  within = h.within;
  before = λ k.
      let a = lies text at (omega arith) in
      let o = in_order text at to (omega arith) (omega arith) in
      let b = h.before (omega arith) in
      omega (arith, a.some, o, b);
}

-- the rest of the items, from any byte that fits
abbrev Rest : List ℕ → ℕ → List Item → Type 0
Rest text to items = (q : ℕ) (space first : Bool) → Fits text q to → AreInOrder q (length text) (tokens_of (characters text) space first items)

by_kind : (text : List ℕ) (kind : ItemKind) (it : Item) (p : ℕ) (space first : Bool) (items : List Item) → it.from < it.to → it.to ≤ length (characters text)
    → Fits text p it.from → Rest text it.to items
    → AreInOrder p (length text) (tokens_by (characters text) kind it space first ++ tokens_of (characters text) (space_after kind) (first_after kind first) items)
by_kind text (item.Token k) it p space first items l m h more =
    (h.before (omega arith), some text it.from it.to l m, more (ends (characters text) it.to) false false (fits_end text it.from it.to l m))
by_kind text item.Comment it p space first items l m h more = more p true first (fits_on text p it.from it.to l m h)
by_kind text item.OpenComment it p space first items l m h more = more p true first (fits_on text p it.from it.to l m h)
by_kind text item.Space it p space first items l m h more = more p true first (fits_on text p it.from it.to l m h)
by_kind text item.NewLine it p space first items l m h more = more p true true (fits_on text p it.from it.to l m h)

order : (text : List ℕ) (before : List Item) (at : ℕ) (items : List Item) → Tiles (values (characters text)) before at items → Rest text at items
order text before at [] tiles p space first h = h.within
order text before at (it ∷ items) tiles p space first h =
    by_kind text it.kind it p space first items
    (subst (λ (n : ℕ). n < it.to) (sym tiles.0) tiles.1)
    (subst (λ (n : ℕ). it.to ≤ n) (values_length (characters text)) tiles.2)
    (subst (λ (n : ℕ). Fits text p n) (sym tiles.0) h)
    (order text (it ∷ before) it.to items tiles.4)

pub lexed_order : (text : List ℕ) (lexed : Lexed) → Lexes text lexed → AreInOrder 0 (length text) lexed.tokens
lexed_order text lexed h =
    subst (AreInOrder 0 (length text)) (sym h.tokens)
    (order text [] 0 h.items h.tiles 0 false true (record { within = omega arith; before = λ l. omega arith }))
