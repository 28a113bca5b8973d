-- Every file has a list of items.
use Rattle.std.proofs.Common.{◌≡◌, ◌⊎◌, ℕ, zero, suc, ◌+◌, ◌<◌, ◌≤◌, Bool, true, false, List, [], ◌∷◌, inl, inr, ⊎_elim, refl, sym, ◌∙◌, subst, arith, length}
use Rattle.std.proofs.lemmas.Bool.{cases_lt, and_parts}
use Rattle.std.specs.Prelude.{◌||◌, ◌&&◌, not}
use Rattle.cl_base.specs.declared.token.PpToken.{PpToken}
use Rattle.cl_tree.specs.Brackets.{bad_extent, brackets}
use Rattle.cl_tree.specs.Derives.{External, end}
use Rattle.cl_tree.specs.Lexemes.{lexemes_to}
use Rattle.cl_tree.specs.Scopes.{empty}
use Rattle.cl_tree.specs.declared.lexeme.Lexeme.{Lexeme}
use Rattle.cl_tree.specs.declared.scope.Scope.{Scope}
use Rattle.cl_tree.specs.declared.tree.Tree.{Tree}
use Rattle.cl_parse.specs.declared.item.Item.{Item}
use Rattle.cl_parse.specs.declared.item.Item.TheVariants.{Proper, Bad}
use Rattle.cl_parse.specs.Extents.{AtDepth, Extent, Stops, past, past_stop, begins_body, is_equal, is_semicolon}
use Rattle.cl_parse.specs.Items.{IsProper, ItemTiles, ItemsOf, Names, learned}
use Rattle.cl_parse.proofs.BadEnds.{bad_bounds, bad_end}
use Rattle.cl_parse.proofs.Bounds.{extent_bounds}
use Rattle.cl_parse.proofs.Depths.{NoStop, Signs, goes_past, more_signs, more_stop, no_signs, no_stop, past_more}
use Rattle.cl_parse.proofs.Lexed.{to_length}
use Rattle.cl_parse.proofs.OneExtent.{one_extent}

-- an item that begins with a token has an extent
module _ (tokens : List PpToken) (pairs : List ℕ) (from : ℕ) where
  record Last : Type 0 where
    at : ℕ
    within : at ≤ length tokens
    stops : at < length tokens → Stops tokens pairs from at
    first : NoStop tokens pairs from at

  abbrev Walk : ℕ → Type 0
  Walk n = (at : ℕ) (equal : Bool) → length tokens ≤ n + at → AtDepth pairs from at → Signs tokens pairs from at equal → NoStop tokens pairs from at → Last

  past_end : (at : ℕ) → length tokens ≤ at → NoStop tokens pairs from at → Last
  past_end at l none = record { at = length tokens; within = omega arith; stops = λ k. absurd (omega arith); first = λ i k. none i (omega arith) }

  here : (at : ℕ) → at < length tokens → Stops tokens pairs from at → NoStop tokens pairs from at → Last
  here at l stops none = record { at = at; within = omega arith; stops = λ k. stops; first = none }

  not_equal : (b : Bool) → not b ≡ true → b ≡ false
  not_equal true e = sym e
  not_equal false e = refl

  body : (n : ℕ) → Walk n → (at : ℕ) (equal : Bool) → length tokens ≤ suc n + at → at < length tokens → AtDepth pairs from at → Signs tokens pairs from at equal → NoStop tokens pairs from at
      → is_semicolon tokens at ≡ false → (b : Bool) → (begins_body tokens pairs at && not equal) ≡ b → Last
  body n walk at equal m l d signs none plain true e =
      let both = and_parts (begins_body tokens pairs at) (not equal) e in
      here at l (d, inr (both.0, signs.none (not_equal equal both.1))) none
  body n walk at equal m l d signs none plain false e =
      let further : at < past pairs at = past_more pairs at in
      walk (past pairs at) (equal || is_equal tokens at) (omega arith) (goes_past pairs from at d) (more_signs tokens pairs from at equal (is_equal tokens at) d refl signs)
      (more_stop tokens pairs from at equal d plain e signs none)

  semicolon : (n : ℕ) → Walk n → (at : ℕ) (equal : Bool) → length tokens ≤ suc n + at → at < length tokens → AtDepth pairs from at → Signs tokens pairs from at equal → NoStop tokens pairs from at
      → (b : Bool) → is_semicolon tokens at ≡ b → Last
  semicolon n walk at equal m l d signs none true e = here at l (d, inl e) none
  semicolon n walk at equal m l d signs none false e = body n walk at equal m l d signs none e (begins_body tokens pairs at && not equal) refl

  walk : (n : ℕ) → Walk n
  walk zero at equal m d signs none = past_end at (omega arith) none
  walk (suc n) at equal m d signs none =
      ⊎_elim (λ (l : at < length tokens). semicolon n (walk n) at equal m l d signs none (is_semicolon tokens at) refl) (λ (l : length tokens ≤ at). past_end at l none) (cases_lt at (length tokens))

  pub some_extent : (to : ℕ) × Extent tokens pairs from to
  some_extent =
      let l = walk (length tokens) from false (omega arith) (0, refl) (no_signs tokens pairs from) (no_stop tokens pairs from) in
      (past_stop tokens pairs l.at, record { last = l.at; within = l.within; stops = l.stops; first = l.first; end = refl })

external_end : (ts : List Lexeme) (s : Scope) (at : ℕ) (t : Tree) (w : Scope) → External ts s at t w → end t ≡ length ts
external_end ts s at t w (inl d) = d.to
external_end ts s at t w (inr d) = d.to

-- an external declaration derives on all of the tokens from one on, or none does
abbrev pub Known : List Lexeme → Scope → ℕ → Type 0
Known ts s at = ((t : Tree) × (w : Scope) × External ts s at t w) ⊎ ((t : Tree) (w : Scope) → External ts s at t w → ⊥)

module _ (known : (ts : List Lexeme) (s : Scope) (at : ℕ) → Known ts s at) (tokens : List PpToken) (pairs : List ℕ) where
  abbrev Tiled : Names → List Lexeme → Type 0
  Tiled names read = (items : List Item) × ItemTiles tokens pairs names read items

  -- so it is from what was read on, with so many tokens left
  abbrev Behind : ℕ → Type 0
  Behind n = (names : Names) (read : List Lexeme) → length tokens ≤ n + length read → length read ≤ length tokens → Tiled names read

  module _ (n : ℕ) (behind : Behind n) (names : Names) (read : List Lexeme) (m : length tokens ≤ suc n + length read) (l : length read < length tokens) where
    proper : (t : Tree) (v : Scope) → IsProper tokens pairs names read t v → Tiled names read
    proper t v p =
        let b = extent_bounds tokens pairs (length read) (end t) l p.extent in
        let x : length read < end t = b.more in
        let y : end t ≤ length tokens = b.within in
        let next = lexemes_to names pairs tokens read (end t) in
        let z : length next ≡ end t = to_length names pairs tokens read (end t) (omega arith) y in
        let rest = behind (learned names next v) next (omega arith) (omega arith) in
        (Proper t ∷ rest.0, (l, v, p, rest.1))

    bad : ((t : Tree) (v : Scope) → IsProper tokens pairs names read t v → ⊥) → Tiled names read
    bad none =
        let to = bad_extent tokens pairs (length read) (length tokens) in
        let b = bad_bounds tokens pairs (length read) (length tokens) to l (bad_end tokens pairs (length read) (length tokens)) in
        let x : length read < to = b.more in
        let y : to ≤ length tokens = b.within in
        let next = lexemes_to names pairs tokens read to in
        let z : length next ≡ to = to_length names pairs tokens read to (omega arith) y in
        let rest = behind names next (omega arith) (omega arith) in
        (Bad (length read) to ∷ rest.0, (l, record { starts = refl; ends = refl; none = none }, rest.1))

    settled : (to : ℕ) → Extent tokens pairs (length read) to → Known (lexemes_to names pairs tokens read to) empty (length read) → Tiled names read
    settled to extent (inl d) =
        let b = extent_bounds tokens pairs (length read) to l extent in
        let x : length read < to = b.more in
        let z : length (lexemes_to names pairs tokens read to) ≡ to = to_length names pairs tokens read to (omega arith) b.within in
        let e : end d.0 ≡ to = external_end (lexemes_to names pairs tokens read to) empty (length read) d.0 d.1 d.2 ∙ z in
        proper d.0 d.1 (record {
          extent = subst (λ (i : ℕ). Extent tokens pairs (length read) i) (sym e) extent;
          derives = subst (λ (i : ℕ). External (lexemes_to names pairs tokens read i) empty (length read) d.0 d.1) (sym e) d.2;
        })
    settled to extent (inr none) = bad (λ t v p. (
        let e : end t ≡ to = one_extent tokens pairs (length read) (end t) to p.extent extent in
        none t v (subst (λ (i : ℕ). External (lexemes_to names pairs tokens read i) empty (length read) t v) e p.derives)))

    more : Tiled names read
    more = (let e = some_extent tokens pairs (length read) in settled e.0 e.1 (known (lexemes_to names pairs tokens read e.0) empty (length read)))

  some_tiles : (n : ℕ) → Behind n
  some_tiles zero names read m w = ([], omega arith)
  some_tiles (suc n) names read m w = ⊎_elim (λ (l : length read < length tokens). more n (some_tiles n) names read m l) (λ (l : length tokens ≤ length read). ([], omega arith)) (cases_lt (length read) (length tokens))

pub some_items : ((ts : List Lexeme) (s : Scope) (at : ℕ) → Known ts s at) → (names : Names) (tokens : List PpToken) → (items : List Item) × ItemsOf names tokens items
some_items known names tokens = some_tiles known tokens (brackets tokens) (length tokens) names [] (omega arith) (omega arith)
