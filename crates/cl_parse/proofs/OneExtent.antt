-- An external item has one extent.
use Rattle.std.proofs.Common.{◌≡◌, ℕ, ◌<◌, ◌≤◌, List, ⊎_elim, sym, ◌∙◌, ap, arith, length}
use Rattle.std.proofs.lemmas.Bool.{cases_order}
use Rattle.cl_base.specs.declared.token.PpToken.{PpToken}
use Rattle.cl_parse.specs.Extents.{Extent, past_stop}

earlier : (tokens : List PpToken) (pairs : List ℕ) (from x y : ℕ) (a : Extent tokens pairs from x) (b : Extent tokens pairs from y) → a.last < b.last → ⊥
earlier tokens pairs from x y a b l =
    let w : b.last ≤ length tokens = b.within in
    b.first a.last l (a.stops (omega arith))

pub one_last : (tokens : List PpToken) (pairs : List ℕ) (from x y : ℕ) (a : Extent tokens pairs from x) (b : Extent tokens pairs from y) → a.last ≡ b.last
one_last tokens pairs from x y a b =
    ⊎_elim (λ e. e) (⊎_elim (λ l. absurd (earlier tokens pairs from x y a b l)) (λ l. absurd (earlier tokens pairs from y x b a l))) (cases_order a.last b.last)

pub one_extent : (tokens : List PpToken) (pairs : List ℕ) (from x y : ℕ) → Extent tokens pairs from x → Extent tokens pairs from y → x ≡ y
one_extent tokens pairs from x y a b = a.end ∙ ap (past_stop tokens pairs) (one_last tokens pairs from x y a b) ∙ sym b.end
