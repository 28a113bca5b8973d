-- The order of diagnostics is total, and tells all of them apart.
use Rattle.std.proofs.Common.{◌≡◌, ℕ, List, Option, Some, None, Ordering, Less, Equal, Greater, refl, ap}
use Rattle.std.proofs.lemmas.Cmp.{nat_cmp_total, nat_list_cmp_total, on_total, then_total}
use Rattle.std.proofs.lemmas.Map.Lookups.{CmpEqualImpliesEq, exact_bytes, exact_unsigned}
use Rattle.std.specs.Cmp.{IsTotalOrder}
use Rattle.std.specs.Cmp.Lexicographic.{options_total, slice_cmp}
use Rattle.std.specs.Option.{option_cmp}
use Rattle.std.specs.Ordering.{nat_cmp, ordering_then}
use Rattle.cl_base.specs.declared.token.Diag.{Diag}
use Rattle.cl_diag.specs.declared.rank.Rank.{Rank}
use Rattle.cl_diag.specs.Order.{diag_cmp}
use Rattle.cl_diag.specs.code.Ranks.{rank_cmp}

pub rank_total : IsTotalOrder rank_cmp
rank_total =
    then_total (on_total (λ (r : Rank). r.file) nat_cmp_total)
    (then_total (on_total (λ (r : Rank). r.from) nat_cmp_total)
    (then_total (on_total (λ (r : Rank). r.number) nat_cmp_total)
    (then_total (on_total (λ (r : Rank). r.to) nat_cmp_total) (on_total (λ (r : Rank). r.name) (options_total nat_list_cmp_total)))))

pub diag_total : IsTotalOrder diag_cmp
diag_total =
    then_total (on_total (λ (d : Diag). d.at.file) nat_cmp_total)
    (then_total (on_total (λ (d : Diag). d.at.from) nat_cmp_total)
    (then_total (on_total (λ (d : Diag). d.number) nat_cmp_total)
    (then_total (on_total (λ (d : Diag). d.at.to) nat_cmp_total) (on_total (λ (d : Diag). d.name) (options_total nat_list_cmp_total)))))

then_parts : (x y : Ordering) → ordering_then x y ≡ Equal → (x ≡ Equal) × (y ≡ Equal)
then_parts Less y e = absurd (cc)
then_parts Equal y e = (refl, e)
then_parts Greater y e = absurd (cc)

exact_name : (p q : Option (List ℕ)) → option_cmp (slice_cmp nat_cmp) p q ≡ Equal → p ≡ q
exact_name None None e = refl
exact_name None (Some y) e = absurd (cc)
exact_name (Some x) None e = absurd (cc)
exact_name (Some x) (Some y) e = ap Some (exact_bytes x y e)

pub exact_diag : CmpEqualImpliesEq diag_cmp
exact_diag a b h =
    let p = then_parts (nat_cmp a.at.file b.at.file) _ h in
    let q = then_parts (nat_cmp a.at.from b.at.from) _ p.1 in
    let r = then_parts (nat_cmp a.number b.number) _ q.1 in
    let s = then_parts (nat_cmp a.at.to b.at.to) _ r.1 in
    let file : a.at.file ≡ b.at.file = exact_unsigned a.at.file b.at.file p.0 in
    let from : a.at.from ≡ b.at.from = exact_unsigned a.at.from b.at.from q.0 in
    let number : a.number ≡ b.number = exact_unsigned a.number b.number r.0 in
    let to : a.at.to ≡ b.at.to = exact_unsigned a.at.to b.at.to s.0 in
    let name : a.name ≡ b.name = exact_name a.name b.name s.1 in
    λ i. record { number = number i; at = record { file = file i; from = from i; to = to i }; name = name i }
