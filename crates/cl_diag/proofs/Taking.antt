-- Diagnostics are taken into a set one after the other, and come out in order.
use Rattle.std.proofs.Common.{◌≡◌, List, [], ◌∷◌, ◌++◌, Bool, true, false, ◌||◌, Less, map, refl, sym, ap, ◌∙◌}
use Rattle.std.proofs.Math.Bool.{cond}
use Rattle.std.proofs.lemmas.Cmp.{eq_by_cmp_equiv}
use Rattle.std.proofs.lemmas.List.Folds.{list_any-append}
use Rattle.std.specs.List.{AllByRecursion, list_any}
use Rattle.std.specs.List.Sorted.{IsStrictlySortedBy}
use Rattle.std.specs.BTreeMap.{is_at}
use Rattle.std.specs.BTreeSet.{BTreeSet, IsOrdered, Updates, contains}
use Rattle.std.specs.Ordering.{is_eq}
use Rattle.cl_base.specs.declared.token.Diag.{Diag}
use Rattle.cl_diag.specs.declared.rank.Rank.{Rank}
use Rattle.cl_diag.specs.Order.{IsInOrder, diag_cmp, has}
use Rattle.cl_diag.specs.code.Ranks.{Taken, diag_of, rank_cmp, rank_of}
use Rattle.cl_diag.proofs.Ordering.{rank_total}

pub taken_none : (diags : List Diag) (set : BTreeSet Rank) → IsOrdered rank_cmp set → set.keys ≡ [] → Taken diags diags set
taken_none diags set o e = record { ordered = o; same = λ d. ap (λ (ks : List Rank). list_any (is_at (rank_cmp (rank_of d))) ks || has diags d) e }

turned : (b x y : Bool) → (cond b true x || y) ≡ (x || (y || (b || false)))
turned true true y = refl
turned true false true = refl
turned true false false = refl
turned false true y = refl
turned false false true = refl
turned false false false = refl

pub taken_more : (diags left rest : List Diag) (one : Diag) (old new : BTreeSet Rank) → Taken diags left old → left ≡ rest ++ one ∷ []
    → Updates rank_cmp old new (rank_of one) true → IsOrdered rank_cmp new → Taken diags rest new
taken_more diags left rest one old new t e u o = record {
  ordered = o;
  same = λ d.
      let meets : is_eq (rank_cmp (rank_of one) (rank_of d)) ≡ is_eq (diag_cmp d one) = (eq_by_cmp_equiv rank_total).symm (rank_of one) (rank_of d) in
      let now : contains rank_cmp new (rank_of d) ≡ cond (is_eq (diag_cmp d one)) true (contains rank_cmp old (rank_of d)) = u.0 (rank_of d) ∙ ap (λ (b : Bool). cond b true (contains rank_cmp old (rank_of d))) meets in
      let whole : has left d ≡ (has rest d || (is_eq (diag_cmp d one) || false)) = ap (λ (xs : List Diag). has xs d) e ∙ list_any-append (λ (other : Diag). is_eq (diag_cmp d other)) rest (one ∷ []) in
      ap (λ (b : Bool). b || has rest d) now
      ∙ turned (is_eq (diag_cmp d one)) (contains rank_cmp old (rank_of d)) (has rest d)
      ∙ ap (λ (b : Bool). contains rank_cmp old (rank_of d) || b) (sym whole)
      ∙ t.same d;
}

all_less : (k : Rank) (ks : List Rank) → AllByRecursion (λ (y : Rank). rank_cmp k y ≡ Less) ks → AllByRecursion (λ (y : Diag). diag_cmp (diag_of k) y ≡ Less) (map diag_of ks)
all_less k [] h = tt
all_less k (x ∷ ks) h = (h.0, all_less k ks h.1)

rising : (ks : List Rank) → IsStrictlySortedBy rank_cmp ks → IsStrictlySortedBy diag_cmp (map diag_of ks)
unfolding IsStrictlySortedBy
rising [] h = tt
rising (k ∷ ks) h = (all_less k ks h.0, rising ks h.1)

has_keys : (d : Diag) (ks : List Rank) → has (map diag_of ks) d ≡ list_any (is_at (rank_cmp (rank_of d))) ks
has_keys d [] = refl
has_keys d (k ∷ ks) = ap (λ (b : Bool). is_eq (rank_cmp (rank_of d) k) || b) (has_keys d ks)

or_false : (b : Bool) → b ≡ (b || false)
or_false true = refl
or_false false = refl

pub in_order : (diags : List Diag) (set : BTreeSet Rank) → Taken diags [] set → IsInOrder diags (map diag_of set.keys)
in_order diags set t = record {
  rising = rising set.keys t.ordered;
  same = λ d. has_keys d set.keys ∙ or_false (contains rank_cmp set (rank_of d)) ∙ t.same d;
}
