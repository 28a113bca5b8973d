-- A row of entries in order: what stands on the left of an entry, at it, and on its right.
use Rattle.std.proofs.Common.{◌≡◌, ℕ, List, [], ◌∷◌, ◌++◌, Bool, true, false, cond, refl, sym, ap, ◌∙◌, subst, nat_cmp}
use Rattle.std.proofs.lemmas.Map.Lookups.{exact_bytes}
use Rattle.std.proofs.lemmas.Cmp.{nat_list_cmp_total}
use Rattle.std.specs.Prelude.{Option, None, Some}
use Rattle.std.specs.List.{AllByRecursion}
use Rattle.std.specs.List.Sorted.{IsStrictlySortedBy}
use Rattle.std.specs.Map.{keys_of, remove_entry}
use Rattle.std.specs.Ordering.{ordering_reverse, match_ordering}
use Rattle.std.specs.declared.cmp.Ordering.{Ordering}
use Rattle.std.specs.declared.cmp.Ordering.TheVariants.{Less, Equal, Greater}
use Rattle.std.specs.Cmp.Lexicographic.{slice_cmp}
use Rattle.std.specs.BTreeMap.{is_at, insert_entry}
use Rattle.cl_base.specs.declared.headers.Known.{Known}
use Rattle.cl_headers.specs.Headers.{Headers, known_at}
use Rattle.cl_headers.specs.Maps.{InOrder}

abbrev pub Entry : Type 0
Entry = List ℕ × Known

abbrev pub order : List ℕ → List ℕ → Ordering
order = slice_cmp nat_cmp

-- a path comes so before or after each of the others
abbrev pub Stands : Ordering → List ℕ → Headers → Type 0
Stands o path entries = AllByRecursion (λ q. order path q ≡ o) (keys_of entries)

-- ---- the two sides of an entry are in order

front_all : (P : List ℕ → Type 0) (l m : Headers) → AllByRecursion P (keys_of (l ++ m)) → AllByRecursion P (keys_of l)
front_all P [] m all = tt
front_all P (d ∷ l) m all = (all.0, front_all P l m all.1)

back_all : (P : List ℕ → Type 0) (l m : Headers) → AllByRecursion P (keys_of (l ++ m)) → AllByRecursion P (keys_of m)
back_all P [] m all = all
back_all P (d ∷ l) m all = back_all P l m all.1

pub left_in_order : (l : Headers) (e : Entry) (r : Headers) → InOrder (l ++ e ∷ r) → InOrder l
unfolding IsStrictlySortedBy
left_in_order [] e r s = tt
left_in_order (d ∷ l) e r s = (front_all (λ q. order d.0 q ≡ Less) l (e ∷ r) s.0, left_in_order l e r s.1)

pub right_in_order : (l : Headers) (e : Entry) (r : Headers) → InOrder (l ++ e ∷ r) → InOrder r
unfolding IsStrictlySortedBy
right_in_order [] e r s = s.1
right_in_order (d ∷ l) e r s = right_in_order l e r s.1

-- ---- a path that comes before the entry comes before its right side; one that doesn't come before it comes after its left side

weaker : (P Q : List ℕ → Type 0) → ((q : List ℕ) → P q → Q q) → (m : Headers) → AllByRecursion P (keys_of m) → AllByRecursion Q (keys_of m)
weaker P Q f [] all = tt
weaker P Q f (d ∷ m) all = (f d.0 all.0, weaker P Q f m all.1)

later_all : (l : Headers) (e : Entry) (r : Headers) → InOrder (l ++ e ∷ r) → Stands Less e.0 r
unfolding IsStrictlySortedBy
later_all [] e r s = s.0
later_all (d ∷ l) e r s = later_all l e r s.1

earlier_all : (Q : List ℕ → Type 0) (l : Headers) (e : Entry) (r : Headers) → InOrder (l ++ e ∷ r) → ((q : List ℕ) → order q e.0 ≡ Less → Q q) → AllByRecursion Q (keys_of l)
unfolding IsStrictlySortedBy
earlier_all Q [] e r s f = tt
earlier_all Q (d ∷ l) e r s f = (f d.0 (back_all (λ q. order d.0 q ≡ Less) l (e ∷ r) s.0).0, earlier_all Q l e r s.1 f)

pub turned : (a b : List ℕ) (o : Ordering) → order a b ≡ o → order b a ≡ ordering_reverse o
turned a b o e = nat_list_cmp_total.antisymm b a ∙ ap ordering_reverse e

pub before_right : (path : List ℕ) (l : Headers) (e : Entry) (r : Headers) → InOrder (l ++ e ∷ r) → order path e.0 ≡ Less → Stands Less path (e ∷ r)
before_right path l e r s less =
    (less, weaker (λ q. order e.0 q ≡ Less) (λ q. order path q ≡ Less) (λ q later. nat_list_cmp_total.trans path e.0 q less later) r (later_all l e r s))

pub stands_before : (path : List ℕ) (e : Entry) (r : Headers) → InOrder (e ∷ r) → order path e.0 ≡ Less → Stands Less path (e ∷ r)
stands_before path e r s less = before_right path [] e r s less

pub after_left : (path : List ℕ) (l : Headers) (e : Entry) (r : Headers) → InOrder (l ++ e ∷ r) → order path e.0 ≡ Greater → Stands Greater path l
after_left path l e r s more =
    earlier_all (λ q. order path q ≡ Greater) l e r s (λ q less. turned q path Less (nat_list_cmp_total.trans q e.0 path less (turned path e.0 Greater more)))

pub at_left : (path : List ℕ) (l : Headers) (e : Entry) (r : Headers) → InOrder (l ++ e ∷ r) → order path e.0 ≡ Equal → Stands Greater path l
at_left path l e r s same =
    earlier_all (λ q. order path q ≡ Greater) l e r s (λ q less. turned q path Less (subst (λ p. order q p ≡ Less) (sym (exact_bytes path e.0 same)) less))

-- ---- what is known of a path

past_known : (path : List ℕ) (l m : Headers) → Stands Greater path l → known_at (l ++ m) path ≡ known_at m path
past_known path [] m after = refl
past_known path (d ∷ l) m after = rw (after.0) (past_known path l m after.1)

pub none_known : (path : List ℕ) (m : Headers) → Stands Less path m → known_at m path ≡ None
none_known path [] before = refl
none_known path (d ∷ m) before = rw (before.0) (none_known path m before.1)

front_known : (path : List ℕ) (l m : Headers) → known_at m path ≡ None → known_at (l ++ m) path ≡ known_at l path
front_known path [] m none = none
front_known path (d ∷ l) m none = ap (λ (rest : Option Known). cond (is_at (order path) d.0) (Some d.1) rest) (front_known path l m none)

module _ (path : List ℕ) (now l : Headers) (e : Entry) (r : Headers) (is : now ≡ l ++ e ∷ r) (ordered : InOrder now) where
  abbrev sides : InOrder (l ++ e ∷ r)
  sides = subst InOrder is ordered

  pub left_known : order path e.0 ≡ Less → known_at l path ≡ known_at now path
  left_known less = sym (ap (λ (es : Headers). known_at es path) is ∙ front_known path l (e ∷ r) (none_known path (e ∷ r) (before_right path l e r sides less)))

  pub here_known : order path e.0 ≡ Equal → Some e.1 ≡ known_at now path
  here_known same = sym (ap (λ (es : Headers). known_at es path) is ∙ past_known path l (e ∷ r) (at_left path l e r sides same) ∙ rw same)

  pub right_known : order path e.0 ≡ Greater → known_at r path ≡ known_at now path
  right_known more = sym (ap (λ (es : Headers). known_at es path) is ∙ past_known path l (e ∷ r) (after_left path l e r sides more) ∙ rw more)

-- ---- an entry is put

past_put : (path : List ℕ) (known : Known) (l m : Headers) → Stands Greater path l → insert_entry order (l ++ m) path known ≡ l ++ insert_entry order m path known
past_put path known [] m after = refl
past_put path known (d ∷ l) m after = rw (after.0) (ap (λ (es : Headers). d ∷ es) (past_put path known l m after.1))

front_by : (o : Ordering) (path : List ℕ) (known : Known) (d : Entry) (l m put all : Headers) → all ≡ put ++ m
    → match_ordering o ((path, known) ∷ d ∷ (l ++ m)) ((d.0, known) ∷ (l ++ m)) (d ∷ all) ≡ match_ordering o ((path, known) ∷ d ∷ l) ((d.0, known) ∷ l) (d ∷ put) ++ m
front_by Less path known d l m put all e = refl
front_by Equal path known d l m put all e = refl
front_by Greater path known d l m put all e = ap (λ (es : Headers). d ∷ es) e

front_put : (path : List ℕ) (known : Known) (l : Headers) (e : Entry) (r : Headers) → order path e.0 ≡ Less → insert_entry order (l ++ e ∷ r) path known ≡ insert_entry order l path known ++ e ∷ r
front_put path known [] e r less = rw less
front_put path known (d ∷ l) e r less = front_by (order path d.0) path known d l (e ∷ r) (insert_entry order l path known) (insert_entry order (l ++ e ∷ r) path known) (front_put path known l e r less)

-- ---- an entry is taken out

past_gone : (path : List ℕ) (l m : Headers) → Stands Greater path l → remove_entry (is_at (order path)) (l ++ m) ≡ l ++ remove_entry (is_at (order path)) m
past_gone path [] m after = refl
past_gone path (d ∷ l) m after = rw (after.0) (ap (λ (es : Headers). d ∷ es) (past_gone path l m after.1))

none_gone : (path : List ℕ) (m : Headers) → Stands Less path m → remove_entry (is_at (order path)) m ≡ m
none_gone path [] before = refl
none_gone path (d ∷ m) before = rw (before.0) (ap (λ (es : Headers). d ∷ es) (none_gone path m before.1))

gone_by : (b : Bool) (d : Entry) (l m gone all : Headers) → all ≡ gone ++ m → cond b (l ++ m) (d ∷ all) ≡ cond b l (d ∷ gone) ++ m
gone_by true d l m gone all e = refl
gone_by false d l m gone all e = ap (λ (es : Headers). d ∷ es) e

front_gone : (path : List ℕ) (l m : Headers) → remove_entry (is_at (order path)) m ≡ m → remove_entry (is_at (order path)) (l ++ m) ≡ remove_entry (is_at (order path)) l ++ m
front_gone path [] m none = none
front_gone path (d ∷ l) m none = gone_by (is_at (order path) d.0) d l m (remove_entry (is_at (order path)) l) (remove_entry (is_at (order path)) (l ++ m)) (front_gone path l m none)

module _ (path : List ℕ) (now l : Headers) (e : Entry) (r : Headers) (is : now ≡ l ++ e ∷ r) (ordered : InOrder now) where
  abbrev parts : InOrder (l ++ e ∷ r)
  parts = subst InOrder is ordered

  pub left_put : (known : Known) → order path e.0 ≡ Less → insert_entry order l path known ++ e ∷ r ≡ insert_entry order now path known
  left_put known less = sym (ap (λ (es : Headers). insert_entry order es path known) is ∙ front_put path known l e r less)

  pub here_put : (known : Known) → order path e.0 ≡ Equal → l ++ (path, known) ∷ r ≡ insert_entry order now path known
  here_put known same =
      ap (λ (p : List ℕ). l ++ (p, known) ∷ r) (exact_bytes path e.0 same)
      ∙ sym (ap (λ (es : Headers). insert_entry order es path known) is ∙ past_put path known l (e ∷ r) (at_left path l e r parts same) ∙ rw same)

  pub right_put : (known : Known) → order path e.0 ≡ Greater → l ++ e ∷ insert_entry order r path known ≡ insert_entry order now path known
  right_put known more = sym (ap (λ (es : Headers). insert_entry order es path known) is ∙ past_put path known l (e ∷ r) (after_left path l e r parts more) ∙ rw more)

  pub left_gone : order path e.0 ≡ Less → remove_entry (is_at (order path)) l ++ e ∷ r ≡ remove_entry (is_at (order path)) now
  left_gone less = sym (ap (remove_entry (is_at (order path))) is ∙ front_gone path l (e ∷ r) (none_gone path (e ∷ r) (before_right path l e r parts less)))

  pub here_gone : order path e.0 ≡ Equal → l ++ r ≡ remove_entry (is_at (order path)) now
  here_gone same = sym (ap (remove_entry (is_at (order path))) is ∙ past_gone path l (e ∷ r) (at_left path l e r parts same) ∙ rw same)

  pub right_gone : order path e.0 ≡ Greater → l ++ e ∷ remove_entry (is_at (order path)) r ≡ remove_entry (is_at (order path)) now
  right_gone more = sym (ap (remove_entry (is_at (order path))) is ∙ past_gone path l (e ∷ r) (after_left path l e r parts more) ∙ rw more)
