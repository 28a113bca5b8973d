-- What a change of an index says of each id and each document.
use Rattle.std.proofs.Common.{◌≡◌, ℕ, ◌<◌, List, [], ◌∷◌, ◌++◌, Bool, true, false, not, if◌then◌else◌, refl, sym, ap, ◌∙◌, subst, arith, nat_eq, eq-eqb, eqb-true, true≢false}
use Rattle.std.proofs.lemmas.Bool.{ne_eqb, false_from_ne_true}
use Rattle.std.proofs.lemmas.Map.Keys.{sorted_head, sorted_tail}
use Rattle.std.proofs.lemmas.Slice.Eq.{bytes_eq-Decides}
use Rattle.std.proofs.lemmas.Map.Text.{is_eq-slice_cmp}
use Rattle.std.specs.Prelude.{Option, Some, option_map, unwrap_or, cond}
use Rattle.std.specs.List.{AllByRecursion}
use Rattle.std.specs.List.Sorted.{IsStrictlySortedBy}
use Rattle.std.specs.Str.{bytes_eq}
use Rattle.std.specs.Ordering.{nat_cmp, is_eq, eq_by_cmp}
use Rattle.std.specs.Cmp.{nat_cmp_is, ranked, unsigned_tied, both_ways}
use Rattle.std.specs.Cmp.Lexicographic.{slice_cmp}
use Rattle.std.specs.declared.cmp.Ordering.TheVariants.{Less, Equal, Greater}
use Rattle.std.specs.Map.{KeepsOthers, IsKeyTest, AreApart, lookup}
use Rattle.std.specs.Set.{remove_key}
use Rattle.std.specs.BTreeMap.{BTreeMap, UpdatesBy, get, get_by, is_at}
use Rattle.std.specs.BTreeSet.{BTreeSet, insert_key}
use Rattle.cl_pending.specs.declared.index.Documents.{Documents}
use Rattle.cl_pending.specs.Keys.{without}
use Rattle.cl_pending.specs.Indexes.{messages_on}

-- ---- the test by bytes

pub same_bytes : (s t : List ℕ) → bytes_eq s t ≡ true → s ≡ t
same_bytes s t e = (bytes_eq-Decides s t).0 e

found_bytes : (s t : List ℕ) → is_eq (slice_cmp nat_cmp s t) ≡ true → s ≡ t
found_bytes s t e = same_bytes s t (sym (is_eq-slice_cmp s t) ∙ e)

-- ---- the ids that are texts

others_kept : {K X : Type 0} (eq : K → K → Bool) (test : K → Bool) (old new : List (K × X)) → KeepsOthers eq test old new
    → (other : K → Bool) → IsKeyTest eq other → AreApart test other → lookup other new ≡ lookup other old
unfolding KeepsOthers
others_kept eq test old new keeps other one apart = keeps other one apart

apart_bytes : (s t w : List ℕ) → bytes_eq s t ≡ false → is_eq (slice_cmp nat_cmp s w) ≡ true → is_eq (slice_cmp nat_cmp t w) ≡ false
apart_bytes s t w apart h =
    false_from_ne_true (is_eq (slice_cmp nat_cmp t w))
    (λ e. let same : s ≡ t = found_bytes s w h ∙ sym (found_bytes t w e) in true≢false (sym ((bytes_eq-Decides s t).1 same) ∙ apart))

module _ {K : Type 0} (f : K → List ℕ) (old new : BTreeMap K ℕ) (s : List ℕ) (o : Option ℕ) where
  abbrev Put : Type 0
  Put = UpdatesBy (λ x y. slice_cmp nat_cmp (f x) (f y)) (λ k. slice_cmp nat_cmp s (f k)) old new o

  text_put_by : (b : Bool) (t : List ℕ) → bytes_eq s t ≡ b → Put → get_by (λ k. slice_cmp nat_cmp t (f k)) new ≡ (if b then o else get_by (λ k. slice_cmp nat_cmp t (f k)) old)
  text_put_by true t e u = subst (λ (w : List ℕ). get_by (λ k. slice_cmp nat_cmp w (f k)) new ≡ o) (same_bytes s t e) u.1
  text_put_by false t e u =
      let test : K → Bool = is_at (λ k. slice_cmp nat_cmp t (f k)) in
      let one : (x y : K) → test x ≡ true → test y ≡ eq_by_cmp (λ x y. slice_cmp nat_cmp (f x) (f y)) x y =
      λ x y h. ap (λ (w : List ℕ). is_eq (slice_cmp nat_cmp w (f y))) (found_bytes t (f x) h) in
      let keeps : KeepsOthers (eq_by_cmp (λ x y. slice_cmp nat_cmp (f x) (f y))) (is_at (λ k. slice_cmp nat_cmp s (f k))) old.entries new.entries = u.3 in
      others_kept _ _ old.entries new.entries keeps test one (λ k h. apart_bytes s t (f k) e h)

  pub text_put : (t : List ℕ) → Put → get_by (λ k. slice_cmp nat_cmp t (f k)) new ≡ (if bytes_eq s t then o else get_by (λ k. slice_cmp nat_cmp t (f k)) old)
  text_put t u = text_put_by (bytes_eq s t) t refl u

-- ---- the documents

abbrev keys_or : Option (BTreeSet ℕ) → List ℕ
keys_or o = unwrap_or (option_map (λ (s : BTreeSet ℕ). s.keys) o) []

keys_cond : (b : Bool) (o p : Option (BTreeSet ℕ)) → keys_or (cond b o p) ≡ (if b then keys_or o else keys_or p)
keys_cond true o p = refl
keys_cond false o p = refl

-- the keys at the path become these
pub group_put : (old new : Documents) (path : List ℕ) (o : Option (BTreeSet ℕ)) (keys : List ℕ) → UpdatesBy (slice_cmp nat_cmp) (slice_cmp nat_cmp path) old.groups new.groups o → keys_or o ≡ keys
    → (q : List ℕ) → messages_on new q ≡ (if bytes_eq path q then keys else messages_on old q)
group_put old new path o keys u e q =
    ap keys_or (u.0 q) ∙ keys_cond (is_eq (slice_cmp nat_cmp path q)) o (get (slice_cmp nat_cmp) old.groups q)
    ∙ ap (λ (b : Bool). if b then keys_or o else messages_on old q) (is_eq-slice_cmp path q)
    ∙ ap (λ (ks : List ℕ). if bytes_eq path q then ks else messages_on old q) e

-- the keys there now, and what is there once they are written back
pub group_there : (documents : Documents) (path : List ℕ) (s : BTreeSet ℕ) → get (slice_cmp nat_cmp) documents.groups path ≡ Some s → s.keys ≡ messages_on documents path
group_there documents path s e = sym (ap keys_or e)

pub same_groups : (g h : BTreeMap (List ℕ) (BTreeSet ℕ)) → g ≡ h → (q : List ℕ) → messages_on (record { groups = g }) q ≡ messages_on (record { groups = h }) q
same_groups g h e q = ap (λ (m : BTreeMap (List ℕ) (BTreeSet ℕ)). messages_on (record { groups = m }) q) e

pub if_same : (b : Bool) (ns : List ℕ) → (if b then ns else ns) ≡ ns
if_same true ns = refl
if_same false ns = refl

pub if_again : (b : Bool) (xs ys zs : List ℕ) → (if b then xs else (if b then ys else zs)) ≡ (if b then xs else zs)
if_again true xs ys zs = refl
if_again false xs ys zs = refl

-- at the path, what was there
at_path_by : (b : Bool) (documents : Documents) (f : List ℕ → List ℕ) (path q : List ℕ) (rest : List ℕ) → bytes_eq path q ≡ b
    → (if b then f (messages_on documents path) else rest) ≡ (if b then f (messages_on documents q) else rest)
at_path_by true documents f path q rest e = ap (λ (w : List ℕ). f (messages_on documents w)) (same_bytes path q e)
at_path_by false documents f path q rest e = refl

pub group_becomes : (old new : Documents) (path : List ℕ) (f : List ℕ → List ℕ) → ((q : List ℕ) → messages_on new q ≡ (if bytes_eq path q then f (messages_on old path) else messages_on old q))
    → (q : List ℕ) → messages_on new q ≡ (if bytes_eq path q then f (messages_on old q) else messages_on old q)
group_becomes old new path f h q = h q ∙ at_path_by (bytes_eq path q) old f path q (messages_on old q) refl

-- ---- a number that is put last, or let go

less : (a b : ℕ) → a < b → nat_cmp a b ≡ Less
less a b lt = sym (nat_cmp_is a b Less lt)

pub greater : (a b : ℕ) → b < a → nat_cmp a b ≡ Greater
greater a b lt = sym (nat_cmp_is a b Greater lt)

equal : (a b : ℕ) → a ≡ b → nat_cmp a b ≡ Equal
equal a b e = sym (nat_cmp_is a b Equal e)

pub put_last : (ns : List ℕ) (n : ℕ) → AllByRecursion (λ m. m < n) ns → insert_key nat_cmp ns n ≡ ns ++ n ∷ []
put_last [] n all = refl
put_last (m ∷ ns) n all = rw (greater n m all.0) (ap (λ (ms : List ℕ). m ∷ ms) (put_last ns n all.1))

pub nat_eq_flip : (n m : ℕ) → nat_eq n m ≡ nat_eq m n
nat_eq_flip n m = both_ways (nat_eq n m) (nat_eq m n) (λ e. eq-eqb m n (sym (eqb-true n m e))) (λ e. eq-eqb n m (sym (eqb-true m n e)))

pub is_at_number : (n m : ℕ) → is_eq (nat_cmp n m) ≡ nat_eq m n
is_at_number n m = unsigned_tied n m ∙ nat_eq_flip n m

-- numbers above one are others
pub none_gone : (n : ℕ) (ns : List ℕ) → AllByRecursion (λ k. nat_cmp n k ≡ Less) ns → without n ns ≡ ns
none_gone n [] all = refl
none_gone n (k ∷ ns) all =
    let above : n < k = ranked n k Less (sym all.0) in
    rw (ne_eqb k n (λ e. omega arith), none_gone n ns all.1) refl

let_go_by : (b : Bool) (n m : ℕ) (ns : List ℕ) → nat_eq m n ≡ b → AllByRecursion (λ k. nat_cmp m k ≡ Less) ns → remove_key (is_at (nat_cmp n)) ns ≡ without n ns
    → cond b ns (m ∷ remove_key (is_at (nat_cmp n)) ns) ≡ cond (not b) (m ∷ without n ns) (without n ns)
let_go_by true n m ns e above more = sym (none_gone n ns (subst (λ (k : ℕ). AllByRecursion (λ j. nat_cmp k j ≡ Less) ns) (eqb-true m n e) above))
let_go_by false n m ns e above more = ap (λ (ms : List ℕ). m ∷ ms) more

pub let_go : (ns : List ℕ) (n : ℕ) → IsStrictlySortedBy nat_cmp ns → remove_key (is_at (nat_cmp n)) ns ≡ without n ns
let_go [] n s = refl
let_go (m ∷ ns) n s =
    rw (is_at_number n m) (let_go_by (nat_eq m n) n m ns refl (sorted_head nat_cmp m ns s) (let_go ns n (sorted_tail nat_cmp m ns s)))
