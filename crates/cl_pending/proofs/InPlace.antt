-- A request that is put in place of another.
use Rattle.std.proofs.Common.{◌≡◌, ℕ, ◌<◌, List, [], ◌∷◌, map, filter, Bool, true, false, cond, refl, sym, ap, ◌∙◌, subst, arith, nat_eq}
use Rattle.std.specs.Prelude.{Option, Some, None, option_to_list}
use Rattle.std.proofs.lemmas.Bool.{ne_eqb}
use Rattle.std.proofs.lemmas.Map.Keys.{sorted_head, sorted_tail}
use Rattle.std.specs.List.{AllByRecursion}
use Rattle.std.specs.Str.{bytes_eq}
use Rattle.std.specs.Ordering.{nat_cmp, is_eq, match_ordering}
use Rattle.std.specs.Cmp.{ranked}
use Rattle.std.specs.declared.cmp.Ordering.{Ordering}
use Rattle.std.specs.declared.cmp.Ordering.TheVariants.{Less, Equal, Greater}
use Rattle.std.specs.Map.{lookup, keys_of, values_of}
use Rattle.std.specs.BTreeMap.{BTreeMap, IsOrdered, insert_entry, is_at, get, values}
use Rattle.cl_rpc.specs.Classes.{same_id}
use Rattle.cl_pending.specs.declared.index.Ids.{Ids}
use Rattle.cl_pending.specs.declared.index.Documents.{Documents}
use Rattle.cl_pending.specs.Keys.{Key}
use Rattle.cl_pending.specs.Meant.{in_place, with_in_place, number_by}
use Rattle.cl_pending.specs.Indexes.{IsIndexed}
use Rattle.cl_pending.proofs.Putting.{is_at_number}
use Rattle.cl_pending.proofs.Indexed.{Entries, Keyed, Sorted, on_number, at_test, above_here, at_number}

module _ {W : Type 0} (key : W → Key) (new : W) where
  abbrev m : ℕ
  m = (key new).message

  -- those of the same message have the same key
  abbrev pub AreSame : List W → Type 0
  AreSame ws = AllByRecursion (λ (w : W). nat_eq (key w).message m ≡ true → key w ≡ key new) ws

  abbrev entry_after : ℕ × W → ℕ × W
  entry_after e = (e.0, in_place key new e.1)

  none_there : (n : ℕ) (es : Entries key) → m < n → AllByRecursion (λ k. nat_cmp n k ≡ Less) (keys_of es) → lookup (is_at (nat_cmp m)) es ≡ None
  none_there n [] lt above = refl
  none_there n (e ∷ es) lt above =
      let more : n < e.0 = ranked n e.0 Less (sym above.0) in
      let other : is_eq (nat_cmp m e.0) ≡ false = is_at_number m e.0 ∙ ne_eqb e.0 m (λ h. omega arith) in
      rw other (none_there n es lt above.1)

  unchanged : (es : Entries key) → Keyed key es → AllByRecursion (λ k. nat_cmp m k ≡ Less) (keys_of es) → map entry_after es ≡ es
  unchanged [] keyed above = refl
  unchanged (e ∷ es) keyed above =
      let lt : m < e.0 = ranked m e.0 Less (sym above.0) in
      let same : e.0 ≡ (key e.1).message = keyed.0 in
      rw (ne_eqb (key e.1).message m (λ h. omega arith), unchanged es keyed.1 above.1) refl

  head_after : (b : Bool) (w : W) → nat_eq (key w).message m ≡ b → in_place key new w ≡ cond b new w
  head_after b w e = rw e refl

  none_some : (w : W) → ◌≡◌ {A = Option W} None (Some w) → ⊥
  none_some w e = cc

  put_by : (o : Ordering) (e : ℕ × W) (es : Entries key) (w : W) → nat_cmp m e.0 ≡ o → Keyed key (e ∷ es) → Sorted key (e ∷ es)
      → (lookup (is_at (nat_cmp m)) es ≡ Some w → insert_entry nat_cmp es m new ≡ map entry_after es)
      → cond (is_eq o) (Some e.1) (lookup (is_at (nat_cmp m)) es) ≡ Some w
      → match_ordering o ((m, new) ∷ e ∷ es) ((e.0, new) ∷ es) (e ∷ insert_entry nat_cmp es m new) ≡ map entry_after (e ∷ es)
  put_by Less e es w is keyed s more found =
      let lt : m < e.0 = ranked m e.0 Less (sym is) in
      absurd (none_some w (sym (none_there e.0 es lt (sorted_head nat_cmp e.0 (keys_of es) s)) ∙ found))
  put_by Equal e es w is keyed s more found =
      let here : nat_eq (key e.1).message m ≡ true = sym (at_test key m e keyed.0) ∙ ap is_eq is in
      let rest : map entry_after es ≡ es = unchanged es keyed.1 (above_here key m e es keyed.0 s here) in
      rw (head_after true e.1 here, rest) refl
  put_by Greater e es w is keyed s more found =
      let here : nat_eq (key e.1).message m ≡ false = sym (at_test key m e keyed.0) ∙ ap is_eq is in
      rw (head_after false e.1 here, more found) refl

  put_there : (es : Entries key) (w : W) → Keyed key es → Sorted key es → lookup (is_at (nat_cmp m)) es ≡ Some w → insert_entry nat_cmp es m new ≡ map entry_after es
  put_there [] w keyed s found = absurd (none_some w found)
  put_there (e ∷ es) w keyed s found =
      put_by (nat_cmp m e.0) e es w refl keyed s (put_there es w keyed.1 (sorted_tail nat_cmp e.0 (keys_of es) s)) found

  same_by : (b : Bool) (w : W) → (b ≡ true → key w ≡ key new) → key (cond b new w) ≡ key w
  same_by true w e = sym (e refl)
  same_by false w e = refl

  same_key : (w : W) → (nat_eq (key w).message m ≡ true → key w ≡ key new) → key (in_place key new w) ≡ key w
  same_key w e = same_by (nat_eq (key w).message m) w e

  keyed_after : (es : Entries key) → Keyed key es → AreSame (values_of es) → Keyed key (map entry_after es)
  keyed_after [] keyed same = keyed
  keyed_after (e ∷ es) keyed same = (keyed.0 ∙ sym (ap (λ (k : Key). k.message) (same_key e.1 same.0)), keyed_after es keyed.1 same.1)

  values_after : (es : Entries key) → values_of (map entry_after es) ≡ with_in_place key new (values_of es)
  values_after [] = refl
  values_after (e ∷ es) = ap (λ (ws : List W). in_place key new e.1 ∷ ws) (values_after es)

  kept_numbers : (b : Bool) (v w : W) (us ws : List W) → (key v).message ≡ (key w).message → map (number_by key) us ≡ map (number_by key) ws
      → map (number_by key) (cond b (v ∷ us) us) ≡ map (number_by key) (cond b (w ∷ ws) ws)
  kept_numbers true v w us ws e more = rw (e, more) refl
  kept_numbers false v w us ws e more = more

  numbers_kept : (p : Key → Bool) (ws : List W) → AreSame ws → map (number_by key) (filter (λ w. p (key w)) (with_in_place key new ws)) ≡ map (number_by key) (filter (λ w. p (key w)) ws)
  numbers_kept p [] same = refl
  numbers_kept p (w ∷ ws) same =
      let here : key (in_place key new w) ≡ key w = same_key w same.0 in
      ap (λ (b : Bool). map (number_by key) (cond b (in_place key new w ∷ filter (λ v. p (key v)) (with_in_place key new ws)) (filter (λ v. p (key v)) (with_in_place key new ws)))) (ap p here)
      ∙ kept_numbers (p (key w)) (in_place key new w) w (filter (λ v. p (key v)) (with_in_place key new ws)) (filter (λ v. p (key v)) ws) (ap (λ (k : Key). k.message) here) (numbers_kept p ws same.1)

  -- the indexes name those that wait still
  pub still_indexed : (old after : BTreeMap ℕ W) (ids : Ids) (documents : Documents) (w : W) → IsIndexed key old ids documents → AreSame (values old) → get nat_cmp old m ≡ Some w
      → after.entries ≡ insert_entry nat_cmp old.entries m new → IsOrdered nat_cmp after → IsIndexed key after ids documents
  still_indexed old after ids documents w i same found put ordered =
      let es : after.entries ≡ map entry_after old.entries = put ∙ put_there old.entries w i.keyed i.ordered found in
      let vs : values after ≡ with_in_place key new (values old) = ap values_of es ∙ values_after old.entries in
      record {
        ordered = ordered;
        keyed = subst (Keyed key) (sym es) (keyed_after old.entries i.keyed same);
        by_id = λ j. i.by_id j ∙ sym (ap (λ (ws : List W). map (number_by key) (filter (λ v. same_id j (key v).id) ws)) vs
            ∙ numbers_kept (λ k. same_id j k.id) (values old) same);
        by_document = λ path. i.by_document path ∙ sym (ap (λ (ws : List W). map (number_by key) (filter (λ v. bytes_eq (key v).path path) ws)) vs
            ∙ numbers_kept (λ k. bytes_eq k.path path) (values old) same);
      }

  pub values_put : (old after : BTreeMap ℕ W) (ids : Ids) (documents : Documents) (w : W) → IsIndexed key old ids documents → get nat_cmp old m ≡ Some w
      → after.entries ≡ insert_entry nat_cmp old.entries m new → values after ≡ with_in_place key new (values old)
  values_put old after ids documents w i found put = ap values_of (put ∙ put_there old.entries w i.keyed i.ordered found) ∙ values_after old.entries

  nil_if : (b : Bool) (w : W) (ws : List W) → cond b (w ∷ ws) ws ≡ [] → (b ≡ false) × (ws ≡ [])
  nil_if true w ws e = absurd (cc)
  nil_if false w ws e = (refl, e)

  -- where no request of the message waits, nothing changes
  none_changed : (ws : List W) → filter (on_number key m) ws ≡ [] → ws ≡ with_in_place key new ws
  none_changed [] e = refl
  none_changed (w ∷ ws) e =
      let parts = nil_if (on_number key m w) w (filter (on_number key m) ws) e in
      rw (head_after false w parts.0) (ap (λ (vs : List W). w ∷ vs) (none_changed ws parts.1))

  pub none_put : (old : BTreeMap ℕ W) (ids : Ids) (documents : Documents) → IsIndexed key old ids documents → get nat_cmp old m ≡ None
      → values old ≡ with_in_place key new (values old)
  none_put old ids documents i none = none_changed (values old) (at_number key m old.entries i.keyed i.ordered ∙ ap option_to_list none)
