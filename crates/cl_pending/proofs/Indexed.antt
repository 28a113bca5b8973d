-- What stands in the indexes of those that wait.
use Rattle.std.proofs.Common.{◌≡◌, ◌≤◌, ◌<◌, ℕ, ◌+◌, List, [], ◌∷◌, ◌++◌, map, filter, length, Bool, true, false, not, if◌then◌else◌, refl, sym, ap, ◌∙◌, subst, arith, nat_eq, eq-eqb, eqb-true, append-nil, append_assoc, drop, slice_index}
use Rattle.std.specs.Prelude.{Option, Some, None, option_map, option_to_list, is_some, cond, unwrap_or, slice_get, IfSome, ◌||◌}
use Rattle.std.proofs.lemmas.Bool.{ne_eqb, false≢true}
use Rattle.std.proofs.lemmas.List.{map-append, drop_more}
use Rattle.std.proofs.lemmas.List.Elements.{filter-append}
use Rattle.std.proofs.lemmas.List.Filters.{length-filter_both}
use Rattle.std.proofs.lemmas.Map.Keys.{sorted_head, sorted_tail}
use Rattle.std.specs.List.{AllByRecursion, list_any}
use Rattle.std.specs.List.Sorted.{IsStrictlySortedBy}
use Rattle.std.specs.Str.{bytes_eq}
use Rattle.std.specs.Ordering.{nat_cmp, is_eq}
use Rattle.std.specs.Cmp.{ranked, both_ways, signed_Decides}
use Rattle.std.proofs.lemmas.Slice.Eq.{bytes_eq-Decides}
use Rattle.std.specs.declared.cmp.Ordering.TheVariants.{Less}
use Rattle.std.specs.Map.{lookup, remove_entry, keys_of, values_of}
use Rattle.std.specs.BTreeMap.{BTreeMap, IsOrdered, insert_entry, is_at, get, values}
use Rattle.cl_rpc.specs.declared.id.Id.{Id}
use Rattle.cl_rpc.specs.declared.id.Id.TheVariants as id
use Rattle.cl_pending.specs.declared.index.Ids.{Ids}
use Rattle.cl_pending.specs.declared.index.Documents.{Documents}
use Rattle.cl_pending.specs.Keys.{Key, without}
use Rattle.cl_rpc.specs.Classes.{same_id}
use Rattle.cl_pending.specs.Meant.{has_id_by, is_nil, number_by}
use Rattle.cl_pending.specs.Indexes.{IsIndexed, message_by, messages_on, found_in}
use Rattle.cl_pending.proofs.Putting.{greater, is_at_number, same_bytes}
use Rattle.cl_pending.proofs.Lists.{map-filter, all_left}

pub gathered : {W : Type 0} (waiting : BTreeMap ℕ W) (ns : List ℕ) (i : ℕ) (some more : List W) (o : Option W) → i < length ns
    → some ++ found_in waiting (drop i ns) ≡ found_in waiting ns → get nat_cmp waiting (slice_index ns i) ≡ o → more ≡ some ++ option_to_list o
    → more ++ found_in waiting (drop (i + 1) ns) ≡ found_in waiting ns
gathered {W = W} waiting ns i some more o lt so_far is more_is =
    ap (λ (ws : List W). ws ++ found_in waiting (drop (i + 1) ns)) more_is
    ∙ append_assoc some (option_to_list o) (found_in waiting (drop (i + 1) ns))
    ∙ ap (λ (p : Option W). some ++ (option_to_list p ++ found_in waiting (drop (i + 1) ns))) (sym is)
    ∙ ap (λ (ms : List ℕ). some ++ found_in waiting ms) (sym (drop_more ns i 0 lt)) ∙ so_far

gone_last : (ns : List ℕ) (m : ℕ) → AllByRecursion (λ n. n < m) ns → without m (ns ++ m ∷ []) ≡ ns
gone_last [] m below = rw (eq-eqb m m refl) refl
gone_last (n ∷ ns) m below =
    let lt : n < m = below.0 in
    rw (ne_eqb n m (λ e. omega arith), gone_last ns m below.1) refl

same_id_true : (i j : Id) → same_id i j ≡ true → i ≡ j
same_id_true (id.Number n) (id.Number m) e = ap id.Number ((signed_Decides n m).0 e)
same_id_true (id.Number n) (id.Text s) e = absurd (false≢true e)
same_id_true (id.Text s) (id.Number m) e = absurd (false≢true e)
same_id_true (id.Text s) (id.Text t) e = ap id.Text (same_bytes s t e)

same_id_self : (i j : Id) → i ≡ j → same_id i i ≡ true → same_id i j ≡ true
same_id_self i j e h = subst (λ (k : Id). same_id i k ≡ true) e h

same_id_itself : (i : Id) → same_id i i ≡ true
same_id_itself (id.Number n) = (signed_Decides n n).1 refl
same_id_itself (id.Text s) = (bytes_eq-Decides s s).1 refl

pub same_id_flip : (i j : Id) → same_id i j ≡ same_id j i
same_id_flip i j =
    both_ways (same_id i j) (same_id j i)
    (λ e. same_id_self j i (sym (same_id_true i j e)) (same_id_itself j))
    (λ e. same_id_self i j (sym (same_id_true j i e)) (same_id_itself i))

gone_by : (b : Bool) (k m x : ℕ) → nat_eq k m ≡ b → cond b (k ∷ []) [] ≡ x ∷ [] → cond (not b) (k ∷ []) [] ≡ []
gone_by true k m x e h = refl
gone_by false k m x e h = absurd (cc)

gone_single : (o : Option ℕ) (m x : ℕ) → filter (λ k. nat_eq k m) (option_to_list o) ≡ x ∷ [] → without m (option_to_list o) ≡ []
gone_single None m x h = refl
gone_single (Some k) m x h = gone_by (nat_eq k m) k m x refl h

document_back_by : (b : Bool) (m : ℕ) (ns : List ℕ) → AllByRecursion (λ n. n < m) ns → (if b then without m (if b then ns ++ m ∷ [] else ns) else (if b then ns ++ m ∷ [] else ns)) ≡ ns
document_back_by true m ns below = gone_last ns m below
document_back_by false m ns below = refl

pub head_of : (o : Option ℕ) → slice_get (option_to_list o) 0 ≡ o
head_of None = refl
head_of (Some n) = refl

module _ {W : Type 0} (key : W → Key) where
  abbrev pub Entries : Type 0
  Entries = List (ℕ × W)

  abbrev pub on_number : ℕ → W → Bool
  on_number m w = nat_eq (key w).message m

  abbrev pub off_number : ℕ → W → Bool
  off_number m w = not (nat_eq (key w).message m)

  abbrev pub Keyed : Entries → Type 0
  Keyed es = AllByRecursion (λ (e : ℕ × W). e.0 ≡ (number_by key) e.1) es

  abbrev pub Sorted : Entries → Type 0
  Sorted es = IsStrictlySortedBy nat_cmp (keys_of es)

  abbrev pub Below : ℕ → List W → Type 0
  Below m ws = AllByRecursion (λ (w : W). (key w).message < m) ws

  -- ---- at a number

  none_at : (m : ℕ) (es : Entries) → Keyed es → AllByRecursion (λ k. nat_cmp m k ≡ Less) (keys_of es) → filter (on_number m) (values_of es) ≡ []
  none_at m [] keyed above = refl
  none_at m (e ∷ es) keyed above =
      let lt : m < e.0 = ranked m e.0 Less (sym above.0) in
      let same : e.0 ≡ (number_by key) e.1 = keyed.0 in
      rw (ne_eqb ((number_by key) e.1) m (λ h. omega arith), none_at m es keyed.1 above.1) refl

  all_off : (m : ℕ) (es : Entries) → Keyed es → AllByRecursion (λ k. nat_cmp m k ≡ Less) (keys_of es) → filter (off_number m) (values_of es) ≡ values_of es
  all_off m [] keyed above = refl
  all_off m (e ∷ es) keyed above =
      let lt : m < e.0 = ranked m e.0 Less (sym above.0) in
      let same : e.0 ≡ (number_by key) e.1 = keyed.0 in
      rw (ne_eqb ((number_by key) e.1) m (λ h. omega arith), all_off m es keyed.1 above.1) refl

  pub at_test : (m : ℕ) (e : ℕ × W) → e.0 ≡ (number_by key) e.1 → is_eq (nat_cmp m e.0) ≡ nat_eq ((number_by key) e.1) m
  at_test m e same = is_at_number m e.0 ∙ ap (λ (k : ℕ). nat_eq k m) same

  pub above_here : (m : ℕ) (e : ℕ × W) (es : Entries) → e.0 ≡ (number_by key) e.1 → Sorted (e ∷ es) → nat_eq ((number_by key) e.1) m ≡ true → AllByRecursion (λ k. nat_cmp m k ≡ Less) (keys_of es)
  above_here m e es same s h =
      subst (λ (n : ℕ). AllByRecursion (λ k. nat_cmp n k ≡ Less) (keys_of es)) (same ∙ eqb-true ((number_by key) e.1) m h) (sorted_head nat_cmp e.0 (keys_of es) s)

  at_by : (b : Bool) (w : W) (ws : List W) (o : Option W) → ws ≡ option_to_list o → (b ≡ true → ws ≡ []) → cond b (w ∷ ws) ws ≡ option_to_list (cond b (Some w) o)
  at_by true w ws o e none = ap (λ (vs : List W). w ∷ vs) (none refl)
  at_by false w ws o e none = e

  pub at_number : (m : ℕ) (es : Entries) → Keyed es → Sorted es → filter (on_number m) (values_of es) ≡ option_to_list (lookup (is_at (nat_cmp m)) es)
  at_number m [] keyed s = refl
  at_number m (e ∷ es) keyed s =
      rw (at_test m e keyed.0)
      (at_by (nat_eq ((number_by key) e.1) m) e.1 (filter (on_number m) (values_of es)) (lookup (is_at (nat_cmp m)) es) (at_number m es keyed.1 (sorted_tail nat_cmp e.0 (keys_of es) s))
      (λ h. none_at m es keyed.1 (above_here m e es keyed.0 s h)))

  left_by : (b : Bool) (e : ℕ × W) (es rest : Entries) (ws : List W) → values_of rest ≡ ws → (b ≡ true → ws ≡ values_of es) → values_of (cond b es (e ∷ rest)) ≡ cond (not b) (e.1 ∷ ws) ws
  left_by true e es rest ws h all = sym (all refl)
  left_by false e es rest ws h all = ap (λ (vs : List W). e.1 ∷ vs) h

  pub left_at : (m : ℕ) (es : Entries) → Keyed es → Sorted es → values_of (remove_entry (is_at (nat_cmp m)) es) ≡ filter (off_number m) (values_of es)
  left_at m [] keyed s = refl
  left_at m (e ∷ es) keyed s =
      rw (at_test m e keyed.0)
      (left_by (nat_eq ((number_by key) e.1) m) e es (remove_entry (is_at (nat_cmp m)) es) (filter (off_number m) (values_of es)) (left_at m es keyed.1 (sorted_tail nat_cmp e.0 (keys_of es) s))
      (λ h. all_off m es keyed.1 (above_here m e es keyed.0 s h)))

  keyed_by : (b : Bool) (e : ℕ × W) (es rest : Entries) → e.0 ≡ (number_by key) e.1 → Keyed es → Keyed rest → Keyed (cond b es (e ∷ rest))
  keyed_by true e es rest here all more = all
  keyed_by false e es rest here all more = (here, more)

  keyed_left : (m : ℕ) (es : Entries) → Keyed es → Keyed (remove_entry (is_at (nat_cmp m)) es)
  keyed_left m [] keyed = keyed
  keyed_left m (e ∷ es) keyed = keyed_by (is_eq (nat_cmp m e.0)) e es (remove_entry (is_at (nat_cmp m)) es) keyed.0 keyed.1 (keyed_left m es keyed.1)

  -- ---- a last number

  keys_below : (m : ℕ) (es : Entries) → Keyed es → Below m (values_of es) → AllByRecursion (λ k. k < m) (keys_of es)
  keys_below m [] keyed below = tt
  keys_below m (e ∷ es) keyed below = (subst (λ (n : ℕ). n < m) (sym keyed.0) below.0, keys_below m es keyed.1 below.1)

  put_at_end : (es : Entries) (m : ℕ) (w : W) → AllByRecursion (λ k. k < m) (keys_of es) → insert_entry nat_cmp es m w ≡ es ++ (m, w) ∷ []
  put_at_end [] m w below = refl
  put_at_end (e ∷ es) m w below = rw (greater m e.0 below.0) (ap (λ (fs : Entries). e ∷ fs) (put_at_end es m w below.1))

  keyed_more : (es : Entries) (w : W) → Keyed es → Keyed (es ++ ((number_by key) w, w) ∷ [])
  keyed_more [] w keyed = (refl, tt)
  keyed_more (e ∷ es) w keyed = (keyed.0, keyed_more es w keyed.1)

  below_if : (b : Bool) (m : ℕ) (w : W) (ws : List W) → (key w).message < m → AllByRecursion (λ n. n < m) (map (number_by key) ws) → AllByRecursion (λ n. n < m) (map (number_by key) (cond b (w ∷ ws) ws))
  below_if true m w ws here more = (here, more)
  below_if false m w ws here more = more

  pub numbers_below : (p : W → Bool) (m : ℕ) (ws : List W) → Below m ws → AllByRecursion (λ n. n < m) (map (number_by key) (filter p ws))
  numbers_below p m [] below = tt
  numbers_below p m (w ∷ ws) below = below_if (p w) m w (filter p ws) below.0 (numbers_below p m ws below.1)

  -- ---- filters

  split_if : (b : Bool) (P : W → Type 0) (w : W) (ws : List W) → AllByRecursion P (cond b (w ∷ ws) ws) → (b ≡ true → P w) × AllByRecursion P ws
  split_if true P w ws all = (λ e. all.0, all.1)
  split_if false P w ws all = (λ e. absurd (false≢true e), all)

  -- what holds of each that passes
  pub all_passing : (test : W → Bool) (P : W → Type 0) (ws : List W) → AllByRecursion P (filter test ws) → AllByRecursion (λ w. test w ≡ true → P w) ws
  all_passing test P [] all = tt
  all_passing test P (w ∷ ws) all =
      let split = split_if (test w) P w (filter test ws) all in
      (split.0, all_passing test P ws split.1)

  kept_by : (b : Bool) (p : W → Bool) (w : W) (some all : List W) → (b ≡ true → p w ≡ false) → filter p some ≡ all → filter p (cond (not b) (w ∷ some) some) ≡ cond (p w) (w ∷ all) all
  kept_by true p w some all none e = rw (none refl) e
  kept_by false p w some all none e = ap (λ (vs : List W). cond (p w) (w ∷ vs) vs) e

  -- where no request of the number passes, its leaving changes nothing
  pub kept_without : (p : W → Bool) (m : ℕ) (ws : List W) → AllByRecursion (λ (w : W). nat_eq (key w).message m ≡ true → p w ≡ false) ws → filter p (filter (off_number m) ws) ≡ filter p ws
  kept_without p m [] none = refl
  kept_without p m (w ∷ ws) none = kept_by (nat_eq (key w).message m) p w (filter (off_number m) ws) (filter p ws) none.0 (kept_without p m ws none.1)

  swap_by : (b c : Bool) (p q : W → Bool) (w : W) (us vs : List W) → p w ≡ b → q w ≡ c → filter p us ≡ filter q vs → filter p (cond c (w ∷ us) us) ≡ filter q (cond b (w ∷ vs) vs)
  swap_by true true p q w us vs e f h = rw (e, f) (ap (λ (xs : List W). w ∷ xs) h)
  swap_by true false p q w us vs e f h = rw f h
  swap_by false true p q w us vs e f h = rw e h
  swap_by false false p q w us vs e f h = h

  filter_swap : (p q : W → Bool) (ws : List W) → filter p (filter q ws) ≡ filter q (filter p ws)
  filter_swap p q [] = refl
  filter_swap p q (w ∷ ws) = swap_by (p w) (q w) p q w (filter q ws) (filter p ws) refl refl (filter_swap p q ws)

  pub numbers_without : (p : W → Bool) (m : ℕ) (ws : List W) → map (number_by key) (filter p (filter (off_number m) ws)) ≡ without m (map (number_by key) (filter p ws))
  numbers_without p m ws = ap (map (number_by key)) (filter_swap p (off_number m) ws) ∙ map-filter (number_by key) (λ k. not (nat_eq k m)) (filter p ws)

  -- ---- one more request, and one fewer

  none_has_by : (b c : Bool) (w : W) (ws : List W) → (b || c) ≡ false → (c ≡ false → ws ≡ []) → cond b (w ∷ ws) ws ≡ []
  none_has_by true c w ws e none = absurd (false≢true (sym e))
  none_has_by false c w ws e none = none e

  none_has : (i : Id) (ws : List W) → list_any (has_id_by key i) ws ≡ false → filter (λ w. same_id i (key w).id) ws ≡ []
  none_has i [] e = refl
  none_has i (w ∷ ws) e = none_has_by (same_id i (key w).id) (list_any (has_id_by key i) ws) w (filter (λ v. same_id i (key v).id) ws) e (none_has i ws)

  none_has_as : (i j : Id) (ws : List W) → list_any (has_id_by key j) ws ≡ false → same_id i j ≡ true → filter (λ w. same_id i (key w).id) ws ≡ []
  none_has_as i j ws free same = subst (λ (k : Id). filter (λ w. same_id k (key w).id) ws ≡ []) (sym (same_id_true i j same)) (none_has j ws free)

  id_put : (b : Bool) (o : Option ℕ) (w : W) (ws : List W) → option_to_list o ≡ map (number_by key) ws → (b ≡ true → ws ≡ [])
      → option_to_list (if b then Some ((number_by key) w) else o) ≡ map (number_by key) (ws ++ cond b (w ∷ []) [])
  id_put true o w ws e none = rw (none refl) refl
  id_put false o w ws e none = e ∙ ap (map (number_by key)) (sym (append-nil ws))

  document_put : (b : Bool) (ns : List ℕ) (w : W) (ws : List W) → ns ≡ map (number_by key) ws → (if b then ns ++ (number_by key) w ∷ [] else ns) ≡ map (number_by key) (ws ++ cond b (w ∷ []) [])
  document_put true ns w ws e = ap (λ (ms : List ℕ). ms ++ (number_by key) w ∷ []) e ∙ sym (map-append (number_by key) ws (w ∷ []))
  document_put false ns w ws e = e ∙ ap (map (number_by key)) (sym (append-nil ws))

  pub values_more : (old : Entries) (w : W) → Keyed old → Below (key w).message (values_of old) → values_of (insert_entry nat_cmp old (key w).message w) ≡ values_of old ++ w ∷ []
  values_more old w keyed below =
      ap values_of (put_at_end old (key w).message w (keys_below (key w).message old keyed below)) ∙ map-append (λ (e : ℕ × W). e.1) old (((key w).message, w) ∷ [])

  pub pushed : (old new : BTreeMap ℕ W) (ids ids' : Ids) (documents documents' : Documents) (w : W)
      → IsIndexed key old ids documents → list_any (has_id_by key (key w).id) (values old) ≡ false → Below (key w).message (values old)
      → IsOrdered nat_cmp new → new.entries ≡ insert_entry nat_cmp old.entries (key w).message w
      → ((i : Id) → message_by ids' i ≡ (if same_id (key w).id i then Some (key w).message else message_by ids i))
      → ((q : List ℕ) → messages_on documents' q ≡ (if bytes_eq (key w).path q then messages_on documents q ++ (key w).message ∷ [] else messages_on documents q))
      → IsIndexed key new ids' documents'
  pushed old new ids ids' documents documents' w indexed free below ordered is by on =
      let ws = values old in
      let more : values new ≡ ws ++ w ∷ [] = ap values_of is ∙ values_more old.entries w indexed.keyed below in
      let passed : (p : W → Bool) → map (number_by key) (filter p ws ++ cond (p w) (w ∷ []) []) ≡ map (number_by key) (filter p (values new)) =
      λ p. ap (map (number_by key)) (sym (ap (filter p) more ∙ filter-append p ws (w ∷ []))) in
      record {
        ordered = ordered;
        keyed = subst Keyed (sym (is ∙ put_at_end old.entries (key w).message w (keys_below (key w).message old.entries indexed.keyed below))) (keyed_more old.entries w indexed.keyed);
        by_id = λ i.
            ap option_to_list (by i)
            ∙ ap (λ (b : Bool). option_to_list (if b then Some (key w).message else message_by ids i)) (same_id_flip (key w).id i)
            ∙ id_put (same_id i (key w).id) (message_by ids i) w (filter (λ v. same_id i (key v).id) ws) (indexed.by_id i) (none_has_as i (key w).id ws free)
            ∙ passed (λ v. same_id i (key v).id);
        by_document = λ q. on q ∙ document_put (bytes_eq (key w).path q) (messages_on documents q) w (filter (λ v. bytes_eq (key v).path q) ws) (indexed.by_document q) ∙ passed (λ v. bytes_eq (key v).path q);
      }

  -- the only request of a number
  only_one : (p : W → Bool) (m : ℕ) (w : W) (ws : List W) → filter (on_number m) ws ≡ w ∷ [] → p w ≡ false → AllByRecursion (λ (v : W). nat_eq (key v).message m ≡ true → p v ≡ false) ws
  only_one p m w ws one e = all_passing (on_number m) (λ v. p v ≡ false) ws (subst (AllByRecursion (λ (v : W). p v ≡ false)) (sym one) (e, tt))

  id_gone : (b : Bool) (p : W → Bool) (o : Option ℕ) (m : ℕ) (w : W) (ws : List W) → p w ≡ b → filter (on_number m) ws ≡ w ∷ [] → option_to_list o ≡ map (number_by key) (filter p ws)
      → option_to_list (if b then None else o) ≡ map (number_by key) (filter p (filter (off_number m) ws))
  id_gone true p o m w ws e one is =
      let here : filter p (w ∷ []) ≡ w ∷ [] = ap (λ (b : Bool). cond b (w ∷ []) []) e in
      let hit : filter (on_number m) (filter p ws) ≡ w ∷ [] = sym (filter_swap p (on_number m) ws) ∙ ap (filter p) one ∙ here in
      let listed : filter (λ k. nat_eq k m) (option_to_list o) ≡ (number_by key) w ∷ [] =
      ap (filter (λ k. nat_eq k m)) is ∙ sym (map-filter (number_by key) (λ k. nat_eq k m) (filter p ws)) ∙ ap (map (number_by key)) hit in
      sym (numbers_without p m ws ∙ ap (without m) (sym is) ∙ gone_single o m ((number_by key) w) listed)
  id_gone false p o m w ws e one is = is ∙ ap (map (number_by key)) (sym (kept_without p m ws (only_one p m w ws one e)))

  document_gone : (b : Bool) (p : W → Bool) (ns : List ℕ) (m : ℕ) (w : W) (ws : List W) → p w ≡ b → filter (on_number m) ws ≡ w ∷ [] → ns ≡ map (number_by key) (filter p ws)
      → (if b then without m ns else ns) ≡ map (number_by key) (filter p (filter (off_number m) ws))
  document_gone true p ns m w ws e one is = ap (without m) is ∙ sym (numbers_without p m ws)
  document_gone false p ns m w ws e one is = is ∙ ap (map (number_by key)) (sym (kept_without p m ws (only_one p m w ws one e)))

  pub removed : (old new : BTreeMap ℕ W) (ids ids' : Ids) (documents documents' : Documents) (m : ℕ) (w : W)
      → IsIndexed key old ids documents → Some w ≡ get nat_cmp old m
      → IsOrdered nat_cmp new → new.entries ≡ remove_entry (is_at (nat_cmp m)) old.entries
      → ((i : Id) → message_by ids' i ≡ (if same_id (key w).id i then None else message_by ids i))
      → ((q : List ℕ) → messages_on documents' q ≡ (if bytes_eq (key w).path q then without m (messages_on documents q) else messages_on documents q))
      → IsIndexed key new ids' documents'
  removed old new ids ids' documents documents' m w indexed there ordered is by on =
      let ws = values old in
      let fewer : values new ≡ filter (off_number m) ws = ap values_of is ∙ left_at m old.entries indexed.keyed indexed.ordered in
      let one : filter (on_number m) ws ≡ w ∷ [] = at_number m old.entries indexed.keyed indexed.ordered ∙ ap option_to_list (sym there) in
      let passed : (p : W → Bool) → map (number_by key) (filter p (filter (off_number m) ws)) ≡ map (number_by key) (filter p (values new)) = λ p. ap (λ (vs : List W). map (number_by key) (filter p vs)) (sym fewer) in
      record {
        ordered = ordered;
        keyed = subst Keyed (sym is) (keyed_left m old.entries indexed.keyed);
        by_id = λ i.
            ap option_to_list (by i)
            ∙ ap (λ (b : Bool). option_to_list (if b then None else message_by ids i)) (same_id_flip (key w).id i)
            ∙ id_gone (same_id i (key w).id) (λ v. same_id i (key v).id) (message_by ids i) m w ws refl one (indexed.by_id i)
            ∙ passed (λ v. same_id i (key v).id);
        by_document = λ q. on q ∙ document_gone (bytes_eq (key w).path q) (λ v. bytes_eq (key v).path q) (messages_on documents q) m w ws refl one (indexed.by_document q) ∙ passed (λ v. bytes_eq (key v).path q);
      }

  -- a request that was indexed, and let go again
  id_back : (b : Bool) (m : ℕ) (o : Option ℕ) (ws : List W) → option_to_list o ≡ map (number_by key) ws → (b ≡ true → ws ≡ []) → option_to_list (if b then None else (if b then Some m else o)) ≡ map (number_by key) ws
  id_back true m o ws e none = ap (map (number_by key)) (sym (none refl))
  id_back false m o ws e none = e

  pub taken_back : (old new : BTreeMap ℕ W) (ids ids' ids'' : Ids) (documents documents'' : Documents) (w : W)
      → IsIndexed key old ids documents → list_any (has_id_by key (key w).id) (values old) ≡ false → IsOrdered nat_cmp new → new.entries ≡ old.entries
      → ((i : Id) → message_by ids' i ≡ (if same_id (key w).id i then Some (key w).message else message_by ids i))
      → ((i : Id) → message_by ids'' i ≡ (if same_id (key w).id i then None else message_by ids' i))
      → ((q : List ℕ) → messages_on documents'' q ≡ messages_on documents q)
      → IsIndexed key new ids'' documents''
  taken_back old new ids ids' ids'' documents documents'' w indexed free ordered is put let_go on =
      let ws = values old in
      let same : ws ≡ values new = ap values_of (sym is) in
      record {
        ordered = ordered;
        keyed = subst Keyed (sym is) indexed.keyed;
        by_id = λ i.
            ap option_to_list (let_go i ∙ ap (λ (o : Option ℕ). if same_id (key w).id i then None else o) (put i))
            ∙ ap (λ (b : Bool). option_to_list (if b then None else (if b then Some (key w).message else message_by ids i))) (same_id_flip (key w).id i)
            ∙ id_back (same_id i (key w).id) (key w).message (message_by ids i) (filter (λ v. same_id i (key v).id) ws) (indexed.by_id i) (none_has_as i (key w).id ws free)
            ∙ ap (λ (vs : List W). map (number_by key) (filter (λ v. same_id i (key v).id) vs)) same;
        by_document = λ q. on q ∙ indexed.by_document q ∙ ap (λ (vs : List W). map (number_by key) (filter (λ v. bytes_eq (key v).path q) vs)) same;
      }

  pub document_back : (old : BTreeMap ℕ W) (ids : Ids) (documents documents' documents'' : Documents) (w : W)
      → IsIndexed key old ids documents → Below (key w).message (values old)
      → ((q : List ℕ) → messages_on documents' q ≡ (if bytes_eq (key w).path q then messages_on documents q ++ (key w).message ∷ [] else messages_on documents q))
      → ((q : List ℕ) → messages_on documents'' q ≡ (if bytes_eq (key w).path q then without (key w).message (messages_on documents' q) else messages_on documents' q))
      → (q : List ℕ) → messages_on documents'' q ≡ messages_on documents q
  document_back old ids documents documents' documents'' w indexed below put let_go q =
      let_go q
      ∙ ap (λ (ns : List ℕ). if bytes_eq (key w).path q then without (key w).message ns else ns) (put q)
      ∙ document_back_by (bytes_eq (key w).path q) (key w).message (messages_on documents q)
      (subst (AllByRecursion (λ n. n < (key w).message)) (sym (indexed.by_document q)) (numbers_below (λ v. bytes_eq (key v).path q) (key w).message (values old) below))

  -- ---- what a look-up says of those that are meant

  any_by : (b : Bool) (w : W) (ws : List W) (c : Bool) → c ≡ not (is_nil ws) → (b || c) ≡ not (is_nil (cond b (w ∷ ws) ws))
  any_by true w ws c e = refl
  any_by false w ws c e = e

  any_filter : (p : W → Bool) (ws : List W) → list_any p ws ≡ not (is_nil (filter p ws))
  any_filter p [] = refl
  any_filter p (w ∷ ws) = any_by (p w) w (filter p ws) (list_any p ws) (any_filter p ws)

  some_if : (o : Option ℕ) (ws : List W) → option_to_list o ≡ map (number_by key) ws → is_some o ≡ not (is_nil ws)
  some_if None [] e = refl
  some_if None (w ∷ ws) e = absurd (cc)
  some_if (Some n) [] e = absurd (cc)
  some_if (Some n) (w ∷ ws) e = refl

  -- one is found where one is meant
  pub some_meant : (o : Option ℕ) (p : W → Bool) (ws : List W) → option_to_list o ≡ map (number_by key) (filter p ws) → is_some o ≡ list_any p ws
  some_meant o p ws e = some_if o (filter p ws) e ∙ sym (any_filter p ws)

  pub numbers_at : (o : Option W) → option_to_list (option_map (number_by key) o) ≡ map (number_by key) (option_to_list o)
  numbers_at None = refl
  numbers_at (Some w) = refl

  -- all are meant where as many are meant as wait
  nil_by : (some none : List W) (n : ℕ) → length some + length none ≡ n → nat_eq n (length some) ≡ is_nil none
  nil_by some [] n e = eq-eqb n (length some) (omega (arith, e))
  nil_by some (w ∷ ws) n e = ne_eqb n (length some) (λ h. omega (arith, e, h))

  pub all_meant : (p : W → Bool) (ws : List W) → nat_eq (length ws) (length (filter p ws)) ≡ is_nil (filter (λ w. not (p w)) ws)
  all_meant p ws = nil_by (filter p ws) (filter (λ w. not (p w)) ws) (length ws) (length-filter_both p (λ w. not (p w)) (λ w. refl) ws)

  -- ---- the number of the first that is meant is that of no other

  alone_at : (o : Option W) (p : W → Bool) (m : ℕ) (x : W) (xs ws : List W) → filter (on_number m) ws ≡ option_to_list o → filter p (option_to_list o) ≡ x ∷ xs
      → AllByRecursion (λ (w : W). nat_eq (key w).message m ≡ true → p w ≡ true) ws
  alone_at None p m x xs ws one hit = absurd (cc)
  alone_at (Some w) p m x xs ws one hit = all_passing (on_number m) (λ v. p v ≡ true) ws (subst (AllByRecursion (λ (v : W). p v ≡ true)) (sym one) (hit_by (p w) w x xs refl hit, tt))
    where
      hit_by : (b : Bool) (w x : W) (xs : List W) → p w ≡ b → cond b (w ∷ []) [] ≡ x ∷ xs → p w ≡ true
      hit_by true w x xs e h = e
      hit_by false w x xs e h = absurd (cc)

  alone_by : (es : Entries) (p : W → Bool) (some : List W) → Keyed es → Sorted es → filter p (values_of es) ≡ some
      → IfSome (slice_get (map (number_by key) some) 0) (λ m. AllByRecursion (λ (w : W). nat_eq (key w).message m ≡ true → p w ≡ true) (values_of es))
  alone_by es p [] keyed s is = tt
  alone_by es p (x ∷ xs) keyed s is =
      let m : ℕ = (number_by key) x in
      let one = at_number m es keyed s in
      let front : filter (on_number m) (x ∷ xs) ≡ x ∷ filter (on_number m) xs = ap (λ (b : Bool). cond b (x ∷ filter (on_number m) xs) (filter (on_number m) xs)) (eq-eqb m m refl) in
      alone_at (lookup (is_at (nat_cmp m)) es) p m x (filter (on_number m) xs) (values_of es) one
      (ap (filter p) (sym one) ∙ filter_swap p (on_number m) (values_of es) ∙ ap (filter (on_number m)) is ∙ front)

  pub alone : (es : Entries) (p : W → Bool) (o : Option ℕ) → Keyed es → Sorted es → o ≡ slice_get (map (number_by key) (filter p (values_of es))) 0
      → IfSome o (λ m. AllByRecursion (λ (w : W). nat_eq (key w).message m ≡ true → p w ≡ true) (values_of es))
  alone es p o keyed s e =
      subst (λ (r : Option ℕ). IfSome r (λ m. AllByRecursion (λ (w : W). nat_eq (key w).message m ≡ true → p w ≡ true) (values_of es))) (sym e)
      (alone_by es p (filter p (values_of es)) keyed s refl)

  -- ---- those at the numbers of those that are meant

  later_stands : (e : ℕ × W) (es : Entries) (ws : List W) → AllByRecursion (λ (w : W). nat_cmp e.0 (key w).message ≡ Less) ws → AllByRecursion (λ (w : W). lookup (is_at (nat_cmp (key w).message)) es ≡ Some w) ws
      → AllByRecursion (λ (w : W). lookup (is_at (nat_cmp (key w).message)) (e ∷ es) ≡ Some w) ws
  later_stands e es [] above all = tt
  later_stands e es (w ∷ ws) above all =
      let lt : e.0 < (key w).message = ranked e.0 (key w).message Less (sym above.0) in
      (rw (is_at_number (key w).message e.0, ne_eqb e.0 (key w).message (λ h. omega arith)) all.0, later_stands e es ws above.1 all.1)

  later_keys : (n : ℕ) (es : Entries) → Keyed es → AllByRecursion (λ k. nat_cmp n k ≡ Less) (keys_of es) → AllByRecursion (λ (w : W). nat_cmp n (key w).message ≡ Less) (values_of es)
  later_keys n [] keyed above = tt
  later_keys n (e ∷ es) keyed above = (subst (λ (k : ℕ). nat_cmp n k ≡ Less) keyed.0 above.0, later_keys n es keyed.1 above.1)

  all_stand : (es : Entries) → Keyed es → Sorted es → AllByRecursion (λ (w : W). lookup (is_at (nat_cmp (key w).message)) es ≡ Some w) (values_of es)
  all_stand [] keyed s = tt
  all_stand (e ∷ es) keyed s = (
    rw (at_test (key e.1).message e keyed.0, eq-eqb (key e.1).message (key e.1).message refl) refl,
    later_stands e es (values_of es) (later_keys e.0 es keyed.1 (sorted_head nat_cmp e.0 (keys_of es) s)) (all_stand es keyed.1 (sorted_tail nat_cmp e.0 (keys_of es) s)),
  )

  found_each : (waiting : BTreeMap ℕ W) (ws : List W) → AllByRecursion (λ (w : W). get nat_cmp waiting (key w).message ≡ Some w) ws → found_in waiting (map (number_by key) ws) ≡ ws
  found_each waiting [] all = refl
  found_each waiting (w ∷ ws) all = rw (all.0, found_each waiting ws all.1) refl

  pub found_all : (waiting : BTreeMap ℕ W) (p : W → Bool) → Keyed waiting.entries → Sorted waiting.entries → found_in waiting (map (number_by key) (filter p (values waiting))) ≡ filter p (values waiting)
  found_all waiting p keyed s =
      found_each waiting (filter p (values waiting)) (all_left (λ (w : W). get nat_cmp waiting (key w).message ≡ Some w) _ p (values waiting) (λ w h. h) (all_stand waiting.entries keyed s))

  -- ---- letting one after the other go

  pub passed_over : (p : W → Bool) (m : ℕ) (ws : List W) → AllByRecursion (λ (w : W). nat_eq (key w).message m ≡ true → p w ≡ true) ws
      → filter (λ w. not (p w)) (filter (off_number m) ws) ≡ filter (λ w. not (p w)) ws
  passed_over p m ws all = kept_without (λ w. not (p w)) m ws (turned ws all)
    where
      turned : (vs : List W) → AllByRecursion (λ (w : W). nat_eq (key w).message m ≡ true → p w ≡ true) vs → AllByRecursion (λ (w : W). nat_eq (key w).message m ≡ true → not (p w) ≡ false) vs
      turned [] h = tt
      turned (v ∷ vs) h = (λ e. ap not (h.0 e), turned vs h.1)

  off_fewer : (m : ℕ) (ws : List W) → length (filter (off_number m) ws) ≤ length ws
  off_fewer m ws = let both = length-filter_both (on_number m) (off_number m) (λ w. refl) ws in omega (arith, both)

  fewer_by : (b : Bool) (w : W) (xs ws : List W) → length xs ≤ length ws → (b ≡ false → length xs < length ws) → length (cond (not b) (w ∷ xs) xs) < length (w ∷ ws)
  fewer_by true w xs ws le lt = omega (arith, le)
  fewer_by false w xs ws le lt = let l = lt refl in omega (arith, l)

  first_by : (b : Bool) (p : W → Bool) (m : ℕ) (w : W) (ws some : List W) → nat_eq (key w).message m ≡ false → Some m ≡ slice_get (map (number_by key) (cond b (w ∷ some) some)) 0 → Some m ≡ slice_get (map (number_by key) some) 0
  first_by true p m w ws some other e = absurd (false≢true (sym other ∙ eq-eqb (key w).message m (sym (ap (λ (o : Option ℕ). unwrap_or o 0) e))))
  first_by false p m w ws some other e = e

  pub fewer : (p : W → Bool) (m : ℕ) (ws : List W) → Some m ≡ slice_get (map (number_by key) (filter p ws)) 0 → length (filter (off_number m) ws) < length ws
  fewer p m [] e = absurd (cc)
  fewer p m (w ∷ ws) e =
      fewer_by (nat_eq (key w).message m) w (filter (off_number m) ws) ws (off_fewer m ws) (λ other. fewer p m ws (first_by (p w) p m w ws (filter p ws) other e))

  none_by : (b : Bool) (w : W) (some : List W) → None ≡ slice_get (map (number_by key) (cond b (w ∷ some) some)) 0 → (b ≡ false) × (None ≡ slice_get (map (number_by key) some) 0)
  none_by true w some e = absurd (cc)
  none_by false w some e = (refl, e)

  pub none_meant : (p : W → Bool) (ws : List W) → None ≡ slice_get (map (number_by key) (filter p ws)) 0 → filter (λ w. not (p w)) ws ≡ ws
  none_meant p [] e = refl
  none_meant p (w ∷ ws) e = let h = none_by (p w) w (filter p ws) e in rw (h.0, none_meant p ws h.1) refl
