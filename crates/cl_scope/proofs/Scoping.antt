-- What the tables of open scopes tell.
use Rattle.std.proofs.Common.{◌≡◌, ℕ, zero, suc, ◌-◌, ◌+◌, ◌^◌, ◌<◌, ◌≤◌, nat_lt, ◌&&◌, map, if◌then◌else◌, Bool, true, false, List, [], ◌∷◌, ◌++◌, length, reverse, refl, sym, ap, subst, ◌∙◌, arith, rules, length-append}
use Rattle.std.specs.Prelude.{Option, Some, None, slice_get}
use Rattle.std.specs.Option.{is_some}
use Rattle.std.specs.Ordering.{nat_cmp}
use Rattle.std.specs.Cmp.Lexicographic.{slice_cmp}
use Rattle.std.specs.BTreeMap.{BTreeMap, get}
use Rattle.std.proofs.lemmas.Grind.{common_steps}
use Rattle.std.proofs.lemmas.List.{length-reverse}
use Rattle.std.proofs.lemmas.Option.{same_Some}
use Rattle.cl_types.specs.declared.types.DeclNo.{DeclNo}
use Rattle.cl_scope.specs.declared.history.Local.{Local}
use Rattle.cl_scope.specs.declared.history.Entry.{Entry}
use Rattle.cl_scope.specs.declared.history.Entry.TheVariants.{Begin, Named}
use Rattle.cl_scope.specs.declared.history.Local.TheVariants.{Ordinary, Tags, Labels}
use Rattle.cl_scope.specs.declared.open.Slot.{Slot}
use Rattle.cl_scope.specs.declared.open.Heads.{Heads}
use Rattle.cl_scope.specs.Names.{is_name}
use Rattle.cl_scope.specs.Trail.{seen, seen_here, binds, one_space}
use Rattle.cl_scope.specs.code.Open.{newest, beginning, is_before, slots_of, trail_of, head_of, head_by, number_of, number_in, number_by, IsIndexed}
use Rattle.cl_scope.proofs.Naming.{one_name, own_name}

reverse_more : {X : Type 0} (xs : List X) (x : X) → reverse (x ∷ xs) ≡ reverse xs ++ x ∷ []
reverse_more xs x = search (rules, common_steps)

pub at_end : {X : Type 0} (xs : List X) (y : X) → slice_get (xs ++ y ∷ []) (length xs) ≡ Some y
at_end [] y = refl
at_end (x ∷ xs) y = first_of (search (rules, at_end xs y), grind (arith, common_steps, at_end xs y))

pub before_end : {X : Type 0} (xs : List X) (y : X) (i : ℕ) → i < length xs → slice_get (xs ++ y ∷ []) i ≡ slice_get xs i
before_end [] y i h = absurd (omega (arith, h))
before_end (x ∷ xs) y zero h = refl
before_end (x ∷ xs) y (suc i) h = let less : i < length xs = omega (arith, h) in before_end xs y i less

turned : {X : Type 0} (xs ys : List X) → reverse xs ≡ ys → xs ≡ reverse ys
turned xs ys e = search (rules, common_steps, e)

-- a name without an entry isn't seen
not_named : (b : Bool) (i : ℕ) (n : DeclNo) (o : Option ℕ) (v : Option DeclNo) → (o ≡ None → v ≡ None) → (if b then Some i else o) ≡ None → (if b then Some n else v) ≡ None
not_named true i n o v ih e = search (rules, e)
not_named false i n o v ih e = ih e

not_found : (t : List Entry) (space : Local) (name : List ℕ) → newest t space name ≡ None → seen t space name ≡ None
not_found [] space name e = refl
not_found (Begin ∷ past) space name e = not_found past space name e
not_found (Named s m n ∷ past) space name e = not_named (binds s m space name) (length past) n (newest past space name) (seen past space name) (not_found past space name) e

slots_length : (t : List Entry) → length (slots_of t) ≡ length t
slots_length [] = refl
slots_length (Begin ∷ past) = grind (arith, slots_length past)
slots_length (Named s m n ∷ past) = grind (arith, slots_length past)

named_within : (b : Bool) (past : List Entry) (n : Entry) (o : Option ℕ) (i : ℕ) → (o ≡ Some i → i < length past) → (if b then Some (length past) else o) ≡ Some i → i < length (n ∷ past)
named_within true past n o i ih e = let same : length past ≡ i = same_Some _ _ e in grind (arith, same)
named_within false past n o i ih e = let less : i < length past = ih e in grind (arith, less)

newest_within : (t : List Entry) (space : Local) (name : List ℕ) (i : ℕ) → newest t space name ≡ Some i → i < length t
newest_within [] space name i e = search (rules, e)
newest_within (Begin ∷ past) space name i e = let h = newest_within past space name i e in grind (arith, h)
newest_within (Named s m n ∷ past) space name i e = named_within (binds s m space name) past (Named s m n) (newest past space name) i (newest_within past space name i) e

begin_within : (t : List Entry) (i : ℕ) → beginning t ≡ Some i → i < length t
begin_within [] i e = search (rules, e)
begin_within (Begin ∷ past) i e = let same : length past ≡ i = same_Some _ _ e in grind (arith, same)
begin_within (Named s m n ∷ past) i e = let h = begin_within past i e in grind (arith, h)

reversed_within : (t : List Entry) (i : ℕ) → i < length t → i < length (reverse (slots_of t))
reversed_within t i h = rw (length-reverse (slots_of t), slots_length t) h

one_more : (t : List Entry) (slot : Slot) (i : ℕ) → i < length t → number_in (reverse (slot ∷ slots_of t)) i ≡ number_in (reverse (slots_of t)) i
one_more t slot i h = ap number_of (ap (λ (xs : List Slot). slice_get xs i) (reverse_more (slots_of t) slot) ∙ before_end (reverse (slots_of t)) slot i (reversed_within t i h))

last_one : (t : List Entry) (slot : Slot) → number_in (reverse (slot ∷ slots_of t)) (length t) ≡ number_by slot.entry
last_one t slot =
    let size : length t ≡ length (reverse (slots_of t)) = sym (length-reverse (slots_of t) ∙ slots_length t) in
    ap number_of (ap (λ (xs : List Slot). slice_get xs (length t)) (reverse_more (slots_of t) slot)
    ∙ ap (λ (n : ℕ). slice_get (reverse (slots_of t) ++ slot ∷ []) n) size ∙ at_end (reverse (slots_of t)) slot)

found_named : (b : Bool) (past : List Entry) (slot : Slot) (n : DeclNo) (space : Local) (name : List ℕ) (i : ℕ) → number_by slot.entry ≡ Some n
    → (newest past space name ≡ Some i → seen past space name ≡ number_in (reverse (slots_of past)) i)
    → (if b then Some (length past) else newest past space name) ≡ Some i
    → (if b then Some n else seen past space name) ≡ number_in (reverse (slot ∷ slots_of past)) i
found_named true past slot n space name i own ih e =
    let at : length past ≡ i = same_Some _ _ e in
    subst (λ (m : ℕ). Some n ≡ number_in (reverse (slot ∷ slots_of past)) m) at (sym (last_one past slot ∙ own))
found_named false past slot n space name i own ih e = ih e ∙ sym (one_more past slot i (newest_within past space name i e))

-- the newest entry of a name gives its number
found : (t : List Entry) (space : Local) (name : List ℕ) (i : ℕ) → newest t space name ≡ Some i → seen t space name ≡ number_in (reverse (slots_of t)) i
found [] space name i e = search rules
found (Begin ∷ past) space name i e = found past space name i e ∙ sym (one_more past (record { entry = Begin; hidden = beginning past }) i (newest_within past space name i e))
found (Named s m n ∷ past) space name i e =
    found_named (binds s m space name) past (record { entry = Named s m n; hidden = newest past s m }) n space name i refl (found past space name i) e

abbrev pub if_within : Bool → Option DeclNo → Option DeclNo
if_within true v = None
if_within false v = v

abbrev pub here_by : Option ℕ → Option ℕ → Option DeclNo → Option DeclNo
here_by begin None v = None
here_by begin (Some i) v = if_within (is_before i begin) v

here_opened : (past : List Entry) (space : Local) (name : List ℕ) (v : Option DeclNo) (o : Option ℕ) → newest past space name ≡ o → None ≡ here_by (Some (length past)) o v
here_opened past space name v None e = refl
here_opened past space name v (Some i) e =
    let within : i < length past = newest_within past space name i e in
    let before : nat_lt i (length past) ≡ true = grind (arith, within) in rw before refl

here_named : (b : Bool) (past : List Entry) (n : DeclNo) (here visible : Option DeclNo) (o begin : Option ℕ) → beginning past ≡ begin → here ≡ here_by begin o visible
    → (if b then Some n else here) ≡ here_by begin (if b then Some (length past) else o) (if b then Some n else visible)
here_named true past n here visible o None w e = refl
here_named true past n here visible o (Some k) w e =
    let less : k < length past = begin_within past k w in
    let after : nat_lt (length past) k ≡ false = grind (arith, less) in rw after refl
here_named false past n here visible o begin w e = e

here_is : (t : List Entry) (space : Local) (name : List ℕ) → seen_here t space name ≡ here_by (beginning t) (newest t space name) (seen t space name)
here_is [] space name = refl
here_is (Begin ∷ past) space name = here_opened past space name (seen past space name) (newest past space name) refl
here_is (Named s m n ∷ past) space name =
    here_named (binds s m space name) past n (seen_here past space name) (seen past space name) (newest past space name) (beginning past) refl (here_is past space name)

-- ---- in the code's terms

pub seen_none : (t : List Entry) (space : Local) (name : List ℕ) → None ≡ newest t space name → None ≡ seen t space name
seen_none t space name e = sym (not_found t space name (sym e))

pub seen_some : (lent slots : List Slot) (t now : List Entry) (space : Local) (name : List ℕ) (i : ℕ)
    → lent ≡ slots → reverse slots ≡ slots_of t → t ≡ now → Some i ≡ newest now space name → number_in lent i ≡ seen now space name
seen_some lent slots t now space name i s r v e =
    let all : lent ≡ reverse (slots_of now) = s ∙ turned slots (slots_of t) r ∙ ap (λ (u : List Entry). reverse (slots_of u)) v in
    ap (λ (xs : List Slot). number_in xs i) all ∙ sym (found now space name i (sym e))

pub here_none : (t : List Entry) (space : Local) (name : List ℕ) → None ≡ newest t space name → None ≡ seen_here t space name
here_none t space name e = sym (here_is t space name ∙ ap (λ (o : Option ℕ). here_by (beginning t) o (seen t space name)) (sym e))

pub here_some : (t : List Entry) (space : Local) (name : List ℕ) (i : ℕ) (b : Bool) → Some i ≡ newest t space name → b ≡ is_before i (beginning t)
    → if_within b (seen t space name) ≡ seen_here t space name
here_some t space name i b e h =
    ap (λ (c : Bool). if_within c (seen t space name)) h ∙ sym (here_is t space name ∙ ap (λ (o : Option ℕ). here_by (beginning t) o (seen t space name)) (sym e))

-- ---- changes

turned_more : (xs : List Slot) (x : Slot) → reverse (xs ++ x ∷ []) ≡ x ∷ reverse xs
turned_more xs x = search (rules, common_steps)

pub trail_more : (slots : List Slot) (s : Slot) → trail_of (slots ++ s ∷ []) ≡ s.entry ∷ trail_of slots
trail_more slots s = ap (map (λ (s : Slot). s.entry)) (turned_more slots s)

trail_length : (slots : List Slot) → length (trail_of slots) ≡ length slots
trail_length slots = search (rules, common_steps, length-reverse slots)

pub pushed : (slots more : List Slot) (begin : Option ℕ) (heads more_heads : BTreeMap (List ℕ) Heads) (space : Local) (name own key : List ℕ) (n : DeclNo) (hidden : Option ℕ) (at : ℕ) (now : List Entry)
    → IsIndexed slots begin heads → trail_of slots ≡ now → own ≡ name → key ≡ name → more ≡ slots ++ record { entry = Named space own n; hidden = hidden } ∷ [] → length more < 2 ^ 32
    → hidden ≡ newest now space name → at ≡ length slots
    → ((other : Local) (called : List ℕ) → head_of more_heads other called ≡ (if binds space key other called then Some at else head_of heads other called))
    → IsIndexed more begin more_heads
pushed slots more begin heads more_heads space name own key n hidden at now old v eo ek f room h len put =
    let slot : Slot = record { entry = Named space name n; hidden = hidden } in
    let e : more ≡ slots ++ slot ∷ [] = f ∙ ap (λ (m : List ℕ). slots ++ record { entry = Named space m n; hidden = hidden } ∷ []) eo in
    let trail : trail_of more ≡ Named space name n ∷ trail_of slots = ap trail_of e ∙ trail_more slots slot in
    let turned : reverse more ≡ slot ∷ reverse slots = ap reverse e ∙ turned_more slots slot in
    record {
      hides = turned ∙ ap (λ (xs : List Slot). slot ∷ xs) old.hides
          ∙ ap (λ (o : Option ℕ). record { entry = Named space name n; hidden = o } ∷ slots_of (trail_of slots)) (h ∙ ap (λ (t : List Entry). newest t space name) (sym v))
          ∙ ap slots_of (sym trail);
      begins = old.begins ∙ ap beginning (sym trail);
      newests = λ other called. put other called
          ∙ ap (λ (k : List ℕ). if binds space k other called then Some at else head_of heads other called) ek
          ∙ ap (λ (m : ℕ). if binds space name other called then Some m else head_of heads other called) (len ∙ sym (trail_length slots))
          ∙ ap (λ (o : Option ℕ). if binds space name other called then Some (length (trail_of slots)) else o) (old.newests other called)
          ∙ ap (λ (t : List Entry). newest t other called) (sym trail);
      room = room;
    }

same_cons : {X : Type 0} (x y : X) (xs ys : List X) → x ∷ xs ≡ y ∷ ys → (x ≡ y) × (xs ≡ ys)
same_cons {X = X} x y xs ys e = (ap (λ (zs : List X). head_or x zs) e, ap rest_of e)
  where
    head_or : X → List X → X
    head_or d [] = d
    head_or d (z ∷ zs) = z

    rest_of : List X → List X
    rest_of [] = []
    rest_of (z ∷ zs) = zs

-- after the begin of a scope is gone
pub popped_begin : (slots rest : List Slot) (slot : Slot) (begin : Option ℕ) (heads : BTreeMap (List ℕ) Heads)
    → IsIndexed slots begin heads → slots ≡ rest ++ slot ∷ [] → slot.entry ≡ Begin → IsIndexed rest slot.hidden heads
popped_begin slots rest slot begin heads old f is =
    let e : slots ≡ rest ++ record { entry = Begin; hidden = slot.hidden } ∷ [] = f ∙ ap (λ (en : Entry). rest ++ record { entry = en; hidden = slot.hidden } ∷ []) is in
    let trail : trail_of slots ≡ Begin ∷ trail_of rest = ap trail_of e ∙ trail_more rest (record { entry = Begin; hidden = slot.hidden }) in
    let all : record { entry = Begin; hidden = slot.hidden } ∷ reverse rest ≡ record { entry = Begin; hidden = beginning (trail_of rest) } ∷ slots_of (trail_of rest) =
    sym (ap reverse e ∙ turned_more rest (record { entry = Begin; hidden = slot.hidden })) ∙ old.hides ∙ ap slots_of trail in
    let parts = same_cons (record { entry = Begin; hidden = slot.hidden }) (record { entry = Begin; hidden = beginning (trail_of rest) }) (reverse rest) (slots_of (trail_of rest)) all in
    let size : length slots ≡ length rest + 1 = ap length e ∙ length-append rest (record { entry = Begin; hidden = slot.hidden } ∷ []) in
    record {
      hides = parts.1;
      begins = ap (λ (s : Slot). s.hidden) parts.0;
      newests = λ other called. old.newests other called ∙ ap (λ (t : List Entry). newest t other called) trail;
      room = let r = old.room in omega (arith, r, size);
    }

pub named_slot : (slots rest : List Slot) (slot : Slot) (space : Local) (name : List ℕ) (n : DeclNo) → slots ≡ rest ++ slot ∷ [] → slot.entry ≡ Named space name n
    → slots ≡ rest ++ record { entry = Named space name n; hidden = slot.hidden } ∷ []
named_slot slots rest slot space name n f is = f ∙ ap (λ (en : Entry). rest ++ record { entry = en; hidden = slot.hidden } ∷ []) is

-- the newest name has a head
pub has_head : (slots : List Slot) (begin : Option ℕ) (heads : BTreeMap (List ℕ) Heads) (rest : List Slot) (space : Local) (name : List ℕ) (n : DeclNo) (hidden : Option ℕ)
    → IsIndexed slots begin heads → slots ≡ rest ++ record { entry = Named space name n; hidden = hidden } ∷ [] → is_some (get (slice_cmp nat_cmp) heads name) ≡ true
has_head slots begin heads rest space name n hidden old e =
    let trail : trail_of slots ≡ Named space name n ∷ trail_of rest = ap trail_of e ∙ trail_more rest (record { entry = Named space name n; hidden = hidden }) in
    let head : head_of heads space name ≡ Some (length (trail_of rest)) = old.newests space name ∙ ap (λ (t : List Entry). newest t space name) trail
    ∙ ap (λ (b : Bool). if b then Some (length (trail_of rest)) else newest (trail_of rest) space name) (binds_own space name) in
    there (get (slice_cmp nat_cmp) heads name) head
  where
    binds_own : (s : Local) (name : List ℕ) → binds s name s name ≡ true
    binds_own Ordinary name = own_name name name refl
    binds_own Tags name = own_name name name refl
    binds_own Labels name = own_name name name refl

    there : (o : Option Heads) → head_by o space ≡ Some (length (trail_of rest)) → is_some o ≡ true
    there None h = search (rules, h)
    there (Some x) h = refl

one_local : (a b : Local) → one_space a b ≡ true → a ≡ b
one_local Ordinary Ordinary e = refl
one_local Tags Tags e = refl
one_local Labels Labels e = refl
one_local Ordinary Tags e = search (rules, e)
one_local Ordinary Labels e = search (rules, e)
one_local Tags Ordinary e = search (rules, e)
one_local Tags Labels e = search (rules, e)
one_local Labels Ordinary e = search (rules, e)
one_local Labels Tags e = search (rules, e)

pub both : (a b : Bool) → (a && b) ≡ true → (a ≡ true) × (b ≡ true)
both true b h = (refl, h)
both false b h = search (rules, h)

same_newest : (t : List Entry) (space other : Local) (name called : List ℕ) → binds space name other called ≡ true → newest t space name ≡ newest t other called
same_newest t space other name called h =
    let two = both (one_space space other) (is_name name called) h in
    ap (λ (s : Local). newest t s name) (one_local space other two.0) ∙ ap (λ (m : List ℕ). newest t other m) (one_name name called two.1)

pub binds_alike : (t : List Entry) (space other : Local) (name called : List ℕ) → binds space name other called ≡ true → seen_here t space name ≡ seen_here t other called
binds_alike t space other name called h =
    let two = both (one_space space other) (is_name name called) h in
    ap (λ (s : Local). seen_here t s name) (one_local space other two.0) ∙ ap (λ (m : List ℕ). seen_here t other m) (one_name name called two.1)

-- after the newest name is gone
pub popped : (slots rest : List Slot) (begin : Option ℕ) (heads more_heads : BTreeMap (List ℕ) Heads) (space : Local) (name : List ℕ) (n : DeclNo) (hidden : Option ℕ)
    → IsIndexed slots begin heads → slots ≡ rest ++ record { entry = Named space name n; hidden = hidden } ∷ []
    → ((other : Local) (called : List ℕ) → head_of more_heads other called ≡ (if binds space name other called then hidden else head_of heads other called))
    → IsIndexed rest begin more_heads
popped slots rest begin heads more_heads space name n hidden old e put =
    let slot : Slot = record { entry = Named space name n; hidden = hidden } in
    let trail : trail_of slots ≡ Named space name n ∷ trail_of rest = ap trail_of e ∙ trail_more rest slot in
    let all : slot ∷ reverse rest ≡ record { entry = Named space name n; hidden = newest (trail_of rest) space name } ∷ slots_of (trail_of rest) =
    sym (ap reverse e ∙ turned_more rest slot) ∙ old.hides ∙ ap slots_of trail in
    let parts = same_cons slot (record { entry = Named space name n; hidden = newest (trail_of rest) space name }) (reverse rest) (slots_of (trail_of rest)) all in
    let own : hidden ≡ newest (trail_of rest) space name = ap (λ (s : Slot). s.hidden) parts.0 in
    let size : length slots ≡ length rest + 1 = ap length e ∙ length-append rest (slot ∷ []) in
    record {
      hides = parts.1;
      begins = old.begins ∙ ap beginning trail;
      newests = λ other called. put other called
          ∙ by other called (binds space name other called) refl own (head_of heads other called)
          (old.newests other called ∙ ap (λ (t : List Entry). newest t other called) trail);
      room = let r = old.room in omega (arith, r, size);
    }
  where
    by : (other : Local) (called : List ℕ) (b : Bool) → binds space name other called ≡ b → hidden ≡ newest (trail_of rest) space name → (o : Option ℕ)
        → o ≡ (if b then Some (length (trail_of rest)) else newest (trail_of rest) other called)
        → (if b then hidden else o) ≡ newest (trail_of rest) other called
    by other called true t h o f = h ∙ same_newest (trail_of rest) space other name called t
    by other called false t h o f = f
