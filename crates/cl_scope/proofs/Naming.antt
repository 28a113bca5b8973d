-- Tables by name: what a change says of each name.
use Rattle.std.proofs.Common.{◌≡◌, ℕ, List, Bool, true, false, ◌&&◌, if◌then◌else◌, refl, sym, ap, ◌∙◌, subst, true≢false}
use Rattle.std.proofs.lemmas.Bool.{false_from_ne_true}
use Rattle.std.proofs.lemmas.Slice.Eq.{bytes_eq-Decides}
use Rattle.std.proofs.lemmas.Map.Text.{is_eq-slice_cmp}
use Rattle.std.specs.Prelude.{Option, Some, None, []}
use Rattle.std.specs.Ordering.{nat_cmp, is_eq, eq_by_cmp}
use Rattle.std.specs.Cmp.Lexicographic.{slice_cmp}
use Rattle.std.specs.Map.{KeepsOthers, IsKeyTest, AreApart, lookup}
use Rattle.std.specs.BTreeMap.{BTreeMap, UpdatesBy, get, is_at}
use Rattle.cl_types.specs.declared.types.DeclNo.{DeclNo}
use Rattle.cl_types.specs.declared.unit.Space.{Space}
use Rattle.cl_types.specs.declared.unit.Space.TheVariants as space
use Rattle.cl_scope.specs.declared.changed.Outside.{Outside}
use Rattle.cl_scope.specs.code.Tables.{outside_in}
use Rattle.cl_scope.specs.Names.{is_name}

pub one_name : (s t : List ℕ) → is_name s t ≡ true → s ≡ t
one_name s t e = (bytes_eq-Decides s t).0 (sym (is_eq-slice_cmp s t) ∙ e)

pub own_name : (s t : List ℕ) → s ≡ t → is_name s t ≡ true
own_name s t e = is_eq-slice_cmp s t ∙ (bytes_eq-Decides s t).1 e

others_kept : {K X : Type 0} (eq : K → K → Bool) (test : K → Bool) (old new : List (K × X)) → KeepsOthers eq test old new
    → (other : K → Bool) → IsKeyTest eq other → AreApart test other → lookup other new ≡ lookup other old
unfolding KeepsOthers
others_kept eq test old new keeps other one apart = keeps other one apart

apart : (s t w : List ℕ) → is_name s t ≡ false → is_name s w ≡ true → is_name t w ≡ false
apart s t w e h = false_from_ne_true (is_name t w) (λ f. true≢false (sym (own_name s t (one_name s w h ∙ sym (one_name t w f))) ∙ e))

module _ {V : Type 0} (old new : BTreeMap (List ℕ) V) (s : List ℕ) (o : Option V) where
  put_by : (b : Bool) (t : List ℕ) → is_name s t ≡ b → UpdatesBy (slice_cmp nat_cmp) (slice_cmp nat_cmp s) old new o
      → get (slice_cmp nat_cmp) new t ≡ (if b then o else get (slice_cmp nat_cmp) old t)
  put_by true t e u = subst (λ (w : List ℕ). get (slice_cmp nat_cmp) new w ≡ o) (one_name s t e) u.1
  put_by false t e u =
      let one : IsKeyTest (eq_by_cmp (slice_cmp nat_cmp)) (is_at (slice_cmp nat_cmp t)) = λ x y h. ap (λ (w : List ℕ). is_eq (slice_cmp nat_cmp w y)) (one_name t x h) in
      let keeps : KeepsOthers (eq_by_cmp (slice_cmp nat_cmp)) (is_at (slice_cmp nat_cmp s)) old.entries new.entries = u.3 in
      others_kept _ _ old.entries new.entries keeps (is_at (slice_cmp nat_cmp t)) one (λ k h. apart s t k e h)

  pub name_put : (t : List ℕ) → UpdatesBy (slice_cmp nat_cmp) (slice_cmp nat_cmp s) old new o
      → get (slice_cmp nat_cmp) new t ≡ (if is_name s t then o else get (slice_cmp nat_cmp) old t)
  name_put t u = put_by (is_name s t) t refl u

-- what is read of each name, where one name's entry has changed at one place
module _ {A V W : Type 0} (read : Option V → A → Option W) (g : List ℕ → Option V) (a : A) (v : V) (w : Option W) where
  read_by : (b t : Bool) (name other : List ℕ) (h : Option V) → (t ≡ true → name ≡ other) → h ≡ (if t then Some v else g other)
      → read (Some v) a ≡ (if b then w else read (g name) a) → read h a ≡ (if b && t then w else read (g other) a)
  read_by true true name other h s e f = ap (λ (x : Option V). read x a) e ∙ f
  read_by false true name other h s e f = ap (λ (x : Option V). read x a) e ∙ f ∙ ap (λ (n : List ℕ). read (g n) a) (s refl)
  read_by true false name other h s e f = ap (λ (x : Option V). read x a) e
  read_by false false name other h s e f = ap (λ (x : Option V). read x a) e

  pub read_put : (b : Bool) (name other : List ℕ) (h : Option V) → h ≡ (if is_name name other then Some v else g other)
      → read (Some v) a ≡ (if b then w else read (g name) a) → read h a ≡ (if b && is_name name other then w else read (g other) a)
  read_put b name other h e f = read_by b (is_name name other) name other h (one_name name other) e f

pub nothing_outside : (m : BTreeMap ℕ DeclNo) (o : Option Outside) → m.entries ≡ [] → o ≡ None → (other : Space)
    → outside_in (Some (record { ordinary = None; tag = None; members = m })) other ≡ outside_in o other
nothing_outside m o e n space.Ordinary = rw n refl
nothing_outside m o e n space.Tags = rw n refl
nothing_outside m o e n space.Labels = rw n refl
nothing_outside m o e n (space.MembersOf tag) = rw n (rw e refl)
