-- What the declarations so far tell.
use Rattle.std.proofs.Common.{◌≡◌, ℕ, ◌==◌, ◌<◌, if◌then◌else◌, Bool, true, false, List, [], ◌∷◌, ◌++◌, length, refl, sym, ap, subst, ◌∙◌, arith, rules, length-append}
use Rattle.std.specs.Prelude.{Option, Some, None, slice_get}
use Rattle.std.specs.Ordering.{nat_cmp}
use Rattle.std.specs.BTreeMap.{BTreeMap, get}
use Rattle.std.proofs.lemmas.Option.{same_Some}
use Rattle.cl_types.specs.declared.types.DeclNo.{DeclNo}
use Rattle.cl_types.specs.declared.unit.Decl.{Decl}
use Rattle.cl_types.specs.declared.unit.Entity.{Entity}
use Rattle.cl_types.specs.declared.unit.Space.{Space}
use Rattle.cl_types.specs.declared.unit.Linkage.{Linkage}
use Rattle.cl_scope.specs.declared.made.Settled.{Settled}
use Rattle.cl_scope.specs.declared.changed.Outside.{Outside}
use Rattle.cl_scope.specs.declared.changed.Links.{Links}
use Rattle.cl_scope.specs.Known.{Known, extend, so_far, counted, joined, is_of, later, earlier}
use Rattle.cl_scope.specs.Names.{declares, links}
use Rattle.cl_scope.specs.Steps.{or_else}
use Rattle.cl_scope.specs.code.Tables.{Tells, outside_of, link_of, decl_at, decl_of}
use Rattle.cl_scope.proofs.Scoping.{before_end, at_end}

pub so_far_more : (g : Known) (xs ys : List Settled) → so_far g (xs ++ ys) ≡ so_far (so_far g xs) ys
unfolding so_far
so_far_more g [] ys = refl
so_far_more g (s ∷ xs) ys = so_far_more (extend g s.no s.decl) xs ys

pub so_far_last : (g : Known) (xs : List Settled) (s : Settled) → so_far g (xs ++ s ∷ []) ≡ extend (so_far g xs) s.no s.decl
unfolding so_far
so_far_last g xs s = so_far_more g xs (s ∷ [])

pub so_far_counted : (g : Known) (taken : ℕ) (xs : List Settled) → so_far (counted g taken) xs ≡ counted (so_far g xs) taken
unfolding so_far
so_far_counted g taken [] = refl
so_far_counted g taken (s ∷ xs) = so_far_counted (extend g s.no s.decl) taken xs

pub tells_nothing : (g : Known) (settled : List Settled) (outsides : BTreeMap (List ℕ) Outside) (linking : BTreeMap (List ℕ) Links) (entities : BTreeMap ℕ Entity) (latest : BTreeMap ℕ ℕ)
    → settled ≡ [] → outsides.entries ≡ [] → linking.entries ≡ [] → entities.entries ≡ [] → latest.entries ≡ [] → Tells g settled outsides linking entities latest
unfolding so_far
tells_nothing g settled outsides linking entities latest d o l e t = record {
  outside = λ space name. rw (d, o) refl;
  linked = λ name linkage. rw (d, l) refl;
  entity = λ n. rw (d, e) refl;
  decl = λ n. rw (d, t) refl;
  within = λ n i h. let empty : get nat_cmp latest n ≡ None = rw t refl in none_there (sym empty ∙ h);
  count = rw d refl;
}
  where
    none_there : {i : ℕ} {P : Type 0} → None ≡ Some i → P
    none_there h = search (rules, h)

equal_numbers : (a b : ℕ) → (a == b) ≡ true → a ≡ b
equal_numbers a b h = grind (arith, h)

-- an answer that is changed where a test holds
put_answer : {A : Type 0} (b : Bool) (value new : A) (was table base : Option A) → (b ≡ true → value ≡ new) → was ≡ or_else table base
    → (if b then Some value else was) ≡ or_else (if b then Some new else table) base
put_answer true value new was table base e h = ap Some (e refl)
put_answer false value new was table base e h = h

decl_last : (settled : List Settled) (s : Settled) (b : Bool) (was base : Option Decl) (o : Option ℕ) → ((i : ℕ) → o ≡ Some i → i < length settled)
    → was ≡ or_else (decl_at settled o) base
    → (if b then Some s.decl else was) ≡ or_else (decl_at (settled ++ s ∷ []) (if b then Some (length settled) else o)) base
decl_last settled s true was base o w e = ap (λ (x : Option Settled). or_else (decl_of x) base) (sym (at_end settled s))
decl_last settled s false was base None w e = e
decl_last settled s false was base (Some i) w e = e ∙ ap (λ (x : Option Settled). or_else (decl_of x) base) (sym (before_end settled s i (w i refl)))

within_last : (settled : List Settled) (s : Settled) (b : Bool) (o : Option ℕ) (i : ℕ) → ((i : ℕ) → o ≡ Some i → i < length settled)
    → (if b then Some (length settled) else o) ≡ Some i → i < length (settled ++ s ∷ [])
within_last settled s true o i w e = let same : length settled ≡ i = same_Some _ _ e in grind (arith, same, length-append settled (s ∷ []))
within_last settled s false o i w e = let less : i < length settled = w i e in grind (arith, less, length-append settled (s ∷ []))

pub tells_more : (g : Known) (old new : List Settled) (n : DeclNo) (d : Decl)
    (outsides more_outsides : BTreeMap (List ℕ) Outside) (linking more_linking : BTreeMap (List ℕ) Links) (entities more_entities : BTreeMap ℕ Entity) (latest more_latest : BTreeMap ℕ ℕ)
    (last first : Option DeclNo) (high low : DeclNo) (again : Bool) (before : Option Entity) (at : ℕ)
    → Tells g old outsides linking entities latest → new ≡ old ++ record { no = n; decl = d } ∷ []
    → ((space : Space) (name : List ℕ) → declares d space name ≡ true → last ≡ (so_far g old).outside space name)
    → ((name : List ℕ) (linkage : Linkage) → links d name linkage ≡ true → first ≡ (so_far g old).linked name linkage)
    → high ≡ later last n → low ≡ earlier first n
    → again ≡ is_of ((so_far g old).decl n.0) d.first
    → or_else (get nat_cmp entities d.first.0) before ≡ or_else (get nat_cmp entities d.first.0) (g.entity d.first.0)
    → at ≡ length old
    → ((space : Space) (name : List ℕ) → outside_of more_outsides space name ≡ (if declares d space name then Some high else outside_of outsides space name))
    → ((linkage : Linkage) (name : List ℕ) → link_of more_linking name linkage ≡ (if links d name linkage then Some low else link_of linking name linkage))
    → ((q : ℕ) → get nat_cmp more_entities q ≡ (if q == d.first.0 then Some (joined (or_else (get nat_cmp entities q) before) again n d) else get nat_cmp entities q))
    → ((q : ℕ) → get nat_cmp more_latest q ≡ (if q == n.0 then Some at else get nat_cmp latest q))
    → Tells g new more_outsides more_linking more_entities more_latest
tells_more g old new n d outsides more_outsides linking more_linking entities more_entities latest more_latest last first high low again before at tells e el ef hi lo ag be len o l s t =
    let last_one : Settled = record { no = n; decl = d } in
    let so : so_far g new ≡ extend (so_far g old) n d = ap (so_far g) e ∙ so_far_last g old last_one in
    record {
      outside = λ space name. ap (λ (k : Known). k.outside space name) so
          ∙ put_answer (declares d space name) (later ((so_far g old).outside space name) n) high ((so_far g old).outside space name) (outside_of outsides space name) (g.outside space name)
          (λ h. ap (λ (x : Option DeclNo). later x n) (sym (el space name h)) ∙ sym hi) (tells.outside space name)
          ∙ ap (λ (x : Option DeclNo). or_else x (g.outside space name)) (sym (o space name));
      linked = λ name linkage. ap (λ (k : Known). k.linked name linkage) so
          ∙ put_answer (links d name linkage) (earlier ((so_far g old).linked name linkage) n) low ((so_far g old).linked name linkage) (link_of linking name linkage) (g.linked name linkage)
          (λ h. ap (λ (x : Option DeclNo). earlier x n) (sym (ef name linkage h)) ∙ sym lo) (tells.linked name linkage)
          ∙ ap (λ (x : Option DeclNo). or_else x (g.linked name linkage)) (sym (l linkage name));
      entity = λ q. ap (λ (k : Known). k.entity q) so
          ∙ put_answer (q == d.first.0) (joined ((so_far g old).entity q) (is_of ((so_far g old).decl n.0) d.first) n d) (joined (or_else (get nat_cmp entities q) before) again n d)
          ((so_far g old).entity q) (get nat_cmp entities q) (g.entity q)
          (λ h. let same : q ≡ d.first.0 = equal_numbers q d.first.0 h in
          let found : (so_far g old).entity q ≡ or_else (get nat_cmp entities q) before =
          tells.entity q ∙ ap (λ (m : ℕ). or_else (get nat_cmp entities m) (g.entity m)) same ∙ sym be ∙ ap (λ (m : ℕ). or_else (get nat_cmp entities m) before) (sym same) in
          ap (λ (x : Option Entity). joined x (is_of ((so_far g old).decl n.0) d.first) n d) found
          ∙ ap (λ (b : Bool). joined (or_else (get nat_cmp entities q) before) b n d) (sym ag)) (tells.entity q)
          ∙ ap (λ (x : Option Entity). or_else x (g.entity q)) (sym (s q));
      decl = λ q. ap (λ (k : Known). k.decl q) so
          ∙ decl_last old last_one (q == n.0) ((so_far g old).decl q) (g.decl q) (get nat_cmp latest q) (tells.within q) (tells.decl q)
          ∙ ap (λ (m : ℕ). or_else (decl_at (old ++ last_one ∷ []) (if q == n.0 then Some m else get nat_cmp latest q)) (g.decl q)) (sym len)
          ∙ ap (λ (x : Option ℕ). or_else (decl_at (old ++ last_one ∷ []) x) (g.decl q)) (sym (t q))
          ∙ ap (λ (ss : List Settled). or_else (decl_at ss (get nat_cmp more_latest q)) (g.decl q)) (sym e);
      within = λ q i h. let last : (if q == n.0 then Some (length old) else get nat_cmp latest q) ≡ Some i =
          ap (λ (m : ℕ). if q == n.0 then Some m else get nat_cmp latest q) (sym len) ∙ sym (t q) ∙ h in
          subst (λ (ss : List Settled). i < length ss) (sym e) (within_last old last_one (q == n.0) (get nat_cmp latest q) i (tells.within q) last);
      count = ap (λ (k : Known). k.count) so ∙ tells.count;
    }
