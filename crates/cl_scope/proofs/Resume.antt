-- A meaning that goes on over a base says what the whole says: the base takes in what was made before.
use Rattle.std.proofs.Common.{◌≡◌, ℕ, ◌+◌, ◌-◌, if◌then◌else◌, List, [], ◌∷◌, ◌++◌, length, take, refl, sym, ap, ◌∙◌, append_assoc, arith, rules}
use Rattle.std.proofs.lemmas.Grind.{common_steps}
use Rattle.cl_types.specs.declared.types.DeclNo.{DeclNo}
use Rattle.cl_scope.specs.declared.history.Entry.{Entry}
use Rattle.cl_scope.specs.declared.history.Entry.TheVariants.{Begin}
use Rattle.cl_scope.specs.declared.history.Within.{Within}
use Rattle.cl_scope.specs.declared.made.Made.{Made}
use Rattle.cl_scope.specs.declared.made.Settled.{Settled}
use Rattle.cl_scope.specs.Known.{Known, known, known_after, so_far, counted, nothing_known}
use Rattle.cl_scope.specs.Names.{local_of}
use Rattle.cl_scope.specs.Trail as trail
use Rattle.cl_scope.specs.Steps.{Steps, World, run, visible_by, here_by, is_open, kind_by, scope_by, owner_by, top, level, is_content, left_trail}
use Rattle.cl_scope.specs.Steps.Steps.{Stop, Visible, Here, Linked, DeclOf, EntityOf, IsOpen, Where, Enter, Leave, Reserve, Settle, Bind, Means, Tell}
use Rattle.cl_scope.specs.Items.{nothing_made, join, adds, adds_all, StandsFor, OnlyAdds, between_items}
use Rattle.cl_scope.proofs.SoFar.{so_far_more, so_far_counted}

abbrev at : Made → Made → List Within → List Entry → World
at base made levels t = record { base = base; made = made; levels = levels; trail = t }

abbrev joined : Made → Made → World → World
joined g a w = record { base = g; made = join a w.made; levels = w.levels; trail = w.trail }

abbrev so : Made → Made → Made → Known
so g a b = so_far (known g) (a.settled ++ b.settled)

rest_is : (g h : Made) (a b : Made) → StandsFor h g a → so_far (known h) b.settled ≡ counted (so g a b) a.taken
rest_is g h a b e = ap (λ (k : Known). so_far k b.settled) e ∙ so_far_counted (so_far (known g) a.settled) a.taken b.settled
    ∙ ap (λ (k : Known). counted k a.taken) (sym (so_far_more (known g) a.settled b.settled))

module _ (g h : Made) (a : Made) (e : StandsFor h g a) where
  pub resume : (p : Steps) (b : Made) (l : List Within) (t : List Entry) → run p (at g (join a b) l t) ≡ joined g a (run p (at h b l t))
  resume Stop b l t = refl
  resume (Visible space name k) b l t = resume (k (visible_by (so g a b) t space name)) b l t
      ∙ ap (λ (x : Known). joined g a (run (k (visible_by x t space name)) (at h b l t))) (sym (rest_is g h a b e))
  resume (Here space name k) b l t = resume (k (here_by (so g a b) t space name)) b l t
      ∙ ap (λ (x : Known). joined g a (run (k (here_by x t space name)) (at h b l t))) (sym (rest_is g h a b e))
  resume (Linked name linkage k) b l t = resume (k ((so g a b).linked name linkage)) b l t
      ∙ ap (λ (x : Known). joined g a (run (k (x.linked name linkage)) (at h b l t))) (sym (rest_is g h a b e))
  resume (DeclOf n k) b l t = resume (k ((so g a b).decl n.0)) b l t
      ∙ ap (λ (x : Known). joined g a (run (k (x.decl n.0)) (at h b l t))) (sym (rest_is g h a b e))
  resume (EntityOf n k) b l t = resume (k ((so g a b).entity n.0)) b l t
      ∙ ap (λ (x : Known). joined g a (run (k (x.entity n.0)) (at h b l t))) (sym (rest_is g h a b e))
  resume (IsOpen n k) b l t = resume (k (is_open l n)) b l t
  resume (Where k) b l t = resume (k (kind_by (top l)) (scope_by (top l)) (owner_by (top l))) b l t
  resume (Enter kind owner k) b l t = resume k b (l ++ level l kind owner ∷ []) (if is_content kind then t else Begin ∷ t)
  resume (Leave k) b l t = resume k b (take (length l - 1) l) (left_trail (top l) t)
  resume (Reserve k) b l t =
      let number : (so g a b).count + a.taken + b.taken ≡ (so g a b).count + (a.taken + b.taken) = omega arith in
      let more : a.taken + b.taken + 1 ≡ a.taken + (b.taken + 1) = omega arith in
      let next : (so_far (known h) b.settled).count + b.taken ≡ (so g a b).count + (a.taken + b.taken) = ap (λ (x : Known). x.count + b.taken) (rest_is g h a b e) ∙ number in
      ap (λ (m : ℕ). run (k (record { 0 = (so g a b).count + (a.taken + b.taken) })) (at g (record (join a b) { taken = m }) l t)) more
      ∙ resume (k (record { 0 = (so g a b).count + (a.taken + b.taken) })) (record b { taken = b.taken + 1 }) l t
      ∙ ap (λ (m : ℕ). joined g a (run (k (record { 0 = m })) (at h (record b { taken = b.taken + 1 }) l t))) (sym next)
  resume (Settle n d k) b l t =
      ap (λ (ss : List Settled). run k (at g (record (join a b) { settled = ss }) l t)) (append_assoc a.settled b.settled (record { no = n; decl = d } ∷ []))
      ∙ resume k (record b { settled = b.settled ++ record { no = n; decl = d } ∷ [] }) l t
  resume (Bind space name n k) b l t = resume k b l (trail.named t (local_of space) name n)
  resume (Means u k) b l t =
      ap (λ us. run k (at g (record (join a b) { uses = us }) l t)) (append_assoc a.uses b.uses (u ∷ []))
      ∙ resume k (record b { uses = b.uses ++ u ∷ [] }) l t
  resume (Tell f k) b l t =
      ap (λ fs. run k (at g (record (join a b) { facts = fs }) l t)) (append_assoc a.facts b.facts (f ∷ []))
      ∙ resume k (record b { facts = b.facts ++ f ∷ [] }) l t

front_back : (g made : Made) (front back : List Steps) → adds_all g made (front ++ back) ≡ adds_all g (adds_all g made front) back
unfolding adds_all
front_back g made [] back = refl
front_back g made (item ∷ front) back = front_back g (adds g made item) front back

module _ (g h : Made) (first : Made) (e : StandsFor h g first) where
  one : (more : Made) (item : Steps) → adds g (join first more) item ≡ join first (adds h more item)
  one more item = ap (λ (w : World). w.made) (resume g h first e item more [] [])

  all : (more : Made) (items : List Steps) → adds_all g (join first more) items ≡ join first (adds_all h more items)
  unfolding adds_all
  all more [] = refl
  all more (item ∷ items) = ap (λ (m : Made). adds_all g m items) (one more item) ∙ all (adds h more item) items

alone : (a : Made) → a ≡ join a nothing_made
alone a = search rules

pub resumes_all : (g h : Made) (front back : List Steps) → StandsFor h g (adds_all g nothing_made front)
    → adds_all g nothing_made (front ++ back) ≡ join (adds_all g nothing_made front) (adds_all h nothing_made back)
resumes_all g h front back e =
    let first : Made = adds_all g nothing_made front in
    front_back g nothing_made front back ∙ ap (λ (m : Made). adds_all g m back) (alone first) ∙ all g h first e nothing_made back

-- the whole itself is a base that stands for what was made
pub whole_stands : (g made : Made) → StandsFor (join g made) g made
unfolding known
whole_stands g made =
    let sum : (k : Known) → counted k (g.taken + made.taken) ≡ counted (counted k g.taken) made.taken =
    λ k. ap (λ (n : ℕ). record { count = n; decl = k.decl; entity = k.entity; outside = k.outside; linked = k.linked }) (let s : k.count + (g.taken + made.taken) ≡ k.count + g.taken + made.taken = omega arith in s) in
    ap (λ (k : Known). counted k (g.taken + made.taken)) (so_far_more nothing_known g.settled made.settled)
    ∙ sum (so_far (so_far nothing_known g.settled) made.settled)
    ∙ ap (λ (k : Known). counted k made.taken) (sym (so_far_counted (so_far nothing_known g.settled) g.taken made.settled))

joins : (a b c : Made) → join (join a b) c ≡ join a (join b c)
joins a b c =
    let n : a.taken + b.taken + c.taken ≡ a.taken + (b.taken + c.taken) = omega arith in
    rw (append_assoc a.settled b.settled c.settled, append_assoc a.uses b.uses c.uses, append_assoc a.facts b.facts c.facts, n) refl

then_more : (a b c : Made) → OnlyAdds a b → OnlyAdds b c → OnlyAdds a c
then_more a b c x y = (join x.0 y.0, y.1 ∙ ap (λ (m : Made). join m y.0) x.1 ∙ joins a x.0 y.0)

-- steps only add
pub only_adds : (p : Steps) (w : World) → OnlyAdds w.made (run p w).made
only_adds Stop w = (nothing_made, alone w.made)
only_adds (Visible space name k) w = only_adds (k _) w
only_adds (Here space name k) w = only_adds (k _) w
only_adds (Linked name linkage k) w = only_adds (k _) w
only_adds (DeclOf n k) w = only_adds (k _) w
only_adds (EntityOf n k) w = only_adds (k _) w
only_adds (IsOpen n k) w = only_adds (k _) w
only_adds (Where k) w = only_adds (k _ _ _) w
only_adds (Enter kind owner k) w = only_adds k _
only_adds (Leave k) w = only_adds k _
only_adds (Reserve k) w = then_more w.made (record (w.made) { taken = w.made.taken + 1 }) _
    (record { settled = []; taken = 1; uses = []; facts = [] }, search rules) (only_adds (k _) (record w { made = record (w.made) { taken = w.made.taken + 1 } }))
only_adds (Settle n d k) w = then_more w.made (record (w.made) { settled = w.made.settled ++ record { no = n; decl = d } ∷ [] }) _
    (record { settled = record { no = n; decl = d } ∷ []; taken = 0; uses = []; facts = [] }, search rules) (only_adds k (record w { made = record (w.made) { settled = w.made.settled ++ record { no = n; decl = d } ∷ [] } }))
only_adds (Bind space name n k) w = only_adds k _
only_adds (Means u k) w = then_more w.made (record (w.made) { uses = w.made.uses ++ u ∷ [] }) _
    (record { settled = []; taken = 0; uses = u ∷ []; facts = [] }, search rules) (only_adds k (record w { made = record (w.made) { uses = w.made.uses ++ u ∷ [] } }))
only_adds (Tell f k) w = then_more w.made (record (w.made) { facts = w.made.facts ++ f ∷ [] }) _
    (record { settled = []; taken = 0; uses = []; facts = f ∷ [] }, search rules) (only_adds k (record w { made = record (w.made) { facts = w.made.facts ++ f ∷ [] } }))
