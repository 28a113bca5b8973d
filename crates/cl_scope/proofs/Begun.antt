-- A declaration that is settled has an entity.
use Rattle.std.proofs.Common.{◌≡◌, ℕ, ◌==◌, Bool, true, false, if◌then◌else◌, List, [], ◌∷◌, refl, sym, ap, ◌∙◌, subst, arith, rules}
use Rattle.std.specs.Prelude.{Option, Some, None}
use Rattle.std.specs.Option.{is_some}
use Rattle.cl_types.specs.declared.types.DeclNo.{DeclNo}
use Rattle.cl_types.specs.declared.unit.Decl.{Decl}
use Rattle.cl_types.specs.declared.unit.Entity.{Entity}
use Rattle.cl_scope.specs.declared.made.Settled.{Settled}
use Rattle.cl_scope.specs.declared.made.Made.{Made}
use Rattle.cl_scope.specs.Known.{Known, extend, so_far, counted, known, nothing_known}
use Rattle.cl_scope.specs.Sound.{begins_with, IsSound}
use Rattle.cl_scope.specs.Items.{nothing_made}

abbrev HasEntity : Known → Option Decl → Type 0
HasEntity g None = true ≡ true
HasEntity g (Some d) = is_some (g.entity d.first.0) ≡ true

abbrev AllBegun : Known → Type 0
AllBegun g = (m : ℕ) → HasEntity g (g.decl m)

some_if : (b : Bool) (e : Entity) (o : Option Entity) → is_some o ≡ true → is_some (if b then Some e else o) ≡ true
some_if true e o h = refl
some_if false e o h = h

own_if : (k : ℕ) (e : Entity) (o : Option Entity) → is_some (if k == k then Some e else o) ≡ true
own_if k e o = let same : (k == k) ≡ true = grind arith in ap (λ (b : Bool). is_some (if b then Some e else o)) same

step : (g : Known) (n : DeclNo) (d : Decl) → AllBegun g → AllBegun (extend g n d)
step g n d p m = by (m == n.0) (g.decl m) (p m)
  where
    by : (b : Bool) (o : Option Decl) → HasEntity g o → HasEntity (extend g n d) (if b then Some d else o)
    by true o h = own_if d.first.0 _ _
    by false None h = refl
    by false (Some e) h = some_if (e.first.0 == d.first.0) _ _ h

all : (g : Known) (ss : List Settled) → AllBegun g → AllBegun (so_far g ss)
unfolding so_far
all g [] p = p
all g (s ∷ ss) p = all (extend g s.no s.decl) ss (step g s.no s.decl p)

own : (g : Known) (n : ℕ) (o : Option Decl) → HasEntity g o → begins_with o n ≡ true → is_some (g.entity n) ≡ true
own g n None h b = search (rules, b)
own g n (Some d) h b = let same : d.first.0 ≡ n = grind (arith, b) in subst (λ (k : ℕ). is_some (g.entity k) ≡ true) same h

pub has_entity : (made : Made) (n : ℕ) → begins_with ((known made).decl n) n ≡ true → is_some ((known made).entity n) ≡ true
unfolding known
has_entity made n b = own (so_far nothing_known made.settled) n ((so_far nothing_known made.settled).decl n) (all nothing_known made.settled (λ m. refl) n) b

pub nothing_sound : IsSound nothing_made
unfolding known so_far
nothing_sound = record {
  settled = λ n. (λ h. search (rules, h), λ h. absurd (omega (arith, h)));
  begins = λ n h. search (rules, h);
}
