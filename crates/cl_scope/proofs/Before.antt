-- What is asked before a declaration is settled.
use Rattle.std.proofs.Common.{◌≡◌, ℕ, ◌-◌, ◌==◌, ◌&&◌, if◌then◌else◌, Bool, true, false, List, [], ◌∷◌, ◌++◌, length, take, refl, sym, ap, ◌∙◌, arith, rules, length-append}
use Rattle.std.specs.Prelude.{Option, Some, None, slice_get}
use Rattle.std.proofs.lemmas.Grind.{common_steps}
use Rattle.cl_types.specs.declared.unit.Decl.{Decl}
use Rattle.cl_types.specs.declared.unit.Space.{Space}
use Rattle.cl_types.specs.declared.unit.Space.TheVariants as space
use Rattle.cl_types.specs.declared.unit.Linkage.{Linkage}
use Rattle.cl_types.specs.declared.unit.Linkage.TheVariants.{External, Internal, Without}
use Rattle.cl_scope.specs.declared.changed.Lasting.{Lasting}
use Rattle.cl_scope.specs.declared.changed.Lasting.TheVariants.{Ordinary, Tags, MembersOf}
use Rattle.cl_scope.specs.declared.history.Entry.{Entry}
use Rattle.cl_scope.specs.declared.history.Within.{Within}
use Rattle.cl_scope.specs.Known.{Known}
use Rattle.cl_scope.specs.Names.{declares, links, is_space, has_name, is_name, same_space, same_linkage, space_of, space_outside}
use Rattle.cl_scope.specs.Steps.{World, outside_by, left, left_trail, top}
use Rattle.cl_scope.proofs.Naming.{one_name}
use Rattle.cl_scope.proofs.Scoping.{at_end, both}

one_linkage : (a b : Linkage) → same_linkage a b ≡ true → a ≡ b
one_linkage External External e = refl
one_linkage Internal Internal e = refl
one_linkage External Internal e = search (rules, e)
one_linkage External Without e = search (rules, e)
one_linkage Internal External e = search (rules, e)
one_linkage Internal Without e = search (rules, e)
one_linkage Without External e = search (rules, e)
one_linkage Without Internal e = search (rules, e)
one_linkage Without Without e = refl

called_so : (o : Option (List ℕ)) (name called : List ℕ) → o ≡ Some name → has_name o called ≡ true → name ≡ called
called_so o name called e h = one_name name called (sym (ap (λ (x : Option (List ℕ)). has_name x called) e) ∙ h)

pub linked_same : (g : Known) (d : Decl) (name : List ℕ) → d.name ≡ Some name → (called : List ℕ) (linkage : Linkage) → links d called linkage ≡ true
    → g.linked name d.linkage ≡ g.linked called linkage
linked_same g d name e called linkage h =
    let two = both (same_linkage d.linkage linkage) (has_name d.name called) h in
    ap (λ (l : Linkage). g.linked name l) (one_linkage d.linkage linkage two.0) ∙ ap (λ (n : List ℕ). g.linked n linkage) (called_so d.name name called e two.1)

one_space_of : (l : Lasting) (s : Space) → same_space l s ≡ true → space_of l ≡ s
one_space_of Ordinary space.Ordinary e = refl
one_space_of Tags space.Tags e = refl
one_space_of (MembersOf a) (space.MembersOf b) e = let same : a.0 ≡ b.0 = grind (arith, e) in ap (λ (k : ℕ). space.MembersOf (record { 0 = k })) same
one_space_of Ordinary space.Tags e = search (rules, e)
one_space_of Ordinary space.Labels e = search (rules, e)
one_space_of Ordinary (space.MembersOf b) e = search (rules, e)
one_space_of Tags space.Ordinary e = search (rules, e)
one_space_of Tags space.Labels e = search (rules, e)
one_space_of Tags (space.MembersOf b) e = search (rules, e)
one_space_of (MembersOf a) space.Ordinary e = search (rules, e)
one_space_of (MembersOf a) space.Tags e = search (rules, e)
one_space_of (MembersOf a) space.Labels e = search (rules, e)

lasts : (g : Known) (l : Lasting) (name : List ℕ) → outside_by g (space_of l) name ≡ g.outside (space_of l) name
lasts g Ordinary name = refl
lasts g Tags name = refl
lasts g (MembersOf a) name = refl

pub outside_same : (g : Known) (d : Decl) (l : Lasting) (s : Space) (name : List ℕ) → Some l ≡ space_outside d → d.name ≡ Some name → s ≡ space_of l
    → (space : Space) (called : List ℕ) → declares d space called ≡ true → outside_by g s name ≡ g.outside space called
outside_same g d l s name o e f space called h =
    let two = both (is_space (space_outside d) space) (has_name d.name called) h in
    let own : same_space l space ≡ true = ap (λ (x : Option Lasting). is_space x space) o ∙ two.0 in
    ap (λ (x : Space). outside_by g x name) f ∙ lasts g l name
    ∙ ap (λ (x : Space). g.outside x name) (one_space_of l space own) ∙ ap (λ (n : List ℕ). g.outside space n) (called_so d.name name called e two.1)

take_all : {X : Type 0} (xs : List X) (x : X) → take (length (xs ++ x ∷ []) - 1) (xs ++ x ∷ []) ≡ xs
take_all xs x = let size : length (xs ++ x ∷ []) - 1 ≡ length xs = grind (arith, length-append xs (x ∷ [])) in rw size (taken xs x)
  where
    taken : {X : Type 0} (ys : List X) (y : X) → take (length ys) (ys ++ y ∷ []) ≡ ys
    taken ys y = search (rules, common_steps)

last_one : {X : Type 0} (xs : List X) (x : X) → slice_get (xs ++ x ∷ []) (length (xs ++ x ∷ []) - 1) ≡ Some x
last_one xs x = let size : length (xs ++ x ∷ []) - 1 ≡ length xs = grind (arith, length-append xs (x ∷ [])) in rw size (at_end xs x)

pub left_is : (w : World) (rest : List Within) (l : Within) (t : List Entry) → w.levels ≡ rest ++ l ∷ [] → t ≡ left_trail (Some l) w.trail
    → record w { levels = rest; trail = t } ≡ left w
left_is w rest l t e f =
    let levels : rest ≡ take (length w.levels - 1) w.levels = sym (ap (λ (ls : List Within). take (length ls - 1) ls) e ∙ take_all rest l) in
    let inmost : Some l ≡ top w.levels = sym (ap top e ∙ last_one rest l) in
    ap (λ (ls : List Within). record w { levels = ls; trail = t }) levels
    ∙ ap (λ (u : List Entry). record w { levels = take (length w.levels - 1) w.levels; trail = u }) (f ∙ ap (λ (o : Option Within). left_trail o w.trail) inmost)
