-- What was settled before stays, and numbers rise.
use Rattle.std.proofs.Common.{◌≡◌, ℕ, ◌+◌, ◌==◌, ◌≤◌, ◌&&◌, if◌then◌else◌, Bool, true, false, not, List, [], ◌∷◌, refl, sym, ap, ◌∙◌, subst, arith, rules}
use Rattle.std.specs.Prelude.{Option, Some}
use Rattle.cl_types.specs.declared.unit.Decl.{Decl}
use Rattle.cl_scope.specs.declared.made.Settled.{Settled}
use Rattle.cl_scope.specs.declared.made.Made.{Made}
use Rattle.cl_scope.specs.Known.{Known, extend, so_far, known_after}
use Rattle.cl_scope.specs.Items.{is_untouched, join}
use Rattle.cl_scope.proofs.Scoping.{both}

other_stays : (b : Bool) (d : Decl) (o : Option Decl) → not b ≡ true → (if b then Some d else o) ≡ o
other_stays true d o h = search (rules, h)
other_stays false d o h = refl

kept : (g : Known) (ss : List Settled) (n : ℕ) → is_untouched ss n ≡ true → (so_far g ss).decl n ≡ g.decl n
unfolding so_far
kept g [] n h = refl
kept g (s ∷ ss) n h =
    let two = both (not (n == s.no.0)) (is_untouched ss n) h in
    kept (extend g s.no s.decl) ss n two.1 ∙ other_stays (n == s.no.0) s.decl (g.decl n) two.0

pub stays : (g : Known) (made : Made) (n : ℕ) → is_untouched made.settled n ≡ true → (known_after g made).decl n ≡ g.decl n
stays g made n h = kept g made.settled n h

count_stays : (g : Known) (ss : List Settled) → (so_far g ss).count ≡ g.count
unfolding so_far
count_stays g [] = refl
count_stays g (s ∷ ss) = count_stays (extend g s.no s.decl) ss

pub counts : (g : Known) (old more : Made) → (known_after g (join old more)).count ≡ (known_after g old).count + more.taken
counts g old more =
    let a = count_stays g (join old more).settled in
    let b = count_stays g old.settled in
    let c : (so_far g (join old more).settled).count + (old.taken + more.taken) ≡ (so_far g old.settled).count + old.taken + more.taken = omega (arith, a, b) in c
