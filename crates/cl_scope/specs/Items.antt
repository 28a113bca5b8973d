-- A unit of items, over a base.
use Rattle.std.specs.Prelude.{◌≡◌, ℕ, ◌+◌, ◌==◌, ◌&&◌, Bool, true, not, List, [], ◌∷◌, ◌++◌}
use Rattle.cl_scope.specs.declared.made.Settled.{Settled}
use Rattle.cl_scope.specs.declared.made.Made.{Made}
use Rattle.cl_scope.specs.Known.{Known, known, known_after}
use Rattle.cl_scope.specs.Steps.{Steps, World, run}

abbrev pub nothing_made : Made
nothing_made = record { settled = []; taken = 0; uses = []; facts = [] }

-- what was made, and what was made after it
abbrev pub join : Made → Made → Made
join a b = record { settled = a.settled ++ b.settled; taken = a.taken + b.taken; uses = a.uses ++ b.uses; facts = a.facts ++ b.facts }

-- at file scope
abbrev pub between_items : Made → Made → World
between_items base made = record { base = base; made = made; levels = []; trail = [] }

-- the unit so far with one more item, whose meaning takes these steps
abbrev pub adds : Made → Made → Steps → Made
adds base made item = (run item (between_items base made)).made

unfoldable pub adds_all : Made → Made → List Steps → Made
adds_all base made [] = made
adds_all base made (item ∷ items) = adds_all base (adds base made item) items

-- a base stands for what was made after another one: it gives the answers that the other gives with what was made
abbrev pub StandsFor : Made → Made → Made → Type 0
StandsFor h g made = known h ≡ known_after (known g) made

-- what was made before stays, and what is made after it comes behind it
abbrev pub OnlyAdds : Made → Made → Type 0
OnlyAdds old new = (more : Made) × (new ≡ join old more)

-- whether none of these settles what the declaration of this number is
abbrev pub is_untouched : List Settled → ℕ → Bool
is_untouched [] n = true
is_untouched (s ∷ ss) n = not (n == s.no.0) && is_untouched ss n
