-- Bases that can be built on.
use Rattle.std.specs.Prelude.{◌↔◌, ℕ, ◌<◌, ◌==◌, Bool, false, Option, Some, None, IsSome, IsTrue}
use Rattle.cl_types.specs.declared.unit.Decl.{Decl}
use Rattle.cl_scope.specs.declared.made.Made.{Made}
use Rattle.cl_scope.specs.Known.{Known, known}

abbrev pub begins_with : Option Decl → ℕ → Bool
begins_with None n = false
begins_with (Some d) n = d.first.0 == n

-- it is settled what each declaration of a number below the count is, and no other; an entity begins with a declaration
-- whose first it is itself
pub record IsWhole (g : Known) : Type 0 where
  pub settled : (n : ℕ) → IsSome (g.decl n) ↔ (n < g.count)
  pub begins : (n : ℕ) → IsSome (g.entity n) → IsTrue (begins_with (g.decl n) n)

abbrev pub IsSound : Made → Type 0
IsSound made = IsWhole (known made)
