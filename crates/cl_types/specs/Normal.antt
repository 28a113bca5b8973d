-- The size of a type, and the normal form of qualifiers.
use Rattle.std.specs.Prelude.{ℕ, ◌+◌, ◌-◌, ◌&&◌, if◌then◌else◌, nat_le, nat_lt, Bool, true, false, List, [], ◌∷◌, Option, Some, None}
use Rattle.cl_types.specs.declared.types.CType.{CType}
use Rattle.cl_types.specs.declared.types.CType.TheFolds.{fold-CType, fold-Params}
use Rattle.cl_types.specs.declared.types.Params.{Params}
use Rattle.cl_types.specs.Form.{Form, Form as f, form, listed}

abbrev pub all_nodes : List ℕ → ℕ
all_nodes [] = 0
all_nodes (n ∷ ns) = n + all_nodes ns

abbrev pub listed_nodes : Option (List ℕ × Bool) → ℕ
listed_nodes None = 0
listed_nodes (Some p) = all_nodes p.0

abbrev pub nodes_by : Form ℕ (Option (List ℕ × Bool)) → ℕ
nodes_by (f.Pointer n) = 1 + n
nodes_by (f.Array n length) = 1 + n
nodes_by (f.Function n ps) = 1 + (n + listed_nodes ps)
nodes_by (f.Qualified q n) = 1 + n
nodes_by (f.Atomic n) = 1 + n
nodes_by _ = 1

-- how many types a type is made of, itself and those of its parameters among them
abbrev pub nodes : CType → ℕ
nodes = fold-CType ℕ (Option (List ℕ × Bool)) (λ l. nodes_by (form l)) listed

abbrev pub params_nodes : Params → ℕ
params_nodes ps = listed_nodes (fold-Params ℕ (Option (List ℕ × Bool)) (λ l. nodes_by (form l)) listed ps)

-- whether a type is made of at most 1,024 types
abbrev pub is_small : CType → Bool
is_small t = nat_le (nodes t) 1024

-- what is left of a room, if so much is in it
abbrev pub left_of : ℕ → ℕ → Option ℕ
left_of room n = if nat_le n room then Some (room - n) else None

-- what a type within another tells: it is in normal form; and it may be qualified as it stands, since it is no qualified
-- type, no array, no function and no type in error
pub record Normal : Type 0 where
  pub holds : Bool
  pub bare : Bool

abbrev pub all_hold : List Normal → Bool
all_hold [] = true
all_hold (t ∷ ts) = t.holds && all_hold ts

abbrev pub listed_hold : Option (List Normal × Bool) → Bool
listed_hold None = true
listed_hold (Some p) = all_hold p.0

abbrev pub normal_by : Form Normal (Option (List Normal × Bool)) → Normal
normal_by (f.Pointer t) = record { holds = t.holds; bare = true }
normal_by (f.Array t n) = record { holds = t.holds; bare = false }
normal_by (f.Function t ps) = record { holds = t.holds && listed_hold ps; bare = false }
normal_by (f.Qualified q t) = record { holds = (t.holds && t.bare) && (nat_lt 0 q && nat_lt q 8); bare = false }
normal_by (f.Atomic t) = record { holds = t.holds; bare = true }
normal_by f.Error = record { holds = true; bare = false }
normal_by _ = record { holds = true; bare = true }

abbrev pub normal : CType → Normal
normal = fold-CType Normal (Option (List Normal × Bool)) (λ l. normal_by (form l)) listed

-- no type within is qualified twice, and no array, function or type in error is qualified (6.7.3)
abbrev pub is_normal : CType → Bool
is_normal t = (normal t).holds

-- the same of each parameter
abbrev pub are_normal : Params → Bool
are_normal ps = listed_hold (fold-Params Normal (Option (List Normal × Bool)) (λ l. normal_by (form l)) listed ps)
