-- Which structures and unions have layouts: none is made of itself (N1570 6.7.2.1p3, p8), since each member has a greater number
-- than those of the structure or union that its type is made of.
use Rattle.std.specs.Prelude.{◌<◌, ◌≡◌, ℕ, List, [], ◌∷◌, Option, Some, None}
use Rattle.cl_types.specs.declared.unit.Member.{Member}
use Rattle.cl_layout.specs.declared.tag_key.TagKey.{TagKey}
use Rattle.cl_layout.specs.Layouts.{needed}

abbrev pub AllBefore : ℕ → List Member → Type 0
AllBefore n [] = Unit {0}
AllBefore n (m ∷ ms) = (m.decl.0 < n) × AllBefore n ms

abbrev pub ContentBefore : ℕ → Option (List Member) → Type 0
ContentBefore n None = Unit {0}
ContentBefore n (Some members) = AllBefore n members

-- what a type is made of has its members before this number
abbrev pub IsBefore : (ℕ → Option (List Member)) → ℕ → Option TagKey → Type 0
IsBefore content n None = Unit {0}
IsBefore content n (Some need) = ContentBefore n (content need.tag)

abbrev pub AreBehind : (ℕ → Option (List Member)) → List Member → Type 0
AreBehind content [] = Unit {0}
AreBehind content (m ∷ ms) = IsBefore content m.decl.0 (needed m.ty) × AreBehind content ms

-- each member stands behind those that its type is made of
abbrev pub IsOrdered : (ℕ → Option (List Member)) → Type 0
IsOrdered content = (tag : ℕ) (members : List Member) → content tag ≡ Some members → AreBehind content members
