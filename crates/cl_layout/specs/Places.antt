-- What holds of the places of a structure's members (N1570 6.7.2.1p11, p15, p17).
use Rattle.std.specs.Prelude.{◌≡◌, ◌≤◌, ◌<◌, ℕ, ◌+◌, ◌-◌, ◌*◌, ◌/◌, Bool, List, [], ◌∷◌, Option, Some, None}
use Rattle.cl_types.specs.declared.unit.Member.{Member}
use Rattle.cl_layout.specs.declared.layout.Layout.{Layout}
use Rattle.cl_layout.specs.declared.layout.Layout.TheVariants.{Known}
use Rattle.cl_layout.specs.Layouts.{layout_at, extent, is_last, member_over, needed}

abbrev pub extent_of : Layout → Option ℕ → ℕ
extent_of (Known size align) width = extent size width
extent_of _ width = 0

-- how many bits the members take
abbrev pub extents : (Bool → ℕ → Layout) → List Member → List ℕ
extents layouts [] = []
extents layouts (m ∷ ms) = extent_of (member_over (layout_at layouts (needed m.ty)) (is_last ms) m.ty) m.width ∷ extents layouts ms

-- each begins at the end of the one before or behind it, the first from a bit on, and the last ends at a bit or before it
abbrev pub LieApart : ℕ → List (Option ℕ) → List ℕ → ℕ → Type 0
LieApart low [] [] high = low ≤ high
LieApart low (Some from ∷ offsets) (bits ∷ more) high = (low ≤ from) × LieApart (from + bits) offsets more high
LieApart low _ _ high = ⊥

-- a member that is no bit-field begins at a multiple of its alignment; a bit-field that is no wider than its type has its first
-- and its last bit in one unit of that type
abbrev pub IsInPlace : Layout → Option ℕ → ℕ → Type 0
IsInPlace (Known size align) None from = 0 < align → (count : ℕ) × (from ≡ count * (8 * align))
IsInPlace (Known size align) (Some width) from = 0 < width → width ≤ 8 * size → from / (8 * size) ≡ (from + (width - 1)) / (8 * size)
IsInPlace _ width from = ⊥

abbrev pub AreInPlace : (Bool → ℕ → Layout) → List (Option ℕ) → List Member → Type 0
AreInPlace layouts [] [] = Unit {0}
AreInPlace layouts (Some from ∷ offsets) (m ∷ ms) = IsInPlace (member_over (layout_at layouts (needed m.ty)) (is_last ms) m.ty) m.width from × AreInPlace layouts offsets ms
AreInPlace layouts _ _ = ⊥
