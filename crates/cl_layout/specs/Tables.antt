-- The layouts that are found so far, and the structures and unions that are being laid out.
use Rattle.std.specs.Prelude.{◌≡◌, ℕ, Bool, true, false, not, List, [], ◌∷◌, drop, Option, None}
use Rattle.std.specs.List.{All}
use Rattle.std.specs.Option.{IfSome}
use Rattle.std.specs.Ordering.{nat_cmp}
use Rattle.std.specs.BTreeMap.{BTreeMap, get}
use Rattle.cl_layout.specs.declared.layout.Layout.{Layout}
use Rattle.cl_layout.specs.declared.tag_key.TagKey.{TagKey}
use Rattle.cl_layout.specs.declared.room.Room.{Room}
use Rattle.cl_layout.specs.declared.work.Frame.{Frame}
use Rattle.cl_layout.specs.declared.work.Work.{Work}
use Rattle.cl_types.specs.declared.unit.Member.{Member}
use Rattle.cl_layout.specs.Layouts.{AreLayouts, fill, filled, finished, is_last, member_over, needed}

abbrev pub found : Bool → BTreeMap ℕ Layout → BTreeMap ℕ Layout → ℕ → Option Layout
found true structures unions tag = get nat_cmp unions tag
found false structures unions tag = get nat_cmp structures tag

-- each layout that is found is the right one
abbrev pub Tells : (Bool → ℕ → Layout) → BTreeMap ℕ Layout → BTreeMap ℕ Layout → Type 0
Tells layouts structures unions = (union : Bool) (tag : ℕ) → IfSome (found union structures unions tag) (λ l. l ≡ layouts union tag)

-- what is left of a structure or union makes its layout of the room so far
abbrev pub Stands : (Bool → ℕ → Layout) → Frame → Type 0
Stands layouts frame = layouts frame.union frame.tag ≡ finished (fill layouts frame.union frame.room (drop frame.next frame.members))

-- what is told and what is waited for are right, for the layouts that this content has
abbrev pub IsSound : (ℕ → Option (List Member)) → Work → Type 0
IsSound content work =
    (layouts : Bool → ℕ → Layout) → AreLayouts content layouts → Tells layouts work.structures work.unions × All (Stands layouts) work.frames

abbrev pub same_kind : Bool → Bool → Bool
same_kind true b = b
same_kind false b = not b

-- the room once the next member is placed, where the layout of what its type is made of is known
abbrev pub room_after : Frame → Layout → List Member → Option Room
room_after frame inner [] = frame.room
room_after frame inner (m ∷ ms) = filled frame.union frame.room (member_over inner (is_last ms) m.ty) m.width

-- what the next member's type is made of
abbrev pub need_of : List Member → Option TagKey
need_of [] = None
need_of (m ∷ ms) = needed m.ty
