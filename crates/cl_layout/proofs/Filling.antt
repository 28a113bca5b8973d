-- The members of a structure, one after the other.
use Rattle.std.proofs.Common.{◌≡◌, ◌≤◌, ◌<◌, ◌+◌, ◌-◌, ◌*◌, ℕ, Bool, true, false, List, [], ◌∷◌, Option, Some, None, refl, sym, ap, subst, arith}
use Rattle.std.specs.Prelude.{◌/◌, max, if◌then◌else◌, nat_le}
use Rattle.cl_types.specs.declared.unit.Member.{Member}
use Rattle.cl_layout.specs.declared.layout.Layout.{Layout}
use Rattle.cl_layout.specs.declared.layout.Layout.TheVariants.{Known, Unknown, Incomplete}
use Rattle.cl_layout.specs.declared.room.Room.{Room}
use Rattle.cl_layout.specs.Layouts.{layout_at, beginning, begins, content_layout, extent, fill, filled, finished, is_last, is_small, largest, member_offsets, member_over, needed, offsets, round_up, start, within}
use Rattle.cl_layout.specs.Places.{AreInPlace, IsInPlace, LieApart, extent_of, extents}
use Rattle.cl_layout.proofs.Numbers.{field_behind, field_in_unit, round_up_behind, round_up_multiple, rounded_size}

abbrev Layouts : Type 0
Layouts = Bool → ℕ → Layout

-- where the room isn't known, it stays so
fill_none : (layouts : Layouts) (union : Bool) (ms : List Member) → fill layouts union None ms ≡ None
fill_none layouts union [] = refl
fill_none layouts union (m ∷ ms) = fill_none layouts union ms

not_none : (layouts : Layouts) (union : Bool) (ms : List Member) (last : Room) → fill layouts union None ms ≡ Some last → ⊥
not_none layouts union ms last e = let f = fill_none layouts union ms in cc

start_behind : (bit size align : ℕ) (width : Option ℕ) → bit ≤ start bit size align width
start_behind bit size align None = round_up_behind bit (8 * align)
start_behind bit size align (Some width) = field_behind bit (8 * size) width

abbrev grown : Room → ℕ → ℕ → Option ℕ → Room
grown room size align width = record { bits = start room.bits size align width + extent size width; align = max room.align align }

-- ---- no two share a bit

abbrev Apart : Layouts → Room → List Member → Type 0
Apart layouts last ms = (room : Room) → fill layouts false (Some room) ms ≡ Some last → LieApart room.bits (offsets layouts false (Some room) ms) (extents layouts ms) last.bits

apart_known : (layouts : Layouts) (last room : Room) (ms : List Member) (size align : ℕ) (width : Option ℕ) (small : Bool) → Apart layouts last ms
    → fill layouts false (if small then Some (grown room size align width) else None) ms ≡ Some last
    → LieApart room.bits ((if small then Some (start room.bits size align width) else None) ∷ offsets layouts false (if small then Some (grown room size align width) else None) ms) (extent size width ∷ extents layouts ms) last.bits
apart_known layouts last room ms size align width true rest e = (start_behind room.bits size align width, rest (grown room size align width) e)
apart_known layouts last room ms size align width false rest e = absurd (not_none layouts false ms last e)

apart_by : (layouts : Layouts) (last room : Room) (ms : List Member) (l : Layout) (width : Option ℕ) → Apart layouts last ms
    → fill layouts false (filled false (Some room) l width) ms ≡ Some last
    → LieApart room.bits (begins false (Some room) l width ∷ offsets layouts false (filled false (Some room) l width) ms) (extent_of l width ∷ extents layouts ms) last.bits
apart_by layouts last room ms (Known size align) width rest e = apart_known layouts last room ms size align width (is_small room) rest e
apart_by layouts last room ms Unknown width rest e = absurd (not_none layouts false ms last e)
apart_by layouts last room ms Incomplete width rest e = absurd (not_none layouts false ms last e)

same_bits : (a b : Room) → Some a ≡ Some b → a.bits ≤ b.bits
same_bits a b e = let f : a ≡ b = cc in let g : a.bits ≡ b.bits = ap (λ (r : Room). r.bits) f in omega arith

apart : (layouts : Layouts) (last : Room) (ms : List Member) → Apart layouts last ms
apart layouts last [] room e = same_bits room last e
apart layouts last (m ∷ ms) room e = apart_by layouts last room ms (member_over (layout_at layouts (needed m.ty)) (is_last ms) m.ty) m.width (apart layouts last ms) e

-- ---- the alignment is never 0

abbrev Aligned : Layouts → Room → List Member → Type 0
Aligned layouts last ms = (room : Room) → 0 < room.align → fill layouts false (Some room) ms ≡ Some last → 0 < last.align

aligned_known : (layouts : Layouts) (last room : Room) (ms : List Member) (size align : ℕ) (width : Option ℕ) (small : Bool) → Aligned layouts last ms → 0 < room.align
    → fill layouts false (if small then Some (grown room size align width) else None) ms ≡ Some last → 0 < last.align
aligned_known layouts last room ms size align width true rest h e = let more : 0 < max room.align align = omega arith in rest (grown room size align width) more e
aligned_known layouts last room ms size align width false rest h e = absurd (not_none layouts false ms last e)

aligned_by : (layouts : Layouts) (last room : Room) (ms : List Member) (l : Layout) (width : Option ℕ) → Aligned layouts last ms → 0 < room.align
    → fill layouts false (filled false (Some room) l width) ms ≡ Some last → 0 < last.align
aligned_by layouts last room ms (Known size align) width rest h e = aligned_known layouts last room ms size align width (is_small room) rest h e
aligned_by layouts last room ms Unknown width rest h e = absurd (not_none layouts false ms last e)
aligned_by layouts last room ms Incomplete width rest h e = absurd (not_none layouts false ms last e)

same_align : (a b : Room) → Some a ≡ Some b → 0 < a.align → 0 < b.align
same_align a b e h = let f : a ≡ b = cc in let g : a.align ≡ b.align = ap (λ (r : Room). r.align) f in omega arith

aligned : (layouts : Layouts) (last : Room) (ms : List Member) → Aligned layouts last ms
aligned layouts last [] room h e = same_align room last e h
aligned layouts last (m ∷ ms) room h e = aligned_by layouts last room ms (member_over (layout_at layouts (needed m.ty)) (is_last ms) m.ty) m.width (aligned layouts last ms) h e

-- ---- the size has room for all

weaker : (low high more : ℕ) (offsets : List (Option ℕ)) (bits : List ℕ) → high ≤ more → LieApart low offsets bits high → LieApart low offsets bits more
weaker low high more [] [] h a = omega arith
weaker low high more (Some from ∷ offsets) (b ∷ bits) h a = (a.0, weaker (from + b) high more offsets bits h a.1)
weaker low high more (None ∷ offsets) bits h a = absurd a
weaker low high more [] (b ∷ bits) h a = absurd a
weaker low high more (Some from ∷ offsets) [] h a = absurd a

in_limit : (fits : Bool) (total align size found : ℕ) → (if fits then Known total align else Unknown) ≡ Known size found → total ≡ size
in_limit true total align size found e = cc
in_limit false total align size found e = cc

size_in : (small : Bool) (total align size found : ℕ) → (if small then within total align else Unknown) ≡ Known size found → total ≡ size
size_in true total align size found e = in_limit (nat_le total largest) total align size found e
size_in false total align size found e = cc

apart_whole : (layouts : Layouts) (ms : List Member) (room : Option Room) (size align : ℕ) → fill layouts false (Some beginning) ms ≡ room → finished room ≡ Known size align
    → LieApart 0 (offsets layouts false (Some beginning) ms) (extents layouts ms) (8 * size)
apart_whole layouts ms None size align e f = cc
apart_whole layouts ms (Some last) size align e f =
    let some : 0 < last.align = aligned layouts last ms beginning (omega arith) e in
    let total : round_up last.bits (8 * last.align) / 8 ≡ size = size_in (is_small last) (round_up last.bits (8 * last.align) / 8) last.align size align f in
    let fits : last.bits ≤ 8 * (round_up last.bits (8 * last.align) / 8) = rounded_size last.bits last.align some in
    let more : last.bits ≤ 8 * size = omega arith in
    weaker 0 last.bits (8 * size) _ _ more (apart layouts last ms beginning e)

pub members_apart : (layouts : Layouts) (ms : List Member) (size align : ℕ) → content_layout layouts false (Some ms) ≡ Known size align
    → LieApart 0 (member_offsets layouts false (Some ms)) (extents layouts ms) (8 * size)
members_apart layouts ms size align e = apart_whole layouts ms (fill layouts false (Some beginning) ms) size align refl e

-- ---- each stands in its place

in_place : (bit size align : ℕ) (width : Option ℕ) → IsInPlace (Known size align) width (start bit size align width)
in_place bit size align None = λ some. ((bit + (8 * align - 1)) / (8 * align), round_up_multiple bit (8 * align) (omega arith))
in_place bit size align (Some width) = λ some most. field_in_unit bit (8 * size) width some most

abbrev InPlace : Layouts → Room → List Member → Type 0
InPlace layouts last ms = (room : Room) → fill layouts false (Some room) ms ≡ Some last → AreInPlace layouts (offsets layouts false (Some room) ms) ms

place_known : (layouts : Layouts) (last room : Room) (m : Member) (ms : List Member) (size align : ℕ) (small : Bool) → InPlace layouts last ms
    → member_over (layout_at layouts (needed m.ty)) (is_last ms) m.ty ≡ Known size align
    → fill layouts false (if small then Some (grown room size align m.width) else None) ms ≡ Some last
    → AreInPlace layouts ((if small then Some (start room.bits size align m.width) else None) ∷ offsets layouts false (if small then Some (grown room size align m.width) else None) ms) (m ∷ ms)
place_known layouts last room m ms size align true rest is e =
    (subst (λ (l : Layout). IsInPlace l m.width (start room.bits size align m.width)) (sym is) (in_place room.bits size align m.width), rest (grown room size align m.width) e)
place_known layouts last room m ms size align false rest is e = absurd (not_none layouts false ms last e)

place_by : (layouts : Layouts) (last room : Room) (m : Member) (ms : List Member) (l : Layout) → InPlace layouts last ms
    → member_over (layout_at layouts (needed m.ty)) (is_last ms) m.ty ≡ l
    → fill layouts false (filled false (Some room) l m.width) ms ≡ Some last
    → AreInPlace layouts (begins false (Some room) l m.width ∷ offsets layouts false (filled false (Some room) l m.width) ms) (m ∷ ms)
place_by layouts last room m ms (Known size align) rest is e = place_known layouts last room m ms size align (is_small room) rest is e
place_by layouts last room m ms Unknown rest is e = absurd (not_none layouts false ms last e)
place_by layouts last room m ms Incomplete rest is e = absurd (not_none layouts false ms last e)

placed : (layouts : Layouts) (last : Room) (ms : List Member) → InPlace layouts last ms
placed layouts last [] room e = tt
placed layouts last (m ∷ ms) room e = place_by layouts last room m ms (member_over (layout_at layouts (needed m.ty)) (is_last ms) m.ty) (placed layouts last ms) refl e

placed_whole : (layouts : Layouts) (ms : List Member) (room : Option Room) (size align : ℕ) → fill layouts false (Some beginning) ms ≡ room → finished room ≡ Known size align
    → AreInPlace layouts (offsets layouts false (Some beginning) ms) ms
placed_whole layouts ms None size align e f = cc
placed_whole layouts ms (Some last) size align e f = placed layouts last ms beginning e

pub members_in_place : (layouts : Layouts) (ms : List Member) (size align : ℕ) → content_layout layouts false (Some ms) ≡ Known size align
    → AreInPlace layouts (member_offsets layouts false (Some ms)) ms
members_in_place layouts ms size align e = placed_whole layouts ms (fill layouts false (Some beginning) ms) size align refl e
