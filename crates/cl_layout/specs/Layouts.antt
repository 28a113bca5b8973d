-- Sizes and alignments (N1570 6.2.5, 6.2.8, 6.5.3.4, 6.7.2.1): in bytes, on a machine of 64 bits whose `long` and pointers have 8.
use Rattle.std.specs.Prelude.{◌≡◌, ℕ, ◌+◌, ◌-◌, ◌*◌, ◌/◌, ◌%◌, ◌^◌, ◌==◌, ◌&&◌, Bool, true, false, if◌then◌else◌, nat_le, nat_lt, max, List, [], ◌∷◌, Option, Some, None}
use Rattle.cl_types.specs.declared.types.Basic.{Basic}
use Rattle.cl_types.specs.declared.types.Basic.TheVariants as basic
use Rattle.cl_types.specs.declared.types.CType.{CType}
use Rattle.cl_types.specs.declared.types.CType.TheFolds.{fold-CType}
use Rattle.cl_types.specs.declared.types.CType.TheViews.{out-CType}
use Rattle.cl_types.specs.declared.types.Length.{Length}
use Rattle.cl_types.specs.declared.types.Length.TheVariants as length_of
use Rattle.cl_types.specs.declared.types.Params.{Params}
use Rattle.cl_types.specs.declared.types.TagWord.{TagWord}
use Rattle.cl_types.specs.declared.types.TagWord.TheVariants as word
use Rattle.cl_types.specs.declared.unit.Member.{Member}
use Rattle.cl_types.specs.Form.{Form, Form as f, form}
use Rattle.cl_layout.specs.declared.layout.Layout.{Layout}
use Rattle.cl_layout.specs.declared.layout.Layout.TheVariants.{Known, Unknown, Incomplete}
use Rattle.cl_layout.specs.declared.tag_key.TagKey.{TagKey}
use Rattle.cl_layout.specs.declared.room.Room.{Room}

-- ---- types that are no structures and no unions

abbrev pub bytes : Basic → ℕ
bytes basic.Bool = 1
bytes basic.Char = 1
bytes basic.SChar = 1
bytes basic.UChar = 1
bytes basic.Short = 2
bytes basic.UShort = 2
bytes basic.Int = 4
bytes basic.UInt = 4
bytes basic.Float = 4
bytes basic.LDouble = 16
bytes _ = 8

-- no object has more bytes
abbrev pub largest : ℕ
largest = 2 ^ 63 - 1

-- the alignment of a scalar type is its size
abbrev pub scalar : ℕ → Layout
scalar size = Known size size

abbrev pub within : ℕ → ℕ → Layout
within size align = if nat_le size largest then Known size align else Unknown

abbrev pub repeated : Layout → ℕ → Layout
repeated (Known size align) n = within (n * size) align
repeated l n = l

abbrev pub unsized : Layout → Layout
unsized Unknown = Unknown
unsized _ = Incomplete

-- an array, by its element (6.2.5p20): one without a length is incomplete, and one whose length isn't constant has no known size
abbrev pub array_layout : Length → Layout → Layout
array_layout (length_of.Fixed n) l = repeated l n
array_layout length_of.Unsized l = unsized l
array_layout _ l = Unknown

abbrev pub of_basic : Option Basic → Layout
of_basic (Some k) = scalar (bytes k)
of_basic None = Unknown

abbrev pub tagged : TagWord → Layout → Layout
tagged word.Enum inner = scalar 4
tagged _ inner = inner

abbrev pub over_by : Layout → Form Layout (Unit {0}) → Layout
over_by inner f.Void = Incomplete
over_by inner (f.Arithmetic k) = scalar (bytes k)
over_by inner (f.Pointer t) = scalar 8
over_by inner (f.Array t n) = array_layout n t
over_by inner (f.Function t ps) = Unknown
over_by inner (f.Tag n w) = tagged w inner
over_by inner (f.Qualified q t) = t
over_by inner (f.Atomic t) = t
over_by inner f.Error = Unknown

-- the layout of a type, where that of the structure or union that it is made of is known
abbrev pub over : Layout → CType → Layout
over inner = fold-CType Layout (Unit {0}) (λ l. over_by inner (form l)) (λ ps. tt)

abbrev pub is_union : TagWord → Bool
is_union word.Union = true
is_union _ = false

abbrev pub tag_needed : TagWord → ℕ → Option TagKey
tag_needed word.Enum n = None
tag_needed w n = Some (record { union = is_union w; tag = n })

abbrev pub needed_by : Form (Option TagKey) (Unit {0}) → Option TagKey
needed_by (f.Array t n) = t
needed_by (f.Tag n w) = tag_needed w n
needed_by (f.Qualified q t) = t
needed_by (f.Atomic t) = t
needed_by _ = None

-- the structure or union that a type is made of, if it is one, or an array of such
abbrev pub needed : CType → Option TagKey
needed = fold-CType (Option TagKey) (Unit {0}) (λ l. needed_by (form l)) (λ ps. tt)

-- ---- members (6.7.2.1)

-- the next multiple of a number from here on
abbrev pub round_up : ℕ → ℕ → ℕ
round_up n unit = if unit == 0 then n else (n + (unit - 1)) / unit * unit

-- a bit-field stays where it is if it crosses no multiple of its type's bits there
abbrev pub field_start : ℕ → ℕ → ℕ → ℕ
field_start bit unit width = if unit == 0 then bit else if nat_lt 0 width && nat_le (bit % unit + width) unit then bit else round_up bit unit

-- where a member begins that comes next behind this bit, its size and alignment in bytes, and its width if it is a bit-field
abbrev pub start : ℕ → ℕ → ℕ → Option ℕ → ℕ
start bit size align None = round_up bit (8 * align)
start bit size align (Some width) = field_start bit (8 * size) width

-- how many bits a member takes
abbrev pub extent : ℕ → Option ℕ → ℕ
extent size None = 8 * size
extent size (Some width) = width

-- whether the members so far leave room in an object
abbrev pub is_small : Room → Bool
is_small room = nat_le room.bits (8 * largest)

-- the room that a structure or union takes before its first member: up to a bit, and with an alignment in bytes
abbrev pub beginning : Room
beginning = record { bits = 0; align = 1 }

-- a union's members begin at 0
abbrev pub taken_to : Bool → ℕ → ℕ → ℕ → Option ℕ → ℕ
taken_to true bits size align width = max bits (extent size width)
taken_to false bits size align width = start bits size align width + extent size width

abbrev pub filled : Bool → Option Room → Layout → Option ℕ → Option Room
filled union (Some room) (Known size align) width =
    if is_small room then Some (record { bits = taken_to union room.bits size align width; align = max room.align align }) else None
filled union _ _ width = None

abbrev pub is_unsized : Length → Bool
is_unsized length_of.Unsized = true
is_unsized _ = false

abbrev pub flexible_in : Form CType Params → Option CType
flexible_in (f.Array t n) = if is_unsized n then Some t else None
flexible_in _ = None

abbrev pub emptied : Layout → Layout
emptied (Known size align) = Known 0 align
emptied _ = Unknown

abbrev pub last_over : Layout → Option CType → CType → Layout
last_over inner (Some element) t = emptied (over inner element)
last_over inner None t = over inner t

-- a member's layout: a last array without a length has no bytes, and the alignment of its elements (6.7.2.1p18)
abbrev pub member_over : Layout → Bool → CType → Layout
member_over inner true t = last_over inner (flexible_in (form (out-CType t))) t
member_over inner false t = over inner t

abbrev pub is_last : List Member → Bool
is_last [] = true
is_last _ = false

-- the size is rounded up to the alignment, so that an array of such has each element aligned
abbrev pub finished : Option Room → Layout
finished None = Unknown
finished (Some room) = if is_small room then within (round_up room.bits (8 * room.align) / 8) room.align else Unknown

-- ---- structures and unions, by a function that has the layout of each

abbrev pub layout_at : (Bool → ℕ → Layout) → Option TagKey → Layout
layout_at layouts None = Unknown
layout_at layouts (Some need) = layouts need.union need.tag

-- the room that further members leave taken
abbrev pub fill : (Bool → ℕ → Layout) → Bool → Option Room → List Member → Option Room
fill layouts union room [] = room
fill layouts union room (m ∷ ms) = fill layouts union (filled union room (member_over (layout_at layouts (needed m.ty)) (is_last ms) m.ty) m.width) ms

abbrev pub content_layout : (Bool → ℕ → Layout) → Bool → Option (List Member) → Layout
content_layout layouts union None = Incomplete
content_layout layouts union (Some members) = finished (fill layouts union (Some beginning) members)

-- the function gives each structure (false) and union (true) the layout that its members make
abbrev pub AreLayouts : (ℕ → Option (List Member)) → (Bool → ℕ → Layout) → Type 0
AreLayouts content layouts = (union : Bool) (tag : ℕ) → layouts union tag ≡ content_layout layouts union (content tag)

-- the layout of a type
abbrev pub layout : (Bool → ℕ → Layout) → CType → Layout
layout layouts t = over (layout_at layouts (needed t)) t

-- where a member begins, in bits; none where that isn't known
abbrev pub begins : Bool → Option Room → Layout → Option ℕ → Option ℕ
begins union (Some room) (Known size align) width =
    if is_small room then (if union then Some 0 else Some (start room.bits size align width)) else None
begins union _ _ width = None

-- where the members begin, behind those so far
abbrev pub offsets : (Bool → ℕ → Layout) → Bool → Option Room → List Member → List (Option ℕ)
offsets layouts union room [] = []
offsets layouts union room (m ∷ ms) =
    begins union room (member_over (layout_at layouts (needed m.ty)) (is_last ms) m.ty) m.width
    ∷ offsets layouts union (filled union room (member_over (layout_at layouts (needed m.ty)) (is_last ms) m.ty) m.width) ms

abbrev pub member_offsets : (Bool → ℕ → Layout) → Bool → Option (List Member) → List (Option ℕ)
member_offsets layouts union None = []
member_offsets layouts union (Some members) = offsets layouts union (Some beginning) members
