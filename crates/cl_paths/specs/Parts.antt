-- A path by its parts, and its normal form. A path is its bytes, and `/` stands between its parts.
use Rattle.std.specs.Prelude.{ℕ, ◌-◌, ◌==◌, ◌||◌, Bool, true, false, if◌then◌else◌, List, [], ◌∷◌, ◌++◌, length, take, reverse, map, codes}
use Rattle.std.specs.Borrow.{Bor}
use Rattle.std.specs.List.{fold, flat_map, slice_split}
use Rattle.std.specs.Str.{bytes_eq}

-- `/`
abbrev pub slash : ℕ
slash = 47

-- what stands between the slashes of a path, empty parts too
abbrev pub parts : List ℕ → List (List ℕ)
parts path = slice_split (λ b. b == slash) path

-- the path begins at the root
abbrev pub is_rooted : List ℕ → Bool
is_rooted [] = false
is_rooted (b ∷ path) = b == slash

abbrev pub here : List ℕ
here = codes "."

abbrev pub up : List ℕ
up = codes ".."

-- a part that leads nowhere
abbrev pub is_idle : List ℕ → Bool
is_idle part = bytes_eq part [] || bytes_eq part here

-- what a `..` leaves of the parts before it, the last of them first: it takes one away, unless that is a `..` that
-- stayed; where there is none, it goes at the root and stays elsewhere
abbrev pub gone_up : Bool → List (List ℕ) → List (List ℕ)
gone_up true [] = []
gone_up false [] = up ∷ []
gone_up rooted (last ∷ past) = if bytes_eq last up then up ∷ last ∷ past else past

-- the parts that stand after one more, the last of them first
abbrev pub gone_on : Bool → List (List ℕ) → List ℕ → List (List ℕ)
gone_on rooted past part = if is_idle part then past else (if bytes_eq part up then gone_up rooted past else part ∷ past)

-- the parts that stand of these, in order
unfoldable pub standing : Bool → List (List ℕ) → List (List ℕ)
standing rooted ps = reverse (fold (gone_on rooted) [] ps)

abbrev pub normal_parts : List ℕ → List (List ℕ)
normal_parts path = standing (is_rooted path) (parts path)

abbrev pub after_slash : List ℕ → List ℕ
after_slash part = slash ∷ part

-- the path of these parts, in order
abbrev pub spelled : Bool → List (List ℕ) → List ℕ
spelled true [] = slash ∷ []
spelled true (part ∷ ps) = after_slash part ++ flat_map after_slash ps
spelled false [] = here
spelled false (part ∷ ps) = part ++ flat_map after_slash ps

-- the normal form of a path
unfoldable pub normal_form : List ℕ → List ℕ
normal_form path = spelled (is_rooted path) (normal_parts path)

-- the path that a name means in a folder
unfoldable pub joined : List ℕ → List ℕ → List ℕ
joined folder name = if is_rooted name then normal_form name else normal_form (folder ++ slash ∷ name)

-- the normal form without its last part
unfoldable pub folder : List ℕ → List ℕ
folder path = spelled (is_rooted path) (take (length (normal_parts path) - 1) (normal_parts path))

-- texts, as lists of bytes
abbrev pub texts : List (Bor (List ℕ)) → List (List ℕ)
texts items = map (λ x. x.now) items
