-- How the names of open scopes are kept: each entry with the one that it hides, and the newest entry of each name.
use Rattle.std.specs.Prelude.{◌≡◌, ℕ, ◌<◌, ◌^◌, nat_lt, Bool, false, if◌then◌else◌, List, [], ◌∷◌, map, reverse, length, Option, Some, None, slice_get}
use Rattle.std.specs.Cmp.Lexicographic.{slice_cmp}
use Rattle.std.specs.Ordering.{nat_cmp}
use Rattle.std.specs.BTreeMap.{BTreeMap, get}
use Rattle.cl_types.specs.declared.types.DeclNo.{DeclNo}
use Rattle.cl_scope.specs.declared.history.Local.{Local}
use Rattle.cl_scope.specs.declared.history.Local.TheVariants.{Ordinary, Tags, Labels}
use Rattle.cl_scope.specs.declared.history.Entry.{Entry}
use Rattle.cl_scope.specs.declared.history.Entry.TheVariants.{Begin, Named}
use Rattle.cl_scope.specs.declared.open.Slot.{Slot}
use Rattle.cl_scope.specs.declared.open.Heads.{Heads}
use Rattle.cl_scope.specs.Trail.{binds}

-- where the newest entry of a name stands, counted from the oldest
abbrev pub newest : List Entry → Local → List ℕ → Option ℕ
newest [] space name = None
newest (Begin ∷ past) space name = newest past space name
newest (Named s m n ∷ past) space name = if binds s m space name then Some (length past) else newest past space name

-- where the innermost scope begins
abbrev pub beginning : List Entry → Option ℕ
beginning [] = None
beginning (Begin ∷ past) = Some (length past)
beginning (Named s m n ∷ past) = beginning past

abbrev pub is_before : ℕ → Option ℕ → Bool
is_before at None = false
is_before at (Some begin) = nat_lt at begin

-- each entry with the one that it hides
abbrev pub slots_of : List Entry → List Slot
slots_of [] = []
slots_of (Begin ∷ past) = record { entry = Begin; hidden = beginning past } ∷ slots_of past
slots_of (Named s m n ∷ past) = record { entry = Named s m n; hidden = newest past s m } ∷ slots_of past

abbrev pub trail_of : List Slot → List Entry
trail_of slots = map (λ (s : Slot). s.entry) (reverse slots)

-- the newest entry of a name in each name space
abbrev pub head_by : Option Heads → Local → Option ℕ
head_by None space = None
head_by (Some h) Ordinary = h.ordinary
head_by (Some h) Tags = h.tags
head_by (Some h) Labels = h.labels

abbrev pub head_of : BTreeMap (List ℕ) Heads → Local → List ℕ → Option ℕ
head_of heads space name = head_by (get (slice_cmp nat_cmp) heads name) space

pub record IsIndexed (slots : List Slot) (begin : Option ℕ) (heads : BTreeMap (List ℕ) Heads) : Type 0 where
  pub hides : reverse slots ≡ slots_of (trail_of slots)
  pub begins : begin ≡ beginning (trail_of slots)
  pub newests : (space : Local) (name : List ℕ) → head_of heads space name ≡ newest (trail_of slots) space name
  pub room : length slots < 2 ^ 32

abbrev pub number_by : Entry → Option DeclNo
number_by Begin = None
number_by (Named s m n) = Some n

-- the number of a named entry
abbrev pub number_of : Option Slot → Option DeclNo
number_of None = None
number_of (Some slot) = number_by slot.entry

abbrev pub number_in : List Slot → ℕ → Option DeclNo
number_in slots at = number_of (slice_get slots at)
