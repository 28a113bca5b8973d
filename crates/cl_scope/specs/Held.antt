-- Which declarations of a name have a scope that holds a place (6.2.1), told by all that went before, with no table: the
-- list has the newest event first.
use Rattle.std.specs.Prelude.{ℕ, zero, suc, ◌-◌, nat_lt, Bool, true, false, ◌&&◌, if◌then◌else◌, List, [], ◌∷◌, Option, Some, None}
use Rattle.cl_types.specs.declared.types.DeclNo.{DeclNo}
use Rattle.cl_scope.specs.declared.history.Local.{Local}
use Rattle.cl_scope.specs.declared.history.Entry.{Entry}
use Rattle.cl_scope.specs.declared.history.Entry.TheVariants.{Begin}
use Rattle.cl_scope.specs.Trail.{binds, ended, named}

-- a scope begins, the innermost scope ends, or a name is declared in it
pub data Event : Type 0 where
  Begins : Event
  Ends : Event
  Declares : Local → List ℕ → DeclNo → Event

-- a declaration, and how many scopes lie within its own, round the place
pub record Held : Type 0 where
  pub within : ℕ
  pub no : DeclNo

-- where a scope begins, it lies within those that hold the place
abbrev pub further : List Held → List Held
further [] = []
further (h ∷ hs) = record { within = suc h.within; no = h.no } ∷ further hs

-- where the innermost scope ends, what is declared in it is gone (6.2.1p2)
abbrev pub nearer_by : ℕ → DeclNo → List Held → List Held
nearer_by zero n hs = hs
nearer_by (suc w) n hs = record { within = w; no = n } ∷ hs

abbrev pub nearer : List Held → List Held
nearer [] = []
nearer (h ∷ hs) = nearer_by h.within h.no (nearer hs)

-- how many scopes hold the place, but the file's
abbrev pub depth : List Event → ℕ
depth [] = zero
depth (Begins ∷ past) = suc (depth past)
depth (Ends ∷ past) = depth past - 1
depth (Declares s m n ∷ past) = depth past

-- all declarations of the name, in this name space, whose scope holds the place
abbrev pub held : List Event → Local → List ℕ → List Held
held [] space name = []
held (Begins ∷ past) space name = further (held past space name)
held (Ends ∷ past) space name = nearer (held past space name)
held (Declares s m n ∷ past) space name =
    if binds s m space name && nat_lt zero (depth past) then record { within = zero; no = n } ∷ held past space name else held past space name

-- 6.2.1p4: of two of them, the one of the inner scope, and in one scope the last one
abbrev pub inner : Held → Held → Held
inner h k = if nat_lt h.within k.within then h else if nat_lt k.within h.within then k else if nat_lt h.no.0 k.no.0 then k else h

abbrev pub inner_of : Held → Option Held → Option Held
inner_of h None = Some h
inner_of h (Some k) = Some (inner h k)

-- the last one of the innermost scope
abbrev pub innermost : List Held → Option Held
innermost [] = None
innermost (h ∷ hs) = inner_of h (innermost hs)

abbrev pub number_of : Option Held → Option DeclNo
number_of None = None
number_of (Some h) = Some h.no

-- what the trail is after these events
abbrev pub trail_after : List Event → List Entry
trail_after [] = []
trail_after (Begins ∷ past) = Begin ∷ trail_after past
trail_after (Ends ∷ past) = ended (trail_after past)
trail_after (Declares s m n ∷ past) = named (trail_after past) (Some s) m n
