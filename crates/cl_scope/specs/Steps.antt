-- What the meaning of an item may ask of the unit so far, and what it may add: the whole of it. A meaning is a tree of such
-- steps, whose branches are the answers.
use Rattle.std.specs.Prelude.{ℕ, ◌+◌, ◌-◌, ◌==◌, Bool, true, false, ◌&&◌, ◌||◌, if◌then◌else◌, List, [], ◌∷◌, ◌++◌, length, take, slice_get, Option, Some, None}
use Rattle.cl_base.specs.declared.token.Diag.{Diag}
use Rattle.cl_types.specs.declared.types.DeclNo.{DeclNo}
use Rattle.cl_types.specs.declared.unit.Decl.{Decl}
use Rattle.cl_types.specs.declared.unit.Entity.{Entity}
use Rattle.cl_types.specs.declared.unit.Space.{Space}
use Rattle.cl_types.specs.declared.unit.Space.TheVariants.{Labels}
use Rattle.cl_types.specs.declared.unit.Linkage.{Linkage}
use Rattle.cl_types.specs.declared.unit.ScopeKind.{ScopeKind}
use Rattle.cl_types.specs.declared.unit.ScopeKind.TheVariants.{File, Block, Prototype, Function, Members}
use Rattle.cl_scope.specs.declared.made.Made.{Made}
use Rattle.cl_scope.specs.declared.made.Bound.{Bound}
use Rattle.cl_scope.specs.declared.made.Bound.TheVariants.{First, Again}
use Rattle.cl_scope.specs.declared.made.PlacedUse.{PlacedUse}
use Rattle.cl_scope.specs.declared.history.Local.{Local}
use Rattle.cl_scope.specs.declared.history.Entry.{Entry}
use Rattle.cl_scope.specs.declared.history.Entry.TheVariants.{Begin}
use Rattle.cl_scope.specs.declared.history.Within.{Within}
use Rattle.cl_scope.specs.Known.{Known, known, known_after}
use Rattle.cl_scope.specs.Names.{local_of}
use Rattle.cl_scope.specs.Trail as trail

pub data Steps : Type 0 where
  Stop : Steps
  -- the visible declaration of a name; the last of it in the innermost scope; the first of it that has this linkage
  Visible : Space → List ℕ → (Option DeclNo → Steps) → Steps
  Here : Space → List ℕ → (Option DeclNo → Steps) → Steps
  Linked : List ℕ → Linkage → (Option DeclNo → Steps) → Steps
  -- a declaration; the entity that begins with one; whether the content of a tag is being read
  DeclOf : DeclNo → (Option Decl → Steps) → Steps
  EntityOf : DeclNo → (Option Entity → Steps) → Steps
  IsOpen : DeclNo → (Bool → Steps) → Steps
  -- what the place stands in: the kind of it, the kind of the innermost scope, and whose content it is
  Where : (ScopeKind → ScopeKind → Option DeclNo → Steps) → Steps
  -- scopes and contents
  Enter : ScopeKind → Option DeclNo → Steps → Steps
  Leave : Steps → Steps
  -- a number is taken; it is settled what its declaration is; the scope of its name begins (6.2.1p7)
  Reserve : (DeclNo → Steps) → Steps
  Settle : DeclNo → Decl → Steps → Steps
  Bind : Space → List ℕ → DeclNo → Steps → Steps
  -- a use; a diagnostic
  Means : PlacedUse → Steps → Steps
  Tell : Diag → Steps → Steps

-- a base, what was made after it, what the place stands in, the outermost first, and the names of the scopes that hold it
pub record World : Type 0 where
  pub base : Made
  pub made : Made
  pub levels : List Within
  pub trail : List Entry

abbrev pub unit_of : World → Known
unit_of w = known_after (known w.base) w.made

-- ---- what a place stands in

-- the content of a tag is no scope for tags and ordinary names (6.2.1p4)
abbrev pub is_content : ScopeKind → Bool
is_content Members = true
is_content _ = false

abbrev pub top : List Within → Option Within
top levels = slice_get levels (length levels - 1)

abbrev pub kind_by : Option Within → ScopeKind
kind_by None = File
kind_by (Some l) = l.kind

abbrev pub scope_by : Option Within → ScopeKind
scope_by None = File
scope_by (Some l) = l.scope

abbrev pub owner_by : Option Within → Option DeclNo
owner_by None = None
owner_by (Some l) = l.owner

abbrev pub has_owner : Option DeclNo → DeclNo → Bool
has_owner None n = false
has_owner (Some m) n = m.0 == n.0

abbrev pub is_open : List Within → DeclNo → Bool
is_open [] n = false
is_open (l ∷ ls) n = is_content l.kind && has_owner l.owner n || is_open ls n

abbrev pub owner_within : Option DeclNo → Option DeclNo → Option DeclNo
owner_within (Some n) outer = Some n
owner_within None outer = outer

abbrev pub level : List Within → ScopeKind → Option DeclNo → Within
level levels kind owner = record {
  kind = kind;
  scope = if is_content kind then scope_by (top levels) else kind;
  owner = owner_within owner (owner_by (top levels));
}

-- ---- names

-- what a name means at file scope, or in a structure or union; no label has either
abbrev pub outside_at : (Space → List ℕ → Option DeclNo) → Space → List ℕ → Option DeclNo
outside_at f Labels name = None
outside_at f space name = f space name

abbrev pub outside_by : Known → Space → List ℕ → Option DeclNo
outside_by g space name = outside_at g.outside space name

abbrev pub or_else : {A : Type 0} → Option A → Option A → Option A
or_else None b = b
or_else (Some a) b = Some a

abbrev pub seen_by : List Entry → Option Local → List ℕ → Option DeclNo
seen_by t None name = None
seen_by t (Some space) name = trail.seen t space name

-- 6.2.1p4: the last declaration of the innermost scope that has the name
abbrev pub visible_by : Known → List Entry → Space → List ℕ → Option DeclNo
visible_by g t space name = or_else (seen_by t (local_of space) name) (outside_by g space name)

abbrev pub here_of : Option DeclNo → List Entry → Option Local → List ℕ → Option DeclNo
here_of outside t None name = outside
here_of outside [] (Some space) name = outside
here_of outside (e ∷ past) (Some space) name = trail.seen_here (e ∷ past) space name

-- the last declaration of the name in the innermost scope, or in the structure or union
abbrev pub here_by : Known → List Entry → Space → List ℕ → Option DeclNo
here_by g t space name = here_of (outside_by g space name) t (local_of space) name

abbrev pub bound_by : Option DeclNo → Bound
bound_by None = First
bound_by (Some n) = Again n

-- ---- changes

abbrev pub entered : World → ScopeKind → Option DeclNo → World
entered w kind owner = record w { levels = w.levels ++ level w.levels kind owner ∷ []; trail = if is_content kind then w.trail else Begin ∷ w.trail }

abbrev pub left_trail : Option Within → List Entry → List Entry
left_trail None t = t
left_trail (Some l) t = if is_content l.kind then t else trail.ended t

abbrev pub left : World → World
left w = record w { levels = take (length w.levels - 1) w.levels; trail = left_trail (top w.levels) w.trail }

abbrev pub reserved : World → World
reserved w = record w { made = record (w.made) { taken = w.made.taken + 1 } }

abbrev pub settled_as : World → DeclNo → Decl → World
settled_as w n d = record w { made = record (w.made) { settled = w.made.settled ++ record { no = n; decl = d } ∷ [] } }

abbrev pub bound : World → Space → List ℕ → DeclNo → World
bound w space name n = record w { trail = trail.named w.trail (local_of space) name n }

abbrev pub meant : World → PlacedUse → World
meant w u = record w { made = record (w.made) { uses = w.made.uses ++ u ∷ [] } }

abbrev pub told : World → Diag → World
told w fact = record w { made = record (w.made) { facts = w.made.facts ++ fact ∷ [] } }

-- what a world becomes by these steps
abbrev pub run : Steps → World → World
run Stop w = w
run (Visible space name k) w = run (k (visible_by (unit_of w) w.trail space name)) w
run (Here space name k) w = run (k (here_by (unit_of w) w.trail space name)) w
run (Linked name linkage k) w = run (k ((unit_of w).linked name linkage)) w
run (DeclOf n k) w = run (k ((unit_of w).decl n.0)) w
run (EntityOf n k) w = run (k ((unit_of w).entity n.0)) w
run (IsOpen n k) w = run (k (is_open w.levels n)) w
run (Where k) w = run (k (kind_by (top w.levels)) (scope_by (top w.levels)) (owner_by (top w.levels))) w
run (Enter kind owner k) w = run k (entered w kind owner)
run (Leave k) w = run k (left w)
run (Reserve k) w = run (k (record { 0 = (unit_of w).count })) (reserved w)
run (Settle n d k) w = run k (settled_as w n d)
run (Bind space name n k) w = run k (bound w space name n)
run (Means u k) w = run k (meant w u)
run (Tell fact k) w = run k (told w fact)
