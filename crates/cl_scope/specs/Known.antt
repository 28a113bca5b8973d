-- The unit so far, as the answers that it gives. What is settled of a further declaration changes them in the way of
-- `extend`, and nothing else changes them.
use Rattle.std.specs.Prelude.{ℕ, ◌+◌, ◌==◌, nat_lt, Bool, true, false, ◌&&◌, if◌then◌else◌, List, [], ◌∷◌, ◌++◌, Option, Some, None}
use Rattle.cl_types.specs.declared.types.DeclNo.{DeclNo}
use Rattle.cl_types.specs.declared.types.CType.{CType}
use Rattle.cl_types.specs.declared.unit.Decl.{Decl}
use Rattle.cl_types.specs.declared.unit.Entity.{Entity}
use Rattle.cl_types.specs.declared.unit.Space.{Space}
use Rattle.cl_types.specs.declared.unit.Linkage.{Linkage}
use Rattle.cl_types.specs.Compatible.{compatible}
use Rattle.cl_types.specs.Composite.{composite}
use Rattle.cl_scope.specs.declared.made.Settled.{Settled}
use Rattle.cl_scope.specs.declared.made.Made.{Made}
use Rattle.cl_scope.specs.Names.{declares, links}

pub record Known : Type 0 where
  -- how many numbers are taken
  pub count : ℕ
  -- what a declaration is, once that is settled
  pub decl : ℕ → Option Decl
  -- the entity that begins with a declaration
  pub entity : ℕ → Option Entity
  -- the last declaration of a name in a name space, at file scope or in a structure or union
  pub outside : Space → List ℕ → Option DeclNo
  -- the first declaration of a name that has this linkage, in whatever scope
  pub linked : List ℕ → Linkage → Option DeclNo

abbrev pub later : Option DeclNo → DeclNo → DeclNo
later None n = n
later (Some m) n = if nat_lt n.0 m.0 then m else n

abbrev pub earlier : Option DeclNo → DeclNo → DeclNo
earlier None n = n
earlier (Some m) n = if nat_lt m.0 n.0 then m else n

-- ---- entities

-- 6.2.7p3: what isn't compatible with the type so far leaves it as it is
abbrev pub joined_type : CType → CType → CType
joined_type t u = if compatible t u then composite t u else t

-- the first of those that define
abbrev pub joined_definition : Option DeclNo → Bool → DeclNo → Option DeclNo
joined_definition old false n = old
joined_definition old true n = Some (earlier old n)

-- an entity with one more declaration, or with one that it has, settled anew
abbrev pub joined : Option Entity → Bool → DeclNo → Decl → Entity
joined None again n d = record { first = d.first; all = n ∷ []; ty = d.ty; complete = joined_definition None d.defines n }
joined (Some e) again n d = record {
  first = e.first;
  all = if again then e.all else e.all ++ n ∷ [];
  ty = joined_type e.ty d.ty;
  complete = joined_definition e.complete d.defines n;
}

-- whether a declaration is settled as one of this entity
abbrev pub is_of : Option Decl → DeclNo → Bool
is_of None first = false
is_of (Some d) first = d.first.0 == first.0

-- ---- the unit so far

-- what changes where it is settled what the declaration of this number is
abbrev pub extend : Known → DeclNo → Decl → Known
extend g n d = record {
  count = g.count;
  decl = λ m. if m == n.0 then Some d else g.decl m;
  entity = λ m. if m == d.first.0 then Some (joined (g.entity m) (is_of (g.decl n.0) d.first) n d) else g.entity m;
  outside = λ space name. if declares d space name then Some (later (g.outside space name) n) else g.outside space name;
  linked = λ name linkage. if links d name linkage then Some (earlier (g.linked name linkage) n) else g.linked name linkage;
}

-- what was settled, the oldest first
unfoldable pub so_far : Known → List Settled → Known
so_far g [] = g
so_far g (s ∷ ss) = so_far (extend g s.no s.decl) ss

-- with so many more numbers taken
abbrev pub counted : Known → ℕ → Known
counted g taken = record { count = g.count + taken; decl = g.decl; entity = g.entity; outside = g.outside; linked = g.linked }

abbrev pub nothing_known : Known
nothing_known = record { count = 0; decl = λ n. None; entity = λ n. None; outside = λ space name. None; linked = λ name linkage. None }

-- what is known after this was made, over what was known before
abbrev pub known_after : Known → Made → Known
known_after g made = counted (so_far g made.settled) made.taken

-- what is known of a unit of which this was made
unfoldable pub known : Made → Known
known made = known_after nothing_known made
