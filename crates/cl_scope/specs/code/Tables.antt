-- The tables of what has changed since the base.
use Rattle.std.specs.Prelude.{◌≡◌, ℕ, ◌<◌, List, length, Option, Some, None, slice_get}
use Rattle.std.specs.Cmp.Lexicographic.{slice_cmp}
use Rattle.std.specs.Ordering.{nat_cmp}
use Rattle.std.specs.BTreeMap.{BTreeMap, get}
use Rattle.cl_types.specs.declared.types.DeclNo.{DeclNo}
use Rattle.cl_types.specs.declared.unit.Decl.{Decl}
use Rattle.cl_types.specs.declared.unit.Entity.{Entity}
use Rattle.cl_types.specs.declared.unit.Space.{Space}
use Rattle.cl_types.specs.declared.unit.Space.TheVariants.{Ordinary, Tags, Labels, MembersOf}
use Rattle.cl_types.specs.declared.unit.Linkage.{Linkage}
use Rattle.cl_types.specs.declared.unit.Linkage.TheVariants.{External, Internal, Without}
use Rattle.cl_scope.specs.declared.made.Settled.{Settled}
use Rattle.cl_scope.specs.declared.changed.Outside.{Outside}
use Rattle.cl_scope.specs.declared.changed.Links.{Links}
use Rattle.cl_scope.specs.Known.{Known, so_far}
use Rattle.cl_scope.specs.Steps.{or_else}

abbrev pub outside_in : Option Outside → Space → Option DeclNo
outside_in None space = None
outside_in (Some o) Ordinary = o.ordinary
outside_in (Some o) Tags = o.tag
outside_in (Some o) Labels = None
outside_in (Some o) (MembersOf tag) = get nat_cmp o.members tag.0

abbrev pub outside_of : BTreeMap (List ℕ) Outside → Space → List ℕ → Option DeclNo
outside_of table space name = outside_in (get (slice_cmp nat_cmp) table name) space

abbrev pub link_in : Option Links → Linkage → Option DeclNo
link_in None linkage = None
link_in (Some l) External = l.external
link_in (Some l) Internal = l.internal
link_in (Some l) Without = None

abbrev pub link_of : BTreeMap (List ℕ) Links → List ℕ → Linkage → Option DeclNo
link_of table name linkage = link_in (get (slice_cmp nat_cmp) table name) linkage

abbrev pub decl_of : Option Settled → Option Decl
decl_of None = None
decl_of (Some s) = Some s.decl

-- what was settled at this place
abbrev pub decl_at : List Settled → Option ℕ → Option Decl
decl_at settled None = None
decl_at settled (Some i) = decl_of (slice_get settled i)

-- what the tables have goes before what the base has, and together they tell what the unit so far tells
pub record Tells (base : Known) (settled : List Settled) (outsides : BTreeMap (List ℕ) Outside) (linking : BTreeMap (List ℕ) Links) (entities : BTreeMap ℕ Entity) (latest : BTreeMap ℕ ℕ) : Type 0 where
  pub outside : (space : Space) (name : List ℕ) → (so_far base settled).outside space name ≡ or_else (outside_of outsides space name) (base.outside space name)
  pub linked : (name : List ℕ) (linkage : Linkage) → (so_far base settled).linked name linkage ≡ or_else (link_of linking name linkage) (base.linked name linkage)
  pub entity : (n : ℕ) → (so_far base settled).entity n ≡ or_else (get nat_cmp entities n) (base.entity n)
  pub decl : (n : ℕ) → (so_far base settled).decl n ≡ or_else (decl_at settled (get nat_cmp latest n)) (base.decl n)
  pub within : (n i : ℕ) → get nat_cmp latest n ≡ Some i → i < length settled
  pub count : (so_far base settled).count ≡ base.count
