-- Names and name spaces (6.2.3), linkage (6.2.2).
use Rattle.std.specs.Prelude.{ℕ, ◌==◌, Bool, true, false, ◌&&◌, List, Option, Some, None}
use Rattle.std.specs.Cmp.Lexicographic.{slice_cmp}
use Rattle.std.specs.Ordering.{nat_cmp, is_eq}
use Rattle.cl_types.specs.declared.types.DeclNo.{DeclNo}
use Rattle.cl_types.specs.declared.unit.Decl.{Decl}
use Rattle.cl_types.specs.declared.unit.DeclKind.{DeclKind}
use Rattle.cl_types.specs.declared.unit.DeclKind.TheVariants as kind
use Rattle.cl_types.specs.declared.unit.ScopeKind.{ScopeKind}
use Rattle.cl_types.specs.declared.unit.ScopeKind.TheVariants.{File}
use Rattle.cl_types.specs.declared.unit.Space.{Space}
use Rattle.cl_types.specs.declared.unit.Space.TheVariants as space
use Rattle.cl_scope.specs.declared.history.Local.{Local}
use Rattle.cl_scope.specs.declared.history.Local.TheVariants as local
use Rattle.cl_scope.specs.declared.changed.Lasting.{Lasting}
use Rattle.cl_scope.specs.declared.changed.Lasting.TheVariants.{Ordinary, Tags, MembersOf}
use Rattle.cl_types.specs.declared.unit.Linkage.{Linkage}
use Rattle.cl_types.specs.declared.unit.Linkage.TheVariants.{External, Internal}

-- two names are one: neither goes before the other in the order of their bytes
abbrev pub is_name : List ℕ → List ℕ → Bool
is_name name other = is_eq (slice_cmp nat_cmp name other)

abbrev pub has_name : Option (List ℕ) → List ℕ → Bool
has_name None other = false
has_name (Some name) other = is_name name other

abbrev pub same_space : Lasting → Space → Bool
same_space Ordinary space.Ordinary = true
same_space Tags space.Tags = true
same_space (MembersOf a) (space.MembersOf b) = a.0 == b.0
same_space _ _ = false

abbrev pub space_of : Lasting → Space
space_of Ordinary = space.Ordinary
space_of Tags = space.Tags
space_of (MembersOf tag) = space.MembersOf tag

abbrev pub at_file : ScopeKind → Lasting → Option Lasting
at_file File space = Some space
at_file _ space = None

abbrev pub within_owner : Option DeclNo → Option Lasting
within_owner None = None
within_owner (Some owner) = Some (MembersOf owner)

-- the name space of a declaration at file scope, or of a member (6.2.3)
abbrev pub space_by : DeclKind → ScopeKind → Option DeclNo → Option Lasting
space_by kind.Object scope owner = at_file scope Ordinary
space_by kind.Function scope owner = at_file scope Ordinary
space_by kind.Typedef scope owner = at_file scope Ordinary
space_by kind.Enumerator scope owner = at_file scope Ordinary
space_by kind.Param scope owner = at_file scope Ordinary
space_by kind.Struct scope owner = at_file scope Tags
space_by kind.Union scope owner = at_file scope Tags
space_by kind.Enum scope owner = at_file scope Tags
space_by kind.Member scope owner = within_owner owner
space_by kind.Label scope owner = None

abbrev pub space_outside : Decl → Option Lasting
space_outside d = space_by d.kind d.scope d.owner

abbrev pub is_space : Option Lasting → Space → Bool
is_space None other = false
is_space (Some space) other = same_space space other

abbrev pub local_of : Space → Option Local
local_of space.Ordinary = Some local.Ordinary
local_of space.Tags = Some local.Tags
local_of space.Labels = Some local.Labels
local_of (space.MembersOf tag) = None

-- whether a declaration gives a name of this space its meaning at file scope, or in a structure or union
abbrev pub declares : Decl → Space → List ℕ → Bool
declares d space name = is_space (space_outside d) space && has_name d.name name

-- 6.2.2p2: one linkage, and not none
abbrev pub same_linkage : Linkage → Linkage → Bool
same_linkage External External = true
same_linkage Internal Internal = true
same_linkage _ _ = false

-- whether a declaration gives a name this linkage
abbrev pub links : Decl → List ℕ → Linkage → Bool
links d name linkage = same_linkage d.linkage linkage && has_name d.name name
