-- The names that a file mentions at file scope (N1570 6.2.1, 6.7).
use Rattle.std.specs.Prelude.{ℕ, ◌+◌, ◌==◌, ◌||◌, ◌&&◌, not, if◌then◌else◌, List, [], ◌∷◌, ◌++◌, Bool, true, false, slice_get, Option, Some, None, nat_eq, codes}
use Rattle.std.specs.Cmp.Lexicographic.{pointwise}
use Rattle.std.specs.List.{flat_map, list_any}
use Rattle.cl_base.specs.declared.token.PpToken.{PpToken}
use Rattle.cl_tree.specs.Derives.{end, parts, start}
use Rattle.cl_tree.specs.Sets.{is_name}
use Rattle.cl_tree.specs.declared.rule.Rule.{Rule}
use Rattle.cl_tree.specs.declared.rule.Rule.TheVariants as ru
use Rattle.cl_tree.specs.declared.tree.Tree.{Tree, fold-Tree, out-Tree}
use Rattle.cl_tree.specs.declared.tree.Tree.TheOpen.{Tree-F}
use Rattle.cl_parse.specs.Tokens.{text_at}
use Rattle.cl_parse.specs.declared.item.Item.{Item}
use Rattle.cl_parse.specs.declared.item.Item.TheVariants.{Proper, Bad}
use Rattle.cl_outline.specs.declared.collect.Place.{Place}
use Rattle.cl_outline.specs.declared.mention.Mention.{Mention}
use Rattle.cl_outline.specs.declared.mention.Sort.{Sort}
use Rattle.cl_outline.specs.declared.mention.Sort.TheVariants as so
use Rattle.cl_outline.specs.declared.role.Role.{Role}
use Rattle.cl_outline.specs.declared.role.Role.TheVariants as ro
use Rattle.cl_outline.specs.Roles.{role_of}

abbrev pub is_tag : Sort → Bool
is_tag so.Function = false
is_tag so.Object = false
is_tag so.Typedef = false
is_tag so.Structure = true
is_tag so.Enumeration = true

-- ---- what one tree mentions

abbrev pub mention : Place → Sort → Bool → ℕ → Mention
mention p sort declares at = record { sort = sort; at = at; declares = declares; from = p.from; to = p.to }

-- what a declarator's name stands for
abbrev pub name_sort : Place → Sort
name_sort p = if p.typing then so.Typedef else if p.function then so.Function else so.Object

-- a member is none of the file's names
abbrev pub named : Place → ℕ → List Mention
named p at = if p.members then [] else mention p (name_sort p) true at ∷ []

abbrev pub is_brace : List PpToken → ℕ → Bool
is_brace tokens at = pointwise nat_eq (text_at tokens at) (codes "{") || pointwise nat_eq (text_at tokens at) (codes "<%")

-- a tag is the token behind `struct`, `union` or `enum`, if that isn't the content's `{`
abbrev pub tag : List PpToken → Place → Sort → Bool → ℕ → List Mention
tag tokens p sort declares at = if is_brace tokens (at + 1) then [] else mention p sort declares (at + 1) ∷ []

-- the item is `struct S ;`, which has no other tokens
abbrev pub is_alone : Place → Bool
is_alone p = p.to == p.from + 3

-- what a node itself mentions
abbrev pub own : List PpToken → Place → Role → ℕ → List Mention
own tokens p ro.Scoped at = []
own tokens p ro.Name at = named p at
own tokens p ro.Function at = []
own tokens p ro.Other at = []
own tokens p ro.Members at = []
own tokens p (ro.Structure content) at = tag tokens p so.Structure (content || is_alone p) at
own tokens p (ro.Enumeration content) at = tag tokens p so.Enumeration content at
own tokens p ro.Plain at = []

-- where its parts stand: the derivation next to a name says what it is
abbrev pub inner : Place → Role → Place
inner p ro.Function = record p { function = true }
inner p ro.Other = record p { function = false }
inner p ro.Members = record p { members = true }
inner p ro.Scoped = p
inner p ro.Name = p
inner p (ro.Structure content) = p
inner p (ro.Enumeration content) = p
inner p ro.Plain = p

abbrev pub is_scoped : Role → Bool
is_scoped ro.Scoped = true
is_scoped _ = false

-- a node mentions what it itself does, and then what its parts do, but for what has a scope of its own
abbrev pub by_role : List PpToken → Place → Role → ℕ → List (Place → List Mention) → List Mention
by_role tokens p role at below = if is_scoped role then [] else own tokens p role at ++ flat_map (λ f. f (inner p role)) below

abbrev pub mentions_step : List PpToken → Tree-F (Place → List Mention) → Place → List Mention
mentions_step tokens n p = by_role tokens p (role_of n.rule n.choice) n.from n.parts

abbrev pub mentions : List PpToken → Tree → Place → List Mention
mentions tokens = fold-Tree (Place → List Mention) (mentions_step tokens)

-- ---- what a file mentions

abbrev pub is_storage : Rule → Bool
is_storage ru.StorageClassSpecifier = true
is_storage _ = false

-- the storage-class specifier `typedef` (6.7.1)
abbrev pub is_typedef : Tree → Bool
is_typedef t = is_storage (out-Tree t).rule && (out-Tree t).choice == 0

abbrev pub has_typedef : Option Tree → Bool
has_typedef None = false
has_typedef (Some specifiers) = list_any is_typedef (parts specifiers)

-- where the parts of an external declaration stand. Its first part is its specifiers
abbrev pub outermost : Tree → Place
outermost t = record { from = start t; to = end t; typing = has_typedef (slice_get (parts t) 0); function = false; members = false }

abbrev pub mentioned_in : List PpToken → Item → List Mention
mentioned_in tokens (Proper tree) = mentions tokens tree (outermost tree)
mentioned_in tokens (Bad from to) = []

-- ---- what it declares

-- a tag of this name is among these
abbrev pub is_known : List PpToken → List Mention → List ℕ → Bool
is_known tokens ms name = list_any (λ m. is_tag m.sort && is_name (text_at tokens m.at) name) ms

-- a tag that is only named declares it where no tag of that name was named before (6.7.2.3p8)
abbrev pub declares : List PpToken → List Mention → Mention → Bool
declares tokens before m = m.declares || not (is_known tokens before (text_at tokens m.at))

abbrev pub declared : List PpToken → List Mention → List Mention → List Mention
declared tokens before [] = []
declared tokens before (m ∷ ms) = (if declares tokens before m then m ∷ [] else []) ++ declared tokens (before ++ m ∷ []) ms

-- the declarations at file scope, in order
abbrev pub outline : List PpToken → List Item → List Mention
outline tokens items = declared tokens [] (flat_map (mentioned_in tokens) items)
