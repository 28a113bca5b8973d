-- What a node of a tree says of the names in it.
use Rattle.std.specs.Prelude.{ℕ, ◌==◌, ◌||◌, not, if◌then◌else◌}
use Rattle.cl_tree.specs.declared.rule.Rule.{Rule}
use Rattle.cl_tree.specs.declared.rule.Rule.TheVariants as ru
use Rattle.cl_outline.specs.declared.role.Role.{Role}
use Rattle.cl_outline.specs.declared.role.Role.TheVariants as ro

-- a direct declarator is a name, a declarator in parentheses, an array's or a function's (N1570 6.7.6)
abbrev pub declarator_role : ℕ → Role
declarator_role choice = if choice == 0 then ro.Name else if choice == 1 then ro.Plain else if choice == 6 || choice == 7 then ro.Function else ro.Other

-- a parameter list and a body have scopes of their own (6.2.1p4); a declarator with a pointer makes a pointer (6.7.6.1); a
-- structure or union has its content or not (6.7.2.1), and so has an enumeration (6.7.2.2)
abbrev pub role_of : Rule → ℕ → Role
role_of ru.ParameterTypeList choice = ro.Scoped
role_of ru.ParameterList choice = ro.Scoped
role_of ru.CompoundStatement choice = ro.Scoped
role_of ru.DirectDeclarator choice = declarator_role choice
role_of ru.Declarator choice = ro.Other
role_of ru.StructDeclaration choice = ro.Members
role_of ru.StructOrUnionSpecifier choice = ro.Structure (choice == 0)
role_of ru.EnumSpecifier choice = ro.Enumeration (not (choice == 2))
role_of _ choice = ro.Plain
