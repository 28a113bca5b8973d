-- The scopes that hold a place (6.2.1), but the file's, as what began and was bound before the place, the newest first. What
-- stands in a scope that has ended is gone.
use Rattle.std.specs.Prelude.{ℕ, nat_lt, Bool, true, false, not, ◌&&◌, if◌then◌else◌, List, [], ◌∷◌, Option, Some, None}
use Rattle.cl_types.specs.declared.types.DeclNo.{DeclNo}
use Rattle.cl_scope.specs.declared.history.Local.{Local}
use Rattle.cl_scope.specs.declared.history.Local.TheVariants.{Ordinary, Tags, Labels}
use Rattle.cl_scope.specs.declared.history.Entry.{Entry}
use Rattle.cl_scope.specs.declared.history.Entry.TheVariants.{Begin, Named}
use Rattle.cl_scope.specs.Names.{is_name}

abbrev pub one_space : Local → Local → Bool
one_space Ordinary Ordinary = true
one_space Tags Tags = true
one_space Labels Labels = true
one_space _ _ = false

abbrev pub binds : Local → List ℕ → Local → List ℕ → Bool
binds s m space name = one_space s space && is_name m name

-- the last declaration of the innermost scope that has the name (6.2.1p4)
abbrev pub seen : List Entry → Local → List ℕ → Option DeclNo
seen [] space name = None
seen (Begin ∷ past) space name = seen past space name
seen (Named s m n ∷ past) space name = if binds s m space name then Some n else seen past space name

-- the last declaration of the name in the innermost scope
abbrev pub seen_here : List Entry → Local → List ℕ → Option DeclNo
seen_here [] space name = None
seen_here (Begin ∷ past) space name = None
seen_here (Named s m n ∷ past) space name = if binds s m space name then Some n else seen_here past space name

-- after the end of the innermost scope
abbrev pub ended : List Entry → List Entry
ended [] = []
ended (Begin ∷ past) = past
ended (Named s m n ∷ past) = ended past

abbrev pub is_last : Option DeclNo → DeclNo → Bool
is_last None n = true
is_last (Some m) n = not (nat_lt n.0 m.0)

-- a name gets a meaning in the innermost scope, unless it has that of a later declaration there; at file scope what is
-- settled tells it, and so it does of members
abbrev pub named : List Entry → Option Local → List ℕ → DeclNo → List Entry
named t None name n = t
named [] (Some space) name n = []
named (e ∷ past) (Some space) name n = if is_last (seen_here (e ∷ past) space name) n then Named space name n ∷ e ∷ past else e ∷ past
