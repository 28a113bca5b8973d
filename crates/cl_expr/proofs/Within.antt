-- A token that has a class is there.
use Rattle.std.proofs.Common.{◌≡◌, ℕ, ◌<◌, List, refl, length}
use Rattle.std.specs.Prelude.{Option, Some, None, slice_get}
use Rattle.std.proofs.lemmas.Option.{slice_get_within}
use Rattle.cl_tree.specs.declared.class.Class.{Class}
use Rattle.cl_tree.specs.declared.lexeme.Lexeme.{Lexeme}
use Rattle.cl_tree.specs.declared.scope.Scope.{Scope}
use Rattle.cl_tree.specs.Scopes.{class_at, class_of}

none_not : {X : Type 0} {x : X} → None ≡ Some x → ⊥
none_not e = cc

pub class_within : (ts : List Lexeme) (s : Scope) (at : ℕ) (k : Class) → class_at ts s at ≡ Some k → at < length ts
unfolding class_at
class_within ts s at k e = go (slice_get ts at) refl e
  where
    go : (o : Option Lexeme) → slice_get ts at ≡ o → class_of ts s.changes at o ≡ Some k → at < length ts
    go None is e = absurd (none_not e)
    go (Some l) is e = slice_get_within ts at l is
