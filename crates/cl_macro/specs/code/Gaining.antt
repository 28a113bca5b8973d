-- What an expansion gains as the run is gone over.
use Rattle.std.specs.Prelude.{◌≡◌, ℕ, List, [], ◌∷◌, ◌++◌, if◌then◌else◌, Option}
use Rattle.cl_base.specs.declared.macros.MacroNo.{MacroNo}
use Rattle.cl_base.specs.declared.token.PpToken.{PpToken}
use Rattle.cl_macro.specs.declared.expanded.Expanded.{Expanded}
use Rattle.cl_macro.specs.declared.note.Told.{Told}
use Rattle.cl_macro.specs.Expansions.{faults_of, looks_of, uses_of}
use Rattle.cl_macro.specs.Words.{is_ident}

-- a token of the run has stayed
pub record Keeps (token : PpToken) (old new : Expanded) : Type 0 where
  pub tokens : new.tokens ≡ old.tokens ++ token ∷ []
  pub faults : new.faults ≡ old.faults
  pub looked : new.looked ≡ old.looked ++ (if is_ident token.kind then token.text ∷ [] else [])
  pub uses : new.uses ≡ old.uses

-- these things have been told
pub record Tells (events : List ℕ → Option MacroNo) (told : List Told) (old new : Expanded) : Type 0 where
  pub tokens : new.tokens ≡ old.tokens
  pub faults : new.faults ≡ old.faults ++ faults_of told
  pub looked : new.looked ≡ old.looked ++ looks_of told
  pub uses : new.uses ≡ old.uses ++ uses_of events told
