-- The words of a table.
use Rattle.std.proofs.Common.{◌≡◌, ℕ, List, Bor, map}
use Rattle.std.proofs.lemmas.Option.{slice_get-map}
use Rattle.std.specs.Prelude.{slice_get, option_map}

pub word_found : (words : List (Bor (List ℕ))) (place : ℕ) → slice_get (map (λ (w : Bor (List ℕ)). w.now) words) place ≡ option_map (λ (w : Bor (List ℕ)). w.now) (slice_get words place)
word_found words place = slice_get-map (λ (w : Bor (List ℕ)). w.now) words place
