-- What a change of the map says of the documents.
use Rattle.std.proofs.Common.{◌≡◌, ℕ, ℤ, List, Some, refl, SFits, w64, to_z, of_z}
use Rattle.std.proofs.lemmas.Int.{to_z-of_z}
use Rattle.std.specs.Ordering.{nat_cmp}
use Rattle.std.specs.Cmp.Lexicographic.{slice_cmp}
use Rattle.std.specs.BTreeMap.{UpdatesBy}
use Rattle.std.specs.Prelude.{Option}
use Rattle.std.proofs.lemmas.Map.Text.{is_eq-slice_cmp}
use Rattle.cl_store.specs.declared.docs.Doc.{Doc}
use Rattle.std.specs.BTreeMap.{BTreeMap}
use Rattle.cl_store.specs.Docs.{Puts}

pub puts : (old new : BTreeMap (List ℕ) Doc) (path : List ℕ) (doc : Option Doc) → UpdatesBy (slice_cmp nat_cmp) (slice_cmp nat_cmp path) old new doc → Puts old.entries new.entries path doc
puts old new path doc u q = rw (← is_eq-slice_cmp path q) (u.0 q)

-- a signed number that was stored is read back
pub stored : (version : ℤ) (text : List ℕ) → SFits w64 version → ◌≡◌ {A = Doc} (record { version = to_z w64 (of_z w64 version); text = text }) (record { version = version; text = text })
stored version text fits = rw (to_z-of_z w64 version fits) refl

pub puts_doc : (old new : BTreeMap (List ℕ) Doc) (path : List ℕ) (version : ℤ) (text : List ℕ) → SFits w64 version
    → UpdatesBy (slice_cmp nat_cmp) (slice_cmp nat_cmp path) old new (Some (record { version = to_z w64 (of_z w64 version); text = text }))
    → Puts old.entries new.entries path (Some (record { version = version; text = text }))
puts_doc old new path version text fits u = rw (← stored version text fits) (puts old new path _ u)
