-- Equality of what is known decides whether it is the same.
use Rattle.std.proofs.Common.{◌≡◌, ℕ, List, [], refl, ap}
use Rattle.std.proofs.lemmas.Bool.{false≢true}
use Rattle.std.proofs.lemmas.Slice.Eq.{bytes_eq-Decides}
use Rattle.std.specs.Bool.{Decides}
use Rattle.cl_base.specs.declared.headers.Known.{Known}
use Rattle.cl_base.specs.declared.headers.Known.TheVariants.{Found, Absent, Failed, Unknown}
use Rattle.cl_base.specs.contracts.headers.KnownPartialEq.TheImpl as equality

text_of : Known → List ℕ
text_of (Found text) = text
text_of Absent = []
text_of Failed = []
text_of Unknown = []

same_text : (s t : List ℕ) → Found s ≡ Found t → s ≡ t
unfolding text_of
same_text s t e = ap text_of e

pub known_Decides : (a b : Known) → Decides (equality.ghosts.eq a b) (a ≡ b)
known_Decides (Found s) (Found t) = (λ e. ap Found ((bytes_eq-Decides s t).0 e), λ e. (bytes_eq-Decides s t).1 (same_text s t e))
known_Decides (Found s) Absent = (λ e. absurd (false≢true e), λ e. cc)
known_Decides (Found s) Failed = (λ e. absurd (false≢true e), λ e. cc)
known_Decides (Found s) Unknown = (λ e. absurd (false≢true e), λ e. cc)
known_Decides Absent (Found t) = (λ e. absurd (false≢true e), λ e. cc)
known_Decides Absent Absent = (λ e. refl, λ e. refl)
known_Decides Absent Failed = (λ e. absurd (false≢true e), λ e. cc)
known_Decides Absent Unknown = (λ e. absurd (false≢true e), λ e. cc)
known_Decides Failed (Found t) = (λ e. absurd (false≢true e), λ e. cc)
known_Decides Failed Absent = (λ e. absurd (false≢true e), λ e. cc)
known_Decides Failed Failed = (λ e. refl, λ e. refl)
known_Decides Failed Unknown = (λ e. absurd (false≢true e), λ e. cc)
known_Decides Unknown (Found t) = (λ e. absurd (false≢true e), λ e. cc)
known_Decides Unknown Absent = (λ e. absurd (false≢true e), λ e. cc)
known_Decides Unknown Failed = (λ e. absurd (false≢true e), λ e. cc)
known_Decides Unknown Unknown = (λ e. refl, λ e. refl)
