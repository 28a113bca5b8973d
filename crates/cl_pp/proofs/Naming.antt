-- Headers that are named in UTF-8, or not.
use Rattle.std.proofs.Common.{◌≡◌, ℕ, Bool, true, false, List, Some, IsUtf8, refl, ap}
use Rattle.std.specs.Prelude.{if◌then◌else◌, slice_get}
use Rattle.std.specs.Str.{is_utf8}
use Rattle.std.proofs.lemmas.Str.{is_utf8-from_IsUtf8, IsUtf8-from_is_utf8}
use Rattle.cl_base.specs.declared.token.PpToken.{PpToken}
use Rattle.cl_base.specs.declared.token.Token.{Token}
use Rattle.cl_pp.specs.declared.aim.Aim.TheVariants.{Nothing, Header}
use Rattle.cl_pp.specs.declared.aim.Named.{Named}
use Rattle.cl_pp.specs.Including.{aim_of, extra_made, included}
use Rattle.cl_pp.specs.Lines.{fault_in, span_or}

not_true : (b : Bool) → (b ≡ true → ⊥) → b ≡ false
not_true true h = absurd (h refl)
not_true false h = refl

pub named_aim : (file : ℕ) (named : Named) (tokens : List PpToken) (line : List Token) → IsUtf8 named.name
    → aim_of file (Some named) tokens line ≡ Header (record { angled = named.angled; name = named.name; at = span_or file (slice_get tokens 0) line })
named_aim file named tokens line u = ap (λ (b : Bool). if b then Header (record { angled = named.angled; name = named.name; at = span_or file (slice_get tokens 0) line }) else Nothing) (is_utf8-from_IsUtf8 named.name u)

pub named_faults : (file : ℕ) (named : Named) (tokens : List PpToken) (line : List Token) → IsUtf8 named.name → included file (Some named) tokens line ≡ extra_made named.extra
named_faults file named tokens line u = ap (λ (b : Bool). if b then extra_made named.extra else fault_in file 8 tokens 0 line) (is_utf8-from_IsUtf8 named.name u)

not_utf8 : (text : List ℕ) → (IsUtf8 text → ⊥) → is_utf8 text ≡ false
not_utf8 text h = not_true (is_utf8 text) (λ e. h (IsUtf8-from_is_utf8 text e))

pub other_aim : (file : ℕ) (named : Named) (tokens : List PpToken) (line : List Token) → (IsUtf8 named.name → ⊥) → aim_of file (Some named) tokens line ≡ Nothing
other_aim file named tokens line h = ap (λ (b : Bool). if b then Header (record { angled = named.angled; name = named.name; at = span_or file (slice_get tokens 0) line }) else Nothing) (not_utf8 named.name h)

pub other_faults : (file : ℕ) (named : Named) (tokens : List PpToken) (line : List Token) → (IsUtf8 named.name → ⊥) → included file (Some named) tokens line ≡ fault_in file 8 tokens 0 line
other_faults file named tokens line h = ap (λ (b : Bool). if b then extra_made named.extra else fault_in file 8 tokens 0 line) (not_utf8 named.name h)
