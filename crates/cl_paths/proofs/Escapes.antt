-- The escapes of a path's URI.
use Rattle.std.proofs.Common.{◌≡◌, ℕ, ◌≤◌, Bool, if◌then◌else◌, List, [], ◌∷◌, ◌++◌, true, not, refl, ap, ◌∙◌, arith, inl, inr}
use Rattle.std.specs.List.{flat_map}
use Rattle.std.proofs.lemmas.Bool.{cases_lt, agree_below, agree_below_at}
use Rattle.std.proofs.lemmas.Bool.Decides.{nat_tests}
use Rattle.percent_encoding.specs.AsciiSet.{should_percent_encode}
use Rattle.percent_encoding.specs.Percent.{percent_encode, percent_encode_byte, encode_byte}
use Rattle.cl_paths.specs.declared.uri.TheConstants.{ESCAPED}
use Rattle.cl_paths.specs.Uris.{is_plain, escaped}

high : (b : ℕ) → 128 ≤ b → should_percent_encode ESCAPED b ≡ not (is_plain b)
unfolding should_percent_encode
high b h = grind (arith, nat_tests)

low : agree_below (should_percent_encode ESCAPED) (λ b. not (is_plain b)) 128 ≡ true
unfolding should_percent_encode
low = refl

pub escapes_but_plain : (b : ℕ) → should_percent_encode ESCAPED b ≡ not (is_plain b)
escapes_but_plain b =
    elim (cases_lt b 128) [
      | inl lt ↦ agree_below_at (should_percent_encode ESCAPED) (λ b. not (is_plain b)) 128 b low lt
      | inr ge ↦ high b ge
    ]

choice : (t p : Bool) (x y : List ℕ) → t ≡ not p → (if t then x else y) ≡ (if p then y else x)
choice t p x y e = grind (arith, nat_tests)

one : (b : ℕ) → encode_byte ESCAPED b ≡ escaped b
one b = choice (should_percent_encode ESCAPED b) (is_plain b) (percent_encode_byte b) (b ∷ []) (escapes_but_plain b)

each : (bytes : List ℕ) → flat_map (encode_byte ESCAPED) bytes ≡ flat_map escaped bytes
each [] = refl
each (b ∷ bytes) = ap (λ x. x ++ flat_map (encode_byte ESCAPED) bytes) (one b) ∙ ap (λ x. escaped b ++ x) (each bytes)

pub percent_encode_is : (bytes : List ℕ) → percent_encode ESCAPED bytes ≡ flat_map escaped bytes
unfolding percent_encode
percent_encode_is bytes = each bytes
