-- A path is read back from its URI.
use Rattle.std.proofs.Common.{◌≡◌, ℕ, ◌<◌, Bool, true, false, not, ◌==◌, List, [], ◌∷◌, length, take, Some, None, refl, sym, ap, ◌∙◌, subst, arith, All, IsUtf8, take_all}
use Rattle.std.specs.List.{list_any, flat_map, before_first, position_or_len}
use Rattle.std.proofs.lemmas.Bool.{cond-true, cond-false, cond_both, and_from, and_left, not_from_false}
use Rattle.std.proofs.lemmas.Bool.Decides.{nat_tests}
use Rattle.std.proofs.lemmas.Bool.{eqb-true, false_from_ne_true}
use Rattle.std.proofs.lemmas.List.Elements.{All-get_or, All-same}
use Rattle.std.proofs.lemmas.List.Sums.{position_or_len_is}
use Rattle.std.proofs.lemmas.Str.{is_utf8-from_IsUtf8, IsUtf8-from_is_utf8}
use Rattle.percent_encoding.specs.AsciiSet.{should_percent_encode}
use Rattle.percent_encoding.specs.Percent.{percent_decode}
use Rattle.percent_encoding.proofs.PercentLemmas.{All-percent_encode, IsEscapeByte, round_trip}
use Rattle.cl_paths.specs.declared.uri.TheConstants.{ESCAPED}
use Rattle.cl_paths.specs.Parts.{slash, is_rooted, normal_form}
use Rattle.cl_paths.specs.Uris.{is_plain, escaped, ends_path, is_path_text, path_of_text, path_of_written, path_in, uri_of}
use Rattle.cl_paths.proofs.Escapes.{escapes_but_plain, percent_encode_is}

-- ---- the path that a text means

pub text_means : (text : List ℕ) → IsUtf8 text → list_any (λ b. b == 0) text ≡ false → path_of_text text ≡ Some (normal_form text)
text_means text u z = cond-true _ _ _ (and_from _ _ (is_utf8-from_IsUtf8 text u) (not_from_false _ z))

pub no_text : (text : List ℕ) → (IsUtf8 text → ⊥) → path_of_text text ≡ None
no_text text h = cond-false _ _ _ (and_left _ _ (false_from_ne_true _ (λ e. h (IsUtf8-from_is_utf8 text e))))

pub no_path : (written : List ℕ) → (IsUtf8 (percent_decode written) → ⊥) → path_of_written written ≡ None
no_path written h =
    cond_both (is_rooted written) (path_of_text (percent_decode written)) None (λ o. o ≡ None) (λ _. no_text (percent_decode written) h) (λ _. refl)

-- ---- no escape ends a path

plain_goes_on : (b : ℕ) (p : Bool) → p ≡ is_plain b → not p ≡ false → ends_path b ≡ false
plain_goes_on b p e k = grind (arith, nat_tests)

kept_goes_on : (b : ℕ) → should_percent_encode ESCAPED b ≡ false → ends_path b ≡ false
kept_goes_on b k = plain_goes_on b (is_plain b) refl (sym (escapes_but_plain b) ∙ k)

escape_goes_on : (b : ℕ) → IsEscapeByte b → ends_path b ≡ false
escape_goes_on b h = grind (arith, nat_tests)

all_go_on : (path : List ℕ) → All (λ b. ends_path b ≡ false) (flat_map escaped path)
all_go_on path = All-same (λ b. ends_path b ≡ false) _ _ (sym (percent_encode_is path)) (All-percent_encode (λ b. ends_path b ≡ false) ESCAPED path kept_goes_on escape_goes_on)

before_end : (xs : List ℕ) → All (λ b. ends_path b ≡ false) xs → before_first ends_path xs ≡ xs
before_end xs h =
    let none : position_or_len ends_path xs ≡ length xs = position_or_len_is ends_path xs (length xs) 0 (omega arith) (λ k l. All-get_or (λ b. ends_path b ≡ false) xs k 0 l h) (λ l. absurd (omega arith)) in
    ap (λ n. take n xs) none ∙ take_all (length xs) xs (omega arith)

-- ---- and back

decoded : (path : List ℕ) → All (λ b. b < 256) path → percent_decode (flat_map escaped path) ≡ path
decoded path small = ap percent_decode (sym (percent_encode_is path)) ∙ round_trip ESCAPED path refl small

back_at : (rest : List ℕ) → All (λ b. b < 256) (slash ∷ rest) → path_in (uri_of (slash ∷ rest)) ≡ path_of_text (slash ∷ rest)
unfolding path_in uri_of
back_at rest small =
    ap path_of_written (before_end (flat_map escaped (slash ∷ rest)) (all_go_on (slash ∷ rest))) ∙ ap path_of_text (decoded (slash ∷ rest) small)

read_at : (path : List ℕ) → All (λ b. b < 256) path → is_rooted path ≡ true → path_in (uri_of path) ≡ path_of_text path
read_at [] small e = absurd (never e)
  where
    never : false ≡ true → ⊥
    never e = cc
read_at (b ∷ rest) small e =
    let s : slash ≡ b = sym (eqb-true b slash e) in
    subst (λ (c : ℕ). All (λ b. b < 256) (c ∷ rest) → path_in (uri_of (c ∷ rest)) ≡ path_of_text (c ∷ rest)) s (back_at rest) small

pub read_back : (path : List ℕ) → All (λ b. b < 256) path → is_path_text path ≡ true → is_rooted path ≡ true → normal_form path ≡ path → path_in (uri_of path) ≡ Some path
read_back path small t e n = read_at path small e ∙ cond-true _ _ _ t ∙ ap Some n
