-- Lists of changes, and bodies.
use Rattle.std.proofs.Common.{◌≡◌, ◌-◌, ◌&&◌, List, [], ◌∷◌, length, refl, ap, None, codes, option_and_then, is_some, true, false, ℕ, if◌then◌else◌}
use native.Mathlib.Numerals.{unary_clauses}
use Rattle.std.specs.Prelude.{slice_get}
use Rattle.std.specs.List.{list_all}
use Rattle.std.specs.Str.{IsUtf8, is_utf8}
use Rattle.std.proofs.lemmas.Str.{is_utf8-from_IsUtf8, IsUtf8-from_is_utf8}
use Rattle.serde_json.specs.declared.value.Value.{Value}
use Rattle.serde_json.specs.View.{view, items_view}
use Rattle.serde_json.specs.Read.{read}
use Rattle.cl_rpc.specs.Messages.{text_in, each_has_text, last_text, value_in}

pub each_has_text_is : (vs : List Value) → list_all (λ (v : Value). is_some (text_in (codes "text") (view v))) vs ≡ each_has_text (items_view vs)
each_has_text_is [] = refl
each_has_text_is (v ∷ vs) = ap (λ b. is_some (text_in (codes "text") (view v)) && b) (each_has_text_is vs)

pub last_text_is : (vs : List Value) → option_and_then (λ (v : Value). text_in (codes "text") (view v)) (slice_get vs (length vs - 1)) ≡ last_text (items_view vs)
last_text_is [] = refl
last_text_is (v ∷ []) = refl
last_text_is (v ∷ w ∷ vs) = simp unary_clauses (simp unary_clauses at (last_text_is (w ∷ vs)))

pub value_in_valid : (body : List ℕ) → IsUtf8 body → value_in body ≡ read body
unfolding value_in
value_in_valid body u = rw (is_utf8-from_IsUtf8 body u) refl

pub value_in_none : (body : List ℕ) → (IsUtf8 body → read body ≡ None) → value_in body ≡ None
unfolding value_in
value_in_none body h = elim (is_utf8 body) as (λ b. (b ≡ true → IsUtf8 body) → (if b then read body else None) ≡ None)
    [ true ↦ λ f. h (f refl) | false ↦ λ f. refl ] (IsUtf8-from_is_utf8 body)
