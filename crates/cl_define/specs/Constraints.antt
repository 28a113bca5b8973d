-- The constraints on a macro that is defined (N1570 6.10.3, 6.10.8).
use Rattle.std.specs.Prelude.{ℕ, ◌-◌, List, [], ◌∷◌, Bool, true, false, not, ◌&&◌, ◌||◌, Option, Some, None, is_some, length, slice_get}
use Rattle.std.specs.List.{list_any}
use Rattle.cl_base.specs.declared.macros.Macro.{Macro}
use Rattle.cl_base.specs.declared.macros.BodyToken.{BodyToken}
use Rattle.cl_base.specs.Tokens.{spells_hash}
use Rattle.cl_define.specs.Words.{has}
use Rattle.cl_define.specs.Bodies.{named, is_rest, is_parameter, is_paste}
use Rattle.cl_define.specs.Predefined.{is_reserved}

-- each parameter is declared once (6.10.3p6)
abbrev pub are_distinct : List (List ℕ) → Bool
are_distinct [] = true
are_distinct (name ∷ names) = not (has names name) && are_distinct names

-- `__VA_ARGS__` stands in the replacement list of a variadic macro alone (6.10.3p5): it is no macro's name and no
-- parameter's
abbrev pub keeps_rest : Macro → Bool
keeps_rest m = not (is_rest m.name) && (not (list_any is_rest (named m.params)) && (m.variadic || not (list_any (λ (t : BodyToken). is_rest t.text) m.body)))

abbrev pub begins_with_parameter : Macro → List BodyToken → Bool
begins_with_parameter m [] = false
begins_with_parameter m (t ∷ ts) = is_parameter m t

-- each `#` is followed by a parameter
abbrev pub hashes_lead : Macro → List BodyToken → Bool
hashes_lead m [] = true
hashes_lead m (t ∷ ts) = (not (spells_hash t.text) || begins_with_parameter m ts) && hashes_lead m ts

-- in a function-like macro (6.10.3.2p1); an object-like one may have `#` anywhere
abbrev pub keeps_hashes : Macro → Bool
keeps_hashes m = not (is_some m.params) || hashes_lead m m.body

abbrev pub pastes : Option BodyToken → Bool
pastes None = false
pastes (Some t) = is_paste t

-- `##` is neither the first token nor the last (6.10.3.3p1)
abbrev pub keeps_pastes : List BodyToken → Bool
keeps_pastes body = not (pastes (slice_get body 0)) && not (pastes (slice_get body (length body - 1)))

-- the macro may be defined so
abbrev pub is_valid : Macro → Bool
is_valid m = not (is_reserved m.name) && (keeps_rest m && (keeps_pastes m.body && (are_distinct (named m.params) && keeps_hashes m)))
