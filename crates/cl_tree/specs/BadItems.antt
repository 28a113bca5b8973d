-- How far what is no item of a block goes.
use Rattle.std.specs.Prelude.{ℕ, zero, suc, ◌+◌, ◌-◌, List, Option, Some, None, length, slice_get, Bool, false, cond, ◌||◌, not, nat_lt, codes}
use Rattle.cl_base.specs.Tokens.{spells}
use Rattle.cl_tree.specs.Brackets.{past_group}
use Rattle.cl_tree.specs.declared.lexeme.Lexeme.{Lexeme}

abbrev pub spelled_by : Option Lexeme → List ℕ → Bool
spelled_by None text = false
spelled_by (Some l) text = spells l.text text

abbrev pub spelled_at : List Lexeme → ℕ → List ℕ → Bool
spelled_at ts i text = spelled_by (slice_get ts i) text

abbrev pub opens_at : List Lexeme → ℕ → Bool
opens_at ts i = spelled_at ts i (codes "{") || spelled_at ts i (codes "<%")

abbrev pub closes_at : List Lexeme → ℕ → Bool
closes_at ts i = spelled_at ts i (codes "}") || spelled_at ts i (codes "%>")

-- the number of a token's partner
abbrev pub partner_of : Option Lexeme → ℕ
partner_of None = 0
partner_of (Some l) = l.partner

-- from a token on, of so many: past the first `;` or the first brace group at its depth, else up to the `}` of its block, as `bad_from` of specs/Brackets
unfoldable pub bad_to : List Lexeme → ℕ → ℕ → ℕ
bad_to ts zero at = length ts
bad_to ts (suc n) at =
    cond (not (nat_lt at (length ts))) (length ts)
    (cond (spelled_at ts at (codes ";")) (at + 1)
    (cond (closes_at ts at) at
    (cond (nat_lt at (partner_of (slice_get ts at)))
    (cond (opens_at ts at) (past_group (partner_of (slice_get ts at)) (length ts)) (bad_to ts n (partner_of (slice_get ts at) + 1)))
    (bad_to ts n (at + 1)))))

abbrev pub bad_end : List Lexeme → ℕ → ℕ
bad_end ts at = bad_to ts (length ts - at) at
