-- What is no item of a block is something, and ends with the tokens at the latest.
use Rattle.std.proofs.Common.{◌≡◌, ℕ, zero, suc, ◌+◌, ◌-◌, ◌≤◌, ◌<◌, List, arith, refl, sym, ◌∙◌, subst, length, Bool, true, false, not}
use Rattle.std.specs.Prelude.{slice_get, nat_lt, cond, codes}
use Rattle.std.proofs.lemmas.Bool.{ltb-true, false≢true}
use Rattle.cl_expr.proofs.Checks.{not_true}
use Rattle.cl_tree.specs.declared.lexeme.Lexeme.{Lexeme}
use Rattle.cl_tree.specs.Brackets.{past_group}
use Rattle.cl_tree.specs.BadItems.{bad_to, bad_end, spelled_at, opens_at, closes_at, partner_of}

either_way : (P : ℕ → Type 0) (b : Bool) (x y : ℕ) → (b ≡ true → P x) → (b ≡ false → P y) → P (cond b x y)
either_way P true x y f g = f refl
either_way P false x y f g = g refl

abbrev pair_at : List Lexeme → ℕ → ℕ
pair_at ts at = partner_of (slice_get ts at)

abbrev past_pair : List Lexeme → ℕ → ℕ → ℕ
past_pair ts n at = cond (opens_at ts at) (past_group (pair_at ts at) (length ts)) (bad_to ts n (pair_at ts at + 1))

abbrev past_closing : List Lexeme → ℕ → ℕ → ℕ
past_closing ts n at = cond (nat_lt at (pair_at ts at)) (past_pair ts n at) (bad_to ts n (at + 1))

abbrev past_semicolon : List Lexeme → ℕ → ℕ → ℕ
past_semicolon ts n at = cond (closes_at ts at) at (past_closing ts n at)

abbrev past_end : List Lexeme → ℕ → ℕ → ℕ
past_end ts n at = cond (spelled_at ts at (codes ";")) (at + 1) (past_semicolon ts n at)

bad_within : (ts : List Lexeme) (n at : ℕ) → bad_to ts n at ≤ length ts
unfolding bad_to
bad_within ts zero at = omega arith
bad_within ts (suc n) at =
    let P = λ (v : ℕ). v ≤ length ts in
    let p = pair_at ts at in
    either_way P (not (nat_lt at (length ts))) (length ts) (past_end ts n at) (λ e. omega arith)
    (λ e.
    (let l : at < length ts = ltb-true at (length ts) (not_true (nat_lt at (length ts)) e) in
    either_way P (spelled_at ts at (codes ";")) (at + 1) (past_semicolon ts n at) (λ s. omega arith)
    (λ s. either_way P (closes_at ts at) at (past_closing ts n at) (λ c. omega arith)
    (λ c. either_way P (nat_lt at p) (past_pair ts n at) (bad_to ts n (at + 1))
    (λ b. either_way P (opens_at ts at) (past_group p (length ts)) (bad_to ts n (p + 1))
    (λ o. either_way P (nat_lt p (length ts)) (p + 1) (length ts) (λ w. (let k : p < length ts = ltb-true p (length ts) w in omega arith)) (λ w. omega arith))
    (λ o. bad_within ts n (p + 1)))
    (λ b. bad_within ts n (at + 1))))))

bad_above : (ts : List Lexeme) (n a at : ℕ) → a < length ts → a < at → a < bad_to ts n at
unfolding bad_to
bad_above ts zero a at la li = la
bad_above ts (suc n) a at la li =
    let P = λ (v : ℕ). a < v in
    let p = pair_at ts at in
    either_way P (not (nat_lt at (length ts))) (length ts) (past_end ts n at) (λ e. la)
    (λ e. either_way P (spelled_at ts at (codes ";")) (at + 1) (past_semicolon ts n at) (λ s. omega arith)
    (λ s. either_way P (closes_at ts at) at (past_closing ts n at) (λ c. li)
    (λ c. either_way P (nat_lt at p) (past_pair ts n at) (bad_to ts n (at + 1))
    (λ b.
    (let k : at < p = ltb-true at p b in
    either_way P (opens_at ts at) (past_group p (length ts)) (bad_to ts n (p + 1))
    (λ o. either_way P (nat_lt p (length ts)) (p + 1) (length ts) (λ w. omega arith) (λ w. la))
    (λ o. bad_above ts n a (p + 1) la (omega arith))))
    (λ b. bad_above ts n a (at + 1) la (omega arith)))))

grows_by : (ts : List Lexeme) (n at : ℕ) → at < length ts → closes_at ts at ≡ false → at < bad_to ts (suc n) at
unfolding bad_to
grows_by ts n at l inside =
    let P = λ (v : ℕ). at < v in
    let p = pair_at ts at in
    either_way P (not (nat_lt at (length ts))) (length ts) (past_end ts n at) (λ e. l)
    (λ e. either_way P (spelled_at ts at (codes ";")) (at + 1) (past_semicolon ts n at) (λ s. omega arith)
    (λ s. either_way P (closes_at ts at) at (past_closing ts n at) (λ c. absurd (false≢true (sym inside ∙ c)))
    (λ c. either_way P (nat_lt at p) (past_pair ts n at) (bad_to ts n (at + 1))
    (λ b.
    (let k : at < p = ltb-true at p b in
    either_way P (opens_at ts at) (past_group p (length ts)) (bad_to ts n (p + 1))
    (λ o. either_way P (nat_lt p (length ts)) (p + 1) (length ts) (λ w. omega arith) (λ w. l))
    (λ o. bad_above ts n at (p + 1) l (omega arith))))
    (λ b. bad_above ts n at (at + 1) l (omega arith)))))

pub end_within : (ts : List Lexeme) (at : ℕ) → bad_end ts at ≤ length ts
end_within ts at = bad_within ts (length ts - at) at

pub end_grows : (ts : List Lexeme) (at : ℕ) → at < length ts → closes_at ts at ≡ false → at < bad_end ts at
end_grows ts at l inside =
    let n = length ts - (at + 1) in
    let e : suc n ≡ length ts - at = omega arith in
    subst (λ (v : ℕ). at < bad_to ts v at) e (grows_by ts n at l inside)
