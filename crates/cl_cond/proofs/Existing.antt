-- Every list of tokens has a structure.
use Rattle.std.proofs.Common.{◌≡◌, ℕ, zero, suc, ◌+◌, ◌-◌, ◌<◌, ◌≤◌, Bool, true, false, List, [], ◌∷◌, ⊎_elim, refl, subst, arith, length}
use Rattle.std.proofs.lemmas.Bool.{cases_lt}
use Rattle.cl_base.specs.declared.token.Token.{Token}
use Rattle.cl_cond.specs.declared.mark.Mark.{Mark}
use Rattle.cl_cond.specs.declared.mark.Groups.{Groups}
use Rattle.cl_cond.specs.Lines.{EndsLine, Lines, part_at, token_at}
use Rattle.cl_cond.specs.Sections.{GroupsOf, kept, faults_of}

-- the first token from a number on that begins a line, or the end
record Begins (tokens : List Token) (from : ℕ) : Type 0 where
  to : ℕ
  low : from ≤ to
  within : to ≤ length tokens
  goes : (i : ℕ) → from ≤ i → i < to → (token_at tokens i).first ≡ false
  ends : to < length tokens → (token_at tokens to).first ≡ true

none_to : (tokens : List Token) (from to : ℕ) → (token_at tokens from).first ≡ false → ((i : ℕ) → from + 1 ≤ i → i < to → (token_at tokens i).first ≡ false)
    → (i : ℕ) → from ≤ i → i < to → (token_at tokens i).first ≡ false
none_to tokens from to e goes i l m =
    ⊎_elim
    (λ (k : from < i). goes i (omega arith) m)
    (λ (k : i ≤ from). let same : from ≡ i = omega arith in subst (λ (j : ℕ). (token_at tokens j).first ≡ false) same e)
    (cases_lt from i)

begin_by : (tokens : List Token) (from : ℕ) (b : Bool) → from < length tokens → (token_at tokens from).first ≡ b → Begins tokens (from + 1) → Begins tokens from
begin_by tokens from true l e more = record { to = from; low = omega arith; within = omega arith; goes = λ i m n. absurd (omega arith); ends = λ m. e }
begin_by tokens from false l e more =
    let low : from + 1 ≤ more.to = more.low in
    record { to = more.to; low = omega arith; within = more.within; goes = none_to tokens from more.to e more.goes; ends = more.ends }

begin_from : (tokens : List Token) (n from : ℕ) → n + from ≡ length tokens → Begins tokens from
begin_from tokens zero from e = record { to = from; low = omega arith; within = omega arith; goes = λ i m n. absurd (omega arith); ends = λ m. absurd (omega arith) }
begin_from tokens (suc n) from e = begin_by tokens from (token_at tokens from).first (omega arith) refl (begin_from tokens n (from + 1) (omega arith))

some_line : (tokens : List Token) (n at : ℕ) → suc n + at ≡ length tokens → (to : ℕ) × EndsLine tokens at to
some_line tokens n at e =
    let b = begin_from tokens n (at + 1) (omega arith) in
    let low : at + 1 ≤ b.to = b.low in
    (b.to, record { some = omega arith; within = b.within; goes = λ i l m. b.goes i (omega arith) m; ends = b.ends })

some_lines : (tokens : List Token) (most n at : ℕ) → n ≤ most → n + at ≡ length tokens → (lines : List Mark) × Lines tokens at lines
some_lines tokens most zero at l e = ([], omega arith)
some_lines tokens zero (suc n) at l e = absurd (omega arith)
some_lines tokens (suc most) (suc n) at l e =
    let line = some_line tokens n at e in
    let some : at < line.0 = line.1.some in
    let within : line.0 ≤ length tokens = line.1.within in
    let more = some_lines tokens most (length tokens - line.0) line.0 (omega arith) (omega arith) in
    let mark : Mark = record { part = part_at tokens at line.0; from = at; to = line.0 } in
    (mark ∷ more.0, (omega arith, record { from = refl; ends = line.1; part = refl }, more.1))

pub some_grouping : (tokens : List Token) → (groups : Groups) × GroupsOf tokens groups
some_grouping tokens =
    let lines = some_lines tokens (length tokens) (length tokens) 0 (omega arith) (omega arith) in
    (record { marks = kept [] lines.0; faults = faults_of tokens [] lines.0 }, record { lines = lines.0; cut = lines.1; marks = refl; faults = refl })
