-- What is read and meets the constraints is what the line defines.
use Rattle.std.proofs.Common.{◌≡◌, ℕ, List, Bool, true, false, Option, Some, None, refl, sym, ap, subst, ◌∙◌, ◌⊎◌, inl, inr}
use Rattle.std.proofs.lemmas.Bool.{both_ways, cond-true, cond-false}
use Rattle.std.specs.Option.{MatchOption}
use Rattle.cl_base.specs.declared.token.Span.{Span}
use Rattle.cl_base.specs.declared.token.Token.{Token}
use Rattle.cl_base.specs.declared.macros.Macro.{Macro}
use Rattle.cl_define.specs.Constraints.{is_valid}
use Rattle.cl_define.specs.Definitions.{Defines, Stands, object_like}
use Rattle.cl_define.specs.code.Reading.{checked, written}
use Rattle.cl_define.proofs.ReadLines.{line_form, line_read}

-- the answer is exact where this is said of a macro
abbrev pub Tells : (Macro → Type 0) → Option Macro → Type 0
Tells P found = MatchOption found ((mac : Macro) → P mac → ⊥) P

checked_tells : (P : Macro → Type 0) (mac : Macro) (b : Bool) → is_valid mac ≡ b → (is_valid mac ≡ true → P mac) → ((other : Macro) → P other → (other ≡ mac) × (is_valid other ≡ true)) → Tells P (checked (Some mac))
checked_tells P mac true e make only = subst (Tells P) (sym (cond-true (is_valid mac) (Some mac) None e)) (make e)
checked_tells P mac false e make only =
    subst (Tells P) (sym (cond-false (is_valid mac) (Some mac) None e))
    (λ other p. let o = only other p in both_ways (is_valid mac) e (sym (ap is_valid o.0) ∙ o.1))

tells_by : (place : Span) (line : List Token) (r : Option Macro) → written (Some place) line ≡ r → Tells (Defines place line) (checked r)
tells_by place line None e = λ mac d. let k : written (Some place) line ≡ Some mac = line_read d.written in absurd (cc)
tells_by place line (Some mac) e =
    checked_tells (Defines place line) mac (is_valid mac) refl
    (λ v. record { written = line_form (Some place) line mac e; valid = v })
    (λ other d. let k : written (Some place) line ≡ Some other = line_read d.written in let l : Some other ≡ Some mac = sym k ∙ e in let same : other ≡ mac = cc in (same, d.valid))

pub line_tells : (place : Span) (line : List Token) → Tells (Defines place line) (checked (written (Some place) line))
line_tells place line = tells_by place line (written (Some place) line) refl

pub object_tells : (name : List ℕ) (list : List Token) → Tells (Stands name list) (checked (Some (object_like None name list)))
object_tells name list =
    checked_tells (Stands name list) (object_like None name list) (is_valid (object_like None name list)) refl
    (λ v. record { is = refl; valid = v }) (λ other s. (s.is, s.valid))

pub one_defined : (place : Span) (line : List Token) (x y : Macro) → Defines place line x → Defines place line y → x ≡ y
one_defined place line x y d e =
    let k : Some x ≡ Some y = sym (line_read d.written) ∙ line_read e.written in
    cc

some_by : (P : Macro → Type 0) (r : Option Macro) → Tells P r → ((mac : Macro) × P mac) ⊎ ((mac : Macro) → P mac → ⊥)
some_by P None h = inr h
some_by P (Some mac) h = inl (mac, h)

pub some_defined : (place : Span) (line : List Token) → ((mac : Macro) × Defines place line mac) ⊎ ((mac : Macro) → Defines place line mac → ⊥)
some_defined place line = some_by (Defines place line) (checked (written (Some place) line)) (line_tells place line)
