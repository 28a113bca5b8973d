-- The faults of the tokens of a line, one token after the other.
use Rattle.std.proofs.Common.{◌≡◌, ℕ, suc, ◌+◌, ◌<◌, ◌≤◌, List, [], ◌∷◌, ◌++◌, Option, Some, None, if◌then◌else◌, refl, sym, ap, ◌∙◌, length, drop, get_or, drop-cons, add-one, append_assoc, append-nil}
use Rattle.std.specs.Prelude.{◌==◌}
use Rattle.std.proofs.lemmas.List.{at_drop_all}
use Rattle.cl_base.specs.declared.token.Token.{Token}
use Rattle.cl_base.specs.declared.token.Diag.{Diag}
use Rattle.cl_base.specs.declared.token.Fault.{Fault}
use Rattle.cl_pp.specs.Lines.{or_else, stray, strays, told}

-- the item at a number, and those behind it
pub next_of : {X : Type 0} → (xs : List X) (i : ℕ) (d x : X) → i < length xs → x ≡ get_or xs i d → drop i xs ≡ x ∷ drop (i + 1) xs
next_of xs i d x l e = drop-cons xs i d l ∙ ap (λ y. y ∷ drop (suc i) xs) (sym e) ∙ ap (λ (k : ℕ). x ∷ drop k xs) (sym (add-one i))

pub strays_on : (file : ℕ) (begins : ℕ → Option Fault) (line : List Token) (i : ℕ) (token : Token) (first old new : List Diag) → i < length line → token ≡ get_or line i token
    → first ++ strays file begins line ≡ old ++ strays file begins (drop i line) → new ≡ old ++ stray file begins token.kind token → first ++ strays file begins line ≡ new ++ strays file begins (drop (i + 1) line)
strays_on file begins line i token first old new l e h n =
    h ∙ ap (λ (ts : List Token). old ++ strays file begins ts) (next_of line i token token l e) ∙ sym (append_assoc old (stray file begins token.kind token) (strays file begins (drop (i + 1) line)))
    ∙ ap (λ (xs : List Diag). xs ++ strays file begins (drop (i + 1) line)) (sym n)

pub strays_all : (file : ℕ) (begins : ℕ → Option Fault) (line : List Token) (i : ℕ) (first old : List Diag) → length line ≤ i → first ++ strays file begins line ≡ old ++ strays file begins (drop i line) → old ≡ first ++ strays file begins line
strays_all file begins line i first old l h = sym (h ∙ ap (λ (xs : List Diag). old ++ xs) (at_drop_all (strays file begins) line i l) ∙ append-nil old)

-- ---- one fault more

or_or : (a b c : Option Fault) → or_else (or_else a b) c ≡ or_else a (or_else b c)
or_or None b c = refl
or_or (Some x) b c = refl

nothing_else : (a : Option Fault) → or_else a None ≡ a
nothing_else None = refl
nothing_else (Some x) = refl

pub told_more : (faults : List Fault) (fault : Fault) (at : ℕ) → told (faults ++ fault ∷ []) at ≡ or_else (if fault.from == at then Some fault else None) (told faults at)
told_more [] fault at = sym (nothing_else (if fault.from == at then Some fault else None))
told_more (f ∷ faults) fault at =
    ap (λ (o : Option Fault). or_else o (if f.from == at then Some f else None)) (told_more faults fault at)
    ∙ or_or (if fault.from == at then Some fault else None) (told faults at) (if f.from == at then Some f else None)
