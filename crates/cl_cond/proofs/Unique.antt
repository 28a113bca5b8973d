-- The tokens of a file have one structure.
use Rattle.std.proofs.Common.{◌≡◌, ℕ, ◌<◌, ◌≤◌, List, [], ◌∷◌, ⊎_elim, refl, sym, ◌∙◌, ap, subst, arith, length}
use Rattle.std.proofs.lemmas.Bool.{both_ways, cases_order}
use Rattle.cl_base.specs.declared.token.Token.{Token}
use Rattle.cl_cond.specs.declared.mark.Mark.{Mark}
use Rattle.cl_cond.specs.declared.mark.Groups.{Groups}
use Rattle.cl_cond.specs.Lines.{EndsLine, IsLine, Lines, part_at, token_at}
use Rattle.cl_cond.specs.Sections.{GroupsOf, kept, faults_of}

not_shorter : (tokens : List Token) (from a b : ℕ) → EndsLine tokens from a → EndsLine tokens from b → a < b → ⊥
not_shorter tokens from a b h k l =
    let s : from < a = h.some in
    let w : b ≤ length tokens = k.within in
    both_ways (token_at tokens a).first (k.goes a s l) (h.ends (omega arith))

one_end : (tokens : List Token) (from a b : ℕ) → EndsLine tokens from a → EndsLine tokens from b → a ≡ b
one_end tokens from a b h k =
    ⊎_elim (λ e. e) (⊎_elim (λ l. absurd (not_shorter tokens from a b h k l)) (λ l. absurd (not_shorter tokens from b a k h l))) (cases_order a b)

same_mark : (x y : Mark) → x.part ≡ y.part → x.from ≡ y.from → x.to ≡ y.to → x ≡ y
same_mark x y e f g = λ i. record { part = e i; from = f i; to = g i }

one_line : (tokens : List Token) (at : ℕ) (x y : Mark) → IsLine tokens at x → IsLine tokens at y → x ≡ y
one_line tokens at x y h k =
    let e : x.to ≡ y.to = one_end tokens at x.to y.to h.ends k.ends in
    same_mark x y (h.part ∙ ap (part_at tokens at) e ∙ sym k.part) (h.from ∙ sym k.from) e

one_list : (tokens : List Token) (at : ℕ) (xs ys : List Mark) → Lines tokens at xs → Lines tokens at ys → xs ≡ ys
one_list tokens at [] [] h k = refl
one_list tokens at [] (y ∷ ys) h k = absurd (omega (arith, k.0))
one_list tokens at (x ∷ xs) [] h k = absurd (omega (arith, h.0))
one_list tokens at (x ∷ xs) (y ∷ ys) h k =
    let e : x ≡ y = one_line tokens at x y h.1 k.1 in
    let more : xs ≡ ys = one_list tokens x.to xs ys h.2 (subst (λ (t : Mark). Lines tokens t.to ys) (sym e) k.2) in
    cc

same_groups : (x y : Groups) → x.marks ≡ y.marks → x.faults ≡ y.faults → x ≡ y
same_groups x y e f = λ i. record { marks = e i; faults = f i }

pub one_grouping : (tokens : List Token) (x y : Groups) → GroupsOf tokens x → GroupsOf tokens y → x ≡ y
one_grouping tokens x y h k =
    let e : h.lines ≡ k.lines = one_list tokens 0 h.lines k.lines h.cut k.cut in
    same_groups x y (h.marks ∙ ap (kept []) e ∙ sym k.marks) (h.faults ∙ ap (faults_of tokens []) e ∙ sym k.faults)
