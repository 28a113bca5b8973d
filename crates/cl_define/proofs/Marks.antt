-- What tells the tokens of a definition apart.
use Rattle.std.proofs.Common.{◌≡◌, ℕ, List, true, false, refl, ap, ◌∙◌}
use Rattle.std.proofs.lemmas.Bool.{false≢true, and_left, and_right, and_parts, not_from_true}
use Rattle.std.proofs.lemmas.Slice.Eq.{bytes_eq-Decides}
use Rattle.std.specs.Prelude.{not, codes}
use Rattle.cl_base.specs.declared.token.Kind.{Kind}
use Rattle.cl_base.specs.declared.token.Kind.TheVariants as kind
use Rattle.cl_base.specs.declared.token.Token.{Token}
use Rattle.cl_base.specs.Tokens.{is_ident, is_punct, spells}
use Rattle.cl_define.specs.Words.{is_lparen, is_mark}

no_punct : (k : Kind) → is_ident k ≡ true → is_punct k ≡ false
no_punct kind.Ident e = refl
no_punct kind.Number e = refl
no_punct kind.Char e = refl
no_punct kind.Str e = refl
no_punct kind.Header e = refl
no_punct kind.Punct e = absurd (false≢true e)
no_punct kind.Other e = refl

-- an identifier is no punctuator
pub no_mark : (t : Token) (mark : List ℕ) → is_ident t.kind ≡ true → is_mark t mark ≡ false
no_mark t mark e = and_left (is_punct t.kind) (spells t.text mark) (no_punct t.kind e)

-- a punctuator is no other one
pub other_mark : (t : Token) (mark other : List ℕ) → spells mark other ≡ false → is_mark t mark ≡ true → is_mark t other ≡ false
other_mark t mark other d e =
    let parts : (is_punct t.kind ≡ true) × (spells t.text mark ≡ true) = and_parts (is_punct t.kind) (spells t.text mark) e in
    let same : t.text ≡ mark = (bytes_eq-Decides t.text mark).0 parts.1 in
    and_right (is_punct t.kind) (spells t.text other) (ap (λ (s : List ℕ). spells s other) same ∙ d)

-- a token behind white space is no `lparen`
pub no_lparen : (t : Token) → t.space ≡ true → is_lparen t ≡ false
no_lparen t e = and_right (is_mark t (codes "(")) (not t.space) (not_from_true t.space e)
