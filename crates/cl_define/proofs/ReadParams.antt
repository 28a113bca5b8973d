-- Parameters are read as the grammar derives them.
use Rattle.std.proofs.Common.{◌≡◌, ℕ, List, [], ◌∷◌, ◌++◌, Bool, true, false, ◌&&◌, Option, Some, None, refl, sym, ap, subst, ◌∙◌, append_assoc}
use Rattle.std.proofs.lemmas.Bool.{and_from, and_parts, cond-true, cond-false}
use Rattle.std.specs.Prelude.{codes}
use Rattle.cl_base.specs.declared.token.Token.{Token}
use Rattle.cl_base.specs.Tokens.{is_ident}
use Rattle.cl_define.specs.declared.params.Params.{Params}
use Rattle.cl_define.specs.Words.{is_close, is_comma, is_dots}
use Rattle.cl_define.specs.Definitions.{IdentifierList, one, more, Parameters, nothing, identifiers, ellipsis, both}
use Rattle.cl_define.specs.code.Reading.{last_param, params_of, some_params, with_names}
use Rattle.cl_define.proofs.Marks.{no_mark, other_mark}

pub with_names_more : (xs ys : List (List ℕ)) (p : Option Params) → with_names (xs ++ ys) p ≡ with_names xs (with_names ys p)
with_names_more xs ys None = refl
with_names_more xs ys (Some p) = let e : (xs ++ ys) ++ p.names ≡ xs ++ (ys ++ p.names) = append_assoc xs ys p.names in λ i. Some (record { names = e i; variadic = p.variadic })

pub with_no_names : (p : Option Params) → with_names [] p ≡ p
with_no_names None = refl
with_no_names (Some p) = refl

abbrev read : List (List ℕ) → Bool → Option Params
read names variadic = Some (record { names = names; variadic = variadic })

-- ---- what the grammar derives is read

last_name : (t : Token) → is_ident t.kind ≡ true → last_param t ≡ read (t.text ∷ []) false
last_name t e = cond-false (is_dots t) _ _ (no_mark t (codes "...") e) ∙ cond-true (is_ident t.kind) _ _ e

last_dots : (t : Token) → is_dots t ≡ true → last_param t ≡ read [] true
last_dots t e = cond-true (is_dots t) _ _ e

next : (t comma : Token) (ts : List Token) → is_ident t.kind ≡ true → is_comma comma ≡ true → some_params (t ∷ (comma ∷ ts)) ≡ with_names (t.text ∷ []) (some_params ts)
next t comma ts e c = cond-true (is_ident t.kind && is_comma comma) _ _ (and_from (is_ident t.kind) (is_comma comma) e c)

names_read : {ts : List Token} {names : List (List ℕ)} → IdentifierList ts names → some_params ts ≡ read names false
names_read (one t e) = last_name t e
names_read (more t comma ts names e c d) = next t comma ts e c ∙ ap (with_names (t.text ∷ [])) (names_read d)

rest_read : {ts : List Token} {names : List (List ℕ)} → IdentifierList ts names → (comma dots : Token) → is_comma comma ≡ true → is_dots dots ≡ true
    → some_params (ts ++ comma ∷ (dots ∷ [])) ≡ read names true
rest_read (one t e) comma dots c d = next t comma (dots ∷ []) e c ∙ ap (with_names (t.text ∷ [])) (last_dots dots d)
rest_read (more t other ts names e o l) comma dots c d = next t other (ts ++ comma ∷ (dots ∷ [])) e o ∙ ap (with_names (t.text ∷ [])) (rest_read l comma dots c d)

some_of : {ts : List Token} {names : List (List ℕ)} → IdentifierList ts names → (us : List Token) → params_of (ts ++ us) ≡ some_params (ts ++ us)
some_of (one t e) us = refl
some_of (more t comma ts names e c d) us = refl

some_alone : {ts : List Token} {names : List (List ℕ)} → IdentifierList ts names → params_of ts ≡ some_params ts
some_alone (one t e) = refl
some_alone (more t comma ts names e c d) = refl

pub params_read : {ts : List Token} {names : List (List ℕ)} {variadic : Bool} → Parameters ts names variadic → params_of ts ≡ Some (record { names = names; variadic = variadic })
params_read nothing = refl
params_read (identifiers ts names d) = some_alone d ∙ names_read d
params_read (ellipsis dots e) = last_dots dots e
params_read (both ts names comma dots d c e) = some_of d (comma ∷ (dots ∷ [])) ∙ rest_read d comma dots c e

-- ---- what is read, the grammar derives

abbrev Are : List Token → Params → Type 0
Are ts p = Parameters ts p.names p.variadic

last_derives : (t : Token) (b c : Bool) → is_dots t ≡ b → is_ident t.kind ≡ c → (p : Params) → last_param t ≡ Some p → Are (t ∷ []) p
last_derives t true c d e p h =
    let k : Some (record { names = []; variadic = true }) ≡ Some p = sym (last_dots t d) ∙ h in
    let same : record { names = []; variadic = true } ≡ p = cc in
    subst (λ (q : Params). Are (t ∷ []) q) same (ellipsis t d)
last_derives t false true d e p h =
    let k : Some (record { names = t.text ∷ []; variadic = false }) ≡ Some p = sym (last_name t e) ∙ h in
    let same : record { names = t.text ∷ []; variadic = false } ≡ p = cc in
    subst (λ (q : Params). Are (t ∷ []) q) same (identifiers (t ∷ []) (t.text ∷ []) (one t e))
last_derives t false false d e p h =
    let k : last_param t ≡ None = cond-false (is_dots t) _ _ d ∙ cond-false (is_ident t.kind) _ _ e in
    absurd (cc)

more_derives : {ts : List Token} {names : List (List ℕ)} {variadic : Bool} → Parameters ts names variadic → (q : Params) → some_params ts ≡ Some q
    → (t comma : Token) → is_ident t.kind ≡ true → is_comma comma ≡ true → Parameters (t ∷ (comma ∷ ts)) (t.text ∷ names) variadic
more_derives nothing q h t comma e c = absurd (cc)
more_derives (identifiers ts names d) q h t comma e c = identifiers (t ∷ (comma ∷ ts)) (t.text ∷ names) (more t comma ts names e c d)
more_derives (ellipsis dots d) q h t comma e c = both (t ∷ []) (t.text ∷ []) comma dots (one t e) c d
more_derives (both ts names other dots d o f) q h t comma e c = both (t ∷ (comma ∷ ts)) (t.text ∷ names) other dots (more t comma ts names e c d) o f

next_derives : (t comma : Token) (ts : List Token) (b : Bool) (r : Option Params) → (is_ident t.kind && is_comma comma) ≡ b → some_params ts ≡ r
    → ((q : Params) → some_params ts ≡ Some q → Are ts q) → (p : Params) → some_params (t ∷ (comma ∷ ts)) ≡ Some p → Are (t ∷ (comma ∷ ts)) p
next_derives t comma ts false r b e ih p h =
    let k : some_params (t ∷ (comma ∷ ts)) ≡ None = cond-false (is_ident t.kind && is_comma comma) _ _ b in
    absurd (cc)
next_derives t comma ts true None b e ih p h =
    let parts : (is_ident t.kind ≡ true) × (is_comma comma ≡ true) = and_parts (is_ident t.kind) (is_comma comma) b in
    let k : some_params (t ∷ (comma ∷ ts)) ≡ None = next t comma ts parts.0 parts.1 ∙ ap (with_names (t.text ∷ [])) e in
    absurd (cc)
next_derives t comma ts true (Some q) b e ih p h =
    let parts : (is_ident t.kind ≡ true) × (is_comma comma ≡ true) = and_parts (is_ident t.kind) (is_comma comma) b in
    let k : some_params (t ∷ (comma ∷ ts)) ≡ Some (record { names = t.text ∷ q.names; variadic = q.variadic }) = next t comma ts parts.0 parts.1 ∙ ap (with_names (t.text ∷ [])) e in
    let l : Some (record { names = t.text ∷ q.names; variadic = q.variadic }) ≡ Some p = sym k ∙ h in
    let same : record { names = t.text ∷ q.names; variadic = q.variadic } ≡ p = cc in
    subst (λ (x : Params). Are (t ∷ (comma ∷ ts)) x) same (more_derives (ih q e) q e t comma parts.0 parts.1)

some_derives : (ts : List Token) (p : Params) → some_params ts ≡ Some p → Are ts p
some_derives [] p h = absurd (cc)
some_derives (t ∷ []) p h = last_derives t (is_dots t) (is_ident t.kind) refl refl p h
some_derives (t ∷ (comma ∷ ts)) p h = next_derives t comma ts (is_ident t.kind && is_comma comma) (some_params ts) refl refl (some_derives ts) p h

pub params_derive : (ts : List Token) (p : Params) → params_of ts ≡ Some p → Parameters ts p.names p.variadic
params_derive [] p h =
    let k : Some (record { names = []; variadic = false }) ≡ Some p = h in
    let same : record { names = []; variadic = false } ≡ p = cc in
    subst (λ (q : Params). Are [] q) same nothing
params_derive (t ∷ ts) p h = some_derives (t ∷ ts) p h

-- ---- no `)` stands among them

abbrev pub Unclosed : List Token → Type 0
Unclosed [] = Unit {0}
Unclosed (t ∷ ts) = (is_close t ≡ false) × Unclosed ts

comma_unclosed : (t : Token) → is_comma t ≡ true → is_close t ≡ false
comma_unclosed t e = other_mark t (codes ",") (codes ")") refl e

dots_unclosed : (t : Token) → is_dots t ≡ true → is_close t ≡ false
dots_unclosed t e = other_mark t (codes "...") (codes ")") refl e

names_unclosed : {ts : List Token} {names : List (List ℕ)} → IdentifierList ts names → Unclosed ts
names_unclosed (one t e) = (no_mark t (codes ")") e, tt)
names_unclosed (more t comma ts names e c d) = (no_mark t (codes ")") e, (comma_unclosed comma c, names_unclosed d))

unclosed_on : (ts us : List Token) → Unclosed ts → Unclosed us → Unclosed (ts ++ us)
unclosed_on [] us h k = k
unclosed_on (t ∷ ts) us h k = (h.0, unclosed_on ts us h.1 k)

pub params_unclosed : {ts : List Token} {names : List (List ℕ)} {variadic : Bool} → Parameters ts names variadic → Unclosed ts
params_unclosed nothing = tt
params_unclosed (identifiers ts names d) = names_unclosed d
params_unclosed (ellipsis dots e) = (dots_unclosed dots e, tt)
params_unclosed (both ts names comma dots d c e) = unclosed_on ts (comma ∷ (dots ∷ [])) (names_unclosed d) (comma_unclosed comma c, (dots_unclosed dots e, tt))
