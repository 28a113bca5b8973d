-- Tokens that get other typedef names one by one.
use Rattle.std.proofs.Common.{◌≡◌, ◌⊎◌, ℕ, ◌+◌, ◌<◌, ◌≤◌, List, length, Option, Some, None, suc, zero, [], ◌∷◌, take, true, false, Bool, refl, sym, ap, ◌∙◌, subst, inl, inr, ⊎_elim, arith}
use Rattle.std.proofs.lemmas.Bool.{cases_eq, cases_lt}
use Rattle.std.proofs.lemmas.Option.{slice_get_within}
use Rattle.std.specs.Prelude.{cond, slice_get}
use Rattle.std.specs.Option.{option_map}
use Rattle.cl_tree.specs.Scopes.{text_at}
use Rattle.cl_tree.specs.declared.scope.Change.{Change}
use Rattle.cl_tree.specs.declared.lexeme.Lexeme.{Lexeme}
use Rattle.cl_parse.specs.Items.{Names}
use Rattle.cl_parse.specs.code.Ahead.{AreLearned, AreSomeAnew, AreTold, Covers, Finds, IsOneAnew, IsOneMore, IsOneOf, is_word, places_of, retyped, retyped_at, word_at, word_of}
use Rattle.cl_parse.specs.declared.ahead.Places.{Places}

some_inside : {A : Type 0} (x y : A) → Some x ≡ Some y → x ≡ y
some_inside x y e = cc

none_some : {A : Type 0} (x : A) → Some x ≡ None → ⊥
none_some x e = cc

-- two lists with the same items up to a number
pub take_same : {A : Type 0} (n : ℕ) (xs ys : List A) → ((i : ℕ) → i < n → slice_get xs i ≡ slice_get ys i) → take n xs ≡ take n ys
take_same zero xs ys f = refl
take_same (suc n) [] [] f = refl
take_same (suc n) [] (y ∷ ys) f = absurd (none_some y (sym (f 0 (omega arith))))
take_same (suc n) (x ∷ xs) [] f = absurd (none_some x (f 0 (omega arith)))
take_same (suc n) (x ∷ xs) (y ∷ ys) f =
    let e : x ≡ y = some_inside x y (f 0 (omega arith)) in
    let r : take n xs ≡ take n ys = take_same n xs ys (λ i l. f (suc i) (omega (arith, l))) in
    cc

-- ---- where identifiers stand

module _ (places new : Places) (ts : List Lexeme) (from at : ℕ) (l : Lexeme) (is : slice_get ts at ≡ Some l) where
  word_there : (i : ℕ) → i ≡ at → word_at ts i ≡ cond (is_word l.shape) (Some l.text) None
  word_there i e = ap (word_at ts) e ∙ ap word_of is

  pub finds_more : Finds places ts from at → is_word l.shape ≡ true → IsOneMore places new l.text at → Finds new ts from (at + 1)
  finds_more finds word more = λ i name m n f.
      ⊎_elim (λ (b : i < at). more.others name i (finds i name m b f)) (λ (b : at ≤ i). (
      let same : i ≡ at = omega (arith, n, b) in
      let e : Some l.text ≡ Some name = ap (λ (q : Bool). cond q (Some l.text) None) (sym word) ∙ sym (word_there i same) ∙ f in
      subst (λ (j : ℕ). IsOneOf (places_of new name) j) (sym same) (subst (λ (t : List ℕ). IsOneOf (places_of new t) at) (some_inside l.text name e) more.here))) (cases_lt i at)

  pub finds_past : Finds places ts from at → is_word l.shape ≡ false → Finds places ts from (at + 1)
  finds_past finds none = λ i name m n f.
      ⊎_elim (λ (b : i < at). finds i name m b f) (λ (b : at ≤ i). (
      let same : i ≡ at = omega (arith, n, b) in
      absurd (none_some name (sym f ∙ word_there i same ∙ ap (λ (q : Bool). cond q (Some l.text) None) none)))) (cases_lt i at)

-- an identifier stands within the tokens
word_of_within : (ts : List Lexeme) (i : ℕ) (name : List ℕ) (o : Option Lexeme) → slice_get ts i ≡ o → word_of o ≡ Some name → i < length ts
word_of_within ts i name None e f = absurd (none_some name (sym f))
word_of_within ts i name (Some l) e f = slice_get_within ts i l e

-- ---- tokens that get other typedef names

module _ (names : Names) where
  abbrev anew : Option Lexeme → Option Lexeme
  anew o = option_map (retyped names) o

  twice : (o : Option Lexeme) → anew (anew o) ≡ anew o
  twice None = refl
  twice (Some l) = refl

  abbrev Either : Option Lexeme → Option Lexeme → Type 0
  Either old new = (new ≡ old) ⊎ (new ≡ anew old)

  anew_both : (o n : Option Lexeme) → Either o n → anew n ≡ anew o
  anew_both o n e = ⊎_elim (λ (f : n ≡ o). ap anew f) (λ (f : n ≡ anew o). ap anew f ∙ twice o) e

  either_more : (o n m : Option Lexeme) → Either o n → Either n m → Either o m
  either_more o n m e f = ⊎_elim (λ (g : m ≡ n). ⊎_elim (λ (h : n ≡ o). inl (g ∙ h)) (λ (h : n ≡ anew o). inr (g ∙ h)) e) (λ (g : m ≡ anew n). inr (g ∙ anew_both o n e)) f

  pub still_anew : (o n m : Option Lexeme) → n ≡ anew o → Either n m → m ≡ anew o
  still_anew o n m e f = ⊎_elim (λ (g : m ≡ n). g ∙ e) (λ (g : m ≡ anew n). g ∙ ap anew e ∙ twice o) f

  pub some_anew : (to : ℕ) (ts : List Lexeme) → AreSomeAnew names to ts ts
  some_anew to ts = record { count = refl; front = λ i l. refl; each = λ i. inl refl }

  pub some_more : (to : ℕ) (old now new : List Lexeme) → AreSomeAnew names to old now → AreSomeAnew names to now new → AreSomeAnew names to old new
  some_more to old now new a b = record {
    count = b.count ∙ a.count;
    front = λ i l. b.front i l ∙ a.front i l;
    each = λ i. either_more (slice_get old i) (slice_get now i) (slice_get new i) (a.each i) (b.each i);
  }

  pub one_anew : (to at : ℕ) (old new : List Lexeme) → to ≤ at → IsOneAnew names at old new → AreSomeAnew names to old new
  one_anew to at old new l one = record {
    count = one.count;
    front = λ i m. one.others i (λ e. absurd (omega (arith, l, m, e)));
    each = λ i.
        ⊎_elim (λ (e : i ≡ at). inr (subst (λ (j : ℕ). slice_get new j ≡ retyped_at names old j) (sym e) one.here)) (λ (d : i ≡ at → ⊥). inl (one.others i d)) (cases_eq i at);
  }

  pub told_none : (to : ℕ) (places : List ℕ) (ts : List Lexeme) → AreTold names to places 0 ts ts
  told_none to places ts = record { some = some_anew to ts; told = λ k i l e m. absurd (omega (arith, l)) }

  -- one place more, which stands before the tokens, or whose token was told
  pub told_front : (to : ℕ) (places : List ℕ) (count at : ℕ) (old now : List Lexeme) → AreTold names to places count old now → slice_get places count ≡ Some at → at < to → AreTold names to places (count + 1) old now
  told_front to places count at old now a e l = record {
    some = a.some;
    told = λ k i m f n.
        ⊎_elim (λ (b : k < count). a.told k i b f n) (λ (b : count ≤ k). (
        let same : k ≡ count = omega (arith, m, b) in
        let is : at ≡ i = some_inside at i (sym e ∙ ap (slice_get places) (sym same) ∙ f) in
        absurd (omega (arith, l, n, is)))) (cases_lt k count);
  }

  pub told_more : (to : ℕ) (places : List ℕ) (count at : ℕ) (old now new : List Lexeme) → AreTold names to places count old now → slice_get places count ≡ Some at → to ≤ at → IsOneAnew names at now new
      → AreTold names to places (count + 1) old new
  told_more to places count at old now new a e l one =
      let step = one_anew to at now new l one in
      record {
        some = some_more to old now new a.some step;
        told = λ k i m f n.
            ⊎_elim (λ (b : k < count). still_anew (slice_get old i) (slice_get now i) (slice_get new i) (a.told k i b f n) (step.each i)) (λ (b : count ≤ k). (
            let same : k ≡ count = omega (arith, m, b) in
            let is : at ≡ i = some_inside at i (sym e ∙ ap (slice_get places) (sym same) ∙ f) in
            subst (λ (j : ℕ). slice_get new j ≡ retyped_at names now j) is one.here ∙ anew_both (slice_get old i) (slice_get now i) (a.some.each i))) (cases_lt k count);
      }

  pub learned_none : (to : ℕ) (read : List Lexeme) (changes : List Change) (ts : List Lexeme) → AreLearned names to read changes 0 ts ts
  learned_none to read changes ts = record { some = some_anew to ts; learned = λ k c i l e m f. absurd (omega (arith, l)) }

  -- the tokens that spell the name of one change more were told
  pub learned_more : (places : Places) (to : ℕ) (changes : List Change) (count : ℕ) (c : Change) (name : List ℕ) (old now new : List Lexeme) → places.upto ≡ length old → Covers places old to
      → AreLearned names to (take to old) changes count old now → slice_get changes count ≡ Some c → name ≡ text_at (take to now) c.at
      → AreTold names to (places_of places name) (length (places_of places name)) now new → AreLearned names to (take to old) changes (count + 1) old new
  learned_more places to changes count c name old now new u covers a e t told =
      let read : take to now ≡ take to old = take_same to now old a.some.front in
      let named : name ≡ text_at (take to old) c.at = t ∙ ap (λ (ts : List Lexeme). text_at ts c.at) read in
      record {
        some = some_more to old now new a.some told.some;
        learned = λ k d i m f n w.
            ⊎_elim (λ (b : k < count). still_anew (slice_get old i) (slice_get now i) (slice_get new i) (a.learned k d i b f n w) (told.some.each i)) (λ (b : count ≤ k). (
            let same : k ≡ count = omega (arith, m, b) in
            let is : c ≡ d = some_inside c d (sym e ∙ ap (slice_get changes) (sym same) ∙ f) in
            let spells : word_at old i ≡ Some name = w ∙ ap (λ (x : Change). Some (text_at (take to old) x.at)) (sym is) ∙ ap Some (sym named) in
            let within : i < length old = word_of_within old i name (slice_get old i) refl spells in
            let found = covers.finds i name n (subst (λ (x : ℕ). i < x) (sym u) within) spells in
            told.told found.0 i (slice_get_within (places_of places name) found.0 i found.1) found.1 n ∙ anew_both (slice_get old i) (slice_get now i) (a.some.each i))) (cases_lt k count);
      }
