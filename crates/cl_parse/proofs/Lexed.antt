-- The tokens as the grammar reads them, read piece by piece.
use Rattle.std.proofs.Common.{◌≡◌, ℕ, suc, ◌+◌, ◌-◌, ◌≤◌, List, [], ◌∷◌, ◌++◌, length, take, drop, refl, sym, ap, ◌∙◌, arith, append_assoc, append-nil, take-add, drop-drop, take_at, length-append, length-take-le, length-drop}
use Rattle.std.specs.Prelude.{Bool, slice_range}
use Rattle.cl_base.specs.declared.token.PpToken.{PpToken}
use Rattle.cl_tree.specs.Lexemes.{lexeme_of, lexemes_from, lexemes_to}
use Rattle.cl_tree.specs.declared.lexeme.Lexeme.{Lexeme}

range_split : (xs : List PpToken) (i j k : ℕ) → i ≤ j → j ≤ k → slice_range xs i k ≡ slice_range xs i j ++ slice_range xs j k
range_split xs i j k a b =
    let e : k - i ≡ (j - i) + (k - j) = omega arith in
    let f : i + (j - i) ≡ j = omega arith in
    ap (λ n. take n (drop i xs)) e ∙ take-add (j - i) (k - j) (drop i xs)
    ∙ ap (λ t. slice_range xs i j ++ take (k - j) t) (drop-drop (j - i) i xs ∙ ap (λ n. drop n xs) f)

range_length : (xs : List PpToken) (i j : ℕ) → j ≤ length xs → length (slice_range xs i j) ≡ j - i
range_length xs i j l = length-take-le (j - i) (drop i xs) (omega (arith, length-drop i xs))

module _ (names : List ℕ → Bool) (pairs : List ℕ) (tokens : List PpToken) where
  from_append : (i : ℕ) (xs ys : List PpToken) → lexemes_from names pairs tokens i (xs ++ ys) ≡ lexemes_from names pairs tokens i xs ++ lexemes_from names pairs tokens (i + length xs) ys
  from_append i [] ys = let e : i ≡ i + 0 = omega arith in ap (λ (n : ℕ). lexemes_from names pairs tokens n ys) e
  from_append i (x ∷ xs) ys =
      let e : (i + 1) + length xs ≡ i + length (x ∷ xs) = omega arith in
      ap (λ (ls : List Lexeme). lexeme_of names pairs tokens i x ∷ ls) (from_append (i + 1) xs ys ∙ ap (λ (n : ℕ). lexemes_from names pairs tokens (i + 1) xs ++ lexemes_from names pairs tokens n ys) e)

  from_length : (i : ℕ) (xs : List PpToken) → length (lexemes_from names pairs tokens i xs) ≡ length xs
  from_length i [] = refl
  from_length i (x ∷ xs) = ap suc (from_length (i + 1) xs)

  pub to_length : (read : List Lexeme) (to : ℕ) → length read ≤ to → to ≤ length tokens → length (lexemes_to names pairs tokens read to) ≡ to
  to_length read to a b =
      let xs = slice_range tokens (length read) to in
      let e : length xs ≡ to - length read = range_length tokens (length read) to b in
      let f : length (lexemes_from names pairs tokens (length read) xs) ≡ length xs = from_length (length read) xs in
      length-append read (lexemes_from names pairs tokens (length read) xs) ∙ (omega (arith, e, f))

  -- first up to one token, and then on to another
  pub to_further : (read : List Lexeme) (mid to : ℕ) → length read ≤ mid → mid ≤ to → to ≤ length tokens → lexemes_to names pairs tokens (lexemes_to names pairs tokens read mid) to ≡ lexemes_to names pairs tokens read to
  to_further read mid to a b l =
      let here = slice_range tokens (length read) mid in
      let there = slice_range tokens mid to in
      let n : length (lexemes_to names pairs tokens read mid) ≡ mid = to_length read mid a (omega arith) in
      let m : length read + length here ≡ mid = omega (arith, range_length tokens (length read) mid (omega arith)) in
      ap (λ (k : ℕ). lexemes_to names pairs tokens read mid ++ lexemes_from names pairs tokens k (slice_range tokens k to)) n
      ∙ append_assoc read (lexemes_from names pairs tokens (length read) here) (lexemes_from names pairs tokens mid there)
      ∙ ap (λ (k : ℕ). read ++ (lexemes_from names pairs tokens (length read) here ++ lexemes_from names pairs tokens k there)) (sym m)
      ∙ ap (λ (ls : List Lexeme). read ++ ls) (sym (from_append (length read) here there))
      ∙ ap (λ (ts : List PpToken). read ++ lexemes_from names pairs tokens (length read) ts) (sym (range_split tokens (length read) mid to a b))

  -- the front of what was read
  pub to_front : (read : List Lexeme) (mid to : ℕ) → length read ≤ mid → mid ≤ to → to ≤ length tokens → take mid (lexemes_to names pairs tokens read to) ≡ lexemes_to names pairs tokens read mid
  to_front read mid to a b l =
      let front = lexemes_to names pairs tokens read mid in
      ap (take mid) (sym (to_further read mid to a b l))
      ∙ take_at front (lexemes_from names pairs tokens (length front) (slice_range tokens (length front) to)) mid (to_length read mid a (omega arith))

  -- up to where it was read
  pub to_itself : (read : List Lexeme) → lexemes_to names pairs tokens read (length read) ≡ read
  to_itself read =
      let e : length read - length read ≡ 0 = omega arith in
      ap (λ (n : ℕ). read ++ lexemes_from names pairs tokens (length read) (take n (drop (length read) tokens))) e ∙ append-nil read
