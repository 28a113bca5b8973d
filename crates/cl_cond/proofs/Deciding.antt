-- What the machine says is what the tokens come to, and they come to one thing.
use Rattle.std.proofs.Common.{◌≡◌, ℕ, zero, suc, ◌+◌, ◌<◌, ◌≤◌, List, [], ◌∷◌, ◌++◌, Option, Some, None, inl, inr, refl, sym, ap, ◌∙◌, subst, arith, length, take, drop, get_or, ⊎_elim, append_assoc}
use Rattle.std.proofs.lemmas.Bool.{cases_order}
use Rattle.std.proofs.lemmas.List.{take_more, take-append-drop, take_all, length-take-le}
use Rattle.std.proofs.Math.Seq.{take-nil}
use Rattle.cl_base.specs.declared.token.PpToken.{PpToken}
use Rattle.cl_cond.specs.declared.eval.IfValue.{IfValue}
use Rattle.cl_cond.specs.declared.eval.IfValue.TheVariants.{BadIf}
use Rattle.cl_cond.specs.declared.outcome.Outcome.{Outcome}
use Rattle.cl_cond.specs.declared.word.Word.{Word}
use Rattle.cl_cond.specs.Words.{class_of, words_from}
use Rattle.cl_cond.specs.Expressions.{Tree, Reads, IsExpression, GoesOn}
use Rattle.cl_cond.specs.code.Machine.{State, finished, step, waiting}
use Rattle.cl_cond.specs.Conditions.{EvaluatesTo, IsMisfit}
use Rattle.cl_cond.specs.code.Outcomes.{answer, answer_of, outcome_of}
use Rattle.cl_cond.proofs.Valuing.{answers}
use Rattle.cl_cond.proofs.Running.{Finishes, go, go_append, go_none, read_finishes, stepped}
use Rattle.cl_cond.proofs.Holding.{ReadAs, finished_read, taken_on}

-- ---- the tokens by their numbers

words_append : (n : ℕ) (xs : List PpToken) (x : PpToken) → words_from n (xs ++ x ∷ []) ≡ words_from n xs ++ record { place = n + length xs; class = class_of x } ∷ []
words_append n [] x = ap (λ (m : ℕ). let w : Word = record { place = m; class = class_of x } in w ∷ []) (omega arith)
words_append n (y ∷ xs) x =
    ap (λ (ws : List Word). record { place = n; class = class_of y } ∷ ws)
    (words_append (n + 1) xs x ∙ ap (λ (m : ℕ). words_from (n + 1) xs ++ record { place = m; class = class_of x } ∷ []) (omega arith))

words_length : (n : ℕ) (xs : List PpToken) → length (words_from n xs) ≡ length xs
words_length n [] = refl
words_length n (x ∷ xs) = let e = words_length (n + 1) xs in omega arith

-- the tokens up to one of them, and with it
pub words_more : (tokens : List PpToken) (i : ℕ) (d : PpToken) → i < length tokens → words_from 0 (take (i + 1) tokens) ≡ words_from 0 (take i tokens) ++ record { place = i; class = class_of (get_or tokens i d) } ∷ []
words_more tokens i d l =
    let long : 0 + length (take i tokens) ≡ i = let e = length-take-le i tokens (omega arith) in omega arith in
    ap (words_from 0) (take_more tokens i d l) ∙ words_append 0 (take i tokens) (get_or tokens i d)
    ∙ ap (λ (m : ℕ). words_from 0 (take i tokens) ++ record { place = m; class = class_of (get_or tokens i d) } ∷ []) long

words_take : (n : ℕ) (tokens : List PpToken) (i : ℕ) → take i (words_from n tokens) ≡ words_from n (take i tokens)
words_take n [] i = take-nil i ∙ ap (words_from n) (sym (take-nil i))
words_take n (x ∷ xs) zero = refl
words_take n (x ∷ xs) (suc i) = ap (λ (ws : List Word). record { place = n; class = class_of x } ∷ ws) (words_take (n + 1) xs i)

-- ---- a token that may not stand there

none_some : {A : Type 0} (x : A) → ◌≡◌ {A = Option A} None (Some x) → ⊥
none_some x e = cc

-- no expression has it after those before it
stops : (front : List Word) (w : Word) (s : State) → go (waiting []) front ≡ Some s → step s w ≡ None → GoesOn (front ++ w ∷ []) → ⊥
stops front w s e f g =
    let run : Finishes ((front ++ w ∷ []) ++ g.0) (outcome_of g.1.0) = read_finishes ((front ++ w ∷ []) ++ g.0) g.1.0 g.1.1 in
    let none : go (waiting []) ((front ++ w ∷ []) ++ g.0) ≡ None =
    go_append (waiting []) (front ++ w ∷ []) g.0 ∙ ap (λ (o : Option State). go o g.0) (go_append (waiting []) front (w ∷ []) ∙ ap (λ (o : Option State). stepped o w) e ∙ f) ∙ go_none g.0 in
    none_some run.state (sym none ∙ run.goes)

expression_on : (words : List Word) (i : ℕ) → IsExpression words → GoesOn (take i words)
expression_on words i h = (drop i words, (h.0, record { at = h.1.at; yields = h.1.yields ∙ sym (take-append-drop i words) }))

pub misfit : (tokens : List PpToken) (i : ℕ) (d : PpToken) (s : State) → i < length tokens → go (waiting []) (words_from 0 (take i tokens)) ≡ Some s
    → step s (record { place = i; class = class_of (get_or tokens i d) }) ≡ None → EvaluatesTo (words_from 0 tokens) (BadIf i)
misfit tokens i d s l e f =
    let words : List Word = words_from 0 tokens in
    let w : Word = record { place = i; class = class_of (get_or tokens i d) } in
    let front : take i words ≡ words_from 0 (take i tokens) = words_take 0 tokens i in
    let more : take (i + 1) words ≡ words_from 0 (take i tokens) ++ w ∷ [] = words_take 0 tokens (i + 1) ∙ words_more tokens i d l in
    let stop : GoesOn (take (i + 1) words) → ⊥ = λ g. stops (words_from 0 (take i tokens)) w s e f (subst GoesOn more g) in
    let long = words_length 0 tokens in
    inr (
      i,
      (record {
        within = omega arith;
        goes_on = subst GoesOn (sym front) (taken_on (words_from 0 (take i tokens)) s e);
        ends = λ m. stop;
        none = λ h. stop (expression_on words (i + 1) h);
      }),
      refl,
    )

pub goes_more : (tokens : List PpToken) (i : ℕ) (d : PpToken) (s : State) (o : Option State) → i < length tokens → go (waiting []) (words_from 0 (take i tokens)) ≡ Some s
    → step s (record { place = i; class = class_of (get_or tokens i d) }) ≡ o → go (waiting []) (words_from 0 (take (i + 1) tokens)) ≡ o
goes_more tokens i d s o l e f =
    let w : Word = record { place = i; class = class_of (get_or tokens i d) } in
    ap (go (waiting [])) (words_more tokens i d l) ∙ go_append (waiting []) (words_from 0 (take i tokens)) (w ∷ []) ∙ ap (λ (u : Option State). stepped u w) e ∙ f

-- ---- the end

not_finished : (words : List Word) (s : State) → go (waiting []) words ≡ Some s → finished s ≡ None → IsExpression words → ⊥
not_finished words s e f h =
    let run : Finishes words (outcome_of h.0) = read_finishes words h.0 h.1 in
    let same : run.state ≡ s = let g : Some run.state ≡ Some s = sym run.goes ∙ e in cc in
    none_some (outcome_of h.0) (sym f ∙ ap finished (sym same) ∙ run.ends)

ended : (words : List Word) (s : State) (o : Option Outcome) → go (waiting []) words ≡ Some s → finished s ≡ o → EvaluatesTo words (answer_of o (length words))
ended words s None e f =
    let whole : take (length words) words ≡ words = take_all (length words) words (omega arith) in
    inr (
      length words,
      (record {
        within = omega arith;
        goes_on = subst GoesOn (sym whole) (taken_on words s e);
        ends = λ m. absurd (omega arith);
        none = not_finished words s e f;
      }),
      refl,
    )
ended words s (Some x) e f = let r : ReadAs words x = finished_read words s x e f in inl (r.tree, r.reads, ap answer r.is ∙ answers r.tree)

pub at_end : (tokens : List PpToken) (i : ℕ) (s : State) (o : Option Outcome) (value : IfValue) → i ≤ length tokens → length tokens ≤ i → go (waiting []) (words_from 0 (take i tokens)) ≡ Some s → o ≡ finished s
    → value ≡ answer_of o (length tokens) → EvaluatesTo (words_from 0 tokens) value
at_end tokens i s o value l m e f g =
    let whole : take i tokens ≡ tokens = take_all i tokens m in
    let same : answer_of o (length (words_from 0 tokens)) ≡ value = ap (answer_of o) (words_length 0 tokens) ∙ sym g in
    subst (EvaluatesTo (words_from 0 tokens)) same
    (ended (words_from 0 tokens) s o (ap (λ (ts : List PpToken). go (waiting []) (words_from 0 ts)) (sym whole) ∙ e) (sym f))

-- ---- one answer

one_outcome : (words : List Word) (t u : Tree) → Reads words t → Reads words u → outcome_of t ≡ outcome_of u
one_outcome words t u h k =
    let x : Finishes words (outcome_of t) = read_finishes words t h in
    let y : Finishes words (outcome_of u) = read_finishes words u k in
    let same : x.state ≡ y.state = let g : Some x.state ≡ Some y.state = sym x.goes ∙ y.goes in cc in
    let both : Some (outcome_of t) ≡ Some (outcome_of u) = sym x.ends ∙ ap finished same ∙ y.ends in
    cc

seam : (words : List Word) (i j : ℕ) → i ≤ j → take i words ++ drop i (take j words) ≡ take j words
seam words zero j l = refl
seam [] (suc i) zero l = absurd (omega arith)
seam [] (suc i) (suc j) l = refl
seam (w ∷ words) (suc i) zero l = absurd (omega arith)
seam (w ∷ words) (suc i) (suc j) l = ap (λ (ws : List Word). w ∷ ws) (seam words i j (omega arith))

fewer_on : (words : List Word) (i j : ℕ) → i ≤ j → GoesOn (take j words) → GoesOn (take i words)
fewer_on words i j l g =
    let same : take i words ++ (drop i (take j words) ++ g.0) ≡ take j words ++ g.0 =
    sym (append_assoc (take i words) (drop i (take j words)) g.0) ∙ ap (λ (ws : List Word). ws ++ g.0) (seam words i j l) in
    (drop i (take j words) ++ g.0, (g.1.0, record { at = g.1.1.at; yields = g.1.1.yields ∙ sym same }))

not_before : (words : List Word) (i j : ℕ) → IsMisfit words i → IsMisfit words j → i < j → ⊥
not_before words i j h k l =
    let w : j ≤ length words = k.within in
    h.ends (omega arith) (fewer_on words (i + 1) j (omega arith) k.goes_on)

one_misfit : (words : List Word) (i j : ℕ) → IsMisfit words i → IsMisfit words j → i ≡ j
one_misfit words i j h k = ⊎_elim (λ e. e) (⊎_elim (λ l. absurd (not_before words i j h k l)) (λ l. absurd (not_before words j i k h l))) (cases_order i j)

pub one_value : (words : List Word) (x y : IfValue) → EvaluatesTo words x → EvaluatesTo words y → x ≡ y
one_value words x y (inl h) (inl k) = h.2 ∙ sym (answers h.0) ∙ ap answer (one_outcome words h.0 k.0 h.1 k.1) ∙ answers k.0 ∙ sym k.2
one_value words x y (inl h) (inr k) = absurd (k.1.none (h.0, h.1))
one_value words x y (inr h) (inl k) = absurd (h.1.none (k.0, k.1))
one_value words x y (inr h) (inr k) = h.2 ∙ ap BadIf (one_misfit words h.0 k.0 h.1 k.1) ∙ sym k.2
