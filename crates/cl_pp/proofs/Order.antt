-- The tokens of a text after preprocessing follow one another.
use Rattle.std.proofs.Common.{◌≡◌, ℕ, ◌-◌, ◌<◌, ◌≤◌, Bool, true, false, List, [], ◌∷◌, ◌++◌, Option, refl, sym, ap, subst, ◌∙◌, arith, length, map, take, drop, append_assoc, append-nil, inl, inr}
use Rattle.std.proofs.Math.Seq.{drop-nil}
use Rattle.std.specs.Prelude.{if◌then◌else◌}
use Rattle.cl_base.specs.declared.macros.MacroNo.{MacroNo}
use Rattle.cl_base.specs.declared.token.Span.{Span}
use Rattle.cl_base.specs.declared.token.Token.{Token}
use Rattle.cl_macro.specs.declared.expanded.Expanded.{Expanded}
use Rattle.cl_macro.specs.declared.word.Word.{Word}
use Rattle.cl_macro.specs.declared.note.Note.{Note}
use Rattle.cl_macro.specs.declared.note.Told.{Told}
use Rattle.cl_macro.specs.Rules.{Rules}
use Rattle.cl_macro.specs.Words.{fresh, looks}
use Rattle.cl_macro.specs.Turns.{Invokes, Misfits, args_of, set_of, stay_notes}
use Rattle.cl_macro.specs.Params.{raws}
use Rattle.cl_macro.specs.Replacing.{Works, Expands, stays, invokes, misfits, open_ended, end, whole, large, settled, settled_word, span_of}
use Rattle.cl_macro.specs.Expansions.{IsExpansion, token_of}
use Rattle.cl_macro.proofs.Shapes.{Nothing, shape}
use Rattle.cl_pp.specs.Places.{Follows, InOrder}
use Rattle.cl_pp.specs.Lines.{spread_line}
use Rattle.cl_lex.specs.Order.{AreInOrder}
use Rattle.cl_pp.proofs.Placing.{AllMade, Laid, Lie, append_made, args_made, asked_made, drop_made, each_still, invoked_laid, laid, made_made, take_drop, turn_takes}

module _ (file : ℕ) where
  -- ---- what stays as it stands

  record Parted (p last : ℕ) (back rest : List Word) : Type 0 where
    seam : ℕ
    front : Lie file p seam back
    behind : Lie file seam last rest

  parted : (p last : ℕ) (back rest : List Word) → Lie file p last (back ++ rest) → Parted p last back rest
  parted p last [] rest h = record { seam = p; front = omega arith; behind = h }
  parted p last (w ∷ ws) rest h = let r = parted w.token.at.to last ws rest h.3 in record { seam = r.seam; front = (h.0, h.1, h.2, r.front); behind = r.behind }

  -- whatever comes behind them, wherever they last
  abbrev Goes : ℕ → ℕ → List Word → Type 0
  Goes p last ws = (b : Span) → b.file ≡ file → b.to ≤ p → InOrder b last (map token_of ws)

  stay_on : (p seam last : ℕ) (ws more : List Word) → Lie file p seam ws → Goes seam last more → Goes p last (ws ++ more)
  stay_on p seam last [] more h g b f l = let r : p ≤ seam = h in g b f (omega (arith, l, r))
  stay_on p seam last (w ∷ ws) more h g b f l =
      (inr (h.0.1 ∙ sym f, omega (arith, l, h.1)), h.2, stay_on w.token.at.to seam last ws more h.3 g w.token.at h.0.1 (omega arith))

  given_settled : (at : Span) (w : Word) → w.given ≡ true → settled_word at w ≡ w
  given_settled at w g = λ i. record {
    token = record { kind = w.token.kind; text = w.token.text; space = w.token.space; spell = w.token.spell; at = if g i then w.token.at else at };
    hide = w.hide;
    given = w.given;
  }

  all_settled : (at : Span) (p last : ℕ) (ws : List Word) → Lie file p last ws → map (settled_word at) ws ≡ ws
  all_settled at p last [] h = refl
  all_settled at p last (w ∷ ws) h = λ i. given_settled at w h.0.0 i ∷ all_settled at w.token.at.to last ws h.3 i

  -- ---- what one invocation made

  made_at : (at : Span) (w : Word) → w.given ≡ false → (settled_word at w).token.at ≡ at
  made_at at w g = ap (λ (b : Bool). if b then w.token.at else at) g

  made_on : (at : Span) (seam last : ℕ) (ws more : List Word) → at.file ≡ file → AllMade ws → at.from < at.to → at.to ≤ seam → Goes seam last more → (b : Span) → b.file ≡ file → Follows b at → b.to ≤ seam
      → InOrder b last (map token_of (map (settled_word at) ws ++ more))
  made_on at seam last [] more k m s l g b x f t = g b x t
  made_on at seam last (w ∷ ws) more k m s l g b x f t =
      let e : at ≡ (settled_word at w).token.at = sym (made_at at w m.0) in
      let rest : InOrder at last (map token_of (map (settled_word at) ws ++ more)) = made_on at seam last ws more k m.1 s l g at k (inl refl) l in
      subst (λ (x : Span). Follows b x × (x.from < x.to) × InOrder x last (map token_of (map (settled_word at) ws ++ more))) e (f, s, rest)

  map_both : (at : Span) (xs ys : List Word) → map (settled_word at) (xs ++ ys) ≡ map (settled_word at) xs ++ map (settled_word at) ys
  map_both at [] ys = refl
  map_both at (x ∷ xs) ys = ap (λ (ws : List Word). settled_word at x ∷ ws) (map_both at xs ys)

  -- ---- the run's next token

  laid_on : (w : Word) (p last : ℕ) (out left more : List Word) (ns : List Note) → w.token.at.file ≡ file → p ≤ w.token.at.from → w.token.at.from < w.token.at.to
      → Laid file w.token.at.to last out left ns → ((q : ℕ) → Lie file q last left → Goes q last more) → Goes p last (settled w ns out ++ more)
  laid_on w p last out left more ns x f s r k b y l =
      let at : Span = span_of w ns in
      let c = parted r.seam last r.back left r.lies in
      let lo = r.low in
      let hi = r.high in
      let word : settled w ns out ++ more ≡ map (settled_word at) r.front ++ (r.back ++ more) =
      ap (λ (ws : List Word). map (settled_word at) ws ++ more) r.all ∙ ap (λ (ws : List Word). ws ++ more) (map_both at r.front r.back)
      ∙ ap (λ (ws : List Word). (map (settled_word at) r.front ++ ws) ++ more) (all_settled at r.seam c.seam r.back c.front)
      ∙ append_assoc (map (settled_word at) r.front) r.back more in
      subst (λ (ws : List Word). InOrder b last (map token_of ws)) (sym word)
      (made_on at r.seam last r.front (r.back ++ more) x r.made (omega (arith, s, lo)) hi (stay_on r.seam c.seam last r.back more c.front (k c.seam c.behind)) b y (inr (x ∙ sym y, omega (arith, l, f))) (omega (arith, l, f, s, lo, hi)))

  -- it stays with what it takes
  kept_on : (w : Word) (at : Span) (p last : ℕ) (out left rest more : List Word) → out ++ left ≡ w ∷ rest → Lie file p last (w ∷ rest)
      → ((q : ℕ) → Lie file q last left → Goes q last more) → Goes p last (map (settled_word at) out ++ more)
  kept_on w at p last out left rest more e h k b f l =
      let c = parted p last out left (subst (Lie file p last) (sym e) h) in
      subst (λ (ws : List Word). InOrder b last (map token_of (ws ++ more))) (sym (all_settled at p c.seam out c.front))
      (stay_on p c.seam last out more c.front (k c.seam c.behind) b f l)

  module _ (rules : Rules) where
    first_on : (w : Word) (p last : ℕ) (rest out left more : List Word) (ns : List Note) → Works rules (w ∷ []) rest out left ns → Lie file p last (w ∷ rest)
        → ((q : ℕ) → Lie file q last left → Goes q last more) → Goes p last (settled w ns out ++ more)
    first_on w p last rest _ left more _ (stays _ _ _ out _ ns t d) h k =
        let s : Nothing rules rest out left ns = shape rules d in
        kept_on w (span_of w (looks w ++ ns)) p last (w ∷ out) left rest more (λ i. w ∷ (s.words i ++ s.all i)) h k
    first_on w p last rest _ left more _ (invokes _ _ _ m behind full inner out _ ns t a d) h k =
        laid_on w p last out left more _ h.0.1 h.1 h.2
        (invoked_laid file rules w [] rest m behind full inner out left ns t (each_still file rules a (asked_made m (args_of m behind) (args_made m behind))) tt w.token.at.to w.token.at.to last h.3 (omega arith)
        (λ from q lie e. laid file rules d (append_made _ (drop (length behind) []) (made_made rules m (raws m (args_of m behind)) full w.token.space (set_of w behind)) (drop_made (length behind) [] tt)) from q last lie e)) k
    first_on w p last rest _ left more _ (misfits _ _ _ behind out _ ns t d) h k =
        let n : ℕ = length behind - 0 in
        let z : n ≡ length behind = omega arith in
        let s : Nothing rules (drop n rest) out left ns = shape rules (subst (λ (ws : List Word). Works rules ws (drop n rest) out left ns) (drop-nil (length behind)) d) in
        let word : behind ≡ take (length behind) rest = turn_takes rules.macros w rest (Misfits behind) t in
        let all : (behind ++ out) ++ left ≡ rest =
        (λ i. (behind ++ s.words i) ++ s.all i) ∙ ap (λ (ws : List Word). ws ++ drop n rest) (append-nil behind)
        ∙ ap (λ (j : ℕ). behind ++ drop j rest) z ∙ ap (λ (ws : List Word). ws ++ drop (length behind) rest) word ∙ take_drop (length behind) rest in
        kept_on w (span_of w (stay_notes 19 w behind ++ ns)) p last (w ∷ (behind ++ out)) left rest more (ap (λ (ws : List Word). w ∷ ws) all) h k
    first_on w p last rest _ _ more _ (open_ended _ _ _ t) h k =
        kept_on w (span_of w (stay_notes 20 w rest)) p last (w ∷ rest) [] rest more (ap (λ (ws : List Word). w ∷ ws) (append-nil rest)) h k

  module _ (rules_at : Span → Rules) where
    pub run_order : {before : ℕ} {run words : List Word} {ts : List Told} → Expands rules_at before run words ts → (p last : ℕ) → Lie file p last run → Goes p last words
    run_order (end before) p last h = λ b f l. let r : p ≤ last = h in omega (arith, l, r)
    run_order (whole before w rest out left more ns ts d few g) p last h = first_on (rules_at w.token.at) w p last rest out left more ns d h (λ q lie. run_order g q last lie)
    run_order (large before w rest behind m more ts t many g) p last h =
        let word : behind ≡ take (length behind) rest = turn_takes (rules_at w.token.at).macros w rest (Invokes m behind) t in
        let all : (w ∷ behind) ++ drop (length behind) rest ≡ w ∷ rest = ap (λ (ws : List Word). w ∷ (ws ++ drop (length behind) rest)) word ∙ ap (λ (ws : List Word). w ∷ ws) (take_drop (length behind) rest) in
        let c = parted p last (w ∷ behind) (drop (length behind) rest) (subst (Lie file p last) (sym all) h) in
        stay_on p c.seam last (w ∷ behind) more c.front (run_order g c.seam last c.behind)

  -- ---- a line

  spread_lies : (p last : ℕ) (line : List Token) → AreInOrder p last line → Lie file p last (map fresh (spread_line file line))
  spread_lies p last [] h = h
  spread_lies p last (t ∷ ts) h = ((refl, refl), h.0, h.1, spread_lies t.to last ts h.2)

  pub expanded_order : (rules_at : Span → Rules) (numbers : List ℕ → Option MacroNo) (p last : ℕ) (line : List Token) (all : Expanded) → IsExpansion rules_at numbers (spread_line file line) all
      → AreInOrder p last line → (b : Span) → b.file ≡ file → b.to ≤ p → InOrder b last all.tokens
  expanded_order rules_at numbers p last line all e h b f l =
      subst (InOrder b last) (sym e.tokens) (run_order rules_at e.expands p last (spread_lies p last line h) b f l)
