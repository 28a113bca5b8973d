-- The tokens of the document follow one another.
use Rattle.std.proofs.Common.{◌≡◌, ℕ, zero, suc, ◌-◌, ◌≤◌, Bool, true, false, List, [], ◌∷◌, ◌++◌, Option, refl, sym, ap, subst, ◌∙◌, arith, length, take, drop, append_assoc, append-nil, inl, inr}
use Rattle.std.proofs.Math.Seq.{drop-nil}
use Rattle.std.proofs.lemmas.Bool.Decides.{nat_tests}
use Rattle.std.specs.Prelude.{◌==◌, if◌then◌else◌}
use Rattle.cl_base.specs.declared.macros.MacroNo.{MacroNo}
use Rattle.cl_base.specs.declared.token.PpToken.{PpToken}
use Rattle.cl_base.specs.declared.token.Span.{Span}
use Rattle.cl_base.specs.declared.token.Token.{Token}
use Rattle.cl_lex.specs.Order.{AreInOrder}
use Rattle.cl_lex.proofs.Order.{lexed_order}
use Rattle.cl_cond.specs.declared.mark.Mark.{Mark}
use Rattle.cl_headers.specs.declared.resolving.Resolved.{Resolved}
use Rattle.cl_headers.specs.declared.resolving.Resolved.TheVariants as resolved
use Rattle.cl_macro.specs.Rules.{Rules}
use Rattle.cl_pp.specs.declared.aim.Aim.{Aim}
use Rattle.cl_pp.specs.declared.aim.Target.{Target}
use Rattle.cl_pp.specs.declared.done.PpDone.{PpDone}
use Rattle.cl_pp.specs.Lines.{line_of}
use Rattle.cl_pp.specs.Places.{Follows, InOrder, MarksLie, in_document, nowhere}
use Rattle.cl_pp.specs.Preprocessing.{Arrival, Does, Enters, Goes, Reads, State, Stays, World, arrived, arrived_in}
use Rattle.cl_pp.specs.Preprocessing.{deep, end, enters, line, nothing, once, read, stays, stop}
use Rattle.cl_pp.specs.Standing.{is_once, number_in, with_asked_paths, with_file, with_once}
use Rattle.cl_pp.proofs.Adding.{Adds, line_adds}
use Rattle.cl_pp.proofs.Files.{some_number}
use Rattle.cl_pp.proofs.Lying.{marks_lie, runs_lie}
use Rattle.cl_pp.proofs.Order.{expanded_order}

-- ---- the tokens of one file

abbrev AllIn : ℕ → List PpToken → Type 0
AllIn f [] = Unit {0}
AllIn f (t ∷ ts) = (t.at.file ≡ f) × AllIn f ts

follows_in : (f : ℕ) (b at : Span) → b.file ≡ f → Follows b at → at.file ≡ f
follows_in f b at e h = elim h [
  | inl s ↦ ap (λ (x : Span). x.file) s ∙ e
  | inr l ↦ l.0 ∙ e
]

all_in : (f q : ℕ) (b : Span) (ts : List PpToken) → b.file ≡ f → InOrder b q ts → AllIn f ts
all_in f q b [] e h = tt
all_in f q b (t ∷ ts) e h = let x = follows_in f b t.at e h.0 in (x, all_in f q t.at ts x h.2)

by_file : (b : Bool) (x : PpToken) (xs ys both : List PpToken) → both ≡ xs ++ ys → (if b then x ∷ both else both) ≡ (if b then x ∷ xs else xs) ++ ys
by_file true x xs ys both e = ap (λ (ts : List PpToken). x ∷ ts) e
by_file false x xs ys both e = e

both_filtered : (xs ys : List PpToken) → in_document (xs ++ ys) ≡ in_document xs ++ in_document ys
both_filtered [] ys = refl
both_filtered (x ∷ xs) ys = by_file (x.at.file == 0) x (in_document xs) (in_document ys) (in_document (xs ++ ys)) (both_filtered xs ys)

own_filtered : (ts : List PpToken) → AllIn 0 ts → in_document ts ≡ ts
own_filtered [] h = refl
own_filtered (t ∷ ts) h = ap (λ (n : ℕ). if n == 0 then t ∷ in_document ts else in_document ts) h.0 ∙ ap (λ (xs : List PpToken). t ∷ xs) (own_filtered ts h.1)

not_zero : (f : ℕ) → (suc f == 0) ≡ false
not_zero f = grind (arith, nat_tests)

other_filtered : (f : ℕ) (ts : List PpToken) → AllIn (suc f) ts → in_document ts ≡ []
other_filtered f [] h = refl
other_filtered f (t ∷ ts) h = ap (λ (n : ℕ). if n == 0 then t ∷ in_document ts else in_document ts) h.0 ∙ ap (λ (b : Bool). if b then t ∷ in_document ts else in_document ts) (not_zero f) ∙ other_filtered f ts h.1

-- ---- lines

reaches : (at last : ℕ) (tokens : List Token) → AreInOrder at last tokens → at ≤ last
reaches at last [] h = h
reaches at last (t ∷ ts) h = let r = reaches t.to last ts h.2 in omega (arith, h.0, h.1, r)

-- what a line adds follows what is before the line
line_order : (file : ℕ) (whole : List Token) (rules_at : Span → Rules) (numbers : List ℕ → Option MacroNo) (old new : PpDone) → (a : Adds file whole rules_at numbers old new) → (p q : ℕ) → AreInOrder p q whole
    → (b : Span) → b.file ≡ file → b.to ≤ p → InOrder b q a.more
line_order file whole rules_at numbers old new a p q h b f l = elim a.made [
  | inl e ↦ let r = reaches p q whole h in subst (InOrder b q) (sym e) (omega (arith, l, r))
  | inr m ↦ subst (InOrder b q) (sym m.2) (expanded_order file rules_at numbers p q whole m.0 m.1 h b f l)
]

record Cut (at last : ℕ) (tokens : List Token) (n : ℕ) : Type 0 where
  seam : ℕ
  front : AreInOrder at seam (take n tokens)
  back : AreInOrder seam last (drop n tokens)

cut : (at last : ℕ) (tokens : List Token) (n : ℕ) → AreInOrder at last tokens → Cut at last tokens n
cut at last tokens zero h = record { seam = at; front = omega arith; back = h }
cut at last [] (suc n) h = record { seam = at; front = omega arith; back = h }
cut at last (t ∷ ts) (suc n) h = let c = cut t.to last ts n h.2 in record { seam = c.seam; front = (h.0, h.1, c.front); back = c.back }

-- ---- files that include lines enter

abbrev tokens_of : Arrival → List PpToken
tokens_of (Stays done) = done.tokens
tokens_of (Enters number path text done) = done.tokens

abbrev Numbered : Arrival → Type 0
Numbered (Stays done) = Unit {0}
Numbered (Enters number path text done) = 1 ≤ number

if_arrives : (b : Bool) (number : ℕ) (path text : List ℕ) (done : PpDone) → tokens_of (if b then Stays done else Enters number path text (with_file path done)) ≡ done.tokens
if_arrives true number path text done = refl
if_arrives false number path text done = refl

if_numbered : (b : Bool) (number : ℕ) (path text : List ℕ) (done : PpDone) → 1 ≤ number → Numbered (if b then Stays done else Enters number path text (with_file path done))
if_numbered true number path text done h = tt
if_numbered false number path text done h = h

arrived_tokens : (target : Target) (found : Resolved) (done : PpDone) → tokens_of (arrived target found done) ≡ done.tokens
arrived_tokens target (resolved.File path text) done = if_arrives (is_once done path) (number_in done.files path) path text done
arrived_tokens target (resolved.Failed path) done = refl
arrived_tokens target (resolved.Need path) done = refl
arrived_tokens target resolved.Missing done = refl

arrived_number : (target : Target) (found : Resolved) (done : PpDone) → Numbered (arrived target found done)
arrived_number target (resolved.File path text) done = if_numbered (is_once done path) (number_in done.files path) path text done (some_number done.files path)
arrived_number target (resolved.Failed path) done = tt
arrived_number target (resolved.Need path) done = tt
arrived_number target resolved.Missing done = tt

arrival_tokens : (w : World) (target : Target) (asked : List (List ℕ)) (found : Resolved) (old : PpDone) (a : Arrival) → arrived_in w target asked found old ≡ a → tokens_of a ≡ old.tokens
arrival_tokens w target asked found old a e = ap tokens_of (sym e) ∙ arrived_tokens target found (with_asked_paths w.known asked old)

arrival_number : (w : World) (target : Target) (asked : List (List ℕ)) (found : Resolved) (old : PpDone) (a : Arrival) → arrived_in w target asked found old ≡ a → Numbered a
arrival_number w target asked found old a e = subst Numbered e (arrived_number target found (with_asked_paths w.known asked old))

if_marked : (b : Bool) (n : ℕ) (done : PpDone) → (if b then done else with_once n done).tokens ≡ done.tokens
if_marked true n done = refl
if_marked false n done = refl

some_suc : (n : ℕ) (P : ℕ → Type 0) → 1 ≤ n → ((m : ℕ) → n ≡ suc m → P n) → P n
some_suc zero P h k = absurd (omega (arith, h))
some_suc (suc m) P h k = k m refl

-- a line of such a file adds no token of the document
other_line : (w : World) (tokens : List Token) (last : ℕ) (s : State) (mark : Mark) (new : PpDone) (rules_at : Span → Rules) (numbers : List ℕ → Option MacroNo) → 1 ≤ w.file → AreInOrder 0 last tokens
    → Adds w.file (line_of tokens mark) rules_at numbers s.done new → in_document new.tokens ≡ in_document s.done.tokens
other_line w tokens last s mark new rules_at numbers o h a =
    let before = cut 0 last tokens mark.from h in
    let here = cut before.seam last (drop mark.from tokens) (mark.to - mark.from) before.back in
    let at : Span = record { file = w.file; from = 0; to = 0 } in
    let lies = line_order w.file (line_of tokens mark) rules_at numbers s.done new a before.seam here.seam here.front at refl (omega arith) in
    let all : AllIn w.file a.more = all_in w.file here.seam at a.more refl lies in
    let none : in_document a.more ≡ [] = some_suc w.file (λ (n : ℕ). in_document a.more ≡ []) o (λ m e. other_filtered m a.more (subst (λ (n : ℕ). AllIn n a.more) e all)) in
    ap in_document a.tokens ∙ both_filtered s.done.tokens a.more ∙ ap (λ (ts : List PpToken). in_document s.done.tokens ++ ts) none ∙ append-nil (in_document s.done.tokens)

mutual
  pub goes_other : {w : World} {tokens : List Token} {marks : List Mark} {s t : State} → Goes w tokens marks s t → (last : ℕ) → 1 ≤ w.file → AreInOrder 0 last tokens → in_document t.done.tokens ≡ in_document s.done.tokens
  goes_other (end w tokens s) last o h = refl
  goes_other (stop w tokens mark marks s e) last o h = refl
  goes_other (line w tokens mark marks s held aim mid done t e c d g) last o h =
      goes_other g last o h ∙ does_other d ∙ other_line w tokens last s mark mid _ _ o h (line_adds w tokens s mark held aim mid c)

  pub does_other : {w : World} {aim : Aim} {old new : PpDone} → Does w aim old new → in_document new.tokens ≡ in_document old.tokens
  does_other (nothing w done) = refl
  does_other (once w done) = ap in_document (if_marked (w.depth == 0) w.file done)
  does_other (deep w target done d) = refl
  does_other (stays w target old done asked found d f e) = ap in_document (arrival_tokens w target asked found old (Stays done) e)
  does_other (enters w target old mid done asked found number path text d f e r) =
      reads_other r (arrival_number w target asked found old (Enters number path text mid) e) ∙ ap in_document (arrival_tokens w target asked found old (Enters number path text mid) e)

  pub reads_other : {w : World} {old new : PpDone} → Reads w old new → 1 ≤ w.file → in_document new.tokens ≡ in_document old.tokens
  reads_other (read w old lexed groups t l g d) o = goes_other d (length w.text) o (lexed_order w.text lexed l)

-- ---- the document

drop_on : {X : Type 0} (a b : ℕ) (xs : List X) → a ≤ b → drop (b - a) (drop a xs) ≡ drop b xs
drop_on zero b xs l = ap (λ (n : ℕ). drop n xs) (omega arith)
drop_on (suc a) zero xs l = absurd (omega arith)
drop_on (suc a) (suc b) [] l = drop-nil (suc b - suc a)
drop_on (suc a) (suc b) (x ∷ xs) l = let e : suc b - suc a ≡ b - a = omega arith in ap (λ (n : ℕ). drop n (drop a xs)) e ∙ drop_on a b xs (omega arith)

joined : (q last : ℕ) (xs ys : List PpToken) (b : Span) → b.file ≡ 0 → InOrder b q xs → ((c : Span) → c.file ≡ 0 → c.to ≤ q → InOrder c last ys) → InOrder b last (xs ++ ys)
joined q last [] ys b f h k = k b f h
joined q last (x ∷ xs) ys b f h k = (h.0, h.1, joined q last xs ys x.at (follows_in 0 b x.at f h.0) h.2 k)

-- they are in order up to a byte, whatever follows them there
abbrev Holds : ℕ → List PpToken → Type 0
Holds p xs = (last : ℕ) (ys : List PpToken) → ((b : Span) → b.file ≡ 0 → b.to ≤ p → InOrder b last ys) → InOrder nowhere last (xs ++ ys)

holds_on : (p q : ℕ) (xs more new : List PpToken) → new ≡ xs ++ more → ((b : Span) → b.file ≡ 0 → b.to ≤ p → InOrder b q more) → Holds p xs → Holds q new
holds_on p q xs more new e m h last ys k =
    subst (λ (zs : List PpToken). InOrder nowhere last (zs ++ ys)) (sym e)
    (subst (InOrder nowhere last) (sym (append_assoc xs more ys)) (h last (more ++ ys) (λ b f l. joined q last more ys b f (m b f l) k)))

holds_end : (p last : ℕ) (xs : List PpToken) → p ≤ last → Holds p xs → InOrder nowhere last xs
holds_end p last xs l k = subst (InOrder nowhere last) (append-nil xs) (k last [] (λ b f m. omega (arith, m, l)))

-- what a line of the document adds
own_line : (w : World) (whole : List Token) (rules_at : Span → Rules) (numbers : List ℕ → Option MacroNo) (old new : PpDone) (p q at : ℕ) → w.file ≡ 0 → (a : Adds w.file whole rules_at numbers old new) → AreInOrder p q whole → at ≤ p
    → Holds at (in_document old.tokens) → Holds q (in_document new.tokens)
own_line w whole rules_at numbers old new p q at z a h m k =
    let lies : (b : Span) → b.file ≡ 0 → b.to ≤ at → InOrder b q a.more = λ b f l. line_order w.file whole rules_at numbers old new a p q h b (f ∙ sym z) (omega (arith, l, m)) in
    let all : AllIn 0 a.more = all_in 0 q nowhere a.more refl (lies nowhere refl (omega arith)) in
    holds_on at q (in_document old.tokens) a.more (in_document new.tokens) (ap in_document a.tokens ∙ both_filtered old.tokens a.more ∙ ap (λ (ts : List PpToken). in_document old.tokens ++ ts) (own_filtered a.more all)) lies k

go_order : {w : World} {tokens : List Token} {marks : List Mark} {s t : State} → Goes w tokens marks s t → w.file ≡ 0 → (last at p : ℕ) → AreInOrder p last (drop at tokens) → MarksLie at (length tokens) marks
    → Holds p (in_document s.done.tokens) → InOrder nowhere last (in_document t.done.tokens)
go_order (end w tokens s) z last at p h m k = holds_end p last (in_document s.done.tokens) (reaches p last (drop at tokens) h) k
go_order (stop w tokens mark marks s e) z last at p h m k = holds_end p last (in_document s.done.tokens) (reaches p last (drop at tokens) h) k
go_order (line w tokens mark marks s held aim mid done t e c d g) z last at p h m k =
    let before = cut p last (drop at tokens) (mark.from - at) h in
    let start : AreInOrder before.seam last (drop mark.from tokens) = subst (AreInOrder before.seam last) (drop_on at mark.from tokens m.0) before.back in
    let here = cut before.seam last (drop mark.from tokens) (mark.to - mark.from) start in
    let after : AreInOrder here.seam last (drop mark.to tokens) = subst (AreInOrder here.seam last) (drop_on mark.from mark.to tokens m.1) here.back in
    let r = reaches p before.seam _ before.front in
    go_order g z last mark.to here.seam after m.2
    (subst (Holds here.seam) (sym (does_other d)) (own_line w (line_of tokens mark) _ _ s.done mid before.seam here.seam p z (line_adds w tokens s mark held aim mid c) here.front r k))

pub document_order : {w : World} {old new : PpDone} → Reads w old new → w.file ≡ 0 → old.tokens ≡ [] → InOrder nowhere (length w.text) (in_document new.tokens)
document_order (read w old lexed groups t l g d) z e =
    go_order d z (length w.text) 0 0 (lexed_order w.text lexed l) (runs_lie lexed.tokens groups.marks (length lexed.tokens) (marks_lie lexed.tokens groups g))
    (λ last ys k. subst (λ (zs : List PpToken). InOrder nowhere last (in_document zs ++ ys)) (sym e) (k nowhere refl (omega arith)))
