-- No list of tokens has two trees of one nonterminal, from one state.
use Rattle.std.proofs.Common.{◌≡◌, ℕ, zero, suc, ◌+◌, List, [], ◌∷◌, inl, inr, arith, refl, sym, ◌∙◌, ap, subst}
use Rattle.std.specs.Prelude.{Option, Some, None}
use Rattle.cl_tree.specs.declared.class.Class.{Class}
use Rattle.cl_tree.specs.declared.nonterminal.Nonterminal.{Nonterminal}
use Rattle.cl_tree.specs.declared.grammar.Symbol.{Symbol}
use Rattle.cl_tree.specs.declared.grammar.Symbol.TheVariants.{Token, Node, Entry}
use Rattle.cl_tree.specs.declared.nonterminal.Nonterminal.TheVariants as nt
use Rattle.cl_tree.specs.declared.grammar.Separator.{Separator}
use Rattle.cl_expr.specs.declared.table.Edge.{Edge}
use Rattle.cl_expr.specs.declared.table.Head.{Head}
use Rattle.cl_expr.specs.declared.table.Label.{Label}
use Rattle.cl_tree.specs.declared.tree.Tree.{Tree}
use Rattle.cl_tree.specs.declared.lexeme.Lexeme.{Lexeme}
use Rattle.cl_tree.specs.declared.scope.Scope.{Scope}
use Rattle.cl_tree.specs.Scopes.{class_at, pass, leave}
use Rattle.cl_expr.proofs.Within.{class_within}
use Rattle.cl_expr.specs.code.Table.{edges, name_of, bars, scoped, turn, home, corner, kinds, openers, suffixes, ends}
use Rattle.cl_tree.specs.Derives.{Has, start, end, parts}
use Rattle.cl_expr.specs.code.Paths.{name, node, Ended, Reads, ReadsAfter, Path, Kind, At, Whole}
use Rattle.cl_expr.specs.code.Parses.{Begins, Enters, Stops, Halts, StopsSymbol, Continues, Spine, here, next}
use Rattle.cl_expr.proofs.Checks.{some_is}
use Rattle.cl_expr.proofs.Conditions.{Way, one_edge, more, on, held, shut, plain_next, cornered, reach, one_opener, opener, one_suffix, goes_suffix, top, entry_stops}
use Rattle.cl_expr.proofs.Heights.{kind_of, kind_flat, path_enters, reads_first, node_is}
use Rattle.cl_expr.proofs.Dangling.{lost_stops}
use Rattle.cl_expr.proofs.Reading.{way_of, ended_here}
use Rattle.cl_expr.proofs.Climb.{corner_of, entered, inner_halts, continued, continues_goes}

-- two trees of a nonterminal from one place and one state are the same, also in kind and in the state after them
abbrev One : List Lexeme → ℕ → Type 0
One cs h = (g : Nonterminal) (sa : Scope) (t u : Tree) (z x : ℕ) (w y : Scope) → At cs h g z sa t w → At cs h g x sa u y → start t ≡ start u → Stops cs w g (end t) → Stops cs y g (end u) → (t ≡ u) × (z ≡ x) × (w ≡ y)

module _ (cs : List Lexeme) (h : ℕ) (one : One cs h) where
  halts_next : (s : ℕ) (c : Head) (y : ℕ) (sv : Scope) (to : ℕ) → corner s ≡ Some c → Has (kinds c.goal) y → Halts cs sv s to → Halts cs sv c.next to
  halts_next s c y sv to is takes halts = λ k token has. (
      let facts = cornered s c is in
      let e = facts.some_edge in
      let place : turn e.0.next y ≡ c.next = ap (λ (v : ℕ). turn v y) e.3 ∙ facts.turn y in
      halts k token (on s e.0 y k e.1 (subst (λ (v : Symbol). Way v y) (sym e.2) takes) (subst (λ (v : ℕ). Has (ends v) k) (sym place) has)))

  at_end : (sx sv : Scope) (at to : ℕ) (k : Class) → at ≡ to → sx ≡ sv → class_at cs sx at ≡ Some k → class_at cs sv to ≡ Some k
  at_end sx sv at to k p o t = subst (λ (i : ℕ). class_at cs sv i ≡ Some k) p (subst (λ (x : Scope). class_at cs x at ≡ Some k) o t)

  -- what a whole path says of its first part
  stops_first : (q : ℕ) (e : Edge) (s : Symbol) → corner q ≡ None → Has (edges q) e → e.symbol ≡ s → (y : ℕ) (sx : Scope) (at to : ℕ) (rest : List Tree) (z : ℕ) (sv : Scope) (n : Label) → Way s y
      → Path (At cs h) h cs (turn e.next y) sx at to rest z sv → Ended (At cs h) cs sv z to n → Halts cs sv q to → StopsSymbol cs sx s at
  stops_first q e (Token c a) plain has is y sx at to rest z sv n w p ended halts = tt
  stops_first q e Entry plain has is y sx at to rest z sv n w p ended halts = tt
  stops_first q e (Node g) plain has is y sx at to [] z sv n w p ended halts = λ k t goes.
      halts k (at_end sx sv at to k p.0 p.2 t)
      (held q e g y k n has is w (subst (λ (v : ℕ). name_of v ≡ Some n) (sym p.1) ended.0)
      (λ b. (ended.1 k (at_end sx sv at to k p.0 p.2 t) (subst (λ (v : ℕ). Has (bars v) k) p.1 b)).0) goes)
  stops_first q e (Node g) plain has is y sx at to (p2 ∷ rest) z sv n w p ended halts = λ k t goes. (
      let f = path_enters cs h (turn e.next y) sx at to p2 rest z sv p in
      let same : f.class ≡ k = some_is (sym f.token ∙ t) in
      shut q e g y k plain has is w (subst (Enters (turn e.next y)) same f.begins) goes)

  one_symbol : (s : Symbol) (y x : ℕ) (sm : Scope) (at : ℕ) (p r : Tree) (sp sr : Scope) → Reads (At cs h) h cs s y sm at p sp → Reads (At cs h) h cs s x sm at r sr
      → StopsSymbol cs sp s (end p) → StopsSymbol cs sr s (end r) → (p ≡ r) × (y ≡ x) × (sp ≡ sr)
  one_symbol (Token c k) y x sm at p r sp sr a b s s' = (a.2 ∙ sym b.2, a.0 ∙ sym b.0, a.4 ∙ sym b.4)
  one_symbol (Node g) y x sm at p r sp sr a b s s' = one g sm p r y x sp sr a.0 b.0 (a.1 ∙ sym b.1) s s'
  one_symbol Entry y x sm at p r sp sr (inl a) (inl b) s s' =
      one nt.BlockItem sm p r y x sp sr a.0 b.0 (a.1 ∙ sym b.1) (λ k token has. entry_stops k has) (λ k token has. entry_stops k has)
  one_symbol Entry y x sm at p r sp sr (inl a) (inr b) s s' = absurd (b.5 p y sp a.0 a.1)
  one_symbol Entry y x sm at p r sp sr (inr a) (inl b) s s' = absurd (a.5 r x sr b.0 b.1)
  one_symbol Entry y x sm at p r sp sr (inr a) (inr b) s s' = (a.2 ∙ sym b.2, a.0 ∙ sym b.0, a.3 ∙ sym b.3)

  one_part : (o : Option Separator) (s : Symbol) (y x : ℕ) (sm : Scope) (at : ℕ) (p r : Tree) (sp sr : Scope) → ReadsAfter (At cs h) h cs o s y sm at p sp → ReadsAfter (At cs h) h cs o s x sm at r sr
      → StopsSymbol cs sp s (end p) → StopsSymbol cs sr s (end r) → (p ≡ r) × (y ≡ x) × (sp ≡ sr)
  one_part None s y x sm at p r sp sr a b e e' = one_symbol s y x sm at p r sp sr a b e e'
  one_part (Some o) s y x sm at p r sp sr a b e e' = one_symbol s y x (pass cs sm o.act at) (at + 1) p r sp sr a.1 b.1 e e'

  -- where one path ends and another goes on
  no_end : (q : ℕ) (sm : Scope) (at to to' : ℕ) (z x : ℕ) (sv sx : Scope) (n m : Label) (r : Tree) (rs : List Tree) → (at ≡ to) × (q ≡ z) × (sm ≡ sv) → Ended (At cs h) cs sv z to n → Halts cs sv q to
      → Path (At cs h) h cs q sm at to' (r ∷ rs) x sx → Ended (At cs h) cs sx x to' m → ⊥
  no_end q sm at to to' z x sv sx n m r rs p ended halts b ended' =
      let f = path_enters cs h q sm at to' r rs x sx b in
      let here = ended_here cs h q sm at to z sv n p ended in
      halts f.class (at_end sm sv at to f.class p.0 p.2 f.token) (more q f.class n f.begins here.0 (λ bar. (
      let lost = here.1 f.class f.token bar in
      lost_stops cs h sm at q to' r rs x sx m (subst (Has (bars q)) lost.0 bar) (refl, lost.1) b ended')))

  one_path : (ps rs : List Tree) (q : ℕ) (sm : Scope) (at to to' : ℕ) (z x : ℕ) (sv sx : Scope) (n m : Label) → corner q ≡ None → Path (At cs h) h cs q sm at to ps z sv → Path (At cs h) h cs q sm at to' rs x sx
      → Ended (At cs h) cs sv z to n → Ended (At cs h) cs sx x to' m → Halts cs sv q to → Halts cs sx q to' → (ps ≡ rs) × (to ≡ to') × (z ≡ x) × (sv ≡ sx)
  one_path [] [] q sm at to to' z x sv sx n m plain a b ea eb ha hb = (refl, sym a.0 ∙ b.0, sym a.1 ∙ b.1, sym a.2 ∙ b.2)
  one_path [] (r ∷ rs) q sm at to to' z x sv sx n m plain a b ea eb ha hb = absurd (no_end q sm at to to' z x sv sx n m r rs a ea ha b eb)
  one_path (p ∷ ps) [] q sm at to to' z x sv sx n m plain a b ea eb ha hb = absurd (no_end q sm at to' to x z sx sv m n p ps b eb hb a ea)
  one_path (p ∷ ps) (r ∷ rs) q sm at to to' z x sv sx n m plain a b ea eb ha hb =
      let f = reads_first cs h a.0.before a.0.symbol a.1 sm at p a.2 a.4 in
      let g = reads_first cs h b.0.before b.0.symbol b.1 sm at r b.2 b.4 in
      let class_is : g.class ≡ f.class = some_is (sym g.token ∙ f.token) in
      let edge_is : b.0 ≡ a.0 = one_edge q b.0 a.0 f.class b.3 (subst (Begins b.0.before b.0.symbol) class_is g.begins) a.3 f.begins in
      let reads : ReadsAfter (At cs h) h cs a.0.before a.0.symbol b.1 sm at r b.2 = subst (λ (d : Edge). ReadsAfter (At cs h) h cs d.before d.symbol b.1 sm at r b.2) edge_is b.4 in
      let path : Path (At cs h) h cs (turn a.0.next b.1) b.2 (end r) to' rs x sx = subst (λ (d : Edge). Path (At cs h) h cs (turn d.next b.1) b.2 (end r) to' rs x sx) edge_is b.5 in
      let wa : Way a.0.symbol a.1 = way_of cs h a.0.before a.0.symbol a.1 sm at p a.2 a.4 in
      let wb : Way a.0.symbol b.1 = way_of cs h a.0.before a.0.symbol b.1 sm at r b.2 reads in
      let same = one_part a.0.before a.0.symbol a.1 b.1 sm at p r a.2 b.2 a.4 reads
      (stops_first q a.0 a.0.symbol plain a.3 refl a.1 a.2 (end p) to ps z sv n wa a.5 ea ha)
      (stops_first q a.0 a.0.symbol plain a.3 refl b.1 b.2 (end r) to' rs x sx m wb path eb hb) in
      let path' : Path (At cs h) h cs (turn a.0.next a.1) a.2 (end p) to' rs x sx
      = subst (λ (v : Scope). Path (At cs h) h cs (turn a.0.next a.1) v (end p) to' rs x sx) (sym same.2)
      (subst (λ (v : Tree). Path (At cs h) h cs (turn a.0.next a.1) b.2 (end v) to' rs x sx) (sym same.0)
      (subst (λ (v : ℕ). Path (At cs h) h cs (turn a.0.next v) b.2 (end r) to' rs x sx) (sym same.1) path)) in
      let rest = one_path ps rs (turn a.0.next a.1) a.2 (end p) to to' z x sv sx n m (plain_next q a.0 a.1 a.3 wa) a.5 path' ea eb
      (λ k token has. ha k token (on q a.0 a.1 k a.3 wa has)) (λ k token has. hb k token (on q a.0 a.1 k a.3 wa has)) in
      ((λ i. same.0 i ∷ rest.0 i), rest.1, rest.2, rest.3)

  same_node : (t u : Tree) → name t ≡ name u → start t ≡ start u → end t ≡ end u → parts t ≡ parts u → t ≡ u
  same_node t u a b c d = sym (node_is t (start t) refl) ∙ (λ i. node (a i) (b i) (c i) (d i)) ∙ node_is u (start u) refl

  one_opened : (g : Nonterminal) (sa : Scope) (t u : Tree) (z x : ℕ) (w y : Scope) → Kind cs (suc h) z sa t w → Kind cs (suc h) x sa u y → Has (openers g) (home z) → Has (openers g) (home x) → start t ≡ start u
      → Halts cs w (home z) (end t) → Halts cs y (home x) (end u) → (t ≡ u) × (z ≡ x) × (w ≡ y)
  one_opened g sa t u z x w y a b oz ox e ht hu =
      let ft = entered cs h sa g (start t) t z w a refl in
      let fu = entered cs h sa g (start t) u x y b (sym e) in
      let class_is : fu.class ≡ ft.class = some_is (sym fu.token ∙ ft.token) in
      let home_is : home x ≡ home z = one_opener g (home x) (home z) ft.class ox (subst (Enters (home x)) class_is fu.begins) oz ft.begins in
      let ka = kind_of cs h z sa t w a in
      let kb = kind_of cs h x sa u y b in
      let pb : Path (At cs h) h cs (home z) sa (start t) (end u) (parts u) x kb.state
      = subst (λ (v : ℕ). Path (At cs h) h cs v sa (start t) (end u) (parts u) x kb.state) home_is (subst (λ (i : ℕ). Path (At cs h) h cs (home x) sa i (end u) (parts u) x kb.state) (sym e) kb.path) in
      let same = one_path (parts t) (parts u) (home z) sa (start t) (end t) (end u) z x ka.state kb.state (name t) (name u) (opener g (home z) oz).1 ka.path pb ka.ended kb.ended
      (inner_halts cs z sa ka.state w (end t) ka.leaves ht) (subst (λ (v : ℕ). Halts cs kb.state v (end u)) home_is (inner_halts cs x sa kb.state y (end u) kb.leaves hu)) in
      let name_is : name t ≡ name u = some_is (sym ka.ended.0 ∙ ap name_of same.2 ∙ kb.ended.0) in
      let state_is : w ≡ y = ka.leaves ∙ (λ i. leave (scoped (same.2 i)) sa (same.3 i)) ∙ sym kb.leaves in
      (same_node t u name_is e same.1 same.0, same.2, state_is)

  one_next : (g : Nonterminal) (sa : Scope) (a : Tree) (y : ℕ) (sb : Scope) (t u : Tree) (z x : ℕ) (w v' : Scope) → Has (suffixes g) (home z) → Has (suffixes g) (home x)
      → Continues cs h sa a y sb t z w → Continues cs h sa a y sb u x v' → Halts cs w (home z) (end t) → Halts cs v' (home x) (end u) → (t ≡ u) × (z ≡ x) × (w ≡ v')
  one_next g sa a y sb t u z x w v' sz sx c d ht hu =
      let f = continued cs h sa a y sb t z w c in
      let home_is : home x ≡ home z = one_suffix g (home x) (home z) y f.class sx (continues_goes cs h sa a y sb u x v' f.class f.token d) sz (continues_goes cs h sa a y sb t z w f.class f.token c) in
      let corner_is : d.cornered ≡ c.cornered = some_is (sym d.is ∙ ap corner home_is ∙ c.is) in
      let path : Path (At cs h) h cs c.cornered.next sb (end a) (end u) d.rest x v' = subst (λ (v : Head). Path (At cs h) h cs v.next sb (end a) (end u) d.rest x v') corner_is d.path in
      let hu' : Halts cs v' c.cornered.next (end u) = halts_next (home z) c.cornered y v' (end u) c.is c.takes.0 (subst (λ (v : ℕ). Halts cs v' v (end u)) home_is hu) in
      let same = one_path c.rest d.rest c.cornered.next sb (end a) (end t) (end u) z x w v' (name t) (name u) (cornered (home z) c.cornered c.is).plain c.path path c.ended d.ended
      (halts_next (home z) c.cornered y w (end t) c.is c.takes.0 ht) hu' in
      let name_is : name t ≡ name u = some_is (sym c.ended.0 ∙ ap name_of same.2 ∙ d.ended.0) in
      (same_node t u name_is (sym c.from ∙ d.from) same.1 (c.parts_are ∙ ap (λ (v : List Tree). a ∷ v) same.0 ∙ sym d.parts_are), same.2, same.3)

  ended_spine : (g : Nonterminal) (sa : Scope) (a : Tree) (y : ℕ) (sb : Scope) (p : Tree) (x : ℕ) (w : Scope) → Has (kinds g) y → Stops cs sb g (end a) → Has (suffixes g) (home x) → Continues cs h sa a y sb p x w → ⊥
  ended_spine g sa a y sb p x w kind stops has c =
      let f = continued cs h sa a y sb p x w c in
      stops f.class f.token (goes_suffix g (home x) y f.class has (continues_goes cs h sa a y sb p x w f.class f.token c) kind)

  one_spine : (g : Nonterminal) (sa : Scope) {a : Tree} {y : ℕ} {sb : Scope} {t : Tree} {z : ℕ} {w : Scope} {u : Tree} {x : ℕ} {v' : Scope} → Spine cs h sa g a y sb t z w → Spine cs h sa g a y sb u x v'
      → Has (kinds g) z → Has (kinds g) x → Stops cs w g (end t) → Stops cs v' g (end u) → (t ≡ u) × (z ≡ x) × (w ≡ v')
  one_spine g sa here here kz kx st su = (refl, refl, refl)
  one_spine g sa {a = a} {y = y} {sb = sb} here (next {p = p} {x = v} {sx = sx} has c s more) kz kx st su = absurd (ended_spine g sa a y sb p v sx kz st has c)
  one_spine g sa {a = a} {y = y} {sb = sb} (next {p = p} {x = v} {sx = sx} has c s more) here kz kx st su = absurd (ended_spine g sa a y sb p v sx kx su has c)
  one_spine g sa {a = a} {y = y} {sb = sb} {u = u} {x = x} {v' = w'} (next {p = p} {x = v} {sx = sx} has c s more) (next {p = p'} {x = v'} {sx = sx'} has' c' s' more') kz kx st su =
      let same = one_next g sa a y sb p p' v v' sx sx' has has' c c' s s' in
      one_spine g sa more (subst (λ (q : Tree). Spine cs h sa g q v sx u x w') (sym same.0) (subst (λ (q : ℕ). Spine cs h sa g p' q sx u x w') (sym same.1)
      (subst (λ (q : Scope). Spine cs h sa g p' v' q u x w') (sym same.2) more'))) kz kx st su

one_tree_of : (cs : List Lexeme) (h : ℕ) → One cs h
one_tree_of cs zero g sa t u z x w y a b e st su = absurd (kind_flat cs z sa t w a.1)
one_tree_of cs (suc h) g sa t u z x w y a b e st su =
    let one = λ (g' : Nonterminal) (sa' : Scope) (t' u' : Tree) (z' x' : ℕ) (w' y' : Scope) (a' : At cs h g' z' sa' t' w') (b' : At cs h g' x' sa' u' y') (e' : start t' ≡ start u') (s : Stops cs w' g' (end t')) (s' : Stops cs y' g' (end u')).
    one_tree_of cs h g' sa' t' u' z' x' w' y' a' b' e' s s' in
    let c = corner_of cs h sa g t z w a.1 (reach g z a.0) (λ k token has. st k token (top g z k a.0 has)) in
    let d = corner_of cs h sa g u x y b.1 (reach g x b.0) (λ k token has. su k token (top g x k b.0 has)) in
    let same = one_opened cs h one g sa c.first d.first c.place d.place c.state d.state c.kind d.kind c.opener d.opener (c.from ∙ e ∙ sym d.from) c.halts d.halts in
    one_spine cs h one g sa c.spine (subst (λ (q : Tree). Spine cs h sa g q c.place c.state u x y) (sym same.0) (subst (λ (q : ℕ). Spine cs h sa g d.first q c.state u x y) (sym same.1)
    (subst (λ (q : Scope). Spine cs h sa g d.first d.place q u x y) (sym same.2) d.spine))) a.0 b.0 st su

pub one_whole : (g : Nonterminal) (cs : List Lexeme) (sa : Scope) (first : ℕ) (t u : Tree) (w x : Scope) → Whole g cs sa first t w → Whole g cs sa first u x → (t ≡ u) × (w ≡ x)
one_whole g cs sa first t u w x d e =
    let same = one_tree_of cs 512 g sa t u d.kind e.kind w x d.at e.at (d.from ∙ sym e.from)
    (λ k token has. (let l = class_within cs w (end t) k token in absurd (omega (arith, d.to, l))))
    (λ k token has. (let l = class_within cs x (end u) k token in absurd (omega (arith, e.to, l)))) in
    (same.0, same.2)
