-- Reading the parts of a production.
use Rattle.std.proofs.Common.{◌≡◌, ℕ, zero, suc, ◌+◌, ◌≤◌, ◌<◌, List, [], ◌∷◌, ◌++◌, ◌⊎◌, inl, inr, arith, refl, sym, ◌∙◌, ap, subst, append_assoc, append-nil, length, max}
use Rattle.std.specs.Prelude.{Option, Some, None}
use Rattle.cl_tree.specs.declared.class.Class.{Class}
use Rattle.cl_tree.specs.declared.class.Class.TheVariants as cl
use Rattle.std.specs.Prelude.{true, false}
use Rattle.std.proofs.lemmas.Bool.{false≢true}
use Rattle.cl_tree.specs.declared.nonterminal.Nonterminal.{Nonterminal}
use Rattle.cl_tree.specs.declared.grammar.Symbol.{Symbol}
use Rattle.cl_tree.specs.declared.grammar.Symbol.TheVariants.{Token, Node, Entry}
use Rattle.cl_tree.specs.declared.nonterminal.Nonterminal.TheVariants as nt
use Rattle.cl_tree.specs.declared.grammar.Separator.{Separator}
use Rattle.cl_expr.specs.declared.table.Edge.{Edge}
use Rattle.cl_expr.specs.declared.table.Label.{Label}
use Rattle.cl_tree.specs.declared.tree.Tree.{Tree, Tree-F, out-Tree, out-roll-Tree}
use Rattle.cl_expr.specs.declared.reader.Found.{Found}
use Rattle.cl_tree.specs.declared.lexeme.Lexeme.{Lexeme}
use Rattle.cl_tree.specs.declared.scope.Scope.{Scope}
use Rattle.cl_tree.specs.Scopes.{class_at, pass, leave}
use Rattle.cl_tree.specs.Grammar.{takes}
use Rattle.cl_tree.specs.declared.grammar.Terminal.{Terminal}
use Rattle.cl_tree.specs.declared.grammar.Act.{Act}
use Rattle.cl_expr.proofs.Within.{class_within}
use Rattle.cl_expr.specs.code.Table.{edges, name_of, bars, scoped, turn, home, corner}
use Rattle.cl_tree.specs.Derives.{Has, start, end, parts, leaf, Opened, bad}
use Rattle.cl_tree.specs.BadItems.{closes_at, bad_end}
use Rattle.cl_expr.specs.code.Paths.{name, node, Ended, Lost, Reads, ReadsAfter, Path, At}
use Rattle.cl_expr.specs.code.Parses.{AllOf, Tall, Begins, Enters, Halts, StopsSymbol, Parses, SoundPart, Part, Half, Builds, Ends, Stuck, Gives}
use Rattle.cl_expr.proofs.Checks.{some_is}
use Rattle.cl_expr.proofs.Conditions.{Way, one_edge, more, on, held, shut, home_next, plain_next, entry_open, firsts_entry, entry_stops}
use Rattle.cl_expr.proofs.Heights.{of_kind, tall_le, all_tall_le, tall_leaf, tall_bad, end_bad, first_class, kind_flat, of_parts, path_enters, reads_first, end_leaf, tall_zero, tall_parts}

none_not : {X : Type 0} {x : X} → None ≡ Some x → ⊥
none_not e = cc

all_front : (P : Tree → Type 0) (ps : List Tree) (t : Tree) → AllOf P (ps ++ t ∷ []) → AllOf P ps
all_front P [] t a = tt
all_front P (p ∷ ps) t a = (a.0, all_front P ps t a.1)

all_append : (P : Tree → Type 0) (ps : List Tree) (t : Tree) → AllOf P ps → P t → AllOf P (ps ++ t ∷ [])
all_append P [] t a b = (b, tt)
all_append P (p ∷ ps) t a b = (a.0, all_append P ps t a.1 b)

all_last : (P : Tree → Type 0) (ps : List Tree) (t : Tree) → AllOf P (ps ++ t ∷ []) → P t
all_last P [] t a = a.0
all_last P (p ∷ ps) t a = all_last P ps t a.1

reads_way : (cs : List Lexeme) (h : ℕ) (x : Symbol) (y : ℕ) (sa : Scope) (at : ℕ) (p : Tree) (sw : Scope) → Reads (At cs h) h cs x y sa at p sw → Way x y
reads_way cs h (Token c a) y sa at p sw r = r.0
reads_way cs h (Node g) y sa at p sw r = r.0.0
reads_way cs h Entry y sa at p sw r = tt

pub way_of : (cs : List Lexeme) (h : ℕ) (b : Option Separator) (x : Symbol) (y : ℕ) (sa : Scope) (at : ℕ) (p : Tree) (sw : Scope) → ReadsAfter (At cs h) h cs b x y sa at p sw → Way x y
way_of cs h None x y sa at p sw r = reads_way cs h x y sa at p sw r
way_of cs h (Some b) x y sa at p sw r = reads_way cs h x y (pass cs sa b.act at) (at + 1) p sw r.1

pub part_leaf : (cs : List Lexeme) (h : ℕ) (sa : Scope) (c : Terminal) (a : Act) (k : Class) (at : ℕ) → class_at cs sa at ≡ Some k → Has (takes c) k → 1 ≤ h
    → Part cs h sa None (Token c a) at (Some (record { tree = leaf at; place = 0; scope = pass cs sa a at; height = 1 }))
part_leaf cs h sa c a k at token has some =
    let inside = class_within cs sa at k token in
    record {
      found = record {
        reads = (refl, some, refl, (k, token, has), refl);
        grows = rw (end_leaf at) (omega arith);
        within = rw (end_leaf at) (omega (arith, inside));
        tall = tall_leaf 1 at (omega arith);
        least = one;
        high = some;
      };
      only = λ p y w r s. (sym r.2, sym r.0, sym r.4);
    }
  where
    one : (k : ℕ) → Tall k (leaf at) → 1 ≤ k
    one zero a = absurd (tall_zero (leaf at) a)
    one (suc k) a = omega arith

pub part_node : (cs : List Lexeme) (h : ℕ) (sa : Scope) (g : Nonterminal) (at : ℕ) (o : Option Found) → Parses cs h sa g at o → Part cs h sa None (Node g) at o
part_node cs h sa g at None p = record { found = tt; only = λ t y w r s. p.only t y w r.0 r.1 s }
part_node cs h sa g at (Some f) p =
    let o = p.found in
    record {
      found = record {
        reads = ((o.1, o.0.kind, subst (λ (i : ℕ). Opened cs g sa i) (sym o.2) o.3), o.2);
        tall = o.0.tall;
        grows = subst (λ (i : ℕ). i < end f.tree) o.2 o.0.grows;
        within = o.0.within;
        least = o.0.least;
        high = o.0.high;
      };
      only = λ t y w r s. p.only t y w r.0 r.1 s;
    }

-- an item of a block, or what is none
module _ (cs : List Lexeme) (h : ℕ) (sa : Scope) (at : ℕ) where
  pub entry_found : (f : Found) → Parses cs h sa nt.BlockItem at (Some f) → Part cs h sa None Entry at (Some f)
  entry_found f p =
      let o = p.found in
      let here : At cs h nt.BlockItem f.place sa f.tree f.scope = (o.1, o.0.kind, subst (λ (i : ℕ). Opened cs nt.BlockItem sa i) (sym o.2) o.3) in
      record {
        found = record {
          reads = inl (here, o.2);
          tall = o.0.tall;
          grows = subst (λ (i : ℕ). i < end f.tree) o.2 o.0.grows;
          within = o.0.within;
          least = o.0.least;
          high = o.0.high;
        };
        only = λ t y w r s. go here o.2 t y w r;
      }
    where
      go : At cs h nt.BlockItem f.place sa f.tree f.scope → start f.tree ≡ at → (t : Tree) (y : ℕ) (w : Scope) → ReadsAfter (At cs h) h cs None Entry y sa at t w → (f.tree ≡ t) × (f.place ≡ y) × (f.scope ≡ w)
      go here from t y w (inl r) = p.only t y w r.0 r.1 (λ k token has. entry_stops k has)
      go here from t y w (inr r) = absurd (r.5 f.tree f.place f.scope here from)

  entry_none : ((t : Tree) (y : ℕ) (w : Scope) → ReadsAfter (At cs h) h cs None Entry y sa at t w → ⊥) → Part cs h sa None Entry at None
  entry_none not = record { found = tt; only = λ t y w r s. not t y w r }

  pub entry_past : class_at cs sa at ≡ None → Part cs h sa None Entry at None
  entry_past past = entry_none go
    where
      go : (t : Tree) (y : ℕ) (w : Scope) → ReadsAfter (At cs h) h cs None Entry y sa at t w → ⊥
      go t y w (inl r) = (let f = first_class cs h nt.BlockItem y sa t w r.0 in none_not (sym past ∙ subst (λ (i : ℕ). class_at cs sa i ≡ Some f.class) r.1 f.token))
      go t y w (inr r) = none_not (sym past ∙ r.4.1)

  pub entry_brace : (k : Class) → class_at cs sa at ≡ Some k → k ≡ cl.RightBrace → Part cs h sa None Entry at None
  entry_brace k token brace = entry_none go
    where
      go : (t : Tree) (y : ℕ) (w : Scope) → ReadsAfter (At cs h) h cs None Entry y sa at t w → ⊥
      go t y w (inl r) = (
          let f = first_class cs h nt.BlockItem y sa t w r.0 in
          let same : k ≡ f.class = some_is (sym token ∙ subst (λ (i : ℕ). class_at cs sa i ≡ Some f.class) r.1 f.token) in
          entry_open f.class (firsts_entry nt.BlockItem f.class f.begins) (sym same ∙ brace))
      go t y w (inr r) = (let same : k ≡ r.4.0 = some_is (sym token ∙ r.4.1) in r.4.2 (sym same ∙ brace))

  module _ (p : Parses cs h sa nt.BlockItem at None) where
    pub entry_closed : closes_at cs at ≡ true → Part cs h sa None Entry at None
    entry_closed closes = entry_none go
      where
        go : (t : Tree) (y : ℕ) (w : Scope) → ReadsAfter (At cs h) h cs None Entry y sa at t w → ⊥
        go t y w (inl r) = p.only t y w r.0 r.1 (λ k token has. entry_stops k has)
        go t y w (inr r) = false≢true (sym r.4.3 ∙ closes)

    pub entry_bad : (k : Class) → class_at cs sa at ≡ Some k → (k ≡ cl.RightBrace → ⊥) → closes_at cs at ≡ false → 1 ≤ h → at < bad_end cs at → bad_end cs at ≤ length cs
        → Part cs h sa None Entry at (Some (record { tree = bad at (bad_end cs at); place = 0; scope = sa; height = 1 }))
    entry_bad k token not closes some grows within = record {
      found = record {
        reads = inr (refl, some, refl, refl, (k, token, not, closes), λ t z v a e. p.only t z v a e (λ k token has. entry_stops k has));
        tall = tall_bad 1 at (bad_end cs at) (omega arith);
        grows = subst (λ (i : ℕ). at < i) (sym (end_bad at (bad_end cs at))) grows;
        within = subst (λ (i : ℕ). i ≤ length cs) (sym (end_bad at (bad_end cs at))) within;
        least = one;
        high = some;
      };
      only = λ t y w r s. go t y w r;
    }
      where
        one : (k : ℕ) → Tall k (bad at (bad_end cs at)) → 1 ≤ k
        one zero a = absurd (tall_zero (bad at (bad_end cs at)) a)
        one (suc k) a = omega arith

        go : (t : Tree) (y : ℕ) (w : Scope) → ReadsAfter (At cs h) h cs None Entry y sa at t w → (bad at (bad_end cs at) ≡ t) × (0 ≡ y) × (sa ≡ w)
        go t y w (inl r) = absurd (p.only t y w r.0 r.1 (λ k token has. entry_stops k has))
        go t y w (inr r) = (sym r.2, sym r.0, sym r.3)

pub entry_flat : (cs : List Lexeme) (sa : Scope) (at : ℕ) → Part cs 0 sa None Entry at None
entry_flat cs sa at = record { found = tt; only = λ t y w r s. go t y w r }
  where
    go : (t : Tree) (y : ℕ) (w : Scope) → ReadsAfter (At cs 0) 0 cs None Entry y sa at t w → ⊥
    go t y w (inl r) = kind_flat cs y sa t w r.0.1
    go t y w (inr r) = (let l : 1 ≤ 0 = r.1 in absurd (omega arith))

-- a part after a separator
pub part_after : (cs : List Lexeme) (h : ℕ) (sa : Scope) (b : Separator) (x : Symbol) (at : ℕ) (o : Option Found) → class_at cs sa at ≡ Some b.class
    → Part cs h (pass cs sa b.act at) None x (at + 1) o → Part cs h sa (Some b) x at o
part_after cs h sa b x at None token p = record { found = tt; only = λ t y w r s. p.only t y w r.1 s }
part_after cs h sa b x at (Some f) token p =
    let o = p.found in
    record {
      found = record { reads = (token, o.reads); tall = o.tall; grows = (let g : at + 1 < end f.tree = o.grows in omega arith); within = o.within; least = o.least; high = o.high };
      only = λ t y w r s. p.only t y w r.1 s;
    }

pub part_apart : (cs : List Lexeme) (h : ℕ) (sa : Scope) (b : Separator) (x : Symbol) (at : ℕ) → (class_at cs sa at ≡ Some b.class → ⊥) → Part cs h sa (Some b) x at None
part_apart cs h sa b x at not = record { found = tt; only = λ t y w r s. absurd (not r.0) }

pub part_apart_leaf : (cs : List Lexeme) (h : ℕ) (sa : Scope) (c : Terminal) (a : Act) (at : ℕ) → ((k : Class) → class_at cs sa at ≡ Some k → Has (takes c) k → ⊥) → Part cs h sa None (Token c a) at None
part_apart_leaf cs h sa c a at not = record { found = tt; only = λ t y w r s. absurd (not r.3.0 r.3.1 r.3.2) }

pub part_flat : (cs : List Lexeme) (sa : Scope) (c : Terminal) (a : Act) (at : ℕ) → Part cs 0 sa None (Token c a) at None
part_flat cs sa c a at = record { found = tt; only = λ t y w r s. (let l : 1 ≤ 0 = r.1 in absurd (omega arith)) }

-- a whole reading goes on from what has been read; sv where its path ends
pub record Left (cs : List Lexeme) (h : ℕ) (sm : Scope) (q : ℕ) (ps : List Tree) (mid to : ℕ) (whole : List Tree) (z : ℕ) (sv : Scope) : Type 0 where
  pub rest : List Tree
  pub joined : whole ≡ ps ++ rest
  pub path : Path (At cs h) h cs q sm mid to rest z sv
  pub halts : Halts cs sv q to

-- what has been read from a place on; sa before the node, s0 at the first place, sm here
pub record Reading (cs : List Lexeme) (h : ℕ) (sa s0 : Scope) (q0 : ℕ) (ps0 : List Tree) (from mid0 : ℕ) (sm : Scope) (q : ℕ) (ps : List Tree) (mid height : ℕ) : Type 0 where
  pub half : Half cs h sa sm q ps from mid height
  pub goes_on : (to : ℕ) (rest : List Tree) (z : ℕ) (sv : Scope) (n : Label) → Path (At cs h) h cs q0 s0 mid0 to rest z sv → Ended (At cs h) cs sv z to n → Halts cs sv q0 to
      → Left cs h sm q ps mid to (ps0 ++ rest) z sv
  pub ahead : (q ≡ q0) ⊎ (mid0 < mid)
  pub after : mid0 ≤ mid
  pub above0 : from ≤ mid0

-- a reading that ends here, as of here
pub ended_here : (cs : List Lexeme) (h : ℕ) (q : ℕ) (sm : Scope) (mid to z : ℕ) (sv : Scope) (n : Label) → (mid ≡ to) × (q ≡ z) × (sm ≡ sv) → Ended (At cs h) cs sv z to n → Ended (At cs h) cs sm q mid n
ended_here cs h q sm mid to z sv n p ended =
    subst (λ (i : ℕ). Ended (At cs h) cs sm q i n) (sym p.0) (subst (λ (v : ℕ). Ended (At cs h) cs sm v to n) (sym p.1) (subst (λ (x : Scope). Ended (At cs h) cs x z to n) (sym p.2) ended))

pub reading_start : (cs : List Lexeme) (h : ℕ) (sa sm : Scope) (q : ℕ) (ps : List Tree) (from mid height : ℕ) → Half cs h sa sm q ps from mid height → Reading cs h sa sm q ps from mid sm q ps mid height
reading_start cs h sa sm q ps from mid height half = record {
  half = half;
  goes_on = λ to rest z sv n p e s. record { rest = rest; joined = refl; path = p; halts = s };
  ahead = inl refl;
  after = omega arith;
  above0 = half.above;
}

module _ (cs : List Lexeme) (h : ℕ) (sa s0 : Scope) (q0 : ℕ) (ps0 : List Tree) (from mid0 : ℕ) (sm : Scope) (q : ℕ) (ps : List Tree) (mid height : ℕ) (r : Reading cs h sa s0 q0 ps0 from mid0 sm q ps mid height) where
  module _ (e : Edge) (k : Class) (has : Has (edges q) e) (token : class_at cs sm mid ≡ Some k) (begins : Begins e.before e.symbol k) (free : Has (bars q) k → Lost (At cs h) cs k sm mid → ⊥) where
    -- the next part of a whole reading
    record Next (to : ℕ) (whole : List Tree) (z : ℕ) (sv : Scope) : Type 0 where
      part : Tree
      kind : ℕ
      state : Scope
      more_parts : List Tree
      joined : whole ≡ ps ++ part ∷ more_parts
      reads : ReadsAfter (At cs h) h cs e.before e.symbol kind sm mid part state
      path : Path (At cs h) h cs (turn e.next kind) state (end part) to more_parts z sv
      halts : Halts cs sv (turn e.next kind) to
      stops : StopsSymbol cs state e.symbol (end part)

    -- the token at the end of a path, in the state there
    at_end : (sx sv : Scope) (at to : ℕ) (k' : Class) → at ≡ to → sx ≡ sv → class_at cs sx at ≡ Some k' → class_at cs sv to ≡ Some k'
    at_end sx sv at to k' p o t = subst (λ (i : ℕ). class_at cs sv i ≡ Some k') p (subst (λ (x : Scope). class_at cs x at ≡ Some k') o t)

    stops_part : (s : Symbol) → e.symbol ≡ s → (y : ℕ) (sx : Scope) (at to : ℕ) (rest : List Tree) (z : ℕ) (sv : Scope) (n : Label) → Way s y
        → Path (At cs h) h cs (turn e.next y) sx at to rest z sv → Ended (At cs h) cs sv z to n → Halts cs sv q to → StopsSymbol cs sx s at
    stops_part (Token c a) is y sx at to rest z sv n w p ended halts = tt
    stops_part Entry is y sx at to rest z sv n w p ended halts = tt
    stops_part (Node g) is y sx at to [] z sv n w p ended halts = λ k' t goes.
        halts k' (at_end sx sv at to k' p.0 p.2 t)
        (held q e g y k' n has is w (subst (λ (v : ℕ). name_of v ≡ Some n) (sym p.1) ended.0)
        (λ b. (ended.1 k' (at_end sx sv at to k' p.0 p.2 t) (subst (λ (v : ℕ). Has (bars v) k') p.1 b)).0) goes)
    stops_part (Node g) is y sx at to (p2 ∷ rest) z sv n w p ended halts = λ k' t goes. (
        let f = path_enters cs h (turn e.next y) sx at to p2 rest z sv p in
        let same : f.class ≡ k' = some_is (sym f.token ∙ t) in
        shut q e g y k' r.half.plain has is w (subst (Enters (turn e.next y)) same f.begins) goes)

    next_of : (to : ℕ) (whole : List Tree) (z : ℕ) (sv : Scope) (n : Label) → Ended (At cs h) cs sv z to n → (rest : List Tree) → whole ≡ ps ++ rest → Path (At cs h) h cs q sm mid to rest z sv → Halts cs sv q to → Next to whole z sv
    next_of to whole z sv n ended [] joined p halts =
        let here = ended_here cs h q sm mid to z sv n p ended in
        absurd (halts k (at_end sm sv mid to k p.0 p.2 token) (more q k n (e, has, begins) here.0 (λ b. free b (here.1 k token b))))
    next_of to whole z sv n ended (t ∷ rest) joined p halts =
        let f = reads_first cs h p.0.before p.0.symbol p.1 sm mid t p.2 p.4 in
        let class_is : f.class ≡ k = some_is (sym f.token ∙ token) in
        let edge_is : p.0 ≡ e = one_edge q p.0 e k p.3 (subst (Begins p.0.before p.0.symbol) class_is f.begins) has begins in
        let reads : ReadsAfter (At cs h) h cs e.before e.symbol p.1 sm mid t p.2 = subst (λ (d : Edge). ReadsAfter (At cs h) h cs d.before d.symbol p.1 sm mid t p.2) edge_is p.4 in
        let path : Path (At cs h) h cs (turn e.next p.1) p.2 (end t) to rest z sv = subst (λ (d : Edge). Path (At cs h) h cs (turn d.next p.1) p.2 (end t) to rest z sv) edge_is p.5 in
        let way : Way e.symbol p.1 = way_of cs h e.before e.symbol p.1 sm mid t p.2 reads in
        record {
          part = t;
          kind = p.1;
          state = p.2;
          more_parts = rest;
          joined = joined;
          reads = reads;
          path = path;
          halts = λ k' at ends. halts k' at (on q e p.1 k' has way ends);
          stops = stops_part e.symbol refl p.1 p.2 (end t) to rest z sv n way path ended halts;
        }

    next : (to : ℕ) (rest : List Tree) (z : ℕ) (sv : Scope) (n : Label) → Path (At cs h) h cs q0 s0 mid0 to rest z sv → Ended (At cs h) cs sv z to n → Halts cs sv q0 to → Next to (ps0 ++ rest) z sv
    next to rest z sv n p ended halts = let l = r.goes_on to rest z sv n p ended halts in next_of to (ps0 ++ rest) z sv n ended l.rest l.joined l.path l.halts

    pub reading_stuck : Part cs h sm e.before e.symbol mid None → Builds cs h sa s0 q0 ps0 from mid0 None
    reading_stuck part = record {
      found = tt;
      only = λ to rest z sv n p ended halts. (let x = next to rest z sv n p ended halts in part.only x.part x.kind x.state x.reads x.stops);
    }

    pub reading_on : (f : Found) → Part cs h sm e.before e.symbol mid (Some f) → (q' : ℕ) → q' ≡ turn e.next f.place → (m : ℕ) → m ≡ max height f.height
        → Reading cs h sa s0 q0 ps0 from mid0 f.scope q' (ps ++ f.tree ∷ []) (end f.tree) m
    reading_on f part q' place m larger =
        let s : SoundPart cs h sm e.before e.symbol mid f = part.found in
        let g : mid < end f.tree = s.grows in
        let i : f.height ≤ h = s.high in
        let i' : height ≤ h = r.half.high in
        let way : Way e.symbol f.place = way_of cs h e.before e.symbol f.place sm mid f.tree f.scope s.reads in
        let home_is : home (turn e.next f.place) ≡ home q = home_next q e f.place has way in
        let home_is' : home q' ≡ home q = ap home place ∙ home_is in
        record {
          half = record {
            joins = λ to rest z sv p. (
                let p' : Path (At cs h) h cs (turn e.next f.place) f.scope (end f.tree) to rest z sv = subst (λ (v : ℕ). Path (At cs h) h cs v f.scope (end f.tree) to rest z sv) place p in
                let j : Path (At cs h) h cs (home q) sa from to (ps ++ f.tree ∷ rest) z sv = r.half.joins to (f.tree ∷ rest) z sv (e, f.place, f.scope, has, s.reads, p') in
                subst (λ (v : ℕ). Path (At cs h) h cs v sa from to ((ps ++ f.tree ∷ []) ++ rest) z sv) (sym home_is')
                (subst (λ (v : List Tree). Path (At cs h) h cs (home q) sa from to v z sv) (sym (append_assoc ps (f.tree ∷ []) rest)) j));
            tall = all_append (Tall m) ps f.tree (all_tall_le height m ps (omega arith) r.half.tall) (tall_le f.height m f.tree (omega arith) s.tall);
            least = λ k' a. (
                let b : height ≤ k' = r.half.least k' (all_front (Tall k') ps f.tree a) in
                let d : f.height ≤ k' = s.least k' (all_last (Tall k') ps f.tree a) in
                omega arith);
            plain = subst (λ (v : ℕ). corner v ≡ None) (sym place) (plain_next q e f.place has way);
            within = s.within;
            above = omega (arith, r.half.above);
            high = omega arith;
          };
          goes_on = λ to rest z sv n p ended halts. (let x = next to rest z sv n p ended halts in
              go to (ps0 ++ rest) z sv x.part x.kind x.state x.more_parts x.joined (part.only x.part x.kind x.state x.reads x.stops) x.path x.halts);
          ahead = inr (omega (arith, r.after));
          after = omega (arith, r.after);
          above0 = r.above0;
        }
      where
        go : (to : ℕ) (whole : List Tree) (z : ℕ) (sv : Scope) (t : Tree) (y : ℕ) (sx : Scope) (rest : List Tree) → whole ≡ ps ++ t ∷ rest → (f.tree ≡ t) × (f.place ≡ y) × (f.scope ≡ sx)
            → Path (At cs h) h cs (turn e.next y) sx (end t) to rest z sv → Halts cs sv (turn e.next y) to → Left cs h f.scope q' (ps ++ f.tree ∷ []) (end f.tree) to whole z sv
        go to whole z sv t y sx rest joined same p halts =
            let place_is : turn e.next y ≡ q' = ap (turn e.next) (sym same.1) ∙ sym place in
            record {
              rest = rest;
              joined = joined ∙ ap (λ (v : Tree). ps ++ v ∷ rest) (sym same.0) ∙ sym (append_assoc ps (f.tree ∷ []) rest);
              path = subst (λ (x : Scope). Path (At cs h) h cs q' x (end f.tree) to rest z sv) (sym same.2)
                  (subst (λ (v : Tree). Path (At cs h) h cs q' sx (end v) to rest z sv) (sym same.0) (subst (λ (v : ℕ). Path (At cs h) h cs v sx (end t) to rest z sv) place_is p));
              halts = subst (λ (v : ℕ). Halts cs sv v to) place_is halts;
            }

-- a node that ends at a place, from there
module _ (cs : List Lexeme) (h : ℕ) (sa sm : Scope) (q : ℕ) (ps : List Tree) (from mid height : ℕ) (half : Half cs h sa sm q ps from mid height) (stuck : Stuck cs h sm q mid) where
  -- nothing more is read
  record Over (to : ℕ) (rest : List Tree) (z : ℕ) (sv : Scope) : Type 0 where
    joined : rest ≡ []
    at : mid ≡ to
    place : q ≡ z
    state : sm ≡ sv

  over : (to : ℕ) (rest : List Tree) (z : ℕ) (sv : Scope) (n : Label) → Path (At cs h) h cs q sm mid to rest z sv → Ended (At cs h) cs sv z to n → Over to rest z sv
  over to [] z sv n path ended = record { joined = refl; at = path.0; place = path.1; state = path.2 }
  over to (t ∷ rest) z sv n path ended = absurd (stuck to t rest z sv n path ended)

  pub node_unnamed : name_of q ≡ None → Ends cs h sa sm q ps from mid None
  node_unnamed none = record {
    found = tt;
    only = λ to rest z sv n path ended halts. (let o = over to rest z sv n path ended in none_not (sym none ∙ ap name_of o.place ∙ ended.0));
  }

  pub node_ended : (n : Label) → from < mid → Ended (At cs h) cs sm q mid n
      → Ends cs h sa sm q ps from mid (Some (record { tree = node n from mid ps; place = q; scope = leave (scoped q) sa sm; height = height + 1 }))
  node_ended n grows ended =
      let low : height ≤ h = half.high in
      let path : Path (At cs h) h cs (home q) sa from mid (ps ++ []) q sm = half.joins mid [] q sm (refl, refl, refl) in
      let path' : Path (At cs h) h cs (home q) sa from mid ps q sm = subst (λ (v : List Tree). Path (At cs h) h cs (home q) sa from mid v q sm) (append-nil ps) path in
      record {
        found = (
          record {
            kind = of_kind cs h q sa (node n from mid ps) (leave (scoped q) sa sm) sm refl whole_ended (whole_path path');
            tall = subst (λ (i : ℕ). Tall i (node n from mid ps)) (omega arith)
                (of_parts height (node n from mid ps) (subst (λ (x : Tree-F Tree). AllOf (Tall height) x.parts) (sym rolled) half.tall));
            grows = subst (λ (x : Tree-F Tree). x.from < x.to) (sym rolled) grows;
            within = subst (λ (x : Tree-F Tree). x.to ≤ length cs) (sym rolled) half.within;
            least = whole_least;
            high = omega arith;
          },
          ap (λ x. x.from) rolled,
          subst (λ (x : Tree-F Tree). mid ≤ x.to) (sym rolled) (omega arith),
          λ none. none_not (sym none ∙ ended.0),
        );
        only = λ to rest z sv n' path ended' halts. (let o = over to rest z sv n' path ended' in
            let name_is : n ≡ n' = some_is (sym ended.0 ∙ ap name_of o.place ∙ ended'.0) in
            let parts_are : ps ≡ ps ++ rest = sym (append-nil ps) ∙ ap (λ (v : List Tree). ps ++ v) (sym o.joined) in
            ((λ i. node (name_is i) from (o.at i) (parts_are i)), o.place, (λ i. leave (scoped (o.place i)) sa (o.state i))));
      }
    where
      rolled : out-Tree (node n from mid ps) ≡ record { rule = n.rule; choice = n.choice; from = from; to = mid; parts = ps }
      rolled = out-roll-Tree (record { rule = n.rule; choice = n.choice; from = from; to = mid; parts = ps })

      whole_ended : Ended (At cs h) cs sm q (end (node n from mid ps)) (name (node n from mid ps))
      whole_ended = subst (λ (x : Tree-F Tree). Ended (At cs h) cs sm q x.to (record { rule = x.rule; choice = x.choice })) (sym rolled) ended

      whole_path : Path (At cs h) h cs (home q) sa from mid ps q sm → Path (At cs h) h cs (home q) sa (start (node n from mid ps)) (end (node n from mid ps)) (parts (node n from mid ps)) q sm
      whole_path p = subst (λ (x : Tree-F Tree). Path (At cs h) h cs (home q) sa x.from x.to x.parts q sm) (sym rolled) p

      whole_least : (k : ℕ) → Tall k (node n from mid ps) → height + 1 ≤ k
      whole_least zero a = absurd (tall_zero (node n from mid ps) a)
      whole_least (suc k) a = let b : height ≤ k = half.least k (subst (λ (x : Tree-F Tree). AllOf (Tall k) x.parts) rolled (tall_parts k (node n from mid ps) a)) in omega arith

-- where no token goes on
pub nothing_stuck : (cs : List Lexeme) (h : ℕ) (sm : Scope) (q mid : ℕ) → ((k : Class) → class_at cs sm mid ≡ Some k → Enters q k → ⊥) → Stuck cs h sm q mid
nothing_stuck cs h sm q mid nothing = λ to t rest z sv n path ended. (let f = path_enters cs h q sm mid to t rest z sv path in nothing f.class f.token f.begins)

-- a token that may not follow, and is no lost `else`
pub barred_none : (cs : List Lexeme) (h : ℕ) (sa sm : Scope) (q : ℕ) (ps : List Tree) (from mid : ℕ) → Stuck cs h sm q mid → (k : Class) → class_at cs sm mid ≡ Some k → Has (bars q) k → (k ≡ cl.Else → ⊥) → Ends cs h sa sm q ps from mid None
barred_none cs h sa sm q ps from mid stuck k token bar not = record { found = tt; only = λ to rest z sv n path ended halts. go to rest z sv n path ended }
  where
    go : (to : ℕ) (rest : List Tree) (z : ℕ) (sv : Scope) (n : Label) → Path (At cs h) h cs q sm mid to rest z sv → Ended (At cs h) cs sv z to n → ⊥
    go to [] z sv n path ended = not ((ended_here cs h q sm mid to z sv n path ended).1 k token bar).0
    go to (t ∷ rest) z sv n path ended = stuck to t rest z sv n path ended

-- what ends a reading ends all that began it
module _ (cs : List Lexeme) (h : ℕ) (sa s0 : Scope) (q0 : ℕ) (ps0 : List Tree) (from mid0 : ℕ) (sm : Scope) (q : ℕ) (ps : List Tree) (mid height : ℕ) (r : Reading cs h sa s0 q0 ps0 from mid0 sm q ps mid height) where
  whole_only : (o : Option Found) → Ends cs h sa sm q ps from mid o → (to : ℕ) (rest : List Tree) (z : ℕ) (sv : Scope) (n : Label) → Path (At cs h) h cs q0 s0 mid0 to rest z sv → Ended (At cs h) cs sv z to n → Halts cs sv q0 to
      → Gives o (node n from to (ps0 ++ rest)) z (leave (scoped z) sa sv)
  whole_only o e to rest z sv n path ended halts =
      let l = r.goes_on to rest z sv n path ended halts in
      subst (λ (v : List Tree). Gives o (node n from to v) z (leave (scoped z) sa sv)) (sym l.joined) (e.only to l.rest z sv n l.path ended l.halts)

  pub reading_some : name_of q0 ≡ None → (l : Label) → name_of q ≡ Some l → from < mid
  reading_some unnamed l named = go r.ahead
    where
      go : (q ≡ q0) ⊎ (mid0 < mid) → from < mid
      go (inl e) = absurd (none_not (sym unnamed ∙ ap name_of (sym e) ∙ named))
      go (inr l) = omega (arith, r.above0)

  pub reading_builds : name_of q0 ≡ None → (o : Option Found) → Ends cs h sa sm q ps from mid o → Builds cs h sa s0 q0 ps0 from mid0 o
  reading_builds unnamed None e = record { found = tt; only = whole_only None e }
  reading_builds unnamed (Some f) e = record { found = (let x = e.found in (x.0, x.1, further x.2 x.3 r.ahead)); only = whole_only (Some f) e }
    where
      further : mid ≤ end f.tree → (name_of q ≡ None → ⊥) → (q ≡ q0) ⊎ (mid0 < mid) → mid0 < end f.tree
      further le named (inl e) = absurd (named (ap name_of e ∙ unnamed))
      further le named (inr l) = omega arith

  pub reading_ends : (name_of q0 ≡ None → ⊥) → (o : Option Found) → Ends cs h sa sm q ps from mid o → Ends cs h sa s0 q0 ps0 from mid0 o
  reading_ends named None e = record { found = tt; only = whole_only None e }
  reading_ends named (Some f) e = record { found = (let x = e.found in let l : mid ≤ end f.tree = x.2 in (x.0, x.1, omega (arith, r.after), named)); only = whole_only (Some f) e }
