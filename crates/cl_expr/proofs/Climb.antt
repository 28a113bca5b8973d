-- The loop over what goes on from a first node, and the parser's answer.
use Rattle.std.proofs.Common.{◌≡◌, ℕ, zero, suc, ◌≤◌, ◌<◌, ◌-◌, List, [], ◌∷◌, inl, inr, arith, refl, sym, ◌∙◌, ap, subst, length, Bool, true, false}
use Rattle.std.specs.Prelude.{Option, Some, None, IfSome, IfOk, Result, Ok, Err}
use Rattle.cl_tree.specs.declared.class.Class.{Class}
use Rattle.cl_tree.specs.declared.nonterminal.Nonterminal.{Nonterminal}
use Rattle.cl_tree.specs.declared.grammar.Symbol.{Symbol}
use Rattle.cl_tree.specs.declared.grammar.Symbol.TheVariants.{Node}
use Rattle.cl_tree.specs.declared.grammar.Separator.{Separator}
use Rattle.cl_expr.specs.declared.table.Head.{Head}
use Rattle.cl_expr.specs.declared.table.Label.{Label}
use Rattle.cl_tree.specs.declared.tree.Tree.{Tree}
use Rattle.cl_expr.specs.declared.reader.Found.{Found}
use Rattle.cl_tree.specs.declared.lexeme.Lexeme.{Lexeme}
use Rattle.cl_tree.specs.declared.scope.Scope.{Scope}
use Rattle.cl_tree.specs.Scopes.{class_at, leave}
use Rattle.cl_expr.proofs.Bars.{all_open}
use Rattle.cl_expr.proofs.Elses.{ended_fit}
use Rattle.cl_expr.proofs.Within.{class_within}
use Rattle.cl_expr.specs.code.Table.{name_of, scoped, flat, turn, home, corner, kinds, openers, suffixes, ends}
use Rattle.cl_tree.specs.Derives.{Has, start, end, parts, Opened}
use Rattle.cl_expr.specs.code.Paths.{name, node, Ended, ReadsAfter, Path, Kind, At, Whole}
use Rattle.cl_expr.specs.code.Parses.{Enters, Stops, Halts, Gives, Sound, Parses, Half, Builds, Opens, GoesOn, Continues, Steps, Spine, here, next, Climbs}
use Rattle.cl_expr.proofs.Checks.{some_is}
use Rattle.cl_expr.proofs.Conditions.{Way, on, no_name, Cornered, cornered, left_halts, top, Reaches, reach, reach_left, one_opener, opener, suffix, Goes, one_suffix, goes_suffix, left_open, cornered_unscoped, scoped_ends, left_flat, flat_kind, flat_edge}
use Rattle.cl_expr.proofs.Heights.{kind_fit, kind_tall, tall_le, all_tall_le, kind_of, kind_flat, path_enters, path_fit, path_tall, First, node_is}

none_not : {X : Type 0} {x : X} → None ≡ Some x → ⊥
none_not e = cc

pub ok_map : {T E : Type 0} (P Q : T → Type 0) (r : Result T E) → ((x : T) → P x → Q x) → IfOk r P → IfOk r Q
ok_map P Q (Ok x) f p = f x p
ok_map P Q (Err e) f p = tt

pub deeper : (P : ℕ → Type 0) (n : ℕ) → 0 < n → P (suc (n - 1)) → P n
deeper P n some x = let e : suc (n - 1) ≡ n = omega arith in subst P e x

-- what may not begin any tree of the nonterminal
pub parses_shunned : (cs : List Lexeme) (h : ℕ) (sa : Scope) (g : Nonterminal) (at : ℕ) → (Opened cs g sa at → ⊥) → Parses cs h sa g at None
parses_shunned cs h sa g at not = record { found = tt; only = λ t z w a e s. absurd (not (subst (λ (i : ℕ). Opened cs g sa i) e a.2)) }

-- what stops a tree stops it at its end too, before the names of a block are gone
pub inner_halts : (cs : List Lexeme) (z : ℕ) (sa sv w : Scope) (to : ℕ) → w ≡ leave (scoped z) sa sv → Halts cs w (home z) to → Halts cs sv (home z) to
inner_halts cs z sa sv w to e halts = go (scoped z) refl e
  where
    go : (b : Bool) → scoped z ≡ b → w ≡ leave b sa sv → Halts cs sv (home z) to
    go true is e' = λ k token has. scoped_ends z k is has
    go false is e' = subst (λ (x : Scope). Halts cs x (home z) to) e' halts

pub nothing_flat : (cs : List Lexeme) (sa : Scope) (g : Nonterminal) (at : ℕ) → Parses cs 0 sa g at None
nothing_flat cs sa g at = record { found = tt; only = λ t z w a e s. absurd (kind_flat cs z sa t w a.1) }

-- the first node of a nonterminal
module _ (cs : List Lexeme) (h : ℕ) (sa : Scope) (g : Nonterminal) (at : ℕ) where
  pub half_start : (s : ℕ) → Has (openers g) s → at ≤ length cs → Half cs h sa sa s [] at at 0
  half_start s has within = (let o = opener g s has in record {
    joins = λ to rest z sv p. subst (λ (v : ℕ). Path (At cs h) h cs v sa at to rest z sv) (sym o.0) p;
    tall = tt;
    least = λ k a. omega arith;
    plain = o.1;
    within = within;
    above = omega arith;
    high = omega arith;
  })

  pub start_unnamed : (s : ℕ) → Has (openers g) s → name_of s ≡ None
  start_unnamed s has = (let o = opener g s has in none_of (name_of s) (λ n e. no_name s n (subst (λ (v : ℕ). name_of v ≡ Some n) (sym o.0) e)))
    where
      none_of : (o : Option Label) → ((n : Label) → o ≡ Some n → ⊥) → o ≡ None
      none_of None f = refl
      none_of (Some n) f = absurd (f n refl)

  -- the token at the start of a node
  pub entered : (t : Tree) (z : ℕ) (w : Scope) → Kind cs (suc h) z sa t w → start t ≡ at → First cs sa at (Enters (home z))
  entered t z w a e = (let k = kind_of cs h z sa t w a in go k.state (parts t) k.ended (subst (λ (i : ℕ). Path (At cs h) h cs (home z) sa i (end t) (parts t) z k.state) e k.path))
    where
      go : (v : Scope) (ps : List Tree) → Ended (At cs h) cs v z (end t) (name t) → Path (At cs h) h cs (home z) sa at (end t) ps z v → First cs sa at (Enters (home z))
      go v [] n p = absurd (no_name z (name t) (subst (λ (q : ℕ). name_of q ≡ Some (name t)) (sym p.1) n.0))
      go v (p ∷ ps) n path = path_enters cs h (home z) sa at (end t) p ps z v path

  pub opens_none : (k : Class) → class_at cs sa at ≡ Some k → ((s : ℕ) → Has (openers g) s → Enters s k → ⊥) → Opens cs h sa g at None
  opens_none k token not = record {
    found = tt;
    only = λ t z w a has e halts. (let f = entered t z w a e in let same : f.class ≡ k = some_is (sym f.token ∙ token) in
        not (home z) has (subst (Enters (home z)) same f.begins));
  }

  pub opens_past : class_at cs sa at ≡ None → Opens cs h sa g at None
  opens_past past = record {
    found = tt;
    only = λ t z w a has e halts. (let f = entered t z w a e in none_not (sym past ∙ f.token));
  }

  pub opens_by : (k : Class) (s : ℕ) → class_at cs sa at ≡ Some k → Has (openers g) s → Enters s k → (r : Option Found) → Builds cs h sa sa s [] at at r → Opens cs h sa g at r
  opens_by k s token has enters r b = record {
    found = found r b;
    only = λ t z w a h' e halts. (
        let f = entered t z w a e in
        let same : f.class ≡ k = some_is (sym f.token ∙ token) in
        let place : home z ≡ s = one_opener g (home z) s k h' (subst (Enters (home z)) same f.begins) has enters in
        let kind = kind_of cs h z sa t w a in
        let path : Path (At cs h) h cs s sa at (end t) (parts t) z kind.state
        = subst (λ (v : ℕ). Path (At cs h) h cs v sa at (end t) (parts t) z kind.state) place (subst (λ (i : ℕ). Path (At cs h) h cs (home z) sa i (end t) (parts t) z kind.state) e kind.path) in
        let inner : Halts cs kind.state s (end t) = subst (λ (v : ℕ). Halts cs kind.state v (end t)) place (inner_halts cs z sa kind.state w (end t) kind.leaves halts) in
        let gives : Gives r (node (name t) at (end t) (parts t)) z (leave (scoped z) sa kind.state) = b.only (end t) (parts t) z kind.state (name t) path kind.ended inner in
        subst (λ (v : Tree). Gives r v z w) (node_is t at e) (subst (λ (v : Scope). Gives r (node (name t) at (end t) (parts t)) z v) (sym kind.leaves) gives));
  }
    where
      found : (r : Option Found) → Builds cs h sa sa s [] at at r → IfSome r (λ f. Sound cs (suc h) sa f × (start f.tree ≡ at))
      found None b = tt
      found (Some f) b = (let x = b.found in (x.0, x.1))

-- the node where a tree begins
pub record Corner (cs : List Lexeme) (h : ℕ) (sa : Scope) (g : Nonterminal) (t : Tree) (z : ℕ) (w : Scope) : Type 0 where
  pub first : Tree
  pub place : ℕ
  pub state : Scope
  pub kind : Kind cs (suc h) place sa first state
  pub opener : Has (openers g) (home place)
  pub from : start first ≡ start t
  pub halts : Halts cs state (home place) (end first)
  pub spine : Spine cs h sa g first place state t z w

-- before a node of a production that holds no block, none is held either
flat_head : (cs : List Lexeme) (h : ℕ) (sa : Scope) (g : Nonterminal) {a : Tree} {y : ℕ} {sb : Scope} {t : Tree} {z : ℕ} {w : Scope} → Spine cs h sa g a y sb t z w → flat (home z) ≡ true → flat (home y) ≡ true
flat_head cs h sa g here is = is
flat_head cs h sa g (next {y = y} {x = x} has c s more) is = flat_kind c.cornered.goal y (left_flat (home x) c.cornered c.is) c.takes.0

flat_next : (s : ℕ) (c : Head) → corner s ≡ Some c → flat s ≡ true → flat c.next ≡ true
flat_next s c is f =
    let facts = cornered s c is in
    let e = facts.some_edge in
    let place : turn e.0.next 0 ≡ c.next = ap (λ (v : ℕ). turn v 0) e.3 ∙ facts.turn 0 in
    subst (λ (v : ℕ). flat v ≡ true) place (flat_edge s e.0 0 f e.1).1

continues_le : (cs : List Lexeme) (h k : ℕ) (sa : Scope) (a : Tree) (y : ℕ) (sb : Scope) (t : Tree) (z : ℕ) (w : Scope) → h ≤ k → flat (home z) ≡ true → Continues cs h sa a y sb t z w → Continues cs k sa a y sb t z w
continues_le cs h k sa a y sb t z w le is c = record {
  cornered = c.cornered;
  is = c.is;
  takes = (c.takes.0, kind_fit cs h k y sa a sb (flat_kind c.cornered.goal y (left_flat (home z) c.cornered c.is) c.takes.0) (tall_le h k a le (kind_tall cs h y sa a sb c.takes.1)) c.takes.1, c.takes.2);
  from = c.from;
  rest = c.rest;
  parts_are = c.parts_are;
  path = path_fit cs h k c.rest c.cornered.next sb (end a) (end t) z w (flat_next (home z) c.cornered c.is is)
      (all_tall_le h k c.rest le (path_tall cs h c.rest c.cornered.next sb (end a) (end t) z w c.path)) c.path;
  ended = ended_fit cs h k w z (end t) (name t) is c.ended;
}

spine_le : (cs : List Lexeme) (h k : ℕ) (sa : Scope) (g : Nonterminal) {a : Tree} {y : ℕ} {sb : Scope} {t : Tree} {z : ℕ} {w : Scope} → h ≤ k → flat (home z) ≡ true → Spine cs h sa g a y sb t z w → Spine cs k sa g a y sb t z w
spine_le cs h k sa g le is here = here
spine_le cs h k sa g le is (next has c s more) = next has (continues_le cs h k sa _ _ _ _ _ _ le (flat_head cs h sa g more is) c) s (spine_le cs h k sa g le is more)

spine_up : (cs : List Lexeme) (h : ℕ) (sa : Scope) (g : Nonterminal) {a : Tree} {y : ℕ} {sb : Scope} {p : Tree} {x : ℕ} {sx : Scope} {t : Tree} {z : ℕ} {w : Scope} → Spine cs h sa g a y sb p x sx
    → Has (suffixes g) (home z) → Continues cs h sa p x sx t z w → Halts cs w (home z) (end t) → Spine cs h sa g a y sb t z w
spine_up cs h sa g here has c s = next has c s here
spine_up cs h sa g (next has' c' s' more) has c s = next has' c' s' (spine_up cs h sa g more has c s)

-- the token after the left part of a node
pub continued : (cs : List Lexeme) (h : ℕ) (sa : Scope) (a : Tree) (y : ℕ) (sb : Scope) (t : Tree) (z : ℕ) (w : Scope) (c : Continues cs h sa a y sb t z w) → First cs sb (end a) (Enters c.cornered.next)
continued cs h sa a y sb t z w c = go c.rest c.path
  where
    go : (rest : List Tree) → Path (At cs h) h cs c.cornered.next sb (end a) (end t) rest z w → First cs sb (end a) (Enters c.cornered.next)
    go [] p =
        let u : name_of c.cornered.next ≡ None = (cornered (home z) c.cornered c.is).unnamed in
        absurd (none_not (sym u ∙ ap name_of p.1 ∙ c.ended.0))
    go (p ∷ ps) path = path_enters cs h c.cornered.next sb (end a) (end t) p ps z w path

-- a node of a production with a left part
record Headed (cs : List Lexeme) (h : ℕ) (sa : Scope) (t : Tree) (z : ℕ) (w : Scope) : Type 0 where
  left : Tree
  place : ℕ
  state : Scope
  continues : Continues cs h sa left place state t z w

headed : (cs : List Lexeme) (h : ℕ) (sa : Scope) (t : Tree) (z : ℕ) (w : Scope) (c : Head) → corner (home z) ≡ Some c → Kind cs (suc h) z sa t w → Headed cs h sa t z w
headed cs h sa t z w c is a =
    let k = kind_of cs h z sa t w a in
    let state_is : k.state ≡ w = sym (k.leaves ∙ ap (λ (b : Bool). leave b sa k.state) (cornered_unscoped z c is)) in
    go (parts t) refl (subst (λ (v : Scope). Ended (At cs h) cs v z (end t) (name t)) state_is k.ended) (subst (λ (v : Scope). Path (At cs h) h cs (home z) sa (start t) (end t) (parts t) z v) state_is k.path)
  where
    go : (ps : List Tree) → parts t ≡ ps → Ended (At cs h) cs w z (end t) (name t) → Path (At cs h) h cs (home z) sa (start t) (end t) ps z w → Headed cs h sa t z w
    go [] same ended p = absurd (no_name z (name t) (subst (λ (q : ℕ). name_of q ≡ Some (name t)) (sym p.1) ended.0))
    go (p ∷ ps) same ended path =
        let facts = cornered (home z) c is in
        let edge = facts.edge path.0 path.3 in
        let reads : ReadsAfter (At cs h) h cs None (Node c.goal) path.1 sa (start t) p path.2
        = subst (λ (b : Option Separator). ReadsAfter (At cs h) h cs b (Node c.goal) path.1 sa (start t) p path.2) edge.2
        (subst (λ (s : Symbol). ReadsAfter (At cs h) h cs path.0.before s path.1 sa (start t) p path.2) edge.0 path.4) in
        let place : turn path.0.next path.1 ≡ c.next = ap (λ (v : ℕ). turn v path.1) edge.1 ∙ facts.turn path.1 in
        record {
          left = p;
          place = path.1;
          state = path.2;
          continues = record {
            cornered = c;
            is = is;
            takes = reads.0;
            from = reads.1;
            rest = ps;
            parts_are = same;
            path = subst (λ (v : ℕ). Path (At cs h) h cs v path.2 (end p) (end t) ps z w) place path.5;
            ended = ended;
          };
        }

left_halts_at : (cs : List Lexeme) (h : ℕ) (sa : Scope) (a : Tree) (y : ℕ) (sb : Scope) (t : Tree) (z : ℕ) (w : Scope) → Continues cs h sa a y sb t z w → Halts cs sb (home y) (end a)
left_halts_at cs h sa a y sb t z w c = λ k token ends. (
    let f = continued cs h sa a y sb t z w c in
    let same : f.class ≡ k = some_is (sym f.token ∙ token) in
    left_halts (home z) c.cornered y k c.is c.takes.0 (subst (Enters c.cornered.next) same f.begins) ends)

pub corner_of : (cs : List Lexeme) (h : ℕ) (sa : Scope) (g : Nonterminal) (t : Tree) (z : ℕ) (w : Scope) → Kind cs (suc h) z sa t w → Reaches g (home z) → Halts cs w (home z) (end t) → Corner cs h sa g t z w
corner_of cs h sa g t z w a (inl o) s = record { first = t; place = z; state = w; kind = a; opener = o; from = refl; halts = s; spine = here }
corner_of cs zero sa g t z w a (inr x) s =
    let c = (suffix g (home z) x).1 in
    let d = headed cs zero sa t z w c.0 c.1 a in
    absurd (kind_flat cs d.place sa d.left d.state d.continues.takes.1)
corner_of cs (suc h) sa g t z w a (inr x) s =
    let c = (suffix g (home z) x).1 in
    let d = headed cs (suc h) sa t z w c.0 c.1 a in
    let n = d.continues in
    let below : Corner cs h sa g d.left d.place d.state = corner_of cs h sa g d.left d.place d.state n.takes.1
    (reach_left g (home z) n.cornered d.place x n.is n.takes.0) (left_halts_at cs (suc h) sa d.left d.place d.state t z w n) in
    let is : flat (home d.place) ≡ true = flat_kind n.cornered.goal d.place (left_flat (home z) n.cornered n.is) n.takes.0 in
    record {
      first = below.first;
      place = below.place;
      state = below.state;
      kind = kind_fit cs (suc h) (suc (suc h)) below.place sa below.first below.state (flat_head cs h sa g below.spine is)
          (tall_le (suc h) (suc (suc h)) below.first (omega arith) (kind_tall cs (suc h) below.place sa below.first below.state below.kind)) below.kind;
      opener = below.opener;
      from = below.from ∙ n.from;
      halts = below.halts;
      spine = spine_up cs (suc h) sa g (spine_le cs h (suc h) sa g (omega arith) is below.spine) x n s;
    }

-- so far the tree is sound, and each whole tree goes on from it
pub record Climbing (cs : List Lexeme) (h : ℕ) (sa : Scope) (g : Nonterminal) (first left : Found) : Type 0 where
  pub sound : Sound cs (suc h) sa left
  pub from : start left.tree ≡ start first.tree
  pub goes_on : (t : Tree) (z : ℕ) (w : Scope) → Spine cs h sa g first.tree first.place first.scope t z w → Has (kinds g) z → Stops cs w g (end t) → Spine cs h sa g left.tree left.place left.scope t z w

pub climbs_start : (cs : List Lexeme) (h : ℕ) (sa : Scope) (g : Nonterminal) (first : Found) → Sound cs (suc h) sa first → Climbing cs h sa g first first
climbs_start cs h sa g first s = record { sound = s; from = refl; goes_on = λ t z w x k v. x }

to_goes : (cs : List Lexeme) (sb : Scope) (s : ℕ) (y : ℕ) (at : ℕ) (k : Class) → class_at cs sb at ≡ Some k → GoesOn cs sb s y at → Goes y k s
to_goes cs sb s y at k token n =
    let same : n.class ≡ k = some_is (sym n.token ∙ token) in
    record { head = n.cornered; is = n.is; takes = n.takes; enters = subst (Enters n.cornered.next) same n.enters }

pub continues_goes : (cs : List Lexeme) (h : ℕ) (sa : Scope) (a : Tree) (y : ℕ) (sb : Scope) (t : Tree) (z : ℕ) (w : Scope) (k : Class) → class_at cs sb (end a) ≡ Some k → Continues cs h sa a y sb t z w → Goes y k (home z)
continues_goes cs h sa a y sb t z w k token c =
    let f = continued cs h sa a y sb t z w c in
    let same : f.class ≡ k = some_is (sym f.token ∙ token) in
    record { head = c.cornered; is = c.is; takes = c.takes.0; enters = subst (Enters c.cornered.next) same f.begins }

continues_on : (cs : List Lexeme) (h : ℕ) (sa : Scope) (a : Tree) (y : ℕ) (sb : Scope) (t : Tree) (z : ℕ) (w : Scope) → Continues cs h sa a y sb t z w → GoesOn cs sb (home z) y (end a)
continues_on cs h sa a y sb t z w c =
    let f = continued cs h sa a y sb t z w c in
    record { cornered = c.cornered; is = c.is; takes = c.takes.0; class = f.class; token = f.token; enters = f.begins }

module _ (cs : List Lexeme) (h : ℕ) (sa : Scope) (g : Nonterminal) (first left : Found) (c : Climbing cs h sa g first left) where
  -- left, by its three faces
  abbrev Same : Tree → ℕ → Scope → Type 0
  Same a y sb = (left.tree ≡ a) × (left.place ≡ y) × (left.scope ≡ sb)

  moved : (a : Tree) (y : ℕ) (sb : Scope) (p : Tree) (x : ℕ) (sx : Scope) → Same a y sb → Continues cs h sa a y sb p x sx → Continues cs h sa left.tree left.place left.scope p x sx
  moved a y sb p x sx e n = subst (λ (v : Tree). Continues cs h sa v left.place left.scope p x sx) (sym e.0)
      (subst (λ (v : ℕ). Continues cs h sa a v left.scope p x sx) (sym e.1) (subst (λ (v : Scope). Continues cs h sa a y v p x sx) (sym e.2) n))

  module _ (s : ℕ) (has : Has (suffixes g) s) (on : GoesOn cs left.scope s left.place (end left.tree)) where
    -- the next node of a whole tree
    record Up (t : Tree) (z : ℕ) (w : Scope) : Type 0 where
      tree : Tree
      place : ℕ
      state : Scope
      continues : Continues cs h sa left.tree left.place left.scope tree place state
      home_is : home place ≡ s
      halts : Halts cs state (home place) (end tree)
      spine : Spine cs h sa g tree place state t z w

    up_of : {a : Tree} {y : ℕ} {sb : Scope} (t : Tree) (z : ℕ) (w : Scope) → Spine cs h sa g a y sb t z w → Same a y sb → Has (kinds g) z → Stops cs w g (end t) → Up t z w
    up_of {a = a} {y = y} {sb = sb} t z w here e kind stops =
        absurd (stops on.class (subst (λ (v : Tree). class_at cs w (end v) ≡ Some on.class) e.0 (subst (λ (v : Scope). class_at cs v (end left.tree) ≡ Some on.class) e.2 on.token))
        (goes_suffix g s y on.class has (subst (λ (v : ℕ). Goes v on.class s) e.1 (to_goes cs left.scope s left.place (end left.tree) on.class on.token on)) kind))
    up_of {a = a} {y = y} {sb = sb} t z w (next {p = p} {x = x} {sx = sx} has' n halts more) e kind stops =
        let n' : Continues cs h sa left.tree left.place left.scope p x sx = moved a y sb p x sx e n in
        record {
          tree = p;
          place = x;
          state = sx;
          continues = n';
          halts = halts;
          spine = more;
          home_is = one_suffix g (home x) s left.place on.class has' (continues_goes cs h sa left.tree left.place left.scope p x sx on.class on.token n') has
              (to_goes cs left.scope s left.place (end left.tree) on.class on.token on);
        }

    up : (t : Tree) (z : ℕ) (w : Scope) → Spine cs h sa g first.tree first.place first.scope t z w → Has (kinds g) z → Stops cs w g (end t) → Up t z w
    up t z w x kind stops = up_of t z w (c.goes_on t z w x kind stops) (refl, refl, refl) kind stops

    pub climbs_stuck : Steps cs h sa s left None → Climbs cs h sa g first None
    climbs_stuck st = record {
      found = tt;
      only = λ t z w x kind stops. (let u = up t z w x kind stops in st.only u.tree u.place u.state u.continues u.home_is (subst (λ (v : ℕ). Halts cs u.state v (end u.tree)) u.home_is u.halts));
    }

    pub climbs_on : (new : Found) → Steps cs h sa s left (Some new) → Climbing cs h sa g first new
    climbs_on new st = record {
      sound = st.found.0;
      from = st.found.1 ∙ c.from;
      goes_on = λ t z w x kind stops. (
          let u = up t z w x kind stops in
          let same = st.only u.tree u.place u.state u.continues u.home_is (subst (λ (v : ℕ). Halts cs u.state v (end u.tree)) u.home_is u.halts) in
          subst (λ (v : Tree). Spine cs h sa g v new.place new.scope t z w) (sym same.0)
          (subst (λ (v : ℕ). Spine cs h sa g u.tree v new.scope t z w) (sym same.1) (subst (λ (v : Scope). Spine cs h sa g u.tree u.place v t z w) (sym same.2) u.spine)));
    }

  pub climbs_end : ((s : ℕ) → Has (suffixes g) s → GoesOn cs left.scope s left.place (end left.tree) → ⊥) → Climbs cs h sa g first (Some left)
  climbs_end nothing = record {
    found = (c.sound, c.from);
    only = λ t z w x kind stops. over t z w (c.goes_on t z w x kind stops) (refl, refl, refl);
  }
    where
      over : {a : Tree} {y : ℕ} {sb : Scope} (t : Tree) (z : ℕ) (w : Scope) → Spine cs h sa g a y sb t z w → Same a y sb → Same t z w
      over {a = a} {y = y} {sb = sb} t z w here e = e
      over {a = a} {y = y} {sb = sb} t z w (next {p = p} {x = x} {sx = sx} has' n halts more) e =
          absurd (nothing (home x) has' (continues_on cs h sa left.tree left.place left.scope p x sx (moved a y sb p x sx e n)))

-- one step: a production that begins with left
module _ (cs : List Lexeme) (h : ℕ) (sa : Scope) (s : ℕ) (left : Found) (sound : Sound cs (suc h) sa left) where
  pub steps_none : corner s ≡ None → Steps cs h sa s left None
  steps_none none = record { found = tt; only = λ t z w n is halts. none_not (sym none ∙ ap corner (sym is) ∙ n.is) }

  pub steps_high : h < left.height → Steps cs h sa s left None
  steps_high high = record {
    found = tt;
    only = λ t z w n is halts. (let l : left.height ≤ h = sound.least h (kind_tall cs h left.place sa left.tree left.scope n.takes.1) in omega arith);
  }

  module _ (c : Head) (is : corner s ≡ Some c) (home_is : home s ≡ s) (takes : Has (kinds c.goal) left.place) where
    facts : Cornered s c
    facts = cornered s c is

    pub half_step : left.height ≤ h → Half cs h sa left.scope c.next (left.tree ∷ []) (start left.tree) (end left.tree) left.height
    half_step low = record {
      joins = λ to rest z sv p. (
          let e = facts.some_edge in
          let fits : Kind cs h left.place sa left.tree left.scope
          = kind_fit cs (suc h) h left.place sa left.tree left.scope (flat_kind c.goal left.place (left_flat s c is) takes) (tall_le left.height h left.tree low sound.tall) sound.kind in
          let reads : ReadsAfter (At cs h) h cs None (Node c.goal) left.place sa (start left.tree) left.tree left.scope
          = ((takes, fits, all_open cs c.goal sa (start left.tree) (left_open s c is)), refl) in
          let place : turn e.0.next left.place ≡ c.next = ap (λ (v : ℕ). turn v left.place) e.3 ∙ facts.turn left.place in
          let reads' : ReadsAfter (At cs h) h cs e.0.before e.0.symbol left.place sa (start left.tree) left.tree left.scope
          = subst (λ (b : Option Separator). ReadsAfter (At cs h) h cs b e.0.symbol left.place sa (start left.tree) left.tree left.scope) (sym e.4)
          (subst (λ (v : Symbol). ReadsAfter (At cs h) h cs None v left.place sa (start left.tree) left.tree left.scope) (sym e.2) reads) in
          let path : Path (At cs h) h cs s sa (start left.tree) to (left.tree ∷ rest) z sv
          = (e.0, left.place, left.scope, e.1, reads', subst (λ (v : ℕ). Path (At cs h) h cs v left.scope (end left.tree) to rest z sv) (sym place) p) in
          subst (λ (v : ℕ). Path (At cs h) h cs v sa (start left.tree) to (left.tree ∷ rest) z sv) (sym (facts.home ∙ home_is)) path);
      tall = (sound.tall, tt);
      least = λ k a. sound.least k a.0;
      plain = facts.plain;
      within = sound.within;
      above = omega (arith, sound.grows);
      high = low;
    }

    pub step_unnamed : name_of c.next ≡ None
    step_unnamed = facts.unnamed

    pub steps_by : (r : Option Found) → Builds cs h sa left.scope c.next (left.tree ∷ []) (start left.tree) (end left.tree) r → Steps cs h sa s left r
    steps_by r b = record {
      found = found r b;
      only = λ t z w n home_of halts. (
          let same : n.cornered ≡ c = some_is (sym n.is ∙ ap corner home_of ∙ is) in
          let path : Path (At cs h) h cs c.next left.scope (end left.tree) (end t) n.rest z w = subst (λ (v : Head). Path (At cs h) h cs v.next left.scope (end left.tree) (end t) n.rest z w) same n.path in
          let inner : Halts cs w s (end t) = halts in
          let halts' : Halts cs w c.next (end t) = λ k token has. inner k token (next_ends k has) in
          let given : Gives r (node (name t) (start left.tree) (end t) (left.tree ∷ n.rest)) z (leave (scoped z) sa w) = b.only (end t) n.rest z w (name t) path n.ended halts' in
          let gives : Gives r (node (name t) (start left.tree) (end t) (left.tree ∷ n.rest)) z w
          = subst (λ (b : Bool). Gives r (node (name t) (start left.tree) (end t) (left.tree ∷ n.rest)) z (leave b sa w)) (cornered_unscoped z n.cornered n.is) given in
          let whole : node (name t) (start left.tree) (end t) (left.tree ∷ n.rest) ≡ t
          = ap (λ (v : List Tree). node (name t) (start left.tree) (end t) v) (sym n.parts_are) ∙ node_is t (start left.tree) (sym n.from) in
          subst (λ (v : Tree). Gives r v z w) whole gives);
    }
      where
        found : (r : Option Found) → Builds cs h sa left.scope c.next (left.tree ∷ []) (start left.tree) (end left.tree) r
            → IfSome r (λ f. Sound cs (suc h) sa f × (start f.tree ≡ start left.tree) × (end left.tree < end f.tree))
        found None b = tt
        found (Some f) b = b.found

        next_ends : (k : Class) → Has (ends c.next) k → Has (ends s) k
        next_ends k has =
            let e = facts.some_edge in
            let place : turn e.0.next left.place ≡ c.next = ap (λ (v : ℕ). turn v left.place) e.3 ∙ facts.turn left.place in
            on s e.0 left.place k e.1 (subst (λ (v : Symbol). Way v left.place) (sym e.2) takes) (subst (λ (v : ℕ). Has (ends v) k) (sym place) has)

-- the parser's answer
module _ (cs : List Lexeme) (h : ℕ) (sa : Scope) (g : Nonterminal) (at : ℕ) where
  halts_top : (t : Tree) (z : ℕ) (w : Scope) → Has (kinds g) z → Stops cs w g (end t) → Halts cs w (home z) (end t)
  halts_top t z w kind stops = λ k token has. stops k token (top g z k kind has)

  pub nothing_opens : Opens cs h sa g at None → Parses cs (suc h) sa g at None
  nothing_opens o = record {
    found = tt;
    only = λ t z w a e stops. (
        let c = corner_of cs h sa g t z w a.1 (reach g z a.0) (halts_top t z w a.0 stops) in
        o.only c.first c.place c.state c.kind c.opener (c.from ∙ e) c.halts);
  }

  module _ (first : Found) (o : Opens cs h sa g at (Some first)) where
    climbed : (r : Option Found) → Climbs cs h sa g first r → (t : Tree) (z : ℕ) (w : Scope) → At cs (suc h) g z sa t w → start t ≡ at → Stops cs w g (end t) → Gives r t z w
    climbed r x t z w a e stops =
        let c = corner_of cs h sa g t z w a.1 (reach g z a.0) (halts_top t z w a.0 stops) in
        let same = o.only c.first c.place c.state c.kind c.opener (c.from ∙ e) c.halts in
        x.only t z w (subst (λ (v : Tree). Spine cs h sa g v first.place first.scope t z w) (sym same.0)
        (subst (λ (v : ℕ). Spine cs h sa g c.first v first.scope t z w) (sym same.1) (subst (λ (v : Scope). Spine cs h sa g c.first c.place v t z w) (sym same.2) c.spine))) a.0 stops

    pub parses_none : Climbs cs h sa g first None → Parses cs (suc h) sa g at None
    parses_none x = record { found = tt; only = λ t z w a e stops. climbed None x t z w a e stops }

    pub parses_other : (f : Found) → Climbs cs h sa g first (Some f) → (Has (kinds g) f.place → ⊥) → Parses cs (suc h) sa g at None
    parses_other f x not = record {
      found = tt;
      only = λ t z w a e stops. (let same = climbed (Some f) x t z w a e stops in not (subst (Has (kinds g)) (sym same.1) a.0));
    }

    pub parses_some : (f : Found) → Climbs cs h sa g first (Some f) → Has (kinds g) f.place → Opened cs g sa at → Parses cs (suc h) sa g at (Some f)
    parses_some f x kind begun = record {
      found = (let y = x.found in (y.0, kind, y.1 ∙ o.found.1, begun));
      only = λ t z w a e stops. climbed (Some f) x t z w a e stops;
    }

-- the whole answer
pub whole_found : (cs : List Lexeme) (sa : Scope) (g : Nonterminal) (first : ℕ) (f : Found) → Parses cs 512 sa g first (Some f) → end f.tree ≡ length cs → Whole g cs sa first f.tree f.scope
whole_found cs sa g first f p e = let o = p.found in record { kind = f.place; at = (o.1, o.0.kind, subst (λ (i : ℕ). Opened cs g sa i) (sym o.2) o.3); from = o.2; to = e }

pub whole_only : (cs : List Lexeme) (sa : Scope) (g : Nonterminal) (first : ℕ) (r : Option Found) (t : Tree) (w : Scope) → Parses cs 512 sa g first r → Whole g cs sa first t w → (z : ℕ) × Gives r t z w
whole_only cs sa g first r t w p d =
    (d.kind, p.only t d.kind w d.at d.from (λ k token has. (let l = class_within cs w (end t) k token in absurd (omega (arith, d.to, l)))))

pub takes_of : (cs : List Lexeme) (sb : Scope) (s y : ℕ) (at : ℕ) (c : Head) → GoesOn cs sb s y at → corner s ≡ Some c → Has (kinds c.goal) y
takes_of cs sb s y at c n is = subst (λ (v : Head). Has (kinds v.goal) y) (some_is (sym n.is ∙ is)) n.takes
