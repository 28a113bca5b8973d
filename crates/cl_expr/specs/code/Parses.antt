-- What the parts of the parser answer.
use Rattle.std.specs.Prelude.{◌≡◌, ℕ, zero, suc, ◌≤◌, ◌<◌, ◌-◌, ◌^◌, List, [], ◌∷◌, ◌++◌, Option, Some, None, length, IfSome, IfOk, Result}
use Rattle.cl_tree.specs.declared.class.Class.{Class}
use Rattle.cl_tree.specs.declared.class.Class.TheVariants as cl
use Rattle.cl_tree.specs.declared.nonterminal.Nonterminal.{Nonterminal}
use Rattle.cl_tree.specs.declared.nonterminal.Nonterminal.TheVariants as nt
use Rattle.cl_tree.specs.declared.grammar.Symbol.{Symbol}
use Rattle.cl_tree.specs.declared.grammar.Symbol.TheVariants.{Token, Node, Entry}
use Rattle.cl_tree.specs.declared.grammar.Separator.{Separator}
use Rattle.cl_expr.specs.declared.table.Edge.{Edge}
use Rattle.cl_expr.specs.declared.table.Head.{Head}
use Rattle.cl_expr.specs.declared.table.Label.{Label}
use Rattle.cl_tree.specs.declared.tree.Tree.{Tree}
use Rattle.cl_expr.specs.declared.reader.Found.{Found}
use Rattle.std.specs.declared.alloc.Global.{Global}
use Rattle.cl_base.specs.declared.memory.Memory.{Memory}
use Rattle.std.specs.Borrow.{Bor}
use Rattle.cl_tree.specs.declared.lexeme.Lexeme.{Lexeme}
use Rattle.cl_tree.specs.declared.scope.Scope.{Scope}
use Rattle.cl_tree.specs.Scopes.{class_at, leave}
use Rattle.cl_tree.specs.Grammar.{takes}
use Rattle.cl_expr.specs.code.Table.{edges, name_of, scoped, home, corner, kinds, openers, suffixes, firsts, ends, goes, entry_classes}
use Rattle.cl_tree.specs.Derives.{Has, start, end, parts, Opened}
use Rattle.cl_expr.specs.code.Paths.{name, node, Ended, ReadsAfter, Path, Kind, At}

-- what begins a type specifier that is no typedef name
abbrev pub type_words : List Class
type_words =
    cl.Void ∷ cl.Char ∷ cl.Short ∷ cl.Int ∷ cl.Long ∷ cl.Float ∷ cl.Double ∷ cl.Signed ∷ cl.Unsigned ∷ cl.Bool ∷ cl.AtomicParen ∷ cl.Struct ∷ cl.Union ∷ cl.Enum ∷ []

abbrev pub AllOf : (Tree → Type 0) → List Tree → Type 0
AllOf P [] = Unit {0}
AllOf P (t ∷ ts) = P t × AllOf P ts

-- the tree is at most k high, where each node counts
unfoldable pub Tall : ℕ → Tree → Type 0
Tall zero t = ⊥
Tall (suc k) t = AllOf (Tall k) (parts t)

-- the token begins what the symbol stands for
abbrev pub BeginsSymbol : Symbol → Class → Type 0
BeginsSymbol (Token c a) k = Has (takes c) k
BeginsSymbol (Node g) k = Has (firsts g) k
BeginsSymbol Entry k = Has entry_classes k

-- or the separator before it
abbrev pub Begins : Option Separator → Symbol → Class → Type 0
Begins None x k = BeginsSymbol x k
Begins (Some b) x k = b.class ≡ k

-- the token begins what may stand at a place of a production
abbrev pub Enters : ℕ → Class → Type 0
Enters q k = (e : Edge) × Has (edges q) e × Begins e.before e.symbol k

-- no token there goes on from a tree of the nonterminal, as it is classified in a state
abbrev pub Stops : List Lexeme → Scope → Nonterminal → ℕ → Type 0
Stops cs w g at = (k : Class) → class_at cs w at ≡ Some k → Has (goes g) k → ⊥

-- nor from a production at one of its places
abbrev pub Halts : List Lexeme → Scope → ℕ → ℕ → Type 0
Halts cs w q at = (k : Class) → class_at cs w at ≡ Some k → Has (ends q) k → ⊥

abbrev pub StopsSymbol : List Lexeme → Scope → Symbol → ℕ → Type 0
StopsSymbol cs w (Token c a) at = Unit {0}
StopsSymbol cs w (Node g) at = Stops cs w g at
StopsSymbol cs w Entry at = Unit {0}

abbrev pub Gives : Option Found → Tree → ℕ → Scope → Type 0
Gives None t z w = ⊥
Gives (Some f) t z w = (f.tree ≡ t) × (f.place ≡ z) × (f.scope ≡ w)

-- what was found is a tree of its kind by this height, is that high itself, and no lower: with a lower bound other items of its blocks may derive
pub record Sound (cs : List Lexeme) (h : ℕ) (s : Scope) (f : Found) : Type 0 where
  pub kind : Kind cs h f.place s f.tree f.scope
  pub grows : start f.tree < end f.tree
  pub within : end f.tree ≤ length cs
  pub tall : Tall f.height f.tree
  pub least : (k : ℕ) → Tall k f.tree → f.height ≤ k
  pub high : f.height ≤ h

-- the answer is the one tree of the nonterminal from that place after which no token goes on
pub record Parses (cs : List Lexeme) (h : ℕ) (s : Scope) (g : Nonterminal) (at : ℕ) (r : Option Found) : Type 0 where
  pub found : IfSome r (λ f. Sound cs h s f × Has (kinds g) f.place × (start f.tree ≡ at) × Opened cs g s at)
  pub only : (t : Tree) (z : ℕ) (w : Scope) → At cs h g z s t w → start t ≡ at → Stops cs w g (end t) → Gives r t z w

-- a function value that parses
pub record Nests (cs : List Lexeme) (h : ℕ) (pre : Global → Bor (List Lexeme) → Bor Scope → Nonterminal → ℕ → ℕ → Type 0)
    (post : Global → Bor (List Lexeme) → Bor Scope → Nonterminal → ℕ → ℕ → Result (Option Found) Memory → Type 0) : Type 0 where
  pub callable : (alloc : Global) (tokens : Bor (List Lexeme)) (s : Bor Scope) (g : Nonterminal) (d at : ℕ) → tokens.now ≡ cs → d ≤ h → pre alloc tokens s g d at
  pub parses : (alloc : Global) (tokens : Bor (List Lexeme)) (s : Bor Scope) (g : Nonterminal) (d at : ℕ) (r : Result (Option Found) Memory) → tokens.now ≡ cs
      → d ≤ h → post alloc tokens s g d at r → IfOk r (Parses cs d s.now g at)
  pub shallow : h < 512
  pub short : length cs < 2 ^ 32 - 4

-- a part that was read
pub record SoundPart (cs : List Lexeme) (h : ℕ) (s : Scope) (b : Option Separator) (x : Symbol) (at : ℕ) (f : Found) : Type 0 where
  pub reads : ReadsAfter (At cs h) h cs b x f.place s at f.tree f.scope
  pub grows : at < end f.tree
  pub within : end f.tree ≤ length cs
  pub tall : Tall f.height f.tree
  pub least : (k : ℕ) → Tall k f.tree → f.height ≤ k
  pub high : f.height ≤ h

-- the answer is the one part that the symbol stands for there
pub record Part (cs : List Lexeme) (h : ℕ) (s : Scope) (b : Option Separator) (x : Symbol) (at : ℕ) (r : Option Found) : Type 0 where
  pub found : IfSome r (SoundPart cs h s b x at)
  pub only : (p : Tree) (y : ℕ) (w : Scope) → ReadsAfter (At cs h) h cs b x y s at p w → StopsSymbol cs w x (end p) → Gives r p y w

-- part of a production has been read, up to a place of it; sa before it, sm there
pub record Half (cs : List Lexeme) (h : ℕ) (sa sm : Scope) (q : ℕ) (ps : List Tree) (from mid height : ℕ) : Type 0 where
  pub joins : (to : ℕ) (rest : List Tree) (z : ℕ) (sv : Scope) → Path (At cs h) h cs q sm mid to rest z sv
      → Path (At cs h) h cs (home q) sa from to (ps ++ rest) z sv
  pub tall : AllOf (Tall height) ps
  pub least : (k : ℕ) → AllOf (Tall k) ps → height ≤ k
  pub plain : corner q ≡ None
  pub within : mid ≤ length cs
  pub above : from ≤ mid
  pub high : height ≤ h

-- the answer is the one node that has these parts and goes on from there; sv is declared at its end
pub record Builds (cs : List Lexeme) (h : ℕ) (sa sm : Scope) (q : ℕ) (ps : List Tree) (from mid : ℕ) (r : Option Found) : Type 0 where
  pub found : IfSome r (λ f. Sound cs (suc h) sa f × (start f.tree ≡ from) × (mid < end f.tree))
  pub only : (to : ℕ) (rest : List Tree) (z : ℕ) (sv : Scope) (n : Label) → Path (At cs h) h cs q sm mid to rest z sv → Ended (At cs h) cs sv z to n → Halts cs sv q to
      → Gives r (node n from to (ps ++ rest)) z (leave (scoped z) sa sv)

-- no node goes on from a place of its production
abbrev pub Stuck : List Lexeme → ℕ → Scope → ℕ → ℕ → Type 0
Stuck cs h sm q mid = (to : ℕ) (p : Tree) (rest : List Tree) (z : ℕ) (sv : Scope) (n : Label) → Path (At cs h) h cs q sm mid to (p ∷ rest) z sv → Ended (At cs h) cs sv z to n → ⊥

-- the answer is the one node that has these parts and ends here, or after an `else`
pub record Ends (cs : List Lexeme) (h : ℕ) (sa sm : Scope) (q : ℕ) (ps : List Tree) (from mid : ℕ) (r : Option Found) : Type 0 where
  pub found : IfSome r (λ f. Sound cs (suc h) sa f × (start f.tree ≡ from) × (mid ≤ end f.tree) × (name_of q ≡ None → ⊥))
  pub only : (to : ℕ) (rest : List Tree) (z : ℕ) (sv : Scope) (n : Label) → Path (At cs h) h cs q sm mid to rest z sv → Ended (At cs h) cs sv z to n → Halts cs sv q to
      → Gives r (node n from to (ps ++ rest)) z (leave (scoped z) sa sv)

-- the answer is the one node that begins a tree of the nonterminal
pub record Opens (cs : List Lexeme) (h : ℕ) (s : Scope) (g : Nonterminal) (at : ℕ) (r : Option Found) : Type 0 where
  pub found : IfSome r (λ f. Sound cs (suc h) s f × (start f.tree ≡ at))
  pub only : (t : Tree) (z : ℕ) (w : Scope) → Kind cs (suc h) z s t w → Has (openers g) (home z) → start t ≡ at → Halts cs w (home z) (end t) → Gives r t z w

-- a production whose first part is a tree of a kind goes on with a token
pub record GoesWith (s : ℕ) (y : ℕ) (k : Class) : Type 0 where
  pub cornered : Head
  pub is : corner s ≡ Some cornered
  pub takes : Has (kinds cornered.goal) y
  pub enters : Enters cornered.next k

-- a production whose first part is a tree of a kind goes on there
pub record GoesOn (cs : List Lexeme) (w : Scope) (s : ℕ) (y : ℕ) (at : ℕ) : Type 0 where
  pub cornered : Head
  pub is : corner s ≡ Some cornered
  pub takes : Has (kinds cornered.goal) y
  pub class : Class
  pub token : class_at cs w at ≡ Some class
  pub enters : Enters cornered.next class

-- a node whose first part is a tree of a kind; sa before both, sb after the first part, sw after the node
pub record Continues (cs : List Lexeme) (h : ℕ) (sa : Scope) (a : Tree) (y : ℕ) (sb : Scope) (t : Tree) (z : ℕ) (sw : Scope) : Type 0 where
  pub cornered : Head
  pub is : corner (home z) ≡ Some cornered
  pub takes : At cs h cornered.goal y sa a sb
  pub from : start a ≡ start t
  pub rest : List Tree
  pub parts_are : parts t ≡ a ∷ rest
  pub path : Path (At cs h) h cs cornered.next sb (end a) (end t) rest z sw
  pub ended : Ended (At cs h) cs sw z (end t) (name t)

-- the answer is the one node of a production that begins with left
pub record Steps (cs : List Lexeme) (h : ℕ) (sa : Scope) (s : ℕ) (left : Found) (r : Option Found) : Type 0 where
  pub found : IfSome r (λ f. Sound cs (suc h) sa f × (start f.tree ≡ start left.tree) × (end left.tree < end f.tree))
  pub only : (t : Tree) (z : ℕ) (w : Scope) → Continues cs h sa left.tree left.place left.scope t z w → home z ≡ s → Halts cs w s (end t) → Gives r t z w

-- from a node up to the whole tree, each the first part of the next
pub data Spine (cs : List Lexeme) (h : ℕ) (sa : Scope) (g : Nonterminal) : Tree → ℕ → Scope → Tree → ℕ → Scope → Type 0 where
  here : {t : Tree} {z : ℕ} {w : Scope} → Spine cs h sa g t z w t z w
  next : {a : Tree} {y : ℕ} {sb : Scope} {p : Tree} {x : ℕ} {sx : Scope} {t : Tree} {z : ℕ} {w : Scope} → Has (suffixes g) (home x)
      → Continues cs h sa a y sb p x sx → Halts cs sx (home x) (end p) → Spine cs h sa g p x sx t z w → Spine cs h sa g a y sb t z w

-- the answer is the one tree of the nonterminal that goes on from the first node
pub record Climbs (cs : List Lexeme) (h : ℕ) (sa : Scope) (g : Nonterminal) (first : Found) (r : Option Found) : Type 0 where
  pub found : IfSome r (λ f. Sound cs (suc h) sa f × (start f.tree ≡ start first.tree))
  pub only : (t : Tree) (z : ℕ) (w : Scope) → Spine cs h sa g first.tree first.place first.scope t z w → Has (kinds g) z → Stops cs w g (end t) → Gives r t z w

-- the places of declaration specifiers: the first one, that behind others than of types, and that behind one of a type
abbrev pub nth : List ℕ → ℕ → ℕ
nth [] i = 0
nth (q ∷ qs) zero = q
nth (q ∷ qs) (suc i) = nth qs i

abbrev pub begun : ℕ
begun = nth (openers nt.DeclarationSpecifiers) 0

abbrev pub untyped : ℕ
untyped = nth (kinds nt.DeclarationSpecifiers) 0

abbrev pub typed : ℕ
typed = nth (kinds nt.DeclarationSpecifiers) 1

-- specifiers from one token up to another, one of them of a type, behind which others may go on; they begin no label
pub record Chain (cs : List Lexeme) (h : ℕ) (s : Scope) (from mid : ℕ) (after : Scope) : Type 0 where
  pub opened : Opened cs nt.BlockSpecifiers s from
  pub joins : (to : ℕ) (ps : List Tree) (z : ℕ) (v : Scope) → Path (At cs h) h cs typed after mid to ps z v → (all : List Tree) × Path (At cs h) h cs begun s from to all z v

-- from two states on the same specifiers that are of no type stand there, and then one of a type that is no typedef name, where both are the same
pub data Led (cs : List Lexeme) (h : ℕ) : Scope → Scope → ℕ → Type 0 where
  of_type : {s : Scope} {at : ℕ} (k : Class) → class_at cs s at ≡ Some k → Has type_words k → Led cs h s s at
  other : {a b : Scope} {at : ℕ} (this that : Found) → Parses cs h a nt.OtherSpecifier at (Some this) → Parses cs h b nt.OtherSpecifier at (Some that) → end this.tree ≡ end that.tree
      → Led cs h this.scope that.scope (end this.tree) → Led cs h a b at

-- what stands between two tokens may stand before what begins at the second
pub record Before (cs : List Lexeme) (h : ℕ) (s : Scope) (from mid : ℕ) : Type 0 where
  pub after : Scope
  pub chain : Chain cs h s from mid after
  pub led : Led cs h after s mid

-- an item of a block stands at an edge, and none derives there
pub record Dead (cs : List Lexeme) (h : ℕ) (s : Scope) (e : Edge) (at : ℕ) : Type 0 where
  pub before : e.before ≡ None
  pub symbol : e.symbol ≡ Entry
  pub none : Parses cs h s nt.BlockItem at None
  pub some : 1 ≤ h
  pub token : (k : Class) × (class_at cs s at ≡ Some k) × (k ≡ cl.RightBrace → ⊥)
