-- The parser's own view of a tree: its parts lie on a way through the places of its production. proofs/Bridge shows that such trees are those that derive.
use Rattle.std.specs.Prelude.{◌≡◌, ℕ, zero, suc, ◌+◌, ◌≤◌, List, [], ◌∷◌, Option, Some, None, length, ◌⊎◌}
use Rattle.cl_tree.specs.declared.class.Class.{Class}
use Rattle.cl_tree.specs.declared.class.Class.TheVariants as cl
use Rattle.cl_tree.specs.declared.grammar.Act.TheVariants as ac
use Rattle.cl_tree.specs.declared.nonterminal.Nonterminal.{Nonterminal}
use Rattle.cl_tree.specs.declared.grammar.Symbol.{Symbol}
use Rattle.cl_tree.specs.declared.grammar.Symbol.TheVariants.{Token, Node, Entry}
use Rattle.cl_tree.specs.declared.nonterminal.Nonterminal.TheVariants as nt
use Rattle.cl_tree.specs.declared.grammar.Separator.{Separator}
use Rattle.cl_tree.specs.declared.tree.Tree.{Tree, out-Tree, roll-Tree}
use Rattle.cl_tree.specs.declared.lexeme.Lexeme.{Lexeme}
use Rattle.cl_tree.specs.declared.scope.Scope.{Scope}
use Rattle.cl_tree.specs.Grammar.{takes}
use Rattle.cl_tree.specs.Scopes.{class_at, pass, leave}
use Rattle.cl_tree.specs.Derives.{Has, start, end, parts, leaf, Opened, Within, bad}
use Rattle.cl_tree.specs.BadItems.{bad_end}
use Rattle.cl_expr.specs.declared.table.Edge.{Edge}
use Rattle.cl_expr.specs.declared.table.Label.{Label}
use Rattle.cl_expr.specs.code.Table.{edges, name_of, bars, scoped, turn, home, kinds}

abbrev pub name : Tree → Label
name t = record { rule = (out-Tree t).rule; choice = (out-Tree t).choice }

-- the node of a label and parts
abbrev pub node : Label → ℕ → ℕ → List Tree → Tree
node n from to ps = roll-Tree (record { rule = n.rule; choice = n.choice; from = from; to = to; parts = ps })

module _ (D : Nonterminal → ℕ → Scope → Tree → Scope → Type 0) (cs : List Lexeme) where
  -- an `else` is there after which no statement derives
  abbrev pub Lost : Class → Scope → ℕ → Type 0
  Lost k s at = (k ≡ cl.Else) × ((t : Tree) (z : ℕ) (v : Scope) → D nt.Statement z (pass cs s ac.Close at) t v → start t ≡ at + 1 → ⊥)

  -- the production may end at a place of it, before the token that stands there
  abbrev pub Ended : Scope → ℕ → ℕ → Label → Type 0
  Ended s z to n = (name_of z ≡ Some n) × ((k : Class) → class_at cs s to ≡ Some k → Has (bars z) k → Lost k s to)

module _ (D : Nonterminal → ℕ → Scope → Tree → Scope → Type 0) (h : ℕ) (cs : List Lexeme) where
  -- a part that a symbol stands for, of a kind and with a height of at most h, and what is declared after it
  abbrev pub Reads : Symbol → ℕ → Scope → ℕ → Tree → Scope → Type 0
  Reads (Token k a) y s at p w = (y ≡ 0) × (1 ≤ h) × (p ≡ leaf at) × ((c : Class) × (class_at cs s at ≡ Some c) × Has (takes k) c) × (w ≡ pass cs s a at)
  Reads (Node g) y s at p w = D g y s p w × (start p ≡ at)
  Reads Entry y s at p w =
      (D nt.BlockItem y s p w × (start p ≡ at))
      ⊎ ((y ≡ 0) × (1 ≤ h) × (p ≡ bad at (bad_end cs at)) × (w ≡ s) × Within cs s at × ((t : Tree) (z : ℕ) (v : Scope) → D nt.BlockItem z s t v → start t ≡ at → ⊥))

  -- the same after a separator, if one is asked for
  abbrev pub ReadsAfter : Option Separator → Symbol → ℕ → Scope → ℕ → Tree → Scope → Type 0
  ReadsAfter None x y s at p w = Reads x y s at p w
  ReadsAfter (Some b) x y s at p w = (class_at cs s at ≡ Some b.class) × Reads x y (pass cs s b.act at) (at + 1) p w

  -- the parts lead from one place of a production to another, and from what is declared at the one to what is at the other
  abbrev pub Path : ℕ → Scope → ℕ → ℕ → List Tree → ℕ → Scope → Type 0
  Path q s at to [] z v = (at ≡ to) × (q ≡ z) × (s ≡ v)
  Path q s at to (p ∷ ps) z v = (e : Edge) × (y : ℕ) × (w : Scope) × Has (edges q) e × ReadsAfter e.before e.symbol y s at p w × Path (turn e.next y) w (end p) to ps z v

-- a tree of a kind, which is the place where its production ends; its height is at most h; s is declared before it, v at its end, w after it
unfoldable pub Kind : List Lexeme → ℕ → ℕ → Scope → Tree → Scope → Type 0
Kind cs zero z s t w = ⊥
Kind cs (suc h) z s t w =
    (v : Scope) × (w ≡ leave (scoped z) s v)
    × Ended (λ g y s' p w'. Has (kinds g) y × Kind cs h y s' p w' × Opened cs g s' (start p)) cs v z (end t) (name t)
    × Path (λ g y s' p w'. Has (kinds g) y × Kind cs h y s' p w' × Opened cs g s' (start p)) h cs (home z) s (start t) (end t) (parts t) z v

-- a tree of a nonterminal
abbrev pub At : List Lexeme → ℕ → Nonterminal → ℕ → Scope → Tree → Scope → Type 0
At cs h g z s t w = Has (kinds g) z × Kind cs h z s t w × Opened cs g s (start t)

-- the tree is one of the nonterminal on all of the tokens from one on, of a height of at most 512; s is declared before it, w after it
pub record Whole (g : Nonterminal) (cs : List Lexeme) (s : Scope) (first : ℕ) (t : Tree) (w : Scope) : Type 0 where
  pub kind : ℕ
  pub at : At cs 512 g kind s t w
  pub from : start t ≡ first
  pub to : end t ≡ length cs
