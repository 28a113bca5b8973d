-- What it is for a tree to derive: each of its nodes is one of a production, and its parts are what the right side asks for.
use Rattle.std.specs.Prelude.{◌≡◌, ℕ, zero, suc, ◌+◌, ◌≤◌, List, [], ◌∷◌, ◌++◌, Option, Some, None, slice_get, length, drop, Bool, true, false, cond, ◌⊎◌}
use Rattle.cl_tree.specs.declared.class.Class.{Class}
use Rattle.cl_tree.specs.declared.class.Class.TheVariants as cl
use Rattle.cl_tree.specs.declared.rule.Rule.TheVariants as ru
use Rattle.cl_tree.specs.declared.nonterminal.Nonterminal.{Nonterminal}
use Rattle.cl_tree.specs.declared.nonterminal.Nonterminal.TheVariants as nt
use Rattle.cl_tree.specs.declared.grammar.Terminal.{Terminal}
use Rattle.cl_tree.specs.declared.grammar.Act.TheVariants as ac
use Rattle.cl_tree.specs.declared.grammar.Symbol.{Symbol}
use Rattle.cl_tree.specs.declared.grammar.Symbol.TheVariants.{Token, Node, Entry}
use Rattle.cl_tree.specs.declared.grammar.Part.{Part}
use Rattle.cl_tree.specs.declared.grammar.Part.TheVariants.{One, Optional, Many}
use Rattle.cl_tree.specs.declared.grammar.Separator.{Separator}
use Rattle.cl_tree.specs.declared.grammar.Again.{Again}
use Rattle.cl_tree.specs.declared.grammar.Unit.{Unit as UnitRow}
use Rattle.cl_tree.specs.declared.tree.Tree.{Tree, out-Tree, roll-Tree}
use Rattle.cl_tree.specs.declared.lexeme.Lexeme.{Lexeme}
use Rattle.cl_tree.specs.declared.scope.Scope.{Scope}
use Rattle.cl_tree.specs.Scopes.{empty, class_at, pass, leave}
use Rattle.cl_tree.specs.declared.set.NameSet.{NameSet}
use Rattle.cl_base.specs.declared.token.PpToken.{PpToken}
use Rattle.cl_tree.specs.Brackets.{brackets}
use Rattle.cl_tree.specs.Lexemes.{lexemes}
use Rattle.cl_tree.specs.Sets.{has}
use Rattle.cl_tree.specs.BadItems.{closes_at, bad_end}
use Rattle.cl_tree.specs.Grammar.{Production, productions, units, takes, shuns}

-- x stands somewhere in the list
abbrev pub Has : {X : Type 0} → List X → X → Type 0
Has xs x = (i : ℕ) × (slice_get xs i ≡ Some x)

abbrev pub start : Tree → ℕ
start t = (out-Tree t).from

abbrev pub end : Tree → ℕ
end t = (out-Tree t).to

abbrev pub parts : Tree → List Tree
parts t = (out-Tree t).parts

-- the tree of the token at a number
abbrev pub leaf : ℕ → Tree
leaf at = roll-Tree (record { rule = ru.Token; choice = 0; from = at; to = at + 1; parts = [] })

-- the tree of tokens that are no item
abbrev pub bad : ℕ → ℕ → Tree
bad from to = roll-Tree (record { rule = ru.Bad; choice = 0; from = from; to = to; parts = [] })

-- a token is there that ends no block
abbrev pub Within : List Lexeme → Scope → ℕ → Type 0
Within ts s at = (c : Class) × (class_at ts s at ≡ Some c) × (c ≡ cl.RightBrace → ⊥) × (closes_at ts at ≡ false)

-- all of these may be left out
abbrev pub left_out : List Part → Bool
left_out [] = true
left_out (One x ∷ ps) = false
left_out (Optional x ∷ ps) = left_out ps
left_out (Many x ∷ ps) = left_out ps

-- what may stand next in a right side: the separator before it, the symbol, and how many parts of the right side are behind then
pub record Next : Type 0 where
  pub before : Option Separator
  pub symbol : Symbol
  pub behind : ℕ

abbrev pub plain_next : Symbol → ℕ → Next
plain_next x d = record { before = None; symbol = x; behind = d }

-- of the parts that are left, with so many behind
abbrev pub nexts_of : List Part → ℕ → List Next
nexts_of [] d = []
nexts_of (One x ∷ ps) d = plain_next x (d + 1) ∷ []
nexts_of (Optional x ∷ ps) d = plain_next x (d + 1) ∷ nexts_of ps (d + 1)
nexts_of (Many x ∷ ps) d = plain_next x d ∷ nexts_of ps (d + 1)

abbrev pub symbol_of : Part → Symbol
symbol_of (One x) = x
symbol_of (Optional x) = x
symbol_of (Many x) = x

-- the first part of a list's next member, after a separator
abbrev pub member_of : Again → Option Part → List Next
member_of a None = []
member_of a (Some p) = record { before = Some a.separator; symbol = symbol_of p; behind = a.part + 1 } ∷ []

abbrev pub members_of : List Part → List Again → List Next
members_of ps [] = []
members_of ps (a ∷ rest) = member_of a (slice_get ps a.part) ++ members_of ps rest

-- what may stand next in a production, with so many parts of its right side behind; a list goes on where a member may end
abbrev pub nexts : Production → ℕ → List Next
nexts r d = nexts_of (drop d r.parts) d ++ cond (left_out (drop d r.parts)) (members_of r.parts r.again) []

-- the classes of tokens that may not follow a production, or begin a nonterminal
abbrev pub barred : Option Terminal → List Class
barred None = []
barred (Some k) = takes k

-- the token there is none with which the nonterminal may not begin
abbrev pub Opened : List Lexeme → Nonterminal → Scope → ℕ → Type 0
Opened ts g s at = (c : Class) → class_at ts s at ≡ Some c → Has (barred (shuns g)) c → ⊥

module _ (D : Nonterminal → Scope → Tree → Scope → Type 0) (h : ℕ) (ts : List Lexeme) where
  -- the tree is what a symbol stands for, from a token on, of a height of at most h, where s is declared before it and w after it
  abbrev pub Reads : Symbol → Scope → ℕ → Tree → Scope → Type 0
  Reads (Token k a) s at p w = (1 ≤ h) × (p ≡ leaf at) × ((c : Class) × (class_at ts s at ≡ Some c) × Has (takes k) c) × (w ≡ pass ts s a at)
  Reads (Node g) s at p w = D g s p w × (start p ≡ at)
  Reads Entry s at p w =
      (D nt.BlockItem s p w × (start p ≡ at))
      ⊎ ((1 ≤ h) × (p ≡ bad at (bad_end ts at)) × (w ≡ s) × Within ts s at × ((t : Tree) (v : Scope) → D nt.BlockItem s t v → start t ≡ at → ⊥))

  -- the same after a separator, if one is asked for
  abbrev pub ReadsAfter : Option Separator → Symbol → Scope → ℕ → Tree → Scope → Type 0
  ReadsAfter None x s at p w = Reads x s at p w
  ReadsAfter (Some b) x s at p w = (class_at ts s at ≡ Some b.class) × Reads x (pass ts s b.act at) (at + 1) p w

  -- the trees are the rest of a production's parts, with so many parts of its right side behind
  abbrev pub Follows : Production → ℕ → Scope → ℕ → ℕ → List Tree → Scope → Type 0
  Follows r d s at to [] w = (left_out (drop d r.parts) ≡ true) × (at ≡ to) × (s ≡ w)
  Follows r d s at to (p ∷ ps) w = (x : Next) × (v : Scope) × Has (nexts r d) x × ReadsAfter x.before x.symbol s at p v × Follows r x.behind v (end p) to ps w

  -- an `else` is there after which no statement derives: it goes with no `if` (6.8.4.1p3)
  abbrev pub Lost : Class → Scope → ℕ → Type 0
  Lost c s at = (c ≡ cl.Else) × ((t : Tree) (v : Scope) → D nt.Statement (pass ts s ac.Close at) t v → start t ≡ at + 1 → ⊥)

  -- the tree is a node of a production, and no token that it bars follows, but for a lost `else`; v is declared at its end, and w after it
  abbrev pub IsNode : Production → Scope → Tree → Scope → Type 0
  IsNode r s t w =
      ((out-Tree t).rule ≡ r.rule) × ((out-Tree t).choice ≡ r.choice) × (v : Scope) × Follows r 0 s (start t) (end t) (parts t) v
      × ((c : Class) → class_at ts v (end t) ≡ Some c → Has (barred r.bar) c → Lost c v (end t)) × (w ≡ leave r.scoped s v)

-- a tree of one nonterminal is one of another: by productions whose right side is one nonterminal
pub data StandsFor : Nonterminal → Nonterminal → Type 0 where
  itself : {g : Nonterminal} → StandsFor g g
  through : {f : Nonterminal} (u : UnitRow) → Has units u → StandsFor u.by f → StandsFor u.of f

-- a tree of a nonterminal, of a height of at most h, where each node counts; s is declared before it, w after it
unfoldable pub Derived : List Lexeme → ℕ → Nonterminal → Scope → Tree → Scope → Type 0
Derived ts zero g s t w = ⊥
Derived ts (suc h) g s t w = (r : Production) × Has productions r × StandsFor g r.of × Opened ts g s (start t) × IsNode (Derived ts h) h ts r s t w

-- the tree is one of the nonterminal on all of the tokens from one on, of a height of at most 512; s is declared before it, w after it
pub record SpansFrom (g : Nonterminal) (ts : List Lexeme) (s : Scope) (at : ℕ) (t : Tree) (w : Scope) : Type 0 where
  pub derived : Derived ts 512 g s t w
  pub from : start t ≡ at
  pub to : end t ≡ length ts

-- the same on all of the tokens
abbrev pub Spans : Nonterminal → List Lexeme → Tree → Type 0
Spans g ts t = (w : Scope) × SpansFrom g ts empty 0 t w

-- external-declaration (6.9): a function definition or a declaration, on all of the tokens from one on
abbrev pub External : List Lexeme → Scope → ℕ → Tree → Scope → Type 0
External ts s at t w = SpansFrom nt.FunctionDefinition ts s at t w ⊎ SpansFrom nt.Declaration ts s at t w

-- the tree is one of the nonterminal on all of these tokens, where these names are typedef names before the first
abbrev pub Derives : Nonterminal → NameSet → List PpToken → Tree → Type 0
Derives g typedefs tokens t = Spans g (lexemes (has typedefs) (brackets tokens) tokens) t
