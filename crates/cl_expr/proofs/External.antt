-- The last token of a declaration, and of a function definition.
use Rattle.std.proofs.Common.{◌≡◌, ℕ, zero, suc, ◌+◌, ◌-◌, List, [], ◌∷◌, inl, inr, arith, refl, sym, ◌∙◌, ap, subst, length, Bool, true, false, ◌||◌}
use Rattle.std.specs.Prelude.{Option, Some, None, slice_get, Result, Ok, Err, IfOk, IfSome}
use Rattle.cl_base.specs.declared.memory.Memory.{Memory}
use Rattle.cl_expr.specs.declared.expression.Parsed.{Parsed}
use Rattle.cl_expr.proofs.Law.{one_whole}
use Rattle.std.proofs.Math.Dec.{eqb}
use Rattle.std.proofs.lemmas.Bool.{eqb-true, false≢true}
use Rattle.cl_tree.specs.declared.class.Class.{Class}
use Rattle.cl_tree.specs.declared.class.Class.TheVariants as cl
use Rattle.cl_tree.specs.declared.shape.Shape.{Shape}
use Rattle.cl_tree.specs.declared.shape.Shape.TheVariants.{Fixed, Word, Paren}
use Rattle.cl_tree.specs.declared.nonterminal.Nonterminal.{Nonterminal}
use Rattle.cl_tree.specs.declared.nonterminal.Nonterminal.TheVariants as nt
use Rattle.cl_tree.specs.declared.grammar.Symbol.{Symbol}
use Rattle.cl_tree.specs.declared.grammar.Symbol.TheVariants.{Token, Node, Entry}
use Rattle.cl_tree.specs.declared.grammar.Separator.{Separator}
use Rattle.cl_tree.specs.declared.tree.Tree.{Tree}
use Rattle.cl_tree.specs.declared.lexeme.Lexeme.{Lexeme}
use Rattle.cl_tree.specs.declared.scope.Scope.{Scope}
use Rattle.cl_tree.specs.Scopes.{class_at, class_of, class_by, word_class, paren_class, known, typed_at, pass}
use Rattle.cl_tree.specs.Grammar.{takes}
use Rattle.cl_tree.specs.Derives.{Has, start, end, parts, leaf, SpansFrom, External}
use Rattle.cl_expr.specs.declared.table.Edge.{Edge}
use Rattle.cl_expr.specs.code.Table.{places, place, edges, turning, turn, home, kinds, goal, goals, name_of, number}
use Rattle.cl_expr.specs.code.Paths.{name, Ended, Reads, ReadsAfter, Path, Kind, At}
use Rattle.cl_expr.specs.code.Looks.{class_number}
use Rattle.cl_expr.proofs.All.{same_class_is, same_goal_is}
use Rattle.cl_expr.proofs.Checks.{every, when, when_use, none_not, some_is, every_has, has_member}
use Rattle.cl_expr.proofs.Conditions.{every_place, steps, steps_use, kind_in, place_number, no_name}
use Rattle.cl_expr.proofs.Heights.{kind_of, kind_flat, end_leaf}
use Rattle.cl_expr.proofs.Bridge.{of_derives, in_edges}

-- whether a class may depend on the names that are declared
abbrev depends : Class → Bool
depends cl.Ident = true
depends cl.IdentColon = true
depends cl.TypedefName = true
depends cl.TypedefColon = true
depends cl.LeftParen = true
depends cl.TypeParen = true
depends cl.LiteralParen = true
depends _ = false

word_depends : (b c : Bool) → depends (word_class b c) ≡ true
word_depends true true = refl
word_depends true false = refl
word_depends false true = refl
word_depends false false = refl

paren_depends : (b c : Bool) → depends (paren_class b c) ≡ true
paren_depends true true = refl
paren_depends true false = refl
paren_depends false c = refl

-- any other class is the same whatever is declared
pub same_class : (ts : List Lexeme) (s w : Scope) (i : ℕ) (k : Class) → depends k ≡ false → class_at ts s i ≡ Some k → class_at ts w i ≡ Some k
unfolding class_at
same_class ts s w i k plain e = go (slice_get ts i) e
  where
    shape : (l : Lexeme) (x : Shape) → Some (class_by ts s.changes i l x) ≡ Some k → Some (class_by ts w.changes i l x) ≡ Some k
    shape l (Fixed c) e = e
    shape l (Word colon) e = absurd (false≢true (sym plain ∙ ap depends (sym (some_is e)) ∙ word_depends (known ts s.changes l.typed l.text) colon))
    shape l (Paren literal types) e = absurd (false≢true (sym plain ∙ ap depends (sym (some_is e)) ∙ paren_depends (types || typed_at ts s.changes (i + 1)) literal))

    go : (o : Option Lexeme) → class_of ts s.changes i o ≡ Some k → class_of ts w.changes i o ≡ Some k
    go None e = absurd (none_not e)
    go (Some l) e = shape l l.shape e

-- the last parts of declarations, of function definitions and of their bodies
abbrev is_token : Class → Symbol → Bool
is_token k (Token c a) = every (λ v. eqb (class_number v) (class_number k)) (takes c)
is_token k (Node g) = false
is_token k Entry = false

abbrev is_node : Nonterminal → Symbol → Bool
is_node g (Token c a) = false
is_node g (Node f) = eqb (number f) (number g)
is_node g Entry = false

abbrev c_last : Nonterminal → (Symbol → Bool) → ℕ → Bool
c_last g ok q = steps (λ e n. when (kind_in n (kinds g)) (ok e.symbol)) q

places_semicolon : every_place (c_last nt.Declaration (is_token cl.Semicolon)) ≡ true
unfolding places place edges turning kinds goal goals
places_semicolon = refl

places_body : every_place (c_last nt.FunctionDefinition (is_node nt.FunctionBody)) ≡ true
unfolding places place edges turning kinds goal goals
places_body = refl

places_brace : every_place (c_last nt.FunctionBody (is_token cl.RightBrace)) ≡ true
unfolding places place edges turning kinds goal goals
places_brace = refl

-- the last part of a node
record Last (cs : List Lexeme) (h to : ℕ) (ok : Symbol → Bool) : Type 0 where
  symbol : Symbol
  fine : ok symbol ≡ true
  kind : ℕ
  before : Scope
  at : ℕ
  tree : Tree
  after : Scope
  reads : Reads (At cs h) h cs symbol kind before at tree after
  ends : end tree ≡ to

module _ (cs : List Lexeme) (h : ℕ) (ok : Symbol → Bool) (z : ℕ) (f : (q : ℕ) (e : Edge) (y : ℕ) → Has (edges q) e → turn e.next y ≡ z → ok e.symbol ≡ true) where
  last_by : (b : Option Separator) (x : Symbol) (y : ℕ) (s : Scope) (at : ℕ) (p : Tree) (w : Scope) (to : ℕ) → ok x ≡ true → ReadsAfter (At cs h) h cs b x y s at p w → end p ≡ to → Last cs h to ok
  last_by None x y s at p w to t r e = record { symbol = x; fine = t; kind = y; before = s; at = at; tree = p; after = w; reads = r; ends = e }
  last_by (Some b) x y s at p w to t r e = record { symbol = x; fine = t; kind = y; before = pass cs s b.act at; at = at + 1; tree = p; after = w; reads = r.1; ends = e }

  path_last : (ps : List Tree) (p : Tree) (q : ℕ) (s : Scope) (at to : ℕ) (v : Scope) → Path (At cs h) h cs q s at to (p ∷ ps) z v → Last cs h to ok
  path_last [] p q s at to v path =
      let rest : Path (At cs h) h cs (turn path.0.next path.1) path.2 (end p) to [] z v = path.5 in
      last_by path.0.before path.0.symbol path.1 s at p path.2 to (f q path.0 path.1 path.3 rest.1) path.4 rest.0
  path_last (r ∷ ps) p q s at to v path = path_last ps r (turn path.0.next path.1) path.2 (end p) to v path.5

  kind_last : (s : Scope) (t : Tree) (w : Scope) → Kind cs (suc h) z s t w → Last cs h (end t) ok
  kind_last s t w a = (let k = kind_of cs h z s t w a in go k.state (parts t) k.ended k.path)
    where
      go : (v : Scope) (ps : List Tree) → Ended (At cs h) cs v z (end t) (name t) → Path (At cs h) h cs (home z) s (start t) (end t) ps z v → Last cs h (end t) ok
      go v [] ended p = absurd (no_name z (name t) (subst (λ (q : ℕ). name_of q ≡ Some (name t)) (sym p.1) ended.0))
      go v (p ∷ ps) ended path = path_last ps p (home z) s (start t) (end t) v path

leaf_last : (at to : ℕ) (p : Tree) → p ≡ leaf at → end p ≡ to → to - 1 ≡ at
leaf_last at to p is e = let x : to ≡ at + 1 = sym e ∙ ap end is ∙ end_leaf at in omega (arith, x)

token_of : (cs : List Lexeme) (h to : ℕ) (k : Class) (s : Scope) → depends k ≡ false → Last cs h to (is_token k) → class_at cs s (to - 1) ≡ Some k
token_of cs h to k s plain l = go l.symbol l.fine l.reads
  where
    go : (x : Symbol) → is_token k x ≡ true → Reads (At cs h) h cs x l.kind l.before l.at l.tree l.after → class_at cs s (to - 1) ≡ Some k
    go (Node g) t r = absurd (false≢true t)
    go Entry t r = absurd (false≢true t)
    go (Token c a) t r =
        let same : r.3.0 ≡ k = same_class_is r.3.0 k (eqb-true (class_number r.3.0) (class_number k)
        (every_has (λ v. eqb (class_number v) (class_number k)) (takes c) t r.3.0 r.3.2)) in
        let token : class_at cs l.before l.at ≡ Some k = subst (λ (v : Class). class_at cs l.before l.at ≡ Some v) same r.3.1 in
        subst (λ (i : ℕ). class_at cs s i ≡ Some k) (sym (leaf_last l.at to l.tree r.2 l.ends)) (same_class cs l.before s l.at k plain token)

edge_of : (g : Nonterminal) (ok : Symbol → Bool) → every_place (c_last g ok) ≡ true
    → (z : ℕ) → Has (kinds g) z → (q : ℕ) (e : Edge) (y : ℕ) → Has (edges q) e → turn e.next y ≡ z → ok e.symbol ≡ true
edge_of g ok t z kind q e y has goes =
    let u = steps_use (λ e n. when (kind_in n (kinds g)) (ok e.symbol)) q (in_edges (c_last g ok) t q e has) e y has in
    let inside : kind_in (turn e.next y) (kinds g) ≡ true = subst (λ (v : ℕ). kind_in v (kinds g) ≡ true) (sym goes) (has_member place_number z (kinds g) kind.0 kind.1) in
    when_use (kind_in (turn e.next y) (kinds g)) (ok e.symbol) u inside

last_of : (cs : List Lexeme) (g : Nonterminal) (ok : Symbol → Bool) → every_place (c_last g ok) ≡ true → (h : ℕ) (z : ℕ) (s : Scope) (t : Tree) (w : Scope)
    → At cs h g z s t w → (k : ℕ) × Last cs k (end t) ok
last_of cs g ok c zero z s t w a = absurd (kind_flat cs z s t w a.1)
last_of cs g ok c (suc h) z s t w a = (h, kind_last cs h ok z (edge_of g ok c z a.0) s t w a.1)

-- a body ends with `}`, and with it what ends with a body
body_of : (cs : List Lexeme) (h to : ℕ) (s : Scope) → Last cs h to (is_node nt.FunctionBody) → class_at cs s (to - 1) ≡ Some cl.RightBrace
body_of cs h to s l = go l.symbol l.fine l.reads
  where
    go : (x : Symbol) → is_node nt.FunctionBody x ≡ true → Reads (At cs h) h cs x l.kind l.before l.at l.tree l.after → class_at cs s (to - 1) ≡ Some cl.RightBrace
    go (Token c a) t r = absurd (false≢true t)
    go Entry t r = absurd (false≢true t)
    go (Node g) t r =
        let body : At cs h nt.FunctionBody l.kind l.before l.tree l.after
        = subst (λ (f : Nonterminal). At cs h f l.kind l.before l.tree l.after) (same_goal_is g nt.FunctionBody (eqb-true (number g) (number nt.FunctionBody) t)) r.0 in
        let o = last_of cs nt.FunctionBody (is_token cl.RightBrace) places_brace h l.kind l.before l.tree l.after body in
        subst (λ (i : ℕ). class_at cs s (i - 1) ≡ Some cl.RightBrace) l.ends (token_of cs o.0 (end l.tree) cl.RightBrace s refl o.1)

pub declaration_ends : (cs : List Lexeme) (s : Scope) (at : ℕ) (t : Tree) (w v : Scope) → SpansFrom nt.Declaration cs s at t w → class_at cs v (length cs - 1) ≡ Some cl.Semicolon
declaration_ends cs s at t w v d =
    let o = of_derives nt.Declaration cs s at t w d in
    let l = last_of cs nt.Declaration (is_token cl.Semicolon) places_semicolon 512 o.kind s t w o.at in
    subst (λ (i : ℕ). class_at cs v (i - 1) ≡ Some cl.Semicolon) o.to (token_of cs l.0 (end t) cl.Semicolon v refl l.1)

pub definition_ends : (cs : List Lexeme) (s : Scope) (at : ℕ) (t : Tree) (w v : Scope) → SpansFrom nt.FunctionDefinition cs s at t w → class_at cs v (length cs - 1) ≡ Some cl.RightBrace
definition_ends cs s at t w v d =
    let o = of_derives nt.FunctionDefinition cs s at t w d in
    let l = last_of cs nt.FunctionDefinition (is_node nt.FunctionBody) places_body 512 o.kind s t w o.at in
    subst (λ (i : ℕ). class_at cs v (i - 1) ≡ Some cl.RightBrace) o.to (body_of cs l.0 (end t) v l.1)

semicolon_not_brace : Some cl.Semicolon ≡ Some cl.RightBrace → ⊥
semicolon_not_brace e = cc

pub not_both : (cs : List Lexeme) (s : Scope) (at : ℕ) (t u : Tree) (w x : Scope) → SpansFrom nt.FunctionDefinition cs s at t w → SpansFrom nt.Declaration cs s at u x → ⊥
not_both cs s at t u w x a b = semicolon_not_brace (sym (declaration_ends cs s at u x s b) ∙ definition_ends cs s at t w s a)

-- with a `}` at the end it is a function definition, else a declaration
pub braced : (cs : List Lexeme) (s : Scope) (at : ℕ) (t : Tree) (w : Scope) → class_at cs s (length cs - 1) ≡ Some cl.RightBrace → External cs s at t w → SpansFrom nt.FunctionDefinition cs s at t w
braced cs s at t w e (inl a) = a
braced cs s at t w e (inr b) = absurd (semicolon_not_brace (sym (declaration_ends cs s at t w s b) ∙ e))

pub unbraced : (cs : List Lexeme) (s : Scope) (at : ℕ) (t : Tree) (w : Scope) → (class_at cs s (length cs - 1) ≡ Some cl.RightBrace → ⊥) → External cs s at t w → SpansFrom nt.Declaration cs s at t w
unbraced cs s at t w e (inl a) = absurd (e (definition_ends cs s at t w s a))
unbraced cs s at t w e (inr b) = b

pub one_external : (cs : List Lexeme) (s : Scope) (at : ℕ) (t u : Tree) (w x : Scope) → External cs s at t w → External cs s at u x → (t ≡ u) × (w ≡ x)
one_external cs s at t u w x (inl a) (inl b) =
    one_whole nt.FunctionDefinition cs s at t u w x (of_derives nt.FunctionDefinition cs s at t w a) (of_derives nt.FunctionDefinition cs s at u x b)
one_external cs s at t u w x (inl a) (inr b) = absurd (not_both cs s at t u w x a b)
one_external cs s at t u w x (inr a) (inl b) = absurd (not_both cs s at u t x w b a)
one_external cs s at t u w x (inr a) (inr b) = one_whole nt.Declaration cs s at t u w x (of_derives nt.Declaration cs s at t w a) (of_derives nt.Declaration cs s at u x b)

-- the answer of one nonterminal as that of an external declaration
pub found_as : (g : Nonterminal) (cs : List Lexeme) (s : Scope) (at : ℕ) → ((t : Tree) (w : Scope) → SpansFrom g cs s at t w → External cs s at t w) → (r : Result (Option Parsed) Memory)
    → IfOk r (λ it. IfSome it (λ x. SpansFrom g cs s at x.tree x.scope)) → IfOk r (λ it. IfSome it (λ x. External cs s at x.tree x.scope))
found_as g cs s at f (Ok (Some x)) a = f x.tree x.scope a
found_as g cs s at f (Ok None) a = tt
found_as g cs s at f (Err e) a = tt

pub only_as : (g : Nonterminal) (cs : List Lexeme) (s : Scope) (at : ℕ) → ((t : Tree) (w : Scope) → External cs s at t w → SpansFrom g cs s at t w) → (r : Result (Option Parsed) Memory)
    → IfOk r (λ it. (t : Tree) (w : Scope) → SpansFrom g cs s at t w → it ≡ Some (record { tree = t; scope = w })) → IfOk r (λ it. (t : Tree) (w : Scope) → External cs s at t w → it ≡ Some (record { tree = t; scope = w }))
only_as g cs s at f (Ok it) a = λ t w d. a t w (f t w d)
only_as g cs s at f (Err e) a = tt
