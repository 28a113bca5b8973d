-- What is no item of a block, and what begins behind it.
use Rattle.std.proofs.Common.{◌≡◌, ℕ, zero, suc, ◌+◌, ◌-◌, ◌≤◌, arith, List, [], inl, inr, ⊎_elim, refl, sym, ◌∙◌, ap, subst, Bool, true, false, not}
use Rattle.std.specs.Prelude.{Option, Some, None}
use Rattle.cl_tree.specs.declared.nonterminal.Nonterminal.{Nonterminal}
use Rattle.cl_tree.specs.declared.nonterminal.Nonterminal.TheVariants as nt
use Rattle.cl_tree.specs.declared.grammar.Symbol.{Symbol}
use Rattle.cl_tree.specs.declared.grammar.Symbol.TheVariants.{Token, Node, Entry}
use Rattle.cl_tree.specs.declared.grammar.Separator.{Separator}
use Rattle.cl_tree.specs.declared.rule.Rule.{Rule}
use Rattle.cl_tree.specs.declared.rule.Rule.TheVariants as ru
use Rattle.cl_tree.specs.declared.tree.Tree.{Tree, out-Tree, out-roll-Tree}
use Rattle.cl_tree.specs.declared.lexeme.Lexeme.{Lexeme}
use Rattle.cl_tree.specs.declared.scope.Scope.{Scope}
use Rattle.cl_tree.specs.Scopes.{pass}
use Rattle.cl_tree.specs.BadItems.{bad_end}
use Rattle.cl_tree.specs.Derives.{Has, start, bad}
use Rattle.cl_expr.specs.code.Table.{Place, places, place, nowhere, name_of}
use Rattle.cl_expr.specs.code.Paths.{name, Reads, ReadsAfter, At}
use Rattle.cl_expr.specs.code.Parses.{Parses, Before, Dead}
use Rattle.cl_expr.specs.declared.table.Edge.{Edge}
use Rattle.cl_expr.specs.declared.table.Label.{Label}
use Rattle.cl_expr.proofs.Checks.{on_some, on_some_use, not_use, none_not, every_has}
use Rattle.cl_expr.proofs.Conditions.{every_place, numbers, either, entry_stops}
use Rattle.cl_expr.proofs.Heights.{kind_of, kind_flat}
use Rattle.cl_expr.proofs.Joins.{item_joins, item_starts}

abbrev is_bad : Rule → Bool
is_bad ru.Bad = true
is_bad _ = false

-- no production makes such a tree
abbrev c_made : ℕ → Bool
c_made q = on_some (λ l. not (is_bad l.rule)) (name_of q)

made_checked : every_place c_made ≡ true
unfolding places place name_of
made_checked = refl

nowhere_unnamed : (q : ℕ) → place q ≡ nowhere → name_of q ≡ None
unfolding name_of
nowhere_unnamed q e = ap (λ (p : Place). p.label) e

named_made : (q : ℕ) (l : Label) → name_of q ≡ Some l → l.rule ≡ ru.Bad → ⊥
named_made q l e bad =
    ⊎_elim (λ (n : place q ≡ nowhere). none_not (sym (nowhere_unnamed q n) ∙ e))
    (λ (n : Has (numbers 0 places) q). not_use (is_bad l.rule) (on_some_use (λ v. not (is_bad v.rule)) (name_of q) l e (every_has c_made (numbers 0 places) made_checked q n)) (ap is_bad bad)) (either q)

at_made : (cs : List Lexeme) (h : ℕ) (g : Nonterminal) (y : ℕ) (sa : Scope) (p : Tree) (sw : Scope) → At cs h g y sa p sw → (out-Tree p).rule ≡ ru.Bad → ⊥
at_made cs zero g y sa p sw a = absurd (kind_flat cs y sa p sw a.1)
at_made cs (suc h) g y sa p sw a = (let i = kind_of cs h y sa p sw a.1 in named_made y (name p) i.ended.0)

token_not : ru.Token ≡ ru.Bad → ⊥
token_not e = cc

reads_bad : (cs : List Lexeme) (h : ℕ) (x : Symbol) (y : ℕ) (sa : Scope) (at : ℕ) (p : Tree) (sw : Scope) → Reads (At cs h) h cs x y sa at p sw → (out-Tree p).rule ≡ ru.Bad → Parses cs h sw nt.BlockItem (start p) None
reads_bad cs h (Token c a) y sa at p sw r e =
    absurd (token_not (sym (ap (λ v. v.rule) (out-roll-Tree (record { rule = ru.Token; choice = 0; from = at; to = at + 1; parts = [] }))) ∙ ap (λ (t : Tree). (out-Tree t).rule) (sym r.2) ∙ e))
reads_bad cs h (Node g) y sa at p sw r e = absurd (at_made cs h g y sa p sw r.0 e)
reads_bad cs h Entry y sa at p sw (inl r) e = absurd (at_made cs h nt.BlockItem y sa p sw r.0 e)
reads_bad cs h Entry y sa at p sw (inr r) e = record {
  found = tt;
  only = λ t z w a b stops. r.5 t z w (subst (λ (s : Scope). At cs h nt.BlockItem z s t w) r.3 a) (b ∙ ap start r.2 ∙ ap (λ v. v.from) (out-roll-Tree (record { rule = ru.Bad; choice = 0; from = at; to = bad_end cs at; parts = [] })));
}

-- where a bad item was read, no other derives from its first token on
pub part_bad : (cs : List Lexeme) (h : ℕ) (b : Option Separator) (x : Symbol) (y : ℕ) (sa : Scope) (at : ℕ) (p : Tree) (sw : Scope) → ReadsAfter (At cs h) h cs b x y sa at p sw → (out-Tree p).rule ≡ ru.Bad
    → Parses cs h sw nt.BlockItem (start p) None
part_bad cs h None x y sa at p sw r e = reads_bad cs h x y sa at p sw r e
part_bad cs h (Some b) x y sa at p sw r e = reads_bad cs h x y (pass cs sa b.act at) (at + 1) p sw r.1 e

-- nor from behind it, if it may stand before any
pub before_dead : (cs : List Lexeme) (h : ℕ) (s : Scope) (edge : Edge) (failed at : ℕ) → (edge.before ≡ None) × (edge.symbol ≡ Entry) → 2 ≤ h → Before cs (h - 2) s failed at → Parses cs h s nt.BlockItem failed None → Dead cs h s edge at
before_dead cs h s edge failed at is deep b none = record {
  before = is.0;
  symbol = is.1;
  none = record { found = tt; only = λ t z w a e stops. (let u = item_joins cs s h failed at deep b t z w a e in none.only u.0 z w u.1 u.2 (λ k token has. entry_stops k has)) };
  some = omega (arith, deep);
  token = item_starts cs (h - 2) s failed at b;
}
