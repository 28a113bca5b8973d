use Rattle.std.proofs.Common.{ℕ, ◌+◌, List, [], ◌∷◌, ◌++◌, ◌∙◌, ap, subst}
use Rattle.std.specs.Prelude.{Some, None, slice_get}
use Rattle.cl_tree.specs.declared.nonterminal.Nonterminal.TheVariants as nt
use Rattle.cl_tree.specs.declared.grammar.Act.TheVariants as ac
use Rattle.cl_tree.specs.declared.scope.Scope.{Scope}
use Rattle.cl_tree.specs.declared.tree.Tree.{Tree}
use Rattle.cl_tree.specs.Scopes.{pass}
use Rattle.cl_tree.specs.Derives.{end}
use Rattle.cl_expr.specs.code.Table.{edges, turn, next_by}
use Rattle.cl_expr.specs.code.Parses.{Parses, Ends}
use Rattle.cl_expr.proofs.Climb.{ok_map}
use Rattle.cl_expr.proofs.Elses.{next_else}
use Rattle.cl_expr.proofs.WithElse.{lost_stuck, lost_free, else_half, else_stuck, else_free, else_ends}
use Rattle.cl_expr.proofs.reader.Grammar.with_else.Goals as goal

pub node-requires-clause-stuck : goal.node-requires-clause-stuck
node-requires-clause-stuck g c = lost_stuck c.args.self.now.tokens.now c.args.self.now.depth c.args.before.now c.args.inside c.args.place c.args.parts c.args.from c.args.at c.args.height c.requires.token c.requires.bar (subst (λ (v : Scope). Parses c.args.self.now.tokens.now c.args.self.now.depth v nt.Statement (c.args.at + 1) None) (c.in_ok-beyond.ensures ∙ ap (λ (v : Scope). pass c.args.self.now.tokens.now v ac.Close c.args.at) c.in_ok-copy.ensures)
    (rw c.in_default.is at c.in_ok-statement.ensures))

pub node-requires-clause-free : goal.node-requires-clause-free
node-requires-clause-free g c = lost_free c.args.self.now.tokens.now c.args.self.now.depth c.args.before.now c.args.inside c.args.place c.args.parts c.args.from c.args.at c.args.height c.requires.token c.requires.bar (subst (λ (v : Scope). Parses c.args.self.now.tokens.now c.args.self.now.depth v nt.Statement (c.args.at + 1) None) (c.in_ok-beyond.ensures ∙ ap (λ (v : Scope). pass c.args.self.now.tokens.now v ac.Close c.args.at) c.in_ok-copy.ensures)
    (rw c.in_default.is at c.in_ok-statement.ensures))

pub node-requires-2-clause-half : goal.node-requires-2-clause-half
node-requires-2-clause-half g c =
    rw (c.in_ok-push-2.ensures.ok, c.in_ok-push.ensures.ok, c.token_leaf.ensures)
    (else_half c.args.self.now.tokens.now c.args.self.now.depth c.args.before.now c.args.inside c.args.place c.args.parts c.args.from c.args.at c.args.height c.requires.token c.requires.bar c.requires.half c.in-Some.statement
    (subst (λ (v : Scope). Parses c.args.self.now.tokens.now c.args.self.now.depth v nt.Statement (c.args.at + 1) (Some c.in-Some.statement)) (c.in_ok-beyond.ensures ∙ ap (λ (v : Scope). pass c.args.self.now.tokens.now v ac.Close c.args.at) c.in_ok-copy.ensures)
    (rw c.in-Some.is at c.in_ok-statement.ensures))
    c.turn-end.result c.larger-tall.result
    (c.turn-end.ensures ∙ ap (λ (v : ℕ). turn v c.in-Some.statement.place) (c.next_of-2.ensures ∙ ap (λ (v : ℕ). next_by (slice_get (edges v) 0) v) c.next_of.ensures ∙ next_else c.args.place c.requires.bar))
    c.larger-tall.ensures)

pub node-requires-2-clause-stuck : goal.node-requires-2-clause-stuck
node-requires-2-clause-stuck g c = else_stuck c.args.self.now.tokens.now c.args.self.now.depth c.args.before.now c.args.inside c.args.place c.args.parts c.args.from c.args.at c.args.height c.requires.token c.requires.bar c.requires.half c.in-Some.statement
    (subst (λ (v : Scope). Parses c.args.self.now.tokens.now c.args.self.now.depth v nt.Statement (c.args.at + 1) (Some c.in-Some.statement)) (c.in_ok-beyond.ensures ∙ ap (λ (v : Scope). pass c.args.self.now.tokens.now v ac.Close c.args.at) c.in_ok-copy.ensures)
    (rw c.in-Some.is at c.in_ok-statement.ensures))
    c.turn-end.result c.larger-tall.result
    (c.turn-end.ensures ∙ ap (λ (v : ℕ). turn v c.in-Some.statement.place) (c.next_of-2.ensures ∙ ap (λ (v : ℕ). next_by (slice_get (edges v) 0) v) c.next_of.ensures ∙ next_else c.args.place c.requires.bar))
    c.larger-tall.ensures

pub node-requires-2-clause-free : goal.node-requires-2-clause-free
node-requires-2-clause-free g c = else_free c.args.self.now.tokens.now c.args.self.now.depth c.args.before.now c.args.inside c.args.place c.args.parts c.args.from c.args.at c.args.height c.requires.token c.requires.bar c.requires.half c.in-Some.statement
    (subst (λ (v : Scope). Parses c.args.self.now.tokens.now c.args.self.now.depth v nt.Statement (c.args.at + 1) (Some c.in-Some.statement)) (c.in_ok-beyond.ensures ∙ ap (λ (v : Scope). pass c.args.self.now.tokens.now v ac.Close c.args.at) c.in_ok-copy.ensures)
    (rw c.in-Some.is at c.in_ok-statement.ensures))
    c.turn-end.result c.larger-tall.result
    (c.turn-end.ensures ∙ ap (λ (v : ℕ). turn v c.in-Some.statement.place) (c.next_of-2.ensures ∙ ap (λ (v : ℕ). next_by (slice_get (edges v) 0) v) c.next_of.ensures ∙ next_else c.args.place c.requires.bar))
    c.larger-tall.ensures

pub returns : goal.returns
returns g c =
    let all_is = c.in_ok-push-2.ensures.ok ∙ ap (λ (v : List Tree). v ++ c.in-Some.statement.tree ∷ []) (c.in_ok-push.ensures.ok ∙ ap (λ (v : Tree). c.args.parts ++ v ∷ []) c.token_leaf.ensures) in
    ok_map (Ends c.args.self.now.tokens.now c.args.self.now.depth c.args.before.now c.in-Some.statement.scope c.turn-end.result c.push-2.new.self c.args.from (end c.in-Some.statement.tree))
    (Ends c.args.self.now.tokens.now c.args.self.now.depth c.args.before.now c.args.inside c.args.place c.args.parts c.args.from c.args.at) c.node-2.result
    (λ o e. else_ends c.args.self.now.tokens.now c.args.self.now.depth c.args.before.now c.args.inside c.args.place c.args.parts c.args.from c.args.at c.args.height c.requires.token c.requires.bar c.requires.half c.in-Some.statement
    (subst (λ (v : Scope). Parses c.args.self.now.tokens.now c.args.self.now.depth v nt.Statement (c.args.at + 1) (Some c.in-Some.statement)) (c.in_ok-beyond.ensures ∙ ap (λ (v : Scope). pass c.args.self.now.tokens.now v ac.Close c.args.at) c.in_ok-copy.ensures)
    (rw c.in-Some.is at c.in_ok-statement.ensures))
    c.turn-end.result c.larger-tall.result
    (c.turn-end.ensures ∙ ap (λ (v : ℕ). turn v c.in-Some.statement.place) (c.next_of-2.ensures ∙ ap (λ (v : ℕ). next_by (slice_get (edges v) 0) v) c.next_of.ensures ∙ next_else c.args.place c.requires.bar))
    c.larger-tall.ensures o
    (subst (λ (v : List Tree). Ends c.args.self.now.tokens.now c.args.self.now.depth c.args.before.now c.in-Some.statement.scope c.turn-end.result v c.args.from (end c.in-Some.statement.tree) o) all_is e)) c.node-2.ensures
