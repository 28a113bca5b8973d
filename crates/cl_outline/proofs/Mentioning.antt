-- What a tree mentions, and what of it declares.
use Rattle.std.proofs.Common.{◌≡◌, Bool, false, List, [], ◌∷◌, ◌++◌, refl, sym, ap, ◌∙◌, map, append_assoc}
use Rattle.std.specs.Prelude.{if◌then◌else◌}
use Rattle.std.specs.List.{flat_map}
use Rattle.cl_base.specs.declared.token.PpToken.{PpToken}
use Rattle.cl_tree.specs.Derives.{parts, start}
use Rattle.cl_tree.specs.declared.tree.Tree.{Tree, out-Tree}
use Rattle.cl_tree.specs.declared.tree.Tree.TheFolds.{fold_out-Tree}
use Rattle.cl_outline.specs.declared.collect.Place.{Place}
use Rattle.cl_outline.specs.declared.mention.Mention.{Mention}
use Rattle.cl_outline.specs.declared.role.Role.{Role}
use Rattle.cl_outline.specs.Mentions.{by_role, inner, is_scoped, mentions, mentions_step, own}
use Rattle.cl_outline.specs.Roles.{role_of}

module _ (tokens : List PpToken) where
  -- the equation of what a tree mentions
  mentions_out : (t : Tree) (p : Place) → mentions tokens t p ≡ by_role tokens p (role_of (out-Tree t).rule (out-Tree t).choice) (start t) (map (mentions tokens) (parts t))
  mentions_out t p = ap (λ (f : Place → List Mention). f p) (fold_out-Tree (Place → List Mention) (mentions_step tokens) t)

  through : (p : Place) (ts : List Tree) → flat_map (λ (f : Place → List Mention). f p) (map (mentions tokens) ts) ≡ flat_map (λ (t : Tree). mentions tokens t p) ts
  through p [] = refl
  through p (t ∷ ts) = ap (λ (ms : List Mention). mentions tokens t p ++ ms) (through p ts)

  pub mentions_all : (t : Tree) (p : Place) (role : Role) (out mid end : List Mention) → role ≡ role_of (out-Tree t).rule (out-Tree t).choice → is_scoped role ≡ false → mid ≡ out ++ own tokens p role (start t)
      → end ≡ mid ++ flat_map (λ (x : Tree). mentions tokens x (inner p role)) (parts t) → end ≡ out ++ mentions tokens t p
  mentions_all t p role out mid end e s a b =
      let all : mentions tokens t p ≡ own tokens p role (start t) ++ flat_map (λ (x : Tree). mentions tokens x (inner p role)) (parts t) =
      mentions_out t p ∙ ap (λ (r : Role). by_role tokens p r (start t) (map (mentions tokens) (parts t))) (sym e)
      ∙ ap (λ (b : Bool). if b then [] else own tokens p role (start t) ++ flat_map (λ (f : Place → List Mention). f (inner p role)) (map (mentions tokens) (parts t))) s
      ∙ ap (λ (ms : List Mention). own tokens p role (start t) ++ ms) (through (inner p role) (parts t)) in
      b ∙ ap (λ (ms : List Mention). ms ++ flat_map (λ (x : Tree). mentions tokens x (inner p role)) (parts t)) a
      ∙ append_assoc out (own tokens p role (start t)) (flat_map (λ (x : Tree). mentions tokens x (inner p role)) (parts t)) ∙ ap (λ (ms : List Mention). out ++ ms) (sym all)
