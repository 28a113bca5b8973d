-- What holds of a type where it holds of the types within it, holds of each type.
use Rattle.std.proofs.Common.{◌≡◌, List, [], ◌∷◌, map, sym, subst, rules}
use Rattle.cl_types.specs.declared.types.CType.{CType}
use Rattle.cl_types.specs.declared.types.CType.TheFolds.{ind-CType, map-CType, map-Params}
use Rattle.cl_types.specs.declared.types.CType.TheOpen.{CType-F, Params-F}
use Rattle.cl_types.specs.declared.types.CType.TheViews.{out-CType, roll-CType, out-Params, roll-Params, the_lemmas}
use Rattle.cl_types.specs.declared.types.Params.{Params}
use Rattle.cl_types.specs.Form.{Form, Form as f, form}

module _ (P : CType → Type 0) where
  abbrev pub Each : List CType → Type 0
  Each [] = Unit {0}
  Each (t ∷ ts) = P t × Each ts

  abbrev pub EachOf : Params-F CType Params → Type 0
  EachOf (Params-F.Proto ts v) = Each ts
  EachOf Params-F.NoProto = Unit {0}

  abbrev pub Inside : Form CType Params → Type 0
  Inside (f.Pointer t) = P t
  Inside (f.Array t n) = P t
  Inside (f.Function t ps) = P t × EachOf (out-Params ps)
  Inside (f.Qualified q t) = P t
  Inside (f.Atomic t) = P t
  Inside _ = Unit {0}

  abbrev pub Within : CType-F CType Params → Type 0
  Within x = Inside (form x)

  abbrev Parameters : Params → Type 0
  Parameters ps = EachOf (out-Params ps)

  each_first : (es : List ((t : CType) × P t)) → Each (map (λ (e : (t : CType) × P t). e.0) es)
  each_first [] = tt
  each_first (e ∷ es) = (e.1, each_first es)

  listed_first : (y : Params-F ((t : CType) × P t) ((ps : Params) × Parameters ps)) → EachOf (map-Params ((t : CType) × P t) ((ps : Params) × Parameters ps) CType Params (λ e. e.0) (λ e. e.0) y)
  listed_first (Params-F.Proto es v) = each_first es
  listed_first Params-F.NoProto = tt

  within_first : (y : CType-F ((t : CType) × P t) ((ps : Params) × Parameters ps)) → Within (map-CType ((t : CType) × P t) ((ps : Params) × Parameters ps) CType Params (λ e. e.0) (λ e. e.0) y)
  within_first (CType-F.Pointer e) = e.1
  within_first (CType-F.Array e n) = e.1
  within_first (CType-F.Function e es) = (e.1, es.1)
  within_first (CType-F.Qualified q e) = e.1
  within_first (CType-F.Atomic e) = e.1
  within_first _ = tt

  out_roll : (z : Params-F CType Params) → out-Params (roll-Params z) ≡ z
  out_roll z = search (rules, the_lemmas)

  pub by_layers : ((x : CType-F CType Params) → Within x → P (roll-CType x)) → (t : CType) → P t
  by_layers step = ind-CType P Parameters
      (λ x y is. step x (subst Within is (within_first y)))
      (λ x y is. subst EachOf (sym (out_roll x)) (subst EachOf is (listed_first y)))

  out_roll_type : (x : CType-F CType Params) → out-CType (roll-CType x) ≡ x
  out_roll_type x = search (rules, the_lemmas)

  -- the same, of a type with its layer in view
  pub by_forms : ((a : CType) → Inside (form (out-CType a)) → P a) → (t : CType) → P t
  by_forms step = by_layers (λ x w. step (roll-CType x) (subst Within (sym (out_roll_type x)) w))
