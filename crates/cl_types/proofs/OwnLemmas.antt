-- A type is what a composition keeps of it.
use Rattle.std.proofs.Common.{◌≡◌, Bool, false, List, [], ◌∷◌, map, Option, refl, sym, ap, ◌∙◌, rules}
use Rattle.cl_types.specs.declared.types.CType.{CType}
use Rattle.cl_types.specs.declared.types.CType.TheFolds.{fold_out-CType, fold_out-Params, fold-roll-CType, map-CType, map-Params}
use Rattle.cl_types.specs.declared.types.CType.TheOpen.{CType-F, Params-F}
use Rattle.cl_types.specs.declared.types.CType.TheViews.{out-CType, out-Params, roll-CType, roll-Params, the_lemmas}
use Rattle.cl_types.specs.declared.types.Params.{Params}
use Rattle.cl_types.specs.declared.types.Params.TheVariants as make_params
use Rattle.cl_types.specs.Composite.{Composed, compose, compose_bare, composed, composed_by, composed_params, composite, own_by, own_listed}
use Rattle.cl_types.specs.Form.{Form, Form as f, form, listed, unqualified}
use Rattle.cl_types.specs.code.Pairs.{is_qualified, is_qualified_by, paired, paired_by}
use Rattle.cl_types.proofs.Induction.{by_layers, Within, Each, EachOf}

abbrev IsOwn : CType → Type 0
IsOwn t = (composed t).own ≡ t

composed_roll : (x : CType-F CType Params) → composed (roll-CType x) ≡ composed_by (map-CType CType Params Composed (Option (List Composed × Bool)) composed composed_params x)
composed_roll x = fold-roll-CType Composed (Option (List Composed × Bool)) composed_by listed x

own_each : (ts : List CType) → Each IsOwn ts → map (λ (c : Composed). c.own) (map composed ts) ≡ ts
own_each [] w = refl
own_each (t ∷ ts) w = ap (λ (us : List CType). (composed t).own ∷ us) (own_each ts w.1) ∙ ap (λ (u : CType). u ∷ ts) w.0

roll_of_out : (ps : Params) → roll-Params (out-Params ps) ≡ ps
roll_of_out ps = search (rules, the_lemmas)

own_layer : (z : Params-F CType Params) → EachOf IsOwn z → own_listed (listed (map-Params CType Params Composed (Option (List Composed × Bool)) composed composed_params z)) ≡ roll-Params z
own_layer (Params-F.Proto ts v) w = ap (λ (us : List CType). make_params.Proto us v) (own_each ts w) ∙ search (rules, the_lemmas)
own_layer Params-F.NoProto w = search (rules, the_lemmas)

own_params : (ps : Params) → EachOf IsOwn (out-Params ps) → own_listed (composed_params ps) ≡ ps
own_params ps w = ap own_listed (fold_out-Params Composed (Option (List Composed × Bool)) composed_by listed ps) ∙ own_layer (out-Params ps) w ∙ roll_of_out ps

inner : (x : CType-F CType Params) → Within IsOwn x →
    map-CType Composed (Option (List Composed × Bool)) CType Params (λ c. c.own) own_listed (map-CType CType Params Composed (Option (List Composed × Bool)) composed composed_params x) ≡ x
inner (CType-F.Pointer t) w = ap (λ (u : CType). CType-F.Pointer u) w
inner (CType-F.Array t n) w = ap (λ (u : CType). CType-F.Array u n) w
inner (CType-F.Function t ps) w = ap (λ (u : CType). CType-F.Function u (own_listed (composed_params ps))) w.0 ∙ ap (λ (qs : Params). CType-F.Function t qs) (own_params ps w.1)
inner (CType-F.Qualified q t) w = ap (λ (u : CType). CType-F.Qualified q u) w
inner (CType-F.Atomic t) w = ap (λ (u : CType). CType-F.Atomic u) w
inner _ w = refl

layer : (x : CType-F CType Params) → Within IsOwn x → IsOwn (roll-CType x)
layer x w = ap (λ (c : Composed). c.own) (composed_roll x) ∙ ap roll-CType (inner x w)

pub is_own : (t : CType) → (composed t).own ≡ t
is_own = by_layers IsOwn layer

pub own_listing : (ts : List CType) → map (λ (c : Composed). c.own) (map composed ts) ≡ ts
own_listing [] = refl
own_listing (t ∷ ts) = ap (λ (us : List CType). (composed t).own ∷ us) (own_listing ts) ∙ ap (λ (u : CType). u ∷ ts) (is_own t)

own_parts : (z : Params-F CType Params) → own_listed (listed (map-Params CType Params Composed (Option (List Composed × Bool)) composed composed_params z)) ≡ roll-Params z
own_parts (Params-F.Proto ts v) = ap (λ (us : List CType). make_params.Proto us v) (own_listing ts) ∙ search (rules, the_lemmas)
own_parts Params-F.NoProto = search (rules, the_lemmas)

pub own_parameters : (ps : Params) → own_listed (composed_params ps) ≡ ps
own_parameters ps = ap own_listed (fold_out-Params Composed (Option (List Composed × Bool)) composed_by listed ps) ∙ own_parts (out-Params ps) ∙ roll_of_out ps

pub composed_out : (a : CType) → composed a ≡ composed_by (map-CType CType Params Composed (Option (List Composed × Bool)) composed composed_params (out-CType a))
composed_out a = fold_out-CType Composed (Option (List Composed × Bool)) composed_by listed a

pub own_of : (a : CType) → own_by (map-CType CType Params Composed (Option (List Composed × Bool)) composed composed_params (out-CType a)) ≡ a
own_of a = sym (ap (λ (c : Composed). c.own) (composed_out a)) ∙ is_own a

unlike : (x : CType-F CType Params) (z : Form CType Params) (a b : CType) → paired_by (form x) z ≡ false →
    compose a (form (map-CType CType Params Composed (Option (List Composed × Bool)) composed composed_params x)) b z ≡ a
unlike CType-F.Error z a b h = cc
unlike (CType-F.Pointer t) (f.Pointer u) a b h = cc
unlike (CType-F.Array t n) (f.Array u m) a b h = cc
unlike (CType-F.Function t ps) (f.Function u qs) a b h = cc
unlike (CType-F.Qualified q t) (f.Qualified r u) a b h = cc
unlike (CType-F.Atomic t) (f.Atomic u) a b h = cc
unlike _ _ a b h = refl

pub first_left : (a b : CType) → paired a b ≡ false → composite a b ≡ a
first_left a b h =
    ap (λ (c : Composed). c.whole b) (composed_out a)
    ∙ unlike (out-CType a) (form (out-CType b)) (own_by (map-CType CType Params Composed (Option (List Composed × Bool)) composed composed_params (out-CType a))) b h
    ∙ own_of a

unqualified_bare : (x : CType-F CType Params) (a b : CType) → is_qualified_by (form x) ≡ false →
    compose_bare a (form (map-CType CType Params Composed (Option (List Composed × Bool)) composed composed_params x)) b
    ≡ compose a (form (map-CType CType Params Composed (Option (List Composed × Bool)) composed composed_params x)) (unqualified b) (form (out-CType (unqualified b)))
unqualified_bare (CType-F.Qualified q t) a b h = cc
unqualified_bare _ a b h = refl

pub bare_left : (a b : CType) → is_qualified a ≡ false → (composed a).bare b ≡ composite a (unqualified b)
bare_left a b h =
    ap (λ (c : Composed). c.bare b) (composed_out a)
    ∙ unqualified_bare (out-CType a) (own_by (map-CType CType Params Composed (Option (List Composed × Bool)) composed composed_params (out-CType a))) b h
    ∙ sym (ap (λ (c : Composed). c.whole (unqualified b)) (composed_out a))
