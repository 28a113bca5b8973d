-- What a comparison knows of promotions is what they do.
use Rattle.std.proofs.Common.{◌≡◌, Bool, List, [], ◌∷◌, map, Option, refl, sym, ap, ◌∙◌}
use Rattle.cl_types.specs.declared.types.CType.{CType}
use Rattle.cl_types.specs.declared.types.CType.TheFolds.{fold-Params, fold-roll-CType, map-CType}
use Rattle.cl_types.specs.declared.types.CType.TheOpen.{CType-F}
use Rattle.cl_types.specs.declared.types.CType.TheViews.{roll-CType}
use Rattle.cl_types.specs.declared.types.Params.{Params}
use Rattle.cl_types.specs.Compatible.{compared, compared_by, promoted, Compared}
use Rattle.cl_types.specs.Form.{form, listed, promoted_in}
use Rattle.cl_types.proofs.Induction.{by_layers, Within}

abbrev pub compared_params : Params → Option (List Compared × Bool)
compared_params = fold-Params Compared (Option (List Compared × Bool)) compared_by listed

abbrev pub promoted_params : Params → Option (List Bool × Bool)
promoted_params = fold-Params Bool (Option (List Bool × Bool)) (λ l. promoted_in (form l)) listed

pub compared_roll : (x : CType-F CType Params) → compared (roll-CType x) ≡ compared_by (map-CType CType Params Compared (Option (List Compared × Bool)) compared compared_params x)
compared_roll x = fold-roll-CType Compared (Option (List Compared × Bool)) compared_by listed x

promoted_roll : (x : CType-F CType Params) → promoted (roll-CType x) ≡ promoted_in (form (map-CType CType Params Bool (Option (List Bool × Bool)) promoted promoted_params x))
promoted_roll x = fold-roll-CType Bool (Option (List Bool × Bool)) (λ l. promoted_in (form l)) listed x

abbrev Agrees : CType → Type 0
Agrees t = (compared t).promoted ≡ promoted t

inner : (x : CType-F CType Params) → Within Agrees x →
    (compared_by (map-CType CType Params Compared (Option (List Compared × Bool)) compared compared_params x)).promoted
    ≡ promoted_in (form (map-CType CType Params Bool (Option (List Bool × Bool)) promoted promoted_params x))
inner (CType-F.Qualified q t) w = w
inner _ w = refl

layer : (x : CType-F CType Params) → Within Agrees x → Agrees (roll-CType x)
layer x w = ap (λ (c : Compared). c.promoted) (compared_roll x) ∙ inner x w ∙ sym (promoted_roll x)

pub promoted_agrees : (t : CType) → Agrees t
promoted_agrees = by_layers Agrees layer

pub all_promoted_agrees : (ts : List CType) → map (λ (c : Compared). c.promoted) (map compared ts) ≡ map promoted ts
all_promoted_agrees [] = refl
all_promoted_agrees (t ∷ ts) = ap (λ (bs : List Bool). (compared t).promoted ∷ bs) (all_promoted_agrees ts) ∙ ap (λ (b : Bool). b ∷ map promoted ts) (promoted_agrees t)
