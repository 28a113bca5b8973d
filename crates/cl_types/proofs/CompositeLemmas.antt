-- A composite type is compatible with both of its types.
use Rattle.std.proofs.Common.{◌≡◌, ℕ, ◌==◌, ◌&&◌, Bool, true, false, List, [], ◌∷◌, length, map, Option, Some, None, refl, sym, ap, ◌∙◌, arith, rules}
use Rattle.std.proofs.lemmas.Grind.{common_steps}
use Rattle.cl_types.specs.declared.types.Length.{Length}
use Rattle.cl_types.specs.declared.types.Length.TheVariants as length_of
use Rattle.cl_types.specs.declared.types.CType.{CType}
use Rattle.cl_types.specs.declared.types.CType.TheFolds.{fold-Params, fold_out-CType, fold_out-Params, map-CType, map-Params}
use Rattle.cl_types.specs.declared.types.CType.TheOpen.{Params-F}
use Rattle.cl_types.specs.declared.types.CType.TheVariants as make
use Rattle.cl_types.specs.declared.types.CType.TheViews.{out-CType, out-Params, roll-Params, the_lemmas}
use Rattle.cl_types.specs.declared.types.Params.{Params}
use Rattle.cl_types.specs.declared.types.Params.TheVariants as make_params
use Rattle.cl_types.specs.Compatible.{Compared, agree, both_or_none, compared, compatible, same, same_each, same_listed}
use Rattle.cl_types.specs.Composite.{Composed, compose, compose_bare, compose_each, compose_listed, composed, composed_by, composed_params, composite, longer, own_listed}
use Rattle.cl_types.specs.Form.{Form, Form as f, form, listed, unqualified, unqualified_by}
use Rattle.cl_types.specs.Normal.{Normal, all_hold, listed_hold, normal, normal_by, is_normal}
use Rattle.cl_types.specs.code.Pairs.{is_qualified, is_qualified_by}
use Rattle.cl_types.proofs.CompatibleLemmas.{alike, and_both, compatible_layers, compatible_reflexive, compatible_symmetric, form_map, listed_out, map_form, number_itself, params_itself, params_symmetric, parts, same_alike}
use Rattle.cl_types.proofs.Induction.{by_forms, Inside, Each, EachOf}
use Rattle.cl_types.proofs.OwnLemmas.{composed_out, own_of, own_parameters}
use Rattle.cl_types.proofs.PromotedLemmas.{compared_params}

-- tests that both hold
pub left_true : (a b : Bool) → (a && b) ≡ true → a ≡ true
left_true true b h = refl
left_true false b h = cc

pub right_true : (a b : Bool) → (a && b) ≡ true → b ≡ true
right_true true b h = h
right_true false b h = cc

pub both_true : (a b : Bool) → a ≡ true → b ≡ true → (a && b) ≡ true
both_true a b g h = and_both a b true true g h

-- composite types layer beside layer
abbrev pub whole_parts : Form CType Params → Form Composed (Option (List Composed × Bool))
whole_parts = map_form composed composed_params

pub composite_layers : (a b : CType) → composite a b ≡ compose a (whole_parts (form (out-CType a))) b (form (out-CType b))
composite_layers a b =
    ap (λ (c : Composed). c.whole b) (composed_out a)
    ∙ ap (λ (o : CType). compose o (form (map-CType CType Params Composed (Option (List Composed × Bool)) composed composed_params (out-CType a))) b (form (out-CType b))) (own_of a)
    ∙ ap (λ (l : Form Composed (Option (List Composed × Bool))). compose a l b (form (out-CType b))) (form_map CType Params Composed (Option (List Composed × Bool)) composed composed_params (out-CType a))

bare_form : (l : Form CType Params) (a b : CType) → compose a (whole_parts l) (unqualified b) (form (out-CType (unqualified b))) ≡ composite a (unqualified b) →
    compose_bare a (whole_parts l) b ≡ composite (unqualified_by l a) (unqualified b)
bare_form (f.Qualified q t) a b e = refl
bare_form f.Void a b e = e
bare_form _ a b e = e

pub bare_composite : (a b : CType) → (composed a).bare b ≡ composite (unqualified a) (unqualified b)
bare_composite a b =
    ap (λ (c : Composed). c.bare b) (composed_out a)
    ∙ ap (λ (o : CType). compose_bare o (form (map-CType CType Params Composed (Option (List Composed × Bool)) composed composed_params (out-CType a))) b) (own_of a)
    ∙ ap (λ (l : Form Composed (Option (List Composed × Bool))). compose_bare a l b) (form_map CType Params Composed (Option (List Composed × Bool)) composed composed_params (out-CType a))
    ∙ bare_form (form (out-CType a)) a b (sym (composite_layers a (unqualified b)))

-- normal form layer beside layer
abbrev pub normal_params : Params → Option (List Normal × Bool)
normal_params = fold-Params Normal (Option (List Normal × Bool)) (λ l. normal_by (form l)) listed

abbrev pub normal_parts : Form CType Params → Form Normal (Option (List Normal × Bool))
normal_parts = map_form normal normal_params

pub normal_layers : (a : CType) → normal a ≡ normal_by (normal_parts (form (out-CType a)))
normal_layers a =
    fold_out-CType Normal (Option (List Normal × Bool)) (λ l. normal_by (form l)) listed a
    ∙ ap normal_by (form_map CType Params Normal (Option (List Normal × Bool)) normal normal_params (out-CType a))

abbrev pub IsGood : Form CType Params → Type 0
IsGood l = (normal_by (normal_parts l)).holds ≡ true

pub good_of : (a : CType) (l : Form CType Params) → form (out-CType a) ≡ l → is_normal a ≡ true → IsGood l
good_of a l e h =
    sym (ap (λ (n : Normal). n.holds) (normal_layers a) ∙ ap (λ (m : Form CType Params). (normal_by (normal_parts m)).holds) e) ∙ h

bare_by_form : (l : Form CType Params) → (normal_by (normal_parts l)).bare ≡ true → is_qualified_by l ≡ false
bare_by_form (f.Qualified q t) h = cc
bare_by_form f.Void h = refl
bare_by_form _ h = refl

bare_unqualified : (t : CType) → (normal t).bare ≡ true → is_qualified t ≡ false
bare_unqualified t h = bare_by_form (form (out-CType t)) (sym (ap (λ (n : Normal). n.bare) (normal_layers t)) ∙ h)

-- a parameter without its qualifiers is in normal form and is not qualified
inner_form : (l : Form CType Params) (a : CType) → form (out-CType a) ≡ l → IsGood l → is_normal a ≡ true →
    (is_normal (unqualified_by l a) ≡ true) × (is_qualified (unqualified_by l a) ≡ false)
inner_form (f.Qualified q t) a e g h = (left_true _ _ (left_true _ _ g), bare_unqualified t (right_true _ _ (left_true _ _ g)))
inner_form f.Void a e g h = (h, ap is_qualified_by e)
inner_form (f.Arithmetic k) a e g h = (h, ap is_qualified_by e)
inner_form (f.Pointer t) a e g h = (h, ap is_qualified_by e)
inner_form (f.Array t n) a e g h = (h, ap is_qualified_by e)
inner_form (f.Function t ps) a e g h = (h, ap is_qualified_by e)
inner_form (f.Tag n w) a e g h = (h, ap is_qualified_by e)
inner_form (f.Atomic t) a e g h = (h, ap is_qualified_by e)
inner_form f.Error a e g h = (h, ap is_qualified_by e)

pub inner_type : (a : CType) → is_normal a ≡ true → (is_normal (unqualified a) ≡ true) × (is_qualified (unqualified a) ≡ false)
inner_type a h = inner_form (form (out-CType a)) a refl (good_of a (form (out-CType a)) refl h) h

itself_form : (l : Form CType Params) (a : CType) → is_qualified_by l ≡ false → unqualified_by l a ≡ a
itself_form (f.Qualified q t) a h = cc
itself_form f.Void a h = refl
itself_form _ a h = refl

unqualified_itself : (a : CType) → is_qualified a ≡ false → unqualified a ≡ a
unqualified_itself a h = itself_form (form (out-CType a)) a h

-- the layer of a made type
pub out_pointer : (t : CType) → form (out-CType (make.Pointer t)) ≡ f.Pointer t
out_pointer t = search (rules, the_lemmas)

pub out_array : (t : CType) (n : Length) → form (out-CType (make.Array t n)) ≡ f.Array t n
out_array t n = search (rules, the_lemmas)

pub out_function : (t : CType) (ps : Params) → form (out-CType (make.Function t ps)) ≡ f.Function t ps
out_function t ps = search (rules, the_lemmas)

pub out_qualified : (q : ℕ) (t : CType) → form (out-CType (make.Qualified q t)) ≡ f.Qualified q t
out_qualified q t = search (rules, the_lemmas)

pub out_atomic : (t : CType) → form (out-CType (make.Atomic t)) ≡ f.Atomic t
out_atomic t = search (rules, the_lemmas)

pub out_proto : (ts : List CType) (v : Bool) → out-Params (make_params.Proto ts v) ≡ Params-F.Proto ts v
out_proto ts v = search (rules, the_lemmas)

unqualified_form : (l m : Form CType Params) (a b : CType) → is_qualified_by l ≡ false → is_qualified a ≡ false → is_qualified b ≡ false →
    is_qualified (compose a (whole_parts l) b m) ≡ false
unqualified_form f.Error m a b h g k = k
unqualified_form (f.Pointer t) (f.Pointer u) a b h g k = ap is_qualified_by (out_pointer _)
unqualified_form (f.Array t n) (f.Array u m) a b h g k = ap is_qualified_by (out_array _ _)
unqualified_form (f.Function t ps) (f.Function u qs) a b h g k = ap is_qualified_by (out_function _ _)
unqualified_form (f.Qualified q t) m a b h g k = cc
unqualified_form (f.Atomic t) (f.Atomic u) a b h g k = ap is_qualified_by (out_atomic _)
unqualified_form _ _ a b h g k = g

composite_unqualified : (a b : CType) → is_qualified a ≡ false → is_qualified b ≡ false → is_qualified (composite a b) ≡ false
composite_unqualified a b g k = ap is_qualified (composite_layers a b) ∙ unqualified_form (form (out-CType a)) (form (out-CType b)) a b g g k

-- two types of known layers
layers_of : (x a : CType) (l m : Form CType Params) → form (out-CType x) ≡ l → form (out-CType a) ≡ m → compatible x a ≡ same (parts l) m
layers_of x a l m e g =
    compatible_layers x a
    ∙ ap (λ (k : Form CType Params). same (parts k) (form (out-CType a))) e
    ∙ ap (λ (k : Form CType Params). same (parts l) k) g

abbrev FitsBoth : CType → CType → CType → Type 0
FitsBoth c a b = (compatible c a ≡ true) × (compatible c b ≡ true)

abbrev IsFitting : CType → Type 0
IsFitting a = (b : CType) → is_normal a ≡ true → is_normal b ≡ true → compatible a b ≡ true → FitsBoth (composite a b) a b

abbrev Fitting : CType → Type 0
Fitting a = IsFitting a × IsFitting (unqualified a)

-- parameters
abbrev pub together : List CType → List CType → List CType
together ts us = compose_each (map composed ts) us

same_count : (ts us : List CType) → (length (map compared ts) == length us) ≡ true → ((length (map compared (together ts us)) == length ts) ≡ true) × ((length (map compared (together ts us)) == length us) ≡ true)
same_count [] [] h = (refl, refl)
same_count [] (u ∷ us) h = absurd (grind (arith, common_steps))
same_count (t ∷ ts) [] h = absurd (grind (arith, common_steps))
same_count (t ∷ ts) (u ∷ us) h = let k = same_count ts us (grind (arith, common_steps)) in (grind (arith, common_steps, k.0), grind (arith, common_steps, k.1))

one_fits : (t u : CType) → IsFitting (unqualified t) → is_normal t ≡ true → is_normal u ≡ true → compatible (unqualified t) (unqualified u) ≡ true →
    (compatible (unqualified ((composed t).bare u)) (unqualified t) ≡ true) × (compatible (unqualified ((composed t).bare u)) (unqualified u) ≡ true)
one_fits t u w g k h =
    let fits : FitsBoth (composite (unqualified t) (unqualified u)) (unqualified t) (unqualified u) = w (unqualified u) (inner_type t g).0 (inner_type u k).0 h in
    let e : unqualified ((composed t).bare u) ≡ composite (unqualified t) (unqualified u) =
    ap unqualified (bare_composite t u) ∙ unqualified_itself (composite (unqualified t) (unqualified u)) (composite_unqualified (unqualified t) (unqualified u) (inner_type t g).1 (inner_type u k).1) in
    (ap (λ (c : CType). compatible c (unqualified t)) e ∙ fits.0, ap (λ (c : CType). compatible c (unqualified u)) e ∙ fits.1)

each_fits : (ts us : List CType) → Each Fitting ts → all_hold (map normal ts) ≡ true → all_hold (map normal us) ≡ true → alike ts us ≡ true →
    (alike (together ts us) ts ≡ true) × (alike (together ts us) us ≡ true)
each_fits [] us w g k h = (refl, refl)
each_fits (t ∷ ts) [] w g k h = (refl, refl)
each_fits (t ∷ ts) (u ∷ us) w g k h =
    let first = one_fits t u w.0.1 (left_true _ _ g) (left_true _ _ k) (left_true _ _ h) in
    let more = each_fits ts us w.1 (right_true _ _ g) (right_true _ _ k) (right_true _ _ h) in
    (both_true _ _ first.0 more.0, both_true _ _ first.1 more.1)

params_out : (ps : Params) (y : Params-F CType Params) → out-Params ps ≡ y → compared_params ps ≡ listed (map-Params CType Params Compared (Option (List Compared × Bool)) compared compared_params y)
params_out ps y e = listed_out ps ∙ ap (λ (z : Params-F CType Params). listed (map-Params CType Params Compared (Option (List Compared × Bool)) compared compared_params z)) e

pub composed_params_out : (ps : Params) (y : Params-F CType Params) → out-Params ps ≡ y → composed_params ps ≡ listed (map-Params CType Params Composed (Option (List Composed × Bool)) composed composed_params y)
composed_params_out ps y e =
    fold_out-Params Composed (Option (List Composed × Bool)) composed_by listed ps
    ∙ ap (λ (z : Params-F CType Params). listed (map-Params CType Params Composed (Option (List Composed × Bool)) composed composed_params z)) e

pub normal_params_out : (ps : Params) (y : Params-F CType Params) → out-Params ps ≡ y → normal_params ps ≡ listed (map-Params CType Params Normal (Option (List Normal × Bool)) normal normal_params y)
normal_params_out ps y e =
    fold_out-Params Normal (Option (List Normal × Bool)) (λ l. normal_by (form l)) listed ps
    ∙ ap (λ (z : Params-F CType Params). listed (map-Params CType Params Normal (Option (List Normal × Bool)) normal normal_params z)) e

-- two parameter lists of known layers
params_layers : (cs ps : Params) (y z : Params-F CType Params) → out-Params cs ≡ y → out-Params ps ≡ z →
    same_listed (compared_params cs) (listed (out-Params ps)) ≡ same_listed (listed (map-Params CType Params Compared (Option (List Compared × Bool)) compared compared_params y)) (listed z)
params_layers cs ps y z e g =
    ap (λ (l : Option (List Compared × Bool)). same_listed l (listed (out-Params ps))) (params_out cs y e)
    ∙ ap (λ (k : Params-F CType Params). same_listed (listed (map-Params CType Params Compared (Option (List Compared × Bool)) compared compared_params y)) (listed k)) g

abbrev pub joint : Params → Params → Params
joint ps qs = compose_listed (composed_params ps) (listed (out-Params qs))

abbrev FitsParams : Params → Params → Params → Type 0
FitsParams cs ps qs = (same_listed (compared_params cs) (listed (out-Params ps)) ≡ true) × (same_listed (compared_params cs) (listed (out-Params qs)) ≡ true)

more_fit : (v u : Bool) → both_or_none v u ≡ true → both_or_none v v ≡ true
more_fit true u h = refl
more_fit false u h = refl

proto_fit : (ts us : List CType) (v u : Bool) → Each Fitting ts → all_hold (map normal ts) ≡ true → all_hold (map normal us) ≡ true →
    (both_or_none v u && (length (map compared ts) == length us && same_each (map compared ts) us)) ≡ true →
    ((both_or_none v v && (length (map compared (together ts us)) == length ts && same_each (map compared (together ts us)) ts)) ≡ true)
    × ((both_or_none v u && (length (map compared (together ts us)) == length us && same_each (map compared (together ts us)) us)) ≡ true)
proto_fit ts us v u w g k h =
    let lists : (length (map compared ts) == length us && same_each (map compared ts) us) ≡ true = right_true _ _ h in
    let counts = same_count ts us (left_true _ _ lists) in
    let items = each_fits ts us w g k (sym (same_alike ts us) ∙ right_true _ _ lists) in (
      both_true _ _ (more_fit v u (left_true _ _ h)) (both_true _ _ counts.0 (same_alike (together ts us) ts ∙ items.0)),
      both_true _ _ (left_true _ _ h) (both_true _ _ counts.1 (same_alike (together ts us) us ∙ items.1)),
    )

pub unlisted : (l : Option (List Composed × Bool)) → compose_listed l None ≡ own_listed l
unlisted None = refl
unlisted (Some p) = refl

pub proto_of : (qs : Params) (us : List CType) (u : Bool) → out-Params qs ≡ Params-F.Proto us u → make_params.Proto us u ≡ qs
proto_of qs us u g = search (rules, the_lemmas) ∙ sym (ap roll-Params g) ∙ search (rules, the_lemmas)

joint_fits : (ps qs : Params) (y z : Params-F CType Params) → out-Params ps ≡ y → out-Params qs ≡ z → EachOf Fitting y →
    listed_hold (normal_params ps) ≡ true → listed_hold (normal_params qs) ≡ true →
    same_listed (compared_params ps) (listed (out-Params qs)) ≡ true → FitsParams (joint ps qs) ps qs
joint_fits ps qs (Params-F.Proto ts v) (Params-F.Proto us u) e g w m n h =
    let made : joint ps qs ≡ make_params.Proto (together ts us) v =
    ap (λ (l : Option (List Composed × Bool)). compose_listed l (listed (out-Params qs))) (composed_params_out ps _ e)
    ∙ ap (λ (k : Params-F CType Params). compose_listed (Some (map composed ts, v)) (listed k)) g in
    let outs : out-Params (joint ps qs) ≡ Params-F.Proto (together ts us) v = ap out-Params made ∙ out_proto (together ts us) v in
    let fits = proto_fit ts us v u w
    (sym (ap listed_hold (normal_params_out ps _ e)) ∙ m) (sym (ap listed_hold (normal_params_out qs _ g)) ∙ n)
    (sym (params_layers ps qs _ _ e g) ∙ h) in
    (params_layers (joint ps qs) ps _ _ outs e ∙ fits.0, params_layers (joint ps qs) qs _ _ outs g ∙ fits.1)
joint_fits ps qs y Params-F.NoProto e g w m n h =
    let made : joint ps qs ≡ ps =
    ap (λ (k : Params-F CType Params). compose_listed (composed_params ps) (listed k)) g ∙ unlisted (composed_params ps) ∙ own_parameters ps in (
      ap (λ (cs : Params). same_listed (compared_params cs) (listed (out-Params ps))) made ∙ params_itself ps,
      ap (λ (cs : Params). same_listed (compared_params cs) (listed (out-Params qs))) made ∙ h,
    )
joint_fits ps qs Params-F.NoProto (Params-F.Proto us u) e g w m n h =
    let made : joint ps qs ≡ qs =
    ap (λ (l : Option (List Composed × Bool)). compose_listed l (listed (out-Params qs))) (composed_params_out ps _ e)
    ∙ ap (λ (k : Params-F CType Params). compose_listed None (listed k)) g
    ∙ proto_of qs us u g in (
      ap (λ (cs : Params). same_listed (compared_params cs) (listed (out-Params ps))) made ∙ params_symmetric qs ps ∙ h,
      ap (λ (cs : Params). same_listed (compared_params cs) (listed (out-Params qs))) made ∙ params_itself qs,
    )

-- lengths
agree_open : (n : Length) → (agree n length_of.Unsized ≡ true) × ((agree n length_of.Variable ≡ true) × (agree n length_of.Unknown ≡ true))
agree_open (length_of.Fixed n) = (refl, (refl, refl))
agree_open length_of.Unsized = (refl, (refl, refl))
agree_open length_of.Variable = (refl, (refl, refl))
agree_open length_of.Unknown = (refl, (refl, refl))

longer_left : (n m : Length) → agree n m ≡ true → agree (longer n m) n ≡ true
longer_left (length_of.Fixed n) m h = number_itself n
longer_left length_of.Unsized m h = (agree_open (longer length_of.Unsized m)).0
longer_left length_of.Variable m h = (agree_open (longer length_of.Variable m)).1.0
longer_left length_of.Unknown m h = (agree_open (longer length_of.Unknown m)).1.1

longer_right : (n m : Length) → agree n m ≡ true → agree (longer n m) m ≡ true
longer_right (length_of.Fixed n) m h = h
longer_right length_of.Unsized (length_of.Fixed m) h = number_itself m
longer_right length_of.Variable (length_of.Fixed m) h = number_itself m
longer_right length_of.Unknown (length_of.Fixed m) h = number_itself m
longer_right n length_of.Unsized h = (agree_open (longer n length_of.Unsized)).0
longer_right n length_of.Variable h = (agree_open (longer n length_of.Variable)).1.0
longer_right n length_of.Unknown h = (agree_open (longer n length_of.Unknown)).1.1

-- the first of two types, and the second
first_fits : (a b : CType) → compatible a b ≡ true → FitsBoth a a b
first_fits a b h = (compatible_reflexive a, h)

second_fits : (a b : CType) → compatible a b ≡ true → FitsBoth b a b
second_fits a b h = (compatible_symmetric b a ∙ h, compatible_reflexive b)

made_fits : (c a b : CType) (k l m : Form CType Params) → form (out-CType c) ≡ k → form (out-CType a) ≡ l → form (out-CType b) ≡ m →
    same (parts k) l ≡ true → same (parts k) m ≡ true → FitsBoth c a b
made_fits c a b k l m o e g x y = (layers_of c a k l o e ∙ x, layers_of c b k m o g ∙ y)

forms_fit : (l m : Form CType Params) (a b : CType) → form (out-CType a) ≡ l → form (out-CType b) ≡ m → Inside Fitting l → IsGood l → IsGood m →
    same (parts l) m ≡ true → compatible a b ≡ true → FitsBoth (compose a (whole_parts l) b m) a b
forms_fit f.Error m a b e g w x y s h = second_fits a b h
forms_fit (f.Pointer t) (f.Pointer u) a b e g w x y s h =
    let within = w.0 u x y s in made_fits _ a b _ _ _ (out_pointer (composite t u)) e g within.0 within.1
forms_fit (f.Array t n) (f.Array u m) a b e g w x y s h =
    let within = w.0 u x y (right_true _ _ s) in
    let lengths : agree n m ≡ true = left_true _ _ s in
    made_fits _ a b _ _ _ (out_array (composite t u) (longer n m)) e g
    (both_true _ _ (longer_left n m lengths) within.0) (both_true _ _ (longer_right n m lengths) within.1)
forms_fit (f.Function t ps) (f.Function u qs) a b e g w x y s h =
    let within = w.0.0 u (left_true _ _ x) (left_true _ _ y) (left_true _ _ s) in
    let lists : FitsParams (joint ps qs) ps qs = joint_fits ps qs (out-Params ps) (out-Params qs) refl refl w.1 (right_true _ _ x) (right_true _ _ y) (right_true _ _ s) in
    made_fits _ a b _ _ _ (out_function (composite t u) (joint ps qs)) e g (both_true _ _ within.0 lists.0) (both_true _ _ within.1 lists.1)
forms_fit (f.Qualified q t) (f.Qualified r u) a b e g w x y s h =
    let within = w.0 u (left_true _ _ (left_true _ _ x)) (left_true _ _ (left_true _ _ y)) (right_true _ _ s) in
    made_fits _ a b _ _ _ (out_qualified q (composite t u)) e g
    (both_true _ _ (number_itself q) within.0) (both_true _ _ (left_true _ _ s) within.1)
forms_fit (f.Atomic t) (f.Atomic u) a b e g w x y s h =
    let within = w.0 u x y s in made_fits _ a b _ _ _ (out_atomic (composite t u)) e g within.0 within.1
forms_fit _ _ a b e g w x y s h = first_fits a b h

whole_fits : (a : CType) → Inside Fitting (form (out-CType a)) → IsFitting a
whole_fits a w b g k h =
    let fits : FitsBoth (compose a (whole_parts (form (out-CType a))) b (form (out-CType b))) a b =
    forms_fit (form (out-CType a)) (form (out-CType b)) a b refl refl w (good_of a _ refl g) (good_of b _ refl k) (sym (compatible_layers a b) ∙ h) h in
    (ap (λ (c : CType). compatible c a) (composite_layers a b) ∙ fits.0, ap (λ (c : CType). compatible c b) (composite_layers a b) ∙ fits.1)

bare_fits : (l : Form CType Params) (a : CType) → Inside Fitting l → IsFitting a → IsFitting (unqualified_by l a)
bare_fits (f.Qualified q t) a w s = w.0
bare_fits f.Void a w s = s
bare_fits _ a w s = s

pub fitting : (a : CType) → Fitting a
fitting = by_forms Fitting (λ a w. (whole_fits a w, bare_fits (form (out-CType a)) a w (whole_fits a w)))

pub composite_fits : (a b : CType) → is_normal a ≡ true → is_normal b ≡ true → compatible a b ≡ true → (compatible (composite a b) a ≡ true) × (compatible (composite a b) b ≡ true)
composite_fits a b = (fitting a).0 b
