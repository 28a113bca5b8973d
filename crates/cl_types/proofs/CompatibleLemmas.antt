-- Compatibility is symmetric and reflexive.
use Rattle.std.proofs.Common.{◌≡◌, ℕ, ◌==◌, ◌&&◌, not, Bool, true, false, List, [], ◌∷◌, length, map, Option, refl, sym, ap, ◌∙◌, arith}
use Rattle.std.proofs.lemmas.Grind.{common_steps}
use Rattle.cl_types.specs.declared.types.Length.{Length}
use Rattle.cl_types.specs.declared.types.Length.TheVariants as length_of
use Rattle.cl_types.specs.declared.types.CType.{CType}
use Rattle.cl_types.specs.declared.types.CType.TheFolds.{fold_out-CType, fold_out-Params, map-CType, map-Params}
use Rattle.cl_types.specs.declared.types.CType.TheOpen.{CType-F, Params-F}
use Rattle.cl_types.specs.declared.types.CType.TheViews.{out-CType, out-Params}
use Rattle.cl_types.specs.declared.types.Params.{Params}
use Rattle.cl_types.specs.Compatible.{Compared, agree, all_promoted, bare_by, both_or_none, compared, compared_by, compatible, same, same_each, same_listed}
use Rattle.cl_types.specs.Form.{Form, Form as f, form, listed, unqualified, unqualified_by}
use Rattle.cl_types.proofs.Induction.{by_forms, Inside, Each, EachOf}
use Rattle.cl_types.proofs.PromotedLemmas.{compared_params, all_promoted_agrees}

abbrev pub map_form : {A B C D : Type 0} → (A → C) → (B → D) → Form A B → Form C D
map_form g h f.Void = f.Void
map_form g h (f.Arithmetic k) = f.Arithmetic k
map_form g h (f.Pointer t) = f.Pointer (g t)
map_form g h (f.Array t n) = f.Array (g t) n
map_form g h (f.Function t ps) = f.Function (g t) (h ps)
map_form g h (f.Tag n w) = f.Tag n w
map_form g h (f.Qualified q t) = f.Qualified q (g t)
map_form g h (f.Atomic t) = f.Atomic (g t)
map_form g h f.Error = f.Error

pub form_map : (A B C D : Type 0) (g : A → C) (h : B → D) (x : CType-F A B) → form (map-CType A B C D g h x) ≡ map_form g h (form x)
form_map A B C D g h CType-F.Void = refl
form_map A B C D g h _ = refl

abbrev pub parts : Form CType Params → Form Compared (Option (List Compared × Bool))
parts = map_form compared compared_params

pub compared_out : (a : CType) → compared a ≡ compared_by (map-CType CType Params Compared (Option (List Compared × Bool)) compared compared_params (out-CType a))
compared_out a = fold_out-CType Compared (Option (List Compared × Bool)) compared_by listed a

pub parts_out : (a : CType) → form (map-CType CType Params Compared (Option (List Compared × Bool)) compared compared_params (out-CType a)) ≡ parts (form (out-CType a))
parts_out a = form_map CType Params Compared (Option (List Compared × Bool)) compared compared_params (out-CType a)

-- two types are compatible layer beside layer
pub compatible_layers : (a b : CType) → compatible a b ≡ same (parts (form (out-CType a))) (form (out-CType b))
compatible_layers a b = ap (λ (c : Compared). c.whole b) (compared_out a) ∙ ap (λ (l : Form Compared (Option (List Compared × Bool))). same l (form (out-CType b))) (parts_out a)

bare_form : (l : Form CType Params) (a b : CType) → same (parts l) (form (out-CType (unqualified b))) ≡ compatible a (unqualified b) →
    bare_by (parts l) b ≡ compatible (unqualified_by l a) (unqualified b)
bare_form (f.Qualified q t) a b e = refl
bare_form f.Void a b e = e
bare_form _ a b e = e

pub bare_layers : (a b : CType) → (compared a).bare b ≡ compatible (unqualified a) (unqualified b)
bare_layers a b =
    ap (λ (c : Compared). c.bare b) (compared_out a)
    ∙ ap (λ (l : Form Compared (Option (List Compared × Bool))). bare_by l b) (parts_out a)
    ∙ bare_form (form (out-CType a)) a b (sym (compatible_layers a (unqualified b)))

-- two lists, type beside type, their own qualifiers aside
abbrev pub alike : List CType → List CType → Bool
alike (p ∷ ps) (q ∷ qs) = compatible (unqualified p) (unqualified q) && alike ps qs
alike _ _ = true

pub same_alike : (ps qs : List CType) → same_each (map compared ps) qs ≡ alike ps qs
same_alike [] qs = refl
same_alike (p ∷ ps) [] = refl
same_alike (p ∷ ps) (q ∷ qs) = ap (λ (b : Bool). b && same_each (map compared ps) qs) (bare_layers p q) ∙ ap (λ (b : Bool). compatible (unqualified p) (unqualified q) && b) (same_alike ps qs)

pub listed_out : (ps : Params) → compared_params ps ≡ listed (map-Params CType Params Compared (Option (List Compared × Bool)) compared compared_params (out-Params ps))
listed_out ps = fold_out-Params Compared (Option (List Compared × Bool)) compared_by listed ps

pub and_both : (a b c d : Bool) → a ≡ c → b ≡ d → (a && b) ≡ (c && d)
and_both a b c d e g = ap (λ (x : Bool). x && b) e ∙ ap (λ (x : Bool). c && x) g

same_number : (n m : ℕ) → (n == m) ≡ (m == n)
same_number n m = grind (arith, common_steps)

same_more : (v u : Bool) → both_or_none v u ≡ both_or_none u v
same_more true true = refl
same_more true false = refl
same_more false true = refl
same_more false false = refl

same_length : (ps qs : List CType) → (length (map compared ps) == length qs) ≡ (length (map compared qs) == length ps)
same_length ps qs = grind (arith, common_steps)

agree_either : (n m : Length) → agree n m ≡ agree m n
agree_either (length_of.Fixed n) (length_of.Fixed m) = same_number n m
agree_either (length_of.Fixed n) _ = refl
agree_either length_of.Unsized (length_of.Fixed m) = refl
agree_either length_of.Variable (length_of.Fixed m) = refl
agree_either length_of.Unknown (length_of.Fixed m) = refl
agree_either length_of.Unsized _ = refl
agree_either length_of.Variable _ = refl
agree_either length_of.Unknown _ = refl

-- symmetry
abbrev pub IsSymmetric : CType → Type 0
IsSymmetric a = (b : CType) → compatible a b ≡ compatible b a

abbrev pub Symmetric : CType → Type 0
Symmetric a = IsSymmetric a × IsSymmetric (unqualified a)

alike_either : (ps qs : List CType) → Each Symmetric ps → alike ps qs ≡ alike qs ps
alike_either [] [] w = refl
alike_either [] (q ∷ qs) w = refl
alike_either (p ∷ ps) [] w = refl
alike_either (p ∷ ps) (q ∷ qs) w = and_both _ _ _ _ (w.0.1 (unqualified q)) (alike_either ps qs w.1)

listed_either : (y z : Params-F CType Params) → EachOf Symmetric y →
    same_listed (listed (map-Params CType Params Compared (Option (List Compared × Bool)) compared compared_params y)) (listed z)
    ≡ same_listed (listed (map-Params CType Params Compared (Option (List Compared × Bool)) compared compared_params z)) (listed y)
listed_either (Params-F.Proto ps v) (Params-F.Proto qs u) w =
    and_both _ _ _ _ (same_more v u) (and_both _ _ _ _ (same_length ps qs) (same_alike ps qs ∙ alike_either ps qs w ∙ sym (same_alike qs ps)))
listed_either (Params-F.Proto ps v) Params-F.NoProto w = ap (λ (bs : List Bool). not v && all_promoted bs) (all_promoted_agrees ps)
listed_either Params-F.NoProto (Params-F.Proto qs u) w = ap (λ (bs : List Bool). not u && all_promoted bs) (sym (all_promoted_agrees qs))
listed_either Params-F.NoProto Params-F.NoProto w = refl

params_either : (ps qs : Params) → EachOf Symmetric (out-Params ps) → same_listed (compared_params ps) (listed (out-Params qs)) ≡ same_listed (compared_params qs) (listed (out-Params ps))
params_either ps qs w =
    ap (λ (l : Option (List Compared × Bool)). same_listed l (listed (out-Params qs))) (listed_out ps)
    ∙ listed_either (out-Params ps) (out-Params qs) w
    ∙ sym (ap (λ (l : Option (List Compared × Bool)). same_listed l (listed (out-Params ps))) (listed_out qs))

forms_either : (l m : Form CType Params) → Inside Symmetric l → same (parts l) m ≡ same (parts m) l
forms_either (f.Arithmetic k) (f.Arithmetic j) w = same_number _ _
forms_either (f.Tag n v) (f.Tag m u) w = same_number n m
forms_either (f.Pointer t) (f.Pointer u) w = w.0 u
forms_either (f.Array t n) (f.Array u m) w = and_both _ _ _ _ (agree_either n m) (w.0 u)
forms_either (f.Function t ps) (f.Function u qs) w = and_both _ _ _ _ (w.0.0 u) (params_either ps qs w.1)
forms_either (f.Qualified q t) (f.Qualified r u) w = and_both _ _ _ _ (same_number q r) (w.0 u)
forms_either (f.Atomic t) (f.Atomic u) w = w.0 u
forms_either f.Error f.Error w = refl
forms_either f.Error f.Void w = refl
forms_either f.Error _ w = refl
forms_either f.Void f.Void w = refl
forms_either f.Void _ w = refl
forms_either (f.Arithmetic k) _ w = refl
forms_either (f.Tag n v) _ w = refl
forms_either (f.Pointer t) _ w = refl
forms_either (f.Array t n) _ w = refl
forms_either (f.Function t ps) _ w = refl
forms_either (f.Qualified q t) _ w = refl
forms_either (f.Atomic t) _ w = refl

inside_unqualified : (l : Form CType Params) (a : CType) → Inside Symmetric l → IsSymmetric a → IsSymmetric (unqualified_by l a)
inside_unqualified (f.Qualified q t) a w s = w.0
inside_unqualified f.Void a w s = s
inside_unqualified _ a w s = s

whole_either : (a : CType) → Inside Symmetric (form (out-CType a)) → IsSymmetric a
whole_either a w b = compatible_layers a b ∙ forms_either (form (out-CType a)) (form (out-CType b)) w ∙ sym (compatible_layers b a)

pub symmetric_type : (a : CType) → Symmetric a
symmetric_type = by_forms Symmetric (λ a w. (whole_either a w, inside_unqualified (form (out-CType a)) a w (whole_either a w)))

pub compatible_symmetric : (a b : CType) → compatible a b ≡ compatible b a
compatible_symmetric a b = (symmetric_type a).0 b

-- reflexivity
abbrev pub Reflexive : CType → Type 0
Reflexive a = (compatible a a ≡ true) × (compatible (unqualified a) (unqualified a) ≡ true)

pub number_itself : (n : ℕ) → (n == n) ≡ true
number_itself n = grind (arith, common_steps)

agree_itself : (n : Length) → agree n n ≡ true
agree_itself (length_of.Fixed n) = number_itself n
agree_itself length_of.Unsized = refl
agree_itself length_of.Variable = refl
agree_itself length_of.Unknown = refl

alike_itself : (ps : List CType) → Each Reflexive ps → alike ps ps ≡ true
alike_itself [] w = refl
alike_itself (p ∷ ps) w = and_both _ _ _ _ w.0.1 (alike_itself ps w.1)

length_itself : (ps : List CType) → (length (map compared ps) == length ps) ≡ true
length_itself ps = grind (arith, common_steps)

more_itself : (v : Bool) → both_or_none v v ≡ true
more_itself true = refl
more_itself false = refl

listed_itself : (y : Params-F CType Params) → EachOf Reflexive y → same_listed (listed (map-Params CType Params Compared (Option (List Compared × Bool)) compared compared_params y)) (listed y) ≡ true
listed_itself (Params-F.Proto ps v) w = and_both _ _ _ _ (more_itself v) (and_both _ _ _ _ (length_itself ps) (same_alike ps ps ∙ alike_itself ps w))
listed_itself Params-F.NoProto w = refl

forms_itself : (l : Form CType Params) → Inside Reflexive l → same (parts l) l ≡ true
forms_itself (f.Arithmetic k) w = number_itself _
forms_itself (f.Tag n v) w = number_itself n
forms_itself (f.Pointer t) w = w.0
forms_itself (f.Array t n) w = and_both _ _ _ _ (agree_itself n) w.0
forms_itself (f.Function t ps) w = and_both _ _ _ _ w.0.0 (ap (λ (l : Option (List Compared × Bool)). same_listed l (listed (out-Params ps))) (listed_out ps) ∙ listed_itself (out-Params ps) w.1)
forms_itself (f.Qualified q t) w = and_both _ _ _ _ (number_itself q) w.0
forms_itself (f.Atomic t) w = w.0
forms_itself f.Void w = refl
forms_itself f.Error w = refl

unqualified_itself : (l : Form CType Params) (a : CType) → Inside Reflexive l → compatible a a ≡ true → compatible (unqualified_by l a) (unqualified_by l a) ≡ true
unqualified_itself (f.Qualified q t) a w s = w.0
unqualified_itself f.Void a w s = s
unqualified_itself _ a w s = s

whole_itself : (a : CType) → Inside Reflexive (form (out-CType a)) → compatible a a ≡ true
whole_itself a w = compatible_layers a a ∙ forms_itself (form (out-CType a)) w

pub reflexive_type : (a : CType) → Reflexive a
reflexive_type = by_forms Reflexive (λ a w. (whole_itself a w, unqualified_itself (form (out-CType a)) a w (whole_itself a w)))

pub compatible_reflexive : (a : CType) → compatible a a ≡ true
compatible_reflexive a = (reflexive_type a).0

-- the same of parameter lists
each_symmetric : (ts : List CType) → Each Symmetric ts
each_symmetric [] = tt
each_symmetric (t ∷ ts) = (symmetric_type t, each_symmetric ts)

listed_symmetric : (y : Params-F CType Params) → EachOf Symmetric y
listed_symmetric (Params-F.Proto ts v) = each_symmetric ts
listed_symmetric Params-F.NoProto = tt

each_reflexive : (ts : List CType) → Each Reflexive ts
each_reflexive [] = tt
each_reflexive (t ∷ ts) = (reflexive_type t, each_reflexive ts)

listed_reflexive : (y : Params-F CType Params) → EachOf Reflexive y
listed_reflexive (Params-F.Proto ts v) = each_reflexive ts
listed_reflexive Params-F.NoProto = tt

pub params_symmetric : (ps qs : Params) → same_listed (compared_params ps) (listed (out-Params qs)) ≡ same_listed (compared_params qs) (listed (out-Params ps))
params_symmetric ps qs = params_either ps qs (listed_symmetric (out-Params ps))

pub params_itself : (ps : Params) → same_listed (compared_params ps) (listed (out-Params ps)) ≡ true
params_itself ps = ap (λ (l : Option (List Compared × Bool)). same_listed l (listed (out-Params ps))) (listed_out ps) ∙ listed_itself (out-Params ps) (listed_reflexive (out-Params ps))
