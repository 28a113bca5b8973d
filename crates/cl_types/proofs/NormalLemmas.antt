-- Qualifying a type and making a composite keep normal form.
use Rattle.std.proofs.Common.{◌≡◌, ℕ, ◌==◌, ◌&&◌, ◌<◌, ◌≤◌, ◌^◌, nat_lt, if◌then◌else◌, Bool, true, false, List, [], ◌∷◌, map, Option, Some, None, refl, sym, ap, ◌∙◌, arith, bit_or}
use Rattle.std.proofs.lemmas.Nat.{le_or_l, or_lt}
use Rattle.std.proofs.lemmas.Grind.{common_steps}
use Rattle.cl_types.specs.declared.types.Length.{Length}
use Rattle.cl_types.specs.declared.types.CType.{CType}
use Rattle.cl_types.specs.declared.types.CType.TheFolds.{fold-Params, fold_out-CType}
use Rattle.cl_types.specs.declared.types.CType.TheOpen.{CType-F, Params-F}
use Rattle.cl_types.specs.declared.types.CType.TheVariants as make
use Rattle.cl_types.specs.declared.types.CType.TheViews.{out-CType, out-Params}
use Rattle.cl_types.specs.declared.types.Params.{Params}
use Rattle.cl_types.specs.declared.types.Params.TheVariants as make_params
use Rattle.cl_types.specs.Composite.{Composed, compose, compose_listed, composed, composed_params, composite, longer}
use Rattle.cl_types.specs.Form.{Form, Form as f, form, unqualified, unqualified_by, listed}
use Rattle.cl_types.specs.Normal.{Normal, all_hold, are_normal, is_normal, listed_hold, normal, normal_by}
use Rattle.cl_types.specs.Qualify.{qualified, qualify, qualifying, with_qualifiers}
use Rattle.cl_types.proofs.CompatibleLemmas.{form_map, map_form}
use Rattle.cl_types.proofs.CompositeLemmas.{IsGood, bare_composite, both_true, composed_params_out, composite_layers, good_of, inner_type, joint, left_true, normal_layers, normal_params, normal_params_out, normal_parts, out_array, out_atomic, out_function, out_pointer, out_proto, out_qualified, proto_of, right_true, together, unlisted, whole_parts}
use Rattle.cl_types.proofs.Induction.{by_forms, Inside, Each, EachOf}
use Rattle.cl_types.proofs.OwnLemmas.{own_parameters}

-- what is normal of a type of a known layer
normal_of : (a : CType) (l : Form CType Params) → form (out-CType a) ≡ l → normal a ≡ normal_by (normal_parts l)
normal_of a l e = normal_layers a ∙ ap (λ (m : Form CType Params). normal_by (normal_parts m)) e

holds_of : (a : CType) (l : Form CType Params) → form (out-CType a) ≡ l → (normal_by (normal_parts l)).holds ≡ true → is_normal a ≡ true
holds_of a l e h = ap (λ (n : Normal). n.holds) (normal_of a l e) ∙ h

bare_of : (a : CType) (l : Form CType Params) → form (out-CType a) ≡ l → (normal_by (normal_parts l)).bare ≡ true → (normal a).bare ≡ true
bare_of a l e h = ap (λ (n : Normal). n.bare) (normal_of a l e) ∙ h

-- composite types
abbrev Kept : CType → CType → Type 0
Kept a b = (is_normal (composite a b) ≡ true) × ((normal a).bare ≡ true → (normal b).bare ≡ true → (normal (composite a b)).bare ≡ true)

abbrev IsKeeping : CType → Type 0
IsKeeping a = (b : CType) → is_normal a ≡ true → is_normal b ≡ true → Kept a b

abbrev Keeping : CType → Type 0
Keeping a = IsKeeping a × IsKeeping (unqualified a)

each_kept : (ts us : List CType) → Each Keeping ts → all_hold (map normal ts) ≡ true → all_hold (map normal us) ≡ true → all_hold (map normal (together ts us)) ≡ true
each_kept [] us w g k = refl
each_kept (t ∷ ts) [] w g k = refl
each_kept (t ∷ ts) (u ∷ us) w g k =
    let kept : is_normal (composite (unqualified t) (unqualified u)) ≡ true =
    (w.0.1 (unqualified u) (inner_type t (left_true _ _ g)).0 (inner_type u (left_true _ _ k)).0).0 in
    both_true _ _ (ap (λ (c : CType). is_normal c) (bare_composite t u) ∙ kept) (each_kept ts us w.1 (right_true _ _ g) (right_true _ _ k))

joint_kept : (ps qs : Params) (y z : Params-F CType Params) → out-Params ps ≡ y → out-Params qs ≡ z → EachOf Keeping y →
    listed_hold (normal_params ps) ≡ true → listed_hold (normal_params qs) ≡ true → listed_hold (normal_params (joint ps qs)) ≡ true
joint_kept ps qs (Params-F.Proto ts v) (Params-F.Proto us u) e g w m n =
    let made : joint ps qs ≡ make_params.Proto (together ts us) v =
    ap (λ (l : Option (List Composed × Bool)). compose_listed l (listed (out-Params qs))) (composed_params_out ps _ e)
    ∙ ap (λ (k : Params-F CType Params). compose_listed (Some (map composed ts, v)) (listed k)) g in
    let outs : out-Params (joint ps qs) ≡ Params-F.Proto (together ts us) v = ap out-Params made ∙ out_proto (together ts us) v in
    ap listed_hold (normal_params_out (joint ps qs) _ outs)
    ∙ each_kept ts us w (sym (ap listed_hold (normal_params_out ps _ e)) ∙ m) (sym (ap listed_hold (normal_params_out qs _ g)) ∙ n)
joint_kept ps qs y Params-F.NoProto e g w m n =
    let made : joint ps qs ≡ ps =
    ap (λ (k : Params-F CType Params). compose_listed (composed_params ps) (listed k)) g ∙ unlisted (composed_params ps) ∙ own_parameters ps in
    ap (λ (cs : Params). listed_hold (normal_params cs)) made ∙ m
joint_kept ps qs Params-F.NoProto (Params-F.Proto us u) e g w m n =
    let made : joint ps qs ≡ qs =
    ap (λ (l : Option (List Composed × Bool)). compose_listed l (listed (out-Params qs))) (composed_params_out ps _ e)
    ∙ ap (λ (k : Params-F CType Params). compose_listed None (listed k)) g
    ∙ proto_of qs us u g in
    ap (λ (cs : Params). listed_hold (normal_params cs)) made ∙ n

abbrev KeptBy : CType → CType → CType → Type 0
KeptBy c a b = (is_normal c ≡ true) × ((normal a).bare ≡ true → (normal b).bare ≡ true → (normal c).bare ≡ true)

-- no array, function, qualified type or type in error is bare
not_bare : (a : CType) (l : Form CType Params) → form (out-CType a) ≡ l → (normal_by (normal_parts l)).bare ≡ false → (normal a).bare ≡ true → ⊥
not_bare a l e h k = let g : true ≡ false = sym k ∙ ap (λ (n : Normal). n.bare) (normal_of a l e) ∙ h in cc

forms_kept : (l m : Form CType Params) (a b : CType) → form (out-CType a) ≡ l → form (out-CType b) ≡ m → Inside Keeping l → IsGood l → IsGood m →
    is_normal a ≡ true → is_normal b ≡ true → KeptBy (compose a (whole_parts l) b m) a b
forms_kept f.Error m a b e g w x y p q = (q, λ j k. k)
forms_kept (f.Pointer t) (f.Pointer u) a b e g w x y p q =
    (holds_of _ _ (out_pointer (composite t u)) (w.0 u x y).0, λ j k. bare_of _ _ (out_pointer (composite t u)) refl)
forms_kept (f.Array t n) (f.Array u m) a b e g w x y p q =
    (holds_of _ _ (out_array (composite t u) (longer n m)) (w.0 u x y).0, λ j k. absurd (not_bare a _ e refl j))
forms_kept (f.Function t ps) (f.Function u qs) a b e g w x y p q = (
  holds_of _ _ (out_function (composite t u) (joint ps qs))
      (both_true _ _ (w.0.0 u (left_true _ _ x) (left_true _ _ y)).0 (joint_kept ps qs (out-Params ps) (out-Params qs) refl refl w.1 (right_true _ _ x) (right_true _ _ y))),
  λ j k. absurd (not_bare a _ e refl j),
)
forms_kept (f.Qualified q t) (f.Qualified r u) a b e g w x y p z =
    let within = w.0 u (left_true _ _ (left_true _ _ x)) (left_true _ _ (left_true _ _ y)) in (
      holds_of _ _ (out_qualified q (composite t u))
          (both_true _ _ (both_true _ _ within.0 (within.1 (right_true _ _ (left_true _ _ x)) (right_true _ _ (left_true _ _ y)))) (right_true _ _ x)),
      λ j k. absurd (not_bare a _ e refl j),
    )
forms_kept (f.Atomic t) (f.Atomic u) a b e g w x y p q =
    (holds_of _ _ (out_atomic (composite t u)) (w.0 u x y).0, λ j k. bare_of _ _ (out_atomic (composite t u)) refl)
forms_kept _ _ a b e g w x y p q = (p, λ j k. j)

whole_kept : (a : CType) → Inside Keeping (form (out-CType a)) → IsKeeping a
whole_kept a w b g k =
    let kept : KeptBy (compose a (whole_parts (form (out-CType a))) b (form (out-CType b))) a b =
    forms_kept (form (out-CType a)) (form (out-CType b)) a b refl refl w (good_of a _ refl g) (good_of b _ refl k) g k in
    (ap is_normal (composite_layers a b) ∙ kept.0, λ p q. ap (λ (c : CType). (normal c).bare) (composite_layers a b) ∙ kept.1 p q)

inner_kept : (l : Form CType Params) (a : CType) → Inside Keeping l → IsKeeping a → IsKeeping (unqualified_by l a)
inner_kept (f.Qualified q t) a w s = w.0
inner_kept f.Void a w s = s
inner_kept _ a w s = s

keeping : (a : CType) → Keeping a
keeping = by_forms Keeping (λ a w. (whole_kept a w, inner_kept (form (out-CType a)) a w (whole_kept a w)))

pub composite_kept : (a b : CType) → is_normal a ≡ true → is_normal b ≡ true → is_normal (composite a b) ≡ true
composite_kept a b g k = ((keeping a).0 b g k).0

-- qualified types
abbrev qualifying_step : CType-F (ℕ → CType → CType) (Unit {0}) → ℕ → CType → CType
qualifying_step l q a = qualify (form l) (form (out-CType a)) q a

abbrev qualifying_params : Params → Unit {0}
qualifying_params = fold-Params (ℕ → CType → CType) (Unit {0}) qualifying_step (λ ps. tt)

abbrev qualifying_parts : Form CType Params → Form (ℕ → CType → CType) (Unit {0})
qualifying_parts = map_form qualifying qualifying_params

qualified_layers : (q : ℕ) (a : CType) → qualified q a ≡ qualify (qualifying_parts (form (out-CType a))) (form (out-CType a)) q a
qualified_layers q a =
    ap (λ (g : ℕ → CType → CType). g q a) (fold_out-CType (ℕ → CType → CType) (Unit {0}) qualifying_step (λ ps. tt) a)
    ∙ ap (λ (l : Form (ℕ → CType → CType) (Unit {0})). qualify l (form (out-CType a)) q a) (form_map CType Params (ℕ → CType → CType) (Unit {0}) qualifying qualifying_params (out-CType a))

below_tests : (n m : ℕ) → n < m → nat_lt n m ≡ true
below_tests n m h = grind (arith, common_steps)

tests_below : (n m : ℕ) → nat_lt n m ≡ true → n < m
tests_below n m h = grind (arith, common_steps)

over_zero : (q : ℕ) → (q == 0) ≡ false → 0 < q
over_zero q h = grind (arith, common_steps)

above_zero : (r n : ℕ) → 0 < r → r ≤ n → 0 < n
above_zero r n low more = omega arith

joined_bounds : (r q : ℕ) → (nat_lt 0 r && nat_lt r 8) ≡ true → q < 8 → (nat_lt 0 (bit_or r q) && nat_lt (bit_or r q) 8) ≡ true
joined_bounds r q h k =
    let low : 0 < r = tests_below 0 r (left_true _ _ h) in
    let high : r < 2 ^ 3 = tests_below r 8 (right_true _ _ h) in
    let more : r ≤ bit_or r q = le_or_l r q in
    let room : bit_or r q < 2 ^ 3 = or_lt 3 r q high k in
    both_true _ _ (below_tests 0 (bit_or r q) (above_zero r (bit_or r q) low more)) (below_tests (bit_or r q) 8 room)

chosen_kept : (b : Bool) (q : ℕ) (a : CType) → (q == 0) ≡ b → q < 8 → is_normal a ≡ true → (normal a).bare ≡ true → is_normal (if b then a else make.Qualified q a) ≡ true
chosen_kept true q a e k p j = p
chosen_kept false q a e k p j =
    holds_of _ _ (out_qualified q a) (both_true _ _ (both_true _ _ p j) (both_true _ _ (below_tests 0 q (over_zero q e)) (below_tests q 8 k)))

with_kept : (q : ℕ) (a : CType) → q < 8 → is_normal a ≡ true → (normal a).bare ≡ true → is_normal (with_qualifiers q a) ≡ true
with_kept q a k p j = chosen_kept (q == 0) q a refl k p j

abbrev Qualifies : CType → Type 0
Qualifies a = (q : ℕ) → q < 8 → is_normal a ≡ true → is_normal (qualified q a) ≡ true

forms_qualify : (l : Form CType Params) (a : CType) (q : ℕ) → form (out-CType a) ≡ l → Inside Qualifies l → IsGood l → q < 8 → is_normal a ≡ true →
    is_normal (qualify (qualifying_parts l) l q a) ≡ true
forms_qualify (f.Array t n) a q e w x k p = holds_of _ _ (out_array (qualified q t) n) (w q k x)
forms_qualify (f.Qualified r t) a q e w x k p =
    holds_of _ _ (out_qualified (bit_or r q) t) (both_true _ _ (left_true _ _ x) (joined_bounds r q (right_true _ _ x) k))
forms_qualify (f.Function t ps) a q e w x k p = p
forms_qualify f.Error a q e w x k p = p
forms_qualify f.Void a q e w x k p = with_kept q a k p (bare_of a _ e refl)
forms_qualify (f.Arithmetic j) a q e w x k p = with_kept q a k p (bare_of a _ e refl)
forms_qualify (f.Pointer t) a q e w x k p = with_kept q a k p (bare_of a _ e refl)
forms_qualify (f.Tag n v) a q e w x k p = with_kept q a k p (bare_of a _ e refl)
forms_qualify (f.Atomic t) a q e w x k p = with_kept q a k p (bare_of a _ e refl)

qualifies : (a : CType) → Qualifies a
qualifies = by_forms Qualifies (λ a w q k p. ap is_normal (qualified_layers q a) ∙ forms_qualify (form (out-CType a)) a q refl w (good_of a _ refl p) k p)

pub qualified_kept : (q : ℕ) (a : CType) → q < 8 → is_normal a ≡ true → is_normal (qualified q a) ≡ true
qualified_kept q a k p = qualifies a q k p

-- one layer more
pub pointer_kept : (t : CType) → is_normal t ≡ true → is_normal (make.Pointer t) ≡ true
pointer_kept t p = holds_of _ _ (out_pointer t) p

pub array_kept : (t : CType) (n : Length) → is_normal t ≡ true → is_normal (make.Array t n) ≡ true
array_kept t n p = holds_of _ _ (out_array t n) p

pub function_kept : (t : CType) (ps : Params) → is_normal t ≡ true → are_normal ps ≡ true → is_normal (make.Function t ps) ≡ true
function_kept t ps p q = holds_of _ _ (out_function t ps) (both_true _ _ p q)

pub unqualified_kept : (t : CType) → is_normal t ≡ true → is_normal (unqualified t) ≡ true
unqualified_kept t p = (inner_type t p).0

pub atomic_kept : (t : CType) → is_normal t ≡ true → is_normal (make.Atomic t) ≡ true
atomic_kept t p = holds_of _ _ (out_atomic t) p

pub atomic_within_kept : (q : ℕ) (t : CType) → is_normal (make.Qualified q t) ≡ true → is_normal (make.Qualified q (make.Atomic t)) ≡ true
atomic_within_kept q t p =
    let good : IsGood (f.Qualified q t) = good_of (make.Qualified q t) (f.Qualified q t) (out_qualified q t) p in
    let within : is_normal (make.Atomic t) ≡ true = atomic_kept t (left_true _ _ (left_true _ _ good)) in
    let bare : (normal (make.Atomic t)).bare ≡ true = bare_of (make.Atomic t) (f.Atomic t) (out_atomic t) refl in
    holds_of _ _ (out_qualified q (make.Atomic t)) (both_true _ _ (both_true _ _ within bare) (right_true _ _ good))

pub element_kept : (t : CType) (n : Length) → is_normal (make.Array t n) ≡ true → is_normal t ≡ true
element_kept t n p = good_of (make.Array t n) (f.Array t n) (out_array t n) p
