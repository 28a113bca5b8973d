-- Compatible types (N1570 6.2.7, 6.7.2.1p8, 6.7.3p10, 6.7.6.1p2, 6.7.6.2p6, 6.7.6.3p15).
use Rattle.std.specs.Prelude.{◌==◌, ◌&&◌, not, Bool, true, false, List, [], ◌∷◌, length, map, Option, Some, None}
use Rattle.cl_types.specs.declared.types.Basic.{Basic}
use Rattle.cl_types.specs.declared.types.Basic.TheVariants as basic_type
use Rattle.cl_types.specs.declared.types.Length.{Length}
use Rattle.cl_types.specs.declared.types.Length.TheVariants as length_of
use Rattle.cl_types.specs.declared.types.TagWord.{TagWord}
use Rattle.cl_types.specs.declared.types.TagWord.TheVariants as word
use Rattle.cl_types.specs.declared.types.CType.{CType}
use Rattle.cl_types.specs.declared.types.CType.TheFolds.{fold-CType, fold-Params}
use Rattle.cl_types.specs.declared.types.CType.TheOpen.{CType-F}
use Rattle.cl_types.specs.declared.types.CType.TheViews.{out-CType, out-Params}
use Rattle.cl_types.specs.declared.types.Params.{Params}
use Rattle.cl_types.specs.Form.{Form, Form as f, form, listed, place, unqualified, promoted_in}

-- what a type within another answers: is it compatible with this type; is it, its own qualifiers and those of the other
-- aside (6.7.6.3p15); do the default argument promotions leave it as it is
pub record Compared : Type 0 where
  pub whole : CType → Bool
  pub bare : CType → Bool
  pub promoted : Bool

-- two array lengths: both constant, they are equal (6.7.6.2p6)
abbrev pub agree : Length → Length → Bool
agree (length_of.Fixed n) (length_of.Fixed m) = n == m
agree _ _ = true

abbrev pub both_or_none : Bool → Bool → Bool
both_or_none true b = b
both_or_none false b = not b

abbrev pub same_each : List Compared → List CType → Bool
same_each (p ∷ ps) (q ∷ qs) = p.bare q && same_each ps qs
same_each _ _ = true

abbrev pub promoted : CType → Bool
promoted = fold-CType Bool (Option (List Bool × Bool)) (λ l. promoted_in (form l)) listed

abbrev pub all_promoted : List Bool → Bool
all_promoted [] = true
all_promoted (b ∷ bs) = b && all_promoted bs

-- two parameter lists: `...` in both or in none, equally many, each with its like; a list beside none: no `...`, and the
-- promotions leave each parameter as it is (6.7.6.3p15)
abbrev pub same_listed : Option (List Compared × Bool) → Option (List CType × Bool) → Bool
same_listed (Some p) (Some q) = both_or_none p.1 q.1 && (length p.0 == length q.0 && same_each p.0 q.0)
same_listed (Some p) None = not p.1 && all_promoted (map (λ t. t.promoted) p.0)
same_listed None (Some q) = not q.1 && all_promoted (map promoted q.0)
same_listed None None = true

abbrev pub is_int : Basic → Bool
is_int basic_type.Int = true
is_int _ = false

abbrev pub is_error_in : {A B : Type 0} → Form A B → Bool
is_error_in f.Error = true
is_error_in _ = false

abbrev pub is_error : CType → Bool
is_error t = is_error_in (form (out-CType t))

-- an enumerated type is compatible with `int` (6.7.2.2p4)
abbrev pub is_enum : TagWord → Bool
is_enum word.Enum = true
is_enum _ = false

-- two types, layer beside layer; a type in error is compatible with every type
abbrev pub same : Form Compared (Option (List Compared × Bool)) → Form CType Params → Bool
same f.Error _ = true
same _ f.Error = true
same f.Void f.Void = true
same (f.Arithmetic k) (f.Arithmetic j) = place k == place j
same (f.Arithmetic k) (f.Tag n w) = is_int k && is_enum w
same (f.Tag n w) (f.Arithmetic k) = is_int k && is_enum w
same (f.Tag n w) (f.Tag m v) = n == m
same (f.Pointer t) (f.Pointer u) = t.whole u
same (f.Array t n) (f.Array u m) = agree n m && t.whole u
same (f.Function t ps) (f.Function u qs) = t.whole u && same_listed ps (listed (out-Params qs))
same (f.Qualified q t) (f.Qualified r u) = (q == r) && t.whole u
same (f.Atomic t) (f.Atomic u) = t.whole u
same _ _ = false

abbrev pub bare_by : Form Compared (Option (List Compared × Bool)) → CType → Bool
bare_by (f.Qualified q t) u = t.whole (unqualified u)
bare_by l u = same l (form (out-CType (unqualified u)))

abbrev pub promoted_by : Form Compared (Option (List Compared × Bool)) → Bool
promoted_by (f.Qualified q t) = t.promoted
promoted_by (f.Arithmetic k) = promoted_in {B = Bool} (f.Arithmetic k)
promoted_by _ = true

abbrev pub compared_by : CType-F Compared (Option (List Compared × Bool)) → Compared
compared_by l = record {
  whole = λ u. same (form l) (form (out-CType u));
  bare = λ u. bare_by (form l) u;
  promoted = promoted_by (form l);
}

abbrev pub compared : CType → Compared
compared = fold-CType Compared (Option (List Compared × Bool)) compared_by listed

abbrev pub compatible : CType → CType → Bool
compatible a b = (compared a).whole b

abbrev pub same_params : Params → Params → Bool
same_params a b = same_listed (fold-Params Compared (Option (List Compared × Bool)) compared_by listed a) (listed (out-Params b))
