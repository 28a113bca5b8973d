-- Qualified types (N1570 6.2.5p26, 6.7.3).
use Rattle.std.specs.Prelude.{ℕ, ◌==◌, if◌then◌else◌, bit_or}
use Rattle.cl_types.specs.declared.types.CType.{CType}
use Rattle.cl_types.specs.declared.types.CType.TheFolds.{fold-CType}
use Rattle.cl_types.specs.declared.types.CType.TheVariants as make
use Rattle.cl_types.specs.declared.types.CType.TheViews.{out-CType}
use Rattle.cl_types.specs.declared.types.Params.{Params}
use Rattle.cl_types.specs.Form.{Form, Form as f, form}

abbrev pub qualifiers_in : {A B : Type 0} → Form A B → ℕ
qualifiers_in (f.Qualified q t) = q
qualifiers_in _ = 0

-- a type's own qualifiers
abbrev pub qualifiers_of : CType → ℕ
qualifiers_of t = qualifiers_in (form (out-CType t))

abbrev pub with_qualifiers : ℕ → CType → CType
with_qualifiers q a = if q == 0 then a else make.Qualified q a

-- a layer with these qualifiers: those of an array go to its elements (6.7.3p9), and a function and a type in error take none
abbrev pub qualify : Form (ℕ → CType → CType) (Unit {0}) → Form CType Params → ℕ → CType → CType
qualify (f.Array t n) (f.Array x m) q a = make.Array (t q x) m
qualify (f.Qualified r t) (f.Qualified s x) q a = make.Qualified (bit_or s q) x
qualify (f.Function t ps) _ q a = a
qualify f.Error _ q a = a
qualify _ _ q a = with_qualifiers q a

abbrev pub qualifying : CType → ℕ → CType → CType
qualifying = fold-CType (ℕ → CType → CType) (Unit {0}) (λ l q a. qualify (form l) (form (out-CType a)) q a) (λ ps. tt)

-- a type with these qualifiers added
abbrev pub qualified : ℕ → CType → CType
qualified q a = qualifying a q a
