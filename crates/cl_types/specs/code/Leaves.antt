-- The code's way with types without parts.
use Rattle.std.specs.Prelude.{◌==◌, ◌&&◌, Bool, true, false}
use Rattle.cl_types.specs.declared.types.Basic.{Basic}
use Rattle.cl_types.specs.declared.types.CType.{CType}
use Rattle.cl_types.specs.declared.types.CType.TheViews.{out-CType}
use Rattle.cl_types.specs.declared.types.Params.{Params}
use Rattle.cl_types.specs.Compatible.{is_int, is_enum}
use Rattle.cl_types.specs.Form.{Form, Form as f, form, place}

abbrev pub arithmetic_by : Basic → Form CType Params → Bool
arithmetic_by k f.Error = true
arithmetic_by k (f.Tag n w) = is_int k && is_enum w
arithmetic_by k (f.Arithmetic j) = place k == place j
arithmetic_by k _ = false

abbrev pub same_arithmetic : Basic → CType → Bool
same_arithmetic k b = arithmetic_by k (form (out-CType b))

abbrev pub leaf_by : Form CType Params → Form CType Params → Bool
leaf_by f.Error _ = true
leaf_by (f.Arithmetic k) b = arithmetic_by k b
leaf_by _ f.Error = true
leaf_by f.Void f.Void = true
leaf_by (f.Tag n w) (f.Arithmetic k) = is_int k && is_enum w
leaf_by (f.Tag n w) (f.Tag m v) = n == m
leaf_by _ _ = false

abbrev pub same_leaf : CType → CType → Bool
same_leaf a b = leaf_by (form (out-CType a)) (form (out-CType b))
