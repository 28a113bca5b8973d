-- Whether a composite takes parts of both types.
use Rattle.std.specs.Prelude.{Bool, true, false}
use Rattle.cl_types.specs.declared.types.CType.{CType}
use Rattle.cl_types.specs.declared.types.CType.TheViews.{out-CType}
use Rattle.cl_types.specs.Form.{Form, Form as f, form}

abbrev pub paired_by : {A B C D : Type 0} → Form A B → Form C D → Bool
paired_by f.Error _ = true
paired_by (f.Pointer t) (f.Pointer u) = true
paired_by (f.Array t n) (f.Array u m) = true
paired_by (f.Function t ps) (f.Function u qs) = true
paired_by (f.Qualified q t) (f.Qualified r u) = true
paired_by (f.Atomic t) (f.Atomic u) = true
paired_by _ _ = false

abbrev pub paired : CType → CType → Bool
paired a b = paired_by (form (out-CType a)) (form (out-CType b))

abbrev pub is_qualified_by : {A B : Type 0} → Form A B → Bool
is_qualified_by (f.Qualified q t) = true
is_qualified_by _ = false

abbrev pub is_qualified : CType → Bool
is_qualified a = is_qualified_by (form (out-CType a))
