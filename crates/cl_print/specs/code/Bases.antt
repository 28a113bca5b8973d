-- The code's way with the bases of types without parts.
use Rattle.std.specs.Prelude.{ℕ, List, ◌++◌, codes}
use Rattle.cl_types.specs.declared.types.CType.{CType}
use Rattle.cl_types.specs.declared.types.CType.TheOpen.{CType-F}
use Rattle.cl_types.specs.declared.types.CType.TheViews.{out-CType}
use Rattle.cl_types.specs.declared.types.Params.{Params}
use Rattle.cl_types.specs.Form.{Form, Form as f, form}
use Rattle.cl_print.specs.Print.{basic_word, tag_word, tag_name}

abbrev pub leaf_base_by : CType-F CType Params → Form CType Params → List ℕ
leaf_base_by (CType-F.Tag n w name) _ = tag_word w ++ tag_name name
leaf_base_by _ f.Void = codes "void"
leaf_base_by _ (f.Arithmetic k) = basic_word k
leaf_base_by _ _ = codes "(error)"

abbrev pub leaf_base : CType → List ℕ
leaf_base t = leaf_base_by (out-CType t) (form (out-CType t))
