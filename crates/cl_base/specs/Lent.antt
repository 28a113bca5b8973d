-- A value that is lent or owned.
use Rattle.cl_base.specs.declared.lent.Lent.{Lent}
use Rattle.cl_base.specs.declared.lent.Lent.TheVariants.{Shared, Own}

abbrev pub lent_value : {T : Type 0} → Lent T → T
lent_value (Shared r) = r.now
lent_value (Own b) = b.value
