-- Composite types (N1570 6.2.7p3).
use Rattle.std.specs.Prelude.{Bool, List, [], ◌∷◌, map, Option, Some, None}
use Rattle.cl_types.specs.declared.types.Length.{Length}
use Rattle.cl_types.specs.declared.types.Length.TheVariants.{Fixed, Unsized, Variable, Unknown}
use Rattle.cl_types.specs.declared.types.CType.{CType}
use Rattle.cl_types.specs.declared.types.CType.TheFolds.{fold-CType, fold-Params, map-CType}
use Rattle.cl_types.specs.declared.types.CType.TheOpen.{CType-F}
use Rattle.cl_types.specs.declared.types.CType.TheVariants as make
use Rattle.cl_types.specs.declared.types.CType.TheViews.{out-CType, out-Params, roll-CType}
use Rattle.cl_types.specs.declared.types.Params.{Params}
use Rattle.cl_types.specs.declared.types.Params.TheVariants as make_params
use Rattle.cl_types.specs.Form.{Form, Form as f, form, listed, unqualified}

-- what a type within another gives: itself; its composite with this type; the same, the qualifiers of both left out
pub record Composed : Type 0 where
  pub own : CType
  pub whole : CType → CType
  pub bare : CType → CType

-- a constant length, else one that is known when the program runs, else one in error, else none
abbrev pub longer : Length → Length → Length
longer (Fixed n) _ = Fixed n
longer _ (Fixed m) = Fixed m
longer Variable _ = Variable
longer _ Variable = Variable
longer Unknown _ = Unknown
longer _ Unknown = Unknown
longer Unsized Unsized = Unsized

abbrev pub compose_each : List Composed → List CType → List CType
compose_each (p ∷ ps) (q ∷ qs) = p.bare q ∷ compose_each ps qs
compose_each _ _ = []

abbrev pub own_listed : Option (List Composed × Bool) → Params
own_listed None = make_params.NoProto
own_listed (Some p) = make_params.Proto (map (λ c. c.own) p.0) p.1

-- of two parameter lists, of one, or of none
abbrev pub compose_listed : Option (List Composed × Bool) → Option (List CType × Bool) → Params
compose_listed (Some p) (Some q) = make_params.Proto (compose_each p.0 q.0) p.1
compose_listed None (Some q) = make_params.Proto q.0 q.1
compose_listed p None = own_listed p

-- two types, layer beside layer: of a type in error and another the other, and where nothing within differs the first
abbrev pub compose : CType → Form Composed (Option (List Composed × Bool)) → CType → Form CType Params → CType
compose a f.Error b _ = b
compose a (f.Pointer t) b (f.Pointer u) = make.Pointer (t.whole u)
compose a (f.Array t n) b (f.Array u m) = make.Array (t.whole u) (longer n m)
compose a (f.Function t ps) b (f.Function u qs) = make.Function (t.whole u) (compose_listed ps (listed (out-Params qs)))
compose a (f.Qualified q t) b (f.Qualified r u) = make.Qualified q (t.whole u)
compose a (f.Atomic t) b (f.Atomic u) = make.Atomic (t.whole u)
compose a _ b _ = a

abbrev pub compose_bare : CType → Form Composed (Option (List Composed × Bool)) → CType → CType
compose_bare a (f.Qualified q t) b = t.whole (unqualified b)
compose_bare a l b = compose a l (unqualified b) (form (out-CType (unqualified b)))

abbrev pub own_by : CType-F Composed (Option (List Composed × Bool)) → CType
own_by l = roll-CType (map-CType Composed (Option (List Composed × Bool)) CType Params (λ c. c.own) own_listed l)

abbrev pub composed_by : CType-F Composed (Option (List Composed × Bool)) → Composed
composed_by l = record {
  own = own_by l;
  whole = λ b. compose (own_by l) (form l) b (form (out-CType b));
  bare = λ b. compose_bare (own_by l) (form l) b;
}

abbrev pub composed : CType → Composed
composed = fold-CType Composed (Option (List Composed × Bool)) composed_by listed

abbrev pub composed_params : Params → Option (List Composed × Bool)
composed_params = fold-Params Composed (Option (List Composed × Bool)) composed_by listed

abbrev pub composite : CType → CType → CType
composite a b = (composed a).whole b

abbrev pub composite_params : Params → Params → Params
composite_params a b = compose_listed (composed_params a) (listed (out-Params b))
