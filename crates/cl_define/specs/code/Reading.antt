-- How a line is read, a token after the other.
use Rattle.std.specs.Prelude.{ℕ, List, [], ◌∷◌, ◌++◌, true, false, ◌&&◌, if◌then◌else◌, Option, Some, None, take, drop}
use Rattle.std.specs.List.{position_from}
use Rattle.cl_base.specs.declared.token.Span.{Span}
use Rattle.cl_base.specs.declared.token.Token.{Token}
use Rattle.cl_base.specs.declared.macros.Macro.{Macro}
use Rattle.cl_base.specs.Tokens.{is_ident}
use Rattle.cl_define.specs.declared.params.Params.{Params}
use Rattle.cl_define.specs.Words.{is_close, is_comma, is_dots, is_lparen}
use Rattle.cl_define.specs.Definitions.{object_like, function_like}
use Rattle.cl_define.specs.Constraints.{is_valid}

-- further parameters behind these names
abbrev pub with_names : List (List ℕ) → Option Params → Option Params
with_names names None = None
with_names names (Some p) = Some (record { names = names ++ p.names; variadic = p.variadic })

abbrev pub last_param : Token → Option Params
last_param t =
    if is_dots t then Some (record { names = []; variadic = true })
    else if is_ident t.kind then Some (record { names = t.text ∷ []; variadic = false })
    else None

-- the parameters that these tokens are, where there is one
abbrev pub some_params : List Token → Option Params
some_params [] = None
some_params (t ∷ []) = last_param t
some_params (t ∷ (comma ∷ ts)) = if is_ident t.kind && is_comma comma then with_names (t.text ∷ []) (some_params ts) else None

abbrev pub params_of : List Token → Option Params
params_of [] = Some (record { names = []; variadic = false })
params_of (t ∷ ts) = some_params (t ∷ ts)

abbrev pub with_params : Option Span → Token → List Token → Option Params → Option Macro
with_params place name list None = None
with_params place name list (Some p) = Some (function_like place name.text p.names p.variadic list)

abbrev pub closed : Option Span → Token → List Token → Option ℕ → Option Macro
closed place name ts None = None
closed place name ts (Some n) = with_params place name (drop 1 (drop n ts)) (params_of (take n ts))

-- what stands behind the name
abbrev pub behind : Option Span → Token → List Token → Option Macro
behind place name [] = Some (object_like place name.text [])
behind place name (t ∷ ts) =
    if is_lparen t then closed place name ts (position_from is_close 0 ts)
    else if t.space then Some (object_like place name.text (t ∷ ts))
    else None

abbrev pub written : Option Span → List Token → Option Macro
written place [] = None
written place (t ∷ ts) = if is_ident t.kind then behind place t ts else None

abbrev pub checked : Option Macro → Option Macro
checked None = None
checked (Some m) = if is_valid m then Some m else None
