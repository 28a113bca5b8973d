-- A token by its index, from 0. Past the end there is none: it spells nothing and lies nowhere.
use Rattle.std.specs.Prelude.{ℕ, List, [], Bool, false, Option, Some, None, slice_get}
use Rattle.cl_base.specs.declared.token.Span.{Span}
use Rattle.cl_base.specs.declared.token.PpToken.{PpToken}
use Rattle.cl_base.specs.Tokens.{is_ident}

abbrev pub text_of : Option PpToken → List ℕ
text_of None = []
text_of (Some token) = token.text

abbrev pub text_at : List PpToken → ℕ → List ℕ
text_at tokens i = text_of (slice_get tokens i)

abbrev pub is_ident_of : Option PpToken → Bool
is_ident_of None = false
is_ident_of (Some token) = is_ident token.kind

abbrev pub is_ident_at : List PpToken → ℕ → Bool
is_ident_at tokens i = is_ident_of (slice_get tokens i)

abbrev pub span_of : Option PpToken → Span
span_of None = record { file = 0; from = 0; to = 0 }
span_of (Some token) = token.at

abbrev pub span_at : List PpToken → ℕ → Span
span_at tokens i = span_of (slice_get tokens i)
