-- What a token is, by its kind and its spelling (N1570 6.4).
use Rattle.std.specs.Prelude.{ℕ, List, Bool, true, false, ◌||◌, ◌&&◌, nat_eq, codes}
use Rattle.std.specs.Cmp.Lexicographic.{pointwise}
use Rattle.cl_base.specs.declared.token.Kind.{Kind}
use Rattle.cl_base.specs.declared.token.Kind.TheVariants as kind
use Rattle.cl_base.specs.declared.token.Token.{Token}

-- keywords are among the identifiers (6.4.1, 6.4.2)
abbrev pub is_ident : Kind → Bool
is_ident kind.Ident = true
is_ident _ = false

abbrev pub is_punct : Kind → Bool
is_punct kind.Punct = true
is_punct _ = false

-- the spelling is this word
abbrev pub spells : List ℕ → List ℕ → Bool
spells text word = pointwise nat_eq text word

-- `#`, or `%:`, which is the same (6.4.6p3)
abbrev pub spells_hash : List ℕ → Bool
spells_hash text = spells text (codes "#") || spells text (codes "%:")

abbrev pub is_hash : Token → Bool
is_hash token = is_punct token.kind && spells_hash token.text

-- this identifier or keyword
abbrev pub is_word : Token → List ℕ → Bool
is_word token word = is_ident token.kind && spells token.text word
