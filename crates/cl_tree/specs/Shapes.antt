-- What a token is to the grammar, before it is known which names are typedef names.
use Rattle.std.specs.Prelude.{Bool, true, false}
use Rattle.cl_tree.specs.declared.class.Class.TheVariants as cl
use Rattle.cl_tree.specs.declared.shape.Raw.{Raw}
use Rattle.cl_tree.specs.declared.shape.Raw.TheVariants as raw
use Rattle.cl_tree.specs.declared.shape.Ahead.{Ahead}
use Rattle.cl_tree.specs.declared.shape.Ahead.TheVariants as ahead
use Rattle.cl_tree.specs.declared.shape.Shape.{Shape}
use Rattle.cl_tree.specs.declared.shape.Shape.TheVariants.{Fixed, Word, Paren}

abbrev pub is_colon : Ahead → Bool
is_colon ahead.Colon = true
is_colon _ = false

abbrev pub is_type : Ahead → Bool
is_type ahead.Type = true
is_type _ = false

-- `*` directly before `]` stands for a length (6.7.6.2)
abbrev pub star : Ahead → Shape
star ahead.Bracket = Fixed cl.StarBracket
star _ = Fixed cl.Star

-- `,` after a list's last member, before a designation (6.7.9), or between two members
abbrev pub comma : Ahead → Shape
comma ahead.End = Fixed cl.LastComma
comma ahead.Designator = Fixed cl.DesignationComma
comma _ = Fixed cl.Comma

-- `_Atomic` directly before `(` begins a type specifier (6.7.2.4p4)
abbrev pub atomic : Ahead → Shape
atomic ahead.Paren = Fixed cl.AtomicParen
atomic _ = Fixed cl.Atomic

-- a token's shape, by what it is, what stands directly after it, and whether its partner stands directly before `{`
abbrev pub shape_of : Raw → Ahead → Bool → Shape
shape_of (raw.Plain k) next literal = Fixed k
shape_of raw.Word next literal = Word (is_colon next)
shape_of raw.Paren next literal = Paren literal (is_type next)
shape_of raw.Star next literal = star next
shape_of raw.Comma next literal = comma next
shape_of raw.Atomic next literal = atomic next
