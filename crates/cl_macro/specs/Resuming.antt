-- The parts of a body as the code joins them.
use Rattle.std.specs.Prelude.{◌≡◌, ℕ, List, Option, Some, None}
use Rattle.cl_base.specs.declared.token.Kind.{Kind}
use Rattle.cl_macro.specs.declared.note.Note.{Note}
use Rattle.cl_macro.specs.declared.part.Part.{Part}
use Rattle.cl_macro.specs.declared.part.Part.TheVariants as part
use Rattle.cl_macro.specs.declared.joint.Joint.{Joint}
use Rattle.cl_macro.specs.declared.joint.Glued.{Glued}
use Rattle.cl_macro.specs.declared.joint.Glued.TheVariants as glued
use Rattle.cl_macro.specs.Pasting.{Joined, joins, put}

-- what comes of these parts behind what is joined already
abbrev pub resume : (List ℕ → Option Kind) → Joint → List Note → List Part → Joined
resume one_token joint notes ps = put joint.words notes (joins one_token joint.due joint.left ps)

abbrev pub IsOperand : Part → Type 0
IsOperand part.Paste = ⊥
IsOperand p = Unit {0}

abbrev pub GluedAs : Option Part → Part → Part → Glued → Type 0
GluedAs o a b (glued.One p) = o ≡ Some p
GluedAs o a b (glued.Two x y) = (o ≡ None) × (x ≡ a) × (y ≡ b)
