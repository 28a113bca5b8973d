-- What is noted while a body is joined is no replacement.
use Rattle.std.proofs.Common.{◌≡◌, ℕ, Bool, true, false, List, [], ◌∷◌, Option, Some, None, refl, sym, subst, ◌∙◌, zero-add}
use Rattle.std.specs.Prelude.{if◌then◌else◌}
use Rattle.cl_base.specs.declared.token.Kind.{Kind}
use Rattle.cl_base.specs.declared.macros.Macro.{Macro}
use Rattle.cl_macro.specs.declared.word.Word.{Word}
use Rattle.cl_macro.specs.declared.part.Part.{Part}
use Rattle.cl_macro.specs.declared.part.Part.TheVariants as part
use Rattle.cl_macro.specs.Rules.{Rules}
use Rattle.cl_macro.specs.Replacing.{replacements}
use Rattle.cl_macro.specs.Pasting.{parts_of, Joined, glue, joins, unspaced}
use Rattle.cl_macro.specs.Made.{made_notes, whole_body, is_file, is_line}
use Rattle.cl_macro.proofs.Joining.{glued_by, joins_due}

abbrev Zero : Joined → Type 0
Zero j = replacements j.notes ≡ 0

glued_zero : (o : List ℕ → Option Kind) (left p : Part) (ps : List Part) (q : Option Part) → ((r : Part) → Zero (joins o false r ps)) → Zero (glued_by o left p ps q)
glued_zero o left p ps (Some q) h = h q
glued_zero o left p ps None h = zero-add _ ∙ h (unspaced p)

joins_zero : (o : List ℕ → Option Kind) (due : Bool) (left : Part) (ps : List Part) → Zero (joins o due left ps)
joins_zero o due left [] = refl
joins_zero o due left (part.Paste ∷ ps) = joins_zero o true left ps
joins_zero o false left (part.Token w ∷ ps) = joins_zero o false (part.Token w) ps
joins_zero o false left (part.Marker space ∷ ps) = joins_zero o false (part.Marker space) ps
joins_zero o true left (part.Token w ∷ ps) = subst (λ (j : Joined). Zero j) (sym (joins_due o left (part.Token w) ps tt))
    (glued_zero o left (part.Token w) ps (glue o left (part.Token w)) (λ r. joins_zero o false r ps))
joins_zero o true left (part.Marker space ∷ ps) = subst (λ (j : Joined). Zero j) (sym (joins_due o left (part.Marker space) ps tt))
    (glued_zero o left (part.Marker space) ps (glue o left (part.Marker space)) (λ r. joins_zero o false r ps))

if_zero : (b : Bool) (j k : Joined) → Zero j → Zero k → Zero (if b then j else k)
if_zero true j k x y = x
if_zero false j k x y = y

whole_zero : (rules : Rules) (m : Macro) (args full : List (List Word)) → Zero (whole_body rules m args full)
whole_zero rules m args full = if_zero (is_file m) _ _ refl (if_zero (is_line m) _ _ refl (joins_zero rules.one_token false (part.Marker false) (parts_of m args full false None m.body)))

pub made_zero : (rules : Rules) (m : Macro) (args full : List (List Word)) → replacements (made_notes rules m args full) ≡ 0
unfolding made_notes
made_zero rules m args full = whole_zero rules m args full
