-- The code's lists of sections say what the definitions look for.
use Rattle.std.proofs.Common.{◌≡◌, ℕ, zero, suc, Bool, true, false, not, if◌then◌else◌, List, [], ◌∷◌, Option, Some, None, refl, ap, ◌∙◌, take}
use Rattle.std.specs.Prelude.{reverse, is_some}
use Rattle.cl_cond.specs.declared.mark.Condition.TheVariants.{If, IfDef, IfNDef, Elif, Else}
use Rattle.cl_cond.specs.declared.mark.Part.{Part}
use Rattle.cl_cond.specs.declared.mark.Part.TheVariants.{Line, Branch, End}
use Rattle.cl_cond.specs.declared.mark.Mark.{Mark}
use Rattle.cl_cond.specs.declared.trouble.Trouble.{Trouble}
use Rattle.cl_cond.specs.declared.trouble.Trouble.TheVariants.{Outside, AfterElse, Unended}
use Rattle.cl_cond.specs.Sections.{is_open, has_else, has_end, trouble, parts}
use Rattle.cl_cond.specs.code.Nesting.{rest, with_else, sections, ends_of, trouble_by, of_section, of_end, of_if}

-- what the lines before a place are, the newest first
abbrev pub past : List Mark → ℕ → List Part
past lines i = reverse (parts (take i lines))

-- the section at a depth, from the innermost on
abbrev at_depth : ℕ → List Bool → Option Bool
at_depth n [] = None
at_depth zero (b ∷ s) = Some b
at_depth (suc n) (b ∷ s) = at_depth n s

at_rest : (n : ℕ) (s : List Bool) → at_depth (suc n) s ≡ at_depth n (rest s)
at_rest n [] = refl
at_rest n (b ∷ s) = refl

below_else : (n : ℕ) (s : List Bool) → at_depth (suc n) s ≡ at_depth (suc n) (with_else s)
below_else n [] = refl
below_else n (b ∷ s) = refl

with_else_some : (s : List Bool) → is_some (at_depth zero s) ≡ is_some (at_depth zero (with_else s))
with_else_some [] = refl
with_else_some (b ∷ s) = refl

open_at : (n : ℕ) (before : List Part) → is_open n before ≡ is_some (at_depth n (sections before))
open_at n [] = refl
open_at n (Line ∷ before) = open_at n before
open_at n (End ∷ before) = open_at (suc n) before ∙ ap is_some (at_rest n (sections before))
open_at zero (Branch If ∷ before) = refl
open_at zero (Branch IfDef ∷ before) = refl
open_at zero (Branch IfNDef ∷ before) = refl
open_at zero (Branch Elif ∷ before) = open_at zero before
open_at zero (Branch Else ∷ before) = open_at zero before ∙ with_else_some (sections before)
open_at (suc n) (Branch If ∷ before) = open_at n before
open_at (suc n) (Branch IfDef ∷ before) = open_at n before
open_at (suc n) (Branch IfNDef ∷ before) = open_at n before
open_at (suc n) (Branch Elif ∷ before) = open_at (suc n) before
open_at (suc n) (Branch Else ∷ before) = open_at (suc n) before ∙ ap is_some (below_else n (sections before))

true_there : (s : List Bool) (b : Bool) → at_depth zero (with_else s) ≡ Some b → true ≡ b
true_there [] b e = cc
true_there (x ∷ s) b e = cc

else_at : (n : ℕ) (before : List Part) (b : Bool) → at_depth n (sections before) ≡ Some b → has_else n before ≡ b
else_at n [] b e = cc
else_at n (Line ∷ before) b e = else_at n before b e
else_at n (End ∷ before) b e = else_at (suc n) before b (at_rest n (sections before) ∙ e)
else_at zero (Branch If ∷ before) b e = cc
else_at zero (Branch IfDef ∷ before) b e = cc
else_at zero (Branch IfNDef ∷ before) b e = cc
else_at zero (Branch Elif ∷ before) b e = else_at zero before b e
else_at zero (Branch Else ∷ before) b e = true_there (sections before) b e
else_at (suc n) (Branch If ∷ before) b e = else_at n before b e
else_at (suc n) (Branch IfDef ∷ before) b e = else_at n before b e
else_at (suc n) (Branch IfNDef ∷ before) b e = else_at n before b e
else_at (suc n) (Branch Elif ∷ before) b e = else_at (suc n) before b e
else_at (suc n) (Branch Else ∷ before) b e = else_at (suc n) before b (below_else n (sections before) ∙ e)

of_section_at : (s : List Bool) (o h : Bool) → o ≡ is_some (at_depth zero s) → ((b : Bool) → at_depth zero s ≡ Some b → h ≡ b)
    → (if not o then Some Outside else if h then Some AfterElse else None) ≡ of_section s
of_section_at [] o h e f = rw e refl
of_section_at (true ∷ s) o h e f = rw (e, f true refl) refl
of_section_at (false ∷ s) o h e f = rw (e, f false refl) refl

of_end_at : (s : List Bool) (o : Bool) → o ≡ is_some (at_depth zero s) → ◌≡◌ {A = Option Trouble} (if o then None else Some Outside) (of_end s)
of_end_at [] o e = rw e refl
of_end_at (b ∷ s) o e = rw e refl

of_if_at : (b : Bool) (ends : List Bool) → ◌≡◌ {A = Option Trouble} (if b then None else Some Unended) (of_if (b ∷ ends))
of_if_at true ends = refl
of_if_at false ends = refl

-- what is wrong with a line, by the code's lists
pub trouble_known : (before : List Part) (p : Part) (after : List Part) → trouble before p after ≡ trouble_by p (sections before) (ends_of (p ∷ after))
trouble_known before Line after = refl
trouble_known before End after = of_end_at (sections before) (is_open zero before) (open_at zero before)
trouble_known before (Branch If) after = of_if_at (has_end zero after) (ends_of after)
trouble_known before (Branch IfDef) after = of_if_at (has_end zero after) (ends_of after)
trouble_known before (Branch IfNDef) after = of_if_at (has_end zero after) (ends_of after)
trouble_known before (Branch Elif) after = of_section_at (sections before) (is_open zero before) (has_else zero before) (open_at zero before) (else_at zero before)
trouble_known before (Branch Else) after = of_section_at (sections before) (is_open zero before) (has_else zero before) (open_at zero before) (else_at zero before)
