-- Parts, joined one by one.
use Rattle.std.proofs.Common.{◌≡◌, ℕ, true, false, List, [], ◌∷◌, ◌++◌, Option, Some, None, refl, sym, ap, ◌∙◌, append_assoc}
use Rattle.cl_base.specs.declared.token.Kind.{Kind}
use Rattle.cl_macro.specs.declared.note.Note.{Note}
use Rattle.cl_macro.specs.declared.note.Note.TheVariants as note
use Rattle.cl_macro.specs.declared.word.Word.{Word}
use Rattle.cl_macro.specs.declared.part.Part.{Part}
use Rattle.cl_macro.specs.declared.part.Part.TheVariants as part
use Rattle.cl_macro.specs.Pasting.{Joined, glue, joins, kept, put, unspaced}
use Rattle.cl_macro.specs.declared.joint.Joint.{Joint}
use Rattle.cl_macro.specs.Pasting.{tokens}
use Rattle.cl_macro.specs.Resuming.{IsOperand, resume}

pub put_put : (ws vs : List Word) (ns ms : List Note) (j : Joined) → put ws ns (put vs ms j) ≡ put (ws ++ vs) (ns ++ ms) j
put_put ws vs ns ms j = λ i. record { words = sym (append_assoc ws vs j.words) i; notes = sym (append_assoc ns ms j.notes) i }

put_nil : (ns : List Note) → ns ++ [] ≡ ns
put_nil [] = refl
put_nil (n ∷ ns) = ap (λ xs. n ∷ xs) (put_nil ns)

pub joins_kept : (o : List ℕ → Option Kind) (left p : Part) (ps : List Part) → IsOperand p → joins o false left (p ∷ ps) ≡ put (kept left) [] (joins o false p ps)
joins_kept o left (part.Token w) ps h = refl
joins_kept o left (part.Marker space) ps h = refl
joins_kept o left part.Paste ps h = elim h [ ]

abbrev pub glued_by : (List ℕ → Option Kind) → Part → Part → List Part → Option Part → Joined
glued_by o left p ps (Some q) = joins o false q ps
glued_by o left p ps None = put (kept left) (note.Faulty 21 None ∷ []) (joins o false (unspaced p) ps)

pub joins_due : (o : List ℕ → Option Kind) (left p : Part) (ps : List Part) → IsOperand p → joins o true left (p ∷ ps) ≡ glued_by o left p ps (glue o left p)
joins_due o left (part.Token w) ps h = by_glue (glue o left (part.Token w))
  where
    by_glue : (q : Option Part) → (elim q [ Some r ↦ joins o false r ps | None ↦ put (kept left) (note.Faulty 21 None ∷ []) (joins o false (unspaced (part.Token w)) ps) ]) ≡ glued_by o left (part.Token w) ps q
    by_glue (Some r) = refl
    by_glue None = refl
joins_due o left (part.Marker space) ps h = by_glue (glue o left (part.Marker space))
  where
    by_glue : (q : Option Part) → (elim q [ Some r ↦ joins o false r ps | None ↦ put (kept left) (note.Faulty 21 None ∷ []) (joins o false (unspaced (part.Marker space)) ps) ]) ≡ glued_by o left (part.Marker space) ps q
    by_glue (Some r) = refl
    by_glue None = refl
joins_due o left part.Paste ps h = elim h [ ]

-- a part that is kept
pub pushed_kept : (o : List ℕ → Option Kind) (words words2 : List Word) (notes : List Note) (left p : Part) (ps : List Part) → IsOperand p
    → words2 ≡ words ++ kept left → put words notes (joins o false left (p ∷ ps)) ≡ put words2 notes (joins o false p ps)
pushed_kept o words words2 notes left p ps h e = ap (put words notes) (joins_kept o left p ps h) ∙ put_put words (kept left) notes [] (joins o false p ps)
    ∙ (λ i. put (sym e i) (put_nil notes i) (joins o false p ps))

pub pushed_one : (o : List ℕ → Option Kind) (words : List Word) (notes : List Note) (left p q : Part) (ps : List Part) → IsOperand p
    → glue o left p ≡ Some q → put words notes (joins o true left (p ∷ ps)) ≡ put words notes (joins o false q ps)
pushed_one o words notes left p q ps h e = ap (put words notes) (joins_due o left p ps h ∙ ap (glued_by o left p ps) e)

pub pushed_two : (o : List ℕ → Option Kind) (words words2 : List Word) (notes notes2 : List Note) (left p : Part) (ps : List Part) → IsOperand p
    → glue o left p ≡ None → words2 ≡ words ++ kept left → notes2 ≡ notes ++ note.Faulty 21 None ∷ []
    → put words notes (joins o true left (p ∷ ps)) ≡ put words2 notes2 (joins o false (unspaced p) ps)
pushed_two o words words2 notes notes2 left p ps h e ew en = ap (put words notes) (joins_due o left p ps h ∙ ap (glued_by o left p ps) e)
    ∙ put_put words (kept left) notes (note.Faulty 21 None ∷ []) (joins o false (unspaced p) ps)
    ∙ (λ i. put (sym ew i) (sym en i) (joins o false (unspaced p) ps))

pub push_one : (o : List ℕ → Option Kind) (joint : Joint) (notes : List Note) (p q left : Part) (ps : List Part) → IsOperand p → joint.due ≡ true
    → left ≡ joint.left → glue o left p ≡ Some q → resume o joint notes (p ∷ ps) ≡ put joint.words notes (joins o false q ps)
push_one o joint notes p q left ps h d l g = (λ i. put joint.words notes (joins o (d i) (sym l i) (p ∷ ps)))
    ∙ pushed_one o joint.words notes left p q ps h g

pub push_two : (o : List ℕ → Option Kind) (joint : Joint) (notes notes2 : List Note) (p left l2 r2 u : Part) (words2 : List Word) (ps : List Part) → IsOperand p
    → joint.due ≡ true → left ≡ joint.left → (glue o left p ≡ None) × (l2 ≡ left) × (r2 ≡ p) → u ≡ unspaced r2
    → words2 ≡ joint.words ++ kept l2 → notes2 ≡ notes ++ note.Faulty 21 None ∷ []
    → resume o joint notes (p ∷ ps) ≡ put words2 notes2 (joins o false u ps)
push_two o joint notes notes2 p left l2 r2 u words2 ps h d l g eu ew en = (λ i. put joint.words notes (joins o (d i) (sym l i) (p ∷ ps)))
    ∙ pushed_two o joint.words words2 notes notes2 left p ps h g.0 (ew ∙ ap (λ x. joint.words ++ kept x) g.1) en
    ∙ ap (λ x. put words2 notes2 (joins o false x ps)) (sym (eu ∙ ap unspaced g.2))

-- a token of several is added
pub pushed_token : (o : List ℕ → Option Kind) (total : Joined) (joint joint2 : Joint) (notes notes2 : List Note) (rest behind : List Word) (w v : Word) (ps : List Part)
    → total ≡ resume o joint notes (tokens rest ++ ps) → rest ≡ w ∷ behind → v ≡ w
    → ((qs : List Part) → resume o joint notes (part.Token v ∷ qs) ≡ resume o joint2 notes2 qs) → total ≡ resume o joint2 notes2 (tokens behind ++ ps)
pushed_token o total joint joint2 notes notes2 rest behind w v ps e r x k = e ∙ ap (λ ws. resume o joint notes (tokens ws ++ ps)) r
    ∙ ap (λ y. resume o joint notes (part.Token y ∷ (tokens behind ++ ps))) (sym x) ∙ k (tokens behind ++ ps)
