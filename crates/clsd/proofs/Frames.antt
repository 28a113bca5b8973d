-- The frames of effects, written one after another.
use Rattle.std.proofs.Common.{◌≡◌, ℕ, ◌+◌, ◌<◌, List, ◌∷◌, ◌++◌, length, take, drop, get_or, refl, sym, ap, ◌∙◌, append_assoc, add-one, suc}
use Rattle.std.specs.Prelude.{Option}
use Rattle.std.proofs.lemmas.List.{take-append-drop}
use Rattle.std.proofs.Math.Seq.{drop-cons}
use Rattle.std.specs.Io.KnownBytes.{append_known}
use Rattle.cl_frames.proofs.Known.{append_known_append}
use Rattle.cl_core.specs.declared.event.Effect.{Effect}
use Rattle.cl_core.specs.declared.event.Effect.TheVariants as effect
use Rattle.cl_core.specs.Standing.{frames_of}
use Rattle.clsd.specs.Serving.{frame_of}

-- the effects from i on are the i-th and those after it
from_here : (es : List Effect) (i : ℕ) (e : Effect) → i < length es → e ≡ get_or es i e → drop i es ≡ e ∷ drop (i + 1) es
from_here es i e lt is = rw (add-one i) (drop-cons es i e lt ∙ ap (λ (x : Effect). x ∷ drop (suc i) es) (sym is))

one_more : (e : Effect) (es : List Effect) → frames_of (e ∷ es) ≡ frame_of e ++ frames_of es
one_more (effect.Reply r) es = refl
one_more (effect.StartJob job) es = refl
one_more (effect.Load path) es = refl
one_more (effect.Finish status) es = refl

-- the frames of the effects from the i-th on begin with its frame
pub frame_here : (es : List Effect) (i : ℕ) (e : Effect) → i < length es → e ≡ get_or es i e
    → frames_of (drop i es) ≡ frame_of e ++ frames_of (drop (i + 1) es)
frame_here es i e lt is = ap frames_of (from_here es i e lt is) ∙ one_more e (drop (i + 1) es)

-- a further piece was written
pub written_on : (a b c : Option (List ℕ)) (all front piece rest more : List ℕ) → all ≡ front ++ rest → rest ≡ piece ++ more → b ≡ append_known a front → c ≡ append_known b piece
    → (all ≡ (front ++ piece) ++ more) × (c ≡ append_known a (front ++ piece))
written_on a b c all front piece rest more whole parts before now = (
  whole ∙ ap (λ (w : List ℕ). front ++ w) parts ∙ sym (append_assoc front piece more),
  now ∙ ap (λ (w : Option (List ℕ)). append_known w piece) before ∙ append_known_append a front piece,
)

-- and of it only the first n bytes
pub written_part : (a b c : Option (List ℕ)) (all front piece rest more : List ℕ) (n : ℕ) → all ≡ front ++ rest → rest ≡ piece ++ more → b ≡ append_known a front
    → c ≡ append_known b (take n piece)
    → (all ≡ (front ++ take n piece) ++ (drop n piece ++ more)) × (c ≡ append_known a (front ++ take n piece))
written_part a b c all front piece rest more n whole parts before now =
    written_on a b c all front (take n piece) rest (drop n piece ++ more) whole
    (parts ∙ ap (λ (w : List ℕ). w ++ more) (sym (take-append-drop n piece)) ∙ append_assoc (take n piece) (drop n piece) more) before now
