-- What stands behind a derivation, by what is to be done with the first token.
use Rattle.std.proofs.Common.{◌≡◌, List, [], ◌∷◌, ◌++◌, length, drop, ◌-◌, refl, sym, subst}
use Rattle.cl_base.specs.declared.macros.Macro.{Macro}
use Rattle.cl_macro.specs.Rules.{Rules}
use Rattle.cl_macro.specs.declared.word.Word.{Word}
use Rattle.cl_macro.specs.declared.note.Note.{Note}
use Rattle.cl_macro.specs.Words.{looks}
use Rattle.cl_macro.specs.Turns.{Turn, Stays, Invokes, Misfits, Open, turn, args_of, set_of, invoking, stay_notes}
use Rattle.cl_macro.specs.Made.{made, made_notes}
use Rattle.cl_macro.specs.Params.{asked, raws}
use Rattle.cl_macro.specs.Replacing.{Works, Each, done, stays, invokes, misfits, open_ended, none, next}

module _ (rules : Rules) where
  pub record Staying (w : Word) (work rest out left : List Word) (ns : List Note) : Type 0 where
    pub later : List Word
    pub more : List Note
    pub works : Works rules work rest later left more
    pub words : out ≡ w ∷ later
    pub all : ns ≡ looks w ++ more

  pub record Invoked (w : Word) (work rest : List Word) (m : Macro) (behind out left : List Word) (ns : List Note) : Type 0 where
    pub full : List (List Word)
    pub inner : List Note
    pub more : List Note
    pub each : Each rules (asked m (args_of m behind)) full inner
    pub works : Works rules (made rules m (raws m (args_of m behind)) full w.token.space (set_of w behind) ++ drop (length behind) work) (drop (length behind - length work) rest) out left more
    pub all : ns ≡ invoking w behind ++ (inner ++ (made_notes rules m (raws m (args_of m behind)) full ++ more))

  pub record Misfitting (w : Word) (work rest behind out left : List Word) (ns : List Note) : Type 0 where
    pub later : List Word
    pub more : List Note
    pub works : Works rules (drop (length behind) work) (drop (length behind - length work) rest) later left more
    pub words : out ≡ w ∷ (behind ++ later)
    pub all : ns ≡ stay_notes 19 w behind ++ more

  pub record Opening (w : Word) (work rest out left : List Word) (ns : List Note) : Type 0 where
    pub words : out ≡ w ∷ (work ++ rest)
    pub none : left ≡ []
    pub all : ns ≡ stay_notes 20 w (work ++ rest)

  pub record Nothing (rest out left : List Word) (ns : List Note) : Type 0 where
    pub words : out ≡ []
    pub all : left ≡ rest
    pub notes : ns ≡ []

  abbrev pub ShapeBy : Turn → Word → List Word → List Word → List Word → List Word → List Note → Type 0
  ShapeBy Stays w work rest out left ns = Staying w work rest out left ns
  ShapeBy (Invokes m behind) w work rest out left ns = Invoked w work rest m behind out left ns
  ShapeBy (Misfits behind) w work rest out left ns = Misfitting w work rest behind out left ns
  ShapeBy Open w work rest out left ns = Opening w work rest out left ns

  abbrev pub Shape : List Word → List Word → List Word → List Word → List Note → Type 0
  Shape [] rest out left ns = Nothing rest out left ns
  Shape (w ∷ work) rest out left ns = ShapeBy (turn rules.macros w (work ++ rest)) w work rest out left ns

  by_turn : (t u : Turn) (w : Word) (work rest out left : List Word) (ns : List Note) → u ≡ t → ShapeBy t w work rest out left ns → ShapeBy u w work rest out left ns
  by_turn t u w work rest out left ns e s = subst (λ (v : Turn). ShapeBy v w work rest out left ns) (sym e) s

  pub shape : {work rest out left : List Word} {ns : List Note} → Works rules work rest out left ns → Shape work rest out left ns
  shape (done rest) = record { words = refl; all = refl; notes = refl }
  shape (stays w work rest out left ns e d) = by_turn Stays _ w work rest _ _ _ e (record { later = out; more = ns; works = d; words = refl; all = refl })
  shape (invokes w work rest m behind full inner out left ns e a d) =
      by_turn (Invokes m behind) _ w work rest _ _ _ e (record { full = full; inner = inner; more = ns; each = a; works = d; all = refl })
  shape (misfits w work rest behind out left ns e d) =
      by_turn (Misfits behind) _ w work rest _ _ _ e (record { later = out; more = ns; works = d; words = refl; all = refl })
  shape (open_ended w work rest e) = by_turn Open _ w work rest _ _ _ e (record { words = refl; none = refl; all = refl })

  -- where it is known what is to be done
  pub shape_at : (t : Turn) (w : Word) (work rest out left : List Word) (ns : List Note) → turn rules.macros w (work ++ rest) ≡ t → Works rules (w ∷ work) rest out left ns
      → ShapeBy t w work rest out left ns
  shape_at t w work rest out left ns e d = subst (λ (v : Turn). ShapeBy v w work rest out left ns) e (shape d)

  pub record Nexts (arg : List Word) (args full : List (List Word)) (ns : List Note) : Type 0 where
    pub out : List Word
    pub outs : List (List Word)
    pub first : List Note
    pub more : List Note
    pub works : Works rules arg [] out [] first
    pub each : Each rules args outs more
    pub words : full ≡ out ∷ outs
    pub all : ns ≡ first ++ more

  abbrev pub EachShape : List (List Word) → List (List Word) → List Note → Type 0
  EachShape [] full ns = (full ≡ []) × (ns ≡ [])
  EachShape (arg ∷ args) full ns = Nexts arg args full ns

  pub each_shape : {args full : List (List Word)} {ns : List Note} → Each rules args full ns → EachShape args full ns
  each_shape none = (refl, refl)
  each_shape (next arg out args outs ns ms d e) = record { out = out; outs = outs; first = ns; more = ms; works = d; each = e; words = refl; all = refl }
