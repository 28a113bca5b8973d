-- Macro replacement (N1570 6.10.3.1 to 6.10.3.4, with the sets of Prosser's method): a token that comes out of the
-- replacement of a name, or stood in its parentheses, isn't replaced for that name again.
use Rattle.std.specs.Prelude.{◌≡◌, ℕ, ◌+◌, ◌-◌, ◌<◌, ◌≤◌, if◌then◌else◌, List, [], ◌∷◌, ◌++◌, length, map, drop, Some, None}
use Rattle.cl_base.specs.declared.macros.Macro.{Macro}
use Rattle.cl_base.specs.declared.token.Span.{Span}
use Rattle.cl_macro.specs.Rules.{Rules}
use Rattle.cl_macro.specs.declared.word.Word.{Word}
use Rattle.cl_macro.specs.declared.note.Note.{Note}
use Rattle.cl_macro.specs.declared.note.Note.TheVariants as note
use Rattle.cl_macro.specs.declared.note.Told.{Told}
use Rattle.cl_macro.specs.declared.note.Told.TheVariants as told
use Rattle.cl_macro.specs.Words.{looks}
use Rattle.cl_macro.specs.Turns.{Stays, Invokes, Misfits, Open, turn, args_of, set_of, invoking, stay_notes}
use Rattle.cl_macro.specs.Made.{made, made_notes}
use Rattle.cl_macro.specs.Params.{asked, raws}

-- where the last token ends that an invocation takes from the run
abbrev pub end_from : ℕ → List Note → ℕ
end_from to [] = to
end_from to (note.Took at ∷ ns) = end_from at.to ns
end_from to (note.Looked name ∷ ns) = end_from to ns
end_from to (note.Replaced name spell ∷ ns) = end_from to ns
end_from to (note.Faulty number at ∷ ns) = end_from to ns

abbrev pub span_of : Word → List Note → Span
span_of w ns = record { file = w.token.at.file; from = w.token.at.from; to = end_from w.token.at.to ns }

-- what the outermost invocation made stands where it does
abbrev pub settled_word : Span → Word → Word
settled_word at w = record {
  token = record { kind = w.token.kind; text = w.token.text; space = w.token.space; spell = w.token.spell; at = if w.given then w.token.at else at };
  hide = w.hide;
  given = w.given;
}

abbrev pub settled : Word → List Note → List Word → List Word
settled w ns out = map (settled_word (span_of w ns)) out

abbrev pub step : Note → ℕ
step (note.Looked name) = 0
step (note.Replaced name spell) = 1
step (note.Took at) = 0
step (note.Faulty number at) = 0

-- how many replacements
abbrev pub replacements : List Note → ℕ
replacements [] = 0
replacements (n ∷ ns) = step n + replacements ns

module _ (rules : Rules) where
  mutual
    -- The tokens in work, and those behind them that no invocation has taken yet, come to the tokens `out`; of those
    -- behind, `left` are never taken. The notes say what happens on the way, in this order.
    pub data Works : List Word → List Word → List Word → List Word → List Note → Type 0 where
      done : (rest : List Word) → Works [] rest [] rest []
      stays : (w : Word) (work rest out left : List Word) (ns : List Note) → turn rules.macros w (work ++ rest) ≡ Stays
          → Works work rest out left ns → Works (w ∷ work) rest (w ∷ out) left (looks w ++ ns)
      invokes : (w : Word) (work rest : List Word) (m : Macro) (behind : List Word) (full : List (List Word)) (inner : List Note)
          (out left : List Word) (ns : List Note) → turn rules.macros w (work ++ rest) ≡ Invokes m behind
          → Each (asked m (args_of m behind)) full inner
          → Works (made rules m (raws m (args_of m behind)) full w.token.space (set_of w behind) ++ drop (length behind) work)
          (drop (length behind - length work) rest) out left ns
          → Works (w ∷ work) rest out left (invoking w behind ++ (inner ++ (made_notes rules m (raws m (args_of m behind)) full ++ ns)))
      misfits : (w : Word) (work rest behind : List Word) (out left : List Word) (ns : List Note)
          → turn rules.macros w (work ++ rest) ≡ Misfits behind
          → Works (drop (length behind) work) (drop (length behind - length work) rest) out left ns
          → Works (w ∷ work) rest (w ∷ (behind ++ out)) left (stay_notes 19 w behind ++ ns)
      open_ended : (w : Word) (work rest : List Word) → turn rules.macros w (work ++ rest) ≡ Open
          → Works (w ∷ work) rest (w ∷ (work ++ rest)) [] (stay_notes 20 w (work ++ rest))

    -- each argument by itself
    pub data Each : List (List Word) → List (List Word) → List Note → Type 0 where
      none : Each [] [] []
      next : (arg out : List Word) (args outs : List (List Word)) (ns ms : List Note)
          → Works arg [] out [] ns → Each args outs ms → Each (arg ∷ args) (out ∷ outs) (ns ++ ms)

-- what a note of an outermost invocation tells, where so many tokens stand before it and it stands here
abbrev pub told_by : ℕ → Span → Note → List Told
told_by before at (note.Looked name) = told.Looked name ∷ []
told_by before at (note.Replaced name None) = []
told_by before at (note.Replaced name (Some spell)) = told.Used name spell before ∷ []
told_by before at (note.Took end) = []
told_by before at (note.Faulty number None) = told.Faulty number at ∷ []
told_by before at (note.Faulty number (Some place)) = told.Faulty number place ∷ []

abbrev pub all_told : ℕ → Span → List Note → List Told
all_told before at [] = []
all_told before at (n ∷ ns) = told_by before at n ++ all_told before at ns

-- The run, where so many tokens stand before what it comes to: each token that no invocation before it has taken, by the
-- rules of its place. An invocation that makes more than 65,535 replacements, in its arguments and in what it makes too,
-- isn't done.
module _ (rules_at : Span → Rules) where
  pub data Expands : ℕ → List Word → List Word → List Told → Type 0 where
    end : (before : ℕ) → Expands before [] [] []
    whole : (before : ℕ) (w : Word) (rest out left more : List Word) (ns : List Note) (ts : List Told)
        → Works (rules_at w.token.at) (w ∷ []) rest out left ns → replacements ns ≤ 65535
        → Expands (before + length out) left more ts
        → Expands before (w ∷ rest) (settled w ns out ++ more) (all_told before (span_of w ns) ns ++ ts)
    large : (before : ℕ) (w : Word) (rest behind : List Word) (m : Macro) (more : List Word) (ts : List Told)
        → turn (rules_at w.token.at).macros w rest ≡ Invokes m behind
        → ((out left : List Word) (ns : List Note) → Works (rules_at w.token.at) (w ∷ []) rest out left ns → 65535 < replacements ns)
        → Expands (before + length (w ∷ behind)) (drop (length behind) rest) more ts
        → Expands before (w ∷ rest) (w ∷ (behind ++ more)) (all_told before w.token.at (stay_notes 17 w behind) ++ ts)
