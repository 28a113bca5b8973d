-- An invocation of the run, whole.
use Rattle.std.specs.Prelude.{◌≡◌, ℕ, ◌≤◌, ◌<◌, List, [], ◌∷◌, map, Option, Some, None}
use Rattle.cl_macro.specs.Rules.{Rules}
use Rattle.cl_macro.specs.declared.word.Word.{Word}
use Rattle.cl_macro.specs.declared.note.Note.{Note}
use Rattle.cl_macro.specs.declared.level.Level.{Level}
use Rattle.cl_macro.specs.declared.machine.Whole.{Whole}
use Rattle.cl_macro.specs.Replacing.{Works, replacements}
use Rattle.cl_macro.specs.Walks.{Frame, Leads, working}
use Rattle.cl_macro.specs.Levels.{rest_of}
use Rattle.cl_macro.specs.Words.{fresh}
use Rattle.cl_macro.specs.Frames.{Closed, at_level}

module _ (rules : Rules) where
  pub record Wholly (w : Word) (rest : List Word) (whole : Whole) : Type 0 where
    pub works : Works rules (w ∷ []) rest whole.out (map fresh whole.left.now) whole.notes
    pub small : replacements whole.notes ≤ 65535

  -- what becomes of the run's next token; None: more than 65,535 replacements are needed
  abbrev pub Outermost : Word → List Word → Option Whole → Type 0
  Outermost w rest (Some whole) = Wholly w rest whole
  Outermost w rest None = (out left : List Word) (ns : List Note) → Works rules (w ∷ []) rest out left ns → 65535 < replacements ns

  -- it has been reached from the token, with so many replacements
  pub record Reached (w : Word) (rest : List Word) (fs : List Frame) (level : Level) (notes : List Note) (count : ℕ) : Type 0 where
    pub leads : Leads (working rules [] (w ∷ []) rest []) (at_level rules fs level) notes
    pub counts : replacements notes ≡ count
    pub most : count ≤ 65535
    pub closed : Closed fs (rest_of level)
