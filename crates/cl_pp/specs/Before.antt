-- What stands before a text, as its state says it.
use Rattle.std.specs.Prelude.{◌≡◌, ℕ, List, [], Option, None}
use Rattle.cl_base.specs.declared.config.Define.{Define}
use Rattle.cl_base.specs.declared.macros.Macro.{Macro}
use Rattle.cl_base.specs.declared.macros.MacroNo.{MacroNo}
use Rattle.cl_base.specs.declared.headers.Known.{Known}
use Rattle.cl_headers.specs.Noting.{IsNoted}
use Rattle.cl_macro.specs.Starting.{IsStart}
use Rattle.cl_macro.specs.Table.{event_of, macro_of}
use Rattle.cl_pp.specs.declared.start.PpState.{PpState}
use Rattle.cl_pp.specs.declared.done.PpAnswer.{PpAnswer}
use Rattle.cl_pp.specs.Preprocessing.{Before, PreprocessesFrom}

-- over a base that gives names these macros, whose last events have these numbers
abbrev pub before_over : (List ℕ → Option Macro) → (List ℕ → Option MacroNo) → PpState → Before
before_over macros numbers state = record {
  start = record { macros = macro_of state.macros macros; numbers = event_of state.macros numbers; events = state.events };
  files = state.files;
  once = state.once;
}

-- where nothing goes before the state
abbrev pub before_of : PpState → Before
before_of = before_over (λ name. None) (λ name. None)

-- the state has no more than the macros that are predefined and those of the settings
pub record IsFirst (defines : List Define) (state : PpState) : Type 0 where
  pub table : IsStart defines state.macros
  pub files : state.files ≡ []
  pub once : state.once ≡ []
  pub events : state.events ≡ 0

-- the text is preprocessed from there, and the headers that it asked for, and no others, were asked for since
pub record Preprocessed (before : Before) (known : List ℕ → Known) (folders : List (List ℕ)) (path text : List ℕ) (earlier later : List (List ℕ)) (answer : PpAnswer) : Type 0 where
  pub from : PreprocessesFrom before known folders path text answer
  pub noted : IsNoted known [] from.done.deps earlier later
