use Rattle.std.proofs.Common.{List, subst}
use Rattle.std.specs.Prelude.{ℕ, MatchOption}
use Rattle.cl_base.specs.declared.macros.Macro.{Macro}
use Rattle.cl_base.specs.declared.token.Token.{Token}
use Rattle.cl_define.specs.Definitions.{Stands}
use Rattle.cl_lex.specs.Lexing.{Lexes}
use Rattle.cl_macro.proofs.start.given_one.Goals as goal

pub returns : goal.returns
returns c = record {
  lexed = c.in_ok-lexed.lexed;
  lexes = subst (λ (text : List ℕ). Lexes text c.in_ok-lexed.lexed) c.bytes.ensures.value c.in_ok-lexed.ensures.lexes;
  stands = subst (λ (ts : List Token). MatchOption c.in_ok-mac.mac ((mac : Macro) → Stands c.args.define.now.name ts mac → ⊥) (Stands c.args.define.now.name ts)) c.as_slice.ensures.value c.in_ok-mac.ensures;
}
