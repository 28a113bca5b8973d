use Rattle.std.proofs.Common.{◌≡◌, ◌∙◌, ℕ, List, true, sym, subst}
use Rattle.cl_macro.specs.Table.{macro_of}
use Rattle.cl_macro.specs.Words.{contains}
use Rattle.cl_macro.specs.code.Flat.{are_flat}
use Rattle.cl_macro.proofs.alone.is_alone.Goals as goal

pub returns : goal.returns
returns g c = λ one_token tells e. record {
  names = c.in_ok-names.names;
  flat = subst (λ (ns : List (List ℕ)). are_flat one_token (macro_of c.args.table.now (g.B.MacroBase.macros c.args.base.now)) ns ns ≡ true) c.as_slice-2.ensures.value (sym (c.in_ok-flat.ensures one_token tells) ∙ e);
  has = subst (λ (ns : List (List ℕ)). contains ns c.args.name.now ≡ true) c.as_slice.ensures.value (sym c.has-one.ensures ∙ c.if-not-one.false);
}
