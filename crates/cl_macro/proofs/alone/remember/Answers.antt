use Rattle.std.proofs.Common.{◌∙◌, ◌∷◌, ◌++◌, [], inr, sym, ap}
use Rattle.cl_macro.proofs.alone.remember.Goals as goal

pub returns : goal.returns
returns g c = λ one_token tells. inr (c.in_ok-push.ensures.ok ∙ ap (λ n. c.args.large.now ++ n ∷ []) c.in_ok-name.ensures, sym c.is_ident-ident.ensures ∙ c.if-not-ident.false, c.in_ok-alone.ensures one_token tells c.if-not-alone.false)
