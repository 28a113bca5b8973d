use Rattle.std.proofs.Common.{◌≡◌, ℕ, List, ◌++◌, ap, ◌∙◌}
use Rattle.percent_encoding.specs.Percent.{percent_encode}
use Rattle.cl_paths.specs.declared.uri.TheConstants.{ESCAPED}
use Rattle.cl_paths.specs.Uris.{uri_of}
use Rattle.cl_paths.proofs.Escapes.{percent_encode_is}
use Rattle.cl_paths.proofs.uri.uri_of_path.Goals as goal

appended : (a b c d : List ℕ) → a ≡ b → c ≡ d → a ++ c ≡ b ++ d
appended a b c d e f = ap (λ x. x ++ c) e ∙ ap (λ x. b ++ x) f

pub returns : goal.returns
unfolding uri_of
returns c =
    let text = c.percent_encode.ensures.text ∙ ap (percent_encode ESCAPED) (c.as_bytes.ensures.value ∙ c.text.ensures) ∙ percent_encode_is c.args.path.now in
    c.in_ok-append_to.ensures.ok ∙ appended _ _ _ _ c.in_ok-uri.ensures.ok text
