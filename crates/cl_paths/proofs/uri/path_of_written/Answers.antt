use Rattle.std.proofs.Common.{◌≡◌, IsUtf8, sym, subst, rules}
use Rattle.percent_encoding.specs.Percent.{percent_decode}
use Rattle.cl_paths.proofs.Naming.{no_path}
use Rattle.cl_paths.proofs.uri.path_of_written.Goals as goal

pub returns : goal.returns
returns c =
    let same : percent_decode c.args.written.now ≡ c.as_slice.result.now = search rules in
    sym (no_path c.args.written.now (λ u. c.in-Err.ensures.cases.0 (subst IsUtf8 same u)))
