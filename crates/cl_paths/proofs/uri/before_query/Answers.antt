use Rattle.std.proofs.Common.{length, take, sym, ap, ◌∙◌, arith, rules, take_all}
use Rattle.std.proofs.lemmas.List.Sums.{position_or_len_is}
use Rattle.cl_paths.specs.Uris.{ends_path}
use Rattle.cl_paths.proofs.uri.before_query.Goals as goal

pub returns-in-Some : goal.returns-in-Some
returns-in-Some c =
    let rest = c.args.rest.now in
    let found = position_or_len_is ends_path rest c.in-Some.len 0 (search rules) (search rules) (search rules) in
    ap (λ n. take n rest) (sym found)

pub returns-in-None : goal.returns-in-None
returns-in-None c =
    let rest = c.args.rest.now in
    let none = position_or_len_is ends_path rest (length rest) 0 (omega arith) (search rules) (search rules) in
    sym (ap (λ n. take n rest) none ∙ take_all (length rest) rest (omega arith))
