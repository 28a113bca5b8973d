use Rattle.std.proofs.Common.{ap}
use Rattle.std.proofs.lemmas.Option.{slice_get_past}
use Rattle.cl_query.specs.Symbols.{symbols_by}
use Rattle.cl_query.proofs.Placing.{none_more}
use Rattle.cl_query.proofs.symbols.add_symbol.Goals as goal

pub returns-in-None : goal.returns-in-None
returns-in-None c =
    let none = slice_get_past c.args.tokens.now c.args.mention.at c.in-None.ensures.lookup.3 in
    none_more _ _ (ap (symbols_by c.args.text.now c.args.tokens.now c.args.mention) none)
