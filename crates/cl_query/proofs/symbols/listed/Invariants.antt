use Rattle.std.proofs.Common.{◌≡◌, take}
use Rattle.std.specs.List.{flat_map}
use Rattle.cl_query.specs.Symbols.{symbols_for}
use Rattle.cl_query.specs.code.Places.{IsRanged}
use Rattle.cl_query.proofs.symbols.listed.Given as goal

abbrev pub invariant-loop-mention : goal.invariant-loop-mention
invariant-loop-mention l = record {
  range : IsRanged l.text l.tokens l.item;
  symbols : l.symbols ≡ flat_map (symbols_for l.text l.tokens) (take l.mention-index l.mentions);
}
