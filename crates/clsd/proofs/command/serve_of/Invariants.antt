use Rattle.std.proofs.Common.{◌≡◌, drop, map}
use Rattle.std.specs.Prelude.{Some, string_bytes}
use Rattle.clsd.specs.Words.{nothing_said, words_in}
use Rattle.clsd.proofs.command.serve_of.Given as goal

abbrev pub invariant-loop-word : goal.invariant-loop-word
invariant-loop-word l = words_in 0 (Some nothing_said) (map string_bytes l.options) ≡ words_in l.at (Some l.said) (map string_bytes (drop l.word-index l.options))
