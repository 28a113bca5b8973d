use Rattle.cl_lex.proofs.universal.+are_hex.Given as goal

abbrev pub decreases-are_hex : goal.decreases-are_hex
decreases-are_hex l = l.count
