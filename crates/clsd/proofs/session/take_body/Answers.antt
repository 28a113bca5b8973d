use Rattle.std.proofs.Common.{refl, arith}
use Rattle.clsd.proofs.Reading.{made_none}
use Rattle.clsd.proofs.Served.{cut_off, of_keeps}
use Rattle.clsd.proofs.session.take_body.Goals as goal

pub returns-in-Err-clause-turn : goal.returns-in-Err-clause-turn
returns-in-Err-clause-turn g c =
    made_none _ _ _ _ _ _ refl (omega arith) (λ given held look keeps told. (cut_off given _ held _ (of_keeps given _ held keeps) told, omega arith, omega arith))
