use Rattle.std.proofs.Common.{arith, refl}
use Rattle.cl_frames.proofs.FrameLemmas.{stands_first, header_more, header_whole, header_wrong, header_long, header_short, header_failed}
use Rattle.cl_frames.proofs.header.read_header.Goals as goal

pub bytes-init : goal.bytes-init
bytes-init g c = record { count = omega arith; stands = stands_first _ _ c.requires; start = refl }

pub returns-else-taken-start-clause-told : goal.returns-else-taken-start-clause-told
returns-else-taken-start-clause-told g c =
    header_short _ _ _ _ _ _ c.bytes.invariant.stands c.in-End.ensures.told.0 c.in-End.ensures.told.1 c.if-taken-start.false

pub returns-in-Failed-clause-told : goal.returns-in-Failed-clause-told
returns-in-Failed-clause-told g c = header_failed _ _ _ _ _ _ c.bytes.invariant.stands c.in-Failed.ensures.told

pub returns-then-taken-eq-LAST_BYTE-clause-told : goal.returns-then-taken-eq-LAST_BYTE-clause-told
returns-then-taken-eq-LAST_BYTE-clause-told g c =
    header_long _ _ _ _ _ _ _ c.bytes.invariant.stands c.in-Byte.ensures.told c.if-taken-eq-LAST_BYTE.true

pub bytes-preserved : goal.bytes-preserved
bytes-preserved g c = record {
  count = omega (arith, c.bytes.invariant.count, c.in-Byte.ensures.cause.later);
  stands = header_more _ _ _ _ _ _ _ _ c.bytes.invariant.stands c.in-Byte.ensures.told c.if-taken-eq-LAST_BYTE.false c.in-More.ensures;
  start = refl;
}

pub returns-in-Whole-clause-told : goal.returns-in-Whole-clause-told
returns-in-Whole-clause-told g c =
    header_whole _ _ _ _ _ _ _ _ _ c.bytes.invariant.stands c.in-Byte.ensures.told c.if-taken-eq-LAST_BYTE.false c.in-Whole.ensures

pub returns-in-Wrong-clause-told : goal.returns-in-Wrong-clause-told
returns-in-Wrong-clause-told g c =
    header_wrong _ _ _ _ _ _ _ c.bytes.invariant.stands c.in-Byte.ensures.told c.if-taken-eq-LAST_BYTE.false c.in-Wrong.ensures
