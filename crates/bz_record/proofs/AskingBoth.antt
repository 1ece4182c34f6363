-- The two swaps of a record that comes may be asked for.
use Rattle.std.proofs.Common.{arith, refl, ap, inl, inr}
use Rattle.bz_record.specs.Laws.{NewRecordSwapsMayBeAsked}
use Rattle.bz_record.specs.Swaps.{reservation, publication}
use Rattle.bz_record.proofs.Coding.{reserved-plain, reserved-reads, published-plain, reserved-meta-plain, visible-meta-plain}
use Rattle.bz_record.proofs.Asking.{may-be-asked}

pub both-asked : NewRecordSwapsMayBeAsked
both-asked = record {
  first = λ s r moment good f leaf.
      may-be-asked s (reservation r) moment good leaf (inr (refl, omega (arith, f.room.fits, f.some))) (reserved-plain r f) (omega arith) (reserved-meta-plain r f);
  second = λ s r good f w.
      may-be-asked s (publication r) w.moment good w.leaf.leaf (inl (omega (arith, ap (λ z. z.count) (reserved-reads r f)))) (published-plain r f) (reserved-meta-plain r f) (visible-meta-plain r f);
}
