-- The laws of swaps and private stores on a leaf.
use Rattle.std.proofs.Common.{ℕ, List, Option}
use Rattle.bz_slotted.specs.LeafLaws.{AnswersAlike, RewriteChangesOneKey, ReservationIsQuiet, GrowthIsQuiet, FreezeIsQuiet, StoresAreQuiet}
use Rattle.bz_slotted.specs.Page.{page}
use Rattle.bz_slotted.specs.Readers.{found_of}
use Rattle.bz_slotted.specs.Whole.{Whole}
use Rattle.bz_slotted.proofs.Faults.{whole-none, none-whole}
use Rattle.bz_slotted.proofs.Finds.{found-stays, found-reserve, found-other, found-new, found-gone}
use Rattle.bz_slotted.proofs.Growing.{Stays, stays-whole, grown, restamped, stored}
use Rattle.bz_slotted.proofs.Reserving.{whole-reserve}
use Rattle.bz_slotted.proofs.Rewriting.{whole-rewrite}

pub rewrite-changes : RewriteChangesOneKey
unfolding found_of
rewrite-changes nodes r s n m lo hi j mt fault c = let h = whole-none nodes r n lo hi fault in record {
  none = none-whole nodes s m lo hi (whole-rewrite r s n m lo hi j mt h c);
  other = found-other r s n m lo hi j mt h c;
  new = found-new r s n m lo hi j mt h c;
  gone = found-gone r s n m lo hi j mt h c;
}

pub reservation-quiet : ReservationIsQuiet
unfolding found_of
reservation-quiet nodes r s n m lo hi mt fault c = let h = whole-none nodes r n lo hi fault in record {
  none = none-whole nodes s m lo hi (whole-reserve r s n m lo hi mt h c);
  same = λ key. found-reserve r s n m lo hi mt key h c;
}

quiet : (nodes : ℕ) (r s n m : ℕ → ℕ) (lo hi : Option (List ℕ)) (words : ℕ) → Whole r (page n) lo hi → Stays r s n m words → AnswersAlike nodes s n m lo hi
unfolding found_of
quiet nodes r s n m lo hi words h c = record {
  none = none-whole nodes s m lo hi (stays-whole r s n m lo hi words h c);
  same = λ key. found-stays r s n m words key c;
}

pub growth-quiet : GrowthIsQuiet
growth-quiet nodes r s n m lo hi words fault c = let h = whole-none nodes r n lo hi fault in quiet nodes r s n m lo hi words h (grown r s n m lo hi words h c)

pub freeze-quiet : FreezeIsQuiet
freeze-quiet nodes r s n m lo hi fault c = let h = whole-none nodes r n lo hi fault in quiet nodes r s n m lo hi 0 h (grown r s n m lo hi 0 h (restamped r s n m lo hi h c))

pub stores-quiet : StoresAreQuiet
stores-quiet nodes r s n m lo hi fault c = let h = whole-none nodes r n lo hi fault in quiet nodes r s n m lo hi 0 h (stored r s n m lo hi h c)
