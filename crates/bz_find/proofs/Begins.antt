-- A search begins with the counts of the leaf.
use Rattle.std.proofs.Common.{◌≡◌, ℕ, ◌^◌, ◌<◌, true, List, Option, arith, refl, ap, subst}
use Rattle.std.specs.Prelude.{nat_lt}
use Rattle.std.proofs.lemmas.Bool.Decides.{nat_tests}
use Rattle.bz_layout.specs.declared.sizes.TheConstants.{HEADER_AT}
use Rattle.bz_slotted.specs.Page.{page}
use Rattle.bz_slotted.specs.Whole.{Whole}
use Rattle.bz_word.specs.Headers.{header}
use Rattle.bz_word.specs.Statuses.{status}
use Rattle.bz_find.specs.Knowing.{Knows}
use Rattle.bz_find.specs.Steps.{begun}
use Rattle.bz_find.specs.Words.{records_in, sorted_in}
use Rattle.bz_find.proofs.Learning.{begins-knowing}

module _ (raw n : ℕ → ℕ) (lo hi : Option (List ℕ)) (h : Whole raw (page n) lo hi) (key : List ℕ) (st hd : ℕ) (counts : (page n).count ≡ (status st).count) (head : n HEADER_AT ≡ hd) where
  pub count-is : records_in st ≡ (page n).count
  count-is = omega (arith, counts, h.filled.room)

  pub sorted-is : sorted_in hd (records_in st) ≡ (page n).sorted
  sorted-is =
      let t : nat_lt hd (2 ^ 32) ≡ true = (let l : hd < 2 ^ 32 = subst (λ z. z < 2 ^ 32) head h.level.header in grind (arith, nat_tests, l)) in
      let e : (header (n HEADER_AT)).sorted ≡ (header hd).sorted = ap (λ z. (header z).sorted) head in
      rw t (omega (arith, e, count-is, h.filled.sorted))

  pub knows-first : Knows n (begun key (records_in st) (sorted_in hd (records_in st)))
  knows-first = begins-knowing raw n lo hi h (begun key (records_in st) (sorted_in hd (records_in st))) (record { count = count-is; sorted = sorted-is }) refl refl refl
