-- Words that list entries in the rising order of their targets list what a swap may have.
use Rattle.std.specs.Prelude.{◌≡◌, ℕ, ◌+◌, ◌*◌, ◌<◌, List, length, get_or}
use Rattle.std.proofs.Common.{arith, ap, sym, ◌∙◌}
use Rattle.bz_word.specs.declared.entry.Entry.{Entry}
use Rattle.bz_swap_machine.specs.Machine.{entries_in}
use Rattle.bz_swap.specs.EntryLists.{IsEntryList}
use Rattle.bz_swap.specs.Inside.Parts.{entry_of, entry_list}
use Rattle.bz_swap.proofs.EntryLists.{rising-apart}
use Rattle.bz_swap.proofs.SwapLists.{Lists}
use Rattle.bz_swap.proofs.Values.{listed-at, length-listed}

pub lists-rising : (words : ℕ → ℕ) (entries : List Entry) → entry_list (entries_in words) ≡ entries → IsEntryList entries → Lists words entries
lists-rising words entries list h = record { list = list; some = h.some; few = h.few; rising = rising }
  where
    default : Entry
    default = entry_of (entries_in words) 0

    count : words 0 ≡ length entries
    count = sym (length-listed (entry_of (entries_in words)) 0 (words 0)) ∙ ap length list

    target : (i : ℕ) → i < words 0 → (get_or entries i default).target ≡ words (1 + 3 * i)
    target i below =
        let start : 0 + i ≡ i = omega arith in
        ap (λ l. (get_or l i default).target) (sym list)
        ∙ ap (λ (e : Entry). e.target) (listed-at (entry_of (entries_in words)) 0 (words 0) i default below)
        ∙ ap (λ k. words (1 + 3 * k)) start

    rising : (i j : ℕ) → i < j → j < words 0 → words (1 + 3 * i) < words (1 + 3 * j)
    rising i j before below =
        let one = target i (omega (arith, before, below)) in
        let other = target j below in
        let less = rising-apart entries i j default h.rising before (omega (arith, below, count)) in
        omega (arith, one, other, less)
