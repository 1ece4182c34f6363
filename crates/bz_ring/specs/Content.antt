-- What the words of a queue's memory mean: two counters, which only grow, and a ring of cells.
use Rattle.std.specs.Prelude.{if◌then◌else◌, nat_le, ◌==◌, ◌&&◌, ℕ, zero, suc, ◌+◌, ◌-◌, ◌*◌, ◌/◌, ◌%◌, Bool, true, List, [], ◌∷◌, Option, Some, None}
use Rattle.bz_layout.specs.Addresses.{swap_address}
use Rattle.bz_layout.specs.declared.sizes.TheConstants.{LINE_WORDS}
use Rattle.bz_swap.specs.Resolve.{resolve}
use Rattle.bz_ring.specs.declared.ring.Ring.{Ring}
use Rattle.bz_ring.specs.declared.ring.TheConstants.{HEAD_AT, TAIL_AT}

-- the address of the cell that a counter's value names: the cells stand behind the descriptors, and each has the values that are
-- its number, or that and a multiple of how many cells there are
abbrev pub cell_of : Ring → ℕ → ℕ
cell_of r counter = swap_address r.swaps + counter % r.capacity

-- the words of the memory: the cells, and zeros to the end of a line, which are no cells
abbrev pub size_of : Ring → ℕ
size_of r = swap_address r.swaps + (r.capacity + (LINE_WORDS - 1)) / LINE_WORDS * LINE_WORDS

-- a cell's word, and the items of the cells after it: a cell is 0, or its item plus 1
abbrev pub item_before : ℕ → Option (List ℕ) → Option (List ℕ)
item_before zero items = None
item_before (suc item) None = None
item_before (suc item) (Some items) = Some (item ∷ items)

-- the items of so many cells, from a counter's value on; none where one of them is 0
abbrev pub items_from : Ring → (ℕ → ℕ) → ℕ → ℕ → Option (List ℕ)
items_from r value counter zero = Some []
items_from r value counter (suc n) = item_before (value (cell_of r counter)) (items_from r value (counter + 1) n)

-- so many cells, from a counter's value on, are 0
abbrev pub are_empty : Ring → (ℕ → ℕ) → ℕ → ℕ → Bool
are_empty r value counter zero = true
are_empty r value counter (suc n) = (value (cell_of r counter) == 0) && are_empty r value (counter + 1) n

-- the list that a memory with these values holds: the items of the cells from the head up to the tail, the first of them first.
-- None where the counters are no such range, or a cell of it is 0, or another cell is not
abbrev pub content_of : Ring → (ℕ → ℕ) → Option (List ℕ)
content_of r value =
    let head = value HEAD_AT in
    let tail = value TAIL_AT in
    if nat_le head tail && (nat_le tail (head + r.capacity) && are_empty r value tail (head + r.capacity - tail)) then items_from r value head (tail - head) else None

-- the list that words hold, where each word counts as what it resolves to
abbrev pub content_in : Ring → List ℕ → Option (List ℕ)
content_in r words = content_of r (resolve r.swaps words)
