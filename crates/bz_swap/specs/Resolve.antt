-- What the words of a memory stand for, read from the durable words alone: the value of an address in the
-- persistent multi-word swap of Wang, Levandoski and Larson (ICDE 2018), whose readers look through descriptors.
use Rattle.std.specs.Prelude.{if◌then◌else◌, ◌==◌, ℕ, zero, suc, ◌+◌, List}
use Rattle.bz_swap_machine.specs.Machine.{Entries, entries_in, resolve as resolved}
use Rattle.bz_swap_cells.specs.Store.{kind_at, status_at, descriptor_word_at}

-- the first of so many entries, from place i on, that has this target; past them where none has
abbrev pub first_entry : Entries → ℕ → ℕ → ℕ → ℕ
first_entry x a zero i = i
first_entry x a (suc n) i = if x.target i == a then i else first_entry x a n (i + 1)

-- the entries that a descriptor of the image holds
abbrev pub entries_at : ℕ → List ℕ → ℕ → Entries
entries_at swaps image s =
    let x = entries_in (descriptor_word_at swaps image s) in
    record x { index = λ a. first_entry x a x.count 0 }

-- the value at an address outside the descriptors: a plain or dirty word is its value, a tag stands for the expected
-- value of its entry, and a pointer to a descriptor for the new value of the address's entry where the descriptor's
-- status is succeeded, otherwise for the expected one
abbrev pub resolve : ℕ → List ℕ → ℕ → ℕ
resolve swaps image a = resolved (entries_at swaps image) (status_at swaps image) a (kind_at swaps image a)
