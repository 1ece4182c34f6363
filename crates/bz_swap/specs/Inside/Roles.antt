-- What the word at an address is to the machine.
use Rattle.std.specs.Prelude.{◌≡◌, ℕ, ◌<◌}
use Rattle.bz_layout.specs.Addresses.{swap_address}
use Rattle.bz_swap_cells.specs.Store.{IsOutside, field_address, field_count}
use Rattle.bz_swap.specs.declared.role.WordRole.{WordRole}
use Rattle.bz_swap.specs.declared.role.WordRole.TheVariants.{Outside, Status, Field}

-- the word at the address has this role, where there are so many descriptors
abbrev pub HasRole : ℕ → ℕ → WordRole → Type 0
HasRole swaps a Outside = IsOutside swaps a
HasRole swaps a (Status s) = (s < swaps) × (a ≡ swap_address s)
HasRole swaps a (Field s k) = (s < swaps) × (k < field_count) × (a ≡ field_address s k)
