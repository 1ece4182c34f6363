-- Cells of counters: counters less than a round apart name different cells, and a counter a round later the same one.
use Rattle.std.proofs.Common.{◌≡◌, ◌<◌, ◌≤◌, ℕ, ◌+◌, ◌-◌, ◌*◌, ◌/◌, ◌%◌, inl, inr, sym, ap, arith}
use Rattle.std.proofs.Math.Nat.{add-mod_right, mod-add-div'}
use Rattle.std.proofs.lemmas.Bool.{cases_lt}
use Rattle.std.proofs.lemmas.Nat.{same_from_place}
use Rattle.bz_layout.specs.Addresses.{swap_address}
use Rattle.bz_ring.specs.declared.ring.Ring.{Ring}
use Rattle.bz_ring.specs.declared.ring.TheConstants.{TAIL_AT}
use Rattle.bz_ring.specs.Content.{cell_of}

-- a round later it is the same cell
pub round_later : (r : Ring) (counter : ℕ) → cell_of r (counter + r.capacity) ≡ cell_of r counter
round_later r counter = ap (λ (k : ℕ). swap_address r.swaps + k) (add-mod_right counter r.capacity)

-- two counters that name the same cell, less than a round from one on, are the same
apart : (m k i j : ℕ) → i < m → j < m → i ≤ j → (k + i) % m ≡ (k + j) % m → i ≡ j
apart m k i j first second order same =
    let here : (k + i) % m + (k + i) / m * m ≡ k + i = mod-add-div' (k + i) m in
    let there : (k + j) % m + (k + j) / m * m ≡ k + j = mod-add-div' (k + j) m in
    let placed : (k + i) / m * m + (j - i) ≡ (k + j) / m * m + 0 = omega arith in
    let d : j - i ≡ 0 = (same_from_place ((k + i) / m) (j - i) ((k + j) / m) 0 m (omega arith) (omega arith) placed).1 in
    omega arith

pub same_counter : (r : Ring) (k i j : ℕ) → i < r.capacity → j < r.capacity → cell_of r (k + i) ≡ cell_of r (k + j) → i ≡ j
same_counter r k i j first second same =
    let one : (k + i) % r.capacity ≡ (k + j) % r.capacity = omega arith in
    elim (cases_lt j i) [
      | inl above ↦ sym (apart r.capacity k j i second first (omega arith) (sym one))
      | inr order ↦ apart r.capacity k i j first second order one
    ]

-- the cells are no counters
pub past_counters : (r : Ring) (counter : ℕ) → TAIL_AT < cell_of r counter
past_counters r counter = omega arith
