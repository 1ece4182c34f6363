-- Where a search by halving looks first, and next.
use Rattle.std.specs.Prelude.{ℕ, ◌+◌, ◌-◌, ◌/◌, ◌<◌, ◌≤◌, nat_lt, if◌then◌else◌, Option, Some, None}
use Rattle.bz_layout.specs.declared.sizes.TheConstants.{SHARED_WORDS}
use Rattle.bz_search.specs.declared.probe.Probe.{Probe}

-- the middle record of a part
abbrev pub middle : ℕ → ℕ → ℕ
middle low high = (low + high) / 2

-- the record is one of the lower half of its part, or the middle one
pub record IsProbe (r : Probe) : Type 0 where
  pub low : r.low ≤ r.index
  pub index : r.index ≤ middle r.low r.high
  pub some : r.low < r.high
  pub high : r.high ≤ SHARED_WORDS

-- the middle record is looked at first; in an empty part there is nothing to look at
abbrev pub probe_in : ℕ → ℕ → Option Probe
probe_in low high = if nat_lt low high then Some (record { low = low; index = middle low high; high = high }) else None

-- the records before the one that was looked at
abbrev pub lower_of : Probe → Option Probe
lower_of r = probe_in r.low r.index

-- the records after the middle one
abbrev pub upper_of : Probe → Option Probe
upper_of r = probe_in (middle r.low r.high + 1) r.high

-- the next record down, and where there is none down to the low end, those after the middle one
abbrev pub down_of : Probe → Option Probe
down_of r = if nat_lt r.low r.index then Some (record r { index = r.index - 1 }) else upper_of r

-- how many records may still be looked at
abbrev pub still : Option Probe → ℕ
still None = 0
still (Some r) = (r.index + 1 - r.low) + (r.high - (middle r.low r.high + 1))

-- the records of the part in which is looked
abbrev pub size : Option Probe → ℕ
size None = 0
size (Some r) = r.high - r.low
