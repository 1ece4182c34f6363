-- What a descent has read of an inner node, whose records it halves.
use Rattle.std.specs.Prelude.{◌≡◌, ℕ, ◌+◌, ◌<◌, ◌≤◌, nat_lt, if◌then◌else◌, true, List, Option, Some, None, slice_index}
use Rattle.bz_key.specs.Packing.{packed_len}
use Rattle.bz_search.specs.Probes.{middle, probe_in}
use Rattle.bz_search.specs.declared.probe.Probe.{Probe as Part}
use Rattle.bz_tree.specs.Order.{is_before}
use Rattle.bz_slotted.specs.Page.{extent_of, page}
use Rattle.bz_slotted.specs.Readers.{key_of}
use Rattle.bz_word.specs.declared.meta.Extent.{Extent}
use Rattle.bz_task.specs.Instant.{words}
use Rattle.bz_task.specs.Scene.{Past}
use Rattle.bz_task.specs.declared.path.Path.{Path}
use Rattle.bz_descend.specs.Inners.{Opened, HasPassed}
use Rattle.bz_descend.specs.declared.sight.Probe.{Probe}
use Rattle.bz_descend.specs.declared.sight.Sight.{Sight}
use Rattle.bz_descend.specs.declared.sight.Way.{Way}
use Rattle.bz_descend.specs.declared.sight.Way.TheVariants.{Meta, First, Pointer}

-- the record before the part is the first one, or the pointer of its child stands here
abbrev pub settled : ℕ → ℕ → ℕ → ℕ → ℕ → Way
settled slot st count pointer low =
    if nat_lt 1 low then Pointer (record { slot = slot; status = st; count = count; index = low; pointer = pointer })
    else First (record { slot = slot; status = st; count = count; index = 0; pointer = 0 })

-- the middle record of the part is looked at; where none is left, the child is that of the record before
abbrev pub sighted : ℕ → ℕ → ℕ → ℕ → ℕ → Option Part → Way
sighted slot st count pointer low (Some part) = Meta (record { slot = slot; status = st; count = count; part = part; pointer = pointer })
sighted slot st count pointer low None = settled slot st count pointer low

abbrev pub sight_in : ℕ → ℕ → ℕ → ℕ → ℕ → ℕ → Way
sight_in slot st count pointer low high = sighted slot st count pointer low (probe_in low high)

-- the key is not before that of the record before a part of the records after the first, nor after that of the one after it
pub record Narrows (key : List ℕ) (n : ℕ → ℕ) (pointer low high : ℕ) : Type 0 where
  pub some : 0 < low
  pub order : low ≤ high
  pub within : high ≤ (page n).count
  pub left : (j : ℕ) → j + 1 ≡ low → 0 < j → HasPassed key n j pointer
  pub right : high < (page n).count → is_before key (key_of n high) ≡ true

-- the middle record of such a part is to be read
pub record Sees (key : List ℕ) (path : Path) (r : Sight) (p : Past) : Type 0 where
  pub opened : Opened key path r.slot r.status p
  pub all : r.count ≡ (page (words p.config (p.at opened.guarded) r.slot)).count
  pub narrows : Narrows key (words p.config (p.at opened.guarded) r.slot) r.pointer r.part.low r.part.high
  pub index : r.part.index ≡ middle r.part.low r.part.high
  pub some : r.part.low < r.part.high

-- of its key so many words have been read
pub record ReadsSeparator (key : List ℕ) (path : Path) (ws : List ℕ) (r : Sight) (e : Extent) (i : ℕ) (p : Past) : Type 0 where
  pub sees : Sees key path r p
  pub extent : extent_of ((page (words p.config (p.at sees.opened.guarded) r.slot)).meta r.part.index) ≡ e
  pub within : i < packed_len e.key
  pub read : (t : ℕ) → t < i → slice_index ws t ≡ words p.config (p.at sees.opened.guarded) r.slot (e.offset + t)

-- the key is before all separators
pub record SeesFirst (key : List ℕ) (path : Path) (r : Probe) (p : Past) : Type 0 where
  pub opened : Opened key path r.slot r.status p
  pub all : r.count ≡ (page (words p.config (p.at opened.guarded) r.slot)).count
  pub right : 1 < r.count → is_before key (key_of (words p.config (p.at opened.guarded) r.slot) 1) ≡ true
