-- A record that is to be put into a leaf: its words, and where they lie.
use Rattle.std.specs.Prelude.{◌≡◌, ℕ, ◌+◌, ◌-◌, ◌^◌, ◌<◌, ◌≤◌, ◌⊎◌, true, false, List, ◌++◌, length}
use Rattle.bz_key.specs.Bytes.{IsKey, IsPayload}
use Rattle.bz_key.specs.Packing.{packed}
use Rattle.bz_layout.specs.Addresses.{node_address}
use Rattle.bz_layout.specs.declared.config.Config.{Config}
use Rattle.bz_layout.specs.declared.sizes.TheConstants.{NODE_WORDS, SHARED_WORDS}
use Rattle.bz_layout.specs.declared.thresholds.TheConstants.{RECORD_WORDS}
use Rattle.bz_word.specs.Statuses.{status}
use Rattle.bz_word.specs.declared.meta.Extent.{Extent}
use Rattle.bz_record.specs.declared.new_record.NewRecord.{NewRecord}

-- its words: those of the key, and then those of the payload
abbrev pub words_in : NewRecord → List ℕ
words_in r = packed r.key ++ packed r.payload

-- how many these are
abbrev pub words_for : List ℕ → List ℕ → ℕ
words_for key payload = length (packed key) + length (packed payload)

abbrev pub size_of : NewRecord → ℕ
size_of r = words_for r.key r.payload

-- where they lie: directly before the block of the leaf, as it was viewed
abbrev pub offset_of : NewRecord → ℕ
offset_of r = NODE_WORDS - (status r.status).block - size_of r

abbrev pub place_of : NewRecord → Extent
place_of r = record { offset = offset_of r; key = length r.key; total = length r.key + length r.payload }

-- the address of its word i
abbrev pub address_of : Config → NewRecord → ℕ → ℕ
address_of c r i = node_address c r.slot + (offset_of r + i)

-- a leaf with this status is not frozen, and has a free metadata word and so many free words of the block
pub record HasRoom (st words : ℕ) : Type 0 where
  pub thawed : (status st).frozen ≡ false
  pub fits : (status st).count + 1 + (status st).block + words ≤ SHARED_WORDS

-- it is frozen, or has not
abbrev pub LacksRoom : ℕ → ℕ → Type 0
LacksRoom st words = ((status st).frozen ≡ true) ⊎ (SHARED_WORDS < (status st).count + 1 + (status st).block + words)

-- a record of a key and a payload, of at most `RECORD_WORDS` words, and the status of a leaf that has room for it
pub record Fits (r : NewRecord) : Type 0 where
  pub key : IsKey r.key
  pub payload : IsPayload r.payload
  pub some : 0 < size_of r
  pub few : size_of r ≤ RECORD_WORDS
  pub plain : r.status < 2 ^ 61
  pub room : HasRoom r.status (size_of r)
  pub dead : (status r.status).dead ≤ (status r.status).block
