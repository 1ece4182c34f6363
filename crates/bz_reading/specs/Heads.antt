-- What the object of the first line says, for reading, and which start images have one.
use Rattle.std.specs.Prelude.{◌≡◌, ◌<◌, ℕ, ◌-◌, ◌^◌, List, [], ◌∷◌, length, slice_index, slice_set, replicate, codes, Option, Some, option_and_then}
use Rattle.serde_json.specs.Data.{Data, Items}
use Rattle.serde_json.specs.Find.{get, at, as_array}
use Rattle.bz_layout.specs.Addresses.{words_of}
use Rattle.bz_layout.specs.Config.{IsConfig}
use Rattle.bz_layout.specs.declared.config.Config.{Config}
use Rattle.bz_layout.specs.declared.limits.TheConstants.{MAX_NODES, MAX_SWAPS, MAX_WORKERS, MAX_MARKS, MAX_CALLS, MAX_PAGES}
use Rattle.bz_reading.specs.Reading.{both, within, number_in, number_at, listed}

-- the configuration of a journal that was read: its sizes, and the greatest limits
abbrev pub told_config : ℕ → ℕ → Config
told_config nodes swaps = record { nodes = nodes; swaps = swaps; workers = MAX_WORKERS; marks = MAX_MARKS; calls = MAX_CALLS; pages = MAX_PAGES }

abbrev pub config_in : Data → Option Config
config_in d = both told_config (number_at (codes "nodes") 1 MAX_NODES d) (number_at (codes "swaps") 1 MAX_SWAPS d)

-- the number of an item, at most this one
abbrev pub item_number : ℕ → ℕ → Data → Option ℕ
item_number place most d = within 0 most (option_and_then number_in (at place d))

-- the words with that of a pair at its address
abbrev pub placed : Data → List ℕ → Option (List ℕ)
placed d words = both (λ (a word : ℕ). slice_set words a word) (item_number 0 (length words - 1) d) (item_number 1 (2 ^ 64 - 1) d)

-- the words with those of all these pairs
abbrev pub filled : List Data → List ℕ → Option (List ℕ)
filled [] words = Some words
filled (d ∷ ds) words = option_and_then (filled ds) (placed d words)

-- the words of the start image, of which there are so many
abbrev pub start_items : Data → Option Items
start_items d = option_and_then as_array (get (codes "start") d)

abbrev pub start_in : ℕ → Data → Option (List ℕ)
start_in words d = option_and_then (λ ds. filled (listed ds) (replicate words 0)) (start_items d)

-- the start image of a first line
pub record IsStart (c : Config) (start : List ℕ) : Type 0 where
  pub config : IsConfig c
  pub told : c ≡ told_config c.nodes c.swaps
  pub size : length start ≡ words_of c
  pub words : (a : ℕ) → slice_index start a < 2 ^ 64
