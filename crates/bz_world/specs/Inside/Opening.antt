-- What an opening makes, and the slots that a world over fresh memory may hand out.
use Rattle.std.specs.Prelude.{◌≡◌, ◌<◌, ◌^◌, ℕ, List, [], replicate, None}
use Rattle.std.specs.FinMap.{len}
use Rattle.bz_layout.specs.Config.{IsConfig}
use Rattle.bz_layout.specs.Slots.{FreeSlots, all_free, without}
use Rattle.bz_layout.specs.declared.config.Config.{Config}
use Rattle.bz_sound.specs.Memory.Moments.{map_at_start}
use Rattle.bz_mark.specs.declared.power.Power.{Power}
use Rattle.bz_swap.specs.Held.{Holds}
use Rattle.bz_swap.specs.Power.{IsOpened}
use Rattle.bz_world.specs.Inside.Paid.{begun_with}
use Rattle.bz_world.specs.WorldView.{view_over}
use Rattle.bz_world.specs.declared.parts.Parts.{Parts}

-- all but the root's
abbrev pub fresh_slots : Config → FreeSlots
fresh_slots c = record (all_free c.nodes) { free = without 0 (all_free c.nodes).free }

-- the parts of a world over these words, in which nothing has happened
pub record IsMadeOver (start : List ℕ) (first : Power) (p : Parts) : Type 0 where
  pub config : IsConfig p.config
  pub opened : IsOpened p.access start p.config.swaps p.config.workers
  pub holds : Holds p.access
  pub journal : p.journal ≡ (view_over p.config start first).log
  pub workers : p.workers.items ≡ replicate 65 None
  pub owners : p.owners.items ≡ replicate p.config.swaps 0
  pub numbers : p.numbers.items ≡ replicate 65 0
  pub left_out : p.left_out.items ≡ []
  pub pairs : p.pairs ≡ len (map_at_start p.config start)
  pub few_pairs : p.pairs < 2 ^ 63
  pub at_begin : begun_with p ≡ record { taken = 0; left = 0 }
  pub begun : p.begun ≡ 0
  pub pages_begun : p.pages_begun ≡ 0
  pub at_start : p.at_start ≡ first
  pub power : p.power ≡ first
