-- The numbers, as the constants are today.
use Rattle.std.specs.Prelude.{◌≡◌, ℕ}
use Rattle.bz_layout.specs.declared.config.Config.{Config}
use Rattle.bz_costs.specs.Resources.{Marks, Descriptors, Slots}
use Rattle.bz_costs.specs.Failing.{cost_of_lost_below, cost_of_lost_inner}
use Rattle.bz_costs.specs.Solo.{rest_of_round, solo_most}
use Rattle.bz_costs.specs.Most.{most_of_seek, most_of_find, most_of_leaf, most_of_insert, most_of_update, most_of_delete, most_of_freeze, most_of_copy, most_of_merge, most_of_joining, most_of_lowering, most_of_root, most_of_below, most_of_inner, most_of_inner_root}
use Rattle.bz_costs.specs.Stretches.{cost_from, solo_stretch}

-- a configuration of so many workers
abbrev pub with_workers : ℕ → Config
with_workers workers = record { nodes = 64; swaps = 64; workers = workers; marks = 65536; calls = 16; pages = 0 }

-- the greatest weight of each task, and of the splits that find no room
pub record WeightsAreTold : Type 0 where
  pub seek : most_of_seek Marks ≡ 730
  pub find : most_of_find Marks ≡ 2157
  pub leaf : most_of_leaf Marks ≡ 259
  pub insert : most_of_insert Marks ≡ 279
  pub update : most_of_update Marks ≡ 279
  pub delete : most_of_delete Marks ≡ 129
  pub freeze : most_of_freeze Marks ≡ 129
  pub copy : most_of_copy Marks ≡ 450
  pub merge : most_of_merge Marks ≡ 1798
  pub root : most_of_root Marks ≡ 1090
  pub below : most_of_below Marks ≡ 2633
  pub inner : most_of_inner Marks ≡ 1603
  pub inner_root : most_of_inner_root Marks ≡ 1346
  pub joining : most_of_joining Marks ≡ 1539
  pub lowering : most_of_lowering Marks ≡ 130
  pub lost_below : cost_of_lost_below Marks ≡ 2
  pub lost_inner : cost_of_lost_inner Marks ≡ 258

-- what is still to come by the stage, a whole stretch, and what the worker may do in all, of one worker, of eight, and of as many as there
-- may be
pub record CostsAreTold : Type 0 where
  pub last_round : cost_from Marks 0 ≡ 8932
  pub one_more : cost_from Marks 1 ≡ 17472
  pub two_more : cost_from Marks 2 ≡ 22223
  pub top : cost_from Marks 11 ≡ 76592
  pub rest : rest_of_round Marks ≡ 8932
  pub stretch : solo_stretch Marks ≡ 79867
  -- the most descriptors and slots that a stretch takes
  pub descriptors : solo_stretch Descriptors ≡ 21
  pub slots : solo_stretch Slots ≡ 37
  pub one : solo_most (with_workers 1) ≡ 90850
  pub eight : solo_most (with_workers 8) ≡ 657094
  pub most : solo_most (with_workers 64) ≡ 5187046
