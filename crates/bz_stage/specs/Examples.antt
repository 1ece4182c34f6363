-- Stages, worked out: of single leaves, and of keys in a small tree of two levels.
use Rattle.std.specs.Prelude.{◌≡◌, ℕ, ◌+◌, ◌*◌, Bool, true, false, nat_lt, [], ◌∷◌}
use Rattle.bz_slotted.specs.Page.{Page}
use Rattle.bz_word.specs.declared.meta.Meta.TheVariants.{Visible}
use Rattle.bz_content.specs.TwoLevels.{tree_with}
use Rattle.bz_content.specs.WorkedInsert.{small}
use Rattle.bz_stage.specs.Paths.{run_from}
use Rattle.bz_stage.specs.Stages.{stage_of, stage_in}

-- a leaf of so many records that are all visible, each of a metadata word and sixteen words of the block, and with so many words of the
-- block that are dead
abbrev pub leaf_with : Bool → ℕ → ℕ → Page
leaf_with frozen records dead = record {
  frozen = frozen;
  count = records;
  block = 16 * records + dead;
  dead = dead;
  stamp = 0;
  level = 0;
  low = 0;
  high = 0;
  sorted = records;
  meta = λ j. Visible (record { offset = 0; key = 56; total = 112 });
  word = λ i. 0;
}

pub record LeavesAreTold : Type 0 where
  -- a leaf of 119 words has room for 119 more, and not for 120
  pub room : stage_of (leaf_with false 7 0) 3 119 ≡ 0
  pub no_room : stage_of (leaf_with false 7 0) 3 120 ≡ 2
  -- of eight records: 136 live words, so that it is copied, however full the nodes above it are
  pub copied : stage_of (leaf_with true 8 20) 3 10 ≡ 1
  -- of nine: 153, so that it is split, once the three nodes above it are
  pub split : stage_of (leaf_with true 9 20) 3 10 ≡ 4
  pub frozen_first : stage_of (leaf_with false 9 80) 3 10 ≡ 5
  -- a frozen leaf is at stage 0 for no words at all, either
  pub no_words : stage_of (leaf_with true 1 0) 3 0 ≡ 1

pub record RunsAreTold : Type 0 where
  -- levels 1 to 3 pass; from the first one on, of five and of two; and from one that does not pass
  pub three : run_from (λ level. nat_lt level 4) 1 5 ≡ 3
  pub two : run_from (λ level. nat_lt level 4) 1 2 ≡ 2
  pub none : run_from (λ level. nat_lt level 4) 4 5 ≡ 0

pub record KeysAreTold : Type 0 where
  -- the left leaf has one record of two words and its metadata word: 235 words more have room, and not 236
  pub room : stage_in small (tree_with []) (97 ∷ []) 235 ≡ 0
  pub no_room : stage_in small (tree_with []) (97 ∷ []) 236 ≡ 2
  -- frozen it has room for none
  pub frozen : stage_in small (tree_with ((1040, 0x1010080000000002) ∷ [])) (97 ∷ []) 3 ≡ 1
  -- the right leaf is another one
  pub right : stage_in small (tree_with ((1040, 0x1010080000000002) ∷ [])) (122 ∷ []) 3 ≡ 0

pub record StagesAreTold : Type 0 where
  pub leaves : LeavesAreTold
  pub runs : RunsAreTold
  pub keys : KeysAreTold
