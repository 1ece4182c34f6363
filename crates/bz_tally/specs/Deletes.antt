-- What the swap of a delete leaves in the leaf of its key.
use Rattle.std.specs.Prelude.{◌≡◌, ℕ, ◌+◌, ◌<◌, ◌≤◌, true, List}
use Rattle.bz_layout.specs.declared.config.Config.{Config}
use Rattle.bz_layout.specs.declared.thresholds.TheConstants.{LEAF_RECORD_WORDS, MERGE_BELOW}
use Rattle.bz_any_task.specs.Duties.{config_of, asks_of, facts_of, change_of, leaves_few_of}
use Rattle.bz_any_task.specs.Kinds.{kind_of}
use Rattle.bz_any_task.specs.Kinds as kinds
use Rattle.bz_any_task.specs.declared.running.AnyTask.{AnyTask}
use Rattle.bz_slotted.specs.Page.{page}
use Rattle.bz_slotted.specs.Records.{live_words}
use Rattle.bz_word.specs.declared.entry.Entry.{Entry}
use Rattle.bz_content.specs.Content.{leaf_in, view_in}
use Rattle.bz_task.specs.Instant.{Instant, durable}
use Rattle.bz_task.specs.Scene.{Scene, here}
use Rattle.bz_tally.specs.Swaps.{IsOwnSwap}

-- the live words of the key's leaf
abbrev pub live_of_key : Config → Instant → List ℕ → ℕ
live_of_key c x key = live_words (page (durable c x (leaf_in c x.image key)))

-- the key has the leaf that it had, of whose live words no more are gone than one record has, and the tree is as high as it was
pub record LosesOneRecord (key : List ℕ) (s : Scene) (y : Instant) : Type 0 where
  pub leaf : leaf_in s.past.config y.image key ≡ leaf_in s.past.config (here s).image key
  pub height : (view_in s.past.config y.image).height ≡ (view_in s.past.config (here s).image).height
  pub live : live_of_key s.past.config (here s) key ≤ live_of_key s.past.config y key + LEAF_RECORD_WORDS

-- whatever a delete swaps
abbrev pub DeletesTakeOneRecord : Type 0
DeletesTakeOneRecord =
    (t : AnyTask) (entries : List Entry) (s : Scene) (y : Instant) → IsOwnSwap (config_of t) (asks_of t) (facts_of t) entries s y → kind_of t ≡ kinds.Delete → LosesOneRecord (change_of t).key s y

-- and where it leaves fewer live words than a leaf needs to stand alone, the delete tells so
abbrev pub DeletesTellFew : Type 0
DeletesTellFew =
    (t : AnyTask) (entries : List Entry) (s : Scene) (y : Instant) → IsOwnSwap (config_of t) (asks_of t) (facts_of t) entries s y → kind_of t ≡ kinds.Delete →
    live_of_key s.past.config y (change_of t).key < MERGE_BELOW → leaves_few_of t ≡ true
