-- What a descent knows and what its end means.
use Rattle.std.specs.Prelude.{◌≡◌, ℕ, ◌+◌, ◌<◌, ◌≤◌, List, [], None}
use Rattle.bz_key.specs.Packing.{packed_len}
use Rattle.bz_key.specs.declared.limits.TheConstants.{KEY_BYTES}
use Rattle.bz_layout.specs.declared.config.Config.{Config}
use Rattle.bz_layout.specs.declared.sizes.TheConstants.{NODE_WORDS, ROOT_STATUS_AT}
use Rattle.bz_layout.specs.declared.thresholds.TheConstants.{MAX_LEVELS}
use Rattle.bz_word.specs.declared.meta.Extent.{Extent}
use Rattle.bz_task.specs.Outcomes.{IsPath}
use Rattle.bz_task.specs.Scene.{Past, Scene}
use Rattle.bz_task.specs.Swaps.{Change}
use Rattle.bz_task.specs.declared.todo.Outcome.{Outcome}
use Rattle.bz_task.specs.declared.todo.Outcome.TheVariants.{Path as IsAPath, Restart}
use Rattle.bz_descend.specs.Ways.{AreThawed}

-- the root status was this at a moment since the look-up began
pub record SawGuard (st : ℕ) (p : Past) : Type 0 where
  pub guarded : ℕ
  pub begun : p.since ≤ guarded
  pub until : guarded ≤ p.now
  pub value : (p.at guarded).value ROOT_STATUS_AT ≡ st

-- what its end means: the way to the key's leaf, or that a guard was frozen
abbrev pub descend_means : List ℕ → Outcome → Scene → Type 0
descend_means key (IsAPath path) s = IsPath key path s.past × AreThawed path
descend_means key Restart s = Unit {0}
descend_means key outcome s = ⊥

-- a descent ends so and in no other way
abbrev pub IsEndOfDescent : Outcome → Type 0
IsEndOfDescent (IsAPath path) = Unit {0}
IsEndOfDescent Restart = Unit {0}
IsEndOfDescent outcome = ⊥

-- a descent changes nothing
abbrev pub descend_change : Change
descend_change = record { key = []; old = None; new = None }

-- so many links lead to a node, and another has room
pub record IsAt (c : Config) (depth k : ℕ) : Type 0 where
  pub slot : k < c.nodes
  pub some : 0 < depth
  pub fits : depth < MAX_LEVELS

-- the words of a key, and the pointer after them, stand in a node
pub record IsInNode (e : Extent) : Type 0 where
  pub key : e.key ≤ KEY_BYTES
  pub ends : e.offset + packed_len e.key < NODE_WORDS
