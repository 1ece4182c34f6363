-- What the acts of one worker are to another: lawful steps, which leave everything that the other owns.
use Rattle.std.specs.Prelude.{◌≡◌, ◌≢◌, ℕ, ◌+◌, ◌<◌, Bool, true, List}
use Rattle.bz_layout.specs.Addresses.{node_address}
use Rattle.bz_layout.specs.declared.sizes.TheConstants.{NODE_WORDS}
use Rattle.bz_word.specs.declared.entry.Entry.{Entry}
use Rattle.bz_task.specs.Instant.{Instant, IsDurableAt}
use Rattle.bz_task.specs.Requests.{IsOwnStore}
use Rattle.bz_task.specs.Scene.{Scene, IsMine, IsFlushed, IsScene, IsLawful, Continues, here}
use Rattle.bz_task.specs.Swaps.{Change, SwapsTo, IsGoodSwap}

-- the scenes of two workers of one memory: no word is both's own
pub record AreApart (s v : Scene) : Type 0 where
  pub config : v.past.config ≡ s.past.config
  pub here : here v ≡ here s
  pub apart : (a : ℕ) → IsMine s a → IsMine v a → ⊥

-- what the worker reserved lies in nodes to which a link has led
pub record IsOfReached (s : Scene) (a : ℕ) : Type 0 where
  pub slot : ℕ
  pub place : ℕ
  pub address : a ≡ node_address s.past.config slot + place
  pub within : place < NODE_WORDS
  pub reached : (here s).reached slot ≡ true

-- no slot was taken by both workers, and no address is reserved by both
pub record ShareNothing (s v : Scene) : Type 0 where
  pub config : v.past.config ≡ s.past.config
  pub here : here v ≡ here s
  pub took : (k : ℕ) → s.took k ≡ true → v.took k ≡ true → ⊥
  pub reserved : (a : ℕ) → s.reserved a ≡ true → v.reserved a ≡ true → ⊥
  pub of_first : (a : ℕ) → s.reserved a ≡ true → IsOfReached s a
  pub of_second : (a : ℕ) → v.reserved a ≡ true → IsOfReached v a

-- one moment later, with this memory, for one who did nothing
pub record Watches (v later : Scene) (y : Instant) : Type 0 where
  pub continues : Continues v.past later.past
  pub here : here later ≡ y
  pub effected : later.effected ≡ v.effected
  pub reserved : (a : ℕ) → later.reserved a ≡ v.reserved a
  pub took : (k : ℕ) → later.took k ≡ v.took k
  pub filled : (k : ℕ) → later.filled k ≡ v.filled k

-- a memory in which reads answer what they did and nothing else is reached, and what one flushed of one's own is durable still
pub record LeavesAll (v : Scene) (y : Instant) : Type 0 where
  pub value : (a : ℕ) → y.value a ≡ (here v).value a
  pub reached : (k : ℕ) → y.reached k ≡ (here v).reached k
  pub effects : y.effects ≡ (here v).effects
  pub flushed : (a : ℕ) → IsMine v a → IsFlushed v a → IsDurableAt y a

-- a memory in which a private store was made
pub record StoresTo (a v : ℕ) (x y : Instant) : Type 0 where
  pub value : y.value a ≡ v
  pub others : (b : ℕ) → b ≢ a → y.value b ≡ x.value b
  pub image : (b : ℕ) → y.image b ≡ x.image b
  pub settled : (b : ℕ) → b ≢ a → y.settled b ≡ x.settled b
  pub reached : (k : ℕ) → y.reached k ≡ x.reached k
  pub effects : y.effects ≡ x.effects

-- workers who share nothing are apart: also where the one reserves in a node that the other took and linked
abbrev pub SharersOfNothingAreApart : Type 0
SharersOfNothingAreApart = (s v : Scene) → ShareNothing s v → AreApart s v

-- a read, an ask, a fence, an eviction and an act of a swap without effect are lawful, one's own ones too
abbrev pub QuietActsAreLawful : Type 0
QuietActsAreLawful = (v later : Scene) (y : Instant) → LeavesAll v y → Watches v later y → IsLawful v later

-- so is a private store of another worker
abbrev pub StoresAreLawful : Type 0
StoresAreLawful =
    (s v later : Scene) (a w : ℕ) (y : Instant) → IsScene s → IsOwnStore s a w → AreApart s v → StoresTo a w (here s) y → Watches v later y → IsLawful v later

-- and the effect of another worker's swap
abbrev pub EffectsAreLawful : Type 0
EffectsAreLawful =
    (publishes : Bool) (change : Change) (entries : List Entry) (s v later : Scene) (y : Instant) → IsScene v → AreApart s v → SwapsTo s.past.config entries (here s) y →
    IsGoodSwap publishes change entries s y → Watches v later y → IsLawful v later
