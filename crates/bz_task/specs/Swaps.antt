-- The effect of a task's own swap: what it does to the memory, and what it must lead to.
use Rattle.std.specs.Prelude.{◌≡◌, ℕ, ◌+◌, ◌^◌, ◌==◌, ◌&&◌, ◌||◌, ◌<◌, ◌⊎◌, nat_lt, nat_le, bytes_eq, if◌then◌else◌, Bool, true, false, List, [], ◌∷◌, All, Option}
use Rattle.bz_layout.specs.Addresses.{node_address, words_of, slot_of, node_word_of, IsOutsideSwaps}
use Rattle.bz_layout.specs.declared.config.Config.{Config}
use Rattle.bz_layout.specs.declared.sizes.TheConstants.{NODE_WORDS, STATUS_AT}
use Rattle.bz_swap.specs.SwapMemory.{is_target}
use Rattle.bz_word.specs.Statuses.{status}
use Rattle.bz_word.specs.declared.entry.Entry.{Entry}
use Rattle.bz_content.specs.Content.{content_in}
use Rattle.bz_content.specs.Lawful.{is_lawful}
use Rattle.bz_content.specs.Resolving.{resolve}
use Rattle.bz_task.specs.Good.{IsGood}
use Rattle.bz_task.specs.Instant.{Instant, words, is_inside}
use Rattle.bz_task.specs.Requests.{IsTarget}
use Rattle.bz_task.specs.Scene.{Scene, IsMine, IsFlushed, Continues, here}
use Rattle.bz_task.specs.Shown.{IsShown, IsRead}
use Rattle.bz_task.specs.Steps.{IsEffect}

-- every target holds its expected value
abbrev pub Stand : List Entry → Instant → Type 0
Stand entries x = All (λ (e : Entry). x.value e.target ≡ e.expected) entries

-- what an address holds once these entries have their new values
abbrev pub swapped : List Entry → (ℕ → ℕ) → ℕ → ℕ
swapped [] value a = value a
swapped (e ∷ entries) value a = if e.target == a then e.new else swapped entries value a

-- a swap of these entries takes effect: the image outside the descriptors stands as it stood and is lawful, and resolves,
-- as reads answer, to the new values at the targets and to the old ones elsewhere
pub record SwapsTo (c : Config) (entries : List Entry) (x y : Instant) : Type 0 where
  pub raw : (a : ℕ) → IsOutsideSwaps c a → y.image a ≡ x.image a
  pub lawful : (a : ℕ) → a < words_of c → is_lawful c y.image a ≡ true
  pub resolved : (a : ℕ) → IsOutsideSwaps c a → resolve y.image a ≡ swapped entries (resolve x.image) a
  pub value : (a : ℕ) → y.value a ≡ swapped entries x.value a
  -- what nobody reads stays settled
  pub settled : (a : ℕ) → IsOutsideSwaps c a → ¬ IsRead c x a → x.settled a ≡ true → y.settled a ≡ true
  pub effects : y.effects ≡ x.effects + 1
  pub few : y.effects < 2 ^ 32
  pub reached : (k : ℕ) → y.reached k ≡ x.reached k || (is_inside c y k && nat_lt k c.nodes)

-- the change that a call makes: its key has the new payload, or none, in place of the old one, or none
pub record Change : Type 0 where
  pub key : List ℕ
  pub old : Option (List ℕ)
  pub new : Option (List ℕ)

-- the content is the old one with the change, or the old one
pub record Changes (change : Change) (c : Config) (x y : Instant) : Type 0 where
  pub before : content_in c x.image change.key ≡ change.old
  pub after : (key : List ℕ) → content_in c y.image key ≡ if bytes_eq key change.key then change.new else content_in c x.image key

abbrev pub ContentFollows : Bool → Change → Config → Instant → Instant → Type 0
ContentFollows true change c x y = Changes change c x y
ContentFollows false change c x y = (key : List ℕ) → content_in c y.image key ≡ content_in c x.image key

-- an own word of the scene, and durable
pub record IsMineAndDurable (s : Scene) (a : ℕ) : Type 0 where
  pub mine : IsMine s a
  pub flushed : IsFlushed s a

-- what the effect of a task's swap must be: lawful for everybody, with the content that it should have; a word that becomes
-- one that readers read was this worker's own, and durable
pub record IsGoodSwap (publishes : Bool) (change : Change) (entries : List Entry) (s : Scene) (y : Instant) : Type 0 where
  pub targets : (a : ℕ) → is_target entries a ≡ true → IsTarget s a
  pub good : IsGood s.past.config y
  pub step : IsEffect s.past.config (here s) y
  pub content : ContentFollows publishes change s.past.config (here s) y
  pub linked : (k i : ℕ) → (here s).reached k ≡ false → y.reached k ≡ true → i < NODE_WORDS → IsMine s (node_address s.past.config k + i)
  pub linked_durable : (k i : ℕ) → (here s).reached k ≡ false → y.reached k ≡ true → i < NODE_WORDS → IsShown (words s.past.config y k) i → IsFlushed s (node_address s.past.config k + i)
  pub shown : (k i : ℕ) → (here s).reached k ≡ true → i < NODE_WORDS → IsShown (words s.past.config y k) i → IsShown (words s.past.config (here s) k) i ⊎ IsMineAndDurable s (node_address s.past.config k + i)

-- what readers read afterwards they read before, or it was settled
abbrev pub ShowsSettled : Config → Instant → Instant → Type 0
ShowsSettled c x y = (a : ℕ) → IsRead c y a → IsRead c x a ⊎ (x.settled a ≡ true)

-- so it is after such a swap
abbrev pub GoodSwapsShowSettled : Type 0
GoodSwapsShowSettled =
    (publishes : Bool) (change : Change) (entries : List Entry) (s : Scene) (y : Instant) → IsGoodSwap publishes change entries s y → ShowsSettled s.past.config (here s) y

-- the words by which the block of the entry's node grows, where the entry is one of a node's status
abbrev pub grows_over : Config → Entry → ℕ → Bool
grows_over c e a =
    nat_le (node_address c 0) a
    && (e.target == node_address c (slot_of c a) + STATUS_AT
    && (nat_le NODE_WORDS (node_word_of c a + (status e.new).block)
    && nat_lt (node_word_of c a + (status e.expected).block) NODE_WORDS))

-- a swap of these entries reserves the address for a record
abbrev pub reserves : Config → List Entry → ℕ → Bool
reserves c [] a = false
reserves c (e ∷ entries) a = grows_over c e a || reserves c entries a

-- the own swap takes effect: what it reserved is the worker's
pub record Takes (publishes : Bool) (entries : List Entry) (s after : Scene) : Type 0 where
  pub continues : Continues s.past after.past
  pub took : (k : ℕ) → after.took k ≡ s.took k
  pub swaps : SwapsTo s.past.config entries (here s) (here after)
  pub effected : after.effected ≡ publishes || s.effected
  pub reserved : (a : ℕ) → after.reserved a ≡ s.reserved a || reserves s.past.config entries a
  pub filled : (k : ℕ) → after.filled k ≡ s.filled k
  pub keeps : (a : ℕ) → IsMine s a → (here after).value a ≡ (here s).value a
  pub flushed : (a : ℕ) → IsMine s a → IsFlushed s a → IsFlushed after a
