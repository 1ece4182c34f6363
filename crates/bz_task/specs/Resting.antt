-- A moment at which no swap takes effect: what must stay in the image so that it is a good memory too.
use Rattle.std.specs.Prelude.{◌≡◌, ◌≢◌, ℕ, ◌+◌, ◌<◌, ◌≤◌, true, List}
use Rattle.bz_layout.specs.Addresses.{words_of}
use Rattle.bz_layout.specs.declared.config.Config.{Config}
use Rattle.bz_layout.specs.declared.sizes.TheConstants.{META_AT, ROOT_AT, ROOT_STATUS_AT}
use Rattle.bz_content.specs.FromSlotted.Records.{pointer_at}
use Rattle.bz_content.specs.Content.{content_in, leaf_in}
use Rattle.bz_content.specs.Image.{node}
use Rattle.bz_content.specs.Lawful.{is_fixed, is_lawful}
use Rattle.bz_content.specs.Resolving.{resolve}
use Rattle.bz_task.specs.Good.{IsGood}
use Rattle.bz_task.specs.Instant.{Instant, words, durable, page_at, is_inside}
use Rattle.bz_task.specs.Shown.{IsOfRecord, IsShown}
use Rattle.bz_task.specs.Steps.{IsQuiet}

-- for readers nothing changes, nor in what the image resolves to where they read; in nodes of the tree the records of leaves, and
-- of inner nodes all but the child pointers, stand as they stood. Words that swaps name may stand otherwise.
pub record Rests (c : Config) (x y : Instant) : Type 0 where
  pub quiet : IsQuiet c x y
  pub lawful : (a : ℕ) → a < words_of c → is_lawful c y.image a ≡ true
  pub fixed : (a : ℕ) → is_fixed a ≡ true → y.image a ≡ x.image a
  pub root : resolve y.image ROOT_AT ≡ resolve x.image ROOT_AT
  pub root_status : resolve y.image ROOT_STATUS_AT ≡ resolve x.image ROOT_STATUS_AT
  pub resolved : (k i : ℕ) → x.reached k ≡ true → IsShown (words c x k) i → durable c y k i ≡ durable c x k i
  pub records : (k i j : ℕ) → k ≢ c.nodes → is_inside c x k ≡ true → (page_at c x k).level ≡ 0 → IsOfRecord (words c x k) i j → node c y.image k i ≡ node c x.image k i
  pub separators : (k i : ℕ) → k ≢ c.nodes → is_inside c x k ≡ true → 0 < (page_at c x k).level → META_AT + (page_at c x k).count ≤ i
      → ((j : ℕ) → j < (page_at c x k).count → i ≢ pointer_at (page_at c x k) j) → node c y.image k i ≡ node c x.image k i

-- the memory is good still, and holds the same
pub record HoldsTheSame (c : Config) (x y : Instant) : Type 0 where
  pub good : IsGood c y
  pub inside : (k : ℕ) → is_inside c y k ≡ is_inside c x k
  pub content : (key : List ℕ) → content_in c y.image key ≡ content_in c x.image key
  pub leaf : (key : List ℕ) → leaf_in c y.image key ≡ leaf_in c x.image key

abbrev pub RestingMemoriesAreGood : Type 0
RestingMemoriesAreGood = (c : Config) (x y : Instant) → IsGood c x → Rests c x y → HoldsTheSame c x y
