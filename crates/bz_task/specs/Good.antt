-- What holds of the memory at every moment.
use Rattle.std.specs.Prelude.{◌≡◌, ◌≢◌, ℕ, ◌^◌, ◌<◌, ◌⊎◌, true, None}
use Rattle.bz_layout.specs.declared.config.Config.{Config}
use Rattle.bz_layout.specs.declared.sizes.TheConstants.{ROOT_AT, ROOT_STATUS_AT}
use Rattle.bz_content.specs.Content.{image_fault}
use Rattle.bz_content.specs.Resolving.{resolve}
use Rattle.bz_task.specs.Instant.{Instant, words, durable, page_at, is_inside}
use Rattle.bz_task.specs.Shown.{IsShown}

pub record IsGood (c : Config) (x : Instant) : Type 0 where
  -- fewer swaps took effect than there are stamps
  pub few : x.effects < 2 ^ 32
  -- the image breaks no rule
  pub form : image_fault c x.image ≡ None
  -- the slots of its tree are reached; a reached slot that is not one of them is frozen
  pub inside : (k : ℕ) → is_inside c x k ≡ true → k ≢ c.nodes → x.reached k ≡ true
  pub placed : (k : ℕ) → x.reached k ≡ true → (is_inside c x k ≡ true) ⊎ ((page_at c x k).frozen ≡ true)
  pub slots : (k : ℕ) → x.reached k ≡ true → k < c.nodes
  -- what reads answer of it is what the image has
  pub shown : (k i : ℕ) → x.reached k ≡ true → IsShown (words c x k) i → durable c x k i ≡ words c x k i
  pub root : resolve x.image ROOT_AT ≡ x.value ROOT_AT
  pub root_status : resolve x.image ROOT_STATUS_AT ≡ x.value ROOT_STATUS_AT
