-- The memory with which a world starts is an image, and what a world is stocked with.
use Rattle.std.proofs.Common.{◌≡◌, ◌≤◌, List, ℕ, arith, length, refl, slice_index}
use Rattle.bz_content.proofs.Proved.{fresh_memory_is_empty}
use Rattle.bz_judge.specs.Held.{IsImageOf}
use Rattle.bz_layout.specs.Addresses.{words_of}
use Rattle.bz_layout.specs.Config.{IsConfig}
use Rattle.bz_layout.specs.Fresh.{fresh_words}
use Rattle.bz_layout.specs.declared.config.Config.{Config}
use Rattle.bz_sched.specs.FromWorld.WorldView.{WorldView, count_in, image_view, new_view}
use Rattle.bz_sched.specs.Sums.{IsStockedAtFirst}

pub fresh_image : (c : Config) (start : List ℕ) → IsConfig c → start ≡ fresh_words c → length start ≡ words_of c → IsImageOf c start
fresh_image c start in_range is size = record { config = in_range; size = size; none = rw is (fresh_memory_is_empty c in_range).0 }

-- of fresh memory the tree takes one slot
pub stocked_fresh : (c : Config) (world : WorldView) → world ≡ new_view c → count_in c (slice_index (fresh_words c)) ≡ 1 → 1 ≤ c.nodes → IsStockedAtFirst world
stocked_fresh c world is one some = rw is (record { taken = refl; left = λ on. omega (arith, one, some) })

-- over an image the power is off
pub stocked_image : (c : Config) (image : List ℕ) (world : WorldView) → world ≡ image_view c image → IsStockedAtFirst world
stocked_image c image world is = rw is (record { taken = refl; left = λ on. absurd (cc on) })
