-- A memory in which nothing goes on: reads answer what the image has, every word is settled, and exactly the slots of its tree
-- are reached. So it is when a world opens, and when a recovery has ended.
use Rattle.std.specs.Prelude.{◌≡◌, ℕ, ◌&&◌, true, nat_lt, None}
use Rattle.bz_layout.specs.declared.config.Config.{Config}
use Rattle.bz_tree.specs.Walk.{form}
use Rattle.bz_content.specs.Content.{image_fault, view_in}
use Rattle.bz_content.specs.Resolving.{resolve}
use Rattle.bz_task.specs.Good.{IsGood}
use Rattle.bz_task.specs.Instant.{Instant}

abbrev pub settled : Config → (ℕ → ℕ) → Instant
settled c image = record {
  image = image;
  value = resolve image;
  settled = λ a. true;
  reached = λ k. nat_lt k c.nodes && (form (view_in c image)).inside k;
  effects = 0;
}

abbrev pub SettledMemoriesAreGood : Type 0
SettledMemoriesAreGood = (c : Config) (image : ℕ → ℕ) → image_fault c image ≡ None → IsGood c (settled c image)
