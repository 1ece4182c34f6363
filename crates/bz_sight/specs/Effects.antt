-- Acts and evictions by which a swap takes effect.
use Rattle.std.specs.Prelude.{◌≡◌, ℕ, ◌+◌, ◌^◌, ◌&&◌, ◌||◌, ◌<◌, nat_lt, true, false, slice_index}
use Rattle.bz_layout.specs.declared.config.Config.{Config}
use Rattle.bz_tree.specs.Walk.{form}
use Rattle.bz_swap_cells.specs.Store.{IsOutside}
use Rattle.bz_swap.specs.Effects.{TakesEffect}
use Rattle.bz_swap.specs.Held.{Holds}
use Rattle.bz_swap.specs.PlainFields.{HavePlainFields}
use Rattle.bz_swap.specs.SwapMemory.{SwapMemory, entries_of, is_named, is_settled_at}
use Rattle.bz_content.specs.Content.{view_in}
use Rattle.bz_task.specs.Good.{IsGood}
use Rattle.bz_task.specs.Instant.{Instant, IsDurableAt}
use Rattle.bz_task.specs.Scene.{Scene, IsMine, IsScene, IsFlushed, here}
use Rattle.bz_task.specs.Steps.{IsStep}
use Rattle.bz_task.specs.Swaps.{Stand, SwapsTo, ShowsSettled}
use Rattle.bz_sight.specs.Awaiting.{Awaits}
use Rattle.bz_sight.specs.Passing.{SameRest}
use Rattle.bz_sight.specs.Sight.{IsSeen, answer_at}

-- swap s takes effect in its descriptor; no word outside the descriptors changes in the memory itself, and no private one in
-- the caches; a settled word that stays there stays settled, and an awaited one awaited
pub record TakesPlace (old new : SwapMemory) (s : ℕ) : Type 0 where
  pub same : SameRest old new
  pub holds : Holds new
  pub fields : HavePlainFields new
  pub effect : TakesEffect old new s
  pub durable : (a : ℕ) → IsOutside old.swaps a → slice_index new.durable a ≡ slice_index old.durable a
  pub cached : (a : ℕ) → IsOutside old.swaps a → is_named old a ≡ false → slice_index new.cached a ≡ slice_index old.cached a
  pub settled : (a : ℕ) → slice_index new.cached a ≡ slice_index old.cached a → is_settled_at old a ≡ true → is_settled_at new a ≡ true
  pub awaits : (v a : ℕ) → slice_index new.cached a ≡ slice_index old.cached a → Awaits old v a → Awaits new v a

-- the memory after it: what is in the tree now has been reached
abbrev pub effect_instant : Config → SwapMemory → Instant → Instant
effect_instant c m x = record {
  image = slice_index m.durable;
  value = answer_at m;
  settled = is_settled_at m;
  reached = λ k. x.reached k || ((form (view_in c (slice_index m.durable))).inside k && nat_lt k c.nodes);
  effects = x.effects + 1;
}

-- for readers the swap's entries alone have changed: their expected values stood, and their new ones stand
pub record TookPlace (c : Config) (x : Instant) (old new : SwapMemory) (s : ℕ) : Type 0 where
  pub stand : Stand (entries_of old s) x
  pub swaps : x.effects + 1 < 2 ^ 32 → SwapsTo c (entries_of old s) x (effect_instant c new x)
  -- where the swap was lawful, and shows nothing that was not settled, the memory is seen afterwards
  pub seen : IsGood c (effect_instant c new x) → IsStep c x (effect_instant c new x) → ShowsSettled c x (effect_instant c new x) → IsSeen c new (effect_instant c new x)

abbrev pub EffectsTakePlace : Type 0
EffectsTakePlace = (c : Config) (x : Instant) (old new : SwapMemory) (s : ℕ) → IsSeen c old x → TakesPlace old new s → TookPlace c x old new s

-- what one owns is none of the targets, so it stays
pub record KeepsOwn (s : Scene) (y : Instant) : Type 0 where
  pub value : (a : ℕ) → IsMine s a → y.value a ≡ (here s).value a
  pub flushed : (a : ℕ) → IsMine s a → IsFlushed s a → IsDurableAt y a

abbrev pub EffectsKeepOwn : Type 0
EffectsKeepOwn =
    (c : Config) (x : Instant) (old new : SwapMemory) (k : ℕ) (s : Scene) → IsSeen c old x → TakesPlace old new k → IsScene s → s.past.config ≡ c → here s ≡ x →
    KeepsOwn s (effect_instant c new x)
