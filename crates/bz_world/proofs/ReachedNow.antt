-- Of the slots that the tree of the durable words reaches none is free, while the power is on; and of fresh memory it reaches one.
use Rattle.std.proofs.Common.{◌≡◌, ℕ, ◌+◌, ◌<◌, ◌≤◌, ◌==◌, nat_lt, Bool, true, false, length, slice_index, arith, refl, sym, ap, ◌∙◌, inl, inr}
use Rattle.std.proofs.lemmas.Bool.{true≢false}
use Rattle.std.proofs.lemmas.Bool.Decides.{nat_tests}
use Rattle.bz_content.specs.Content.{view_in}
use Rattle.bz_content.specs.Laws.{FreshMemoryReachesSlotZero}
use Rattle.bz_layout.specs.Config.{IsConfig}
use Rattle.bz_layout.specs.Fresh.{fresh_words}
use Rattle.bz_layout.specs.Slots.{IsInOrder}
use Rattle.bz_layout.specs.declared.config.Config.{Config}
use Rattle.bz_mark.proofs.MomentLaws.{at_moment-now}
use Rattle.bz_tree.specs.Walk.{form, is_among}
use Rattle.bz_sound.specs.Memory.Moments.{image_after}
use Rattle.bz_sound.specs.Memory.Spent.{is_reached_in}
use Rattle.bz_mark.specs.declared.power.Power.TheVariants as power
use Rattle.bz_task.specs.Good.{IsGood}
use Rattle.bz_world.specs.Inside.Beginning.{world_view}
use Rattle.bz_world.specs.Inside.Kept.{IsAwake, IsKept}
use Rattle.bz_world.specs.WorldView.{Supply, count_in, KeepsApart}
use Rattle.bz_world.specs.declared.parts.Parts.{Parts}
use Rattle.bz_world.proofs.LeftSlots.{count-fewer, count-one}
use Rattle.bz_world.proofs.Paid.{second-of}
use Rattle.bz_world.proofs.Powered.{awake-in}
use Rattle.bz_world.proofs.Supplies.{shown-on}

module _ (p : Parts) (k : IsAwake p) where
  abbrev now : ℕ → ℕ
  now = image_after p.journal.start p.journal.past

  image-is : (k.story.at (length p.journal.past)).image ≡ now
  image-is = k.living.images (length p.journal.past) k.living.from (omega arith) ∙ ap (image_after p.journal.start) (at_moment-now p.journal.past)

  good : IsGood p.config (k.story.at (length p.journal.past))
  good = k.living.history.good (length p.journal.past) k.living.from (omega arith)

  never-reached : (j : ℕ) → is_among p.slots.free j ≡ true → is_reached_in p.config now j ≡ true → ⊥
  never-reached j free reached =
      let few : j < p.config.nodes = k.free.within j free in
      let inside : (form (view_in p.config now)).inside j ≡ true = second-of (nat_lt j p.config.nodes) ((form (view_in p.config now)).inside j) reached in
      elim (k.living.came j (good.inside j (ap (λ (image : ℕ → ℕ). (form (view_in p.config image)).inside j) image-is ∙ inside) (λ last. omega (arith, last, few)))) [
        | inl before ↦ true≢false (sym before ∙ k.free.fresh j free)
        | inr (v, took) ↦ true≢false (sym took ∙ k.free.untaken v j free)
      ]

  unreached : (j : ℕ) → is_among p.slots.free j ≡ true → is_reached_in p.config now j ≡ false
  unreached j free = by (is_reached_in p.config now j) (never-reached j free)
    where
      by : (b : Bool) → (b ≡ true → ⊥) → b ≡ false
      by true never = absurd (never refl)
      by false never = refl

  apart : IsInOrder p.slots → length p.slots.free + count_in p.config now ≤ p.config.nodes
  apart order = count-fewer (λ slot. is_reached_in p.config now slot) p.config.nodes p.slots.free (record { rising = order.rising; below = k.free.within; fails = unreached })

pub keeps-apart : (p : Parts) → IsKept p → p.power ≡ power.On → IsInOrder p.slots → KeepsApart (world_view p)
keeps-apart p k on order says = omega (arith, ap (λ (s : Supply). s.left) (shown-on p on), apart p (awake-in p k on) order)

-- of fresh memory the root's alone
pub fresh-reaches-one : FreshMemoryReachesSlotZero → (c : Config) → IsConfig c → count_in c (slice_index (fresh_words c)) ≡ 1
fresh-reaches-one reaches c config = count-one (λ slot. is_reached_in c (slice_index (fresh_words c)) slot) c.nodes (omega (arith, config.nodes_in_range.at_least)) (reached 0 (omega (arith, config.nodes_in_range.at_least)) true refl)
    (λ j some few. reached j few false (let other : (j == 0) ≡ false = grind (arith, nat_tests, some) in other))
  where
    reached : (j : ℕ) → j < c.nodes → (b : Bool) → (j == 0) ≡ b → is_reached_in c (slice_index (fresh_words c)) j ≡ b
    reached j few b is =
        let below : nat_lt j c.nodes ≡ true = grind (arith, nat_tests, few) in
        rw (below, reaches c j config few) is
