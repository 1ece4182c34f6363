-- A leaf that was read whole and lacks room: its freeze, its copy, its split or its merge is paid for.
use Rattle.std.proofs.Common.{◌≡◌, ℕ, ◌+◌, ◌-◌, ◌<◌, ◌≤◌, min, Bool, true, false, arith, ap, subst, ◌∙◌}
use Rattle.std.specs.Prelude.{if◌then◌else◌}
use Rattle.bz_joined.specs.FromAlone.Undisturbed.{IsUndisturbed}
use Rattle.bz_call.specs.Map.{key_of}
use Rattle.bz_content.specs.Content.{image_of}
use Rattle.bz_costs.specs.Resources.{Resource, Marks}
use Rattle.bz_costs.specs.Costs.{RoundsArePaid}
use Rattle.bz_costs.specs.Most.{most_of_freeze, most_of_copy, most_of_merge, most_of_root, most_of_below}
use Rattle.bz_costs.specs.Stretches.{cost_of_view, cost_once_viewed, cost_from, top_stage, cost_viewed_at, cost_at}
use Rattle.bz_joined.specs.FromStage.Stages.{full_above}
use Rattle.bz_swap.specs.SwapMemory.{SwapMemory}
use Rattle.bz_task.specs.Scene.{Past}
use Rattle.bz_solo.proofs.Pricing.{frozen-lacks, viewed-thawed, viewed-large, viewed-small}
use Rattle.bz_solo.proofs.Sparing.{spend}
use Rattle.bz_solo.specs.Errands.{Errand, words_asked}
use Rattle.bz_solo.specs.Prices.{prices_in}
use Rattle.bz_solo.specs.Renewals.{leaf_now, IsLacking, IsLarge, RenewalsArePaid}
use Rattle.bz_solo.specs.Rounds.{stage_now}
use Rattle.bz_solo.specs.Sum.{IsSmall, Spares}

-- a number above 0 follows another
before : (n : ℕ) → 0 < n → n - 1 + 1 ≡ n
before n some = omega (arith, some)

-- the least that a frozen leaf's stage may be
low-stage : (e : Errand) (p : Past) → (leaf_now e p).frozen ≡ true → 0 < min (stage_now e p) top_stage
low-stage e p frozen = omega (arith, frozen-lacks (leaf_now e p) (full_above p.config (image_of (p.at p.now).image) (key_of e.call)) (words_asked e.call) frozen)

-- what is paid for a leaf is enough
at-least : (viewed paid cost : ℕ) → viewed ≡ paid → cost ≤ paid → cost ≤ viewed
at-least viewed paid cost same l = omega (arith, same, l)

-- the rest of a disturbed round pays for a freeze, a copy, or the split of a root
freeze-hurt : (r : Resource) → most_of_freeze r + 0 ≤ cost_once_viewed r 0
freeze-hurt Marks = omega arith
freeze-hurt r = omega arith

copy-hurt : (r : Resource) → most_of_copy r + 0 ≤ cost_once_viewed r 0
copy-hurt Marks = omega arith
copy-hurt r = omega arith

root-hurt : (r : Resource) → most_of_root r + 0 ≤ cost_once_viewed r 0
root-hurt Marks = omega arith
root-hurt r = omega arith

module _ (r : Resource) (b : RoundsArePaid r) where
  -- a leaf that is not frozen
  freezes : (stage : ℕ) → 0 < stage → most_of_freeze r + cost_at r true (stage - 1) ≤ cost_viewed_at r false stage
  freezes stage some = subst (λ (n : ℕ). most_of_freeze r + cost_at r true (stage - 1) ≤ cost_viewed_at r false n) (before stage some) (b.freeze (stage - 1))

  -- one that is
  copies : (stage : ℕ) → 0 < stage → most_of_copy r + cost_from r 0 ≤ cost_once_viewed r stage
  copies stage some = subst (λ (n : ℕ). most_of_copy r + cost_from r 0 ≤ cost_once_viewed r n) (before stage some) (b.copy (stage - 1))

  merges : (stage : ℕ) → 0 < stage → most_of_merge r + cost_of_view r + most_of_copy r + cost_from r 0 ≤ cost_once_viewed r stage
  merges stage some = subst (λ (n : ℕ). most_of_merge r + cost_of_view r + most_of_copy r + cost_from r 0 ≤ cost_once_viewed r n) (before stage some) (b.merge (stage - 1))

  roots : (stage : ℕ) → 0 < stage → most_of_root r + cost_from r 0 ≤ cost_once_viewed r stage
  roots stage some = subst (λ (n : ℕ). most_of_root r + cost_from r 0 ≤ cost_once_viewed r n) (before stage some) (b.root (stage - 1))

  pub halves : (stage : ℕ) → 0 < stage → most_of_below r + cost_from r 0 ≤ cost_once_viewed r stage
  halves stage some = subst (λ (n : ℕ). most_of_below r + cost_from r 0 ≤ cost_once_viewed r n) (before stage some) (b.below (stage - 1))

  frozen-leaf : (m : SwapMemory) (w : ℕ) (e : Errand) (used by : ℕ) (p : Past) → (IsUndisturbed 0 p → IsLacking e p) → Spares r m w e used by p (λ q. q.viewed) → Spares r m w e used by p (λ q. most_of_freeze r + q.froze)
  frozen-leaf m w e used by p lacking s = spend r m w e used by p (λ q. q.viewed) (λ q. most_of_freeze r + q.froze) (freeze-hurt r) clean s
    where
      clean : IsUndisturbed 0 p → most_of_freeze r + (prices_in r p.config (p.at p.now).image e).froze ≤ (prices_in r p.config (p.at p.now).image e).viewed
      clean alone =
          let l : IsLacking e p = lacking alone in
          at-least _ _ _ (viewed-thawed r e.alone (leaf_now e p) (stage_now e p) l.thawed) (freezes (stage_now e p) l.lacks)

  copied-leaf : (m : SwapMemory) (w : ℕ) (e : Errand) (used by : ℕ) (p : Past) → (IsUndisturbed 0 p → IsSmall e p) → Spares r m w e used by p (λ q. q.viewed) → Spares r m w e used by p (λ q. most_of_copy r + q.renewed)
  copied-leaf m w e used by p small s = spend r m w e used by p (λ q. q.viewed) (λ q. most_of_copy r + q.renewed) (copy-hurt r) clean s
    where
      whichever : (alone : Bool) (paid : ℕ) → most_of_copy r + cost_from r 0 ≤ paid → most_of_copy r + cost_from r 0 ≤ (if alone then most_of_copy r + cost_from r 0 else paid)
      whichever true paid l = omega arith
      whichever false paid l = l

      clean : IsUndisturbed 0 p → most_of_copy r + (prices_in r p.config (p.at p.now).image e).renewed ≤ (prices_in r p.config (p.at p.now).image e).viewed
      clean alone =
          let l : IsSmall e p = small alone in
          at-least _ _ _ (viewed-small r e.alone (leaf_now e p) (stage_now e p) l.frozen l.few) (whichever e.alone (cost_viewed_at r true (stage_now e p)) (copies (min (stage_now e p) top_stage) (low-stage e p l.frozen)))

  merged-leaf : (m : SwapMemory) (w : ℕ) (e : Errand) (used by : ℕ) (p : Past) → e.alone ≡ false → (IsUndisturbed 0 p → IsSmall e p) → Spares r m w e used by p (λ q. q.viewed) → Spares r m w e used by p (λ q. most_of_merge r + q.merged)
  merged-leaf m w e used by p beside small s = spend r m w e used by p (λ q. q.viewed) (λ q. most_of_merge r + q.merged) (omega arith) clean s
    where
      grouped : (paid : ℕ) → most_of_merge r + cost_of_view r + most_of_copy r + cost_from r 0 ≤ paid → most_of_merge r + (cost_of_view r + (most_of_copy r + cost_from r 0)) ≤ paid
      grouped paid l = omega (arith, l)

      clean : IsUndisturbed 0 p → most_of_merge r + (prices_in r p.config (p.at p.now).image e).merged ≤ (prices_in r p.config (p.at p.now).image e).viewed
      clean alone =
          let l : IsSmall e p = small alone in
          at-least _ _ _
          (viewed-small r e.alone (leaf_now e p) (stage_now e p) l.frozen l.few ∙ ap (λ (b : Bool). if b then most_of_copy r + cost_from r 0 else cost_viewed_at r true (stage_now e p)) beside)
          (grouped _ (merges (min (stage_now e p) top_stage) (low-stage e p l.frozen)))

  split-root : (m : SwapMemory) (w : ℕ) (e : Errand) (used by : ℕ) (p : Past) → (IsUndisturbed 0 p → IsLarge e p) → Spares r m w e used by p (λ q. q.viewed) → Spares r m w e used by p (λ q. most_of_root r + q.renewed)
  split-root m w e used by p large s = spend r m w e used by p (λ q. q.viewed) (λ q. most_of_root r + q.renewed) (root-hurt r) clean s
    where
      clean : IsUndisturbed 0 p → most_of_root r + (prices_in r p.config (p.at p.now).image e).renewed ≤ (prices_in r p.config (p.at p.now).image e).viewed
      clean alone =
          let l : IsLarge e p = large alone in
          at-least _ _ _ (viewed-large r e.alone (leaf_now e p) (stage_now e p) l.frozen l.many) (roots (min (stage_now e p) top_stage) (low-stage e p l.frozen))

  split-leaf : (m : SwapMemory) (w : ℕ) (e : Errand) (used by : ℕ) (p : Past) → (IsUndisturbed 0 p → IsLarge e p) → Spares r m w e used by p (λ q. q.viewed) → Spares r m w e used by p (λ q. most_of_below r + q.below)
  split-leaf m w e used by p large s = spend r m w e used by p (λ q. q.viewed) (λ q. most_of_below r + q.below) (omega arith) clean s
    where
      begun : (paid last : ℕ) → most_of_below r + last ≤ paid → most_of_below r + (paid - most_of_below r) ≤ paid
      begun paid last l = omega (arith, l)

      clean : IsUndisturbed 0 p → most_of_below r + (prices_in r p.config (p.at p.now).image e).below ≤ (prices_in r p.config (p.at p.now).image e).viewed
      clean alone =
          let l : IsLarge e p = large alone in
          at-least _ _ _ (viewed-large r e.alone (leaf_now e p) (stage_now e p) l.frozen l.many) (begun (cost_once_viewed r (min (stage_now e p) top_stage)) (cost_from r 0) (halves (min (stage_now e p) top_stage) (low-stage e p l.frozen)))

pub renewals-paid : (r : Resource) → RoundsArePaid r → RenewalsArePaid r
renewals-paid r b = record { freeze = frozen-leaf r b; copy = copied-leaf r b; merge = merged-leaf r b; root = split-root r b; below = split-leaf r b }
