-- The reading of a leaf that may lack room, and what comes after it.
use Rattle.std.proofs.Common.{◌≡◌, ℕ, ◌+◌, ◌<◌, ◌≤◌, true, false, arith, ap, refl, ◌∙◌}
use Rattle.bz_joined.specs.FromAlone.Undisturbed.{IsUndisturbed}
use Rattle.bz_call.specs.Map.{key_of}
use Rattle.bz_content.specs.Content.{image_of}
use Rattle.bz_joined.specs.FromStage.Neighbours.{leaf_page}
use Rattle.bz_costs.specs.Resources.{Resource}
use Rattle.bz_costs.specs.Most.{most_of_leaf}
use Rattle.bz_costs.specs.Stretches.{cost_once_viewed, cost_from, cost_viewed_at, solo_stretch}
use Rattle.bz_costs.specs.FromRunning.Kinds as kinds
use Rattle.bz_slotted.specs.Page.{Page}
use Rattle.bz_joined.specs.FromStage.Stages.{full_above}
use Rattle.bz_swap.specs.SwapMemory.{SwapMemory}
use Rattle.bz_task.specs.Scene.{Past}
use Rattle.bz_solo.proofs.Coming.{comes-after, comes-to-write}
use Rattle.bz_solo.proofs.Pricing.{Laws, ready-thawed, viewed-thawed, some-read, none-read, round-within}
use Rattle.bz_solo.proofs.Sparing.{less-afforded, spend}
use Rattle.bz_solo.specs.Errands.{Errand, words_asked, is_read, after}
use Rattle.bz_solo.specs.declared.rest.Rest.TheVariants as rest
use Rattle.bz_solo.specs.Prices.{Prices, disturbed_prices, viewed_price, clean_prices, prices_in, coming, round_price}
use Rattle.bz_solo.specs.Rounds.{stage_now, LeavesAreRead, ReadLeavesArePaid}
use Rattle.bz_solo.specs.Sum.{Round, Disturbed, Clean, reserve, prices_of, Spares, PaysForRound}

pub leaves-read : (r : Resource) → LeavesAreRead r
leaves-read r m w e used by p quiet write some s = spend r m w e used by p _ _ hurt clean s
  where
    hurt : most_of_leaf r + coming r (disturbed_prices r) e kinds.ReadWhole ≤ coming r (disturbed_prices r) e kinds.Find
    hurt = omega (arith, comes-to-write r (disturbed_prices r) e kinds.ReadWhole quiet write, comes-to-write r (disturbed_prices r) e kinds.Find quiet write)

    clean : IsUndisturbed 0 p → most_of_leaf r + coming r (prices_in r p.config (p.at p.now).image e) e kinds.ReadWhole ≤ coming r (prices_in r p.config (p.at p.now).image e) e kinds.Find
    clean alone =
        let q = prices_in r p.config (p.at p.now).image e in
        omega (arith, comes-to-write r q e kinds.ReadWhole quiet write, comes-to-write r q e kinds.Find quiet write, some-read q.viewed (cost_from r 0) (stage_now e p) (some alone))

lacks : (r : Resource) (m : SwapMemory) (w : ℕ) (e : Errand) (used by : ℕ) (p : Past) → e.effected ≡ false → is_read e.call ≡ false → (IsUndisturbed 0 p → 0 < stage_now e p) → Spares r m w e used by p (λ q. coming r q e kinds.ReadWhole) → Spares r m w e used by p (λ q. q.viewed)
lacks r m w e used by p quiet write some s = spend r m w e used by p _ _ hurt clean s
  where
    hurt : (disturbed_prices r).viewed ≤ coming r (disturbed_prices r) e kinds.ReadWhole
    hurt = omega (arith, comes-to-write r (disturbed_prices r) e kinds.ReadWhole quiet write)

    clean : IsUndisturbed 0 p → (prices_in r p.config (p.at p.now).image e).viewed ≤ coming r (prices_in r p.config (p.at p.now).image e) e kinds.ReadWhole
    clean alone =
        let q = prices_in r p.config (p.at p.now).image e in
        omega (arith, comes-to-write r q e kinds.ReadWhole quiet write, some-read q.viewed (cost_from r 0) (stage_now e p) (some alone))

-- of a leaf with room the last round is paid for
ready : (r : Resource) (e : Errand) (leaf : Page) (stage : ℕ) → e.effected ≡ false → is_read e.call ≡ false → leaf.frozen ≡ false → stage ≡ 0 →
    round_price r (clean_prices r e.alone leaf stage) (after e kinds.ReadWhole) ≤ coming r (clean_prices r e.alone leaf stage) e kinds.ReadWhole
ready r e leaf stage quiet write thawed none =
    let q : Prices = clean_prices r e.alone leaf stage in
    omega (arith, comes-to-write r q (after e kinds.ReadWhole) kinds.Seek quiet write, comes-to-write r q e kinds.ReadWhole quiet write, none-read q.viewed (cost_from r 0) stage none, viewed)
  where
    viewed : viewed_price r e.alone leaf stage ≡ cost_once_viewed r 0
    viewed = viewed-thawed r e.alone leaf stage thawed ∙ ap (cost_viewed_at r false) none

module _ (r : Resource) (b : Laws r) (m : SwapMemory) (w : ℕ) (e : Errand) (used by : ℕ) (p : Past) (quiet : e.effected ≡ false) (write : is_read e.call ≡ false) (none : IsUndisturbed 0 p → stage_now e p ≡ 0) where
  again-for : (round : Round) → (round ≡ Clean → IsUndisturbed 0 p) → round_price r (prices_in r p.config (p.at p.now).image (after e kinds.ReadWhole)) (after e kinds.ReadWhole) ≤ reserve r round + coming r (prices_of r round e p) e kinds.ReadWhole
  again-for Disturbed alone = within (solo_stretch r) _ _ (round-within r b p.config (p.at p.now).image (after e kinds.ReadWhole))
    where
      within : (stretch rest price : ℕ) → price ≤ stretch → price ≤ stretch + rest
      within stretch rest price l = omega (arith, l)
  again-for Clean alone =
      let leaf = leaf_page p.config (image_of (p.at p.now).image) (key_of e.call) in
      let full = full_above p.config (image_of (p.at p.now).image) (key_of e.call) in
      more _ _ (ready r e leaf (stage_now e p) quiet write (ready-thawed leaf full (words_asked e.call) (none (alone refl))) (none (alone refl)))
    where
      more : (price rest : ℕ) → price ≤ rest → price ≤ 0 + rest
      more price rest l = omega (arith, l)

  again : Spares r m w e used by p (λ q. coming r q e kinds.ReadWhole) → PaysForRound r m w (after e kinds.ReadWhole) used by p
  again s = record {
    thawed = λ froze. cc;
    affords = record { enough = (less-afforded r m w e used by (reserve r s.round + coming r (prices_of r s.round e p) e kinds.ReadWhole) _ (again-for s.round s.alone) s.affords).enough };
  }

-- of a delete that has had its effect the next way is paid for
small : (r : Resource) (m : SwapMemory) (w : ℕ) (e : Errand) (used by : ℕ) (p : Past) → e.effected ≡ true → Spares r m w e used by p (λ q. coming r q e kinds.ReadWhole) → PaysForRound r m w (record e { rest = rest.Inner }) used by p
small r m w e used by p done s = record {
  thawed = s.thawed;
  affords = record { enough = (less-afforded r m w e used by (reserve r s.round + coming r (prices_of r s.round e p) e kinds.ReadWhole) _ less s.affords).enough };
}
  where
    next : Errand
    next = record e { rest = rest.Inner }

    less : round_price r (prices_in r p.config (p.at p.now).image next) next ≤ reserve r s.round + coming r (prices_of r s.round e p) e kinds.ReadWhole
    less = omega (arith, comes-after r (prices_in r p.config (p.at p.now).image next) next kinds.Seek done, comes-after r (prices_of r s.round e p) e kinds.ReadWhole done)

pub read-leaves-paid : (r : Resource) → Laws r → ReadLeavesArePaid r
read-leaves-paid r b = record { lacks = lacks r; has = again r b; small = small r }
