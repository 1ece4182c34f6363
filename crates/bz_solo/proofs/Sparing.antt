-- What is spared for one thing is spared for another that takes no more, in a disturbed round and in a clean one.
use Rattle.std.proofs.Common.{◌≡◌, ℕ, ◌+◌, ◌≤◌, arith, refl}
use Rattle.bz_joined.specs.FromAlone.Undisturbed.{IsUndisturbed}
use Rattle.bz_swap.specs.SwapMemory.{SwapMemory}
use Rattle.bz_task.specs.Scene.{Past}
use Rattle.bz_solo.specs.Errands.{Errand}
use Rattle.bz_solo.specs.Prices.{Prices, disturbed_prices, prices_in}
use Rattle.bz_solo.specs.Rounds.{LessIsSpared}
use Rattle.bz_solo.specs.Sum.{Affords, IsThawed, Round, Disturbed, Clean, reserve, prices_of, Spares}
use Rattle.bz_costs.specs.Resources.{Resource}

pub less-afforded : (r : Resource) (m : SwapMemory) (w : ℕ) (e : Errand) (used by much little : ℕ) → little ≤ much → Affords r m w e used by much → Affords r m w e used by little
less-afforded r m w e used by much little l a = record { enough = omega (arith, l, a.enough) }

module _ (r : Resource) (m : SwapMemory) (w : ℕ) (e : Errand) (used by : ℕ) (p : Past) (price less : Prices → ℕ) where
  in-round : (round : Round) → less (prices_of r round e p) ≤ price (prices_of r round e p) → (round ≡ Clean → IsUndisturbed 0 p) → IsThawed e → Affords r m w e used by (reserve r round + price (prices_of r round e p)) → Spares r m w e used by p less
  in-round round l alone thawed a = record {
    round = round;
    alone = alone;
    thawed = thawed;
    affords = less-afforded r m w e used by (reserve r round + price (prices_of r round e p)) (reserve r round + less (prices_of r round e p)) (omega (arith, l)) a;
  }

  -- in a clean round what is known of it may be used
  cheaper : (less (disturbed_prices r) ≤ price (disturbed_prices r)) → (IsUndisturbed 0 p → less (prices_in r p.config (p.at p.now).image e) ≤ price (prices_in r p.config (p.at p.now).image e)) → (round : Round) → (round ≡ Clean → IsUndisturbed 0 p) → less (prices_of r round e p) ≤ price (prices_of r round e p)
  cheaper hurt clean Disturbed alone = hurt
  cheaper hurt clean Clean alone = clean (alone refl)

  pub spend : (less (disturbed_prices r) ≤ price (disturbed_prices r)) → (IsUndisturbed 0 p → less (prices_in r p.config (p.at p.now).image e) ≤ price (prices_in r p.config (p.at p.now).image e)) → Spares r m w e used by p price → Spares r m w e used by p less
  spend hurt clean s = in-round s.round (cheaper hurt clean s.round s.alone) s.alone s.thawed s.affords

pub less-is-spared : (r : Resource) → LessIsSpared r
less-is-spared r m w e used by p price less l s = spend r m w e used by p price less (l (disturbed_prices r)) (λ alone. l (prices_in r p.config (p.at p.now).image e)) s
