-- A step at which another's swap takes effect: the rival that is gone pays for a stretch after this round, and for the mark of the effect.
use Rattle.std.proofs.Common.{◌≡◌, ℕ, ◌+◌, ◌*◌, ◌≤◌, subst, sym, ap}
use Rattle.bz_call.specs.Map.{key_of}
use Rattle.bz_content.specs.Content.{image_of}
use Rattle.bz_joined.specs.FromStage.Neighbours.{leaf_page}
use Rattle.bz_costs.specs.Resources.{Resource}
use Rattle.bz_costs.specs.Solo.{one_mark}
use Rattle.bz_costs.specs.Weights.{weigh}
use Rattle.bz_costs.specs.Costs.{HigherStagesCostMore, StretchesAreTheMost}
use Rattle.bz_costs.specs.Most.{most_of_seek}
use Rattle.bz_costs.specs.Stretches.{solo_stretch}
use Rattle.bz_rivals.specs.Rivals.{rivals}
use Rattle.bz_costs.specs.FromRunning.Kinds as kinds
use Rattle.bz_costs.specs.FromRunning.Kinds.{kind_of}
use Rattle.bz_costs.specs.FromRunning.AnyTask.{AnyTask}
use Rattle.bz_joined.specs.FromStage.Stages.{stage_in}
use Rattle.bz_swap.specs.SwapMemory.{SwapMemory}
use Rattle.bz_task.specs.Scene.{Past}
use Rattle.bz_solo.specs.Errands.{Errand, words_asked, after}
use Rattle.bz_solo.specs.Prices.{disturbed_prices, prices_in, coming, round_price}
use Rattle.bz_solo.specs.Steps.{ForeignEffectsArePaid}
use Rattle.bz_solo.specs.Sum.{State, In, Disturbed, Clean, Made, IsIn, Affords, IsMade, own_left, left_in}
use Rattle.bz_solo.proofs.Coming.{comes-to-write}
use Rattle.bz_solo.proofs.Rises.{all-rises, disturbed-least, next-pays}
use Rattle.bz_solo.proofs.Spending.{begins-again, disturbs, loses, one-fewer}

pub record Laws (r : Resource) : Type 0 where
  pub most : StretchesAreTheMost r
  pub more : HigherStagesCostMore r

module _ (r : Resource) (b : Laws r) (m n : SwapMemory) (w : ℕ) (e : Errand) (t : AnyTask) (untold used next by : ℕ) (p q : Past) (less : next ≤ used) (gone : rivals n w + 1 ≤ rivals m w) where
  kept : (solo_stretch r + one_mark r) * rivals n w + (solo_stretch r + one_mark r) ≤ (solo_stretch r + one_mark r) * rivals m w
  kept = one-fewer (solo_stretch r + one_mark r) (rivals m w) (rivals n w) gone

  -- what the next round costs after the last swap of a task
  pays : IsMade e t untold → coming r (disturbed_prices r) e (kind_of t) ≤ round_price r (prices_in r p.config (p.at p.now).image (after e (kind_of t))) (after e (kind_of t))
  pays h =
      both _ _ _ _ (comes-to-write r (disturbed_prices r) e (kind_of t) h.quiet h.write) (ap (λ z. most_of_seek r + z) (comes-to-write r (prices_in r p.config (p.at p.now).image (after e (kind_of t))) (after e (kind_of t)) kinds.Seek h.quiet h.write))
      (next-pays r b.most e (kind_of t) e.alone (leaf_page p.config (image_of (p.at p.now).image) (key_of e.call)) (stage_in p.config (p.at p.now).image (key_of e.call) (words_asked e.call)))
    where
      both : (a b c d : ℕ) → a ≡ b → d ≡ c → b ≤ c → a ≤ d
      both a b c d u v l = subst (λ z. z ≤ d) (sym u) (subst (λ z. b ≤ z) (sym v) l)

  affords : (state : State) → IsIn state e t untold p → Affords r m w e used by (0 + left_in r state e t p) → Affords r n w e next by (one_mark r + left_in r (In Disturbed) e t q)
  affords (In Disturbed) h a = record { enough = loses (solo_stretch r) (one_mark r) _ _ (own_left r e) used next (solo_stretch r + (weigh r t + coming r (disturbed_prices r) e (kind_of t))) by kept less a.enough }
  affords (In Clean) h a = record {
    enough = disturbs (solo_stretch r) (one_mark r) _ _ (own_left r e) used next (weigh r t) (coming r (disturbed_prices r) e (kind_of t)) (coming r (prices_in r p.config (p.at p.now).image e) e (kind_of t)) by kept less
        (all-rises r (disturbed_prices r) (prices_in r p.config (p.at p.now).image e) e (kind_of t) (disturbed-least r b.most b.more e.alone (leaf_page p.config (image_of (p.at p.now).image) (key_of e.call)) (stage_in p.config (p.at p.now).image (key_of e.call) (words_asked e.call)))) a.enough;
  }
  affords Made h a = record {
    enough = begins-again (solo_stretch r) (one_mark r) _ _ (own_left r e) used next (weigh r t) (coming r (disturbed_prices r) e (kind_of t)) (round_price r (prices_in r p.config (p.at p.now).image (after e (kind_of t))) (after e (kind_of t))) by kept less (pays h) a.enough;
  }

pub foreign-paid : (r : Resource) → Laws r → ForeignEffectsArePaid r
foreign-paid r b m n w e t untold used next by p q one less gone h = record {
  look = h.look;
  thawed = h.thawed;
  state = In Disturbed;
  holds = tt;
  affords = affords r b m n w e t untold used next by p q less gone h.state h.holds h.affords;
}
