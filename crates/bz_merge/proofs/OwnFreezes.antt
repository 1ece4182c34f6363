-- What the freezes of a merge left: when one takes effect, and ever after.
use Rattle.std.proofs.Common.{◌≡◌, ℕ, ◌+◌, false, [], ◌∷◌, arith, sym, ap, subst, ◌∙◌, inl, inr}
use Rattle.bz_word.specs.Statuses.{status}
use Rattle.bz_freeze.specs.Facts.{entry_of}
use Rattle.bz_task.specs.Instant.{Instant}
use Rattle.bz_task.specs.Scene.{Past, Scene, IsScene, Continues, here}
use Rattle.bz_task.specs.Swaps.{Takes}
use Rattle.bz_merge.specs.OwnFreezes.{FrozeAfter, FrozeViewed, ViewedWasFrozen, BothWereFrozen}
use Rattle.bz_merge.specs.Plans.{Merging, viewed_leaf, beside_leaf, IsPlanned}
use Rattle.bz_merge.specs.Siblings.{SeenLeaf}
use Rattle.bz_merge.proofs.Freezing.{leave-one}

-- it has just taken effect
pub froze-now : (r : Merging) (l : SeenLeaf) (s after : Scene) → IsScene s → IsPlanned r s.past → (status l.status).frozen ≡ false → Takes false (entry_of s.past.config l.slot l.status ∷ []) s after → FrozeAfter r l s after.past
froze-now r l s after good plan thawed t = record {
  thawed = thawed;
  planned = plan;
  earlier = record { good = good; config = t.continues.config; since = t.continues.since; now = omega (arith, t.continues.now); at = t.continues.at };
  effects = subst (λ (m : ℕ). (after.past.at m).effects ≡ (here s).effects + 1) t.continues.now t.swaps.effects;
  others = λ a ne. subst (λ (m : ℕ). (after.past.at m).value a ≡ (here s).value a) t.continues.now (t.swaps.value a ∙ leave-one (entry_of s.past.config l.slot l.status) (here s).value a (λ e. ne (sym e)));
}

module _ (p q : Past) (c : Continues p q) where
  froze-stays : (r : Merging) (l : SeenLeaf) (s : Scene) → FrozeAfter r l s p → FrozeAfter r l s q
  froze-stays r l s f = record {
    thawed = f.thawed;
    planned = f.planned;
    earlier = record {
      good = f.earlier.good;
      config = c.config ∙ f.earlier.config;
      since = c.since ∙ f.earlier.since;
      now = omega (arith, f.earlier.now, c.now);
      at = λ m l. c.at m (omega (arith, l, f.earlier.now)) ∙ f.earlier.at m l;
    };
    effects = ap (λ (x : Instant). x.effects) (c.at (s.past.now + 1) f.earlier.now) ∙ f.effects;
    others = λ a ne. ap (λ (x : Instant). x.value a) (c.at (s.past.now + 1) f.earlier.now) ∙ f.others a ne;
  }

  pub froze-viewed-stays : (r : Merging) → FrozeViewed r p → FrozeViewed r q
  froze-viewed-stays r f = record { before = f.before; froze = froze-stays r (viewed_leaf r) f.before f.froze }

  pub viewed-frozen-stays : (r : Merging) → ViewedWasFrozen r p → ViewedWasFrozen r q
  viewed-frozen-stays r (inl e) = inl e
  viewed-frozen-stays r (inr f) = inr (froze-viewed-stays r f)

  pub both-frozen-stay : (r : Merging) → BothWereFrozen r p → BothWereFrozen r q
  both-frozen-stay r (inl e) = inl (e.0, viewed-frozen-stays r e.1)
  both-frozen-stay r (inr f) = inr (record { before = f.before; froze = froze-stays r (beside_leaf r) f.before f.froze; viewed = f.viewed })
