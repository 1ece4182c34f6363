-- What becomes one that readers read was durable before.
use Rattle.std.proofs.Common.{◌≡◌, ◌+◌, ◌⊎◌, Bool, true, false, refl, ap, ◌∙◌, inl, inr}
use Rattle.bz_layout.specs.Addresses.{node_address}
use Rattle.bz_task.specs.Scene.{IsFlushed, here}
use Rattle.bz_task.specs.Shown.{IsRead}
use Rattle.bz_task.specs.Swaps.{GoodSwapsShowSettled}

pub good-shows-settled : GoodSwapsShowSettled
good-shows-settled publishes change entries s y g a (inl e) = inl (inl e)
good-shows-settled publishes change entries s y g a (inr (inl e)) = inl (inr (inl e))
good-shows-settled publishes change entries s y g a (inr (inr w)) = go ((here s).reached w.slot) refl
  where
    flushed : IsFlushed s (node_address s.past.config w.slot + w.place) → (here s).settled a ≡ true
    flushed f = ap (here s).settled w.address ∙ f.settled

    go : (t : Bool) → (here s).reached w.slot ≡ t → IsRead s.past.config (here s) a ⊎ ((here s).settled a ≡ true)
    go true r = elim (g.shown w.slot w.place r w.within w.shown) [
      | inl was ↦ inl (inr (inr (record { slot = w.slot; place = w.place; address = w.address; within = w.within; reached = r; shown = was })))
      | inr own ↦ inr (flushed own.flushed)
    ]
    go false r = inr (flushed (g.linked_durable w.slot w.place r w.reached w.within w.shown))
