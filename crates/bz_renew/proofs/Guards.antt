-- What is known of a guard that is looked at once more.
use Rattle.std.proofs.Common.{◌≢◌, ℕ, ◌<◌, ◌≤◌, arith, sym, ap, ◌∙◌, inl, inr}
use Rattle.bz_task.specs.Outcomes.{IsUnderRoot, IsUnderNode, IsGuarded}
use Rattle.bz_task.specs.Requests.{Answers, Differed, IsReadable}
use Rattle.bz_task.specs.Scene.{Past, Scene, IsScene, Continues}
use Rattle.bz_task.specs.declared.path.Link.{Link}
use Rattle.bz_renew.specs.Guards.{WasAsRead}

-- it may be read
pub guard-readable : (s : Scene) (link : Link) → IsScene s → IsGuarded s.past link → IsReadable s link.guard
guard-readable s link good g = elim g.under [ inl u ↦ under-root u | inr u ↦ under-node u ]
  where
    under-root : IsUnderRoot link → IsReadable s link.guard
    under-root u = record { outside = inl (omega (arith, u.guard)); within = omega (arith, u.guard) }

    under-node : IsUnderNode s.past link g.guarded → IsReadable s link.guard
    under-node u =
        let slot : u.parent < s.past.config.nodes = (good.history.good g.guarded g.since (omega (arith, g.order, g.now))).slots u.parent u.reached in
        record { outside = inr (omega (arith, u.guard)); within = omega (arith, u.guard, slot) }

-- where it is another one, somebody has changed it since it was read
pub guard-differed : (s : Scene) (link : Link) (v : ℕ) → IsGuarded s.past link → v ≢ link.status → Differed s link.guard v
guard-differed s link v g ne = record { moment = g.guarded; since = g.since; now = omega (arith, g.order, g.now); other = λ e. ne (sym e ∙ g.status) }

-- where it is the same, it was as it had been read
pub answered-as-read : (s : Scene) (link : Link) (m : ℕ) → m ≤ s.past.now → Answers s link.guard link.status → WasAsRead link m s.past
answered-as-read s link m order a = record { again = s.past.now; order = order; now = omega arith; loads = a.loads; value = a.value }

pub as-read-stays : (p q : Past) → Continues p q → (link : Link) (m : ℕ) → WasAsRead link m p → WasAsRead link m q
as-read-stays p q c link m w = record {
  again = w.again;
  order = w.order;
  now = omega (arith, w.now, c.now);
  loads = c.loads w.again w.now ∙ w.loads;
  value = ap (λ x. x.value link.guard) (c.at w.again w.now) ∙ w.value;
}
