-- Effects are counted and never fall, so an own swap's effect is one more than there were when the look-up began.
use Rattle.std.proofs.Common.{◌≡◌, ℕ, zero, suc, ◌+◌, ◌-◌, ◌≤◌, Bool, List, arith, sym, ap, subst, inl, inr}
use Rattle.bz_layout.specs.declared.config.Config.{Config}
use Rattle.bz_word.specs.declared.entry.Entry.{Entry}
use Rattle.bz_task.specs.Instant.{Instant}
use Rattle.bz_task.specs.Scene.{Past, Scene, IsScene, Continues, here}
use Rattle.bz_task.specs.Steps.{IsStep, IsHistory}
use Rattle.bz_task.specs.Swaps.{Takes}
use Rattle.bz_record.specs.Leaves.{HasSwapped}

by-step : (c : Config) (x y : Instant) → IsStep c x y → x.effects ≤ y.effects
by-step c x y (inl q) = omega (arith, q.effects)
by-step c x y (inr e) = omega (arith, e.effects)

module _ (c : Config) (at : ℕ → Instant) (first last : ℕ) (h : IsHistory c at first last) where
  by-steps : (n : ℕ) → first + n ≤ last → (at first).effects ≤ (at (first + n)).effects
  by-steps zero l =
      let e : first ≡ first + 0 = omega arith in
      subst (λ i. (at first).effects ≤ (at i).effects) e (omega arith)
  by-steps (suc n) l =
      let e : first + n + 1 ≡ first + suc n = omega arith in
      let so-far : (at first).effects ≤ (at (first + n)).effects = by-steps n (omega (arith, l)) in
      let one : (at (first + n)).effects ≤ (at (first + n + 1)).effects = by-step c (at (first + n)) (at (first + n + 1)) (h.step (first + n) (omega arith) (omega (arith, l))) in
      subst (λ i. (at first).effects ≤ (at i).effects) e (omega (arith, so-far, one))

  never-fall : first ≤ last → (at first).effects ≤ (at last).effects
  never-fall l =
      let e : first + (last - first) ≡ last = omega (arith, l) in
      subst (λ i. (at first).effects ≤ (at i).effects) e (by-steps (last - first) (omega (arith, l)))

-- an own swap has just taken effect
pub has-swapped : (publishes : Bool) (entries : List Entry) (s after : Scene) → IsScene s → Takes publishes entries s after → HasSwapped after.past.now after.past
has-swapped publishes entries s after good t =
    let up : (s.past.at s.past.since).effects ≤ (here s).effects = never-fall s.past.config s.past.at s.past.since s.past.now good.history good.begun in
    let begun : (after.past.at s.past.since).effects ≡ (s.past.at s.past.since).effects = ap (λ (x : Instant). x.effects) (t.continues.at s.past.since good.begun) in
    subst (λ m. (after.past.at m).effects + 1 ≤ (here after).effects) (sym t.continues.since) (omega (arith, up, begun, t.swaps.effects))

-- one that took effect before a past moment did so
pub had-swapped : (m : ℕ) (p q : Past) → p.since ≤ m → m ≤ p.now → HasSwapped m p → Continues p q → HasSwapped m q
had-swapped m p q since now h n =
    let begun : (q.at p.since).effects ≡ (p.at p.since).effects = ap (λ (x : Instant). x.effects) (n.at p.since (omega (arith, since, now))) in
    let same : (q.at m).effects ≡ (p.at m).effects = ap (λ (x : Instant). x.effects) (n.at m now) in
    subst (λ i. (q.at i).effects + 1 ≤ (q.at m).effects) (sym n.since) (omega (arith, h, begun, same))
