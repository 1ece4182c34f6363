-- A node leaves the tree frozen and by nothing else: what it is later, it was while it was still in the tree.
use Rattle.std.proofs.Common.{◌≡◌, ℕ, ◌+◌, ◌≤◌, true, arith, ◌∙◌, inl, inr}
use Rattle.bz_layout.specs.declared.config.Config.{Config}
use Rattle.bz_task.specs.Good.{IsGood}
use Rattle.bz_task.specs.Instant.{Instant, words, page_at, is_inside}
use Rattle.bz_task.specs.Laws.{WasInside, NodesWereInside}
use Rattle.bz_task.specs.Shown.{SameRecords}
use Rattle.bz_task.specs.Steps.{IsStep}
use Rattle.bz_task.proofs.Sames.{records-refl, records-trans, words-records}
use Rattle.bz_task.proofs.Walks.{walk}

-- the node is reached, and was in the tree
record Was (c : Config) (at : ℕ → Instant) (m j k : ℕ) : Type 0 where
  reached : (at j).reached k ≡ true
  was : WasInside c at m j k

reach-step : (c : Config) (x y : Instant) (k : ℕ) → IsStep c x y → x.reached k ≡ true → y.reached k ≡ true
reach-step c x y k (inl q) r = q.reached k ∙ r
reach-step c x y k (inr e) r = e.reached k r

-- a step after which the node is frozen leaves its records
records-step : (c : Config) (x y : Instant) (k : ℕ) → IsStep c x y → x.reached k ≡ true → (page_at c y k).frozen ≡ true → SameRecords (words c x k) (words c y k)
records-step c x y k (inl q) r f = words-records (words c x k) (words c y k) (q.nodes k r)
records-step c x y k (inr e) r f = elim (e.nodes k r) [ inl s ↦ words-records (words c x k) (words c y k) s | inr m ↦ m.freeze f ]

module _ (c : Config) (at : ℕ → Instant) (m i k : ℕ) where
  -- it is in the tree now
  here-inside : m ≤ i + 1 → is_inside c (at (i + 1)) k ≡ true → WasInside c at m (i + 1) k
  here-inside le e = record { was = i + 1; since = le; until = omega arith; inside = e; same = records-refl (words c (at (i + 1)) k) }

  -- it is not, and so it is frozen
  not-here : IsStep c (at i) (at (i + 1)) → Was c at m i k → (page_at c (at (i + 1)) k).frozen ≡ true → WasInside c at m (i + 1) k
  not-here step w f = record {
    was = w.was.was;
    since = w.was.since;
    until = omega (arith, w.was.until);
    inside = w.was.inside;
    same = records-trans (words c (at w.was.was) k) (words c (at i) k) (words c (at (i + 1)) k) w.was.same (records-step c (at i) (at (i + 1)) k step w.reached f);
  }

  was-step : IsGood c (at (i + 1)) → IsStep c (at i) (at (i + 1)) → m ≤ i → Was c at m i k → Was c at m (i + 1) k
  was-step good step le w =
      let r : (at (i + 1)).reached k ≡ true = reach-step c (at i) (at (i + 1)) k step w.reached in record {
        reached = r;
        was = elim (good.placed k r) [ inl e ↦ here-inside (omega (arith, le)) e | inr f ↦ not-here step w f ];
      }

pub nodes-were-inside : NodesWereInside
nodes-were-inside c at first last m j k h o ne e =
    let good : IsGood c (at m) = h.good m o.since (omega (arith, o.order, o.until)) in
    (walk (λ i. Was c at m i k) m last (record { reached = good.inside k e ne; was = record { was = m; since = omega arith; until = omega arith; inside = e; same = records-refl (words c (at m) k) } })
    (λ i from to w. was-step c at m i k (h.good (i + 1) (omega (arith, o.since, from)) (omega (arith, to))) (h.step i (omega (arith, o.since, from)) to) from w) j o.order o.until).was
