-- What stays of a node whatever is done to it: header and fences, and all of it once it is frozen.
use Rattle.std.proofs.Common.{◌≡◌, ℕ, ◌+◌, true, arith, refl, ap, ◌∙◌, inl, inr}
use Rattle.bz_layout.specs.declared.config.Config.{Config}
use Rattle.bz_word.specs.Statuses.{status}
use Rattle.bz_task.specs.Instant.{Instant, words, page_at}
use Rattle.bz_task.specs.Laws.{FrozenNodesStay, KeepsFront, FrontsStay}
use Rattle.bz_task.specs.Shown.{SameShownNode}
use Rattle.bz_task.specs.Steps.{IsStep}
use Rattle.bz_task.proofs.Sames.{front-shown, same-refl, same-trans, status-same}
use Rattle.bz_task.proofs.Walks.{walk}

pub front-step : (c : Config) (x y z : Instant) (k : ℕ) → IsStep c y z → KeepsFront c x y k → KeepsFront c x z k
front-step c x y z k (inl q) f = record { reached = q.reached k ∙ f.reached; front = λ i ne h. q.nodes k f.reached i (front-shown (words c y k) i h) ∙ f.front i ne h }
front-step c x y z k (inr e) f = record {
  reached = e.reached k f.reached;
  front = λ i ne h. elim (e.nodes k f.reached) [ inl s ↦ s i (front-shown (words c y k) i h) ∙ f.front i ne h | inr m ↦ m.front i ne h ∙ f.front i ne h ];
}

pub fronts-stay : FrontsStay
fronts-stay c at first last m j k h o r =
    walk (λ i. KeepsFront c (at m) (at i) k) m last (record { reached = r; front = λ i ne l. refl })
    (λ i from to f. front-step c (at m) (at i) (at (i + 1)) k (h.step i (omega (arith, o.since, from)) to) f) j o.order o.until

-- it is reached, frozen, and as it was
record Keeps (c : Config) (x y : Instant) (k : ℕ) : Type 0 where
  reached : y.reached k ≡ true
  frozen : (page_at c y k).frozen ≡ true
  same : SameShownNode c x y k

keep-same : (c : Config) (x y z : Instant) (k : ℕ) → Keeps c x y k → z.reached k ≡ true → SameShownNode c y z k → Keeps c x z k
keep-same c x y z k f r s = record {
  reached = r;
  frozen = ap (λ w. (status w).frozen) (status-same (words c y k) (words c z k) s) ∙ f.frozen;
  same = same-trans (words c x k) (words c y k) (words c z k) f.same s;
}

keep-step : (c : Config) (x y z : Instant) (k : ℕ) → IsStep c y z → Keeps c x y k → Keeps c x z k
keep-step c x y z k (inl q) f = keep-same c x y z k f (q.reached k ∙ f.reached) (q.nodes k f.reached)
keep-step c x y z k (inr e) f = elim (e.nodes k f.reached) [
  | inl s ↦ keep-same c x y z k f (e.reached k f.reached) s
  | inr m ↦ absurd (let thawed = m.thawed in let frozen = f.frozen in cc)
]

pub frozen-nodes-stay : FrozenNodesStay
frozen-nodes-stay c at first last m j k h o r f =
    (walk (λ i. Keeps c (at m) (at i) k) m last (record { reached = r; frozen = f; same = same-refl (words c (at m) k) })
    (λ i from to g. keep-step c (at m) (at i) (at (i + 1)) k (h.step i (omega (arith, o.since, from)) to) g) j o.order o.until).same
