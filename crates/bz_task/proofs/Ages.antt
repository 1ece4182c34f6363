-- How often a reached node is changed between two moments: its stamp counts the changes, and where there are none it stays.
use Rattle.std.proofs.Common.{◌≡◌, ℕ, ◌+◌, ◌%◌, ◌^◌, ◌<◌, ◌≤◌, true, arith, ap, ◌∙◌, inl, inr}
use Rattle.bz_layout.specs.declared.config.Config.{Config}
use Rattle.bz_layout.specs.declared.sizes.TheConstants.{STATUS_AT}
use Rattle.bz_content.specs.FromSlotted.Page.{page}
use Rattle.bz_word.specs.Statuses.{status}
use Rattle.bz_task.specs.Instant.{Instant, words, page_at}
use Rattle.bz_task.specs.Laws.{AreMoments, NodesStay}
use Rattle.bz_task.specs.Shown.{SameShownNode, SameWords}
use Rattle.bz_task.specs.Steps.{IsStep, IsHistory, Moves}
use Rattle.bz_task.proofs.Sames.{same-refl, same-trans, status-same}
use Rattle.bz_task.proofs.Walks.{walk}

pub record Ages (c : Config) (x y : Instant) (k : ℕ) : Type 0 where
  pub changes : ℕ
  pub most : x.effects + changes ≤ y.effects
  pub stamp : (page_at c y k).stamp ≡ ((page_at c x k).stamp + changes) % 2 ^ 32
  pub same : changes ≡ 0 → SameShownNode c x y k
  pub reached : y.reached k ≡ true

pub stamp-fits : (w : ℕ) → (status w).stamp < 2 ^ 32
unfolding status
stamp-fits w = omega arith

age-zero : (c : Config) (x : Instant) (k : ℕ) → x.reached k ≡ true → Ages c x x k
age-zero c x k r = record {
  changes = 0;
  most = omega arith;
  stamp = omega (arith, stamp-fits (words c x k STATUS_AT));
  same = λ e. same-refl (words c x k);
  reached = r;
}

stamp-same : (n m : ℕ → ℕ) → SameWords n m → (page m).stamp ≡ (page n).stamp
stamp-same n m s = ap (λ x. (status x).stamp) (status-same n m s)

-- a node that stays
age-stay : (c : Config) (x y z : Instant) (k : ℕ) → Ages c x y k → y.effects ≤ z.effects → z.reached k ≡ true → SameShownNode c y z k → Ages c x z k
age-stay c x y z k a e r s = record {
  changes = a.changes;
  most = omega (arith, a.most, e);
  stamp = stamp-same (words c y k) (words c z k) s ∙ a.stamp;
  same = λ none. same-trans (words c x k) (words c y k) (words c z k) (a.same none) s;
  reached = r;
}

-- and one that is changed
age-change : (c : Config) (x y z : Instant) (k : ℕ) → Ages c x y k → z.effects ≡ y.effects + 1 → z.reached k ≡ true → Moves (words c y k) (words c z k) → Ages c x z k
age-change c x y z k a e r m = record {
  changes = a.changes + 1;
  most = omega (arith, a.most, e);
  stamp = omega (arith, a.stamp, m.stamp);
  same = λ none. absurd (omega (arith, none));
  reached = r;
}

age-step : (c : Config) (x y z : Instant) (k : ℕ) → IsStep c y z → Ages c x y k → Ages c x z k
age-step c x y z k (inl q) a = age-stay c x y z k a (omega (arith, q.effects)) (q.reached k ∙ a.reached) (q.nodes k a.reached)
age-step c x y z k (inr f) a = elim (f.nodes k a.reached) [
  | inl s ↦ age-stay c x y z k a (omega (arith, f.effects)) (f.reached k a.reached) s
  | inr m ↦ age-change c x y z k a f.effects (f.reached k a.reached) m
]

pub ages : (c : Config) (at : ℕ → Instant) (first last m j k : ℕ) → IsHistory c at first last → AreMoments first last m j → (at m).reached k ≡ true → Ages c (at m) (at j) k
ages c at first last m j k h o r =
    walk (λ i. Ages c (at m) (at i) k) m last (age-zero c (at m) k r)
    (λ i from to a. age-step c (at m) (at i) (at (i + 1)) k (h.step i (omega (arith, o.since, from)) to) a) j o.order o.until

pub nodes-stay : NodesStay
nodes-stay c at first last m i j k h o from to r e =
    let a : Ages c (at m) (at i) k = ages c at first last m i k h (record { since = o.since; order = from; until = omega (arith, to, o.until) }) r in
    let b : Ages c (at i) (at j) k = ages c at first last i j k h (record { since = omega (arith, o.since, from); order = to; until = o.until }) a.reached in
    let same : (page_at c (at j) k).stamp ≡ (page_at c (at m) k).stamp = ap (λ x. (status x).stamp) e in
    let few : (at j).effects < 2 ^ 32 = (h.good j (omega (arith, o.since, o.order)) o.until).few in
    a.same (omega (arith, a.most, b.most, a.stamp, b.stamp, same, few, stamp-fits (words c (at m) k STATUS_AT)))
