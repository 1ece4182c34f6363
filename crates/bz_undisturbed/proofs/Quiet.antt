-- Between two moments with as many effects each step is quiet, since an effect adds one and no step takes one away.
use Rattle.std.proofs.Common.{◌≡◌, ℕ, zero, suc, ◌+◌, ◌-◌, ◌<◌, ◌≤◌, ◌⊎◌, true, arith, refl, sym, ap, subst, ◌∙◌, inl, inr}
use Rattle.bz_layout.specs.declared.config.Config.{Config}
use Rattle.bz_layout.specs.declared.sizes.TheConstants.{STATUS_AT}
use Rattle.bz_word.specs.Statuses.{status}
use Rattle.bz_task.specs.Instant.{Instant, words}
use Rattle.bz_task.specs.Laws.{AreMoments}
use Rattle.bz_task.specs.Shown.{IsRead, SameWords, SameRecords, SameRoot}
use Rattle.bz_task.specs.Steps.{IsQuiet, IsStep, IsHistory}
use Rattle.bz_task.proofs.Proved.{nodes_stay, same_records_show_the_same}
use Rattle.bz_renew.proofs.Words.{node-at}
use Rattle.bz_undisturbed.specs.Quiet.{EffectsNeverFall, QuietTimesStay, ReadValuesStand, UndisturbedTimesAreQuiet}

-- no effect came so far: the same nodes are reached, with the status words that they had, and the root is the same
record IsStill (c : Config) (x y : Instant) : Type 0 where
  effects : y.effects ≡ x.effects
  reached : (k : ℕ) → y.reached k ≡ x.reached k
  status : (k : ℕ) → x.reached k ≡ true → words c y k STATUS_AT ≡ words c x k STATUS_AT
  root : SameRoot x y

still-step : (c : Config) (x y z : Instant) → IsStill c x y → IsQuiet c y z → IsStill c x z
still-step c x y z h q = record {
  effects = q.effects ∙ h.effects;
  reached = λ k. q.reached k ∙ h.reached k;
  status = λ k r. q.nodes k (h.reached k ∙ r) STATUS_AT (inl (omega arith)) ∙ h.status k r;
  root = record { pointer = q.root.pointer ∙ h.root.pointer; status = q.root.status ∙ h.root.status };
}

-- either none came, or there are more
abbrev Went : Config → Instant → Instant → Type 0
Went c x y = IsStill c x y ⊎ (x.effects < y.effects)

went-step : (c : Config) (x y z : Instant) → IsStep c y z → Went c x y → Went c x z
went-step c x y z (inl q) (inl h) = inl (still-step c x y z h q)
went-step c x y z (inl q) (inr l) = inr (omega (arith, q.effects, l))
went-step c x y z (inr e) (inl h) = inr (omega (arith, e.effects, h.effects))
went-step c x y z (inr e) (inr l) = inr (omega (arith, e.effects, l))

module _ (c : Config) (at : ℕ → Instant) (first last m : ℕ) (h : IsHistory c at first last) (since : first ≤ m) where
  went-by : (n : ℕ) → m + n ≤ last → Went c (at m) (at (m + n))
  went-by zero l =
      let e : m ≡ m + 0 = omega arith in
      subst (λ i. Went c (at m) (at i)) e (inl (record { effects = refl; reached = λ k. refl; status = λ k r. refl; root = record { pointer = refl; status = refl } }))
  went-by (suc n) l =
      let e : m + n + 1 ≡ m + suc n = omega arith in
      subst (λ i. Went c (at m) (at i)) e (went-step c (at m) (at (m + n)) (at (m + n + 1)) (h.step (m + n) (omega (arith, since)) (omega (arith, l))) (went-by n (omega (arith, l))))

  went : (i : ℕ) → m ≤ i → i ≤ last → Went c (at m) (at i)
  went i from to =
      let e : m + (i - m) ≡ i = omega arith in
      subst (λ j. Went c (at m) (at j)) e (went-by (i - m) (omega arith))

pub never-fall : EffectsNeverFall
never-fall c at first last m j h o = elim (went c at first last m h o.since j o.order o.until) [ inl s ↦ omega (arith, s.effects) | inr l ↦ omega (arith, l) ]

pub quiet-times : QuietTimesStay
quiet-times c at first last m i j h o from to e =
    let rest : (at i).effects ≤ (at j).effects = never-fall c at first last i j h (record { since = omega (arith, o.since, from); order = to; until = o.until }) in
    elim (went c at first last m h o.since i from (omega (arith, to, o.until))) [
      | inr l ↦ absurd (omega (arith, l, rest, e))
      | inl s ↦ record {
        effects = s.effects;
        reached = s.reached;
        nodes = λ k r. nodes_stay c at first last m i i k h (record { since = o.since; order = from; until = omega (arith, to, o.until) }) from (omega arith) r (s.status k r);
        root = s.root;
      }
    ]

-- so a value that readers read stands
stands : (c : Config) (x y : Instant) (a : ℕ) → IsQuiet c x y → IsRead c x a → y.value a ≡ x.value a
stands c x y a q (inl r) = subst (λ z. y.value z ≡ x.value z) (sym r) q.root.pointer
stands c x y a q (inr (inl r)) = subst (λ z. y.value z ≡ x.value z) (sym r) q.root.status
stands c x y a q (inr (inr w)) =
    subst (λ z. y.value z ≡ x.value z) (sym w.address) (sym (node-at c y.value w.slot w.place w.within) ∙ (q.nodes w.slot w.reached w.place w.shown ∙ node-at c x.value w.slot w.place w.within))

same-records : (n m : ℕ → ℕ) → SameWords n m → SameRecords n m
same-records n m s = record {
  count = ap (λ z. (status z).count) (s STATUS_AT (inl (omega arith)));
  block = ap (λ z. (status z).block) (s STATUS_AT (inl (omega arith)));
  words = λ i ne h. s i h;
}

-- what readers read afterwards they read before
back : (c : Config) (x y : Instant) (a : ℕ) → IsQuiet c x y → IsRead c y a → IsRead c x a
back c x y a q (inl r) = inl r
back c x y a q (inr (inl r)) = inr (inl r)
back c x y a q (inr (inr w)) =
    let r : x.reached w.slot ≡ true = sym (q.reached w.slot) ∙ w.reached in
    inr (inr (record {
      slot = w.slot;
      place = w.place;
      address = w.address;
      within = w.within;
      reached = r;
      shown = (same_records_show_the_same (words c x w.slot) (words c y w.slot) (same-records (words c x w.slot) (words c y w.slot) (q.nodes w.slot r)) w.place).1 w.shown;
    }))

-- and nothing changes the other way either
pub quiet-back : (c : Config) (x y : Instant) → IsQuiet c x y → IsQuiet c y x
quiet-back c x y q = record {
  effects = sym q.effects;
  reached = λ k. sym (q.reached k);
  nodes = λ k r i h.
      let was : x.reached k ≡ true = sym (q.reached k) ∙ r in
      sym (q.nodes k was i ((same_records_show_the_same (words c x k) (words c y k) (same-records (words c x k) (words c y k) (q.nodes k was)) i).1 h));
  root = record { pointer = sym q.root.pointer; status = sym q.root.status };
}

pub read-values : ReadValuesStand
read-values s m k a good q in-k r i j in-i in-j =
    let p = s.past in
    let o : AreMoments p.since p.now m p.now = record { since = q.since; order = q.now; until = omega arith } in
    let at-m : IsRead p.config (p.at m) a = back p.config (p.at m) (p.at k) a (quiet-times p.config p.at p.since p.now m k p.now good.history o in-k.from in-k.to q.effects) r in
    stands p.config (p.at m) (p.at i) a (quiet-times p.config p.at p.since p.now m i p.now good.history o in-i.from in-i.to q.effects) at-m
    ∙ sym (stands p.config (p.at m) (p.at j) a (quiet-times p.config p.at p.since p.now m j p.now good.history o in-j.from in-j.to q.effects) at-m)

pub undisturbed : UndisturbedTimesAreQuiet
undisturbed = record {
  later = λ s made m good a h.
      let up : (s.past.at m).effects ≤ (s.past.at s.past.now).effects = never-fall s.past.config s.past.at s.past.since s.past.now m s.past.now good.history (record { since = h.since; order = h.now; until = omega arith }) in
      record { since = h.since; now = h.now; effects = omega (arith, a, h.effects, up) };
  whole = λ s good a. record { since = omega arith; now = good.begun; effects = omega (arith, a) };
}
