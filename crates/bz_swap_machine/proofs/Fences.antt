-- An ask of a worker, and its fence.
use Rattle.std.proofs.Common.{◌⊎◌, ◌≡◌, ◌≢◌, ℕ, ◌+◌, ◌==◌, if◌then◌else◌, nat_lt, ◌<◌, ◌≤◌, Bool, true, false, arith, refl, ap, subst, inl, inr, Some, None}
use Rattle.std.proofs.lemmas.Grind.{common_steps}
use Rattle.std.specs.declared.option.Option.{Option}
use Rattle.bz_swap_machine.specs.declared.status.SwapStatus.{SwapStatus}
use Rattle.bz_swap_machine.specs.Pending.{Saved, Pending, Lasts, IsPast, with_saved, fenced_value, fenced_since, with_fence}
use Rattle.bz_swap_machine.specs.Machine.{Entries, Memory}
use Rattle.bz_swap_machine.specs.Changes.{Lines, with_ask, fenced}
use Rattle.bz_swap_machine.specs.Sound.{Follows, InOrder, AreApart, Sound}
use Rattle.bz_swap_machine.proofs.Change.{Change}
use Rattle.bz_swap_machine.proofs.Lasting.{lasts-durable, lasts-by_ask, lasts-asked, past-asked, lasts-fenced, past-fenced, saved-cases, left-fenced, since-fenced}
use Rattle.bz_swap_machine.proofs.Settles.{Settles, Follows-self, onward-same, change-settled, change-quietly}

-- the status that a new ask saves goes on from all that were saved before
order-saved : (c d : SwapStatus) (p : Pending SwapStatus) (w now : ℕ) → ((k : SwapStatus) → Lasts d p k → Follows c k) → IsPast now p → InOrder d p → InOrder d (with_saved p w (now + 1) c)
order-saved c d p w now follows past order = record {
  first = λ v q asked after. elim (saved-cases (v == w) (record { moment = now + 1; value = c }) (p.asked v) q asked) [
    | inl new ↦ subst (λ (r : Saved SwapStatus). Follows r.value d) new.1 (follows d (lasts-durable _ _))
    | inr old ↦ order.first v q old after
  ];
  later = λ u v q r asked asked' after rising. elim (saved-cases (v == w) (record { moment = now + 1; value = c }) (p.asked v) r asked') [
    | inl new ↦ subst (λ (z : Saved SwapStatus). Follows z.value q.value) new.1 (elim (saved-cases (u == w) (record { moment = now + 1; value = c }) (p.asked u) q asked) [
      | inl new' ↦ subst (λ (z : Saved SwapStatus). Follows c z.value) new'.1 (Follows-self c d (follows d (lasts-durable _ _)))
      | inr old ↦ follows q.value (lasts-by_ask _ _ u q old after)
    ])
    | inr last ↦ elim (saved-cases (u == w) (record { moment = now + 1; value = c }) (p.asked u) q asked) [
      | inl new ↦ absurd (before-now now q r new.1 rising (past.asked v r last))
      | inr old ↦ order.later u v q r old last after rising
    ]
  ];
}
  where
    before-now : (now : ℕ) (q r : Saved SwapStatus) → record { moment = now + 1; value = c } ≡ q → q.moment ≤ r.moment → r.moment ≤ now → ⊥
    before-now now q r is rising past = let here : now + 1 ≡ q.moment = ap (λ (z : Saved SwapStatus). z.moment) is in omega (arith, here, rising, past)

order-asked : (b : Bool) (c d : SwapStatus) (p : Pending SwapStatus) (w now : ℕ) → ((k : SwapStatus) → Lasts d p k → Follows c k) → IsPast now p → InOrder d p → InOrder d (if b then with_saved p w (now + 1) c else p)
order-asked true c d p w now follows past order = order-saved c d p w now follows past order
order-asked false c d p w now follows past order = order

settles-ask : (e : ℕ → Entries) (m : Memory) (w : ℕ) (p : Lines) → Sound e m → Settles m (with_ask m w p)
settles-ask e m w p g = record {
  words = λ a x may. lasts-asked (p.words a) (m.durable a) (m.pending a) w (m.now + 1) (m.cached a) x may;
  fields = λ s k v may. lasts-asked (p.fields s k) (m.durable_words s k) (m.words_pending s k) w (m.now + 1) (m.words s k) v may;
  statuses = λ s k may. lasts-asked (p.statuses s) (m.durable_status s) (m.status_pending s) w (m.now + 1) (m.status s) k may;
  order = λ s pub_s. order-asked (p.statuses s) (m.status s) (m.durable_status s) (m.status_pending s) w m.now (λ k may. g.follows s k may pub_s) (g.status_past s) (g.order s pub_s);
  onward = onward-same e m g;
  past = λ a. past-asked (p.words a) (m.pending a) w m.now (m.cached a) (g.past a);
  status_past = λ s. past-asked (p.statuses s) (m.status_pending s) w m.now (m.status s) (g.status_past s);
  words_past = λ s k. past-asked (p.fields s k) (m.words_pending s k) w m.now (m.words s k) (g.words_past s k);
}

-- an ask changes nothing that any worker goes by
pub change-ask : (e : ℕ → Entries) (m : Memory) (w : ℕ) (p : Lines) (s : ℕ) → Sound e m → Change e m (with_ask m w p) s
change-ask e m w p s g = change-quietly e m (with_ask m w p) (settles-ask e m w p g) g s (λ t. refl)

moment-if : (since moment : ℕ) (b : Bool) → nat_lt since moment ≡ b → ((b ≡ true) × (since < moment)) ⊎ (b ≡ false)
moment-if since moment true told = inl (refl, grind (arith, common_steps, told))
moment-if since moment false told = inr refl

-- what is durable after a fence goes on from what was
onward-if : (d : SwapStatus) (p : Pending SwapStatus) (w : ℕ) (q : Saved SwapStatus) (b : Bool) → p.asked w ≡ Some q → nat_lt p.since q.moment ≡ b → Follows d d → InOrder d p → Follows (if b then q.value else d) d
onward-if d p w q true asked told self order = order.first w q asked (grind (arith, common_steps, told))
onward-if d p w q false asked told self order = self

onward-fenced : (d : SwapStatus) (p : Pending SwapStatus) (w : ℕ) (o : Option (Saved SwapStatus)) → p.asked w ≡ o → Follows d d → InOrder d p → Follows (fenced_value d p.since o) d
onward-fenced d p w None asked self order = self
onward-fenced d p w (Some q) asked self order = onward-if d p w q (nat_lt p.since q.moment) asked refl self order

first-if : (d : SwapStatus) (p : Pending SwapStatus) (w v : ℕ) (q r : Saved SwapStatus) (b : Bool) → p.asked w ≡ Some q → p.asked v ≡ Some r → nat_lt p.since q.moment ≡ b → (if b then q.moment else p.since) < r.moment → InOrder d p
    → Follows r.value (if b then q.value else d)
first-if d p w v q r true asked asked' told after order = order.later w v q r asked asked' (grind (arith, common_steps, told)) (omega (arith, after))
first-if d p w v q r false asked asked' told after order = order.first v r asked' after

first-fenced : (d : SwapStatus) (p : Pending SwapStatus) (w v : ℕ) (r : Saved SwapStatus) (o : Option (Saved SwapStatus)) → p.asked w ≡ o → p.asked v ≡ Some r → fenced_since p.since o < r.moment → InOrder d p → Follows r.value (fenced_value d p.since o)
first-fenced d p w v r None asked asked' after order = order.first v r asked' after
first-fenced d p w v r (Some q) asked asked' after order = first-if d p w v q r (nat_lt p.since q.moment) asked asked' refl after order

order-fenced : (d : SwapStatus) (p : Pending SwapStatus) (w : ℕ) → InOrder d p → InOrder (fenced_value d p.since (p.asked w)) (with_fence p w)
order-fenced d p w order = record {
  first = λ v r asked after. first-fenced d p w v r (p.asked w) refl (left-fenced (v == w) (p.asked v) r asked) after order;
  later = λ u v q r asked asked' after rising. order.later u v q r (left-fenced (u == w) (p.asked u) q asked) (left-fenced (v == w) (p.asked v) r asked') (omega (arith, after, since-fenced p.since (p.asked w))) rising;
}

pub settles-fence : (e : ℕ → Entries) (m : Memory) (w : ℕ) → Sound e m → Settles m (fenced m w)
settles-fence e m w g = record {
  words = λ a x may. inr (lasts-fenced (m.durable a) (m.pending a) w x may);
  fields = λ s k v may. inr (lasts-fenced (m.durable_words s k) (m.words_pending s k) w v may);
  statuses = λ s k may. inr (lasts-fenced (m.durable_status s) (m.status_pending s) w k may);
  order = λ s p. order-fenced (m.durable_status s) (m.status_pending s) w (g.order s p);
  onward = λ s p. onward-fenced (m.durable_status s) (m.status_pending s) w ((m.status_pending s).asked w) refl (onward-same e m g s p) (g.order s p);
  past = λ a. past-fenced (m.pending a) w m.now (g.past a);
  status_past = λ s. past-fenced (m.status_pending s) w m.now (g.status_past s);
  words_past = λ s k. past-fenced (m.words_pending s k) w m.now (g.words_past s k);
}

-- where a worker has not asked its fence changes nothing
none-fenced : (d : SwapStatus) (since : ℕ) (o : Option (Saved SwapStatus)) → o ≡ None → fenced_value d since o ≡ d
none-fenced d since o is = rw is refl

-- a fence of a worker that asked for the status of no swap but s: the effect of s, or none
pub change-fence : (e : ℕ → Entries) (m : Memory) (w s : ℕ) → ((t : ℕ) → t ≢ s → (m.status_pending t).asked w ≡ None) → AreApart e → Sound e m → Change e m (fenced m w) s
change-fence e m w s only o g = change-settled e m (fenced m w) (settles-fence e m w g) g s o
    (λ t ne. none-fenced (m.durable_status t) (m.status_pending t).since ((m.status_pending t).asked w) (only t ne))
