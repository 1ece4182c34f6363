-- A status becomes durable, or words of a descriptor do. A success that does is the effect of its swap.
use Rattle.std.proofs.Common.{◌⊎◌, ◌≡◌, ◌≢◌, ℕ, ◌==◌, if◌then◌else◌, Bool, true, false, arith, refl, sym, ap, subst, ◌∙◌, inl, inr}
use Rattle.std.proofs.lemmas.Grind.{common_steps}
use Rattle.std.proofs.lemmas.Bool.{cases_eq}
use Rattle.bz_swap_machine.specs.declared.status.SwapStatus.{SwapStatus}
use Rattle.bz_swap_machine.specs.Pending.{Pending, Lasts, IsPast}
use Rattle.bz_swap_machine.specs.Machine.{Entries, Memory, is_succeeded, StatusMayLast, FieldMayLast}
use Rattle.bz_swap_machine.specs.Changes.{put, with_durable_status, with_durable_fields}
use Rattle.bz_swap_machine.specs.Sound.{Follows, InOrder, AreApart, Sound}
use Rattle.bz_swap_machine.proofs.Change.{Change}
use Rattle.bz_swap_machine.proofs.Lasting.{lasts-durable, lasts-copied, past-copied}
use Rattle.bz_swap_machine.proofs.Settles.{Settles, onward-same, change-settled, change-quietly}

pub not_succeeded : (c k : SwapStatus) → Follows c k → is_succeeded c ≡ false → is_succeeded k ≡ false
not_succeeded c k f h = grind arith

told-same : (t s : ℕ) → (t == s) ≡ true → t ≡ s
told-same t s told = grind (arith, common_steps, told)

-- of a status that became durable the cached one alone may last
pub lasts-status : (e : ℕ → Entries) (m : Memory) (s t : ℕ) (k : SwapStatus) → Sound e m → StatusMayLast (with_durable_status m s) t k → ((t ≡ s) × (k ≡ m.status t)) ⊎ (((t == s) ≡ false) × StatusMayLast m t k)
lasts-status e m s t k g may = elim (lasts-copied (t == s) (m.status s) (m.durable_status t) m.now (m.status_pending t) k (g.status_past t) may) [
  | inl copied ↦ inl (told-same t s copied.0, copied.1 ∙ ap m.status (sym (told-same t s copied.0)))
  | inr was ↦ inr was
]

-- no ask is later than a value that became durable now
order-copied : (b : Bool) (c d : SwapStatus) (now : ℕ) (p : Pending SwapStatus) → IsPast now p → InOrder d p → InOrder (if b then c else d) (record { since = if b then now else p.since; asked = p.asked })
order-copied true c d now p past order = record {
  first = λ w q asked after. absurd (omega (arith, after, past.asked w q asked));
  later = λ v w q r asked asked' after rising. absurd (omega (arith, after, past.asked v q asked));
}
order-copied false c d now p past order = order

onward-put : (e : ℕ → Entries) (m : Memory) (s t : ℕ) (b : Bool) → (t == s) ≡ b → m.published t ≡ true → Sound e m → Follows (if b then m.status s else m.durable_status t) (m.durable_status t)
onward-put e m s t true told p g = subst (λ u. Follows (m.status u) (m.durable_status t)) (told-same t s told) (g.follows t (m.durable_status t) (lasts-durable _ _) p)
onward-put e m s t false told p g = onward-same e m g t p

-- a word of a descriptor of which some became durable
lasts-here : (words durable : ℕ → ℕ) (p : ℕ → Bool) (now k : ℕ) (q : Pending ℕ) (v : ℕ) (b : Bool) → IsPast now q
    → Lasts ((if b then (λ j. if p j then words j else durable j) else durable) k) (record { since = if b then if p k then now else q.since else q.since; asked = q.asked }) v
    → ((p k ≡ true) × (v ≡ words k)) ⊎ (((b ≡ false) ⊎ (p k ≡ false)) × Lasts (durable k) q v)
lasts-here words durable p now k q v true past l = elim (lasts-copied (p k) (words k) (durable k) now q v past l) [ inl copied ↦ inl copied | inr was ↦ inr (inr was.0, was.1) ]
lasts-here words durable p now k q v false past l = inr (inl refl, l)

lasts-other : (own other : ℕ → ℕ) (p : ℕ → Bool) (now k : ℕ) (q : Pending ℕ) (v : ℕ) (b : Bool) → b ≡ false
    → Lasts ((if b then own else other) k) (record { since = if b then if p k then now else q.since else q.since; asked = q.asked }) v → Lasts (other k) q v
lasts-other own other p now k q v true told l = absurd (grind (arith, told))
lasts-other own other p now k q v false told l = l

pub differs : (t s : ℕ) → t ≢ s → (t == s) ≡ false
differs t s ne = grind (arith, common_steps, ne)

pub self-true : (s : ℕ) → (s == s) ≡ true
self-true s = grind (arith, common_steps)

not-here : (s : ℕ) (b : Bool) → ((s == s) ≡ false) ⊎ (b ≡ false) → b ≡ false
not-here s b (inl told) = absurd (grind (arith, told, self-true s))
not-here s b (inr told) = told

-- of the words of its descriptor that became durable the cached ones alone may last
pub lasts-own_fields : (e : ℕ → Entries) (m : Memory) (s : ℕ) (p : ℕ → Bool) (k v : ℕ) → Sound e m → FieldMayLast (with_durable_fields m s p) s k v → ((p k ≡ true) × (v ≡ m.words s k)) ⊎ ((p k ≡ false) × FieldMayLast m s k v)
lasts-own_fields e m s p k v g may = elim (lasts-here (m.words s) (m.durable_words s) p m.now k (m.words_pending s k) v (s == s) (g.words_past s k) may) [
  | inl copied ↦ inl copied
  | inr was ↦ inr (not-here s (p k) was.0, was.1)
]

lasts-fields : (e : ℕ → Entries) (m : Memory) (s : ℕ) (p : ℕ → Bool) (t k v : ℕ) → Sound e m → FieldMayLast (with_durable_fields m s p) t k v → (v ≡ m.words t k) ⊎ FieldMayLast m t k v
lasts-fields e m s p t k v g may = elim (cases_eq t s) [
  | inl same ↦ subst (λ u. FieldMayLast (with_durable_fields m s p) u k v → (v ≡ m.words u k) ⊎ FieldMayLast m u k v) (sym same)
      (λ here. elim (lasts-own_fields e m s p k v g here) [ inl copied ↦ inl copied.1 | inr was ↦ inr was.1 ]) may
  | inr ne ↦ inr (lasts-other (λ j. if p j then m.words s j else m.durable_words s j) (m.durable_words t) p m.now k (m.words_pending t k) v (t == s) (differs t s ne) may)
]

past-fields : (p : ℕ → Bool) (now k : ℕ) (q : Pending ℕ) (b : Bool) → IsPast now q → IsPast {A = ℕ} now (record { since = if b then if p k then now else q.since else q.since; asked = q.asked })
past-fields p now k q true past = past-copied (p k) now q past
past-fields p now k q false past = past

settles-status : (e : ℕ → Entries) (m : Memory) (s : ℕ) → Sound e m → Settles m (with_durable_status m s)
settles-status e m s g = record {
  words = λ a x may. inr may;
  fields = λ t k v may. inr may;
  statuses = λ t k may. elim (lasts-status e m s t k g may) [ inl copied ↦ inl copied.1 | inr was ↦ inr was.1 ];
  order = λ t p. order-copied (t == s) (m.status s) (m.durable_status t) m.now (m.status_pending t) (g.status_past t) (g.order t p);
  onward = λ t p. onward-put e m s t (t == s) refl p g;
  past = g.past;
  status_past = λ t. past-copied (t == s) m.now (m.status_pending t) (g.status_past t);
  words_past = g.words_past;
}

settles-fields : (e : ℕ → Entries) (m : Memory) (s : ℕ) (p : ℕ → Bool) → Sound e m → Settles m (with_durable_fields m s p)
settles-fields e m s p g = record {
  words = λ a x may. inr may;
  fields = λ t k v may. lasts-fields e m s p t k v g may;
  statuses = λ t k may. inr may;
  order = g.order;
  onward = onward-same e m g;
  past = g.past;
  status_past = g.status_past;
  words_past = λ t k. past-fields p m.now k (m.words_pending t k) (t == s) (g.words_past t k);
}

other-status : (m : Memory) (s t : ℕ) → t ≢ s → put m.durable_status s (m.status s) t ≡ m.durable_status t
other-status m s t ne = grind (arith, common_steps, ne)

pub change-durable_status : (e : ℕ → Entries) (m : Memory) (s : ℕ) → AreApart e → Sound e m → Change e m (with_durable_status m s) s
change-durable_status e m s o g = change-settled e m (with_durable_status m s) (settles-status e m s g) g s o (other-status m s)

pub change-durable_fields : (e : ℕ → Entries) (m : Memory) (s : ℕ) (p : ℕ → Bool) (t : ℕ) → Sound e m → Change e m (with_durable_fields m s p) t
change-durable_fields e m s p t g = change-quietly e m (with_durable_fields m s p) (settles-fields e m s p g) g t (λ u. refl)
