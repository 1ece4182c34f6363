-- What is known of the memory after a worker's own fence stays under the acts, asks and fences of others.
use Rattle.std.proofs.Common.{◌⊎◌, ◌≡◌, ◌≢◌, ℕ, ◌+◌, ◌==◌, if◌then◌else◌, Bool, true, false, arith, sym, subst, ◌∙◌, ap, inl, inr}
use Rattle.std.proofs.lemmas.Grind.{common_steps}
use Rattle.std.proofs.lemmas.Bool.{cases_eq}
use Rattle.bz_word.specs.declared.kind.WordKind.{WordKind}
use Rattle.bz_swap_machine.specs.declared.status.SwapStatus.{SwapStatus}
use Rattle.bz_swap_machine.specs.declared.status.Verdict.{Verdict}
use Rattle.bz_swap_machine.specs.Pending.{Pending, IsPast}
use Rattle.bz_swap_machine.specs.Machine.{Entries, Memory, is_verdict, MayLast, StatusMayLast, FieldMayLast}
use Rattle.bz_swap_machine.specs.Changes.{with_copies, with_durable_status, with_durable_fields, Lines, with_ask, fenced}
use Rattle.bz_swap_machine.specs.Sound.{Sound}
use Rattle.bz_swap_machine.specs.Keeps.{Keeps, KeepsDescriptor}
use Rattle.bz_swap_machine.proofs.AskedFor.{LastsFenced, for-copied, for-asked, for-fenced}
use Rattle.bz_swap_machine.proofs.DurableStatuses.{differs}
use Rattle.bz_swap_machine.proofs.Fences.{settles-fence}
use Rattle.bz_swap_machine.proofs.Lasting.{lasts-durable}
use Rattle.bz_swap_machine.proofs.Published.{durably_decided-published, same_verdict}
use Rattle.bz_swap_machine.proofs.Settles.{with_durable, sound-settled, lasts-onward, onward-same}

-- what may last after v's fence is what is cached or might last after it before
pub record SettlesFor (m n : Memory) (v : ℕ) : Type 0 where
  pub words : (a : ℕ) (x : WordKind) → MayLast (fenced n v) a x → (x ≡ m.cached a) ⊎ MayLast (fenced m v) a x
  pub fields : (s k u : ℕ) → FieldMayLast (fenced n v) s k u → (u ≡ m.words s k) ⊎ FieldMayLast (fenced m v) s k u
  pub statuses : (s : ℕ) (k : SwapStatus) → StatusMayLast (fenced n v) s k → (k ≡ m.status s) ⊎ StatusMayLast (fenced m v) s k

-- a memory is sound after a fence too
pub sound-fenced : (e : ℕ → Entries) (m : Memory) (v : ℕ) → Sound e m → Sound e (fenced m v)
sound-fenced e m v g = sound-settled e m (fenced m v) (settles-fence e m v g) g

verdict-for : (e : ℕ → Entries) (m : Memory) (s : ℕ) (d : Verdict) (k : SwapStatus) → Sound e m → is_verdict (m.durable_status s) d ≡ true → (k ≡ m.status s) ⊎ StatusMayLast m s k → is_verdict k d ≡ true
verdict-for e m s d k g is (inl same) =
    rw same (same_verdict (m.status s) (m.durable_status s) d (g.follows s (m.durable_status s) (lasts-durable _ _) (durably_decided-published e m s d g is)) is)
verdict-for e m s d k g is (inr was) =
    let p : m.published s ≡ true = durably_decided-published e m s d g is in
    same_verdict k (m.durable_status s) d (lasts-onward (m.durable_status s) (m.status_pending s) k (onward-same e m g s p) (g.order s p) was) is

pub keeps-for : (e : ℕ → Entries) (m n : Memory) (v : ℕ) → Sound e m → Keeps e m n → SettlesFor m n v → Keeps e (fenced m v) (fenced n v)
keeps-for e m n v g k h = record {
  published = k.published;
  missed = k.missed;
  numbers = k.numbers;
  named = k.named;
  taken = k.taken;
  owner = k.owner;
  undecided = k.undecided;
  verdict = k.verdict;
  durable_verdict = λ s d is. verdict-for e (fenced m v) s d ((fenced n v).durable_status s) (sound-fenced e m v g) is (h.statuses s ((fenced n v).durable_status s) (lasts-durable _ _));
  pointer = k.pointer;
  pointer_durable = λ s i lt u is all x may. elim (h.words ((e s).target i) x may) [ inl same ↦ same ∙ is | inr was ↦ all x was ];
  old_tag = k.old_tag;
  under_tag = k.under_tag;
}

pub descriptor-for : (m n : Memory) (v s : ℕ) → KeepsDescriptor m n s → SettlesFor m n v → KeepsDescriptor (fenced m v) (fenced n v) s
descriptor-for m n v s d h = record {
  published = d.published;
  answer = d.answer;
  words = d.words;
  durable_words = λ k all u may. elim (h.fields s k u may) [ inl same ↦ same | inr was ↦ all u was ];
  status = d.status;
  durable_status = λ p all k may. elim (h.statuses s k may) [ inl same ↦ same | inr was ↦ all k was ];
}

-- what is durable and asked for stays
pub for-same : (m c : Memory) (v : ℕ) → SettlesFor m (with_durable c m) v
for-same m c v = record { words = λ a x may. inr may; fields = λ s k u may. inr may; statuses = λ s k may. inr may }

pub for-copies : (e : ℕ → Entries) (m : Memory) (p : ℕ → Bool) (v : ℕ) → Sound e m → SettlesFor m (with_copies m p) v
for-copies e m p v g = record {
  words = λ a x may. elim (for-copied (p a) (m.cached a) (m.durable a) m.now (m.pending a) v x (g.past a) may) [ inl copied ↦ inl copied.1 | inr was ↦ inr was ];
  fields = λ s k u may. inr may;
  statuses = λ s k may. inr may;
}

status-copied : (m : Memory) (s t : ℕ) (k : SwapStatus) (L : Type 0) → (((t == s) ≡ true) × (k ≡ m.status s)) ⊎ L → (k ≡ m.status t) ⊎ L
status-copied m s t k L (inl copied) = let same : t ≡ s = grind (arith, common_steps, copied.0) in inl (copied.1 ∙ ap m.status (sym same))
status-copied m s t k L (inr was) = inr was

-- a descriptor of which some words became durable, and another
field-here : (words durable : ℕ → ℕ) (p : ℕ → Bool) (now k : ℕ) (q : Pending ℕ) (v u : ℕ) (b : Bool) → IsPast now q
    → LastsFenced ((if b then (λ j. if p j then words j else durable j) else durable) k) (record { since = if b then if p k then now else q.since else q.since; asked = q.asked }) v u
    → (u ≡ words k) ⊎ LastsFenced (durable k) q v u
field-here words durable p now k q v u true past l = elim (for-copied (p k) (words k) (durable k) now q v u past l) [ inl copied ↦ inl copied.1 | inr was ↦ inr was ]
field-here words durable p now k q v u false past l = inr l

field-other : (own other : ℕ → ℕ) (p : ℕ → Bool) (now k : ℕ) (q : Pending ℕ) (v u : ℕ) (b : Bool) → b ≡ false
    → LastsFenced ((if b then own else other) k) (record { since = if b then if p k then now else q.since else q.since; asked = q.asked }) v u → LastsFenced (other k) q v u
field-other own other p now k q v u true told l = absurd (grind (arith, told))
field-other own other p now k q v u false told l = l

fields-for : (e : ℕ → Entries) (m : Memory) (s : ℕ) (p : ℕ → Bool) (v t k u : ℕ) → Sound e m → FieldMayLast (fenced (with_durable_fields m s p) v) t k u → (u ≡ m.words t k) ⊎ FieldMayLast (fenced m v) t k u
fields-for e m s p v t k u g may = elim (cases_eq t s) [
  | inl same ↦ subst (λ y. FieldMayLast (fenced (with_durable_fields m s p) v) y k u → (u ≡ m.words y k) ⊎ FieldMayLast (fenced m v) y k u) (sym same)
      (λ here. field-here (m.words s) (m.durable_words s) p m.now k (m.words_pending s k) v u (s == s) (g.words_past s k) here) may
  | inr ne ↦ inr (field-other (λ j. if p j then m.words s j else m.durable_words s j) (m.durable_words t) p m.now k (m.words_pending t k) v u (t == s) (differs t s ne) may)
]

pub for-fields : (e : ℕ → Entries) (m : Memory) (s : ℕ) (p : ℕ → Bool) (v : ℕ) → Sound e m → SettlesFor m (with_durable_fields m s p) v
for-fields e m s p v g = record { words = λ a x may. inr may; fields = λ t k u may. fields-for e m s p v t k u g may; statuses = λ t k may. inr may }

pub for-status : (e : ℕ → Entries) (m : Memory) (s v : ℕ) → Sound e m → SettlesFor m (with_durable_status m s) v
for-status e m s v g = record {
  words = λ a x may. inr may;
  fields = λ t k u may. inr may;
  statuses = λ t k may. status-copied m s t k (StatusMayLast (fenced m v) t k) (for-copied (t == s) (m.status s) (m.durable_status t) m.now (m.status_pending t) v k (g.status_past t) may);
}

pub for-ask : (m : Memory) (w : ℕ) (p : Lines) (v : ℕ) → w ≢ v → SettlesFor m (with_ask m w p) v
for-ask m w p v ne =
    let other : (v == w) ≡ false = differs v w (λ same. ne (sym same)) in
    record {
      words = λ a x may. for-asked (p.words a) (m.durable a) (m.pending a) w v (m.now + 1) (m.cached a) x other may;
      fields = λ s k u may. for-asked (p.fields s k) (m.durable_words s k) (m.words_pending s k) w v (m.now + 1) (m.words s k) u other may;
      statuses = λ s k may. for-asked (p.statuses s) (m.durable_status s) (m.status_pending s) w v (m.now + 1) (m.status s) k other may;
    }

pub for-fence : (e : ℕ → Entries) (m : Memory) (w v : ℕ) → w ≢ v → Sound e m → SettlesFor m (fenced m w) v
for-fence e m w v ne g =
    let other : (w == v) ≡ false = differs w v ne in
    let apart : (v == w) ≡ false = differs v w (λ same. ne (sym same)) in
    record {
      words = λ a x may. inr (for-fenced (m.durable a) (m.pending a) m.now w v (g.past a) other x apart may);
      fields = λ s k u may. inr (for-fenced (m.durable_words s k) (m.words_pending s k) m.now w v (g.words_past s k) other u apart may);
      statuses = λ s k may. inr (for-fenced (m.durable_status s) (m.status_pending s) m.now w v (g.status_past s) other k apart may);
    }
