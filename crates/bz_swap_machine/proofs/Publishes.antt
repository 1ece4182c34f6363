-- A swap is published: its descriptor is durable whole.
use Rattle.std.proofs.Common.{inl, inr, ◌≡◌, ◌≢◌, ℕ, ◌*◌, ◌==◌, if◌then◌else◌, ◌<◌, ◌≤◌, Bool, true, false, arith, refl, sym, subst}
use Rattle.std.proofs.lemmas.Grind.{common_steps}
use Rattle.bz_word.specs.declared.kind.WordKind.{WordKind}
use Rattle.bz_word.specs.declared.kind.WordKind.TheVariants.{Swap, Tag}
use Rattle.bz_swap_machine.specs.Pending.{Pending, Lasts}
use Rattle.bz_swap_machine.specs.declared.status.SwapStatus.{SwapStatus}
use Rattle.bz_swap_machine.specs.declared.status.SwapStatus.TheVariants.{Undecided}
use Rattle.bz_swap_machine.specs.Machine.{Entries, Memory, spelled, MayLast, StatusMayLast, FieldMayLast}
use Rattle.bz_swap_machine.specs.Changes.{put, fenced, with_published}
use Rattle.bz_swap_machine.specs.Content.{QuietOrEffect}
use Rattle.bz_swap_machine.specs.Sound.{Follows, InOrder, IsTarget, IsEntry, Sound}
use Rattle.bz_swap_machine.specs.Keeps.{Keeps, KeepsDescriptor}
use Rattle.bz_swap_machine.specs.declared.place.PrepareStep.TheVariants.{FenceDescriptor}
use Rattle.bz_swap_machine.specs.Knows.{Spell, Prepared}
use Rattle.bz_swap_machine.proofs.KeepsAsked.{sound-fenced}
use Rattle.bz_swap_machine.proofs.Lasting.{lasts-durable, lasts-by_ask}

-- a place of a published swap stays one when another is published
target-more : (e : ℕ → Entries) (published : ℕ → Bool) (s t a : ℕ) → IsTarget e published t a → IsTarget e (put published s true) t a
target-more e published s t a h = record { standing = grind (arith, common_steps, h.standing); entry = h.entry; target = h.target }

entry-more : (e : ℕ → Entries) (published : ℕ → Bool) (s t i a : ℕ) → IsEntry e published t i a → IsEntry e (put published s true) t i a
entry-more e published s t i a h = record { standing = grind (arith, common_steps, h.standing); entry = h.entry; target = h.target }

words-more : (e : ℕ → Entries) (m : Memory) (s : ℕ) → Spell (e s) (m.words s) → Sound e m → (t : ℕ) (b : Bool) → (t == s) ≡ b → (if b then true else m.published t) ≡ true → (k : ℕ) → k ≤ 3 * (e t).count → m.words t k ≡ spelled (e t) k
words-more e m s w g t true h p k le = let same : t ≡ s = grind (arith, common_steps, h) in subst (λ u. (j : ℕ) → j ≤ 3 * (e u).count → m.words u j ≡ spelled (e u) j) (sym same) w k le
words-more e m s w g t false h p k le = g.words t k p le

fields-more : (e : ℕ → Entries) (m : Memory) (s : ℕ) → ((k v : ℕ) → FieldMayLast m s k v → k ≤ 3 * (e s).count → v ≡ spelled (e s) k) → Sound e m → (t : ℕ) (b : Bool) → (t == s) ≡ b → (if b then true else m.published t) ≡ true
    → (k v : ℕ) → FieldMayLast m t k v → k ≤ 3 * (e t).count → v ≡ spelled (e t) k
fields-more e m s w g t true h p k v may le =
    let same : t ≡ s = grind (arith, common_steps, h) in subst (λ u. (j y : ℕ) → FieldMayLast m u j y → j ≤ 3 * (e u).count → y ≡ spelled (e u) j) (sym same) w k v may le
fields-more e m s w g t false h p k v may le = g.durable_words t k v may p le

undecided-follows : (c k : SwapStatus) → c ≡ Undecided → k ≡ Undecided → Follows c k
undecided-follows c k u v = rw (u, v) tt

follows-more : (e : ℕ → Entries) (m : Memory) (s : ℕ) → m.status s ≡ Undecided → ((k : SwapStatus) → StatusMayLast m s k → k ≡ Undecided) → Sound e m → (t : ℕ) (b : Bool) → (t == s) ≡ b → (if b then true else m.published t) ≡ true
    → (k : SwapStatus) → StatusMayLast m t k → Follows (m.status t) k
follows-more e m s u all g t true h p k may =
    let same : t ≡ s = grind (arith, common_steps, h) in subst (λ y. (c : SwapStatus) → StatusMayLast m y c → Follows (m.status y) c) (sym same) (λ c l. undecided-follows (m.status s) c u (all c l)) k may
follows-more e m s u all g t false h p k may = g.follows t k may p

order-undecided : (d : SwapStatus) (p : Pending SwapStatus) → ((k : SwapStatus) → Lasts d p k → k ≡ Undecided) → InOrder d p
order-undecided d p all = record {
  first = λ w q asked after. undecided-follows q.value d (all q.value (lasts-by_ask _ _ w q asked after)) (all d (lasts-durable _ _));
  later = λ v w q r asked asked' after rising. undecided-follows r.value q.value (all r.value (lasts-by_ask _ _ w r asked' (omega (arith, after, rising)))) (all q.value (lasts-by_ask _ _ v q asked after));
}

order-more : (e : ℕ → Entries) (m : Memory) (s : ℕ) → ((k : SwapStatus) → StatusMayLast m s k → k ≡ Undecided) → Sound e m → (t : ℕ) (b : Bool) → (t == s) ≡ b → (if b then true else m.published t) ≡ true → InOrder (m.durable_status t) (m.status_pending t)
order-more e m s all g t true h p =
    let same : t ≡ s = grind (arith, common_steps, h) in subst (λ y. InOrder (m.durable_status y) (m.status_pending y)) (sym same) (order-undecided (m.durable_status s) (m.status_pending s) all)
order-more e m s all g t false h p = g.order t p

-- a swap of which no other words may last than its entries', and no other status than undecided
pub sound-publish : (e : ℕ → Entries) (m : Memory) (s : ℕ) → s < m.taken → Spell (e s) (m.words s) → m.status s ≡ Undecided → ((k : SwapStatus) → StatusMayLast m s k → k ≡ Undecided)
    → ((k v : ℕ) → FieldMayLast m s k v → k ≤ 3 * (e s).count → v ≡ spelled (e s) k) → Sound e m → Sound e (record m { published = put m.published s true })
sound-publish e m s taken spell u all fields g =
    let n : Memory = record m { published = put m.published s true } in
    let pointer : (a t : ℕ) → m.cached a ≡ Swap t → IsTarget e n.published t a = λ a t h. target-more e m.published s t a (g.pointer a t h) in
    let pointer_durable : (a t : ℕ) (x : WordKind) → MayLast m a x → x ≡ Swap t → IsTarget e n.published t a = λ a t x may h. target-more e m.published s t a (g.pointer_durable a t x may h) in
    let tag : (a t i w q : ℕ) → m.cached a ≡ Tag t i w q → IsEntry e n.published t i a = λ a t i w q h. entry-more e m.published s t i a (g.tag a t i w q h) in
    let tag_durable : (a t i w q : ℕ) (x : WordKind) → MayLast m a x → x ≡ Tag t i w q → IsEntry e n.published t i a = λ a t i w q x may h. entry-more e m.published s t i a (g.tag_durable a t i w q x may h) in
    let words : (t k : ℕ) → n.published t ≡ true → k ≤ 3 * (e t).count → m.words t k ≡ spelled (e t) k = λ t k p le. words-more e m s spell g t (t == s) refl p k le in
    let durable_words : (t k v : ℕ) → FieldMayLast m t k v → n.published t ≡ true → k ≤ 3 * (e t).count → v ≡ spelled (e t) k = λ t k v may p le. fields-more e m s fields g t (t == s) refl p k v may le in
    let follows : (t : ℕ) (k : SwapStatus) → StatusMayLast m t k → n.published t ≡ true → Follows (m.status t) k = λ t k may p. follows-more e m s u all g t (t == s) refl p k may in
    let order : (t : ℕ) → n.published t ≡ true → InOrder (m.durable_status t) (m.status_pending t) = λ t p. order-more e m s all g t (t == s) refl p in
    grind (arith, common_steps, pointer, pointer_durable, tag, tag_durable, words, durable_words, follows, order, g)

-- the fence after the asks for both lines
pub sound-published : (e : ℕ → Entries) (m : Memory) (w s : ℕ) → s < m.taken → Prepared e m w s FenceDescriptor → Sound e m → Sound e (with_published m w s)
sound-published e m w s taken f g = sound-publish e (fenced m w) s taken f.0 f.1 f.2 f.3 (sound-fenced e m w g)

pub keeps-published : (e : ℕ → Entries) (m : Memory) (w s : ℕ) → Keeps e m (fenced m w) → Keeps e m (with_published m w s)
keeps-published e m w s k = record {
  published = λ t p. grind (arith, common_steps, p);
  missed = k.missed;
  numbers = k.numbers;
  named = k.named;
  taken = k.taken;
  owner = k.owner;
  undecided = k.undecided;
  verdict = k.verdict;
  durable_verdict = k.durable_verdict;
  pointer = k.pointer;
  pointer_durable = k.pointer_durable;
  old_tag = k.old_tag;
  under_tag = k.under_tag;
}

pub descriptor-published : (m : Memory) (w s t : ℕ) → t ≢ s → KeepsDescriptor m (fenced m w) t → KeepsDescriptor m (with_published m w s) t
descriptor-published m w s t ne d = record {
  published = grind (arith, common_steps, ne);
  answer = d.answer;
  words = d.words;
  durable_words = d.durable_words;
  status = d.status;
  durable_status = d.durable_status;
}

-- no address tells whether a swap is published
pub effect-published : (e : ℕ → Entries) (m : Memory) (w s : ℕ) → QuietOrEffect e m (fenced m w) s → QuietOrEffect e m (with_published m w s) s
effect-published e m w s q = elim q [
  | inl quiet ↦ inl (record { content = quiet.content; swaps = quiet.swaps })
  | inr takes ↦ inr (record { before = takes.before; done = takes.done; other_swaps = takes.other_swaps; expected = takes.expected; value = takes.value; others = takes.others })
]
