-- Every step on the own descriptor keeps the invariant, and the last one publishes it.
use Rattle.std.proofs.Common.{inr, inl, ◌≡◌, ◌≢◌, ℕ, ◌+◌, ◌*◌, ◌==◌, if◌then◌else◌, ◌<◌, ◌≤◌, Bool, true, false, arith, refl, ap, ◌∙◌, None}
use Rattle.std.proofs.lemmas.Grind.{common_steps}
use Rattle.bz_swap_machine.specs.declared.status.SwapStatus.TheVariants.{Undecided}
use Rattle.bz_swap_machine.specs.declared.status.SwapStatus.{SwapStatus}
use Rattle.bz_swap_machine.specs.Machine.{Entries, Memory, spelled, StatusMayLast, FieldMayLast}
use Rattle.bz_swap_machine.specs.Changes.{put, with_status, with_field, in_head, in_tail, with_published, Lines, head_of, tail_of, with_ask, fenced}
use Rattle.bz_swap_machine.specs.Sound.{AreApart, Sound}
use Rattle.bz_swap_machine.specs.declared.place.HelpStep.TheVariants.{InstallTag}
use Rattle.bz_swap_machine.specs.declared.place.Place.TheVariants.{Prepare, Help}
use Rattle.bz_swap_machine.specs.declared.place.PrepareStep.{PrepareStep}
use Rattle.bz_swap_machine.specs.declared.place.PrepareStep.TheVariants.{WriteWord, WriteStatus, AskHead, AskTail, FenceDescriptor}
use Rattle.bz_swap_machine.specs.declared.worker.Operation.{Operation}
use Rattle.bz_swap_machine.specs.declared.worker.Operation.TheVariants.{Swapping}
use Rattle.bz_swap_machine.specs.Steps.{Local, goes_on, prepare_act}
use Rattle.bz_swap_machine.specs.Knows.{SpellBelow, Spell, HeadLasts, Prepared, OwnPublished, Owns}
use Rattle.bz_swap_machine.proofs.AskedFor.{own-asked}
use Rattle.bz_swap_machine.proofs.Change.{Change, unchanged, no_miss}
use Rattle.bz_swap_machine.proofs.Good.{Good, good}
use Rattle.bz_swap_machine.proofs.Descriptors.{sound-field, keeps-field, descriptor-field}
use Rattle.bz_swap_machine.proofs.DurableStatuses.{self-true}
use Rattle.bz_swap_machine.proofs.Fences.{change-ask, change-fence}
use Rattle.bz_swap_machine.proofs.Learns.{spell-more}
use Rattle.bz_swap_machine.proofs.KeptKnowledge.{back-keeps, owns-keeps}
use Rattle.bz_swap_machine.proofs.Publishes.{sound-published, keeps-published, descriptor-published, effect-published}
use Rattle.bz_swap_machine.proofs.Prepares.{OnOwn, good-prepared, sound-undecided, keeps-undecided, descriptor-undecided}

-- what was put is there
pub put-at : {A : Type 0} (f : ℕ → A) (s : ℕ) (v : A) → put f s v s ≡ v
put-at f s v = ap (λ b. if b then v else f s) (self-true s)

owns-own : (e : ℕ → Entries) (m : Memory) (w : ℕ) (l : Local) → OnOwn e m w l → Owns m w l.operation
owns-own e m w l o = rw o.operation (o.owner, o.taken, o.unanswered)

last-field : (k c n : ℕ) → n ≡ c → (k == 3 * n) ≡ true → 3 * c < k + 1
last-field k c n h b = grind (arith, common_steps)

more-fields : (k c n : ℕ) → n ≡ c → k ≤ 3 * c → (k == 3 * n) ≡ false → k + 1 ≤ 3 * c
more-fields k c n h le b = grind (arith, common_steps)

prepared-if : (e : ℕ → Entries) (m : Memory) (w s k : ℕ) (b : Bool) → (b ≡ true → 3 * (e s).count < k + 1) → (b ≡ false → k + 1 ≤ 3 * (e s).count) → SpellBelow (e s) (m.words s) (k + 1) → Prepared e m w s (if b then WriteStatus else WriteWord (k + 1))
prepared-if e m w s k true last more h = λ j le. let all : 3 * (e s).count < k + 1 = last refl in h j (omega arith) le
prepared-if e m w s k false last more h = (more refl, h)

-- a word of the descriptor is stored
good-write : (e : ℕ → Entries) (m : Memory) (w : ℕ) (l : Local) (k : ℕ) → OnOwn e m w l → Prepared e m w l.current (WriteWord k) → Sound e m → Good e m w l (prepare_act m w l (WriteWord k))
good-write e m w l k o f g =
    let s : ℕ = l.current in
    let n : Memory = with_field m s k (l.list k) in
    let more : SpellBelow (e s) (put (m.words s) k (l.list k)) (k + 1) = spell-more (e s) (m.words s) k (l.list k) (o.spell k f.0) f.1 in
    let written : SpellBelow (e s) (n.words s) (k + 1) = rw (put-at m.words s (put (m.words s) k (l.list k))) more in
    let next : PrepareStep = if k == 3 * l.list 0 then WriteStatus else WriteWord (k + 1) in
    let count : l.list 0 ≡ (e s).count = o.spell 0 (omega arith) in
    good-prepared e m n w l (Prepare next) o
    (sound-field e m s k (l.list k) o.unpublished g) (keeps-field e m s k (l.list k)) (λ t ne. descriptor-field m s k (l.list k) t ne)
    (unchanged e m n s refl refl) (no_miss e m n refl) o.unanswered
    (o.operation, o.unpublished, o.spell, prepared-if e n w s k (k == 3 * l.list 0) (last-field k (e s).count (l.list 0) count) (more-fields k (e s).count (l.list 0) count f.0) written)

-- the status is stored: undecided
good-write_status : (e : ℕ → Entries) (m : Memory) (w : ℕ) (l : Local) → OnOwn e m w l → Prepared e m w l.current WriteStatus → Sound e m → Good e m w l (prepare_act m w l WriteStatus)
good-write_status e m w l o f g =
    let s : ℕ = l.current in
    good-prepared e m (with_status m s Undecided) w l (Prepare AskHead) o
    (sound-undecided e m s o.unpublished g) (keeps-undecided e m s o.unpublished g) (λ t ne. descriptor-undecided m s t ne)
    (unchanged e m (with_status m s Undecided) s refl refl) (no_miss e m (with_status m s Undecided) refl) o.unanswered
    (o.operation, o.unpublished, o.spell, (f, put-at m.status s Undecided))

-- after the ask for the first line a fence will leave its words and the status as they are in the cache
head-lasts : (e : ℕ → Entries) (m : Memory) (w s j v : ℕ) → Spell (e s) (m.words s) → Sound e m → FieldMayLast (fenced (with_ask m w (head_of s)) w) s j v → in_head j ≡ true → j ≤ 3 * (e s).count → v ≡ spelled (e s) j
head-lasts e m w s j v spell g may h le = elim (own-asked (if s == s then in_head j else false) (m.durable_words s j) (m.words_pending s j) w m.now (m.words s j) v (g.words_past s j) may) [
  | inl asked ↦ asked.1 ∙ spell j le
  | inr was ↦ absurd (grind (arith, was.0, h, self-true s))
]

undecided-lasts : (e : ℕ → Entries) (m : Memory) (w s : ℕ) (k : SwapStatus) → m.status s ≡ Undecided → Sound e m → StatusMayLast (fenced (with_ask m w (head_of s)) w) s k → k ≡ Undecided
undecided-lasts e m w s k u g may = elim (own-asked (s == s) (m.durable_status s) (m.status_pending s) w m.now (m.status s) k (g.status_past s) may) [
  | inl asked ↦ asked.1 ∙ u
  | inr was ↦ absurd (grind (arith, was.0, self-true s))
]

-- after that for the second line it will leave all words so
head-told : (k n : ℕ) → n ≤ 4 → k ≤ 3 * n → in_tail k ≡ false → in_head k ≡ true
head-told k n few le told = grind (arith, common_steps, told)

all-last : (e : ℕ → Entries) (m : Memory) (w s j v : ℕ) → (e s).count ≤ 4 → Spell (e s) (m.words s) → HeadLasts e (fenced m w) s → Sound e m → FieldMayLast (fenced (with_ask m w (tail_of s)) w) s j v → j ≤ 3 * (e s).count → v ≡ spelled (e s) j
all-last e m w s j v few spell head g may le = elim (own-asked (if s == s then in_tail j else false) (m.durable_words s j) (m.words_pending s j) w m.now (m.words s j) v (g.words_past s j) may) [
  | inl asked ↦ asked.1 ∙ spell j le
  | inr was ↦ head j v was.1 (head-told j (e s).count few le (grind (arith, was.0, self-true s))) le
]

-- a line of the descriptor is asked for
good-asked : (e : ℕ → Entries) (m : Memory) (w : ℕ) (l : Local) (p : Lines) (step : PrepareStep) → OnOwn e m w l → Prepared e (with_ask m w p) w l.current step → Sound e m → Good e m w l (goes_on (with_ask m w p) l (Prepare step))
good-asked e m w l p step o f g =
    let n : Memory = with_ask m w p in
    let c : Change e m n l.current = change-ask e m w p l.current g in
    good e m w l (goes_on n l (Prepare step)) c
    (record {
      place = (o.operation, o.unpublished, o.spell, f);
      owns = owns-keeps e m n w l.operation c.keeps (λ t h. c.descriptors t) (owns-own e m w l o);
      back = back-keeps e m n l.back c.keeps o.back;
    })
    tt (inl refl)

good-ask_head : (e : ℕ → Entries) (m : Memory) (w : ℕ) (l : Local) → OnOwn e m w l → Prepared e m w l.current AskHead → Sound e m → Good e m w l (prepare_act m w l AskHead)
good-ask_head e m w l o f g =
    let s : ℕ = l.current in
    good-asked e m w l (head_of s) AskTail o (f.0, f.1, (λ k may. undecided-lasts e m w s k f.1 g may), λ j v may h le. head-lasts e m w s j v f.0 g may h le) g

good-ask_tail : (e : ℕ → Entries) (m : Memory) (w : ℕ) (l : Local) → (e l.current).count ≤ 4 → OnOwn e m w l → Prepared e m w l.current AskTail → Sound e m → Good e m w l (prepare_act m w l AskTail)
good-ask_tail e m w l few o f g =
    let s : ℕ = l.current in
    good-asked e m w l (tail_of s) FenceDescriptor o (f.0, f.1, f.2, λ j v may le. all-last e m w s j v few f.0 f.3 g may le) g

own-published : (m : Memory) (s : ℕ) (o : Operation) → o ≡ Swapping s → m.published s ≡ true → OwnPublished m o
own-published m s o h p = rw h p

-- one fence makes the descriptor durable, and the swap is published
good-fence_descriptor : (e : ℕ → Entries) (m : Memory) (w : ℕ) (l : Local) → ((t : ℕ) → t ≢ l.current → (m.status_pending t).asked w ≡ None) → AreApart e → OnOwn e m w l → Prepared e m w l.current FenceDescriptor → Sound e m
    → Good e m w l (prepare_act m w l FenceDescriptor)
good-fence_descriptor e m w l only a o f g =
    let s : ℕ = l.current in
    let n : Memory = with_published m w s in
    let p : n.published s ≡ true = put-at m.published s true in
    let c : Change e m (fenced m w) s = change-fence e m w s only a g in
    good-prepared e m n w l (Help (InstallTag 0)) o
    (sound-published e m w s o.taken f g) (keeps-published e m w s c.keeps) (λ t ne. descriptor-published m w s t ne (c.descriptors t))
    (effect-published e m w s c.effect) (no_miss e m n refl) o.unanswered
    (p, own-published n s l.operation o.operation p, o.spell, (g.begun s o.taken, λ u j below. absurd (omega arith)))

pub good-prepare : (e : ℕ → Entries) (m : Memory) (w : ℕ) (l : Local) (step : PrepareStep) → ((t : ℕ) → t ≢ l.current → (m.status_pending t).asked w ≡ None) → AreApart e → (e l.current).count ≤ 4 → OnOwn e m w l → Prepared e m w l.current step → Sound e m
    → Good e m w l (prepare_act m w l step)
good-prepare e m w l (WriteWord k) only a few o f g = good-write e m w l k o f g
good-prepare e m w l WriteStatus only a few o f g = good-write_status e m w l o f g
good-prepare e m w l AskHead only a few o f g = good-ask_head e m w l o f g
good-prepare e m w l AskTail only a few o f g = good-ask_tail e m w l few o f g
good-prepare e m w l FenceDescriptor only a few o f g = good-fence_descriptor e m w l only a o f g
