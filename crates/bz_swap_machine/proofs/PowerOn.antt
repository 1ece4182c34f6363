-- The laws of the machine, from power on.
use Rattle.std.proofs.Common.{◌≡◌, ◌≢◌, ℕ, true, arith, refl}
use Rattle.std.proofs.lemmas.Grind.{common_steps}
use Rattle.bz_swap_machine.specs.declared.status.SwapStatus.{SwapStatus}
use Rattle.bz_swap_machine.specs.declared.status.SwapStatus.TheVariants.{Free}
use Rattle.bz_swap_machine.specs.declared.status.Verdict.TheVariants.{Succeeded, Failed}
use Rattle.bz_word.specs.declared.kind.WordKind.{WordKind}
use Rattle.bz_swap_machine.specs.Machine.{Entries, Memory, is_verdict}
use Rattle.bz_swap_machine.specs.Pending.{IsPast, Lasts}
use Rattle.bz_swap_machine.specs.Sound.{Follows, Sound}
use Rattle.std.proofs.Common.{List}
use Rattle.bz_swap_machine.specs.State.{Event, IsState, AllMayHappen, after_all, IsRenewable, power_on}
use Rattle.bz_swap_machine.specs.Promise.{Atomic}
use Rattle.bz_swap_machine.specs.Changes.{after_cut, no_entries, renewed}
use Rattle.bz_swap_machine.specs.Promise.{since, EffectsLast, FailuresLast, PlainIsHeld, CutsKeep}
use Rattle.bz_swap_machine.specs.Recovery.{IsReadable, IsRecoverable}
use Rattle.bz_swap_machine.proofs.Events.{state-after_all}
use Rattle.bz_swap_machine.proofs.Lasting.{lasts-durable, lasts-alone, past-alone}
use Rattle.bz_swap_machine.proofs.Published.{one_verdict}
use Rattle.bz_swap_machine.proofs.Runs.{atomic-happens, verdict-after_all}

-- nothing but the durable values may last
words-last : (m : Memory) → IsRenewable m → (a : ℕ) (x : WordKind) → Lasts (m.durable a) (m.pending a) x → x ≡ m.durable a
words-last m r a x = lasts-alone m.now (m.durable a) x (m.pending a) (r.words a)

statuses-last : (m : Memory) → IsRenewable m → (s : ℕ) (x : SwapStatus) → Lasts (m.durable_status s) (m.status_pending s) x → x ≡ m.durable_status s
statuses-last m r s x = lasts-alone m.now (m.durable_status s) x (m.status_pending s) (r.statuses s)

fields-last : (m : Memory) → IsRenewable m → (s k x : ℕ) → Lasts (m.durable_words s k) (m.words_pending s k) x → x ≡ m.durable_words s k
fields-last m r s k x = lasts-alone m.now (m.durable_words s k) x (m.words_pending s k) (r.fields s k)

words-past : (m : Memory) → IsRenewable m → (a : ℕ) → IsPast m.now (m.pending a)
words-past m r a = past-alone m.now (m.pending a) (r.words a)

statuses-past : (m : Memory) → IsRenewable m → (s : ℕ) → IsPast m.now (m.status_pending s)
statuses-past m r s = past-alone m.now (m.status_pending s) (r.statuses s)

fields-past : (m : Memory) → IsRenewable m → (s k : ℕ) → IsPast m.now (m.words_pending s k)
fields-past m r s k = past-alone m.now (m.words_pending s k) (r.fields s k)

-- plain words, the same in cache and in durable memory, and free descriptors are a sound start
sound-renewed : (m : Memory) → IsRenewable m → Sound no_entries (renewed m)
sound-renewed m r = grind (arith, common_steps, words-last m r, statuses-last m r, fields-last m r, words-past m r, statuses-past m r, fields-past m r, r)

pub state-power_on : (m : Memory) → IsRenewable m → IsState (power_on m)
state-power_on m r = record {
  apart = λ s i lt. absurd (omega arith);
  short = λ s. omega arith;
  sound = sound-renewed m r;
  knows = λ w. record { place = tt; owns = tt; back = tt };
  home = λ w t away. (r.statuses t).none w;
}

state-since : (m : Memory) (before : List Event) → IsRenewable m → AllMayHappen (power_on m) before → IsState (since m before)
state-since m before r may = state-after_all (power_on m) before may (state-power_on m r)

pub atomic : Atomic
atomic m r before may v may_next = atomic-happens (since m before) v may_next (state-since m before r may)

pub effects_last : EffectsLast
effects_last m r before later may may_later s h = verdict-after_all (since m before) later s Succeeded may_later (state-since m before r may) h

pub failures_last : FailuresLast
failures_last m r before later may may_later s h =
    let i : IsState (since m before) = state-since m before r may in
    let failed : is_verdict ((after_all (since m before) later).memory.durable_status s) Failed ≡ true = verdict-after_all (since m before) later s Failed may_later i (i.sound.answered s Failed h) in
    grind (arith, failed, one_verdict ((after_all (since m before) later).memory.durable_status s))

pub plain_is_held : PlainIsHeld
plain_is_held m r before may a v nm h =
    let g : Sound (since m before).entries (since m before).memory = (state-since m before r may).sound in
    grind (arith, common_steps, h, g.same a ((since m before).memory.durable a) (lasts-durable _ _) nm)

follows-taken : (c k : SwapStatus) → Follows c k → k ≢ Free
follows-taken c k f = λ h. grind arith

-- what a cut leaves of a published swap
readable-cut : (e : ℕ → Entries) (m : Memory) (s : ℕ) → m.published s ≡ true → Sound e m → IsReadable e (after_cut m) s
readable-cut e m s p g = record { words = λ k le. g.durable_words s k (m.durable_words s k) (lasts-durable _ _) p le; status = follows-taken (m.status s) (m.durable_status s) (g.follows s (m.durable_status s) (lasts-durable _ _) p) }

pub recoverable-cut : (e : ℕ → Entries) (m : Memory) → Sound e m → IsRecoverable e m (after_cut m)
recoverable-cut e m g = record {
  content = λ a. refl;
  swaps = λ s. refl;
  pointer = λ a s h. (g.pointer_durable a s (m.durable a) (lasts-durable _ _) h, readable-cut e m s (g.pointer_durable a s (m.durable a) (lasts-durable _ _) h).standing g);
  tag = λ a s i w q h. (g.tag_durable a s i w q (m.durable a) (lasts-durable _ _) h, readable-cut e m s (g.tag_durable a s i w q (m.durable a) (lasts-durable _ _) h).standing g);
}

pub cuts_keep : CutsKeep
cuts_keep m r before may = recoverable-cut (since m before).entries (since m before).memory (state-since m before r may).sound
