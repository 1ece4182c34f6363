-- Every event that may happen is atomic, and what it decides is for good.
use Rattle.std.proofs.Common.{◌≡◌, ℕ, ◌==◌, true, refl, sym, subst, inl, inr}
use Rattle.bz_swap_machine.specs.declared.status.Verdict.{Verdict}
use Rattle.bz_swap_machine.specs.Machine.{Entries, Memory, is_verdict}
use Rattle.bz_swap_machine.specs.Changes.{put, with_copies, with_durable_status, with_durable_fields}
use Rattle.bz_swap_machine.specs.Steps.{effect_of}
use Rattle.std.proofs.Common.{List, [], ◌∷◌}
use Rattle.bz_swap_machine.specs.Changes.{with_taken}
use Rattle.bz_swap_machine.specs.Content.{has_effect, QuietOrEffect}
use Rattle.bz_swap_machine.specs.State.{State, Event, StartRead, StartStore, StartFlush, StartSwap, Act, Evict, EvictStatus, EvictField, stepped, happens, MayHappen, IsState, AllMayHappen, after_all}
use Rattle.bz_swap_machine.specs.Promise.{EffectIs, IsAtomic}
use Rattle.bz_swap_machine.proofs.Change.{Change, unchanged, no_miss}
use Rattle.bz_swap_machine.proofs.Good.{Good}
use Rattle.bz_swap_machine.proofs.Takes.{content-taken}
use Rattle.bz_swap_machine.proofs.Copies.{change-copies}
use Rattle.bz_swap_machine.proofs.DurableStatuses.{change-durable_status, change-durable_fields}
use Rattle.bz_swap_machine.proofs.Told.{none-told, some-told}
use Rattle.bz_swap_machine.proofs.Events.{good-stepped, state-happens}

-- what is said of an effect is so
pub effect-told : (e : ℕ → Entries) (m n : Memory) (s : ℕ) → QuietOrEffect e m n s → EffectIs e m n (effect_of m n s)
effect-told e m n s q = elim q [
  | inl quiet ↦ subst (EffectIs e m n) (sym (none-told s (has_effect n s) (has_effect m s) (quiet.swaps s))) quiet
  | inr effect ↦ subst (EffectIs e m n) (sym (some-told s (has_effect n s) (has_effect m s) effect.done effect.before)) effect
]

-- an event of which no worker has an answer, and which begins no swap
atomic-change : (x : State) (n : Memory) (s : ℕ) → Change x.entries x.memory n s → EffectIs x.entries x.memory n (effect_of x.memory n s)
atomic-change x n s c = effect-told x.entries x.memory n s c.effect

quiet-told : (e : ℕ → Entries) (m : Memory) → EffectIs e m m (effect_of m m 0)
quiet-told e m = effect-told e m m 0 (unchanged e m m 0 refl refl)

pub atomic-happens : (x : State) (v : Event) → MayHappen x v → IsState x → IsAtomic x v
atomic-happens x (StartRead w a) may i = record { effect = quiet-told x.entries x.memory; entries = λ b nm. refl; misses = no_miss x.entries x.memory x.memory refl; answer = tt; ends = tt }
atomic-happens x (StartStore w a u) may i = record { effect = quiet-told x.entries x.memory; entries = λ b nm. refl; misses = no_miss x.entries x.memory x.memory refl; answer = tt; ends = tt }
atomic-happens x (StartFlush w line) may i = record { effect = quiet-told x.entries x.memory; entries = λ b nm. refl; misses = no_miss x.entries x.memory x.memory refl; answer = tt; ends = tt }
atomic-happens x (StartSwap w new targets) may i =
    let n : Memory = with_taken x.memory w targets in
    let e : ℕ → Entries = put x.entries x.memory.taken new in
    record {
      effect = effect-told e x.memory n 0 (unchanged e x.memory n 0 refl refl);
      entries = λ b nm. content-taken x.entries x.memory new b i.sound;
      misses = no_miss x.entries x.memory n refl;
      answer = tt;
      ends = tt;
    }
atomic-happens x (Act w) may i =
    let good : Good x.entries x.memory w (x.local w) (stepped x w) = good-stepped x w i in
    record { effect = effect-told x.entries x.memory (stepped x w).memory (x.local w).current good.effect; entries = λ b nm. refl; misses = good.misses; answer = good.answer; ends = good.ends }
atomic-happens x (Evict a) may i =
    let c : Change x.entries x.memory (with_copies x.memory (λ b. b == a)) 0 = change-copies x.entries x.memory (λ b. b == a) 0 i.sound in
    record { effect = atomic-change x _ 0 c; entries = λ b nm. refl; misses = c.misses; answer = tt; ends = tt }
atomic-happens x (EvictStatus s) may i =
    let c : Change x.entries x.memory (with_durable_status x.memory s) s = change-durable_status x.entries x.memory s i.apart i.sound in
    record { effect = atomic-change x _ s c; entries = λ b nm. refl; misses = c.misses; answer = tt; ends = tt }
atomic-happens x (EvictField s k) may i =
    let c : Change x.entries x.memory (with_durable_fields x.memory s (λ j. j == k)) 0 = change-durable_fields x.entries x.memory s (λ j. j == k) 0 i.sound in
    record { effect = atomic-change x _ 0 c; entries = λ b nm. refl; misses = c.misses; answer = tt; ends = tt }

-- a durable verdict stays
verdict-happens : (x : State) (v : Event) (s : ℕ) (d : Verdict) → MayHappen x v → IsState x → is_verdict (x.memory.durable_status s) d ≡ true → is_verdict ((happens x v).memory.durable_status s) d ≡ true
verdict-happens x (StartRead w a) s d may i h = h
verdict-happens x (StartStore w a u) s d may i h = h
verdict-happens x (StartFlush w line) s d may i h = h
verdict-happens x (StartSwap w new targets) s d may i h = h
verdict-happens x (Act w) s d may i h = (good-stepped x w i).keeps.durable_verdict s d h
verdict-happens x (Evict a) s d may i h = h
verdict-happens x (EvictStatus t) s d may i h = (change-durable_status x.entries x.memory t i.apart i.sound).keeps.durable_verdict s d h
verdict-happens x (EvictField t k) s d may i h = h

pub verdict-after_all : (x : State) (vs : List Event) (s : ℕ) (d : Verdict) → AllMayHappen x vs → IsState x → is_verdict (x.memory.durable_status s) d ≡ true → is_verdict ((after_all x vs).memory.durable_status s) d ≡ true
verdict-after_all x [] s d may i h = h
verdict-after_all x (v ∷ vs) s d may i h = verdict-after_all (happens x v) vs s d may.1 (state-happens x v may.0 i) (verdict-happens x v s d may.0 i h)
