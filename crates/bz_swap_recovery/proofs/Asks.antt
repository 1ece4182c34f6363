-- What is asked for in a recovery time: nothing, but for the line that worker 0 flushes.
use Rattle.std.proofs.Common.{◌≡◌, ◌≢◌, ℕ, ◌/◌, ◌%◌, ◌<◌, ◌==◌, if◌then◌else◌, Bool, true, false, List, [], ◌∷◌, length, get_or, slice_index, Option, Some, None, arith, refl, sym, ap, subst, ◌∙◌, inl, inr}
use Rattle.std.proofs.lemmas.Bool.{cases_eq, true≢false}
use Rattle.std.proofs.lemmas.Grind.{common_steps}
use Rattle.std.proofs.lemmas.List.{get_or-set_same}
use Rattle.bz_layout.specs.Addresses.{line_of}
use Rattle.bz_pm.specs.After.{ask_now, with_ask, after_fence}
use Rattle.bz_pm.specs.Changes.{FencesOnly}
use Rattle.bz_pm.specs.State.{State, ask_for, asks_of}
use Rattle.bz_pm.specs.declared.asks.Ask.{Ask}
use Rattle.bz_pm.proofs.Proved.{fence}
use Rattle.bz_sweep.specs.Memory.{Flushes}
use Rattle.bz_swap_machine.specs.Pending.{fenced_value}
use Rattle.bz_swap_cells.proofs.Pasts.{settled-fence}
use Rattle.bz_swap_acts.specs.Rule.{is_fence_act}
use Rattle.bz_swap_acts.specs.declared.acted.Act.{Act}
use Rattle.bz_swap_acts.specs.declared.acted.Act.TheVariants as act
use Rattle.bz_swap_cells.specs.Store.{saved_word, word_pending}
use Rattle.bz_swap_machine.specs.declared.done.Done.{Done}
use Rattle.bz_swap.specs.Evictions.{IsEviction}
use Rattle.bz_swap.specs.Starts.{started}
use Rattle.bz_swap.specs.Steps.{IsOneAct}
use Rattle.bz_swap.specs.SwapMemory.{SwapMemory, Doing, Idle, Flushing, Working, idle, memory_state, worker_of, doing_of}
use Rattle.bz_swap.proofs.Proved.{settled_words_stay}
use Rattle.bz_swap.proofs.SettledWords.{settled-same}
use Rattle.bz_swap_marks.specs.Past.{IsClean}
use Rattle.bz_swap_marks.proofs.Pasts.{IsPlainAct, act-clean, ask-clean, fence-clean, evict-asks}
use Rattle.bz_swap_recovery.specs.Recovering.{HasAsked, IsResting, AsksRightly, words_in}

-- where nobody waits for a fence and worker 0 does nothing
pub clean-rightly : (m : SwapMemory) → IsClean m.past → doing_of m 0 ≡ Idle → AsksRightly m
clean-rightly m clean rests = record {
  others = λ v ne. clean v;
  own = λ resting. clean 0;
  flushes = λ line doing fence. absurd (let bad : Idle ≡ Flushing line = sym rests ∙ doing in cc);
}

-- nobody waits for a fence where worker 0 does not
pub rightly-clean : (m : SwapMemory) → AsksRightly m → IsResting m → IsClean m.past
rightly-clean m asks resting v = elim (cases_eq v 0) [
  | inl is ↦ rw is (asks.own resting)
  | inr ne ↦ asks.others v ne
]

-- it starts something
pub start-rightly : (m : SwapMemory) (d : Doing) → 0 < length m.workers → doing_of m 0 ≡ Idle → AsksRightly m → AsksRightly (started m 0 d)
start-rightly m d some rests asks = record {
  others = asks.others;
  own = λ resting. asks.own (inr rests);
  flushes = λ line doing fence. absurd (true≢false (sym fence ∙ ap (λ (u : Working). u.flush_next) (get_or-set_same m.workers 0 (record { doing = d; flush_next = false }) idle some)));
}

-- before an act that is no fence nobody waits for one
pub unfenced-clean : (old new : SwapMemory) (made : Act) (done : Done) → IsOneAct old 0 made done new → is_fence_act made ≡ false → AsksRightly old → IsClean old.past
unfenced-clean old new made done one plain asks = rightly-clean old asks (inl (sym one.flush ∙ plain))

-- a load and a store, and the fence of a flush
pub plain-rightly : (old new : SwapMemory) (made : Act) (done : Done) → IsOneAct old 0 made done new → IsPlainAct made → is_fence_act made ≡ false → doing_of new 0 ≡ Idle → AsksRightly old → AsksRightly new
plain-rightly old new made done one plain no-fence rests asks = clean-rightly new (act-clean old new 0 made done one plain (unfenced-clean old new made done one no-fence asks)) rests

pub fence-rightly : (old new : SwapMemory) (done : Done) → IsOneAct old 0 act.Fence done new → doing_of new 0 ≡ Idle → AsksRightly old → AsksRightly new
fence-rightly old new done one rests asks = clean-rightly new (fence-clean old new 0 done one asks.others) rests

-- the one ask that it has made
one-ask : (old new : SwapMemory) (line : ℕ) (done : Done) → IsOneAct old 0 (act.Ask line) done new → IsClean old.past → get_or new.past.asks 0 [] ≡ ask_now (memory_state old) line ∷ []
one-ask old new line done one clean =
    ap (λ (s : State). asks_of s 0) one.act.after ∙ (get_or-set_same old.past.asks 0 _ [] one.may.worker ∙ ap (λ (qs : List Ask). with_ask qs (ask_now (memory_state old) line)) (clean 0))

away : (t : Bool) (q : Ask) (place : ℕ) → t ≡ false → saved_word (if t then Some q else None) place ≡ None
away true q place off = absurd (true≢false off)
away false q place off = refl

-- it asks for the line of a flush
pub ask-rightly : (old new : SwapMemory) (line : ℕ) (done : Done) → IsOneAct old 0 (act.Ask line) done new → doing_of new 0 ≡ Flushing line → AsksRightly old → AsksRightly new
ask-rightly old new line done one doing asks = record {
  others = ask-clean old new 0 line done one clean;
  own = λ resting. absurd (elim resting [
    | inl quiet ↦ true≢false (sym (one.fences line doing) ∙ quiet)
    | inr rests ↦ (let bad : Idle ≡ Flushing line = sym rests ∙ doing in cc)
  ]);
  flushes = λ k is fence. (let same : line ≡ k = cc (doing, is) in subst (HasAsked new) same asked);
}
  where
    clean : IsClean old.past
    clean = unfenced-clean old new (act.Ask line) done one refl asks

    asked : HasAsked new line
    asked = record {
      awaited = λ a on. settled_words_stay.asked old new 0 line done a one on;
      alone = λ a off. (
          let test : (line == a / 8) ≡ false = grind (arith, common_steps, off) in
          ap (λ (qs : List Ask). saved_word (ask_for qs (a / 8)) (a % 8)) (one-ask old new line done one clean) ∙ away (line == a / 8) (ask_now (memory_state old) line) (a % 8) test);
    }

-- an eviction
pub evict-rightly : (old new : SwapMemory) (a : ℕ) (told : Option ℕ) → IsEviction old a told new → AsksRightly old → AsksRightly new
evict-rightly old new a told h asks =
    let stays : worker_of new 0 ≡ worker_of old 0 = ap (λ (m : SwapMemory). worker_of m 0) h.is in
    record {
      others = λ v ne. evict-asks old new a told h v ∙ asks.others v ne;
      own = λ resting. evict-asks old new a told h 0 ∙ asks.own (elim resting [
        | inl quiet ↦ inl (ap (λ (u : Working). u.flush_next) (sym stays) ∙ quiet)
        | inr rests ↦ inr (ap (λ (u : Working). u.doing) (sym stays) ∙ rests)
      ]);
      flushes = λ line doing fence. (
          let was : HasAsked old line = asks.flushes line (ap (λ (u : Working). u.doing) (sym stays) ∙ doing) (ap (λ (u : Working). u.flush_next) (sym stays) ∙ fence) in
          record {
            awaited = λ b on. settled_words_stay.evicted old new a told 0 b h (was.awaited b on);
            alone = λ b off. ap (λ (m : SwapMemory). (word_pending m.past b).asked 0) h.is ∙ was.alone b off;
          });
    }

-- the fence makes the line durable, and nothing else
pub fence-flushes : (old new : SwapMemory) (line : ℕ) (done : Done) → IsOneAct old 0 act.Fence done new → HasAsked old line → Flushes (words_in old) (words_in new) line
fence-flushes old new line done one asked =
    let f : FencesOnly (memory_state old) (after_fence (memory_state old) 0) 0 = fence (memory_state old) 0 one.may.state one.may.worker in
    let cached = λ (b : ℕ). ap (λ (s : State). slice_index s.words.cached b) one.act.after in
    record {
      cached = cached;
      durable = λ b. elim (cases_eq (line_of b) line) [
        | inl on ↦ (
            let test : (line_of b == line) ≡ true = grind (arith, common_steps, on) in
            rw test (sym (settled-same new b (settled_words_stay.fenced old new 0 done b one (asked.awaited b on))) ∙ cached b))
        | inr off ↦ (
            let test : (line_of b == line) ≡ false = grind (arith, common_steps, off) in
            rw test (ap (λ (s : State). slice_index s.words.durable b) one.act.after
            ∙ (settled-fence (memory_state old) (after_fence (memory_state old) 0) 0 f b ∙ ap (fenced_value (slice_index old.durable b) (slice_index old.past.since b)) (asked.alone b off))))
      ];
    }
