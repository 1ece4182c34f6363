-- After a mark the swap memory and the journal keep the same of the past still.
use Rattle.std.specs.Prelude.{◌≡◌, ◌==◌, if◌then◌else◌, ℕ, suc, ◌+◌, ◌/◌, ◌<◌, ◌≤◌, Bool, true, false, List, [], ◌∷◌, length, get_or, replicate, slice_index, slice_set}
use Rattle.std.specs.declared.option.Option.{Option}
use Rattle.std.proofs.Common.{arith, refl, ap, sym, subst, ◌∙◌, inl, inr}
use Rattle.std.proofs.lemmas.Bool.{cases_eq}
use Rattle.std.proofs.lemmas.List.{get_or-set_same, get_or-set_other, length-set, length-replicate}
use Rattle.bz_swap_acts.specs.Rule.{FoundRightly, after_act}
use Rattle.bz_swap_acts.specs.declared.acted.Act.{Act}
use Rattle.bz_swap_acts.specs.declared.acted.Act.TheVariants as act
use Rattle.bz_layout.specs.declared.limits.TheConstants.{MAX_WORKERS}
use Rattle.bz_mark.specs.WordsAfter.{state_after}
use Rattle.bz_mark.specs.declared.marks.Mark.TheVariants.{Evict, Cut}
use Rattle.bz_pm.specs.Acts.{stored}
use Rattle.bz_pm.specs.After.{next_moment, line_words, with_ask, settled, opened as memory_opened}
use Rattle.bz_pm.specs.State.{State, asks_of}
use Rattle.bz_pm.specs.Words.{Words}
use Rattle.bz_pm.specs.declared.asks.Ask.{Ask}
use Rattle.bz_swap.specs.Evictions.{IsEviction}
use Rattle.bz_swap.specs.Power.{IsOpened, opened, after_cut as swap_cut, renewed}
use Rattle.bz_swap.specs.Steps.{IsOneAct}
use Rattle.bz_swap.specs.declared.phase.Phase.{Phase}
use Rattle.bz_swap.specs.SwapMemory.{SwapMemory, memory_words, memory_state}
use Rattle.bz_swap.proofs.Fresh.{all-same}
use Rattle.bz_swap.proofs.WordActs.{set-keeps}
use Rattle.bz_swap_machine.specs.declared.done.Done.{Done}
use Rattle.bz_swap_marks.specs.Past.{SamePast, IsClean, IsCleanBut}
use Rattle.bz_swap_marks.specs.Marks.{mark_of}

-- two memories that differ at most in for how many workers they are
record Alike (o s : State) : Type 0 where
  words : o.words ≡ s.words
  count : o.count ≡ s.count
  since : o.since ≡ s.since
  asks : (w : ℕ) → asks_of o w ≡ asks_of s w
  workers : length o.asks ≤ length s.asks

alike-of : (m : SwapMemory) (s : State) → memory_words m ≡ s.words → SamePast m s → Alike (memory_state m) s
alike-of m s words h = record { words = words; count = h.count; since = h.since; asks = h.asks; workers = h.workers }

past-of : (m : SwapMemory) (s : State) → Alike (memory_state m) s → SamePast m s
past-of m s h = record { count = h.count; since = h.since; asks = h.asks; workers = h.workers }

-- a worker's asks are changed in both
set-asks : (o s : List (List Ask)) (w : ℕ) (qs rs : List Ask) → ((v : ℕ) → get_or o v [] ≡ get_or s v []) → w < length o → length o ≤ length s → qs ≡ rs
    → (v : ℕ) → get_or (slice_set o w qs) v [] ≡ get_or (slice_set s w rs) v []
set-asks o s w qs rs all within long same v = elim (cases_eq v w) [
  | inl e ↦ rw (e, get_or-set_same o w qs [] within, get_or-set_same s w rs [] (omega (arith, within, long))) same
  | inr ne ↦ rw (get_or-set_other o w v qs [] ne, get_or-set_other s w v rs [] ne) (all v)
]

set-long : (o s : List (List Ask)) (w : ℕ) (qs rs : List Ask) → length o ≤ length s → length (slice_set o w qs) ≤ length (slice_set s w rs)
set-long o s w qs rs long = omega (arith, long, length-set o w qs, length-set s w rs)

swapped : ℕ → ℕ → ℕ → ℕ → Words → Words
swapped found old new a ws = record { cached = if found == old then slice_set ws.cached a new else ws.cached; durable = ws.durable }

alike-act : (o s : State) (w : ℕ) (made : Act) → Alike o s → w < length o.asks → FoundRightly o.words made → Alike (after_act w o made) (state_after s (mark_of w made))
unfolding swapped
alike-act o s w (act.Load a v) h within found = h
alike-act o s w (act.Store a v) h within found = record { words = ap (λ ws. stored ws a v) h.words; count = h.count; since = h.since; asks = h.asks; workers = h.workers }
alike-act o s w (act.Cas a old new found_word) h within found = record {
  words = ap (λ (x : ℕ). swapped x old new a o.words) (sym found) ∙ ap (swapped found_word old new a) h.words;
  count = h.count;
  since = h.since;
  asks = h.asks;
  workers = h.workers;
}
alike-act o s w (act.Ask line) h within found = record {
  words = h.words;
  count = ap next_moment h.count;
  since = h.since;
  asks = set-asks o.asks s.asks w _ _ h.asks within h.workers (λ i. with_ask (h.asks w i) (record { line = line; moment = next_moment (h.count i); words = line_words line (h.words i).cached }));
  workers = set-long o.asks s.asks w _ _ h.workers;
}
alike-act o s w act.Fence h within found = record {
  words = λ i. record { cached = (h.words i).cached; durable = (dated i).durable };
  count = h.count;
  since = λ i. (dated i).since;
  asks = set-asks o.asks s.asks w [] [] h.asks within h.workers refl;
  workers = set-long o.asks s.asks w [] [] h.workers;
}
  where
    dated : settled (asks_of o w) (record { durable = o.words.durable; since = o.since }) ≡ settled (asks_of s w) (record { durable = s.words.durable; since = s.since })
    dated = λ i. settled (h.asks w i) (record { durable = (h.words i).durable; since = h.since i })

-- an act
module _ (old new : SwapMemory) (s : State) (w : ℕ) (made : Act) (done : Done) (one : IsOneAct old w made done new) (words : memory_words old ≡ s.words) (past : SamePast old s) where
  act-alike : Alike (memory_state new) (state_after s (mark_of w made))
  act-alike = subst (λ (o : State). Alike o (state_after s (mark_of w made))) (sym one.act.after) (alike-act (memory_state old) s w made (alike-of old s words past) one.may.worker one.act.found)

  pub act-words : memory_words new ≡ (state_after s (mark_of w made)).words
  act-words = act-alike.words

  pub act-past : SamePast new (state_after s (mark_of w made))
  act-past = past-of new (state_after s (mark_of w made)) act-alike

-- an eviction
pub evict-past : (old new : SwapMemory) (s : State) (a : ℕ) (told : Option ℕ) → IsEviction old a told new → SamePast old s → SamePast new (state_after s (Evict a))
evict-past old new s a told e h = subst (λ (m : SwapMemory). SamePast m (state_after s (Evict a))) (sym e.is) (record {
  count = h.count;
  since = λ i. slice_set (h.since i) a (h.count i);
  asks = h.asks;
  workers = h.workers;
})

-- a power cut
pub cut-past : (m : SwapMemory) (s : State) → SamePast m s → SamePast (swap_cut m) (state_after s Cut)
cut-past m s h = record {
  count = refl;
  since = λ i. replicate (length (h.since i)) 0;
  asks = λ w. all-same (length m.past.asks) w [] ∙ sym (all-same (length s.asks) w []);
  workers = omega (arith, h.workers, length-replicate {A = List Ask} (length m.past.asks) [], length-replicate {A = List Ask} (length s.asks) []);
}

-- after it nobody waits for a fence
pub cut-clean : (m : SwapMemory) → IsClean (swap_cut m).past
cut-clean m = λ v. all-same (length m.past.asks) v []

-- loads and stores leave it so
abbrev pub IsPlainAct : Act → Type 0
IsPlainAct (act.Load a v) = Unit {0}
IsPlainAct (act.Store a v) = Unit {0}
IsPlainAct other = ⊥

pub act-clean : (old new : SwapMemory) (w : ℕ) (made : Act) (done : Done) → IsOneAct old w made done new → IsPlainAct made → IsClean old.past → IsClean new.past
act-clean old new w (act.Load a v) done one plain c = λ u. ap (λ (s : State). asks_of s u) one.act.after ∙ c u
act-clean old new w (act.Store a v) done one plain c = λ u. ap (λ (s : State). asks_of s u) one.act.after ∙ c u
act-clean old new w other done one plain c = absurd plain

-- an ask is the worker's own, and is fenced by its fence
pub ask-clean : (old new : SwapMemory) (w line : ℕ) (done : Done) → IsOneAct old w (act.Ask line) done new → IsClean old.past → IsCleanBut w new.past
ask-clean old new w line done one c = λ v ne. ap (λ (s : State). asks_of s v) one.act.after ∙ (get_or-set_other old.past.asks w v _ [] ne ∙ c v)

pub fence-clean : (old new : SwapMemory) (w : ℕ) (done : Done) → IsOneAct old w act.Fence done new → IsCleanBut w old.past → IsClean new.past
fence-clean old new w done one c = λ v. ap (λ (s : State). asks_of s v) one.act.after ∙ elim (cases_eq v w) [
  | inl is ↦ rw is (get_or-set_same old.past.asks w [] [] one.may.worker)
  | inr ne ↦ get_or-set_other old.past.asks w v [] [] ne ∙ c v ne
]

pub evict-asks : (old new : SwapMemory) (a : ℕ) (told : Option ℕ) → IsEviction old a told new → (v : ℕ) → get_or new.past.asks v [] ≡ get_or old.past.asks v []
evict-asks old new a told e v = ap (λ (m : SwapMemory). get_or m.past.asks v []) e.is

-- a renewal changes nothing that the journal says
pub renewed-past : (m : SwapMemory) (s : State) → SamePast m s → SamePast (renewed m) s
renewed-past m s h = record { count = h.count; since = h.since; asks = h.asks; workers = h.workers }

-- a memory as it is opened keeps what a journal without marks says
pub fresh-past : (phase : Phase) (start : List ℕ) (swaps workers : ℕ) → workers ≤ MAX_WORKERS → SamePast (opened phase start swaps workers) (memory_opened start MAX_WORKERS)
fresh-past phase start swaps workers few = record {
  count = refl;
  since = refl;
  asks = λ w. all-same (workers + 1) w [] ∙ sym (all-same (MAX_WORKERS + 1) w []);
  workers = omega (arith, few, length-replicate {A = List Ask} (workers + 1) [], length-replicate {A = List Ask} (MAX_WORKERS + 1) []);
}

pub opened-past : (m : SwapMemory) (start : List ℕ) (swaps workers : ℕ) → IsOpened m start swaps workers → workers ≤ MAX_WORKERS → SamePast m (memory_opened start MAX_WORKERS)
opened-past m start swaps workers o few = subst (λ (n : SwapMemory). SamePast n (memory_opened start MAX_WORKERS)) (sym o.is) (fresh-past o.phase start swaps workers few)

-- and nobody waits for a fence
pub opened-clean : (m : SwapMemory) (start : List ℕ) (swaps workers : ℕ) → IsOpened m start swaps workers → IsClean m.past
opened-clean m start swaps workers o = subst (λ (n : SwapMemory). IsClean n.past) (sym o.is) (λ v. all-same (workers + 1) v [])
