-- Worker 0 does no swap, and only swaps that were begun are noted as missed.
use Rattle.std.specs.Prelude.{◌≡◌, ℕ, ◌+◌, ◌<◌, ◌≤◌, false, List, [], length, get_or, Option}
use Rattle.std.proofs.Common.{arith, refl, ap, sym, ◌∙◌, inl, inr}
use Rattle.std.proofs.lemmas.Bool.{cases_Bool}
use Rattle.std.proofs.lemmas.List.{get_or-set_other, get_or_past, length_push}
use Rattle.std.proofs.lemmas.List.Elements.{All-nil, All-same}
use Rattle.bz_word.specs.declared.entry.Entry.{Entry}
use Rattle.bz_swap_acts.specs.declared.acted.Act.{Act}
use Rattle.bz_swap_machine.specs.declared.done.Done.{Done}
use Rattle.bz_swap.specs.Evictions.{IsEviction}
use Rattle.bz_swap.specs.Power.{after_cut, opened, renewed}
use Rattle.bz_swap.specs.Starts.{swapping}
use Rattle.bz_swap.specs.Steps.{IsStep, IsRawStep}
use Rattle.bz_swap.specs.SwapMemory.{SwapMemory, Idle, Swapping, Working, idle, value_at, is_missed, entries_of, doing_of}
use Rattle.bz_swap.proofs.Fresh.{all-same}
use Rattle.bz_swap.proofs.StillDone.{step-before, start-before, none-doing}
use Rattle.bz_rivals.specs.Notes.{SwapsNothing, ZeroSwapsNothing, AreNoted, NotesAreOfBegun}

begun-elsewhere : (m : SwapMemory) (w : ℕ) (entries : List Entry) → 0 < w → SwapsNothing m 0 → SwapsNothing (swapping m w entries) 0
begun-elsewhere m w entries some none s doing =
    none s (ap (λ (u : Working). u.doing) (sym (get_or-set_other m.workers w 0 (record { doing = Swapping m.taken; flush_next = false }) idle (λ is. absurd (omega (arith, some, is))))) ∙ doing)

idle-swaps-nothing : (m : SwapMemory) (w : ℕ) → doing_of m w ≡ Idle → SwapsNothing m w
idle-swaps-nothing m w is s doing = (let none : Idle ≡ Swapping s = sym is ∙ doing in absurd cc)

pub zero-swaps-nothing : ZeroSwapsNothing
zero-swaps-nothing = record {
  opening = λ phase start swaps workers. none-doing (workers + 1) (opened phase start swaps workers) 0;
  act = λ old new w made done one none s doing. none s (step-before old new w made done 0 s one doing);
  eviction = λ old new a told h none s doing. none s (ap (λ (m : SwapMemory). doing_of m 0) (sym h.is) ∙ doing);
  start = λ m w doing another none s is. none s (start-before m w (record { doing = doing; flush_next = false }) 0 s (another s) is);
  swap = begun-elsewhere;
  cut = λ m. none-doing (length m.workers) (after_cut m) 0;
  renewal = λ m may. idle-swaps-nothing (renewed m) 0 (may.idle 0);
}

-- a swap that was not begun has no entries, so that none of them misses
no-entries : (m : SwapMemory) (s : ℕ) → AreNoted m → m.taken ≤ s → entries_of m s ≡ []
no-entries m s noted past = get_or_past m.begun s [] (omega (arith, noted.begun, past))

unnoted-step : (old new : SwapMemory) (w : ℕ) (made : Act) (done : Done) (told : Option ℕ) (s : ℕ) → IsStep old w made done told new → AreNoted old → old.taken ≤ s → is_missed new s ≡ false
unnoted-step old new w made done told s step noted past = elim (cases_Bool (is_missed new s)) [
  | inl missed ↦ absurd ((step.misses.lawful s (noted.missed s past) missed).1
      (All-same (λ (e : Entry). value_at old e.target ≡ e.expected) (entries_of old s) [] (no-entries old s noted past) (All-nil (λ (e : Entry). value_at old e.target ≡ e.expected))))
  | inr not ↦ not
]

noted-step : (old new : SwapMemory) (w : ℕ) (made : Act) (done : Done) (told : Option ℕ) → IsStep old w made done told new → AreNoted old → AreNoted new
noted-step old new w made done told step noted = record {
  begun = ap (λ (l : List (List Entry)). length l) step.one.others.begun ∙ noted.begun ∙ sym step.one.others.taken;
  missed = λ s past. unnoted-step old new w made done told s step noted (omega (arith, past, step.one.others.taken));
}

noted-recovery : (old new : SwapMemory) (w : ℕ) (made : Act) (done : Done) (told : Option ℕ) → IsRawStep old w made done told new → AreNoted old → AreNoted new
noted-recovery old new w made done told step noted = record {
  begun = ap (λ (l : List (List Entry)). length l) step.one.others.begun ∙ noted.begun ∙ sym step.one.others.taken;
  missed = λ s past. ap (λ l. get_or l s false) step.missed ∙ noted.missed s (omega (arith, past, step.one.others.taken));
}

noted-eviction : (old new : SwapMemory) (a : ℕ) (told : Option ℕ) → IsEviction old a told new → AreNoted old → AreNoted new
noted-eviction old new a told h noted = record {
  begun = ap (λ (m : SwapMemory). length m.begun) h.is ∙ noted.begun ∙ ap (λ (m : SwapMemory). m.taken) (sym h.is);
  missed = λ s past. ap (λ (m : SwapMemory). is_missed m s) h.is ∙ noted.missed s (omega (arith, past, ap (λ (m : SwapMemory). m.taken) h.is));
}

noted-swap : (m : SwapMemory) (w : ℕ) (entries : List Entry) → AreNoted m → AreNoted (swapping m w entries)
noted-swap m w entries noted = record {
  begun = omega (arith, length_push m.begun entries, noted.begun);
  missed = λ s past. noted.missed s (omega (arith, past));
}

pub notes-are-of-begun : NotesAreOfBegun
notes-are-of-begun = record {
  opening = λ phase start swaps workers. record { begun = refl; missed = λ s past. all-same swaps s false };
  renewal = λ m. record { begun = refl; missed = λ s past. all-same (length m.missed) s false };
  step = noted-step;
  recovery = noted-recovery;
  eviction = noted-eviction;
  start = λ m w doing noted. record { begun = noted.begun; missed = noted.missed };
  swap = noted-swap;
}
