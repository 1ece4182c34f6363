-- An act or an eviction that gave a swap its effect strikes.
use Rattle.std.proofs.Common.{◌≡◌, ◌≢◌, ◌⊎◌, inl, inr, ℕ, List, ◌∷◌, length, get_or, refl, sym, ap, subst, ◌∙◌, arith, Option, Some, None}
use Rattle.std.proofs.lemmas.Bool.{cases_eq}
use Rattle.bz_swap_acts.specs.declared.acted.Act.{Act}
use Rattle.bz_swap_cells.specs.FromPm.Acts.{evicted}
use Rattle.bz_swap_cells.specs.FromPm.Words.{Words}
use Rattle.bz_swap_machine.specs.declared.done.Done.{Done}
use Rattle.bz_swap_machine.specs.declared.done.Done.TheVariants.{Busy}
use Rattle.bz_mark.specs.WordsAfter.{state_after_marks, words_after_marks}
use Rattle.bz_mark.specs.declared.marks.Mark.TheVariants.{Evict}
use Rattle.bz_mark.specs.declared.power.Power.TheVariants as power
use Rattle.bz_rivals.proofs.Proved.{notes_are_of_begun}
use Rattle.bz_swap_marks.proofs.Pasts.{evict-past}
use Rattle.bz_swap.specs.Effects.{TakesEffect}
use Rattle.bz_swap.specs.Evictions.{IsEviction, EvictsIn}
use Rattle.bz_swap.specs.Effects.{EffectIs}
use Rattle.bz_swap.specs.declared.phase.Phase.{Phase}
use Rattle.bz_swap.specs.declared.phase.Phase.TheVariants.{Opened, Running, Recovering}
use Rattle.bz_swap.specs.Held.{IsHeld}
use Rattle.bz_swap.specs.Steps.{doing_after}
use Rattle.bz_swap.specs.SwapMemory.{SwapMemory, Working, memory_words, entries_of, doing_of}
use Rattle.bz_swap.proofs.Proved.{owned_stay, effects_stay_inside}
use Rattle.bz_ring.specs.Calls.{open_call}
use Rattle.bz_ring.specs.Follows.{MakesDurable, power_after}
use Rattle.bz_ring.specs.Journal.{memory_of}
use Rattle.bz_change.specs.Values.{IsSwapOf}
use Rattle.bz_change.proofs.Proved.{effects_change}
use Rattle.bz_swap_marks.specs.Marks.{mark_of}
use Rattle.bz_queue.specs.Inside.Acted.{IsActed, IsEvicted, IsStriking}
use Rattle.bz_queue.specs.Inside.Kept.{IsAwake}
use Rattle.bz_queue.specs.declared.parts.Parts.{Parts}
use Rattle.bz_queue.proofs.Acting.{is-serving}
use Rattle.bz_queue.proofs.Acted.{holds-held}
use Rattle.bz_queue.proofs.Marks.{act-marked, act-kept, act-found, act-follows, act-plain}
use Rattle.bz_queue.proofs.Shown.{shown-step, shown-eviction}
use Rattle.bz_queue.proofs.Struck.{HasSwap, has-swap}
use Rattle.bz_queue.proofs.Sweepable.{sweepable-eviction, sweepable-step}

-- the swap of the call
swap-is : (old : Parts) (s : ℕ) (new : SwapMemory) (k : IsAwake old) (t : TakesEffect old.access new s) → HasSwap old.numbers.ring old.access old.journal.past old.owners.items old.numbers.workers t.worker s (get_or old.workers.items t.worker None)
swap-is old s new k t = has-swap old.numbers.ring old.access old.journal.past old.owners.items old.numbers.workers t.worker s (get_or old.workers.items t.worker None) t.pending t.before (k.slots t.worker)

is-swap-of : (old : Parts) (s : ℕ) (new : SwapMemory) (k : IsAwake old) (t : TakesEffect old.access new s) → IsSwapOf old.numbers.ring old.access s (swap-is old s new k t).x.call (swap-is old s new k t).counter (swap-is old s new k t).word
is-swap-of old s new k t = record { swaps = k.tabled.swaps; entries = ap (entries_of old.access) (sym (swap-is old s new k t).same) ∙ (swap-is old s new k t).swapping.entries }

pub busy-then : (done : Done) (s : ℕ) → (done ≡ Busy) ⊎ (Some s ≡ None) → done ≡ Busy
busy-then done s (inl is) = is
busy-then done s (inr is) = absurd (cc)

pub act-strikes : (old new : Parts) (w : ℕ) (made : Act) (done : Done) (s : ℕ) → IsAwake old → open_call w old.journal.past ≢ None → IsActed old w made done (Some s) new → IsStriking new s
act-strikes old new w made done s k open_is a =
    let serving = is-serving old.numbers.ring old.access old.journal.past old.owners.items old.numbers.workers w (get_or old.workers.items w None) open_is (k.slots w) in
    let held : IsHeld new.access = holds-held new.access.phase new.access (λ is. k.memory.calm.phase (sym a.step.one.others.phase ∙ is)) a.held in
    let t : TakesEffect old.access new.access s = a.step.effect in
    let h = swap-is old s new.access k t in
    let busy = busy-then done s a.step.later in
    record {
      before = old;
      kept = k;
      memory = mark_of w made;
      strikes = record {
        words = act-marked w old.access new.access old.journal.start (memory_of old.journal.past) made done k.memory.words k.memory.past a.step.one;
        past = act-kept w old.access new.access old.journal.start (memory_of old.journal.past) made done k.memory.words k.memory.past a.step.one;
        calm = (effects_change.step old.numbers.ring old.access new.access w made done s h.x.call h.counter h.word k.memory.calm held a.step (is-swap-of old s new.access k t)).0;
        owned = owned_stay.step old.access new.access w made done (Some s) a.step k.memory.owned;
        noted = notes_are_of_begun.step old.access new.access w made done (Some s) a.step k.memory.noted;
        shown = shown-step old.access new.access w made done (Some s) old.journal.past serving.served.opened.worker k.memory.calm.held a.step k.memory.shown;
        sweepable = sweepable-step old.access new.access w made done (Some s) k.memory.calm.held a.step k.memory.sweepable;
        takes = t;
        swaps = a.step.one.others.swaps;
        taken = a.step.one.others.taken;
        begun = a.step.one.others.begun;
        doing = λ v. elim (cases_eq v w) [
          | inl own ↦ ap (doing_of new.access) own ∙ (a.step.one.doing ∙ ap (doing_after (doing_of old.access w)) busy) ∙ ap (doing_of old.access) (sym own)
          | inr other ↦ ap (λ (it : Working). it.doing) (a.step.one.others.workers v other)
        ];
        changed = λ called counter word is. (effects_change.step old.numbers.ring old.access new.access w made done s called counter word k.memory.calm held a.step is).1;
        plain = act-plain w made;
        durable = subst (λ (it : Act). MakesDurable (mark_of w it)) (sym (effects_stay_inside.step old.access new.access w made done s k.memory.calm.held.memory a.step).act) tt;
        happens = record {
          may = act-follows old.journal.past w made serving.served.opened.worker (record { opened = _; is_open = serving.served.opened.is_open });
          found = act-found w old.access new.access old.journal.start (memory_of old.journal.past) made k.memory.words a.step.one.act.found a.step.one.within;
        };
      };
      moves = record { size = a.step.one.others.size; count = a.step.one.others.count; steps = omega (arith, a.step.one.steps) };
      rest = a.rest;
    }

-- the words after an eviction
pub eviction-marked : (old new : SwapMemory) (a : ℕ) (told : Option ℕ) (start : List ℕ) (p : Parts) → memory_words old ≡ words_after_marks start (memory_of p.journal.past) → IsEviction old a told new
    → memory_words new ≡ words_after_marks start (Evict a ∷ memory_of p.journal.past)
eviction-marked old new a told start p same e = ap memory_words e.is ∙ ap (λ (z : Words). evicted z a) same

eviction-effect : (phase : Phase) (old new : SwapMemory) (told : Option ℕ) → phase ≢ Recovering → EvictsIn phase old told new → EffectIs old new told
eviction-effect Opened old new told calm h = h
eviction-effect Running old new told calm h = h
eviction-effect Recovering old new told calm h = absurd (calm refl)

pub evicts-effect : (old new : SwapMemory) (a : ℕ) (told : Option ℕ) → old.phase ≢ Recovering → IsEviction old a told new → EffectIs old new told
evicts-effect old new a told calm e = eviction-effect old.phase old new told calm e.effect

pub not-off : (p : Parts) → IsAwake p → power_after p.journal.past ≢ power.Off
not-off p k is = let both : power.On ≡ power.Off = sym (k.tabled.powered ∙ k.on) ∙ is in cc

pub eviction-strikes : (old new : Parts) (a s : ℕ) → IsAwake old → IsEvicted old a (Some s) new → IsStriking new s
eviction-strikes old new a s k e =
    let held : IsHeld new.access = holds-held new.access.phase new.access (λ is. k.memory.calm.phase (sym (ap (λ (m : SwapMemory). m.phase) e.eviction.is) ∙ is)) e.held in
    let t : TakesEffect old.access new.access s = evicts-effect old.access new.access a (Some s) k.memory.calm.phase e.eviction in
    let h = swap-is old s new.access k t in
    record {
      before = old;
      kept = k;
      memory = Evict a;
      strikes = record {
        words = eviction-marked old.access new.access a (Some s) old.journal.start old k.memory.words e.eviction;
        past = evict-past old.access new.access (state_after_marks old.journal.start (memory_of old.journal.past)) a (Some s) e.eviction k.memory.past;
        calm = (effects_change.eviction old.numbers.ring old.access new.access a s h.x.call h.counter h.word k.memory.calm held e.eviction (is-swap-of old s new.access k t)).0;
        owned = owned_stay.eviction old.access new.access a (Some s) e.eviction k.memory.owned;
        noted = notes_are_of_begun.eviction old.access new.access a (Some s) e.eviction k.memory.noted;
        shown = shown-eviction old.access new.access a (Some s) old.journal.past e.eviction k.memory.shown;
        sweepable = sweepable-eviction old.access new.access a (Some s) e.eviction k.memory.sweepable;
        takes = t;
        swaps = ap (λ (m : SwapMemory). m.swaps) e.eviction.is;
        taken = ap (λ (m : SwapMemory). m.taken) e.eviction.is;
        begun = ap (λ (m : SwapMemory). m.begun) e.eviction.is;
        doing = λ v. ap (λ (m : SwapMemory). doing_of m v) e.eviction.is;
        changed = λ called counter word is. (effects_change.eviction old.numbers.ring old.access new.access a s called counter word k.memory.calm held e.eviction is).1;
        plain = tt;
        durable = tt;
        happens = record { may = not-off old k; found = tt };
      };
      moves = record {
        size = ap (λ (m : SwapMemory). length m.cached) e.eviction.is;
        count = ap (λ (m : SwapMemory). length m.workers) e.eviction.is;
        steps = omega (arith, ap (λ (m : SwapMemory). m.steps) e.eviction.is);
      };
      rest = e.rest;
    }
