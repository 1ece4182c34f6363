-- A power cut begins a recovery time, and a sweep begins over what it leaves; the acts that it asks for may be started.
use Rattle.std.proofs.Common.{◌≡◌, ◌≢◌, ℕ, ◌*◌, ◌%◌, ◌^◌, ◌<◌, length, slice_index, Option, Some, arith, refl, sym, ap, subst, ◌∙◌, false}
use Rattle.std.proofs.lemmas.List.{get_or-set_same, get_or-set_other, length-set, length-replicate}
use Rattle.bz_layout.specs.declared.sizes.TheConstants.{LINE_WORDS}
use Rattle.bz_pm.specs.Words.{IsMemory}
use Rattle.bz_swap.proofs.Fresh.{all-same}
use Rattle.bz_swap.proofs.Proved.{plain_fields_stay}
use Rattle.bz_swap.specs.PlainFields.{HavePlainFields}
use Rattle.bz_swap.specs.Power.{after_cut}
use Rattle.bz_swap.specs.Starts.{MayRecover, started}
use Rattle.bz_swap.specs.SwapMemory.{SwapMemory, Doing, Idle, Working, idle, memory_words, doing_of}
use Rattle.bz_swap_marks.proofs.Pasts.{cut-clean}
use Rattle.bz_sweep.proofs.Proved.{acts_are_these, cuts_keep_the_image, sweeps_know}
use Rattle.bz_sweep.specs.Duties.{asks_of, hears_in, tells_in}
use Rattle.bz_sweep.specs.Laws.{IsAskable}
use Rattle.bz_sweep.specs.Words.{IsImage}
use Rattle.bz_sweep.specs.declared.area.Area.{Area}
use Rattle.bz_sweep.specs.declared.ask.Answer.TheVariants as answer
use Rattle.bz_sweep.specs.declared.ask.Ask.{Ask}
use Rattle.bz_sweep.specs.declared.ask.Ask.TheVariants as ask
use Rattle.bz_sweep.specs.declared.sweep.Sweep.{Sweep}
use Rattle.bz_swap_recovery.proofs.Asks.{clean-rightly, start-rightly}
use Rattle.bz_swap_recovery.proofs.Failing.{left-image}
use Rattle.bz_swap_recovery.proofs.Values.{images-hold}
use Rattle.bz_swap_recovery.specs.Laws.{ActsMayStart, CutsLeaveTheValues, SweepsBegin, SweepsGoOn, ValuesStay}
use Rattle.bz_swap_recovery.specs.Recovering.{HasSizes, IsInRecovery, IsOff, IsSweeping, Turn, Asked, Started, doing_for, stage_of, words_in}

-- a memory of these sizes has whole lines
pub whole-lines : (r : Area) (m : SwapMemory) → HasSizes r m → IsMemory (memory_words m)
whole-lines r m h = record {
  same = h.cached ∙ sym h.durable;
  lines = subst (λ n. n % 8 ≡ 0) (sym h.durable) (let lines : r.words % LINE_WORDS ≡ 0 = h.area.lines in omega arith);
  size = subst (λ n. n < 2 ^ 32) (sym h.durable) h.area.size;
}

-- what a sweep knows of the image
pub image-now : (r : Area) (v : ℕ → ℕ) (m : SwapMemory) (turn : Turn) (t : Sweep) → IsSweeping r v m turn t → IsImage r v (slice_index m.durable)
image-now r v m turn t sweeping = subst (λ (d : Area). IsImage d v (slice_index m.durable)) sweeping.area (sweeps_know.image t v (stage_of turn) (words_in m) sweeping.ready sweeping.knows)

-- what it asks for lies in the memory
pub askable-now : (r : Area) (v : ℕ → ℕ) (m : SwapMemory) (t : Sweep) (asked : Ask) → IsSweeping r v m Asked t → asks_of t ≡ Some asked → IsAskable r asked
askable-now r v m t asked sweeping e = subst (λ (d : Area). IsAskable d asked) sweeping.area (sweeps_know.askable t v (words_in m) asked sweeping.ready sweeping.knows e)

pub askable-then : (r : Area) (v : ℕ → ℕ) (m : SwapMemory) (t : Sweep) (asked : Ask) → IsSweeping r v m Started t → asks_of t ≡ Some asked → IsAskable r asked
askable-then r v m t asked sweeping e = subst (λ (d : Area). IsAskable d asked) sweeping.area (sweeps_know.askable t v (words_in m) asked sweeping.ready sweeping.knows e)

rests : (m : SwapMemory) (w : ℕ) → doing_of (after_cut m) w ≡ Idle
rests m w = ap (λ (u : Working). u.doing) (all-same (length m.workers) w idle)

cut : (r : Area) (v : ℕ → ℕ) (m : SwapMemory) → HasSizes r m → HavePlainFields m → IsImage r v (slice_index m.durable) → IsOff r v (after_cut m)
cut r v m sizes fields image = record {
  memory = record {
    sizes = record {
      area = sizes.area;
      swaps = sizes.swaps;
      cached = sizes.durable;
      durable = sizes.durable;
      workers = omega (arith, sizes.workers, length-replicate (length m.workers) idle);
    };
    others = λ w some. rests m w;
    fields = plain_fields_stay.cut m fields;
  };
  phase = λ e. cc;
  idle = rests m 0;
  clean = cut-clean m;
  powered = cuts_keep_the_image r v (words_in m) (words_in (after_cut m)) image (acts_are_these.cut (memory_words m) (whole-lines r m sizes));
}

pub cuts-leave : CutsLeaveTheValues
cuts-leave = record {
  working = λ r m h. cut r _ m h.sizes h.fields (left-image r m h);
  sweeping = λ r v m turn t sweeping. cut r v m sweeping.memory.sizes sweeping.memory.fields (image-now r v m turn t sweeping);
}

pub values-stay : ValuesStay
values-stay = record {
  off = λ r v m a off shared. images-hold r v m a off.memory.sizes.swaps off.powered.image shared;
  sweeping = λ r v m turn t a sweeping shared. images-hold r v m a sweeping.memory.sizes.swaps (image-now r v m turn t sweeping) shared;
}

pub begins : SweepsBegin
begins r v m t off is-new = record {
  sweeping = record {
    memory = off.memory;
    area = is-new.area;
    ready = is-new.ready;
    phase = off.phase;
    doing = off.idle;
    busy = tt;
    asks = clean-rightly m off.clean off.idle;
    knows = is-new.knows v (words_in m) off.powered;
  };
  hears = subst (λ (q : Option Ask). hears_in q answer.Start) (sym is-new.asks) tt;
  tells = subst (λ (q : Option Ask). tells_in q answer.Start (words_in m)) (sym is-new.asks) tt;
}

pub goes-on : SweepsGoOn
goes-on r v m old new told sweeping next tells = record {
  memory = sweeping.memory;
  area = next.area ∙ sweeping.area;
  ready = next.ready;
  phase = sweeping.phase;
  doing = sweeping.doing;
  busy = tt;
  asks = sweeping.asks;
  knows = next.learns v (words_in m) sweeping.knows tells;
}

-- a start by worker 0
start-memory : (r : Area) (m : SwapMemory) (d : Doing) → IsInRecovery r m → IsInRecovery r (started m 0 d)
start-memory r m d h = record {
  sizes = record {
    area = h.sizes.area;
    swaps = h.sizes.swaps;
    cached = h.sizes.cached;
    durable = h.sizes.durable;
    workers = omega (arith, h.sizes.workers, length-set m.workers 0 (record { doing = d; flush_next = false }));
  };
  others = λ w some. ap (λ (u : Working). u.doing) (get_or-set_other m.workers 0 w (record { doing = d; flush_next = false }) idle (omega (arith, some))) ∙ h.others w some;
  fields = plain_fields_stay.start m 0 d h.fields;
}

start : (r : Area) (v : ℕ → ℕ) (m : SwapMemory) (t : Sweep) (asked : Option Ask) → doing_for asked ≢ Idle → IsSweeping r v m Asked t → asks_of t ≡ asked → IsSweeping r v (started m 0 (doing_for asked)) Started t
start r v m t asked busy sweeping e = record {
  memory = start-memory r m (doing_for asked) sweeping.memory;
  area = sweeping.area;
  ready = sweeping.ready;
  phase = refl;
  doing = does ∙ ap doing_for (sym e);
  busy = λ idles. busy (sym does ∙ idles);
  asks = start-rightly m (doing_for asked) sweeping.memory.sizes.workers sweeping.doing sweeping.asks;
  knows = sweeping.knows;
}
  where
    does : doing_of (started m 0 (doing_for asked)) 0 ≡ doing_for asked
    does = ap (λ (u : Working). u.doing) (get_or-set_same m.workers 0 (record { doing = doing_for asked; flush_next = false }) idle sweeping.memory.sizes.workers)

may-recover : (r : Area) (v : ℕ → ℕ) (m : SwapMemory) (t : Sweep) → IsSweeping r v m Asked t → MayRecover m
may-recover r v m t sweeping = record { idle = sweeping.doing; phase = sweeping.phase }

pub may-start : ActsMayStart
may-start = record {
  load = λ r v m t a sweeping e. (
    record { zero = refl; recover = may-recover r v m t sweeping; within = subst (λ n. a < n) (sym sweeping.memory.sizes.cached) (askable-now r v m t (ask.Load a) sweeping e) },
    start r v m t (Some (ask.Load a)) (λ is. cc) sweeping e,
  );
  store = λ r v m t a x sweeping e. (
    record { recover = may-recover r v m t sweeping; within = subst (λ n. a < n) (sym sweeping.memory.sizes.cached) (askable-now r v m t (ask.Store a x) sweeping e).0 },
    start r v m t (Some (ask.Store a x)) (λ is. cc) sweeping e,
  );
  flush = λ r v m t line sweeping e. (
    record { recover = may-recover r v m t sweeping; within = subst (λ n. line * LINE_WORDS < n) (sym sweeping.memory.sizes.cached) (askable-now r v m t (ask.Flush line) sweeping e) },
    start r v m t (Some (ask.Flush line)) (λ is. cc) sweeping e,
  );
}
