-- A power cut begins a recovery time, and a recovery begins over what it leaves; the acts that it asks for may be started.
use Rattle.std.proofs.Common.{◌≡◌, ◌≢◌, ℕ, ◌+◌, ◌*◌, ◌%◌, ◌^◌, ◌<◌, length, slice_index, Option, Some, None, arith, refl, sym, ap, subst, ◌∙◌, false}
use Rattle.std.proofs.lemmas.List.{get_or-set_same, get_or-set_other, length-set, length-replicate}
use Rattle.bz_content.specs.Content.{image_fault, IsWellFormed}
use Rattle.bz_content.specs.Resolving.{resolve}
use Rattle.bz_content.proofs.Proved.{well_formed_images_have_no_fault}
use Rattle.bz_layout.specs.Addresses.{words_of as size_of}
use Rattle.bz_layout.specs.Config.{IsConfig}
use Rattle.bz_layout.specs.declared.config.Config.{Config}
use Rattle.bz_layout.specs.declared.sizes.TheConstants.{LINE_WORDS}
use Rattle.bz_layout.proofs.Laws.{addresses_fit}
use Rattle.bz_pm.specs.Words.{IsMemory}
use Rattle.bz_recover.specs.Duties.{hears_in, tells_in, asks_of}
use Rattle.bz_recover.specs.Laws.{IsAskable}
use Rattle.bz_recover.specs.Sweep.{IsImage}
use Rattle.bz_recover.specs.declared.recover.Recover.{Recover}
use Rattle.bz_recover.proofs.Proved.{acts_are_these, cuts_keep_the_image, recoveries_know}
use Rattle.bz_sight.specs.Sight.{IsSeen}
use Rattle.bz_swap.proofs.Fresh.{all-same}
use Rattle.bz_swap.specs.Held.{HoldsIn, IsHeld}
use Rattle.bz_swap.specs.PlainFields.{HavePlainFields}
use Rattle.bz_swap.specs.Power.{after_cut}
use Rattle.bz_swap.specs.Starts.{MayRecover, started}
use Rattle.bz_swap.specs.SwapMemory.{SwapMemory, Doing, Idle, Working, idle, memory_words, doing_of}
use Rattle.bz_swap.specs.declared.phase.Phase.{Phase}
use Rattle.bz_swap.specs.declared.phase.Phase.TheVariants.{Opened, Running, Recovering}
use Rattle.bz_swap.proofs.Proved.{plain_fields_stay}
use Rattle.bz_task.specs.Instant.{Instant}
use Rattle.bz_task.specs.declared.todo.Seen.TheVariants as seen
use Rattle.bz_task.specs.declared.todo.Todo.{Todo}
use Rattle.bz_task.specs.declared.todo.Todo.TheVariants as todo
use Rattle.bz_refinement.specs.Recovering.{IsInRecovery, IsOff, Turn, Asked, Started, IsRecovering, stage_of, doing_for, words_in}
use Rattle.bz_refinement.specs.RecoveryLaws.{CutsLeaveTheImage, RecoveriesBegin, RecoveriesGoOn, ActsMayStart}
use Rattle.bz_swap_marks.proofs.Pasts.{cut-clean}
use Rattle.bz_refinement.proofs.RecoveryAsks.{clean-rightly, start-rightly}

-- a memory of these sizes has whole lines
pub whole-lines : (c : Config) (m : SwapMemory) → IsConfig c → length m.cached ≡ size_of c → length m.durable ≡ size_of c → IsMemory (memory_words m)
whole-lines c m config cached durable = record {
  same = cached ∙ sym durable;
  lines = subst (λ n. n % 8 ≡ 0) (sym durable) (addresses_fit c config).lines;
  size = subst (λ n. n < 2 ^ 32) (sym durable) (addresses_fit c config).size;
}

-- what a recovery knows of the image
pub image-now : (c : Config) (v : ℕ → ℕ) (m : SwapMemory) (turn : Turn) (t : Recover) → IsRecovering c v m turn t → IsImage c v (slice_index m.durable)
image-now c v m turn t r = subst (λ d. IsImage d v (slice_index m.durable)) r.config (recoveries_know.image t v (stage_of turn) (words_in m) r.ready r.knows)

-- what it asks for lies in the memory
pub askable-now : (c : Config) (v : ℕ → ℕ) (m : SwapMemory) (t : Recover) (asked : Todo) → IsRecovering c v m Asked t → asks_of t ≡ Some asked → IsAskable c asked
askable-now c v m t asked r e = subst (λ d. IsAskable d asked) r.config (recoveries_know.askable t v (words_in m) asked r.ready r.knows e)

pub askable-then : (c : Config) (v : ℕ → ℕ) (m : SwapMemory) (t : Recover) (asked : Todo) → IsRecovering c v m Started t → asks_of t ≡ Some asked → IsAskable c asked
askable-then c v m t asked r e = subst (λ d. IsAskable d asked) r.config (recoveries_know.askable t v (words_in m) asked r.ready r.knows e)

-- a memory that is cut: its sizes, and an image that breaks no rule
record MayCut (c : Config) (v : ℕ → ℕ) (m : SwapMemory) : Type 0 where
  config : IsConfig c
  swaps : m.swaps ≡ c.swaps
  cached : length m.cached ≡ size_of c
  durable : length m.durable ≡ size_of c
  workers : length m.workers ≡ c.workers + 1
  fields : HavePlainFields m
  form : image_fault c (slice_index m.durable) ≡ None
  image : IsImage c v (slice_index m.durable)

rests : (m : SwapMemory) (w : ℕ) → doing_of (after_cut m) w ≡ Idle
rests m w = ap (λ (u : Working). u.doing) (all-same (length m.workers) w idle)

cut : (c : Config) (v : ℕ → ℕ) (m : SwapMemory) → MayCut c v m → IsOff c v (after_cut m)
cut c v m h = record {
  memory = record {
    config = h.config;
    swaps = h.swaps;
    cached = h.durable;
    durable = h.durable;
    workers = length-replicate (length m.workers) idle ∙ h.workers;
    others = λ w some. rests m w;
    fields = plain_fields_stay.cut m h.fields;
    form = h.form;
  };
  phase = λ e. cc;
  idle = rests m 0;
  clean = cut-clean m;
  powered = cuts_keep_the_image c v (words_in m) (words_in (after_cut m)) h.image (acts_are_these.cut (memory_words m) (whole-lines c m h.config h.cached h.durable));
}

-- outside a recovery time the memory is held
held : (m : SwapMemory) (p : Phase) → p ≢ Recovering → HoldsIn p m → IsHeld m
held m Opened ne h = h
held m Running ne h = h
held m Recovering ne h = absurd (ne refl)

cut-seen : (c : Config) (x : Instant) (m : SwapMemory) → IsSeen c m x → length m.workers ≡ c.workers + 1 → IsOff c (resolve x.image) (after_cut m)
cut-seen c x m seen workers =
    let well : IsWellFormed c x.image = (well_formed_images_have_no_fault c x.image).0 seen.good.form in
    let is : IsHeld m = held m m.phase seen.phase seen.holds in
    cut c (resolve x.image) m (record {
      config = seen.config;
      swaps = seen.swaps;
      cached = is.memory.same ∙ seen.size;
      durable = seen.size;
      workers = workers;
      fields = seen.fields;
      form = subst (λ f. image_fault c f ≡ None) seen.image seen.good.form;
      image = subst (IsImage c (resolve x.image)) seen.image (record { lawful = well.lawful; resolved = λ a s. refl });
    })

cut-recovering : (c : Config) (v : ℕ → ℕ) (m : SwapMemory) (turn : Turn) (t : Recover) → IsRecovering c v m turn t → IsOff c v (after_cut m)
cut-recovering c v m turn t r = cut c v m (record {
  config = r.memory.config;
  swaps = r.memory.swaps;
  cached = r.memory.cached;
  durable = r.memory.durable;
  workers = r.memory.workers;
  fields = r.memory.fields;
  form = r.memory.form;
  image = image-now c v m turn t r;
})

pub cuts-leave : CutsLeaveTheImage
cuts-leave = record { seen = cut-seen; recovering = cut-recovering }

pub begins : RecoveriesBegin
begins c v m t off is-new = record {
  recovering = record {
    memory = off.memory;
    config = is-new.config;
    ready = is-new.ready;
    phase = off.phase;
    doing = off.idle;
    busy = tt;
    asks = clean-rightly m off.clean off.idle;
    knows = is-new.knows v (words_in m) off.powered;
  };
  hears = subst (λ q. hears_in q seen.Start) (sym is-new.asks) tt;
  tells = subst (λ q. tells_in q seen.Start (words_in m)) (sym is-new.asks) tt;
}

pub goes-on : RecoveriesGoOn
goes-on c v m old new seen r next tells = record {
  memory = r.memory;
  config = next.config ∙ r.config;
  ready = next.ready;
  phase = r.phase;
  doing = r.doing;
  busy = tt;
  asks = r.asks;
  knows = next.learns v (words_in m) r.knows tells;
}

-- a start by worker 0
start-memory : (c : Config) (m : SwapMemory) (d : Doing) → IsInRecovery c m → IsInRecovery c (started m 0 d)
start-memory c m d h = record {
  config = h.config;
  swaps = h.swaps;
  cached = h.cached;
  durable = h.durable;
  workers = length-set m.workers 0 (record { doing = d; flush_next = false }) ∙ h.workers;
  others = λ w some. ap (λ (u : Working). u.doing) (get_or-set_other m.workers 0 w (record { doing = d; flush_next = false }) idle (omega (arith, some))) ∙ h.others w some;
  fields = plain_fields_stay.start m 0 d h.fields;
  form = h.form;
}

start : (c : Config) (v : ℕ → ℕ) (m : SwapMemory) (t : Recover) (asked : Option Todo) → doing_for asked ≢ Idle → IsRecovering c v m Asked t → asks_of t ≡ asked → IsRecovering c v (started m 0 (doing_for asked)) Started t
start c v m t asked busy r e = record {
  memory = start-memory c m (doing_for asked) r.memory;
  config = r.config;
  ready = r.ready;
  phase = refl;
  doing = does ∙ ap doing_for (sym e);
  busy = λ rests. busy (sym does ∙ rests);
  asks = start-rightly m (doing_for asked) (omega (arith, r.memory.workers)) r.doing r.asks;
  knows = r.knows;
}
  where
    does : doing_of (started m 0 (doing_for asked)) 0 ≡ doing_for asked
    does = let some : 0 < length m.workers = omega (arith, r.memory.workers) in ap (λ (u : Working). u.doing) (get_or-set_same m.workers 0 (record { doing = doing_for asked; flush_next = false }) idle some)

may-recover : (c : Config) (v : ℕ → ℕ) (m : SwapMemory) (t : Recover) → IsRecovering c v m Asked t → MayRecover m
may-recover c v m t r = record { idle = r.doing; phase = r.phase }

pub may-start : ActsMayStart
may-start = record {
  load = λ c v m t a r e. (
    record { zero = refl; recover = may-recover c v m t r; within = subst (λ n. a < n) (sym r.memory.cached) (askable-now c v m t (todo.Load a) r e) },
    start c v m t (Some (todo.Load a)) (λ is. cc) r e,
  );
  store = λ c v m t a x r e. (
    record { recover = may-recover c v m t r; within = subst (λ n. a < n) (sym r.memory.cached) (askable-now c v m t (todo.Store a x) r e).0 },
    start c v m t (Some (todo.Store a x)) (λ is. cc) r e,
  );
  flush = λ c v m t line r e. (
    record { recover = may-recover c v m t r; within = subst (λ n. line * LINE_WORDS < n) (sym r.memory.cached) (askable-now c v m t (todo.Flush line) r e) },
    start c v m t (Some (todo.Flush line)) (λ is. cc) r e,
  );
}
