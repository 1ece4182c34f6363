-- A word that becomes durable by itself.
use Rattle.std.proofs.Common.{◌≡◌, ◌≢◌, ℕ, ◌≤◌, ◌+◌, ◌<◌, ◌∷◌, length, slice_index, arith, refl, sym, ap, subst, ◌∙◌, Option, Some, None}
use Rattle.std.specs.Prelude.{get_or}
use Rattle.bz_content.specs.Content.{image_fault, content_in}
use Rattle.bz_mark.specs.Log.{with_mark}
use Rattle.bz_mark.proofs.MomentLaws.{at_moment-now}
use Rattle.bz_mark.specs.WordsAfter.{state_after_marks, words_after_marks}
use Rattle.bz_mark.specs.declared.marks.Mark.TheVariants.{Evict}
use Rattle.bz_layout.specs.Addresses.{swap_address}
use Rattle.bz_pm.specs.Acts.{evicted}
use Rattle.bz_sight.specs.Acts.{EvictionsAreSeen}
use Rattle.bz_rivals.specs.Wins.{OwnSwapsWin}
use Rattle.bz_sight.specs.Passing.{Passes, Passed}
use Rattle.bz_sight.specs.Sight.{next_instant}
use Rattle.bz_sound.specs.Memory.Moments.{image_after}
use Rattle.bz_sound.specs.Power.Sound.{IsSound}
use Rattle.bz_swap_marks.proofs.Pasts.{evict-past}
use Rattle.bz_refinement.specs.Laws.{GoesOn, goes_on}
use Rattle.bz_refinement.specs.Living.{IsLiving}
use Rattle.bz_refinement.specs.Story.{scene, Story}
use Rattle.bz_refinement.proofs.Proved.{acts_keep_awaited}
use Rattle.bz_swap.specs.Effects.{NoneTakesEffect, EffectIs}
use Rattle.bz_swap.specs.EffectPlaces.{EffectsStayInside}
use Rattle.bz_swap.specs.Evictions.{EvictsIn}
use Rattle.bz_swap.specs.SwapMemory.{SwapMemory, doing_of, memory_words}
use Rattle.bz_swap.specs.declared.phase.Phase.{Phase}
use Rattle.bz_swap.specs.declared.phase.Phase.TheVariants.{Opened, Running, Recovering}
use Rattle.bz_world.specs.Inside.Acted.{IsEvicted, IsStriking, SameWork}
use Rattle.bz_world.specs.Inside.Beginning.{world_view}
use Rattle.bz_world.specs.Inside.Kept.{IsTabled, AreTaken, IsAwake}
use Rattle.bz_world.specs.Inside.Exact.{reach_of}
use Rattle.bz_world.specs.Inside.Serving.{IsSlot, tells_of}
use Rattle.bz_world.specs.WorldView.{Evicts, IsStruck}
use Rattle.bz_world.specs.declared.answers.Applied.TheVariants as applied
use Rattle.bz_world.specs.declared.parts.Parts.{Parts}
use Rattle.bz_world.specs.Inside.Laws.{BegunLaws, StepLaws}
use Rattle.bz_refinement.proofs.Powered.{stored-since}
use Rattle.bz_world.specs.Inside.Paid.{stock_of}
use Rattle.bz_world.proofs.Alone.{waits-on}
use Rattle.bz_world.proofs.Due.{rightly-on}
use Rattle.bz_world.proofs.Exact.{exact-on}
use Rattle.bz_world.proofs.LeavesKept.{passed-leaves}
use Rattle.bz_world.proofs.SolitaryActs.{all-evicted}
use Rattle.bz_world.proofs.Powered.{is-not-off, begun-in}
use Rattle.bz_world.proofs.Owners.{pending-begun}
use Rattle.bz_world.proofs.Stepped.{unused-by}
use Rattle.bz_world.proofs.Staying.{SameFor, reach-stays, slot-stays}
use Rattle.bz_world.proofs.Tabled.{tabled-evicted}
use Rattle.bz_world.proofs.Merging.{duly-later, still-effects}

effect-in : (phase : Phase) (old new : SwapMemory) (told : Option ℕ) → phase ≢ Recovering → EvictsIn phase old told new → EffectIs old new told
effect-in Opened old new told ne h = h
effect-in Running old new told ne h = h
effect-in Recovering old new told ne h = absurd (ne refl)

module _ (old new : Parts) (a : ℕ) (told : Option ℕ) (k : IsAwake old) (e : IsEvicted old a told new) where
  pub evict-marked : memory_words new.access ≡ words_after_marks old.journal.start (Evict a ∷ old.journal.past)
  evict-marked = ap memory_words e.eviction.is ∙ ap (λ z. evicted z a) k.living.words

  pub evict-works : SameWork old.access new.access
  evict-works = record {
    doing = λ v. ap (λ z. doing_of z v) e.eviction.is;
    taken = ap (λ z. z.taken) e.eviction.is;
    size = ap (λ z. length z.cached) e.eviction.is;
  }

  pub evict-tabled : length old.journal.past < old.config.marks → IsTabled new
  evict-tabled room = subst IsTabled (sym e.rest) (tabled-evicted old a told new.access e.eviction room k.tabled)

  pub evict-taken : BegunLaws → AreTaken new
  evict-taken begun = subst AreTaken (sym e.rest) (record {
    shown = λ s l h. k.taken.shown s l (λ f. h (ap (λ z. slice_index z.cached (swap_address s)) e.eviction.is ∙ f));
    held = begun.taken.eviction old.access new.access a told e.eviction k.taken.held;
    few = omega (arith, evict-works.taken, k.taken.few);
    notes = record {
      zero = begun.zero.eviction old.access new.access a told e.eviction k.taken.notes.zero;
      noted = begun.noted.eviction old.access new.access a told e.eviction k.taken.notes.noted;
    };
    unused = λ s l. unused-by old.access new.access told (pending-begun old k) k.taken.unused (effect-in old.access.phase old.access new.access told k.living.seen.phase e.eviction.effect) s (omega (arith, l, evict-works.taken));
    only = λ s l seen. omega (arith, evict-works.taken, k.taken.only s l seen);
    unstored = k.taken.unstored;
  })

-- it gives a swap its effect
pub evict-strikes : EvictionsAreSeen → EffectsStayInside → BegunLaws → OwnSwapsWin → (old new : Parts) (a s : ℕ) → IsAwake old → IsEvicted old a (Some s) new → length old.journal.past < old.config.marks → IsStriking new s
evict-strikes sees inside begun wins old new a s k e room = record {
  before = old;
  mark = Evict a;
  kept = k;
  takes = sees.effect old.config (k.story.at (length old.journal.past)) old.access new.access a s k.living.seen e.eviction e.held;
  work = evict-works old new a (Some s) k e;
  tabled = evict-tabled old new a (Some s) k e room;
  taken = evict-taken old new a (Some s) k e begun;
  marked = evict-marked old new a (Some s) k e;
  past = evict-past old.access new.access (state_after_marks old.journal.start old.journal.past) a (Some s) e.eviction k.living.past;
  flush = tt;
  decided = (inside.eviction old.access new.access a s e.eviction).taken;
  follows = is-not-off old k.tabled k.on;
  unnoted = λ t well. wins.evicted old.access new.access a (Some s) t e.eviction ∙ well.unnoted;
  stepped = λ w steps. absurd (cc steps);
  rest = e.rest;
}

-- or none
module _ (b : StepLaws) (sees : EvictionsAreSeen) (old new : Parts) (a : ℕ) (k : IsAwake old) (e : IsEvicted old a None new) (room : length old.journal.past < old.config.marks) where
  passes : Passes old.config (k.story.at (length old.journal.past)) old.access new.access
  passes = sees.quiet old.config (k.story.at (length old.journal.past)) old.access new.access a k.living.seen e.eviction e.held

  passed : Passed old.config (k.story.at (length old.journal.past)) new.access
  passed = b.pass old.config (k.story.at (length old.journal.past)) old.access new.access k.living.seen passes

  goes : GoesOn old.config old.access new.access old.journal k.story (Evict a)
  goes = record { living = k.living; passes = passes; keeps = acts_keep_awaited.quiet old.config old.access new.access old.journal k.story k.living (sees.leaves old.access new.access a None e.eviction); marked = evict-marked old new a None k e; past = evict-past old.access new.access (state_after_marks old.journal.start old.journal.past) a None e.eviction k.living.past; powered = tt }

  abbrev after : Story
  after = goes_on old.journal k.story new.access k.story.filled

  living : IsLiving old.config new.access (with_mark old.journal (Evict a)) after
  living = b.lives old.config old.access new.access old.journal k.story (Evict a) k.story.filled goes (λ v j f. stored-since old.config old.journal.past (Evict a) j tt (k.living.stored v j f))

  quiet : NoneTakesEffect old.access new.access
  quiet = effect-in old.access.phase old.access new.access None k.living.seen.phase e.eviction.effect

  same : (v : ℕ) → SameFor old.access new.access v
  same v = let work : SameWork old.access new.access = evict-works old new a None k e in record {
    doing = work.doing v;
    begun = ap (λ z. z.begun) e.eviction.is;
    taken = work.taken;
    size = work.size;
    effects = λ t d. quiet.swaps t;
  }

  slots : (v : ℕ) → IsSlot old.config new.access (with_mark old.journal (Evict a)) after old.owners.items (stock_of old) v (get_or old.workers.items v None)
  slots v = slot-stays b.scenes b.stay old.config old.access new.access old.journal (Evict a) k.story after old.owners.items (stock_of old) (stock_of old) v (get_or old.workers.items v None) living (record {
    same = same v;
    calls = refl;
    from = refl;
    lawful = λ m o begins. b.quiet old.config old.access new.access old.journal k.story (Evict a) v m o goes (sees.leaves old.access new.access a None e.eviction) begins;
    took = λ j. refl;
    filled = λ j h. h;
    alone = λ since opened t l h. waits-on old.config old.access new.access old.journal.past (Evict a) k.story after v since opened opened t (next_instant new.access (k.story.at (length old.journal.past))) refl l h refl (same v).doing (same v).effects
        (λ j d well. b.solo.wins.eviction old.access new.access v a None j k.living.seen.phase e.eviction d refl well);
  }) (λ y t steps. absurd (cc steps)) (λ y t. record {
    rightly = rightly-on old.config old.access.taken new.access.taken old.journal (Evict a) (stock_of old) v y (same v).taken (λ map. refl) (λ l. l) t.due;
    exactly = exact-on old.config old.journal (Evict a) k.story after v t.call_open.look.since t.opened (next_instant new.access (k.story.at (length old.journal.past))) refl t.call_open.look.by_now (omega (arith, t.call_open.look.after_begin, t.call_open.look.by_now)) refl
        (reach_of old.access v) (reach_of new.access v) (stock_of old) (tells_of y) y (reach-stays old.access new.access v (same v)) (λ l. l) t.exact;
    duly = λ solitary. duly-later old.config old.journal (Evict a) (scene old.config old.journal.past k.story v t.call_open.look.since t.opened).past (scene old.config (Evict a ∷ old.journal.past) after v t.call_open.look.since t.opened).past
        (b.quiet old.config old.access new.access old.journal k.story (Evict a) v t.call_open.look.since t.opened goes (sees.leaves old.access new.access a None e.eviction) (begun-in k.living t.call_open)).continues t.call_open.look.by_now refl
        (still-effects k.story after (length old.journal.past) (next_instant new.access (k.story.at (length old.journal.past))) refl refl) b.solo.known (reach_of old.access v) (stock_of old) y t.opened (reach_of new.access v) (reach-stays old.access new.access v (same v)) (t.merges solitary);
  }) (k.workers v)

  was : image_after old.journal.start old.journal.past ≡ (k.story.at (length old.journal.past)).image
  was = sym (k.living.images (length old.journal.past) k.living.from (omega arith) ∙ ap (image_after old.journal.start) (at_moment-now old.journal.past))

  is : image_after old.journal.start (Evict a ∷ old.journal.past) ≡ slice_index new.access.durable
  is = ap (λ z. slice_index z.durable) (sym (evict-marked old new a None k e))

  sound : IsSound old.config old.at_start (with_mark old.journal (Evict a))
  sound = b.journal.flush old.config old.at_start old.journal (Evict a) k.sound tt (is-not-off old k.tabled k.on) (b.journal.same old.config old.at_start old.journal (Evict a) k.sound tt
      (subst (λ i. image_fault old.config i ≡ None) (sym is) passed.same.good.form)
      (λ key. ap (λ i. content_in old.config i key) is ∙ (passed.same.content key ∙ ap (λ i. content_in old.config i key) (sym was))))

  pub evict-kept : IsAwake new
  evict-kept = subst IsAwake (sym e.rest) (record {
    on = k.on;
    story = after;
    tabled = subst IsTabled e.rest (evict-tabled old new a None k e room);
    taken = subst AreTaken e.rest (evict-taken old new a None k e b.begun);
    living = living;
    sound = sound;
    leaves = (passed-leaves b.ranges old.config old.at_start old.access new.access old.journal (Evict a) k.story after k.living living refl passed, k.leaves);
    free = k.free;
    workers = slots;
    solitary = all-evicted b old new a k e;
  })

-- and it is seen, with the effect that came of it, if one did
pub evict-seen : (old mid new : Parts) (a : ℕ) (told : Option ℕ) → IsEvicted old a told mid → IsStruck mid.journal.past new.journal.past → new ≡ record mid { journal = record mid.journal { past = new.journal.past }; workers = new.workers; pairs = new.pairs }
    → Evicts (world_view old) a applied.Evicted (world_view new)
evict-seen old mid new a told e struck rest = record {
  answered = refl;
  past = new.journal.past;
  effect = subst (λ (p : Parts). IsStruck p.journal.past new.journal.past) e.rest struck;
  rest = ap world_view rest ∙ (ap (λ (p : Parts). record (world_view p) { log = record p.journal { past = new.journal.past } }) e.rest
      ∙ ap (λ (m : SwapMemory). record (world_view (record old { access = m })) { log = record old.journal { past = new.journal.past } }) e.eviction.is);
}

pub evict-room : (old mid : Parts) (a : ℕ) (told : Option ℕ) → IsEvicted old a told mid → length old.journal.past + 3 ≤ old.config.marks → length mid.journal.past < mid.config.marks
evict-room old mid a told e room = omega (arith, room, ap (λ (p : Parts). length p.journal.past) e.rest, ap (λ (p : Parts). p.config.marks) e.rest)
