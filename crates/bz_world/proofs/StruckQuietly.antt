-- The effect of a swap that does not make the change of its call: the world goes on without an Effect mark.
use Rattle.std.proofs.Common.{◌≡◌, ◌≢◌, ◌+◌, ◌≤◌, Bool, ℕ, suc, if◌then◌else◌, true, false, List, [], ◌∷◌, length, slice_index, arith, refl, sym, ap, subst, ◌∙◌, inl, inr, Some, None}
use Rattle.std.specs.Prelude.{get_or}
use Rattle.std.proofs.lemmas.Bool.{cases_eq, true≢false}
use Rattle.bz_content.specs.Content.{image_fault, content_in}
use Rattle.bz_mark.specs.Log.{with_mark}
use Rattle.bz_solo.specs.FromAlone.Counts.{HasOthers}
use Rattle.bz_any_task.specs.Duties.{asks_of, swaps_of, facts_of, publishing_of, change_of}
use Rattle.bz_any_task.specs.Kinds.{kind_of}
use Rattle.bz_sight.specs.Effects.{effect_instant}
use Rattle.bz_sound.specs.Memory.Moments.{image_after}
use Rattle.bz_sound.specs.Power.Sound.{IsSound}
use Rattle.bz_refinement.specs.Laws.{opened_after}
use Rattle.bz_refinement.specs.Story.{scene}
use Rattle.bz_swap.specs.SwapMemory.{Swapping, doing_of, entries_of}
use Rattle.bz_task.specs.Scene.{Waiting, Took, here}
use Rattle.bz_task.specs.Swaps.{ContentFollows}
use Rattle.bz_task.specs.declared.todo.Todo.TheVariants as todo
use Rattle.bz_world.specs.Inside.Acted.{IsStriking}
use Rattle.bz_world.specs.Inside.Kept.{IsAwake, IsTabled, AreTaken}
use Rattle.bz_world.specs.Inside.Serving.{IsServing, IsSlot, IsSwapping, stage_in, tells_of}
use Rattle.bz_world.specs.declared.parts.Parts.{Parts}
use Rattle.bz_world.specs.Inside.Laws.{StrikeLaws}
use Rattle.bz_solo.specs.Steps.{effected_by, mark_of_effect}
use Rattle.bz_world.specs.Inside.Alone.{untold}
use Rattle.bz_world.specs.Inside.Exact.{puts, reach_of, underway}
use Rattle.bz_world.proofs.Alone.{others-on}
use Rattle.bz_world.specs.Inside.Paid.{errand_of, no_extra, stock_of, IsPaidIn}
use Rattle.bz_world.proofs.Due.{flush-solitary, flush-map, rightly-on}
use Rattle.bz_world.proofs.Exact.{exact-struck, had-room-on, puts-change}
use Rattle.bz_world.proofs.Paid.{flush-runs}
use Rattle.bz_world.proofs.LeavesStruck.{struck-leaves, own-swap}
use Rattle.bz_world.proofs.SolitaryActs.{none-struck}
use Rattle.bz_world.proofs.Powered.{looks-on, flush-leaves, free-on}
use Rattle.bz_world.proofs.Staying.{told-stays, wanted-stays, finishing-stays}
use Rattle.bz_world.proofs.Striking.{flush-calls, old, kept, w, x, its, owner, before, good, after, living, opened, later, took, struck-undisturbed, struck-meant, own-paid, others, was-image, is-image, no-look, takes-effect, goes-still}
use Rattle.bz_world.proofs.Merging.{duly-struck}
use Rattle.bz_world.proofs.LeavesKept.{leaves-stand}
use Rattle.bz_world.proofs.LaterLeaves.{is-later, later-keeps}
use Rattle.bz_world.proofs.Solitary.{now-is}
use Rattle.bz_solo.specs.FromTally.Leaves.{leaves_in}
use Rattle.bz_task.specs.Instant.{Instant}

module _ (b : StrikeLaws) (p : Parts) (s : ℕ) (h : IsStriking p s) where
  -- the image before and after it
  pub image-was : image_after (old b p s h).journal.start (old b p s h).journal.past ≡ ((kept b p s h).story.at (length (old b p s h).journal.past)).image
  image-was = was-image b p s h

  pub image-is : image_after (old b p s h).journal.start (h.mark ∷ (old b p s h).journal.past) ≡ slice_index p.access.durable
  image-is = is-image b p s h

  pub fault-is : image_fault (old b p s h).config (image_after (old b p s h).journal.start (h.mark ∷ (old b p s h).journal.past)) ≡ None
  fault-is = subst (λ i. image_fault (old b p s h).config i ≡ None) (sym image-is) (good b p s h).good.form

  -- the worker does what it did, and its swap has taken effect
  pub still-does : doing_of p.access (w b p s h) ≡ Swapping s
  still-does = h.work.doing (w b p s h) ∙ h.takes.effect.pending

  pub stage-is : stage_in p.access (doing_of p.access (w b p s h)) ≡ Took
  stage-is = ap (stage_in p.access) still-does ∙ ap (λ z. if z then Took else Waiting) h.takes.effect.done

  pub its-swap : (owners : List ℕ) → owners ≡ (old b p s h).owners.items → IsSwapping p.access owners (w b p s h) (entries_of (old b p s h).access s)
  its-swap owners e = record {
    swap = s;
    doing = still-does;
    same = ap (λ z. get_or z s []) h.takes.same.begun;
    owner = subst (λ z. slice_index z s ≡ w b p s h) (sym e) (owner b p s h).owner;
    begun = omega (arith, h.work.taken, (owner b p s h).begun);
    list = (owner b p s h).list;
  }

  pub its-asks : asks_of (x b p s h).task ≡ Some (todo.Swap (entries_of (old b p s h).access s))
  its-asks = (owner b p s h).asks

  -- where the swap makes no change, the call goes on as it is
  module _ (silent : publishing_of (x b p s h).task ≡ false) where
    opened-is : opened b p s h ≡ (its b p s h).opened
    opened-is = ap (λ z. opened_after z (suc (length (old b p s h).journal.past)) (its b p s h).opened) silent

    same-content : (key : List ℕ) → content_in (old b p s h).config (image_after (old b p s h).journal.start (h.mark ∷ (old b p s h).journal.past)) key ≡ content_in (old b p s h).config (image_after (old b p s h).journal.start (old b p s h).journal.past) key
    same-content key =
        let follows : ContentFollows false (change_of (x b p s h).task) (old b p s h).config (here (before b p s h)) (effect_instant (old b p s h).config p.access ((kept b p s h).story.at (length (old b p s h).journal.past))) =
        subst (λ z. ContentFollows z (change_of (x b p s h).task) (old b p s h).config (here (before b p s h)) (effect_instant (old b p s h).config p.access ((kept b p s h).story.at (length (old b p s h).journal.past)))) silent (good b p s h).content in
        ap (λ i. content_in (old b p s h).config i key) image-is ∙ (follows key ∙ ap (λ i. content_in (old b p s h).config i key) (sym image-was))

    sound : IsSound (old b p s h).config (old b p s h).at_start (with_mark (old b p s h).journal h.mark)
    sound = b.flushes (old b p s h).config (old b p s h).at_start (old b p s h).journal h.mark (kept b p s h).sound h.flush h.follows (b.same (old b p s h).config (old b p s h).at_start (old b p s h).journal h.mark (kept b p s h).sound h.flush fault-is same-content)

    begun-before : (its b p s h).opened.begun ≤ length (old b p s h).journal.past
    begun-before = omega (arith, (its b p s h).call_open.look.after_begin, (its b p s h).call_open.look.by_now)

    -- of its effects its task was told of all before, and not of this one
    none-yet : untold (old b p s h).access (doing_of (old b p s h).access (w b p s h)) ≡ 0
    none-yet = ap (untold (old b p s h).access) h.takes.effect.pending ∙ ap (λ (z : Bool). if z then 1 else 0) h.takes.effect.before

    one-now : untold p.access (doing_of p.access (w b p s h)) ≡ 1
    one-now = ap (untold p.access) still-does ∙ ap (λ (z : Bool). if z then 1 else 0) h.takes.effect.done

    way-same : underway (doing_of p.access (w b p s h)) ≡ underway (doing_of (old b p s h).access (w b p s h))
    way-same = ap underway (h.work.doing (w b p s h))

    one-more : (k : ℕ) → HasOthers 0 k (before b p s h).past → HasOthers 0 (k + 1) (scene (old b p s h).config (h.mark ∷ (old b p s h).journal.past) (after b p s h) (w b p s h) (its b p s h).call_open.look.since (its b p s h).opened).past
    one-more k = others-on (old b p s h).config (old b p s h).journal.past h.mark (kept b p s h).story (after b p s h) (w b p s h) (its b p s h).call_open.look.since (its b p s h).opened (its b p s h).opened
        (effect_instant (old b p s h).config p.access ((kept b p s h).story.at (length (old b p s h).journal.past))) 0 k 0 (k + 1) 1 refl (its b p s h).call_open.look.by_now refl (omega arith)

    -- the memory then
    abbrev struck_memory : Instant
    struck_memory = effect_instant (old b p s h).config p.access ((kept b p s h).story.at (length (old b p s h).journal.past))

    struck-now : (after b p s h).at (suc (length (old b p s h).journal.past)) ≡ struck_memory
    struck-now = now-is (kept b p s h).story.at (length (old b p s h).journal.past) struck_memory

    -- the last swap of a change makes it
    earlier : puts (kind_of (x b p s h).task) ≡ true → swaps_of (x b p s h).task ≤ 1 → ⊥
    earlier change few = true≢false (sym ((its b p s h).tasked.laws.publishes_last (entries_of (old b p s h).access s) (puts-change (x b p s h).task change) few its-asks) ∙ silent)

    serves-on : IsServing (old b p s h).config p.access (with_mark (old b p s h).journal h.mark) (after b p s h) (old b p s h).owners.items (stock_of (old b p s h)) (w b p s h) (x b p s h)
    serves-on = record {
      opened = (its b p s h).opened;
      call_open = record {
        is_open = flush-calls (w b p s h) h.mark (old b p s h).journal.past h.flush ∙ (its b p s h).call_open.is_open;
        call = (its b p s h).call_open.call;
        effect = (its b p s h).call_open.effect;
        look = looks-on (old b p s h).journal.past h.mark (its b p s h).opened (its b p s h).call_open.look;
        told = told-stays b.stay (old b p s h).config (old b p s h).journal h.mark (w b p s h) (its b p s h).opened (x b p s h).had (its b p s h).call_open.is_open (its b p s h).call_open.told;
        wanted = wanted-stays (old b p s h).config (old b p s h).journal h.mark (its b p s h).opened (x b p s h).task (its b p s h).call_open.wanted;
      };
      tasked = (its b p s h).tasked;
      asked = todo.Swap (entries_of (old b p s h).access s);
      asks = its-asks;
      doing = its-swap (old b p s h).owners.items refl;
      finishing = finishing-stays (old b p s h).access p.access (w b p s h) (x b p s h) (h.work.doing (w b p s h)) (its b p s h).finishing;
      facts = subst (λ z. facts_of (x b p s h).task z (scene (old b p s h).config (h.mark ∷ (old b p s h).journal.past) (after b p s h) (w b p s h) (its b p s h).call_open.look.since (its b p s h).opened)) (sym stage-is)
          (subst (λ o. facts_of (x b p s h).task Took (scene (old b p s h).config (h.mark ∷ (old b p s h).journal.past) (after b p s h) (w b p s h) (its b p s h).call_open.look.since o)) opened-is (took b p s h));
      covered = (its b p s h).covered;
      alone = struck-undisturbed b p s h;
      meant = struck-meant b p s h;
      paid = λ runs. let steps = flush-runs (old b p s h).config (w b p s h) (h.mark ∷ (old b p s h).journal.past) h.flush runs in
          subst (λ u. IsPaidIn (old b p s h).config p.access (h.mark ∷ (old b p s h).journal.past) (stock_of (old b p s h)) (w b p s h) (errand_of (x b p s h)) (x b p s h).task u no_extra (later b p s h).past)
          (sym (ap (untold p.access) still-does ∙ ap (λ (z : Bool). if z then 1 else 0) h.takes.effect.done))
          (subst (λ z. IsPaidIn (old b p s h).config p.access (h.mark ∷ (old b p s h).journal.past) (stock_of (old b p s h)) (w b p s h) (effected_by z (errand_of (x b p s h))) (x b p s h).task 1 (λ r. mark_of_effect r z) (later b p s h).past) silent (own-paid b p s h steps));
      due = rightly-on (old b p s h).config (old b p s h).access.taken p.access.taken (old b p s h).journal h.mark (stock_of (old b p s h)) (w b p s h) (x b p s h) h.work.taken (flush-map h.mark (old b p s h).journal.past h.flush) (flush-solitary (w b p s h) h.mark (old b p s h).journal.past h.flush) (its b p s h).due;
      merges = λ solitary. duly-struck (old b p s h).config (old b p s h).journal h.mark (before b p s h).past (scene (old b p s h).config (h.mark ∷ (old b p s h).journal.past) (after b p s h) (w b p s h) (its b p s h).call_open.look.since (its b p s h).opened).past
          (takes-effect b p s h).continues (its b p s h).call_open.look.by_now refl (ap (λ (z : Instant). z.effects) struck-now) b.known (reach_of (old b p s h).access (w b p s h)) (reach_of p.access (w b p s h)) (stock_of (old b p s h)) (x b p s h)
          none-yet one-now h.work.taken way-same (goes-still b p s h) (no-look b p s h)
          (λ other. ap (λ (z : Instant). leaves_in (old b p s h).config z.image) struck-now ∙ later-keeps (x b p s h).task (before b p s h) struck_memory (is-later (kind_of (x b p s h).task) (x b p s h).rest (its b p s h).meant.first other)
          (b.leaves (x b p s h).task (entries_of (old b p s h).access s) (before b p s h) struck_memory (own-swap b p s h)))
          (λ merge few. ap (λ (z : Instant). leaves_in (old b p s h).config z.image + 1) struck-now ∙ (b.counts (x b p s h).task (entries_of (old b p s h).access s) (before b p s h) struck_memory (own-swap b p s h) merge).last few)
          (λ merge more. ap (λ (z : Instant). leaves_in (old b p s h).config z.image) struck-now ∙ (b.counts (x b p s h).task (entries_of (old b p s h).access s) (before b p s h) struck_memory (own-swap b p s h) merge).before more)
          (its b p s h).opened (λ at m begun after stood. leaves-stand b.trees (scene (old b p s h).config (old b p s h).journal.past (kept b p s h).story (w b p s h) m (its b p s h).opened) m
          (b.scenes (old b p s h).config (old b p s h).access (old b p s h).journal (kept b p s h).story (w b p s h) m (its b p s h).opened (kept b p s h).living (record { from = omega (arith, (kept b p s h).living.begins (w b p s h) (its b p s h).opened (its b p s h).call_open.is_open, begun, after); by_now = stood.by_now })).scene
          (record { since = omega arith; now = stood.by_now; effects = stood.still }))
          ((its b p s h).merges (flush-solitary (w b p s h) h.mark (old b p s h).journal.past h.flush solitary));
      exact = λ solitary room. let had = had-room-on (old b p s h).config (old b p s h).journal h.mark (its b p s h).opened begun-before room in
          exact-struck (its b p s h).opened (before b p s h).past (scene (old b p s h).config (h.mark ∷ (old b p s h).journal.past) (after b p s h) (w b p s h) (its b p s h).call_open.look.since (its b p s h).opened).past
          (reach_of (old b p s h).access (w b p s h)) (reach_of p.access (w b p s h)) (stock_of (old b p s h)) (tells_of (x b p s h)) (x b p s h)
          h.work.taken none-yet one-now way-same (ap underway h.takes.effect.pending) refl one-more (no-look b p s h) earlier
          ((its b p s h).exact (flush-solitary (w b p s h) h.mark (old b p s h).journal.past h.flush solitary) had);
    }

    slots : (v : ℕ) → IsSlot (old b p s h).config p.access (with_mark (old b p s h).journal h.mark) (after b p s h) (old b p s h).owners.items (stock_of (old b p s h)) v (get_or (old b p s h).workers.items v None)
    slots v = elim (cases_eq v (w b p s h)) [
      | inr ne ↦ others b p s h v ne
      | inl e ↦ subst (λ u. IsSlot (old b p s h).config p.access (with_mark (old b p s h).journal h.mark) (after b p s h) (old b p s h).owners.items (stock_of (old b p s h)) u (get_or (old b p s h).workers.items u None)) (sym e)
          (subst (IsSlot (old b p s h).config p.access (with_mark (old b p s h).journal h.mark) (after b p s h) (old b p s h).owners.items (stock_of (old b p s h)) (w b p s h)) (sym (owner b p s h).is) serves-on)
    ]

    pub struck-quietly : IsAwake p
    struck-quietly = subst IsAwake (sym h.rest) (record {
      on = (kept b p s h).on;
      story = after b p s h;
      tabled = subst IsTabled h.rest h.tabled;
      taken = subst AreTaken h.rest h.taken;
      living = living b p s h;
      sound = sound;
      leaves = (struck-leaves b p s h, (kept b p s h).leaves);
      free = free-on (old b p s h).config (old b p s h).journal.start (old b p s h).journal.past h.mark (old b p s h).slots (after b p s h).took (flush-leaves h.mark (old b p s h).journal.past h.flush) (kept b p s h).free;
      workers = slots;
      solitary = λ v y opened is is-open key get solitary. absurd (none-struck b p s h v y is key get solitary);
    })
