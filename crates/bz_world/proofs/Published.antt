-- The effect of a swap that makes the change of its call: the Effect mark follows.
use Rattle.std.proofs.Common.{◌≡◌, ◌≢◌, ℕ, suc, ◌+◌, ◌<◌, if◌then◌else◌, Bool, true, false, List, ◌∷◌, length, arith, refl, sym, ap, subst, ◌∙◌, inl, inr, Option, Some, None, ◌≤◌}
use Rattle.std.specs.Prelude.{get_or, is_some, bytes_eq, option_map}
use Rattle.std.specs.Global.{Vec}
use Rattle.std.proofs.lemmas.Bool.{cases_eq, true≢false}
use Rattle.bz_call.specs.Map.{Map, Applied, key_of, apply, apply_at}
use Rattle.bz_call.specs.declared.calls.Call.{Call}
use Rattle.bz_call.specs.declared.calls.Call.TheVariants as call
use Rattle.bz_content.specs.Content.{content_in}
use Rattle.bz_stage.specs.FromLeaves.Neighbours.{MayBeMerged}
use Rattle.bz_layout.specs.declared.config.Config.{Config}
use Rattle.bz_mark.specs.Log.{Log, with_mark}
use Rattle.bz_mark.proofs.MomentLaws.{at_moment-before, at_moment-now}
use Rattle.bz_mark.specs.declared.marks.Mark.{Mark}
use Rattle.bz_mark.specs.declared.marks.Mark.TheVariants.{Effect}
use Rattle.bz_any_task.specs.Duties.{facts_of, publishing_of, change_of, no-change-is-published}
use Rattle.bz_sight.specs.Effects.{effect_instant}
use Rattle.bz_sight.specs.Sight.{IsSeen, next_instant}
use Rattle.bz_sight.specs.Starts.{Sees}
use Rattle.bz_sound.specs.Calls.{Open, open_call, with_effect, map_after, map_at}
use Rattle.bz_sound.specs.Solitary.{IsSolitary}
use Rattle.bz_sound.specs.Memory.ImageLaws.{IsChangeOf, ChangesKey, EffectFollows}
use Rattle.bz_sound.specs.Memory.Moments.{image_after, map_at_start}
use Rattle.bz_mark.specs.declared.power.Power.{Power}
use Rattle.bz_sound.specs.Power.Sound.{IsSound}
use Rattle.bz_refinement.specs.Laws.{HasBegun, GoesOn, goes_on, opened_after}
use Rattle.bz_refinement.specs.Living.{IsLiving}
use Rattle.bz_refinement.specs.Story.{Story, scene}
use Rattle.bz_swap.specs.SwapMemory.{doing_of, entries_of}
use Rattle.bz_task.specs.Scene.{Took, here}
use Rattle.bz_task.specs.Swaps.{Changes, ContentFollows}
use Rattle.bz_task.specs.declared.todo.Todo.TheVariants as todo
use Rattle.bz_world.specs.Inside.Acted.{IsStriking}
use Rattle.bz_world.specs.Inside.Kept.{CountsPairs, IsAwake, IsTabled, AreTaken}
use Rattle.bz_world.specs.Inside.Solitary.{IsSolitaryIn}
use Rattle.bz_world.specs.Inside.Serving.{IsServing, IsSlot, IsToldBy, effect_reply, size_after, pairs_after, tells_of}
use Rattle.bz_world.specs.declared.parts.Parts.{Parts}
use Rattle.bz_world.specs.declared.serving.OpenCall.{OpenCall}
use Rattle.bz_refinement.proofs.Powered.{stored-since}
use Rattle.bz_world.proofs.Alone.{waits-on}
use Rattle.bz_world.proofs.Due.{flush-solitary}
use Rattle.bz_world.proofs.Exact.{exact-published, had-room-on}
use Rattle.bz_world.proofs.Solitary.{now-is}
use Rattle.bz_world.proofs.StruckEnough.{struck-enough, takes-away}
use Rattle.bz_world.proofs.Counting.{pairs-change}
use Rattle.bz_world.proofs.LeavesKept.{same-leaves}
use Rattle.bz_world.proofs.LeavesStruck.{struck-leaves}
use Rattle.bz_world.proofs.Powered.{begun-in, flush-leaves, free-on}
use Rattle.bz_solo.specs.Errands.{Errand}
use Rattle.bz_solo.specs.Steps.{effected_by, mark_of_effect}
use Rattle.bz_solo.specs.FromCosts.Solo.{one_mark}
use Rattle.bz_any_task.specs.declared.running.AnyTask.{AnyTask}
use Rattle.bz_world.specs.Inside.Alone.{untold}
use Rattle.bz_task.specs.Instant.{Instant}
use Rattle.bz_world.specs.Inside.Exact.{HasStood, IsChanging, reach_of, underway}
use Rattle.bz_world.specs.Roomy.{HadRoom, KeepsEnough}
use Rattle.bz_world.specs.Inside.Paid.{errand_of, no_extra, stock_of, IsPaidIn}
use Rattle.bz_world.specs.WorldView.{stepper, is_delete}
use Rattle.bz_world.proofs.Meant.{publishing-kind, publishing-no-copy, publishing-no-merge}
use Rattle.bz_world.proofs.Paid.{flush-runs, next-is}
use Rattle.bz_world.proofs.PaidSteps.{less-in, marks-in}
use Rattle.bz_world.proofs.Staying.{Leaves, none-stays, serving-stays}
use Rattle.bz_world.specs.Inside.Laws.{StrikeLaws}
use Rattle.bz_world.proofs.Striking.{flush-calls, old, kept, w, x, its, owner, before, waits, good, after, living, opened, later, took, struck-undisturbed, struck-meant, own-paid, other-paid, leaves, beside, goes-still, no-look}
use Rattle.bz_world.proofs.SolitaryActs.{none-struck}
use Rattle.bz_world.proofs.StruckQuietly.{image-was, image-is, fault-is, stage-is, its-swap, its-asks, still-does}
use Rattle.bz_world.proofs.Tabled.{tabled-marked}
use Rattle.bz_any_task.specs.Kinds as kinds
use Rattle.bz_any_task.specs.Kinds.{kind_of}
use Rattle.bz_mark.specs.Counts.{count_taken}
use Rattle.bz_sound.specs.Power.Spent.{count_used}
use Rattle.bz_mark.specs.Times.{since_on}
use Rattle.bz_world.specs.Inside.Merging.{HasToMerge, IsDeletingSolitarily}
use Rattle.bz_world.proofs.StruckFew.{changes-record, changing-delete, struck-few}
use Rattle.bz_world.proofs.StruckShown.{shown-taken, shown-used}

-- the reply to a call that makes a change, by what its key had
reply-of : (called : Call) (had new : Option (List ℕ)) (map : Map) → IsChangeOf called had new → (apply_at had map called).reply ≡ Some (effect_reply called had)
reply-of (call.Insert key payload) None new map is = refl
reply-of (call.Insert key payload) (Some had) new map is = absurd is
reply-of (call.Delete key) None new map is = absurd is
reply-of (call.Delete key) (Some had) new map is = refl
reply-of (call.Update key payload) None new map is = absurd is
reply-of (call.Update key payload) (Some had) new map is = refl
reply-of (call.Upsert key payload) None new map is = refl
reply-of (call.Upsert key payload) (Some had) new map is = refl
reply-of (call.Get key) None new map is = absurd is
reply-of (call.Get key) (Some had) new map is = absurd is
reply-of (call.Page from) None new map is = absurd is
reply-of (call.Page from) (Some had) new map is = absurd is

none-by : (o : Option ℕ) → is_some o ≡ false → o ≡ None
none-by None e = refl
none-by (Some n) e = absurd (true≢false e)

module _ (b : StrikeLaws) (p : Parts) (s : ℕ) (h : IsStriking p s) (publishes : publishing_of (x b p s h).task ≡ true) where
  abbrev c : Config
  c = (old b p s h).config

  abbrev log : Log
  log = (old b p s h).journal

  abbrev at_start : Power
  at_start = (old b p s h).at_start

  abbrev worker : ℕ
  worker = w b p s h

  abbrev its-open : Open
  its-open = (its b p s h).opened

  -- the call is to make this change, and had no effect
  is-change : (change_of (x b p s h).task).key ≡ key_of its-open.call × IsChangeOf its-open.call (change_of (x b p s h).task).old (change_of (x b p s h).task).new
  is-change = subst (λ k. ((change_of (x b p s h).task).key ≡ key_of k) × IsChangeOf k (change_of (x b p s h).task).old (change_of (x b p s h).task).new) (sym (its b p s h).call_open.call) (elim (its b p s h).tasked.change [
    | inl look ↦ absurd (true≢false (sym publishes ∙ no-change-is-published (x b p s h).task look))
    | inr is ↦ (is.key, subst (λ had. IsChangeOf (x b p s h).call had (change_of (x b p s h).task).new) (sym is.old) is.is)
  ])

  -- where its key had this
  had-is : (change_of (x b p s h).task).old ≡ (x b p s h).had
  had-is = elim (its b p s h).tasked.change [
    | inl look ↦ absurd (true≢false (sym publishes ∙ no-change-is-published (x b p s h).task look))
    | inr is ↦ is.old
  ]

  first : its-open.effect ≡ None
  first = none-by its-open.effect ((its b p s h).tasked.laws.sound.once (before b p s h) (waits b p s h) publishes)

  changes : Changes (change_of (x b p s h).task) c (here (before b p s h)) (effect_instant c p.access ((kept b p s h).story.at (length log.past)))
  changes = subst (λ z. ContentFollows z (change_of (x b p s h).task) c (here (before b p s h)) (effect_instant c p.access ((kept b p s h).story.at (length log.past)))) publishes (good b p s h).content

  changes-key : ChangesKey c (image_after log.start log.past) (image_after log.start (h.mark ∷ log.past)) (key_of its-open.call) (change_of (x b p s h).task).old (change_of (x b p s h).task).new
  changes-key = record {
    was = ap (λ i. content_in c i (key_of its-open.call)) (image-was b p s h) ∙ (ap (λ k. content_in c (here (before b p s h)).image k) (sym is-change.0) ∙ changes.before);
    becomes = λ key. ap (λ i. content_in c i key) (image-is b p s h) ∙ (changes.after key ∙ (
        ap (λ k. if bytes_eq key k then (change_of (x b p s h).task).new else content_in c (here (before b p s h)).image key) is-change.0
        ∙ ap (λ i. if bytes_eq key (key_of its-open.call) then (change_of (x b p s h).task).new else content_in c i key) (sym (image-was b p s h))));
  }

  follows : EffectFollows c log h.mark worker its-open (change_of (x b p s h).task).old
  follows = b.changes c at_start log h.mark worker its-open (change_of (x b p s h).task).old (change_of (x b p s h).task).new (kept b p s h).sound h.flush (its b p s h).call_open.is_open first is-change.1 (fault-is b p s h) changes-key

  pub sound : IsSound c at_start (with_mark (with_mark log h.mark) (Effect worker its-open.number))
  sound = b.effects c at_start log h.mark worker its-open.number (kept b p s h).sound h.follows follows.may_follow follows.decodes

  -- the Effect mark is no act: the same memory is seen
  abbrev with_flush : Log
  with_flush = with_mark log h.mark

  abbrev effect_mark : Mark
  effect_mark = Effect worker its-open.number

  abbrev told_story : Story
  told_story = goes_on with_flush (after b p s h) p.access (after b p s h).filled

  seen-now : IsSeen c p.access ((after b p s h).at (suc (length log.past)))
  seen-now = (living b p s h).seen

  no-act : GoesOn c p.access p.access with_flush (after b p s h) effect_mark
  no-act = record {
    living = living b p s h;
    passes = record {
      same = record { swaps = refl; phase = refl; begun = refl; size = refl };
      holds = seen-now.holds;
      fields = seen-now.fields;
      quiet = record { values = λ a n. refl; swaps = λ t. refl };
      settled = λ a cached settled. settled;
      awaits = λ v a cached awaits. awaits;
      cached = λ a o n. inl refl;
    };
    keeps = λ v a held fence private. refl;
    marked = h.marked;
    past = record { count = h.past.count; since = h.past.since; asks = h.past.asks; workers = h.past.workers };
    powered = tt;
  }

  lives : IsLiving c p.access (with_mark with_flush effect_mark) told_story
  lives = b.lives c p.access p.access with_flush (after b p s h) effect_mark (after b p s h).filled no-act (λ v j f. stored-since c with_flush.past effect_mark j tt ((living b p s h).stored v j f))

  told-leaves : (v : ℕ) → v ≢ worker → Leaves c p.access p.access with_flush effect_mark (after b p s h) told_story v
  told-leaves v ne = record {
    same = record { doing = refl; begun = refl; taken = refl; size = refl; effects = λ t d. refl };
    calls = (b.calls v (h.mark ∷ log.past)).other_effect worker its-open.number (λ e. ne (sym e));
    from = refl;
    lawful = λ m o begins. b.quiet c p.access p.access with_flush (after b p s h) effect_mark v m o no-act (λ a out n. refl) begins;
    took = λ j. refl;
    filled = λ j e. e;
    alone = λ m o t l waits. waits-on c p.access p.access with_flush.past effect_mark (after b p s h) told_story v m o o t (next_instant p.access ((after b p s h).at (length with_flush.past))) refl l waits refl refl (λ j d. refl) (λ j d well. well);
  }

  -- the mark of the effect is paid for
  marked : (v : ℕ) (e : Errand) (t : AnyTask) (u since : ℕ) (o : Open) → HasBegun log (kept b p s h).story since → stepper with_flush.past ≡ Some v → IsPaidIn c p.access with_flush.past (stock_of (old b p s h)) v e t u one_mark (scene c with_flush.past (after b p s h) v since o).past
      → IsPaidIn c p.access (effect_mark ∷ with_flush.past) (stock_of (old b p s h)) v e t u no_extra (scene c (effect_mark ∷ with_flush.past) told_story v since o).past
  marked v e t u since o begun steps was =
      marks-in b.paid c p.access with_flush.past effect_mark (stock_of (old b p s h)) v e t u (scene c with_flush.past (after b p s h) v since o).past (scene c (effect_mark ∷ with_flush.past) told_story v since o)
      (b.scenes c p.access (with_mark with_flush effect_mark) told_story v since o lives (record { from = begun.from; by_now = omega (arith, begun.by_now) })).scene
      (next-is c with_flush.past effect_mark (after b p s h) told_story v since o o (next_instant p.access ((after b p s h).at (length with_flush.past))) 0 refl (omega (arith, begun.by_now)) (omega arith)
      (b.quiet c p.access p.access with_flush (after b p s h) effect_mark v since o no-act (λ a out n. refl) (record { from = begun.from; by_now = omega (arith, begun.by_now) })).continues) steps was

  -- with it the calls of the others are paid for, too
  slot-of : (v : ℕ) → v ≢ worker → IsSlot c p.access (with_mark with_flush effect_mark) told_story (old b p s h).owners.items (stock_of (old b p s h)) v (get_or (old b p s h).workers.items v None)
  unfolding serving-stays
  slot-of v ne = both (get_or (old b p s h).workers.items v None) ((kept b p s h).workers v)
    where
      both : (slot : Option OpenCall) → IsSlot c (old b p s h).access log (kept b p s h).story (old b p s h).owners.items (stock_of (old b p s h)) v slot → IsSlot c p.access (with_mark with_flush effect_mark) told_story (old b p s h).owners.items (stock_of (old b p s h)) v slot
      both None t = none-stays c p.access p.access with_flush effect_mark (after b p s h) told_story (old b p s h).owners.items (stock_of (old b p s h)) (stock_of (old b p s h)) v (told-leaves v ne)
          (none-stays c (old b p s h).access p.access log h.mark (kept b p s h).story (after b p s h) (old b p s h).owners.items (stock_of (old b p s h)) (stock_of (old b p s h)) v (leaves b p s h v ne) t)
      both (Some y) t = serving-stays b.scenes b.stay c p.access p.access with_flush effect_mark (after b p s h) told_story (old b p s h).owners.items (stock_of (old b p s h)) (stock_of (old b p s h)) v y lives (told-leaves v ne)
          (serving-stays b.scenes b.stay c (old b p s h).access p.access log h.mark (kept b p s h).story (after b p s h) (old b p s h).owners.items (stock_of (old b p s h)) (stock_of (old b p s h)) v y (living b p s h) (leaves b p s h v ne) t
          (λ runs. less-in b.paid c p.access with_flush.past (stock_of (old b p s h)) v (errand_of y) y.task (untold p.access (doing_of p.access v)) one_mark (scene c with_flush.past (after b p s h) v t.call_open.look.since t.opened).past (other-paid b p s h v ne y t (flush-runs c v with_flush.past h.flush runs)))
          (record { rightly = λ quiet solitary. absurd (beside b p s h v ne solitary); exactly = λ solitary room. absurd (beside b p s h v ne solitary); duly = λ solitary. absurd (beside b p s h v ne solitary) }))
          (λ steps. marked v (errand_of y) y.task (untold p.access (doing_of p.access v)) t.call_open.look.since t.opened (begun-in (kept b p s h).living t.call_open) steps (other-paid b p s h v ne y t steps))
          (record { rightly = λ quiet solitary. absurd (beside b p s h v ne solitary); exactly = λ solitary room. absurd (beside b p s h v ne solitary); duly = λ solitary. absurd (beside b p s h v ne solitary) })

  -- the call, with its effect
  abbrev effected : Open
  effected = with_effect (suc (length log.past)) its-open

  opened-is : opened b p s h ≡ effected
  opened-is = ap (λ z. opened_after z (suc (length log.past)) its-open) publishes

  is-open : open_call worker (effect_mark ∷ h.mark ∷ log.past) ≡ Some effected
  is-open = (b.calls worker (h.mark ∷ log.past)).own_effect its-open.number ∙ ap (option_map (with_effect (suc (length log.past)))) (flush-calls worker h.mark log.past h.flush ∙ (its b p s h).call_open.is_open)

  abbrev since : ℕ
  since = (its b p s h).call_open.look.since

  begun-its : HasBegun log (kept b p s h).story since
  begun-its = begun-in (kept b p s h).living (its b p s h).call_open

  begun-effected : HasBegun with_flush (after b p s h) since
  begun-effected = record { from = begun-its.from; by_now = omega (arith, begun-its.by_now) }

  told-scene : Sees c (told_story.at (suc (suc (length log.past)))) (scene c (effect_mark ∷ h.mark ∷ log.past) told_story worker since effected)
  told-scene = b.scenes c p.access (with_mark with_flush effect_mark) told_story worker since effected lives (record { from = begun-its.from; by_now = omega (arith, begun-its.by_now) })

  knows : facts_of (x b p s h).task Took (scene c (effect_mark ∷ h.mark ∷ log.past) told_story worker since effected)
  knows = (its b p s h).tasked.laws.sound.stable Took (scene c (h.mark ∷ log.past) (after b p s h) worker since effected) (scene c (effect_mark ∷ h.mark ∷ log.past) told_story worker since effected) (sym (its b p s h).tasked.config)
      (subst (λ o. facts_of (x b p s h).task Took (scene c (h.mark ∷ log.past) (after b p s h) worker since o)) opened-is (took b p s h)) told-scene.scene
      (b.quiet c p.access p.access with_flush (after b p s h) effect_mark worker since effected no-act (λ a out n. refl) begun-effected)

  abbrev pub with_moment : OpenCall
  with_moment = record (x b p s h) { effect = Some (suc (length log.past)) }

  -- so the map answers it directly before its effect
  replied : (apply (map_after (map_at_start c log.start) (h.mark ∷ log.past)) its-open.call).reply ≡ Some (effect_reply its-open.call (x b p s h).had)
  replied = ap (λ (a : Applied). a.reply) follows.step
      ∙ (reply-of its-open.call (change_of (x b p s h).task).old (change_of (x b p s h).task).new (map_after (map_at_start c log.start) (h.mark ∷ log.past)) is-change.1
      ∙ ap (λ had. Some (effect_reply its-open.call had)) had-is)

  told : IsToldBy c (with_mark with_flush effect_mark) effected (x b p s h).had
  told at e =
      let when : at ≡ suc (length log.past) = cc e in
      let before-it : map_at (map_at_start c log.start) at (effect_mark ∷ h.mark ∷ log.past) ≡ map_after (map_at_start c log.start) (h.mark ∷ log.past) =
      ap (λ k. map_at (map_at_start c log.start) k (effect_mark ∷ h.mark ∷ log.past)) when ∙ ap (map_after (map_at_start c log.start)) (at_moment-before effect_mark (h.mark ∷ log.past)) in
      ap (λ map. (apply map its-open.call).reply) before-it ∙ replied

  -- what its leaf had room for when it began it had before these marks
  room-at-begin : HadRoom c log.start (effect_mark ∷ h.mark ∷ log.past) effected → HadRoom c log.start log.past its-open
  room-at-begin room =
      let was = had-room-on c with_flush effect_mark effected (omega (arith, (its b p s h).call_open.look.after_begin, (its b p s h).call_open.look.by_now)) room in
      had-room-on c log h.mark its-open (omega (arith, (its b p s h).call_open.look.after_begin, (its b p s h).call_open.look.by_now)) (record { writes = was.writes; room = was.room; enough = was.enough })

  -- and the leaf of a delete stands alone directly after its effect
  none-untold : untold (old b p s h).access (doing_of (old b p s h).access worker) ≡ 0
  none-untold = ap (untold (old b p s h).access) h.takes.effect.pending ∙ ap (λ (z : Bool). if z then 1 else 0) h.takes.effect.before

  stood : HadRoom c log.start log.past its-open → IsChanging its-open (before b p s h).past (reach_of (old b p s h).access worker) (stock_of (old b p s h)) (tells_of (x b p s h)) (x b p s h)
      → HasStood effected (scene c (effect_mark ∷ with_flush.past) told_story worker since effected).past
  stood room ch = record {
    at = suc (length log.past);
    effect = refl;
    after_begin = omega (arith, (its b p s h).call_open.look.after_begin, (its b p s h).call_open.look.by_now);
    by_now = omega arith;
    still = refl;
    enough = subst (λ (z : Instant). KeepsEnough c z.image its-open.call 0) (sym (now-is (after b p s h).at (suc (length log.past)) (next_instant p.access ((after b p s h).at (suc (length log.past)))))) (struck-enough b p s h publishes is-change none-untold room ch);
  }

  -- and a delete that leaves its leaf too small tells so, and all that was taken is shown
  last-solitary : IsSolitary worker (effect_mark ∷ h.mark ∷ log.past) → IsSolitary worker (h.mark ∷ log.past)
  last-solitary solitary = solitary

  to-merge : IsSolitary worker (effect_mark ∷ h.mark ∷ log.past) → (at : ℕ) → suc (length log.past) ≡ at → is_delete (x b p s h).call ≡ true
      → HasToMerge c (with_mark with_flush effect_mark) effected at (scene c (effect_mark ∷ with_flush.past) told_story worker since effected).past (reach_of p.access worker) (stock_of (old b p s h)) with_moment
  to-merge solitary at is deletes = subst (λ n. HasToMerge c (with_mark with_flush effect_mark) effected n (scene c (effect_mark ∷ with_flush.past) told_story worker since effected).past (reach_of p.access worker) (stock_of (old b p s h)) with_moment) is (record {
    after_begin = omega (arith, (its b p s h).call_open.look.after_begin, (its b p s h).call_open.look.by_now);
    by_now = omega arith;
    merging = λ may. inl (record {
      standing = record {
        stood = record { by_now = omega arith; still = refl };
        taken = subst (λ (past : List Mark). p.access.taken ≤ count_taken c (since_on past)) (sym (at_moment-now (effect_mark ∷ h.mark ∷ log.past))) (shown-taken b p s h (last-solitary solitary) (delete-of deletes));
        left = subst (λ (past : List Mark). c.nodes ≤ length (old b p s h).slots.free + count_used c log.start past) (sym (at_moment-now (effect_mark ∷ h.mark ∷ log.past))) (shown-used b p s h (last-solitary solitary) (delete-of deletes));
      };
      task = inl (record {
        kind = delete-of deletes;
        wants = (deleting solitary deletes).wants;
        few = struck-few b p s h (delete-of deletes) is-change.0 (deleting solitary deletes) none-untold publishes (subst (λ (z : Instant). MayBeMerged c z.image (key_of its-open.call)) (now-is (after b p s h).at (suc (length log.past)) (next_instant p.access ((after b p s h).at (suc (length log.past))))) (subst (λ k. MayBeMerged c (told_story.at (suc (suc (length log.past)))).image k) (ap key_of (sym (its b p s h).call_open.call)) may));
        waits = λ on. (ap (untold p.access) (still-does b p s h) ∙ ap (λ (z : Bool). if z then 1 else 0) h.takes.effect.done, (deleting solitary deletes).swaps);
        ends = λ o e. absurd (cc (goes-still b p s h, e));
      });
    });
  })
    where
      delete-of : is_delete (x b p s h).call ≡ true → kind_of (x b p s h).task ≡ kinds.Delete
      delete-of deletes = changing-delete (x b p s h).task (changes-record (x b p s h).task publishes) (takes-away its-open.call (change_of (x b p s h).task).old (change_of (x b p s h).task).new (ap is_delete (its b p s h).call_open.call ∙ deletes) is-change.1)

      deleting : IsSolitary worker (effect_mark ∷ h.mark ∷ log.past) → is_delete (x b p s h).call ≡ true → IsDeletingSolitarily (before b p s h).past (reach_of (old b p s h).access worker) (x b p s h)
      deleting solitary deletes = ((its b p s h).merges (flush-solitary worker h.mark log.past h.flush solitary)).deleting (sym (its b p s h).call_open.effect ∙ first) (delete-of deletes) (goes-still b p s h)

  serves-on : IsServing c p.access (with_mark with_flush effect_mark) told_story (old b p s h).owners.items (stock_of (old b p s h)) worker with_moment
  serves-on = record {
    opened = effected;
    call_open = record {
      is_open = is-open;
      call = (its b p s h).call_open.call;
      effect = refl;
      look = record { since = since; after_begin = (its b p s h).call_open.look.after_begin; by_now = omega (arith, begun-its.by_now) };
      told = told;
      -- once its change is made nobody asks why it takes slots
      wanted = λ quiet some. absurd (cc quiet);
    };
    tasked = (its b p s h).tasked;
    asked = todo.Swap (entries_of (old b p s h).access s);
    asks = its-asks b p s h;
    doing = its-swap b p s h (old b p s h).owners.items refl;
    finishing = inr (record { publishing = publishes; swap = s; doing = still-does b p s h });
    facts = subst (λ z. facts_of (x b p s h).task z (scene c (effect_mark ∷ h.mark ∷ log.past) told_story worker since effected)) (sym (stage-is b p s h)) knows;
    covered = (its b p s h).covered;
    alone = waits-on c p.access p.access with_flush.past effect_mark (after b p s h) told_story worker since effected effected (x b p s h).task (next_instant p.access ((after b p s h).at (length with_flush.past))) refl (omega (arith, begun-its.by_now)) (struck-undisturbed b p s h)
        refl refl (λ t d. refl) (λ t d well. well);
    meant = let m = (struck-meant b p s h) in record { within = m.within; fit = record { words = m.fit.words; thawed = m.fit.thawed; quiet = λ quiet. absurd (cc quiet) }; look = λ quiet. absurd (cc quiet); meant = λ quiet. absurd (cc quiet); later = λ at is. publishing-kind (x b p s h).task publishes; small = λ merge. absurd (publishing-no-merge (x b p s h).task publishes merge); copied = λ copy. absurd (publishing-no-copy (x b p s h).task publishes copy); first = m.first };
    paid = λ steps. subst (λ u. IsPaidIn c p.access (effect_mark ∷ with_flush.past) (stock_of (old b p s h)) worker (errand_of with_moment) (x b p s h).task u no_extra (scene c (effect_mark ∷ with_flush.past) told_story worker since effected).past)
        (sym (ap (untold p.access) (still-does b p s h) ∙ ap (λ (z : Bool). if z then 1 else 0) h.takes.effect.done))
        (marked worker (errand_of with_moment) (x b p s h).task 1 since effected begun-its steps
        (subst (λ z. IsPaidIn c p.access with_flush.past (stock_of (old b p s h)) worker (effected_by z (errand_of (x b p s h))) (x b p s h).task 1 (λ r. mark_of_effect r z) (later b p s h).past) publishes (own-paid b p s h steps)));
    due = λ quiet solitary. absurd (cc quiet);
    merges = λ solitary. record {
      looking = λ quiet seek. absurd (cc quiet);
      deleting = λ quiet kind going. absurd (cc quiet);
      merging = λ at is deletes. to-merge solitary at (let same : suc (length log.past) ≡ at = cc is in same) deletes;
    };
    exact = λ solitary room. exact-published (its b p s h).opened effected (before b p s h).past (scene c (effect_mark ∷ with_flush.past) told_story worker since effected).past (reach_of (old b p s h).access worker) (reach_of p.access worker) (stock_of (old b p s h)) (tells_of (x b p s h)) (x b p s h) with_moment refl refl (λ none. absurd (cc none))
        h.work.taken (ap underway h.takes.effect.pending) (ap underway (still-does b p s h)) ((its b p s h).tasked.laws.last publishes) (goes-still b p s h) (no-look b p s h) (sym (its b p s h).call_open.effect ∙ first) (stood (room-at-begin room))
        ((its b p s h).exact (flush-solitary worker h.mark log.past h.flush solitary) (room-at-begin room));
  }

  slots : (items : List (Option OpenCall)) → get_or items worker None ≡ Some with_moment → ((v : ℕ) → v ≢ worker → get_or items v None ≡ get_or (old b p s h).workers.items v None)
      → (v : ℕ) → IsSlot c p.access (with_mark with_flush effect_mark) told_story (old b p s h).owners.items (stock_of (old b p s h)) v (get_or items v None)
  slots items here-is rest v = elim (cases_eq v worker) [
    | inr ne ↦ subst (IsSlot c p.access (with_mark with_flush effect_mark) told_story (old b p s h).owners.items (stock_of (old b p s h)) v) (sym (rest v ne)) (slot-of v ne)
    | inl e ↦ subst (λ u. IsSlot c p.access (with_mark with_flush effect_mark) told_story (old b p s h).owners.items (stock_of (old b p s h)) u (get_or items u None)) (sym e)
        (subst (IsSlot c p.access (with_mark with_flush effect_mark) told_story (old b p s h).owners.items (stock_of (old b p s h)) worker) (sym here-is) serves-on)
  ]

  -- and no get is solitary then
  none-solitary : (items : List (Option OpenCall)) → get_or items worker None ≡ Some with_moment → ((v : ℕ) → v ≢ worker → get_or items v None ≡ get_or (old b p s h).workers.items v None)
      → (v : ℕ) → IsSolitaryIn p.access (effect_mark ∷ h.mark ∷ log.past) told_story items v
  none-solitary items here-is rest v y opened is is-open key get solitary = elim (cases_eq v worker) [
    | inr ne ↦ absurd (none-struck b p s h v y (sym (rest v ne) ∙ is) key get solitary)
    | inl e ↦ absurd (
        let both : Some with_moment ≡ Some y = sym here-is ∙ (ap (λ u. get_or items u None) (sym e) ∙ is) in
        let same : with_moment ≡ y = cc both in
        none-struck b p s h worker (x b p s h) (owner b p s h).is key (ap (λ (z : OpenCall). z.call) same ∙ get) (subst (λ u. IsSolitary u (h.mark ∷ log.past)) e solitary))
  ]

  -- and the map has as many pairs as that reply tells
  counted : CountsPairs c log.start (h.mark ∷ log.past) (old b p s h).pairs → (count : ℕ) → count ≡ pairs_after (Some (x b p s h)) (old b p s h).pairs → CountsPairs c log.start (effect_mark ∷ h.mark ∷ log.past) count
  counted was count is = subst (CountsPairs c log.start (effect_mark ∷ h.mark ∷ log.past)) (sym (is ∙ ap (λ called. size_after (Some (effect_reply called (x b p s h).had)) (old b p s h).pairs) (sym (its b p s h).call_open.call)))
      (pairs-change c log.start (h.mark ∷ log.past) worker its-open.number (old b p s h).pairs its-open (Some (effect_reply its-open.call (x b p s h).had)) (flush-calls worker h.mark log.past h.flush ∙ (its b p s h).call_open.is_open) replied was)

  tabled-on : (workers : Vec (Option OpenCall)) → length workers.items ≡ 65 → length log.past + 1 < c.marks → (count : ℕ) → count ≡ pairs_after (Some (x b p s h)) (old b p s h).pairs
      → IsTabled (record (old b p s h) { access = p.access; journal = with_mark with_flush effect_mark; workers = workers; pairs = count })
  tabled-on workers places room count is = let t : IsTabled (record (old b p s h) { access = p.access; journal = with_flush }) = subst IsTabled h.rest h.tabled in
      tabled-marked (record (old b p s h) { access = p.access; journal = with_flush }) (record (old b p s h) { access = p.access; journal = with_mark with_flush effect_mark; workers = workers; pairs = count }) effect_mark tt (record { room = omega (arith, room); workers = places ∙ sym t.places; crew = refl; steps = omega (arith, t.steps); power = t.power; rest = refl }) (counted t.pairs count is) t

  taken-on : (workers : Vec (Option OpenCall)) (count : ℕ) → AreTaken (record (old b p s h) { access = p.access; journal = with_mark with_flush effect_mark; workers = workers; pairs = count })
  taken-on workers count = let t : AreTaken (record (old b p s h) { access = p.access; journal = with_flush }) = subst AreTaken h.rest h.taken in assumption t

  -- so the world goes on with the Effect, which the worker's call remembers
  pub published : (workers : Vec (Option OpenCall)) → length workers.items ≡ 65 → length log.past + 1 < c.marks → get_or workers.items worker None ≡ Some with_moment → ((v : ℕ) → v ≢ worker → get_or workers.items v None ≡ get_or (old b p s h).workers.items v None)
      → (count : ℕ) → count ≡ pairs_after (Some (x b p s h)) (old b p s h).pairs → IsAwake (record (old b p s h) { access = p.access; journal = with_mark with_flush effect_mark; workers = workers; pairs = count })
  published workers places room here-is rest count is = record {
    on = (kept b p s h).on;
    story = told_story;
    tabled = tabled-on workers places room count is;
    taken = taken-on workers count;
    living = lives;
    sound = sound;
    leaves = (λ now. same-leaves _ _ _ _ refl, (struck-leaves b p s h, (kept b p s h).leaves));
    free = free-on c log.start log.past h.mark (old b p s h).slots (after b p s h).took (flush-leaves h.mark log.past h.flush) (kept b p s h).free;
    workers = slots workers.items here-is rest;
    solitary = none-solitary workers.items here-is rest;
  }
