-- A recovery begins when the power comes on, and when it has ended the memory lives again.
use Rattle.std.proofs.Common.{◌≡◌, ℕ, ◌+◌, ◌<◌, ◌≤◌, ◌&&◌, nat_lt, Bool, true, false, length, arith, refl, sym, ap, subst, ◌∙◌, inl, Option, Some, None, slice_set, ◌∷◌}
use Rattle.std.specs.Prelude.{get_or, map}
use Rattle.std.proofs.lemmas.Bool.{true≢false}
use Rattle.std.proofs.lemmas.Bool.Decides.{nat_tests}
use Rattle.std.proofs.lemmas.List.{map-set}
use Rattle.std.proofs.lemmas.List.Elements.{All-contains}
use Rattle.bz_mark.specs.Log.{Log, with_mark}
use Rattle.bz_mark.specs.declared.marks.Mark.TheVariants.{On, Ready}
use Rattle.bz_layout.specs.Slots.{FreeSlots, IsInOrder}
use Rattle.bz_content.specs.Content.{view_in}
use Rattle.bz_recover.specs.Duties.{tells_in, WalksIn}
use Rattle.bz_recover.specs.Walking.{AreReached}
use Rattle.bz_recover.specs.declared.recover.Recover.{Recover}
use Rattle.bz_mark.specs.declared.power.Power.TheVariants as power
use Rattle.bz_tree.specs.Walk.{form, is_among}
use Rattle.bz_sound.specs.Memory.Moments.{map_at_start}
use Rattle.bz_sound.specs.Memory.Spent.{is_reached_in}
use Rattle.bz_mark.specs.Times.{since_on}
use Rattle.bz_sound.specs.Power.Times.{image_at_on}
use Rattle.bz_sound.specs.Power.Laws.{OnsFollow, ReadysFollow, PowerTellsWhatFollows}
use Rattle.bz_refinement.specs.Recovering as recovery
use Rattle.bz_refinement.specs.RecoveryLaws.{RecoveriesGoOn}
use Rattle.bz_refinement.specs.Reviving as reviving
use Rattle.bz_refinement.specs.Reviving.{PowerOnIsMarked, TurnsMakeNoMark, RecoveriesGiveLife, WalksEnd, IsReborn, renewed_story}
use Rattle.bz_refinement.specs.Story.{Story}
use Rattle.bz_swap.specs.Held.{Holds}
use Rattle.bz_swap.specs.Power.{MayRenew, renewed}
use Rattle.bz_swap.specs.Starts.{started}
use Rattle.bz_swap.specs.SwapMemory.{SwapMemory, Working, Idle, Loading, doing_of}
use Rattle.bz_task.specs.declared.todo.Seen.TheVariants.{Start}
use Rattle.bz_world.specs.Inside.Kept.{IsTabled, IsAwake, IsOff, IsRecovering}
use Rattle.bz_world.specs.Inside.Beginning.{world_view, is_swap}
use Rattle.bz_world.specs.Inside.Laws.{BegunLaws}
use Rattle.bz_world.specs.Inside.Paid.{begun_with, stock_of}
use Rattle.bz_world.specs.Inside.Powering.{MustWake, Wakes}
use Rattle.bz_world.specs.WorldView as lab
use Rattle.bz_world.specs.Inside.Serving.{IsSlot}
use Rattle.bz_world.specs.declared.parts.Parts.{Parts}
use Rattle.bz_world.specs.declared.serving.OpenCall.{OpenCall}
use Rattle.bz_world.proofs.Solitary.{none-in}
use Rattle.bz_world.proofs.Recovered.{Learns}
use Rattle.bz_world.proofs.Supplies.{shown-off}
use Rattle.bz_world.proofs.Contained.{among-contains, contains-among}
use Rattle.bz_world.proofs.LeavesKept.{same-leaves}
use Rattle.bz_world.proofs.LeftSlots.{count-left}
use Rattle.bz_world.proofs.Tabled.{tabled-plain}
use Rattle.bz_world.proofs.ToldOff.{ShowsNothing, shows-nothing}

-- the laws of a beginning
pub record Begins : Type 0 where
  pub follow : OnsFollow
  pub tells : PowerTellsWhatFollows
  pub begin : PowerOnIsMarked
  pub turns : TurnsMakeNoMark
  pub go_on : RecoveriesGoOn

-- the power is on, and the recovery has asked for its first act
module _ (b : Begins) (p : Parts) (k : IsOff p) (off : p.power ≡ power.Off) (room : length p.journal.past + 3 ≤ p.config.marks) (first next : Recover) (slots : FreeSlots) (new : recovery.IsNew p.config first) (on : recovery.IsNext first Start next) (nodes : slots.nodes ≡ p.slots.nodes) (learns : Learns first p.slots Start next slots) (nothing : WalksIn first k.dark.values p.slots) where
  abbrev turned : Parts
  turned = record p { journal = with_mark p.journal On; power = power.Recovering; recovery = next; slots = slots }

  pub begun : IsRecovering turned recovery.Asked
  begun = record {
    dark = record {
      tabled = let t = k.dark.tabled in tabled-plain p turned On tt (record { room = omega (arith, room); workers = refl; crew = refl; steps = omega (arith, t.steps); power = refl; rest = refl }) refl t;
      sound = b.follow p.config p.at_start p.journal k.dark.sound ((b.tells p.at_start (map_at_start p.config p.journal.start) p.journal.past k.dark.sound.once).off.0 (k.dark.tabled.power ∙ off));
      leaves = (λ now. same-leaves _ _ _ _ refl, k.dark.leaves);
      none = k.dark.none;
      slots = nodes ∙ k.dark.slots;
      values = k.dark.values;
    };
    walks = learns k.dark.values (recovery.words_in p.access) begins.recovering.knows (subst (λ z. tells_in z Start (recovery.words_in p.access)) (sym new.asks) tt) nothing;
    memory = b.turns p.config k.dark.values p.access p.access (with_mark p.journal On) recovery.Made recovery.Asked first next begins refl refl
        (b.go_on p.config k.dark.values p.access first next Start begins.recovering on (subst (λ z. tells_in z Start (recovery.words_in p.access)) (sym new.asks) tt))
        (omega (arith, on.sooner k.dark.values (recovery.words_in p.access) begins.recovering.knows));
  }
    where
      begins : reviving.IsRecoveringIn p.config k.dark.values p.access (with_mark p.journal On) recovery.Made first
      begins = b.begin p.config k.dark.values p.access p.journal first k.memory new

is-below : (n j : ℕ) → j < n → nat_lt j n ≡ true
is-below n j l = grind (arith, nat_tests)

-- the laws of an end
pub record Ends : Type 0 where
  pub follow : ReadysFollow
  pub tells : PowerTellsWhatFollows
  pub revive : RecoveriesGiveLife
  pub end : WalksEnd
  pub begun : BegunLaws

module _ (b : Ends) (p : Parts) (k : MustWake p) (order : IsInOrder p.slots) (holds : Holds (renewed p.access)) (room : length p.journal.past < p.config.marks) where
  reborn : IsReborn p.config p.access p.journal
  reborn = b.revive p.config k.recovering.dark.values p.access p.journal p.recovery k.recovering.memory k.asks

  abbrev life : Story
  life = renewed_story p.config p.access p.journal

  tabled : IsTabled (record p { access = renewed p.access; journal = with_mark p.journal Ready; power = power.On })
  tabled = let t = k.recovering.dark.tabled in tabled-plain p (record p { access = renewed p.access; journal = with_mark p.journal Ready; power = power.On }) Ready tt (record { room = room; workers = refl; crew = refl; steps = omega arith; power = refl; rest = refl }) refl t

  idle-all : (w : ℕ) → doing_of (renewed p.access) w ≡ Idle
  idle-all w = reborn.revived.may_renew.idle w

  slot-by : (w : ℕ) (slot : Option OpenCall) → slot ≡ None → IsSlot p.config (renewed p.access) (with_mark p.journal Ready) life p.owners.items (stock_of p) w slot
  slot-by w None e = record { none_open = k.recovering.memory.calls w; idle = idle-all w; filled = λ j t. absurd (true≢false (sym t)) }
  slot-by w (Some x) e = absurd (cc (e))

  -- exactly the slots that the tree does not reach are free
  reached : AreReached p.config (image_at_on p.journal.start p.journal.past) p.slots
  reached = b.end p.config k.recovering.dark.values p.access p.journal p.recovery p.slots k.recovering.memory k.asks k.recovering.dark.slots k.recovering.walks

  within : (j : ℕ) → is_among p.slots.free j ≡ true → j < p.config.nodes
  within j f = subst (λ n. j < n) reached.nodes (All-contains (λ slot. slot < p.slots.nodes) p.slots.free j order.within (among-contains p.slots.free j f))

  unreached : (j : ℕ) → is_among p.slots.free j ≡ true → j < p.config.nodes → is_reached_in p.config (image_at_on p.journal.start p.journal.past) j ≡ false
  unreached j f l = ap (λ b. nat_lt j p.config.nodes && b) ((reached.free j l).0 (among-contains p.slots.free j f)) ∙ rw (is-below p.config.nodes j l) refl

  held : (j : ℕ) → j < p.config.nodes → is_among p.slots.free j ≡ false → is_reached_in p.config (image_at_on p.journal.start p.journal.past) j ≡ true
  held j l f = by ((form (view_in p.config (image_at_on p.journal.start p.journal.past))).inside j) refl
    where
      by : (b : Bool) → (form (view_in p.config (image_at_on p.journal.start p.journal.past))).inside j ≡ b → is_reached_in p.config (image_at_on p.journal.start p.journal.past) j ≡ true
      by true e = ap (λ b. nat_lt j p.config.nodes && b) e ∙ rw (is-below p.config.nodes j l) refl
      by false e = absurd (true≢false (sym (contains-among p.slots.free j ((reached.free j l).1 e)) ∙ f))

  -- worker 0 alone has acted since the power came on
  nothing : ShowsNothing (since_on p.journal.past)
  nothing = shows-nothing b.tells p.at_start (map_at_start p.config p.journal.start) p.journal.past k.recovering.dark.sound.once
      ((b.tells p.at_start (map_at_start p.config p.journal.start) p.journal.past k.recovering.dark.sound.once).ends_recovery k.after)

  pub woken : IsAwake (record p { access = renewed p.access; journal = with_mark p.journal Ready; power = power.On })
  woken = record {
    on = refl;
    story = life;
    tabled = tabled;
    taken = record {
      shown = λ s l t. absurd (reborn.revived.untaken s l t);
      held = b.begun.taken.renewal p.access;
      few = omega arith;
      notes = record { zero = b.begun.zero.renewal p.access reborn.revived.may_renew; noted = b.begun.noted.renewal p.access };
      unused = λ s l. reborn.revived.unused s;
      only = λ s l seen. absurd (true≢false (sym seen ∙ nothing.begun s));
      unstored = λ j f. nothing.stored p.config j;
    };
    living = reborn.living holds;
    sound = b.follow p.config p.at_start p.journal k.recovering.dark.sound k.after;
    leaves = (λ now. same-leaves _ _ _ _ refl, k.recovering.dark.leaves);
    free = record {
      nodes = reached.nodes;
      within = within;
      fresh = λ j f. unreached j f (within j f);
      untaken = λ v j f. refl;
      others = λ j l f. inl (held j l f);
    };
    workers = λ w. slot-by w (get_or p.workers.items w None) (k.recovering.dark.none w);
    solitary = λ w. none-in (renewed p.access) (Ready ∷ p.journal.past) life p.workers.items w (k.recovering.dark.none w);
  }

  -- so they are as many as it leaves
  pub all-left : length p.slots.free + lab.count_reached p.config p.journal ≡ p.config.nodes
  all-left = count-left (is_reached_in p.config (image_at_on p.journal.start p.journal.past)) 0 p.config.nodes p.slots.free (record {
    rising = order.rising;
    from = λ j f. omega arith;
    below = λ j f. omega (arith, within j f);
    fails = λ j f. unreached j f (within j f);
    all = λ j some few fails. by j (omega (arith, few)) fails (is_among p.slots.free j) refl;
  })
    where
      by : (j : ℕ) → j < p.config.nodes → is_reached_in p.config (image_at_on p.journal.start p.journal.past) j ≡ false → (b : Bool) → is_among p.slots.free j ≡ b → is_among p.slots.free j ≡ true
      by j few fails true e = e
      by j few fails false e = absurd (true≢false (sym (held j few e) ∙ fails))

pub may-renew : RecoveriesGiveLife → (p : Parts) → MustWake p → MayRenew p.access
may-renew revive p k = (revive p.config k.recovering.dark.values p.access p.journal p.recovery k.recovering.memory k.asks).revived.may_renew

pub wakes : Ends → (p : Parts) → MustWake p → IsInOrder p.slots → length p.journal.past < p.config.marks → (access : SwapMemory) (journal : Log) → access ≡ renewed p.access → Holds access → journal ≡ with_mark p.journal Ready
    → Wakes p (record p { access = access; journal = journal; power = power.On })
wakes b p k order room access journal is holds marked = subst (λ (j : Log). Wakes p (record p { access = access; journal = j; power = power.On })) (sym marked)
    (subst (λ (m : SwapMemory). Wakes p (record p { access = m; journal = with_mark p.journal Ready; power = power.On })) (sym is)
    (record { awake = woken b p k order (subst Holds is holds) room; left = all-left b p k order (subst Holds is holds) room; rest = refl }))

-- power on as it is seen: worker 0's first act is no fence
pub seen-on : (p q : Parts) (journal : Log) (next : Recover) (slots : FreeSlots) → p.power ≡ power.Off → journal ≡ with_mark p.journal On → q ≡ record p { access = q.access; journal = journal; power = power.Recovering; recovery = next; slots = slots } → q.access ≡ started p.access 0 (Loading 0) → world_view q ≡ lab.after_on (world_view p)
seen-on p q journal next slots off marked rest is = ap world_view rest
    ∙ (ap (λ (m : SwapMemory). record { config = p.config; at_start = p.at_start; log = journal; flushes = map (λ (v : Working). v.flush_next) m.workers; swapping = map (λ (v : Working). is_swap v.doing) m.workers; left_out = p.left_out.items; supply = record { taken = 0; left = 0 }; at_begin = begun_with p }) is
    ∙ ((λ t. record { config = p.config; at_start = p.at_start; log = marked t; flushes = flushes t; swapping = swapping t; left_out = p.left_out.items; supply = record { taken = 0; left = 0 }; at_begin = begun_with p })
    ∙ ap (λ (s : lab.Supply). record (lab.after_on (world_view p)) { supply = s }) (sym (shown-off p off))))
  where
    flushes : map (λ (v : Working). v.flush_next) (started p.access 0 (Loading 0)).workers ≡ slice_set (map (λ (v : Working). v.flush_next) p.access.workers) 0 false
    flushes = map-set (λ (v : Working). v.flush_next) p.access.workers 0 (record { doing = Loading 0; flush_next = false })

    swapping : map (λ (v : Working). is_swap v.doing) (started p.access 0 (Loading 0)).workers ≡ slice_set (map (λ (v : Working). is_swap v.doing) p.access.workers) 0 false
    swapping = map-set (λ (v : Working). is_swap v.doing) p.access.workers 0 (record { doing = Loading 0; flush_next = false })

pub begun-on : (b : Begins) (p : Parts) (k : IsOff p) (off : p.power ≡ power.Off) (room : length p.journal.past + 3 ≤ p.config.marks) (first next : Recover) (slots : FreeSlots) (new : recovery.IsNew p.config first) (on : recovery.IsNext first Start next)
    → slots.nodes ≡ p.slots.nodes → Learns first p.slots Start next slots → WalksIn first k.dark.values p.slots → (journal : Log) → journal ≡ with_mark p.journal On
    → IsRecovering (record p { journal = journal; power = power.Recovering; recovery = next; slots = slots }) recovery.Asked
begun-on b p k off room first next slots new on nodes learns nothing journal is =
    subst (λ (j : Log). IsRecovering (record p { journal = j; power = power.Recovering; recovery = next; slots = slots }) recovery.Asked) (sym is) (begun b p k off room first next slots new on nodes learns nothing)
