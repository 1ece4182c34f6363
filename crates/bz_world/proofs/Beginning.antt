-- A call that has begun, with the lookup of its key.
use Rattle.std.proofs.Common.{◌≡◌, ◌≢◌, ◌⊎◌, ℕ, suc, ◌+◌, ◌^◌, ◌<◌, ◌≤◌, ◌==◌, ◌&&◌, if◌then◌else◌, Bool, true, false, List, [], ◌∷◌, length, slice_index, slice_set, arith, refl, sym, ap, subst, ◌∙◌, inl, inr, Option, Some, None}
use Rattle.std.specs.Prelude.{get_or, map}
use Rattle.std.specs.Global.{Vec}
use Rattle.std.specs.Vec.{with_item, vec_len}
use Rattle.std.proofs.lemmas.Bool.{cases_eq, cases_lt, true≢false}
use Rattle.std.proofs.lemmas.Bool.Decides.{nat_tests}
use Rattle.std.proofs.lemmas.List.{get_or_read_under, get_or-set_same, get_or-set_other, length-set, map-set}
use Rattle.bz_solo.specs.FromAlone.Brief.{IsBrief}
use Rattle.bz_solo.specs.FromCosts.Resources.{Marks, Descriptors, Slots}
use Rattle.bz_call.specs.Map.{key_of}
use Rattle.bz_call.specs.Pages.{is_page}
use Rattle.bz_call.specs.declared.calls.Call.{Call}
use Rattle.bz_layout.specs.declared.thresholds.TheConstants.{LEAF_RECORD_WORDS}
use Rattle.bz_solo.specs.Errands.{is_read, words_asked, IsLookOf}
use Rattle.bz_solo.specs.Rounds.{IsBegunAt}
use Rattle.bz_solo.specs.Sum.{PaysForRound}
use Rattle.bz_mark.specs.Log.{HasRoom, Limits, with_mark, count_begins, count_page_calls}
use Rattle.bz_mark.specs.declared.marks.Mark.{Mark}
use Rattle.bz_mark.specs.declared.marks.Mark.TheVariants.{Begin, End, Load, Store, Cas, Ask, Fence, Evict, Cut, On, Ready, Effect}
use Rattle.bz_any_task.specs.Duties.{config_of, asks_of, swaps_of, needs_of, wants_of, facts_of, makes_no_change}
use Rattle.bz_any_task.specs.Hearing.{IsLookup}
use Rattle.bz_any_task.specs.Kinds as kinds
use Rattle.bz_any_task.specs.Kinds.{is_look, is_renewal, kind_of}
use Rattle.bz_any_task.specs.Laws.{AreLaws}
use Rattle.bz_any_task.specs.LookingUp.{ForWay, look_of, reads_asked, LooksUpBriefly}
use Rattle.bz_any_task.specs.declared.running.AnyTask.{AnyTask}
use Rattle.bz_sight.specs.Sight.{next_instant}
use Rattle.bz_sound.specs.Calls.{Open, open_call, begun_calls}
use Rattle.bz_sound.specs.Power.Sound.{IsSound}
use Rattle.bz_refinement.specs.Laws.{GoesOn, goes_on}
use Rattle.bz_refinement.specs.Living.{IsLiving}
use Rattle.bz_refinement.specs.Story.{Story, scene}
use Rattle.bz_swap.specs.Held.{Holds}
use Rattle.bz_swap.specs.Starts.{started}
use Rattle.bz_swap.specs.SwapMemory.{SwapMemory, Working, Reading}
use Rattle.bz_task.specs.Scene.{Past, Scene, HasFilled, Waiting}
use Rattle.bz_task.specs.declared.path.Path.{Path}
use Rattle.bz_task.specs.declared.todo.Todo.TheVariants.{Read}
use Rattle.bz_world.specs.Inside.Acted.{IsBetween}
use Rattle.bz_world.specs.Inside.Beginning.{MayBegin, HasBegun, world_view, pages_asked, is_swap}
use Rattle.bz_world.specs.Inside.Due.{only_looks}
use Rattle.bz_world.specs.Inside.Kept.{IsTabled, IsAwake}
use Rattle.bz_world.specs.Inside.Laws.{EndLaws, StartLaws}
use Rattle.bz_world.specs.Inside.Solitary.{WhereSolitary, IsSolitaryGet}
use Rattle.bz_world.specs.Inside.Paid.{bound_in, begun_with, errand_of, stock_of, used_in, HasARoundAs}
use Rattle.bz_world.specs.WorldView.{supply_by, are_closed, run_marks}
use Rattle.bz_solo.specs.declared.rest.Rest.TheVariants as rest
use Rattle.bz_world.specs.Inside.Serving.{IsSlot, IsAtRest}
use Rattle.bz_world.specs.Inside.Telling.{MustStart}
use Rattle.bz_world.specs.declared.parts.Parts.{Parts}
use Rattle.bz_world.specs.declared.serving.OpenCall.{OpenCall}
use Rattle.bz_refinement.proofs.Powered.{stored-since}
use Rattle.bz_world.proofs.Alone.{waits-on}
use Rattle.bz_world.proofs.Counting.{pairs-stay}
use Rattle.bz_world.proofs.LeavesKept.{same-leaves}
use Rattle.bz_world.proofs.Solitary.{acts-begin, all-idle}
use Rattle.bz_world.proofs.Paid.{within-of, begin-runs, each-closed, second-of}
use Rattle.bz_world.proofs.Powered.{is-on}
use Rattle.bz_world.proofs.Spared.{seeks}
use Rattle.bz_world.proofs.Staying.{none-takes-well, none-unfilled, slot-stays}
use Rattle.bz_world.proofs.Exact.{seek-seeks}
use Rattle.bz_world.proofs.Started.{read-kept}
use Rattle.bz_world.proofs.Supplies.{shown-on}

-- a worker has begun no more calls than there are
step-up : (t : Bool) (a b : ℕ) → a ≤ b → (if t then a + 1 else a) ≤ b + 1
step-up true a b l = omega (arith, l)
step-up false a b l = omega (arith, l)

pub few-calls : (w : ℕ) (past : List Mark) → begun_calls w past ≤ count_begins past
few-calls w [] = omega arith
few-calls w (Begin v n call ∷ past) = step-up (v == w) (begun_calls w past) (count_begins past) (few-calls w past)
few-calls w (End v n reply at ∷ past) = few-calls w past
few-calls w (Load v a x ∷ past) = few-calls w past
few-calls w (Store v a x ∷ past) = few-calls w past
few-calls w (Cas v a old new found ∷ past) = few-calls w past
few-calls w (Ask v line ∷ past) = few-calls w past
few-calls w (Fence v ∷ past) = few-calls w past
few-calls w (Evict a ∷ past) = few-calls w past
few-calls w (Cut ∷ past) = few-calls w past
few-calls w (On ∷ past) = few-calls w past
few-calls w (Ready ∷ past) = few-calls w past
few-calls w (Effect v n ∷ past) = few-calls w past

module _ (p : Parts) (k : IsAwake p) (w : ℕ) (call : Call) (may : MayBegin p w call) where
  in-table : w < 65
  in-table = omega (arith, may.within, k.tabled.config.workers_in_range.at_most)

  pub number-is : (n : ℕ) → n ≡ get_or p.numbers.items w n → n ≡ begun_calls w p.journal.past
  number-is n e = get_or_read_under p.numbers.items w (length p.numbers.items) n 0 e (omega (arith, in-table, k.tabled.number_places)) refl ∙ k.tabled.counted w in-table

  -- its number is small
  pub few-numbers : (n : ℕ) → n ≡ get_or p.numbers.items w n → n + 1 < 2 ^ 32
  few-numbers n e = omega (arith, number-is n e, few-calls w p.journal.past, k.tabled.begins, k.tabled.few_begins, k.tabled.config.calls_in_range.at_most)

  pub in-numbers : w < vec_len p.numbers
  in-numbers = omega (arith, in-table, k.tabled.number_places, p.numbers.ok.0)

  -- there is room for its mark
  pub begin-room : (n : ℕ) → HasRoom p.journal (Begin w n call)
  begin-room n = record {
    place = subst (λ (l : Limits). length p.journal.past < l.marks) (sym k.tabled.limits) (omega (arith, may.room));
    table = subst (λ (l : Limits). count_begins p.journal.past < l.calls) (sym k.tabled.limits) (omega (arith, may.calls, k.tabled.begins));
  }

  at-rest : IsAtRest p.access p.journal k.story w
  at-rest = subst (IsSlot p.config p.access p.journal k.story p.owners.items (stock_of p) w) may.none_open (k.workers w)

  module _ (b : EndLaws) (s : StartLaws) (n : ℕ) (numbered : n ≡ begun_calls w p.journal.past + 1) (task : AnyTask) (config : config_of task ≡ p.config) (laws : AreLaws task) (looks : makes_no_change task ≡ true)
      (lookup : (way : Option Path) → IsLookup (key_of call) way task) (asks : asks_of task ≡ Some (Read 2)) (facts : (z : Scene) → HasFilled z → facts_of task Waiting z) (wants : wants_of task ≡ 0) (look : look_of task ≡ ForWay) (reads : reads_asked task ≡ 1) (brief : LooksUpBriefly task) (swaps : swaps_of task ≡ 0)
      (kind : kind_of task ≡ kinds.Seek) (begun : (q : Past) → q.since ≡ q.now → IsBegunAt task q q) (few : words_asked call ≤ LEAF_RECORD_WORDS + 1) where
    abbrev mark : Mark
    mark = Begin w n call

    abbrev fresh : OpenCall
    fresh = record { call = call; task = task; path = None; had = None; effect = None; alone = false; froze = false; rest = rest.Leaf }

    abbrev opened : Open
    opened = record { number = n; call = call; begun = length p.journal.past; effect = None }

    abbrev workers : Vec (Option OpenCall)
    workers = with_item p.workers w (Some fresh)

    abbrev pub mid : Parts
    mid = record p { journal = with_mark p.journal mark; workers = workers; numbers = with_item p.numbers w n; taken_then = p.access.taken; left_then = length p.slots.free; begun = p.begun + 1; pages_begun = p.pages_begun + pages_asked call }

    no-act : GoesOn p.config p.access p.access p.journal k.story mark
    no-act = record {
      living = k.living;
      passes = record {
        same = record { swaps = refl; phase = refl; begun = refl; size = refl };
        holds = k.living.seen.holds;
        fields = k.living.seen.fields;
        quiet = record { values = λ a n. refl; swaps = λ t. refl };
        settled = λ a cached settled. settled;
        awaits = λ v a cached awaits. awaits;
        cached = λ a o n. inl refl;
      };
      keeps = λ v a held fence private. refl;
      marked = k.living.words;
      past = record { count = k.living.past.count; since = k.living.past.since; asks = k.living.past.asks; workers = k.living.past.workers };
      powered = tt;
    }

    abbrev after : Story
    after = goes_on p.journal k.story p.access k.story.filled

    lives : IsLiving p.config p.access (with_mark p.journal mark) after
    lives = b.lives p.config p.access p.access p.journal k.story mark k.story.filled no-act (λ v j f. stored-since p.config p.journal.past mark j tt (k.living.stored v j f))

    slot-of : (v : ℕ) → v ≢ w → IsSlot p.config p.access (with_mark p.journal mark) after p.owners.items (stock_of mid) v (get_or workers.items v None)
    slot-of v ne = subst (IsSlot p.config p.access (with_mark p.journal mark) after p.owners.items (stock_of mid) v) (sym (get_or-set_other p.workers.items w v (Some fresh) None ne))
        (slot-stays b.scenes b.stay p.config p.access p.access p.journal mark k.story after p.owners.items (stock_of p) (stock_of mid) v (get_or p.workers.items v None) lives (record {
          same = record { doing = refl; begun = refl; taken = refl; size = refl; effects = λ t d. refl };
          calls = (b.calls v p.journal.past).other_begin w n call (λ e. ne (sym e));
          from = refl;
          lawful = λ m o begins. b.quiet p.config p.access p.access p.journal k.story mark v m o no-act (λ a out n. refl) begins;
          took = λ j. refl;
          filled = λ j e. e;
          alone = λ m o t l waits. waits-on p.config p.access p.access p.journal.past mark k.story after v m o o t (next_instant p.access (k.story.at (length p.journal.past))) refl l waits refl refl (λ j d. refl) (λ j d well. well);
        }) (λ y t runs. absurd (ne (sym (begin-runs p.config w v n call p.journal.past runs)))) (none-takes-well p.config p.access p.access p.journal mark k.story after p.owners.items (stock_of p) (stock_of mid) v (λ solitary. ne (sym solitary.0))) (k.workers v))

    -- the tables
    own-count : (t : Bool) → t ≡ true → n ≡ (if t then begun_calls w p.journal.past + 1 else begun_calls w p.journal.past)
    own-count true e = numbered
    own-count false e = absurd (true≢false (sym e))

    other-count : (t : Bool) (v : ℕ) → t ≡ false → begun_calls v p.journal.past ≡ (if t then begun_calls v p.journal.past + 1 else begun_calls v p.journal.past)
    other-count true v e = absurd (true≢false e)
    other-count false v e = refl

    counted : (v : ℕ) → v < 65 → slice_index (slice_set p.numbers.items w n) v ≡ begun_calls v (mark ∷ p.journal.past)
    counted v l = elim (cases_eq v w) [
      | inl e ↦ subst (λ u. slice_index (slice_set p.numbers.items w n) u ≡ begun_calls u (mark ∷ p.journal.past)) (sym e)
          (get_or-set_same p.numbers.items w n 0 (omega (arith, in-table, k.tabled.number_places)) ∙ own-count (w == w) (grind (arith, nat_tests)))
      | inr ne ↦ get_or-set_other p.numbers.items w v n 0 ne ∙ (k.tabled.counted v l ∙ other-count (w == v) v (grind (arith, nat_tests)))
    ]

    page-count : (t : Bool) (a b : ℕ) → a ≡ b → a + (if t then 1 else 0) ≡ (if t then b + 1 else b)
    page-count true a b e = omega (arith, e)
    page-count false a b e = omega (arith, e)

    not-stranger : (v : ℕ) → ((v ≡ 0) ⊎ (p.config.workers < v)) → w ≢ v
    not-stranger v (inl zero) e = absurd (omega (arith, zero, e, may.worker))
    not-stranger v (inr beyond) e = absurd (omega (arith, beyond, e, may.within))

    tabled : IsTabled mid
    tabled = let t = k.tabled in record {
      config = t.config;
      limits = t.limits;
      marks = omega (arith, may.room);
      places = length-set p.workers.items w (Some fresh) ∙ t.places;
      number_places = length-set p.numbers.items w n ∙ t.number_places;
      owner_places = t.owner_places;
      crew = t.crew;
      counted = counted;
      strangers = λ v o. (b.calls v p.journal.past).other_begin w n call (not-stranger v o) ∙ t.strangers v o;
      begins = omega (arith, t.begins);
      few_begins = omega (arith, may.calls);
      page_calls = page-count (is_page call) p.pages_begun (count_page_calls p.journal.past) t.page_calls;
      few_page_calls = may.pages;
      steps = omega (arith, t.steps);
      pairs = pairs-stay p.config p.journal.start p.journal.past mark p.pairs (λ map. refl) t.pairs;
      power = t.power;
    }

    sound : IsSound p.config p.at_start (with_mark p.journal mark)
    sound = b.begins p.config p.at_start p.journal w n call k.sound (record { worker = omega (arith, may.worker); powered = is-on p k.tabled k.on; begins = record { numbered = numbered; none_open = at-rest.none_open } })

    between : IsBetween mid w fresh
    between = record {
      on = k.on;
      story = after;
      tabled = tabled;
      taken = assumption k.taken;
      living = lives;
      sound = sound;
      leaves = (λ now. same-leaves _ _ _ _ refl, k.leaves);
      free = k.free;
      others = slot-of;
      worker = may.worker;
      within = may.within;
      opened = opened;
      call_open = record { is_open = (b.calls w p.journal.past).own_begin n call; call = refl; effect = refl; look = record { since = suc (length p.journal.past); after_begin = omega arith; by_now = omega arith }; told = λ at e. absurd (cc e); wanted = λ quiet some. absurd (omega (arith, some, wants)) };
      idle = at-rest.idle;
      due = λ quiet solitary. inr (record { looks = ap (only_looks call) kind; thawed = refl; same_taken = refl; same_left = refl });
      steps = λ v is. sym (begin-runs p.config w v n call p.journal.past is);
    }

    abbrev here : Scene
    here = scene p.config (mark ∷ p.journal.past) after w (suc (length p.journal.past)) opened

    none-taken : HasFilled (scene p.config (mark ∷ p.journal.past) after w (suc (length p.journal.past)) opened)
    none-taken i e = at-rest.filled i e

    -- it is paid for, by as much as is promised for each call where no other is open
    none-open : are_closed p.config.workers p.journal.past ≡ true → (v : ℕ) → open_call v p.journal.past ≡ None
    none-open closed v = elim (cases_lt p.config.workers v) [
      | inl many ↦ k.tabled.strangers v (inr many)
      | inr few ↦ each-closed p.config.workers p.journal.past closed v (omega (arith, few))
    ]

    unfrozen : (errand_of fresh).froze ≡ true → is_read call ≡ false
    unfrozen froze = absurd (true≢false (sym froze))

    -- of marks, whatever the others do
    marks-by : (b : Bool) → are_closed p.config.workers p.journal.past ≡ b → PaysForRound Marks p.access w (errand_of fresh) (used_in Marks mid w) (suc (length p.journal.past) + run_marks p.config b) here.past
    marks-by true closed = s.solo.paid.first Marks p.access w (errand_of fresh) (used_in Marks mid w) (suc (length p.journal.past) + run_marks p.config true) here.past (all-idle p k (none-open closed)) unfrozen (omega (arith, s.solo.paid.idle p.access w (all-idle p k (none-open closed))))
    marks-by false some = s.solo.paid.round p.config p.access w (errand_of fresh) (suc (length p.journal.past) + run_marks p.config false) here.past (record { config = k.tabled.config; size = k.tabled.crew; worker = may.worker; within = may.within; zero = k.taken.notes.zero }) unfrozen
        (omega (arith, s.solo.paid.affordable p.config k.tabled.config))

    own : (w == w) ≡ true
    own = grind (arith, nat_tests)

    pays : HasARoundAs mid w (errand_of fresh) here.past
    pays Marks counted = subst (λ (own : Bool). PaysForRound Marks p.access w (errand_of fresh) (used_in Marks mid w) (suc (length p.journal.past) + run_marks p.config (own && are_closed p.config.workers p.journal.past)) here.past) (sym own) (marks-by (are_closed p.config.workers p.journal.past) refl)
    pays Descriptors counted = s.solo.paid.first Descriptors p.access w (errand_of fresh) (used_in Descriptors mid w) (bound_in Descriptors mid w) here.past (all-idle p k (none-open (second-of (w == w) (are_closed p.config.workers p.journal.past) counted))) unfrozen (omega arith)
    pays Slots counted = s.solo.paid.first Slots p.access w (errand_of fresh) (used_in Slots mid w) (bound_in Slots mid w) here.past (all-idle p k (none-open (second-of (w == w) (are_closed p.config.workers p.journal.past) counted))) unfrozen (omega arith)

    -- where no other call is open it is a brief look-up
    solitary-begun : WhereSolitary (mark ∷ p.journal.past) w call (IsSolitaryGet (started p.access w (Reading 2)) (mark ∷ p.journal.past) after w fresh opened)
    solitary-begun key get solitary = record {
      brief = subst (λ acts. IsBrief (started p.access w (Reading 2)) w acts key None task) (sym (acts-begin w n p.journal.past call)) (b.solitary.brief.begins p.access w 2 key task (all-idle p k solitary.1) look reads);
      looks = brief;
      alone = refl;
      quiet = refl;
      thawed = refl;
    }

    pub must-start : MustStart mid w (Read 2)
    unfolding between
    must-start = record {
      serving = fresh;
      is = get_or-set_same p.workers.items w (Some fresh) None (omega (arith, in-table, k.tabled.places));
      asking = record {
        between = between;
        tasked = record { config = config; laws = laws; lookup = lookup None; change = inl looks; wayless = λ none. lookup };
        asks = asks;
        finished = inl (inl refl);
        facts = facts (scene p.config (mark ∷ p.journal.past) after w (suc (length p.journal.past)) opened) none-taken;
        covered = none-unfilled (k.story.took w) (k.story.filled w) (needs_of task) (omega (arith, laws.few, laws.most)) at-rest.filled;
        solitary = solitary-begun;
        alone = record { others = 0; made = 0; counted = omega arith; stands = λ ends. absurd (cc ends) };
        meant = record { within = within-of task (λ a e. absurd (let other : kinds.Seek ≡ kinds.SplitLeaf a = sym kind ∙ e in cc other)); fit = record { words = few; thawed = λ froze. absurd (true≢false (sym froze)); quiet = λ quiet. refl }; look = λ quiet. subst (IsLookOf call) (sym kind) (seeks call); meant = λ quiet. inl (record { slots = wants; swaps = inl (ap is_look kind) }); later = λ at is. ap is_renewal kind; small = λ merge. absurd (let other : kinds.Seek ≡ kinds.Merge = sym kind ∙ merge in cc other); copied = λ copy. absurd (let other : kinds.Seek ≡ kinds.Copy = sym kind ∙ copy in cc other); first = λ other. refl };
        merges = λ solitary. record { looking = λ quiet seek. omega arith; deleting = λ quiet delete on. absurd (cc (kind, delete)); merging = λ at is deletes. absurd (cc is) };
        exact = λ solitary room. inl (record { quiet = refl; looks = seek-seeks (kind_of task) kind; thawed = refl; same_taken = refl; same_left = refl; first = refl; alone = omega arith });
        paid = λ r counted. s.solo.rounds.begin r p.access w (errand_of fresh) task (used_in r mid w) (bound_in r mid w) 2 here.past here.past (begun here.past refl) (pays r counted);
      };
    }

    -- so the call has begun once its first read is started
    pub has-begun : (new : SwapMemory) → new ≡ started p.access w (Reading 2) → Holds new → HasBegun p w call n (record mid { access = new })
    has-begun new is holds = record {
      kept = read-kept s mid w 2 must-start new is holds;
      number = numbered;
      after = ap (λ (m : SwapMemory). record (world_view p) { log = with_mark p.journal mark; flushes = map (λ (v : Working). v.flush_next) m.workers; swapping = map (λ (v : Working). is_swap v.doing) m.workers; supply = supply_by p.power (record { taken = m.taken; left = length p.slots.free }); at_begin = begun_with mid }) is
          ∙ (λ t. record (world_view p) { log = with_mark p.journal mark; flushes = flushes t; swapping = swapping t; at_begin = sym (shown-on p may.on) t });
    }
      where
        flushes : map (λ (v : Working). v.flush_next) (started p.access w (Reading 2)).workers ≡ slice_set (map (λ (v : Working). v.flush_next) p.access.workers) w false
        flushes = map-set (λ (v : Working). v.flush_next) p.access.workers w (record { doing = Reading 2; flush_next = false })

        swapping : map (λ (v : Working). is_swap v.doing) (started p.access w (Reading 2)).workers ≡ slice_set (map (λ (v : Working). is_swap v.doing) p.access.workers) w false
        swapping = map-set (λ (v : Working). is_swap v.doing) p.access.workers w (record { doing = Reading 2; flush_next = false })
