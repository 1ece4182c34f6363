-- A task that was told something asks for something else, and the world but for it is as it was.
use Rattle.std.proofs.Common.{◌≡◌, ◌≢◌, ℕ, ◌+◌, ◌-◌, ◌<◌, ◌≤◌, ◌||◌, Bool, true, false, List, length, arith, refl, sym, ap, subst, ◌∙◌, inl, inr, Option, Some, None}
use Rattle.std.specs.Prelude.{get_or}
use Rattle.std.specs.Global.{Vec}
use Rattle.std.specs.Vec.{with_item}
use Rattle.std.proofs.lemmas.Bool.{true≢false}
use Rattle.std.proofs.lemmas.List.{get_or-set_same, get_or-set_other, length-set}
use Rattle.bz_call.specs.Map.{key_of}
use Rattle.bz_call.specs.declared.replies.Spent.TheVariants.{Nodes, Swaps}
use Rattle.bz_layout.specs.Slots.{FreeSlots}
use Rattle.bz_layout.specs.declared.config.Config.{Config}
use Rattle.bz_solo.specs.FromAlone.Undisturbed.{IsUndisturbed}
use Rattle.bz_any_task.specs.Duties.{asks_of, end_of, made_of, needs_of, facts_of, differs_of}
use Rattle.bz_any_task.specs.Hearing.{IsLookup, HasHeard}
use Rattle.bz_any_task.specs.declared.running.AnyTask.{AnyTask}
use Rattle.bz_sight.specs.Starts.{Sees}
use Rattle.bz_sound.specs.Calls.{Open}
use Rattle.bz_refinement.specs.Laws.{ScenesAreSeen, SlotsAreTaken, takes_slots}
use Rattle.bz_refinement.specs.Living.{IsLiving}
use Rattle.bz_refinement.specs.Story.{Story, scene}
use Rattle.bz_task.specs.OwnActs.{AreTakenFrom, AreUnreached, gained, is_gained}
use Rattle.bz_task.specs.Outcomes.{IsPath}
use Rattle.bz_task.specs.Requests.{effects_in}
use Rattle.bz_task.specs.Scene.{Scene, Waiting, IsScene}
use Rattle.bz_task.specs.declared.path.Path.{Path}
use Rattle.bz_task.specs.declared.todo.Outcome.TheVariants as outcome
use Rattle.bz_task.specs.declared.todo.Seen.{Seen}
use Rattle.bz_task.specs.declared.todo.Seen.TheVariants.{NoSwap}
use Rattle.bz_task.specs.declared.todo.Todo.{Todo}
use Rattle.bz_world.specs.Inside.Acted.{IsTold, IsAsking, MustTell}
use Rattle.bz_world.specs.Inside.Alone.{HasWaited, AsksUndisturbed}
use Rattle.bz_world.specs.Inside.Due.{IsDue, TakesRightly, only_looks}
use Rattle.bz_world.specs.Inside.Exact.{CountsExactly, IsExact, reach_idle}
use Rattle.bz_world.specs.Inside.Going.{end_in, wants_in}
use Rattle.bz_world.specs.Inside.Laws.{UndisturbedLaws, SolitaryLaws, RoundLaws}
use Rattle.bz_world.specs.Inside.Solitary.{WhereSolitary, AsksBriefly}
use Rattle.bz_layout.specs.declared.thresholds.TheConstants.{SLOTS_PER_CALL}
use Rattle.bz_solo.specs.FromCosts.Resources.{Slots}
use Rattle.bz_solo.specs.FromCosts.Weights.{start_takes}
use Rattle.bz_solo.specs.Errands.{Errand}
use Rattle.bz_solo.specs.Prices.{coming}
use Rattle.bz_solo.specs.Rounds.{stage_now}
use Rattle.bz_solo.specs.Sum.{Spares}
use Rattle.bz_any_task.specs.Kinds as kinds
use Rattle.bz_any_task.specs.Kinds.{kind_of}
use Rattle.bz_world.specs.Inside.Meant.{IsMeant}
use Rattle.bz_world.specs.Inside.Paid.{begun_with, bound_in, errand_of, stock_of, used_in, used_of, IsPaidIn}
use Rattle.bz_world.specs.WorldView.{HadFew, RunsWhole}
use Rattle.bz_world.specs.Inside.Serving.{IsCovered, IsToldBy, IsTasked, IsSlot, IsChangeFor, NeedsAtLeast, MayGoOn, tells_of}
use Rattle.bz_world.specs.Inside.Telling.{CanHear, HasTold, HasToldIn, MustStart, KnowsWay, MustStartOf}
use Rattle.bz_world.specs.declared.parts.Parts.{Parts}
use Rattle.bz_world.specs.declared.serving.OpenCall.{OpenCall}
use Rattle.bz_sound.specs.Power.Times.{image_at_on}
use Rattle.bz_world.proofs.Alone.{cause-none}
use Rattle.bz_world.proofs.Due.{looks-only, not-solitary}
use Rattle.bz_world.proofs.ExactTold.{exact-told}
use Rattle.bz_world.proofs.SolitaryTold.{told-solitary, took-solitary}
use Rattle.bz_world.proofs.Meant.{call-meant-told}
use Rattle.bz_world.proofs.PaidSteps.{heard-in}
use Rattle.bz_world.proofs.Powered.{begun-in}
use Rattle.bz_world.proofs.Staying.{covered-stays, slot-scenes}
use Rattle.bz_world.proofs.Takings.{covered-taken, may-take, no-more-free, still-free, was-free}
use Rattle.bz_world.proofs.Tabled.{tabled-beside}
use Rattle.bz_task.specs.declared.todo.Todo.TheVariants.{Finish}
use Rattle.bz_world.specs.Inside.Merging.{IsDuly, MergesDuly}
use Rattle.bz_world.proofs.MergingTold.{duly-told}

-- the slot has a task that was told
pub record IsNext (x : OpenCall) (seen : Seen) (moment : ℕ) (free : FreeSlots) (todo : Todo) (slot : Option OpenCall) (left : FreeSlots) : Type 0 where
  pub next : OpenCall
  pub is : slot ≡ Some next
  pub told : HasTold x seen moment free todo next left

next-of : (x : OpenCall) (seen : Seen) (moment : ℕ) (free : FreeSlots) (todo : Todo) (slot : Option OpenCall) (left : FreeSlots) → HasToldIn (Some x) seen moment free todo slot left → IsNext x seen moment free todo slot left
next-of x seen moment free todo None left h = absurd h
next-of x seen moment free todo (Some y) left h = record { next = y; is = refl; told = h }

-- a task that has ended for want of slots found fewer than it takes in all; and where its worker steps alone from the begin of its call on, there
-- were few at that begin, since those that it takes are paid for
pub full-rightly : RoundLaws → (p : Parts) (w : ℕ) (seen : Seen) (m : MustTell p w seen) (moment : ℕ) (todo : Todo) (slot : Option OpenCall) (left : FreeSlots) → HasToldIn (Some m.serving) seen moment p.slots todo slot left → end_in slot ≡ Some (outcome.Full Nodes)
    → (length left.free < wants_in slot) × (RunsWhole p.config w p.journal.past → HadFew p.config (begun_with p) Nodes)
full-rightly b p w seen m moment todo slot left told ended = (
  omega (arith, lacked, m.told.tasked.laws.few, n.told.heard.wants, ap wants_in n.is, no-more-free (needs_of m.serving.task) (needs_of n.next.task) p.slots left n.told.heard.goes.slots),
  λ whole. few (b.afforded Slots p.access w (errand_of m.serving) m.serving.task (effects_in seen) 0 (used_in Slots p w) (bound_in Slots p w) (scene p.config p.journal.past m.told.between.story w m.told.between.call_open.look.since m.told.between.opened).past (m.told.paid Slots whole)),
)
  where
    n : IsNext m.serving seen moment p.slots todo slot left
    n = next-of m.serving seen moment p.slots todo slot left told

    lacked : length p.slots.free < needs_of m.serving.task
    lacked = n.told.heard.goes.full_nodes (sym (ap end_in n.is) ∙ ended)

    few : p.left_then - length p.slots.free + (0 + needs_of m.serving.task) + 0 ≤ SLOTS_PER_CALL → p.left_then < SLOTS_PER_CALL
    few enough = omega (arith, enough, lacked)

-- and one that has ended for want of a descriptor was told so
pub lacked-told : (p : Parts) (w : ℕ) (seen : Seen) (m : MustTell p w seen) (moment : ℕ) (todo : Todo) (slot : Option OpenCall) (left : FreeSlots) → HasToldIn (Some m.serving) seen moment p.slots todo slot left → end_in slot ≡ Some (outcome.Full Swaps) → seen ≡ NoSwap
lacked-told p w seen m moment todo slot left told ended = let n : IsNext m.serving seen moment p.slots todo slot left = next-of m.serving seen moment p.slots todo slot left told in n.told.heard.goes.full_swaps (sym (ap end_in n.is) ∙ ended)

-- of a task that takes none, none is gone, and it takes none later
slots-fewer : (before after : ℕ) (free left : FreeSlots) → AreTakenFrom before after free left → after ≤ before
slots-fewer before after free left (inl all) = omega (arith, all.none_left)
slots-fewer before after free left (inr none) = none.fewer

slots-same : (before after : ℕ) (free left : FreeSlots) → before ≡ 0 → AreTakenFrom before after free left → left ≡ free
slots-same before after free left zero (inl all) = absurd (omega (arith, zero, all.some))
slots-same before after free left zero (inr none) = none.slots

-- a look-up that was told something is one as before
looks-still : (old new : AnyTask) (seen : Seen) (moment : ℕ) (free : FreeSlots) (todo : Todo) (left : FreeSlots) (key : List ℕ) (way : Option Path) → IsLookup key way old → HasHeard old seen moment free todo new left → IsLookup key way new
looks-still old new seen moment free todo left key way l h = record {
  path = λ path s means. l.path path s (h.goes.meant (outcome.Path path) s means);
  view = λ view s means. l.view view s (h.goes.meant (outcome.View view) s means);
  found = λ view s means. l.found view s (h.goes.meant (outcome.Key view) s means);
  leads = λ path is view s means. l.leads path is view s (h.goes.meant (outcome.View view) s means);
  leads_found = λ path is view s means. l.leads_found path is view s (h.goes.meant (outcome.Key view) s means);
  ascent = λ a is. l.ascent a (sym h.ascent ∙ is);
}

module _ (scenes : ScenesAreSeen) (slots : SlotsAreTaken) (laws : SolitaryLaws) (solo : UndisturbedLaws) (p : Parts) (w : ℕ) (seen : Seen) (m : MustTell p w seen) where
  abbrev x : OpenCall
  x = m.serving

  abbrev told : IsTold p w x seen
  told = m.told

  abbrev here : Scene
  here = scene p.config p.journal.past told.between.story w told.between.call_open.look.since told.between.opened

  sees : Sees p.config (told.between.story.at (length p.journal.past)) here
  sees = scenes p.config p.access p.journal told.between.story w told.between.call_open.look.since told.between.opened told.between.living (begun-in told.between.living told.between.call_open)

  pub can-hear : (slot : Option OpenCall) → slot ≡ Some x → CanHear slot seen (length p.journal.past) p.slots
  can-hear slot e = subst (λ z. CanHear z seen (length p.journal.past) p.slots) (sym e) (
    told.hears,
    record {
      stage = told.stage;
      scene = here;
      config = sym told.tasked.config;
      now = refl;
      good = sees.scene;
      holds = told.facts;
      tells = told.tells;
    },
    λ some. told.between.free.nodes ∙ ap (λ (c : Config). c.nodes) (sym told.tasked.config),
  )

  -- no link has led to a free slot
  unreached : AreUnreached here p.slots
  unreached k free = go ((told.between.story.at (length p.journal.past)).reached k) refl
    where
      go : (t : Bool) → (told.between.story.at (length p.journal.past)).reached k ≡ t → (told.between.story.at (length p.journal.past)).reached k ≡ false
      go false e = e
      go true e = absurd (elim (told.between.living.came k e) [
        | inl start ↦ true≢false (sym start ∙ told.between.free.fresh k free)
        | inr took ↦ true≢false (sym took.1 ∙ told.between.free.untaken took.0 k free)
      ])

  module _ (todo : Todo) (left : FreeSlots) (y : OpenCall) (h : HasTold x seen (length p.journal.past) p.slots todo y left) where
    tasked : IsTasked p.config y.call y.path y.had y.task
    tasked = subst (λ (z : OpenCall). IsTasked p.config z.call z.path z.had y.task) (sym h.rest) (record {
      config = h.heard.goes.config ∙ told.tasked.config;
      laws = h.laws;
      lookup = looks-still x.task y.task seen (length p.journal.past) p.slots todo left (key_of x.call) x.path told.tasked.lookup h.heard;
      wayless = λ none other. looks-still x.task y.task seen (length p.journal.past) p.slots todo left (key_of x.call) other (told.tasked.wayless none other) h.heard;
      change = elim told.tasked.change [
        | inl look ↦ inl (h.heard.silent ∙ look)
        | inr is ↦ inr (subst (IsChangeFor x.call x.had) (sym h.heard.goes.change) is)
      ];
    })

    -- what the worker took is its own then
    abbrev after : Story
    after = takes_slots told.between.story w p.slots left

    later : scene p.config p.journal.past after w told.between.call_open.look.since told.between.opened ≡ gained here p.slots left
    later = slots.own p.config p.journal.past told.between.story w told.between.call_open.look.since told.between.opened p.slots left

    facts : facts_of y.task Waiting (scene p.config p.journal.past after w told.between.call_open.look.since told.between.opened)
    facts = subst (facts_of y.task Waiting) (sym later) (h.heard.learns told.stage here refl (sym told.tasked.config) sees.scene (λ some. unreached) told.facts told.tells)

    covered : IsCovered (after.took w) (told.between.story.filled w) (needs_of y.task)
    covered = covered-stays (λ k. told.between.story.took w k || is_gained p.slots left k) (after.took w) (told.between.story.filled w) (told.between.story.filled w) (needs_of y.task) (λ k. ap (λ (z : Scene). z.took k) later) (λ k e. e)
        (covered-taken (told.between.story.took w) (told.between.story.filled w) (needs_of x.task) (needs_of y.task) p.slots left h.heard.goes.slots told.covered)

    solitary : WhereSolitary p.journal.past w y.call (λ key. AsksBriefly p.access p.journal.past after w y told.between.opened key todo)
    solitary key get alone = took-solitary p.access p.journal.past told.between.story w y told.between.opened key p.slots left todo (told-solitary laws p w x seen told sees.scene (length p.journal.past) todo left y h key get alone)

    -- where nobody else's swap took effect it has not ended to begin again
    not-again : told.alone.others ≡ 0 → end_of y.task ≢ Some outcome.Restart
    not-again none ends = told.alone.wins none (elim (h.heard.goes.restart ends) [
      | inl lost ↦ lost
      | inr differs ↦ (solo.refused x.task y.task seen (length p.journal.past) p.slots left todo told.stage here h.heard ends (sym told.tasked.config) sees.scene told.facts told.tells (undisturbed-by none differs)).answer
    ])
      where
        undisturbed-by : told.alone.others ≡ 0 → differs_of x.task seen → IsUndisturbed (made_of x.task) here.past
        undisturbed-by none differs =
            let waited : HasWaited x.task = told.alone.waited in
            let untold : effects_in seen ≡ 0 = cause-none (asks_of x.task) seen waited.scene (told.tasked.laws.sound.cause waited.scene seen waited.config waited.facts differs) in
            omega (arith, told.alone.counted, none, untold)

    asks-undisturbed : AsksUndisturbed y.task todo here.past
    asks-undisturbed = record { others = told.alone.others; made = made_of x.task + effects_in seen; counted = told.alone.counted; stands = λ ends none. not-again none }

    -- and it is meant for what it was
    still-meant : IsMeant y here.past
    still-meant = call-meant-told x here.past seen (length p.journal.past) p.slots todo y left h told.meant

    -- the start of its next act is paid for
    still-paid : IsPaidIn p.config p.access p.journal.past (record (stock_of p) { left = length left.free }) w (errand_of y) y.task 0 (λ r. start_takes r todo) here.past
    still-paid = subst (λ (e : Errand). IsPaidIn p.config p.access p.journal.past (record (stock_of p) { left = length left.free }) w e y.task 0 (λ r. start_takes r todo) here.past) (sym (ap errand_of h.rest))
        (heard-in solo.paid p.config p.access p.journal.past (stock_of p) w (errand_of x) x.task y.task seen (length p.journal.past) p.slots left todo here.past refl h.heard told.tasked.laws h.laws told.hears
        (λ alone. not-again (omega (arith, told.alone.counted, alone))) told.paid)

    living : IsLiving p.config p.access p.journal after
    living = slots.living p.config p.access p.journal told.between.story w p.slots left told.between.living told.between.idle (may-take p.config (image_at_on p.journal.start p.journal.past) told.between.story p.slots left told.between.free)

    other : (v : ℕ) → v ≢ w → (since : ℕ) (opened : Open) → scene p.config p.journal.past after v since opened ≡ scene p.config p.journal.past told.between.story v since opened
    other v ne since opened = slots.others p.config p.journal.past told.between.story w v since opened p.slots left ne

    -- a look-up has taken nothing more
    still-right : TakesRightly p.config p.access.taken p.journal (record (stock_of p) { left = length left.free }) w y
    still-right quiet solitary = elim (told.between.due (sym (ap (λ (z : OpenCall). z.effect) h.rest) ∙ quiet) solitary) [
      | inl due ↦ inl (subst (λ (z : OpenCall). IsDue p.config p.journal z.call) (sym h.rest) due)
      | inr none ↦ inr (record {
        looks = ap (λ (z : OpenCall). only_looks z.call (kind_of y.task)) h.rest ∙ (ap (only_looks x.call) h.heard.kind ∙ none.looks);
        thawed = ap (λ (z : OpenCall). z.froze) h.rest ∙ none.thawed;
        same_taken = none.same_taken;
        same_left = ap (λ (f : FreeSlots). length f.free) (slots-same (needs_of x.task) (needs_of y.task) p.slots left (told.tasked.laws.looks (looks-only x.call (kind_of x.task) none.looks)).needs h.heard.goes.slots) ∙ none.same_left;
      })
    ]

    -- the way of its change to a leaf with room
    still-exact : CountsExactly p.config p.journal w told.between.opened here.past (reach_idle p.access) (record (stock_of p) { left = length left.free }) (tells_of y) y
    still-exact solitary room = subst (λ (z : OpenCall). IsExact told.between.opened here.past (reach_idle p.access) (record (stock_of p) { left = length left.free }) (tells_of z) z) (sym h.rest)
        (exact-told told.between.opened here.past p.access.taken (stock_of p) (tells_of x) x y.task seen (length p.journal.past) p.slots todo left h.heard told.tasked.laws h.laws told.hears told.alone.others told.alone.counted not-again
        (λ o e. (scene p.config p.journal.past after w told.between.call_open.look.since told.between.opened, (h.laws.sound.ends (scene p.config p.journal.past after w told.between.call_open.look.since told.between.opened) o facts e).0)) refl
        (λ none. slots-same (needs_of x.task) (needs_of y.task) p.slots left none h.heard.goes.slots) (told.exact solitary room))

    -- and the merge that is due: it does not lack a neighbour, and no slots but for a split
    good : IsScene (scene p.config p.journal.past after w told.between.call_open.look.since told.between.opened)
    good = (solo.scenes p.config p.access p.journal after w told.between.call_open.look.since told.between.opened living (record { from = (begun-in told.between.living told.between.call_open).from; by_now = told.between.call_open.look.by_now })).scene

    still-duly : MergesDuly p.config p.journal w told.between.opened here.past (reach_idle p.access) (record (stock_of p) { left = length left.free }) y
    still-duly solitary = subst (λ (z : OpenCall). IsDuly p.config p.journal told.between.opened here.past (reach_idle p.access) (record (stock_of p) { left = length left.free }) z) (sym h.rest)
        (duly-told p.config p.journal told.between.opened here.past p.access.taken (stock_of p) x y.task seen (length p.journal.past) p.slots todo left h.heard told.tasked.laws h.laws told.hears told.alone.others told.alone.counted not-again
        (λ o e. (scene p.config p.journal.past after w told.between.call_open.look.since told.between.opened, (h.laws.sound.ends (scene p.config p.journal.past after w told.between.call_open.look.since told.between.opened) o facts e).0)) refl solo.known
        (λ e. (h.laws.height (scene p.config p.journal.past after w told.between.call_open.look.since told.between.opened) good facts e).0)
        (λ kind knows i since by_now may counted e. solo.room x.task y.task seen (length p.journal.past) p.slots left todo (key_of x.call) i (scene p.config p.journal.past after w told.between.call_open.look.since told.between.opened) h.heard kind good facts (omega (arith, counted)) knows
        (record { from = since; to = by_now }) may e) (told.merges solitary))

    pub is-asking : (workers : Vec (Option OpenCall)) → length workers.items ≡ length p.workers.items → ((v : ℕ) → v ≢ w → get_or workers.items v None ≡ get_or p.workers.items v None) → IsAsking (record p { slots = left; workers = workers }) w y todo
    is-asking workers size rest = record {
      between = record {
        on = told.between.on;
        story = after;
        tabled = tabled-beside (record { workers = size; owners = refl; crew = refl; steps = refl; rest = refl }) told.between.tabled;
        taken = let t = told.between.taken in record { shown = t.shown; held = t.held; few = t.few; notes = t.notes; unused = t.unused; only = t.only; unstored = λ k free. t.unstored k (was-free (needs_of x.task) (needs_of y.task) p.slots left h.heard.goes.slots k free) };
        living = living;
        sound = told.between.sound;
        leaves = told.between.leaves;
        free = still-free p.config (image_at_on p.journal.start p.journal.past) told.between.story w (needs_of x.task) (needs_of y.task) p.slots left h.heard.goes.slots told.between.free;
        others = λ v ne. subst (IsSlot p.config p.access p.journal after p.owners.items (record (stock_of p) { left = length left.free }) v) (sym (rest v ne))
            (slot-scenes p.config p.access p.journal told.between.story after p.owners.items (stock_of p) (record (stock_of p) { left = length left.free }) v (get_or p.workers.items v None) told.between.opened (other v ne) (λ k. refl) (λ is. ne (told.between.steps v is)) (not-solitary laws.alone w v p.journal.past told.between.opened told.between.call_open.is_open ne) (told.between.others v ne));
        worker = told.between.worker;
        within = told.between.within;
        opened = told.between.opened;
        call_open = let o = told.between.call_open in record { is_open = o.is_open; call = o.call ∙ ap (λ (z : OpenCall). z.call) (sym h.rest); effect = o.effect ∙ ap (λ (z : OpenCall). z.effect) (sym h.rest); look = o.look; told = subst (λ (z : OpenCall). IsToldBy p.config p.journal told.between.opened z.had) (sym h.rest) o.told; wanted = λ quiet some other. subst (NeedsAtLeast p.config p.journal.start p.journal.past told.between.opened) (sym h.heard.wants) (o.wanted quiet (omega (arith, some, h.heard.wants)) (λ merge. other (h.heard.kind ∙ merge))) };
        idle = told.between.idle;
        due = still-right;
        steps = told.between.steps;
      };
      tasked = tasked;
      asks = h.heard.goes.asked;
      finished = elim told.finished [
        | inl may ↦ inl (subst MayGoOn (sym h.rest) may)
        | inr won ↦ inr (let last : Some todo ≡ Some Finish = sym h.heard.goes.asked ∙ h.heard.goes.published won.publishing won.won in cc last)
      ];
      facts = facts;
      covered = covered;
      solitary = solitary;
      alone = asks-undisturbed;
      meant = still-meant;
      paid = still-paid;
      exact = still-exact;
      merges = still-duly;
    }

  pub must-start : (todo : Todo) (left : FreeSlots) (old slot : Option OpenCall) → old ≡ Some x → HasToldIn old seen (length p.journal.past) p.slots todo slot left → MustStart (record p { slots = left; workers = with_item p.workers w slot }) w todo
  must-start todo left old slot e h = let n = next-of x seen (length p.journal.past) p.slots todo slot left (subst (λ z. HasToldIn z seen (length p.journal.past) p.slots todo slot left) e h) in record {
    serving = n.next;
    is = get_or-set_same p.workers.items w slot None (omega (arith, told.between.within, told.between.tabled.places, told.between.tabled.config.workers_in_range.at_most)) ∙ n.is;
    asking = is-asking todo left n.next n.told (with_item p.workers w slot) (length-set p.workers.items w slot) (λ v ne. get_or-set_other p.workers.items w v slot None ne);
  }

  -- the way to its leaf is known as before
  pub still-knows : KnowsWay p w x told.between → (todo : Todo) (left : FreeSlots) (old slot : Option OpenCall) → old ≡ Some x → HasToldIn old seen (length p.journal.past) p.slots todo slot left → MustStartOf (record p { slots = left; workers = with_item p.workers w slot }) w todo
  unfolding must-start is-asking
  still-knows k todo left old slot e h =
      let n = next-of x seen (length p.journal.past) p.slots todo slot left (subst (λ z. HasToldIn z seen (length p.journal.past) p.slots todo slot left) e h) in
      record {
        must = must-start todo left old slot e h;
        knows = record {
          leads = λ path is. subst (λ (z : OpenCall). IsPath (key_of z.call) path here.past) (sym n.told.rest) (k.leads path (sym (ap (λ (z : OpenCall). z.path) n.told.rest) ∙ is));
          quiet = ap (λ (z : OpenCall). z.effect) n.told.rest ∙ k.quiet;
          some = λ none. k.some (sym (ap (λ (z : OpenCall). z.path) n.told.rest) ∙ none);
          slotless = omega (arith, k.slotless, slots-fewer (needs_of x.task) (needs_of n.next.task) p.slots left n.told.heard.goes.slots);
          spares = λ r counted. subst (λ (e : Errand). Spares r p.access w e (used_of r p.access p.journal.past (record (stock_of p) { left = length left.free }) w) (bound_in r p w) here.past (λ q. coming r q e kinds.Find)) (sym (ap errand_of n.told.rest))
              (subst (λ (f : FreeSlots). Spares r p.access w (errand_of x) (used_of r p.access p.journal.past (record (stock_of p) { left = length f.free }) w) (bound_in r p w) here.past (λ q. coming r q (errand_of x) kinds.Find)) (sym (slots-same (needs_of x.task) (needs_of n.next.task) p.slots left k.slotless n.told.heard.goes.slots)) (k.spares r counted));
          lacks = λ z means alone. subst (λ (e : Errand). 0 < stage_now e here.past) (sym (ap errand_of n.told.rest)) (k.lacks z (n.told.heard.goes.meant outcome.NeedsRoom z means) alone);
        };
      }
