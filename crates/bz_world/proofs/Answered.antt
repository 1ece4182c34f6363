-- What a worker is told of an act at which no swap took effect: a read, a swap or a flush is answered, or goes on.
use Rattle.std.proofs.Common.{◌≡◌, ◌≢◌, ℕ, suc, ◌*◌, ◌<◌, ◌==◌, if◌then◌else◌, Bool, true, false, List, ◌∷◌, length, slice_index, arith, refl, sym, ap, subst, ◌∙◌, inl, inr, Some, None, Option, ◌⊎◌, is_some}
use Rattle.std.specs.Prelude.{get_or}
use Rattle.std.proofs.lemmas.Bool.{cases_eq, true≢false}
use Rattle.std.proofs.lemmas.Bool.Decides.{nat_tests}
use Rattle.std.proofs.lemmas.Grind.{common_steps}
use Rattle.bz_swap_acts.specs.declared.acted.Act.{Act}
use Rattle.bz_swap_acts.specs.declared.acted.Act.TheVariants.{Load}
use Rattle.bz_swap_machine.specs.declared.done.Done.{Done}
use Rattle.bz_swap_machine.specs.declared.done.Done.TheVariants as done
use Rattle.bz_mark.specs.Log.{with_mark}
use Rattle.bz_mark.proofs.MomentLaws.{mark_at-newest}
use Rattle.bz_any_task.specs.Duties.{asks_of, facts_of, publishing_of}
use Rattle.bz_sight.specs.Passing.{AllStay}
use Rattle.bz_sight.specs.Acts.{HasFlushed}
use Rattle.bz_word.specs.declared.entry.Entry.{Entry}
use Rattle.bz_sight.specs.Sight.{answer_at}
use Rattle.bz_sight.specs.Starts.{Sees}
use Rattle.bz_sound.specs.Calls.{Open}
use Rattle.bz_refinement.specs.Laws.{HasBegun, goes_on}
use Rattle.bz_refinement.specs.Living.{IsLiving}
use Rattle.bz_refinement.specs.Story.{Story, scene, loaded, is_load_of}
use Rattle.bz_swap.specs.SwapMemory.{SwapMemory, Reading, Swapping, Storing, Flushing, doing_of, has_effect, memory_state, value_at, is_named}
use Rattle.bz_swap.specs.Steps.{AnswersRead, IsStep}
use Rattle.bz_swap_acts.specs.Rule.{IsActOf}
use Rattle.bz_swap_cells.specs.Store.{is_outside}
use Rattle.bz_layout.specs.Addresses.{IsOutsideSwaps}
use Rattle.bz_layout.specs.declared.config.Config.{Config}
use Rattle.bz_sight.specs.Sight.{next_instant}
use Rattle.bz_refinement.specs.Story.{and_then}
use Rattle.bz_task.specs.Instant.{Instant}
use Rattle.bz_task.specs.Requests.{Answers, IsReadable}
use Rattle.bz_task.specs.OwnActs.{Flushes}
use Rattle.bz_task.specs.Requests.{Hears, Tells, effects_in}
use Rattle.bz_task.specs.Scene.{Scene, Stage, IsLawful, Waiting, Took}
use Rattle.bz_task.specs.declared.todo.Seen.{Seen}
use Rattle.bz_task.specs.declared.todo.Seen.TheVariants as seen
use Rattle.bz_task.specs.declared.todo.Todo.TheVariants as todo
use Rattle.bz_world.specs.Inside.Acted.{IsActed, IsTold, HasWon}
use Rattle.bz_world.specs.Inside.Alone.{untold, DoesWell}
use Rattle.bz_world.specs.Inside.Exact.{answered_in, underway}
use Rattle.bz_world.specs.Inside.Kept.{IsAwake}
use Rattle.bz_world.specs.Inside.Solitary.{WhereSolitary}
use Rattle.bz_world.specs.WorldView.{mark_of}
use Rattle.bz_world.specs.Inside.Serving.{IsServing, IsSlot, stage_in, MayGoOn, IsFinishing}
use Rattle.bz_world.specs.declared.parts.Parts.{Parts}
use Rattle.bz_world.specs.declared.serving.OpenCall.{OpenCall}
use Rattle.bz_world.specs.Inside.Laws.{StepLaws}
use Rattle.bz_refinement.proofs.Powered.{stored-since}
use Rattle.bz_world.specs.Inside.Paid.{errand_of, no_extra, stock_of, IsPaidIn}
use Rattle.bz_world.proofs.Alone.{hears-on, untold-by}
use Rattle.bz_world.proofs.Solitary.{solitary-act}
use Rattle.bz_world.proofs.SolitaryActs.{own-acted, all-acted, reads-now}
use Rattle.bz_world.proofs.Meant.{call-meant-on}
use Rattle.bz_world.proofs.Powered.{begun-in, leaves-power}
use Rattle.bz_world.proofs.Staying.{SameFor, Pays, Takes}
use Rattle.bz_world.proofs.Quiet.{serves, sees, askable, goes, same-other, same-own, stays, goes-on, answered, quiet-paid, none-pays, none-takes, own-duly, own-exactly, own-takes}

-- the world with an act made
abbrev pub acted : Parts → Parts → ℕ → Act → Parts
acted old new w made = record old { access = new.access; journal = with_mark old.journal (mark_of w made) }

-- an address outside the descriptors
outside-of : (c : Config) (d : ℕ) → IsOutsideSwaps c d → is_outside c.swaps d ≡ true
outside-of c d (inl l) = grind (arith, common_steps)
outside-of c d (inr l) = grind (arith, common_steps)

-- the last moment
now-is : (at : ℕ → Instant) (n : ℕ) (y : Instant) → and_then at n y (suc n) ≡ y
now-is at n y = let t : (suc n == suc n) ≡ true = grind (arith, nat_tests) in rw t refl

-- what is no swap finishes no call whose change stands
pub no-finish : (m : SwapMemory) (w : ℕ) (x : OpenCall) (what : Seen) → ((s : ℕ) → doing_of m w ≢ Swapping s) → MayGoOn x ⊎ IsFinishing m w x → MayGoOn x ⊎ HasWon x what
no-finish m w x what none (inl may) = inl may
no-finish m w x what none (inr f) = absurd (none f.swap f.doing)

none-of : (o : Option ℕ) → is_some o ≡ false → o ≡ None
none-of None e = refl
none-of (Some at) e = absurd (true≢false e)

-- an act that is no private store
module _ (b : StepLaws) (old new : Parts) (w : ℕ) (x : OpenCall) (made : Act) (answer : Done) (k : IsAwake old) (is-worker : get_or old.workers.items w None ≡ Some x) (a : IsActed old w made answer None new) (room : length old.journal.past < old.config.marks)
    (no-store : (d u : ℕ) → doing_of old.access w ≢ Storing d u) where
  abbrev pub after : Story
  after = goes_on old.journal k.story new.access k.story.filled

  abbrev pub its : IsServing old.config old.access old.journal k.story old.owners.items (stock_of old) w x
  its = serves old k w x is-worker

  abbrev pub before : Scene
  before = scene old.config old.journal.past k.story w its.call_open.look.since its.opened

  abbrev pub later : Scene
  later = scene old.config (mark_of w made ∷ old.journal.past) after w its.call_open.look.since its.opened

  pub all-stay : AllStay old.access new.access
  all-stay = b.caches old.access new.access w made answer None a.step no-store

  pub living : IsLiving old.config new.access (with_mark old.journal (mark_of w made)) after
  living = b.lives old.config old.access new.access old.journal k.story (mark_of w made) k.story.filled (goes b old new w x made answer k is-worker a)
      (λ v j f. stored-since old.config old.journal.past (mark_of w made) j (leaves-power w old.journal.past made) (k.living.stored v j f))

  pub lawful : (v since : ℕ) (opened : Open) → HasBegun old.journal k.story since → IsLawful (scene old.config old.journal.past k.story v since opened) (scene old.config (mark_of w made ∷ old.journal.past) after v since opened)
  lawful v since opened begun = b.quiet old.config old.access new.access old.journal k.story (mark_of w made) v since opened (goes b old new w x made answer k is-worker a) all-stay begun

  -- it is paid for
  its-paid : (y : OpenCall) (t : IsServing old.config old.access old.journal k.story old.owners.items (stock_of old) w y) → IsPaidIn old.config new.access (mark_of w made ∷ old.journal.past) (stock_of old) w (errand_of y) y.task (untold old.access (doing_of old.access w)) no_extra (scene old.config (mark_of w made ∷ old.journal.past) after w t.call_open.look.since t.opened).past
  its-paid y t = let h : HasBegun old.journal k.story t.call_open.look.since = begun-in k.living t.call_open in
      quiet-paid b old new w x made answer k is-worker a after living refl y t (record { from = h.from; by_now = omega (arith, h.by_now) }) (lawful w t.call_open.look.since t.opened h).continues

  pub slots : (v : ℕ) → SameFor old.access new.access v → Pays old.config old.access old.journal (mark_of w made) k.story after old.owners.items (stock_of old) (stock_of old) new.access v → Takes old.config old.access old.journal (mark_of w made) k.story after old.owners.items (stock_of old) (stock_of old) new.access v → IsSlot old.config new.access (with_mark old.journal (mark_of w made)) after old.owners.items (stock_of old) v (get_or old.workers.items v None)
  slots v same pays takes = stays b old new w x made answer k is-worker a after v living refl same (lawful v) (λ j. refl) (λ j h. h) refl pays takes

  pub others : (v : ℕ) → v ≢ w → IsSlot old.config new.access (with_mark old.journal (mark_of w made)) after old.owners.items (stock_of old) v (get_or old.workers.items v None)
  others v ne = slots v (same-other b old new w x made answer k is-worker a v ne) (none-pays b old new w x made answer k is-worker a after v ne) (none-takes b old new w x made answer k is-worker a after v ne)

  -- it goes on
  pub busy-on : answer ≡ done.Busy → IsAwake new
  busy-on e = goes-on b old new w x made answer k is-worker a after room living k.free (λ v. elim (cases_eq v w) [
    | inl same ↦ slots v (subst (SameFor old.access new.access) (sym same) (same-own b old new w x made answer k is-worker a e))
        (subst (Pays old.config old.access old.journal (mark_of w made) k.story after old.owners.items (stock_of old) (stock_of old) new.access) (sym same)
        (λ y t steps. subst (λ u. IsPaidIn old.config new.access (mark_of w made ∷ old.journal.past) (stock_of old) w (errand_of y) y.task u no_extra (scene old.config (mark_of w made ∷ old.journal.past) after w t.call_open.look.since t.opened).past)
        (sym (let own : SameFor old.access new.access w = same-own b old new w x made answer k is-worker a e in ap (untold new.access) own.doing ∙ untold-by old.access new.access (doing_of old.access w) own.effects)) (its-paid y t)))
        (subst (Takes old.config old.access old.journal (mark_of w made) k.story after old.owners.items (stock_of old) (stock_of old) new.access) (sym same) (own-takes b old new w x made answer k is-worker a after refl (same-own b old new w x made answer k is-worker a e) (λ y t. (lawful w t.call_open.look.since t.opened (begun-in k.living t.call_open)).continues)))
    | inr ne ↦ others v ne
  ]) (all-acted b old new w x made answer k is-worker a k.story.filled)

  pub later-seen : Sees old.config (after.at (suc (length old.journal.past))) later
  later-seen = b.scenes old.config new.access (with_mark old.journal (mark_of w made)) after w its.call_open.look.since its.opened living (let h : HasBegun old.journal k.story its.call_open.look.since = begun-in k.living its.call_open in record { from = h.from; by_now = omega (arith, h.by_now) })

  -- what it knows stays
  pub knows : facts_of x.task (stage_in old.access (doing_of old.access w)) later
  knows = its.tasked.laws.sound.stable (stage_in old.access (doing_of old.access w)) before later (sym its.tasked.config) its.facts later-seen.scene (lawful w its.call_open.look.since its.opened (begun-in k.living its.call_open))

  -- and it is to be told
  pub be-told : (stage : Stage) (what : Seen) → answer ≢ done.Busy → facts_of x.task stage later → MayGoOn x ⊎ HasWon x what → Hears (asks_of x.task) what → Tells (asks_of x.task) stage what later → WhereSolitary old.journal.past w x.call (λ key. stage ≡ Waiting)
      → untold old.access (doing_of old.access w) ≡ effects_in what → underway (doing_of old.access w) ≡ answered_in what → (DoesWell old.access (doing_of old.access w) → what ≢ seen.Swapped false) → IsTold new w x what
  be-told stage what ne facts finished hears tells waits effects way wins = subst (λ p. IsTold p w x what) (sym a.rest) (record {
    between = answered b old new w x made answer k is-worker a after room ne living k.free others;
    tasked = its.tasked;
    stage = stage;
    facts = facts;
    covered = its.covered;
    finished = finished;
    hears = hears;
    tells = tells;
    solitary = λ key get solitary. (own-acted b old new w x made answer k is-worker a k.story.filled key get solitary, waits key get (solitary-act w w old.journal.past made solitary));
    alone = hears-on old.config old.access new.access old.journal.past (mark_of w made) k.story after w its.call_open.look.since its.opened its.opened x.task (next_instant new.access (k.story.at (length old.journal.past))) refl its.call_open.look.by_now its.alone
        what refl effects wins;
    meant = call-meant-on x before.past later.past its.tasked.laws (lawful w its.call_open.look.since its.opened (begun-in k.living its.call_open)).continues its.meant;
    paid = subst (λ u. IsPaidIn old.config new.access (mark_of w made ∷ old.journal.past) (stock_of old) w (errand_of x) x.task u no_extra later.past) effects (its-paid x its);
    exact = own-exactly b old new w x made answer k is-worker a after refl (effects_in what) (answered_in what) effects way x its;
    merges = own-duly b old new w x made answer k is-worker a after refl (effects_in what) (answered_in what) effects way x its (lawful w its.call_open.look.since its.opened (begun-in k.living its.call_open)).continues;
  })

  -- a read answers what the address holds
  module _ (c v : ℕ) (asked : its.asked ≡ todo.Read c) (reads : doing_of old.access w ≡ Reading c) (found : AnswersRead new.access c made v) where
    readable : IsReadable before c
    readable = askable b old new w x made answer k is-worker a (todo.Read c) asked (ap (stage_in old.access) reads)

    outside : is_outside new.access.swaps c ≡ true
    outside = ap (λ n. is_outside n c) (a.step.one.others.swaps ∙ k.living.seen.swaps) ∙ outside-of old.config c readable.outside

    cached-is : slice_index new.access.cached c ≡ v
    cached-is =
        let act : IsActOf (memory_state old.access) w (Load c v) (memory_state new.access) = subst (λ (z : Act). IsActOf (memory_state old.access) w z (memory_state new.access)) found.load a.step.one.act in
        ap (λ z. slice_index z.words.cached c) act.after ∙ sym act.found

    holds-by : (named : Bool) → is_named new.access c ≡ named → (if named then value_at new.access c else slice_index new.access.cached c) ≡ v
    holds-by true e = found.value e
    holds-by false e = cached-is

    holds : answer_at new.access c ≡ v
    holds = ap (λ (t : Bool). if t then (if is_named new.access c then value_at new.access c else slice_index new.access.cached c) else 0) outside ∙ holds-by (is_named new.access c) refl

    here-is : (after.at (suc (length old.journal.past))).value c ≡ v
    here-is = ap (λ z. z.value c) (now-is k.story.at (length old.journal.past) (next_instant new.access (k.story.at (length old.journal.past)))) ∙ holds

    loads-is : loaded (mark_of w made ∷ old.journal.past) w (suc (length old.journal.past)) ≡ true
    loads-is = ap (is_load_of w) (mark_at-newest (mark_of w made) old.journal.past) ∙ subst (λ (z : Act). is_load_of w (Some (mark_of w z)) ≡ true) (sym found.load) (let t : (w == w) ≡ true = grind (arith, nat_tests) in t)

    pub answers : Answers later c v
    answers = record { value = here-is; plain = found.plain; loads = loads-is }

    pub told-read : answer ≡ done.Read v → IsTold new w x (seen.Read v)
    told-read e = be-told Waiting (seen.Read v) (λ f. absurd (cc (e, f))) (subst (λ z. facts_of x.task z later) (ap (stage_in old.access) reads) knows)
        (no-finish old.access w x (seen.Read v) (λ s f. absurd (cc (reads, f))) its.finishing)
        (subst (λ z. Hears z (seen.Read v)) (sym (its.asks ∙ ap Some asked)) tt)
        (subst (λ z. Tells z Waiting (seen.Read v) later) (sym (its.asks ∙ ap Some asked)) answers)
        (λ key get solitary. refl) (ap (untold old.access) reads) (ap underway reads) (λ h e. absurd (cc e))

  -- a swap answers whether it took effect
  module _ (entries : List Entry) (t : ℕ) (won : Bool) (asked : its.asked ≡ todo.Swap entries) (swaps : doing_of old.access w ≡ Swapping t) (effect : has_effect new.access t ≡ won) where
    stage-by : (z : Bool) → z ≡ won → Tells (Some (todo.Swap entries)) (if z then Took else Waiting) (seen.Swapped won) later
    stage-by true e = sym e
    stage-by false e = sym e

    stage-is : stage_in old.access (doing_of old.access w) ≡ (if has_effect old.access t then Took else Waiting)
    stage-is = ap (stage_in old.access) swaps

    -- where the answer is false the swap has made no change
    unmade : won ≡ false → publishing_of x.task ≡ true → x.effect ≡ None
    unmade lost publishing =
        let waits : stage_in old.access (doing_of old.access w) ≡ Waiting = stage-is ∙ ap (λ z. if z then Took else Waiting) (sym (a.step.effect.swaps t) ∙ (effect ∙ lost)) in
        let none : is_some its.opened.effect ≡ false = its.tasked.laws.sound.once before (subst (λ z. facts_of x.task z before) waits its.facts) publishing in
        sym its.call_open.effect ∙ none-of its.opened.effect none

    finishes : (z : Bool) → won ≡ z → MayGoOn x ⊎ IsFinishing old.access w x → MayGoOn x ⊎ HasWon x (seen.Swapped won)
    finishes z e (inl may) = inl may
    finishes true e (inr f) = inr (record { publishing = f.publishing; won = ap seen.Swapped e })
    finishes false e (inr f) = inl (inl (unmade e f.publishing))

    told-by : (z : Bool) → z ≡ won → (if z then 1 else 0) ≡ effects_in (seen.Swapped won)
    told-by true e = ap (λ (y : Bool). effects_in (seen.Swapped y)) e
    told-by false e = ap (λ (y : Bool). effects_in (seen.Swapped y)) e

    pub told-swap : answer ≡ done.Swapped won → IsTold new w x (seen.Swapped won)
    told-swap e = be-told (if has_effect old.access t then Took else Waiting) (seen.Swapped won) (λ f. absurd (cc (e, f))) (subst (λ z. facts_of x.task z later) stage-is knows)
        (finishes won refl its.finishing)
        (subst (λ z. Hears z (seen.Swapped won)) (sym (its.asks ∙ ap Some asked)) tt)
        (subst (λ z. Tells z (if has_effect old.access t then Took else Waiting) (seen.Swapped won) later) (sym (its.asks ∙ ap Some asked)) (stage-by (has_effect old.access t) (sym (a.step.effect.swaps t) ∙ effect)))
        (λ key get solitary. absurd (cc ((reads-now old k w x is-worker key get solitary).reads, swaps)))
        (ap (untold old.access) swaps ∙ told-by (has_effect old.access t) (sym (a.step.effect.swaps t) ∙ effect)) (ap underway swaps)
        (λ h lost. let wins : won ≡ true = (b.solo.wins.answer old.access new.access w made None t won (subst (λ (z : Done). IsStep old.access w made z None new.access) e a.step) swaps (subst (DoesWell old.access) swaps h)).0 in absurd (cc (wins, lost)))

  -- a flush has ended
  module _ (line : ℕ) (asked : its.asked ≡ todo.Flush line) (flushes : doing_of old.access w ≡ Flushing line) (within : line * 8 < length old.access.cached) (ended : answer ≢ done.Busy) where
    has-flushed : HasFlushed old.access new.access w answer line
    has-flushed = (b.flushing old.config (k.story.at (length old.journal.past)) old.access new.access w made answer None line k.living.seen a.step flushes within).ends ended

    flushed : Flushes line before later
    flushed = b.flushes old.config old.access new.access old.journal k.story (mark_of w made) w line its.call_open.look.since its.opened (goes b old new w x made answer k is-worker a) all-stay (begun-in k.living its.call_open) has-flushed.settles

    took : facts_of x.task Took later
    took = its.tasked.laws.acts.flushed before later line (sym its.tasked.config) (subst (λ z. facts_of x.task z before) (ap (stage_in old.access) flushes) its.facts) (sees b old new w x made answer k is-worker a w x its).scene later-seen.scene (its.asks ∙ ap Some asked) flushed

    pub told-flush : IsTold new w x seen.Flushed
    told-flush = be-told Took seen.Flushed ended took
        (no-finish old.access w x seen.Flushed (λ s f. absurd (cc (flushes, f))) its.finishing)
        (subst (λ z. Hears z seen.Flushed) (sym (its.asks ∙ ap Some asked)) tt)
        (subst (λ z. Tells z Took seen.Flushed later) (sym (its.asks ∙ ap Some asked)) tt)
        (λ key get solitary. absurd (cc ((reads-now old k w x is-worker key get solitary).reads, flushes))) (ap (untold old.access) flushes) (ap underway flushes) (λ h e. absurd (cc e))
