-- A world after an act of a worker, as far as it goes on by itself: its tables and its journal.
use Rattle.std.proofs.Common.{◌≡◌, ◌≢◌, ℕ, ◌+◌, ◌<◌, ◌≤◌, ◌||◌, ◌&&◌, ◌==◌, Bool, true, false, not, List, ◌∷◌, length, slice_index, arith, refl, sym, ap, subst, ◌∙◌, inl, inr, Option, Some, None}
use Rattle.std.proofs.lemmas.Bool.{cases_eq}
use Rattle.std.proofs.lemmas.Bool.Decides.{nat_tests}
use Rattle.bz_swap_acts.specs.declared.acted.Act.{Act}
use Rattle.bz_swap_acts.specs.declared.acted.Act.TheVariants.{Load, Store, Cas, Ask, Fence}
use Rattle.bz_swap_machine.specs.declared.done.Done.{Done}
use Rattle.bz_layout.specs.Addresses.{swap_address}
use Rattle.bz_mark.specs.Log.{with_mark}
use Rattle.bz_mark.proofs.MomentLaws.{at_moment-now}
use Rattle.bz_mark.specs.declared.marks.Mark.{Mark}
use Rattle.bz_sight.specs.Passing.{Passed}
use Rattle.bz_sight.specs.Sight.{next_instant}
use Rattle.bz_sound.specs.Memory.Laws.{IsQuietAct}
use Rattle.bz_sound.specs.Memory.Moments.{image_after, IsAfterFence}
use Rattle.bz_sound.specs.Power.Calls.{MayAct}
use Rattle.bz_sound.specs.Power.Sound.{IsSound}
use Rattle.bz_mark.specs.Times.{since_on}
use Rattle.bz_mark.specs.Counts.{is_taken}
use Rattle.bz_sound.specs.Memory.Spent.{is_stored_into}
use Rattle.bz_refinement.specs.Living.{IsLiving}
use Rattle.bz_refinement.specs.Story.{Story}
use Rattle.bz_swap.specs.Held.{IsHeld, Holds, HoldsIn}
use Rattle.bz_swap.specs.declared.phase.Phase.{Phase}
use Rattle.bz_swap.specs.declared.phase.Phase.TheVariants.{Opened, Running, Recovering}
use Rattle.bz_swap.specs.SwapMemory.{SwapMemory, Swapping, doing_of, has_effect}
use Rattle.bz_swap.specs.Effects.{EffectIs}
use Rattle.bz_swap.specs.TakenStatuses.{IsTaken, IsTaking, TakenStatusesStay, BegunAreTaken}
use Rattle.bz_content.specs.Content.{image_fault, content_in}
use Rattle.bz_world.specs.Inside.Acted.{IsActed}
use Rattle.bz_world.specs.Inside.Kept.{IsTabled, AreTaken}
use Rattle.bz_world.specs.WorldView.{mark_of}
use Rattle.bz_world.specs.Inside.Laws.{JournalLaws, BegunLaws}
use Rattle.bz_world.specs.declared.parts.Parts.{Parts}
use Rattle.bz_mark.proofs.TimeLaws.{since-more}
use Rattle.bz_world.proofs.Powered.{leaves-power}
use Rattle.bz_world.proofs.Marking.{act-marked, act-found, act-follows}
use Rattle.bz_world.proofs.Tabled.{tabled-acted}
use Rattle.bz_world.proofs.ToldActs.{Avoids, only-acts, unstored-acts}

-- the tables
pub act-tabled : (old new : Parts) (w : ℕ) (made : Act) (done : Done) (told : Option ℕ) → IsTabled old → IsActed old w made done told new → length old.journal.past < old.config.marks → IsTabled new
act-tabled old new w made done told t a room = subst IsTabled (sym a.rest) (tabled-acted old w made done new.access a.step.one room t)

-- a descriptor that the journal shows taken stays so
or-right : (a b : Bool) → b ≡ true → a || b ≡ true
or-right true b e = refl
or-right false b e = e

shown-stays : (s w : ℕ) (past : List Mark) (made : Act) → is_taken s past ≡ true → is_taken s (mark_of w made ∷ past) ≡ true
shown-stays s w past (Load a v) h = h
shown-stays s w past (Store a v) h = or-right (not (w == 0) && (a == swap_address s + 0 && v == 1)) (is_taken s past) h
shown-stays s w past (Cas a old new found) h = h
shown-stays s w past (Ask line) h = h
shown-stays s w past Fence h = h

-- the store that takes it shows it
taking-shown : (s w : ℕ) (past : List Mark) → 0 < w → is_taken s (mark_of w (Store (swap_address s) 1) ∷ past) ≡ true
taking-shown s w past some =
    let p : (w == 0) ≡ false = grind (arith, nat_tests) in
    let q : (swap_address s == swap_address s + 0) ≡ true = grind (arith, nat_tests) in
    rw (p, q) refl

-- a swap that takes effect was begun
pub unused-by : (old new : SwapMemory) (told : Option ℕ) → ((v s : ℕ) → doing_of old v ≡ Swapping s → s < old.taken) → ((s : ℕ) → old.taken ≤ s → has_effect old s ≡ false) → EffectIs old new told
    → (s : ℕ) → old.taken ≤ s → has_effect new s ≡ false
unused-by old new None pending unused e s l = e.swaps s ∙ unused s l
unused-by old new (Some t) pending unused e s l = e.other_swaps s (λ same. absurd (omega (arith, same, l, pending e.worker t e.pending))) ∙ unused s l

pub act-taken : TakenStatusesStay → BegunLaws → (old new : Parts) (w : ℕ) (made : Act) (done : Done) (told : Option ℕ) → AreTaken old → IsHeld old.access → old.access.swaps ≡ old.config.swaps → IsActed old w made done told new → 0 < w
    → ((v s : ℕ) → doing_of old.access v ≡ Swapping s → s < old.access.taken) → Avoids old.config old.slots.free made → AreTaken new
act-taken stay begun old new w made done told t held swaps a some pending avoids = subst AreTaken (sym a.rest) (record {
  shown = λ s l h. shown s l h (slice_index old.access.cached (swap_address s)) refl;
  held = after;
  few = omega (arith, a.step.one.others.taken, t.few);
  notes = record {
    zero = begun.zero.act old.access new.access w made done a.step.one t.notes.zero;
    noted = begun.noted.step old.access new.access w made done told a.step t.notes.noted;
  };
  unused = λ s l. unused-by old.access new.access told pending t.unused a.step.effect s (omega (arith, l, a.step.one.others.taken));
  only = λ s l seen. omega (arith, a.step.one.others.taken, only-acts old.access w made (since_on old.journal.past) a.step.writes (λ j few. t.only j (omega (arith, few, swaps))) s (omega (arith, l, swaps)) (subst (λ (marks : List Mark). is_taken s marks ≡ true) more seen));
  unstored = λ k free. ap (is_stored_into old.config k) more ∙ unstored-acts old.config w made (since_on old.journal.past) old.slots.free avoids t.unstored k free;
})
  where
    more : since_on (mark_of w made ∷ old.journal.past) ≡ mark_of w made ∷ since_on old.journal.past
    more = since-more old.journal.past (mark_of w made) (leaves-power w old.journal.past made)

    after : BegunAreTaken new.access
    after = begun.taken.step old.access new.access w made done told held a.step t.held

    shown : (s : ℕ) → s < old.config.swaps → IsTaken new.access s → (z : ℕ) → slice_index old.access.cached (swap_address s) ≡ z → is_taken s (since_on (mark_of w made ∷ old.journal.past)) ≡ true
    shown s l h z e = elim (cases_eq z 0) [
      | inr ne ↦ subst (λ (marks : List Mark). is_taken s marks ≡ true) (sym (since-more old.journal.past (mark_of w made) (leaves-power w old.journal.past made))) (shown-stays s w (since_on old.journal.past) made (t.shown s l (λ f. ne (sym e ∙ f))))
      | inl zero ↦ (
          let taking : IsTaking old.access w s made = stay.begins old.access new.access w made done told s a.step (omega (arith, l, swaps)) (e ∙ zero) h in
          subst (λ (x : Act). is_taken s (since_on (mark_of w x ∷ old.journal.past)) ≡ true) (sym taking.act) (taking-shown s w (since_on old.journal.past) some))
    ]

-- outside a recovery time
held-in : (m : SwapMemory) (phase : Phase) → phase ≢ Recovering → HoldsIn phase m → IsHeld m
held-in m Opened ne h = h
held-in m Running ne h = h
held-in m Recovering ne h = absurd (ne refl)

pub held : (m : SwapMemory) → m.phase ≢ Recovering → Holds m → IsHeld m
held m ne h = held-in m m.phase ne h

-- by an act that leaves the content the journal stays sound
pub act-sound : JournalLaws → (old new : Parts) (story : Story) (w : ℕ) (made : Act) (done : Done) (told : Option ℕ) → IsLiving old.config old.access old.journal story → IsSound old.config old.at_start old.journal → IsActed old w made done told new
    → MayAct old.at_start old.journal.past w → Passed old.config (story.at (length old.journal.past)) new.access → IsSound old.config old.at_start (with_mark old.journal (mark_of w made))
act-sound b old new story w made done told living sound a opened passed = by-act made refl
  where
    was : image_after old.journal.start old.journal.past ≡ (story.at (length old.journal.past)).image
    was = sym (living.images (length old.journal.past) living.from (omega arith) ∙ ap (image_after old.journal.start) (at_moment-now old.journal.past))

    is : image_after old.journal.start (mark_of w made ∷ old.journal.past) ≡ (next_instant new.access (story.at (length old.journal.past))).image
    is = ap (λ z. slice_index z.durable) (sym (act-marked w old.access new.access old.journal made done living.words living.past a.step.one))

    quietly : IsQuietAct (mark_of w made) → IsSound old.config old.at_start (with_mark old.journal (mark_of w made))
    quietly q = b.quiet old.config old.at_start old.journal (mark_of w made) sound q (act-follows _ _ old.journal.past w made opened) (act-found w old.access new.access old.journal made living.words a.step.one.act.found a.step.one.within)

    flushing : IsAfterFence (mark_of w made ∷ old.journal.past) → IsSound old.config old.at_start (with_mark old.journal (mark_of w made))
    flushing flushes =
        b.flush old.config old.at_start old.journal (mark_of w made) sound flushes (act-follows _ _ old.journal.past w made opened)
        (b.same old.config old.at_start old.journal (mark_of w made) sound flushes (subst (λ i. image_fault old.config i ≡ None) (sym is) passed.same.good.form)
        (λ key. ap (λ i. content_in old.config i key) is ∙ (passed.same.content key ∙ ap (λ i. content_in old.config i key) (sym was))))

    by-act : (x : Act) → made ≡ x → IsSound old.config old.at_start (with_mark old.journal (mark_of w made))
    by-act (Load d v) e = quietly (subst (λ (z : Act). IsQuietAct (mark_of w z)) (sym e) tt)
    by-act (Store d v) e = quietly (subst (λ (z : Act). IsQuietAct (mark_of w z)) (sym e) tt)
    by-act (Cas d o n f) e = quietly (subst (λ (z : Act). IsQuietAct (mark_of w z)) (sym e) tt)
    by-act (Ask line) e = quietly (subst (λ (z : Act). IsQuietAct (mark_of w z)) (sym e) tt)
    by-act Fence e = flushing (subst (λ (z : Act). IsAfterFence (mark_of w z ∷ old.journal.past)) (sym e) tt)
