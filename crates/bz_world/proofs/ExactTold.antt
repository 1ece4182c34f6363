-- What is taken for a call whose leaf had room when it began, once its task is told what came of what it asked for.
use Rattle.std.proofs.Common.{◌≡◌, ◌≢◌, ◌⊎◌, ℕ, ◌+◌, ◌≤◌, true, false, length, arith, refl, sym, ap, subst, ◌∙◌, inl, inr, Option, Some, None}
use Rattle.std.proofs.lemmas.Bool.{true≢false}
use Rattle.bz_layout.specs.Slots.{FreeSlots}
use Rattle.bz_solo.specs.FromAlone.Counts.{HasOthers}
use Rattle.bz_any_task.specs.Duties.{asks_of, end_of, made_of, swaps_of, needs_of, means_of}
use Rattle.bz_any_task.specs.Ends.{IsEndOf, EndsOrNeedsRoom}
use Rattle.bz_any_task.specs.Hearing.{HasHeard}
use Rattle.bz_any_task.specs.Kinds as kinds
use Rattle.bz_any_task.specs.Kinds.{Kind, is_look, kind_of}
use Rattle.bz_any_task.specs.Laws.{AreLaws}
use Rattle.bz_any_task.specs.declared.running.AnyTask.{AnyTask}
use Rattle.bz_sound.specs.Calls.{Open}
use Rattle.bz_task.specs.Requests.{Hears, swaps_in, effects_in}
use Rattle.bz_task.specs.Scene.{Past, Scene}
use Rattle.bz_task.specs.declared.todo.Outcome.{Outcome}
use Rattle.bz_task.specs.declared.todo.Outcome.TheVariants.{Done, Restart, NeedsRoom, Full}
use Rattle.bz_task.specs.declared.todo.Seen.{Seen}
use Rattle.bz_task.specs.declared.todo.Seen.TheVariants as seen
use Rattle.bz_task.specs.declared.todo.Todo.{Todo}
use Rattle.bz_task.specs.declared.todo.Todo.TheVariants as todo
use Rattle.bz_world.specs.Inside.Exact.{reach, IsExact, IsChanging, IsFull, seeks, puts, answered_in}
use Rattle.bz_world.specs.Inside.Paid.{Stock}
use Rattle.bz_world.specs.declared.serving.OpenCall.{OpenCall}
use Rattle.bz_world.proofs.Exact.{none-ended, seeks-look}

-- a task that has ended is told nothing
pub deaf : (what : Seen) → Hears (Some todo.Finish) what → ⊥
deaf seen.Start h = h
deaf (seen.Read v) h = h
deaf seen.Stored h = h
deaf seen.Flushed h = h
deaf (seen.Swapped won) h = h
deaf seen.NoSwap h = h

-- what came of a swap is told only where one was asked for, and so is that there is no descriptor
pub told-swaps : (o : Option Todo) (what : Seen) → Hears o what → answered_in what ≤ swaps_in o
told-swaps (Some (todo.Swap entries)) (seen.Swapped won) h = omega arith
told-swaps o (seen.Swapped won) h = absurd h
told-swaps o seen.Start h = omega arith
told-swaps o (seen.Read v) h = omega arith
told-swaps o seen.Stored h = omega arith
told-swaps o seen.Flushed h = omega arith
told-swaps o seen.NoSwap h = omega arith

pub none-left : (o : Option Todo) (what : Seen) → Hears o what → what ≡ seen.NoSwap → swaps_in o ≡ 1
none-left (Some (todo.Swap entries)) seen.NoSwap h e = refl
none-left o seen.NoSwap h e = absurd h
none-left o what h e = absurd (cc e)

few-effects : (what : Seen) → effects_in what ≤ answered_in what
few-effects (seen.Swapped true) = omega arith
few-effects what = omega arith

-- how the change of a record ends
puts-ends : (k : Kind) (o : Outcome) → puts k ≡ true → IsEndOf k o → EndsOrNeedsRoom o
puts-ends kinds.Insert o e h = h
puts-ends kinds.Update o e h = h
puts-ends kinds.Delete o e h = h
puts-ends k o e h = absurd (true≢false (sym e))

full-end : (o : Outcome) → EndsOrNeedsRoom o → (o ≡ Done → ⊥) → (o ≡ Restart → ⊥) → (o ≡ NeedsRoom → ⊥) → IsFull o
full-end Done h done restart room = absurd (done refl)
full-end Restart h done restart room = absurd (restart refl)
full-end NeedsRoom h done restart room = absurd (room refl)
full-end (Full spent) h done restart room = tt
full-end o h done restart room = absurd h

module _ (opened : Open) (p : Past) (taken : ℕ) (stock : Stock) (tells : ℕ) (x : OpenCall) (next : AnyTask) (what : Seen) (moment : ℕ) (free : FreeSlots) (asked : Todo) (left : FreeSlots) (h : HasHeard x.task what moment free asked next left)
    (laws : AreLaws x.task) (later : AreLaws next) (hears : Hears (asks_of x.task) what) (others : ℕ) (counted : HasOthers others (made_of x.task + effects_in what) p) (not-again : others ≡ 0 → end_of next ≢ Some Restart)
    (means : (o : Outcome) → end_of next ≡ Some o → (z : Scene) × means_of next o z) (held : stock.left ≡ length free.free) (slotless : needs_of x.task ≡ 0 → left ≡ free) where
  abbrev stock-then : Stock
  stock-then = record stock { left = length left.free }

  goes : end_of x.task ≡ None
  goes = none-ended (end_of x.task) (λ some. deaf what (subst (λ o. Hears o what) (laws.only some) hears))

  left-same : needs_of x.task ≡ 0 → stock.left ≡ stock.begun.left → length left.free ≡ stock.begun.left
  left-same none same = ap (λ (f : FreeSlots). length f.free) (slotless none) ∙ (sym held ∙ same)

  fewer : answered_in what + swaps_of next ≤ swaps_of x.task
  fewer = omega (arith, h.goes.fewer, told-swaps (asks_of x.task) what hears)

  module _ (ch : IsChanging opened p (reach taken (effects_in what) (answered_in what)) stock tells x) where
    change-left : length left.free ≡ stock.begun.left
    change-left = left-same (omega (arith, laws.few, ch.wants)) ch.same_left

    alone : others ≡ 0
    alone = let one : HasOthers 0 (made_of x.task + effects_in what) p = ch.alone goes in omega (arith, one, counted)

    ends-full : (o : Outcome) → end_of next ≡ Some o → IsFull o
    ends-full o e = full-end o (puts-ends (kind_of next) o (ap puts h.kind ∙ ch.kind) (later.ends_of o (means o e).0 (means o e).1))
        (λ done. let last : end_of next ≡ Some Done = e ∙ ap Some done in absurd (omega (arith, ap effects_in (h.goes.done last), ch.before (omega (arith, h.goes.only_last last)))))
        (λ again. not-again alone (e ∙ ap Some again))
        (λ room. let m = means o e in ch.roomy m.0 (h.goes.meant NeedsRoom m.0 (subst (λ z. means_of next z m.0) room m.1)))

    still-changing : IsChanging opened p (reach taken 0 0) stock-then tells (record x { task = next })
    still-changing = record {
      quiet = ch.quiet;
      first = ch.first;
      kind = ap puts h.kind ∙ ch.kind;
      wants = h.wants ∙ ch.wants;
      tells_swaps = h.swaps ∙ ch.tells_swaps;
      same_left = change-left;
      alone = λ on. let sum : made_of x.task + effects_in what ≡ made_of next + 0 = omega (arith, h.goes.counted on) in subst (λ k. HasOthers 0 k p) sum (ch.alone goes);
      before = λ few. refl;
      least = λ on. omega (arith, h.goes.counted on, ch.least goes, few-effects what);
      most = omega (arith, ch.most, fewer, h.swaps);
      short = λ none. let lacked = h.goes.full_swaps none in omega (arith, ch.most, h.goes.fewer, h.swaps, none-left (asks_of x.task) what hears lacked, ap answered_in lacked);
      ends = ends-full;
      roomy = λ z room. ch.roomy z (h.goes.meant NeedsRoom z room);
      unpassed = ch.unpassed;
    }

  pub exact-told : IsExact opened p (reach taken (effects_in what) (answered_in what)) stock tells x → IsExact opened p (reach taken 0 0) stock-then tells (record x { task = next })
  exact-told (inl look) = inl (record {
    quiet = look.quiet;
    looks = ap seeks h.kind ∙ look.looks;
    thawed = look.thawed;
    same_taken = look.same_taken;
    same_left = left-same (laws.looks (seeks-look (kind_of x.task) look.looks)).needs look.same_left;
    first = look.first;
    alone = look.alone;
  })
  exact-told (inr (inl ch)) = inr (inl (still-changing ch))
  exact-told (inr (inr (inl done))) = inr (inr (inl (record {
    effected = done.effected;
    kind = ap puts h.kind ∙ done.kind;
    tells_swaps = h.swaps ∙ done.tells_swaps;
    wants = h.wants ∙ done.wants;
    same_left = left-same (omega (arith, laws.few, done.wants)) done.same_left;
    least = omega (arith, done.least, h.swaps);
    most = omega (arith, done.most, fewer, h.swaps);
    stood = done.stood;
    unpassed = done.unpassed;
  })))
  exact-told (inr (inr (inr after))) = inr (inr (inr (record {
    looks = ap is_look h.kind ∙ after.looks;
    counted = record {
      effected = after.counted.effected;
      same_taken = after.counted.same_taken;
      same_left = left-same (laws.looks after.looks).needs after.counted.same_left;
      stood = after.counted.stood;
      unpassed = after.counted.unpassed;
    };
    alone = after.alone;
  })))
