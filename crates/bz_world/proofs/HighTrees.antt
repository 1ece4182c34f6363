-- A split of an inner root that ended because the tree has as many levels as there may be: why the call ends so.
use Rattle.std.proofs.Common.{◌≡◌, ℕ, ◌<◌, ◌≤◌, nat_lt, true, List, arith, inl, inr, refl, sym, ap, subst, ◌∙◌, Option, Some, None}
use Rattle.std.specs.Prelude.{slice_index}
use Rattle.std.proofs.lemmas.Bool.Decides.{nat_tests}
use Rattle.bz_any_task.specs.FromAscent.Full.{WasFull, WasLevelFull, AreAllFull}
use Rattle.bz_any_task.specs.FromAscent.Ascent.{Ascent}
use Rattle.bz_call.specs.Map.{key_of}
use Rattle.bz_call.specs.declared.replies.Spent.TheVariants.{Height}
use Rattle.bz_content.specs.Content.{view_in}
use Rattle.bz_content.specs.Image.{node}
use Rattle.bz_content.specs.Resolving.{resolve}
use Rattle.bz_layout.specs.declared.config.Config.{Config}
use Rattle.bz_layout.specs.declared.thresholds.TheConstants.{MAX_LEVELS, SPLIT_SLOTS}
use Rattle.bz_any_task.specs.Duties.{wants_of, ascent_of}
use Rattle.bz_any_task.specs.Kinds.{ascent_in, kinds-tell-the-ascent}
use Rattle.bz_any_task.specs.Laws.{HaveFilledUp}
use Rattle.bz_tree.specs.Order.{is_within}
use Rattle.bz_tree.specs.Walk.{form}
use Rattle.bz_sound.specs.Memory.Moments.{image_at}
use Rattle.bz_sound.specs.Memory.Spent.{IsFullAt, IsTooHigh, NeedsSlots, TakesSlots, is_reached_in}
use Rattle.bz_refinement.specs.Laws.{ScenesAreSeen}
use Rattle.bz_task.specs.Scene.{Past}
use Rattle.bz_task.specs.declared.todo.Outcome.TheVariants.{Full}
use Rattle.bz_world.specs.Inside.Going.{MustGoOn, HasEnded, known}
use Rattle.bz_world.specs.Inside.Serving.{NeedsAtLeast}
use Rattle.bz_world.specs.declared.parts.Parts.{Parts}
use Rattle.bz_world.proofs.TakingOn.{known-scene}

both : (a b : ℕ) → a < b → nat_lt a b ≡ true
both a b l = grind (arith, nat_tests)

module _ (p : Parts) (w : ℕ) (on : MustGoOn p w) where
  abbrev past : Past
  past = (known p w on).past

  -- what a task found full was full in the image that the marks of the journal tell
  full-at : (slot level : ℕ) → WasFull (key_of on.between.opened.call) slot level past → IsFullAt p.config p.journal.start p.journal.past on.between.opened level
  full-at slot level f = record {
    moment = f.moment;
    after_begin = omega (arith, f.since, on.between.call_open.look.after_begin);
    before_end = f.now;
    slot = slot;
    inside = subst (λ i. is_reached_in p.config i slot ≡ true) image-is reached-in;
    at_level = subst (λ i. (form (view_in p.config i)).level slot ≡ level) image-is f.at_level;
    range = subst (λ i. is_within (key_of on.between.opened.call) ((form (view_in p.config i)).low slot) ((form (view_in p.config i)).high slot) ≡ true) image-is f.range;
    words = f.words;
    size = f.size;
    has = λ k. subst (λ i. node p.config (resolve i) slot k ≡ slice_index f.words k) image-is (f.has k);
    many = f.many;
  }
    where
      image-is : (past.at f.moment).image ≡ image_at p.journal.start f.moment p.journal.past
      image-is = on.between.living.images f.moment (omega (arith, f.since, on.between.call_open.look.after_begin, on.between.living.begins w on.between.opened on.between.call_open.is_open)) f.now

      reached-in : is_reached_in p.config (past.at f.moment).image slot ≡ true
      reached-in = let t : nat_lt slot p.config.nodes ≡ true = both slot p.config.nodes f.within in rw (t, f.inside) refl

  all-full : (key : List ℕ) → key ≡ key_of on.between.opened.call → AreAllFull key past → (level : ℕ) → 0 < level → level < MAX_LEVELS → IsFullAt p.config p.journal.start p.journal.past on.between.opened level
  all-full key same f level some few =
      let l : WasLevelFull (key_of on.between.opened.call) level past = subst (λ k. WasLevelFull k level past) same (f level some few) in
      full-at l.slot level l.full

  -- the path along which it came up is one of the key of the call
  filled : (way : Option Ascent) → ((a : Ascent) → way ≡ Some a → a.key ≡ key_of on.between.opened.call) → HaveFilledUp way past → (level : ℕ) → 0 < level → level < MAX_LEVELS → IsFullAt p.config p.journal.start p.journal.past on.between.opened level
  filled None same f level some few = absurd f
  filled (Some a) same f level some few = all-full a.key (same a refl) f level some few

-- only a split takes so many
most-slots : (c : Config) (image : ℕ → ℕ) (key : List ℕ) (slots : ℕ) → TakesSlots c image key slots → SPLIT_SLOTS ≤ slots → slots ≡ SPLIT_SLOTS
most-slots c image key slots (inl many) enough = many.1
most-slots c image key slots (inr (inl merge)) enough = absurd (omega (arith, merge.1, enough))
most-slots c image key slots (inr (inr copy)) enough = absurd (omega (arith, copy.1, enough))

-- where it did not come up, nothing was found full
no-ascent : (way : Option Ascent) (past : Past) → way ≡ None → HaveFilledUp way past → ⊥
no-ascent None past none f = f
no-ascent (Some a) past none f = absurd (cc none)

pub too-high : ScenesAreSeen → (p : Parts) (w : ℕ) (e : HasEnded p w (Full Height)) → IsTooHigh p.config p.journal.start p.journal.past e.on.between.opened
too-high scenes p w e = record {
  crowded = subst (NeedsSlots p.config p.journal.start p.journal.past e.on.between.opened) all needed.needs;
  full = filled p w e.on (ascent_of e.on.serving.task) (λ a is. e.tasked.lookup.ascent a is ∙ ap key_of (sym e.on.between.call_open.call)) high.1;
}
  where
    high : (wants_of e.on.serving.task ≡ SPLIT_SLOTS) × HaveFilledUp (ascent_of e.on.serving.task) (known p w e.on).past
    high = e.tasked.laws.height (known p w e.on) (known-scene scenes p w e.on) e.facts e.end

    needed : NeedsAtLeast p.config p.journal.start p.journal.past e.on.between.opened (wants_of e.on.serving.task)
    needed = e.on.between.call_open.wanted (e.on.between.call_open.effect ∙ e.quiet) (omega (arith, high.0)) (λ merge. no-ascent (ascent_of e.on.serving.task) (known p w e.on).past (kinds-tell-the-ascent e.on.serving.task ∙ ap ascent_in merge) high.1)

    -- nothing takes more slots than a split
    all : needed.slots ≡ SPLIT_SLOTS
    all = most-slots p.config (image_at p.journal.start needed.needs.moment p.journal.past) (key_of e.on.between.opened.call) needed.slots needed.needs.needed (omega (arith, high.0, needed.enough))
