-- A delete that leaves its leaf so small that it may be merged tells that it leaves little there, by a way that leads to the leaf from another node.
use Rattle.std.proofs.Common.{◌≡◌, ◌≢◌, ◌≤◌, ◌<◌, ◌&&◌, ℕ, nat_lt, Bool, true, false, length, arith, refl, sym, subst, ◌∙◌, inl, inr, Option, Some, None}
use Rattle.std.proofs.lemmas.Bool.{cases_lt, true≢false}
use Rattle.std.proofs.lemmas.Bool.Decides.{nat_tests}
use Rattle.bz_call.specs.Map.{key_of}
use Rattle.bz_content.specs.Content.{view_in}
use Rattle.bz_stage.specs.FromLeaves.Neighbours.{MayBeMerged}
use Rattle.bz_layout.specs.declared.config.Config.{Config}
use Rattle.bz_solo.specs.FromAlone.Counts.{HasOthers}
use Rattle.bz_solo.specs.FromRounds.Stands.{SameStage}
use Rattle.bz_solo.specs.FromTally.Deletes.{LosesOneRecord}
use Rattle.bz_any_task.specs.Duties.{change_of, leaves_few_of, makes_no_change, no-change-is-published, publishing_of, view_of}
use Rattle.bz_any_task.specs.Kinds as kinds
use Rattle.bz_any_task.specs.Kinds.{kind_of}
use Rattle.bz_any_task.specs.declared.running.AnyTask.{AnyTask}
use Rattle.bz_any_task.specs.declared.running.AnyTask.TheVariants.{Inserting, Updating, Deleting}
use Rattle.bz_sight.specs.Effects.{effect_instant}
use Rattle.bz_swap.specs.SwapMemory.{entries_of}
use Rattle.bz_task.specs.Instant.{Instant}
use Rattle.bz_task.specs.Scene.{here}
use Rattle.bz_task.specs.declared.path.Path.{Path}
use Rattle.bz_world.specs.Inside.Acted.{IsStriking}
use Rattle.bz_world.specs.Inside.Exact.{reach_of}
use Rattle.bz_world.specs.Inside.Laws.{StrikeLaws}
use Rattle.bz_world.specs.Inside.Merging.{is_below, tells_few, IsDeletingSolitarily}
use Rattle.bz_world.specs.declared.parts.Parts.{Parts}
use Rattle.bz_world.proofs.LeavesStruck.{own-swap}
use Rattle.bz_world.proofs.StruckEnough.{delete-swaps}
use Rattle.bz_world.proofs.Striking.{before, before-seen, good, its, kept, old, w, x}

-- what takes a key away, where it changes a record, is a delete
pub changes-record : (t : AnyTask) → publishing_of t ≡ true → makes_no_change t ≡ false
changes-record t publishes = by (makes_no_change t) refl
  where
    by : (b : Bool) → makes_no_change t ≡ b → makes_no_change t ≡ false
    by false e = e
    by true e = absurd (true≢false (sym publishes ∙ no-change-is-published t e))

pub changing-delete : (t : AnyTask) → makes_no_change t ≡ false → (change_of t).new ≡ None → kind_of t ≡ kinds.Delete
unfolding kind_of view_of makes_no_change
changing-delete (Inserting t) some none = absurd (cc none)
changing-delete (Updating t) some none = absurd (cc none)
changing-delete (Deleting t) some none = refl
changing-delete t some none = absurd (true≢false some)

-- more than one link leads below another node
below-by : (way : Option Path) → way ≢ None → ((path : Path) → way ≡ Some path → path.depth ≤ 1 → ⊥) → is_below way ≡ true
below-by None some low = absurd (some refl)
below-by (Some path) some low = elim (cases_lt 1 path.depth) [
  | inl more ↦ (let t : nat_lt 1 path.depth ≡ true = grind (arith, nat_tests, more) in t)
  | inr few ↦ absurd (low path refl few)
]

both-true : (a b : Bool) → a ≡ true → b ≡ true → a && b ≡ true
both-true true b e f = f
both-true false b e f = absurd (true≢false (sym e))

module _ (b : StrikeLaws) (p : Parts) (s : ℕ) (h : IsStriking p s) (delete : kind_of (x b p s h).task ≡ kinds.Delete) (key : (change_of (x b p s h).task).key ≡ key_of (its b p s h).opened.call)
    (deleting : IsDeletingSolitarily (before b p s h).past (reach_of (old b p s h).access (w b p s h)) (x b p s h)) (untold : (reach_of (old b p s h).access (w b p s h)).untold ≡ 0) (publishes : publishing_of (x b p s h).task ≡ true) where
  abbrev c : Config
  c = (old b p s h).config

  abbrev then : Instant
  then = effect_instant c p.access ((kept b p s h).story.at (length (old b p s h).journal.past))

  alone : HasOthers 0 0 (before b p s h).past
  alone = omega (arith, deleting.alone, (its b p s h).tasked.laws.last publishes, delete-swaps (x b p s h).task delete, untold)

  module _ (may : MayBeMerged c then.image (key_of (its b p s h).opened.call)) where
    still : SameStage c ((kept b p s h).story.at (its b p s h).call_open.look.since) (here (before b p s h)) (key_of (its b p s h).opened.call)
    still = b.stand (before b p s h) (its b p s h).call_open.look.since (its b p s h).call_open.look.since (length (old b p s h).journal.past) (key_of (its b p s h).opened.call) (before-seen b p s h).scene
        (record { since = omega arith; now = (its b p s h).call_open.look.by_now; effects = omega (arith, alone) }) (record { from = omega arith; to = (its b p s h).call_open.look.by_now }) (record { from = (its b p s h).call_open.look.by_now; to = omega arith })

    loses : LosesOneRecord (change_of (x b p s h).task).key (before b p s h) then
    loses = b.deletes (x b p s h).task (entries_of (old b p s h).access s) (before b p s h) then (own-swap b p s h) delete

    high : 1 < (view_in c then.image).height
    high = b.below c then.image (key_of (its b p s h).opened.call) ((b.formed c then.image).0 (good b p s h).good.form).tree may

    low : (path : Path) → (x b p s h).path ≡ Some path → path.depth ≤ 1 → ⊥
    low path is few = omega (arith, deleting.low path is few, still.height, loses.height, high)

    pub struck-few : tells_few (x b p s h) ≡ true
    struck-few = both-true (is_below (x b p s h).path) (leaves_few_of (x b p s h).task) (below-by (x b p s h).path deleting.way low)
        (b.tells (x b p s h).task (entries_of (old b p s h).access s) (before b p s h) then (own-swap b p s h) delete (subst (MayBeMerged c then.image) (sym key) may))
