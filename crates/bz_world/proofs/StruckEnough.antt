-- The effect of a delete whose leaf had enough live words when it began, while no other call is open: that leaf stands alone directly after it.
use Rattle.std.proofs.Common.{◌≡◌, ◌≤◌, ℕ, ◌+◌, true, false, List, ◌∷◌, length, arith, refl, sym, subst, ◌∙◌, inl, inr, Option, Some, None}
use Rattle.std.proofs.lemmas.Bool.{true≢false}
use Rattle.bz_call.specs.Map.{key_of}
use Rattle.bz_call.specs.declared.calls.Call.{Call}
use Rattle.bz_call.specs.declared.calls.Call.TheVariants as call
use Rattle.bz_content.specs.Content.{view_in}
use Rattle.bz_stage.specs.FromLeaves.Neighbours.{own_live}
use Rattle.bz_layout.specs.declared.config.Config.{Config}
use Rattle.bz_layout.specs.declared.swaps.TheConstants.{DELETE_SWAPS}
use Rattle.bz_layout.specs.declared.thresholds.TheConstants.{LEAF_RECORD_WORDS}
use Rattle.bz_solo.specs.FromAlone.Counts.{HasOthers}
use Rattle.bz_any_task.specs.Duties.{change_of, change_swaps, made_of, publishing_of, view_of}
use Rattle.bz_any_task.specs.Kinds as kinds
use Rattle.bz_any_task.specs.Kinds.{kind_of}
use Rattle.bz_any_task.specs.declared.running.AnyTask.{AnyTask}
use Rattle.bz_any_task.specs.declared.running.AnyTask.TheVariants.{Inserting, Updating, Deleting}
use Rattle.bz_sight.specs.Effects.{effect_instant}
use Rattle.bz_sound.specs.Memory.ImageLaws.{IsChangeOf}
use Rattle.bz_swap.specs.SwapMemory.{entries_of}
use Rattle.bz_solo.specs.FromTally.Deletes.{live_of_key, LosesOneRecord}
use Rattle.bz_task.specs.Instant.{Instant}
use Rattle.bz_task.specs.Scene.{here}
use Rattle.bz_world.specs.Inside.Acted.{IsStriking}
use Rattle.bz_world.specs.Inside.Exact.{IsChanging, reach_of, puts}
use Rattle.bz_world.specs.Inside.Laws.{StrikeLaws}
use Rattle.bz_world.specs.Inside.Paid.{stock_of}
use Rattle.bz_world.specs.Inside.Serving.{tells_of}
use Rattle.bz_world.specs.Roomy.{HadRoom, KeepsEnough, NeedsNoNeighbour}
use Rattle.bz_world.specs.WorldView.{is_delete}
use Rattle.bz_world.specs.declared.parts.Parts.{Parts}
use Rattle.bz_world.proofs.Enough.{enough-by, keeps-as, of-delete}
use Rattle.bz_world.proofs.LeavesStruck.{own-swap}
use Rattle.bz_world.proofs.Ready.{image-then, since-begin}
use Rattle.bz_world.proofs.Striking.{before, goes-still, its, kept, old, w, x}

-- a call that deletes takes its key away
pub takes-away : (called : Call) (had new : Option (List ℕ)) → is_delete called ≡ true → IsChangeOf called had new → new ≡ None
takes-away (call.Delete key) None new deletes is = absurd is
takes-away (call.Delete key) (Some had) new deletes is = is
takes-away called had new deletes is = absurd (true≢false (sym deletes))

-- and what does is a delete, by one swap
delete-kind : (t : AnyTask) → puts (kind_of t) ≡ true → (change_of t).new ≡ None → kind_of t ≡ kinds.Delete
unfolding kind_of view_of
delete-kind (Inserting t) put none = absurd (cc none)
delete-kind (Updating t) put none = absurd (cc none)
delete-kind (Deleting t) put none = refl
delete-kind t put none = absurd (true≢false (sym put))

pub delete-swaps : (t : AnyTask) → kind_of t ≡ kinds.Delete → change_swaps t ≡ DELETE_SWAPS
unfolding kind_of change_swaps
delete-swaps (Deleting t) is = refl
delete-swaps t is = absurd (cc is)

-- the leaf loses no more than it had beyond enough
less-enough : (c : Config) (x y : Instant) (key : List ℕ) → live_of_key c x key ≤ live_of_key c y key + LEAF_RECORD_WORDS → (view_in c y.image).height ≡ (view_in c x.image).height → NeedsNoNeighbour c x.image key LEAF_RECORD_WORDS → NeedsNoNeighbour c y.image key 0
less-enough c x y key live height (inl enough) =
    let was : own_live c x.image key ≡ live_of_key c x key = refl in
    let is : own_live c y.image key ≡ live_of_key c y key = refl in
    inl (omega (arith, enough, live, was, is))
less-enough c x y key live height (inr high) = inr (height ∙ high)

module _ (b : StrikeLaws) (p : Parts) (s : ℕ) (h : IsStriking p s) (publishes : publishing_of (x b p s h).task ≡ true) (stands-for : (change_of (x b p s h).task).key ≡ key_of (its b p s h).opened.call × IsChangeOf (its b p s h).opened.call (change_of (x b p s h).task).old (change_of (x b p s h).task).new)
    (untold : (reach_of (old b p s h).access (w b p s h)).untold ≡ 0) (room : HadRoom (old b p s h).config (old b p s h).journal.start (old b p s h).journal.past (its b p s h).opened)
    (ch : IsChanging (its b p s h).opened (before b p s h).past (reach_of (old b p s h).access (w b p s h)) (stock_of (old b p s h)) (tells_of (x b p s h)) (x b p s h)) where
  abbrev c : Config
  c = (old b p s h).config

  abbrev called : Call
  called = (its b p s h).opened.call

  abbrev then : Instant
  then = effect_instant c p.access ((kept b p s h).story.at (length (old b p s h).journal.past))

  module _ (deletes : is_delete called ≡ true) where
    kind : kind_of (x b p s h).task ≡ kinds.Delete
    kind = delete-kind (x b p s h).task ch.kind (takes-away called (change_of (x b p s h).task).old (change_of (x b p s h).task).new deletes stands-for.1)

    none-made : made_of (x b p s h).task ≡ 0
    none-made = omega (arith, (its b p s h).tasked.laws.last publishes, delete-swaps (x b p s h).task kind)

    alone : HasOthers 0 0 (before b p s h).past
    alone = omega (arith, ch.alone (goes-still b p s h), none-made, untold)

    before-it : KeepsEnough c (here (before b p s h)).image called LEAF_RECORD_WORDS
    before-it = keeps-as c ((kept b p s h).story.at (its b p s h).call_open.look.since) (here (before b p s h)) called LEAF_RECORD_WORDS
        (since-begin b.scenes b.stand c (old b p s h).access (old b p s h).journal (kept b p s h).story (w b p s h) (x b p s h) (its b p s h).opened (kept b p s h).living (its b p s h).call_open ch.first alone)
        (subst (λ (image : ℕ → ℕ). KeepsEnough c image called LEAF_RECORD_WORDS)
        (sym (image-then b.scenes b.stand c (old b p s h).access (old b p s h).journal (kept b p s h).story (w b p s h) (x b p s h) (its b p s h).opened (kept b p s h).living (its b p s h).call_open ch.first alone)) room.enough)

    loses : LosesOneRecord (key_of called) (before b p s h) then
    loses = subst (λ key. LosesOneRecord key (before b p s h) then) stands-for.0 (b.deletes (x b p s h).task (entries_of (old b p s h).access s) (before b p s h) then (own-swap b p s h) kind)

    after-it : NeedsNoNeighbour c then.image (key_of called) 0
    after-it = less-enough c (here (before b p s h)) then (key_of called) loses.live loses.height (of-delete c (here (before b p s h)).image called LEAF_RECORD_WORDS deletes before-it)

  pub struck-enough : KeepsEnough c then.image called 0
  struck-enough = enough-by c then.image called 0 after-it
