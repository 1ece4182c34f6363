-- The leaves of the tree at a mark at which a swap takes effect: one more by the split of the leaf of an open call's key, one less by its merge, and another in its
-- place by its copy.
use Rattle.std.proofs.Common.{◌≡◌, ◌≢◌, ◌&&◌, ℕ, ◌+◌, ◌<◌, ◌≤◌, Bool, true, false, List, ◌∷◌, length, arith, refl, sym, ap, subst, ◌∙◌, inl, inr, Option, Some, None}
use Rattle.std.proofs.lemmas.Bool.Decides.{nat_tests}
use Rattle.std.proofs.lemmas.Bool.{true≢false}
use Rattle.bz_call.specs.Map.{key_of}
use Rattle.bz_call.specs.declared.calls.Call.{Call}
use Rattle.bz_content.specs.Content.{image_of, leaf_in, view_in}
use Rattle.bz_stage.specs.FromLeaves.Neighbours.{leaf_page}
use Rattle.bz_layout.specs.declared.config.Config.{Config}
use Rattle.bz_layout.specs.declared.thresholds.TheConstants.{MERGE_BELOW, SPLIT_ABOVE, SPLIT_SLOTS}
use Rattle.bz_solo.specs.FromTally.Counts.{leaves_now, leaves_then, BringsNoneBack, IsLeafNow, KeepsTheLeaves}
use Rattle.bz_solo.specs.FromTally.Laws.{IsCopyOf, IsSplitOf, IsMergeOf, Grows, Renews, Shrinks}
use Rattle.bz_solo.specs.FromTally.Leaves.{is_leaf, leaves_in}
use Rattle.bz_solo.specs.FromTally.Swaps.{IsOwnSwap}
use Rattle.bz_mark.specs.Log.{Log}
use Rattle.bz_page.specs.Laws.{IsSaidBy}
use Rattle.bz_any_task.specs.Duties.{asks_of, config_of, facts_of, wants_of}
use Rattle.bz_any_task.specs.Kinds as kinds
use Rattle.bz_any_task.specs.Kinds.{is_renewal, kind_of}
use Rattle.bz_any_task.specs.MadeFor.{IsMadeFor, IsSmallMerge}
use Rattle.bz_any_task.specs.declared.running.AnyTask.{AnyTask}
use Rattle.bz_any_task.specs.declared.running.AnyTask.TheVariants.{Consolidating, Splitting, SplittingBelow, Merging}
use Rattle.bz_tree.specs.Walk.{form}
use Rattle.bz_sight.specs.Effects.{effect_instant}
use Rattle.bz_slotted.specs.Page.{page}
use Rattle.bz_slotted.specs.Readers.{live_of}
use Rattle.bz_slotted.specs.ReadingLaws.{node_of}
use Rattle.bz_slotted.specs.Records.{live_words}
use Rattle.bz_sound.specs.Memory.Moments.{image_at}
use Rattle.bz_sound.specs.Memory.Spent.{is_reached_in}
use Rattle.bz_swap.specs.SwapMemory.{entries_of}
use Rattle.bz_task.specs.Instant.{Instant, durable, is_inside}
use Rattle.bz_task.specs.Outcomes.{IsView}
use Rattle.bz_task.specs.Scene.{Past, here}
use Rattle.bz_task.specs.declared.view.LeafView.{LeafView}
use Rattle.bz_world.specs.Inside.Acted.{IsStriking}
use Rattle.bz_world.specs.Inside.Laws.{StrikeLaws}
use Rattle.bz_world.specs.Inside.Meant.{IsMeant, IsOfSettled}
use Rattle.bz_world.specs.Leaves.{in_tree, is_leaf_after, leaves_after, live_at, IsMomentOfCall, LeavesFollow, AddsALeaf, KeepsLeaves, MayBeCopied, NoneComesBack, TakesALeaf}
use Rattle.bz_world.specs.declared.parts.Parts.{Parts}
use Rattle.bz_world.specs.declared.serving.OpenCall.{OpenCall}
use Rattle.bz_world.proofs.Meant.{split-meant}
use Rattle.bz_world.proofs.Striking.{old, kept, w, x, its, owner, before, before-seen, waits, took-place, swaps-to, was-image, is-image}
use Rattle.std.specs.Prelude.{nat_lt}

-- a split was made of the leaf of the key of its call, which was seen with too many live words
record IsSeen (key : List ℕ) (p : Past) : Type 0 where
  view : LeafView
  is : IsView key view p

record IsSeenLarge (key : List ℕ) (slot : ℕ) (p : Past) : Type 0 where
  seen : IsSeen key p
  at : seen.view.slot ≡ slot
  many : SPLIT_ABOVE < live_of (node_of seen.view.image.0)

split-wants : (t : AnyTask) (k : ℕ) → IsSplitOf t k → wants_of t ≡ SPLIT_SLOTS
unfolding wants_of
split-wants (Splitting t) k split = refl
split-wants (SplittingBelow t a) k split = refl
split-wants t k split = absurd split

split-renews : (t : AnyTask) (k : ℕ) → IsSplitOf t k → is_renewal (kind_of t) ≡ true
unfolding kind_of
split-renews (Splitting t) k split = refl
split-renews (SplittingBelow t a) k split = refl
split-renews t k split = absurd split

split-seen : (t : AnyTask) (k : ℕ) (key : List ℕ) (words : ℕ) (p : Past) → IsSplitOf t k → IsMadeFor t key words p → IsSeenLarge key k p
unfolding IsMadeFor
split-seen (Splitting t) k key words p split m = record { seen = record { view = m.view; is = m.leaf.is }; at = m.at ∙ split; many = m.leaf.many }
split-seen (SplittingBelow t a) k key words p split m = record { seen = record { view = m.halves.view; is = m.halves.leaf.is }; at = m.halves.at ∙ split; many = m.halves.leaf.many }
split-seen t k key words p split m = absurd split

no-effect : (o : Option ℕ) → ((at : ℕ) → o ≡ Some at → ⊥) → o ≡ None
no-effect None never = refl
no-effect (Some at) never = absurd (never at refl)

large-seen : (y : OpenCall) (p : Past) (k : ℕ) → IsMeant y p → IsSplitOf y.task k → IsSeenLarge (key_of y.call) k p
large-seen y p k m split =
    let quiet : y.effect ≡ None = no-effect y.effect (λ at is. true≢false (sym (split-renews y.task k split) ∙ m.later at is)) in
    split-seen y.task k (key_of y.call) _ p split (split-meant y.call y.task p (split-wants y.task k split) (m.meant quiet))

-- and a merge of one that was seen with too few
record IsSeenSmall (key : List ℕ) (slot : ℕ) (p : Past) : Type 0 where
  seen : IsSeen key p
  at : seen.view.slot ≡ slot
  few : live_of (node_of seen.view.image.0) < MERGE_BELOW

pub merge-kind : (t : AnyTask) (k j : ℕ) (own other : List ℕ) → IsMergeOf t k j own other → kind_of t ≡ kinds.Merge
unfolding kind_of
merge-kind (Merging t) k j own other merge = refl
merge-kind t k j own other merge = absurd merge

merge-seen : (t : AnyTask) (k j : ℕ) (own other : List ℕ) (key : List ℕ) (p : Past) → IsMergeOf t k j own other → IsSmallMerge t key p → IsSeenSmall key k p
unfolding IsSmallMerge
merge-seen (Merging t) k j own other key p merge m = record { seen = record { view = m.view; is = m.is }; at = m.at ∙ merge.0; few = m.few }
merge-seen t k j own other key p merge m = absurd m

small-seen : (y : OpenCall) (p : Past) (k j : ℕ) (own other : List ℕ) → IsMeant y p → IsMergeOf y.task k j own other → IsSeenSmall (key_of y.call) k p
small-seen y p k j own other m merge = merge-seen y.task k j own other (key_of y.call) p merge (m.small (merge-kind y.task k j own other merge))

-- a copy was made of the leaf in its slot
copy-kind : (t : AnyTask) (k : ℕ) → IsCopyOf t k → kind_of t ≡ kinds.Copy
unfolding kind_of
copy-kind (Consolidating t) k copy = refl
copy-kind t k copy = absurd copy

copied-slot : (t : AnyTask) (k slot : ℕ) (key : List ℕ) (known : Past) → IsCopyOf t k → IsMadeFor t key 0 known → ((view : LeafView) → IsView key view known → view.slot ≡ slot) → slot ≡ k
unfolding IsMadeFor
copied-slot (Consolidating t) k slot key known copy made only = sym (only made.view made.is) ∙ (made.at ∙ copy)
copied-slot t k slot key known copy made only = absurd copy

-- of two tests
and-first : (a b : Bool) → (a && b) ≡ true → a ≡ true
and-first true b e = refl
and-first false b e = absurd (true≢false (sym e))

and-second : (a b : Bool) → (a && b) ≡ true → b ≡ true
and-second true b e = e
and-second false b e = absurd (true≢false (sym e))

and-both : (a b : Bool) → a ≡ true → b ≡ true → (a && b) ≡ true
and-both true b e h = h
and-both false b e h = absurd (true≢false (sym e))

and-out : (a b : Bool) → a ≡ true → (a && b) ≡ false → b ≡ false
and-out true b e out = out
and-out false b e out = absurd (true≢false (sym e))

and-false : (a : Bool) → (a && false) ≡ false
and-false true = refl
and-false false = refl

is-below : (k n : ℕ) → k < n → nat_lt k n ≡ true
is-below k n l = grind (arith, nat_tests)

not-last : (k n : ℕ) → nat_lt k n ≡ true → k ≢ n
not-last k n e = let l : k < n = grind (arith, nat_tests) in λ same. absurd (omega (arith, l, same))

-- where the swap of an open call takes effect
module _ (b : StrikeLaws) (p : Parts) (s : ℕ) (h : IsStriking p s) where
  abbrev c : Config
  c = (old b p s h).config

  abbrev log : Log
  log = (old b p s h).journal

  abbrev then : Instant
  then = effect_instant c p.access ((kept b p s h).story.at (length log.past))

  new-leaves : leaves_after c log.start (h.mark ∷ log.past) ≡ leaves_then (before b p s h) then
  new-leaves = ap (leaves_in c) (is-image b p s h)

  old-leaves : leaves_after c log.start log.past ≡ leaves_now (before b p s h)
  old-leaves = ap (leaves_in c) (was-image b p s h)

  -- what its call has seen was so at a moment of the call
  module _ (seen : IsSeen (key_of (x b p s h).call) (before b p s h).past) where
    since : (kept b p s h).story.from ≤ seen.view.at
    since = omega (arith, seen.is.since, (its b p s h).call_open.look.after_begin, (kept b p s h).living.begins (w b p s h) (its b p s h).opened (its b p s h).call_open.is_open)

    said : IsSaidBy (key_of (x b p s h).call) seen.view (before b p s h).past
    said = b.said (key_of (x b p s h).call) seen.view (before b p s h).past seen.is ((kept b p s h).living.history.good seen.view.at since seen.is.now)

    leaf-is : leaf_page c (image_of (image_at log.start seen.view.at log.past)) (key_of (x b p s h).call) ≡ page (durable c ((kept b p s h).story.at seen.view.at) seen.view.slot)
    leaf-is = ap (λ i. leaf_page c (image_of i) (key_of (x b p s h).call)) (sym ((kept b p s h).living.images seen.view.at since seen.is.now)) ∙ ap (λ k. page (durable c ((kept b p s h).story.at seen.view.at) k)) seen.is.leaf

    live-is : live_at c log.start log.past (its b p s h).opened seen.view.at ≡ live_of (node_of seen.view.image.0)
    unfolding live_of
    live-is = ap (λ (key : List ℕ). live_words (leaf_page c (image_of (image_at log.start seen.view.at log.past)) key)) (ap key_of (its b p s h).call_open.call) ∙ (ap live_words leaf-is ∙ sym said.live)

    abbrev moment-of : IsMomentOfCall log.past
    moment-of = record { worker = w b p s h; opened = (its b p s h).opened; is_open = (its b p s h).call_open.is_open; moment = seen.view.at; after_begin = omega (arith, seen.is.since, (its b p s h).call_open.look.after_begin); by_now = seen.is.now }

  pub own-swap : IsOwnSwap (config_of (x b p s h).task) (asks_of (x b p s h).task) (facts_of (x b p s h).task) (entries_of (old b p s h).access s) (before b p s h) then
  own-swap = record { config = sym (its b p s h).tasked.config; good = (before-seen b p s h).scene; knows = waits b p s h; asks = (owner b p s h).asks; stand = (took-place b p s h).stand; leads = swaps-to b p s h }

  -- a slot is in the tree then, or now
  in-then : (k : ℕ) → in_tree c log.start (h.mark ∷ log.past) k ≡ nat_lt k c.nodes && is_inside c then k
  in-then k = ap (λ (image : ℕ → ℕ). is_reached_in c image k) (is-image b p s h)

  in-now : (k : ℕ) → in_tree c log.start log.past k ≡ nat_lt k c.nodes && is_inside c (here (before b p s h)) k
  in-now k = ap (λ (image : ℕ → ℕ). is_reached_in c image k) (was-image b p s h)

  -- and a link has led to what was in the tree at a moment of an open call
  was-reached : (m : IsMomentOfCall log.past) (k : ℕ) → is_reached_in c (image_at log.start m.moment log.past) k ≡ true → (here (before b p s h)).reached k ≡ true
  was-reached m k came = (b.fronts c (kept b p s h).story.at (kept b p s h).story.from (length log.past) m.moment (length log.past) k (kept b p s h).living.history (record { since = from; order = m.by_now; until = omega arith }) reached).reached
    where
      from : (kept b p s h).story.from ≤ m.moment
      from = omega (arith, (kept b p s h).living.begins m.worker m.opened m.is_open, m.after_begin)

      inside : is_inside c ((kept b p s h).story.at m.moment) k ≡ true
      inside = ap (λ (image : ℕ → ℕ). (form (view_in c image)).inside k) ((kept b p s h).living.images m.moment from m.by_now) ∙ and-second (nat_lt k c.nodes) _ came

      reached : ((kept b p s h).story.at m.moment).reached k ≡ true
      reached = ((kept b p s h).living.history.good m.moment from m.by_now).inside k inside (not-last k c.nodes (and-first (nat_lt k c.nodes) _ came))

  -- none comes back
  none-back : BringsNoneBack (before b p s h) then → NoneComesBack c log.start log.past h.mark
  none-back back m k came now = go (in_tree c log.start (h.mark ∷ log.past) k) refl
    where
      go : (t : Bool) → in_tree c log.start (h.mark ∷ log.past) k ≡ t → in_tree c log.start (h.mark ∷ log.past) k ≡ false
      go false e = e
      go true e =
          let both : nat_lt k c.nodes && is_inside c then k ≡ true = sym (in-then k) ∙ e in
          absurd (elim (back k (and-second (nat_lt k c.nodes) (is_inside c then k) both)) [
            | inl inside ↦ true≢false (sym (and-both (nat_lt k c.nodes) (is_inside c (here (before b p s h)) k) (and-first (nat_lt k c.nodes) (is_inside c then k) both) inside) ∙ (sym (in-now k) ∙ now))
            | inr unreached ↦ true≢false (sym (was-reached m k came) ∙ unreached)
          ])

  -- what is known of a leaf that was seen
  seen-leaf : (seen : IsSeen (key_of (x b p s h).call) (before b p s h).past) → leaf_in c (image_at log.start seen.view.at log.past) (key_of (its b p s h).opened.call) ≡ seen.view.slot
  seen-leaf seen = ap (λ (called : Call). leaf_in c (image_at log.start seen.view.at log.past) (key_of called)) (its b p s h).call_open.call
      ∙ (ap (λ i. leaf_in c i (key_of (x b p s h).call)) (sym ((kept b p s h).living.images seen.view.at (since seen) seen.is.now)) ∙ seen.is.leaf)

  -- the leaf that was split
  split : (grows : Grows (x b p s h).task (before b p s h) then) → AddsALeaf c log.start log.past h.mark
  split grows = record {
    more = omega (arith, new-leaves, grows.splits.more, old-leaves);
    call = moment-of large.seen;
    many = omega (arith, live-is large.seen, large.many);
    slot = large.seen.view.slot;
    leaf = seen-leaf large.seen;
    was = in-now large.seen.view.slot ∙ and-both (nat_lt large.seen.view.slot c.nodes) _ (is-below large.seen.view.slot c.nodes large.seen.is.slot) (ap (is_inside c (here (before b p s h))) large.at ∙ and-first (is_inside c (here (before b p s h)) grows.slot) _ grows.splits.leaf);
    gone = in-then large.seen.view.slot ∙ (ap (λ (t : Bool). nat_lt large.seen.view.slot c.nodes && t) (ap (is_inside c then) large.at ∙ grows.splits.gone) ∙ and-false (nat_lt large.seen.view.slot c.nodes));
  }
    where
      large : IsSeenLarge (key_of (x b p s h).call) grows.slot (before b p s h).past
      large = large-seen (x b p s h) (before b p s h).past grows.slot (its b p s h).meant grows.is

  -- the leaf that was merged
  merged : (shrinks : Shrinks (x b p s h).task (before b p s h) then) → TakesALeaf c log.start log.past h.mark
  merged shrinks = record {
    less = omega (arith, new-leaves, shrinks.merges.less, old-leaves);
    call = moment-of small.seen;
    few = omega (arith, live-is small.seen, small.few);
    slot = small.seen.view.slot;
    leaf = seen-leaf small.seen;
    was = in-now small.seen.view.slot ∙ and-both (nat_lt small.seen.view.slot c.nodes) _ (is-below small.seen.view.slot c.nodes small.seen.is.slot) (ap (is_inside c (here (before b p s h))) small.at ∙ and-first (is_inside c (here (before b p s h)) shrinks.slot) _ shrinks.merges.leaf);
    gone = in-then small.seen.view.slot ∙ (ap (λ (t : Bool). nat_lt small.seen.view.slot c.nodes && t) (ap (is_inside c then) small.at ∙ shrinks.merges.gone) ∙ and-false (nat_lt small.seen.view.slot c.nodes));
  }
    where
      small : IsSeenSmall (key_of (x b p s h).call) shrinks.slot (before b p s h).past
      small = small-seen (x b p s h) (before b p s h).past shrinks.slot shrinks.beside shrinks.own shrinks.other (its b p s h).meant shrinks.is

  -- one that a copy was made of
  module _ (m : IsOfSettled (x b p s h).task (key_of (x b p s h).call) (before b p s h).past) where
    from-settled : (kept b p s h).story.from ≤ m.was.moment
    from-settled = omega (arith, m.was.since, (its b p s h).call_open.look.after_begin, (kept b p s h).living.begins (w b p s h) (its b p s h).opened (its b p s h).call_open.is_open)

    image-settled : image_at log.start m.was.moment log.past ≡ ((kept b p s h).story.at m.was.moment).image
    image-settled = sym ((kept b p s h).living.images m.was.moment from-settled m.was.now)

    may-be-copied : MayBeCopied c log.start log.past m.slot
    may-be-copied = record {
      call = record { worker = w b p s h; opened = (its b p s h).opened; is_open = (its b p s h).call_open.is_open; moment = m.was.moment; after_begin = omega (arith, m.was.since, (its b p s h).call_open.look.after_begin); by_now = m.was.now };
      leaf = (λ e. leaf_in c (image-settled e) (key_of ((its b p s h).call_open.call e))) ∙ m.was.leaf;
      frozen = (λ e. (leaf_page c (image_of (image-settled e)) (key_of ((its b p s h).call_open.call e))).frozen) ∙ m.was.frozen;
      few = let same : live_at c log.start log.past (its b p s h).opened m.was.moment ≡ live_words (leaf_page c (image_of ((kept b p s h).story.at m.was.moment).image) (key_of (x b p s h).call)) = λ e. live_words (leaf_page c (image_of (image-settled e)) (key_of ((its b p s h).call_open.call e))) in omega (arith, same, m.was.few);
    }

  -- a leaf of the tree now, which is not in it then
  leaf-now : (k : ℕ) → is_leaf_after c log.start log.past k ≡ true → IsLeafNow (before b p s h) k
  leaf-now k leaf = ap (λ (image : ℕ → ℕ). is_leaf (view_in c image) k) (sym (was-image b p s h)) ∙ and-second (nat_lt k c.nodes) _ leaf

  out-then : (k : ℕ) → is_leaf_after c log.start log.past k ≡ true → in_tree c log.start (h.mark ∷ log.past) k ≡ false → is_inside c then k ≡ false
  out-then k leaf out = and-out (nat_lt k c.nodes) (is_inside c then k) (and-first (nat_lt k c.nodes) _ leaf) (sym (in-then k) ∙ out)

  -- none goes, or one that was copied
  stay : KeepsTheLeaves (before b p s h) then → KeepsLeaves c log.start log.past h.mark
  stay keeps = record {
    same = new-leaves ∙ (keeps.same ∙ sym old-leaves);
    copied = λ k leaf out. absurd (stays k leaf out);
    once = λ k j leaf out also gone. absurd (stays k leaf out);
  }
    where
      stays : (k : ℕ) → is_leaf_after c log.start log.past k ≡ true → in_tree c log.start (h.mark ∷ log.past) k ≡ false → ⊥
      stays k leaf out = true≢false (sym (keeps.stay k (leaf-now k leaf)) ∙ out-then k leaf out)

  renewed : Renews (x b p s h).task (before b p s h) then → KeepsLeaves c log.start log.past h.mark
  renewed r = record {
    same = new-leaves ∙ (r.renews.same ∙ sym old-leaves);
    copied = λ k leaf out. subst (MayBeCopied c log.start log.past) (copied-slot (x b p s h).task r.slot m.slot (key_of (x b p s h).call) m.known r.is m.made m.only ∙ sym (that k leaf out)) (may-be-copied m);
    once = λ k j leaf out also gone. that k leaf out ∙ sym (that j also gone);
  }
    where
      m : IsOfSettled (x b p s h).task (key_of (x b p s h).call) (before b p s h).past
      m = (its b p s h).meant.copied (copy-kind (x b p s h).task r.slot r.is)

      that : (k : ℕ) → is_leaf_after c log.start log.past k ≡ true → in_tree c log.start (h.mark ∷ log.past) k ≡ false → k ≡ r.slot
      that k leaf out = r.renews.only k (leaf-now k leaf) (out-then k leaf out)

  pub struck-leaves : LeavesFollow c (old b p s h).at_start log.start log.past h.mark
  struck-leaves on = elim (b.leaves (x b p s h).task (entries_of (old b p s h).access s) (before b p s h) then own-swap) [
    | inl keeps ↦ record { leaves = inl (stay keeps); back = none-back keeps.back }
    | inr (inl renews) ↦ record { leaves = inl (renewed renews); back = none-back renews.renews.back }
    | inr (inr (inl grows)) ↦ record { leaves = inr (inl (split grows)); back = none-back grows.splits.back }
    | inr (inr (inr shrinks)) ↦ record { leaves = inr (inr (merged shrinks)); back = none-back shrinks.merges.back }
  ]
