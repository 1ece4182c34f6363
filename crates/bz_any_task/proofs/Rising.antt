-- The split of the node above knows what it must where the one below lacked the room there.
use Rattle.std.proofs.Common.{◌≡◌, ◌-◌, slice_get, arith, refl, sym, subst, ◌∙◌, Some}
use Rattle.bz_ascent.specs.Ascents.{IsAscent, IsOneUp}
use Rattle.bz_ascent.specs.declared.ascent.Ascent.{Ascent}
use Rattle.bz_ascent.proofs.Proved.{ascents_rise}
use Rattle.bz_crown.specs.Due as crown
use Rattle.bz_fork.specs.Due as fork
use Rattle.bz_task.specs.Scene.{Scene, Waiting, IsScene}
use Rattle.bz_task.specs.declared.todo.Outcome.TheVariants.{NeedsRoom}
use Rattle.bz_layout.specs.declared.thresholds.TheConstants.{SPLIT_SLOTS}
use Rattle.bz_any_task.specs.Ascending.{LooksUp}
use Rattle.bz_any_task.specs.Duties.{config_of, end_of, wants_of, ascent_of, facts_of, means_of, view_of}
use Rattle.bz_any_task.specs.GoingUp.{MayBeSplit, IsSplitAt, GoesUp}
use Rattle.bz_any_task.specs.Hearing.{IsLookup}
use Rattle.bz_any_task.specs.MadeFor.{WasCrowded, IsMadeFor}
use Rattle.bz_any_task.specs.declared.running.AnyTask.{AnyTask}
use Rattle.bz_any_task.specs.declared.running.AnyTask.TheVariants.{Seeking, Finding, Reading, Inserting, Updating, Deleting, Freezing, Consolidating, Splitting, SplittingBelow, SplittingInner, SplittingInnerRoot, Merging, MergingInner, Lowering}
use Rattle.bz_any_task.proofs.Ascending.{same-ascent}
use Rattle.bz_any_task.proofs.Made.{stands-on-crowded}
use Rattle.bz_any_task.proofs.Statements.{Ends}

-- a split on the way up
pub record IsRising (t : AnyTask) (a : Ascent) : Type 0 where
  pub wants : wants_of t ≡ SPLIT_SLOTS
  pub knows : (s : Scene) → facts_of t Waiting s → IsAscent a s.past × LooksUp a (means_of t)

pub is-rising : (t : AnyTask) (a : Ascent) → ascent_of t ≡ Some a → IsRising t a
unfolding wants_of ascent_of view_of
is-rising (Seeking t) a e = absurd (cc)
is-rising (Finding t) a e = absurd (cc)
is-rising (Reading t) a e = absurd (cc)
is-rising (Inserting t) a e = absurd (cc)
is-rising (Updating t) a e = absurd (cc)
is-rising (Deleting t) a e = absurd (cc)
is-rising (Freezing t) a e = absurd (cc)
is-rising (Consolidating t) a e = absurd (cc)
is-rising (Splitting t) a e = absurd (cc)
is-rising (SplittingBelow t b) a e = subst (IsRising (SplittingBelow t b)) (same-ascent b a e) (record { wants = refl; knows = λ s f. f.1 })
is-rising (SplittingInner t b) a e = subst (IsRising (SplittingInner t b)) (same-ascent b a e) (record { wants = refl; knows = λ s f. f.1 })
is-rising (SplittingInnerRoot t b) a e = subst (IsRising (SplittingInnerRoot t b)) (same-ascent b a e) (record { wants = refl; knows = λ s f. f.1 })
is-rising (Merging t) a e = absurd (cc)
is-rising (MergingInner t) a e = absurd (cc)
is-rising (Lowering t) a e = absurd (cc)

pub rises-on : (t : AnyTask) → Ends t → (a up : Ascent) (s : Scene) → ascent_of t ≡ Some a → IsOneUp a up → s.past.config ≡ config_of t → IsScene s → facts_of t Waiting s → end_of t ≡ Some NeedsRoom → IsAscent up s.past
rises-on t ends a up s is one same good f e =
    let k = (is-rising t a is).knows s f in
    let l = k.1.lacks up s one (ends s NeedsRoom f e).0 in
    ascents_rise a up s l.sep one good k.0 l.lacked

pub goes-up : (t next : AnyTask) (a up : Ascent) → Ends t → ascent_of t ≡ Some a → IsOneUp a up → IsSplitAt (config_of t) up next → GoesUp t next
goes-up t next a up ends is one it = record {
  config = it.config;
  above = record { from = a; up = up; begun = is; one = one; kind = it.kind };
  asks = it.asks;
  left = it.left;
  swaps = it.swaps;
  made = it.made;
  wanted = (is-rising t a is).wants;
  wants = it.wants;
  silent = it.silent;
  facts = λ s same good f e. (
      let k = (is-rising t a is).knows s f in
      let l = k.1.lacks up s one (ends s NeedsRoom f e).0 in
      it.facts s same good (ascents_rise a up s l.sep one good k.0 l.lacked));
  made_for = λ key words p m. (
      let w = stands-on-crowded t a is key words p m in
      subst (λ k. IsMadeFor next k words p) (one.key_is ∙ w.key_is) (it.made_for w.view words p (record { last = w.foot.last; is = subst (λ z. slice_get z.links (z.depth - 1) ≡ Some w.foot.last) (sym one.path_is) w.foot.is }) (subst (λ k. WasCrowded k w.view p) (sym (one.key_is ∙ w.key_is)) w.leaf)));
  ends = λ key way other h. subst (λ k. IsLookup k other next) (one.key_is ∙ h.ascent a is) (it.ends other);
}

-- there is one node above
pub still-due : (from up next : Ascent) → IsOneUp from up → IsOneUp from next → MayBeSplit up → MayBeSplit next
still-due from up next one other may =
    let path : up.path ≡ next.path = one.path_is ∙ sym other.path_is in
    let place : up.place ≡ next.place = omega (arith, one.before, other.before) in
    record {
      below = λ some. subst (λ p. fork.IsDue p (next.place - 1)) path (subst (λ i. fork.IsDue up.path (i - 1)) place (may.below (omega (arith, some, place))));
      root = λ none. subst crown.IsDue path (may.root (place ∙ none));
    }
