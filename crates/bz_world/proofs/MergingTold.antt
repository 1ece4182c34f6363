-- What is known of a merge that is due, once its task is told what came of what it asked for.
use Rattle.std.proofs.Common.{◌≡◌, ◌≢◌, ◌<◌, ◌≤◌, ◌+◌, ◌&&◌, ℕ, Bool, true, length, arith, refl, sym, ap, subst, ◌∙◌, inl, inr, Some, None, false}
use Rattle.bz_call.specs.Map.{key_of}
use Rattle.bz_call.specs.declared.replies.Spent.TheVariants.{Height, Nodes, Swaps}
use Rattle.bz_layout.specs.Slots.{FreeSlots}
use Rattle.bz_layout.specs.declared.config.Config.{Config}
use Rattle.bz_layout.specs.declared.thresholds.TheConstants.{SPLIT_SLOTS}
use Rattle.bz_solo.specs.FromAlone.Counts.{HasOthers}
use Rattle.bz_solo.specs.FromJoined.Neighbours.{KnowsItsLeaf, KnownLeavesStay}
use Rattle.bz_mark.specs.Log.{Log}
use Rattle.bz_any_task.specs.Duties.{asks_of, end_of, made_of, swaps_of, needs_of, wants_of, means_of}
use Rattle.bz_any_task.specs.Ends.{IsEndOf, EndsOrNeedsRoom}
use Rattle.bz_any_task.specs.Hearing.{HasHeard}
use Rattle.bz_any_task.specs.Kinds as kinds
use Rattle.bz_any_task.specs.Kinds.{Kind, kind_of}
use Rattle.bz_any_task.specs.Laws.{AreLaws}
use Rattle.bz_any_task.specs.declared.running.AnyTask.{AnyTask}
use Rattle.bz_sound.specs.Calls.{Open}
use Rattle.bz_task.specs.OwnActs.{AreTakenFrom}
use Rattle.bz_task.specs.Requests.{Hears, effects_in}
use Rattle.bz_task.specs.Scene.{Past, Scene}
use Rattle.bz_task.specs.declared.todo.Outcome.{Outcome}
use Rattle.bz_task.specs.declared.todo.Outcome.TheVariants.{Done, Restart, NeedsRoom, Full}
use Rattle.bz_task.specs.declared.todo.Seen.{Seen}
use Rattle.bz_task.specs.declared.todo.Seen.TheVariants as seen
use Rattle.bz_task.specs.declared.todo.Todo.{Todo}
use Rattle.bz_world.specs.Inside.Exact.{reach, answered_in, seeks}
use Rattle.bz_world.specs.Inside.Merging.{is_below, looks_on, IsTellingFew, EndsShort, IsMergingLeaf, IsMerging, IsDuly}
use Rattle.bz_world.specs.Inside.Paid.{Stock}
use Rattle.bz_world.specs.declared.serving.OpenCall.{OpenCall}
use Rattle.bz_world.proofs.Exact.{none-ended}
use Rattle.bz_world.proofs.Merging.{on-look}
use Rattle.bz_world.proofs.ExactTold.{deaf, none-left, told-swaps}
use Rattle.bz_stage.specs.FromLeaves.Neighbours.{MayBeMerged}

-- an effect is told so
told-true : (what : Seen) → effects_in what ≡ 1 → what ≡ seen.Swapped true
told-true (seen.Swapped true) e = refl
told-true (seen.Swapped false) e = absurd (cc e)
told-true seen.Start e = absurd (cc e)
told-true (seen.Read v) e = absurd (cc e)
told-true seen.Stored e = absurd (cc e)
told-true seen.Flushed e = absurd (cc e)
told-true seen.NoSwap e = absurd (cc e)

-- a merge ends as any restructuring, and for want of a neighbour with room
merge-ends : (k : Kind) (o : Outcome) → k ≡ kinds.Merge → IsEndOf k o → EndsOrNeedsRoom o
merge-ends k o e ends = subst (λ z. IsEndOf z o) e ends

-- as long as a task is to take slots none is gone
none-gone : (before after : ℕ) (free left : FreeSlots) → AreTakenFrom before after free left → 0 < after → left ≡ free
none-gone before after free left (inl all) some = absurd (omega (arith, all.none_left, some))
none-gone before after free left (inr none) some = none.slots

no-more-needs : (before after : ℕ) (free left : FreeSlots) → AreTakenFrom before after free left → after ≤ before
no-more-needs before after free left (inl all) = omega (arith, all.none_left)
no-more-needs before after free left (inr none) = none.fewer

module _ (c : Config) (log : Log) (opened : Open) (p : Past) (taken : ℕ) (stock : Stock) (x : OpenCall) (next : AnyTask) (what : Seen) (moment : ℕ) (free : FreeSlots) (asked : Todo) (left : FreeSlots) (h : HasHeard x.task what moment free asked next left)
    (laws : AreLaws x.task) (later : AreLaws next) (hears : Hears (asks_of x.task) what) (others : ℕ) (counted : HasOthers others (made_of x.task + effects_in what) p) (not-again : others ≡ 0 → end_of next ≢ Some Restart)
    (means : (o : Outcome) → end_of next ≡ Some o → (z : Scene) × means_of next o z) (held : stock.left ≡ length free.free) (known : KnownLeavesStay) (not-high : end_of next ≡ Some (Full Height) → wants_of next ≡ SPLIT_SLOTS)
    (not-room : kind_of x.task ≡ kinds.Merge → KnowsItsLeaf x.task (key_of x.call) p → (i : ℕ) → p.since ≤ i → i ≤ p.now → MayBeMerged p.config (p.at i).image (key_of x.call) → HasOthers 0 (made_of x.task + effects_in what) p → end_of next ≡ Some NeedsRoom → ⊥) where
  abbrev stock-then : Stock
  stock-then = record stock { left = length left.free }

  goes : end_of x.task ≡ None
  goes = none-ended (end_of x.task) (λ some. deaf what (subst (λ o. Hears o what) (laws.only some) hears))

  left-same : needs_of x.task ≡ 0 → length left.free ≡ stock.left
  left-same none = elim h.goes.slots [
    | inl all ↦ absurd (omega (arith, all.some, none))
    | inr same ↦ ap (λ (f : FreeSlots). length f.free) same.slots ∙ sym held
  ]

  fewer : answered_in what + swaps_of next ≤ swaps_of x.task
  fewer = omega (arith, h.goes.fewer, told-swaps (asks_of x.task) what hears)

  -- its last swap took effect, and it has ended
  done : effects_in what ≡ 1 → swaps_of x.task ≤ 1 → end_of next ≡ Some Done
  done one few = let won : what ≡ seen.Swapped true = told-true what one in h.goes.last won (omega (arith, few, fewer, ap answered_in won))

  module _ (at : ℕ) where
    telling-told : IsTellingFew (reach taken (effects_in what) (answered_in what)) x → IsTellingFew (reach taken 0 0) (record x { task = next })
    telling-told t =
        let w = t.waits goes in
        let ended : end_of next ≡ Some Done = done w.0 w.1 in
        record {
          kind = h.kind ∙ t.kind;
          wants = h.wants ∙ t.wants;
          few = ap (λ (b : Bool). is_below x.path && b) h.few ∙ t.few;
          waits = λ on. absurd (cc (on, ended));
          ends = λ o e. let same : Some Done ≡ Some o = sym ended ∙ e in cc same;
        }

    module _ (u : IsMergingLeaf c log at p (reach taken (effects_in what) (answered_in what)) stock x) where
      undisturbed-now : HasOthers 0 (made_of x.task + effects_in what) p
      undisturbed-now = u.alone goes

      ends-short : (o : Outcome) → EndsOrNeedsRoom o → end_of next ≡ Some o → EndsShort c log at (reach taken 0 0) o
      ends-short Done h' e = absurd (let none = u.before (omega (arith, h.goes.only_last e)) in omega (arith, none, ap effects_in (h.goes.done e)))
      ends-short Restart h' e = absurd (not-again (omega (arith, undisturbed-now, counted)) e)
      ends-short NeedsRoom h' e = absurd (not-room u.kind u.knows u.seen u.seen_since u.seen_by_now u.may undisturbed-now e)
      ends-short (Full Nodes) h' e =
          let some : 0 < needs_of x.task = omega (arith, h.goes.full_nodes e) in
          omega (arith, h.goes.full_nodes e, held, u.left some, laws.few, u.wants)
      ends-short (Full Swaps) h' e = let lacked = h.goes.full_swaps e in omega (arith, u.taken, h.goes.fewer, none-left (asks_of x.task) what hears lacked, ap answered_in lacked)
      ends-short (Full Height) h' e = absurd (omega (arith, not-high e, h.wants, u.wants))
      ends-short o h' e = absurd h'

      merging-leaf-told : IsMergingLeaf c log at p (reach taken 0 0) stock-then (record x { task = next })
      merging-leaf-told = record {
        kind = h.kind ∙ u.kind;
        moment = u.moment;
        after = u.after;
        stood = u.stood;
        leaves = u.leaves;
        alone = λ on. let sum : made_of x.task + effects_in what ≡ made_of next + 0 = omega (arith, h.goes.counted on) in subst (λ k. HasOthers 0 k p) sum undisturbed-now;
        knows = known.heard x.task next (key_of x.call) p u.knows h.goes.meant;
        seen = u.seen;
        seen_since = u.seen_since;
        seen_by_now = u.seen_by_now;
        may = u.may;
        wants = h.wants ∙ u.wants;
        left = λ some. omega (arith, u.left (omega (arith, some, no-more-needs (needs_of x.task) (needs_of next) free left h.goes.slots)), ap (λ (f : FreeSlots). length f.free) (none-gone (needs_of x.task) (needs_of next) free left h.goes.slots some), held);
        taken = omega (arith, u.taken, fewer);
        before = λ few. refl;
        ends = λ o e. ends-short o (merge-ends (kind_of next) o (h.kind ∙ u.kind) (later.ends_of o (means o e).0 (means o e).1)) e;
      }

    merging-told : IsMerging c log at p (reach taken (effects_in what) (answered_in what)) stock x → IsMerging c log at p (reach taken 0 0) stock-then (record x { task = next })
    merging-told (inl s) = elim s.task [
      | inl tells ↦ inl (record { standing = record { stood = s.standing.stood; taken = s.standing.taken; left = omega (arith, s.standing.left, left-same (omega (arith, laws.few, tells.wants))) }; task = inl (telling-told tells) })
      | inr look ↦ inl (record { standing = record { stood = s.standing.stood; taken = s.standing.taken; left = omega (arith, s.standing.left, left-same (laws.looks (on-look (kind_of x.task) look.looks)).needs) }; task = inr (record { looks = ap looks_on h.kind ∙ look.looks; first = λ seek. look.first (sym h.kind ∙ seek); alone = look.alone }) })
    ]
    merging-told (inr (inl u)) = inr (inl (merging-leaf-told u))
    merging-told (inr (inr (inl d))) = let w = d.waits goes in let ended : end_of next ≡ Some Done = done w.0 w.1 in
        inr (inr (inl (record { kind = h.kind ∙ d.kind; moment = d.moment; after = d.after; stood = d.stood; leaves = d.leaves; waits = λ on. absurd (cc (on, ended)) })))
    merging-told (inr (inr (inr o))) = inr (inr (inr (record { later = o.later; moment = o.moment; after = o.after; stood = o.stood; over = o.over })))

  pub duly-told : IsDuly c log opened p (reach taken (effects_in what) (answered_in what)) stock x → IsDuly c log opened p (reach taken 0 0) stock-then (record x { task = next })
  duly-told d = record {
    looking = λ quiet seek. d.looking quiet (sym (ap seeks h.kind) ∙ seek);
    deleting = λ quiet kind on. let g = d.deleting quiet (sym h.kind ∙ kind) goes in record {
      alone = let sum : made_of x.task + effects_in what ≡ made_of next + 0 = omega (arith, h.goes.counted on) in subst (λ k. HasOthers 0 k p) sum g.alone;
      wants = h.wants ∙ g.wants;
      swaps = omega (arith, g.swaps, fewer);
      way = g.way;
      low = g.low;
    };
    merging = λ at is deletes. let m = d.merging at is deletes in record { after_begin = m.after_begin; by_now = m.by_now; merging = λ may. merging-told at (m.merging may) };
  }
