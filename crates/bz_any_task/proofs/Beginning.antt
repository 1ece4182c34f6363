-- A task that makes no change goes on as it begins, but for a look-up in a leaf: one that takes slots by its contract, and the others by what
-- they may end with.
use Rattle.std.proofs.Common.{◌≡◌, ℕ, zero, suc, ◌<◌, Bool, true, false, Option, Some, None, arith, refl, sym, subst, ◌∙◌}
use Rattle.bz_ascent.specs.FromBelow.Duties.{asks_below, end_below, needs_below}
use Rattle.bz_ascent.specs.FromBelow.SplitBelow.{SplitBelow}
use Rattle.bz_consol.specs.Duties as consol
use Rattle.bz_consol.specs.Facts.{Renewal, consol_asks, consol_needs}
use Rattle.bz_consol.specs.declared.consolidate.Consolidate.{Consolidate}
use Rattle.bz_writer.specs.declared.phase.WritePhase.{WritePhase}
use Rattle.bz_writer.specs.declared.phase.WritePhase.TheVariants as write
use Rattle.bz_crown.specs.Duties.{crown_of, asks_crown, end_crown, needs_crown}
use Rattle.bz_crown.specs.Facts.{Crown, crown_asks, crown_needs}
use Rattle.bz_crown.specs.declared.phase.CrownPhase.{CrownPhase}
use Rattle.bz_crown.specs.declared.phase.CrownPhase.TheVariants as crown
use Rattle.bz_crown.specs.declared.split_inner_root.SplitInnerRoot.{SplitInnerRoot}
use Rattle.bz_descend.specs.SeekDuties as seek
use Rattle.bz_descend.specs.SeekFacts.{seek_end}
use Rattle.bz_descend.specs.declared.seek.Seek.{Seek}
use Rattle.bz_descend.specs.declared.sight.Way.{Way}
use Rattle.bz_descend.specs.declared.sight.Way.TheVariants as way
use Rattle.bz_fork.specs.Duties.{fork_of, asks_fork, end_fork, needs_fork}
use Rattle.bz_fork.specs.Facts.{Fork, fork_asks, fork_needs}
use Rattle.bz_fork.specs.declared.phase.ForkPhase.{ForkPhase}
use Rattle.bz_fork.specs.declared.phase.ForkPhase.TheVariants as fork
use Rattle.bz_fork.specs.declared.split_inner.SplitInner.{SplitInner}
use Rattle.bz_freeze.specs.Facts.{freeze_end}
use Rattle.bz_freeze.specs.declared.phase.FreezePhase.{FreezePhase}
use Rattle.bz_freeze.specs.declared.phase.FreezePhase.TheVariants as freeze
use Rattle.bz_inner.specs.JoinDuties.{joining_of, asks_joining}
use Rattle.bz_inner.specs.JoinFacts.{joining_asks, joining_end, joining_needs}
use Rattle.bz_inner.specs.Joinings.{Joining}
use Rattle.bz_inner.specs.LowerDuties.{lowering_of}
use Rattle.bz_inner.specs.LowerFacts.{Lowering, WasNotLone, lower_end, lower_facts, lower_means}
use Rattle.bz_inner.specs.declared.join_phase.JoinPhase.{JoinPhase}
use Rattle.bz_inner.specs.declared.join_phase.JoinPhase.TheVariants as join
use Rattle.bz_inner.specs.declared.lower.Lower.{Lower}
use Rattle.bz_inner.specs.declared.lower_phase.LowerPhase.{LowerPhase}
use Rattle.bz_inner.specs.declared.lower_phase.LowerPhase.TheVariants as lower
use Rattle.bz_inner.specs.declared.merge_inner.MergeInner.{MergeInner}
use Rattle.bz_layout.specs.declared.config.Config.{Config}
use Rattle.bz_leaf.specs.Duties as leaf
use Rattle.bz_leaf.specs.Facts.{leaf_end}
use Rattle.bz_leaf.specs.declared.phase.LeafPhase.{LeafPhase}
use Rattle.bz_leaf.specs.declared.phase.LeafPhase.TheVariants as leaf_phase
use Rattle.bz_leaf.specs.declared.read_leaf.ReadLeaf.{ReadLeaf}
use Rattle.bz_merge.specs.Duties as merge
use Rattle.bz_merge.specs.Facts.{merge_asks, merge_needs}
use Rattle.bz_merge.specs.FromSplit.Duties as split
use Rattle.bz_merge.specs.FromSplit.SplitRoot.{SplitRoot}
use Rattle.bz_merge.specs.Plans.{Merging as Plan}
use Rattle.bz_merge.specs.declared.merge.Merge.{Merge}
use Rattle.bz_merge.specs.declared.phase.MergePhase.{MergePhase}
use Rattle.bz_merge.specs.declared.phase.MergePhase.TheVariants as merge_phase
use Rattle.bz_task.specs.Requests.{Hears, EndsAtOnce}
use Rattle.bz_task.specs.Scene.{Scene, Waiting}
use Rattle.bz_task.specs.declared.path.Path.{Path}
use Rattle.bz_task.specs.declared.todo.Outcome.{Outcome}
use Rattle.bz_task.specs.declared.todo.Outcome.TheVariants.{NeedsRoom}
use Rattle.bz_task.specs.declared.todo.Seen.{Seen}
use Rattle.bz_task.specs.declared.todo.Seen.TheVariants.{Start}
use Rattle.bz_any_task.specs.Duties.{asks_of}
use Rattle.bz_any_task.specs.declared.running.AnyTask.{AnyTask}

-- whatever it ends with, it may end so at once
abbrev pub AtOnce : Option Outcome → ℕ → Type 0
AtOnce e needs = (o : Outcome) → e ≡ Some o → EndsAtOnce needs o

-- what it hears as it begins
pub hears-start : (t v : AnyTask) (seen : Seen) → t ≡ v → seen ≡ Start → Hears (asks_of t) seen → Hears (asks_of v) Start
hears-start t v seen same start h = subst (λ z. Hears (asks_of z) Start) same (subst (λ z. Hears (asks_of t) z) start h)

-- one that takes slots does not end so
goes-on : (e : Option Outcome) (needs : ℕ) → 0 < needs → AtOnce e needs → e ≡ None
goes-on None needs some f = refl
goes-on (Some o) zero some f = absurd (omega (arith, some))
goes-on (Some o) (suc n) some f = absurd (f o refl)

copy-takes : (c : Config) (r : Renewal) (p : WritePhase) → Hears (consol_asks c r p) Start → 0 < consol_needs p
copy-takes c r write.Fresh h = omega arith
copy-takes c r p h = absurd h

split-takes : (t : SplitRoot) → Hears (split.asks_of t) Start → 0 < split.needs_of t
split-takes t h = grind arith

below-takes : (t : SplitBelow) → Hears (asks_below t) Start → 0 < needs_below t
below-takes t h = grind arith

fork-takes : (c : Config) (r : Fork) (p : ForkPhase) → Hears (fork_asks c r p) Start → 0 < fork_needs p
fork-takes c r fork.Fresh h = omega arith
fork-takes c r (fork.Writing write.Fresh) h = omega arith
fork-takes c r p h = absurd h

crown-takes : (c : Config) (r : Crown) (p : CrownPhase) → Hears (crown_asks c r p) Start → 0 < crown_needs p
crown-takes c r crown.Fresh h = omega arith
crown-takes c r (crown.Writing write.Fresh) h = omega arith
crown-takes c r p h = absurd h

merge-takes : (c : Config) (r : Plan) (p : MergePhase) → Hears (merge_asks c r p) Start → 0 < merge_needs p
merge-takes c r merge_phase.Fresh h = omega arith
merge-takes c r p h = absurd h

joining-takes : (c : Config) (r : Joining) (p : JoinPhase) → Hears (joining_asks c r p) Start → 0 < joining_needs p
joining-takes c r join.Fresh h = omega arith
joining-takes c r (join.Writing write.Fresh) h = omega arith
joining-takes c r p h = absurd h

pub copy-begins : (t u : Consolidate) → Hears (consol.asks_of t) Start → AtOnce (consol.end_of u) (consol.needs_of t) → consol.end_of u ≡ None
copy-begins t u h f = goes-on (consol.end_of u) (consol.needs_of t) (copy-takes t.config (consol.renewal_of t) t.phase h) f

pub split-begins : (t u : SplitRoot) → Hears (split.asks_of t) Start → AtOnce (split.end_of u) (split.needs_of t) → split.end_of u ≡ None
split-begins t u h f = goes-on (split.end_of u) (split.needs_of t) (split-takes t h) f

pub below-begins : (t u : SplitBelow) → Hears (asks_below t) Start → AtOnce (end_below u) (needs_below t) → end_below u ≡ None
below-begins t u h f = goes-on (end_below u) (needs_below t) (below-takes t h) f

pub fork-begins : (t u : SplitInner) → Hears (asks_fork t) Start → AtOnce (end_fork u) (needs_fork t) → end_fork u ≡ None
fork-begins t u h f = goes-on (end_fork u) (needs_fork t) (fork-takes t.config (fork_of t) t.phase h) f

pub crown-begins : (t u : SplitInnerRoot) → Hears (asks_crown t) Start → AtOnce (end_crown u) (needs_crown t) → end_crown u ≡ None
crown-begins t u h f = goes-on (end_crown u) (needs_crown t) (crown-takes t.config (crown_of t) t.phase h) f

pub merge-begins : (t u : Merge) → Hears (merge.asks_of t) Start → AtOnce (merge.end_of u) (merge.needs_of t) → merge.end_of u ≡ None
merge-begins t u h f = goes-on (merge.end_of u) (merge.needs_of t) (merge-takes t.config (merge.merging_of t) t.phase h) f

pub joining-begins : (t u : MergeInner) → Hears (asks_joining t) Start → AtOnce (joining_end u.phase) (joining_needs t.phase) → joining_end u.phase ≡ None
joining-begins t u h f = goes-on (joining_end u.phase) (joining_needs t.phase) (joining-takes t.config (joining_of t) t.phase h) f

-- the others may end with a path or a view, or with their swap, and none of these comes at once
seek-goes : (path : Path) (p : Way) → AtOnce (seek_end path p) 0 → seek_end path p ≡ None
seek-goes path way.Found f = absurd (f _ refl)
seek-goes path way.Changed f = absurd (f _ refl)
seek-goes path p f = refl

pub seek-begins : (t : Seek) → AtOnce (seek.end_of t) 0 → seek.end_of t ≡ None
seek-begins t f = seek-goes t.path t.phase f

leaf-goes : (t : ReadLeaf) (p : LeafPhase) → AtOnce (leaf_end t.link t.image p) 0 → leaf_end t.link t.image p ≡ None
leaf-goes t (leaf_phase.Viewed at) f = absurd (f _ refl)
leaf-goes t leaf_phase.Changed f = absurd (f _ refl)
leaf-goes t p f = refl

pub leaf-begins : (t : ReadLeaf) → AtOnce (leaf.end_of t) 0 → leaf.end_of t ≡ None
leaf-begins t f = leaf-goes t t.phase f

pub freeze-begins : (p : FreezePhase) → AtOnce (freeze_end p) 0 → freeze_end p ≡ None
freeze-begins freeze.Done f = absurd (f _ refl)
freeze-begins freeze.Restart f = absurd (f _ refl)
freeze-begins freeze.Full f = absurd (f _ refl)
freeze-begins p f = refl

-- a lowering ends at once only where the path shows no root with one child
not-both : (b : Bool) → b ≡ true → b ≡ false → ⊥
not-both b t f = let e : true ≡ false = sym t ∙ f in cc

lower-goes : (lone : Bool) (r : Lowering) (p : LowerPhase) (s : Scene) → lone ≡ true → AtOnce (lower_end p) 0 → ((r.lone ≡ false) × WasNotLone r.upper.slot s.past → lone ≡ false) → lower_facts r p Waiting s → lower_end p ≡ None
lower-goes lone r lower.Done s e f m k = absurd (f _ refl)
lower-goes lone r lower.Restart s e f m k = absurd (f _ refl)
lower-goes lone r lower.NotLone s e f m k = absurd (not-both lone e (m k.1))
lower-goes lone r lower.NoSwap s e f m k = absurd (f _ refl)
lower-goes lone r p s e f m k = refl

pub lower-begins : (t u : Lower) (s : Scene) → t.lone ≡ true → AtOnce (lower_end u.phase) 0 → ((o : Outcome) (s : Scene) → lower_means (lowering_of u) o s → lower_means (lowering_of t) o s) → lower_facts (lowering_of u) u.phase Waiting s → lower_end u.phase ≡ None
lower-begins t u s e f m k = lower-goes t.lone (lowering_of u) u.phase s e f (λ none. (m NeedsRoom s none).0) k
