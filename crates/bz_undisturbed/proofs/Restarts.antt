-- An answer that differs is one to a read, and no read differs while the worker is alone.
use Rattle.std.proofs.Common.{◌≡◌, ℕ, false, List, refl, subst, inl, inr, Option, Some}
use Rattle.bz_word.specs.declared.entry.Entry.{Entry}
use Rattle.bz_below.specs.Facts.{below_differs}
use Rattle.bz_below.specs.declared.phase.BelowPhase.{BelowPhase}
use Rattle.bz_below.specs.declared.phase.BelowPhase.TheVariants as below
use Rattle.bz_any_task.specs.FromConsol.Facts.{consol_differs}
use Rattle.bz_writer.specs.declared.phase.WritePhase.{WritePhase}
use Rattle.bz_writer.specs.declared.phase.WritePhase.TheVariants as write
use Rattle.bz_any_task.specs.FromCrown.Facts.{crown_differs}
use Rattle.bz_any_task.specs.FromCrown.CrownPhase.{CrownPhase}
use Rattle.bz_any_task.specs.FromCrown.CrownPhase.TheVariants as crown
use Rattle.bz_descend.specs.SeekFacts.{seek_differs}
use Rattle.bz_descend.specs.declared.sight.Way.{Way}
use Rattle.bz_descend.specs.declared.sight.Way.TheVariants as way
use Rattle.bz_any_task.specs.FromFind.Facts.{find_differs}
use Rattle.bz_any_task.specs.FromFind.Find.{Find}
use Rattle.bz_any_task.specs.FromFind.FindPhase.{FindPhase}
use Rattle.bz_any_task.specs.FromFind.FindPhase.TheVariants as find
use Rattle.bz_any_task.specs.FromFork.Facts.{fork_differs}
use Rattle.bz_any_task.specs.FromFork.ForkPhase.{ForkPhase}
use Rattle.bz_any_task.specs.FromFork.ForkPhase.TheVariants as fork
use Rattle.bz_any_task.specs.FromInner.JoinDuties.{joining_of}
use Rattle.bz_any_task.specs.FromInner.JoinFacts.{joining_differs}
use Rattle.bz_any_task.specs.FromInner.Joinings.{Joining}
use Rattle.bz_any_task.specs.FromInner.JoinPhase.{JoinPhase}
use Rattle.bz_any_task.specs.FromInner.JoinPhase.TheVariants as join
use Rattle.bz_any_task.specs.FromInner.LowerFacts.{lower_differs}
use Rattle.bz_any_task.specs.FromInner.LowerPhase.{LowerPhase}
use Rattle.bz_any_task.specs.FromInner.LowerPhase.TheVariants as lower
use Rattle.bz_leaf.specs.Facts.{leaf_differs}
use Rattle.bz_leaf.specs.declared.phase.LeafPhase.{LeafPhase}
use Rattle.bz_leaf.specs.declared.phase.LeafPhase.TheVariants as leaf
use Rattle.bz_any_task.specs.FromMerge.Duties.{merging_of}
use Rattle.bz_any_task.specs.FromMerge.Facts.{merge_differs}
use Rattle.bz_any_task.specs.FromMerge.Plans.{Merging}
use Rattle.bz_any_task.specs.FromMerge.MergePhase.{MergePhase}
use Rattle.bz_any_task.specs.FromMerge.MergePhase.TheVariants as merge
use Rattle.bz_below.specs.FromSplit.Facts.{split_differs}
use Rattle.bz_task.specs.Requests.{Tells}
use Rattle.bz_task.specs.Scene.{Scene, Stage, Waiting, Took}
use Rattle.bz_task.specs.declared.path.Link.{Link}
use Rattle.bz_task.specs.declared.todo.Seen.{Seen}
use Rattle.bz_task.specs.declared.todo.Seen.TheVariants.{Read as Was, Swapped}
use Rattle.bz_task.specs.declared.todo.Todo.{Todo}
use Rattle.bz_task.specs.declared.todo.Todo.TheVariants as todo
use Rattle.bz_any_task.specs.Duties.{asks_of, facts_of, differs_of, view_of}
use Rattle.bz_any_task.specs.declared.running.AnyTask.{AnyTask}
use Rattle.bz_any_task.specs.declared.running.AnyTask.TheVariants as running
use Rattle.bz_undisturbed.specs.Restarts.{UndisturbedRestartsAreRefusals}
use Rattle.bz_undisturbed.proofs.Tasks.{undisturbed-tasks-go-on}

IsOfRead : Seen → Type 0
IsOfRead (Was v) = Unit {0}
IsOfRead seen = ⊥

-- task by task
of-seek : (phase : Way) (seen : Seen) → seek_differs phase seen → IsOfRead seen
unfolding IsOfRead
of-seek way.Fresh (Was v) d = tt
of-seek phase (Was v) d = tt
of-seek phase seen d = absurd d

of-find : (t : Find) (phase : FindPhase) (seen : Seen) → find_differs t phase seen → IsOfRead seen
unfolding IsOfRead
of-find t find.Fresh (Was v) d = tt
of-find t phase (Was v) d = tt
of-find t phase seen d = absurd d

of-leaf : (link : Link) (ws : List ℕ) (phase : LeafPhase) (seen : Seen) → leaf_differs link ws phase seen → IsOfRead seen
unfolding IsOfRead
of-leaf link ws leaf.Fresh (Was v) d = tt
of-leaf link ws phase (Was v) d = tt
of-leaf link ws phase seen d = absurd d

of-consol : (link : Link) (phase : WritePhase) (seen : Seen) → consol_differs link phase seen → IsOfRead seen
unfolding IsOfRead
of-consol link write.Fresh (Was v) d = tt
of-consol link phase (Was v) d = tt
of-consol link phase seen d = absurd d

of-split : (link : Link) (phase : WritePhase) (seen : Seen) → split_differs link phase seen → IsOfRead seen
unfolding IsOfRead
of-split link write.Fresh (Was v) d = tt
of-split link phase (Was v) d = tt
of-split link phase seen d = absurd d

of-below : (lower : Link) (phase : BelowPhase) (seen : Seen) → below_differs lower phase seen → IsOfRead seen
unfolding IsOfRead
of-below lower below.Fresh (Was v) d = tt
of-below lower phase (Was v) d = tt
of-below lower phase seen d = absurd d

of-fork : (upper middle lower : Link) (phase : ForkPhase) (seen : Seen) → fork_differs upper middle lower phase seen → IsOfRead seen
unfolding IsOfRead
of-fork upper middle lower fork.Fresh (Was v) d = tt
of-fork upper middle lower (fork.Writing write.Fresh) (Was v) d = tt
of-fork upper middle lower phase (Was v) d = tt
of-fork upper middle lower phase seen d = absurd d

of-crown : (upper lower : Link) (phase : CrownPhase) (seen : Seen) → crown_differs upper lower phase seen → IsOfRead seen
unfolding IsOfRead
of-crown upper lower crown.Fresh (Was v) d = tt
of-crown upper lower (crown.Writing write.Fresh) (Was v) d = tt
of-crown upper lower phase (Was v) d = tt
of-crown upper lower phase seen d = absurd d

of-merge : (r : Merging) (phase : MergePhase) (seen : Seen) → merge_differs r phase seen → IsOfRead seen
unfolding IsOfRead
of-merge r merge.Fresh (Was v) d = tt
of-merge r phase (Was v) d = tt
of-merge r phase seen d = absurd d

of-joining : (r : Joining) (phase : JoinPhase) (seen : Seen) → joining_differs r phase seen → IsOfRead seen
unfolding IsOfRead
of-joining r join.Fresh (Was v) d = tt
of-joining r (join.Writing write.Fresh) (Was v) d = tt
of-joining r phase (Was v) d = tt
of-joining r phase seen d = absurd d

of-lower : (st : ℕ) (phase : LowerPhase) (seen : Seen) → lower_differs st phase seen → IsOfRead seen
unfolding IsOfRead
of-lower st lower.Fresh (Was v) d = tt
of-lower st phase (Was v) d = tt
of-lower st phase seen d = absurd d

of-read : (t : AnyTask) (seen : Seen) → differs_of t seen → IsOfRead seen
unfolding view_of
of-read (running.Seeking t) seen d = of-seek t.phase seen d
of-read (running.Finding t) seen d = of-find t t.phase seen d
of-read (running.Reading t) seen d = of-leaf t.link t.image.0 t.phase seen d
of-read (running.Inserting t) seen d = absurd d
of-read (running.Updating t) seen d = absurd d
of-read (running.Deleting t) seen d = absurd d
of-read (running.Freezing t) seen d = absurd d
of-read (running.Consolidating t) seen d = of-consol t.link t.phase seen d
of-read (running.Splitting t) seen d = of-split t.link t.phase seen d
of-read (running.SplittingBelow t a) seen d = of-below t.lower t.phase seen d
of-read (running.SplittingInner t a) seen d = of-fork t.upper t.middle t.lower t.phase seen d
of-read (running.SplittingInnerRoot t a) seen d = of-crown t.upper t.lower t.phase seen d
of-read (running.Merging t) seen d = of-merge (merging_of t) t.phase seen d
of-read (running.MergingInner t) seen d = of-joining (joining_of t) t.phase seen d
of-read (running.Lowering t) seen d = of-lower t.lower.status t.phase seen d

-- the answer to a read comes while its task waits
waits : (asked : Option Todo) (stage : Stage) (seen : Seen) (s : Scene) → IsOfRead seen → Tells asked stage seen s → stage ≡ Waiting
unfolding IsOfRead
waits (Some (todo.Read a)) Waiting (Was v) s r t = refl
waits asked Waiting (Was v) s r t = refl
waits asked stage (Was v) s r t = absurd t
waits asked stage seen s r t = absurd r

-- so does the answer false to a swap
record Refuses (asked : Option Todo) (stage : Stage) : Type 0 where
  entries : List Entry
  is : asked ≡ Some (todo.Swap entries)
  waiting : stage ≡ Waiting

refuses : (stage : Stage) (asked : Option Todo) (s : Scene) → Tells asked stage (Swapped false) s → Refuses asked stage
refuses Waiting (Some (todo.Swap entries)) s t = record { entries = entries; is = refl; waiting = refl }
refuses Took (Some (todo.Swap entries)) s t = absurd (cc t)
refuses stage asked s t = absurd t

pub undisturbed-restarts : UndisturbedRestartsAreRefusals
undisturbed-restarts old new seen moment free left todo stage s heard ends config good facts tells alone = elim (heard.goes.restart ends) [
  | inl lost ↦ (
      let r : Refuses (asks_of old) stage = refuses stage (asks_of old) s (subst (λ z. Tells (asks_of old) stage z s) lost tells) in
      record { entries = r.entries; asked = r.is; answer = lost; stands = (undisturbed-tasks-go-on old s config good (subst (λ z. facts_of old z s) r.waiting facts) alone).stands r.entries r.is })
  | inr differs ↦ (
      let waiting : stage ≡ Waiting = waits (asks_of old) stage seen s (of-read old seen differs) tells in
      absurd ((undisturbed-tasks-go-on old s config good (subst (λ z. facts_of old z s) waiting facts) alone).same seen (subst (λ z. Tells (asks_of old) z seen s) waiting tells) differs))
]
