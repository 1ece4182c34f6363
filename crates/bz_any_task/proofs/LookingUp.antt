-- What look-ups ask for and end with, and that their reads are few; nothing of that is said of other tasks.
use Rattle.std.proofs.Common.{◌≡◌, ℕ, ◌≤◌, Some, arith, refl, sym, subst}
use Rattle.bz_descend.specs.SeekDuties as seek
use Rattle.bz_descend.specs.SeekFacts.{path_reads, seek_asks, seek_end}
use Rattle.bz_descend.specs.declared.seek.Seek.{Seek}
use Rattle.bz_descend.specs.declared.sight.Way.{Way}
use Rattle.bz_descend.specs.declared.sight.Way.TheVariants as way
use Rattle.bz_find.specs.Duties as find
use Rattle.bz_find.specs.Facts.{find_reads}
use Rattle.bz_find.specs.Phases.{find_asks, find_end}
use Rattle.bz_find.specs.declared.find.Find.{Find}
use Rattle.bz_find.specs.declared.phase.FindPhase.{FindPhase}
use Rattle.bz_find.specs.declared.phase.FindPhase.TheVariants as phase
use Rattle.bz_layout.specs.declared.config.Config.{Config}
use Rattle.bz_task.specs.Instant.{durable}
use Rattle.bz_task.specs.Scene.{Scene, Waiting}
use Rattle.bz_task.specs.declared.path.Path.{Path}
use Rattle.bz_task.specs.declared.todo.Outcome.{Outcome}
use Rattle.bz_task.specs.declared.todo.Outcome.TheVariants as outcome
use Rattle.bz_task.specs.declared.todo.Todo.{Todo}
use Rattle.bz_task.specs.declared.todo.Todo.TheVariants.{Read, Finish}
use Rattle.bz_task.specs.declared.view.KeyView.{KeyView}
use Rattle.bz_any_task.specs.Duties.{view_of}
use Rattle.bz_any_task.specs.LookingUp.{ForWay, ForKey, NoLook, look_of, reads_asked, IsReadOrEnd, EndsAs, LooksUpBriefly}
use Rattle.bz_any_task.specs.declared.running.AnyTask.{AnyTask}
use Rattle.bz_any_task.specs.declared.running.AnyTask.TheVariants.{Seeking, Finding, Reading, Inserting, Updating, Deleting, Freezing, Consolidating, Splitting, SplittingBelow, SplittingInner, SplittingInnerRoot, Merging, MergingInner, Lowering}

a-read : (a : ℕ) (todo : Todo) → Some (Read a) ≡ Some todo → IsReadOrEnd todo
a-read a todo e = let q : Read a ≡ todo = cc in subst IsReadOrEnd q tt

an-end : (todo : Todo) → Some Finish ≡ Some todo → IsReadOrEnd todo
an-end todo e = let q : Finish ≡ todo = cc in subst IsReadOrEnd q tt

seek-asks : (c : Config) (p : Way) (todo : Todo) → seek_asks c p ≡ Some todo → IsReadOrEnd todo
seek-asks c way.Fresh todo e = absurd (cc)
seek-asks c way.Guard todo e = a-read _ todo e
seek-asks c (way.Root st) todo e = a-read _ todo e
seek-asks c (way.Header k) todo e = a-read _ todo e
seek-asks c (way.Status k) todo e = a-read _ todo e
seek-asks c (way.Meta r) todo e = a-read _ todo e
seek-asks c (way.Word r x i) todo e = a-read _ todo e
seek-asks c (way.First r) todo e = a-read _ todo e
seek-asks c (way.Pointer r) todo e = a-read _ todo e
seek-asks c way.Found todo e = an-end todo e
seek-asks c way.Changed todo e = an-end todo e

-- a descent ends with a path or is to be begun again
seek-ends : (P : Outcome → Type 0) (path : Path) (p : Way) (o : Outcome) → seek_end path p ≡ Some o → P (outcome.Path path) → P outcome.Restart → P o
seek-ends P path way.Fresh o e a b = absurd (cc)
seek-ends P path way.Guard o e a b = absurd (cc)
seek-ends P path (way.Root st) o e a b = absurd (cc)
seek-ends P path (way.Header k) o e a b = absurd (cc)
seek-ends P path (way.Status k) o e a b = absurd (cc)
seek-ends P path (way.Meta r) o e a b = absurd (cc)
seek-ends P path (way.Word r x i) o e a b = absurd (cc)
seek-ends P path (way.First r) o e a b = absurd (cc)
seek-ends P path (way.Pointer r) o e a b = absurd (cc)
seek-ends P path way.Found o e a b = let q : outcome.Path path ≡ o = cc in subst P q a
seek-ends P path way.Changed o e a b = let q : outcome.Restart ≡ o = cc in subst P q b

-- no view of a key
NoKey : Outcome → Type 0
NoKey o = (view : KeyView) → o ≡ outcome.Key view → ⊥

pub seeks-briefly : (t : Seek) → ((path : Path) (s : Scene) → seek.facts_of t Waiting s → seek.end_of t ≡ Some (outcome.Path path) → seek.asked_of t ≤ path_reads path) → LooksUpBriefly (Seeking t)
unfolding view_of look_of reads_asked NoKey
seeks-briefly t few = record {
  asks = λ todo l e. seek-asks t.config t.phase todo e;
  ends = λ o e. seek-ends (EndsAs ForWay) t.path t.phase o e tt tt;
  path = few;
  found = λ view s f e. absurd (seek-ends NoKey t.path t.phase (outcome.Key view) e (λ v q. cc) (λ v q. cc) view refl);
}

find-asks : (t : Find) (p : FindPhase) (todo : Todo) → find_asks t p ≡ Some todo → IsReadOrEnd todo
find-asks t phase.Fresh todo e = absurd (cc)
find-asks t phase.Status todo e = a-read _ todo e
find-asks t phase.Header todo e = a-read _ todo e
find-asks t phase.Searching todo e = a-read _ todo e
find-asks t phase.Again todo e = a-read _ todo e
find-asks t phase.Link todo e = a-read _ todo e
find-asks t (phase.Guard at) todo e = a-read _ todo e
find-asks t (phase.Viewed at) todo e = an-end todo e
find-asks t phase.Changed todo e = an-end todo e

-- a look-up in a leaf ends with a view of its key or is to be begun again
find-ends : (P : Outcome → Type 0) (t : Find) (p : FindPhase) (o : Outcome) → find_end t p ≡ Some o → ((view : KeyView) → P (outcome.Key view)) → P outcome.Restart → P o
find-ends P t phase.Fresh o e a b = absurd (cc)
find-ends P t phase.Status o e a b = absurd (cc)
find-ends P t phase.Header o e a b = absurd (cc)
find-ends P t phase.Searching o e a b = absurd (cc)
find-ends P t phase.Again o e a b = absurd (cc)
find-ends P t phase.Link o e a b = absurd (cc)
find-ends P t (phase.Guard at) o e a b = absurd (cc)
find-ends P t (phase.Viewed at) o e a b = let q : outcome.Key (record { slot = t.link.slot; status = t.status; found = t.search.found; at = at }) ≡ o = cc in subst P q (a _)
find-ends P t phase.Changed o e a b = let q : outcome.Restart ≡ o = cc in subst P q b

-- no path
NoPath : Outcome → Type 0
NoPath o = (path : Path) → o ≡ outcome.Path path → ⊥

pub finds-briefly : (t : Find) → ((view : KeyView) (s : Scene) → find.facts_of t Waiting s → find.end_of t ≡ Some (outcome.Key view) → find.asked_of t ≤ find_reads (durable s.past.config (s.past.at view.at) view.slot) t.key) → LooksUpBriefly (Finding t)
unfolding view_of look_of reads_asked NoPath
finds-briefly t few = record {
  asks = λ todo l e. find-asks t t.phase todo e;
  ends = λ o e. find-ends (EndsAs ForKey) t t.phase o e (λ view. tt) tt;
  path = λ path s f e. absurd (find-ends NoPath t t.phase (outcome.Path path) e (λ view p q. cc) (λ p q. cc) path refl);
  found = few;
}

none-briefly : (t : AnyTask) → look_of t ≡ NoLook → reads_asked t ≡ 0 → LooksUpBriefly t
none-briefly t n z = record {
  asks = λ todo l e. absurd (l n);
  ends = λ o e. subst (λ z. EndsAs z o) (sym n) tt;
  path = λ path s f e. omega (arith, z);
  found = λ view s f e. omega (arith, z);
}

pub others-briefly : (t : AnyTask) → ((x : Seek) → t ≡ Seeking x → ⊥) → ((x : Find) → t ≡ Finding x → ⊥) → LooksUpBriefly t
unfolding look_of reads_asked
others-briefly (Seeking x) no_seek no_find = absurd (no_seek x refl)
others-briefly (Finding x) no_seek no_find = absurd (no_find x refl)
others-briefly (Reading x) no_seek no_find = none-briefly (Reading x) refl refl
others-briefly (Inserting x) no_seek no_find = none-briefly (Inserting x) refl refl
others-briefly (Updating x) no_seek no_find = none-briefly (Updating x) refl refl
others-briefly (Deleting x) no_seek no_find = none-briefly (Deleting x) refl refl
others-briefly (Freezing x) no_seek no_find = none-briefly (Freezing x) refl refl
others-briefly (Consolidating x) no_seek no_find = none-briefly (Consolidating x) refl refl
others-briefly (Splitting x) no_seek no_find = none-briefly (Splitting x) refl refl
others-briefly (SplittingBelow x a) no_seek no_find = none-briefly (SplittingBelow x a) refl refl
others-briefly (SplittingInner x a) no_seek no_find = none-briefly (SplittingInner x a) refl refl
others-briefly (SplittingInnerRoot x a) no_seek no_find = none-briefly (SplittingInnerRoot x a) refl refl
others-briefly (Merging x) no_seek no_find = none-briefly (Merging x) refl refl
others-briefly (MergingInner x) no_seek no_find = none-briefly (MergingInner x) refl refl
others-briefly (Lowering x) no_seek no_find = none-briefly (Lowering x) refl refl
