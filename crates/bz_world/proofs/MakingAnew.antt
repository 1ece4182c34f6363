-- A leaf that is made anew: the task that does it.
use Rattle.std.proofs.Common.{◌≡◌, ◌≢◌, ℕ, suc, ◌+◌, if◌then◌else◌, Bool, true, false, List, arith, refl, sym, ap, subst, ◌∙◌, inl, inr, Option, None, is_some, length}
use Rattle.std.proofs.lemmas.Bool.{true≢false}
use Rattle.bz_any_task.specs.FromAscent.Ascent.{Ascent}
use Rattle.bz_call.specs.Map.{key_of}
use Rattle.bz_solo.specs.FromCosts.Most.{most_of_freeze, most_of_copy, most_of_merge, most_of_root, most_of_below, IsWithinItsActs}
use Rattle.bz_layout.specs.declared.config.Config.{Config}
use Rattle.bz_layout.specs.declared.thresholds.TheConstants.{MERGE_SLOTS}
use Rattle.bz_solo.specs.Errands.{words_asked, is_read}
use Rattle.bz_solo.specs.Meant.{IsMeantFor}
use Rattle.bz_solo.specs.FromCosts.Resources.{Resource}
use Rattle.bz_solo.specs.Prices.{Prices, coming, coming_after, coming_to_read, coming_to_write}
use Rattle.bz_solo.specs.FromRounds.Due.{MayBeMadeAnew}
use Rattle.bz_any_task.specs.Duties.{config_of, asks_of, made_of, wants_of, facts_of, makes_no_change, swaps_of}
use Rattle.bz_any_task.specs.Hearing.{IsLookup}
use Rattle.bz_any_task.specs.Kinds as kinds
use Rattle.bz_any_task.specs.Kinds.{Kind, is_renewal, kind_of}
use Rattle.bz_any_task.specs.Laws.{AreLaws}
use Rattle.bz_any_task.specs.MadeFor.{IsMadeFor, IsMergeFor, IsSmallMerge}
use Rattle.bz_any_task.specs.declared.running.AnyTask.{AnyTask}
use Rattle.bz_task.specs.Outcomes.{IsPath, IsView}
use Rattle.bz_task.specs.Scene.{Past, Scene, IsScene, Waiting}
use Rattle.bz_task.specs.declared.path.Path.{Path}
use Rattle.bz_task.specs.declared.view.LeafView.{LeafView}
use Rattle.bz_word.specs.Statuses.{status}
use Rattle.bz_world.specs.Inside.Due.{IsDueAlone, only_looks}
use Rattle.bz_world.specs.Inside.Going.{MustGoOn, MustTakeOn, MustRestructure, MustMakeAnew, MustCopy, MustSplit, MustSplitBelow, MustMerge, known, MustAnswer}
use Rattle.bz_world.specs.Inside.Laws.{UndisturbedLaws, RoundLaws}
use Rattle.bz_world.specs.Inside.Meant.{IsMeant, IsOfSettled}
use Rattle.bz_world.specs.Inside.Paid.{bound_in, errand_of, no_extra, used_in, IsPaidFor, HasToSpare, HasARound, stock_of}
use Rattle.bz_world.specs.Inside.Serving.{NeedsAtLeast}
use Rattle.bz_world.specs.declared.parts.Parts.{Parts}
use Rattle.bz_world.specs.declared.serving.OpenCall.{OpenCall}
use Rattle.bz_world.proofs.Answering.{on-pages}
use Rattle.bz_world.proofs.Due.{page-reads}
use Rattle.bz_world.proofs.Exactly.{again-kind}
use Rattle.bz_world.proofs.Paid.{within-of}
use Rattle.bz_world.proofs.Spared.{most_in, task-paid, writes-look, lacks-write, is-small, is-large, is-lacking}
use Rattle.bz_world.proofs.TakingOn.{known-scene, lookup-taken, none-wanted, duly-other}
use Rattle.bz_solo.specs.FromAlone.Counts.{HasOthers}
use Rattle.bz_layout.specs.declared.swaps.TheConstants.{MERGE_SWAPS}
use Rattle.bz_world.specs.Inside.Exact.{reach_idle, seeks}
use Rattle.bz_world.specs.Inside.Merging.{MergesDuly}
use Rattle.bz_world.proofs.Changing.{fresh-goes}
use Rattle.bz_world.proofs.MergeStarts.{may-now}

-- of a call that makes a change and has had no effect, this is what may come after a task of some kind
coming-is : (r : Resource) (q : Prices) (x : OpenCall) (k : Kind) → x.effect ≡ None → is_read x.call ≡ false → coming r q (errand_of x) k ≡ coming_to_write r q (errand_of x) k
coming-is r q x k quiet write = ap (λ (b : Bool). if b then coming_after r x.rest k else (if is_read x.call then coming_to_read r k else coming_to_write r q (errand_of x) k)) (ap is_some quiet) ∙ ap (λ (b : Bool). if b then coming_to_read r k else coming_to_write r q (errand_of x) k) write

-- so it is paid for, where what may come so is
spared-so : RoundLaws → (p : Parts) (w : ℕ) (on : MustGoOn p w) → on.serving.effect ≡ None → is_read on.serving.call ≡ false → (k : Kind) → HasToSpare p w on.serving (known p w on).past (λ r q. most_in r k + coming_to_write r q (errand_of on.serving) k) → HasToSpare p w on.serving (known p w on).past (λ r q. most_in r k + coming r q (errand_of on.serving) k)
spared-so b p w on quiet write k s r counted =
    b.less r p.access w (errand_of on.serving) (used_in r p w) (bound_in r p w) (known p w on).past (λ q. most_in r k + coming_to_write r q (errand_of on.serving) k) (λ q. most_in r k + coming r q (errand_of on.serving) k) (λ q. omega (arith, coming-is r q on.serving k quiet write)) (s r counted)

-- what is left once a leaf without room was read whole pays for its freeze, its copy, its split and its merge
pub freeze-spares : UndisturbedLaws → (p : Parts) (w : ℕ) (view : LeafView) (m : MustRestructure p w view) → (status view.status).frozen ≡ false → HasToSpare p w m.answer.on.serving (known p w m.answer.on).past (λ r q. most_of_freeze r + q.froze)
freeze-spares solo p w view m thawed r counted = (solo.rounds.renewals r).freeze p.access w (errand_of m.answer.on.serving) (used_in r p w) (bound_in r p w) (known p w m.answer.on).past (is-lacking solo p w m.answer.on view m.answer.viewed thawed m.lacks) (m.spares r counted)

pub copy-spares : UndisturbedLaws → (p : Parts) (w : ℕ) (path : Path) (view : LeafView) (m : MustCopy p w path view) → HasToSpare p w m.anew.answer.on.serving (known p w m.anew.answer.on).past (λ r q. most_of_copy r + q.renewed)
copy-spares solo p w path view m r counted = (solo.rounds.renewals r).copy p.access w (errand_of m.anew.answer.on.serving) (used_in r p w) (bound_in r p w) (known p w m.anew.answer.on).past (is-small solo p w m.anew.answer.on view m.anew.answer.viewed m.frozen m.few) (m.anew.spares r counted)

pub root-spares : UndisturbedLaws → (p : Parts) (w : ℕ) (path : Path) (view : LeafView) (m : MustSplit p w path view) → HasToSpare p w m.anew.answer.on.serving (known p w m.anew.answer.on).past (λ r q. most_of_root r + q.renewed)
root-spares solo p w path view m r counted = (solo.rounds.renewals r).root p.access w (errand_of m.anew.answer.on.serving) (used_in r p w) (bound_in r p w) (known p w m.anew.answer.on).past (is-large solo p w m.anew.answer.on view m.anew.answer.viewed m.frozen m.many) (m.anew.spares r counted)

pub below-spares : UndisturbedLaws → (p : Parts) (w : ℕ) (path : Path) (view : LeafView) (m : MustSplitBelow p w path view) → HasToSpare p w m.anew.answer.on.serving (known p w m.anew.answer.on).past (λ r q. most_of_below r + q.below)
below-spares solo p w path view m r counted = (solo.rounds.renewals r).below p.access w (errand_of m.anew.answer.on.serving) (used_in r p w) (bound_in r p w) (known p w m.anew.answer.on).past (is-large solo p w m.anew.answer.on view m.anew.answer.viewed m.frozen m.many) (m.anew.spares r counted)

pub merge-spares : UndisturbedLaws → (p : Parts) (w : ℕ) (path : Path) (view : LeafView) (m : MustCopy p w path view) → m.anew.answer.on.serving.alone ≡ false → HasToSpare p w m.anew.answer.on.serving (known p w m.anew.answer.on).past (λ r q. most_of_merge r + coming r q (errand_of m.anew.answer.on.serving) kinds.Merge)
merge-spares solo p w path view m beside = spared-so solo.rounds p w m.anew.answer.on m.anew.answer.quiet (lacks-write m.anew.answer.on.serving.call view.status m.anew.lacks) kinds.Merge
    (λ r counted. (solo.rounds.renewals r).merge p.access w (errand_of m.anew.answer.on.serving) (used_in r p w) (bound_in r p w) (known p w m.anew.answer.on).past beside (is-small solo p w m.anew.answer.on view m.anew.answer.viewed m.frozen m.few) (m.anew.spares r counted))

-- where it may not be made anew another's swap took effect, and the key is looked up again
pub not-due : UndisturbedLaws → (p : Parts) (w : ℕ) (path : Path) (view : LeafView) (m : MustMakeAnew p w path view) → (MayBeMadeAnew path view → ⊥) → HasARound p w m.answer.on.serving (known p w m.answer.on).past
not-due solo p w path view m not r counted = solo.rounds.disturbed r p.access w (errand_of m.answer.on.serving) (used_in r p w) (bound_in r p w) (known p w m.answer.on).past (λ q. q.viewed)
    (λ alone. not (solo.rounds.due (key_of m.answer.on.serving.call) path view (known p w m.answer.on) (known-scene solo.scenes p w m.answer.on) alone m.way m.answer.viewed)) (m.spares r counted)

-- what is told of a task that is yet to begin, and that makes no change
pub record IsFresh (c : Config) (task : AnyTask) (k : Kind) : Type 0 where
  pub config : config_of task ≡ c
  pub laws : AreLaws task
  pub silent : makes_no_change task ≡ true
  pub asks : asks_of task ≡ None
  pub kind : kind_of task ≡ k
  pub made : made_of task ≡ 0
  pub within : IsWithinItsActs task

-- only the split of a leaf below a parent may ask for more acts than at its begin
pub no-leaf-split : (task : AnyTask) (k : Kind) → kind_of task ≡ k → ((a : Ascent) → k ≢ kinds.SplitLeaf a) → IsWithinItsActs task
no-leaf-split task k kind other = within-of task (λ a e. absurd (other a (sym kind ∙ e)))

-- a task that freezes a leaf, or makes it anew, is meant for its call
pub renewal-meant : (p : Parts) (w : ℕ) (on : MustGoOn p w) → on.serving.effect ≡ None → is_read on.serving.call ≡ false → (task : AnyTask) → IsWithinItsActs task → (kind_of task ≡ kinds.Merge → ⊥) → (kind_of task ≡ kinds.Copy → IsOfSettled task (key_of on.serving.call) (known p w on).past) → IsMeantFor on.serving.call task (known p w on).past → IsMeant (record on.serving { task = task; path = None }) (known p w on).past
renewal-meant p w on quiet write task within other copied meant = record {
  within = within;
  look = λ none. writes-look on.serving.call (kind_of task) write;
  fit = record { words = on.fit.words; thawed = on.fit.thawed; quiet = on.fit.quiet };
  first = λ later. on.fit.quiet quiet;
  meant = λ none. meant;
  later = λ at is. absurd (cc (quiet, is));
  small = λ merge. absurd (other merge);
  copied = copied;
}

-- and is paid for
pub renewal-paid : RoundLaws → (p : Parts) (w : ℕ) (on : MustGoOn p w) (quiet : on.serving.effect ≡ None) (write : is_read on.serving.call ≡ false) (task : AnyTask) (k : Kind) (f : IsFresh p.config task k) → k ≢ kinds.Merge → (k ≡ kinds.Copy → IsOfSettled task (key_of on.serving.call) (known p w on).past) → IsMeantFor on.serving.call task (known p w on).past → HasToSpare p w on.serving (known p w on).past (λ r q. most_in r k + coming_to_write r q (errand_of on.serving) k) → IsPaidFor p w (record on.serving { task = task; path = None }) 0 no_extra (known p w on).past
renewal-paid b p w on quiet write task k f other copied meant s = task-paid b p w on task None on.serving.had k f.kind f.laws f.asks f.made (renewal-meant p w on quiet write task f.within (λ merge. other (sym f.kind ∙ merge)) (λ copy. copied (sym f.kind ∙ copy)) meant) (λ none merge. absurd (other merge)) (spared-so b p w on quiet write k s)

-- a call that changes the map, and has read its leaf whole, is to change it
pub read-due : (p : Parts) (w : ℕ) (view : LeafView) (m : MustAnswer p w view) → is_read m.on.serving.call ≡ false → IsDueAlone p.config p.journal w m.on.serving.call
read-due p w view m write solitary = elim (m.on.between.due m.quiet solitary) [
  | inl due ↦ due
  | inr none ↦ absurd (true≢false (sym (page-reads m.on.serving.call (sym (ap (only_looks m.on.serving.call) m.kind) ∙ none.looks)) ∙ write))
]

-- the freeze of a leaf, which is none by a merge
pub freeze-no-merge : kinds.Freeze ≢ kinds.Merge
freeze-no-merge e = cc e

pub freeze-no-copy : kinds.Freeze ≢ kinds.Copy
freeze-no-copy e = cc e

abbrev pub freeze-taken : UndisturbedLaws → (p : Parts) (w : ℕ) (view : LeafView) (m : MustRestructure p w view) → (status view.status).frozen ≡ false → (task : AnyTask) → IsFresh p.config task kinds.Freeze → ((key : List ℕ) (way : Option Path) → IsLookup key way task) → wants_of task ≡ 0
    → ((key : List ℕ) (s : Scene) → s.past.config ≡ p.config → IsScene s → IsView key view s.past → facts_of task Waiting s) → IsMadeFor task (key_of m.answer.on.serving.call) (words_asked m.answer.on.serving.call) (known p w m.answer.on).past → MustTakeOn p w task None m.answer.on.serving.had None
freeze-taken solo p w view m thawed task f lookup wants facts made =
    lookup-taken p w m.answer.on (inl m.answer.quiet) task None None (key_of m.answer.on.serving.call) f.config f.laws f.silent (lookup (key_of m.answer.on.serving.call) None) (λ none. lookup (key_of m.answer.on.serving.call)) refl f.asks (facts (key_of m.answer.on.serving.call) (known p w m.answer.on) refl (known-scene solo.scenes p w m.answer.on) m.answer.viewed)
    (none-wanted p w m.answer.on task wants) (λ key get solitary. absurd (m.answer.other key get solitary)) (renewal-meant p w m.answer.on m.answer.quiet (lacks-write m.answer.on.serving.call view.status m.lacks) task f.within (λ merge. freeze-no-merge (sym f.kind ∙ merge)) (λ copy. absurd (freeze-no-copy (sym f.kind ∙ copy))) (inr (inr made)))
    (renewal-paid solo.rounds p w m.answer.on m.answer.quiet (lacks-write m.answer.on.serving.call view.status m.lacks) task kinds.Freeze f freeze-no-merge (λ copy. absurd (freeze-no-copy copy)) (inr (inr made)) (freeze-spares solo p w view m thawed))
    (λ quiet solitary. inl (read-due p w view m.answer (lacks-write m.answer.on.serving.call view.status m.lacks) solitary))
    (λ solitary room. absurd (again-kind p w m.answer.on m.answer.quiet kinds.ReadWhole m.answer.kind refl refl solitary room))
    (duly-other p w m.answer.on task None m.answer.quiet (λ seek. true≢false (sym seek ∙ ap seeks f.kind)) (λ delete. cc (f.kind, delete)))

-- its copy or its split
abbrev pub anew-taken : UndisturbedLaws → (p : Parts) (w : ℕ) (path : Path) (view : LeafView) (m : MustMakeAnew p w path view) (task : AnyTask) (k : Kind) → IsFresh p.config task k → k ≢ kinds.Merge → (k ≡ kinds.Copy → IsOfSettled task (key_of m.answer.on.serving.call) (known p w m.answer.on).past) → (seeks k ≡ true → ⊥) × (k ≡ kinds.Delete → ⊥) → ((way : Option Path) → IsLookup (key_of m.answer.on.serving.call) way task) → (slots : ℕ) → wants_of task ≡ slots → NeedsAtLeast p.config p.journal.start p.journal.past m.answer.on.between.opened slots
    → ((s : Scene) → s.past.config ≡ p.config → IsScene s → IsPath (key_of m.answer.on.serving.call) path s.past → IsView (key_of m.answer.on.serving.call) view s.past → facts_of task Waiting s) → IsMadeFor task (key_of m.answer.on.serving.call) (words_asked m.answer.on.serving.call) (known p w m.answer.on).past
    → HasToSpare p w m.answer.on.serving (known p w m.answer.on).past (λ r q. most_in r k + coming_to_write r q (errand_of m.answer.on.serving) k) → MustTakeOn p w task None m.answer.on.serving.had None
anew-taken solo p w path view m task k f other copied plain lookup slots wants needs facts made spares =
    lookup-taken p w m.answer.on (inl m.answer.quiet) task None None (key_of m.answer.on.serving.call) f.config f.laws f.silent (lookup None) (λ none. lookup) refl f.asks
    (facts (known p w m.answer.on) refl (known-scene solo.scenes p w m.answer.on) m.way m.answer.viewed)
    (λ quiet some other. subst (NeedsAtLeast p.config p.journal.start p.journal.past m.answer.on.between.opened) (sym wants) needs) (λ key get solitary. absurd (m.answer.other key get solitary)) (renewal-meant p w m.answer.on m.answer.quiet (lacks-write m.answer.on.serving.call view.status m.lacks) task f.within (λ merge. other (sym f.kind ∙ merge)) (λ copy. copied (sym f.kind ∙ copy)) (inr (inr made)))
    (renewal-paid solo.rounds p w m.answer.on m.answer.quiet (lacks-write m.answer.on.serving.call view.status m.lacks) task k f other copied (inr (inr made)) spares)
    (λ quiet solitary. inl (read-due p w view m.answer (lacks-write m.answer.on.serving.call view.status m.lacks) solitary))
    (λ solitary room. absurd (again-kind p w m.answer.on m.answer.quiet kinds.ReadWhole m.answer.kind refl refl solitary room))
    (duly-other p w m.answer.on task None m.answer.quiet (λ seek. plain.0 (ap seeks (sym f.kind) ∙ seek)) (λ delete. plain.1 (sym f.kind ∙ delete)))

-- its merge with a neighbour
pub merge-meant : (p : Parts) (w : ℕ) (path : Path) (view : LeafView) (m : MustMerge p w path view) (task : AnyTask) → IsFresh p.config task kinds.Merge → ((key : List ℕ) (q : Past) → IsView key view q → (status view.status).frozen ≡ true → IsMergeFor task key q) → ((key : List ℕ) (q : Past) → IsView key view q → IsSmallMerge task key q) → IsMeant (record m.on.serving { task = task; path = None }) (known p w m.on).past
merge-meant p w path view m task f for small = record {
  within = f.within;
  look = λ quiet. writes-look m.on.serving.call (kind_of task) (m.write quiet);
  fit = record { words = m.on.fit.words; thawed = m.on.fit.thawed; quiet = m.on.fit.quiet };
  first = λ later. m.first;
  meant = λ quiet. inr (inl (for (key_of m.on.serving.call) (known p w m.on).past m.viewed (m.frozen quiet)));
  later = λ at is. ap is_renewal f.kind;
  small = λ merge. small (key_of m.on.serving.call) (known p w m.on).past m.viewed;
  copied = λ copy. absurd (let other : kinds.Merge ≡ kinds.Copy = sym f.kind ∙ copy in cc other);
}

-- which it may begin where nobody's swap took effect since the effect of its delete: it has a neighbour that fits
pub merge-duly : UndisturbedLaws → (p : Parts) (w : ℕ) (path : Path) (view : LeafView) (m : MustMerge p w path view) (task : AnyTask) → IsFresh p.config task kinds.Merge → wants_of task ≡ MERGE_SLOTS → swaps_of task ≡ MERGE_SWAPS
    → ((key : List ℕ) (s : Scene) → s.past.config ≡ p.config → IsScene s → IsPath key path s.past → IsView key view s.past → facts_of task Waiting s) → ((key : List ℕ) (q : Past) → IsView key view q → IsSmallMerge task key q)
    → MergesDuly p.config p.journal w m.on.between.opened (known p w m.on).past (reach_idle p.access) (stock_of p) (record m.on.serving { task = task; path = None })
merge-duly solo p w path view m task f wants swaps facts small solitary = record {
  looking = λ quiet seek. absurd (true≢false (sym seek ∙ ap seeks f.kind));
  deleting = λ quiet delete going. absurd (cc (f.kind, delete));
  merging = λ at is deletes. let s = m.stands solitary at is deletes in record {
    after_begin = s.0.after_begin;
    by_now = s.0.by_now;
    merging = λ may. let standing = s.0.standing may in inr (inl (record {
      kind = f.kind;
      moment = suc at;
      after = omega arith;
      stood = standing.stood;
      leaves = refl;
      alone = λ on. let none : 0 ≡ made_of task + 0 = omega (arith, f.made) in subst (λ k. HasOthers 0 k (known p w m.on).past) none (s.1 may);
      knows = solo.rounds.knows task (key_of m.on.serving.call) (known p w m.on) (known-scene solo.scenes p w m.on) (facts (key_of m.on.serving.call) (known p w m.on) refl (known-scene solo.scenes p w m.on) m.way m.viewed) f.kind (fresh-goes task f.laws f.asks)
          (small (key_of m.on.serving.call) (known p w m.on).past m.viewed);
      seen = length p.journal.past;
      seen_since = m.on.between.call_open.look.by_now;
      seen_by_now = omega arith;
      may = may-now solo.scenes solo.rounds.neighbours p w m.on at s.0.after_begin standing.stood may;
      wants = wants;
      left = λ some. standing.left;
      taken = omega (arith, standing.taken, swaps);
      before = λ few. refl;
      ends = λ o e. absurd (cc (fresh-goes task f.laws f.asks, e));
    }));
  };
}

abbrev pub merge-taken : UndisturbedLaws → (p : Parts) (w : ℕ) (path : Path) (view : LeafView) (m : MustMerge p w path view) (task : AnyTask) → IsFresh p.config task kinds.Merge → ((key : List ℕ) (way : Option Path) → IsLookup key way task) → wants_of task ≡ MERGE_SLOTS → swaps_of task ≡ MERGE_SWAPS
    → ((key : List ℕ) (s : Scene) → s.past.config ≡ p.config → IsScene s → IsPath key path s.past → IsView key view s.past → facts_of task Waiting s) → ((key : List ℕ) (q : Past) → IsView key view q → (status view.status).frozen ≡ true → IsMergeFor task key q) → ((key : List ℕ) (q : Past) → IsView key view q → IsSmallMerge task key q) → MustTakeOn p w task None m.on.serving.had None
merge-taken solo p w path view m task f lookup wants swaps facts for small =
    lookup-taken p w m.on m.may task None None (key_of m.on.serving.call) f.config f.laws f.silent (lookup (key_of m.on.serving.call) None) (λ none. lookup (key_of m.on.serving.call)) refl f.asks
    (facts (key_of m.on.serving.call) (known p w m.on) refl (known-scene solo.scenes p w m.on) m.way m.viewed)
    (λ quiet some other. absurd (other f.kind)) (λ key get solitary. absurd (m.other key get solitary)) (merge-meant p w path view m task f for small)
    (task-paid solo.rounds p w m.on task None m.on.serving.had kinds.Merge f.kind f.laws f.asks f.made (merge-meant p w path view m task f for small) (λ quiet merge. is-small solo p w m.on view m.viewed (m.frozen quiet) (omega (arith, m.small))) m.spares)
    (λ quiet solitary. inl (m.due quiet solitary))
    (λ solitary room. absurd (m.again solitary room))
    (merge-duly solo p w path view m task f wants swaps facts small)

-- the page that is put together for that is nothing to the world
abbrev pub anew-pages : (p : Parts) (w : ℕ) (path : Path) (view : LeafView) (pairs : List (List ℕ × List ℕ)) → MustMakeAnew p w path view → MustMakeAnew (record p { page = pairs }) w path view
anew-pages p w path view pairs m = record {
  answer = record { on = on-pages p w pairs m.answer.on; viewed = m.answer.viewed; leads = m.answer.leads; quiet = m.answer.quiet; other = m.answer.other; some = m.answer.some; spares = m.answer.spares; look = m.answer.look; kind = m.answer.kind };
  way = m.way;
  lacks = m.lacks;
  spares = m.spares;
}
