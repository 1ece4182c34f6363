-- Of the swaps of a merge the two freezes name words of one leaf, and that of the link leaves one leaf less.
use Rattle.std.proofs.Common.{◌≡◌, ℕ, false, List, [], ◌∷◌, Some, arith, refl, sym, ap, subst, ◌∙◌}
use Rattle.bz_freeze.specs.Facts.{entry_of}
use Rattle.bz_layout.specs.declared.config.Config.{Config}
use Rattle.bz_layout.specs.declared.sizes.TheConstants.{STATUS_AT}
use Rattle.bz_layout.specs.declared.thresholds.TheConstants.{MERGE_SLOTS}
use Rattle.bz_leaves.proofs.Proved.{merges_take_one}
use Rattle.bz_any_task.specs.FromMerge.Duties.{merging_of}
use Rattle.bz_any_task.specs.FromMerge.Facts.{MERGE_WORDS, MERGE_LINES, IsMerging, merge_asks, merge_facts}
use Rattle.bz_any_task.specs.FromMerge.Plans.{beside_leaf, sep_of, viewed_leaf, first_of, second_of, Merging}
use Rattle.bz_any_task.specs.FromMerge.Merge.{Merge}
use Rattle.bz_any_task.specs.FromMerge.MergePhase.{MergePhase}
use Rattle.bz_any_task.specs.FromMerge.MergePhase.TheVariants.{Freeze, FreezeBeside, Swap}
use Rattle.bz_split.specs.BelowSplits.{below_swap}
use Rattle.bz_word.specs.declared.entry.Entry.{Entry}
use Rattle.std.specs.Prelude.{slice_index}
use Rattle.bz_content.specs.Content.{image_of, view_in}
use Rattle.bz_content.proofs.Proved.{merges_keep_the_content}
use Rattle.bz_task.specs.Instant.{Instant, form_at, is_inside}
use Rattle.bz_task.specs.Scene.{Scene, Waiting, IsScene, here}
use Rattle.bz_task.specs.Swaps.{Stand, SwapsTo}
use Rattle.bz_task.specs.declared.todo.Todo.TheVariants.{Swap as Swaps_for}
use Rattle.bz_tree.proofs.Trees.{among-first, among-later}
use Rattle.bz_tree.specs.Outcomes.{Regrows}
use Rattle.bz_tally.proofs.Backs.{AreFresh, is-gone, leaf-inside, none-back, two-fresh}
use Rattle.bz_tally.proofs.Changes.{by-status, same-entries}
use Rattle.bz_tally.proofs.Links.{tree-now}
use Rattle.bz_tally.proofs.Merging.{are-apart, first-leaf, merges, second-leaf}
use Rattle.bz_tally.proofs.Pairs.{apart-of, other-once, own-once, room-of, to-other, to-own}
use Rattle.bz_tally.proofs.Stored.{each-fresh}
use Rattle.bz_tally.specs.Counts.{IsLeafNow, KeepsTheLeaves, MergesLeaves}
use Rattle.bz_tally.specs.Laws.{MergeCounts, MergesCount}
use Rattle.bz_any_task.specs.FromMerge.Siblings.{SeenLeaf}

-- what the swap of a phase leads to
abbrev Counts : Merging → MergePhase → Scene → Instant → Type 0
Counts r Swap s y = MergesLeaves r.lower.slot r.beside_slot r.leaf r.beside s y
Counts r phase s y = KeepsTheLeaves s y

module _ (r : Merging) (s : Scene) (y : Instant) (good : IsScene s) (f : IsMerging r MERGE_WORDS MERGE_LINES s) (stand : Stand (below_swap s.past.config r.upper r.lower (r.slot 0)) (here s))
    (swaps : SwapsTo s.past.config (below_swap s.past.config r.upper r.lower (r.slot 0)) (here s) y) where
  abbrev own : SeenLeaf
  own = viewed_leaf r

  abbrev other : SeenLeaf
  other = beside_leaf r

  abbrev IsLeafHere : SeenLeaf → Type 0
  IsLeafHere l = IsLeafNow s l.slot

  -- of the slots that go both leaves are
  abbrev going : List ℕ
  going = (first_of r.right own other).slot ∷ (second_of r.right own other).slot ∷ (form_at s.past.config (here s)).up (first_of r.right own other).slot ∷ []

  grown : Regrows (view_in s.past.config (here s).image) (view_in s.past.config y.image) going (r.slot 0 ∷ r.slot 1 ∷ [])
  grown = merges_keep_the_content s.past.config (image_of (here s).image) (image_of y.image) (first_of r.right own other).slot (second_of r.right own other).slot (r.slot 0) (r.slot 1) (sep_of r.read r.place) (tree-now s good)
      (merges r s good f stand y swaps)

  fresh : AreFresh s (r.slot 0 ∷ r.slot 1 ∷ [])
  fresh = two-fresh s (r.slot 0) (r.slot 1) (each-fresh MERGE_SLOTS r.slot r.image s f.plain f.writing 0 (omega arith)) (each-fresh MERGE_SLOTS r.slot r.image s f.plain f.writing 1 (omega arith))

  abbrev IsGone : SeenLeaf → Type 0
  IsGone l = is_inside s.past.config y l.slot ≡ false

  first-gone : IsGone (first_of r.right own other)
  first-gone = is-gone s y going (r.slot 0 ∷ r.slot 1 ∷ []) good grown fresh (first_of r.right own other).slot (leaf-inside s (first_of r.right own other).slot (first-leaf r s good f stand))
      (among-first (first_of r.right own other).slot (first_of r.right own other).slot ((second_of r.right own other).slot ∷ (form_at s.past.config (here s)).up (first_of r.right own other).slot ∷ []) refl)

  second-gone : IsGone (second_of r.right own other)
  second-gone = is-gone s y going (r.slot 0 ∷ r.slot 1 ∷ []) good grown fresh (second_of r.right own other).slot (leaf-inside s (second_of r.right own other).slot (second-leaf r s good f stand))
      (among-later (first_of r.right own other).slot (second_of r.right own other).slot ((second_of r.right own other).slot ∷ (form_at s.past.config (here s)).up (first_of r.right own other).slot ∷ [])
      (among-first (second_of r.right own other).slot (second_of r.right own other).slot ((form_at s.past.config (here s)).up (first_of r.right own other).slot ∷ []) refl))

  merged : MergesLeaves r.lower.slot r.beside_slot r.leaf r.beside s y
  merged = record {
    less = merges_take_one s.past.config (image_of (here s).image) (image_of y.image) (first_of r.right own other).slot (second_of r.right own other).slot (r.slot 0) (r.slot 1) (sep_of r.read r.place)
        (tree-now s good) (merges r s good f stand y swaps);
    two = apart-of r.right own other (are-apart r s good f stand);
    leaf = to-own IsLeafHere r.right own other (first-leaf r s good f stand) (second-leaf r s good f stand);
    beside = to-other IsLeafHere r.right own other (first-leaf r s good f stand) (second-leaf r s good f stand);
    small = let v = f.frozen.planned.paired.viewed in record { moment = v.at; since = v.seen.stood.since; now = v.seen.stood.now; inside = v.seen.stood.inside; leaf = v.seen.stood.leaf; few = v.few };
    frozen = f.frozen.own;
    beside_frozen = f.frozen.other;
    room = room-of r.right own other f.frozen.planned.room;
    gone = to-own IsGone r.right own other first-gone second-gone;
    back = none-back s y going (r.slot 0 ∷ r.slot 1 ∷ []) good grown fresh;
  }

merge-counts : (c : Config) (r : Merging) (phase : MergePhase) (s : Scene) (y : Instant) (entries : List Entry) → s.past.config ≡ c → merge_facts r phase Waiting s → IsScene s → merge_asks c r phase ≡ Some (Swaps_for entries)
    → Stand entries (here s) → SwapsTo s.past.config entries (here s) y → Counts r phase s y
merge-counts c r Freeze s y entries same f good e stand swaps =
    by-status s y entries good swaps (entry_of s.past.config r.lower.slot r.status) r.lower.slot (own-once r s.past f.1.0) (ap (λ (z : Config). entry_of z r.lower.slot r.status ∷ []) same ∙ same-entries _ entries e) refl
merge-counts c r FreezeBeside s y entries same f good e stand swaps =
    by-status s y entries good swaps (entry_of s.past.config r.beside_slot (slice_index r.beside STATUS_AT)) r.beside_slot (other-once r s.past f.1.0)
    (ap (λ (z : Config). entry_of z r.beside_slot (slice_index r.beside STATUS_AT) ∷ []) same ∙ same-entries _ entries e) refl
merge-counts c r Swap s y entries same f good e stand swaps =
    let is : below_swap s.past.config r.upper r.lower (r.slot 0) ≡ entries = ap (λ (z : Config). below_swap z r.upper r.lower (r.slot 0)) same ∙ same-entries (below_swap c r.upper r.lower (r.slot 0)) entries e in
    merged r s y good f.1 (subst (λ z. Stand z (here s)) (sym is) stand) (subst (λ z. SwapsTo s.past.config z (here s) y) (sym is) swaps)
merge-counts c r phase s y entries same f good e stand swaps = absurd (cc)

-- of a task and of what it knows the same is said
told : (t : Merge) (phase : MergePhase) (s : Scene) (y : Instant) → Counts (merging_of t) phase s y → MergeCounts t phase s y
told t Swap s y h = h
told t phase s y h = h

pub merges-count : MergesCount
merges-count t entries s y l = told t t.phase s y (merge-counts t.config (merging_of t) t.phase s y entries l.config l.knows l.good l.asks l.stand l.leads)
