-- The swaps by which a merge freezes its two leaves are freezes of these leaves, as they were seen.
use Rattle.std.proofs.Common.{◌≡◌, ◌≢◌, ℕ, ◌+◌, Bool, true, false, List, [], ◌∷◌, Option, Some, arith, refl, sym, ap, subst, ◌∙◌}
use Rattle.std.specs.Prelude.{slice_index}
use Rattle.bz_freeze.specs.Facts.{WasLeaf, entry_of}
use Rattle.bz_layout.specs.declared.config.Config.{Config}
use Rattle.bz_layout.specs.declared.sizes.TheConstants.{STATUS_AT}
use Rattle.bz_merge.specs.Duties.{merging_of, made_of, asks_of, facts_of}
use Rattle.bz_merge.specs.Counts.{freezes_of, merge_made}
use Rattle.bz_merge.specs.Facts.{merge_asks, merge_facts}
use Rattle.bz_merge.specs.Plans.{Merging, viewed_leaf, beside_leaf, IsPair, IsPlanned}
use Rattle.bz_merge.specs.Siblings.{SeenLeaf, WasSeen}
use Rattle.bz_merge.specs.declared.merge.Merge.{Merge}
use Rattle.bz_merge.specs.declared.phase.MergePhase.{MergePhase}
use Rattle.bz_merge.specs.declared.phase.MergePhase.TheVariants.{Freeze, FreezeBeside}
use Rattle.bz_tree.specs.Descent.{leaf_of}
use Rattle.bz_word.specs.Statuses.{status}
use Rattle.bz_word.specs.declared.entry.Entry.{Entry}
use Rattle.bz_content.specs.Content.{image_of, leaf_in}
use Rattle.bz_content.specs.View.{view_of}
use Rattle.bz_task.specs.Instant.{Instant}
use Rattle.bz_task.specs.Scene.{Past, Scene, Waiting, IsScene, here}
use Rattle.bz_task.specs.Swaps.{Stand, SwapsTo}
use Rattle.bz_task.specs.declared.todo.Todo.TheVariants.{Swap as Swaps_for}
use Rattle.bz_stage.specs.Swaps.{FreezesLeaf}
use Rattle.bz_rounds.specs.FromAlone.Undisturbed.{IsUndisturbed}
use Rattle.bz_rounds.specs.FromAlone.MadeFor.{WasLeafOf}
use Rattle.bz_rounds.specs.FromAlone.Trees.{SameTree}
use Rattle.bz_rounds.proofs.Freezing.{freezes-leaf}
use Rattle.bz_rounds.specs.Undisturbed.{IsUndisturbedSwap}
use Rattle.bz_rounds.proofs.Undisturbed.{tree-now, leaf-now, same-entries}
use Rattle.bz_rounds.proofs.FromTally.Pairs.{to-other, to-own}
use Rattle.bz_rounds.proofs.FromAlone.Proved.{undisturbed_times_are_quiet, merges_go_on, trees_stand}
use Rattle.bz_joined.specs.Undisturbed.{UndisturbedFreezesBesideKeepTheStage, UndisturbedFreezesBesideKeepTheLeaf, UndisturbedOwnFreezesLeaveACopy}
use Rattle.bz_joined.proofs.Freezes.{freezes-beside, freezes-beside-leaf, small-freezes}

-- a leaf that was seen
record Once (l : SeenLeaf) (p : Past) : Type 0 where
  pub at : ℕ
  pub low : Option (List ℕ)
  pub high : Option (List ℕ)
  pub seen : WasSeen l at low high p

was-leaf : (l : SeenLeaf) (p : Past) → Once l p → (status l.status).frozen ≡ false → WasLeaf l.slot l.status p
was-leaf l p o t = record {
  moment = o.at;
  since = o.seen.stood.since;
  now = o.seen.stood.now;
  slot = o.seen.stood.slot;
  inside = o.seen.stood.inside;
  leaf = o.seen.stood.leaf;
  was = o.seen.status;
  thawed = t;
  plain = o.seen.plain;
}

-- the two are different slots
are-two : (read : List ℕ) (slot : ℕ) (right : Bool) (place beside : ℕ) → IsPair read slot right place beside → beside ≢ slot
are-two read slot true place beside h e = absurd (omega (arith, h.own.only (place + 1) h.counted (h.other ∙ e)))
are-two read slot false place beside h e = absurd (omega (arith, h.own.only place (omega (arith, h.counted)) (h.other ∙ e)))

-- the freeze of one of them
module _ (s : Scene) (y : Instant) (good : IsScene s) (alone : IsUndisturbed 0 s.past) (l : SeenLeaf) (w : WasLeaf l.slot l.status s.past) (entries : List Entry) (is : entry_of s.past.config l.slot l.status ∷ [] ≡ entries) (stand : Stand entries (here s)) (swaps : SwapsTo s.past.config entries (here s) y) where
  below : l.slot ≢ s.past.config.nodes
  below e = absurd (omega (arith, e, w.slot))

  same : SameTree s.past.config (s.past.at w.moment) (here s)
  same = trees_stand s s.past.since w.moment s.past.now good (undisturbed_times_are_quiet.whole s good alone) (record { from = w.since; to = w.now }) (record { from = good.begun; to = omega arith })

  froze : FreezesLeaf s.past.config (image_of (here s).image) (image_of y.image) l.slot
  froze =
      freezes-leaf s y l.slot l.status good (same.inside l.slot ∙ w.inside) ((same.place l.slot below w.inside).level ∙ w.leaf) below w
      (subst (λ d. Stand d (here s)) (sym is) stand) (subst (λ d. SwapsTo s.past.config d (here s) y) (sym is) swaps)

-- a merge that freezes the neighbour, or the viewed leaf
plan-beside : (r : Merging) (phase : MergePhase) (s : Scene) → phase ≡ FreezeBeside → merge_facts r phase Waiting s → IsPlanned r s.past × ((status (slice_index r.beside STATUS_AT)).frozen ≡ false)
plan-beside r phase s e f = let g = subst (λ z. merge_facts r z Waiting s) e f in (g.1.0, g.1.1.1.0)

plan-own : (r : Merging) (phase : MergePhase) (s : Scene) → phase ≡ Freeze → merge_facts r phase Waiting s → IsPlanned r s.past × ((status r.status).frozen ≡ false)
plan-own r phase s e f = let g = subst (λ z. merge_facts r z Waiting s) e f in (g.1.0, g.1.1)

asked-beside : (c : Config) (r : Merging) (phase : MergePhase) (entries : List Entry) → phase ≡ FreezeBeside → merge_asks c r phase ≡ Some (Swaps_for entries) → entry_of c r.beside_slot (slice_index r.beside STATUS_AT) ∷ [] ≡ entries
asked-beside c r phase entries e a = same-entries (entry_of c r.beside_slot (slice_index r.beside STATUS_AT) ∷ []) entries (ap (merge_asks c r) (sym e) ∙ a)

asked-own : (c : Config) (r : Merging) (phase : MergePhase) (entries : List Entry) → phase ≡ Freeze → merge_asks c r phase ≡ Some (Swaps_for entries) → entry_of c r.lower.slot r.status ∷ [] ≡ entries
asked-own c r phase entries e a = same-entries (entry_of c r.lower.slot r.status ∷ []) entries (ap (merge_asks c r) (sym e) ∙ a)

-- it made no swap before
none-before : (st : ℕ) → (status st).frozen ≡ true → freezes_of st ≡ 0
none-before st e = rw e refl

made-none : (t : Merge) → t.phase ≡ FreezeBeside → (status t.status).frozen ≡ true → 0 ≡ made_of t
made-none t e frozen = sym (ap (merge_made (merging_of t)) e ∙ none-before t.status frozen)

own-first : (t : Merge) → t.phase ≡ Freeze → 0 ≡ made_of t
own-first t e = sym (ap (merge_made (merging_of t)) e)

seen-own : (r : Merging) (p : Past) → IsPlanned r p → Once (viewed_leaf r) p
seen-own r p f = to-own (λ l. Once l p) r.right (viewed_leaf r) (beside_leaf r) (record { at = f.first_at; low = _; high = _; seen = f.first }) (record { at = f.second_at; low = _; high = _; seen = f.second })

seen-beside : (r : Merging) (p : Past) → IsPlanned r p → Once (beside_leaf r) p
seen-beside r p f = to-other (λ l. Once l p) r.right (viewed_leaf r) (beside_leaf r) (record { at = f.first_at; low = _; high = _; seen = f.first }) (record { at = f.second_at; low = _; high = _; seen = f.second })

-- that of the neighbour freezes another leaf than the key's
freezes-other : (t : Merge) (key : List ℕ) (entries : List Entry) (s : Scene) (y : Instant) → IsUndisturbedSwap t.config (asks_of t) (facts_of t) entries s y → t.phase ≡ FreezeBeside → (status t.status).frozen ≡ true → WasLeafOf key t.lower.slot s.past →
    FreezesLeaf s.past.config (image_of (here s).image) (image_of y.image) t.side.slot × (t.side.slot ≢ leaf_of (view_of s.past.config (image_of (here s).image)) key)
freezes-other t key entries s y l e frozen was =
    let r : Merging = merging_of t in
    let f = plan-beside r t.phase s e l.knows in
    let is : entry_of s.past.config r.beside_slot (slice_index r.beside STATUS_AT) ∷ [] ≡ entries = ap (λ (z : Config). entry_of z r.beside_slot (slice_index r.beside STATUS_AT) ∷ []) l.config ∙ asked-beside t.config r t.phase entries e l.asks in
    let stand : Stand entries (here s) = (merges_go_on t s l.config l.good l.knows (subst (λ n. IsUndisturbed n s.past) (made-none t e frozen) l.alone)).stands entries l.asks in
    let leaf : leaf_in s.past.config (here s).image key ≡ t.lower.slot = leaf-now s l.good key t.lower.slot l.alone was in
    let apart : r.beside_slot ≢ r.lower.slot = are-two r.read r.lower.slot r.right r.place r.beside_slot f.0.paired.pair in
    (froze s y l.good l.alone (beside_leaf r) (was-leaf (beside_leaf r) s.past (seen-beside r s.past f.0) f.1) entries is stand l.leads, λ z. apart (z ∙ leaf))

pub freezes-beside-undisturbed : UndisturbedFreezesBesideKeepTheStage
freezes-beside-undisturbed t key words entries s y l e frozen was =
    let z = freezes-other t key entries s y l e frozen was in
    freezes-beside s.past.config (image_of (here s).image) (image_of y.image) key words t.side.slot (tree-now s l.good) z.0 z.1

pub freezes-beside-leaf-undisturbed : UndisturbedFreezesBesideKeepTheLeaf
freezes-beside-leaf-undisturbed t key entries s y l e frozen was =
    let z = freezes-other t key entries s y l e frozen was in
    freezes-beside-leaf s.past.config (image_of (here s).image) (image_of y.image) key t.side.slot (tree-now s l.good) z.0 z.1

pub own-freezes-undisturbed : UndisturbedOwnFreezesLeaveACopy
own-freezes-undisturbed t key words entries s y l e was few =
    let r : Merging = merging_of t in
    let f = plan-own r t.phase s e l.knows in
    let is : entry_of s.past.config r.lower.slot r.status ∷ [] ≡ entries = ap (λ (z : Config). entry_of z r.lower.slot r.status ∷ []) l.config ∙ asked-own t.config r t.phase entries e l.asks in
    let stand : Stand entries (here s) = (merges_go_on t s l.config l.good l.knows (subst (λ n. IsUndisturbed n s.past) (own-first t e) l.alone)).stands entries l.asks in
    let leaf : leaf_in s.past.config (here s).image key ≡ t.lower.slot = leaf-now s l.good key t.lower.slot l.alone was in
    small-freezes s.past.config (image_of (here s).image) (image_of y.image) key words (tree-now s l.good)
    (subst (λ j. FreezesLeaf s.past.config (image_of (here s).image) (image_of y.image) j) (sym leaf) (froze s y l.good l.alone (viewed_leaf r) (was-leaf (viewed_leaf r) s.past (seen-own r s.past f.0) f.1) entries is stand l.leads)) few
