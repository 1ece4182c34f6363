-- The swaps of the two tasks by which a level goes leave the leaves: the merge of two inner nodes, and the lowering of the root.
use Rattle.std.proofs.Common.{◌≡◌, ℕ, List, [], ◌∷◌, Some, sym, ap, subst, ◌∙◌}
use Rattle.bz_any_task.specs.FromInner.InnerMerges.{merge_swap}
use Rattle.bz_any_task.specs.FromInner.JoinDuties.{joining_of}
use Rattle.bz_any_task.specs.FromInner.JoinFacts.{joining_plan, joining_asks, joining_facts}
use Rattle.bz_any_task.specs.FromInner.Joinings.{Joining, left_slot, left_words, right_slot, right_words, sep_of}
use Rattle.bz_any_task.specs.FromInner.JoinPhase.{JoinPhase}
use Rattle.bz_any_task.specs.FromInner.JoinPhase.TheVariants.{Writing}
use Rattle.bz_any_task.specs.FromInner.LowerDuties.{lowering_of}
use Rattle.bz_any_task.specs.FromInner.LowerFacts.{Lowering, HasLoneRoot, lower_asks, lower_facts}
use Rattle.bz_any_task.specs.FromInner.LowerPhase.{LowerPhase}
use Rattle.bz_any_task.specs.FromInner.LowerPhase.TheVariants as lower
use Rattle.bz_inner.proofs.InnerMerging.{joins}
use Rattle.bz_inner.proofs.JoinPlans.{ready}
use Rattle.bz_inner.proofs.LowerActing.{lowering}
use Rattle.bz_inner.proofs.Lowering.{lowers}
use Rattle.bz_layout.specs.declared.config.Config.{Config}
use Rattle.bz_levels.specs.Restructures.{JoinsInner, LowersRoot}
use Rattle.bz_renew.specs.LinkSwaps.{IsFresh}
use Rattle.bz_split.specs.BelowSplits.{below_swap}
use Rattle.bz_tree.specs.Outcomes.{Regrows}
use Rattle.bz_tree.specs.Walk.{IsTree}
use Rattle.bz_word.specs.Statuses.{status}
use Rattle.bz_word.specs.declared.entry.Entry.{Entry}
use Rattle.bz_content.specs.Content.{image_of, view_in}
use Rattle.bz_content.specs.Image.{Image, root}
use Rattle.bz_content.specs.Resolving.{resolve}
use Rattle.bz_task.specs.Instant.{Instant, form_at}
use Rattle.bz_task.specs.Scene.{Scene, Waiting, IsScene, here}
use Rattle.bz_task.specs.Swaps.{Stand, SwapsTo}
use Rattle.bz_task.specs.declared.todo.Todo.TheVariants.{Swap as Swaps_for}
use Rattle.bz_writer.specs.Laws.{IsWritten}
use Rattle.bz_writer.specs.declared.phase.WritePhase.TheVariants.{Swap}
use Rattle.std.specs.Prelude.{false}
use Rattle.bz_tally.specs.Counts.{KeepsTheLeaves}
use Rattle.bz_tally.specs.Laws.{InnerMergesKeepTheLeaves, LoweringsKeepTheLeaves}
use Rattle.bz_tally.proofs.Backs.{AreFresh, leaves-stay, none-back, two-fresh}
use Rattle.bz_tally.proofs.Changes.{same-entries}
use Rattle.bz_tally.proofs.Levels.{joined-as-many, joined-high, joined-regrows, lowered-as-many, lowered-high, lowered-regrows}
use Rattle.bz_tally.proofs.Links.{tree-now}

-- told of the image before and after
module _ (s : Scene) (y : Instant) (good : IsScene s) where
  abbrev c : Config
  c = s.past.config

  abbrev x : Image
  x = image_of (here s).image

  abbrev z : Image
  z = image_of y.image

  tree : IsTree (view_in c (here s).image)
  tree = tree-now s good

  pub after-joining : (a b q m : ℕ) (sep : List ℕ) → JoinsInner s.past.config (image_of (here s).image) (image_of y.image) a b q m sep → IsFresh s q → IsFresh s m → KeepsTheLeaves s y
  after-joining a b q m sep d fresh_q fresh_m =
      let gone : List ℕ = a ∷ b ∷ (form_at c (here s)).up a ∷ [] in
      let grows : Regrows (view_in c (here s).image) (view_in c y.image) (a ∷ b ∷ (form_at c (here s)).up a ∷ []) (q ∷ m ∷ []) = joined-regrows c x z a b q m sep tree d in
      let fresh : AreFresh s (q ∷ m ∷ []) = two-fresh s q m fresh_q fresh_m in
      record {
        same = joined-as-many c x z a b q m sep tree d;
        back = none-back s y gone (q ∷ m ∷ []) good grows fresh;
        stay = leaves-stay s y gone (q ∷ m ∷ []) good grows fresh (joined-high c x z a b q m sep tree d);
      }

  none-fresh : AreFresh s []
  none-fresh k e = absurd (cc)

  pub after-lowering : (to : ℕ) → LowersRoot s.past.config (image_of (here s).image) (image_of y.image) to → KeepsTheLeaves s y
  after-lowering to d =
      let gone : List ℕ = root (resolve (here s).image) ∷ [] in
      let grows : Regrows (view_in c (here s).image) (view_in c y.image) (root (resolve (here s).image) ∷ []) [] = lowered-regrows c x z to tree d in
      record {
        same = lowered-as-many c x z to tree d;
        back = none-back s y gone [] good grows none-fresh;
        stay = leaves-stay s y gone [] good grows none-fresh (lowered-high c x z to tree d);
      }

-- the swap of a merge of two inner nodes
abbrev swap_of : Config → Joining → List Entry
swap_of c r = merge_swap c (left_slot r) (right_slot r) r.upper.slot (left_words r) (right_words r) r.above (r.slot 0)

-- a task that asks for its swap knows what it needs to know for it
joining : (c : Config) (r : Joining) (phase : JoinPhase) (s : Scene) (entries : List Entry) → joining_facts r phase Waiting s → joining_asks c r phase ≡ Some (Swaps_for entries) → IsWritten (joining_plan r) s × (swap_of c r ≡ entries)
joining c r (Writing Swap) s entries f e = (f.1, same-entries (swap_of c r) entries e)
joining c r phase s entries f e = absurd (cc)

lowers-root : (c : Config) (r : Lowering) (phase : LowerPhase) (s : Scene) (entries : List Entry) → lower_facts r phase Waiting s → lower_asks c r phase ≡ Some (Swaps_for entries)
    → (HasLoneRoot r.upper r.lower s.past × ((status r.lower.status).frozen ≡ false)) × (below_swap c r.upper r.lower r.lower.slot ≡ entries)
lowers-root c r lower.Swap s entries f e = (f.1.1, same-entries (below_swap c r.upper r.lower r.lower.slot) entries e)
lowers-root c r phase s entries f e = absurd (cc)

pub inner-merged : InnerMergesKeepTheLeaves
inner-merged t entries s y l =
    let r : Joining = joining_of t in
    let f = joining t.config r t.phase s entries l.knows l.asks in
    let w = f.0.ready.planned in
    let is : swap_of s.past.config r ≡ entries = ap (λ (z : Config). swap_of z r) l.config ∙ f.1 in
    let a = ready r s f.0 in
    after-joining s y l.good (left_slot r) (right_slot r) (r.slot 0) (r.slot 1) (sep_of r.above r.place)
    (joins s y (left_slot r) (right_slot r) r.upper.slot w.left_at w.right_at w.above_at r.place (r.slot 0) (r.slot 1) (left_words r) (right_words r) r.above (sep_of r.above r.place) l.good a
    (subst (λ z. Stand z (here s)) (sym is) l.stand) (subst (λ z. SwapsTo s.past.config z (here s) y) (sym is) l.leads)) a.fresh_q a.fresh_m

pub root-lowered : LoweringsKeepTheLeaves
root-lowered t entries s y l =
    let r : Lowering = lowering_of t in
    let f = lowers-root t.config r t.phase s entries l.knows l.asks in
    let is : below_swap s.past.config r.upper r.lower r.lower.slot ≡ entries = ap (λ (z : Config). below_swap z r.upper r.lower r.lower.slot) l.config ∙ f.1 in
    after-lowering s y l.good r.lower.slot
    (lowers s y r.upper r.lower l.good (lowering r s l.good f.0.0 f.0.1) (subst (λ z. Stand z (here s)) (sym is) l.stand) (subst (λ z. SwapsTo s.past.config z (here s) y) (sym is) l.leads))
