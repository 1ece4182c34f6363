-- What a task was made for it still is after what it is told, and while time goes on; and the split of the node above is made for the same.
use Rattle.std.proofs.Common.{◌≡◌, ℕ, ◌+◌, ◌<◌, List, [], ◌∷◌, Some, arith, sym, ap, subst, ◌∙◌}
use Rattle.bz_ascent.specs.declared.ascent.Ascent.{Ascent}
use Rattle.bz_ascent.specs.FromBelow.Duties.{basis_below}
use Rattle.bz_ascent.specs.FromBelow.SplitBelow.{SplitBelow}
use Rattle.bz_consol.specs.Duties as consol
use Rattle.bz_consol.specs.declared.consolidate.Consolidate.{Consolidate}
use Rattle.bz_crown.specs.Duties.{basis_crown}
use Rattle.bz_crown.specs.declared.split_inner_root.SplitInnerRoot.{SplitInnerRoot}
use Rattle.bz_fork.specs.Duties.{basis_fork}
use Rattle.bz_fork.specs.declared.split_inner.SplitInner.{SplitInner}
use Rattle.bz_freeze.specs.Facts.{freeze_basis}
use Rattle.bz_freeze.specs.declared.freeze.Freeze.{Freeze}
use Rattle.bz_layout.specs.declared.config.Config.{Config}
use Rattle.bz_layout.specs.declared.sizes.TheConstants.{SHARED_WORDS, STATUS_AT}
use Rattle.bz_merge.specs.Duties as merge
use Rattle.bz_merge.specs.FromSplit.Duties as split
use Rattle.bz_merge.specs.FromSplit.SplitRoot.{SplitRoot}
use Rattle.bz_merge.specs.declared.merge.Merge.{Merge}
use Rattle.bz_mutate.specs.DeleteDuties as delete
use Rattle.bz_mutate.specs.DeleteFacts.{leaves_few_without}
use Rattle.bz_mutate.specs.declared.delete.Delete.{Delete}
use Rattle.bz_task.specs.Basis.{Basis}
use Rattle.bz_task.specs.FromContent.Content.{leaf_in}
use Rattle.bz_task.specs.Instant.{words as words_at, page_at}
use Rattle.bz_task.specs.Outcomes.{IsView}
use Rattle.bz_task.specs.Scene.{Past, Continues}
use Rattle.bz_task.specs.declared.view.LeafView.{LeafView}
use Rattle.bz_task.proofs.Proved.{views_stay}
use Rattle.bz_word.specs.Statuses.{status}
use Rattle.bz_any_task.specs.Duties.{ascent_of}
use Rattle.bz_any_task.specs.MadeFor.{HasFoot, WasLeafOf, LackedWords, WasCrowded, WasSmallLeafOf, IsCopyFor, AreHalvesFor, HasComeTo, HasComeBelow, HasComeToRoot, IsMadeFor, IsMergeOf, IsMergeFor, IsSmallMerge}
use Rattle.bz_any_task.specs.declared.running.AnyTask.{AnyTask}
use Rattle.bz_any_task.specs.declared.running.AnyTask.TheVariants.{Seeking, Finding, Reading, Inserting, Updating, Deleting, Freezing, Consolidating, Splitting, SplittingBelow, SplittingInner, SplittingInnerRoot, Merging, MergingInner, Lowering}
use Rattle.bz_any_task.proofs.Ascending.{same-ascent}

abbrev pub Kept : AnyTask → AnyTask → Type 0
Kept t u = (key : List ℕ) (words : ℕ) (p : Past) → IsMadeFor t key words p → IsMadeFor u key words p

same-one : (a b : List ℕ) → a ∷ [] ≡ b ∷ [] → a ≡ b
same-one a b e = cc

same-three : (a b c x y z : List ℕ) → a ∷ b ∷ c ∷ [] ≡ x ∷ y ∷ z ∷ [] → (a ≡ x) × ((b ≡ y) × (c ≡ z))
same-three a b c x y z e = (cc, (cc, cc))

pub freeze-kept : (t u : Freeze) → freeze_basis u.slot ≡ freeze_basis t.slot → Kept (Freezing t) (Freezing u)
unfolding IsMadeFor
freeze-kept t u e key words p m = subst (λ (k : ℕ). LackedWords key words k p) (sym (ap (λ (b : Basis). b.slot) e)) m

pub copy-kept : (t u : Consolidate) → consol.basis_of u ≡ consol.basis_of t → Kept (Consolidating t) (Consolidating u)
unfolding IsMadeFor
copy-kept t u e key words p m =
    let image : u.image.0 ≡ t.image.0 = same-one u.image.0 t.image.0 (ap (λ (b : Basis). b.nodes) e) in
    subst (λ (k : ℕ). IsCopyFor key k u.image.0 p) (sym (ap (λ (b : Basis). b.slot) e)) (subst (λ (w : List ℕ). IsCopyFor key t.link.slot w p) (sym image) m)

halves-kept : (key : List ℕ) (p : Past) (k j : ℕ) (l r s x y z : List ℕ) → j ≡ k → x ∷ y ∷ z ∷ [] ≡ l ∷ r ∷ s ∷ [] → AreHalvesFor key k l r s p → AreHalvesFor key j x y z p
halves-kept key p k j l r s x y z at e m =
    let q = same-three x y z l r s e in
    subst (λ (i : ℕ). AreHalvesFor key i x y z p) (sym at)
    (subst (λ (w : List ℕ). AreHalvesFor key k w y z p) (sym q.0) (subst (λ (w : List ℕ). AreHalvesFor key k l w z p) (sym q.1.0) (subst (λ (w : List ℕ). AreHalvesFor key k l r w p) (sym q.1.1) m)))

pub split-kept : (t u : SplitRoot) → split.basis_of u ≡ split.basis_of t → Kept (Splitting t) (Splitting u)
unfolding IsMadeFor
split-kept t u e key words p m =
    halves-kept key p t.link.slot u.link.slot t.halves.left.0 t.halves.right.0 t.halves.separator u.halves.left.0 u.halves.right.0 u.halves.separator (ap (λ (b : Basis). b.slot) e) (ap (λ (b : Basis). b.nodes) e) m

pub below-kept : (t u : SplitBelow) (a : Ascent) → basis_below u ≡ basis_below t → Kept (SplittingBelow t a) (SplittingBelow u a)
unfolding IsMadeFor
below-kept t u a e key words p m = record {
  halves = halves-kept key p t.lower.slot u.lower.slot t.halves.left.0 t.halves.right.0 t.halves.separator u.halves.left.0 u.halves.right.0 u.halves.separator (ap (λ (b : Basis). b.slot) e) (ap (λ (b : Basis). b.nodes) e) m.halves;
  foot = m.foot;
}

pub fork-kept : (t u : SplitInner) (a : Ascent) → basis_fork u ≡ basis_fork t → Kept (SplittingInner t a) (SplittingInner u a)
unfolding IsMadeFor
fork-kept t u a e key words p m = subst (λ (k : ℕ). HasComeBelow key k a p) (sym (ap (λ (b : Basis). b.slot) e)) m

pub crown-kept : (t u : SplitInnerRoot) (a : Ascent) → basis_crown u ≡ basis_crown t → Kept (SplittingInnerRoot t a) (SplittingInnerRoot u a)
unfolding IsMadeFor
crown-kept t u a e key words p m = subst (λ (k : ℕ). HasComeToRoot key k a p) (sym (ap (λ (b : Basis). b.slot) e)) m

abbrev pub KeptMerge : AnyTask → AnyTask → Type 0
KeptMerge t u = (key : List ℕ) (p : Past) → IsMergeFor t key p → IsMergeFor u key p

same-status : (a b : ℕ) → (a ∷ []) ∷ [] ≡ (b ∷ []) ∷ [] → a ≡ b
same-status a b e = cc

pub merge-kept : (t u : Merge) → merge.basis_of u ≡ merge.basis_of t → KeptMerge (Merging t) (Merging u)
unfolding IsMergeFor
merge-kept t u e key p m =
    let viewed : u.status ≡ t.status = same-status u.status t.status (ap (λ (b : Basis). b.nodes) e) in
    subst (λ (k : ℕ). IsMergeOf key k u.status p) (sym (ap (λ (b : Basis). b.slot) e)) (subst (λ (st : ℕ). IsMergeOf key t.lower.slot st p) (sym viewed) m)

abbrev pub KeptSmall : AnyTask → AnyTask → Type 0
KeptSmall t u = (key : List ℕ) (p : Past) → IsSmallMerge t key p → IsSmallMerge u key p

pub small-kept : (t u : Merge) → merge.basis_of u ≡ merge.basis_of t → KeptSmall (Merging t) (Merging u)
unfolding IsSmallMerge
small-kept t u e key p m = subst (λ (k : ℕ). WasSmallLeafOf key k p) (sym (ap (λ (b : Basis). b.slot) e)) m

-- a delete tells of its leaf what it told
pub few-kept : (t u : Delete) → delete.change_of u ≡ delete.change_of t → delete.basis_of u ≡ delete.basis_of t → delete.leaves_few_of u ≡ delete.leaves_few_of t
few-kept t u change basis =
    let viewed : u.view.status ≡ t.view.status = same-status u.view.status t.view.status (ap (λ (b : Basis). b.nodes) basis) in
    λ i. leaves_few_without (viewed i) (change i).key (change i).old

-- the leaf that was viewed, and lacked the words and the metadata word of a record
pub lacked-viewed : (key : List ℕ) (view : LeafView) (slot words : ℕ) (p : Past) → IsView key view p → slot ≡ view.slot → SHARED_WORDS < (status view.status).count + 1 + (status view.status).block + words → LackedWords key (words + 1) slot p
lacked-viewed key view slot words p is e few =
    let read : words_at p.config (p.at view.at) slot STATUS_AT ≡ view.status = ap (λ k. words_at p.config (p.at view.at) k STATUS_AT) e ∙ is.status in
    let taken : (page_at p.config (p.at view.at) slot).count + (page_at p.config (p.at view.at) slot).block ≡ (status view.status).count + (status view.status).block = ap (λ z. (status z).count + (status z).block) read in
    record {
      within = omega (arith, is.slot, e);
      was = record { moment = view.at; since = is.since; now = is.now; leaf = is.leaf ∙ sym e };
      lacked = subst (λ z. SHARED_WORDS < z + (words + 1)) (sym taken) (omega (arith, few));
    }

-- while time goes on
module _ (p q : Past) (n : Continues p q) where
  abbrev leaf-stays : (key : List ℕ) (slot : ℕ) → WasLeafOf key slot p → WasLeafOf key slot q
  leaf-stays key slot w = record {
    moment = w.moment;
    since = omega (arith, w.since, n.since);
    now = omega (arith, w.now, n.now);
    leaf = (λ t. leaf_in (n.config t) (n.at w.moment w.now t).image key) ∙ w.leaf;
  }

  lacked-stays : (key : List ℕ) (words slot : ℕ) → LackedWords key words slot p → LackedWords key words slot q
  lacked-stays key words slot l =
      let nodes : q.config.nodes ≡ p.config.nodes = ap (λ (c : Config). c.nodes) n.config in
      let taken : (page_at q.config (q.at l.was.moment) slot).count + (page_at q.config (q.at l.was.moment) slot).block ≡ (page_at p.config (p.at l.was.moment) slot).count + (page_at p.config (p.at l.was.moment) slot).block =
      λ t. (page_at (n.config t) (n.at l.was.moment l.was.now t) slot).count + (page_at (n.config t) (n.at l.was.moment l.was.now t) slot).block in
      record { within = omega (arith, l.within, nodes); was = leaf-stays key slot l.was; lacked = subst (λ z. SHARED_WORDS < z + words) (sym taken) l.lacked }

  module _ (key : List ℕ) where
    crowded-stays : (view : LeafView) → WasCrowded key view p → WasCrowded key view q
    crowded-stays view w = record { is = views_stay key view p q w.is n; frozen = w.frozen; many = w.many }

    halves-stay : (slot : ℕ) (left right sep : List ℕ) → AreHalvesFor key slot left right sep p → AreHalvesFor key slot left right sep q
    halves-stay slot left right sep m = record { view = m.view; leaf = crowded-stays m.view m.leaf; at = m.at; halves = m.halves }

    come-stays : (slot : ℕ) (a : Ascent) → HasComeTo key slot a p → HasComeTo key slot a q
    come-stays slot a m = record { key_is = m.key_is; node = m.node; foot = m.foot; view = m.view; leaf = crowded-stays m.view m.leaf }

pub made-stays : (t : AnyTask) (key : List ℕ) (words : ℕ) (p q : Past) → IsMadeFor t key words p → Continues p q → IsMadeFor t key words q
unfolding IsMadeFor
made-stays (Seeking t) key words p q m n = absurd m
made-stays (Finding t) key words p q m n = absurd m
made-stays (Reading t) key words p q m n = absurd m
made-stays (Inserting t) key words p q m n = absurd m
made-stays (Updating t) key words p q m n = absurd m
made-stays (Deleting t) key words p q m n = absurd m
made-stays (Freezing t) key words p q m n = lacked-stays p q n key words t.slot m
made-stays (Consolidating t) key words p q m n = record { view = m.view; is = views_stay key m.view p q m.is n; at = m.at; small = m.small }
made-stays (Splitting t) key words p q m n = halves-stay p q n key t.link.slot t.halves.left.0 t.halves.right.0 t.halves.separator m
made-stays (SplittingBelow t a) key words p q m n = record { halves = halves-stay p q n key t.lower.slot t.halves.left.0 t.halves.right.0 t.halves.separator m.halves; foot = m.foot }
made-stays (SplittingInner t a) key words p q m n = record { come = come-stays p q n key t.middle.slot a m.come; below = m.below }
made-stays (SplittingInnerRoot t a) key words p q m n = record { come = come-stays p q n key t.upper.slot a m.come; root = m.root }
made-stays (Merging t) key words p q m n = absurd m
made-stays (MergingInner t) key words p q m n = absurd m
made-stays (Lowering t) key words p q m n = absurd m

pub merge-stays : (t : AnyTask) (key : List ℕ) (p q : Past) → IsMergeFor t key p → Continues p q → IsMergeFor t key q
unfolding IsMergeFor
merge-stays (Merging t) key p q m n = record { leaf = leaf-stays p q n key t.lower.slot m.leaf; frozen = m.frozen }
merge-stays t key p q m n = absurd m

pub small-stays : (t : AnyTask) (key : List ℕ) (p q : Past) → IsSmallMerge t key p → Continues p q → IsSmallMerge t key q
unfolding IsSmallMerge
small-stays (Merging t) key p q m n = record { view = m.view; is = views_stay key m.view p q m.is n; at = m.at; few = m.few }
small-stays t key p q m n = absurd m

-- at the foot of an ascent stands a leaf that has to be split
pub record StandsOnCrowded (a : Ascent) (key : List ℕ) (p : Past) : Type 0 where
  pub key_is : a.key ≡ key
  pub foot : HasFoot a
  pub view : LeafView
  pub leaf : WasCrowded key view p

pub stands-on-crowded : (t : AnyTask) (a : Ascent) → ascent_of t ≡ Some a → (key : List ℕ) (words : ℕ) (p : Past) → IsMadeFor t key words p → StandsOnCrowded a key p
unfolding ascent_of IsMadeFor
stands-on-crowded (SplittingBelow t b) a e key words p m = subst (λ (z : Ascent). StandsOnCrowded z key p) (same-ascent b a e) (record { key_is = m.foot.key_is; foot = m.foot.foot; view = m.halves.view; leaf = m.halves.leaf })
stands-on-crowded (SplittingInner t b) a e key words p m = subst (λ (z : Ascent). StandsOnCrowded z key p) (same-ascent b a e) (record { key_is = m.come.key_is; foot = m.come.foot; view = m.come.view; leaf = m.come.leaf })
stands-on-crowded (SplittingInnerRoot t b) a e key words p m = subst (λ (z : Ascent). StandsOnCrowded z key p) (same-ascent b a e) (record { key_is = m.come.key_is; foot = m.come.foot; view = m.come.view; leaf = m.come.leaf })
stands-on-crowded t a e key words p m = absurd (cc)
