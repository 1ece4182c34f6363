-- The three nodes are words that may be stored, and what is known once their slots are taken.
use Rattle.std.proofs.Common.{◌≡◌, ◌≢◌, ℕ, zero, suc, ◌+◌, ◌<◌, false, arith, sym, subst, ◌∙◌, inl, inr}
use Rattle.std.specs.Prelude.{length, All}
use Rattle.bz_layout.specs.Addresses.{node_address, SlotsApart}
use Rattle.bz_layout.specs.Slots.{FreeSlots}
use Rattle.bz_layout.specs.declared.limits.TheConstants.{MAX_NODES}
use Rattle.bz_layout.specs.declared.sizes.TheConstants.{NODE_WORDS, STATUS_AT}
use Rattle.bz_node.specs.Reading.{children_in}
use Rattle.bz_task.specs.Laws.{NothingIsGained}
use Rattle.bz_task.specs.Outcomes.{IsGuarded, IsUnderRoot, IsUnderNode}
use Rattle.bz_task.specs.OwnActs.{AreUnreached, gained}
use Rattle.bz_task.specs.Scene.{Scene, Waiting, IsScene, HasFilled}
use Rattle.bz_task.specs.declared.path.Link.{Link}
use Rattle.bz_word.specs.Statuses.{status}
use Rattle.bz_halves.specs.Parents.{parted, ChildrenMayBeParted}
use Rattle.bz_halves.proofs.PartedParents.{parted-each}
use Rattle.bz_renew.specs.Nodes.{ArePlain, HaveSlots, HasFilledBegun}
use Rattle.bz_renew.proofs.NodeWrites.{nodes-taken, none-begun}
use Rattle.bz_renew.proofs.Plainness.{IsPlain, inner-plain}
use Rattle.bz_below.specs.Facts.{Below, below_nodes, IsPlanned, IsSplittingBelow, HasBegunBelow, parent_words, below_facts}
use Rattle.bz_below.specs.Guards.{WasThawed, LinksLeaveTheirNodes}
use Rattle.bz_below.specs.declared.phase.BelowPhase.{BelowPhase}
use Rattle.bz_below.specs.declared.phase.BelowPhase.TheVariants.{Fresh, Room, Word, Again, Guard, Store, Flush, Named, Swap, Done, Restart, NoRoom, NoSlot, NoSwap}

-- the three nodes are words that may be stored
module _ (parts : ChildrenMayBeParted) (r : Below) (s : Scene) (good : IsScene s) (v : IsPlanned r s.past) (over : r.image 0 ≡ parent_words r v.parted.child v.parent.level v.parent.low v.parent.high) (size : length (r.image 0) ≡ NODE_WORDS) (slots : HaveSlots s.past.config.nodes (below_nodes r)) where
  sizes : (n : ℕ) → n < 3 → length (r.image n) ≡ NODE_WORDS
  sizes zero h = size
  sizes (suc zero) h = v.parted.left_size
  sizes (suc (suc zero)) h = v.parted.right_size
  sizes (suc (suc (suc n))) h = absurd (omega (arith, h))

  slot-small : (n : ℕ) → n < 3 → r.slot n < MAX_NODES
  slot-small n h = omega (arith, slots.within n h, good.config.nodes_in_range.at_most)

  parent-plain : All IsPlain (parent_words r v.parted.child v.parent.level v.parent.low v.parent.high)
  parent-plain =
      let m = v.parent.parent.partable.may in
      inner-plain (parted (children_in r.read) v.parted.child (r.slot 1) (r.slot 2) r.sep) v.parent.low v.parent.high v.parent.level
      (parted-each (children_in r.read) v.parent.low v.parent.high v.parted.child (r.slot 1) (r.slot 2) r.sep m (slot-small 1 (omega arith)) (slot-small 2 (omega arith)))
      m.low_bound m.high_bound (omega (arith, v.parent.parent.lowest)) (omega (arith, v.room, (parts (children_in r.read) v.parent.low v.parent.high v.parted.child (r.slot 1) (r.slot 2) r.sep m).words))

  plains : (n : ℕ) → n < 3 → All IsPlain (r.image n)
  plains zero h = subst (All IsPlain) (sym over) parent-plain
  plains (suc zero) h = v.parted.left_plain
  plains (suc (suc zero)) h = v.parted.right_plain
  plains (suc (suc (suc n))) h = absurd (omega (arith, h))

  pub are-plain : ArePlain (below_nodes r)
  are-plain = record { size = sizes; plain = plains }

-- the upper link and its guard are no status of the node to which the link leads
pub record IsClear (s : Scene) (upper : Link) : Type 0 where
  pub link : upper.link ≢ node_address s.past.config upper.slot + STATUS_AT
  pub guard : upper.guard ≢ node_address s.past.config upper.slot + STATUS_AT

pub clear-of : LinksLeaveTheirNodes → SlotsApart → (s : Scene) (upper : Link) → IsScene s → (g : IsGuarded s.past upper) → (status upper.status).frozen ≡ false → IsClear s upper
clear-of leave apart s upper good g thawed = elim g.under [ inl u ↦ at-root u | inr u ↦ at-node u ]
  where
    at-root : IsUnderRoot upper → IsClear s upper
    at-root u = record { link = λ e. absurd (omega (arith, e, u.pointer)); guard = λ e. absurd (omega (arith, e, u.guard)) }

    at-node : IsUnderNode s.past upper g.guarded → IsClear s upper
    at-node u = record {
      link = λ e. leave s upper good g thawed u (apart s.past.config u.parent upper.slot u.place STATUS_AT u.within (omega arith) (sym u.pointer ∙ e)).0;
      guard = λ e. leave s upper good g thawed u (apart s.past.config u.parent upper.slot STATUS_AT STATUS_AT (omega arith) (omega arith) (sym u.guard ∙ e)).0;
    }

-- the slots were taken, and so the first store is known
pub begun-knows : SlotsApart → ChildrenMayBeParted → NothingIsGained → (r : Below) (phase : BelowPhase) (s : Scene) (old new : FreeSlots) → IsScene s → HasBegunBelow s.past.config.nodes r phase old new → old.nodes ≡ s.past.config.nodes → AreUnreached s old → HasFilled s
    → (planned : IsPlanned r s.past) → WasThawed r.upper planned.parted.moment s.past → IsClear s r.upper → below_facts r phase Waiting (gained s old new)
begun-knows apart parts nothing r (Store j) s old new good h nodes unreached filled v looked clear =
    let slots : HaveSlots s.past.config.nodes (below_nodes r) = subst (λ z. HaveSlots z (below_nodes r)) nodes h.1.0.slots in
    let over : r.image 0 ≡ parent_words r v.parted.child v.parent.level v.parent.low v.parent.high = h.1.1.0 v.parent.level v.parted.child v.parent.low v.parent.high v.parent.parent in
    let first : IsSplittingBelow r 0 0 (gained s old new) = record {
      planned = v;
      looked = looked;
      link_apart = clear.link;
      guard_apart = clear.guard;
      over = over;
      plain = are-plain parts r s good v over h.1.1.1 slots;
      writing = nodes-taken apart (below_nodes r) s old new h.1.0 nodes unreached;
    } in (
      subst (λ z. HasFilledBegun (below_nodes r) z (gained s old new)) (sym h.0) (none-begun apart (below_nodes r) s old new h.1.0 nodes unreached filled),
      (omega (arith, h.0), subst (λ z. IsSplittingBelow r z 0 (gained s old new)) (sym h.0) first),
    )
begun-knows apart parts nothing r NoSlot s old new good h nodes unreached filled v looked clear = subst (λ z. HasFilled (gained s old z)) (sym h.1) (nothing s old filled)
begun-knows apart parts nothing r Fresh s old new good h nodes unreached filled v looked clear = absurd (h)
begun-knows apart parts nothing r (Word i) s old new good h nodes unreached filled v looked clear = absurd (h)
begun-knows apart parts nothing r Room s old new good h nodes unreached filled v looked clear = absurd (h)
begun-knows apart parts nothing r Again s old new good h nodes unreached filled v looked clear = absurd (h)
begun-knows apart parts nothing r Guard s old new good h nodes unreached filled v looked clear = absurd (h)
begun-knows apart parts nothing r (Flush j) s old new good h nodes unreached filled v looked clear = absurd (h)
begun-knows apart parts nothing r Named s old new good h nodes unreached filled v looked clear = absurd (h)
begun-knows apart parts nothing r Swap s old new good h nodes unreached filled v looked clear = absurd (h)
begun-knows apart parts nothing r Done s old new good h nodes unreached filled v looked clear = absurd (h)
begun-knows apart parts nothing r Restart s old new good h nodes unreached filled v looked clear = absurd (h)
begun-knows apart parts nothing r NoRoom s old new good h nodes unreached filled v looked clear = absurd (h)
begun-knows apart parts nothing r NoSwap s old new good h nodes unreached filled v looked clear = absurd (h)
