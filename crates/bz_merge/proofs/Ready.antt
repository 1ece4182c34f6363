-- What a merge knows says that what it asks for is there.
use Rattle.std.proofs.Common.{◌≡◌, ◌+◌, subst}
use Rattle.bz_layout.specs.Addresses.{node_address}
use Rattle.bz_layout.specs.declared.config.Config.{Config}
use Rattle.bz_layout.specs.declared.sizes.TheConstants.{STATUS_AT}
use Rattle.bz_task.specs.Scene.{Scene, Waiting, IsScene}
use Rattle.bz_renew.specs.Renewals.{link_entry, guard_entry, IsTurnable, LinksMayBeTurned}
use Rattle.bz_renew.proofs.TwoEntries.{no-target}
use Rattle.bz_merge.specs.Facts.{MERGE_WORDS, MERGE_LINES, IsMerging, IsSwapReady, IsReady, merge_facts}
use Rattle.bz_merge.specs.Plans.{Merging, viewed_leaf}
use Rattle.bz_merge.specs.declared.phase.MergePhase.{MergePhase}
use Rattle.bz_merge.specs.declared.phase.MergePhase.TheVariants.{Fresh, Word, Again, Beside, Parent, Still, Freeze, FreezeBeside, Guard, Store, Flush, Swap, Done, Restart, NoNeighbour, NoSlot, NoSwap}
use Rattle.bz_merge.proofs.Asking.{own-once, other-once, upper-slot, beside-slot}

swap-ready : LinksMayBeTurned → (r : Merging) (s : Scene) → IsScene s → IsMerging r MERGE_WORDS MERGE_LINES s → IsSwapReady s.past.config r
swap-ready turned r s good f =
    let v = f.frozen.planned.paired.viewed in
    let t : IsTurnable r.upper s = turned s r.upper good v.links.upper_guard v.links.upper_thawed in
    let u : IsTurnable r.lower s = turned s r.lower good v.links.guard v.links.thawed in
    record {
      upper_plain = t.plain;
      lower_plain = u.plain;
      apart = t.apart;
      slot = upper-slot r.upper r.lower (viewed_leaf r) s good v;
      target = no-target (link_entry r.upper (r.slot 0)) (guard_entry r.upper) (node_address s.past.config r.upper.slot + STATUS_AT) f.link_apart f.guard_apart;
    }

here-ready : LinksMayBeTurned → (r : Merging) (phase : MergePhase) (s : Scene) → IsScene s → merge_facts r phase Waiting s → IsReady s.past.config r phase
here-ready turned r (Word i) s good f = (upper-slot r.upper r.lower (viewed_leaf r) s good f.1.1.1.viewed, f.1.1.0)
here-ready turned r (Beside i) s good f = (beside-slot r s good f.1.1.0, f.1.0)
here-ready turned r Still s good f = f.1.other.slot
here-ready turned r Freeze s good f = let o = own-once r s.past f.1.0 in (o.seen.stood.slot, o.seen.plain)
here-ready turned r FreezeBeside s good f = let o = other-once r s.past f.1.0 in (o.seen.stood.slot, o.seen.plain)
here-ready turned r (Store j) s good f = (f.1.1.writing.slots, f.1.0)
here-ready turned r (Flush j) s good f = (f.1.1.writing.slots, f.1.0)
here-ready turned r Swap s good f = (f.1.writing.slots, swap-ready turned r s good f.1)
here-ready turned r Fresh s good f = tt
here-ready turned r Again s good f = tt
here-ready turned r Parent s good f = tt
here-ready turned r Guard s good f = tt
here-ready turned r Done s good f = tt
here-ready turned r Restart s good f = tt
here-ready turned r NoNeighbour s good f = tt
here-ready turned r NoSlot s good f = tt
here-ready turned r NoSwap s good f = tt

pub ready-of : LinksMayBeTurned → (c : Config) (r : Merging) (phase : MergePhase) (s : Scene) → s.past.config ≡ c → IsScene s → merge_facts r phase Waiting s → IsReady c r phase
ready-of turned c r phase s same good f = subst (λ z. IsReady z r phase) same (here-ready turned r phase s good f)
