-- A reservation is lawful for everybody and changes no content.
use Rattle.std.proofs.Common.{◌≡◌, ℕ, ◌+◌, ◌<◌, true, false, arith, refl, inl, inr}
use Rattle.bz_layout.specs.declared.sizes.TheConstants.{STATUS_AT, META_AT, SHARED_WORDS}
use Rattle.bz_task.specs.FromSwap.SwapMemory.{is_target}
use Rattle.bz_word.specs.Statuses.{status}
use Rattle.bz_task.specs.Instant.{Instant}
use Rattle.bz_task.specs.LeafSwaps.{IsLeafSwap}
use Rattle.bz_task.specs.Requests.{IsTarget}
use Rattle.bz_task.specs.Scene.{Scene, IsScene, here}
use Rattle.bz_task.specs.Swaps.{Change, Stand, SwapsTo}
use Rattle.bz_task.proofs.Proved.{leaf_swaps_are_good}
use Rattle.bz_record.specs.Laws.{SameLeaf, ReservationsAreGood}
use Rattle.bz_record.specs.Leaves.{WasLeafThen}
use Rattle.bz_record.specs.Records.{Fits}
use Rattle.bz_record.specs.Swaps.{entries_of, reservation}
use Rattle.bz_record.specs.declared.new_record.NewRecord.{NewRecord}
use Rattle.bz_record.proofs.Entries.{target-of, each-target}
use Rattle.bz_record.proofs.Reserved.{place, same, count-was, block-was, moves, alike, shown-before}

module _ (s : Scene) (y : Instant) (r : NewRecord) (moment : ℕ) (change : Change) (good : IsScene s) (f : Fits r) (leaf : WasLeafThen r.slot r.status moment s.past) (stand : Stand (entries_of s.past.config (reservation r)) (here s)) (swaps : SwapsTo s.past.config (entries_of s.past.config (reservation r)) (here s) y) where
  now : SameLeaf s.past.config (s.past.at moment) (here s) r.slot
  now = same s y r moment good f leaf stand swaps

  named : (a : ℕ) → is_target (entries_of s.past.config (reservation r)) a ≡ true → IsTarget s a
  named = each-target (IsTarget s) s.past.config (reservation r)
      (inr (inr (record { slot = r.slot; place = STATUS_AT; address = refl; within = omega arith; reached = now.leaf.reached; kind = inl refl })))
      (inr (inr (record {
        slot = r.slot;
        place = META_AT + (status r.status).count;
        address = refl;
        within = place s y r moment good f leaf stand swaps;
        reached = now.leaf.reached;
        kind = inr (inl (record { leaf = (same s y r moment good f leaf stand swaps).leaf.flat; from = omega arith; to = omega (arith, count-was s y r moment good f leaf stand swaps); free = omega (arith, block-was s y r moment good f leaf stand swaps, some) }));
      })))
    where
      some : (status r.status).count + (status r.status).block < SHARED_WORDS
      some = omega (arith, f.room.fits)

  leaf-swap : IsLeafSwap false change (entries_of s.past.config (reservation r)) s r.slot y
  leaf-swap = record {
    swaps = swaps;
    inside = now.leaf.inside;
    slot = leaf.slot;
    leaf = now.leaf.leaf;
    place = target-of s (reservation r) (place s y r moment good f leaf stand swaps);
    targets = named;
    moves = moves s y r moment good f leaf stand swaps;
    whole = (alike s y r moment good f leaf stand swaps).none;
    says = (alike s y r moment good f leaf stand swaps).same;
    shown = λ i l h. inl (shown-before s y r moment good f leaf stand swaps i h);
  }

pub reserving : ReservationsAreGood
reserving s y r moment change good f leaf stand swaps =
    leaf_swaps_are_good false change (entries_of s.past.config (reservation r)) s r.slot y good (leaf-swap s y r moment change good f leaf stand swaps)
