-- What a swap memory leaves outside a recovery time, and how an effect changes it.
use Rattle.std.proofs.Common.{◌≡◌, ◌≢◌, ℕ, refl, subst, sym, ◌∙◌}
use Rattle.bz_swap_cells.specs.Store.{IsOutside}
use Rattle.bz_swap.specs.Held.{IsHeld, HoldsIn}
use Rattle.bz_swap.specs.SwapMemory.{SwapMemory}
use Rattle.bz_swap.specs.declared.phase.Phase.{Phase}
use Rattle.bz_swap.specs.declared.phase.Phase.TheVariants.{Opened, Running, Recovering}
use Rattle.bz_sight.specs.Swapped.{LeavesItsValues, HeldMemoriesLeaveTheirValues, EffectsShowOnTheImage, QuietMomentsChangeNothing}
use Rattle.bz_swap_image.proofs.Proved.{words_are_lawful, words_resolve_to_values}

-- the memory is held
held : (p : Phase) (m : SwapMemory) → HoldsIn p m → p ≢ Recovering → IsHeld m
held Opened m h ne = h
held Running m h ne = h
held Recovering m h ne = absurd (ne refl)

pub leaves-values : HeldMemoriesLeaveTheirValues
leaves-values m w = record {
  values = λ a outside. words_resolve_to_values m.swaps m.durable a outside (h.lawful a outside);
  lawful = λ c a same outside fixed. words_are_lawful c m.swaps m.durable a same outside fixed (h.lawful a outside);
}
  where
    h : IsHeld m
    h = held m.phase m w.holds w.phase

-- an address outside the descriptors of before is outside those of after
still : (old new : SwapMemory) (a : ℕ) → new.swaps ≡ old.swaps → IsOutside old.swaps a → IsOutside new.swaps a
still old new a same outside = subst (λ n. IsOutside n a) (sym same) outside

pub effect-shows : EffectsShowOnTheImage
effect-shows old new s w targets t = record {
  expected = λ k d less. before.values _ (targets k d less) ∙ t.expected k d less;
  value = λ k d less. after.values _ (still old new _ w.swaps (targets k d less)) ∙ t.value k d less;
  others = λ a outside named other. after.values a (still old new a w.swaps outside) ∙ (t.others a named other ∙ sym (before.values a outside));
}
  where
    before : LeavesItsValues old
    before = leaves-values old w.before

    after : LeavesItsValues new
    after = leaves-values new w.after

pub changes-nothing : QuietMomentsChangeNothing
changes-nothing old new w q a outside named =
    (leaves-values new w.after).values a (still old new a w.swaps outside) ∙ (q.values a named ∙ sym ((leaves-values old w.before).values a outside))
