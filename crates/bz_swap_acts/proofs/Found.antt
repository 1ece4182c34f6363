-- The word that an act tells is the one that stood there.
use Rattle.std.specs.Prelude.{◌≡◌, ℕ, ◌<◌, true, length, slice_index}
use Rattle.std.proofs.Common.{arith, refl, inl, inr}
use Rattle.std.proofs.lemmas.Grind.{common_steps}
use Rattle.bz_word.specs.Kinds.{word, IsKind}
use Rattle.bz_word.proofs.Lemmas.{kinds}
use Rattle.bz_swap_cells.specs.FromPm.After.{after_cas}
use Rattle.bz_swap_cells.specs.Store.{Store, IsStore, IsOutside, SameShape, is_outside, kind_at, store_state}
use Rattle.bz_swap_acts.specs.declared.acted.Act.{Act}
use Rattle.bz_swap_acts.specs.declared.acted.Act.TheVariants.{Load, Cas}
use Rattle.bz_swap_acts.specs.Parts.{IsMade, IsMadeBy}

outside-told : (swaps a : ℕ) → IsOutside swaps a → is_outside swaps a ≡ true
outside-told swaps a (inl below) = grind (arith, common_steps)
outside-told swaps a (inr above) = grind (arith, common_steps)

pub kind-found : (st : Store) (a : ℕ) → IsStore st → IsOutside st.swaps a → word (kind_at st.swaps st.cached a) ≡ slice_index st.cached a
kind-found st a i out = rw (outside-told st.swaps a out) (kinds.word _ (i.cached.kinds a out))

pub kind-in_range : (st : Store) (a : ℕ) → IsStore st → IsOutside st.swaps a → IsKind (kind_at st.swaps st.cached a)
kind-in_range st a i out = rw (outside-told st.swaps a out) (kinds.range _ (i.cached.kinds a out))

pub made-load : (st : Store) (a v : ℕ) → IsStore st → a < length st.cached → v ≡ slice_index st.cached a → IsMade st (Load a v) st
made-load st a v i within found = record {
  rule = λ w. record { found = found; after = refl };
  within = within;
  typed = i;
  shape = record { swaps = refl; size = refl; workers = refl };
}

pub made-cas : (st new : Store) (a old v found : ℕ) → IsStore new → SameShape st new → a < length st.cached → store_state new ≡ after_cas (store_state st) a old v
    → found ≡ slice_index st.cached a → IsMade st (Cas a old v found) new
made-cas st new a old v found i shape within after stood = record {
  rule = λ w. record { found = stood; after = after };
  within = within;
  typed = i;
  shape = shape;
}

-- what whoever made it made is what worker w made
pub made-by : (old new : Store) (act : Act) (w : ℕ) → IsMade old act new → IsMadeBy old w act new
made-by old new act w made = record { rule = made.rule w; within = made.within; typed = made.typed; shape = made.shape }
