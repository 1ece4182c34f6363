-- What an eviction owes, from what the code knows of the words after it.
use Rattle.std.specs.Prelude.{◌≡◌, ◌≢◌, ◌⊎◌, ℕ}
use Rattle.std.specs.declared.option.Option.{Option}
use Rattle.std.proofs.Common.{sym, subst, ◌∙◌, inl, inr}
use Rattle.bz_swap_cells.specs.Store.{Store}
use Rattle.bz_swap.specs.declared.phase.Phase.{Phase}
use Rattle.bz_swap.specs.declared.phase.Phase.TheVariants.{Opened, Running, Recovering}
use Rattle.bz_swap.specs.Inside.Evicted.{IsEvicted}
use Rattle.bz_swap.specs.Evictions.{IsEviction}
use Rattle.bz_swap.specs.Inside.Parts.{Parts, seen}
use Rattle.bz_swap.specs.Inside.Kept.{IsKept}
use Rattle.bz_swap.proofs.Evicting.{evicted_store, eviction-kept}
use Rattle.bz_swap.proofs.SeenEvictions.{is-eviction}

-- the phases outside a recovery time
pub not-recovering : (phase : Phase) → (phase ≡ Opened) ⊎ (phase ≡ Running) → phase ≢ Recovering
not-recovering phase (inl opened) is = (let bad = sym opened ∙ is in absurd cc)
not-recovering phase (inr running) is = (let bad = sym running ∙ is in absurd cc)

-- the words after an eviction are known
settled : (old new : Store) (a : ℕ) (told : Option ℕ) → IsEvicted old a told new → IsEvicted old a told (evicted_store old a)
settled old new a told h = subst (IsEvicted old a told) h.words h

pub evicted-kept : (p : Parts) (k : IsKept p) (a : ℕ) (told : Option ℕ) (store : Store) → p.phase ≢ Recovering → IsEvicted p.store a told store → IsKept (record p { store = store })
evicted-kept p k a told store phase h = subst (λ st. IsKept (record p { store = st })) (sym h.words) (eviction-kept p k a told phase (settled p.store store a told h))

pub evicted-seen : (p : Parts) (k : IsKept p) (a : ℕ) (told : Option ℕ) (store : Store) → p.phase ≢ Recovering → IsEvicted p.store a told store
    → IsEviction (seen p) a told (seen (record p { store = store }))
evicted-seen p k a told store phase h = subst (λ st. IsEviction (seen p) a told (seen (record p { store = st }))) (sym h.words) (is-eviction p k a told phase (settled p.store store a told h))
