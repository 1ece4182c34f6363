-- A settled word is the same in the caches and in the memory itself.
use Rattle.std.specs.Prelude.{◌==◌, ◌&&◌, []}
use Rattle.std.proofs.Common.{◌≡◌, ℕ, true, slice_index, ap, ◌∙◌}
use Rattle.bz_swap_cells.specs.Store.{Past, is_settled, all_save}
use Rattle.bz_swap_cells.proofs.SettledWords.{settled-same as settled-words}
use Rattle.bz_swap.specs.SwapMemory.{SwapMemory, is_settled_at}

pub settled-same : (m : SwapMemory) (a : ℕ) → is_settled_at m a ≡ true → slice_index m.cached a ≡ slice_index m.durable a
settled-same m a settled = settled-words m.cached m.durable (record { cached = m.cached; durable = m.durable; past = m.past; swaps = m.swaps; next_tags = []; missed = m.missed; taken = m.taken }) a settled

-- where both words stay, and what was asked for, it is settled as it was
pub settled-alike : (old new : SwapMemory) (a : ℕ) → new.past ≡ old.past → slice_index new.cached a ≡ slice_index old.cached a → slice_index new.durable a ≡ slice_index old.durable a → is_settled_at new a ≡ is_settled_at old a
settled-alike old new a past cached durable =
    ap (λ (p : Past). is_settled new.cached new.durable p a) past
    ∙ (λ i. (cached i == durable i) && all_save (cached i) (slice_index old.past.since a) a old.past.asks)
