-- A memory keeps its room.
use Rattle.std.specs.Prelude.{false, ℕ, ◌*◌, ◌^◌, ◌<◌, [], length}
use Rattle.std.proofs.Common.{arith, refl, sym, ◌∙◌}
use Rattle.std.proofs.lemmas.List.{length-set, length-replicate}
use Rattle.bz_pm.specs.Acts.{stored}
use Rattle.bz_pm.specs.After.{after_ask, after_fence, after_eviction, after_power_cut}
use Rattle.bz_pm.proofs.Dates.{state_cached, state_asked, state_evicted, state_cut}
use Rattle.bz_pm.proofs.Lemmas.{store, evict, cut}
use Rattle.bz_pm.proofs.Fences.{fence}
use Rattle.bz_swap_cells.specs.Store.{Store, HasRoom, MayAsk, store_words, store_state, with_words, with_state, renewed_store}
use Rattle.bz_swap_cells.proofs.Stores.{room_of}

pub room-store : (st : Store) (a v : ℕ) → HasRoom st → a < length st.cached → v < 2 ^ 64 → HasRoom (with_words st (stored (store_words st) a v))
room-store st a v h within small =
    let change = store (store_words st) a v h.memory within small in
    room_of st _ change.stays (state_cached (store_state st) _ h.state change.stays.cached) refl h

-- a worker of the tables is one of the simulated memory
asker : (st : Store) (w : ℕ) → HasRoom st → w < length st.next_tags → w < length st.past.asks
asker st w h lt = omega (arith, h.workers, lt)

pub room-ask : (st : Store) (w line : ℕ) → HasRoom st → MayAsk st w → line * 8 < length st.cached → HasRoom (with_state st (after_ask (store_state st) w line))
room-ask st w line h may within =
    room_of st (after_ask (store_state st) w line) (record { cached = refl; durable = refl; memory = h.memory; fit = λ f. f })
    (state_asked (store_state st) w line h.state h.fit may.counted (asker st w h may.worker) within) (length-set st.past.asks w _) h

pub room-fence : (st : Store) (w : ℕ) → HasRoom st → w < length st.next_tags → HasRoom (with_state st (after_fence (store_state st) w))
room-fence st w h worker =
    let f = fence (store_state st) w h.state (asker st w h worker) in
    room_of st (after_fence (store_state st) w) f.stays f.state (length-set st.past.asks w []) h

pub room-evict : (st : Store) (a : ℕ) → HasRoom st → a < length st.cached → HasRoom (with_state st (after_eviction (store_state st) a))
room-evict st a h within = room_of st (after_eviction (store_state st) a) (evict (store_words st) a h.memory within).stays (state_evicted (store_state st) a h.state within) refl h

pub room-cut : (st : Store) → HasRoom st → HasRoom (with_state st (after_power_cut (store_state st)))
room-cut st h = room_of st (after_power_cut (store_state st)) (cut (store_words st) h.memory).stays (state_cut (store_state st) h.state) (length-replicate (length st.past.asks) []) h

pub room-renew : (st : Store) → HasRoom st → HasRoom (renewed_store st)
room-renew st h = record {
  memory = h.memory;
  state = h.state;
  fit = h.fit;
  workers = h.workers ∙ sym (length-replicate (length st.next_tags) 0);
  room = h.room;
  numbered = h.numbered;
  noted = length-replicate (length st.missed) false ∙ h.noted;
  taken = omega arith;
}
