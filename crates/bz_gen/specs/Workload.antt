-- The script that a seed gives.
use Rattle.std.specs.Prelude.{ℕ, ◌+◌, ◌*◌, ◌%◌, ◌==◌, nat_lt, if◌then◌else◌, List, [], ◌∷◌, ◌++◌}
use Rattle.std.proofs.Common.{zero, suc}
use Rattle.bz_call.specs.declared.calls.Call.{Call}
use Rattle.bz_call.specs.declared.calls.Call.TheVariants.{Insert, Delete, Update, Upsert, Get, Page}
use Rattle.bz_layout.specs.declared.limits.TheConstants.{MAX_NODES, MAX_SWAPS}
use Rattle.bz_script.specs.Draws.{next_state, draw_of}
use Rattle.bz_script.specs.Script.{Job}
use Rattle.bz_script.specs.declared.item.Item.{Item}
use Rattle.bz_script.specs.declared.item.Item.TheVariants.{Queue, Run}
use Rattle.bz_script.specs.declared.item.Plan.TheVariants.{Turns}
use Rattle.bz_gen.specs.Names.{key_named, payload_named}
use Rattle.bz_gen.specs.declared.draws.Draws.{Draws}

-- the state of the generator behind the three draws of a call
unfoldable pub behind : ℕ → ℕ
behind state = next_state (next_state (next_state state))

-- these draws, from the state before them: whose call it is, of which kind, on which key
unfoldable pub draws_from : ℕ → Draws
draws_from state = record {
  worker = draw_of (next_state state);
  kind = draw_of (next_state (next_state state));
  key = draw_of (next_state (next_state (next_state state)));
}

-- the state before the call that comes after so many
unfoldable pub state_after : ℕ → ℕ → ℕ
state_after seed zero = seed
state_after seed (suc done) = behind (state_after seed done)

-- the call of one of the eight kinds: three of them insert
abbrev pub call_of_kind : ℕ → List ℕ → List ℕ → Call
call_of_kind kind key payload =
    if nat_lt kind 3 then Insert key payload else
    if kind == 3 then Delete key else
    if kind == 4 then Update key payload else
    if kind == 5 then Upsert key payload else
    if kind == 6 then Get key else Page key

-- the item of the call with this number, by its draws: a worker from 1 on, one of twice as many keys as there are
-- calls, and a payload that no other call has
unfoldable pub item_drawn : ℕ → ℕ → ℕ → Draws → Item
item_drawn calls workers number draws =
    Queue (1 + draws.worker % workers) (call_of_kind (draws.kind % 8) (key_named (draws.key % (2 * calls))) (payload_named number))

-- the items of the first so many calls, draw by draw from the seed
unfoldable pub items_drawn : ℕ → ℕ → ℕ → ℕ → List Item
items_drawn seed calls workers zero = []
items_drawn seed calls workers (suc done) =
    items_drawn seed calls workers done ++ item_drawn calls workers (suc done) (draws_from (state_after seed done)) ∷ []

-- the script: the greatest memory, the calls, and one run by the draws of the same seed, from its start
abbrev pub workload_of : ℕ → ℕ → ℕ → Job
workload_of seed calls workers = record {
  nodes = MAX_NODES;
  swaps = MAX_SWAPS;
  items = items_drawn seed calls workers calls ++ Run (Turns seed) ∷ [];
}
