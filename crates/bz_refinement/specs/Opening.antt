-- The story of a world that opens over fresh memory: nothing has happened, and nobody owns anything.
use Rattle.std.specs.Prelude.{false, []}
use Rattle.bz_layout.specs.Fresh.{fresh_words}
use Rattle.bz_layout.specs.declared.config.Config.{Config}
use Rattle.bz_mark.specs.Log.{Log, Limits}
use Rattle.bz_sight.specs.Opening.{IsFresh, fresh_instant}
use Rattle.bz_swap.specs.SwapMemory.{SwapMemory}
use Rattle.bz_refinement.specs.Living.{IsLiving}
use Rattle.bz_refinement.specs.Story.{Story}

-- a journal without marks over fresh memory
abbrev pub fresh_log : Config → Limits → Log
fresh_log c limits = record { start = fresh_words c; past = []; pages = []; limits = limits }

-- the memory as it was opened
abbrev pub fresh_story : Config → Story
fresh_story c = record { from = 0; at = λ moment. fresh_instant c; reserved = λ w a. false; took = λ w k. false; filled = λ w k. false }

abbrev pub FreshStoriesLive : Type 0
FreshStoriesLive = (c : Config) (m : SwapMemory) (limits : Limits) → IsFresh c m → IsLiving c m (fresh_log c limits) (fresh_story c)
