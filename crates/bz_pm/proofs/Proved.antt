-- What this crate proves, as lemmas that other crates cite by these names.
use Rattle.bz_pm.proofs.Fences.{ask as ask-holds, fence as fence-holds}
use Rattle.bz_pm.proofs.Lemmas.{compare as compare-holds, cut as cut-holds, evict as evict-holds, store as store-holds}
use Rattle.bz_pm.specs.Changes.{AskAsksOnly, ComparedComparesOnly, CutCutsOnly, EvictedEvictsOnly, FenceFencesOnly, StoredStoresOnly}

-- a store changes the cached word of its address alone
pub store : StoredStoresOnly
store = store-holds

-- a compare-and-swap changes the cached word of its address alone, where that is the expected one
pub compare : ComparedComparesOnly
compare = compare-holds

-- an eviction changes the durable word of its address alone, into the cached one
pub evict : EvictedEvictsOnly
evict = evict-holds

-- a power cut changes the cached words alone, into the durable ones
pub cut : CutCutsOnly
cut = cut-holds

-- an ask changes no word, and adds its line as it is in the caches to what its worker asked for
pub ask : AskAsksOnly
ask = ask-holds

-- a fence changes durable words of the lines that its worker asked for alone, each into the saved one or not at all, and none that dates from then or later
pub fence : FenceFencesOnly
fence = fence-holds
