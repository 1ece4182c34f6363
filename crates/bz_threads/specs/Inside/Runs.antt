-- How the run of the calls that wait ends, on an index.
use Rattle.std.specs.Prelude.{◌≡◌, ℕ, List, [], Option, Some, None}
use Rattle.bz_call.specs.declared.calls.Call.{Call}
use Rattle.bz_index.specs.Passes.{seen_by}
use Rattle.bz_index.specs.declared.index.Index.{Index}
use Rattle.bz_index.specs.declared.index.IndexPass.{IndexPass}
use Rattle.bz_index.specs.declared.shared.IndexEntry.{IndexEntry}
use Rattle.bz_threads.specs.Inside.Batches.{IsJoined}
use Rattle.bz_threads.specs.declared.running.ThreadsEnd.{ThreadsEnd}
use Rattle.bz_threads.specs.declared.running.ThreadsEnd.TheVariants.{Finished, Limit, Memory}
use Rattle.bz_index.specs.FromWorld.LimitKind.{LimitKind}

-- by the lowest worker that met a limit
abbrev pub end_of : Option (ℕ × LimitKind) → ThreadsEnd
end_of None = Finished
end_of (Some (w, which)) = Limit which

-- all batches are joined, or no call was begun
abbrev pub HasRunOn : Index → List (ℕ × Call) → List IndexEntry → IndexPass → ThreadsEnd → Type 0
HasRunOn index waiting first p Finished = IsJoined index waiting first p [] None
HasRunOn index waiting first p (Limit which) = (w : ℕ) × IsJoined index waiting first p [] (Some (w, which))
HasRunOn index waiting first p Memory = seen_by p ≡ first
