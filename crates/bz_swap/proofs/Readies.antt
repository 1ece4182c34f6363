-- What the act at a worker's place needs is there.
use Rattle.std.specs.Prelude.{◌≡◌, ℕ, ◌<◌, ◌≤◌, true, [], length, get_or, slice_index}
use Rattle.std.proofs.Common.{arith, refl, sym, ◌∙◌, inl, inr}
use Rattle.std.proofs.lemmas.Bool.{cases_lt, true≢false}
use Rattle.bz_swap_machine.specs.declared.place.Place.{Place}
use Rattle.bz_swap_machine.specs.declared.place.Place.TheVariants as place
use Rattle.bz_swap_machine.specs.declared.place.PrepareStep.{PrepareStep}
use Rattle.bz_swap_machine.specs.declared.place.PrepareStep.TheVariants.{WriteWord, WriteStatus, AskHead, AskTail, FenceDescriptor}
use Rattle.bz_swap_machine.specs.declared.place.HelpStep.{HelpStep}
use Rattle.bz_swap_machine.specs.declared.place.HelpStep.TheVariants.{Look, InstallTag, LookUnderTag, InstallPointer, RemoveTag, AskDirty, FenceDirty, ClearDirty, AskTarget, FenceTargets, Decide, AskStatus, FenceStatus, ClearStatus, PutFinal, AskFinal, FenceFinal, ClearFinal, SweepTag}
use Rattle.bz_swap_machine.specs.Agrees.{agree-spell}
use Rattle.bz_swap_machine.specs.Machine.{entries_in}
use Rattle.bz_swap_machine.specs.Facts.{Fact}
use Rattle.bz_swap_machine.specs.Knows.{AtPlace, Prepared, Spell, Owns}
use Rattle.bz_swap_machine.specs.Ranges.{StepInRange, PlaceInRange}
use Rattle.bz_swap_machine.specs.Workers.{local_of}
use Rattle.bz_swap_cells.specs.Store.{MayTag, MayAsk, typed}
use Rattle.bz_swap_acts.specs.Ready.{IsUsable, IsStepReady, IsPrepareReady, IsReadyAt, IsReady}
use Rattle.bz_swap.specs.Inside.Parts.{Parts, worker_at}
use Rattle.bz_swap.specs.Inside.Kept.{IsRunning, PlaceLies, lines_preparing, lines_helping, lines_at}
use Rattle.bz_swap.proofs.Stepped.{MayStep}

-- a published swap is begun
pub published-begun : (p : Parts) (r : IsRunning p) (s : ℕ) → r.beside.published s ≡ true → s < p.store.taken
published-begun p r s is = elim (cases_lt s p.store.taken) [
  | inl below ↦ below
  | inr past ↦ absurd (true≢false (sym is ∙ (r.state.sound.not_begun s past).1))
]

pub begun-descriptor : (p : Parts) (r : IsRunning p) (s : ℕ) → s < p.store.taken → s < p.store.swaps
begun-descriptor p r s below = omega (arith, below, r.words.has_room.taken)

-- an entry of the worker's list can be used
usable : (p : Parts) (r : IsRunning p) (s i : ℕ) (list : ℕ → ℕ) → Spell (r.entries s) list → i < (r.entries s).count → IsUsable p.store (entries_in list) i
usable p r s i list spell below =
    let agree = agree-spell (r.entries s) list spell in
    let values = r.range.values s in
    record {
      entry = rw agree.count below;
      count = rw agree.count values.count;
      target = rw (agree.target i below) (r.lies s i below);
      expected = rw (agree.expected i below) (values.expected i below);
      value = rw (agree.value i below) (values.value i below);
    }

may-tag : (p : Parts) (r : IsRunning p) (w : ℕ) → MayStep p w → length p.workers ≡ length p.store.next_tags → MayTag p.store w
may-tag p r w may same = record { worker = omega (arith, may.within, same); range = (omega (arith, may.some), omega (arith, may.within, may.few), omega (arith, r.tags w, may.steps)) }

-- a worker may ask where it has asked for a few lines, and fence
may-ask : (p : Parts) (r : IsRunning p) (w n : ℕ) → MayStep p w → length (get_or p.store.past.asks w []) ≤ n → n < 64 → MayAsk p.store w
may-ask p r w n may few room = record { worker = omega (arith, may.within, may.numbered); room = omega (arith, few, room); counted = may.counted }

may-fence : (p : Parts) (w : ℕ) → MayStep p w → w < length p.store.next_tags
may-fence p w may = omega (arith, may.within, may.numbered)

step-ready : (p : Parts) (r : IsRunning p) (w s : ℕ) (list : ℕ → ℕ) (step : HelpStep) → MayStep p w → length p.workers ≡ length p.store.next_tags
    → Spell (r.entries s) list → Fact r.entries (typed p.store r.beside) w s step → StepInRange step → length (get_or p.store.past.asks w []) ≤ lines_helping step → IsStepReady p.store w (entries_in list) step
step-ready p r w s list Look may same spell f k few = tt
step-ready p r w s list (InstallTag i) may same spell f k few = (usable p r s i list spell f.0, may-tag p r w may same)
step-ready p r w s list (LookUnderTag i v q) may same spell f k few = tt
step-ready p r w s list (InstallPointer i v q) may same spell f k few = (usable p r s i list spell f.0, k)
step-ready p r w s list (RemoveTag i v q) may same spell f k few = (usable p r s i list spell f, k)
step-ready p r w s list (AskDirty i v) may same spell f k few = (usable p r s i list spell f.0, may-ask p r w 0 may few (omega arith))
step-ready p r w s list (FenceDirty i v) may same spell f k few = may-fence p w may
step-ready p r w s list (ClearDirty i v) may same spell f k few = (usable p r s i list spell f.0, k)
step-ready p r w s list (AskTarget i) may same spell f k few = (usable p r s i list spell f.0, may-ask p r w i may few (let values = r.range.values s in omega (arith, f.0, values.count)))
step-ready p r w s list FenceTargets may same spell f k few = may-fence p w may
step-ready p r w s list (Decide d) may same spell f k few = tt
step-ready p r w s list (AskStatus d) may same spell f k few = may-ask p r w 0 may few (omega arith)
step-ready p r w s list (FenceStatus d) may same spell f k few = may-fence p w may
step-ready p r w s list (ClearStatus d) may same spell f k few = tt
step-ready p r w s list (PutFinal i d) may same spell f k few = usable p r s i list spell f.0
step-ready p r w s list (AskFinal i d) may same spell f k few = (usable p r s i list spell f.0, may-ask p r w 0 may few (omega arith))
step-ready p r w s list (FenceFinal i d) may same spell f k few = may-fence p w may
step-ready p r w s list (ClearFinal i d) may same spell f k few = usable p r s i list spell f.0
step-ready p r w s list (SweepTag i d v q) may same spell f k few = (usable p r s i list spell f.0, k)

prepare-ready : (p : Parts) (r : IsRunning p) (w s : ℕ) (step : PrepareStep) → MayStep p w → Prepared r.entries (typed p.store r.beside) w s step → length (get_or p.store.past.asks w []) ≤ lines_preparing step → IsPrepareReady p.store w step
prepare-ready p r w s (WriteWord k) may f few = omega (arith, f.0, (r.range.values s).count)
prepare-ready p r w s WriteStatus may f few = tt
prepare-ready p r w s AskHead may f few = may-ask p r w 0 may few (omega arith)
prepare-ready p r w s AskTail may f few = may-ask p r w 1 may few (omega arith)
prepare-ready p r w s FenceDescriptor may f few = may-fence p w may

pub ready-at : (p : Parts) (r : IsRunning p) (w : ℕ) → MayStep p w → length p.workers ≡ length p.store.next_tags
    → (x : Place) → x ≡ (worker_at p w).place → AtPlace r.entries (typed p.store r.beside) w (local_of (worker_at p w)) x → PlaceInRange x → PlaceLies p.store x → length (get_or p.store.past.asks w []) ≤ lines_at x → IsReadyAt p.store (worker_at p w) w x
ready-at p r w may same place.Idle is at k lies few = absurd (may.busy (sym is))
ready-at p r w may same (place.Prepare step) is at k lies few =
    let owns : Owns (typed p.store r.beside) w (worker_at p w).operation = (r.state.knows w).owns in
    let mine = rw at.0 at owns in
    (begun-descriptor p r (worker_at p w).current mine.1, prepare-ready p r w (worker_at p w).current step may at.3 few)
ready-at p r w may same (place.Learn j) is at k lies few =
    let s : ℕ = (worker_at p w).current in
    let most = (r.range.values s).count in (
      begun-descriptor p r s (published-begun p r s at.0),
      record {
        number = omega (arith, at.2, most);
        known = λ some. (let first = at.3 0 some (omega arith) in omega (arith, first, most));
        found = (let first = r.state.sound.words s 0 at.0 (omega arith) in omega (arith, first, most));
      },
    )
ready-at p r w may same (place.Help step) is at k lies few = (
  begun-descriptor p r (worker_at p w).current (published-begun p r (worker_at p w).current at.0),
  step-ready p r w (worker_at p w).current (slice_index (worker_at p w).list.words) step may same at.2 at.3 k few,
)
ready-at p r w may same (place.ReadWord a) is at k lies few = lies
ready-at p r w may same (place.AskRead a v) is at k lies few = (lies, may-ask p r w 0 may few (omega arith))
ready-at p r w may same (place.FenceRead a v) is at k lies few = may-fence p w may
ready-at p r w may same (place.ClearRead a v) is at k lies few = (lies, k)
ready-at p r w may same (place.LoadWord a) is at k lies few = absurd at
ready-at p r w may same (place.StoreWord a v) is at k lies few = (lies, k)
ready-at p r w may same (place.AskLine line) is at k lies few = (lies, may-ask p r w 0 may few (omega arith))
ready-at p r w may same (place.FenceLine line) is at k lies few = may-fence p w may

pub ready : (p : Parts) (r : IsRunning p) (w : ℕ) → MayStep p w → length p.workers ≡ length p.store.next_tags → IsReady p.store (worker_at p w) w
ready p r w may same = ready-at p r w may same (worker_at p w).place refl (r.state.knows w).place (r.range.places w) (r.workers w).place (r.asked w).few
