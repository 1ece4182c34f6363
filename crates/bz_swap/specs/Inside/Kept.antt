-- What a swap memory keeps true of its parts: outside a recovery time they are the machine's state.
use Rattle.std.specs.Prelude.{◌≡◌, ◌≢◌, ℕ, ◌*◌, ◌/◌, ◌<◌, ◌≤◌, false, List, [], length, get_or, slice_index, None}
use Rattle.bz_layout.specs.Addresses.{swap_address}
use Rattle.bz_swap_machine.specs.declared.place.Place.{Place}
use Rattle.bz_swap_machine.specs.declared.place.Place.TheVariants as place
use Rattle.bz_swap_machine.specs.declared.place.PrepareStep.{PrepareStep}
use Rattle.bz_swap_machine.specs.declared.place.PrepareStep.TheVariants.{AskTail, FenceDescriptor}
use Rattle.bz_swap_machine.specs.declared.place.HelpStep.{HelpStep}
use Rattle.bz_swap_machine.specs.declared.place.HelpStep.TheVariants.{AskTarget, FenceTargets, FenceDirty, FenceStatus, FenceFinal}
use Rattle.bz_swap_machine.specs.declared.worker.Operation.{Operation}
use Rattle.bz_swap_machine.specs.declared.worker.Operation.TheVariants as operation
use Rattle.bz_swap_machine.specs.declared.worker.Worker.{Worker}
use Rattle.bz_swap_machine.specs.Machine.{Entries}
use Rattle.bz_swap_machine.specs.Allowed.{for_worker, sum_below, counted, is_busy}
use Rattle.bz_swap_machine.specs.Budget.{budget, left_at}
use Rattle.bz_swap_machine.specs.Budgets.{IsBounded}
use Rattle.bz_swap_machine.specs.Sizes.{most_workers}
use Rattle.bz_swap_machine.specs.State.{State, IsState}
use Rattle.bz_swap_machine.specs.Lawful.{AreInRange}
use Rattle.bz_swap_machine.specs.Workers.{local_of}
use Rattle.bz_swap_cells.specs.FromPm.State.{ask_for}
use Rattle.bz_swap_cells.specs.Store.{Store, Past, Beside, HasRoom, IsStore, typed}
use Rattle.bz_swap_acts.specs.Ready.{LiesOutside}
use Rattle.bz_swap.specs.declared.allowance.Allowance.{Allowance}
use Rattle.bz_swap.specs.declared.phase.Phase.{Phase}
use Rattle.bz_swap.specs.declared.phase.Phase.TheVariants.{Opened, Running, Recovering}
use Rattle.bz_swap.specs.SwapMemory.{is_among}
use Rattle.bz_swap.specs.Inside.Parts.{Parts, idle_worker, worker_at, listed, entry_list}

-- the machine's state that the parts spell, with what it tells of the past
abbrev pub state_of : Parts → (ℕ → Entries) → Beside → State
state_of p e b = record { entries = e; memory = typed p.store b; local = λ w. local_of (worker_at p w) }

-- what all workers allow, where they stand at these places
abbrev pub allowed_at : List Worker → ℕ
allowed_at workers = sum_below (λ v. counted (is_busy (get_or workers v idle_worker).place) for_worker) (length workers)

-- what is left to the worker that started or stepped last is enough
pub record IsEnough (x : State) (a : Allowance) (n : ℕ) : Type 0 where
  pub budget : a.runner < n → budget x a.runner n ≤ a.left

-- a swap without an answer is the operation of its owner
pub record IsOwned (p : Parts) (b : Beside) (s : ℕ) : Type 0 where
  pub owner : b.owner s < length p.workers
  pub operation : (worker_at p (b.owner s)).operation ≡ operation.Swapping s

-- and while it is not published, its owner writes its descriptor
pub record IsPrepared (p : Parts) (b : Beside) (s : ℕ) : Type 0 where
  pub step : PrepareStep
  pub place : (worker_at p (b.owner s)).place ≡ place.Prepare step
  pub current : (worker_at p (b.owner s)).current ≡ s

-- there is an operation to come back to
abbrev pub IsBusy : Operation → Type 0
IsBusy operation.Nothing = ⊥
IsBusy (operation.Reading a) = Unit {0}
IsBusy (operation.Swapping s) = Unit {0}

-- a worker comes back to nothing where its place says so, and to something elsewhere
abbrev pub RestsAt : Place → Operation → Type 0
RestsAt place.Idle o = o ≡ operation.Nothing
RestsAt (place.StoreWord a v) o = o ≡ operation.Nothing
RestsAt (place.AskLine line) o = o ≡ operation.Nothing
RestsAt (place.FenceLine line) o = o ≡ operation.Nothing
RestsAt (place.LoadWord a) o = o ≡ operation.Nothing
RestsAt other o = IsBusy o

-- the addresses that an operation and a place name lie outside the descriptors
abbrev pub OperationLies : Store → Operation → Type 0
OperationLies st operation.Nothing = Unit {0}
OperationLies st (operation.Reading a) = LiesOutside st a
OperationLies st (operation.Swapping s) = Unit {0}

abbrev pub PlaceLies : Store → Place → Type 0
PlaceLies st (place.ReadWord a) = LiesOutside st a
PlaceLies st (place.AskRead a v) = LiesOutside st a
PlaceLies st (place.FenceRead a v) = LiesOutside st a
PlaceLies st (place.ClearRead a v) = LiesOutside st a
PlaceLies st (place.StoreWord a v) = LiesOutside st a
PlaceLies st (place.AskLine line) = LiesOutside st (line * 8)
PlaceLies st (place.FenceLine line) = LiesOutside st (line * 8)
PlaceLies st other = Unit {0}

-- what is known of a worker besides the machine's facts
pub record IsWorker (st : Store) (l : Worker) : Type 0 where
  pub rests : RestsAt l.place l.operation
  pub operation : OperationLies st l.operation
  pub place : PlaceLies st l.place

-- how many lines a worker has asked for at its place, since its last fence: at most so many
abbrev pub lines_preparing : PrepareStep → ℕ
lines_preparing AskTail = 1
lines_preparing FenceDescriptor = 2
lines_preparing other = 0

abbrev pub lines_helping : HelpStep → ℕ
lines_helping (FenceDirty i v) = 1
lines_helping (AskTarget i) = i
lines_helping FenceTargets = 4
lines_helping (FenceStatus d) = 1
lines_helping (FenceFinal i d) = 1
lines_helping other = 0

abbrev pub lines_at : Place → ℕ
lines_at (place.Prepare step) = lines_preparing step
lines_at (place.Help step) = lines_helping step
lines_at (place.FenceRead a v) = 1
lines_at (place.FenceLine line) = 1
lines_at other = 0

-- a line that a worker has asked for
abbrev pub HasAsked : Past → ℕ → ℕ → Type 0
HasAsked past w line = ask_for (get_or past.asks w []) line ≢ None

-- where it has asked for a verdict on swap s, it has asked for no line but that of the status
abbrev pub HelpAsks : Past → ℕ → ℕ → HelpStep → Type 0
HelpAsks past w s (FenceStatus d) = (line : ℕ) → HasAsked past w line → line ≡ swap_address s / 8
HelpAsks past w s other = Unit {0}

abbrev pub PlaceAsks : Past → ℕ → ℕ → Place → Type 0
PlaceAsks past w s (place.Help step) = HelpAsks past w s step
PlaceAsks past w s other = Unit {0}

-- what worker w has asked for
pub record AsksFew (past : Past) (w : ℕ) (l : Worker) : Type 0 where
  pub few : length (get_or past.asks w []) ≤ lines_at l.place
  pub alone : PlaceAsks past w l.current l.place

pub record IsRunning (p : Parts) : Type 0 where
  pub entries : ℕ → Entries
  pub beside : Beside
  pub words : IsStore p.store
  pub state : IsState (state_of p entries beside)
  pub range : AreInRange (state_of p entries beside)
  pub bounded : IsBounded (state_of p entries beside) (length p.workers)
  pub enough : IsEnough (state_of p entries beside) p.allowance (length p.workers)
  pub lies : (s i : ℕ) → i < (entries s).count → LiesOutside p.store ((entries s).target i)
  pub named : (a : ℕ) → beside.named a ≡ is_among (listed (λ s. entry_list (entries s)) 0 p.store.taken) a
  pub owned : (s : ℕ) → s < p.store.taken → beside.answer s ≡ None → IsOwned p beside s
  pub prepared : (s : ℕ) → s < p.store.taken → beside.published s ≡ false → IsPrepared p beside s
  pub workers : (w : ℕ) → IsWorker p.store (worker_at p w)
  pub tags : (w : ℕ) → slice_index p.store.next_tags w ≤ p.steps
  pub recoverer : (worker_at p 0).place ≡ place.Idle
  pub asked : (w : ℕ) → AsksFew p.store.past w (worker_at p w)

-- where worker 0 can be in a recovery time
abbrev pub RecoversAt : Store → Place → Type 0
RecoversAt st place.Idle = Unit {0}
RecoversAt st (place.LoadWord a) = a < length st.cached
RecoversAt st (place.StoreWord a v) = a < length st.cached
RecoversAt st (place.AskLine line) = line * 8 < length st.cached
RecoversAt st (place.FenceLine line) = Unit {0}
RecoversAt st other = ⊥

pub record IsRecovering (p : Parts) : Type 0 where
  pub recoverer : RecoversAt p.store (worker_at p 0).place
  pub others : (w : ℕ) → 0 < w → (worker_at p w).place ≡ place.Idle
  pub rest : (w : ℕ) → (worker_at p w).operation ≡ operation.Nothing
  pub enough : left_at (worker_at p 0).place ≤ p.allowance.left
  -- each worker has asked for as many lines as its place says, at most
  pub asked : (w : ℕ) → length (get_or p.store.past.asks w []) ≤ lines_at (worker_at p w).place

-- nothing was started yet
pub record IsUntouched (p : Parts) : Type 0 where
  pub running : IsRunning p
  pub idle : (w : ℕ) → (worker_at p w).place ≡ place.Idle
  pub taken : p.store.taken ≡ 0

abbrev pub KeptIn : Phase → Parts → Type 0
KeptIn Opened p = IsUntouched p
KeptIn Running p = IsRunning p
KeptIn Recovering p = IsRecovering p

pub record IsKept (p : Parts) : Type 0 where
  pub room : HasRoom p.store
  pub swaps : 0 < p.store.swaps
  pub workers : length p.workers ≡ length p.store.next_tags
  pub few : length p.workers ≤ most_workers
  pub some : 0 < length p.workers
  pub allowed : p.allowance.all ≡ allowed_at p.workers
  pub counted : p.store.past.count ≤ p.steps
  pub kept : KeptIn p.phase p
