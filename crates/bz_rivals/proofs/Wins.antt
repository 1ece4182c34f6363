-- Runs of a worker over a swap whose expected values stand: it is answered with true.
use Rattle.std.specs.Prelude.{◌≡◌, ◌≢◌, ℕ, ◌+◌, ◌<◌, false, List, [], ◌∷◌, ◌++◌, length, get_or}
use Rattle.std.proofs.Common.{arith, ap, sym, subst, ◌∙◌}
use Rattle.std.proofs.lemmas.List.{get_or-set_same, get_or_push}
use Rattle.std.proofs.lemmas.List.Elements.{All-same}
use Rattle.bz_word.specs.declared.entry.Entry.{Entry}
use Rattle.bz_swap_machine.specs.declared.done.Done.{Done}
use Rattle.bz_swap_machine.specs.declared.done.Done.TheVariants.{Busy}
use Rattle.bz_swap.specs.declared.phase.Phase.TheVariants.{Recovering}
use Rattle.bz_swap.specs.SoloRuns.{Turn, Start, Begin, Step, Evict, HasTurned, IsSoloRun}
use Rattle.bz_swap.specs.Starts.{swapping}
use Rattle.bz_swap.specs.Steps.{IsStep, doing_after}
use Rattle.bz_swap.specs.SwapMemory.{SwapMemory, Doing, Swapping, Working, idle, value_at, doing_of}
use Rattle.bz_rivals.specs.Notes.{AreNoted}
use Rattle.bz_rivals.specs.Runs.{foreign_of, foreign_in, GoesOn, AllGoOn}
use Rattle.bz_rivals.specs.Wins.{Stand, GoesWell, OwnSwapsWin, WholeSwapsWin}
use Rattle.bz_rivals.proofs.Expected.{expected-stand}
use Rattle.bz_rivals.proofs.Runs.{working-step, starts-working, step-works, eviction-works}
use Rattle.bz_rivals.proofs.Stands.{unnoted, evicted, answered, well-after, well-evicted}

-- what goes on, turn by turn
record IsGoing (m : SwapMemory) (w s : ℕ) : Type 0 where
  pub works : m.phase ≢ Recovering
  pub mine : doing_of m w ≡ Swapping s
  pub well : GoesWell m s

busy-still : (d : Doing) (done : Done) → done ≡ Busy → doing_after d done ≡ d
busy-still d done is = ap (λ (k : Done). doing_after d k) is

turned : (w s : ℕ) (old new : SwapMemory) (turn : Turn) → IsGoing old w s → HasTurned w old turn new → GoesOn turn → foreign_of old w turn ≡ 0 → IsGoing new w s
turned w s old new (Start doing) going is on none = absurd on
turned w s old new (Begin entries) going is on none = absurd on
turned w s old new (Step made done told) going is on none =
    let step : IsStep old w made done told new = working-step old new w made done told going.works is in
    record {
      works = step-works old new w made done told going.works step;
      mine = step.one.doing ∙ busy-still (doing_of old w) done on ∙ going.mine;
      well = well-after old new w made done told s step going.mine none going.well;
    }
turned w s old new (Evict a told) going h on none = record {
  works = eviction-works old new a told going.works h;
  mine = ap (λ (m : SwapMemory). doing_of m w) h.is ∙ going.mine;
  well = well-evicted old new w a told s going.works h going.mine none going.well;
}

no-first : (f fs : ℕ) → f + fs ≡ 0 → f ≡ 0
no-first f fs none = omega (arith, none)

no-rest : (f fs : ℕ) → f + fs ≡ 0 → fs ≡ 0
no-rest f fs none = omega (arith, none)

going-run : (w s : ℕ) (old new : SwapMemory) (turns : List Turn) → IsGoing old w s → (run : IsSoloRun w old turns new) → AllGoOn turns → foreign_in w old new turns run ≡ 0 → IsGoing new w s
going-run w s old new [] going is on none = subst (λ (m : SwapMemory). IsGoing m w s) (sym is) going
going-run w s old new (turn ∷ turns) going (next, (first, rest)) on none =
    going-run w s next new turns
    (turned w s old next turn going first on.0 (no-first (foreign_of old w turn) (foreign_in w next new turns rest) none))
    rest on.1 (no-rest (foreign_of old w turn) (foreign_in w next new turns rest) none)

well-run : (w s : ℕ) (old new : SwapMemory) (turns : List Turn) → old.phase ≢ Recovering → doing_of old w ≡ Swapping s → GoesWell old s → (run : IsSoloRun w old turns new) → AllGoOn turns
    → foreign_in w old new turns run ≡ 0 → (doing_of new w ≡ Swapping s) × GoesWell new s
well-run w s old new turns works mine well run on none =
    let going : IsGoing new w s = going-run w s old new turns (record { works = works; mine = mine; well = well }) run on none in
    (going.mine, going.well)

pub own-swaps-win : OwnSwapsWin
own-swaps-win = record {
  unnoted = unnoted;
  evicted = evicted;
  answer = answered;
  step = well-after;
  eviction = well-evicted;
  run = well-run;
}

-- a swap that begins where its expected values stand
begins-well : (m : SwapMemory) (w : ℕ) (entries : List Entry) → AreNoted m → Stand m entries → GoesWell (swapping m w entries) m.taken
begins-well m w entries noted stand = record {
  unnoted = noted.missed m.taken (omega arith);
  stands = λ without. All-same (λ (e : Entry). value_at m e.target ≡ e.expected) (get_or (m.begun ++ entries ∷ []) m.taken []) entries (get_or_push m.begun entries [] m.taken noted.begun) stand;
}

begins-own : (m : SwapMemory) (w : ℕ) (entries : List Entry) → w < length m.workers → doing_of (swapping m w entries) w ≡ Swapping m.taken
begins-own m w entries within = ap (λ (u : Working). u.doing) (get_or-set_same m.workers w (record { doing = Swapping m.taken; flush_next = false }) idle within)

pub whole-swaps-win : WholeSwapsWin
whole-swaps-win w m mid new entries turns made told won held noted may expected run on none step =
    let going : IsGoing mid w m.taken = going-run w m.taken (swapping m w entries) mid turns
    (record { works = starts-working w may.work.some; mine = begins-own m w entries may.work.within; well = begins-well m w entries noted (expected-stand m w entries held may expected) }) run on none in
    answered mid new w made told m.taken won step going.mine going.well
