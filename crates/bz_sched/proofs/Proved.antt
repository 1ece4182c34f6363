-- What this crate proves, as lemmas that other crates cite by these names.
use Rattle.bz_sched.proofs.AboveLemmas.{calls-above-end}
use Rattle.bz_sched.proofs.ApartLemmas.{calls-go-apart}
use Rattle.bz_sched.proofs.IdleRuns.{alone-ends-idle, turns-end-idle}
use Rattle.bz_sched.proofs.TurnAdds.{words-are-kept}
use Rattle.bz_sched.specs.UndisturbedLaws.{CallsAboveEnd, CallsGoApart}
use Rattle.bz_sched.specs.TurnLaws.{AloneEndsIdle, TurnsEndIdle, WordsAreKept}

-- a turn word adds acts of its worker alone, at most as many as it says, and fewer only where no call of that worker is then open or waits; and no eviction
pub words_are_kept : WordsAreKept
words_are_kept = words-are-kept

-- after `run alone` no call of the workers 1 to 64 is open or waits
pub alone_ends_idle : AloneEndsIdle
alone_ends_idle = alone-ends-idle

-- after `run turns` no call of the workers 1 to 64 is open or waits
pub turns_end_idle : TurnsEndIdle
turns_end_idle = turns-end-idle

-- where each run goes one worker after the other, and no cut is armed for a run or a power on, each call that stands above a run has ended
pub calls_above_end : CallsAboveEnd
calls_above_end = calls-above-end

-- where the power comes on at most at first besides, no call has begun while another was open
pub calls_go_apart : CallsGoApart
calls_go_apart = calls-go-apart
