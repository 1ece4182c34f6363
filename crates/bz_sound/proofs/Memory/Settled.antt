-- Directly after a load the durable words decode: the next mark is no Effect, since that comes after a fence or an eviction.
use Rattle.std.proofs.Common.{◌≡◌, ◌<◌, ℕ, List, [], ◌∷◌, length, arith}
use Rattle.std.specs.Prelude.{Some}
use Rattle.bz_call.specs.Map.{Map}
use Rattle.bz_mark.specs.Moments.{at_moment, mark_at, IsInner}
use Rattle.bz_mark.specs.declared.marks.Mark.{Mark}
use Rattle.bz_mark.specs.declared.marks.Mark.TheVariants.{Load, Effect}
use Rattle.bz_sound.specs.Memory.Laws.{LoadsAreSettled}
use Rattle.bz_sound.specs.Memory.Moments.{IsAfterLoad, IsAfterFence}
use Rattle.bz_sound.proofs.Memory.Marks.{each-at}
use Rattle.bz_sound.proofs.Memory.Standing.{MayStand, CallsStand, unbroken-stands}

pub not-both : (w : ℕ) (past : List Mark) → IsAfterLoad w past → IsAfterFence past → ⊥
not-both w [] load flush = load
not-both w (Load v a value ∷ past) load flush = flush
not-both w (mark ∷ past) load flush = load

pub after-fence : (start : Map) (past : List Mark) (moment w n : ℕ) → CallsStand start past → moment < length past → mark_at moment past ≡ Some (Effect w n) → IsAfterFence (at_moment moment past)
after-fence start past moment w n once h is = (each-at (MayStand start) past moment (Effect w n) once h is).0

pub outer-load : (start : Map) (past : List Mark) (w at : ℕ) → CallsStand start past → IsAfterLoad w (at_moment at past) → IsInner at past → ⊥
outer-load start past w at once load (within, (v, n, is)) = not-both w (at_moment at past) load (after-fence start past at v n once (omega arith) is)

pub loads-settled : LoadsAreSettled
loads-settled c log w at sound h load = sound.durable at h (outer-load _ log.past w at (unbroken-stands c log sound).once load)
