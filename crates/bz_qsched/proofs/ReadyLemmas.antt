-- What runs leave as it was, and what is known of a worker that has something to do.
use Rattle.std.proofs.Common.{◌≡◌, ◌≤◌, ◌<◌, ℕ, Bool, true, false, List, [], refl, sym, ap, ◌∙◌, arith, Option, Some, None}
use Rattle.std.specs.Prelude.{if◌then◌else◌, is_some, option_map}
use Rattle.bz_ring.specs.declared.calls.QCall.{QCall}
use Rattle.bz_ring.specs.Calls.{Open, open_call}
use Rattle.bz_queue.specs.QueueView.{QueueView}
use Rattle.bz_queue.specs.declared.open.Numbers.{Numbers}
use Rattle.bz_qsched.specs.Fuses.{Fused}
use Rattle.bz_qsched.specs.Points.{ready, ready_by}
use Rattle.bz_qsched.specs.Queued.{calls_of, is_busy_by}
use Rattle.bz_qsched.specs.Runs.{point_in, IsOneOfAll, IsReady, Keeps}
use Rattle.bz_qsched.proofs.BurnLemmas.{burns_none, burns_both}

-- the queue has this worker
pub record IsWorker (numbers : Numbers) (w : ℕ) : Type 0 where
  pub some : 0 < w
  pub in_range : w ≤ numbers.workers

pub keeps_none : (world : QueueView) (queued : Fused) → IsReady world → Keeps world queued world queued
keeps_none world queued ready = record { ready = ready; numbers = refl; start = refl; most = refl; room = refl; fuse = burns_none world.log.past world.log.past queued.fuse refl }

pub keeps_both : (a b c : QueueView) (p q r : Fused) → Keeps a p b q → Keeps b q c r → Keeps a p c r
keeps_both a b c p q r h k = record {
  ready = k.ready;
  numbers = k.numbers ∙ h.numbers;
  start = k.start ∙ h.start;
  most = k.most ∙ h.most;
  room = k.room ∙ h.room;
  fuse = burns_both a.log.past b.log.past c.log.past p.fuse q.fuse r.fuse h.fuse k.fuse;
}

-- the world has each of the workers 1 to 64
pub is_worker : (world : QueueView) (w : ℕ) → IsReady world → IsOneOfAll w → IsWorker world.numbers w
is_worker world w ready one =
    let most = one.most in
    let all = ready.workers in
    record { some = one.some; in_range = omega (arith, most, all) }

-- a worker with an open call is ready for its step
pub open_is_ready : (world : QueueView) (queued : Fused) (w : ℕ) → is_some (open_call w world.log.past) ≡ true → point_in world queued ≡ ready w (point_in world queued)
open_is_ready world queued w is = ap (λ (b : Bool). ready_by w b (calls_of w queued.calls) (point_in world queued)) (sym is)

-- one that has something to do and no open call has a call that waits
pub some_waits : (opened : Bool) (calls : List (ℕ × QCall)) → is_busy_by opened calls ≡ true → opened ≡ false → calls ≡ [] → ⊥
some_waits opened calls works closed none =
    let idle : is_busy_by opened calls ≡ false = rw (closed, none) refl in
    let opposed : true ≡ false = sym works ∙ idle in
    absurd (cc opposed)

-- a worker's open call has a number
pub told_open : (opened : Option Open) (n : ℕ) → Some n ≡ option_map (λ (o : Open). o.number) opened → true ≡ is_some opened
told_open None n is = absurd (cc is)
told_open (Some opened) n is = refl

pub told_none : (opened : Option Open) → None ≡ option_map (λ (o : Open). o.number) opened → false ≡ is_some opened
told_none None is = refl
told_none (Some opened) is = absurd (cc is)

-- a mark that opens a call, or tells of its effect
pub opens : (b : Bool) (fresh : Open) (rest : Option Open) → is_some (if b then Some fresh else rest) ≡ (if b then true else is_some rest)
opens true fresh rest = refl
opens false fresh rest = refl

pub changes_no : (b : Bool) (f : Open → Open) (rest : Option Open) → is_some (if b then option_map f rest else rest) ≡ is_some rest
changes_no true f (Some opened) = refl
changes_no true f None = refl
changes_no false f rest = refl
