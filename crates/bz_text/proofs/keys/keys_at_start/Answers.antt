use Rattle.std.proofs.Common.{◌≡◌, ◌+◌, ◌-◌, arith}
use Rattle.bz_text.proofs.KeyLemmas.{keys-none, keys-next, keys-whole}
use Rattle.bz_text.proofs.keys.keys_at_start.Goals as goal

pub loop-left-init : goal.loop-left-init
loop-left-init c = record { within = omega arith; so_far = keys-none c.in_ok-held.held.items c.len-left.result c.new-keys.result.keys (omega arith) c.new-keys.ensures.empty }

pub loop-left-preserved : goal.loop-left-preserved
loop-left-preserved c =
    let now = c.loop-left.left - 1 in
    let next : now + 1 ≡ c.loop-left.left = omega arith in
    record {
      within = omega arith;
      so_far =
          keys-next c.in_ok-held.held.items now c.index.result.now c.loop-left.keys.keys c.insert.new.self.keys c.in_ok-insert.field-0 (omega arith) c.index.ensures
          (rw next c.loop-left.invariant.so_far)
          (record { is = c.in_ok-insert.ensures.added; others = c.in_ok-insert.ensures.updates.0; longer = c.in_ok-insert.ensures.len; unchanged = λ no. rw no at c.in_ok-insert.ensures.unchanged });
    }

pub returns : goal.returns
returns c config image = keys-whole _ c.in_ok-held.held.items c.loop-left.keys.keys c.loop-left.left (omega arith) (c.in_ok-held.ensures config image) c.loop-left.invariant.so_far
