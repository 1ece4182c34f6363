use Rattle.std.proofs.Common.{[], sym, subst}
use Rattle.bz_index.specs.Passes.{seen_by}
use Rattle.bz_threads.proofs.Joining.{joined_at_first, all_back, all_joined}
use Rattle.bz_threads.proofs.running.run_on.Given as given
use Rattle.bz_threads.proofs.running.run_on.Goals as goal
use Rattle.bz_threads.specs.Inside.Batches.{IsJoined}
use Rattle.bz_threads.specs.Inside.Runs.{HasRunOn}
use Rattle.bz_threads.specs.declared.running.ThreadsEnd.{ThreadsEnd}

-- all batches are joined
joined : (g : given.Over) (c : goal.After-drop-batches g) → IsJoined c.args.index.now c.args.queue.now.calls (seen_by c.args.first.now) c.join_batches.new.first [] c.join_batches.result
joined g c =
    let e = c.in-Ok-open_batches.ensures in
    c.join_batches.ensures c.args.queue.now.calls (seen_by c.args.first.now)
    (joined_at_first c.args.index.now c.args.queue.now.calls (seen_by c.args.first.now) c.open_batches.new.first c.open_batches.new.batches.items c.work_all.new.batches c.deref_mut.result.now c.open_batches.new.batches.len e.first.0 e.first.1 e.batches e.idle c.deref_mut.ensures.value
    c.work_all.auto.batches c.open_batches.new.batches.ok.0 c.work_all.ensures)

pub returns-in-Ok-open_batches-clause-first : goal.returns-in-Ok-open_batches-clause-first
returns-in-Ok-open_batches-clause-first g c = (joined g c).pass

pub returns-in-Ok-open_batches-clause-free : goal.returns-in-Ok-open_batches-clause-free
returns-in-Ok-open_batches-clause-free g c = all_back c.args.index.now c.args.queue.now.calls (seen_by c.args.first.now) c.join_batches.new.first c.join_batches.result (joined g c)

pub returns-in-Ok-open_batches-clause-end : goal.returns-in-Ok-open_batches-clause-end
returns-in-Ok-open_batches-clause-end g c =
    subst (λ (how : ThreadsEnd). HasRunOn c.args.index.now c.args.queue.now.calls (seen_by c.args.first.now) c.join_batches.new.first how) (sym c.end_of.ensures)
    (all_joined c.args.index.now c.args.queue.now.calls (seen_by c.args.first.now) c.join_batches.new.first c.join_batches.result (joined g c))
