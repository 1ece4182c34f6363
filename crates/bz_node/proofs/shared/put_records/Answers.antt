use Rattle.std.proofs.Common.{arith, ◌≡◌, ◌+◌, ◌-◌, ◌∙◌, length, map, take, set, refl}
use Rattle.std.proofs.lemmas.List.{length-set, length-map, length-take, length-append}
use Rattle.bz_layout.specs.declared.sizes.TheConstants.{SHARED_WORDS}
use Rattle.bz_node.specs.Layout.{block}
use Rattle.bz_node.proofs.Parts.{needed_more, needed_front, length-block_nil, entries_more, block_push}
use Rattle.bz_node.proofs.Writes.{shared_none, record_put, length-part}
use Rattle.bz_node.proofs.shared.put_records.Goals as goal

pub loop-i-init : goal.loop-i-init
loop-i-init g c = record { words = shared_none c.args.shared.now c.requires.free; end = omega (arith, length-block_nil) }

pub overflow_sub-start : goal.overflow_sub-start
overflow_sub-start g c =
    let more = needed_more g.R.Record.entry c.args.records.now c.loop-i.i c.index-records-i.result c.loop-i-test.true c.index-records-i.is in
    let front = needed_front g.R.Record.entry c.args.records.now (c.loop-i.i + 1) in
    omega (arith, more, front)

pub put-requires : goal.put-requires
put-requires g c =
    let more = needed_more g.R.Record.entry c.args.records.now c.loop-i.i c.index-records-i.result c.loop-i-test.true c.index-records-i.is in
    let front = needed_front g.R.Record.entry c.args.records.now (c.loop-i.i + 1) in
    let long = length-set c.loop-i.shared c.loop-i.i c.pack.result in
    let all : length c.args.shared.now ≡ SHARED_WORDS = rw c.requires.free refl in
    length-part (set c.loop-i.shared c.loop-i.i c.pack.result) (c.loop-i.end - c.sizes-sizes.result.words) c.loop-i.end (omega arith) (omega (arith, more, front, long, all)) ∙ omega (arith, more, front)

pub loop-i-preserved : goal.loop-i-preserved
loop-i-preserved g c =
    let x = c.index-records-i.result in
    let xs = map g.R.Record.entry (take c.loop-i.i c.args.records.now) in
    let e = g.R.Record.entry x in
    let push = entries_more g.R.Record.entry c.args.records.now c.loop-i.i x c.loop-i-test.true c.index-records-i.is in
    let more = needed_more g.R.Record.entry c.args.records.now c.loop-i.i x c.loop-i-test.true c.index-records-i.is in
    let front = needed_front g.R.Record.entry c.args.records.now (c.loop-i.i + 1) in
    let counted : c.loop-i.i ≡ length xs = omega (arith, length-map (take c.loop-i.i c.args.records.now) g.R.Record.entry, length-take c.loop-i.i c.args.records.now) in
    let put = record_put xs e (c.loop-i.end - c.sizes-sizes.result.words) c.loop-i.end c.loop-i.i c.pack.result counted c.loop-i.invariant.end (omega (arith, more, front)) (omega (arith, more, front)) (rw (← c.sizes-sizes.ensures.key, ← c.sizes-sizes.ensures.total) c.pack.ensures) in
    record { words = rw (c.put.ensures, push, c.loop-i.invariant.words) put; end = rw (push, block_push xs e) (omega (arith, more, front, length-append e.words (block xs))) }
