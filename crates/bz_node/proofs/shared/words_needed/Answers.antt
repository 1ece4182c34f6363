use Rattle.std.proofs.Common.{arith, sym, ◌<◌, ◌+◌, length, subst}
use Rattle.std.proofs.lemmas.List.Elements.{All-nil, All-more}
use Rattle.bz_node.proofs.Parts.{needed_nil, needed_more, needed_front}
use Rattle.bz_node.proofs.shared.words_needed.Goals as goal

pub loop-record-init : goal.loop-record-init
loop-record-init g c = record { words = sym needed_nil; fits = omega arith; valid = All-nil g.R.Record.valid }

pub returns-then-words-gt-SHARED_WORDS : goal.returns-then-words-gt-SHARED_WORDS
returns-then-words-gt-SHARED_WORDS g c =
    let within : c.loop-record.record-index < length c.args.records.now = omega arith in
    let more = needed_more g.R.Record.entry c.args.records.now c.loop-record.record-index c.record-item.result within c.record-item.is in
    let front = needed_front g.R.Record.entry c.args.records.now (c.loop-record.record-index + 1) in
    omega (arith, more, front)

pub loop-record-preserved : goal.loop-record-preserved
loop-record-preserved g c =
    let within : c.loop-record.record-index < length c.args.records.now = omega arith in
    let more = needed_more g.R.Record.entry c.args.records.now c.loop-record.record-index c.record-item.result within c.record-item.is in
    let xs = c.args.records.now in
    let i = c.loop-record.record-index in
    let x = c.record-item.result in
    let here = subst g.R.Record.valid c.record-item.is c.sizes.ensures.valid in
    record { words = omega (arith, more); fits = omega arith; valid = All-more g.R.Record.valid xs i x within c.loop-record.invariant.valid here }
