use Rattle.std.proofs.Common.{◌≡◌, ◌-◌, ◌≤◌, arith, refl, length, map}
use Rattle.std.proofs.lemmas.List.{length-map}
use Rattle.bz_layout.specs.declared.sizes.TheConstants.{NODE_WORDS, SHARED_WORDS, META_AT}
use Rattle.bz_word.specs.Statuses.{status_word}
use Rattle.bz_word.specs.Headers.{header_word}
use Rattle.bz_node.specs.Layout.{block, made_status, made_header}
use Rattle.bz_node.proofs.Writes.{rest_free, rest_put}
use Rattle.bz_node.proofs.build.put_node.Goals as goal

pub put_records-requires-clause-free : goal.put_records-requires-clause-free
put_records-requires-clause-free g c =
    let long : length c.put_front.new.out ≡ META_AT = rw c.requires.free at c.put_front.auto.out in
    rest_free c.put_front.new.out c.args.out.now META_AT SHARED_WORDS c.requires.free long

pub returns-clause-words : goal.returns-clause-words
returns-clause-words g c =
    let es = map g.R.Record.entry c.args.records.now in
    let long : length c.put_front.new.out ≡ META_AT = rw c.requires.free at c.put_front.auto.out in
    let counted : length c.args.records.now ≡ length es = omega (arith, length-map c.args.records.now g.R.Record.entry) in
    let blocked : c.args.needed - length c.args.records.now ≡ length (block es) = omega (arith, c.requires.count, counted) in
    let status : c.status_of-status.result ≡ status_word (made_status es) = rw (← counted, ← blocked) c.status_of-status.ensures in
    let header : c.header_of-header.result ≡ header_word (made_header c.args.level c.args.low.now c.args.high.now es) = rw (← counted) c.header_of-header.ensures.word in
    let all : length c.args.out.now ≡ NODE_WORDS = rw c.requires.free refl in
    let within : META_AT ≤ length c.args.out.now = omega (arith, all) in
    rw (rest_put c.put_front.new.out c.args.out.now c.put_records.new.shared META_AT long within, c.put_front.ensures, c.put_records.ensures, status, header) refl
