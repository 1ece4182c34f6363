use Rattle.std.proofs.Common.{List, ℕ, subst, ◌∙◌}
use Rattle.std.specs.Io.KnownBytes.{Appends}
use Rattle.bz_io.specs.Transfers.{GrewByFront}
use Rattle.bz_qtext.proofs.PartLemmas.{fresh_text}
use Rattle.bz_qtext.proofs.report.write_queue_report.Goals as goal

pub returns-in-Ok-write_all-clause-ok : goal.returns-in-Ok-write_all-clause-ok
returns-in-Ok-write_all-clause-ok g c =
    let told = c.deref.ensures.value ∙ fresh_text c.args.queue.now.numbers.ring c.args.queue.now.log.start c.args.capacity c.args.queue.now.log.past _ c.requires.ring c.requires.capacity c.requires.start c.in-Ok.ensures in
    subst (λ (text : List ℕ). Appends (g.K.Sink.held c.args.sink.now) (g.K.Sink.held c.write_all.new.sink) text) told c.in-Ok-write_all.ensures.all

pub returns-clause-part : goal.returns-clause-part
returns-clause-part g c = λ is.
    let told = c.deref.ensures.value ∙ fresh_text c.args.queue.now.numbers.ring c.args.queue.now.log.start c.args.capacity c.args.queue.now.log.past _ c.requires.ring c.requires.capacity c.requires.start c.in-Ok.ensures in
    subst (λ (text : List ℕ). GrewByFront (g.K.Sink.held c.args.sink.now) (g.K.Sink.held c.write_all.new.sink) text) told c.in-Err-write_all.ensures.front
