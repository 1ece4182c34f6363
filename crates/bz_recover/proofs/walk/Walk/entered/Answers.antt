use Rattle.std.proofs.Common.{◌≡◌, arith, ap, ◌∙◌, sym}
use Rattle.bz_content.specs.Content.{view_in}
use Rattle.bz_slotted.proofs.Unpacking.{status-is}
use Rattle.bz_word.specs.Statuses.{status}
use Rattle.bz_word.specs.declared.status.Status.{Status}
use Rattle.bz_recover.proofs.Onward.{first-child}
use Rattle.bz_recover.proofs.Reading.{status-read, ReadsStatus}
use Rattle.bz_recover.proofs.walk.Walk.entered.Goals as goal

pub returns-in-Some-clause-leads : goal.returns-in-Some-clause-leads
returns-in-Some-clause-leads c free values image t left h told =
    let r : ReadsStatus (view_in c.args.self.now.config image) h.visit.slot c.args.status = status-read c.args.self.now.config values image h.visit c.args.level c.args.slot c.args.status t h.here.inner h.there told in
    let is : c.in-Some.status ≡ status c.args.status = status-is c.in-Some.status c.args.status c.in-Some.ensures.word.0 c.in-Some.ensures.word.1 in
    (c.onward.ensures.goes image free (first-child (view_in c.args.self.now.config image) c.args.self.now.top c.args.self.now.ways free c.args.level c.args.slot c.in-Some.status.count h (r.count ∙ ap (λ (s : Status). s.count) (sym is))), left)

pub returns-in_default-clause-leads : goal.returns-in_default-clause-leads
returns-in_default-clause-leads c free values image t left h told =
    let r : ReadsStatus (view_in c.args.self.now.config image) h.visit.slot c.args.status = status-read c.args.self.now.config values image h.visit c.args.level c.args.slot c.args.status t h.here.inner h.there told in
    let is : c.in-Some.status ≡ status c.args.status = status-is c.in-Some.status c.args.status c.in-Some.ensures.word.0 c.in-Some.ensures.word.1 in
    absurd (omega (arith, r.few, ap (λ (s : Status). s.count) is, c.if-status-le-SHARED_WORDS.false))

pub returns-in_default-2-clause-leads : goal.returns-in_default-2-clause-leads
returns-in_default-2-clause-leads c free values image t left h told =
    let r : ReadsStatus (view_in c.args.self.now.config image) h.visit.slot c.args.status = status-read c.args.self.now.config values image h.visit c.args.level c.args.slot c.args.status t h.here.inner h.there told in
    let some = c.in_default.ensures.lawful.1 r.plain in
    absurd (cc)
