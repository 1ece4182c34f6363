use Rattle.std.proofs.Common.{sym, subst}
use Rattle.bz_queue.specs.Inside.Kept.{view_of}
use Rattle.bz_queue.specs.QueueView.{QueueView, IsApplied}
use Rattle.bz_queue.specs.declared.answers.QEvent.{QEvent}
use Rattle.bz_queue.specs.declared.answers.QEvent.TheVariants as event
use Rattle.bz_queue.proofs.queue.QueueWorld.apply.Goals as goal

pub returns-in-Cut : goal.returns-in-Cut
returns-in-Cut c =
    subst (λ (e : QEvent). IsApplied c.args.self.now e c.cut.result (view_of c.cut.new.parts)) (sym c.in-Cut.is)
    (subst (λ (q : QueueView). IsApplied q event.Cut c.cut.result (view_of c.cut.new.parts)) c.self.view_is c.cut.ensures.applied)

pub returns-in-On : goal.returns-in-On
returns-in-On c =
    subst (λ (e : QEvent). IsApplied c.args.self.now e c.power_on.result (view_of c.power_on.new.parts)) (sym c.in-On.is)
    (subst (λ (q : QueueView). IsApplied q event.On c.power_on.result (view_of c.power_on.new.parts)) c.self.view_is c.power_on.ensures.applied)
