use Rattle.std.proofs.Common.{◌∙◌}
use Rattle.bz_pm.proofs.Asking.{with_ask-set, with_ask-push}
use Rattle.bz_pm.proofs.asks.Asks.put.Goals as goal

pub returns-in-Some : goal.returns-in-Some
returns-in-Some c = rw (← c.self.view_is) (with_ask-set _ c.args.ask c.in-Some.place (rw (← c.deref.ensures.value, ← c.place_of.ensures) c.in-Some.is))

pub returns-in-Ok : goal.returns-in-Ok
returns-in-Ok c = rw (← c.self.view_is) (c.in-Ok.ensures.items ∙ with_ask-push _ c.args.ask (rw (← c.deref.ensures.value, ← c.place_of.ensures) c.in-None.is))
