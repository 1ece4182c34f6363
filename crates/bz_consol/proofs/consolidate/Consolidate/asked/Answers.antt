use Rattle.std.proofs.Common.{sym, ap, ◌∙◌, Some}
use Rattle.bz_layout.specs.declared.thresholds.TheConstants.{CONSOLIDATION_SLOTS}
use Rattle.bz_consol.specs.Duties.{renewal_of}
use Rattle.bz_consol.specs.Facts.{consol_asks}
use Rattle.bz_consol.proofs.consolidate.Consolidate.asked.Goals as goal

pub returns-in-Store : goal.returns-in-Store
returns-in-Store c = let t = c.args.self.now in ap (consol_asks t.config (renewal_of t)) c.in-Store.is ∙ ap Some (sym (c.store_at.ensures CONSOLIDATION_SLOTS (λ n. t.image.0)))

pub returns-in-Flush : goal.returns-in-Flush
returns-in-Flush c = let t = c.args.self.now in ap (consol_asks t.config (renewal_of t)) c.in-Flush.is ∙ ap Some (sym (c.flush_at.ensures CONSOLIDATION_SLOTS (λ n. t.image.0)))
