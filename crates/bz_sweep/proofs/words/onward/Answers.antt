use Rattle.std.proofs.Common.{◌≡◌, ◌∙◌, arith, inl, inr}
use Rattle.std.proofs.lemmas.Bool.{cases_Bool}
use Rattle.bz_sweep.specs.Areas.{size_of}
use Rattle.bz_sweep.proofs.Standing.{first-of-swap}
use Rattle.bz_sweep.proofs.Sweeps.{onward-level, swept}
use Rattle.bz_sweep.proofs.words.onward.Goals as goal

-- after the last word: it is the last one of a line, so nothing is unflushed
pub returns-then-at-size-clause-learns : goal.returns-then-at-size-clause-learns
returns-then-at-size-clause-learns c v m h =
    let end : c.address_after-at.result ≡ size_of c.args.area.now = c.if-at-size.true ∙ c.size.ensures in
    elim (cases_Bool c.args.changed) [
      | inl t ↦ absurd (omega (arith, end, (c.address_after-at.ensures.line (c.requires.line t)).1))
      | inr f ↦ swept c.args.area.now v m c.address_after-at.result end (onward-level c.args.area.now v m c.args.spot.at c.address_after-at.result c.address_after-at.ensures (rw f at h)) (λ s l. first-of-swap c.args.area.now s l)
    ]

pub returns-else-changed-clause-learns : goal.returns-else-changed-clause-learns
returns-else-changed-clause-learns c v m h =
    onward-level c.args.area.now v m c.args.spot.at c.address_after-at.result c.address_after-at.ensures (rw c.if-changed.false at h)
