use Rattle.std.proofs.Common.{◌≡◌, subst, ◌+◌, ◌*◌}
use Rattle.std.specs.Prelude.{Some}
use Rattle.bz_word.specs.Kinds.{kind}
use Rattle.bz_word.specs.declared.kind.WordKind.TheVariants.{Swap}
use Rattle.bz_sweep.specs.Duties.{knows_after, tells_in, asks_in}
use Rattle.bz_sweep.specs.Places.{IsPlace, IsSpot}
use Rattle.bz_sweep.specs.Words.{IsSwept}
use Rattle.bz_sweep.specs.declared.ask.Ask.TheVariants.{Load}
use Rattle.bz_sweep.proofs.Finding.{status-found}
use Rattle.bz_sweep.proofs.sweep.Sweep.after.Goals as goal

pub returns-in-Status-Read-clause-learns : goal.returns-in-Status-Read-clause-learns
returns-in-Status-Read-clause-learns c v m k t =
    let h : IsSwept c.args.self.now.area v m c.in-Status-Read.spot.unflushed c.in-Status-Read.spot.at × (kind (m.durable c.in-Status-Read.spot.at) ≡ Swap c.in-Status-Read.swap) = subst (knows_after c.args.self.now.area v m) c.in-Status-Read.is-0 k in
    let spot : IsSpot c.args.self.now.area c.in-Status-Read.spot = subst (IsPlace c.args.self.now.area) c.in-Status-Read.is-0 c.requires.place.place in
    let first = subst (λ p. tells_in (asks_in p) c.args.answer m) c.in-Status-Read.is-0 t in
    let told : m.cached (16 + 16 * c.in-Status-Read.swap + 0) ≡ c.in-Status-Read.status = subst (λ s. tells_in (Some (Load (16 + 16 * c.in-Status-Read.swap + 0))) s m) c.in-Status-Read.is-1 first in
    (h.0, status-found c.args.self.now.area v m c.in-Status-Read.spot.unflushed c.in-Status-Read.spot.at c.in-Status-Read.swap c.in-Status-Read.status spot.shared h.0 h.1 told)
