use Rattle.std.proofs.Common.{ℕ, sym, subst, ◌∙◌}
use Rattle.bz_bus.specs.Entries.{MayFind, MayLeave}
use Rattle.bz_index.proofs.Placed.{made_leaves, turned}
use Rattle.bz_index.proofs.index.Index.apply.Goals as goal
use Rattle.bz_index.specs.Entries.{owner_of}
use Rattle.bz_index.specs.Passes.{seen_by, free_in}

pub turn-requires-clause-pass : goal.turn-requires-clause-pass
turn-requires-clause-pass g c = c.requires.pass.0.placed.pass

pub turn-requires-clause-asks : goal.turn-requires-clause-asks
turn-requires-clause-asks g c = λ found may. tt

pub turn-requires-clause-leaves : goal.turn-requires-clause-leaves
turn-requires-clause-leaves g c = λ found left after may does.
    subst (λ (n : ℕ). MayLeave owner_of n found left) (sym c.requires.pass.1) (made_leaves _ found left _ _ c.requires.event does)

pub returns-clause-pass : goal.returns-clause-pass
returns-clause-pass g c =
    let e = c.turn.ensures in
    let old = c.args.pass.now in
    let zeroth = e.pass.1 ∙ c.requires.pass.1 in
    let (found, may, made) = e.turned in (
      turned _ old (record { pass = c.turn.new.pass }) c.args.event _ found c.requires.pass.0 c.requires.pass.1 e.pass.0 zeroth e.pass.2 c.requires.event
          (subst (λ (n : ℕ). MayFind owner_of n (free_in c.args.pass.now) (seen_by c.args.pass.now) found) c.requires.pass.1 may) made,
      zeroth,
      e.pass.2,
    )

pub returns-clause-applied : goal.returns-clause-applied
returns-clause-applied g c =
    let (found, may, made) = c.turn.ensures.turned in
    (found, subst (λ (n : ℕ). MayFind owner_of n (free_in c.args.pass.now) (seen_by c.args.pass.now) found) c.requires.pass.1 may, made)
