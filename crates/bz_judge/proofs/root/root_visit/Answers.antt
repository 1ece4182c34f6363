use Rattle.std.proofs.Common.{◌-◌, refl, sym, ap, ◌∙◌, arith}
use Rattle.std.specs.Prelude.{slice_index}
use Rattle.bz_content.specs.Resolving.{resolve}
use Rattle.bz_layout.specs.declared.sizes.TheConstants.{ROOT_AT, ROOT_STATUS_AT}
use Rattle.bz_judge.proofs.Roots.{root-fails, pointer-none, pointer-far, status-set, root-starts}
use Rattle.bz_judge.proofs.Scanned.{root-readable, status-readable}
use Rattle.bz_judge.proofs.root.root_visit.Goals as goal

pub resolve-pointer-requires : goal.resolve-pointer-requires
resolve-pointer-requires c = root-readable c.args.config.now c.args.image.now c.requires

pub returns-then-pointer-eq0-clause-none : goal.returns-then-pointer-eq0-clause-none
returns-then-pointer-eq0-clause-none c = root-fails c.args.config.now (slice_index c.args.image.now) (pointer-none c.args.config.now (slice_index c.args.image.now) (sym c.resolve-pointer.ensures ∙ c.if-pointer-eq0.true))

pub returns-then-pointer-from-clause-none : goal.returns-then-pointer-from-clause-none
returns-then-pointer-from-clause-none c =
    root-fails c.args.config.now (slice_index c.args.image.now) (pointer-far c.args.config.now.nodes (resolve (slice_index c.args.image.now) ROOT_AT) (resolve (slice_index c.args.image.now) ROOT_STATUS_AT) (omega (arith, c.resolve-pointer.ensures, c.if-pointer-from.true, c.from.ensures)))

pub resolve-requires : goal.resolve-requires
resolve-requires c = status-readable c.args.config.now c.args.image.now c.requires

pub returns-then-resolve-ge-STAMPS-clause-none : goal.returns-then-resolve-ge-STAMPS-clause-none
returns-then-resolve-ge-STAMPS-clause-none c =
    root-fails c.args.config.now (slice_index c.args.image.now)
    (status-set c.args.config.now.nodes (resolve (slice_index c.args.image.now) ROOT_AT) (resolve (slice_index c.args.image.now) ROOT_STATUS_AT)
    (omega (arith, c.resolve-pointer.ensures, c.if-pointer-eq0.false)) (omega (arith, c.resolve-pointer.ensures, c.if-pointer-from.false, c.from.ensures)) (omega (arith, c.resolve.ensures, c.if-resolve-ge-STAMPS.true)))

pub returns-clause-root : goal.returns-clause-root
returns-clause-root c =
    root-starts c.args.config.now c.args.image.now _ (c.resolve-pointer.result - 1) c.level_of_node.result
    (omega (arith, c.resolve-pointer.ensures, c.if-pointer-eq0.false)) (omega (arith, c.resolve-pointer.ensures, c.if-pointer-from.false, c.from.ensures)) (omega (arith, c.resolve.ensures, c.if-resolve-ge-STAMPS.false))
    (ap (λ n. n - 1) c.resolve-pointer.ensures) c.level_of_node.ensures.level refl
