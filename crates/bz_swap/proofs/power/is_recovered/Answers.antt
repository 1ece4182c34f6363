use Rattle.std.specs.Prelude.{◌≡◌, ◌<◌, ◌≤◌}
use Rattle.std.proofs.Common.{arith}
use Rattle.bz_layout.specs.Addresses.{swap_address, swap_of}
use Rattle.bz_layout.specs.declared.sizes.TheConstants.{SUPERBLOCK_WORDS}
use Rattle.bz_swap.proofs.power.is_recovered.Goals as goal
use Rattle.bz_swap.proofs.power.is_recovered.Goals.{then-a-first, else-a-first}

pub returns-then-a-first-eq0 : goal.returns-then-a-first-eq0
returns-then-a-first-eq0 c =
    let from : SUPERBLOCK_WORDS ≤ c.args.a = elim c.if-a-first.branch [
      | then-a-first w ↦ absurd (grind (arith, w.t-9-is, c.if-end-a.false))
      | else-a-first w ↦ omega (arith, w.if-a-first.false)
    ] in
    let inside : c.args.a < swap_address c.args.swaps = elim c.if-a-first.branch [
      | then-a-first w ↦ absurd (grind (arith, w.t-9-is, c.if-end-a.false))
      | else-a-first w ↦ grind (arith, w.t-9-is, c.if-end-a.false)
    ] in
    let number : swap_of c.args.a < c.args.swaps = omega (arith, from, inside) in
    let at : c.args.a ≡ swap_address (swap_of c.args.a) = omega (arith, from, c.if-a-first-eq0.true) in
    (λ zero. (λ out. grind (arith, zero), λ s lt is. grind (arith, zero)), λ h. (let is = h.1 (swap_of c.args.a) number at in grind (arith, is)))
