use Rattle.std.proofs.Common.{◌≡◌, replicate, true, length, ap, arith}
use Rattle.std.proofs.lemmas.List.{length-replicate}
use Rattle.bz_layout.proofs.FreePlaces.{slots_of_all, length-free_places_all}
use Rattle.bz_layout.proofs.slots.Slots.open.Goals as goal

pub invariant_of-result : goal.invariant_of-result
invariant_of-result c =
    let all : c.in_ok-vec.field-0.items ≡ replicate c.args.nodes true = c.in_ok-vec.ensures.items_if_clones_equal (λ y e. e) in
    record {
      left = length-free_places_all _ _ all;
      lowest = λ place below. absurd (omega arith);
      nodes = omega (arith, ap length all, length-replicate c.args.nodes true);
    }

pub returns : goal.returns
returns c = slots_of_all _ _ (c.in_ok-vec.ensures.items_if_clones_equal (λ y e. e))
