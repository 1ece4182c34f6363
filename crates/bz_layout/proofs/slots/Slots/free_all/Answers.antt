use Rattle.std.proofs.Common.{◌≡◌, replicate, true, length, ap, arith, ◌∙◌}
use Rattle.std.specs.Vec.{vec_len}
use Rattle.std.proofs.lemmas.List.{length-replicate}
use Rattle.bz_layout.proofs.FreePlaces.{slots_of_all, length-free_places_all}
use Rattle.bz_layout.proofs.slots.Slots.free_all.Goals as goal

pub invariant_of-self : goal.invariant_of-self
invariant_of-self c =
    let all : c.fill.new.self.items ≡ replicate (vec_len c.self.inside.is_free) true = c.fill.ensures.items (λ y e. e) in
    record {
      left = c.len.ensures ∙ c.fill.ensures.len ∙ length-free_places_all _ _ all;
      lowest = λ place below. absurd (omega arith);
      nodes = omega (arith, ap length all, length-replicate (vec_len c.self.inside.is_free) true);
    }

pub returns : goal.returns
returns c =
    let all : c.fill.new.self.items ≡ replicate (vec_len c.self.inside.is_free) true = c.fill.ensures.items (λ y e. e) in
    let size : vec_len c.self.inside.is_free ≡ length c.self.inside.is_free.items = c.self.inside.is_free.ok.0 in
    rw (← c.self.view_is) (slots_of_all c.fill.new.self.items (length c.self.inside.is_free.items) (rw size at all))
