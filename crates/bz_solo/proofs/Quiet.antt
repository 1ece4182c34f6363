-- A step at which no swap takes effect, and the mark of an effect, are paid for: the round stays what it is, and the prices stay.
use Rattle.std.proofs.Common.{◌≡◌, ℕ, ◌+◌, refl, ap, ◌∙◌}
use Rattle.bz_call.specs.Map.{key_of}
use Rattle.bz_costs.specs.Resources.{Resource}
use Rattle.bz_costs.specs.Solo.{one_mark}
use Rattle.bz_costs.specs.Weights.{weigh}
use Rattle.bz_costs.specs.Stretches.{solo_stretch}
use Rattle.bz_rivals.specs.Rivals.{rivals}
use Rattle.bz_costs.specs.FromRunning.Kinds.{kind_of}
use Rattle.bz_costs.specs.FromRunning.AnyTask.{AnyTask}
use Rattle.bz_task.specs.Scene.{Past}
use Rattle.bz_solo.specs.Errands.{Errand, after}
use Rattle.bz_solo.specs.Prices.{coming, round_price}
use Rattle.bz_solo.specs.Steps.{QuietStepsArePaid, EffectMarksArePaid, IsNext}
use Rattle.bz_solo.specs.Sum.{State, In, Disturbed, Clean, Made, IsIn, IsSmall, own_left, left_in}
use Rattle.bz_solo.proofs.Same.{SameLeaf, undisturbed-still, prices-same, same-leaf}
use Rattle.bz_solo.proofs.Spending.{fewer, marks, steps}

pub small-still : (e : Errand) (p q : Past) → SameLeaf p q (key_of e.call) → IsSmall e p → IsSmall e q
small-still e p q h s = record { frozen = h.frozen ∙ s.frozen; few = h.crowded ∙ s.few }

-- what is known stays, and what is to come
holds-still : (state : State) (e : Errand) (t : AnyTask) (untold : ℕ) (p q : Past) → IsNext 0 p q → SameLeaf p q (key_of e.call) → IsIn state e t untold p → IsIn state e t untold q
holds-still (In Disturbed) e t untold p q next h z = tt
holds-still (In Clean) e t untold p q next h z = record {
  made = z.made;
  alone = undisturbed-still z.made p q next.adds z.alone;
  counts = z.counts;
  none = z.none;
  before = z.before;
  goes = z.goes;
  stands = z.stands;
  small = λ f k. small-still e p q h (z.small f k);
}
holds-still Made e t untold p q next h z = z

left-still : (r : Resource) (state : State) (e : Errand) (t : AnyTask) (p q : Past) → SameLeaf p q (key_of e.call) → left_in r state e t q ≡ left_in r state e t p
left-still r (In Disturbed) e t p q h = refl
left-still r (In Clean) e t p q h = ap (λ z. 0 + (weigh r t + coming r z e (kind_of t))) (prices-same r p q e h)
left-still r Made e t p q h = ap (λ z. weigh r t + round_price r z (after e (kind_of t))) (prices-same r p q (after e (kind_of t)) h)

pub quiet-paid : (r : Resource) → QuietStepsArePaid r
quiet-paid r m n w e t untold used more by p s good next stepped h = record {
  look = h.look;
  thawed = h.thawed;
  state = h.state;
  holds = holds-still h.state e t untold p s.past next (same-leaf p s (key_of e.call) good next) h.holds;
  affords = record {
    enough = steps _ _ (own_left r e) used more (left_in r h.state e t s.past) (left_in r h.state e t p) by (fewer (solo_stretch r + one_mark r) (rivals m w) (rivals n w) stepped.rivals) stepped.less
        (left-still r h.state e t p s.past (same-leaf p s (key_of e.call) good next)) h.affords.enough;
  };
}

pub marks-paid : (r : Resource) → EffectMarksArePaid r
marks-paid r m w e t untold used more by p s good next one h = record {
  look = h.look;
  thawed = h.thawed;
  state = h.state;
  holds = holds-still h.state e t untold p s.past next (same-leaf p s (key_of e.call) good next) h.holds;
  affords = record {
    enough = marks (one_mark r) _ (own_left r e) used more (left_in r h.state e t s.past) (left_in r h.state e t p) by one (left-still r h.state e t p s.past (same-leaf p s (key_of e.call) good next)) h.affords.enough;
  };
}
