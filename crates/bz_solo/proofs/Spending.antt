-- What a step takes of the number is what it adds to what is used: over plain numbers. What is kept is for the swaps of rivals, own is what the
-- call's own marks take.
use Rattle.std.proofs.Common.{◌≡◌, ℕ, ◌+◌, ◌*◌, ◌≤◌, arith, ap, mul-le-mul_left}

pub fewer : (k a b : ℕ) → b ≤ a → k * b ≤ k * a
fewer k a b l = mul-le-mul_left k l

pub one-fewer : (k a b : ℕ) → b + 1 ≤ a → k * b + k ≤ k * a
one-fewer k a b l = omega (arith, mul-le-mul_left k l)

pub no-more : (kept own used less extra n by : ℕ) → less ≤ extra → kept + own + used + (extra + n) ≤ by → kept + own + used + (less + n) ≤ by
no-more kept own used less extra n by l h = omega (arith, l, h)

pub starts : (k old new own used next takes n by : ℕ) → new ≡ old → next ≤ used + takes → k * old + own + used + (takes + n) ≤ by → k * new + own + next + (0 + n) ≤ by
starts k old new own used next takes n by e l h = omega (arith, ap (λ z. k * z) e, l, h)

-- a step: more of what is to come may not be than of what was
pub steps : (kept rest own used next m n by : ℕ) → rest ≤ kept → next ≤ used → m ≡ n → kept + own + used + (0 + n) ≤ by → rest + own + next + (0 + m) ≤ by
steps kept rest own used next m n by l u e h = omega (arith, l, u, e, h)

-- the mark of an effect
pub marks : (mark kept own used next m n by : ℕ) → next ≤ used + mark → m ≡ n → kept + own + used + (mark + n) ≤ by → kept + own + next + (0 + m) ≤ by
marks mark kept own used next m n by u e h = omega (arith, u, e, h)

-- a rival less
pub loses : (stretch mark kept rest own used next n by : ℕ) → rest + (stretch + mark) ≤ kept → next ≤ used → kept + own + used + (0 + n) ≤ by → rest + own + next + (mark + n) ≤ by
loses stretch mark kept rest own used next n by l u h = omega (arith, l, u, h)

pub disturbs : (stretch mark kept rest own used next weight may might by : ℕ) → rest + (stretch + mark) ≤ kept → next ≤ used → may ≤ might → kept + own + used + (0 + (0 + (weight + might))) ≤ by →
    rest + own + next + (mark + (stretch + (weight + may))) ≤ by
disturbs stretch mark kept rest own used next weight may might by l u m h = omega (arith, l, u, m, h)

pub begins-again : (stretch mark kept rest own used next weight may might by : ℕ) → rest + (stretch + mark) ≤ kept → next ≤ used → may ≤ might → kept + own + used + (0 + (weight + might)) ≤ by →
    rest + own + next + (mark + (stretch + (weight + may))) ≤ by
begins-again stretch mark kept rest own used next weight may might by l u m h = omega (arith, l, u, m, h)

-- a task that is told something
pub hears : (kept own used next gone before after takes extra n by : ℕ) → after + (gone + takes) ≤ before → next ≤ used + gone → kept + own + used + (0 + (extra + (before + n))) ≤ by → kept + own + next + (takes + (extra + (after + n))) ≤ by
hears kept own used next gone before after takes extra n by l u h = omega (arith, l, u, h)

pub hears-made : (kept own used next gone before after takes n by : ℕ) → after + (gone + takes) ≤ before → next ≤ used + gone → kept + own + used + (0 + (before + n)) ≤ by → kept + own + next + (takes + (after + n)) ≤ by
hears-made kept own used next gone before after takes n by l u h = omega (arith, l, u, h)

-- a step at which the worker's own swap takes effect: in the same round; at the last swap of a task that restructures; and as the call's effect
pub wins : (reserve kept rest own used next takes may might by : ℕ) → rest ≤ kept → next ≤ used → may ≤ might → kept + own + used + (0 + (reserve + (takes + might))) ≤ by →
    rest + own + next + (0 + (reserve + (takes + may))) ≤ by
wins reserve kept rest own used next takes may might by l u m h = omega (arith, l, u, m, h)

pub wins-last : (kept rest own used next takes may might by : ℕ) → rest ≤ kept → next ≤ used → may ≤ might → kept + own + used + (0 + (0 + (takes + might))) ≤ by →
    rest + own + next + (0 + (takes + may)) ≤ by
wins-last kept rest own used next takes may might by l u m h = omega (arith, l, u, m, h)

pub publishes : (reserve mark kept rest own less used next takes may might by : ℕ) → less + mark ≡ own → rest ≤ kept → next ≤ used → may ≤ might → kept + own + used + (0 + (reserve + (takes + might))) ≤ by →
    rest + less + next + (mark + (reserve + (takes + may))) ≤ by
publishes reserve mark kept rest own less used next takes may might by o l u m h = omega (arith, o, l, u, m, h)
