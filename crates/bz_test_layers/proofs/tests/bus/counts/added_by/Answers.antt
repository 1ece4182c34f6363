use Rattle.std.proofs.Common.{ℕ, zero, suc, ◌<◌, List, [], ◌∷◌, ◌++◌, length, get_or, subst, arith}
use Rattle.std.specs.Prelude.{All}
use Rattle.std.proofs.lemmas.List.Elements.{All-push}
use Rattle.bz_bus.specs.Passes.{IsPassOf}
use Rattle.bz_test_layers.proofs.tests.bus.counts.added_by.Goals as goal

all_last : {A : Type 0} (P : A → Type 0) (xs : List A) (x : A) → All P (xs ++ x ∷ []) → P x
all_last P [] x a = a 0 x (omega arith)
all_last P (y ∷ ys) x a = all_last P ys x (λ k d h. a (suc k) d (omega arith))

all_front : {A : Type 0} (P : A → Type 0) (xs : List A) (x : A) → All P (xs ++ x ∷ []) → (k : ℕ) (d : A) → k < length xs → P (get_or xs k d)
all_front P [] x a k d h = absurd (omega arith)
all_front P (y ∷ ys) x a zero d h = a 0 d (omega arith)
all_front P (y ∷ ys) x a (suc k) d h = all_front P ys x (λ j b l. a (suc j) b (omega arith)) k d (omega arith)

pub join_back-requires-clause-pass : goal.join_back-requires-clause-pass
join_back-requires-clause-pass g c = all_last (λ p. IsPassOf c.in_ok-bus.bus p) _ _ (subst (λ z. All (λ p. IsPassOf c.in_ok-bus.bus p) z) c.in-Some.ensures.items c.loop-pass.invariant.2)

pub loop-pass-preserved : goal.loop-pass-preserved
loop-pass-preserved g c = (c.join_back.ensures.0, c.join_back.ensures.1, all_front (λ p. IsPassOf c.in_ok-bus.bus p) _ _ (subst (λ z. All (λ p. IsPassOf c.in_ok-bus.bus p) z) c.in-Some.ensures.items c.loop-pass.invariant.2))

pub loop-number-preserved : goal.loop-number-preserved
loop-number-preserved g c = (c.split_off.ensures.first.0, c.split_off.ensures.first.1, rw c.in_ok-push.ensures.items (All-push (λ p. IsPassOf c.in_ok-bus.bus p) _ _ c.loop-number.invariant.2 c.split_off.ensures.pass.0))
