-- Tests of numbers, and one more worker that asked for nothing.
use Rattle.std.specs.Prelude.{◌≡◌, ◌≢◌, ◌==◌, ◌+◌, ◌<◌, ℕ, true, false, List, [], ◌∷◌, ◌++◌, length, drop, replicate, get_or, slice_set}
use Rattle.std.proofs.Common.{arith, sym, ap, ◌∙◌}
use Rattle.std.proofs.lemmas.Grind.{common_steps}
use Rattle.std.proofs.lemmas.List.{append_assoc, drop_more, set_at, length-replicate, replicate_more}
use Rattle.bz_check.specs.declared.asks.Asked.{Asked}

pub same_test : (a b : ℕ) → a ≡ b → (a == b) ≡ true
same_test a b e = grind (arith, common_steps)

pub other_test : (a b : ℕ) → a ≢ b → (a == b) ≡ false
other_test a b ne = grind (arith, common_steps)

-- one worker more has asked for nothing
pub forget_more : (all : List (List Asked)) (w : ℕ) → w < length all → slice_set (replicate w [] ++ drop w all) w [] ≡ replicate (w + 1) [] ++ drop (w + 1) all
forget_more all w lt =
    rw (drop_more all w [] lt, set_at (replicate w []) (get_or all w []) (drop (w + 1) all) [] w (length-replicate w [])) (push_front (replicate w []) [] (drop (w + 1) all) ∙ ap (λ xs. xs ++ drop (w + 1) all) (replicate_more w []))
  where
    push_front : (xs : List (List Asked)) (x : List Asked) (ys : List (List Asked)) → xs ++ x ∷ ys ≡ (xs ++ x ∷ []) ++ ys
    push_front xs x ys = sym (append_assoc xs (x ∷ []) ys)
