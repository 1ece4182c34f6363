-- What a worker asked for after one ask more.
use Rattle.std.specs.Prelude.{◌≡◌, ◌==◌, if◌then◌else◌, ℕ, ◌+◌, ◌<◌, ◌≤◌, Bool, true, false, cond, not, List, [], ◌∷◌, ◌++◌, length, drop, replicate, get_or, slice_set, position}
use Rattle.std.specs.List.{position_or_len}
use Rattle.std.specs.declared.option.Option.TheVariants.{None, Some}
use Rattle.std.proofs.Common.{arith, refl, sym, ap, ◌∙◌, zero, suc}
use Rattle.std.proofs.lemmas.Bool.{ltb-true, ltb-false}
use Rattle.std.proofs.lemmas.List.{append_assoc, drop_more, set_at, length-replicate, replicate_more}
use Rattle.bz_pm.specs.After.{with_ask}
use Rattle.bz_pm.specs.declared.asks.Ask.{Ask}

place_cons : (t : Bool) (r q : Ask) (rs : List Ask) (i n : ℕ) → ((j : ℕ) → j ≡ n → j < length rs → slice_set rs j q ≡ with_ask rs q)
    → i ≡ cond (not t) (1 + n) 0 → i < length (r ∷ rs) → slice_set (r ∷ rs) i q ≡ (if t then q ∷ rs else r ∷ with_ask rs q)
place_cons true r q rs zero n rest e lt = refl
place_cons true r q rs (suc i) n rest e lt = absurd (omega arith)
place_cons false r q rs zero n rest e lt = absurd (omega arith)
place_cons false r q rs (suc i) n rest e lt = ap (λ xs. r ∷ xs) (rest i (omega arith) (omega arith))

place_set : (qs : List Ask) (q : Ask) (i : ℕ) → i ≡ position_or_len (λ r. r.line == q.line) qs → i < length qs → slice_set qs i q ≡ with_ask qs q
place_set [] q i e lt = absurd (omega arith)
place_set (r ∷ rs) q i e lt = place_cons (r.line == q.line) r q rs i _ (λ j. place_set rs q j) e lt

end_cons : (t : Bool) (r q : Ask) (rs : List Ask) (n : ℕ) → (length rs ≤ n → rs ++ q ∷ [] ≡ with_ask rs q)
    → length (r ∷ rs) ≤ cond (not t) (1 + n) 0 → (r ∷ rs) ++ q ∷ [] ≡ (if t then q ∷ rs else r ∷ with_ask rs q)
end_cons true r q rs n rest le = absurd (omega arith)
end_cons false r q rs n rest le = ap (λ xs. r ∷ xs) (rest (omega arith))

end_push : (qs : List Ask) (q : Ask) → length qs ≤ position_or_len (λ r. r.line == q.line) qs → qs ++ q ∷ [] ≡ with_ask qs q
end_push [] q le = refl
end_push (r ∷ rs) q le = end_cons (r.line == q.line) r q rs _ (end_push rs q) le

some_told : (t : Bool) (m i : ℕ) → cond t (Some m) None ≡ Some i → (t ≡ true) × (m ≡ i)
some_told true m i e = (refl, cc)
some_told false m i e = cc

none_told : (t : Bool) (m : ℕ) → cond t (Some m) None ≡ None → t ≡ false
none_told true m e = cc
none_told false m e = refl

-- an ask in the place of its line
pub with_ask-set : (qs : List Ask) (q : Ask) (i : ℕ) → position (λ r. r.line == q.line) qs ≡ Some i → slice_set qs i q ≡ with_ask qs q
with_ask-set qs q i e =
    let told = some_told _ _ i e in
    let lt = ltb-true _ (length qs) told.0 in
    place_set qs q i (sym told.1) (rw told.1 at lt)

-- an ask of another line than those before
pub with_ask-push : (qs : List Ask) (q : Ask) → position (λ r. r.line == q.line) qs ≡ None → qs ++ q ∷ [] ≡ with_ask qs q
with_ask-push qs q e = end_push qs q (ltb-false _ (length qs) (none_told _ _ e))

-- one worker more has asked for nothing
pub forget_more : (all : List (List Ask)) (w : ℕ) → w < length all → slice_set (replicate w [] ++ drop w all) w [] ≡ replicate (w + 1) [] ++ drop (w + 1) all
forget_more all w lt =
    rw (drop_more all w [] lt, set_at (replicate w []) (get_or all w []) (drop (w + 1) all) [] w (length-replicate w [])) (push_front (replicate w []) [] (drop (w + 1) all) ∙ ap (λ xs. xs ++ drop (w + 1) all) (replicate_more w []))
  where
    push_front : (xs : List (List Ask)) (x : List Ask) (ys : List (List Ask)) → xs ++ x ∷ ys ≡ (xs ++ x ∷ []) ++ ys
    push_front xs x ys = sym (append_assoc xs (x ∷ []) ys)
