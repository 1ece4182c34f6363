-- A list into which an element is put, in a row of places of which the first are the list.
use Rattle.std.proofs.Common.{◌≡◌, ℕ, ◌+◌, ◌-◌, ◌<◌, ◌≤◌, List, length, take, get_or, slice_set, arith, sym, subst, ◌∙◌, inl, inr}
use Rattle.std.specs.List.{insert}
use Rattle.std.proofs.lemmas.Bool.{cases_lt}
use Rattle.std.proofs.lemmas.List.{ext_get_or, get_or-take, get_or-set_same, get_or-set_other, length-take-le, length-set}
use Rattle.std.proofs.lemmas.List.Edits.{get_or-insert_below, get_or-insert_at, get_or-insert_above, length-insert}

pub inserted : {X : Type 0} (old new : List X) (count place : ℕ) (x d : X) → length new ≡ length old → place ≤ count → count < length old → ((k : ℕ) → k < place → get_or new k d ≡ get_or old k d) → ((k : ℕ) → place ≤ k → k < count → get_or new (k + 1) d ≡ get_or old k d)
    → take (count + 1) (slice_set new place x) ≡ insert (take count old) place x
inserted old new count place x d size within room before after =
    let long : length (slice_set new place x) ≡ length old = length-set new place x ∙ size in
    let short : length (take count old) ≡ count = length-take-le count old (omega (arith, room)) in
    let left : length (take (count + 1) (slice_set new place x)) ≡ count + 1 = length-take-le (count + 1) (slice_set new place x) (omega (arith, long, room)) in
    let in_place : place ≤ length (take count old) = omega (arith, short, within) in
    ext_get_or d (take (count + 1) (slice_set new place x)) (insert (take count old) place x) (omega (arith, left, short, length-insert (take count old) place x in_place))
    (λ k l. (
    let inside : k < count + 1 = omega (arith, l, left) in
    get_or-take (count + 1) (slice_set new place x) k d inside
    ∙ elim (cases_lt k place) [
      | inl low ↦ get_or-set_other new place k x d (λ e. absurd (omega (arith, low, e))) ∙ (before k low ∙ sym (get_or-insert_below (take count old) place x d k low in_place ∙ get_or-take count old k d (omega (arith, low, within))))
      | inr high ↦ elim (cases_lt place k) [
        | inl above ↦ (
            let e : k - 1 + 1 ≡ k = omega (arith, above) in
            subst (λ z. get_or (slice_set new place x) z d ≡ get_or (insert (take count old) place x) z d) e
            (get_or-set_other new place (k - 1 + 1) x d (λ q. absurd (omega (arith, above, q)))
            ∙ (after (k - 1) (omega (arith, above)) (omega (arith, inside, above)) ∙ sym (get_or-insert_above (take count old) place x d (k - 1) (omega (arith, above)) in_place ∙ get_or-take count old (k - 1) d (omega (arith, inside, above))))))
        | inr at ↦ (
            let e : place ≡ k = omega (arith, high, at) in
            subst (λ z. get_or (slice_set new place x) z d ≡ get_or (insert (take count old) place x) z d) e
            (get_or-set_same new place x d (omega (arith, within, room, size)) ∙ sym (get_or-insert_at (take count old) place x d in_place)))
      ]
    ]))
