-- What the leaves of a well-formed image give on a walk, each in the order of its keys, are the pairs that it holds.
use Rattle.std.proofs.Common.{◌≡◌, ◌≢◌, ℕ, ◌==◌, if◌then◌else◌, Bool, true, false, cond, List, [], ◌∷◌, ◌++◌, refl, sym, subst, ◌∙◌, Option}
use Rattle.std.specs.Prelude.{Some, None}
use Rattle.std.specs.Cmp.Lexicographic.{slice_cmp}
use Rattle.std.specs.FinMap.{find}
use Rattle.std.specs.Ordering.{nat_cmp, eq_by_cmp}
use Rattle.bz_content.specs.Content.{image_of, view_in}
use Rattle.bz_content.specs.Image.{node}
use Rattle.bz_content.specs.Map.{records_in}
use Rattle.bz_content.specs.Resolving.{resolve}
use Rattle.bz_content.proofs.Honesty.{no}
use Rattle.bz_layout.specs.declared.config.Config.{Config}
use Rattle.bz_tree.specs.Content.{Pairs, pairs_of}
use Rattle.bz_tree.specs.Order.{is_at_least, is_below, is_within}
use Rattle.bz_tree.specs.Walk.{Visit, walk, IsTree}
use Rattle.bz_slotted.specs.Page.{page}
use Rattle.bz_slotted.specs.Rules.{node_fault}
use Rattle.bz_slotted.specs.Whole.{Whole}
use Rattle.bz_slotted.proofs.Proved.{leaf_rules_are_facts}
use Rattle.bz_judge.specs.Held.{pairs_held}
use Rattle.bz_judge.specs.Inside.Gathers.{in_order}
use Rattle.bz_judge.proofs.AllKeys.{KeysAre, keys-so, keys-in-order, keys-within}
use Rattle.bz_judge.proofs.InOrder.{found-in-order, in-order-sorted, is-in-order}
use Rattle.bz_judge.proofs.Joined.{Lies}
use Rattle.bz_judge.proofs.Rising.{LeavesLie, lies-walk}
use Rattle.bz_judge.proofs.Scanned.{both}

unfoldable pub or_else : Option (List ℕ) → Option (List ℕ) → Option (List ℕ)
or_else (Some x) rest = Some x
or_else None rest = rest

pub find-join : (q : List ℕ) (xs ys : Pairs) → find (slice_cmp nat_cmp) q (xs ++ ys) ≡ or_else (find (slice_cmp nat_cmp) q xs) (find (slice_cmp nat_cmp) q ys)
unfolding or_else
find-join q [] ys = refl
find-join q (x ∷ xs) ys = go (eq_by_cmp (slice_cmp nat_cmp) q x.0) (find-join q xs ys)
  where
    go : (b : Bool) → find (slice_cmp nat_cmp) q (xs ++ ys) ≡ or_else (find (slice_cmp nat_cmp) q xs) (find (slice_cmp nat_cmp) q ys)
        → cond b (Some x.1) (find (slice_cmp nat_cmp) q (xs ++ ys)) ≡ or_else (cond b (Some x.1) (find (slice_cmp nat_cmp) q xs)) (find (slice_cmp nat_cmp) q ys)
    go true e = refl
    go false e = e

-- a look-up on a walk finds the same where it finds the same in each leaf
found-alike : (q : List ℕ) (f g : ℕ → Pairs) (us : List Visit) → ((k : ℕ) → find (slice_cmp nat_cmp) q (f k) ≡ find (slice_cmp nat_cmp) q (g k)) → find (slice_cmp nat_cmp) q (pairs_of f us) ≡ find (slice_cmp nat_cmp) q (pairs_of g us)
unfolding pairs_of
found-alike q f g [] same = refl
found-alike q f g (u ∷ us) same =
    find-join q (if u.level == 0 then f u.slot else []) (pairs_of f us)
    ∙ ((λ t. or_else (here (u.level == 0) t) (found-alike q f g us same t)) ∙ sym (find-join q (if u.level == 0 then g u.slot else []) (pairs_of g us)))
  where
    here : (b : Bool) → find (slice_cmp nat_cmp) q (if b then f u.slot else []) ≡ find (slice_cmp nat_cmp) q (if b then g u.slot else [])
    here true = same u.slot
    here false = refl

-- the leaves of an image
leaves-lie : (c : Config) (raw : ℕ → ℕ) → LeavesLie (view_in c raw) (λ k. in_order (records_in c (image_of raw) k))
leaves-lie c raw = record { leaf = leaf }
  where
    leaf : (u : Visit) → u.level ≡ 0 → u.slot ≢ c.nodes → (view_in c raw).fault u.slot u.level u.low u.high ≡ None → Lies u.low u.high (in_order (records_in c (image_of raw) u.slot))
    leaf u level slot none =
        let e : node_fault c.nodes (node c raw u.slot) (node c (resolve raw) u.slot) 0 u.low u.high ≡ None = subst (λ l. node_fault c.nodes (node c raw u.slot) (node c (resolve raw) u.slot) l u.low u.high ≡ None) level (rw (no u.slot c.nodes slot) at none) in
        let w : Whole (node c raw u.slot) (page (node c (resolve raw) u.slot)) u.low u.high = (leaf_rules_are_facts c.nodes (node c raw u.slot) (node c (resolve raw) u.slot) u.low u.high).0 e in
        let h : KeysAre (λ key. is_within key u.low u.high ≡ true) (records_in c (image_of raw) u.slot) = keys-within (node c (resolve raw) u.slot) (page (node c (resolve raw) u.slot)).meta u.low u.high (page (node c (resolve raw) u.slot)).count w.range in
        record {
          sorted = in-order-sorted (records_in c (image_of raw) u.slot);
          low = keys-in-order _ _ (keys-so _ (λ key. is_at_least key u.low ≡ true) _ (λ key t. (both (is_at_least key u.low) (is_below key u.high) t).first) h);
          high = keys-in-order _ _ (keys-so _ (λ key. is_below key u.high ≡ true) _ (λ key t. (both (is_at_least key u.low) (is_below key u.high) t).second) h);
        }

pub all-held : (c : Config) (raw : ℕ → ℕ) → IsTree (view_in c raw) → pairs_of (λ k. in_order (records_in c (image_of raw) k)) (walk (view_in c raw)) ≡ pairs_held c raw
unfolding in_order
all-held c raw tree =
    is-in-order (pairs_of (records_in c (image_of raw)) (walk (view_in c raw))) _ (lies-walk (view_in c raw) (λ k. in_order (records_in c (image_of raw) k)) tree (leaves-lie c raw)).sorted
    (λ q. found-alike q (λ k. in_order (records_in c (image_of raw) k)) (records_in c (image_of raw)) (walk (view_in c raw)) (λ k. found-in-order q (records_in c (image_of raw) k)))
