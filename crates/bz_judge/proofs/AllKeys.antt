-- What holds of each key among records stays so where they are joined or put in order; and the keys of a leaf lie between its
-- bounds.
use Rattle.std.proofs.Common.{◌≡◌, ℕ, zero, suc, ◌<◌, if◌then◌else◌, Bool, true, false, List, [], ◌∷◌, ◌++◌, length, arith, refl, sym, subst, ◌∙◌, Option}
use Rattle.std.specs.Cmp.Lexicographic.{slice_cmp}
use Rattle.std.specs.FinMap.{from_entries, entries, entries-insert, len-entries, len-empty}
use Rattle.std.specs.FinMap.Entries.{by_order, put}
use Rattle.std.specs.Ordering.{nat_cmp}
use Rattle.std.specs.declared.cmp.Ordering.{Ordering}
use Rattle.std.specs.declared.cmp.Ordering.TheVariants.{Less, Equal, Greater}
use Rattle.std.proofs.lemmas.Cmp.{nat_list_cmp_total}
use Rattle.bz_tree.specs.Content.{Pairs}
use Rattle.bz_tree.specs.Order.{is_within}
use Rattle.bz_slotted.specs.Page.{visible, extent_of}
use Rattle.bz_slotted.specs.Records.{key_in, payload_in, records_to}
use Rattle.bz_word.specs.declared.meta.Meta.{Meta}
use Rattle.bz_judge.specs.Inside.Gathers.{in_order}

-- each key is such a one
abbrev pub KeysAre : (List ℕ → Type 0) → Pairs → Type 0
KeysAre P [] = Unit {0}
KeysAre P (x ∷ xs) = P x.0 × KeysAre P xs

pub keys-join : (P : List ℕ → Type 0) (xs ys : Pairs) → KeysAre P xs → KeysAre P ys → KeysAre P (xs ++ ys)
keys-join P [] ys h g = g
keys-join P (x ∷ xs) ys h g = (h.0, keys-join P xs ys h.1 g)

pub keys-so : (P Q : List ℕ → Type 0) (xs : Pairs) → ((key : List ℕ) → P key → Q key) → KeysAre P xs → KeysAre Q xs
keys-so P Q [] so h = tt
keys-so P Q (x ∷ xs) so h = (so x.0 h.0, keys-so P Q xs so h.1)

keys-put : (P : List ℕ → Type 0) (k v : List ℕ) (xs : Pairs) → P k → KeysAre P xs → KeysAre P (put (slice_cmp nat_cmp) k v xs)
keys-put P k v [] p h = (p, tt)
keys-put P k v (x ∷ xs) p h = go (slice_cmp nat_cmp k x.0) (keys-put P k v xs p h.1)
  where
    go : (o : Ordering) → KeysAre P (put (slice_cmp nat_cmp) k v xs) → KeysAre P (by_order o ((k, v) ∷ x ∷ xs) ((x.0, v) ∷ xs) (x ∷ put (slice_cmp nat_cmp) k v xs))
    go Less rest = (p, h)
    go Equal rest = h
    go Greater rest = (h.0, rest)

no-keys : (P : List ℕ → Type 0) (xs : Pairs) → length xs ≡ 0 → KeysAre P xs
no-keys P [] e = tt
no-keys P (x ∷ xs) e = absurd (omega arith)

-- the keys stay
pub keys-in-order : (P : List ℕ → Type 0) (xs : Pairs) → KeysAre P xs → KeysAre P (in_order xs)
unfolding in_order
keys-in-order P [] h = no-keys P _ (sym (len-entries (from_entries {R = slice_cmp nat_cmp} [])) ∙ len-empty (slice_cmp nat_cmp) (List ℕ))
keys-in-order P (x ∷ xs) h = subst (KeysAre P) (sym (entries-insert nat_list_cmp_total (from_entries xs) x.0 x.1)) (keys-put P x.0 x.1 (entries (from_entries xs)) h.0 (keys-in-order P xs h.1))

-- the records of a leaf, by the keys of its visible ones
pub keys-each : (P : List ℕ → Type 0) (n : ℕ → ℕ) (meta : ℕ → Meta) (count : ℕ) → ((j : ℕ) → j < count → visible (meta j) ≡ true → P (key_in n (extent_of (meta j)))) → KeysAre P (records_to n meta count)
unfolding records_to
keys-each P n meta zero each = tt
keys-each P n meta (suc k) each = keys-join P (records_to n meta k) _ (keys-each P n meta k (λ j l. each j (omega arith))) (last (visible (meta k)) refl)
  where
    last : (b : Bool) → visible (meta k) ≡ b → KeysAre P (if b then (key_in n (extent_of (meta k)), payload_in n (extent_of (meta k))) ∷ [] else [])
    last true shown = (each k (omega arith) shown, tt)
    last false hidden = tt

-- and by its rule of keys
pub keys-within : (n : ℕ → ℕ) (meta : ℕ → Meta) (low high : Option (List ℕ)) (count : ℕ) → ((j : ℕ) → j < count → visible (meta j) ≡ true → is_within (key_in n (extent_of (meta j))) low high ≡ true) →
    KeysAre (λ key. is_within key low high ≡ true) (records_to n meta count)
keys-within n meta low high count each = keys-each (λ key. is_within key low high ≡ true) n meta count each
