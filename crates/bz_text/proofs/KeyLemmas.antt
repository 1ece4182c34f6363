-- The keys of a map after a call's step.
use Rattle.std.proofs.Common.{◌≡◌, ◌≤◌, ◌<◌, ℕ, suc, ◌+◌, ◌-◌, Bool, true, false, List, [], ◌∷◌, length, get_or, drop, refl, sym, ap, subst, ◌∙◌, add-one, arith, Option, Some, None}
use Rattle.std.specs.Prelude.{if◌then◌else◌, is_some, not}
use Rattle.std.proofs.Math.Seq.{drop-cons}
use Rattle.std.proofs.lemmas.List.{drop_all}
use Rattle.std.specs.BTreeMap.{is_at}
use Rattle.std.specs.Cmp.{IsTotalOrder, eq_by_cmp_equiv}
use Rattle.std.specs.Cmp.Lexicographic.{slice_cmp, nat_list_cmp_total}
use Rattle.std.specs.FinMap.{get, insert, remove, empty, contains_key, len, get-insert, get-remove, get-empty, len-insert, len-remove, len-empty, get_tied, entries, from_entries, get-from_entries, get-entries, same_map, slice_cmp-IsAntisymmetric, nat_cmp-IsAntisymmetric}
use Rattle.std.specs.Ordering.{nat_cmp, eq_by_cmp, is_eq}
use Rattle.std.specs.declared.cmp.Ordering.{Ordering}
use Rattle.std.specs.declared.cmp.Ordering.TheVariants.{Less, Equal, Greater}
use Rattle.bz_call.specs.Map.{Map, apply, apply_at}
use Rattle.bz_call.specs.declared.calls.Call.TheVariants.{Insert, Delete, Update, Upsert, Get, Page}
use Rattle.bz_text.specs.Summing.{AreKeysOf, is_among}

abbrev Text : Type 0
Text = List ℕ

order : IsTotalOrder (slice_cmp nat_cmp)
order = nat_list_cmp_total

turned : (key q : Text) → is_at (slice_cmp nat_cmp key) q ≡ eq_by_cmp (slice_cmp nat_cmp) q key
turned key q = (eq_by_cmp_equiv order).symm key q

-- an empty map has no keys
pub keys-empty : AreKeysOf empty []
keys-empty = record { same = λ q. sym (ap is_some (get-empty (slice_cmp nat_cmp) q)); count = sym (len-empty (slice_cmp nat_cmp) Text) }

put_here : (b c among : Bool) (found : Option Text) (payload : Text) → b ≡ c → among ≡ is_some found → (if b then true else among) ≡ is_some (if c then Some payload else found)
put_here true true among found payload e h = refl
put_here true false among found payload e h = absurd cc
put_here false true among found payload e h = absurd cc
put_here false false among found payload e h = h

taken_here : (b c among : Bool) (found : Option Text) → b ≡ c → among ≡ is_some found → (if b then false else among) ≡ is_some (if c then None else found)
taken_here true true among found e h = refl
taken_here true false among found e h = absurd cc
taken_here false true among found e h = absurd cc
taken_here false false among found e h = h

count_put : (here added : Bool) (before after held : ℕ) → added ≡ not here → before ≡ held → after ≡ before + (if added then 1 else 0) → after ≡ (if here then held else held + 1)
count_put true true before after held e h k = absurd cc
count_put true false before after held e h k = omega arith
count_put false true before after held e h k = omega arith
count_put false false before after held e h k = absurd cc

count_taken : (here gone : Bool) (before after held : ℕ) → gone ≡ here → before ≡ held → after + (if gone then 1 else 0) ≡ before → after ≡ (if here then held - 1 else held)
count_taken true true before after held e h k = omega arith
count_taken true false before after held e h k = absurd cc
count_taken false true before after held e h k = absurd cc
count_taken false false before after held e h k = omega arith

-- a key is put
pub keys-put : (map : Map) (old new : List Text) (key payload : Text) (added : Bool) → AreKeysOf map old → added ≡ not (is_among key old)
    → ((q : Text) → is_among q new ≡ (if is_at (slice_cmp nat_cmp key) q then true else is_among q old)) → length new ≡ length old + (if added then 1 else 0)
    → AreKeysOf (insert map key payload) new
keys-put map old new key payload added h is others longer = record {
  same = λ q. others q ∙ (put_here _ _ _ (get map q) payload (turned key q) (h.same q) ∙ sym (ap is_some (get-insert order map key payload q)));
  count = count_put (contains_key map key) added (length old) (length new) (len map) (is ∙ ap not (h.same key)) h.count longer ∙ sym (len-insert order map key payload);
}

-- a key is taken out
pub keys-taken : (map : Map) (old new : List Text) (key : Text) (gone : Bool) → AreKeysOf map old → gone ≡ is_among key old
    → ((q : Text) → is_among q new ≡ (if is_at (slice_cmp nat_cmp key) q then false else is_among q old)) → length new + (if gone then 1 else 0) ≡ length old
    → AreKeysOf (remove map key) new
keys-taken map old new key gone h is others shorter = record {
  same = λ q. others q ∙ (taken_here _ _ _ (get map q) (turned key q) (h.same q) ∙ sym (ap is_some (get-remove order map key q)));
  count = count_taken (contains_key map key) gone (length old) (length new) (len map) (is ∙ h.same key) h.count shorter ∙ sym (len-remove order map key);
}

-- a key that the map has gets another payload
keys-again : (map : Map) (keys : List Text) (key payload : Text) → AreKeysOf map keys → contains_key map key ≡ true → AreKeysOf (insert map key payload) keys
keys-again map keys key payload h has = record {
  same = λ q. same_there (eq_by_cmp (slice_cmp nat_cmp) q key) q refl ∙ sym (ap is_some (get-insert order map key payload q));
  count = h.count ∙ (rw has at (sym (len-insert order map key payload)));
}
  where
    equal_from : (o : Ordering) → is_eq o ≡ true → o ≡ Equal
    equal_from Less e = absurd cc
    equal_from Equal e = refl
    equal_from Greater e = absurd cc

    tied : (q : Text) → eq_by_cmp (slice_cmp nat_cmp) q key ≡ true → slice_cmp nat_cmp q key ≡ Equal
    tied q e = equal_from (slice_cmp nat_cmp q key) e

    same_there : (b : Bool) (q : Text) → eq_by_cmp (slice_cmp nat_cmp) q key ≡ b → is_among q keys ≡ is_some (if b then Some payload else get map q)
    same_there true q e = h.same q ∙ (ap is_some (sym (get_tied order map q key (tied q e))) ∙ has)
    same_there false q e = h.same q

-- what was asked of the set that has the keys
pub record Puts (old new : List Text) (key : Text) (added : Bool) : Type 0 where
  pub is : added ≡ not (is_among key old)
  pub others : (q : Text) → is_among q new ≡ (if is_at (slice_cmp nat_cmp key) q then true else is_among q old)
  pub longer : length new ≡ length old + (if added then 1 else 0)
  pub unchanged : added ≡ false → new ≡ old

module _ (map : Map) (old new : List Text) (h : AreKeysOf map old) where
  pub step-insert : (key payload : Text) (added : Bool) → Puts old new key added → AreKeysOf (apply map (Insert key payload)).map new
  step-insert key payload added puts = by (get map key) refl
    where
      by : (found : Option Text) → get map key ≡ found → AreKeysOf (apply_at found map (Insert key payload)).map new
      by None e = keys-put map old new key payload added h puts.is puts.others puts.longer
      by (Some had) e =
          let here : is_among key old ≡ true = h.same key ∙ ap is_some e in
          rw (puts.unchanged (puts.is ∙ ap not here)) h

  pub step-upsert : (key payload : Text) (added : Bool) → Puts old new key added → AreKeysOf (apply map (Upsert key payload)).map new
  step-upsert key payload added puts = by (get map key)
    where
      by : (found : Option Text) → AreKeysOf (apply_at found map (Upsert key payload)).map new
      by None = keys-put map old new key payload added h puts.is puts.others puts.longer
      by (Some had) = keys-put map old new key payload added h puts.is puts.others puts.longer

  pub step-delete : (key : Text) (gone : Bool) → gone ≡ is_among key old → ((q : Text) → is_among q new ≡ (if is_at (slice_cmp nat_cmp key) q then false else is_among q old))
      → length new + (if gone then 1 else 0) ≡ length old → (gone ≡ false → new ≡ old) → AreKeysOf (apply map (Delete key)).map new
  step-delete key gone is others shorter unchanged = by (get map key) refl
    where
      by : (found : Option Text) → get map key ≡ found → AreKeysOf (apply_at found map (Delete key)).map new
      by None e =
          let here : is_among key old ≡ false = h.same key ∙ ap is_some e in
          rw (unchanged (is ∙ here)) h
      by (Some had) e = keys-taken map old new key gone h is others shorter

module _ (map : Map) (keys : List Text) (h : AreKeysOf map keys) where
  pub step-update : (key payload : Text) → AreKeysOf (apply map (Update key payload)).map keys
  step-update key payload = by (get map key) refl
    where
      by : (found : Option Text) → get map key ≡ found → AreKeysOf (apply_at found map (Update key payload)).map keys
      by None e = h
      by (Some had) e = keys-again map keys key payload h (ap is_some e)

  pub step-get : (key : Text) → AreKeysOf (apply map (Get key)).map keys
  step-get key = by (get map key)
    where
      by : (found : Option Text) → AreKeysOf (apply_at found map (Get key)).map keys
      by None = h
      by (Some had) = h

  pub step-page : (key : Text) → AreKeysOf (apply map (Page key)).map keys
  step-page key = by (get map key)
    where
      by : (found : Option Text) → AreKeysOf (apply_at found map (Page key)).map keys
      by None = h
      by (Some had) = h

abbrev Pairs : Type 0
Pairs = List (Text × Text)

-- the pairs of a map make it
whole : (map : Map) → from_entries (entries map) ≡ map
whole map = same_map order (slice_cmp-IsAntisymmetric nat_cmp-IsAntisymmetric) _ _ (λ q. get-from_entries order (entries map) q ∙ sym (get-entries map q))

pub keys-none : (pairs : Pairs) (n : ℕ) (keys : List Text) → length pairs ≤ n → keys ≡ [] → AreKeysOf (from_entries (drop n pairs)) keys
keys-none pairs n keys le none = rw (none, drop_all n pairs le) keys-empty

-- one pair more from behind
pub keys-next : (pairs : Pairs) (i : ℕ) (pair : Text × Text) (old new : List Text) (added : Bool) → i < length pairs → pair ≡ get_or pairs i pair
    → AreKeysOf (from_entries (drop (i + 1) pairs)) old → Puts old new pair.0 added → AreKeysOf (from_entries (drop i pairs)) new
keys-next pairs i pair old new added lt is h puts =
    let e : drop i pairs ≡ pair ∷ drop (i + 1) pairs = drop-cons pairs i pair lt ∙ (ap (λ (p : Text × Text). p ∷ drop (suc i) pairs) (sym is) ∙ ap (λ (n : ℕ). pair ∷ drop n pairs) (sym (add-one i))) in
    rw e (keys-put (from_entries (drop (i + 1) pairs)) old new pair.0 pair.1 added h puts.is puts.others puts.longer)

pub keys-whole : (map : Map) (pairs : Pairs) (keys : List Text) (left : ℕ) → left ≡ 0 → pairs ≡ entries map → AreKeysOf (from_entries (drop left pairs)) keys → AreKeysOf map keys
keys-whole map pairs keys left none is h =
    let start : from_entries (drop left pairs) ≡ map = ap (λ (n : ℕ). from_entries (drop n pairs)) none ∙ (ap from_entries is ∙ whole map) in
    subst (λ (m : Map). AreKeysOf m keys) start h
