-- An image keeps its values where words outside the descriptors become them, and where descriptors that no word names
-- become free.
use Rattle.std.proofs.Common.{◌≡◌, ◌⊎◌, ℕ, ◌^◌, ◌<◌, ◌≤◌, ◌==◌, ◌%◌, Bool, true, false, arith, refl, ap, ◌∙◌, inl, inr, subst}
use Rattle.std.specs.Prelude.{if◌then◌else◌, not, nat_le, ◌&&◌}
use Rattle.std.proofs.lemmas.Bool.{cases_Bool, cases_lt}
use Rattle.std.proofs.lemmas.Bool.Decides.{nat_tests}
use Rattle.bz_content.specs.Lawful.{is_word, is_value, is_fixed, is_lawful as is_lawful_in}
use Rattle.bz_sweep.specs.Lawful.{is_begun, is_named, is_in_descriptor, is_lawful}
use Rattle.bz_content.specs.Resolving.{status_in, count_in, target_in, expected_in, value_in, entry_for, stands_for, resolve, SUCCEEDED}
use Rattle.bz_layout.specs.Addresses.{swap_word_of}
use Rattle.bz_sweep.specs.Areas.{past_swaps, size_of}
use Rattle.bz_sweep.specs.declared.area.Area.{Area}
use Rattle.bz_layout.specs.declared.sizes.TheConstants.{SUPERBLOCK_WORDS, SWAP_STATUS_AT, SWAP_COUNT_AT, MAX_ENTRIES}
use Rattle.bz_slotted.specs.Tests.{every}
use Rattle.bz_word.specs.Kinds.{kind}
use Rattle.bz_word.proofs.Lemmas.{values, kinds}
use Rattle.bz_word.specs.declared.kind.WordKind.{WordKind}
use Rattle.bz_word.specs.declared.kind.WordKind.TheVariants.{Value, Dirty, Swap, Tag}
use Rattle.bz_sweep.proofs.Entries.{every-same, entry-same, entry-least}
use Rattle.bz_sweep.proofs.Named.{told, stands-plain, IsBegun, HasTarget, Pointed, IsNamed, named, pointer-named, tag-named, of-swap, of-entry, not-in-descriptor}
use Rattle.bz_sweep.specs.Words.{IsShared, IsOfSwap, IsImage}

-- the descriptors are the same
pub record SameSwaps (r : Area) (x y : ℕ → ℕ) : Type 0 where
  pub word : (a : ℕ) → IsOfSwap r a → y a ≡ x a

-- what they say then
pub record SameSwap (x y : ℕ → ℕ) (s : ℕ) : Type 0 where
  pub status : status_in y s ≡ status_in x s
  pub count : count_in y s ≡ count_in x s
  pub target : (i : ℕ) → i < MAX_ENTRIES → target_in y s i ≡ target_in x s i
  pub expected : (i : ℕ) → i < MAX_ENTRIES → expected_in y s i ≡ expected_in x s i
  pub value : (i : ℕ) → i < MAX_ENTRIES → value_in y s i ≡ value_in x s i

same-swap : (r : Area) (x y : ℕ → ℕ) (s : ℕ) → SameSwaps r x y → s < r.swaps → SameSwap x y s
same-swap r x y s h number = record {
  status = ap (λ n. n % 2 ^ 63) (h.word _ (of-swap r s SWAP_STATUS_AT number (omega arith)));
  count = h.word _ (of-swap r s SWAP_COUNT_AT number (omega arith));
  target = λ i l. h.word _ (of-entry r s i 0 number l (omega arith));
  expected = λ i l. h.word _ (of-entry r s i 1 number l (omega arith));
  value = λ i l. h.word _ (of-entry r s i 2 number l (omega arith));
}

same-begun : (r : Area) (x y : ℕ → ℕ) (s : ℕ) → SameSwap x y s → IsBegun r x s → is_begun r y s ≡ is_begun r x s
same-begun r x y s h b =
    let each : every (count_in x s) (λ i. is_value (expected_in y s i) && is_value (value_in y s i)) ≡ every (count_in x s) (λ i. is_value (expected_in x s i) && is_value (value_in x s i)) = every-same _ _ _ (λ i l. rw (h.expected i (omega (arith, l, b.few)), h.value i (omega (arith, l, b.few))) refl) in
    rw (h.status, h.count, each) refl

-- a word of a kind names what it named, and stands for what it stood for
pub record SameMeaning (r : Area) (x y : ℕ → ℕ) (a : ℕ) (k : WordKind) : Type 0 where
  pub named : is_named r y a k ≡ is_named r x a k
  pub stands : stands_for y a k ≡ stands_for x a k

by-status : (b : Bool) (v w e f : ℕ) → v ≡ w → e ≡ f → (if b then v else e) ≡ (if b then w else f)
by-status true v w e f p q = p
by-status false v w e f p q = q

same-pointer : (r : Area) (x y : ℕ → ℕ) (a s : ℕ) → SameSwaps r x y → Pointed r x a s → SameMeaning r x y a (Swap s)
same-pointer r x y a s h p =
    let same : SameSwap x y s = same-swap r x y s h p.has.begun.number in
    let few : count_in x s ≤ MAX_ENTRIES = p.has.begun.few in
    let least : entry_for x s a 0 (count_in x s) ≤ p.entry = entry-least x s a 0 (count_in x s) p.entry (omega arith) (omega (arith, p.has.entry)) p.has.target in
    let below : entry_for x s a 0 (count_in x s) < MAX_ENTRIES = omega (arith, p.has.entry, few, least) in
    let each : every (count_in x s) (λ i. not (target_in y s i == a)) ≡ every (count_in x s) (λ i. not (target_in x s i == a)) = every-same _ _ _ (λ i l. rw (same.target i (omega (arith, l, few))) refl) in
    let first : entry_for y s a 0 (count_in x s) ≡ entry_for x s a 0 (count_in x s) = entry-same x y s a 0 (count_in x s) (λ j l. same.target j (omega (arith, l, few))) in
    record {
      named = rw (same-begun r x y s same p.has.begun, same.count, each) refl;
      stands = rw (same.status, same.count, first) (by-status (status_in x s == SUCCEEDED) _ _ _ _ (same.value _ below) (same.expected _ below));
    }

same-tag : (r : Area) (x y : ℕ → ℕ) (a s e w q : ℕ) → SameSwaps r x y → HasTarget r x a s e → SameMeaning r x y a (Tag s e w q)
same-tag r x y a s e w q h p =
    let same : SameSwap x y s = same-swap r x y s h p.begun.number in
    let below : e < MAX_ENTRIES = omega (arith, p.entry, p.begun.few) in
    record {
      named = rw (same-begun r x y s same p.begun, same.count, same.target e below) refl;
      stands = same.expected e below;
    }

same-meaning : (r : Area) (x y : ℕ → ℕ) (a : ℕ) (k : WordKind) → SameSwaps r x y → is_named r x a k ≡ true → SameMeaning r x y a k
same-meaning r x y a (Value v) h t = record { named = refl; stands = refl }
same-meaning r x y a (Dirty v) h t = record { named = refl; stands = refl }
same-meaning r x y a (Swap s) h t = same-pointer r x y a s h (pointer-named r x a s t)
same-meaning r x y a (Tag s e w q) h t = same-tag r x y a s e w q h (tag-named r x a s e w q t)

-- a word that stays
stays-lawful : (r : Area) (x y : ℕ → ℕ) (a : ℕ) → SameSwaps r x y → IsShared r a → is_lawful r x a ≡ true → y a ≡ x a → is_lawful r y a ≡ true
unfolding is_lawful_in
stays-lawful r x y a h shared t e =
    let n : IsNamed r x a = named r x a shared t in
    let m : SameMeaning r x y a (kind (x a)) = same-meaning r x y a (kind (x a)) h n.named in
    rw (e, m.named) t

stays-resolved : (r : Area) (x y : ℕ → ℕ) (a : ℕ) → SameSwaps r x y → IsShared r a → is_lawful r x a ≡ true → y a ≡ x a → resolve y a ≡ resolve x a
unfolding resolve
stays-resolved r x y a h shared t e =
    let n : IsNamed r x a = named r x a shared t in
    let m : SameMeaning r x y a (kind (x a)) = same-meaning r x y a (kind (x a)) h n.named in
    rw e m.stands

-- a plain word
value-word : (x : ℕ) → x < 2 ^ 61 → is_word x ≡ true
value-word x small = grind (arith, nat_tests)

by-fixed : (f v n : Bool) → v ≡ true → n ≡ true → (if f then v else n) ≡ true
by-fixed true v n p q = p
by-fixed false v n p q = q

pub plain-lawful : (r : Area) (y : ℕ → ℕ) (a : ℕ) → IsShared r a → y a < 2 ^ 61 → is_lawful r y a ≡ true
unfolding is_lawful_in
plain-lawful r y a shared small =
    let v : is_value (y a) ≡ true = grind (arith, nat_tests) in
    rw (value-word (y a) small, not-in-descriptor r a shared) (by-fixed (is_fixed a) _ _ v (rw (values (y a) small).1 refl))

pub plain-resolved : (y : ℕ → ℕ) (a : ℕ) → y a < 2 ^ 61 → resolve y a ≡ y a
unfolding resolve
plain-resolved y a small = ap (stands_for y a) (values (y a) small).1

-- a word of a descriptor
in-descriptor : (r : Area) (a : ℕ) → IsOfSwap r a → is_in_descriptor r a ≡ true
in-descriptor r a h = elim (cases_Bool (is_in_descriptor r a)) [
  | inl t ↦ t
  | inr f ↦ absurd (h.inside (elim (cases_lt a SUPERBLOCK_WORDS) [ inl l ↦ inl l | inr g ↦ inr (grind (arith, nat_tests)) ]))
]

swap-lawful : (r : Area) (x y : ℕ → ℕ) (a : ℕ) → IsOfSwap r a → is_lawful r x a ≡ true → y a ≡ x a → is_lawful r y a ≡ true
unfolding is_lawful_in
swap-lawful r x y a h t e = let d : is_in_descriptor r a ≡ true = in-descriptor r a h in rw (e, d) (rw d at t)

by-word : (b : Bool) → (if b then nat_le (0 % 2 ^ 63) 3 else is_value 0) ≡ true
by-word true = refl
by-word false = refl

free-lawful : (r : Area) (y : ℕ → ℕ) (a : ℕ) → IsOfSwap r a → y a ≡ 0 → is_lawful r y a ≡ true
unfolding is_lawful_in
free-lawful r y a h e = rw (e, in-descriptor r a h) (by-word (swap_word_of a == SWAP_STATUS_AT))

-- an address is of one kind or the other
pub place : (r : Area) (a : ℕ) → a < size_of r → IsShared r a ⊎ IsOfSwap r a
place r a within = elim (cases_lt a SUPERBLOCK_WORDS) [
  | inl low ↦ inl (record { within = within; outside = inl low })
  | inr above ↦ elim (cases_lt a (past_swaps r 0)) [
    | inl low ↦ inr (record { within = within; inside = λ o. elim o [ inl l ↦ omega arith | inr g ↦ omega arith ] })
    | inr high ↦ inl (record { within = within; outside = inr high })
  ]
]

-- values are plain
pub plain-value : (r : Area) (v x : ℕ → ℕ) → IsImage r v x → (a : ℕ) → IsShared r a → v a < 2 ^ 61
unfolding resolve
plain-value r v x image a s =
    let n : IsNamed r x a = named r x a s (image.lawful a s.within) in
    subst (λ y. y < 2 ^ 61) (image.resolved a s) (stands-plain r x a (kind (x a)) n.named (kinds.range (x a) (told (x a) n.word)))

-- words outside the descriptors stay or become their values
pub resolves : (r : Area) (v x y : ℕ → ℕ) → IsImage r v x → ((a : ℕ) → IsShared r a → (y a ≡ x a) ⊎ (y a ≡ v a)) → ((a : ℕ) → IsOfSwap r a → y a ≡ x a) → IsImage r v y
resolves r v x y image shared swaps = record {
  lawful = λ a within. elim (place r a within) [
    | inl s ↦ elim (shared a s) [
      | inl stays ↦ stays-lawful r x y a (record { word = swaps }) s (image.lawful a within) stays
      | inr becomes ↦ plain-lawful r y a s (rw becomes (plain-value r v x image a s))
    ]
    | inr s ↦ swap-lawful r x y a s (image.lawful a within) (swaps a s)
  ];
  resolved = λ a s. elim (shared a s) [
    | inl stays ↦ stays-resolved r x y a (record { word = swaps }) s (image.lawful a s.within) stays ∙ image.resolved a s
    | inr becomes ↦ plain-resolved y a (rw becomes (plain-value r v x image a s)) ∙ becomes
  ];
}

-- words outside the descriptors are their values, and words of descriptors stay or become 0
pub frees : (r : Area) (v x y : ℕ → ℕ) → IsImage r v x → ((a : ℕ) → IsShared r a → y a ≡ v a) → ((a : ℕ) → IsOfSwap r a → (y a ≡ x a) ⊎ (y a ≡ 0)) → IsImage r v y
frees r v x y image shared swaps = record {
  lawful = λ a within. elim (place r a within) [
    | inl s ↦ plain-lawful r y a s (rw (shared a s) (plain-value r v x image a s))
    | inr s ↦ elim (swaps a s) [
      | inl stays ↦ swap-lawful r x y a s (image.lawful a within) stays
      | inr becomes ↦ free-lawful r y a s becomes
    ]
  ];
  resolved = λ a s. plain-resolved y a (rw (shared a s) (plain-value r v x image a s)) ∙ shared a s;
}

-- a power cut changes no durable word
pub keeps : (r : Area) (v x y : ℕ → ℕ) → IsImage r v x → ((a : ℕ) → y a ≡ x a) → IsImage r v y
keeps r v x y image same = resolves r v x y image (λ a s. inl (same a)) (λ a s. same a)
