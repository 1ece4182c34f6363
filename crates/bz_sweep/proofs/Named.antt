-- What a lawful word outside the descriptors says of the descriptor that it names.
use Rattle.std.proofs.Common.{◌≡◌, ℕ, ◌+◌, ◌^◌, ◌<◌, ◌≤◌, ◌==◌, Bool, true, false, arith, refl, sym, inl, inr}
use Rattle.std.specs.Prelude.{if◌then◌else◌, not, nat_lt, nat_le, ◌&&◌}
use Rattle.std.proofs.lemmas.Bool.{and_parts, true≢false}
use Rattle.std.proofs.lemmas.Bool.Decides.{nat_tests}
use Rattle.bz_content.specs.Lawful.{is_word, is_value, is_fixed, is_lawful as is_lawful_in}
use Rattle.bz_sweep.specs.Lawful.{is_begun, is_named, is_in_descriptor, is_lawful}
use Rattle.bz_content.specs.Resolving.{count_in, target_in, expected_in, value_in, stands_for, SUCCEEDED, entry_for, status_in}
use Rattle.bz_layout.specs.Addresses.{swap_address}
use Rattle.bz_sweep.specs.declared.area.Area.{Area}
use Rattle.bz_layout.specs.declared.sizes.TheConstants.{SWAP_WORDS, MAX_ENTRIES}
use Rattle.bz_slotted.proofs.Neighbours.{every-at}
use Rattle.bz_word.specs.Kinds.{kind, IsKind, IsWord}
use Rattle.bz_word.proofs.Lemmas.{values}
use Rattle.bz_word.specs.declared.kind.WordKind.{WordKind}
use Rattle.bz_word.specs.declared.kind.WordKind.TheVariants.{Value, Dirty, Swap, Tag}
use Rattle.bz_sweep.proofs.Entries.{Fails, some-fails, entry-least}
use Rattle.bz_sweep.specs.Places.{entry_address}
use Rattle.bz_sweep.specs.Words.{IsShared, IsOfSwap}

-- a descriptor that has begun
pub record IsBegun (r : Area) (raw : ℕ → ℕ) (s : ℕ) : Type 0 where
  pub number : s < r.swaps
  pub few : count_in raw s ≤ MAX_ENTRIES
  pub expected : (i : ℕ) → i < count_in raw s → expected_in raw s i < 2 ^ 61
  pub value : (i : ℕ) → i < count_in raw s → value_in raw s i < 2 ^ 61

-- an entry of it has this target
pub record HasTarget (r : Area) (raw : ℕ → ℕ) (a s i : ℕ) : Type 0 where
  pub begun : IsBegun r raw s
  pub entry : i < count_in raw s
  pub target : target_in raw s i ≡ a

less : (a b : ℕ) → nat_lt a b ≡ true → a < b
less a b t = grind (arith, nat_tests)

at-most : (a b : ℕ) → nat_le a b ≡ true → a ≤ b
at-most a b t = grind (arith, nat_tests)

same : (a b : ℕ) → (a == b) ≡ true → a ≡ b
same a b t = grind (arith, nat_tests)

plain : (x : ℕ) → is_value x ≡ true → x < 2 ^ 61
plain x t = grind (arith, nat_tests)

pub begun : (r : Area) (raw : ℕ → ℕ) (s : ℕ) → is_begun r raw s ≡ true → IsBegun r raw s
begun r raw s t =
    let p = and_parts _ _ t in
    let q = and_parts _ _ p.1 in
    let z = and_parts _ _ q.1 in
    let w = and_parts _ _ z.1 in
    record {
      number = less _ _ p.0;
      few = at-most _ _ w.0;
      expected = λ i l. (let e = and_parts _ _ (every-at (λ j. is_value (expected_in raw s j) && is_value (value_in raw s j)) (count_in raw s) i w.1 l) in plain _ e.0);
      value = λ i l. (let e = and_parts _ _ (every-at (λ j. is_value (expected_in raw s j) && is_value (value_in raw s j)) (count_in raw s) i w.1 l) in plain _ e.1);
    }

-- the address of a word of a descriptor
pub of-swap : (r : Area) (s k : ℕ) → s < r.swaps → k < SWAP_WORDS → IsOfSwap r (swap_address s + k)
of-swap r s k number word = record {
  within = omega arith;
  inside = λ o. elim o [ inl below ↦ omega arith | inr above ↦ omega arith ];
}

pub of-entry : (r : Area) (s i k : ℕ) → s < r.swaps → i < MAX_ENTRIES → k < 3 → IsOfSwap r (entry_address s i k)
of-entry r s i k number entry word = record {
  within = omega arith;
  inside = λ o. elim o [ inl below ↦ omega arith | inr above ↦ omega arith ];
}

pub not-in-descriptor : (r : Area) (a : ℕ) → IsShared r a → is_in_descriptor r a ≡ false
not-in-descriptor r a h = elim h.outside [ inl below ↦ grind (arith, nat_tests) | inr above ↦ grind (arith, nat_tests) ]

-- a lawful word outside the descriptors is of a kind that may stand there
pub record IsNamed (r : Area) (raw : ℕ → ℕ) (a : ℕ) : Type 0 where
  pub word : is_word (raw a) ≡ true
  pub named : is_named r raw a (kind (raw a)) ≡ true

by-fixed : (r : Area) (raw : ℕ → ℕ) (a : ℕ) (f : Bool) → (if f then is_value (raw a) else is_named r raw a (kind (raw a))) ≡ true → is_named r raw a (kind (raw a)) ≡ true
by-fixed r raw a true t = let small : raw a < 2 ^ 61 = grind (arith, nat_tests) in rw (values (raw a) small).1 refl
by-fixed r raw a false t = t

pub named : (r : Area) (raw : ℕ → ℕ) (a : ℕ) → IsShared r a → is_lawful r raw a ≡ true → IsNamed r raw a
unfolding is_lawful_in
named r raw a h t =
    let d : is_in_descriptor r a ≡ false = not-in-descriptor r a h in
    let p = and_parts _ _ (rw d at t) in
    record { word = p.0; named = by-fixed r raw a (is_fixed a) p.1 }

-- an entry of a pointer's descriptor
pub record Pointed (r : Area) (raw : ℕ → ℕ) (a s : ℕ) : Type 0 where
  pub entry : ℕ
  pub has : HasTarget r raw a s entry

not-true : (b : Bool) → not b ≡ true → b ≡ false
not-true false e = refl
not-true true e = absurd (true≢false (sym e))

not-false : (b : Bool) → not b ≡ false → b ≡ true
not-false true e = refl
not-false false e = absurd (true≢false e)

pub pointer-named : (r : Area) (raw : ℕ → ℕ) (a s : ℕ) → is_named r raw a (Swap s) ≡ true → Pointed r raw a s
pointer-named r raw a s t =
    let p = and_parts _ _ t in
    let f : Fails (count_in raw s) (λ i. not (target_in raw s i == a)) = some-fails _ _ (not-true _ p.1) in
    let e : (target_in raw s f.at == a) ≡ true = not-false _ f.fails in
    record { entry = f.at; has = record { begun = begun r raw s p.0; entry = f.below; target = same _ _ e } }

pub tag-named : (r : Area) (raw : ℕ → ℕ) (a s e w q : ℕ) → is_named r raw a (Tag s e w q) ≡ true → HasTarget r raw a s e
tag-named r raw a s e w q t =
    let p = and_parts _ _ t in
    let z = and_parts _ _ p.1 in
    record { begun = begun r raw s p.0; entry = less _ _ z.0; target = same _ _ z.1 }

-- there is no word without a kind
pub told : (x : ℕ) → is_word x ≡ true → IsWord x
told x t = record { size = grind (arith, nat_tests); control = grind (arith, nat_tests); pointer = λ p. grind (arith, nat_tests); worker = λ p. (grind (arith, nat_tests), grind (arith, nat_tests)) }

-- what a word of a kind stands for is plain
pub stands-plain : (r : Area) (raw : ℕ → ℕ) (a : ℕ) (k : WordKind) → is_named r raw a k ≡ true → IsKind k → stands_for raw a k < 2 ^ 61
stands-plain r raw a (Value v) t k = k
stands-plain r raw a (Dirty v) t k = k
stands-plain r raw a (Swap s) t k =
    let p : Pointed r raw a s = pointer-named r raw a s t in
    let least : entry_for raw s a 0 (count_in raw s) ≤ p.entry = entry-least raw s a 0 (count_in raw s) p.entry (omega arith) (omega (arith, p.has.entry)) p.has.target in
    let below : entry_for raw s a 0 (count_in raw s) < count_in raw s = omega (arith, least, p.has.entry) in
    either (status_in raw s == SUCCEEDED) _ _ (p.has.begun.value _ below) (p.has.begun.expected _ below)
  where
    either : (b : Bool) (x y : ℕ) → x < 2 ^ 61 → y < 2 ^ 61 → (if b then x else y) < 2 ^ 61
    either true x y p q = p
    either false x y p q = q
stands-plain r raw a (Tag s e w q) t k = let h : HasTarget r raw a s e = tag-named r raw a s e w q t in h.begun.expected e h.entry
