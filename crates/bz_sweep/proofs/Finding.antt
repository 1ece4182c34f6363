-- What a word that was loaded tells of its value, and which word of a descriptor holds it.
use Rattle.std.proofs.Common.{◌≡◌, ◌≢◌, ◌⊎◌, ℕ, ◌+◌, ◌^◌, ◌<◌, ◌≤◌, ◌==◌, ◌%◌, Bool, true, false, arith, refl, sym, ap, ◌∙◌, inl, inr, subst}
use Rattle.std.specs.Prelude.{if◌then◌else◌}
use Rattle.std.proofs.lemmas.Bool.{cases_lt, true≢false}
use Rattle.bz_sweep.specs.Lawful.{is_named}
use Rattle.bz_content.specs.Resolving.{status_in, count_in, target_in, expected_in, value_in, entry_for, pointed, stands_for, resolve, SUCCEEDED}
use Rattle.bz_layout.specs.Addresses.{swap_address}
use Rattle.bz_sweep.specs.declared.area.Area.{Area}
use Rattle.bz_layout.specs.declared.sizes.TheConstants.{MAX_ENTRIES, SWAP_STATUS_AT}
use Rattle.bz_word.specs.Kinds.{kind, word, IsKind, IsWord}
use Rattle.bz_word.proofs.Lemmas.{kinds}
use Rattle.bz_word.proofs.Proved.{values}
use Rattle.bz_word.specs.declared.kind.WordKind.{WordKind}
use Rattle.bz_word.specs.declared.kind.WordKind.TheVariants.{Value, Swap, Tag}
use Rattle.bz_sweep.proofs.Entries.{entry-least, entry-hits}
use Rattle.bz_sweep.proofs.Named.{told, HasTarget, Pointed, IsNamed, named, pointer-named, tag-named, of-entry, of-swap}
use Rattle.bz_sweep.specs.Duties.{IsSought, IsValueAt}
use Rattle.bz_sweep.specs.Memory.{Memory}
use Rattle.bz_sweep.specs.Places.{entry_address}
use Rattle.bz_sweep.specs.Words.{IsShared, IsOfSwap, IsSwept}
use Rattle.bz_sweep.specs.declared.phase.Pointer.{Pointer}

-- the durable word is the loaded one, of this kind
pub loaded : (r : Area) (v : ℕ → ℕ) (m : Memory) (u a x : ℕ) → IsShared r a → IsSwept r v m u a → m.cached a ≡ x → m.durable a ≡ x
loaded r v m u a x s h e = sym (h.ahead a s (omega arith)) ∙ e

pub kind-found : (r : Area) (v : ℕ → ℕ) (m : Memory) (u a x : ℕ) (k : WordKind) → IsShared r a → IsSwept r v m u a → m.cached a ≡ x → IsKind k × (word k ≡ x) → kind (m.durable a) ≡ k
kind-found r v m u a x k s h e says = ap kind (loaded r v m u a x s h e ∙ sym says.1) ∙ kinds.value k says.0

-- and this is its value
pub value-found : (r : Area) (v : ℕ → ℕ) (m : Memory) (u a : ℕ) (k : WordKind) → IsShared r a → IsSwept r v m u a → kind (m.durable a) ≡ k → stands_for m.durable a k ≡ v a
unfolding resolve
value-found r v m u a k s h e = ap (stands_for m.durable a) (sym e) ∙ h.image.resolved a s

-- a plain word is its value
pub plain-found : (r : Area) (v : ℕ → ℕ) (m : Memory) (u a x y : ℕ) → IsShared r a → IsSwept r v m u a → m.cached a ≡ x → IsKind (Value y) × (word (Value y) ≡ x) → m.durable a ≡ v a
plain-found r v m u a x y s h e says =
    loaded r v m u a x s h e ∙ (sym says.1 ∙ value-found r v m u a (Value y) s h (kind-found r v m u a x (Value y) s h e says))

is-named : (r : Area) (v : ℕ → ℕ) (m : Memory) (u a : ℕ) → IsShared r a → IsSwept r v m u a → IsNamed r m.durable a
is-named r v m u a s h = named r m.durable a s (h.image.lawful a s.within)

pub some-kind : (r : Area) (v : ℕ → ℕ) (m : Memory) (u a x : ℕ) → IsShared r a → IsSwept r v m u a → m.cached a ≡ x → IsWord x
some-kind r v m u a x s h e = subst IsWord (loaded r v m u a x s h e) (told (m.durable a) (is-named r v m u a s h).word)

-- a word of another kind than a value is none
pub unresolved-found : (x : ℕ) (k : WordKind) → kind x ≡ k → ((y : ℕ) → k ≢ Value y) → 2 ^ 61 ≤ x
unresolved-found x k e other = elim (cases_lt x (2 ^ 61)) [
  | inl small ↦ absurd (other x (sym e ∙ (values x small).1))
  | inr large ↦ large
]

-- a tag's value is the expected one of its entry
pub tag-found : (r : Area) (v : ℕ → ℕ) (m : Memory) (u a s e w q at : ℕ) → IsShared r a → IsSwept r v m u a → kind (m.durable a) ≡ Tag s e w q → at ≡ entry_address s e 1 → IsValueAt r v m a at
tag-found r v m u a s e w q at shared h k place =
    let t : HasTarget r m.durable a s e = tag-named r m.durable a s e w q (subst (λ x. is_named r m.durable a x ≡ true) k (is-named r v m u a shared h).named) in
    record {
      place = subst (IsOfSwap r) (sym place) (of-entry r s e 1 t.begun.number (omega (arith, t.entry, t.begun.few)) (omega arith));
      value = ap m.durable place ∙ value-found r v m u a (Tag s e w q) shared h k;
    }

-- an entry of a pointer's descriptor has the address for its target
pub pointer-found : (r : Area) (v : ℕ → ℕ) (m : Memory) (u a s : ℕ) → IsShared r a → IsSwept r v m u a → kind (m.durable a) ≡ Swap s → Pointed r m.durable a s
pointer-found r v m u a s shared h k = pointer-named r m.durable a s (subst (λ x. is_named r m.durable a x ≡ true) k (is-named r v m u a shared h).named)

-- the word of a descriptor that is loaded is the durable one
pub of-descriptor : (r : Area) (v : ℕ → ℕ) (m : Memory) (u a s i k x : ℕ) → IsShared r a → IsSwept r v m u a → kind (m.durable a) ≡ Swap s → i < MAX_ENTRIES → k < 3 → m.cached (entry_address s i k) ≡ x → m.durable (entry_address s i k) ≡ x
of-descriptor r v m u a s i k x shared h pointer entry word e =
    let p : Pointed r m.durable a s = pointer-found r v m u a s shared h pointer in
    sym (h.swaps _ (of-entry r s i k p.has.begun.number entry word)) ∙ e

-- none before the last has it, so the last has
pub last-target : (r : Area) (v : ℕ → ℕ) (m : Memory) (u a : ℕ) (q : Pointer) (i : ℕ) → IsShared r a → IsSwept r v m u a → IsSought m a q i → i + 1 ≡ MAX_ENTRIES → target_in m.durable q.swap i ≡ a
last-target r v m u a q i shared h k last =
    let p : Pointed r m.durable a q.swap = pointer-found r v m u a q.swap shared h k.pointer in
    let below : p.entry < MAX_ENTRIES = omega (arith, p.has.entry, p.has.begun.few) in
    elim (cases_lt p.entry i) [
      | inl less ↦ absurd (k.others p.entry less p.has.target)
      | inr above ↦ (let same : p.entry ≡ i = omega (arith, above, below, last) in ap (target_in m.durable q.swap) (sym same) ∙ p.has.target)
    ]

-- which word of the entry is the value
abbrev pub IsChoice : Bool → ℕ → Type 0
IsChoice succeeded place = ((succeeded ≡ true) × (place ≡ 2)) ⊎ ((succeeded ≡ false) × (place ≡ 1))

chosen : (t b : Bool) (place x y z : ℕ) (at : ℕ → ℕ) → IsChoice b place → b ≡ t → at 2 ≡ x → at 1 ≡ y → (if t then x else y) ≡ z → at place ≡ z
chosen true b place x y z at (inl new) e two one is = ap at new.1 ∙ (two ∙ is)
chosen true b place x y z at (inr old) e two one is = absurd (true≢false (sym e ∙ old.0))
chosen false b place x y z at (inl new) e two one is = absurd (true≢false (sym new.0 ∙ e))
chosen false b place x y z at (inr old) e two one is = ap at old.1 ∙ (one ∙ is)

-- the first entry with the address
pub first-found : (r : Area) (v : ℕ → ℕ) (m : Memory) (u a : ℕ) (q : Pointer) (i : ℕ) → IsShared r a → IsSwept r v m u a → IsSought m a q i → target_in m.durable q.swap i ≡ a → entry_for m.durable q.swap a 0 (count_in m.durable q.swap) ≡ i
first-found r v m u a q i shared h k target =
    let p : Pointed r m.durable a q.swap = pointer-found r v m u a q.swap shared h k.pointer in
    let n : ℕ = count_in m.durable q.swap in
    let from : i ≤ p.entry = elim (cases_lt p.entry i) [ inl less ↦ absurd (k.others p.entry less p.has.target) | inr above ↦ above ] in
    let below : i < count_in m.durable q.swap = omega (arith, from, p.has.entry) in
    let least : entry_for m.durable q.swap a 0 (count_in m.durable q.swap) ≤ i = entry-least m.durable q.swap a 0 (count_in m.durable q.swap) i (omega arith) (omega (arith, below)) target in
    let hits : target_in m.durable q.swap (entry_for m.durable q.swap a 0 (count_in m.durable q.swap)) ≡ a = entry-hits m.durable q.swap a 0 (count_in m.durable q.swap) (omega (arith, below, least)) in
    elim (cases_lt (entry_for m.durable q.swap a 0 (count_in m.durable q.swap)) i) [
      | inl less ↦ absurd (k.others _ less hits)
      | inr above ↦ omega (arith, above, least)
    ]

pub sought-value : (r : Area) (v : ℕ → ℕ) (m : Memory) (u a : ℕ) (q : Pointer) (i place at : ℕ) → IsShared r a → IsSwept r v m u a → IsSought m a q i → i < MAX_ENTRIES → target_in m.durable q.swap i ≡ a → IsChoice q.succeeded place
    → at ≡ entry_address q.swap i place → IsValueAt r v m a at
sought-value r v m u a q i place at shared h k entry target choice is =
    let p : Pointed r m.durable a q.swap = pointer-found r v m u a q.swap shared h k.pointer in
    let first : entry_for m.durable q.swap a 0 (count_in m.durable q.swap) ≡ i = first-found r v m u a q i shared h k target in
    let value : pointed m.durable a q.swap ≡ v a = value-found r v m u a (Swap q.swap) shared h k.pointer in
    let small : place < 3 = elim choice [ inl new ↦ omega (arith, new.1) | inr old ↦ omega (arith, old.1) ] in
    record {
      place = subst (IsOfSwap r) (sym is) (of-entry r q.swap i place p.has.begun.number entry small);
      value = ap m.durable is ∙ chosen (status_in m.durable q.swap == SUCCEEDED) q.succeeded place (value_in m.durable q.swap i) (expected_in m.durable q.swap i) (v a) (λ w. m.durable (entry_address q.swap i w)) choice k.succeeded refl refl (rw first at value);
    }

-- what the status tells of a pointer, before any target is read
pub status-found : (r : Area) (v : ℕ → ℕ) (m : Memory) (u a s x : ℕ) → IsShared r a → IsSwept r v m u a → kind (m.durable a) ≡ Swap s → m.cached (swap_address s + SWAP_STATUS_AT) ≡ x → IsSought m a (record { swap = s; succeeded = x % 2 ^ 63 == SUCCEEDED }) 0
status-found r v m u a s x shared h k e =
    let p : Pointed r m.durable a s = pointer-found r v m u a s shared h k in
    let is : m.durable (swap_address s + SWAP_STATUS_AT) ≡ x = sym (h.swaps _ (of-swap r s SWAP_STATUS_AT p.has.begun.number (omega arith))) ∙ e in
    record {
      pointer = k;
      succeeded = ap (λ y. y % 2 ^ 63 == SUCCEEDED) (sym is);
      others = λ j l. absurd (omega (arith, l));
    }
