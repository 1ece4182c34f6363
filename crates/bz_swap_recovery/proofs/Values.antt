-- An image of lawful words holds the values to which they resolve, by the swap's own reading too.
use Rattle.std.proofs.Common.{◌≡◌, ◌≢◌, ℕ, ◌+◌, ◌%◌, ◌^◌, ◌<◌, ◌≤◌, ◌==◌, if◌then◌else◌, Bool, true, false, List, arith, refl, ap, sym, ◌∙◌, inl, inr}
use Rattle.std.specs.Prelude.{slice_index}
use Rattle.std.proofs.lemmas.Bool.{and_parts, cases_eq}
use Rattle.std.proofs.lemmas.Bool.Decides.{nat_tests}
use Rattle.bz_content.specs.Lawful.{is_word, is_lawful as is_lawful_in}
use Rattle.bz_content.specs.Resolving.{count_in, entry_for, status_in, stands_for, resolve, SUCCEEDED}
use Rattle.bz_layout.specs.Addresses.{swap_address}
use Rattle.bz_swap.specs.Resolve.{entries_at, resolve as swap_value}
use Rattle.bz_swap_cells.specs.Store.{IsOutside, is_outside, kind_at, status_at, status_of}
use Rattle.bz_swap_image.proofs.Descriptors.{first-is, reads-alike, status-word}
use Rattle.bz_swap_machine.specs.Machine.{is_succeeded, resolve as resolved}
use Rattle.bz_sweep.proofs.Entries.{entry-least}
use Rattle.bz_sweep.proofs.Named.{HasTarget, IsBegun, IsNamed, Pointed, named, of-swap, pointer-named, tag-named, told}
use Rattle.bz_sweep.specs.Lawful.{is_lawful, is_named}
use Rattle.bz_sweep.specs.Words.{IsImage, IsOfSwap, IsShared}
use Rattle.bz_sweep.specs.declared.area.Area.{Area}
use Rattle.bz_word.specs.Kinds.{kind}
use Rattle.bz_word.specs.declared.kind.WordKind.{WordKind}
use Rattle.bz_word.specs.declared.kind.WordKind.TheVariants.{Value, Dirty, Swap, Tag}
use Rattle.bz_swap_recovery.specs.Laws.{LawfulImagesHoldTheirValues}

pub outside : (r : Area) (swaps a : ℕ) → swaps ≡ r.swaps → IsShared r a → IsOutside swaps a
outside r swaps a same h = elim h.outside [ inl low ↦ inl low | inr high ↦ inr (omega (arith, high, same)) ]

-- what stands at an address outside the descriptors
kind-is : (swaps : ℕ) (image : List ℕ) (a : ℕ) → IsOutside swaps a → kind_at swaps image a ≡ kind (slice_index image a)
kind-is swaps image a h = let e : is_outside swaps a ≡ true = grind (arith, nat_tests) in rw e refl

-- a lawful word fits 64 bits
fits-word : (r : Area) (raw : ℕ → ℕ) (a : ℕ) → is_lawful r raw a ≡ true → raw a < 2 ^ 64
unfolding is_lawful_in
fits-word r raw a t = (told (raw a) (and_parts (is_word (raw a)) _ t).0).size

no : (x n : ℕ) → x ≢ n → (x == n) ≡ false
no x n ne = grind (arith, nat_tests)

-- a status of 64 bits, free or not, says to both whether the swap has succeeded
status-any : (x : ℕ) → x < 2 ^ 64 → (x % 2 ^ 63 == 2) ≡ is_succeeded (status_of x)
unfolding status_of
status-any x fits = elim (cases_eq x 1) [
  | inl e ↦ rw e refl
  | inr a ↦ elim (cases_eq x (2 ^ 63 + 2)) [
    | inl e ↦ rw e refl
    | inr b ↦ elim (cases_eq x (2 ^ 63 + 3)) [
      | inl e ↦ rw e refl
      | inr d ↦ elim (cases_eq x 2) [
        | inl e ↦ rw e refl
        | inr f ↦ elim (cases_eq x 3) [
          | inl e ↦ rw e refl
          | inr g ↦ (
              let other : x % 2 ^ 63 ≢ 2 = λ is. omega (arith, fits, b, f, is) in
              rw (no x 1 a, no x (2 ^ 63 + 2) b, no x (2 ^ 63 + 3) d, no x 2 f, no x 3 g) (no (x % 2 ^ 63) 2 other))
        ]
      ]
    ]
  ]
]

if-same : (b d : Bool) {v w x y : ℕ} → b ≡ d → v ≡ w → x ≡ y → (if b then v else x) ≡ (if d then w else y)
if-same true true e f g = f
if-same true false e f g = absurd (cc)
if-same false true e f g = absurd (cc)
if-same false false e f g = g

module _ (r : Area) (values : ℕ → ℕ) (swaps : ℕ) (image : List ℕ) (same : swaps ≡ r.swaps) (is : IsImage r values (slice_index image)) where
  status : (s : ℕ) → s < r.swaps → (status_in (slice_index image) s == SUCCEEDED) ≡ is_succeeded (status_at swaps image s)
  status s number =
      let at : IsOfSwap r (swap_address s + 0) = of-swap r s 0 number (omega arith) in
      status-any (slice_index image (swap_address s + 0)) (fits-word r (slice_index image) (swap_address s + 0) (is.lawful (swap_address s + 0) at.within))
      ∙ ap is_succeeded (sym (status-word swaps image s (omega (arith, number, same))))

  pointer : (a s : ℕ) → Pointed r (slice_index image) a s → resolved (entries_at swaps image) (status_at swaps image) a (Swap s) ≡ stands_for (slice_index image) a (Swap s)
  pointer a s p =
      let begun : IsBegun r (slice_index image) s = p.has.begun in
      let alike = reads-alike swaps image s (omega (arith, begun.number, same)) in
      let least : entry_for (slice_index image) s a 0 (count_in (slice_index image) s) ≤ p.entry = entry-least (slice_index image) s a 0 (count_in (slice_index image) s) p.entry (omega arith) (omega (arith, p.has.entry)) p.has.target in
      let below : entry_for (slice_index image) s a 0 (count_in (slice_index image) s) < 4 = omega (arith, least, p.has.entry, begun.few) in
      let index : (entries_at swaps image s).index a ≡ entry_for (slice_index image) s a 0 (count_in (slice_index image) s) =
      first-is (entries_at swaps image s) (slice_index image) s a (entries_at swaps image s).count 0 (λ j less. alike.target j (omega (arith, less, alike.count, begun.few)))
      ∙ ap (entry_for (slice_index image) s a 0) alike.count in
      if-same _ _ (sym (status s begun.number))
      (ap (entries_at swaps image s).value index ∙ alike.value _ below)
      (ap (entries_at swaps image s).expected index ∙ alike.expected _ below)

  stands : (a : ℕ) (k : WordKind) → is_named r (slice_index image) a k ≡ true → resolved (entries_at swaps image) (status_at swaps image) a k ≡ stands_for (slice_index image) a k
  stands a (Value v) t = refl
  stands a (Dirty v) t = refl
  stands a (Swap s) t = pointer a s (pointer-named r (slice_index image) a s t)
  stands a (Tag s i w q) t =
      let h : HasTarget r (slice_index image) a s i = tag-named r (slice_index image) a s i w q t in
      (reads-alike swaps image s (omega (arith, h.begun.number, same))).expected i (omega (arith, h.entry, h.begun.few))

  pub holds : (a : ℕ) → IsShared r a → swap_value swaps image a ≡ values a
  unfolding resolve
  holds a shared =
      let n : IsNamed r (slice_index image) a = named r (slice_index image) a shared (is.lawful a shared.within) in
      ap (resolved (entries_at swaps image) (status_at swaps image) a) (kind-is swaps image a (outside r swaps a same shared))
      ∙ (stands a (kind (slice_index image a)) n.named ∙ is.resolved a shared)

pub images-hold : LawfulImagesHoldTheirValues
images-hold r values m a same is shared = holds r values m.swaps m.durable same is a shared
