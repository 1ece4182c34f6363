-- Words that are lawful to the swap resolve to its values, and are lawful in an image.
use Rattle.std.proofs.Common.{◌≡◌, ℕ, zero, suc, ◌+◌, ◌^◌, ◌<◌, ◌==◌, ◌&&◌, not, if◌then◌else◌, Bool, true, false, List, arith, refl, ap, sym, ◌∙◌, inl, inr}
use Rattle.std.specs.Prelude.{nat_lt, nat_le, slice_index}
use Rattle.std.proofs.lemmas.Bool.{cases_eq, lt-ltb, le-leb, eq-eqb, eqb-true}
use Rattle.std.proofs.lemmas.Bool.Decides.{nat_tests}
use Rattle.bz_layout.specs.Addresses.{node_address}
use Rattle.bz_layout.specs.declared.config.Config.{Config}
use Rattle.bz_word.specs.Fields.{field}
use Rattle.bz_word.specs.Kinds.{kind, IsWord}
use Rattle.bz_word.specs.declared.kind.WordKind.{WordKind}
use Rattle.bz_word.specs.declared.kind.WordKind.TheVariants.{Value, Dirty, Swap, Tag}
use Rattle.bz_swap_machine.specs.Machine.{resolve as resolved}
use Rattle.bz_swap_cells.specs.Store.{IsOutside, is_outside, kind_at, status_at}
use Rattle.bz_slotted.specs.Tests.{every, implies}
use Rattle.bz_swap.specs.Lawful.{IsReadable, HasEntry, IsLawfulKind}
use Rattle.bz_swap.specs.Resolve.{entries_at}
use Rattle.bz_content.specs.Lawful.{is_word, is_value, is_begun, is_named, is_in_descriptor, is_lawful}
use Rattle.bz_content.specs.Resolving.{count_in, target_in, expected_in, value_in, stands_for, resolve}
use Rattle.bz_swap_image.specs.Images.{ResolvesAsTheSwap, LawfulAsTheSwap}
use Rattle.bz_content.proofs.Fresh.{every-passes}
use Rattle.bz_swap_image.proofs.Descriptors.{ReadsAlike, reads-alike, readable-status, readable-index}

if-same : (b d : Bool) {v w x y : ℕ} → b ≡ d → v ≡ w → x ≡ y → (if b then v else x) ≡ (if d then w else y)
if-same true true e f g = f
if-same true false e f g = absurd (cc)
if-same false true e f g = absurd (cc)
if-same false false e f g = g

-- what stands at an address outside the descriptors
kind-is : (swaps : ℕ) (image : List ℕ) (a : ℕ) → IsOutside swaps a → kind_at swaps image a ≡ kind (slice_index image a)
kind-is swaps image a outside = let e : is_outside swaps a ≡ true = grind (arith, nat_tests) in rw e refl

resolves : (swaps : ℕ) (image : List ℕ) (a : ℕ) (x : WordKind) → IsLawfulKind swaps image a x →
    stands_for (slice_index image) a x ≡ resolved (entries_at swaps image) (status_at swaps image) a x
resolves swaps image a (Value v) l = refl
resolves swaps image a (Dirty v) l = refl
resolves swaps image a (Swap s) l =
    let alike = reads-alike swaps image s l.0.number in
    let index = readable-index swaps image s a l.0 in
    let less : (entries_at swaps image s).index a < 4 = omega (arith, l.1.entry, l.0.count) in
    if-same _ _ (readable-status swaps image s l.0).0
    (ap (value_in (slice_index image) s) (sym index) ∙ sym (alike.value _ less))
    (ap (expected_in (slice_index image) s) (sym index) ∙ sym (alike.expected _ less))
resolves swaps image a (Tag s i w q) l = sym ((reads-alike swaps image s l.0.number).expected i (omega (arith, l.1.entry, l.0.count)))

pub resolves-as : ResolvesAsTheSwap
unfolding resolve
resolves-as swaps image a outside l = ap (stands_for (slice_index image) a) (sym (kind-is swaps image a outside)) ∙ resolves swaps image a (kind_at swaps image a) l.kind

imply : (b d : Bool) → (b ≡ true → d ≡ true) → implies b d ≡ true
imply true d f = f refl
imply false d f = refl

word-lawful : (x : ℕ) → IsWord x → is_word x ≡ true
word-lawful x w =
    let size : nat_lt x (2 ^ 64) ≡ true = lt-ltb x (2 ^ 64) w.size in
    let control : nat_le (field 61 1 x + field 62 1 x + field 63 1 x) 1 ≡ true = le-leb (field 61 1 x + field 62 1 x + field 63 1 x) 1 w.control in
    rw (size, control, imply (field 62 1 x == 1) (field 16 45 x == 0) pointer, imply (field 61 1 x == 1) (nat_le 1 (field 18 7 x) && nat_le (field 18 7 x) 64) worker) refl
  where
    pointer : (field 62 1 x == 1) ≡ true → (field 16 45 x == 0) ≡ true
    pointer e = eq-eqb (field 16 45 x) 0 (w.pointer (eqb-true (field 62 1 x) 1 e))

    worker : (field 61 1 x == 1) ≡ true → (nat_le 1 (field 18 7 x) && nat_le (field 18 7 x) 64) ≡ true
    worker e =
        let range = w.worker (eqb-true (field 61 1 x) 1 e) in
        rw (le-leb 1 (field 18 7 x) range.0, le-leb (field 18 7 x) 64 range.1) refl

every-but : (n : ℕ) (p : ℕ → Bool) (i : ℕ) → i < n → p i ≡ false → every n p ≡ false
unfolding every
every-but zero p i less e = absurd (omega arith)
every-but (suc n) p i less e = elim (cases_eq i n) [
  | inl is ↦ rw (ap p (sym is) ∙ e) refl
  | inr ne ↦ let rest : every n p ≡ false = every-but n p i (omega (arith, less, ne)) e in rw rest (none (p n))
]
  where
    none : (b : Bool) → (b && false) ≡ false
    none true = refl
    none false = refl

-- a descriptor that the swap can read has begun
begun : (c : Config) (swaps : ℕ) (image : List ℕ) (s : ℕ) → c.swaps ≡ swaps → IsReadable swaps image s → is_begun c (slice_index image) s ≡ true
begun c swaps image s same r =
    rw (
      lt-ltb s c.swaps (omega (arith, r.number, same)),
      (readable-status swaps image s r).1,
      lt-ltb 0 (count_in (slice_index image) s) (omega (arith, r.some, alike.count)),
      le-leb (count_in (slice_index image) s) 4 (omega (arith, r.count, alike.count)),
      every-passes (count_in (slice_index image) s) _ plain,
    ) refl
  where
    alike : ReadsAlike swaps image s
    alike = reads-alike swaps image s r.number

    plain : (i : ℕ) → i < count_in (slice_index image) s → (is_value (expected_in (slice_index image) s i) && is_value (value_in (slice_index image) s i)) ≡ true
    plain i less =
        let here : i < (entries_at swaps image s).count = omega (arith, less, alike.count) in
        let low : i < 4 = omega (arith, here, r.count) in
        rw (← alike.expected i low, ← alike.value i low, lt-ltb ((entries_at swaps image s).expected i) (2 ^ 61) (r.expected i here), lt-ltb ((entries_at swaps image s).value i) (2 ^ 61) (r.value i here)) refl

-- an entry of it names the address
named-at : (swaps : ℕ) (image : List ℕ) (s i a : ℕ) → IsReadable swaps image s → HasEntry (entries_at swaps image s) i a →
    (i < count_in (slice_index image) s) × ((target_in (slice_index image) s i == a) ≡ true)
named-at swaps image s i a r h =
    let alike = reads-alike swaps image s r.number in
    (omega (arith, h.entry, alike.count), eq-eqb (target_in (slice_index image) s i) a (sym (alike.target i (omega (arith, h.entry, r.count))) ∙ h.target))

named : (c : Config) (swaps : ℕ) (image : List ℕ) (a : ℕ) (x : WordKind) → c.swaps ≡ swaps → IsLawfulKind swaps image a x → is_named c (slice_index image) a x ≡ true
named c swaps image a (Value v) same l = refl
named c swaps image a (Dirty v) same l = refl
named c swaps image a (Swap s) same l =
    let i : ℕ = (entries_at swaps image s).index a in
    let at = named-at swaps image s i a l.0 l.1 in
    rw (begun c swaps image s same l.0, every-but (count_in (slice_index image) s) (λ j. not (target_in (slice_index image) s j == a)) i at.0 (ap not at.1)) refl
named c swaps image a (Tag s i w q) same l =
    let at = named-at swaps image s i a l.0 l.1 in
    rw (begun c swaps image s same l.0, lt-ltb i (count_in (slice_index image) s) at.0, at.1) refl

outside-descriptors : (c : Config) (swaps a : ℕ) → c.swaps ≡ swaps → IsOutside swaps a → is_in_descriptor c a ≡ false
outside-descriptors c swaps a same (inl low) = let e : nat_le 16 a ≡ false = grind (arith, nat_tests) in rw e refl
outside-descriptors c swaps a same (inr high) = let e : nat_lt a (node_address c 0) ≡ false = grind (arith, nat_tests) in rw e (none (nat_le 16 a))
  where
    none : (b : Bool) → (b && false) ≡ false
    none true = refl
    none false = refl

pub lawful-as : LawfulAsTheSwap
unfolding is_lawful
lawful-as c swaps image a same outside fixed l =
    rw (word-lawful (slice_index image a) l.word, outside-descriptors c swaps a same outside, fixed) names
  where
    names : is_named c (slice_index image) a (kind (slice_index image a)) ≡ true
    names = ap (is_named c (slice_index image) a) (sym (kind-is swaps image a outside)) ∙ named c swaps image a (kind_at swaps image a) same l.kind
