-- What an image's pointers and tags name can be read in the image: the durable descriptor spells the entries.
use Rattle.std.specs.Prelude.{◌≡◌, ◌≢◌, ◌==◌, ℕ, zero, suc, ◌+◌, ◌<◌, ◌≤◌, true, false}
use Rattle.std.proofs.Common.{arith, refl, ap, sym, ◌∙◌, inl, inr}
use Rattle.std.proofs.lemmas.Bool.{cases_eq}
use Rattle.std.proofs.lemmas.Grind.{common_steps}
use Rattle.bz_word.specs.declared.kind.WordKind.{WordKind}
use Rattle.bz_word.specs.declared.kind.WordKind.TheVariants.{Value, Dirty, Swap, Tag}
use Rattle.bz_swap_machine.specs.declared.status.SwapStatus.{SwapStatus}
use Rattle.bz_swap_machine.specs.Agrees.{Agree, agree-spell}
use Rattle.bz_swap_machine.specs.Content.{content}
use Rattle.bz_swap_machine.specs.Machine.{Entries, resolve as resolved}
use Rattle.bz_swap_machine.specs.Sound.{IsTarget, IsEntry}
use Rattle.bz_swap_cells.specs.Store.{typed, kind_at}
use Rattle.bz_swap.specs.Resolve.{first_entry, entries_at, resolve}
use Rattle.bz_swap.specs.Inside.Parts.{Parts}
use Rattle.bz_swap.specs.Inside.Kept.{IsRunning}
use Rattle.bz_swap_machine.proofs.Lasting.{lasts-durable}

-- the first entry with a target is found where it is
pub first-found : (x : Entries) (a j n i : ℕ) → i ≤ j → j < i + n → x.target j ≡ a → ((k : ℕ) → k < j → x.target k ≢ a) → first_entry x a n i ≡ j
first-found x a j zero i from below here before = absurd (omega (arith, from, below))
first-found x a j (suc n) i from below here before = elim (cases_eq i j) [
  | inl e ↦ (let same : (x.target i == a) ≡ true = grind (arith, common_steps, here, e) in rw same e)
  | inr ne ↦ (let other : (x.target i == a) ≡ false = grind (arith, common_steps, before i (omega (arith, from, ne))) in
      rw other (first-found x a j n (i + 1) (omega (arith, from, ne)) (omega (arith, below)) here before))
]

-- an image's descriptor of a published swap has its entries
pub agree-published : (p : Parts) (r : IsRunning p) (s : ℕ) → r.beside.published s ≡ true → Agree (entries_at p.store.swaps p.store.durable s) (r.entries s)
agree-published p r s published =
    let a = agree-spell (r.entries s) _ (λ j le. r.state.sound.durable_words s j _ (lasts-durable _ _) published le) in
    record { count = a.count; target = a.target; expected = a.expected; value = a.value }

-- and the same entry for each target
pub index-target : (p : Parts) (r : IsRunning p) (s a : ℕ) → IsTarget r.entries r.beside.published s a → (entries_at p.store.swaps p.store.durable s).index a ≡ (r.entries s).index a
index-target p r s a t =
    let agree = agree-published p r s t.standing in
    let j : ℕ = (r.entries s).index a in
    first-found (entries_at p.store.swaps p.store.durable s) a j (entries_at p.store.swaps p.store.durable s).count 0 (omega arith) (omega (arith, agree.count, t.entry)) (agree.target j t.entry ∙ t.target)
    (λ k below is. other k below (sym (agree.target k (omega (arith, below, t.entry))) ∙ is))
  where
    other : (k : ℕ) → k < (r.entries s).index a → (r.entries s).target k ≢ a
    other k below is =
        let own : (r.entries s).index ((r.entries s).target k) ≡ k = r.state.apart s k (omega (arith, below, t.entry)) in
        omega (arith, below, ap (r.entries s).index is, own)

-- values that two lists of entries give a word are the same where their entries are
resolved-same : (e f : ℕ → Entries) (status : ℕ → SwapStatus) (a : ℕ) (x : WordKind)
    → ((s : ℕ) → x ≡ Swap s → ((f s).expected ((f s).index a) ≡ (e s).expected ((e s).index a)) × ((f s).value ((f s).index a) ≡ (e s).value ((e s).index a)))
    → ((s i w q : ℕ) → x ≡ Tag s i w q → (f s).expected i ≡ (e s).expected i) → resolved f status a x ≡ resolved e status a x
resolved-same e f status a (Value v) pointer tag = refl
resolved-same e f status a (Dirty v) pointer tag = refl
resolved-same e f status a (Swap s) pointer tag = rw ((pointer s refl).0, (pointer s refl).1) refl
resolved-same e f status a (Tag s i w q) pointer tag = tag s i w q refl

-- the value of an address, read from the image, is what the machine's address holds
pub value_is : (p : Parts) (r : IsRunning p) (a : ℕ) → resolve p.store.swaps p.store.durable a ≡ content r.entries (typed p.store r.beside) a
value_is p r a = resolved-same r.entries (entries_at p.store.swaps p.store.durable) _ a (kind_at p.store.swaps p.store.durable a)
    (λ s is. pointer s (r.state.sound.pointer_durable a s _ (lasts-durable _ _) is))
    (λ s i w q is. tag s i (r.state.sound.tag_durable a s i w q _ (lasts-durable _ _) is))
  where
    pointer : (s : ℕ) → IsTarget r.entries r.beside.published s a →
        ((entries_at p.store.swaps p.store.durable s).expected ((entries_at p.store.swaps p.store.durable s).index a) ≡ (r.entries s).expected ((r.entries s).index a))
        × ((entries_at p.store.swaps p.store.durable s).value ((entries_at p.store.swaps p.store.durable s).index a) ≡ (r.entries s).value ((r.entries s).index a))
    pointer s t =
        let agree = agree-published p r s t.standing in (
          ap (entries_at p.store.swaps p.store.durable s).expected (index-target p r s a t) ∙ agree.expected _ t.entry,
          ap (entries_at p.store.swaps p.store.durable s).value (index-target p r s a t) ∙ agree.value _ t.entry,
        )

    tag : (s i : ℕ) → IsEntry r.entries r.beside.published s i a → (entries_at p.store.swaps p.store.durable s).expected i ≡ (r.entries s).expected i
    tag s i t = (agree-published p r s t.standing).expected i t.entry
