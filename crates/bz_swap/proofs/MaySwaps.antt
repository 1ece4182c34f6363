-- What callers know of a swap's entries is what the machine asks of a swap that begins.
use Rattle.std.specs.Prelude.{◌≡◌, ◌≢◌, ℕ, ◌+◌, ◌*◌, ◌<◌, Bool, true, false, List}
use Rattle.std.proofs.Common.{arith, refl, ap, sym, subst, ◌∙◌}
use Rattle.bz_word.specs.declared.kind.WordKind.{WordKind}
use Rattle.bz_word.specs.declared.entry.Entry.{Entry}
use Rattle.bz_swap_machine.specs.declared.place.Place.TheVariants as place
use Rattle.bz_swap_machine.specs.Machine.{MayLast}
use Rattle.bz_swap_machine.specs.Ranges.{AreValues}
use Rattle.bz_swap_machine.specs.State as machine
use Rattle.bz_swap_cells.specs.Store.{kind_at, typed}
use Rattle.bz_swap_cells.proofs.SettledWords.{settled-lasts}
use Rattle.bz_swap_acts.specs.Ready.{LiesOutside}
use Rattle.bz_swap.specs.declared.phase.Phase.TheVariants.{Recovering}
use Rattle.bz_swap.specs.Starts.{IsEntry, MaySwap}
use Rattle.bz_swap.specs.SwapMemory.{Storing, doing_of, is_target}
use Rattle.bz_swap.specs.Inside.Parts.{Parts, worker_at, doing_at, seen}
use Rattle.bz_swap.specs.Inside.Kept.{IsRunning, state_of}
use Rattle.bz_swap.proofs.Doings.{worker-seen}
use Rattle.bz_swap.proofs.Shown.{shows}
use Rattle.bz_swap.proofs.SwapLists.{Lists, Targeted, entries_from, count-listed, apart-from, told-from, each-from, target-from}

-- a private target's word is settled: what may last there is the word in the caches
flushed-target : (p : Parts) (r : IsRunning p) (words : ℕ → ℕ) (a : ℕ) → p.phase ≢ Recovering → Targeted (IsEntry (seen p)) words a → r.beside.named a ≡ false
    → (y : WordKind) → MayLast (typed p.store r.beside) a y → y ≡ kind_at p.store.swaps p.store.cached a
flushed-target p r words a phase t private y lasts =
    let own : IsEntry (seen p) (record { target = a; expected = words (2 + 3 * t.entry); new = words (3 + 3 * t.entry) }) =
    subst (λ b. IsEntry (seen p) (record { target = b; expected = words (2 + 3 * t.entry); new = words (3 + 3 * t.entry) })) t.target t.holds in
    settled-lasts p.store r.beside a own.address.outside (own.settled ((shows p r phase).named a ∙ private)) y lasts

-- no private store of a target waits to be made
stored-target : (p : Parts) (words : ℕ → ℕ) (a w v : ℕ) → Targeted (IsEntry (seen p)) words a → (worker_at p w).place ≡ place.StoreWord a v → ⊥
stored-target p words a w v t at =
    let stores : doing_of (seen p) w ≡ Storing a v = ap (λ u. u.doing) (worker-seen p w) ∙ ap (λ x. doing_at x (worker_at p w).operation) at in
    t.holds.not_stored w v (stores ∙ ap (λ b. Storing b v) (sym t.target))

not-target : (p : Parts) (words : ℕ → ℕ) (entries : List Entry) (a w v : ℕ) (b : Bool) → ((is_target entries a ≡ true) → Targeted (IsEntry (seen p)) words a)
    → (worker_at p w).place ≡ place.StoreWord a v → is_target entries a ≡ b → b ≡ false
not-target p words entries a w v true targeted at is = absurd (stored-target p words a w v (targeted is) at)
not-target p words entries a w v false targeted at is = refl

pub may-begin : (p : Parts) (r : IsRunning p) (w : ℕ) (words : ℕ → ℕ) (entries : List Entry) → MaySwap (seen p) w entries → Lists words entries
    → machine.MaySwap (state_of p r.entries r.beside) (entries_from words) (is_target entries)
may-begin p r w words entries may h = record {
  some = omega (arith, count-listed words entries h, h.some);
  apart = apart-from words entries h;
  told = told-from words entries h;
  few = omega (arith, count-listed words entries h, h.few);
  flushed = λ a y is private lasts. flushed-target p r words a may.work.phase (target-from (IsEntry (seen p)) words entries a h may.each is) private y lasts;
  not_stored = λ u a v at. not-target p words entries a u v _ (target-from (IsEntry (seen p)) words entries a h may.each) at refl;
}

-- the entries' values can be stored
pub values-from : (p : Parts) (w : ℕ) (words : ℕ → ℕ) (entries : List Entry) → MaySwap (seen p) w entries → Lists words entries → AreValues (entries_from words)
values-from p w words entries may h = record {
  count = omega (arith, count-listed words entries h, h.few);
  expected = λ i below. (each-from (IsEntry (seen p)) words entries h may.each i below).expected;
  value = λ i below. (each-from (IsEntry (seen p)) words entries h may.each i below).value;
}

-- their targets lie outside the descriptors
pub lies-from : (p : Parts) (w : ℕ) (words : ℕ → ℕ) (entries : List Entry) → MaySwap (seen p) w entries → Lists words entries
    → (i : ℕ) → i < words 0 → LiesOutside p.store (words (1 + 3 * i))
lies-from p w words entries may h i below =
    let address = (each-from (IsEntry (seen p)) words entries h may.each i below).address in
    record { outside = address.outside; within = address.within }
