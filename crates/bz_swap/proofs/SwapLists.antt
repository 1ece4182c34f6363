-- The entries of a swap, read from the words that list them.
use Rattle.std.specs.Prelude.{◌≡◌, ◌≢◌, if◌then◌else◌, ◌==◌, ℕ, ◌+◌, ◌-◌, ◌*◌, ◌/◌, ◌%◌, ◌<◌, ◌≤◌, Bool, true, false, List, All, length}
use Rattle.std.proofs.Common.{arith, refl, ap, sym, subst, ◌∙◌}
use Rattle.std.proofs.lemmas.Grind.{common_steps}
use Rattle.bz_word.specs.declared.entry.Entry.{Entry}
use Rattle.bz_swap_machine.specs.Machine.{Entries, entries_in, spelled}
use Rattle.bz_swap.specs.Resolve.{first_entry}
use Rattle.bz_swap.specs.SwapMemory.{is_target}
use Rattle.bz_swap.specs.Inside.Parts.{entry_of, entry_list}
use Rattle.bz_swap.proofs.Values.{length-listed, listed-all, target-listed, listed-target}
use Rattle.bz_swap.proofs.Readable.{first-found}

-- the entries that the words list, where an address has the first entry with it
abbrev pub entries_from : (ℕ → ℕ) → Entries
entries_from words =
    let x = entries_in words in
    record x { index = λ a. first_entry x a x.count 0 }

-- the words list the entries, of which there are one to four, whose targets rise
pub record Lists (words : ℕ → ℕ) (entries : List Entry) : Type 0 where
  pub list : entry_list (entries_in words) ≡ entries
  pub some : 0 < length entries
  pub few : length entries ≤ 4
  pub rising : (i j : ℕ) → i < j → j < words 0 → words (1 + 3 * i) < words (1 + 3 * j)

-- each word is the one that its place asks for
word-place : (words : ℕ → ℕ) (k : ℕ) (zeroth first second : Bool) → (k == 0) ≡ zeroth → (k % 3 == 1) ≡ first → (k % 3 == 2) ≡ second
    → (if zeroth then words 0 else if first then words (1 + 3 * ((k - 1) / 3)) else if second then words (2 + 3 * ((k - 1) / 3)) else words (3 + 3 * ((k - 1) / 3))) ≡ words k
word-place words k true first second z f s = (let e : 0 ≡ k = grind (arith, common_steps, z) in ap words e)
word-place words k false true second z f s = (let m : k % 3 ≡ 1 = grind (arith, common_steps, f) in ap words (omega (arith, m)))
word-place words k false false true z f s = (let m : k % 3 ≡ 2 = grind (arith, common_steps, s) in ap words (omega (arith, m)))
word-place words k false false false z f s =
    let some : k ≢ 0 = grind (arith, common_steps, z) in
    let one : k % 3 ≢ 1 = grind (arith, common_steps, f) in
    let two : k % 3 ≢ 2 = grind (arith, common_steps, s) in
    ap words (omega (arith, some, one, two))

pub spelled-from : (words : ℕ → ℕ) → spelled (entries_from words) ≡ words
spelled-from words = λ i k. word-place words k _ _ _ refl refl refl i

-- how many there are
pub count-listed : (words : ℕ → ℕ) (entries : List Entry) → Lists words entries → words 0 ≡ length entries
count-listed words entries h = sym (length-listed (entry_of (entries_in words)) 0 (words 0)) ∙ ap length h.list

-- each address has its own entry
pub apart-from : (words : ℕ → ℕ) (entries : List Entry) → Lists words entries → (i : ℕ) → i < words 0 → (entries_from words).index (words (1 + 3 * i)) ≡ i
apart-from words entries h i below =
    first-found (entries_in words) ((entries_in words).target i) i (words 0) 0 (omega arith) (omega (arith, below)) refl (λ k before same. (let less : words (1 + 3 * k) < words (1 + 3 * i) = h.rising k i before below in omega (arith, less, same)))

-- the targets are the entries' own
pub told-from : (words : ℕ → ℕ) (entries : List Entry) → Lists words entries → (i : ℕ) → i < words 0 → is_target entries (words (1 + 3 * i)) ≡ true
told-from words entries h i below =
    ap (λ l. is_target l (words (1 + 3 * i))) (sym h.list) ∙ listed-target (entries_in words) (words (1 + 3 * i)) 0 (words 0) i (omega arith) (omega (arith, below)) refl

-- what holds of all entries holds of each that the words list
pub each-from : (P : Entry → Type 0) (words : ℕ → ℕ) (entries : List Entry) → Lists words entries → All P entries → (i : ℕ) → i < words 0 → P (entry_of (entries_in words) i)
each-from P words entries h all i below = listed-all P (entry_of (entries_in words)) (words 0) (subst (All P) (sym h.list) all) i below

-- so it holds of an entry with this target
pub record Targeted (P : Entry → Type 0) (words : ℕ → ℕ) (a : ℕ) : Type 0 where
  pub entry : ℕ
  pub target : words (1 + 3 * entry) ≡ a
  pub holds : P (entry_of (entries_in words) entry)

pub target-from : (P : Entry → Type 0) (words : ℕ → ℕ) (entries : List Entry) (a : ℕ) → Lists words entries → All P entries → is_target entries a ≡ true → Targeted P words a
target-from P words entries a h all is =
    let (i, (from, below, here)) = target-listed (entries_in words) a 0 (words 0) (ap (λ l. is_target l a) h.list ∙ is) in
    record { entry = i; target = here; holds = each-from P words entries h all i (omega (arith, below)) }
