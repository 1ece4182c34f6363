-- What a compare-and-swap makes of the memory, by what it found.
use Rattle.std.specs.Prelude.{◌≡◌, ◌≢◌, ◌==◌, ◌&&◌, ℕ, Bool, true, false}
use Rattle.std.proofs.Common.{arith, refl, ap, inl, inr}
use Rattle.std.proofs.lemmas.Bool.{cases_eq}
use Rattle.std.proofs.lemmas.Grind.{common_steps}
use Rattle.bz_word.specs.declared.kind.WordKind.{WordKind}
use Rattle.bz_word.specs.declared.kind.WordKind.TheVariants.{Value, Dirty, Swap, Tag}
use Rattle.bz_swap_machine.specs.declared.place.Next.{Next}
use Rattle.bz_swap_machine.specs.declared.status.SwapStatus.{SwapStatus}
use Rattle.bz_swap_machine.specs.declared.status.SwapStatus.TheVariants.{Free, Undecided, Deciding, Decided}
use Rattle.bz_swap_machine.specs.declared.status.Verdict.{Verdict}
use Rattle.bz_swap_machine.specs.declared.status.Verdict.TheVariants.{Succeeded, Failed}
use Rattle.bz_swap_machine.specs.Machine.{Entries}
use Rattle.bz_swap_machine.specs.Changes.{with_word, with_tag, with_miss, with_status}
use Rattle.bz_swap_machine.specs.HelpActs.{after_install_tag, after_untag, cleared_word, after_decide, cleared_status, after_put_final, final_value}
use Rattle.bz_swap_cells.specs.Store.{Store, Beside, typed}
use Rattle.bz_swap_acts.specs.Parts.{is_other_value}

stays : (old new : Store) (b : Beside) → new ≡ old → typed new b ≡ typed old b
stays old new b e = ap (λ (st : Store). typed st b) e

pub cleared : (old new : Store) (b : Beside) (a v : ℕ) (found : WordKind)
    → (found ≡ Dirty v → (c : Beside) → typed new c ≡ with_word (typed old c) a (Value v)) → (found ≢ Dirty v → new ≡ old)
    → typed new b ≡ cleared_word (typed old b) a v found
cleared old new b a v (Value u) hit miss = stays old new b (miss (λ e. grind arith))
cleared old new b a v (Swap t) hit miss = stays old new b (miss (λ e. grind arith))
cleared old new b a v (Tag t j u q) hit miss = stays old new b (miss (λ e. grind arith))
cleared old new b a v (Dirty u) hit miss = elim (cases_eq u v) [
  | inl e ↦ grind (arith, common_steps, hit (ap Dirty e) b)
  | inr ne ↦ grind (arith, common_steps, stays old new b (miss (λ e. grind arith)))
]

pub decided : (old new : Store) (b : Beside) (s : ℕ) (d : Verdict) (found : SwapStatus)
    → (found ≡ Undecided → (c : Beside) → typed new c ≡ with_status (typed old c) s (Deciding d)) → (found ≢ Undecided → new ≡ old)
    → typed new b ≡ (after_decide (typed old b) s d found).memory
decided old new b s d Free hit miss = stays old new b (miss (λ e. grind arith))
decided old new b s d Undecided hit miss = hit refl b
decided old new b s d (Deciding c) hit miss = stays old new b (miss (λ e. grind arith))
decided old new b s d (Decided c) hit miss = stays old new b (miss (λ e. grind arith))

pub cleared-status : (old new : Store) (b : Beside) (s : ℕ) (d : Verdict) (found : SwapStatus)
    → (found ≡ Deciding d → (c : Beside) → typed new c ≡ with_status (typed old c) s (Decided d)) → (found ≢ Deciding d → new ≡ old)
    → typed new b ≡ cleared_status (typed old b) s d found
cleared-status old new b s d Free hit miss = stays old new b (miss (λ e. grind arith))
cleared-status old new b s d Undecided hit miss = stays old new b (miss (λ e. grind arith))
cleared-status old new b s Succeeded (Deciding Succeeded) hit miss = hit refl b
cleared-status old new b s Succeeded (Deciding Failed) hit miss = stays old new b (miss (λ e. grind arith))
cleared-status old new b s Failed (Deciding Succeeded) hit miss = stays old new b (miss (λ e. grind arith))
cleared-status old new b s Failed (Deciding Failed) hit miss = hit refl b
cleared-status old new b s d (Decided c) hit miss = stays old new b (miss (λ e. grind arith))

pub put : (x : Entries) (old new : Store) (b : Beside) (a s i v : ℕ) (d : Verdict) (found : WordKind) → x.target i ≡ a → final_value x i d ≡ v
    → (found ≡ Swap s → (c : Beside) → typed new c ≡ with_word (typed old c) a (Dirty v)) → (found ≢ Swap s → new ≡ old)
    → typed new b ≡ (after_put_final x (typed old b) s i d found).memory
put x old new b a s i v d (Value u) at is hit miss = stays old new b (miss (λ e. grind arith))
put x old new b a s i v d (Dirty u) at is hit miss = stays old new b (miss (λ e. grind arith))
put x old new b a s i v d (Tag t j u q) at is hit miss = stays old new b (miss (λ e. grind arith))
put x old new b a s i v d (Swap t) at is hit miss = elim (cases_eq t s) [
  | inl e ↦ grind (arith, common_steps, hit (ap Swap e) b)
  | inr ne ↦ grind (arith, common_steps, stays old new b (miss (λ e. grind arith)))
]

pub untagged : (x : Entries) (old new : Store) (b : Beside) (a s i v q : ℕ) (word : WordKind) (changed unchanged : Next) (found : WordKind) → x.target i ≡ a
    → (found ≡ Tag s i v q → (c : Beside) → typed new c ≡ with_word (typed old c) a word) → (found ≢ Tag s i v q → new ≡ old)
    → typed new b ≡ (after_untag x (typed old b) s i v q word changed unchanged found).memory
untagged x old new b a s i v q word changed unchanged (Value u) at hit miss = stays old new b (miss (λ e. grind arith))
untagged x old new b a s i v q word changed unchanged (Dirty u) at hit miss = stays old new b (miss (λ e. grind arith))
untagged x old new b a s i v q word changed unchanged (Swap t) at hit miss = stays old new b (miss (λ e. grind arith))
untagged x old new b a s i v q word changed unchanged (Tag t j u p) at hit miss = by_test (((t == s) && (j == i)) && ((u == v) && (p == q))) refl
  where
    by_test : (test : Bool) → (((t == s) && (j == i)) && ((u == v) && (p == q))) ≡ test → typed new b ≡ (after_untag x (typed old b) s i v q word changed unchanged (Tag t j u p)).memory
    by_test true e = grind (arith, common_steps, hit (grind (arith, common_steps)) b)
    by_test false e = grind (arith, common_steps, stays old new b (miss (λ f. grind (arith, common_steps))))

pub missed : (x : Entries) (old mid new : Store) (b : Beside) (w s i expected : ℕ) (found : WordKind) → x.expected i ≡ expected → is_other_value found expected ≡ true
    → (found ≢ Value expected → mid ≡ old) → typed new b ≡ with_miss (typed mid b) s
    → typed new b ≡ (after_install_tag x (typed old b) w s i found).memory
missed x old mid new b w s i expected (Value v) is other miss noted =
    let ne : v ≢ expected = grind (arith, common_steps) in
    let same : mid ≡ old = miss (λ f. grind arith) in
    grind (arith, common_steps, stays old mid b same)
missed x old mid new b w s i expected (Dirty v) is other miss noted = absurd (grind arith)
missed x old mid new b w s i expected (Swap t) is other miss noted = absurd (grind arith)
missed x old mid new b w s i expected (Tag t j u q) is other miss noted = absurd (grind arith)

pub tagged : (x : Entries) (old new : Store) (b : Beside) (a w s i expected : ℕ) (found : WordKind) → x.target i ≡ a → x.expected i ≡ expected
    → is_other_value found expected ≡ false
    → (found ≡ Value expected → (c : Beside) → typed new c ≡ with_tag (typed old c) a s i w) → (found ≢ Value expected → new ≡ old)
    → typed new b ≡ (after_install_tag x (typed old b) w s i found).memory
tagged x old new b a w s i expected (Value v) at is other hit miss =
    let e : v ≡ expected = grind (arith, common_steps) in
    grind (arith, common_steps, hit (ap Value e) b)
tagged x old new b a w s i expected (Dirty v) at is other hit miss = stays old new b (miss (λ e. grind arith))
tagged x old new b a w s i expected (Swap t) at is other hit miss = stays old new b (miss (λ e. grind arith))
tagged x old new b a w s i expected (Tag t j u q) at is other hit miss = stays old new b (miss (λ e. grind arith))
