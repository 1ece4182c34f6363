-- The swaps begun, with one more.
use Rattle.std.specs.Prelude.{◌≡◌, if◌then◌else◌, ◌||◌, ℕ, zero, suc, ◌+◌, Bool, true, false, List, [], ◌∷◌, ◌++◌}
use Rattle.std.proofs.Common.{arith, refl, ap, ◌∙◌}
use Rattle.bz_word.specs.declared.entry.Entry.{Entry}
use Rattle.bz_swap_machine.specs.Changes.{put}
use Rattle.bz_swap_machine.specs.Machine.{Entries}
use Rattle.bz_swap.specs.SwapMemory.{is_target, is_among}
use Rattle.bz_swap.specs.Inside.Parts.{listed, entry_list}
use Rattle.bz_swap.proofs.Spellings.{listed-same}
use Rattle.bz_swap.proofs.Stepped.{put-here, put-there}

listed-suc : {A : Type 0} (f : ℕ → A) (i n : ℕ) → listed f i (suc n) ≡ listed f i n ++ f (i + n) ∷ []
listed-suc f i zero = ap (λ j. f j ∷ []) (omega arith)
listed-suc f i (suc n) = ap (λ l. f i ∷ l) (listed-suc f (i + 1) n ∙ ap (λ j. listed f (i + 1) n ++ f j ∷ []) (omega arith))

-- the values listed, with one more
pub listed-more : {A : Type 0} (f : ℕ → A) (n : ℕ) → listed f 0 (n + 1) ≡ listed f 0 n ++ f n ∷ []
listed-more f n =
    let one : n + 1 ≡ suc n = omega arith in
    let start : 0 + n ≡ n = omega arith in
    ap (listed f 0) one ∙ listed-suc f 0 n ∙ ap (λ j. listed f 0 n ++ f j ∷ []) start

-- the entries of the swaps begun, with those of the next one
pub begun-more : (e : ℕ → Entries) (n : ℕ) (x : Entries) → listed (λ s. entry_list (put e n x s)) 0 (n + 1) ≡ listed (λ s. entry_list (e s)) 0 n ++ entry_list x ∷ []
begun-more e n x =
    let before : listed (λ s. entry_list (put e n x s)) 0 n ≡ listed (λ s. entry_list (e s)) 0 n =
    listed-same _ _ 0 n (λ s from below. ap entry_list (put-there e n x s (omega (arith, below)))) in
    let last : entry_list (put e n x n) ≡ entry_list x = ap entry_list (put-here e n x n refl) in
    listed-more (λ s. entry_list (put e n x s)) n ∙ (λ i. before i ++ last i ∷ [])

or-nothing : (b : Bool) → (b || false) ≡ b
or-nothing true = refl
or-nothing false = refl

or-either : (b c d : Bool) → (b || (if c then true else d)) ≡ (if c then true else (b || d))
or-either true true d = refl
or-either true false d = refl
or-either false c d = refl

-- an address is named by the swaps begun or by the next one
pub among-more : (begun : List (List Entry)) (entries : List Entry) (a : ℕ) → is_among (begun ++ entries ∷ []) a ≡ (if is_target entries a then true else is_among begun a)
among-more [] entries a = or-nothing (is_target entries a) ∙ (λ i. nothing (is_target entries a) i)
  where
    nothing : (b : Bool) → b ≡ (if b then true else false)
    nothing true = refl
    nothing false = refl
among-more (first ∷ begun) entries a = ap (λ b. is_target first a || b) (among-more begun entries a) ∙ or-either (is_target first a) (is_target entries a) (is_among begun a)
