-- Sums below a number.
use Rattle.std.proofs.Common.{◌≡◌, ◌==◌, ◌&&◌, if◌then◌else◌, nat_lt, ℕ, zero, suc, ◌+◌, ◌*◌, ◌<◌, ◌≤◌, Bool, true, false, arith, refl, ap, subst}
use Rattle.std.proofs.lemmas.Bool.{ltb-true, ltb-false}
use Rattle.std.proofs.lemmas.Grind.{common_steps}
use Rattle.bz_swap_machine.specs.Allowed.{sum_below, counted}
use Rattle.bz_swap_machine.specs.Budget.{sum_others}
use Rattle.bz_swap_machine.specs.Standing.{greatest}

pub sum-le : (f g : ℕ → ℕ) (n : ℕ) → ((v : ℕ) → f v ≤ g v) → sum_below f n ≤ sum_below g n
sum-le f g zero le = omega arith
sum-le f g (suc n) le = omega (arith, sum-le f g n le, le n)

others-if : (w v : ℕ) (f g : ℕ → ℕ) → ((u : ℕ) → f u ≤ g u) → (b : Bool) → (if b then 0 else f v) ≤ (if b then 0 else g v)
others-if w v f g le true = omega arith
others-if w v f g le false = le v

pub others-le : (w : ℕ) (f g : ℕ → ℕ) (n : ℕ) → ((v : ℕ) → f v ≤ g v) → sum_others w f n ≤ sum_others w g n
others-le w f g n le = sum-le (λ v. if v == w then 0 else f v) (λ v. if v == w then 0 else g v) n (λ v. others-if w v f g le (v == w))

pub counted-le : (b : Bool) (k : ℕ) → counted b k ≤ k
counted-le true k = omega arith
counted-le false k = omega arith

pub counted-and : (a b : Bool) (k : ℕ) → counted (a && b) k ≤ counted a k
counted-and true b k = counted-le b k
counted-and false b k = omega arith

-- a sum of ones and zeros
pub ones-le : (test : ℕ → Bool) (n : ℕ) → sum_below (λ i. counted (test i) 1) n ≤ n
ones-le test zero = omega arith
ones-le test (suc n) = omega (arith, ones-le test n, counted-le (test n) 1)

others-ones-if : (test : ℕ → Bool) (v : ℕ) (b : Bool) → (if b then 0 else counted (test v) 1) ≤ 1
others-ones-if test v true = omega arith
others-ones-if test v false = counted-le (test v) 1

pub others-ones-le : (w : ℕ) (test : ℕ → Bool) (n : ℕ) → sum_others w (λ v. counted (test v) 1) n ≤ n
others-ones-le w test zero = omega arith
others-ones-le w test (suc n) = omega (arith, others-ones-le w test n, others-ones-if test n (n == w))

-- w itself is one of those that are summed, and is left out of the sum over the others
same-none : (f : ℕ → ℕ) (w v : ℕ) (b : Bool) → (v == w) ≡ b → v < w → (if b then 0 else f v) ≡ f v
same-none f w v true told below = absurd (grind (arith, common_steps, told, below))
same-none f w v false told below = refl

others-below : (w : ℕ) (f : ℕ → ℕ) (n : ℕ) → n ≤ w → sum_others w f n ≡ sum_below f n
others-below w f zero le = refl
others-below w f (suc n) le = omega (arith, others-below w f n (omega arith), same-none f w n (n == w) refl (omega arith))

others-split-if : (f : ℕ → ℕ) (w n : ℕ) (b : Bool) → (n == w) ≡ b → (n ≤ w → sum_others w f n ≡ sum_below f n) → (w < n → sum_below f n ≡ sum_others w f n + f w) → w < n + 1
    → sum_below f n + f n ≡ (sum_others w f n + (if b then 0 else f n)) + f w
others-split-if f w n true told below above lt =
    let same : n ≡ w = grind (arith, common_steps, told) in
    let here : sum_others w f n ≡ sum_below f n = below (omega (arith, same)) in
    rw same (omega (arith, rw same at here))
others-split-if f w n false told below above lt =
    let other : (n ≡ w) → ⊥ = λ same. absurd (grind (arith, common_steps, told, same)) in
    omega (arith, above (omega (arith, lt, other)))

pub others-split : (w : ℕ) (f : ℕ → ℕ) (n : ℕ) → w < n → sum_below f n ≡ sum_others w f n + f w
others-split w f zero lt = absurd (omega (arith, lt))
others-split w f (suc n) lt = others-split-if f w n (n == w) refl (others-below w f n) (others-split w f n) (omega (arith, lt))

-- what an open swap of another takes at most: of what pays for the walks, and of what the worker itself counts by their number
abbrev pub for_open : ℕ
for_open = 756

-- a weight for each that is counted, and something beside it
weigh-if : (f g h : ℕ → ℕ) (v : ℕ) → for_open * f v + g v ≤ h v → (b : Bool) → for_open * (if b then 0 else f v) + (if b then 0 else g v) ≤ (if b then 0 else h v)
weigh-if f g h v le true = omega arith
weigh-if f g h v le false = le

pub others-weigh : (w : ℕ) (f g h : ℕ → ℕ) (n : ℕ) → ((v : ℕ) → for_open * f v + g v ≤ h v) → for_open * sum_others w f n + sum_others w g n ≤ sum_others w h n
others-weigh w f g h zero le = omega arith
others-weigh w f g h (suc n) le = omega (arith, others-weigh w f g h n le, weigh-if f g h n (le n) (n == w))

-- one of those that are summed is less by a number, and the others are no more
drop-if : (w v : ℕ) (f g : ℕ → ℕ) (k : ℕ) → (v == w) ≡ false → f v + k ≤ g v → (if v == w then 0 else f v) + k ≤ (if v == w then 0 else g v)
drop-if w v f g k other drops = rw other drops

drop-at : (w h m : ℕ) (f g : ℕ → ℕ) (k : ℕ) (b : Bool) → (h == m) ≡ b → ((v : ℕ) → f v ≤ g v) → (h == w) ≡ false → h < m + 1 → f h + k ≤ g h → (h < m → sum_others w f m + k ≤ sum_others w g m)
    → (sum_others w f m + (if m == w then 0 else f m)) + k ≤ sum_others w g m + (if m == w then 0 else g m)
drop-at w h m f g k true told le other below drops rest =
    let here : h ≡ m = grind (arith, common_steps, told) in
    let last : (if m == w then 0 else f m) + k ≤ (if m == w then 0 else g m) = subst (λ u. (if u == w then 0 else f u) + k ≤ (if u == w then 0 else g u)) here (drop-if w h f g k other drops) in
    omega (arith, last, others-le w f g m le)
drop-at w h m f g k false told le other below drops rest =
    let apart : (h ≡ m) → ⊥ = λ same. absurd (grind (arith, common_steps, told, same)) in
    omega (arith, rest (omega (arith, below, apart)), others-if w m f g le (m == w))

pub others-drop : (w h : ℕ) (f g : ℕ → ℕ) (k n : ℕ) → ((v : ℕ) → f v ≤ g v) → (h == w) ≡ false → h < n → f h + k ≤ g h → sum_others w f n + k ≤ sum_others w g n
others-drop w h f g k zero le other below drops = absurd (omega (arith, below))
others-drop w h f g k (suc m) le other below drops = drop-at w h m f g k (h == m) refl le other (omega (arith, below)) drops (λ lt. others-drop w h f g k m le other lt drops)

-- functions that are compared at the others alone
apart-if : (w v : ℕ) (f g : ℕ → ℕ) → ((u : ℕ) → (u == w) ≡ false → f u ≤ g u) → (b : Bool) → (v == w) ≡ b → (if b then 0 else f v) ≤ (if b then 0 else g v)
apart-if w v f g le true told = omega arith
apart-if w v f g le false told = le v told

pub others-apart : (w : ℕ) (f g : ℕ → ℕ) (n : ℕ) → ((v : ℕ) → (v == w) ≡ false → f v ≤ g v) → sum_others w f n ≤ sum_others w g n
others-apart w f g zero le = omega arith
others-apart w f g (suc n) le = omega (arith, others-apart w f g n le, apart-if w n f g le (n == w) refl)

left-out : (w : ℕ) (f : ℕ → ℕ) (v : ℕ) → (v == w) ≡ false → (if v == w then 0 else f v) ≡ f v
left-out w f v told = rw told refl

pub apart-drop : (w h : ℕ) (f g : ℕ → ℕ) (k n : ℕ) → ((v : ℕ) → (v == w) ≡ false → f v ≤ g v) → (h == w) ≡ false → h < n → f h + k ≤ g h → sum_others w f n + k ≤ sum_others w g n
apart-drop w h f g k n le other below drops =
    let dropped : sum_others w (λ v. if v == w then 0 else f v) n + k ≤ sum_others w (λ v. if v == w then 0 else g v) n =
    others-drop w h (λ v. if v == w then 0 else f v) (λ v. if v == w then 0 else g v) k n (λ v. apart-if w v f g le (v == w) refl) other below (omega (arith, drops, left-out w f h other, left-out w g h other)) in
    omega (arith, dropped, others-apart w f (λ v. if v == w then 0 else f v) n (λ v told. omega (arith, left-out w f v told)), others-apart w (λ v. if v == w then 0 else g v) g n (λ v told. omega (arith, left-out w g v told)))

-- a number that counts where a test holds that follows from another
pub counted-implied : (a b : Bool) (k j : ℕ) → (a ≡ true → b ≡ true) → k ≤ j → counted a k ≤ counted b j
counted-implied false b k j f le = omega arith
counted-implied true true k j f le = le
counted-implied true false k j f le = absurd (bad (f refl))
  where
    bad : false ≡ true → ⊥
    bad is = absurd cc

-- sums below a number of functions that are compared there
pub sum-less : (f g : ℕ → ℕ) (n : ℕ) → ((i : ℕ) → i < n → f i ≤ g i) → sum_below f n ≤ sum_below g n
sum-less f g zero le = omega arith
sum-less f g (suc n) le = omega (arith, sum-less f g n (λ i lt. le i (omega (arith, lt))), le n (omega arith))

drop-last : (f g : ℕ → ℕ) (n h : ℕ) (b : Bool) → (h == n) ≡ b → ((i : ℕ) → i < n + 1 → f i ≤ g i) → h < n + 1 → f h + 1 ≤ g h → (h < n → sum_below f n + 1 ≤ sum_below g n) → sum_below f n + f n + 1 ≤ sum_below g n + g n
drop-last f g n h true told le below drops rest =
    let here : h ≡ n = grind (arith, common_steps, told) in
    let last : f n + 1 ≤ g n = subst (λ u. f u + 1 ≤ g u) here drops in
    omega (arith, last, sum-less f g n (λ i lt. le i (omega (arith, lt))))
drop-last f g n h false told le below drops rest =
    let apart : (h ≡ n) → ⊥ = λ same. absurd (grind (arith, common_steps, told, same)) in
    omega (arith, rest (omega (arith, below, apart)), le n (omega arith))

pub sum-drop : (f g : ℕ → ℕ) (n h : ℕ) → ((i : ℕ) → i < n → f i ≤ g i) → h < n → f h + 1 ≤ g h → sum_below f n + 1 ≤ sum_below g n
sum-drop f g zero h le below drops = absurd (omega (arith, below))
sum-drop f g (suc n) h le below drops = drop-last f g n h (h == n) refl (λ i lt. le i (omega (arith, lt))) (omega (arith, below)) drops (λ lt. sum-drop f g n h (λ i under. le i (omega (arith, under))) lt drops)

at-last : (f : ℕ → ℕ) (n h : ℕ) (b : Bool) → (h == n) ≡ b → h < n + 1 → (h < n → f h ≤ sum_below f n) → f h ≤ sum_below f n + f n
at-last f n h true told below rest = let here : f h ≡ f n = ap f (grind (arith, common_steps, told)) in omega (arith, here)
at-last f n h false told below rest =
    let apart : (h ≡ n) → ⊥ = λ same. absurd (grind (arith, common_steps, told, same)) in
    omega (arith, rest (omega (arith, below, apart)))

pub sum-at : (f : ℕ → ℕ) (n h : ℕ) → h < n → f h ≤ sum_below f n
sum-at f zero h below = absurd (omega (arith, below))
sum-at f (suc n) h below = at-last f n h (h == n) refl (omega (arith, below)) (λ lt. sum-at f n h lt)

pub sum-none : (f : ℕ → ℕ) (n : ℕ) → ((i : ℕ) → i < n → f i ≡ 0) → sum_below f n ≡ 0
sum-none f zero none = refl
sum-none f (suc n) none = omega (arith, sum-none f n (λ i lt. none i (omega (arith, lt))), none n (omega arith))

-- the greatest value is one, and none is more
most-of : (a b : ℕ) (t : Bool) → nat_lt a b ≡ t → (a ≤ (if t then b else a)) × (b ≤ (if t then b else a))
most-of a b true told = (omega (arith, ltb-true a b told), omega arith)
most-of a b false told = (omega arith, ltb-false a b told)

most-last : (f : ℕ → ℕ) (n i : ℕ) (b : Bool) → (i == n) ≡ b → i < n + 1 → (i < n → f i ≤ greatest f n) → f i ≤ (if nat_lt (greatest f n) (f n) then f n else greatest f n)
most-last f n i true told below rest =
    let here : f i ≡ f n = ap f (grind (arith, common_steps, told)) in
    omega (arith, here, (most-of (greatest f n) (f n) (nat_lt (greatest f n) (f n)) refl).1)
most-last f n i false told below rest =
    let apart : (i ≡ n) → ⊥ = λ same. absurd (grind (arith, common_steps, told, same)) in
    omega (arith, rest (omega (arith, below, apart)), (most-of (greatest f n) (f n) (nat_lt (greatest f n) (f n)) refl).0)

pub greatest-ge : (f : ℕ → ℕ) (n i : ℕ) → i < n → f i ≤ greatest f n
greatest-ge f zero i below = absurd (omega (arith, below))
greatest-ge f (suc n) i below = most-last f n i (i == n) refl (omega (arith, below)) (λ lt. greatest-ge f n i lt)

if-under : (t : Bool) (a b k : ℕ) → a ≤ k → b ≤ k → (if t then b else a) ≤ k
if-under true a b k f g = g
if-under false a b k f g = f

pub greatest-le : (f : ℕ → ℕ) (n k : ℕ) → ((i : ℕ) → i < n → f i ≤ k) → greatest f n ≤ k
greatest-le f zero k le = omega arith
greatest-le f (suc n) k le = if-under (nat_lt (greatest f n) (f n)) (greatest f n) (f n) k (greatest-le f n k (λ i lt. le i (omega (arith, lt)))) (le n (omega arith))

pub greatest-less : (f g : ℕ → ℕ) (n : ℕ) → ((i : ℕ) → i < n → f i ≤ g i) → greatest f n ≤ greatest g n
greatest-less f g n le = greatest-le f n (greatest g n) (λ i lt. trans_le (le i lt) (greatest-ge g n i lt))
  where
    trans_le : {a b c : ℕ} → a ≤ b → b ≤ c → a ≤ c
    trans_le f g = omega (arith, f, g)
