-- How many binary digits a number has.
use Rattle.std.specs.Prelude.{ℕ, zero, suc, ◌+◌, ◌-◌, ◌/◌, ◌^◌, ◌<◌, ◌≤◌, ◌==◌, if◌then◌else◌}

-- in so many halvings; of 0 there are none
unfoldable pub digits_in : ℕ → ℕ → ℕ
digits_in zero n = 0
digits_in (suc halvings) n = if n == 0 then 0 else 1 + digits_in halvings (n / 2)

-- a number is 0 after as many halvings as it counts
abbrev pub digits : ℕ → ℕ
digits n = digits_in n n

-- so many digits are as many as a number needs: with these it is less than the power of two, and with one fewer it is not
pub record NeedsDigits (n d : ℕ) : Type 0 where
  pub enough : n < 2 ^ d
  pub all : 0 < n → 2 ^ (d - 1) ≤ n

abbrev pub DigitsAreBinary : Type 0
DigitsAreBinary = (n : ℕ) → NeedsDigits n (digits n)
