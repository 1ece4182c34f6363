-- What is read by a choice, and numbers that are looked up in a range.
use Rattle.std.proofs.Common.{◌≡◌, ◌≤◌, ℕ, Bool, true, false, refl, arith, Option, Some, None}
use Rattle.std.specs.Prelude.{if◌then◌else◌, nat_le, ◌&&◌, Ok, Result}
use Rattle.std.proofs.lemmas.Bool.Decides.{nat_tests}
use Rattle.bz_script.specs.Number.{within}

-- what is Ok of a choice is Ok of the one that was chosen
pub either_way : {A E : Type 0} (P : A → Type 0) (b : Bool) (x y : Result A E) (item : A) → (x ≡ Ok item → P item) → (y ≡ Ok item → P item) → (if b then x else y) ≡ Ok item → P item
either_way P true x y item h k is = h is
either_way P false x y item h k is = k is

range_by : (b : Bool) (low high m n : ℕ) → (nat_le low m && nat_le m high) ≡ b → (if b then Some m else None) ≡ Some n → (low ≤ n) × (n ≤ high)
range_by true low high m n test e = let same : m ≡ n = cc in (grind (arith, nat_tests, test, same), grind (arith, nat_tests, test, same))
range_by false low high m n test e = absurd cc

-- a number that was looked up in a range is in it
pub in_range : (low high : ℕ) (found : Option ℕ) (n : ℕ) → within low high found ≡ Some n → (low ≤ n) × (n ≤ high)
in_range low high None n is = absurd cc
in_range low high (Some m) n is = range_by (nat_le low m && nat_le m high) low high m n refl is
