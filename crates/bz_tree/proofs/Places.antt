-- How one slot stands in two forms, and a form with another place for one slot.
use Rattle.std.proofs.Common.{◌≡◌, ℕ, ◌==◌, if◌then◌else◌, true, false, List, Option, arith}
use Rattle.std.proofs.lemmas.Bool.Decides.{nat_tests}
use Rattle.bz_tree.specs.Form.{Form}

abbrev pub put : {A : Type 0} → (ℕ → A) → ℕ → A → ℕ → A
put f a x b = if b == a then x else f b

-- slot j stands at this level, between these bounds, as child i of slot k
pub record Placed (h : Form) (j l : ℕ) (lo hi : Option (List ℕ)) (k i : ℕ) : Type 0 where
  pub inside : h.inside j ≡ true
  pub level : h.level j ≡ l
  pub low : h.low j ≡ lo
  pub high : h.high j ≡ hi
  pub up : h.up j ≡ k
  pub index : h.index j ≡ i

-- f with another place for slot k
abbrev pub placed : Form → ℕ → ℕ → Option (List ℕ) → Option (List ℕ) → ℕ → ℕ → Form
placed f k l lo hi u i = record { inside = put f.inside k true; level = put f.level k l; low = put f.low k lo; high = put f.high k hi; up = put f.up k u; index = put f.index k i }

abbrev pub without : Form → ℕ → Form
without f k = record { inside = put f.inside k false; level = f.level; low = f.low; high = f.high; up = f.up; index = f.index }

pub placed-same : (f : Form) (k l u i : ℕ) (lo hi : Option (List ℕ)) → Placed (placed f k l lo hi u i) k l lo hi u i
placed-same f k l u i lo hi = record { inside = grind (arith, nat_tests); level = grind (arith, nat_tests); low = grind (arith, nat_tests); high = grind (arith, nat_tests); up = grind (arith, nat_tests); index = grind (arith, nat_tests) }
