-- Two texts written one after the other.
use Rattle.std.proofs.Common.{◌≤◌, inl, inr, ℕ, List, ◌++◌, refl, sym, ap, ◌∙◌, arith, append_assoc}
use Rattle.std.specs.Prelude.{Option, Some, None}
use Rattle.std.proofs.lemmas.Grind.{common_steps}
use Rattle.std.specs.Io.KnownBytes.{Appends}
use Rattle.bz_io.specs.Faults.{Rose}
use Rattle.bz_io.specs.Transfers.{GrewByFront}
use Rattle.bz_top.specs.Parts.{sunk, Says}

appends_twice : (a b c : Option (List ℕ)) (xs ys : List ℕ) → Appends a b xs → Appends b c ys → Appends a c (xs ++ ys)
appends_twice None b c xs ys h k = tt
appends_twice (Some xs0) None c xs ys h k = absurd h
appends_twice (Some xs0) (Some bs) None xs ys h k = absurd k
appends_twice (Some xs0) (Some bs) (Some cs) xs ys h k = rw (k, h, append_assoc) refl

pub rose_later : (a b c : ℕ) → a ≤ b → Rose b c → Rose a c
rose_later a b c le rose = omega (arith, rose)

front_later : (a b c : Option (List ℕ)) (xs ys : List ℕ) → Appends a b xs → GrewByFront b c ys → GrewByFront a c (xs ++ ys)
front_later a b c xs ys h k = record {
  front = xs ++ k.front;
  back = k.back;
  whole = append_assoc xs k.front k.back ∙ ap (λ (zs : List ℕ). xs ++ zs) k.whole;
  some_back = k.some_back;
  grew = appends_twice a b c xs k.front h k.grew;
}

-- the second text is written behind the first
pub says_both : (a b c : Option (List ℕ)) (p q r status answer : ℕ) (xs ys : List ℕ) → Appends a b xs → p ≤ q → Says (sunk b c q r) status ys answer → Says (sunk a c p r) status (xs ++ ys) answer
says_both a b c p q r status answer xs ys h le (inl (is, wrote)) = inl (is, appends_twice a b c xs ys h wrote)
says_both a b c p q r status answer xs ys h le (inr (is, rose, part)) = inr (is, rose_later p q r le rose, front_later a b c xs ys h part)

-- a part of the first is a part of both
pub front_of_both : (a b : Option (List ℕ)) (xs ys : List ℕ) → GrewByFront a b xs → GrewByFront a b (xs ++ ys)
front_of_both a b xs ys k = record {
  front = k.front;
  back = k.back ++ ys;
  whole = sym (append_assoc k.front k.back ys) ∙ ap (λ (zs : List ℕ). zs ++ ys) k.whole;
  some_back = grind (arith, common_steps, k.some_back);
  grew = k.grew;
}
