-- What `clap` makes of the words of the commands without values.
use Rattle.std.proofs.Common.{◌≡◌, ◌≤◌, ◌+◌, ◌⊎◌, ℕ, true, List, [], ◌∷◌, ◌++◌, Some, None, codes, inl, inr, refl, sym, subst, arith}
use Rattle.std.specs.Prelude.{Option}
use Rattle.std.proofs.lemmas.Bool.Decides.{nat_tests}
use Rattle.clap.proofs.OnLiterals.{clap_on_literals}
use Rattle.bz_script.specs.Number.{is_number}
use Rattle.bz_cli.specs.CommandLine.{Text}
use Rattle.bz_cli.specs.Inside.Parser.{Seen, IsReadAs}

-- the name, what was found of the limit on marks, and no values
abbrev pub seen_bare : Text → Option Text → Seen
seen_bare name marks = record { name = name; marks = marks; seed = None; calls = None; workers = None }

-- `clap` reads these words behind the name of each such command
pub record ReadsBehind (words : List Text) (marks : Option Text) : Type 0 where
  pub run : IsReadAs (codes "run" ∷ words) (seen_bare (codes "run") marks)
  pub dump : IsReadAs (codes "dump" ∷ words) (seen_bare (codes "dump") marks)
  pub load : IsReadAs (codes "load" ∷ words) (seen_bare (codes "load") marks)
  pub trace : IsReadAs (codes "trace" ∷ words) (seen_bare (codes "trace") marks)
  pub queue : IsReadAs (codes "queue" ∷ words) (seen_bare (codes "queue") marks)

-- the name alone
pub read_unsaid : ReadsBehind [] None
unfolding clap_on_literals
read_unsaid = record { run = record { taken = refl; found = refl }; dump = record { taken = refl; found = refl }; load = record { taken = refl; found = refl }; trace = record { taken = refl; found = refl }; queue = record { taken = refl; found = refl } }

-- the limit in one word
pub read_joined : (number : Text) → ReadsBehind ((codes "--marks=" ++ number) ∷ []) (Some number)
unfolding clap_on_literals
read_joined number = record { run = record { taken = refl; found = refl }; dump = record { taken = refl; found = refl }; load = record { taken = refl; found = refl }; trace = record { taken = refl; found = refl }; queue = record { taken = refl; found = refl } }

-- the limit in a word of its own
ReadsApart : Text → Type 0
ReadsApart number = ReadsBehind (codes "--marks" ∷ number ∷ []) (Some number)

-- `clap` looks whether such a word begins with a hyphen, and so at its first byte
apart_0 : (ds : Text) → ReadsApart (48 ∷ ds)
unfolding ReadsApart clap_on_literals
apart_0 ds = record { run = record { taken = refl; found = refl }; dump = record { taken = refl; found = refl }; load = record { taken = refl; found = refl }; trace = record { taken = refl; found = refl }; queue = record { taken = refl; found = refl } }

apart_1 : (ds : Text) → ReadsApart (49 ∷ ds)
unfolding ReadsApart clap_on_literals
apart_1 ds = record { run = record { taken = refl; found = refl }; dump = record { taken = refl; found = refl }; load = record { taken = refl; found = refl }; trace = record { taken = refl; found = refl }; queue = record { taken = refl; found = refl } }

apart_2 : (ds : Text) → ReadsApart (50 ∷ ds)
unfolding ReadsApart clap_on_literals
apart_2 ds = record { run = record { taken = refl; found = refl }; dump = record { taken = refl; found = refl }; load = record { taken = refl; found = refl }; trace = record { taken = refl; found = refl }; queue = record { taken = refl; found = refl } }

apart_3 : (ds : Text) → ReadsApart (51 ∷ ds)
unfolding ReadsApart clap_on_literals
apart_3 ds = record { run = record { taken = refl; found = refl }; dump = record { taken = refl; found = refl }; load = record { taken = refl; found = refl }; trace = record { taken = refl; found = refl }; queue = record { taken = refl; found = refl } }

apart_4 : (ds : Text) → ReadsApart (52 ∷ ds)
unfolding ReadsApart clap_on_literals
apart_4 ds = record { run = record { taken = refl; found = refl }; dump = record { taken = refl; found = refl }; load = record { taken = refl; found = refl }; trace = record { taken = refl; found = refl }; queue = record { taken = refl; found = refl } }

apart_5 : (ds : Text) → ReadsApart (53 ∷ ds)
unfolding ReadsApart clap_on_literals
apart_5 ds = record { run = record { taken = refl; found = refl }; dump = record { taken = refl; found = refl }; load = record { taken = refl; found = refl }; trace = record { taken = refl; found = refl }; queue = record { taken = refl; found = refl } }

apart_6 : (ds : Text) → ReadsApart (54 ∷ ds)
unfolding ReadsApart clap_on_literals
apart_6 ds = record { run = record { taken = refl; found = refl }; dump = record { taken = refl; found = refl }; load = record { taken = refl; found = refl }; trace = record { taken = refl; found = refl }; queue = record { taken = refl; found = refl } }

apart_7 : (ds : Text) → ReadsApart (55 ∷ ds)
unfolding ReadsApart clap_on_literals
apart_7 ds = record { run = record { taken = refl; found = refl }; dump = record { taken = refl; found = refl }; load = record { taken = refl; found = refl }; trace = record { taken = refl; found = refl }; queue = record { taken = refl; found = refl } }

apart_8 : (ds : Text) → ReadsApart (56 ∷ ds)
unfolding ReadsApart clap_on_literals
apart_8 ds = record { run = record { taken = refl; found = refl }; dump = record { taken = refl; found = refl }; load = record { taken = refl; found = refl }; trace = record { taken = refl; found = refl }; queue = record { taken = refl; found = refl } }

apart_9 : (ds : Text) → ReadsApart (57 ∷ ds)
unfolding ReadsApart clap_on_literals
apart_9 ds = record { run = record { taken = refl; found = refl }; dump = record { taken = refl; found = refl }; load = record { taken = refl; found = refl }; trace = record { taken = refl; found = refl }; queue = record { taken = refl; found = refl } }

-- a number is the least one, or greater
this_or_more : (low d : ℕ) → low ≤ d → (d ≡ low) ⊎ (low + 1 ≤ d)
this_or_more low d h = grind arith

at_digit : (low d : ℕ) (ds : Text) → ReadsApart (low ∷ ds) → d ≡ low → ReadsApart (d ∷ ds)
at_digit low d ds reads is = subst (λ n. ReadsApart (n ∷ ds)) (sym is) reads

apart_digit : (d : ℕ) (ds : Text) → 48 ≤ d → d ≤ 57 → ReadsApart (d ∷ ds)
apart_digit d ds low high = elim (this_or_more 48 d low) [ inl e ↦ at_digit 48 d ds (apart_0 ds) e | inr h ↦ from_1 h ]
  where
    from_9 : 57 ≤ d → ReadsApart (d ∷ ds)
    from_9 h = at_digit 57 d ds (apart_9 ds) (omega arith)

    from_8 : 56 ≤ d → ReadsApart (d ∷ ds)
    from_8 h = elim (this_or_more 56 d h) [ inl e ↦ at_digit 56 d ds (apart_8 ds) e | inr more ↦ from_9 more ]

    from_7 : 55 ≤ d → ReadsApart (d ∷ ds)
    from_7 h = elim (this_or_more 55 d h) [ inl e ↦ at_digit 55 d ds (apart_7 ds) e | inr more ↦ from_8 more ]

    from_6 : 54 ≤ d → ReadsApart (d ∷ ds)
    from_6 h = elim (this_or_more 54 d h) [ inl e ↦ at_digit 54 d ds (apart_6 ds) e | inr more ↦ from_7 more ]

    from_5 : 53 ≤ d → ReadsApart (d ∷ ds)
    from_5 h = elim (this_or_more 53 d h) [ inl e ↦ at_digit 53 d ds (apart_5 ds) e | inr more ↦ from_6 more ]

    from_4 : 52 ≤ d → ReadsApart (d ∷ ds)
    from_4 h = elim (this_or_more 52 d h) [ inl e ↦ at_digit 52 d ds (apart_4 ds) e | inr more ↦ from_5 more ]

    from_3 : 51 ≤ d → ReadsApart (d ∷ ds)
    from_3 h = elim (this_or_more 51 d h) [ inl e ↦ at_digit 51 d ds (apart_3 ds) e | inr more ↦ from_4 more ]

    from_2 : 50 ≤ d → ReadsApart (d ∷ ds)
    from_2 h = elim (this_or_more 50 d h) [ inl e ↦ at_digit 50 d ds (apart_2 ds) e | inr more ↦ from_3 more ]

    from_1 : 49 ≤ d → ReadsApart (d ∷ ds)
    from_1 h = elim (this_or_more 49 d h) [ inl e ↦ at_digit 49 d ds (apart_1 ds) e | inr more ↦ from_2 more ]

-- a number begins with a digit
first_digit : (d : ℕ) (ds : Text) → is_number (d ∷ ds) ≡ true → (48 ≤ d) × (d ≤ 57)
first_digit d ds is = grind (arith, nat_tests)

-- the limit in two words
pub read_apart : (number : Text) → is_number number ≡ true → ReadsBehind (codes "--marks" ∷ number ∷ []) (Some number)
unfolding ReadsApart
read_apart [] is = absurd cc
read_apart (d ∷ ds) is = apart_digit d ds (first_digit d ds is).0 (first_digit d ds is).1
