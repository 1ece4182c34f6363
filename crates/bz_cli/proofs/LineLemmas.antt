-- What is known of words that are a command.
use Rattle.std.proofs.Common.{◌≡◌, ◌∙◌, ◌⊎◌, ℕ, Bool, true, false, List, [], ◌∷◌, ◌++◌, Some, None, codes, inl, inr, refl, ap, sym, subst, arith}
use Rattle.std.specs.Prelude.{Option}
use Rattle.std.proofs.lemmas.Grind.{common_steps}
use Rattle.std.proofs.lemmas.List.{append-nil}
use Rattle.bz_script.specs.Number.{number_of, within, is_number}
use Rattle.bz_cli.specs.declared.command.Command.{Command}
use Rattle.bz_cli.specs.declared.command.Command.TheVariants.{Run, Dump, Load, Trace, Queue, Work}
use Rattle.bz_cli.specs.declared.command.CommandLine.{CommandLine}
use Rattle.bz_cli.specs.CommandLine.{Text, Value, Writes, WriteAll, SaysMarks, LeavesMarks, IsCommandLine, name_of, values_of}
use Rattle.bz_cli.specs.Inside.Arrangement.{command_by, limit_of, values_found, Say, SayOnly, IsArranged}
use Rattle.bz_cli.specs.Inside.Parser.{Seen, IsReadAs}
use Rattle.bz_cli.proofs.PlainLemmas.{IsPlain, number_plain}
use Rattle.bz_cli.proofs.ReadLemmas.{seen_bare, read_unsaid, read_joined, read_apart}
use Rattle.bz_cli.proofs.WorkLemmas.{seen_work, read_values, joined_0, joined_1, joined_2, joined_3, apart_0, apart_1, apart_2, apart_3}

-- what `clap` makes of the words of a command, and what the program makes of that
pub record IsKnown (words : List Text) (line : CommandLine) : Type 0 where
  pub seen : Seen
  pub read : IsReadAs words seen
  pub command : command_by seen ≡ Some line.command
  pub limit : limit_of line.command seen.marks ≡ Some line.marks
  pub arranged : IsArranged words line.command seen

no_values : (words : List Text) → WriteAll words [] → words ≡ []
no_values [] all = refl
no_values (word ∷ words) all = absurd all

option_alone : (before option after : List Text) → before ++ after ≡ [] → before ++ (option ++ after) ≡ option
option_alone [] option [] e = grind (arith, common_steps)
option_alone [] option (word ∷ after) e = absurd cc
option_alone (word ∷ before) option after e = absurd cc

-- a word that writes a number has the form of one
writes_number : (word : Text) (v : Value) → Writes word v → is_number word ≡ true
writes_number word v writes = by (is_number word) refl
  where
    by : (b : Bool) → is_number word ≡ b → is_number word ≡ true
    by true e = e
    by false e = let none : within v.low v.high (number_of word) ≡ None = rw e refl in absurd cc

-- the limit on marks alone
alone : (option : List Text) (text : Option Text) → SayOnly option text → Say option [] text
alone option text h = record { before = []; option = option; after = []; are = sym (append-nil option); values_are = refl; say = h }

-- what is known of a command without values
record IsBare (command : Command) : Type 0 where
  none : values_of command ≡ []
  found : (text : Option Text) → command_by (seen_bare (name_of command) text) ≡ Some command
  values : (seen : Seen) → values_found command seen ≡ []
  unsaid : IsReadAs (name_of command ∷ []) (seen_bare (name_of command) None)
  joined : (number : Text) → IsReadAs (name_of command ∷ (codes "--marks=" ++ number) ∷ []) (seen_bare (name_of command) (Some number))
  apart : (number : Text) → is_number number ≡ true → IsReadAs (name_of command ∷ codes "--marks" ∷ number ∷ []) (seen_bare (name_of command) (Some number))

run_bare : IsBare Run
run_bare = record {
  none = refl;
  found = λ text. refl;
  values = λ seen. refl;
  unsaid = read_unsaid.run;
  joined = λ number. (read_joined number).run;
  apart = λ number is. (read_apart number is).run;
}

dump_bare : IsBare Dump
dump_bare = record {
  none = refl;
  found = λ text. refl;
  values = λ seen. refl;
  unsaid = read_unsaid.dump;
  joined = λ number. (read_joined number).dump;
  apart = λ number is. (read_apart number is).dump;
}

load_bare : IsBare Load
load_bare = record {
  none = refl;
  found = λ text. refl;
  values = λ seen. refl;
  unsaid = read_unsaid.load;
  joined = λ number. (read_joined number).load;
  apart = λ number is. (read_apart number is).load;
}

trace_bare : IsBare Trace
trace_bare = record {
  none = refl;
  found = λ text. refl;
  values = λ seen. refl;
  unsaid = read_unsaid.trace;
  joined = λ number. (read_joined number).trace;
  apart = λ number is. (read_apart number is).trace;
}

queue_bare : IsBare Queue
queue_bare = record {
  none = refl;
  found = λ text. refl;
  values = λ seen. refl;
  unsaid = read_unsaid.queue;
  joined = λ number. (read_joined number).queue;
  apart = λ number is. (read_apart number is).queue;
}

module _ (command : Command) (bare : IsBare command) (words option : List Text) (marks : ℕ) (are : words ≡ name_of command ∷ option) where
  bare-arranged : (text : Option Text) → SayOnly option text → IsArranged words command (seen_bare (name_of command) text)
  bare-arranged text h = record {
    rest = option;
    are = are;
    say = subst (λ (values : List Text). Say option values text) (sym (bare.values (seen_bare (name_of command) text))) (alone option text h);
  }

  words-are : (opt : List Text) → option ≡ opt → words ≡ name_of command ∷ opt
  words-are opt is = are ∙ ap (λ (o : List Text). name_of command ∷ o) is

  known_bare : SaysMarks option marks ⊎ LeavesMarks option command marks → IsKnown words (record { command = command; marks = marks })
  known_bare (inl says) = elim says.is_option [
    | inl is ↦ record {
      seen = seen_bare (name_of command) (Some says.word);
      read = rw (words-are _ is) (bare.apart says.word (writes_number says.word _ says.writes));
      command = bare.found (Some says.word);
      limit = says.writes;
      arranged = bare-arranged (Some says.word) (inl is);
    }
    | inr is ↦ record {
      seen = seen_bare (name_of command) (Some says.word);
      read = rw (words-are _ is) (bare.joined says.word);
      command = bare.found (Some says.word);
      limit = says.writes;
      arranged = bare-arranged (Some says.word) (inr is);
    }
  ]
  known_bare (inr leaves) = record {
    seen = seen_bare (name_of command) None;
    read = rw (words-are _ leaves.none) bare.unsaid;
    command = bare.found None;
    limit = ap Some (sym leaves.usual);
    arranged = bare-arranged None leaves.none;
  }

-- three values and no more
record Three (values : List Text) (u v w : Value) : Type 0 where
  a : Text
  b : Text
  c : Text
  are : values ≡ a ∷ b ∷ c ∷ []
  first : Writes a u
  second : Writes b v
  third : Writes c w

three : (values : List Text) (u v w : Value) → WriteAll values (u ∷ v ∷ w ∷ []) → Three values u v w
three [] u v w all = absurd all
three (a ∷ []) u v w all = absurd all.1
three (a ∷ b ∷ []) u v w all = absurd all.1.1
three (a ∷ b ∷ c ∷ []) u v w all = record { a = a; b = b; c = c; are = refl; first = all.0; second = all.1.0; third = all.1.1.0 }
three (a ∷ b ∷ c ∷ d ∷ rest) u v w all = absurd all.1.1.1

-- where three values are parted
Parted : (before after : List Text) (a b c : Text) → Type 0
Parted before after a b c =
    ((before ≡ []) × (after ≡ a ∷ b ∷ c ∷ []))
    ⊎ (((before ≡ a ∷ []) × (after ≡ b ∷ c ∷ []))
    ⊎ (((before ≡ a ∷ b ∷ []) × (after ≡ c ∷ []))
    ⊎ ((before ≡ a ∷ b ∷ c ∷ []) × (after ≡ []))))

parted : (before after : List Text) (a b c : Text) → before ++ after ≡ a ∷ b ∷ c ∷ [] → Parted before after a b c
unfolding Parted
parted [] after a b c e = inl (refl, e)
parted (x ∷ []) after a b c e = inr (inl (cc, cc))
parted (x ∷ y ∷ []) after a b c e = inr (inr (inl (cc, cc)))
parted (x ∷ y ∷ z ∷ []) after a b c e = inr (inr (inr (cc, cc)))
parted (x ∷ y ∷ z ∷ u ∷ rest) after a b c e = absurd cc

module _ (seed calls workers marks : ℕ) (words before option after : List Text) (are : words ≡ codes "work" ∷ (before ++ (option ++ after)))
    (h : Three (before ++ after) (record { number = seed; low = 0; high = 18446744073709551615 }) (record { number = calls; low = 1; high = 20000 }) (record { number = workers; low = 1; high = 64 })) where
  pa : IsPlain h.a
  pa = number_plain h.a (writes_number h.a _ h.first)

  pb : IsPlain h.b
  pb = number_plain h.b (writes_number h.b _ h.second)

  pc : IsPlain h.c
  pc = number_plain h.c (writes_number h.c _ h.third)

  -- the words, where the values are parted so
  put : (front opt back : List Text) → before ≡ front → option ≡ opt → after ≡ back → words ≡ codes "work" ∷ (front ++ (opt ++ back))
  put front opt back e f g = rw (e, f, g) at are

  joined : (n : Text) → option ≡ (codes "--marks=" ++ n) ∷ [] → IsReadAs words (seen_work (Some n) h.a h.b h.c)
  unfolding Parted
  joined n is = elim (parted before after h.a h.b h.c h.are) [
    | inl e ↦ rw (put _ _ _ e.0 is e.1) (joined_0 h.a h.b h.c pa pb pc n)
    | inr (inl e) ↦ rw (put _ _ _ e.0 is e.1) (joined_1 h.a h.b h.c pa pb pc n)
    | inr (inr (inl e)) ↦ rw (put _ _ _ e.0 is e.1) (joined_2 h.a h.b h.c pa pb pc n)
    | inr (inr (inr e)) ↦ rw (put _ _ _ e.0 is e.1) (joined_3 h.a h.b h.c pa pb pc n)
  ]

  apart : (n : Text) → IsPlain n → option ≡ codes "--marks" ∷ n ∷ [] → IsReadAs words (seen_work (Some n) h.a h.b h.c)
  unfolding Parted
  apart n pn is = elim (parted before after h.a h.b h.c h.are) [
    | inl e ↦ rw (put _ _ _ e.0 is e.1) (apart_0 h.a h.b h.c pa pb pc n pn)
    | inr (inl e) ↦ rw (put _ _ _ e.0 is e.1) (apart_1 h.a h.b h.c pa pb pc n pn)
    | inr (inr (inl e)) ↦ rw (put _ _ _ e.0 is e.1) (apart_2 h.a h.b h.c pa pb pc n pn)
    | inr (inr (inr e)) ↦ rw (put _ _ _ e.0 is e.1) (apart_3 h.a h.b h.c pa pb pc n pn)
  ]

  unsaid : option ≡ [] → IsReadAs words (seen_work None h.a h.b h.c)
  unsaid is =
      let all : words ≡ codes "work" ∷ h.a ∷ h.b ∷ h.c ∷ [] = rw is at are ∙ ap (λ (vs : List Text). codes "work" ∷ vs) h.are in
      rw all (read_values h.a h.b h.c pa pb pc)

  command : (text : Option Text) → command_by (seen_work text h.a h.b h.c) ≡ Some (Work seed calls workers)
  command text = rw (h.first, h.second, h.third) refl

  arranged : (text : Option Text) → SayOnly option text → IsArranged words (Work seed calls workers) (seen_work text h.a h.b h.c)
  arranged text say = record { rest = before ++ (option ++ after); are = are; say = record { before = before; option = option; after = after; are = refl; values_are = h.are; say = say } }

  known_work : SaysMarks option marks ⊎ LeavesMarks option (Work seed calls workers) marks → IsKnown words (record { command = Work seed calls workers; marks = marks })
  known_work (inl says) = elim says.is_option [
    | inl is ↦ record {
      seen = seen_work (Some says.word) h.a h.b h.c;
      read = apart says.word (number_plain says.word (writes_number says.word _ says.writes)) is;
      command = command (Some says.word);
      limit = says.writes;
      arranged = arranged (Some says.word) (inl is);
    }
    | inr is ↦ record {
      seen = seen_work (Some says.word) h.a h.b h.c;
      read = joined says.word is;
      command = command (Some says.word);
      limit = says.writes;
      arranged = arranged (Some says.word) (inr is);
    }
  ]
  known_work (inr leaves) = record {
    seen = seen_work None h.a h.b h.c;
    read = unsaid leaves.none;
    command = command None;
    limit = ap Some (sym leaves.usual);
    arranged = arranged None leaves.none;
  }

of_bare : (words : List Text) (command : Command) → IsBare command → (marks : ℕ) → IsCommandLine words (record { command = command; marks = marks }) → IsKnown words (record { command = command; marks = marks })
of_bare words command bare marks is =
    let none = no_values (is.before ++ is.after) (subst (WriteAll (is.before ++ is.after)) bare.none is.values) in
    known_bare command bare words is.option marks (is.are ∙ ap (λ (o : List Text). name_of command ∷ o) (option_alone is.before is.option is.after none)) is.limit

known : (words : List Text) (command : Command) (marks : ℕ) → IsCommandLine words (record { command = command; marks = marks }) → IsKnown words (record { command = command; marks = marks })
known words Run marks is = of_bare words Run run_bare marks is
known words Dump marks is = of_bare words Dump dump_bare marks is
known words Load marks is = of_bare words Load load_bare marks is
known words Trace marks is = of_bare words Trace trace_bare marks is
known words Queue marks is = of_bare words Queue queue_bare marks is
known words (Work seed calls workers) marks is =
    known_work seed calls workers marks words is.before is.option is.after is.are (three (is.before ++ is.after) _ _ _ is.values) is.limit

pub line_known : (words : List Text) (line : CommandLine) → IsCommandLine words line → IsKnown words line
line_known words line is = known words line.command line.marks is
