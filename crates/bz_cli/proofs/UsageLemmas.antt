-- What was found in the words is what they ask for.
use Rattle.std.proofs.Common.{◌≡◌, ◌∙◌, ℕ, Bool, true, false, ◌⊎◌, List, ◌∷◌, ◌++◌, Some, None, Result, Err, codes, inl, inr, refl, ap₂, sym, subst}
use Rattle.std.specs.Prelude.{Option, if◌then◌else◌}
use Rattle.std.specs.Str.{bytes_eq}
use Rattle.std.proofs.lemmas.Slice.Eq.{bytes_eq-Decides}
use Rattle.clap.specs.Simple.{subcommand_of}
use Rattle.bz_script.specs.Number.{number_of, within}
use Rattle.bz_cli.specs.declared.command.Command.{Command}
use Rattle.bz_cli.specs.declared.command.Command.TheVariants.{Run, Dump, Load, Trace, Queue}
use Rattle.bz_cli.specs.declared.command.CommandLine.{CommandLine}
use Rattle.bz_cli.specs.CommandLine.{Text, WriteAll, SaysMarks, LeavesMarks, IsCommandLine, name_of, values_of}
use Rattle.bz_cli.specs.Inside.Arrangement.{number_in, workload_by, command_by, limit_of, values_found, SayOnly, IsArranged}
use Rattle.bz_cli.specs.Inside.Parser.{bz_app, Seen, seen_in}
use Rattle.bz_cli.proofs.LineLemmas.{IsKnown, line_known}

pub same_error : {T E : Type 0} (a b : E) → ◌≡◌ {A = Result T E} (Err a) (Err b) → a ≡ b
same_error a b e = cc

some_injective : {A : Type 0} (a b : A) → Some a ≡ Some b → a ≡ b
some_injective a b e = cc

-- the words are a command, and this was found in them
module _ (words : List Text) (seen : Seen) (found : seen_in (subcommand_of bz_app words) ≡ Some seen) (line : CommandLine) (is : IsCommandLine words line) where
  known : IsKnown words line
  known = line_known words line is

  same : known.seen ≡ seen
  same = some_injective _ _ (sym known.read.found ∙ found)

  pub command-known : command_by seen ≡ Some line.command
  command-known = subst (λ (s : Seen). command_by s ≡ Some line.command) same known.command

  pub limit-known : (command : Command) → command_by seen ≡ Some command → limit_of command seen.marks ≡ Some line.marks
  limit-known command is_command =
      let one : line.command ≡ command = some_injective _ _ (sym command-known ∙ is_command) in
      subst (λ (d : Command). limit_of d seen.marks ≡ Some line.marks) one (subst (λ (s : Seen). limit_of line.command s.marks ≡ Some line.marks) same known.limit)

  pub arranged-known : (command : Command) → command_by seen ≡ Some command → IsArranged words command seen
  arranged-known command is_command =
      let one : line.command ≡ command = some_injective _ _ (sym command-known ∙ is_command) in
      subst (λ (d : Command). IsArranged words d seen) one (subst (λ (s : Seen). IsArranged words line.command s) same known.arranged)

-- a command that was found has its name, and its values are written
record IsNamed (seen : Seen) (command : Command) : Type 0 where
  name : seen.name ≡ name_of command
  values : WriteAll (values_found command seen) (values_of command)

named_work : (name : Text) (marks seed calls workers : Option Text) (command : Command) → name ≡ codes "work"
    → workload_by (number_in 0 18446744073709551615 seed) (number_in 1 20000 calls) (number_in 1 64 workers) ≡ Some command
    → IsNamed (record { name = name; marks = marks; seed = seed; calls = calls; workers = workers }) command
named_work name marks None calls workers command e is = absurd cc
named_work name marks (Some a) None workers command e is = by (within 0 18446744073709551615 (number_of a)) is
  where
    by : (n : Option ℕ) → workload_by n None (number_in 1 64 workers) ≡ Some command → IsNamed (record { name = name; marks = marks; seed = Some a; calls = None; workers = workers }) command
    by None e = absurd cc
    by (Some n) e = absurd cc
named_work name marks (Some a) (Some b) None command e is = by (within 0 18446744073709551615 (number_of a)) (within 1 20000 (number_of b)) is
  where
    by : (n m : Option ℕ) → workload_by n m None ≡ Some command → IsNamed (record { name = name; marks = marks; seed = Some a; calls = Some b; workers = None }) command
    by None m e = absurd cc
    by (Some n) None e = absurd cc
    by (Some n) (Some m) e = absurd cc
named_work name marks (Some a) (Some b) (Some c) command e is = by (within 0 18446744073709551615 (number_of a)) (within 1 20000 (number_of b)) (within 1 64 (number_of c)) refl refl refl is
  where
    by : (n m k : Option ℕ) → within 0 18446744073709551615 (number_of a) ≡ n → within 1 20000 (number_of b) ≡ m → within 1 64 (number_of c) ≡ k → workload_by n m k ≡ Some command
        → IsNamed (record { name = name; marks = marks; seed = Some a; calls = Some b; workers = Some c }) command
    by None m k f g h is = absurd cc
    by (Some n) None k f g h is = absurd cc
    by (Some n) (Some m) None f g h is = absurd cc
    by (Some n) (Some m) (Some k) f g h is =
        subst (λ (d : Command). IsNamed (record { name = name; marks = marks; seed = Some a; calls = Some b; workers = Some c }) d) (some_injective _ _ is)
        (record { name = e; values = (f, (g, (h, tt))) })

named_by : (seen : Seen) (command : Command) → command_by seen ≡ Some command → IsNamed seen command
named_by seen command is =
    by (bytes_eq seen.name (codes "run")) (bytes_eq seen.name (codes "dump")) (bytes_eq seen.name (codes "load")) (bytes_eq seen.name (codes "trace")) (bytes_eq seen.name (codes "queue")) (bytes_eq seen.name (codes "work")) refl refl refl refl refl refl is
  where
    by : (r d l t q w : Bool) → bytes_eq seen.name (codes "run") ≡ r → bytes_eq seen.name (codes "dump") ≡ d → bytes_eq seen.name (codes "load") ≡ l → bytes_eq seen.name (codes "trace") ≡ t → bytes_eq seen.name (codes "queue") ≡ q → bytes_eq seen.name (codes "work") ≡ w
        → (if r then Some Run else if d then Some Dump else if l then Some Load else if t then Some Trace else if q then Some Queue else if w then workload_by (number_in 0 18446744073709551615 seen.seed) (number_in 1 20000 seen.calls) (number_in 1 64 seen.workers) else None) ≡ Some command → IsNamed seen command
    by true d l t q w is_run is_dump is_load is_trace is_queue is_work is = subst (λ (c : Command). IsNamed seen c) (some_injective _ _ is) (record { name = (bytes_eq-Decides seen.name (codes "run")).0 is_run; values = tt })
    by false true l t q w is_run is_dump is_load is_trace is_queue is_work is = subst (λ (c : Command). IsNamed seen c) (some_injective _ _ is) (record { name = (bytes_eq-Decides seen.name (codes "dump")).0 is_dump; values = tt })
    by false false true t q w is_run is_dump is_load is_trace is_queue is_work is = subst (λ (c : Command). IsNamed seen c) (some_injective _ _ is) (record { name = (bytes_eq-Decides seen.name (codes "load")).0 is_load; values = tt })
    by false false false true q w is_run is_dump is_load is_trace is_queue is_work is = subst (λ (c : Command). IsNamed seen c) (some_injective _ _ is) (record { name = (bytes_eq-Decides seen.name (codes "trace")).0 is_trace; values = tt })
    by false false false false true w is_run is_dump is_load is_trace is_queue is_work is = subst (λ (c : Command). IsNamed seen c) (some_injective _ _ is) (record { name = (bytes_eq-Decides seen.name (codes "queue")).0 is_queue; values = tt })
    by false false false false false true is_run is_dump is_load is_trace is_queue is_work is = named_work seen.name seen.marks seen.seed seen.calls seen.workers command ((bytes_eq-Decides seen.name (codes "work")).0 is_work) is
    by false false false false false false is_run is_dump is_load is_trace is_queue is_work is = absurd cc

-- the words are the command that was found in them
pub line_found : (words : List Text) (seen : Seen) (command : Command) (number : ℕ) → IsArranged words command seen → command_by seen ≡ Some command → limit_of command seen.marks ≡ Some number
    → IsCommandLine words (record { command = command; marks = number })
line_found words seen command number is found limit =
    let named = named_by seen command found in
    let are : words ≡ name_of command ∷ (is.say.before ++ (is.say.option ++ is.say.after)) = is.are ∙ ap₂ (λ (n : Text) (r : List Text). n ∷ r) named.name is.say.are in
    record {
      before = is.say.before;
      option = is.say.option;
      after = is.say.after;
      are = are;
      values = subst (λ (vs : List Text). WriteAll vs (values_of command)) (sym is.say.values_are) named.values;
      limit = by seen.marks is.say.say limit;
    }
  where
    by : (text : Option Text) → SayOnly is.say.option text → limit_of command text ≡ Some number → SaysMarks is.say.option number ⊎ LeavesMarks is.say.option command number
    by None say limit = inr (record { none = say; usual = sym (some_injective _ _ limit) })
    by (Some text) say limit = inl (record { word = text; writes = limit; is_option = say })

-- words that are one command line are no other
pub one_line : (words : List Text) (one other : CommandLine) → IsCommandLine words one → IsCommandLine words other → one ≡ other
one_line words one other is is' =
    let known = line_known words one is in
    let command : one.command ≡ other.command = some_injective _ _ (sym known.command ∙ command-known words known.seen known.read.found other is') in
    let marks = sym known.limit ∙ limit-known words known.seen known.read.found other is' one.command known.command in
    ap₂ (λ (c : Command) (m : ℕ). record { command = c; marks = m }) command (some_injective _ _ marks)
