-- The lines of a journal that is a world's.
use Rattle.std.proofs.Common.{◌≡◌, ◌≤◌, ◌++◌, ℕ, List, Option, refl, subst}
use Rattle.std.specs.Prelude.{codes, take}
use Rattle.std.specs.Io.KnownBytes.{Appends}
use Rattle.bz_io.specs.Transfers.{GrewByFront}
use Rattle.bz_layout.specs.declared.config.Config.{Config}
use Rattle.bz_lines.specs.Lines.{lines_of, text_of}
use Rattle.bz_mark.specs.Log.{Log}
use Rattle.bz_sched.specs.FromWorld.WorldView.{WorldView}
use Rattle.bz_traces.specs.Writes.{GrewByLines}
use Rattle.bz_cli.specs.declared.command.Command.TheVariants.{Trace}
use Rattle.bz_top.specs.Endings.{IsLeft}
use Rattle.bz_top.specs.Faults.{fault_line}
use Rattle.bz_top.specs.Parts.{sunk, Says}
use Rattle.bz_top.proofs.WriteLemmas.{says_both}

-- what is said of the lines of this configuration and this journal is said of the world's
same_lines : (P : List (List ℕ) → Type 0) (c config : Config) (log journal : Log) → config ≡ c → journal ≡ log → P (lines_of config journal) → P (lines_of c log)
same_lines P c config log journal is same h = subst (λ (d : Config). P (lines_of d log)) is (subst (λ (l : Log). P (lines_of config l)) same h)

pub lines_written : (held after : Option (List ℕ)) (c config : Config) (log journal : Log) → config ≡ c → journal ≡ log → Appends held after (text_of (lines_of config journal)) → Appends held after (text_of (lines_of c log))
lines_written held after c config log journal is same h = same_lines (λ lines. Appends held after (text_of lines)) c config log journal is same h

pub lines_begun : (held after : Option (List ℕ)) (c config : Config) (log journal : Log) → config ≡ c → journal ≡ log → GrewByFront held after (text_of (lines_of config journal)) → GrewByFront held after (text_of (lines_of c log))
lines_begun held after c config log journal is same h = same_lines (λ lines. GrewByFront held after (text_of lines)) c config log journal is same h

-- memory was wanting for a line: the fault line stands behind those before it
pub lines_left : (world : WorldView) (held mid after : Option (List ℕ)) (p q r answer : ℕ) (config : Config) (journal : Log) → config ≡ world.config → journal ≡ world.log
    → GrewByLines held mid (lines_of config journal) → p ≤ q → Says (sunk mid after q r) 7 (fault_line (codes "memory")) answer
    → (before : List ℕ) × IsLeft Trace world before × Says (sunk held after p r) 7 (before ++ fault_line (codes "memory")) answer
lines_left world held mid after p q r answer config journal is same grew later said =
    let whole : GrewByLines held mid (lines_of world.config world.log) = same_lines (λ lines. GrewByLines held mid lines) world.config config world.log journal is same grew in (
      text_of (take whole.count (lines_of world.config world.log)),
      (whole.count, refl),
      says_both held mid after p q r 7 answer (text_of (take whole.count (lines_of world.config world.log))) (fault_line (codes "memory")) whole.grew later said,
    )
