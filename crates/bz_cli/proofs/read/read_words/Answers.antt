use Rattle.std.proofs.Common.{◌≡◌, ◌∙◌, true, false, Err, rules, sym, ap}
use Rattle.bz_cli.proofs.UsageLemmas.{command-known, arranged-known, limit-known, line_found, same_error}
use Rattle.bz_cli.proofs.LineLemmas.{line_known}
use Rattle.bz_cli.proofs.read.read_words.Goals as goal

pub returns-in_default-clause-usage : goal.returns-in_default-clause-usage
returns-in_default-clause-usage c e line is =
    c.in_default.not-Some line.command (c.command_found.ensures.command ∙ command-known _ _ c.in-Ok.ensures.found line is)

pub returns-in_default-limit-clause-usage : goal.returns-in_default-limit-clause-usage
returns-in_default-limit-clause-usage c e line is =
    c.in_default-limit.not-Some line.marks (c.limit.ensures.limit ∙ limit-known _ _ c.in-Ok.ensures.found line is c.in-Some.command (sym c.command_found.ensures.command ∙ c.in-Some.is))

pub returns-then-not-is_arranged-clause-usage : goal.returns-then-not-is_arranged-clause-usage
returns-then-not-is_arranged-clause-usage c e line is =
    let bad : false ≡ true = rw c.if-not-is_arranged.true at (c.is_arranged.ensures.1 (arranged-known _ _ c.in-Ok.ensures.found line is c.in-Some.command (sym c.command_found.ensures.command ∙ c.in-Some.is))) in
    cc

pub returns-clause-command : goal.returns-clause-command
returns-clause-command c =
    line_found _ _ c.in-Some.command c.in-Some-limit.marks (c.is_arranged.ensures.0 (search rules)) (sym c.command_found.ensures.command ∙ c.in-Some.is) (sym c.limit.ensures.limit ∙ c.in-Some-limit.is)

pub returns-in-Err-clause-usage : goal.returns-in-Err-clause-usage
returns-in-Err-clause-usage c e line is = let known = line_known _ line is in c.in-Err.ensures.usage (ap Err (same_error _ _ e)) known.seen known.read
