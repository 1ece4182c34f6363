use Rattle.std.proofs.Common.{◌∙◌, ap, ap₂, codes}
use Rattle.std.proofs.lemmas.Result.{IfOk-weaker}
use Rattle.clap.specs.Simple.{App, with_subcommand}
use Rattle.bz_cli.specs.CommandLine.{Text}
use Rattle.bz_cli.specs.Inside.Parser.{bare_app}
use Rattle.bz_cli.proofs.parser.parser.Goals as goal

-- a program with one command more, which has no values
and_bare : Text → App → App
and_bare name a = with_subcommand a (bare_app name).top

pub returns : goal.returns
unfolding and_bare
returns c =
    let first = c.in_ok-with_run.ensures ∙ ap (and_bare (codes "run")) c.program.ensures in
    let second = c.in_ok-with_dump.ensures ∙ ap (and_bare (codes "dump")) first in
    let third = c.in_ok-with_load.ensures ∙ ap (and_bare (codes "load")) second in
    let fourth = c.in_ok-with_trace.ensures ∙ ap (and_bare (codes "trace")) third in
    let fifth = c.in_ok-with_queue.ensures ∙ ap (and_bare (codes "queue")) fourth in
    IfOk-weaker c.subcommand.result _ _ (λ parser h. h.shape c.in_ok-work.ensures.local ∙ ap₂ with_subcommand fifth (ap (λ (a : App). a.top) c.in_ok-work.ensures.app)) c.subcommand.ensures
