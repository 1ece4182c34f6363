use Rattle.std.proofs.Common.{◌∙◌, ap}
use Rattle.std.proofs.lemmas.Result.{IfOk-weaker}
use Rattle.clap.specs.Simple.{App, with_subcommand}
use Rattle.clap.specs.Words.{app_of}
use Rattle.bz_cli.proofs.parser.with_bare.Goals as goal

pub returns : goal.returns
returns c = IfOk-weaker c.subcommand.result _ _ (λ made h. h.shape c.in_ok-bare.ensures.local ∙ ap (with_subcommand (app_of c.args.program)) (ap (λ (a : App). a.top) c.in_ok-bare.ensures.app)) c.subcommand.ensures
