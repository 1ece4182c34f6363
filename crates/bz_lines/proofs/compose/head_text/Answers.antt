use Rattle.std.proofs.Common.{ap, ◌∙◌}
use Rattle.serde_json.specs.Written.{has_float}
use Rattle.bz_lines.proofs.FloatLemmas.{head_whole}
use Rattle.bz_lines.proofs.compose.head_text.Goals as goal

pub plain_text-requires : goal.plain_text-requires
plain_text-requires c = ap has_float c.in_ok-object.ensures ∙ head_whole c.args.config.now c.args.start.now
